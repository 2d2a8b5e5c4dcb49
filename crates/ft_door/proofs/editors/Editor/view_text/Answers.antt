use Rattle.ft_door.proofs.Editing.{editor-as}
use Rattle.ft_door.proofs.editors.Editor.view_text.Goals as goal

pub returns : goal.returns
returns g c = λ x h. c.view_text.ensures x (editor-as c.self.inside.parts c.args.self.now x c.self.view_is h)
