use Rattle.ft_door.specs.Editors.{informed}
use Rattle.ft_door.proofs.Editing.{editor-as}
use Rattle.ft_door.proofs.editors.Editor.informed.Goals as goal

pub invariant_of-self : goal.invariant_of-self
invariant_of-self g c =
    let (x, h) = c.self.invariant in
    (informed x, c.informed.ensures.editor x h)

pub returns-clause-editor : goal.returns-clause-editor
returns-clause-editor g c = λ x h. c.informed.ensures.editor x (editor-as c.self.inside.parts c.args.self.now x c.self.view_is h)
