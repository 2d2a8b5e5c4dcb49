use Rattle.ft_door.specs.Editors.{listening}
use Rattle.ft_door.proofs.Editing.{anew-some, editor-as}
use Rattle.ft_door.proofs.editors.Editor.tell.Goals as goal

pub invariant_of-self : goal.invariant_of-self
invariant_of-self g c =
    anew-some (listening c.args.listens) c.self.inside.parts c.tell.new.self c.tell.result c.tell.ensures.ok c.tell.ensures.err c.self.invariant

pub returns-clause-ok : goal.returns-clause-ok
returns-clause-ok g c = λ x h. c.tell.ensures.ok x (editor-as c.self.inside.parts c.args.self.now x c.self.view_is h)
