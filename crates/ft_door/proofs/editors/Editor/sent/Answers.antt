use Rattle.std.proofs.Common.{drop}
use Rattle.ft_door.specs.Editors.{with_queue}
use Rattle.ft_door.proofs.Editing.{editor-as}
use Rattle.ft_door.proofs.editors.Editor.sent.Goals as goal

pub invariant_of-self : goal.invariant_of-self
invariant_of-self g c =
    let (x, h) = c.self.invariant in
    (with_queue (drop 1 x.client.queue) x, c.sent.ensures x h)

pub returns : goal.returns
returns g c = λ x h. c.sent.ensures x (editor-as c.self.inside.parts c.args.self.now x c.self.view_is h)
