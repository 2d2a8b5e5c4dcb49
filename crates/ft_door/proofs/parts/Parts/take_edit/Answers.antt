use Rattle.std.proofs.Common.{◌+◌, ◌<◌, subst}
use Rattle.ft_seqr.specs.World.{op_load}
use Rattle.ft_door.specs.Editors.{EditorState, load_limit}
use Rattle.ft_door.proofs.Editing.{edit-full}
use Rattle.ft_door.proofs.parts.Parts.take_edit.Goals as goal

pub returns-in_default : goal.returns-in_default
returns-in_default g c =
    let above = subst (λ more. load_limit < c.self.inside.load + (1 + more)) c.in_ok-op_load.ensures c.in_default.ensures.none in
    edit-full c.args.self.now c.args.op.now (subst (λ (s : EditorState). load_limit < s.load + (1 + op_load c.args.op.now)) c.self.view_is above)
