use Rattle.std.proofs.Common.{refl, subst, nat_lt}
use Rattle.ft_perm.specs.Handles.{in_run}
use Rattle.ft_perm.specs.Vectors.{IsProper, VectorState, times_held}
use Rattle.ft_perm.proofs.ProperVectors.{proper-taken, used-taken}
use Rattle.ft_perm.proofs.vectors.Vector.alloc_run.Goals as goal

pub returns-in-Some-clause-proper : goal.returns-in-Some-clause-proper
returns-in-Some-clause-proper c =
    let old : VectorState = record { tree = c.self.inside.tree; next = c.self.inside.next; free = c.self.inside.free.items } in
    let new : VectorState = record { tree = c.self.inside.tree; next = c.self.inside.next; free = c.take_front.new.free.items } in
    let kept : IsProper old → IsProper new =
    proper-taken old new refl
    (λ h. used-taken (nat_lt h c.self.inside.next) (in_run h c.take_front.result) (times_held h c.self.inside.free.items) (times_held h c.take_front.new.free.items)
    (c.take_front.ensures.taken h)) in
    subst (λ (v : VectorState). IsProper v → IsProper new) c.self.view_is kept
