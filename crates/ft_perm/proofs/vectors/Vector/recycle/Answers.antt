use Rattle.std.proofs.Common.{◌≡◌, All, refl, subst, false, nat_lt}
use Rattle.std.proofs.lemmas.Result.{on_ok_weaker}
use Rattle.ft_perm.specs.Handles.{in_run}
use Rattle.ft_perm.specs.Vectors.{IsProper, VectorState, times_held, vector_elements}
use Rattle.ft_perm.proofs.ProperVectors.{proper-given, used-given}
use Rattle.ft_perm.proofs.vectors.Vector.recycle.Goals as goal

pub returns-clause-proper : goal.returns-clause-proper
returns-clause-proper c =
    on_ok_weaker c.give_back.result (λ held.
    let old : VectorState = record { tree = c.self.inside.tree; next = c.self.inside.next; free = c.self.inside.free.items } in
    let new : VectorState = record { tree = c.self.inside.tree; next = c.self.inside.next; free = c.give_back.new.free.items } in
    let kept : All (λ e. in_run e.unit c.args.run ≡ false) (vector_elements old.tree) → IsProper old → IsProper new =
    λ apart was. proper-given old new c.args.run refl
    (λ h. used-given (nat_lt h c.self.inside.next) (in_run h c.args.run) (times_held h c.self.inside.free.items) (times_held h c.give_back.new.free.items) (held h)) apart was
    in subst (λ (v : VectorState). All (λ e. in_run e.unit c.args.run ≡ false) (vector_elements v.tree) → IsProper v → IsProper new) c.self.view_is kept)
    c.give_back.ensures.ok
