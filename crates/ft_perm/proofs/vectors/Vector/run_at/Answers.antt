use Rattle.std.proofs.Common.{◌≡◌, ◌+◌, ◌-◌, ◌≤◌, None, sym, ◌∙◌, ap, arith, length, subst}
use Rattle.ft_block.specs.Leaves.{place_from}
use Rattle.ft_tree_leaves.specs.LeafLists.{leaf_length}
use Rattle.ft_perm.specs.Handles.{HandleRun, handles_of, rear_run}
use Rattle.ft_perm.specs.Vectors.{RunStandsAt, VectorState, seen_handles}
use Rattle.ft_perm.proofs.SeenRuns.{finds_leaf, finds_none, finds_run-asked, found_run, length-shown_runs, place_past, shown_runs}
use Rattle.ft_perm.proofs.vectors.Vector.run_at.Goals as goal

pub returns-in_err-checked_add-clause-none : goal.returns-in_err-checked_add-clause-none
returns-in_err-checked_add-clause-none c =
    let seen = ap (λ (v : VectorState). length (seen_handles c.args.view v.tree)) c.self.view_is in
    let few = c.first_leaf.ensures.few in
    let shorter = length-shown_runs c.args.view c.self.inside.tree.leaves in
    let past : 18446744073709551616 ≤ c.args.p + 1 = omega (arith, c.in_err-checked_add.ensures) in
    rw c.from_residual.ensures (omega (arith, seen, few, shorter, past))

pub returns-in_err-found-clause-none : goal.returns-in_err-found-clause-none
returns-in_err-found-clause-none c =
    let leaves = c.self.inside.tree.leaves in
    let q = c.in_ok-checked_add.field-0 in
    let none : place_from (leaf_length handles_of c.args.view) leaves q ≡ None =
    sym (place_past c.args.view leaves c.args.p q c.in_ok-checked_add.ensures.1) ∙ sym c.find.ensures ∙ c.in_err-found.was in
    rw c.from_residual-in_err-found.ensures
    (rw (ap (λ (v : VectorState). length (seen_handles c.args.view v.tree)) (sym c.self.view_is))
    (finds_none c.args.view leaves c.args.p q (omega (arith, c.in_ok-checked_add.ensures.1)) none))

pub returns-in_err-leaf-clause-none : goal.returns-in_err-leaf-clause-none
returns-in_err-leaf-clause-none c =
    let leaves = c.self.inside.tree.leaves in
    let q = c.in_ok-checked_add.field-0 in
    absurd (finds_leaf c.args.view leaves q c.in_ok-found.found (sym
    (place_past c.args.view leaves c.args.p q c.in_ok-checked_add.ensures.1) ∙ sym c.find.ensures ∙ c.in_ok-found.was)
    c.in_err-leaf.was)

pub leaf_content-run-requires-clause-live : goal.leaf_content-run-requires-clause-live
leaf_content-run-requires-clause-live c =
    let found = finds_run-asked c.args.view c.self.inside.tree.leaves c.args.p c.in_ok-checked_add.field-0 c.find.result c.in_ok-found.found c.in_ok-leaf.leaf
    c.in_ok-checked_add.ensures.1 c.first_leaf.ensures.once c.find.ensures c.in_ok-found.was c.in_ok-leaf.was in
    found.live

pub overflow_sub-before : goal.overflow_sub-before
overflow_sub-before c =
    let found = finds_run-asked c.args.view c.self.inside.tree.leaves c.args.p c.in_ok-checked_add.field-0 c.find.result c.in_ok-found.found c.in_ok-leaf.leaf
    c.in_ok-checked_add.ensures.1 c.first_leaf.ensures.once c.find.ensures c.in_ok-found.was c.in_ok-leaf.was in
    found.low

pub overflow_add-result : goal.overflow_add-result
overflow_add-result c =
    let found = finds_run-asked c.args.view c.self.inside.tree.leaves c.args.p c.in_ok-checked_add.field-0 c.find.result c.in_ok-found.found c.in_ok-leaf.leaf
    c.in_ok-checked_add.ensures.1 c.first_leaf.ensures.once c.find.ensures c.in_ok-found.was c.in_ok-leaf.was in
    let run = found_run c.args.view c.self.inside.tree.leaves c.args.p c.in_ok-leaf.leaf c.in_ok-found.found.offset c.leaf_content-run.result.now found
    c.leaf_content-run.ensures in
    let count = ap (λ (r : HandleRun). r.count) c.run.view_is in
    omega (arith, run.0, count, c.run.invariant.1)

pub overflow_sub-result : goal.overflow_sub-result
overflow_sub-result c =
    let found = finds_run-asked c.args.view c.self.inside.tree.leaves c.args.p c.in_ok-checked_add.field-0 c.find.result c.in_ok-found.found c.in_ok-leaf.leaf
    c.in_ok-checked_add.ensures.1 c.first_leaf.ensures.once c.find.ensures c.in_ok-found.was c.in_ok-leaf.was in
    let run = found_run c.args.view c.self.inside.tree.leaves c.args.p c.in_ok-leaf.leaf c.in_ok-found.found.offset c.leaf_content-run.result.now found
    c.leaf_content-run.ensures in
    let count = ap (λ (r : HandleRun). r.count) c.run.view_is in
    omega (arith, run.0, count)

pub invariant_of-result : goal.invariant_of-result
invariant_of-result c =
    let found = finds_run-asked c.args.view c.self.inside.tree.leaves c.args.p c.in_ok-checked_add.field-0 c.find.result c.in_ok-found.found c.in_ok-leaf.leaf
    c.in_ok-checked_add.ensures.1 c.first_leaf.ensures.once c.find.ensures c.in_ok-found.was c.in_ok-leaf.was in
    let run = found_run c.args.view c.self.inside.tree.leaves c.args.p c.in_ok-leaf.leaf c.in_ok-found.found.offset c.leaf_content-run.result.now found
    c.leaf_content-run.ensures in
    let count = ap (λ (r : HandleRun). r.count) c.run.view_is in
    (omega (arith, run.0, count, found.low), omega (arith, run.0, count, c.run.invariant.1))

pub returns-clause-run : goal.returns-clause-run
returns-clause-run c =
    let found = finds_run-asked c.args.view c.self.inside.tree.leaves c.args.p c.in_ok-checked_add.field-0 c.find.result c.in_ok-found.found c.in_ok-leaf.leaf
    c.in_ok-checked_add.ensures.1 c.first_leaf.ensures.once c.find.ensures c.in_ok-found.was c.in_ok-leaf.was in
    let run = found_run c.args.view c.self.inside.tree.leaves c.args.p c.in_ok-leaf.leaf c.in_ok-found.found.offset c.leaf_content-run.result.now found
    c.leaf_content-run.ensures in
    let count = ap (λ (r : HandleRun). r.count) c.run.view_is in
    let offset = c.in_ok-found.found.offset in
    let here = subst (λ (r : HandleRun). RunStandsAt c.args.p (rear_run r (offset - 1)) (shown_runs c.args.view c.self.inside.tree.leaves)) (sym c.run.view_is) run.1 in
    subst (λ (v : VectorState). RunStandsAt c.args.p (let r : HandleRun = record { first = c.run.inside.first + (offset - 1); count = c.run.inside.count - (offset - 1) } in r)
    (seen_handles c.args.view v.tree)) c.self.view_is here

pub returns-clause-few : goal.returns-clause-few
returns-clause-few c =
    let seen = ap (λ (v : VectorState). length (seen_handles c.args.view v.tree)) c.self.view_is in
    omega (arith, seen, c.first_leaf.ensures.few, length-shown_runs c.args.view c.self.inside.tree.leaves)
