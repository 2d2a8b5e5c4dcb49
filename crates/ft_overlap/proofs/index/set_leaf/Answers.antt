use Rattle.std.proofs.Common.{◌≡◌, cond, Some, None, ap, sym, ◌∙◌}
use Rattle.std.specs.Prelude.{is_some}
use Rattle.std.specs.BTreeMap as tree_map
use Rattle.std.specs.Ordering.{is_eq, nat_cmp}
use Rattle.ft_overlap.specs.declared.index.Keyed.{Keyed}
use Rattle.ft_overlap.proofs.index.set_leaf.Goals as goal

pub returns-in-Some : goal.returns-in-Some
returns-in-Some c = λ v e j.
    let w : Keyed = record c.in-Some.keyed.now { leaf = c.args.leaf } in
    let some : Some c.in-Some.keyed.now ≡ Some v = c.in-Some.ensures.value ∙ e in
    let same : c.in-Some.keyed.now ≡ v = cc some in
    ((c.get_mut.follows.holds w).3 (ap is_some (sym c.in-Some.ensures.value))).0 j
    ∙ ap (λ (x : Keyed). cond (is_eq (nat_cmp c.args.key j)) (Some (record x { leaf = c.args.leaf })) (tree_map.get nat_cmp c.args.by_key.now j))
    same

pub returns-in_default : goal.returns-in_default
returns-in_default c = λ v e. absurd (let n : None ≡ Some v = c.in_default.ensures.value ∙ e in cc n)
