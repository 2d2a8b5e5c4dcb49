use Rattle.std.proofs.Common.{◌+◌, ◌*◌, ◌≤◌, ℕ, ℤ, List, length, rules, to_z, of_z, w64, sym, ◌∙◌, subst}
use Rattle.std.proofs.lemmas.Int.{to_z-of_z}
use Rattle.std.proofs.lemmas.Result.{IfOk-weaker}
use Rattle.ft_tree_leaves.specs.References.{reference_place}
use Rattle.ft_interval_index.specs.Indexes.{IsRange}
use Rattle.ft_interval_store.specs.Shown.{shown_end, shown_place, last}
use Rattle.ft_interval_store.specs.State.{text_elements}
use Rattle.ft_interval_index.proofs.RangeKeys.{keys-same, number-greatest, number-least}
use Rattle.ft_interval_index.proofs.indexes.found_keys.Goals as goal

pub returns-clause-keys : goal.returns-clause-keys
returns-clause-keys g c =
    let xs = text_elements c.args.tree.now in
    let refs = c.args.tree.now.refs in
    let low = c.range_of-range.result.low in
    let high = c.range_of-range.result.high in
    let range : IsRange c.args.a c.args.b (to_z w64 (of_z w64 low)) (to_z w64 (of_z w64 high)) =
    subst (λ (z : ℤ). IsRange c.args.a c.args.b z (to_z w64 (of_z w64 high))) (sym (to_z-of_z w64 low (search rules)))
    (subst (λ (z : ℤ). IsRange c.args.a c.args.b low z) (sym (to_z-of_z w64 high (search rules))) c.range_of-range.ensures) in
    let same = keys-same (shown_place xs refs) c.args.a c.args.b (to_z w64 (of_z w64 low)) (to_z w64 (of_z w64 high)) range
    (λ k. number-least xs last (shown_end xs (reference_place refs k))) (λ k. number-greatest xs last (shown_end xs (reference_place refs k)))
    c.args.index.now.items in
    IfOk-weaker c.query.result _ _ (λ keys h. h ∙ same) c.query.ensures.keys

pub returns-clause-cost : goal.returns-clause-cost
returns-clause-cost g c =
    let xs = text_elements c.args.tree.now in
    let refs = c.args.tree.now.refs in
    let low = c.range_of-range.result.low in
    let high = c.range_of-range.result.high in
    let range : IsRange c.args.a c.args.b (to_z w64 (of_z w64 low)) (to_z w64 (of_z w64 high)) =
    subst (λ (z : ℤ). IsRange c.args.a c.args.b z (to_z w64 (of_z w64 high))) (sym (to_z-of_z w64 low (search rules)))
    (subst (λ (z : ℤ). IsRange c.args.a c.args.b low z) (sym (to_z-of_z w64 high (search rules))) c.range_of-range.ensures) in
    let same = keys-same (shown_place xs refs) c.args.a c.args.b (to_z w64 (of_z w64 low)) (to_z w64 (of_z w64 high)) range
    (λ k. number-least xs last (shown_end xs (reference_place refs k))) (λ k. number-greatest xs last (shown_end xs (reference_place refs k)))
    c.args.index.now.items in
    subst (λ (ks : List ℕ). c.query.new.steps ≤ c.args.steps.now + 9 * (c.args.index.now.depth + 1) * (length ks + 1)) same c.query.ensures.cost
