use Rattle.std.proofs.Common.{◌≡◌, ◌+◌, ◌-◌, drop, false, filter, length, ap, subst, sym, ◌∙◌, arith}
use Rattle.std.proofs.lemmas.Bool.{and_from, and_left, and_right}
use Rattle.ft_base.specs.Scan.{len}
use Rattle.ft_base.specs.Visibility.{seen_at}
use Rattle.ft_block.specs.declared.leaves.LenView.TheVariants.{Stage}
use Rattle.ft_block.specs.Leaves.{left_of}
use Rattle.ft_tree_leaves.specs.Edits.{is_touched_by}
use Rattle.ft_tree_leaves.specs.Elements.{seen_in}
use Rattle.ft_tree_leaves.specs.LeafLists.{elements}
use Rattle.ft_rebase.specs.MarkedRuns.{RunsRise, continued}
use Rattle.ft_rebase.specs.Pieces.{has_mark, leaf_has_mark}
use Rattle.ft_rebase.proofs.ListedLeaves.{drop_listed, listed_at, mapped_value}
use Rattle.ft_rebase.proofs.ListedRuns.{adds_run, listed_runs, none_added, run_added, run_within, runs-listed}
use Rattle.ft_rebase.proofs.MarkedRunLemmas.{continued-none, runs-rise}
use Rattle.ft_rebase.proofs.marks.marked_runs.Goals as goal
use Rattle.ft_rebase.proofs.marks.marked_runs.Goals.{then-seen_at+then-has_mark+in_ok-push_run, else-seen_at, else-seen_at-via-then-seen_at+else-has_mark, else-seen_at-via-else-seen_at}

pub loop-leaf-init : goal.loop-leaf-init
loop-leaf-init g c =
    let us = g.C.Content.units in
    let by = g.C.Content.by in
    let k = c.args.stage in
    let xs = c.args.tree.now.leaves in
    let view = Stage (k - 1) in
    ap (λ rs. continued rs (listed_runs us by view c.args.mark k xs (filter (λ x. is_touched_by k x.1) xs))) c.new-runs.ensures.items
    ∙ runs-listed us by view c.args.mark k xs c.first_leaf-first.ensures.once c.first_leaf-first.ensures.some

pub leaf_element-requires-clause-live : goal.leaf_element-requires-clause-live
leaf_element-requires-clause-live g c =
    let s = listed_at (λ x. is_touched_by c.args.stage x.1) c.args.tree.now.leaves c.deref-leaf-items.result.now c.loop-leaf.leaf-index
    c.leaf-item.result c.first_leaf-first.ensures.once (c.deref-leaf-items.ensures.value ∙ c.in_ok-touched.ensures) c.loop-leaf-test.true
    c.leaf-item.is in
    s.live

pub has_mark-requires-clause-live : goal.has_mark-requires-clause-live
has_mark-requires-clause-live g c =
    let s = listed_at (λ x. is_touched_by c.args.stage x.1) c.args.tree.now.leaves c.deref-leaf-items.result.now c.loop-leaf.leaf-index
    c.leaf-item.result c.first_leaf-first.ensures.once (c.deref-leaf-items.ensures.value ∙ c.in_ok-touched.ensures) c.loop-leaf-test.true
    c.leaf-item.is in
    s.live

pub stage_position-start-requires-clause-live : goal.stage_position-start-requires-clause-live
stage_position-start-requires-clause-live g c =
    let s = listed_at (λ x. is_touched_by c.args.stage x.1) c.args.tree.now.leaves c.deref-leaf-items.result.now c.loop-leaf.leaf-index
    c.leaf-item.result c.first_leaf-first.ensures.once (c.deref-leaf-items.ensures.value ∙ c.in_ok-touched.ensures) c.loop-leaf-test.true
    c.leaf-item.is in
    s.live

pub leaf_len-requires-clause-live : goal.leaf_len-requires-clause-live
leaf_len-requires-clause-live g c =
    let s = listed_at (λ x. is_touched_by c.args.stage x.1) c.args.tree.now.leaves c.deref-leaf-items.result.now c.loop-leaf.leaf-index
    c.leaf-item.result c.first_leaf-first.ensures.once (c.deref-leaf-items.ensures.value ∙ c.in_ok-touched.ensures) c.loop-leaf-test.true
    c.leaf-item.is in
    s.live

pub overflow_add-start : goal.overflow_add-start
overflow_add-start g c =
    let us = g.C.Content.units in
    let by = g.C.Content.by in
    let k = c.args.stage in
    let xs = c.args.tree.now.leaves in
    let s = listed_at (λ x. is_touched_by c.args.stage x.1) c.args.tree.now.leaves c.deref-leaf-items.result.now c.loop-leaf.leaf-index
    c.leaf-item.result c.first_leaf-first.ensures.once (c.deref-leaf-items.ensures.value ∙ c.in_ok-touched.ensures) c.loop-leaf-test.true
    c.leaf-item.is in
    let place = c.stage_position-start.ensures
    ∙ ap (λ n. len (seen_in (Stage n)) (elements us by (left_of xs c.leaf-item.result))) c.saturating_sub-before.ensures in
    let size = mapped_value (λ x. length (us x.content)) _ _ _ s.is c.leaf_len.ensures.value in
    let within = run_within us by (Stage (k - 1)) c.args.mark k xs c.leaf-item.result s.value c.first_leaf-first.ensures.once s.is in
    omega (arith, place, size, within, c.first_leaf-first.ensures.few)

pub loop-leaf-preserved : goal.loop-leaf-preserved
loop-leaf-preserved g c =
    let us = g.C.Content.units in
    let by = g.C.Content.by in
    let k = c.args.stage in
    let mark = c.args.mark in
    let xs = c.args.tree.now.leaves in
    let view = Stage (k - 1) in
    let leaf = c.leaf-item.result in
    let i = c.loop-leaf.leaf-index in
    let was = c.loop-leaf.runs.items in
    let s = listed_at (λ x. is_touched_by c.args.stage x.1) c.args.tree.now.leaves c.deref-leaf-items.result.now c.loop-leaf.leaf-index
    c.leaf-item.result c.first_leaf-first.ensures.once (c.deref-leaf-items.ensures.value ∙ c.in_ok-touched.ensures) c.loop-leaf-test.true
    c.leaf-item.is in
    let stamps = mapped_value (λ x. x.stamps) _ _ _ s.is c.leaf_element.ensures in
    let sees : seen_at s.value.stamps (k - 1) ≡ c.seen_at.result =
    ap (λ t. seen_at t (k - 1)) stamps ∙ ap (seen_at c.leaf_element.result.now) (sym c.saturating_sub-before.ensures) ∙ sym c.seen_at.ensures in
    elim c.if-seen_at.branch [
      | then-seen_at+then-has_mark+in_ok-push_run w ↦
          (let marked = mapped_value (leaf_has_mark mark k) _ _ _ s.is w.has_mark.ensures in
          let place = w.stage_position-start.ensures ∙ ap (λ n. len (seen_in (Stage n)) (elements us by (left_of xs leaf))) c.saturating_sub-before.ensures in
          let size = mapped_value (λ x. length (us x.content)) _ _ _ s.is w.leaf_len.ensures.value in
          ap (λ v. continued v.items (listed_runs us by view mark k xs (drop (i + 1) (filter (λ x. is_touched_by k x.1) xs)))) w.runs-is
          ∙ run_added us by view mark k xs i leaf s was _ c.loop-leaf.invariant w.stage_position-start.result w.leaf_len.result
          w.push_run.new.runs.items (and_from _ _ (sees ∙ w.if-seen_at.true) (marked ∙ w.if-has_mark.true)) place size
          w.in_ok-push_run.ensures)
      | else-seen_at w ↦
          (let none : adds_run us by view mark k xs (leaf, s.value) ≡ false = elim w.else-seen_at.branch [
            | else-seen_at-via-then-seen_at+else-has_mark u ↦
                and_right _ _ (mapped_value (leaf_has_mark mark k) _ _ _ s.is u.has_mark.ensures ∙ u.if-has_mark.false)
            | else-seen_at-via-else-seen_at u ↦ and_left _ _ (sees ∙ u.if-seen_at.false)
          ] in
          ap (λ v. continued v.items (listed_runs us by view mark k xs (drop (i + 1) (filter (λ x. is_touched_by k x.1) xs)))) w.runs-is
          ∙ none_added us by view mark k xs i leaf s was _ c.loop-leaf.invariant none)
    ]

pub returns-clause-runs : goal.returns-clause-runs
returns-clause-runs g c =
    let us = g.C.Content.units in
    let by = g.C.Content.by in
    let k = c.args.stage in
    let xs = c.args.tree.now.leaves in
    let runs = c.loop-leaf.runs.items in
    sym (continued-none runs)
    ∙ sym (ap (λ ys. continued runs (listed_runs us by (Stage (k - 1)) c.args.mark k xs ys))
    (drop_listed (λ x. is_touched_by k x.1) xs c.deref-leaf-items.result.now c.loop-leaf.leaf-index
    (c.deref-leaf-items.ensures.value ∙ c.in_ok-touched.ensures) c.loop-leaf-test.false))
    ∙ c.loop-leaf.invariant

pub returns-clause-rise : goal.returns-clause-rise
returns-clause-rise g c =
    let list = elements g.C.Content.units g.C.Content.by c.args.tree.now.leaves in
    subst (RunsRise 0) (sym (returns-clause-runs g c)) (runs-rise (seen_in (Stage (c.args.stage - 1)))
    (has_mark c.args.mark c.args.stage) 0 list)
