-- The handles that a view sees, as a walk from leaf to leaf goes along them.
use Rattle.std.proofs.Common.{◌≡◌, ℕ, ◌+◌, ◌<◌, ◌≤◌, true, false, cond, List, [], ◌++◌, length, drop, take, Option, Some, option_map}
use Rattle.std.proofs.Common.{sym, ◌∙◌, ap, arith, append_assoc, length-append, length-take}
use Rattle.std.proofs.Math.Seq.{drop-append_seam}
use Rattle.std.proofs.lemmas.List.{take-append-drop}
use Rattle.ft_base.proofs.Options.{some-same}
use Rattle.ft_arena.specs.Ids.{after}
use Rattle.ft_block.specs.declared.leaves.LenView.{LenView}
use Rattle.ft_block.specs.Leaves.{IsLeafIn, ids, sees_in, times_leaf, value_at}
use Rattle.ft_tree_leaves.specs.declared.leaves.TreeLeaf.{TreeLeaf}
use Rattle.ft_tree_blocks.specs.Walks.{from_place}
use Rattle.ft_tree_blocks.proofs.Walks.{live_value, stands}
use Rattle.ft_perm.specs.Handles.{HandleRun, handles_of}
use Rattle.ft_perm.specs.HandleLaws.{length-numbers_from}
use Rattle.ft_perm.specs.Vectors.{RunStandsAt}
use Rattle.ft_perm.proofs.SeenRuns.{Leaves, shown_run, shown_runs, shown_runs-more}

behind-both : (left hs right : List ℕ) (n : ℕ) → length left + length hs ≡ n → drop n (left ++ (hs ++ right)) ≡ right
behind-both left hs right n e =
    ap (λ us. drop n us) (sym (append_assoc left hs right)) ∙ ap (λ k. drop k ((left ++ hs) ++ right)) (sym e ∙ sym (length-append left hs))
    ∙ drop-append_seam (left ++ hs) right

module _ (view : LenView) (leaves : Leaves) (once : (i : ℕ) → times_leaf leaves i ≤ 1) (at next : Option ℕ) (id : ℕ) (live : IsLeafIn leaves id)
    (is : at ≡ Some id) (on : next ≡ after (ids leaves) id) where
  abbrev rest : Option ℕ → List ℕ
  rest o = shown_runs view (from_place leaves o)

  next-run : (v : TreeLeaf HandleRun) → value_at leaves id ≡ Some v → rest at ≡ shown_run view v ++ rest next
  next-run v e =
      ap rest is ∙ ap (shown_runs view) (stands leaves id v once e).from ∙ shown_runs-more view (id, v) (from_place leaves (after (ids leaves) id))
      ∙ ap (λ o. shown_run view v ++ rest o) (sym on)

  -- fewer leaves are left
  pub fewer : length (from_place leaves next) < length (from_place leaves at)
  fewer =
      let v = live_value leaves id live in
      omega (arith, ap (λ o. length (from_place leaves o)) is, ap length (stands leaves id v.0 once v.1).from, ap (λ o. length (from_place leaves o)) on)

  -- a leaf that isn't seen
  pub unseen-past : option_map (λ x. sees_in view x.stamps) (value_at leaves id) ≡ Some false → rest at ≡ rest next
  unseen-past h =
      let v = live_value leaves id live in
      let sees = some-same (sees_in view v.0.stamps) false (sym (ap (option_map (λ (x : TreeLeaf HandleRun). sees_in view x.stamps)) v.1) ∙ h) in
      next-run v.0 v.1 ∙ ap (λ b. cond b (handles_of v.0.content) [] ++ rest next) sees

  module _ (run : HandleRun) (content : option_map (λ x. x.content) (value_at leaves id) ≡ Some run)
      (seen : option_map (λ x. sees_in view x.stamps) (value_at leaves id) ≡ Some true) where
    run-next : rest at ≡ handles_of run ++ rest next
    run-next =
        let v = live_value leaves id live in
        let sees = some-same (sees_in view v.0.stamps) true (sym (ap (option_map (λ (x : TreeLeaf HandleRun). sees_in view x.stamps)) v.1) ∙ seen) in
        let own = some-same v.0.content run (sym (ap (option_map (λ (x : TreeLeaf HandleRun). x.content)) v.1) ∙ content) in
        next-run v.0 v.1 ∙ ap (λ b. cond b (handles_of v.0.content) [] ++ rest next) sees ∙ ap (λ (r : HandleRun). handles_of r ++ rest next) own

    module _ (p : ℕ) (within : p ≤ length (shown_runs view leaves)) (from : drop p (shown_runs view leaves) ≡ rest at) where
      -- the run of one that is seen stands at the place that was reached
      pub run-there : RunStandsAt p run (shown_runs view leaves)
      run-there = record {
        left = take p (shown_runs view leaves);
        right = rest next;
        is = sym (take-append-drop p (shown_runs view leaves)) ∙ ap (λ us. take p (shown_runs view leaves) ++ us) (from ∙ run-next);
        place = omega (arith, within, length-take p (shown_runs view leaves));
      }

      -- and behind it the walk goes on
      pub run-past : drop (p + run.count) (shown_runs view leaves) ≡ rest next
      unfolding run-there
      run-past =
          let s = run-there in
          ap (λ us. drop (p + run.count) us) s.is
          ∙ behind-both s.left (handles_of run) (rest next) (p + run.count) (omega (arith, s.place, length-numbers_from run.first run.count))
