-- The runs of marked elements, leaf by leaf of those that a stage touched.
use Rattle.std.proofs.Common.{◌≡◌, ℕ, ◌+◌, ◌≤◌, Bool, true, false, cond, ◌&&◌, ◌||◌, All, List, [], ◌∷◌, ◌++◌, Option, Some, drop, filter, length, refl, sym, ◌∙◌, ap, arith, append_assoc, length-append}
use Rattle.std.proofs.lemmas.Bool.{and_right}
use Rattle.std.proofs.lemmas.List.Elements.{All-head, All-tail}
use Rattle.ft_arena.specs.Ids.{after}
use Rattle.ft_arena.proofs.IdLemmas.{same_refl}
use Rattle.ft_base.specs.declared.stamps.Stamp.{Stamp}
use Rattle.ft_base.specs.Scan.{len}
use Rattle.ft_block.specs.declared.leaves.LenView.{LenView}
use Rattle.ft_block.specs.Leaves.{ids, left_of, sees_in, times_leaf, value_at}
use Rattle.ft_tree_leaves.specs.declared.leaves.TreeLeaf.{TreeLeaf}
use Rattle.ft_tree_leaves.specs.Edits.{is_touched_by}
use Rattle.ft_tree_leaves.specs.Elements.{seen_in}
use Rattle.ft_tree_leaves.specs.LeafLists.{elements, leaf_elements}
use Rattle.ft_tree_leaves.proofs.CutLeaves.{times-append}
use Rattle.ft_tree_leaves.proofs.LeafRuns.{elements-append, elements-one, leaf_seen, leaf_unseen, length-leaf}
use Rattle.ft_tree_leaves.proofs.Runs.{len-append}
use Rattle.ft_tree_leaves.proofs.Standing.{left-split}
use Rattle.ft_tree_blocks.specs.Walks.{from_place}
use Rattle.ft_tree_blocks.proofs.Walks.{stands}
use Rattle.ft_tree_steps.proofs.FoundOffsets.{len-most}
use Rattle.ft_rebase.specs.declared.marks.PendingMark.{PendingMark}
use Rattle.ft_rebase.specs.declared.marks.PendingMark.TheVariants.{Removal, Changes}
use Rattle.ft_rebase.specs.MarkedRuns.{continued, marked_runs_from, with_run}
use Rattle.ft_rebase.specs.Pieces.{has_mark, leaf_has_mark}
use Rattle.ft_rebase.proofs.LeafPieces.{runs-leaf}
use Rattle.ft_rebase.proofs.ListedLeaves.{ListedAt}

no_mark : (a b c : Bool) → (a || (b || c)) ≡ false → (b ≡ false) × (c ≡ false)
no_mark false false false h = (refl, refl)
no_mark false false true h = absurd cc
no_mark false true c h = absurd cc
no_mark true b c h = absurd cc

-- a leaf of which a stage has nothing has no mark of it
untouched : {C : Type 0} (mark : PendingMark) (k : ℕ) (x : TreeLeaf C) → is_touched_by k x ≡ false → leaf_has_mark mark k x ≡ false
untouched Removal k x h = (no_mark _ _ _ h).0
untouched Changes k x h = (no_mark _ _ _ h).1

module _ {C U : Type 0} (units : C → List U) (by : C → Option Stamp) (view : LenView) (mark : PendingMark) (k : ℕ) (xs : List (ℕ × TreeLeaf C)) where
  -- how many seen elements stand left of the leaf of a node
  abbrev pub seen_before : ℕ → ℕ
  seen_before id = len (seen_in view) (elements units by (left_of xs id))

  -- whether the elements of a leaf are seen, and have the mark
  abbrev pub adds_run : ℕ × TreeLeaf C → Bool
  adds_run x = sees_in view x.1.stamps && leaf_has_mark mark k x.1

  -- the runs of these leaves, each of which stands where it stands among all
  abbrev pub listed_runs : List (ℕ × TreeLeaf C) → List (ℕ × ℕ)
  listed_runs [] = []
  listed_runs (y ∷ ys) =
      cond (adds_run y) (with_run (seen_before y.0, seen_before y.0 + length (units y.1.content)) (listed_runs ys)) (listed_runs ys)

  -- leaves that add none may be left out
  listed-filter : (t : ℕ × TreeLeaf C → Bool) → ((x : ℕ × TreeLeaf C) → t x ≡ false → adds_run x ≡ false) → (ys : List (ℕ × TreeLeaf C))
      → listed_runs (filter t ys) ≡ listed_runs ys
  listed-filter t h [] = refl
  listed-filter t h (y ∷ ys) = step (t y) refl (listed-filter t h ys)
    where
      run : ℕ × ℕ
      run = (seen_before y.0, seen_before y.0 + length (units y.1.content))

      step : (b : Bool) → t y ≡ b → listed_runs (filter t ys) ≡ listed_runs ys
          → listed_runs (cond b (y ∷ filter t ys) (filter t ys)) ≡ cond (adds_run y) (with_run run (listed_runs ys)) (listed_runs ys)
      step true e ih = ap (λ rs. cond (adds_run y) (with_run run rs) rs) ih
      step false e ih = ih ∙ sym (ap (λ b. cond b (with_run run (listed_runs ys)) (listed_runs ys)) (h y e))

  -- the runs of the leaves behind some
  listed-from : ((i : ℕ) → times_leaf xs i ≤ 1) → (fs ys : List (ℕ × TreeLeaf C)) → xs ≡ fs ++ ys
      → All (λ x. 1 ≤ length (units x.1.content)) ys
      → marked_runs_from (len (seen_in view) (elements units by fs)) (seen_in view) (has_mark mark k) (elements units by ys) ≡ listed_runs ys
  listed-from once fs [] e some = refl
  listed-from once fs (y ∷ ys) e some =
      step (sees_in view y.1.stamps) (leaf_has_mark mark k y.1) refl refl
      (listed-from once (fs ++ y ∷ []) ys (e ∙ sym (append_assoc fs (y ∷ []) ys)) (All-tail (λ x. 1 ≤ length (units x.1.content)) y ys some))
    where
      i : ℕ
      i = len (seen_in view) (elements units by fs)

      n : ℕ
      n = length (units y.1.content)

      runs : ℕ → List (ℕ × ℕ)
      runs j = marked_runs_from j (seen_in view) (has_mark mark k) (elements units by ys)

      first : 1 ≤ length (units y.1.content)
      first = All-head (λ x. 1 ≤ length (units x.1.content)) y ys some

      apart : times_leaf fs y.0 ≡ 0
      apart = omega (arith, ap (λ zs. times_leaf zs y.0) e, times-append fs (y ∷ ys) y.0, same_refl y.0, once y.0)

      place : seen_before y.0 ≡ len (seen_in view) (elements units by fs)
      place = ap (λ zs. len (seen_in view) (elements units by (left_of zs y.0))) e
          ∙ ap (λ zs. len (seen_in view) (elements units by zs)) (left-split y.0 y.1 ys fs apart)

      more : len (seen_in view) (elements units by (fs ++ y ∷ []))
          ≡ len (seen_in view) (elements units by fs) + len (seen_in view) (leaf_elements units by y.1)
      more = ap (len (seen_in view)) (elements-append units by fs (y ∷ []))
          ∙ len-append (seen_in view) (elements units by fs) (elements units by (y ∷ []))
          ∙ ap (λ es. len (seen_in view) (elements units by fs) + len (seen_in view) es) (elements-one units by y)

      step : (s m : Bool) → sees_in view y.1.stamps ≡ s → leaf_has_mark mark k y.1 ≡ m
          → marked_runs_from (len (seen_in view) (elements units by (fs ++ y ∷ []))) (seen_in view) (has_mark mark k) (elements units by ys)
          ≡ listed_runs ys
          → marked_runs_from (len (seen_in view) (elements units by fs)) (seen_in view) (has_mark mark k)
          (leaf_elements units by y.1 ++ elements units by ys)
          ≡ cond (s && m) (with_run (seen_before y.0, seen_before y.0 + length (units y.1.content)) (listed_runs ys)) (listed_runs ys)
      step true m s_is m_is ih =
          let p = len (seen_in view) (elements units by fs) in
          let c = length (units y.1.content) in
          let here : p + c ≡ len (seen_in view) (elements units by (fs ++ y ∷ [])) = omega (arith, more, leaf_seen units by view y.1 s_is) in
          let rest = ap (λ j. marked_runs_from j (seen_in view) (has_mark mark k) (elements units by ys)) here ∙ ih in
          runs-leaf units by view mark k y.1 p (elements units by ys) true m first s_is m_is
          ∙ ap (λ rs. cond m (with_run (p, p + c) rs) rs) rest
          ∙ ap (λ j. cond m (with_run (j, j + c) (listed_runs ys)) (listed_runs ys)) (sym place)
      step false m s_is m_is ih =
          let p = len (seen_in view) (elements units by fs) in
          let here : p ≡ len (seen_in view) (elements units by (fs ++ y ∷ [])) = omega (arith, more, leaf_unseen units by view y.1 s_is) in
          runs-leaf units by view mark k y.1 p (elements units by ys) false m first s_is m_is
          ∙ ap (λ j. marked_runs_from j (seen_in view) (has_mark mark k) (elements units by ys)) here ∙ ih

  -- the leaves that the stage touched have all runs
  pub runs-listed : ((i : ℕ) → times_leaf xs i ≤ 1) → All (λ x. 1 ≤ length (units x.1.content)) xs
      → listed_runs (filter (λ x. is_touched_by k x.1) xs) ≡ marked_runs_from 0 (seen_in view) (has_mark mark k) (elements units by xs)
  runs-listed once some =
      listed-filter (λ x. is_touched_by k x.1) none xs ∙ sym (listed-from once [] xs refl some)
    where
      none : (x : ℕ × TreeLeaf C) → is_touched_by k x.1 ≡ false → adds_run x ≡ false
      none x h = and_right (sees_in view x.1.stamps) (leaf_has_mark mark k x.1) (untouched mark k x.1 h)

  -- a run ends within the elements
  pub run_within : (id : ℕ) (v : TreeLeaf C) → ((i : ℕ) → times_leaf xs i ≤ 1) → value_at xs id ≡ Some v
      → seen_before id + length (units v.content) ≤ length (elements units by xs)
  run_within id v once e =
      let s = stands xs id v once e in
      let front = left_of xs id in
      let rear = from_place xs (after (ids xs) id) in
      omega (
        arith,
        ap (λ zs. length (elements units by zs)) s.whole,
        ap length (elements-append units by front ((id, v) ∷ rear)),
        length-append (elements units by front) (elements units by ((id, v) ∷ rear)),
        length-append (leaf_elements units by v) (elements units by rear),
        length-leaf units by v,
        len-most (seen_in view) (elements units by front),
      )

  module _ (i id : ℕ) (s : ListedAt (λ x. is_touched_by k x.1) xs i id) (runs all : List (ℕ × ℕ))
      (was : continued runs (listed_runs (drop i (filter (λ x. is_touched_by k x.1) xs))) ≡ all) where
    -- the run of a leaf that adds one
    pub run_added : (start count : ℕ) (now : List (ℕ × ℕ)) → adds_run (id, s.value) ≡ true → start ≡ seen_before id
        → length (units s.value.content) ≡ count
        → ((more : List (ℕ × ℕ)) → continued now more ≡ continued runs (with_run (start, start + count) more))
        → continued now (listed_runs (drop (i + 1) (filter (λ x. is_touched_by k x.1) xs))) ≡ all
    run_added start count now adds place size made =
        let rest = listed_runs (drop (i + 1) (filter (λ x. is_touched_by k x.1) xs)) in
        let p = seen_before id in
        let n = length (units s.value.content) in
        made rest
        ∙ ap (λ j. continued runs (with_run (j, j + count) rest)) place
        ∙ ap (λ c. continued runs (with_run (p, p + c) rest)) (sym size)
        ∙ ap (continued runs) (sym (ap (λ b. cond b (with_run (p, p + n) rest) rest) adds))
        ∙ ap (λ ys. continued runs (listed_runs ys)) (sym s.rest)
        ∙ was

    -- one that adds none
    pub none_added : adds_run (id, s.value) ≡ false
        → continued runs (listed_runs (drop (i + 1) (filter (λ x. is_touched_by k x.1) xs))) ≡ all
    none_added adds =
        let rest = listed_runs (drop (i + 1) (filter (λ x. is_touched_by k x.1) xs)) in
        let p = seen_before id in
        let n = length (units s.value.content) in
        ap (continued runs) (sym (ap (λ b. cond b (with_run (p, p + n) rest) rest) adds))
        ∙ ap (λ ys. continued runs (listed_runs ys)) (sym s.rest)
        ∙ was
