-- What is pending is taken off the leaves of one stage after another, until no stage is left.
use Rattle.std.proofs.Common.{◌≡◌, ℕ, ◌+◌, ◌-◌, ◌<◌, ◌≤◌, ◌^◌, Bool, true, false, cond, not, ◌||◌, nat_eq, nat_lt, List, [], ◌∷◌, Option, Some, None, drop, get_or, length, map, filter, refl, sym, ◌∙◌, ap, subst, arith}
use Rattle.std.specs.List.{list_any}
use Rattle.std.proofs.lemmas.Bool.{or_left, or_right}
use Rattle.std.proofs.lemmas.Bool.Decides.{nat_tests}
use Rattle.std.proofs.lemmas.List.{drop_more}
use Rattle.ft_arena.specs.Ids.{times}
use Rattle.ft_arena.proofs.IdLemmas.{same_refl}
use Rattle.ft_base.specs.declared.stamps.Stamp.{Stamp}
use Rattle.ft_base.specs.declared.stamps.Stamp.TheVariants.{Acked, Local}
use Rattle.ft_base.specs.Visibility.{is_acked, is_of_stage}
use Rattle.ft_block.specs.Leaves.{IsLeafIn, change_leaf, ids, times_leaf}
use Rattle.ft_block.proofs.CallerLemmas.{times-ids}
use Rattle.ft_props.specs.declared.properties.Changes.{Changes}
use Rattle.ft_props.proofs.RebuiltList.{filter-all}
use Rattle.ft_tree_leaves.specs.declared.leaves.TreeLeaf.{TreeLeaf}
use Rattle.ft_tree_leaves.specs.Edits.{is_touched_by, next_pending_above, sequenced_leaf}
use Rattle.ft_tree_leaves.proofs.Standing.{skip}
use Rattle.ft_tree_blocks.proofs.WalkEdits.{change-split}
use Rattle.ft_rebase.specs.Normalised.{carried_by, carried_leaf, carried_pair, is_gone}
use Rattle.ft_rebase.proofs.CarriedLeaves.{bare-same, carried-gone, carried-kept}
use Rattle.ft_rebase.proofs.MovedBlocks.{fewer}
use Rattle.ft_rebase.proofs.NextStages.{IsBelow, next_above, none_touched}

-- ---- the leaves of some nodes

module _ {L : Type 0} (f : L → L) where
  -- the leaves of these nodes changed, one after another
  abbrev pub change_each : List ℕ → List (ℕ × L) → List (ℕ × L)
  change_each [] xs = xs
  change_each (id ∷ nodes) xs = change_each nodes (change_leaf f xs id)

  each-behind : (x : ℕ × L) (ys xs : List (ℕ × L)) → times_leaf ys x.0 ≡ 0 → change_each (ids ys) (x ∷ xs) ≡ x ∷ change_each (ids ys) xs
  each-behind x [] xs h = refl
  each-behind x (y ∷ ys) xs h =
      let s = skip x.0 y ys h in
      let other : nat_eq x.0 y.0 ≡ false = grind (arith, nat_tests, s.0) in
      ap (λ b. change_each (ids ys) (cond b ((x.0, f x.1) ∷ change_leaf f xs y.0) (x ∷ change_leaf f xs y.0))) other
      ∙ each-behind x ys (change_leaf f xs y.0) s.1

  -- where they are those of the leaves that pass a test
  pub each-filtered : (t : ℕ × L → Bool) (xs : List (ℕ × L)) → ((i : ℕ) → times_leaf xs i ≤ 1)
      → change_each (ids (filter t xs)) xs ≡ map (λ x. cond (t x) (x.0, f x.1) x) xs
  each-filtered t [] once = refl
  each-filtered t (x ∷ xs) once = step (t x) (each-filtered t xs (λ i. omega (arith, once i)))
    where
      none : times_leaf xs x.0 ≡ 0
      none = omega (arith, once x.0, same_refl x.0)

      apart : times_leaf (filter t xs) x.0 ≡ 0
      apart = omega (arith, once x.0, same_refl x.0, fewer t xs x.0)

      step : (b : Bool) → change_each (ids (filter t xs)) xs ≡ map (λ x. cond (t x) (x.0, f x.1) x) xs
          → change_each (ids (cond b (x ∷ filter t xs) (filter t xs))) (x ∷ xs)
          ≡ cond b (x.0, f x.1) x ∷ map (λ x. cond (t x) (x.0, f x.1) x) xs
      step true ih =
          ap (change_each (ids (filter t xs))) (change-split f x.0 x.1 xs [] none refl)
          ∙ each-behind (x.0, f x.1) (filter t xs) xs apart ∙ ap (λ ys. (x.0, f x.1) ∷ ys) ih
      step false ih = each-behind x (filter t xs) xs apart ∙ ap (λ ys. x ∷ ys) ih

  -- one of the nodes is done
  pub each_next : (nodes : List ℕ) (i id : ℕ) (xs now all : List (ℕ × L)) → i < length nodes → id ≡ get_or nodes i id
      → now ≡ change_leaf f xs id → change_each (drop i nodes) xs ≡ all → change_each (drop (i + 1) nodes) now ≡ all
  each_next nodes i id xs now all low is made was =
      ap (change_each (drop (i + 1) nodes)) made
      ∙ sym (ap (λ ns. change_each ns xs) (drop_more nodes i id low ∙ ap (λ n. n ∷ drop (i + 1) nodes) (sym is)))
      ∙ was

-- lists with the same nodes have the same leaves
pub live_same : {L : Type 0} (xs ys : List (ℕ × L)) (id : ℕ) → ids xs ≡ ids ys → IsLeafIn ys id → IsLeafIn xs id
live_same xs ys id e live = omega (arith, sym (times-ids xs id) ∙ ap (λ ns. times ns id) e ∙ times-ids ys id, live)

-- how many stages may be left
abbrev pub stages_left : Option ℕ → ℕ
stages_left None = 0
stages_left (Some k) = 2 ^ 64 - k

-- ---- a leaf that is carried again

pending_stage : (ts : List Stamp) → list_any (λ t. not (is_acked t)) ts ≡ true → (j : ℕ) × (list_any (is_of_stage j) ts ≡ true)
pending_stage [] h = absurd cc
pending_stage (Acked s c ∷ ts) h = pending_stage ts h
pending_stage (Local j ∷ ts) h = (j, or_left (nat_eq j j) (list_any (is_of_stage j) ts) (grind (arith, nat_tests)))

module _ {C : Type 0} where
  bare-carried : (x : TreeLeaf C) → sequenced_leaf x ≡ x → carried_leaf x ≡ x
  bare-carried x h = step (is_gone x.stamps)
    where
      step : (b : Bool) → cond b (sequenced_leaf x) x ≡ x
      step true = h
      step false = refl

  sequenced-twice : (x : TreeLeaf C) → sequenced_leaf (sequenced_leaf x) ≡ sequenced_leaf x
  sequenced-twice x =
      let leaf : List Stamp → TreeLeaf C =
      λ dels. record {
        content = x.content;
        stamps = record { ins = x.stamps.ins; dels = dels };
        overlay = record { acked = x.overlay.acked; pending = [] };
      } in
      ap leaf (filter-all is_acked is_acked (λ t h. h) x.stamps.dels)

  carried-twice : (x : TreeLeaf C) → carried_leaf (carried_leaf x) ≡ carried_leaf x
  carried-twice x = step (is_gone x.stamps) refl
    where
      step : (b : Bool) → is_gone x.stamps ≡ b → carried_leaf (carried_leaf x) ≡ carried_leaf x
      step true e = ap carried_leaf (carried-gone x e) ∙ bare-carried (sequenced_leaf x) (sequenced-twice x) ∙ sym (carried-gone x e)
      step false e = ap carried_leaf (carried-kept x e)

  pair-twice : (x : ℕ × TreeLeaf C) → carried_pair (carried_pair x) ≡ carried_pair x
  pair-twice x = ap (λ (y : TreeLeaf C). (x.0, y)) (carried-twice x.1)

  carried-again : (j : ℕ) (x : ℕ × TreeLeaf C) → carried_by j (carried_pair x) ≡ carried_pair x
  carried-again j x = step (is_touched_by j (carried_leaf x.1))
    where
      step : (b : Bool) → cond b (carried_pair (carried_pair x)) (carried_pair x) ≡ carried_pair x
      step true = pair-twice x
      step false = refl

  untouched-stays : (j : ℕ) (x : ℕ × TreeLeaf C) → is_touched_by j x.1 ≡ false → carried_by j x ≡ x
  untouched-stays j x h = ap (λ b. cond b (carried_pair x) x) h

  kept_after : (j k : ℕ) (x : ℕ × TreeLeaf C) → carried_by j x ≡ x → carried_by j (carried_by k x) ≡ carried_by k x
  kept_after j k x h = step (is_touched_by k x.1)
    where
      step : (b : Bool) → carried_by j (cond b (carried_pair x) x) ≡ cond b (carried_pair x) x
      step true = carried-again j x
      step false = h

  same_stage : (k : ℕ) (x : ℕ × TreeLeaf C) → carried_by k (carried_by k x) ≡ carried_by k x
  same_stage k x = step (is_touched_by k x.1) refl
    where
      step : (b : Bool) → is_touched_by k x.1 ≡ b → carried_by k (cond b (carried_pair x) x) ≡ cond b (carried_pair x) x
      step true e = carried-again k x
      step false e = untouched-stays k x e

  carried-after : (k : ℕ) (x : ℕ × TreeLeaf C) → carried_pair (carried_by k x) ≡ carried_pair x
  carried-after k x = step (is_touched_by k x.1)
    where
      step : (b : Bool) → carried_pair (cond b (carried_pair x) x) ≡ carried_pair x
      step true = pair-twice x
      step false = refl

  -- a leaf that each stage leaves as it is
  all_stages : (x : ℕ × TreeLeaf C) → ((j : ℕ) → carried_by j x ≡ x) → carried_pair x ≡ x
  all_stages x h = marks (list_any (λ t. not (is_acked t)) x.1.stamps.dels) refl
    where
      touched : (j : ℕ) → is_touched_by j x.1 ≡ true → carried_pair x ≡ x
      touched j t = sym (ap (λ b. cond b (carried_pair x) x) t) ∙ h j

      changes : (ps : List (ℕ × Changes)) → x.1.overlay.pending ≡ ps → list_any (λ t. not (is_acked t)) x.1.stamps.dels ≡ false
          → carried_pair x ≡ x
      changes [] e none = ap (λ (y : TreeLeaf C). (x.0, y)) (bare-carried x.1 (bare-same x.1 none e))
      changes (p ∷ ps) e none =
          let own : nat_eq p.0 p.0 ≡ true = grind (arith, nat_tests) in
          touched p.0 (or_right _ _ (or_right _ _ (ap (list_any (λ c. nat_eq c.0 p.0)) e
          ∙ or_left (nat_eq p.0 p.0) (list_any (λ c. nat_eq c.0 p.0) ps) own)))

      marks : (b : Bool) → list_any (λ t. not (is_acked t)) x.1.stamps.dels ≡ b → carried_pair x ≡ x
      marks true e = let s = pending_stage x.1.stamps.dels e in touched s.0 (or_right _ _ (or_left _ _ s.1))
      marks false e = changes x.1.overlay.pending refl e

  -- ---- all leaves

  list-kept : (j k : ℕ) (xs : List (ℕ × TreeLeaf C)) → map (carried_by j) xs ≡ xs
      → map (carried_by j) (map (carried_by k) xs) ≡ map (carried_by k) xs
  list-kept j k [] h = refl
  list-kept j k (x ∷ xs) h =
      let first : carried_by j x ≡ x = cc in
      let rest : map (carried_by j) xs ≡ xs = cc in
      ap (λ y. y ∷ map (carried_by j) (map (carried_by k) xs)) (kept_after j k x first)
      ∙ ap (λ ys. carried_by k x ∷ ys) (list-kept j k xs rest)

  list-same : (k : ℕ) (xs : List (ℕ × TreeLeaf C)) → map (carried_by k) (map (carried_by k) xs) ≡ map (carried_by k) xs
  list-same k [] = refl
  list-same k (x ∷ xs) =
      ap (λ y. y ∷ map (carried_by k) (map (carried_by k) xs)) (same_stage k x) ∙ ap (λ ys. carried_by k x ∷ ys) (list-same k xs)

  list-untouched : (j : ℕ) (xs : List (ℕ × TreeLeaf C)) → list_any (λ x. is_touched_by j x.1) xs ≡ false → map (carried_by j) xs ≡ xs
  list-untouched j [] h = refl
  list-untouched j (x ∷ xs) h =
      let none = both (is_touched_by j x.1) (list_any (λ x. is_touched_by j x.1) xs) h in
      ap (λ y. y ∷ map (carried_by j) xs) (untouched-stays j x none.0) ∙ ap (λ ys. x ∷ ys) (list-untouched j xs none.1)
    where
      both : (a b : Bool) → (a || b) ≡ false → (a ≡ false) × (b ≡ false)
      both true b h = absurd cc
      both false b h = (refl, h)

  -- a stage that is carried leaves what all stages make of the leaves
  pub list-carried : (k : ℕ) (xs : List (ℕ × TreeLeaf C)) → map carried_pair (map (carried_by k) xs) ≡ map carried_pair xs
  list-carried k [] = refl
  list-carried k (x ∷ xs) =
      ap (λ y. y ∷ map carried_pair (map (carried_by k) xs)) (carried-after k x) ∙ ap (λ ys. carried_pair x ∷ ys) (list-carried k xs)

  -- and then no stage below the next one changes a leaf
  pub carries_stage : (k : ℕ) (xs now : List (ℕ × TreeLeaf C)) (next : Option ℕ) → now ≡ map (carried_by k) xs
      → next ≡ next_pending_above k now → ((j : ℕ) → j < k → map (carried_by j) xs ≡ xs)
      → (j : ℕ) → IsBelow j next → map (carried_by j) now ≡ now
  carries_stage k xs now next made is done j below = step (nat_lt j k) (nat_lt k j) refl refl
    where
      step : (a b : Bool) → nat_lt j k ≡ a → nat_lt k j ≡ b → map (carried_by j) now ≡ now
      step true b e g =
          let lower : j < k = grind (arith, nat_tests) in
          subst (λ ys. map (carried_by j) ys ≡ ys) (sym made) (list-kept j k xs (done j lower))
      step false true e g =
          let higher : k < j = grind (arith, nat_tests) in
          list-untouched j now (none_touched k j now higher (subst (IsBelow j) is below))
      step false false e g =
          let same : k ≡ j = grind (arith, nat_tests) in
          subst (λ ys. map (carried_by j) ys ≡ ys) (sym made) (subst (λ i. map (carried_by i) (map (carried_by k) xs) ≡ map (carried_by k) xs) same (list-same k xs))

  -- where no stage changes a leaf, they are carried
  pub all_carried : (xs : List (ℕ × TreeLeaf C)) → ((j : ℕ) → map (carried_by j) xs ≡ xs) → map carried_pair xs ≡ xs
  all_carried [] h = refl
  all_carried (x ∷ xs) h =
      ap (λ y. y ∷ map carried_pair xs) (all_stages x (λ j. first j (h j))) ∙ ap (λ ys. x ∷ ys) (all_carried xs (λ j. rest j (h j)))
    where
      first : (j : ℕ) → map (carried_by j) (x ∷ xs) ≡ x ∷ xs → carried_by j x ≡ x
      first j e = cc

      rest : (j : ℕ) → map (carried_by j) (x ∷ xs) ≡ x ∷ xs → map (carried_by j) xs ≡ xs
      rest j e = cc

  pub fewer_stages : (k : ℕ) (xs : List (ℕ × TreeLeaf C)) (was next : Option ℕ) → k < 2 ^ 64 → was ≡ Some k → next ≡ next_pending_above k xs
      → stages_left next < stages_left was
  fewer_stages k xs was next fits e n = omega (arith, step next n, ap stages_left e)
    where
      step : (o : Option ℕ) → o ≡ next_pending_above k xs → stages_left o < 2 ^ 64 - k
      step None n = omega (arith, fits)
      step (Some m) n = omega (arith, fits, next_above k m xs (sym n))
