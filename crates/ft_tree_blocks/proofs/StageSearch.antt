-- A search through the lists of nodes by stage, for the least stage of which a leaf has what is wanted.
use Rattle.std.proofs.Common.{◌≡◌, ℕ, zero, suc, ◌<◌, true, false, ◌&&◌, Bool, List, [], ◌∷◌, inl, inr, drop, Some, refl, ◌∙◌, ap, arith, nat_eq, nat_lt}
use Rattle.std.specs.List.{AllByRecursion, list_any}
use Rattle.std.specs.Option.{IsSome}
use Rattle.std.proofs.lemmas.Bool.{and_from, and_parts, eq-eqb, or_cases, or_left, or_right}
use Rattle.std.proofs.lemmas.Bool.Decides.{nat_tests}
use Rattle.ft_block.specs.Leaves.{value_at}
use Rattle.ft_tree_leaves.specs.declared.leaves.TreeLeaf.{TreeLeaf}
use Rattle.ft_tree_leaves.specs.Edits.{is_touched_by}
use Rattle.ft_tree_blocks.specs.declared.next_stages.Wanted.{Wanted}
use Rattle.ft_tree_blocks.specs.declared.next_stages.Wanted.TheVariants.{Anything, Removal}
use Rattle.ft_tree_blocks.specs.Touched.{AreRising, NodesOfStage, Tracks, holds, is_listed, stages_below}
use Rattle.ft_tree_blocks.specs.Wanted.{IsLeastStage, has_wanted, is_wanted_at}
use Rattle.ft_tree_blocks.proofs.LeastAbove.{wanted_value}
use Rattle.ft_tree_blocks.proofs.TouchedLists.{eq_from, from-listed, rising-drop}
use Rattle.ft_tree_blocks.proofs.TrackedSteps.{by_removals}

wanted-touched : {C : Type 0} (w : Wanted) (k : ℕ) (x : TreeLeaf C) → has_wanted w k x ≡ true → is_touched_by k x ≡ true
wanted-touched Removal k x h = by_removals k x h
wanted-touched Anything k x h = h

-- one of the nodes passes a test
pub passing : (p : ℕ → Bool) (ns : List ℕ) → list_any p ns ≡ true → (z : ℕ) × (p z ≡ true)
passing p [] h = (cc)
passing p (n ∷ ns) h = elim (or_cases (p n) (list_any p ns) h) [ inl here ↦ (n, here) | inr rest ↦ passing p ns rest ]

pub held_passes : (p : ℕ → Bool) (ns : List ℕ) (z : ℕ) → holds ns z ≡ true → p z ≡ true → list_any p ns ≡ true
held_passes p [] z h t = (cc)
held_passes p (n ∷ ns) z h t = elim (or_cases (nat_eq n z) (holds ns z) h) [
  | inl here ↦ or_left (p n) (list_any p ns) (ap p (eq_from n z here) ∙ t)
  | inr rest ↦ or_right (p n) (list_any p ns) (held_passes p ns z rest t)
]

-- what is listed among later lists is of higher stages
pub listed_above : (n : ℕ) (xs : List NodesOfStage) (j z : ℕ) → AllByRecursion (λ t. n < t.stage) xs → is_listed xs j z ≡ true → n < j
listed_above n [] j z h l = (cc)
listed_above n (x ∷ xs) j z h l = elim (or_cases (nat_eq x.stage j && holds x.nodes z) (is_listed xs j z) l) [
  | inl here ↦ omega (arith, eq_from x.stage j (and_parts (nat_eq x.stage j) (holds x.nodes z) here).0, h.0)
  | inr rest ↦ listed_above n xs j z h.1 rest
]

-- a node of the first list
pub listed_first : (s : NodesOfStage) (xs : List NodesOfStage) (z : ℕ) → holds s.nodes z ≡ true → is_listed (s ∷ xs) s.stage z ≡ true
listed_first s xs z h =
    or_left (nat_eq s.stage s.stage && holds s.nodes z) (is_listed xs s.stage z)
    (and_from (nat_eq s.stage s.stage) (holds s.nodes z) (eq-eqb s.stage s.stage refl) h)

listed_drop : (n : ℕ) (xs : List NodesOfStage) (j z : ℕ) → is_listed (drop n xs) j z ≡ true → is_listed xs j z ≡ true
listed_drop zero xs j z l = l
listed_drop (suc n) [] j z l = l
listed_drop (suc n) (x ∷ xs) j z l = or_right (nat_eq x.stage j && holds x.nodes z) (is_listed xs j z) (listed_drop n xs j z l)

module _ {C : Type 0} (w : Wanted) (xs : List (ℕ × TreeLeaf C)) (k : ℕ) (s : NodesOfStage) (rest : List NodesOfStage)
    (listed : (j z : ℕ) → k < j → is_wanted_at w xs j z ≡ true → is_listed (s ∷ rest) j z ≡ true) where
  -- a list without a leaf that will do
  passed : (nat_lt k s.stage && list_any (is_wanted_at w xs s.stage) s.nodes) ≡ false → (j z : ℕ) → k < j → is_wanted_at w xs j z ≡ true
      → is_listed rest j z ≡ true
  passed test j z lt t = elim (or_cases (nat_eq s.stage j && holds s.nodes z) (is_listed rest j z) (listed j z lt t)) [
    | inl here ↦
        let both = and_parts (nat_eq s.stage j) (holds s.nodes z) here in
        let same : s.stage ≡ j = eq_from s.stage j both.0 in
        let mark : is_wanted_at w xs s.stage z ≡ true = ap (λ i. is_wanted_at w xs i z) same ∙ t in
        let higher : nat_lt k s.stage ≡ true = grind (arith, nat_tests, same, lt) in
        let found : (nat_lt k s.stage && list_any (is_wanted_at w xs s.stage) s.nodes) ≡ true =
        and_from (nat_lt k s.stage) (list_any (is_wanted_at w xs s.stage) s.nodes) higher (held_passes (is_wanted_at w xs s.stage) s.nodes z both.1 mark) in
        (cc)
    | inr more ↦ more
  ]

  -- the first list with one
  pub reached : AllByRecursion (λ t. s.stage < t.stage) rest → (nat_lt k s.stage && list_any (is_wanted_at w xs s.stage) s.nodes) ≡ true
      → IsLeastStage k (is_wanted_at w xs) (Some s.stage)
  reached above test =
      let both = and_parts (nat_lt k s.stage) (list_any (is_wanted_at w xs s.stage) s.nodes) test in (
        grind (arith, nat_tests, both.0),
        passing (is_wanted_at w xs s.stage) s.nodes both.1,
        λ j z lt t. elim (or_cases (nat_eq s.stage j && holds s.nodes z) (is_listed rest j z) (listed j z lt t)) [
          | inl here ↦ omega (arith, eq_from s.stage j (and_parts (nat_eq s.stage j) (holds s.nodes z) here).0)
          | inr more ↦ omega (arith, listed_above s.stage rest j z above more)
        ],
      )

-- a search for a stage above k goes on in these lists
pub record Searches {C : Type 0} (w : Wanted) (k : ℕ) (xs : List (ℕ × TreeLeaf C)) (ss : List NodesOfStage) : Type 0 where
  pub covers : (j z : ℕ) → k < j → is_wanted_at w xs j z ≡ true → is_listed ss j z ≡ true
  pub live : (j z : ℕ) → is_listed ss j z ≡ true → IsSome (value_at xs z)
  pub rising : AreRising ss

-- it begins at the lists of this stage and above
pub searches-from : {C : Type 0} (w : Wanted) (k n : ℕ) (xs : List (ℕ × TreeLeaf C)) (ss : List NodesOfStage) → n ≡ stages_below k ss → Tracks xs ss
    → Searches w k xs (drop n ss)
searches-from w k n xs ss e tracks = record {
  covers = λ j z lt t.
      let v = wanted_value w j (value_at xs z) t in
      ap (λ i. is_listed (drop i ss) j z) e ∙ from-listed k j z ss (omega arith) ∙ tracks.covers j z v.0 v.1 (wanted-touched w j v.0 v.2);
  live = λ j z l. tracks.live j z (listed_drop n ss j z l);
  rising = rising-drop n ss tracks.rising;
}

-- and passes a list without a leaf that will do
pub searches-on : {C : Type 0} (w : Wanted) (k : ℕ) (xs : List (ℕ × TreeLeaf C)) (s : NodesOfStage) (rest : List NodesOfStage) → Searches w k xs (s ∷ rest)
    → (nat_lt k s.stage && list_any (is_wanted_at w xs s.stage) s.nodes) ≡ false → Searches w k xs rest
searches-on w k xs s rest h test = record {
  covers = passed w xs k s rest h.covers test;
  live = λ j z l. h.live j z (or_right (nat_eq s.stage j && holds s.nodes z) (is_listed rest j z) l);
  rising = h.rising.1;
}
