-- A sweep from its start to its end.
use Rattle.std.proofs.Common.{◌≡◌, ℕ, suc, ◌-◌, ◌≤◌, Bool, IsTrue, List, [], ◌∷◌, ◌++◌, length, map, take, drop, Option, Some, None, subst, refl, sym, ◌∙◌, ap, arith, append-nil}
use Rattle.ft_arena.specs.Ids.{after, first}
use Rattle.ft_arena.proofs.IdLemmas.{same_refl}
use Rattle.ft_base.specs.declared.stamps.Stamp.{Stamp}
use Rattle.ft_block.specs.Leaves.{IsLeafIn, IsPlaceIn, ids, times_leaf}
use Rattle.ft_tree_blocks.specs.Walks.{before_place, from_place}
use Rattle.ft_tree_blocks.proofs.Walks.{before-from}
use Rattle.ft_tree_leaves.specs.declared.leaves.TreeLeaf.{TreeLeaf}
use Rattle.ft_tree_leaves.specs.Elements.{TreeElement}
use Rattle.ft_tree_leaves.specs.LeafLists.{elements}
use Rattle.ft_tree_leaves.proofs.CutLeaves.{times-append}
use Rattle.ft_tree_leaves.proofs.Standing.{after-split}
use Rattle.ft_tree.specs.State.{TreeState}
use Rattle.ft_zamboni.specs.Scours.{AreClear, place_among, unmarked}
use Rattle.ft_zamboni.specs.Scours.Writes.{none}
use Rattle.ft_zamboni.specs.Sweeps.{Goes, IsFreeIfCollectable, Looks, Sweeps, SweptUpTo, last_node, seen_marks, short_of}
use Rattle.ft_zamboni.proofs.LookedLists.{drop-none, drop-some, first-from, first-none, first-split, short-before, short-next, take-all, take-next}
use Rattle.ft_zamboni.proofs.Marks.{gone-append, gone-stay, stay}
use Rattle.ft_zamboni.proofs.PassedReferences.{changes-none}
use Rattle.ft_zamboni.proofs.SweptLeaves.{alone, free-here, left, looks-on, now_at}

last-in : {L : Type 0} (xs : List (ℕ × L)) (l : ℕ) → last_node xs ≡ Some l → 1 ≤ times_leaf xs l
last-in [] l e = (cc)
last-in (x ∷ []) l e = let same : x.0 ≡ l = (cc) in omega (arith, ap (λ k. times_leaf ((k, x.1) ∷ []) l) same, same_refl l)
last-in (x ∷ y ∷ xs) l e = omega (arith, last-in (y ∷ xs) l e)

last_live : {L : Type 0} (before kept behind : List (ℕ × L)) (last : Option ℕ) → last ≡ last_node kept
    → IsPlaceIn (before ++ (kept ++ behind)) last
last_live before kept behind None e = tt
last_live before kept behind (Some l) e = omega
    (arith, last-in kept l (sym e), times-append before (kept ++ behind) l, times-append kept behind l)

module _ {U : Type 0} where
  pub untouched : (before behind : List (TreeElement U)) (i : ℕ) → place_among (map unmarked before ++ ([] ++ map unmarked behind)) i ≡ i
  untouched before behind i =
      omega (
        arith,
        gone-append (map stay before) (map stay behind) i,
        gone-stay before i,
        gone-stay behind (i - length (map stay before)),
      )

module _ {C U : Type 0} (units : C → List U) (by : C → Option Stamp) (old : TreeState C) (from end : Option ℕ) (base : List C) where
  -- the leaves to be looked at, and those from the end on
  abbrev pub todo : List (ℕ × TreeLeaf C)
  todo = before_place (from_place old.leaves from) end

  abbrev pub rest : List (ℕ × TreeLeaf C)
  rest = from_place (from_place old.leaves from) end

  -- so many of them were looked at
  pub record SweepAt (now : TreeState C) (i : ℕ) (next last : Option ℕ) (taken : List C) : Type 0 where
    pub swept : Sweeps units by old now (before_place old.leaves from) (take i todo) (drop i todo) rest last base taken
    pub next_is : next ≡ first (ids (drop i todo))
    pub within : i ≤ length todo

  pub sweep-start : IsTrue old.usable → IsPlaceIn old.leaves from → SweepAt old 0 (short_of from end) None base
  sweep-start usable from_in =
      let whole : old.leaves ≡ before_place old.leaves from ++ (todo ++ rest) =
      sym (before-from old.leaves from)
      ∙ ap (λ zs. before_place old.leaves from ++ zs) (sym (before-from (from_place old.leaves from) end)) in
      record {
        swept = record {
          kept = [];
          old_is = whole;
          now_is = whole;
          last_is = refl;
          writes = none;
          refs = changes-none (place_among (seen_marks units by old.floor (before_place old.leaves from) [] (todo ++ rest))) old.refs
              (untouched (elements units by (before_place old.leaves from)) (elements units by (todo ++ rest)));
          taken_is = sym (append-nil base);
          sweep = λ e. e;
          goes = record { floor = refl; made = refl; usable = usable };
        };
        next_is = ap (λ at. short_of at end) (sym (first-from old.leaves from from_in)) ∙ short-before (from_place old.leaves from) end;
        within = omega arith;
      }

  module _ (now : TreeState C) (i id : ℕ) (last : Option ℕ) (taken : List C) (s : SweepAt now i (Some id) last taken) where
    -- the next leaf
    pub ahead_is : (v : TreeLeaf C) × ((ys : List (ℕ × TreeLeaf C)) × (drop i todo ≡ (id, v) ∷ ys))
    ahead_is = first-split (drop i todo) id (sym s.next_is)

    abbrev pub value : TreeLeaf C
    value = ahead_is.0

    abbrev pub ahead : List (ℕ × TreeLeaf C)
    ahead = ahead_is.1.0

    pub here : Sweeps units by old now (before_place old.leaves from) (take i todo) ((id, value) ∷ ahead) rest last base taken
    here = subst (λ ys. Sweeps units by old now (before_place old.leaves from) (take i todo) ys rest last base taken) ahead_is.1.1 s.swept

    abbrev pub stands_left : List (ℕ × TreeLeaf C)
    stands_left = left units by old now (before_place old.leaves from) (take i todo) ahead rest id value last base taken here

    stands_at : now.leaves ≡ stands_left ++ (id, value) ∷ (ahead ++ rest)
    stands_at = now_at units by old now (before_place old.leaves from) (take i todo) ahead rest id value last base taken here

    pub sweep-live : IsLeafIn now.leaves id
    sweep-live =
        omega (
          arith,
          ap (λ ys. times_leaf ys id) stands_at,
          times-append stands_left ((id, value) ∷ (ahead ++ rest)) id,
          same_refl id,
        )

    pub sweep-last : IsPlaceIn now.leaves last
    sweep-last = subst (λ ys. IsPlaceIn ys last) (sym here.now_is)
        (last_live (before_place old.leaves from) here.kept ((id, value) ∷ (ahead ++ rest)) last here.last_is)

    module _ (once : (z : ℕ) → times_leaf now.leaves z ≤ 1) where
      pub sweep-free : AreClear old.floor (elements units by old.leaves) old.refs
          → IsFreeIfCollectable units by now.floor now.leaves id now.refs
      sweep-free clear = free-here units by old now (before_place old.leaves from) (take i todo) ahead rest id value last base taken here
          once clear

      next_place : IsPlaceIn (from_place old.leaves from) end → short_of (after (ids now.leaves) id) end ≡ first (ids ahead)
      next_place end_in =
          let lone = alone units by old now (before_place old.leaves from) (take i todo) ahead rest id value last base taken here once in
          let behind : after (ids now.leaves) id ≡ first (ids (ahead ++ rest)) =
          ap (λ (ys : List (ℕ × TreeLeaf C)). after (ids ys) id) stands_at ∙ after-split id value (ahead ++ rest) stands_left lone.0 in
          let few : (z : ℕ) → times_leaf (ahead ++ rest) z ≤ 1 =
          λ z. omega (arith, once z, ap (λ ys. times_leaf ys z) stands_at, times-append stands_left ((id, value) ∷ (ahead ++ rest)) z) in
          ap (λ o. short_of o end) behind
          ∙ ap (λ o. short_of (first (ids (ahead ++ rest))) o) (sym (first-from (from_place old.leaves from) end end_in))
          ∙ short-next ahead rest few

      module _ (joins : C → C → Bool) (joined : C → C → C)
          (joined_units : (x y : C) → IsTrue (joins x y) → units (joined x y) ≡ units x ++ units y)
          (joined_by : (x y : C) → IsTrue (joins x y) → by (joined x y) ≡ by x)
          (joins_by : (x y : C) → IsTrue (joins x y) → by y ≡ by x) where
        -- the sweep after it looked at that leaf
        pub sweep-step : (new : TreeState C) (kept : Option ℕ) (given : List C) → IsPlaceIn (from_place old.leaves from) end
            → AreClear old.floor (elements units by old.leaves) old.refs
            → Goes now new → Looks units by joins joined now new id last kept taken given
            → SweepAt new (suc i) (short_of (after (ids now.leaves) id) end) kept given
        sweep-step new kept given end_in clear goes looks =
            let t = take-next todo i (id, value) ahead ahead_is.1.1 in
            let on = looks-on units by joins joined joined_units joined_by joins_by old now new (before_place old.leaves from)
            (take i todo) ahead rest id value last kept base
            taken given here once clear goes looks in
            record {
              swept = rw (t.0, t.1) on;
              next_is = next_place end_in ∙ ap (λ (ys : List (ℕ × TreeLeaf C)). first (ids ys)) (sym t.1);
              within = drop-some todo i (id, value) ahead ahead_is.1.1;
            }

  -- where none is left
  pub sweep-ended : (now : TreeState C) (i budget : ℕ) (last : Option ℕ) (taken : List C) → SweepAt now i None last taken → i ≤ budget
      → SweptUpTo units by old now from end budget base taken (record { next = None; left = budget - i })
  sweep-ended now i budget last taken s le =
      let few = drop-none todo i (first-none (drop i todo) (sym s.next_is)) in
      let t = take-all todo i few in
      let u = take-all todo budget (omega (arith, few, le)) in
      let on : Sweeps units by old now (before_place old.leaves from) (take budget todo) (drop budget todo) rest last base taken = rw
      (u.0, u.1) (rw (t.0, t.1) at s.swept) in
      record {
        last = last;
        sweeps = on;
        next_is = ap (λ (ys : List (ℕ × TreeLeaf C)). first (ids ys)) (sym u.1);
        left_is = omega (arith, few, s.within);
      }

  -- where it may look at no more
  pub sweep-full : (now : TreeState C) (budget : ℕ) (next last : Option ℕ) (taken : List C) → SweepAt now budget next last taken
      → SweptUpTo units by old now from end budget base taken (record { next = next; left = 0 })
  sweep-full now budget next last taken s = record { last = last; sweeps = s.swept; next_is = s.next_is; left_is = omega (arith, s.within) }
