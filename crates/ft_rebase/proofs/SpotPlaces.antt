-- The elements of leaves, each with its spot: the node of its leaf and its place in it. What keeps its spot stands, once the
-- leaves of the pending stages are moved, where the place tells that it had before.
use Rattle.std.proofs.Common.{◌≡◌, ℕ, zero, suc, ◌+◌, ◌-◌, ◌<◌, ◌≤◌, Bool, true, false, cond, ◌&&◌, nat_eq, nat_lt, List, [], ◌∷◌, ◌++◌, map, length, refl, sym, ◌∙◌, ap, subst, arith}
use Rattle.std.proofs.Common.{Option, Some, None}
use Rattle.std.specs.List.{enumerate_from, flat_map}
use Rattle.std.specs.Option.{option_and_then, option_map}
use Rattle.std.proofs.lemmas.Bool.{eq-eqb}
use Rattle.std.proofs.lemmas.Bool.Decides.{nat_tests}
use Rattle.std.proofs.lemmas.List.{map-append}
use Rattle.ft_base.specs.declared.stamps.Stamp.{Stamp}
use Rattle.ft_base.specs.Scan.{len, one_more_if, rank}
use Rattle.ft_block.specs.Leaves.{times_leaf}
use Rattle.ft_tree_leaves.specs.declared.leaves.TreeLeaf.{TreeLeaf}
use Rattle.ft_tree_leaves.specs.declared.references.Reference.{Reference}
use Rattle.ft_tree_leaves.specs.Edits.{with_place}
use Rattle.ft_tree_leaves.specs.Elements.{TreeElement, element_with}
use Rattle.ft_tree_leaves.specs.LeafLists.{elements}
use Rattle.ft_tree_leaves.specs.References.{ChangesReferences, reference_place, reference_at}
use Rattle.ft_tree.specs.State.{TreeState}
use Rattle.ft_rebase.specs.Spots.{KeepsSpots, spot_at}
use Rattle.ft_rebase.proofs.Expanded.{rank-seen}
use Rattle.ft_rebase.proofs.MovedSpots.{total}

pub length-enumerate : {A : Type 0} (n : ℕ) (xs : List A) → length (enumerate_from n xs) ≡ length xs
length-enumerate n [] = refl
length-enumerate n (x ∷ xs) = ap (λ k. suc k) (length-enumerate (n + 1) xs)

module _ {C U : Type 0} (units : C → List U) (by : C → Option Stamp) where
  abbrev Leaves : Type 0
  Leaves = List (ℕ × TreeLeaf C)

  abbrev pub Spotted : Type 0
  Spotted = (ℕ × ℕ) × TreeElement U

  -- the places in a leaf with what stands there
  abbrev pub spot_units : ℕ × TreeLeaf C → List (ℕ × U)
  spot_units x = enumerate_from 0 (units x.1.content)

  abbrev pub spotted : ℕ × TreeLeaf C → ℕ × U → Spotted
  spotted x u = ((x.0, u.0), element_with x.1.stamps (by x.1.content) x.1.overlay u.1)

  -- the elements of the leaves, each with its spot
  abbrev pub spots : Leaves → List Spotted
  spots xs = flat_map (λ x. map (spotted x) (spot_units x)) xs

  abbrev pub own : Spotted → TreeElement U
  own y = y.1

  -- whether it is the element of this spot
  abbrev pub is_at_spot : ℕ × ℕ → Spotted → Bool
  is_at_spot s y = nat_eq y.0.0 s.0 && nat_eq y.0.1 s.1

  -- without spots they are the elements
  own-run : (x : ℕ × TreeLeaf C) (n : ℕ) (us : List U)
      → map own (map (spotted x) (enumerate_from n us)) ≡ map (element_with x.1.stamps (by x.1.content) x.1.overlay) us
  own-run x n [] = refl
  own-run x n (u ∷ us) = ap (λ es. element_with x.1.stamps (by x.1.content) x.1.overlay u ∷ es) (own-run x (n + 1) us)

  pub own-elements : (xs : Leaves) → map own (spots xs) ≡ elements units by xs
  own-elements [] = refl
  own-elements (x ∷ xs) =
      map-append own (map (spotted x) (spot_units x)) (spots xs)
      ∙ ap (λ es. es ++ map own (spots xs)) (own-run x 0 (units x.1.content))
      ∙ ap (λ es. map (element_with x.1.stamps (by x.1.content) x.1.overlay) (units x.1.content) ++ es) (own-elements xs)

  module _ (s : ℕ × ℕ) where
    -- leaves of other nodes
    other-run : (x : ℕ × TreeLeaf C) → nat_eq x.0 s.0 ≡ false → (u : ℕ × U) → is_at_spot s (spotted x u) ≡ false
    other-run x e u = ap (λ b. b && nat_eq u.0 s.1) e

    len-other : (x : ℕ × TreeLeaf C) → nat_eq x.0 s.0 ≡ false → (us : List (ℕ × U)) (ys : List Spotted)
        → len (is_at_spot s) (map (spotted x) us ++ ys) ≡ len (is_at_spot s) ys
    len-other x e [] ys = refl
    len-other x e (u ∷ us) ys = ap (λ b. one_more_if b (len (is_at_spot s) (map (spotted x) us ++ ys))) (other-run x e u) ∙ len-other x e us ys

    len-gone : (xs : Leaves) → times_leaf xs s.0 ≡ 0 → len (is_at_spot s) (spots xs) ≡ 0
    len-gone [] h = refl
    len-gone (x ∷ xs) h = step (nat_eq x.0 s.0) refl h (len-gone xs)
      where
        step : (b : Bool) → nat_eq x.0 s.0 ≡ b → cond b 1 0 + times_leaf xs s.0 ≡ 0
            → (times_leaf xs s.0 ≡ 0 → len (is_at_spot s) (spots xs) ≡ 0) → len (is_at_spot s) (spots (x ∷ xs)) ≡ 0
        step true e g ih = absurd (omega arith)
        step false e g ih = len-other x e (spot_units x) (spots xs) ∙ ih (omega (arith, g))

    -- the leaf of its node
    rank-own : (x : ℕ × TreeLeaf C) → x.0 ≡ s.0 → (n j : ℕ) (us : List U) (ys : List Spotted) → s.1 ≡ n + j → j < length us
        → rank (is_at_spot s) (λ y. true) (map (spotted x) (enumerate_from n us) ++ ys) ≡ j
    rank-own x e n j [] ys h l = absurd (omega arith)
    rank-own x e n zero (u ∷ us) ys h l =
        let here : nat_eq x.0 s.0 ≡ true = eq-eqb x.0 s.0 e in
        let first : nat_eq n s.1 ≡ true = grind (arith, nat_tests) in
        ap (λ b. cond (b && nat_eq n s.1) 0 (suc (rank (is_at_spot s) (λ y. true) (map (spotted x) (enumerate_from (n + 1) us) ++ ys)))) here
        ∙ ap (λ b. cond b 0 (suc (rank (is_at_spot s) (λ y. true) (map (spotted x) (enumerate_from (n + 1) us) ++ ys)))) first
    rank-own x e n (suc j) (u ∷ us) ys h l =
        let here : nat_eq x.0 s.0 ≡ true = eq-eqb x.0 s.0 e in
        let later : nat_eq n s.1 ≡ false = grind (arith, nat_tests) in
        ap (λ b. cond (b && nat_eq n s.1) 0 (suc (rank (is_at_spot s) (λ y. true) (map (spotted x) (enumerate_from (n + 1) us) ++ ys)))) here
        ∙ ap (λ b. cond b 0 (suc (rank (is_at_spot s) (λ y. true) (map (spotted x) (enumerate_from (n + 1) us) ++ ys)))) later
        ∙ ap (λ k. suc k) (rank-own x e (n + 1) j us ys (omega (arith, h)) (omega (arith, l)))

    -- past its place none is left
    len-past : (x : ℕ × TreeLeaf C) (n : ℕ) (us : List U) (ys : List Spotted) → s.1 < n → len (is_at_spot s) ys ≡ 0
        → len (is_at_spot s) (map (spotted x) (enumerate_from n us) ++ ys) ≡ 0
    len-past x n [] ys l h = h
    len-past x n (u ∷ us) ys l h =
        let no : nat_eq n s.1 ≡ false = grind (arith, nat_tests) in
        ap (λ b. one_more_if (nat_eq x.0 s.0 && b) (len (is_at_spot s) (map (spotted x) (enumerate_from (n + 1) us) ++ ys))) no
        ∙ ap (λ b. one_more_if b (len (is_at_spot s) (map (spotted x) (enumerate_from (n + 1) us) ++ ys))) (neither (nat_eq x.0 s.0))
        ∙ len-past x (n + 1) us ys (omega arith) h
      where
        neither : (a : Bool) → (a && false) ≡ false
        neither true = refl
        neither false = refl

    len-own : (x : ℕ × TreeLeaf C) → x.0 ≡ s.0 → (n j : ℕ) (us : List U) (ys : List Spotted) → s.1 ≡ n + j → j < length us
        → len (is_at_spot s) ys ≡ 0 → len (is_at_spot s) (map (spotted x) (enumerate_from n us) ++ ys) ≡ 1
    len-own x e n j [] ys h l none = absurd (omega arith)
    len-own x e n zero (u ∷ us) ys h l none =
        let here : nat_eq x.0 s.0 ≡ true = eq-eqb x.0 s.0 e in
        let first : nat_eq n s.1 ≡ true = grind (arith, nat_tests) in
        ap (λ b. one_more_if (b && nat_eq n s.1) (len (is_at_spot s) (map (spotted x) (enumerate_from (n + 1) us) ++ ys))) here
        ∙ ap (λ b. one_more_if b (len (is_at_spot s) (map (spotted x) (enumerate_from (n + 1) us) ++ ys))) first
        ∙ ap (λ k. suc k) (len-past x (n + 1) us ys (omega (arith, h)) none)
    len-own x e n (suc j) (u ∷ us) ys h l none =
        let here : nat_eq x.0 s.0 ≡ true = eq-eqb x.0 s.0 e in
        let later : nat_eq n s.1 ≡ false = grind (arith, nat_tests) in
        ap (λ b. one_more_if (b && nat_eq n s.1) (len (is_at_spot s) (map (spotted x) (enumerate_from (n + 1) us) ++ ys))) here
        ∙ ap (λ b. one_more_if b (len (is_at_spot s) (map (spotted x) (enumerate_from (n + 1) us) ++ ys))) later
        ∙ len-own x e (n + 1) j us ys (omega (arith, h)) (omega (arith, l)) none

    -- a spot is on a leaf
    spot-live : (xs : Leaves) (j : ℕ) → spot_at units xs j ≡ Some s → 1 ≤ times_leaf xs s.0
    spot-live [] j h = absurd cc
    spot-live (x ∷ xs) j h = step (nat_lt j (length (units x.1.content))) h (spot-live xs (j - length (units x.1.content)))
      where
        step : (b : Bool) → cond b (Some (x.0, j)) (spot_at units xs (j - length (units x.1.content))) ≡ Some s
            → (spot_at units xs (j - length (units x.1.content)) ≡ Some s → 1 ≤ times_leaf xs s.0) → 1 ≤ times_leaf (x ∷ xs) s.0
        step true g ih =
            let same : x.0 ≡ s.0 = let is : (x.0, j) ≡ s = cc in ap (λ (o : ℕ × ℕ). o.0) is in
            let here : nat_eq x.0 s.0 ≡ true = eq-eqb x.0 s.0 same in
            subst (λ b. 1 ≤ cond b 1 0 + times_leaf xs s.0) (sym here) (omega arith)
        step false g ih = omega (arith, ih g)

    -- the spot at place j is that of the element at this place, and of no other
    pub record StandsAt (xs : Leaves) (j : ℕ) : Type 0 where
      pub place : rank (is_at_spot s) (λ y. true) (spots xs) ≡ j
      pub once : len (is_at_spot s) (spots xs) ≡ 1

    pub spot-stands : (xs : Leaves) (j : ℕ) → ((i : ℕ) → times_leaf xs i ≤ 1) → spot_at units xs j ≡ Some s → StandsAt xs j
    spot-stands [] j once h = absurd cc
    spot-stands (x ∷ xs) j once h =
        step (nat_lt j (length (units x.1.content))) refl h (spot-stands xs (j - length (units x.1.content)) (λ i. omega (arith, once i)))
        (spot-live xs (j - length (units x.1.content)))
      where
        n : ℕ
        n = length (units x.1.content)

        step : (b : Bool) → nat_lt j (length (units x.1.content)) ≡ b
            → cond b (Some (x.0, j)) (spot_at units xs (j - length (units x.1.content))) ≡ Some s
            → (spot_at units xs (j - length (units x.1.content)) ≡ Some s → StandsAt xs (j - length (units x.1.content)))
            → (spot_at units xs (j - length (units x.1.content)) ≡ Some s → 1 ≤ times_leaf xs s.0) → StandsAt (x ∷ xs) j
        step true e g ih live =
            let is : (x.0, j) ≡ s = cc in
            let node : x.0 ≡ s.0 = ap (λ (o : ℕ × ℕ). o.0) is in
            let place : s.1 ≡ 0 + j = sym (ap (λ (o : ℕ × ℕ). o.1) is) ∙ omega arith in
            let low : j < length (units x.1.content) = grind (arith, nat_tests) in
            let here : nat_eq x.0 s.0 ≡ true = eq-eqb x.0 s.0 node in
            let all : cond (nat_eq x.0 s.0) 1 0 + times_leaf xs s.0 ≤ 1 = once s.0 in
            let one : 1 + times_leaf xs s.0 ≤ 1 = subst (λ b. cond b 1 0 + times_leaf xs s.0 ≤ 1) here all in
            record {
              place = rank-own x node 0 j (units x.1.content) (spots xs) place low;
              once = len-own x node 0 j (units x.1.content) (spots xs) place low (len-gone xs (omega (arith, one)));
            }
        step false e g ih live =
            let past : length (units x.1.content) ≤ j = grind (arith, nat_tests) in
            let rest = ih g in
            let there : 1 ≤ times_leaf xs s.0 = live g in
            let all : cond (nat_eq x.0 s.0) 1 0 + times_leaf xs s.0 ≤ 1 = once s.0 in
            let away : nat_eq x.0 s.0 ≡ false = apart (nat_eq x.0 s.0) all there in
            record {
              place =
                  rank-seen (is_at_spot s) (λ y. true) (spotted x) (other-run x away) (λ u. refl) (spot_units x) (spots xs)
                  ∙ omega (arith, length-enumerate 0 (units x.1.content), rest.place, past);
              once = len-other x away (spot_units x) (spots xs) ∙ rest.once;
            }
          where
            apart : (b : Bool) → cond b 1 0 + times_leaf xs s.0 ≤ 1 → 1 ≤ times_leaf xs s.0 → b ≡ false
            apart true h l = absurd (omega arith)
            apart false h l = refl

  -- each place among the elements has a spot, and no other place
  spot-some : (xs : Leaves) (j : ℕ) → j < total units xs → (s : ℕ × ℕ) × (spot_at units xs j ≡ Some s)
  spot-some [] j h = absurd (omega arith)
  spot-some (x ∷ xs) j h = step (nat_lt j (length (units x.1.content))) refl (spot-some xs (j - length (units x.1.content)))
    where
      step : (b : Bool) → nat_lt j (length (units x.1.content)) ≡ b
          → (j - length (units x.1.content) < total units xs
          → (s : ℕ × ℕ) × (spot_at units xs (j - length (units x.1.content)) ≡ Some s))
          → (s : ℕ × ℕ) × (cond b (Some (x.0, j)) (spot_at units xs (j - length (units x.1.content))) ≡ Some s)
      step true e ih = ((x.0, j), refl)
      step false e ih = let past : length (units x.1.content) ≤ j = grind (arith, nat_tests) in ih (omega (arith, past, h))

  -- references that keep their spots, and stand inside the list before and after it
  pub refs-moved : (old new : TreeState C) (g : ℕ → ℕ) → KeepsSpots units old new
      → ((r j : ℕ) → reference_place old.refs r ≡ Some j → j < total units old.leaves)
      → ((r j : ℕ) → reference_place new.refs r ≡ Some j → j < total units new.leaves)
      → ((i j : ℕ) (s : ℕ × ℕ) → spot_at units old.leaves i ≡ Some s → spot_at units new.leaves j ≡ Some s → j ≡ g i)
      → ChangesReferences (with_place g) old.refs new.refs
  refs-moved old new g keeps inside inside' moves r =
      live (reference_at old.refs r) (reference_at new.refs r) (keeps.spots r) (keeps.acked r) (inside r) (inside' r)
    where
      place : (p q : Option ℕ) → option_and_then (spot_at units new.leaves) q ≡ option_and_then (spot_at units old.leaves) p
          → ((j : ℕ) → p ≡ Some j → j < total units old.leaves) → ((j : ℕ) → q ≡ Some j → j < total units new.leaves) → q ≡ option_map g p
      place None None e f h = refl
      place None (Some j) e f h = let spot = spot-some new.leaves j (h j refl) in absurd (let no : None ≡ Some spot.0 = sym e ∙ spot.1 in cc)
      place (Some i) None e f h = let spot = spot-some old.leaves i (f i refl) in absurd (let no : None ≡ Some spot.0 = e ∙ spot.1 in cc)
      place (Some i) (Some j) e f h =
          let spot = spot-some old.leaves i (f i refl) in
          ap (λ (k : ℕ). Some k) (moves i j spot.0 spot.1 (e ∙ spot.1))

      both : (x y : Reference) → y.place ≡ option_map g x.place → y.acked ≡ x.acked → Some y ≡ Some (with_place g x)
      both x y e h =
          let made : Option ℕ → Bool → Reference = λ p a. record { place = p; acked = a } in
          ap (λ p. Some (made p y.acked)) e ∙ ap (λ a. Some (made (option_map g x.place) a)) h

      live : (a b : Option Reference)
          → option_and_then (spot_at units new.leaves) (option_and_then (λ (x : Reference). x.place) b)
          ≡ option_and_then (spot_at units old.leaves) (option_and_then (λ (x : Reference). x.place) a)
          → option_map (λ (x : Reference). x.acked) b ≡ option_map (λ (x : Reference). x.acked) a
          → ((j : ℕ) → option_and_then (λ (x : Reference). x.place) a ≡ Some j → j < total units old.leaves)
          → ((j : ℕ) → option_and_then (λ (x : Reference). x.place) b ≡ Some j → j < total units new.leaves) → b ≡ option_map (with_place g) a
      live None None h k f q = refl
      live None (Some y) h k f q = absurd cc
      live (Some x) None h k f q = absurd cc
      live (Some x) (Some y) h k f q = let same : y.acked ≡ x.acked = cc in both x y (place x.place y.place h f q) same
