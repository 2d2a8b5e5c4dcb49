-- The leaf that a search by a measure finds, as leaves before it and behind it.
use Rattle.std.proofs.Common.{◌≡◌, ℕ, ◌+◌, ◌-◌, ◌<◌, ◌≤◌, Bool, true, false, cond, List, [], ◌∷◌, ◌++◌, Option, Some, None, Result, Ok, Err, nat_eq, nat_le, subst, refl, sym, ◌∙◌, ap, inl, inr, arith}
use Rattle.std.specs.Prelude.{IfOk, IfErr}
use Rattle.std.specs.Result.{result_ok}
use Rattle.std.proofs.lemmas.Bool.{cases_lt, cond-false, cond-true, le-leb, lt-leb, ne_eqb}
use Rattle.ft_base.specs.declared.stamps.Stamp.{Stamp}
use Rattle.ft_base.specs.Scan.{len}
use Rattle.ft_block.specs.declared.blocks.Found.{Found}
use Rattle.ft_block.specs.declared.blocks.OutOfRange.{OutOfRange}
use Rattle.ft_block.specs.declared.leaves.LenView.{LenView}
use Rattle.ft_block.specs.Leaves.{left_of, length_by, place_by, place_from}
use Rattle.ft_tree_leaves.specs.declared.leaves.TreeLeaf.{TreeLeaf}
use Rattle.ft_tree_leaves.specs.Elements.{seen_in}
use Rattle.ft_tree_leaves.specs.LeafLists.{elements, leaf_elements, leaf_length}
use Rattle.ft_tree_leaves.proofs.LeafRuns.{leaf-length}
use Rattle.ft_tree_leaves.proofs.Runs.{len-append}
use Rattle.ft_tree_blocks.specs.Walks.{from_leaf}

module _ {L : Type 0} (f : L → ℕ) where
  none_from : (xs : List (ℕ × L)) (p : ℕ) → length_by f xs < p → place_from f xs p ≡ None
  none_from [] p h = refl
  none_from (x ∷ xs) p h =
      let more : f x.1 < p = omega arith in
      cond-false (nat_le p (f x.1)) _ _ (lt-leb p (f x.1) more) ∙ none_from xs (p - f x.1) (omega arith)

  -- there is no place beyond what is seen
  pub none_beyond : (xs : List (ℕ × L)) (p : ℕ) → length_by f xs < p → place_by f xs p ≡ None
  none_beyond xs p h = cond-false (nat_eq p 0) _ _ (ne_eqb p 0 (omega arith)) ∙ none_from xs p h

  -- a search that tells the place, or the length seen where the place is beyond it
  pub place-found : (xs : List (ℕ × L)) (p : ℕ) (r : Result Found OutOfRange) → IfOk r (λ found. place_by f xs p ≡ Some found)
      → IfErr r (λ e. e.length ≡ length_by f xs) → IfErr r (λ e. e.length < p) → result_ok r ≡ place_by f xs p
  place-found xs p (Ok found) is length beyond = sym is
  place-found xs p (Err e) is length beyond = sym (none_beyond xs p (subst (λ n. n < p) length beyond))

  pub beyond_from : (xs : List (ℕ × L)) (p : ℕ) → 0 < p → place_from f xs p ≡ None → length_by f xs < p
  beyond_from [] p some e = some
  beyond_from (x ∷ xs) p some e = elim (cases_lt (f x.1) p) [
    | inl later ↦
        let rest : place_from f xs (p - f x.1) ≡ None = sym (cond-false (nat_le p (f x.1)) _ _ (lt-leb p (f x.1) later)) ∙ e in
        omega (arith, beyond_from xs (p - f x.1) (omega arith) rest)
    | inr here ↦
        let found : Found = record { leaf = Some x.0; offset = p } in
        let first : Some found ≡ None =
        sym (cond-true (nat_le p (f x.1)) (Some found) (place_from f xs (p - f x.1)) (le-leb p (f x.1) here)) ∙ e in
        let no : ⊥ = (cc) in
        absurd no
  ]

  -- and where there is none, no more is seen
  pub beyond_none : (xs : List (ℕ × L)) (p : ℕ) → 0 < p → place_by f xs p ≡ None → length_by f xs < p
  beyond_none xs p some e = beyond_from xs p some (sym (cond-false (nat_eq p 0) _ _ (ne_eqb p 0 (omega arith))) ∙ e)

  -- behind the leaves left of a node a search goes on from there
  pub place-skips : (xs : List (ℕ × L)) (id p : ℕ) → 1 ≤ p → place_from f xs (length_by f (left_of xs id) + p) ≡ place_from f (from_leaf xs id) p
  place-skips [] id p some = refl
  place-skips (x ∷ xs) id p some = step (nat_eq x.0 id) (place-skips xs id p some)
    where
      step : (b : Bool) → place_from f xs (length_by f (left_of xs id) + p) ≡ place_from f (from_leaf xs id) p
          → place_from f (x ∷ xs) (length_by f (cond b [] (x ∷ left_of xs id)) + p) ≡ place_from f (cond b (x ∷ xs) (from_leaf xs id)) p
      step true h = ap (place_from f (x ∷ xs)) (omega arith)
      step false h =
          let n = length_by f (left_of xs id) in
          let k = f x.1 + n + p in
          let rest : k - f x.1 ≡ n + p = omega arith in
          cond-false (nat_le k (f x.1)) _ _ (lt-leb k (f x.1) (omega arith)) ∙ ap (place_from f xs) rest ∙ h

  -- a search within the first leaves is one of these alone
  pub place-front : (xs ys : List (ℕ × L)) (p : ℕ) → p ≤ length_by f xs → 1 ≤ p → place_from f (xs ++ ys) p ≡ place_from f xs p
  place-front [] ys p le some = absurd (omega arith)
  place-front (x ∷ xs) ys p le some = elim (cases_lt (f x.1) p) [
    | inl later ↦
        cond-false (nat_le p (f x.1)) _ _ (lt-leb p (f x.1) later) ∙ place-front xs ys (p - f x.1) (omega arith) (omega arith)
        ∙ sym (cond-false (nat_le p (f x.1)) _ _ (lt-leb p (f x.1) later))
    | inr here ↦ cond-true (nat_le p (f x.1)) _ _ (le-leb p (f x.1) here) ∙ sym (cond-true (nat_le p (f x.1)) _ _ (le-leb p (f x.1) here))
  ]

  -- the leaf that was found stands there, with leaves before it and behind it
  pub record StandsIn (xs : List (ℕ × L)) (found : Found) : Type 0 where
    pub before : List (ℕ × L)
    pub id : ℕ
    pub value : L
    pub behind : List (ℕ × L)
    pub is : xs ≡ before ++ (id, value) ∷ behind
    pub some : 1 ≤ f value
    pub leaf : found.leaf ≡ Some id

  leaf_of : (id p : ℕ) (found : Found) → Some record { leaf = Some id; offset = p } ≡ Some found → found.leaf ≡ Some id
  leaf_of id p found e = (cc)

  -- the first one that has some
  pub record StandsFirst (xs : List (ℕ × L)) (found : Found) : Type 0 where
    pub there : StandsIn xs found
    pub none : length_by f there.before ≡ 0

  pub stands_first : (xs : List (ℕ × L)) (found : Found) → place_from f xs 1 ≡ Some found → StandsFirst xs found
  stands_first [] found e = (cc)
  stands_first (x ∷ xs) found e = elim (cases_lt (f x.1) 1) [
    | inl later ↦
        let same : 1 - f x.1 ≡ 1 = omega arith in
        let rest : place_from f xs 1 ≡ Some found = ap (place_from f xs) (sym same) ∙ sym (cond-false (nat_le 1 (f x.1)) _ _ (lt-leb 1 (f x.1)
        later)) ∙ e in
        let r = stands_first xs found rest in
        record {
          there = record {
            before = x ∷ r.there.before;
            id = r.there.id;
            value = r.there.value;
            behind = r.there.behind;
            is = ap (λ ys. x ∷ ys) r.there.is;
            some = r.there.some;
            leaf = r.there.leaf;
          };
          none = omega (arith, r.none);
        }
    | inr here ↦
        let first : Some record { leaf = Some x.0; offset = 1 } ≡ Some found = sym (cond-true (nat_le 1 (f x.1)) _ _ (le-leb 1 (f x.1) here)) ∙ e in
        record {
          there = record { before = []; id = x.0; value = x.1; behind = xs; is = refl; some = here; leaf = leaf_of x.0 1 found first };
          none = refl;
        }
  ]

  -- the last one that has some
  pub record StandsLast (xs : List (ℕ × L)) (found : Found) : Type 0 where
    pub there : StandsIn xs found
    pub none : length_by f there.behind ≡ 0

  pub stands_last : (xs : List (ℕ × L)) (p : ℕ) (found : Found) → 1 ≤ p → p ≡ length_by f xs → place_from f xs p ≡ Some found → StandsLast xs found
  stands_last [] p found some all e = (cc)
  stands_last (x ∷ xs) p found some all e = elim (cases_lt (f x.1) p) [
    | inl later ↦
        let rest : place_from f xs (p - f x.1) ≡ Some found = sym (cond-false (nat_le p (f x.1)) _ _ (lt-leb p (f x.1) later)) ∙ e in
        let r = stands_last xs (p - f x.1) found (omega arith) (omega arith) rest in
        record {
          there = record {
            before = x ∷ r.there.before;
            id = r.there.id;
            value = r.there.value;
            behind = r.there.behind;
            is = ap (λ ys. x ∷ ys) r.there.is;
            some = r.there.some;
            leaf = r.there.leaf;
          };
          none = r.none;
        }
    | inr here ↦
        let first : Some record { leaf = Some x.0; offset = p } ≡ Some found = sym (cond-true (nat_le p (f x.1)) _ _ (le-leb p (f x.1) here)) ∙ e in
        record {
          there = record { before = []; id = x.0; value = x.1; behind = xs; is = refl; some = omega arith; leaf = leaf_of x.0 p found first };
          none = omega arith;
        }
  ]

module _ {C U : Type 0} (units : C → List U) (by : C → Option Stamp) where
  -- what is seen of all leaves
  pub len_elements : (view : LenView) (xs : List (ℕ × TreeLeaf C)) → len (seen_in view) (elements units by xs) ≡ length_by (leaf_length units view) xs
  len_elements view [] = refl
  len_elements view (x ∷ xs) =
      omega (
        arith,
        len-append (seen_in view) (leaf_elements units by x.1) (elements units by xs),
        leaf-length units by view x.1,
        len_elements view xs,
      )
