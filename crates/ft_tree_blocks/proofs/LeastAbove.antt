-- The least number above another one among those of some leaves: it is what bounds them from below and is one of them.
use Rattle.std.proofs.Common.{◌≡◌, ℕ, ◌<◌, ◌≤◌, All, Bool, true, false, cond, ◌||◌, List, [], ◌∷◌, ◌++◌, flat_map, inl, inr, length, map, Option, Some, None, refl, sym, ◌∙◌, ap, arith, nat_eq, nat_lt}
use Rattle.std.specs.Prelude.{⊤}
use Rattle.std.specs.List.{filter_map, list_any}
use Rattle.std.proofs.lemmas.Bool.{cases_eq, eq-eqb, ne_eqb, or_cases, or_left, or_right}
use Rattle.std.proofs.lemmas.Bool.Decides.{nat_tests}
use Rattle.std.proofs.lemmas.List.Elements.{All-head, All-tail}
use Rattle.ft_base.specs.declared.elements.Element.{Element as ElementStamps}
use Rattle.ft_base.specs.declared.stamps.Stamp.{Stamp}
use Rattle.ft_base.specs.declared.stamps.Stamp.TheVariants.{Acked, Local}
use Rattle.ft_base.specs.Visibility.{is_of_stage}
use Rattle.ft_block.specs.Leaves.{times_leaf, value_at}
use Rattle.ft_props.specs.Overlay.{OverlayState}
use Rattle.ft_tree_leaves.specs.declared.leaves.TreeLeaf.{TreeLeaf}
use Rattle.ft_tree_leaves.specs.Edits.{is_touched_by, least_above, lesser, next_pending_above, next_removal_above, stage_of, stages_on}
use Rattle.ft_tree_leaves.specs.Elements.{TreeElement, element_with}
use Rattle.ft_tree_leaves.specs.LeafLists.{elements}
use Rattle.ft_tree_blocks.specs.declared.next_stages.Wanted.{Wanted}
use Rattle.ft_tree_blocks.specs.declared.next_stages.Wanted.TheVariants.{Anything, Removal}
use Rattle.ft_tree_blocks.specs.Touched.{holds}
use Rattle.ft_tree_blocks.specs.Wanted.{IsLeastStage, has_wanted, is_wanted_at, is_wanted_by}
use Rattle.ft_tree_blocks.proofs.AckedNodes.{of_first, of_rest}
use Rattle.ft_tree_blocks.proofs.TouchedLists.{eq_from, eq_to, holds-append, or_again, or_assoc}

-- the number, if there is one, isn't below m
abbrev IsFrom : ℕ → Option ℕ → Type 0
IsFrom m None = ⊤
IsFrom m (Some n) = m ≤ n

lesser_from : (m n : ℕ) (o : Option ℕ) → m ≤ n → IsFrom m o → m ≤ lesser n o
lesser_from m n None le h = le
lesser_from m n (Some k) le h = grind (arith, nat_tests)

lesser_left : (m : ℕ) (o : Option ℕ) → IsFrom m o → lesser m o ≡ m
lesser_left m None h = refl
lesser_left m (Some k) h = grind (arith, nat_tests)

lesser_right : (m n : ℕ) → m ≤ n → lesser n (Some m) ≡ m
lesser_right m n h = grind (arith, nat_tests)

from_by : (m k j : ℕ) (b : Bool) (o : Option ℕ) → nat_lt k j ≡ b → (k < j → m ≤ j) → IsFrom m o → IsFrom m (cond b (Some (lesser j o)) o)
from_by m k j true o e low h = lesser_from m j o (low (grind (arith, nat_tests))) h
from_by m k j false o e low h = h

numbers_from : (m k : ℕ) (ns : List ℕ) → ((j : ℕ) → k < j → holds ns j ≡ true → m ≤ j) → IsFrom m (least_above k ns)
numbers_from m k [] low = tt
numbers_from m k (n ∷ ns) low =
    from_by m k n (nat_lt k n) (least_above k ns) refl
    (λ lt. low n lt (or_left (nat_eq n n) (holds ns n) (eq_to n)))
    (numbers_from m k ns (λ i lt t. low i lt (or_right (nat_eq n i) (holds ns i) t)))

here_by : (m k j : ℕ) (b : Bool) (o : Option ℕ) → nat_lt k j ≡ b → k < m → j ≡ m → IsFrom m o → cond b (Some (lesser j o)) o ≡ Some m
here_by m k j true o e lt same h = ap (λ n. Some (lesser n o)) same ∙ ap (λ n. Some n) (lesser_left m o h)
here_by m k j false o e lt same h = absurd (grind (arith, nat_tests))

there_by : (m k j : ℕ) (b : Bool) (o : Option ℕ) → nat_lt k j ≡ b → (k < j → m ≤ j) → o ≡ Some m → cond b (Some (lesser j o)) o ≡ Some m
there_by m k j true o e low h =
    let le : m ≤ j = low (grind (arith, nat_tests)) in
    ap (λ p. Some (lesser j p)) h ∙ ap (λ n. Some n) (lesser_right m j le)
there_by m k j false o e low h = h

numbers_reach : (m k : ℕ) (ns : List ℕ) → k < m → ((j : ℕ) → k < j → holds ns j ≡ true → m ≤ j) → holds ns m ≡ true → least_above k ns ≡ Some m
numbers_reach m k [] lt low t = (cc)
numbers_reach m k (n ∷ ns) lt low t =
    let rest : (i : ℕ) → k < i → holds ns i ≡ true → m ≤ i = λ i up h. low i up (or_right (nat_eq n i) (holds ns i) h) in
    elim (or_cases (nat_eq n m) (holds ns m) t) [
      | inl own ↦ here_by m k n (nat_lt k n) (least_above k ns) refl lt (eq_from n m own) (numbers_from m k ns rest)
      | inr more ↦ there_by m k n (nat_lt k n) (least_above k ns) refl
          (λ up. low n up (or_left (nat_eq n n) (holds ns n) (eq_to n))) (numbers_reach m k ns lt rest more)
    ]

none_by : (k j : ℕ) (b : Bool) (o : Option ℕ) → nat_lt k j ≡ b → (k < j → ⊥) → o ≡ None → cond b (Some (lesser j o)) o ≡ None
none_by k j true o e low h = absurd (low (grind (arith, nat_tests)))
none_by k j false o e low h = h

numbers_none : (k : ℕ) (ns : List ℕ) → ((j : ℕ) → k < j → holds ns j ≡ true → ⊥) → least_above k ns ≡ None
numbers_none k [] low = refl
numbers_none k (n ∷ ns) low =
    none_by k n (nat_lt k n) (least_above k ns) refl
    (λ lt. low n lt (or_left (nat_eq n n) (holds ns n) (eq_to n)))
    (numbers_none k ns (λ i lt t. low i lt (or_right (nat_eq n i) (holds ns i) t)))

-- the least stage at which a node passes a test, where the numbers are those at which one does
least_is : (k : ℕ) (ns : List ℕ) (test : ℕ → ℕ → Bool) (r : Option ℕ) → ((j : ℕ) → holds ns j ≡ true → (z : ℕ) × (test j z ≡ true))
    → ((j z : ℕ) → test j z ≡ true → holds ns j ≡ true) → IsLeastStage k test r → r ≡ least_above k ns
least_is k ns test None passed held h = sym (numbers_none k ns (λ j lt t. let z = passed j t in h j z.0 lt z.1))
least_is k ns test (Some m) passed held h =
    sym (numbers_reach m k ns h.0 (λ j lt t. let z = passed j t in h.2 j z.0 lt z.1) (held m h.1.0 h.1.1))

-- a leaf of the list has what is wanted, and so has the leaf of a node
module _ {L : Type 0} (test : L → Bool) where
  any-value : (xs : List (ℕ × L)) → ((i : ℕ) → times_leaf xs i ≤ 1) → list_any (λ x. test x.1) xs ≡ true
      → (z : ℕ) × (v : L) × (value_at xs z ≡ Some v) × (test v ≡ true)
  any-value [] once h = (cc)
  any-value (x ∷ xs) once h = elim (or_cases (test x.1) (list_any (λ y. test y.1) xs) h) [
    | inl here ↦ (x.0, x.1, of_first x xs, here)
    | inr more ↦
        let rest = any-value xs (λ i. omega (arith, once i)) more in
        (rest.0, rest.1, of_rest x xs rest.0 rest.1 (once x.0) rest.2, rest.3)
  ]

  value-any : (xs : List (ℕ × L)) (z : ℕ) (v : L) → value_at xs z ≡ Some v → test v ≡ true → list_any (λ x. test x.1) xs ≡ true
  value-any [] z v e h = (cc)
  value-any (x ∷ xs) z v e h = elim (cases_eq x.0 z) [
    | inl same ↦
        let here : x.1 ≡ v = (let both : Some x.1 ≡ Some v = sym (ap (λ b. cond b (Some x.1) (value_at xs z)) (eq-eqb x.0 z same)) ∙ e in (cc)) in
        or_left (test x.1) (list_any (λ y. test y.1) xs) (ap test here ∙ h)
    | inr d ↦
        or_right (test x.1) (list_any (λ y. test y.1) xs)
        (value-any xs z v (sym (ap (λ b. cond b (Some x.1) (value_at xs z)) (ne_eqb x.0 z d)) ∙ e) h)
  ]

-- the stages of stamps
stages-held : (j : ℕ) (ts : List Stamp) → holds (filter_map stage_of ts) j ≡ list_any (is_of_stage j) ts
stages-held j [] = refl
stages-held j (Acked s c ∷ ts) = stages-held j ts
stages-held j (Local k ∷ ts) = ap (λ b. nat_eq k j || b) (stages-held j ts)

-- of all removal marks of the elements
module _ {U : Type 0} (j : ℕ) (s : ElementStamps) (author : Option Stamp) (overlay : OverlayState) where
  -- elements with the same stamps, and the rest
  run-held : (us : List U) (ys : List (TreeElement U)) → 1 ≤ length us
      → holds (flat_map (λ e. filter_map stage_of e.stamps.dels) (map (element_with s author overlay) us ++ ys)) j
      ≡ (list_any (is_of_stage j) s.dels || holds (flat_map (λ e. filter_map stage_of e.stamps.dels) ys) j)
  run-held [] ys some = absurd (omega arith)
  run-held (u ∷ []) ys some =
      let rest = flat_map (λ (e : TreeElement U). filter_map stage_of e.stamps.dels) ys in
      holds-append (filter_map stage_of s.dels) rest j ∙ ap (λ b. b || holds rest j) (stages-held j s.dels)
  run-held (u ∷ v ∷ us) ys some =
      let rest = flat_map (λ (e : TreeElement U). filter_map stage_of e.stamps.dels) (map (element_with s author overlay) (v ∷ us) ++ ys) in
      let end = holds (flat_map (λ (e : TreeElement U). filter_map stage_of e.stamps.dels) ys) j in
      holds-append (filter_map stage_of s.dels) rest j
      ∙ ap (λ b. b || holds rest j) (stages-held j s.dels)
      ∙ ap (λ b. list_any (is_of_stage j) s.dels || b) (run-held (v ∷ us) ys (omega arith))
      ∙ or_again (list_any (is_of_stage j) s.dels) end

removals-held : {C U : Type 0} (units : C → List U) (by : C → Option Stamp) (j : ℕ) (xs : List (ℕ × TreeLeaf C)) → All (λ x. 1 ≤ length (units x.1.content)) xs
    → holds (flat_map (λ e. filter_map stage_of e.stamps.dels) (elements units by xs)) j ≡ list_any (λ x. list_any (is_of_stage j) x.1.stamps.dels) xs
removals-held units by j [] some = refl
removals-held {C} units by j (x ∷ xs) some =
    run-held j x.1.stamps (by x.1.content) x.1.overlay (units x.1.content) (elements units by xs)
    (All-head (λ (y : ℕ × TreeLeaf C). 1 ≤ length (units y.1.content)) x xs some)
    ∙ ap (λ b. list_any (is_of_stage j) x.1.stamps.dels || b)
    (removals-held units by j xs (All-tail (λ (y : ℕ × TreeLeaf C). 1 ≤ length (units y.1.content)) x xs some))

-- of all that is pending
changes-held : {A : Type 0} (j : ℕ) (cs : List (ℕ × A)) → holds (map (λ c. c.0) cs) j ≡ list_any (λ c. nat_eq c.0 j) cs
changes-held j [] = refl
changes-held j (c ∷ cs) = ap (λ b. nat_eq c.0 j || b) (changes-held j cs)

leaf-held : {C : Type 0} (j : ℕ) (x : TreeLeaf C) → holds (stages_on x) j ≡ is_touched_by j x
leaf-held j x =
    let stamps = filter_map stage_of (x.stamps.ins ∷ x.stamps.dels) in
    let changed = list_any (λ c. nat_eq c.0 j) x.overlay.pending in
    holds-append stamps (map (λ c. c.0) x.overlay.pending) j
    ∙ ap (λ b. holds stamps j || b) (changes-held j x.overlay.pending)
    ∙ ap (λ b. b || changed) (stages-held j (x.stamps.ins ∷ x.stamps.dels))
    ∙ sym (or_assoc (is_of_stage j x.stamps.ins) (list_any (is_of_stage j) x.stamps.dels) changed)

pub pending-held : {C : Type 0} (j : ℕ) (xs : List (ℕ × TreeLeaf C)) → holds (flat_map (λ x. stages_on x.1) xs) j ≡ list_any (λ x. is_touched_by j x.1) xs
pending-held j [] = refl
pending-held {C} j (x ∷ xs) =
    let rest = flat_map (λ (y : ℕ × TreeLeaf C). stages_on y.1) xs in
    holds-append (stages_on x.1) rest j
    ∙ ap (λ b. b || holds rest j) (leaf-held j x.1)
    ∙ ap (λ b. is_touched_by j x.1 || b) (pending-held j xs)

-- a leaf with what is wanted
pub wanted_value : {C : Type 0} (w : Wanted) (j : ℕ) (o : Option (TreeLeaf C)) → is_wanted_by w j o ≡ true
    → (v : TreeLeaf C) × (o ≡ Some v) × (has_wanted w j v ≡ true)
wanted_value w j None h = (cc)
wanted_value w j (Some v) h = (v, refl, h)

module _ {C : Type 0} (xs : List (ℕ × TreeLeaf C)) (once : (i : ℕ) → times_leaf xs i ≤ 1) (k : ℕ) (r : Option ℕ) where
  pub least_removal : {U : Type 0} (units : C → List U) (by : C → Option Stamp) → All (λ x. 1 ≤ length (units x.1.content)) xs
      → IsLeastStage k (is_wanted_at Removal xs) r → r ≡ next_removal_above k (elements units by xs)
  least_removal {U} units by some h =
      let marks : ℕ → TreeLeaf C → Bool = λ j v. list_any (is_of_stage j) v.stamps.dels in
      least_is k (flat_map (λ (e : TreeElement U). filter_map stage_of e.stamps.dels) (elements units by xs)) (is_wanted_at Removal xs) r
      (λ j t. let v = any-value (marks j) xs once (sym (removals-held units by j xs some) ∙ t) in (v.0, ap (is_wanted_by Removal j) v.2 ∙ v.3))
      (λ j z t. let v = wanted_value Removal j (value_at xs z) t in removals-held units by j xs some ∙ value-any (marks j) xs z v.0 v.1 v.2)
      h

  pub least_pending : IsLeastStage k (is_wanted_at Anything xs) r → r ≡ next_pending_above k xs
  least_pending h =
      least_is k (flat_map (λ (x : ℕ × TreeLeaf C). stages_on x.1) xs) (is_wanted_at Anything xs) r
      (λ j t. let v = any-value (is_touched_by j) xs once (sym (pending-held j xs) ∙ t) in (v.0, ap (is_wanted_by Anything j) v.2 ∙ v.3))
      (λ j z t. let v = wanted_value Anything j (value_at xs z) t in pending-held j xs ∙ value-any (is_touched_by j) xs z v.0 v.1 v.2)
      h
