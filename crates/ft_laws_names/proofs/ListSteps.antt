-- Insertions and changes of elements in two lists side by side: what held of the names at each place still holds.
use Rattle.std.proofs.Common.{◌≡◌, ℕ, ◌+◌, ◌≤◌, ◌<◌, Bool, true, false, List, [], ◌∷◌, Option, None, refl, sym, ◌∙◌, ap, subst, length, arith}
use Rattle.ft_base.specs.declared.stamps.Stamp.{Stamp}
use Rattle.ft_base.specs.declared.stamps.Stamp.TheVariants.{Acked, Local}
use Rattle.ft_base.specs.Scan.{change_range_from, len, put}
use Rattle.ft_props.specs.Properties.{PropertyList}
use Rattle.ft_props.specs.Element.{ElementContent, ElementId, ListElement, PendingId, SequencedId, has_id, id, id_of_stamp, new_elements, same_id}
use Rattle.ft_props.specs.Steps.{Sequence}
use Rattle.ft_laws_agreement.proofs.AgreedStage.{len-put-add}
use Rattle.ft_laws_agreement.proofs.RangesOfLists.{len-range}
use Rattle.ft_laws_agreement.proofs.SlidEnds.{same_id-eq}
use Rattle.ft_laws_names.specs.WellNamed.{IsUnused, IsWellNumbered}
use Rattle.ft_laws_names.proofs.Beside.{beside-more, beside-put, beside-range, ends, next}
use Rattle.ft_laws_names.proofs.NumberedLists.{KeepsNames, kept-id}
use Rattle.ft_laws_names.proofs.Twins.{BesideList, IsTwin, Named, StandAlike, there-other, twins-of}

-- two lists whose elements differ in their numbers alone, each well numbered
pub record ListsAlike (last : ℕ) (l m : Sequence) : Type 0 where
  pub left : IsWellNumbered last l
  pub right : IsWellNumbered last m
  pub twins : BesideList IsTwin l.items m.items

-- no element has an unused name
pub unused-absent : (last : ℕ) (list : Sequence) (a : ElementId) → IsWellNumbered last list → IsUnused list.made last a → len (has_id a) list.items ≡ 0
unused-absent last list (SequencedId n) h u = h.below n u
unused-absent last list (PendingId k n) h u = let none = h.stages k u in h.counted k n (omega arith)

pub unused-other : (last : ℕ) (list : Sequence) (a i : ElementId) → IsWellNumbered last list → 1 ≤ len (has_id a) list.items → IsUnused list.made last i → same_id a i ≡ false
unused-other last list a i h l u = step (same_id a i) refl
  where
    step : (b : Bool) → same_id a i ≡ b → same_id a i ≡ false
    step false e = e
    step true e =
        let same = same_id-eq a i e in
        let none = subst (λ j. len (has_id j) list.items ≡ 0) (sym same) (unused-absent last list i h u) in
        absurd (omega arith)

-- a step of two lists: what holds of the names at each place still holds, where it holds of unused names; and the names that
-- stood in the first list stand there
pub record ListStep (last : ℕ) (l m after other : Sequence) : Type 1 where
  pub carries : (P : ElementId → ElementId → Type 0) → ((a b : ElementId) → IsUnused l.made last a → IsUnused m.made last b → P a b)
      → BesideList (Named P) l.items m.items → BesideList (Named P) after.items other.items
  pub stay : (a : ElementId) → 1 ≤ len (has_id a) l.items → 1 ≤ len (has_id a) after.items

pub step-stands : (last : ℕ) (l m after other : Sequence) → ListStep last l m after other → ListsAlike last l m → (a b : ElementId)
    → StandAlike l.items m.items a b → StandAlike after.items other.items a b
step-stands last l m after other s h a b t = record {
  there = s.stay a t.there;
  twins = s.carries (λ i j. same_id a i ≡ same_id b j) (λ i j u v. unused-other last l a i h.left t.there u ∙ sym (unused-other last m b j h.right (there-other t) v)) t.twins;
}

pub step-twins : (last : ℕ) (l m after other : Sequence) → ListStep last l m after other → BesideList IsTwin l.items m.items → BesideList IsTwin after.items other.items
step-twins last l m after other s t = twins-of (λ a b. Unit {0}) (s.carries (λ a b. Unit {0}) (λ a b u v. tt) (beside-more (λ x y q. (q, tt)) t))

-- ---- new elements

new-twins : (P : ElementId → ElementId → Type 0) (by : Option Stamp) (props : PropertyList) (t : Stamp) (n m : ℕ)
    → ((i j : ℕ) → n ≤ i → m ≤ j → P (id_of_stamp t i) (id_of_stamp t j)) → (bs : List ElementContent)
    → BesideList (Named P) (new_elements n t [] by props bs) (new_elements m t [] by props bs)
new-twins P by props t n m h [] = ends
new-twins P by props t n m h (b ∷ bs) = next (refl, h n m (omega arith) (omega arith)) (new-twins P by props t (n + 1) (m + 1) (λ i j l g. h i j (omega arith) (omega arith)) bs)

more-there : (m n : ℕ) → 1 ≤ n → 1 ≤ m + n
more-there m n l = omega arith

module _ (test past : ListElement → Bool) (sees : (x y : ListElement) → IsTwin x y → test x ≡ test y)
    (goes : (x y : ListElement) → IsTwin x y → past x ≡ past y) (last p : ℕ) (l m : Sequence) where
  put-step : (made other : ℕ) (new new' : List ListElement)
      → ((P : ElementId → ElementId → Type 0) → ((a b : ElementId) → IsUnused l.made last a → IsUnused m.made last b → P a b) → BesideList (Named P) new new')
      → ListStep last l m (record { items = put test past p new l.items; made = made }) (record { items = put test past p new' m.items; made = other })
  put-step made other new new' news = record {
    carries = λ P u h. beside-put test test (λ x y q. sees x y q.0) past past (λ x y q. goes x y q.0) (news P u) p h;
    stay = λ a g. subst (λ n. 1 ≤ n) (sym (len-put-add (has_id a) test past p new l.items)) (more-there _ _ g);
  }

  -- new sequenced elements, numbered in each list
  pub insertion-step : (s c : ℕ) (by : Option Stamp) (props : PropertyList) (bs : List ElementContent)
      → ListStep last l m (record { items = put test past p (new_elements l.made (Acked s c) [] by props bs) l.items; made = l.made + length bs })
      (record { items = put test past p (new_elements m.made (Acked s c) [] by props bs) m.items; made = m.made + length bs })
  insertion-step s c by props bs = put-step (l.made + length bs) (m.made + length bs) _ _
      (λ P u. new-twins P by props (Acked s c) l.made m.made (λ i j g h. u (SequencedId i) (SequencedId j) g h) bs)

  -- new elements of a later stage
  pub local-step : (k : ℕ) → last < k → (props : PropertyList) (bs : List ElementContent)
      → ListStep last l m (record { items = put test past p (new_elements 0 (Local k) [] None props bs) l.items; made = l.made })
      (record { items = put test past p (new_elements 0 (Local k) [] None props bs) m.items; made = m.made })
  local-step k later props bs = put-step l.made m.made _ _ (λ P u. new-twins P None props (Local k) 0 0 (λ i j g h. u (PendingId k i) (PendingId k j) later later) bs)

-- changes that don't look at names
pub record KeepsTwins (f : ListElement → ListElement) : Type 0 where
  pub names : KeepsNames f
  pub twins : (x y : ListElement) → IsTwin x y → IsTwin (f x) (f y)

pub range-step : (test : ListElement → Bool) → ((x y : ListElement) → IsTwin x y → test x ≡ test y) → (last i p q : ℕ) (f : ListElement → ListElement)
    → KeepsTwins f → (l m : Sequence)
    → ListStep last l m (record l { items = change_range_from i test p q f l.items }) (record m { items = change_range_from i test p q f m.items })
range-step test sees last i p q f k l m = record {
  carries = λ P u h. beside-range test test (λ x y r. sees x y r.0) f f (λ x y r.
      (k.twins x y r.0, subst (λ a. P a (id (f y))) (sym (kept-id f k.names x)) (subst (λ b. P (id x) b) (sym (kept-id f k.names y)) r.1))) i p q h;
  stay = λ a g. subst (λ n. 1 ≤ n) (sym (len-range (has_id a) test f (λ e. ap (same_id a) (kept-id f k.names e)) p q i l.items)) g;
}

pub same-step : (last : ℕ) (l m : Sequence) → ListStep last l m l m
same-step last l m = record { carries = λ P u h. h; stay = λ a g. g }
