-- The elements that a stage names by their places: how they go on where the list changes.
use Rattle.std.proofs.Common.{◌≡◌, ℕ, zero, suc, Bool, true, false, List, [], ◌∷◌, ◌++◌, Option, Some, None, map, ℤ, pos, negsuc, refl, sym, ◌∙◌, ap, subst, arith, append-nil}
use Rattle.std.specs.List.{list_all, list_any}
use Rattle.std.specs.Option.{option_map}
use Rattle.ft_base.specs.Scan.{at, change_range, change_range_from, len, put, put_past}
use Rattle.ft_op.specs.declared.operations.Ends.{Ends}
use Rattle.ft_props.specs.Element.{ElementId, ListElement, id}
use Rattle.ft_op.specs.Intervals.{NamedElements, element_at_end}
use Rattle.ft_op.specs.Document.{elements_at_given_ends, ends_of, given_ends_fit}
use Rattle.ft_msg.specs.Acknowledgement.{renamed, renamed_names}
use Rattle.ft_laws_agreement.proofs.StageEdits.{change_ranges}
use Rattle.ft_laws_agreement.proofs.SentStages.{SentStage, TextPut, TextTaken, TextAnnotated, IntervalsChanged, UnitsPut, UnitsTaken, CellWritten, IsOneName, NamesBy}
use Rattle.ft_laws_agreement.proofs.RangesOfLists.{len-ranges}
use Rattle.ft_props.proofs.PlacedInsertion.{len-put}

-- one test sees in one list what another sees in another, under a renaming
pub record SeenAs (test test' : ListElement → Bool) (h : ElementId → ElementId) (xs ys : List ListElement) : Type 0 where
  pub count : len test' ys ≡ len test xs
  pub names : (i : ℕ) → option_map id (at test' i ys) ≡ renamed h (option_map id (at test i xs))

renamed-none : (h : ElementId → ElementId) (e : Option ListElement) → e ≡ None → renamed h (option_map id e) ≡ None
renamed-none h e f = ap (λ o. renamed h (option_map id o)) f

module _ (test test' : ListElement → Bool) (h : ElementId → ElementId) (text text' rows rows' cols cols' : List ListElement) (s : SeenAs test test' h text text') where
  end-as : (z : ℤ) → element_at_end test' text' z ≡ renamed h (element_at_end test text z)
  end-as (pos p) = s.names p
  end-as (negsuc p) = refl

  ends-as : (ends : Option Ends) → elements_at_given_ends test' text' ends ≡ renamed_names h (elements_at_given_ends test text ends)
  ends-as None = refl
  ends-as (Some ends) = rw (end-as ends.start, end-as ends.end) refl

  one-as : (o o' a : Option ElementId) → o' ≡ renamed h o → IsOneName o a → IsOneName o' (renamed h a)
  one-as (Some x) o' (Some a) e g = subst (λ p. IsOneName p (Some (h a))) (sym e) (ap h g)
  one-as (Some x) o' None e g = absurd g
  one-as None o' a e g = absurd g

  pub names-as : SeenAs test test' h rows rows' → SeenAs test test' h cols cols' → (sent : SentStage) (names : NamedElements)
      → NamesBy test text rows cols sent names → NamesBy test' text' rows' cols' sent (renamed_names h names)
  names-as r c (TextPut p seg props) names n = tt
  names-as r c (TextTaken ranges) names n = tt
  names-as r c (TextAnnotated ranges changes) names n = tt
  names-as r c (IntervalsChanged op) names n = (ap (λ m. given_ends_fit m (ends_of op)) s.count ∙ n.0, ends-as (ends_of op) ∙ ap (renamed_names h) n.1)
  names-as r c (UnitsPut target p count) names n = tt
  names-as r c (UnitsTaken target ranges) names n = tt
  names-as r c (CellWritten i j value) names n = (
    one-as (option_map id (at test i rows)) (option_map id (at test' i rows')) names.first (r.names i) n.0,
    one-as (option_map id (at test j cols)) (option_map id (at test' j cols')) names.second (c.names j) n.1,
  )

-- without a renaming
pub not-renamed : (o : Option ElementId) → renamed (λ x. x) o ≡ o
not-renamed None = refl
not-renamed (Some x) = refl

pub names-not_renamed : (names : NamedElements) → renamed_names (λ x. x) names ≡ names
names-not_renamed names = rw (not-renamed names.first, not-renamed names.second) refl

-- ---- scans

module _ (is seen seen' : ListElement → Bool) (h : ElementId → ElementId) (f : ListElement → ListElement)
    (same : (x : ListElement) → is x ≡ true → seen' (f x) ≡ seen x) (name : (x : ListElement) → is x ≡ true → id (f x) ≡ h (id x)) where
  at-map : (i : ℕ) (xs : List ListElement) → list_all is xs ≡ true → option_map id (at seen' i (map f xs)) ≡ renamed h (option_map id (at seen i xs))
  at-map i [] g = refl
  at-map zero (x ∷ xs) g = grind (arith, at-map zero xs, same x, name x)
  at-map (suc i) (x ∷ xs) g = grind (arith, at-map i xs, at-map (suc i) xs, same x)

  count-map : (xs : List ListElement) → list_all is xs ≡ true → len seen' (map f xs) ≡ len seen xs
  count-map [] g = refl
  count-map (x ∷ xs) g = grind (arith, count-map xs, same x)

  pub seen-map : (xs : List ListElement) → list_all is xs ≡ true → SeenAs seen seen' h xs (map f xs)
  seen-map xs g = record { count = count-map xs g; names = λ i. at-map i xs g }

module _ (test : ListElement → Bool) where
  at-append : (i : ℕ) (new xs : List ListElement) → list_any test new ≡ false → at test i (new ++ xs) ≡ at test i xs
  at-append i [] xs h = refl
  at-append zero (y ∷ ys) xs h = grind (arith, at-append zero ys xs)
  at-append (suc i) (y ∷ ys) xs h = grind (arith, at-append (suc i) ys xs)

  at-past : (past : ListElement → Bool) (i : ℕ) (new xs : List ListElement) → list_any test new ≡ false → at test i (put_past past new xs) ≡ at test i xs
  at-past past i new [] h = rw append-nil at (at-append i new [] h)
  at-past past zero new (x ∷ xs) h = grind (arith, at-past past zero new xs, at-append zero new (x ∷ xs) h)
  at-past past (suc i) new (x ∷ xs) h = grind (arith, at-past past i new xs, at-past past (suc i) new xs, at-append (suc i) new (x ∷ xs) h)

  at-put : (place past : ListElement → Bool) (q i : ℕ) (new xs : List ListElement) → list_any test new ≡ false → at test i (put place past q new xs) ≡ at test i xs
  at-put place past zero i new xs h = at-past past i new xs h
  at-put place past (suc q) i new [] h = rw append-nil at (at-append i new [] h)
  at-put place past (suc q) zero new (x ∷ xs) h = grind (arith, at-put place past q zero new xs, at-put place past (suc q) zero new xs)
  at-put place past (suc q) (suc i) new (x ∷ xs) h =
      grind (arith, at-put place past q i new xs, at-put place past (suc q) i new xs, at-put place past q (suc i) new xs, at-put place past (suc q) (suc i) new xs)

  -- an insertion that the test doesn't see
  pub seen-put : (place past : ListElement → Bool) (q : ℕ) (new xs : List ListElement) → list_any test new ≡ false → SeenAs test test (λ x. x) xs (put place past q new xs)
  seen-put place past q new xs h = record {
    count = len-put test place past q new xs h;
    names = λ i. ap (option_map id) (at-put place past q i new xs h) ∙ sym (not-renamed (option_map id (at test i xs)));
  }

  module _ (seen : ListElement → Bool) (g : ListElement → ListElement) (same : (x : ListElement) → test (g x) ≡ test x) (name : (x : ListElement) → id (g x) ≡ id x) where
    at-range : (p q j i : ℕ) (xs : List ListElement) → option_map id (at test i (change_range_from j seen p q g xs)) ≡ option_map id (at test i xs)
    at-range p q j i [] = refl
    at-range p q j zero (x ∷ xs) = grind (arith, at-range p q j zero xs, at-range p q (suc j) zero xs, same x, name x)
    at-range p q j (suc i) (x ∷ xs) =
        grind (arith, at-range p q j i xs, at-range p q (suc j) i xs, at-range p q j (suc i) xs, at-range p q (suc j) (suc i) xs, same x)

    at-ranges : (ranges : List (ℕ × ℕ)) (i : ℕ) (xs : List ListElement) → option_map id (at test i (change_ranges seen g ranges xs)) ≡ option_map id (at test i xs)
    at-ranges [] i xs = refl
    at-ranges ((p, q) ∷ ranges) i xs = at-ranges ranges i (change_range seen p q g xs) ∙ at-range p q 0 i xs

    -- a change of ranges that the test doesn't see
    pub seen-ranges : (ranges : List (ℕ × ℕ)) (xs : List ListElement) → SeenAs test test (λ x. x) xs (change_ranges seen g ranges xs)
    seen-ranges ranges xs = record {
      count = len-ranges test seen g same ranges xs;
      names = λ i. at-ranges ranges i xs ∙ sym (not-renamed (option_map id (at test i xs)));
    }

pub seen-itself : (test : ListElement → Bool) (xs : List ListElement) → SeenAs test test (λ x. x) xs xs
seen-itself test xs = record { count = refl; names = λ i. sym (not-renamed (option_map id (at test i xs))) }

-- two tests that agree on a list
at-agree : (is test test' : ListElement → Bool) → ((x : ListElement) → is x ≡ true → test' x ≡ test x) → (i : ℕ) (xs : List ListElement) → list_all is xs
    ≡ true → at test' i xs ≡ at test i xs
at-agree is test test' same i [] h = refl
at-agree is test test' same zero (x ∷ xs) h = grind (arith, at-agree is test test' same zero xs, same x)
at-agree is test test' same (suc i) (x ∷ xs) h = grind (arith, at-agree is test test' same i xs, at-agree is test test' same (suc i) xs, same x)

count-agree : (is test test' : ListElement → Bool) → ((x : ListElement) → is x ≡ true → test' x ≡ test x) → (xs : List ListElement) → list_all is xs ≡ true
    → len test' xs ≡ len test xs
count-agree is test test' same [] h = refl
count-agree is test test' same (x ∷ xs) h = grind (arith, count-agree is test test' same xs, same x)

pub seen-agree : (is test test' : ListElement → Bool) → ((x : ListElement) → is x ≡ true → test' x ≡ test x) → (xs : List ListElement) → list_all is xs ≡ true
    → SeenAs test test' (λ x. x) xs xs
seen-agree is test test' same xs h = record {
  count = count-agree is test test' same xs h;
  names = λ i. ap (option_map id) (at-agree is test test' same i xs h) ∙ sym (not-renamed (option_map id (at test i xs)));
}
