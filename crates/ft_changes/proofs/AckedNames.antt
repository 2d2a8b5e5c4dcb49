-- The acknowledgement of a stage leaves ends where they are: each element of the text beside the one that comes of it.
use Rattle.std.proofs.Common.{◌≡◌, ℕ, ◌+◌, Bool, true, false, cond, not, ◌&&◌, ◌||◌, List, [], ◌∷◌, ◌++◌, Option, Some, None, refl, sym, ◌∙◌, ap, subst, arith, map, nat_le}
use Rattle.std.proofs.lemmas.Bool.{or_left, or_right}
use Rattle.std.proofs.lemmas.Bool.Decides.{nat_tests}
use Rattle.std.specs.List.{list_all, list_any}
use Rattle.ft_base.specs.declared.stamps.Stamp.{Stamp}
use Rattle.ft_base.specs.declared.stamps.Stamp.TheVariants.{Acked, Local}
use Rattle.ft_base.specs.Visibility.{has_occurred_at_stage, is_acked, is_of_stage}
use Rattle.ft_base.proofs.Booleans.{all_three, both}
use Rattle.ft_props.specs.Element.{ElementId, ListElement, has_id, id, id_of_stamp, is_sequenced, is_unremoved, removal_stamp, same_id, seen}
use Rattle.ft_props.specs.Steps.{acked_element, acked_removal, acked_stamp, remaining_removal}
use Rattle.ft_props.proofs.AcknowledgedInsertion.{from_mark, from_stamp, is_from}
use Rattle.ft_op.specs.Intervals.{Interval}
use Rattle.ft_msg.specs.Acknowledgement.{renamed_names}
use Rattle.ft_laws_agreement.specs.Sequencing.{Each, are_ends_in}
use Rattle.ft_laws_agreement.specs.Trimming.{are_distinct_elements}
use Rattle.ft_laws_agreement.proofs.PairedLists.{Pair, agree, has_pair, lefts, own-pair, rights}
use Rattle.ft_laws_agreement.proofs.SlidEnds.{same_id-eq, same_id-refl}
use Rattle.ft_laws_names.proofs.Beside.{ends, next}
use Rattle.ft_laws_names.proofs.IntervalsAlike.{IntervalsBeside, NamesAlike}
use Rattle.ft_laws_names.proofs.Twins.{BesideList}
use Rattle.ft_changes.proofs.AckedEnds.{IsOneNamed, IsSameAfter, IsSequencedName, MeanOne, MeanSequenced, at_one, at_sequenced, sequenced-name}
use Rattle.ft_changes.proofs.AckedLists.{acked-seen}

module _ (g : ListElement → ListElement) where
  abbrev pairs : List ListElement → List Pair
  pairs xs = map (λ e. (e, g e)) xs

  pairs-left : (xs : List ListElement) → lefts (pairs xs) ≡ xs
  pairs-left [] = refl
  pairs-left (x ∷ xs) = ap (λ es. x ∷ es) (pairs-left xs)

  pairs-right : (xs : List ListElement) → rights (pairs xs) ≡ map g xs
  pairs-right [] = refl
  pairs-right (x ∷ xs) = ap (λ es. g x ∷ es) (pairs-right xs)

  each-beside : (R : ListElement → ListElement → Type 0) (xs : List ListElement) → Each (λ (p : Pair). R p.0 p.1) (pairs xs) → BesideList R xs (map g xs)
  each-beside R [] h = ends
  each-beside R (x ∷ xs) h = next h.0 (each-beside R xs h.1)

  module _ (xs : List ListElement) (d : are_distinct_elements xs ≡ true) (f : are_distinct_elements (map g xs) ≡ true) where
    pub one-named : (a b : ElementId) → has_pair (pairs xs) a b ≡ true → BesideList (IsOneNamed a b) xs (map g xs)
    one-named a b h =
        each-beside (IsOneNamed a b) xs
        (agree (pairs xs) (ap are_distinct_elements (pairs-left xs) ∙ d) (ap are_distinct_elements (pairs-right xs) ∙ f) a b h)

    names-each : (es : List ListElement) → Each (λ (p : Pair). has_pair (pairs xs) (id p.0) (id p.1) ≡ true) (pairs es) → Each (λ e. BesideList (IsOneNamed (id e) (id (g e))) xs (map g xs)) es
    names-each [] h = tt
    names-each (e ∷ es) h = (one-named (id e) (id (g e)) h.0, names-each es h.1)

    pub names-one : Each (λ e. BesideList (IsOneNamed (id e) (id (g e))) xs (map g xs)) xs
    names-one = names-each xs (own-pair (pairs xs))

-- ---- what is known of an element after the acknowledgement

-- whether the list has a sequenced element of that name
abbrev pub is_there : ElementId → List ListElement → Bool
is_there a xs = list_any (λ e. is_sequenced e && has_id a e) xs

-- whether no element is named, or such a one
abbrev pub is_end_there : List ListElement → Option ElementId → Bool
is_end_there xs None = true
is_end_there xs (Some a) = is_there a xs

module _ (k n s c : ℕ) where
  removals-acked : (m : Option ℕ) → from_mark k m ≡ true → (dels : List Stamp) → list_all is_acked dels ≡ true
      → list_any (has_occurred_at_stage k) (dels ++ removal_stamp m) ≡ list_any is_acked ((dels ++ acked_removal k s c m) ++ removal_stamp (remaining_removal k m))
  removals-acked None h [] all = refl
  removals-acked (Some j) h [] all = grind (arith, nat_tests)
  removals-acked m h (Acked r b ∷ dels) all = refl
  removals-acked m h (Local i ∷ dels) all = absurd (cc)

  insertion-acked : (t : Stamp) → from_stamp k t ≡ true → has_occurred_at_stage k t ≡ is_acked (acked_stamp k s c t)
  insertion-acked (Acked r b) h = refl
  insertion-acked (Local j) h = grind (arith, nat_tests)

  seen-unremoved : (e : ListElement) → is_from k e ≡ true → list_all is_acked e.dels ≡ true → seen k e ≡ is_unremoved (acked_element k n s c e)
  seen-unremoved e h all =
      let p = all_three (from_stamp k e.ins) (from_mark k e.removal_stage) (list_all (λ q. nat_le k q.0) e.pending) h in
      ap (λ b. b && not (list_any (has_occurred_at_stage k) (e.dels ++ removal_stamp e.removal_stage))) (insertion-acked e.ins p.0)
      ∙ ap (λ b. is_acked (acked_stamp k s c e.ins) && not b) (removals-acked e.removal_stage p.1 e.dels all)

  sequenced-id : (e : ListElement) → is_sequenced e ≡ true → id (acked_element k n s c e) ≡ id e
  sequenced-id e h = by e.ins h
    where
      by : (t : Stamp) → is_acked t ≡ true → id_of_stamp (acked_stamp k s c t) (cond (is_of_stage k t) (n + e.nth) e.nth) ≡ id_of_stamp t e.nth
      by (Acked r b) g = refl
      by (Local j) g = absurd (cc)

  there-pair : (a : ElementId) (xs : List ListElement) → is_there a xs ≡ true → has_pair (pairs (acked_element k n s c) xs) a a ≡ true
  there-pair a [] h = absurd cc
  there-pair a (e ∷ xs) h = by (is_sequenced e) (has_id a e) refl refl h (there-pair a xs)
    where
      rest_of : Bool
      rest_of = has_pair (pairs (acked_element k n s c) xs) a a

      by : (b d : Bool) → is_sequenced e ≡ b → has_id a e ≡ d → (b && d) || is_there a xs ≡ true → (is_there a xs ≡ true → rest_of ≡ true)
          → (d && has_id a (acked_element k n s c e)) || rest_of ≡ true
      by true true p q g rest = ap (λ i. same_id a i || rest_of) (sequenced-id e p) ∙ ap (λ b. b || rest_of) q
      by true false p q g rest = rest g
      by false true p q g rest = or_right (has_id a (acked_element k n s c e)) rest_of (rest g)
      by false false p q g rest = rest g

  there-sequenced : (a : ElementId) (xs : List ListElement) → is_there a xs ≡ true → IsSequencedName a
  there-sequenced a [] h = absurd cc
  there-sequenced a (e ∷ xs) h = by (is_sequenced e) (has_id a e) refl refl h (there-sequenced a xs)
    where
      by : (b d : Bool) → is_sequenced e ≡ b → has_id a e ≡ d → (b && d) || is_there a xs ≡ true → (is_there a xs ≡ true → IsSequencedName a) → IsSequencedName a
      by true true p q g rest = subst IsSequencedName (sym (same_id-eq a (id e) q)) (sequenced-name e p)
      by true false p q g rest = rest g
      by false d p q g rest = rest g

  -- one that is there has a name beside it
  named-pair : (f : ElementId → ElementId) (a : ElementId) (xs : List ListElement) → Each (λ e. id (acked_element k n s c e) ≡ f (id e)) xs
      → list_any (has_id a) xs ≡ true → has_pair (pairs (acked_element k n s c) xs) a (f a) ≡ true
  named-pair f a [] names h = absurd cc
  named-pair f a (e ∷ xs) names h = by (has_id a e) refl h (named-pair f a xs names.1)
    where
      here : Bool
      here = has_id a e && has_id (f a) (acked_element k n s c e)

      rest_of : Bool
      rest_of = has_pair (pairs (acked_element k n s c) xs) a (f a)

      by : (b : Bool) → has_id a e ≡ b → b || list_any (has_id a) xs ≡ true → (list_any (has_id a) xs ≡ true → rest_of ≡ true) → here || rest_of ≡ true
      by true p g rest =
          let own : id (acked_element k n s c e) ≡ f a = names.0 ∙ ap f (sym (same_id-eq a (id e) p)) in
          or_left here rest_of (ap (λ b. b && has_id (f a) (acked_element k n s c e)) p ∙ ap (same_id (f a)) own ∙ same_id-refl (f a))
      by false p g rest = or_right here rest_of (rest g)

  -- ---- the list

  module _ (xs : List ListElement) (from : list_all (is_from k) xs ≡ true) (acked : list_all (λ e. list_all is_acked e.dels) xs ≡ true)
      (d : are_distinct_elements xs ≡ true) (o : are_distinct_elements (map (acked_element k n s c) xs) ≡ true) where
    abbrev pub ys : List ListElement
    ys = map (acked_element k n s c) xs

    same-each : (es : List ListElement) → list_all (is_from k) es ≡ true → list_all (λ e. list_all is_acked e.dels) es ≡ true
        → Each (λ e. BesideList (IsOneNamed (id e) (id (acked_element k n s c e))) xs ys) es
        → BesideList (IsSameAfter k xs ys) es (map (acked_element k n s c) es)
    same-each [] h a m = ends
    same-each (e ∷ es) h a m =
        let p = both (is_from k e) (list_all (is_from k) es) h in
        let q = both (list_all is_acked e.dels) (list_all (λ e. list_all is_acked e.dels) es) a in
        next (record { later = λ j le. sym (acked-seen k j s c le n e); now = seen-unremoved e p.0 q.0; name = m.0 }) (same-each es p.1 q.1 m.1)

    pub same-after : BesideList (IsSameAfter k xs ys) xs ys
    same-after = same-each xs from acked (names-one (acked_element k n s c) xs d o)

    pub end-there : (e : Option ElementId) → is_end_there xs e ≡ true → MeanSequenced xs ys e e
    end-there None h = MeanSequenced.nowhere
    end-there (Some a) h = at_sequenced (one-named (acked_element k n s c) xs d o a a (there-pair a xs h)) (there-sequenced a xs h)

    pub ends-there : (is : List Interval) → list_all (λ i. is_end_there xs i.start && is_end_there xs i.end) is ≡ true → IntervalsBeside (MeanSequenced xs ys) is is
    ends-there [] h = ends
    ends-there (i ∷ is) h =
        let p = both (is_end_there xs i.start && is_end_there xs i.end) (list_all (λ i. is_end_there xs i.start && is_end_there xs i.end) is) h in
        let q = both (is_end_there xs i.start) (is_end_there xs i.end) p.0 in
        next (record { label = refl; id = refl; start = end-there i.start q.0; end = end-there i.end q.1; props = refl }) (ends-there is p.1)

    pub names-there : (f : ElementId → ElementId) → Each (λ e. id (acked_element k n s c e) ≡ f (id e)) xs → (a b : Option ElementId) → are_ends_in xs a b ≡ true
        → NamesAlike (MeanOne xs ys) (record { first = a; second = b }) (renamed_names f (record { first = a; second = b }))
    names-there f names None None h = record { first = MeanOne.nowhere; second = MeanOne.nowhere }
    names-there f names None (Some b) h = absurd cc
    names-there f names (Some a) None h = absurd cc
    names-there f names (Some a) (Some b) h =
        let p = both (list_any (has_id a) xs) (list_any (has_id b) xs) h in
        record {
          first = at_one (one-named (acked_element k n s c) xs d o a (f a) (named-pair f a xs names p.0));
          second = at_one (one-named (acked_element k n s c) xs d o b (f b) (named-pair f b xs names p.1));
        }
