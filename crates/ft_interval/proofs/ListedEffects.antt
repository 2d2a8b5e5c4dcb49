-- What an operation that took effect leaves of the indexes, and where the ends of its interval are then.
use Rattle.std.proofs.Common.{◌≡◌, ℕ, Bool, true, false, cond, List, length, Option, Some, None, is_some, option_map, refl, sym, ◌∙◌, ap, subst, inl, inr}
use Rattle.std.specs.Prelude.{◌⊎◌}
use Rattle.ft_op.specs.declared.operations.TextOp.{TextOp}
use Rattle.ft_op.specs.declared.operations.TextOp.TheVariants.{One, Group, IntervalAdd, IntervalChange, IntervalDelete}
use Rattle.ft_tree_leaves.specs.Elements.{TreeElement, is_unremoved}
use Rattle.ft_tree_leaves.specs.References.{reference_place}
use Rattle.ft_interval_store.specs.declared.intervals.EndPair.{EndPair}
use Rattle.ft_interval_store.specs.declared.intervals.Interval.{Interval}
use Rattle.ft_interval_store.specs.Ends.{References, map_ends, no_ends, place_of_end, places_of_ends, slid_end}
use Rattle.ft_interval_index.specs.Indexes.{LabelIndex, AreEndsWithin, AreListed, ends_but, index_of, item_for}
use Rattle.ft_interval_store.specs.State.{IsAfter, ends_of_name, placed_intervals, with_mapped_ends}
use Rattle.ft_interval_store.specs.Intervals.{Name, NamesRise, after_operation, after_own, interval_of, is_on, one_after}
use Rattle.ft_interval_index.specs.Order.{IsWithin}
use Rattle.ft_interval_index.proofs.Listed.{listed-same, moved-listed, some-is, to-attached}
use Rattle.ft_interval_store.proofs.OneInterval.{NamesRise-map, interval_of-after, interval_of-map}
use Rattle.ft_interval_index.proofs.PlaceOrder.{settle-within}
use Rattle.ft_interval_index.proofs.ShownOrder.{same-order}

none-some : {A : Type 0} {x : A} → None ≡ Some x → ⊥
none-some h = (cc)

-- the ends of an interval, if it is there
abbrev ends_in : Option (Interval ℕ) → EndPair ℕ
ends_in o = elim o as (λ _. EndPair ℕ) [ None ↦ no_ends | Some i ↦ i.ends ]

-- where there is an end there is an interval
pub record HasEnd (side : EndPair ℕ → Option ℕ) (is : List (Interval ℕ)) (m : Name) (r : ℕ) : Type 0 where
  pub interval : Interval ℕ
  pub there : interval_of m is ≡ Some interval
  pub end : side interval.ends ≡ Some r

pub has-end : (side : EndPair ℕ → Option ℕ) → side no_ends ≡ None → (is : List (Interval ℕ)) (m : Name) (r : ℕ)
    → side (ends_of_name m is) ≡ Some r → HasEnd side is m r
has-end side none is m r h = by (interval_of m is) refl h
  where
    by : (o : Option (Interval ℕ)) → interval_of m is ≡ o → side (ends_in o) ≡ Some r → HasEnd side is m r
    by None e g = absurd (none-some (sym none ∙ g))
    by (Some i) e g = record { interval = i; there = e; end = g }

module _ {U : Type 0} (xs : List (TreeElement U)) (before after : References) (old new : List (Interval ℕ)) (op : TextOp) (places : EndPair ℕ) (rise : NamesRise old)
    (a : IsAfter op old new)
    (eq : placed_intervals after new ≡ after_operation op (map_ends (slid_end xs) places) (placed_intervals before old)) where
  abbrev given : EndPair ℕ
  given = map_ends (slid_end xs) places

  abbrev at_before : Interval ℕ → Interval ℕ
  at_before = with_mapped_ends (places_of_ends before)

  abbrev at_after : Interval ℕ → Interval ℕ
  at_after = with_mapped_ends (places_of_ends after)

  stay : (m : Name) → is_on m op ≡ false → interval_of m new ≡ interval_of m old
  stay m h =
      ap (interval_of m) a.is ∙ interval_of-after m op a.ends old rise
      ∙ ap (λ b. cond b (after_own op a.ends (interval_of m old)) (interval_of m old)) h

  but-same : (m : Name) → ends_but op new m ≡ ends_but op old m
  but-same m = by (is_on m op) refl
    where
      by : (b : Bool) → is_on m op ≡ b → ends_but op new m ≡ ends_but op old m
      by true e = ap (λ b. cond b no_ends (ends_of_name m new)) e ∙ sym (ap (λ b. cond b no_ends (ends_of_name m old)) e)
      by false e =
          ap (λ b. cond b no_ends (ends_of_name m new)) e ∙ ap ends_in (stay m e) ∙ sym (ap (λ b. cond b no_ends (ends_of_name m old)) e)

  placed-at : (m : Name) → option_map at_after (interval_of m new) ≡ one_after m op given (option_map at_before (interval_of m old))
  placed-at m =
      sym (interval_of-map m at_after new (λ i. refl)) ∙ ap (interval_of m) eq
      ∙ interval_of-after m op given (placed_intervals before old) (NamesRise-map at_before old (λ i. refl) rise)
      ∙ ap (one_after m op given) (interval_of-map m at_before old (λ i. refl))

  places-stay : (m : Name) → is_on m op ≡ false → (i : Interval ℕ) → interval_of m old ≡ Some i → places_of_ends after i.ends ≡ places_of_ends before i.ends
  places-stay m h i e =
      let left : option_map at_after (interval_of m new) ≡ Some (at_after i) = ap (option_map at_after) (stay m h ∙ e) in
      let right : one_after m op given (option_map at_before (interval_of m old)) ≡ Some (at_before i) =
      ap (λ b. cond b (after_own op given (option_map at_before (interval_of m old))) (option_map at_before (interval_of m old))) h ∙ ap (option_map at_before) e in
      ap (λ (j : Interval ℕ). j.ends) (some-is (sym left ∙ placed-at m ∙ right))

  end-stays : (m : Name) (r : ℕ) → ((ends_but op old m).start ≡ Some r) ⊎ ((ends_but op old m).end ≡ Some r)
      → reference_place after r ≡ reference_place before r
  end-stays m r h = by (is_on m op) refl
    where
      of : (side : EndPair ℕ → Option ℕ) → (b : Bool) → is_on m op ≡ b → side (ends_but op old m) ≡ Some r → side (cond b no_ends (ends_of_name m old)) ≡ Some r
      of side b e g = ap (λ c. side (cond c no_ends (ends_of_name m old))) (sym e) ∙ g

      by : (b : Bool) → is_on m op ≡ b → reference_place after r ≡ reference_place before r
      by true e = elim h [
        | inl g ↦ absurd (none-some (of (λ p. p.start) true e g))
        | inr g ↦ absurd (none-some (of (λ p. p.end) true e g))
      ]
      by false e = elim h [
        | inl g ↦ let w = has-end (λ (p : EndPair ℕ). p.start) refl old m r (of (λ p. p.start) false e g) in
            sym (ap (place_of_end after) w.end) ∙ ap (λ (p : EndPair ℕ). p.start) (places-stay m e w.interval w.there) ∙ ap (place_of_end before) w.end
        | inr g ↦ let w = has-end (λ (p : EndPair ℕ). p.end) refl old m r (of (λ p. p.end) false e g) in
            sym (ap (place_of_end after) w.end) ∙ ap (λ (p : EndPair ℕ). p.end) (places-stay m e w.interval w.there) ∙ ap (place_of_end before) w.end
      ]

  -- the indexes that it is out of are those of the intervals after it
  pub listed-after : (n : ℕ) (idx : List LabelIndex) → AreListed n before (ends_but op old) idx → AreListed n after (ends_but op new) idx
  listed-after n idx h l =
      listed-same n after (index_of l idx) (λ j. ends_but op old (l, j)) (λ j. ends_but op new (l, j)) (λ j. but-same (l, j))
      (moved-listed n n (λ p. p) (same-order n) before after (λ j. ends_but op old (l, j)) (index_of l idx) (λ j r e. end-stays (l, j) r e) (h l))

  -- ---- the ends of its interval

  -- they are those of the operation, or where they were
  abbrev HasPlaces : Name → Interval ℕ → Type 0
  HasPlaces m i =
      (places_of_ends after i.ends ≡ given)
      ⊎ ((j : Interval ℕ) × (interval_of m old ≡ Some j) × (places_of_ends after i.ends ≡ places_of_ends before j.ends))

  -- by the operation, where it makes this interval of one with places
  from-own : (o : TextOp) (m : Name) (i : Interval ℕ) (was : Option (Interval ℕ)) → interval_of m old ≡ was
      → after_own o given (option_map at_before was) ≡ Some (at_after i) → HasPlaces m i
  from-own (One b) m i None e h = absurd (none-some h)
  from-own (One b) m i (Some j) e h = inr (j, e, sym (ap (λ (k : Interval ℕ). k.ends) (some-is h)))
  from-own (Group bs) m i None e h = absurd (none-some h)
  from-own (Group bs) m i (Some j) e h = inr (j, e, sym (ap (λ (k : Interval ℕ). k.ends) (some-is h)))
  from-own (IntervalAdd label id ends props) m i None e h = inl (sym (ap (λ (k : Interval ℕ). k.ends) (some-is h)))
  from-own (IntervalAdd label id ends props) m i (Some j) e h = inr (j, e, sym (ap (λ (k : Interval ℕ). k.ends) (some-is h)))
  from-own (IntervalChange label id ends props) m i None e h = absurd (none-some h)
  from-own (IntervalChange label id None props) m i (Some j) e h = inr (j, e, sym (ap (λ (k : Interval ℕ). k.ends) (some-is h)))
  from-own (IntervalChange label id (Some g) props) m i (Some j) e h = inl (sym (ap (λ (k : Interval ℕ). k.ends) (some-is h)))
  from-own (IntervalDelete label id) m i was e h = absurd (none-some h)

  its-places : (m : Name) (i : Interval ℕ) → is_on m op ≡ true → interval_of m new ≡ Some i → HasPlaces m i
  its-places m i on e =
      from-own op m i (interval_of m old) refl
      (sym (ap (λ b. cond b (after_own op given (option_map at_before (interval_of m old))) (option_map at_before (interval_of m old))) on)
      ∙ sym (placed-at m) ∙ ap (option_map at_after) e)

  -- an end that is attached is a reference
  record IsPlacedEnd (end : Option ℕ) : Type 0 where
    reference : ℕ
    is : end ≡ Some reference
    attached : is_some (reference_place before reference) ≡ true

  placed-end : (end : Option ℕ) → is_some (place_of_end before end) ≡ true → IsPlacedEnd end
  placed-end None h = (cc)
  placed-end (Some r) h = record { reference = r; is = refl; attached = h }

  slid-within : (o : Option ℕ) → IsWithin (length xs) (slid_end xs o)
  slid-within None = tt
  slid-within (Some p) = settle-within is_unremoved xs (Some p)

  pub ends-within : (idx : List LabelIndex) → AreListed (length xs) before (λ m. ends_of_name m old) idx → AreEndsWithin (length xs) after op new
  ends-within idx h m on s e att = by (its-places m w.interval on w.there)
    where
      w : HasEnd (λ (p : EndPair ℕ). p.start) new m s
      w = has-end (λ (p : EndPair ℕ). p.start) refl new m s att.start

      ends-are : ends_of_name m new ≡ w.interval.ends
      ends-are = ap ends_in w.there

      start-is : (places_of_ends after w.interval.ends).start ≡ reference_place after s
      start-is = ap (place_of_end after) w.end

      end-is : (places_of_ends after w.interval.ends).end ≡ reference_place after e
      end-is = ap (place_of_end after) (ap (λ (p : EndPair ℕ). p.end) (sym ends-are) ∙ att.end)

      old-ones : (j : Interval ℕ) → interval_of m old ≡ Some j → places_of_ends after w.interval.ends ≡ places_of_ends before j.ends
          → IsWithin (length xs) (reference_place after s) × IsWithin (length xs) (reference_place after e)
      old-ones j f g =
          let left : reference_place after s ≡ place_of_end before j.ends.start = sym start-is ∙ ap (λ (p : EndPair ℕ). p.start) g in
          let right : reference_place after e ≡ place_of_end before j.ends.end = sym end-is ∙ ap (λ (p : EndPair ℕ). p.end) g in
          let first = placed-end j.ends.start (ap (λ o. is_some o) (sym left) ∙ att.first) in
          let second = placed-end j.ends.end (ap (λ o. is_some o) (sym right) ∙ att.second) in
          let ends : ends_of_name m old ≡ j.ends = ap ends_in f in
          let found = (h m.0).listed m.1 first.reference second.reference (to-attached before (ends_of_name m old) first.reference second.reference (record {
            start = ap (λ (p : EndPair ℕ). p.start) ends ∙ first.is;
            end = ap (λ (p : EndPair ℕ). p.end) ends ∙ second.is;
            first = first.attached;
            second = second.attached;
          })) in
          let inside = (h m.0).within first.reference (item_for first.reference second.reference) found.0 in (
            subst (IsWithin (length xs)) (sym (left ∙ ap (place_of_end before) first.is)) inside.0,
            subst (IsWithin (length xs)) (sym (right ∙ ap (place_of_end before) second.is)) inside.1,
          )

      by : HasPlaces m w.interval → IsWithin (length xs) (reference_place after s) × IsWithin (length xs) (reference_place after e)
      by (inl g) = (
        subst (IsWithin (length xs)) (sym (sym start-is ∙ ap (λ (p : EndPair ℕ). p.start) g)) (slid-within places.start),
        subst (IsWithin (length xs)) (sym (sym end-is ∙ ap (λ (p : EndPair ℕ). p.end) g)) (slid-within places.end),
      )
      by (inr g) = old-ones g.0 g.1 g.2

-- where no operation took effect its interval's ends are as they were
pub ends-listed : (n : ℕ) (refs : References) (op : TextOp) (is : List (Interval ℕ)) (idx : List LabelIndex)
    → AreListed n refs (λ m. ends_of_name m is) idx → AreEndsWithin n refs op is
ends-listed n refs op is idx h m on s e a =
    let found = (h m.0).listed m.1 s e (to-attached refs (ends_of_name m is) s e a) in
    (h m.0).within s (item_for s e) found.0
