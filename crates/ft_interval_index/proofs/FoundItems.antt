-- Intervals that aren't among those gathered don't meet the range.
use Rattle.std.proofs.Common.{◌≡◌, ℕ, ℤ, pos, negsuc, int_le, ◌+◌, ◌-◌, ◌≤◌, ◌<ℤ◌, Bool, true, false, cond, ◌&&◌, ◌||◌, nat_eq, List, [], ◌∷◌, All, Option, Some, None, is_some, option_map, refl, sym, ◌∙◌, ap, arith, map}
use Rattle.std.specs.List.{list_any}
use Rattle.std.specs.Ordering.{is_eq}
use Rattle.std.specs.declared.cmp.Ordering.{Ordering}
use Rattle.std.specs.declared.cmp.Ordering.TheVariants.{Less, Equal, Greater}
use Rattle.ft_props.proofs.RisingKeys.{same_from_text_cmp, text_cmp-same}
use Rattle.std.proofs.lemmas.Int.{ints}
use Rattle.std.proofs.lemmas.Bool.{or_left, or_right}
use Rattle.std.proofs.lemmas.List.Elements.{All-head, All-tail}
use Rattle.ft_base.proofs.Booleans.{all_four}
use Rattle.ft_overlap.specs.declared.items.Item.{Item}
use Rattle.ft_overlap.specs.Items.{item_at, key_if}
use Rattle.ft_props.specs.Keys.{Characters, text_cmp}
use Rattle.ft_sumdoc.specs.Meeting.{meets}
use Rattle.ft_tree_leaves.specs.Elements.{TreeElement}
use Rattle.ft_tree_leaves.specs.References.{reference_place}
use Rattle.ft_interval_store.specs.declared.intervals.EndPair.{EndPair}
use Rattle.ft_interval_store.specs.declared.intervals.Interval.{Interval}
use Rattle.ft_interval_store.specs.declared.pending.Operation.{Operation}
use Rattle.ft_interval_store.specs.Ends.{References, map_ends, place_of_end, places_of_ends}
use Rattle.ft_interval_index.specs.Indexes.{LabelIndex, is_id, is_met, IsListed, id_in, item_for, keys_meeting, list_in, meets_range}
use Rattle.ft_interval_store.specs.Gathered.{is_on_any}
use Rattle.ft_interval_store.specs.Intervals.{Name, NamesRise, after_own, interval_of, is_on, name_of}
use Rattle.ft_interval_store.specs.Shown.{shown_end, shown_place, carried_end, carried_interval, last, number_at, settled_end, settled_interval, shown_from, shown_one_from, shown_record}
use Rattle.ft_interval_store.specs.State.{StagesRise, ends_of_name, placed_intervals, with_mapped_ends}
use Rattle.ft_interval_store.proofs.OneInterval.{NamesRise-map, interval_of-map}
use Rattle.ft_interval_store.proofs.Removals.{carried-none, carried-sum}
use Rattle.ft_interval_index.proofs.Listed.{some-is, to-attached}
use Rattle.ft_interval_store.proofs.Gathered.{unnamed-none}
use Rattle.ft_interval_store.proofs.RisingLists.{found-name, kept}
use Rattle.ft_interval_store.proofs.ShownOne.{interval_of-shown_from}

-- an end is a reference that is attached
pub record IsAttachedEnd (refs : References) (end : Option ℕ) : Type 0 where
  pub reference : ℕ
  pub is : end ≡ Some reference
  pub attached : is_some (reference_place refs reference) ≡ true

pub not-le : (c : ℤ) → negsuc 0 <ℤ c → int_le c (negsuc 0) ≡ false
not-le c h = by (int_le c (negsuc 0)) refl
  where
    by : (t : Bool) → int_le c (negsuc 0) ≡ t → int_le c (negsuc 0) ≡ false
    by false e = e
    by true e = absurd (omega (arith, ints, h, e))

-- ---- keys

module _ (place : ℕ → ℤ) (a b : ℕ) where
  -- an item that meets the range is found by its key
  pub key-found : (key : ℕ) (y : Item) (ys : List Item) (test : ℕ → Bool) → item_at key ys ≡ Some y → meets_range place a b y ≡ true → test key ≡ true
      → list_any test (keys_meeting place a b ys) ≡ true
  key-found key y [] test h m t = (let never : None ≡ Some y = h in absurd (cc))
  key-found key y (x ∷ ys) test h m t = step (nat_eq x.key key) refl h (λ g. key-found key y ys test g m t)
    where
      later : (c : Bool) → list_any test (keys_meeting place a b ys) ≡ true → list_any test (key_if c x.key (keys_meeting place a b ys)) ≡ true
      later true g = or_right (test x.key) (list_any test (keys_meeting place a b ys)) g
      later false g = g

      step : (c : Bool) → nat_eq x.key key ≡ c → cond c (Some x) (item_at key ys) ≡ Some y
          → (item_at key ys ≡ Some y → list_any test (keys_meeting place a b ys) ≡ true)
          → list_any test (keys_meeting place a b (x ∷ ys)) ≡ true
      step true e g rest =
          let same : x ≡ y = (cc) in
          let here : meets_range place a b x ≡ true = ap (meets_range place a b) same ∙ m in
          let key_is : test x.key ≡ true = ap test (key-same e) ∙ t in
          ap (λ c. list_any test (key_if c x.key (keys_meeting place a b ys))) here ∙ or_left (test x.key) (list_any test (keys_meeting place a b ys)) key_is
        where
          key-same : nat_eq x.key key ≡ true → x.key ≡ key
          key-same f = grind arith
      step false e g rest = later (meets_range place a b x) (rest g)

-- ---- what is shown of an interval that no operation is on

pub text-is : (a b : Characters) → is_eq (text_cmp a b) ≡ true → a ≡ b
text-is a b h = same_from_text_cmp a b (equal-is (text_cmp a b) h)
  where
    equal-is : (o : Ordering) → is_eq o ≡ true → o ≡ Equal
    equal-is Less e = (cc)
    equal-is Equal e = refl
    equal-is Greater e = (cc)

pub text-self : (a : Characters) → is_eq (text_cmp a a) ≡ true
text-self a = ap is_eq (text_cmp-same a)

none-some : {A : Type 0} {x : A} → None ≡ Some x → ⊥
none-some h = (cc)

true-false : {b : Bool} → b ≡ true → b ≡ false → ⊥
true-false p q = (let n : true ≡ false = sym p ∙ q in cc n)

pub pos-above : (a : ℕ) → negsuc 0 <ℤ pos a
pos-above a = omega (arith, ints)

pub from-zero : (m : ℕ) → 0 ≤ m
from-zero m = omega arith

parts-false : (p q : Bool) → p || q ≡ false → (p ≡ false) × (q ≡ false)
parts-false false false h = (refl, refl)
parts-false true q h = (cc)
parts-false false true h = (cc)

module _ {U : Type 0} (xs : List (TreeElement U)) where
  carried-on : (k m : ℕ) (end : Option ℕ) → k ≤ m → m ≤ last → carried_end xs m (last - m) (carried_end xs k (m - k) end) ≡ carried_end xs k (last - k) end
  carried-on k m end h l =
      let sum : (m - k) + (last - m) ≡ last - k = omega (arith, h, l) in
      let at : k + (m - k) ≡ m = omega (arith, h) in
      sym (ap (λ j. carried_end xs k j end) (sym sum) ∙ carried-sum xs (m - k) (last - m) k end ∙ ap (λ j. carried_end xs j (last - m) (carried_end xs k (m - k) end)) at)

  pub unnamed-shown : (n : Name) (k : ℕ) (ts : List Operation) (i : Interval ℕ) → k ≤ last → is_on_any n ts ≡ false → StagesRise k ts
      → All (λ (t : Operation). t.stage ≤ last) ts
      → shown_one_from xs n k ts (Some i) ≡ Some (carried_interval xs k last i)
  unnamed-shown n k [] i l h r f = refl
  unnamed-shown n k (t ∷ ts) i l h r f =
      let fits : t.stage ≤ last = All-head (λ (t : Operation). t.stage ≤ last) t ts f in
      let more = All-tail (λ (t : Operation). t.stage ≤ last) t ts f in
      step (is_on n t.op) refl h (λ g. unnamed-shown n t.stage ts (carried_interval xs k t.stage i) fits g r.1 more
      ∙ ap (λ (e : EndPair ℕ). let z : Interval ℕ = record i { ends = e } in Some z) (both-on (let up = r.0 in omega (arith, up)) fits))
    where
      both-on : k ≤ t.stage → t.stage ≤ last → map_ends (carried_end xs t.stage (last - t.stage)) (map_ends (carried_end xs k (t.stage - k)) i.ends) ≡ map_ends (carried_end xs k (last - k)) i.ends
      both-on a b = (let p = carried-on k t.stage i.ends.start a b in let q = carried-on k t.stage i.ends.end a b in λ j. record { start = p j; end = q j })

      step : (b : Bool) → is_on n t.op ≡ b → b || is_on_any n ts ≡ false
          → (is_on_any n ts ≡ false → shown_one_from xs n t.stage ts (Some (carried_interval xs k t.stage i)) ≡ Some (carried_interval xs k last i))
          → shown_one_from xs n k (t ∷ ts) (Some i) ≡ Some (carried_interval xs k last i)
      step true e g rest = (cc)
      step false e g rest =
          ap (λ c. shown_one_from xs n t.stage ts (cond c (after_own t.op (map_ends (settled_end xs t.stage) t.ends) (Some (carried_interval xs k t.stage i))) (Some (carried_interval xs k t.stage i)))) e
          ∙ rest g

  -- an end that is detached is shown so
  shown-none : shown_end xs None ≡ None
  unfolding shown_end
  shown-none = carried-none xs 0 (last - 0)

  attached-by : (refs : References) (c : ℤ) → negsuc 0 <ℤ c → (end : Option ℕ)
      → int_le c (number_at xs last (shown_end xs (place_of_end refs end))) ≡ true → IsAttachedEnd refs end
  attached-by refs c above None h = absurd (true-false h (ap (λ p. int_le c (number_at xs last p)) shown-none ∙ not-le c above))
  attached-by refs c above (Some s) h = by (reference_place refs s) refl
    where
      by : (o : Option ℕ) → reference_place refs s ≡ o → IsAttachedEnd refs (Some s)
      by (Some p) e = record { reference = s; is = refl; attached = ap (λ o. is_some o) e }
      by None e = absurd (true-false h (ap (λ p. int_le c (number_at xs last (shown_end xs p))) e ∙ ap (λ p. int_le c (number_at xs last p)) shown-none ∙ not-le c above))

  pub shown-from-named : (refs : References) (acked : List (Interval ℕ)) (ts : List Operation) → NamesRise acked → (m : Name)
      → interval_of m (shown_from xs 0 ts (map (settled_interval xs 0) (placed_intervals refs acked)))
      ≡ shown_one_from xs m 0 ts (option_map (settled_interval xs 0) (option_map (with_mapped_ends (places_of_ends refs)) (interval_of m acked)))
  shown-from-named refs acked ts rise m =
      interval_of-shown_from xs m 0 ts (map (settled_interval xs 0) (placed_intervals refs acked))
      (NamesRise-map (settled_interval xs 0) (placed_intervals refs acked) (λ i. refl) (NamesRise-map (with_mapped_ends (places_of_ends refs)) acked (λ i. refl) rise))
      ∙ ap (shown_one_from xs m 0 ts) (interval_of-map m (settled_interval xs 0) (placed_intervals refs acked) (λ i. refl)
      ∙ ap (option_map (settled_interval xs 0)) (interval_of-map m (with_mapped_ends (places_of_ends refs)) acked (λ i. refl)))

  module _ (n : ℕ) (refs : References) (acked : List (Interval ℕ)) (ts : List Operation) (label : Characters) (a b : ℕ) (x : Option LabelIndex)
      (rise : NamesRise acked) (stages : StagesRise 0 ts) (fits : All (λ (t : Operation). t.stage ≤ last) ts)
      (own : (y : LabelIndex) → x ≡ Some y → is_eq (text_cmp label y.label) ≡ true)
      (l : IsListed n refs (λ id. ends_of_name (label, id) acked) x) where
    abbrev from : List (Interval ℕ)
    from = map (settled_interval xs 0) (placed_intervals refs acked)

    abbrev passes : Interval ℕ → Bool
    passes i = meets label a b (shown_record xs i)

    -- an interval that no operation is on and that meets the range has an item which does
    module _ (m : Name) (i : Interval ℕ) (unnamed : is_on_any m ts ≡ false) (there : interval_of m acked ≡ Some i)
        (named : is_eq (text_cmp label m.0) ≡ true)
        (start : int_le (pos 0) (number_at xs last (shown_end xs (place_of_end refs i.ends.start))) ≡ true)
        (before : int_le (number_at xs last (shown_end xs (place_of_end refs i.ends.start))) (pos b) ≡ true)
        (behind : int_le (pos a) (number_at xs last (shown_end xs (place_of_end refs i.ends.end))) ≡ true) where
      first : IsAttachedEnd refs i.ends.start
      first = attached-by refs (pos 0) (pos-above 0) i.ends.start start

      second : IsAttachedEnd refs i.ends.end
      second = attached-by refs (pos a) (pos-above a) i.ends.end behind

      same-label : label ≡ m.0
      same-label = text-is label m.0 named

      ends-are : ends_of_name (label, m.1) acked ≡ i.ends
      ends-are = ap (λ c. ends_of_name (c, m.1) acked) same-label ∙ ap ends-in there
        where
          ends-in : Option (Interval ℕ) → EndPair ℕ
          ends-in None = record { start = None; end = None }
          ends-in (Some j) = j.ends

      item : (item_at first.reference (list_in x).items ≡ Some (item_for first.reference second.reference)) × (id_in x first.reference ≡ Some m.1)
      item = l.listed m.1 first.reference second.reference (to-attached refs (ends_of_name (label, m.1) acked) first.reference second.reference (record {
        start = ap (λ (e : EndPair ℕ). e.start) ends-are ∙ first.is;
        end = ap (λ (e : EndPair ℕ). e.end) ends-are ∙ second.is;
        first = first.attached;
        second = second.attached;
      }))

      meets-it : meets_range (shown_place xs refs) a b (item_for first.reference second.reference) ≡ true
      meets-it = both-true
          (sym (ap (λ e. int_le (number_at xs last (shown_end xs (place_of_end refs e))) (pos b)) first.is) ∙ before)
          (sym (ap (λ e. int_le (pos a) (number_at xs last (shown_end xs (place_of_end refs e)))) second.is) ∙ behind)
        where
          both-true : {p q : Bool} → p ≡ true → q ≡ true → p && q ≡ true
          both-true e f = rw (e, f) refl

      pub met : is_met (shown_place xs refs) a b m x ≡ true
      met = by x refl
        where
          by : (o : Option LabelIndex) → x ≡ o → is_met (shown_place xs refs) a b m x ≡ true
          by None e = absurd (none-some (sym (ap (λ o. item_at first.reference (list_in o).items) e) ∙ item.0))
          by (Some y) e =
              let found = key-found (shown_place xs refs) a b first.reference (item_for first.reference second.reference) y.index.items (λ k. is_id m.1 (id_in (Some y) k))
              (sym (ap (λ o. item_at first.reference (list_in o).items) e) ∙ item.0) meets-it
              (ap (is_id m.1) (sym (ap (λ o. id_in o first.reference) e) ∙ item.1) ∙ text-self m.1) in
              let name : is_eq (text_cmp m.0 y.label) ≡ true = sym (ap (λ c. is_eq (text_cmp c y.label)) same-label) ∙ own y e in
              ap (is_met (shown_place xs refs) a b m) e ∙ rw (name, found) refl

    -- what isn't gathered doesn't meet the range
    pub unwanted : (m : Name) → is_on_any m ts || is_met (shown_place xs refs) a b m x ≡ false → kept passes (interval_of m (shown_from xs 0 ts from)) ≡ None
    unfolding shown_end
    unwanted m w = by (interval_of m (shown_from xs 0 ts from)) refl
      where
        off : (is_on_any m ts ≡ false) × (is_met (shown_place xs refs) a b m x ≡ false)
        off = parts-false (is_on_any m ts) (is_met (shown_place xs refs) a b m x) w

        never : (i : Interval ℕ) → interval_of m (shown_from xs 0 ts from) ≡ Some i → passes i ≡ true → (o : Option (Interval ℕ)) → interval_of m acked ≡ o → ⊥
        never i e h None f =
            none-some (sym (unnamed-none xs m 0 ts off.0)
            ∙ sym (ap (λ o. shown_one_from xs m 0 ts (option_map (settled_interval xs 0) (option_map (with_mapped_ends (places_of_ends refs)) o))) f) ∙ sym (shown-from-named refs acked ts rise m) ∙ e)
        never i e h (Some j) f =
            let at : Interval ℕ = settled_interval xs 0 (with_mapped_ends (places_of_ends refs) j) in
            let is : carried_interval xs 0 last at ≡ i = some-is (sym (unnamed-shown m 0 ts at (from-zero last) off.0 stages fits)
            ∙ sym (ap (λ o. shown_one_from xs m 0 ts (option_map (settled_interval xs 0) (option_map (with_mapped_ends (places_of_ends refs)) o))) f) ∙ sym (shown-from-named refs acked ts rise m) ∙ e) in
            let tests = all_four (is_eq (text_cmp label j.label)) (int_le (pos 0) (number_at xs last (shown_end xs (place_of_end refs j.ends.start))))
            (int_le (number_at xs last (shown_end xs (place_of_end refs j.ends.start))) (pos b)) (int_le (pos a) (number_at xs last (shown_end xs (place_of_end refs j.ends.end))))
            (ap passes is ∙ h) in
            let name : name_of j ≡ m = found-name m acked j f in
            true-false (met m j off.0 f (ap (λ (c : Name). is_eq (text_cmp label c.0)) (sym name) ∙ tests.0) tests.1 tests.2 tests.3) off.1

        by : (o : Option (Interval ℕ)) → interval_of m (shown_from xs 0 ts from) ≡ o → kept passes o ≡ None
        by None e = refl
        by (Some i) e = step (passes i) refl
          where
            step : (c : Bool) → passes i ≡ c → cond c (Some i) None ≡ None
            step false f = refl
            step true f = absurd (never i e f (interval_of m acked) refl)
