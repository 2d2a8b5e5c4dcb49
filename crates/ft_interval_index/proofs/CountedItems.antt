-- Each item that is found is of an interval that meets the range, or has a pending operation, so that there are no more of them.
use Rattle.std.proofs.Common.{◌≡◌, ◌≢◌, ℕ, suc, ℤ, pos, int_le, ◌+◌, ◌≤◌, Bool, true, false, cond, ◌&&◌, nat_eq, List, [], ◌∷◌, length, All, Option, Some, None, is_some, option_map, refl, sym, ◌∙◌, ap, subst, inl, inr, arith, map, filter}
use Rattle.std.specs.Ordering.{is_eq}
use Rattle.std.proofs.lemmas.Int.{ints}
use Rattle.std.proofs.lemmas.Bool.{eq-eqb}
use Rattle.std.proofs.lemmas.List.{length-map}
use Rattle.std.proofs.lemmas.List.Elements.{All-head, All-tail}
use Rattle.ft_sumdoc.specs.declared.summary.IntervalRec.{IntervalRec}
use Rattle.ft_base.proofs.Booleans.{both}
use Rattle.ft_base.specs.Scan.{one_more_if}
use Rattle.ft_overlap.specs.declared.items.Item.{Item}
use Rattle.ft_overlap.specs.Items.{item_at, key_if}
use Rattle.ft_props.specs.Keys.{Characters, text_cmp}
use Rattle.ft_sumdoc.specs.Meeting.{meets}
use Rattle.ft_tree_leaves.specs.Elements.{TreeElement}
use Rattle.ft_tree_leaves.specs.References.{reference_place}
use Rattle.ft_interval_store.specs.declared.intervals.EndPair.{EndPair}
use Rattle.ft_interval_store.specs.declared.intervals.Interval.{Interval}
use Rattle.ft_interval_store.specs.declared.pending.Operation.{Operation}
use Rattle.ft_interval_store.specs.Ends.{References, place_of_end, places_of_ends}
use Rattle.ft_interval_store.specs.Gathered.{is_on_any}
use Rattle.ft_interval_index.specs.Indexes.{LabelIndex, IsItemOf, IsListed, id_in, keys_meeting, list_in, meets_range}
use Rattle.ft_interval_store.specs.Intervals.{Name, NamesRise, interval_of, name_of}
use Rattle.ft_interval_store.specs.Shown.{shown_end, shown_place, carried_interval, last, number_at, settled_interval, shown_from, shown_one_from, shown_record}
use Rattle.ft_interval_store.specs.State.{StagesRise, ends_of_name, placed_intervals, with_mapped_ends}
use Rattle.ft_interval_index.proofs.CountedKeys.{AreApart, AreCounted, IsApart, IsCounted, counted}
use Rattle.ft_interval_index.proofs.FoundItems.{not-le, pos-above, from-zero, shown-from-named, text-self, unnamed-shown}
use Rattle.ft_interval_store.proofs.Gathered.{rise-shown_from}
use Rattle.ft_interval_index.proofs.ItemLookups.{each-own, times}
use Rattle.ft_interval_index.proofs.Listed.{some-is}
use Rattle.ft_interval_store.proofs.OneInterval.{NamesRise-map}
use Rattle.ft_interval_store.proofs.RisingLists.{filter-map, found-name, interval_of-filter, kept, rise-filter}
use Rattle.ft_interval_index.proofs.ShownOrder.{shown-order}
use Rattle.ft_interval_index.proofs.StartsOnce.{has-start}

none-some : {A : Type 0} {x : A} → None ≡ Some x → ⊥
none-some h = (cc)

true-false : {b : Bool} → b ≡ true → b ≡ false → ⊥
true-false p q = (let n : true ≡ false = sym p ∙ q in cc n)

-- an item more, where it has an id
abbrev name_if : Characters → Bool → Option Characters → List Name → List Name
name_if label true (Some id) ns = (label, id) ∷ ns
name_if label true None ns = ns
name_if label false o ns = ns

more-room : (k m c n : ℕ) → k ≤ m + n → c ≡ m → k ≤ c + n
more-room k m c n h e = omega (arith, h, e)

-- ---- by any places

module _ (n : ℕ) (refs : References) (acked : List (Interval ℕ)) (label : Characters) (place : ℕ → ℤ) (a b : ℕ) (x : Option LabelIndex)
    (l : IsListed n refs (λ id. ends_of_name (label, id) acked) x) where
  abbrev names : List Item → List Name
  names [] = []
  names (y ∷ ys) = name_if label (meets_range place a b y) (id_in x y.key) (names ys)

  abbrev IsOwn : Item → Type 0
  IsOwn y = item_at y.key (list_in x).items ≡ Some y

  abbrev AreOwn : List Item → Type 0
  AreOwn [] = Unit {0}
  AreOwn (y ∷ ys) = IsOwn y × AreOwn ys

  -- ---- as many names as keys

  same-count : (ys : List Item) → AreOwn ys → length (keys_meeting place a b ys) ≡ length (names ys)
  same-count [] h = refl
  same-count (y ∷ ys) h =
      step (meets_range place a b y) (same-count ys h.1) ∙ sym (ap (λ o. length (name_if label (meets_range place a b y) o (names ys))) (l.only y.key y h.0).id_is)
    where
      step : (c : Bool) → length (keys_meeting place a b ys) ≡ length (names ys)
          → length (key_if c y.key (keys_meeting place a b ys)) ≡ length (name_if label c (Some (l.only y.key y h.0).id) (names ys))
      step true e = ap suc e
      step false e = e

  -- ---- each name once

  other-name : (y z : Item) (o : IsItemOf (λ id. ends_of_name (label, id) acked) x y.key y) (p : IsItemOf (λ id. ends_of_name (label, id) acked) x z.key z)
      → z.key ≢ y.key → (let n : Name = (label, p.id) in let m : Name = (label, o.id) in n ≢ m)
  other-name y z o p d e =
      let same : p.id ≡ o.id = ap (λ (n : Name). n.1) e in
      let ends = sym p.ends ∙ ap (λ i. ends_of_name (label, i) acked) same ∙ o.ends in
      d (some-is (ap (λ (q : EndPair ℕ). q.start) ends))

  apart-from : (y : Item) (o : IsItemOf (λ id. ends_of_name (label, id) acked) x y.key y) (ys : List Item) → AreOwn ys → times y.key ys ≡ 0
      → IsApart (label, o.id) (names ys)
  apart-from y o [] h t = tt
  apart-from y o (z ∷ zs) h t =
      let p = l.only z.key z h.0 in
      let rest = apart-from y o zs h.1 (fewer (nat_eq z.key y.key) t) in
      subst (λ i. IsApart (label, o.id) (name_if label (meets_range place a b z) i (names zs))) (sym p.id_is) (step (meets_range place a b z) p rest)
    where
      fewer : (c : Bool) → one_more_if c (times y.key zs) ≡ 0 → times y.key zs ≡ 0
      fewer true e = absurd (omega (arith, e))
      fewer false e = e

      differ : z.key ≢ y.key
      differ e = (let one : times y.key (z ∷ zs) ≡ suc (times y.key zs) = ap (λ c. one_more_if c (times y.key zs)) (eq-eqb z.key y.key e) in absurd (omega (arith, one, t)))

      step : (c : Bool) (p : IsItemOf (λ id. ends_of_name (label, id) acked) x z.key z) → IsApart (label, o.id) (names zs)
          → IsApart (label, o.id) (name_if label c (Some p.id) (names zs))
      step true p rest = (other-name y z o p differ, rest)
      step false p rest = rest

  apart : (ys : List Item) → AreOwn ys → ((k : ℕ) → times k ys ≤ 1) → AreApart (names ys)
  apart [] h t = tt
  apart (y ∷ ys) h t =
      let o = l.only y.key y h.0 in
      subst (λ i. AreApart (name_if label (meets_range place a b y) i (names ys))) (sym o.id_is)
      (step (meets_range place a b y) o (apart ys h.1 (λ k. few (nat_eq y.key k) (times k ys) (t k))))
    where
      few : (c : Bool) (n : ℕ) → one_more_if c n ≤ 1 → n ≤ 1
      few true n e = omega (arith, e)
      few false n e = e

      none : times y.key ys ≡ 0
      none = (let one : times y.key (y ∷ ys) ≡ suc (times y.key ys) = ap (λ c. one_more_if c (times y.key ys)) (eq-eqb y.key y.key refl) in let most = t y.key in omega (arith, one, most))

      step : (c : Bool) (o : IsItemOf (λ id. ends_of_name (label, id) acked) x y.key y) → AreApart (names ys)
          → AreApart (name_if label c (Some o.id) (names ys))
      step true o rest = (apart-from y o ys h.1 none, rest)
      step false o rest = rest

  own-all : (ys : List Item) → All (λ (y : Item). IsOwn y) ys → AreOwn ys
  own-all [] h = tt
  own-all (y ∷ ys) h = (All-head (λ (z : Item). IsOwn z) y ys h, own-all ys (All-tail (λ (z : Item). IsOwn z) y ys h))

  module _ (is : List (Interval ℕ)) (ts : List Operation)
      (counts : (y : Item) (o : IsItemOf (λ id. ends_of_name (label, id) acked) x y.key y) → IsOwn y → meets_range place a b y ≡ true → IsCounted is ts (label, o.id)) where
    are-counted : (ys : List Item) → AreOwn ys → AreCounted is ts (names ys)
    are-counted [] h = tt
    are-counted (y ∷ ys) h =
        let o = l.only y.key y h.0 in
        subst (λ i. AreCounted is ts (name_if label (meets_range place a b y) i (names ys))) (sym o.id_is) (step (meets_range place a b y) refl o (are-counted ys h.1))
      where
        step : (c : Bool) → meets_range place a b y ≡ c → (o : IsItemOf (λ id. ends_of_name (label, id) acked) x y.key y) → AreCounted is ts (names ys)
            → AreCounted is ts (name_if label c (Some o.id) (names ys))
        step true e o rest = (counts y o h.0 e, rest)
        step false e o rest = rest

    -- no more are found than are counted
    pub few-counted : NamesRise is → length (keys_meeting place a b (list_in x).items) ≤ length is + length ts
    few-counted rises =
        let ys = (list_in x).items in
        let own = own-all ys (each-own ys l.once) in
        let most = counted (names ys) is ts rises (apart ys own l.once) (are-counted ys own) in
        let same = same-count ys own in
        omega (arith, most, same)

module _ {U : Type 0} (xs : List (TreeElement U)) where
  number-from-zero : (c : ℕ) (p q : Option ℕ) → is_some p ≡ is_some q → int_le (pos c) (number_at xs last q) ≡ true
      → int_le (pos 0) (number_at xs last p) ≡ true
  number-from-zero c None None h e = absurd (true-false e (not-le (pos c) (pos-above c)))
  number-from-zero c None (Some j) h e = (cc)
  number-from-zero c (Some i) q h e = zero-le _
    where
      zero-le : (m : ℕ) → int_le (pos 0) (pos m) ≡ true
      zero-le m = by (int_le (pos 0) (pos m)) refl
        where
          by : (t : Bool) → int_le (pos 0) (pos m) ≡ t → int_le (pos 0) (pos m) ≡ true
          by true f = f
          by false f = absurd (omega (arith, ints, f))

  module _ (refs : References) (acked : List (Interval ℕ)) (ts : List Operation) (label : Characters) (a b : ℕ) (x : Option LabelIndex)
      (rise : NamesRise acked) (stages : StagesRise 0 ts) (fits : All (λ (t : Operation). t.stage ≤ last) ts)
      (l : IsListed (length xs) refs (λ id. ends_of_name (label, id) acked) x) where
    abbrev from : List (Interval ℕ)
    from = map (settled_interval xs 0) (placed_intervals refs acked)

    abbrev place : ℕ → ℤ
    place = shown_place xs refs

    abbrev passes : Interval ℕ → Bool
    passes i = meets label a b (shown_record xs i)

    abbrev shown : List (Interval ℕ)
    shown = shown_from xs 0 ts from

    -- ---- each is shown within the range, or an operation is on it

    found-counted : (y : Item) (o : IsItemOf (λ id. ends_of_name (label, id) acked) x y.key y) → item_at y.key (list_in x).items ≡ Some y
        → meets_range place a b y ≡ true
        → IsCounted (filter passes shown) ts (label, o.id)
    unfolding shown_end
    found-counted y o own m = by (is_on_any (label, o.id) ts) refl
      where
        by : (c : Bool) → is_on_any (label, o.id) ts ≡ c → IsCounted (filter passes shown) ts (label, o.id)
        by true e = inr e
        by false e = inl (
            let w = has-start acked (label, o.id) y.key (ap (λ (p : EndPair ℕ). p.start) o.ends) in
            let i : Interval ℕ = w.interval in
            let ends : i.ends ≡ record { start = Some y.key; end = Some y.end } = sym (ap ends-in w.there) ∙ o.ends in
            let at : Interval ℕ = settled_interval xs 0 (with_mapped_ends (places_of_ends refs) i) in
            let is : interval_of (label, o.id) shown ≡ Some (carried_interval xs 0 last at) =
            shown-from-named xs refs acked ts rise (label, o.id)
            ∙ ap (λ u. shown_one_from xs (label, o.id) 0 ts (option_map (settled_interval xs 0) (option_map (with_mapped_ends (places_of_ends refs)) u))) w.there
            ∙ unnamed-shown xs (label, o.id) 0 ts at (from-zero last) e stages fits in
            let parts = both (int_le (place y.start) (pos b)) (int_le (pos a) (place y.end)) m in
            let key : y.start ≡ y.key = ap (λ (z : Item). z.start) o.item in
            let pass = passes-it i (found-name (label, o.id) acked i w.there)
            (ap (λ p. int_le (number_at xs last (shown_end xs (place_of_end refs p))) (pos b)) (ap (λ (p : EndPair ℕ). p.start) ends)
            ∙ ap (λ k. int_le (place k) (pos b)) (sym key) ∙ parts.0)
            (ap (λ p. int_le (pos a) (number_at xs last (shown_end xs (place_of_end refs p)))) (ap (λ (p : EndPair ℕ). p.end) ends) ∙ parts.1)
            (number-from-zero a (shown_end xs (place_of_end refs i.ends.start)) (shown_end xs (reference_place refs y.end)) (side ends key) parts.1) in
            ap (λ u. is_some u) (interval_of-filter passes (label, o.id) shown (rise-shown_from xs 0 ts from rise-from)
            ∙ ap (kept passes) is ∙ ap (λ c. cond c (Some (carried_interval xs 0 last at)) None) pass)
            )
          where
            ends-in : Option (Interval ℕ) → EndPair ℕ
            ends-in u = elim u as (λ _. EndPair ℕ) [ None ↦ record { start = None; end = None } | Some j ↦ j.ends ]

            rise-from : NamesRise from
            rise-from = NamesRise-map (settled_interval xs 0) (placed_intervals refs acked) (λ i. refl)
                (NamesRise-map (with_mapped_ends (places_of_ends refs)) acked (λ i. refl) rise)

            side : {e : EndPair ℕ} → e ≡ record { start = Some y.key; end = Some y.end } → y.start ≡ y.key
                → is_some (shown_end xs (place_of_end refs e.start)) ≡ is_some (shown_end xs (reference_place refs y.end))
            side e k =
                ap (λ p. is_some (shown_end xs (place_of_end refs p))) (ap (λ (p : EndPair ℕ). p.start) e) ∙ ap (λ r. is_some (shown_end xs (reference_place refs r))) (sym k)
                ∙ (shown-order xs).together (reference_place refs y.start) (reference_place refs y.end) (l.within y.key y own).0 (l.within y.key y own).1 (l.together y.key y own)

            passes-it : (i : Interval ℕ) → name_of i ≡ (label, o.id)
                → int_le (number_at xs last (shown_end xs (place_of_end refs i.ends.start))) (pos b) ≡ true
                → int_le (pos a) (number_at xs last (shown_end xs (place_of_end refs i.ends.end))) ≡ true
                → int_le (pos 0) (number_at xs last (shown_end xs (place_of_end refs i.ends.start))) ≡ true
                → passes (carried_interval xs 0 last (settled_interval xs 0 (with_mapped_ends (places_of_ends refs) i))) ≡ true
            passes-it i n p q r = all-true (ap (λ (m : Name). is_eq (text_cmp label m.0)) n ∙ text-self label) r p q
              where
                all-true : {c d e f : Bool} → c ≡ true → d ≡ true → e ≡ true → f ≡ true → c && d && e && f ≡ true
                all-true u v w z = rw (u, v, w, z) refl

    -- so no more are found than that
    pub few-keys : length (keys_meeting place a b (list_in x).items) ≤ length (filter (meets label a b) (map (shown_record xs) shown)) + length ts
    few-keys =
        let most = few-counted (length xs) refs acked label place a b x l (filter passes shown) ts found-counted
        (rise-filter passes shown (rise-shown_from xs 0 ts from (NamesRise-map (settled_interval xs 0) (placed_intervals refs acked) (λ i. refl)
        (NamesRise-map (with_mapped_ends (places_of_ends refs)) acked (λ i. refl) rise)))) in
        let count : length (filter (meets label a b) (map (shown_record xs) shown)) ≡ length (filter passes shown) =
        ap (λ (rs : List IntervalRec). length rs) (filter-map (meets label a b) (shown_record xs) shown) ∙ length-map (filter passes shown) (shown_record xs) in
        more-room (length (keys_meeting place a b (list_in x).items)) (length (filter passes shown))
        (length (filter (meets label a b) (map (shown_record xs) shown))) (length ts) most count
