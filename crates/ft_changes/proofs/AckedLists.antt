-- An acknowledgement changes nothing of what is shown of a list.
use Rattle.std.proofs.Common.{◌≡◌, ℕ, ◌<◌, ◌≤◌, Bool, true, false, cond, not, ◌&&◌, ◌||◌, ◌⊎◌, inl, inr, nat_eq, nat_le, List, [], ◌∷◌, ◌++◌, Option, Some, None, refl, sym, ◌∙◌, ap, arith, append-nil, filter, map}
use Rattle.std.proofs.lemmas.Bool.{eqb-true}
use Rattle.std.specs.List.{list_any}
use Rattle.ft_base.specs.declared.stamps.Stamp.{Stamp}
use Rattle.ft_base.specs.declared.stamps.Stamp.TheVariants.{Acked, Local}
use Rattle.ft_base.specs.Scan.{len}
use Rattle.ft_base.specs.Visibility.{has_occurred_at_stage}
use Rattle.ft_props.specs.declared.properties.Changes.{Changes}
use Rattle.ft_props.specs.Overlay.{IsBelowStages, StagesRise}
use Rattle.ft_props.specs.Properties.{PropertyList, change, shown_props}
use Rattle.ft_props.specs.Element.{ListElement, removal_stamp, seen}
use Rattle.ft_props.specs.Steps.{Sequence, acked_stamp, acked_props, acked_removal, acked_element, acked_list, remaining_removal}
use Rattle.ft_changes.specs.Shown.{shown_element, shown_elements}
use Rattle.ft_changes.proofs.ElementLaws.{any-middle}

-- ---- stages

-- each is above k
abbrev pub AreAbove : ℕ → List ℕ → Type 0
AreAbove k [] = Unit {0}
AreAbove k (j ∷ js) = (k < j) × AreAbove k js

-- they rise up to at most last
abbrev pub RiseTo : ℕ → List ℕ → Type 0
RiseTo last [] = Unit {0}
RiseTo last (k ∷ ks) = (k ≤ last) × AreAbove k ks × RiseTo last ks

-- the pending changes are of these stages
abbrev pub AreOf : List ℕ → List (ℕ × Changes) → Type 0
AreOf ks [] = Unit {0}
AreOf ks (q ∷ qs) = (list_any (nat_eq q.0) ks ≡ true) × AreOf ks qs

-- what is pending on each element is of these stages, and rises
abbrev pub AreMarkedBy : List ℕ → List ListElement → Type 0
AreMarkedBy ks [] = Unit {0}
AreMarkedBy ks (e ∷ xs) = StagesRise e.pending × AreOf ks e.pending × AreMarkedBy ks xs

either : (a b : Bool) → a || b ≡ true → (a ≡ true) ⊎ (b ≡ true)
either true b h = inl refl
either false b h = inr h

above : (k q : ℕ) (ks : List ℕ) → AreAbove k ks → list_any (nat_eq q) ks ≡ true → k < q
above k q [] h any = absurd cc
above k q (j ∷ js) h any = elim (either (nat_eq q j) (list_any (nat_eq q) js) any) [
  | inl e ↦ let is = eqb-true q j e in let less = h.0 in omega arith
  | inr more ↦ above k q js h.1 more
]

-- none of them is k where all are above it
none-above : (k : ℕ) (qs : List (ℕ × Changes)) → IsBelowStages k qs → list_any (λ q. nat_eq q.0 k) qs ≡ false
none-above k [] h = refl
none-above k ((j, c) ∷ qs) h = by (nat_eq j k) refl (none-above k qs h.1)
  where
    by : (b : Bool) → nat_eq j k ≡ b → list_any (λ (q : ℕ × Changes). nat_eq q.0 k) qs ≡ false → b || list_any (λ (q : ℕ × Changes). nat_eq q.0 k) qs ≡ false
    by true e rest = let is = eqb-true j k e in let less = h.0 in absurd (omega arith)
    by false e rest = rest

further-above : (k j : ℕ) (qs : List (ℕ × Changes)) → k ≤ j → IsBelowStages j qs → IsBelowStages k qs
further-above k j [] le h = tt
further-above k j ((i, c) ∷ qs) le h = let less = h.0 in (omega arith, further-above k j qs le h.1)

pub neither : (a b : Bool) → a || b ≡ false → (a ≡ false) × (b ≡ false)
neither true b h = (cc)
neither false b h = (refl, h)

same-props : (k : ℕ) (props : PropertyList) (qs : List (ℕ × Changes)) → list_any (λ q. nat_eq q.0 k) qs ≡ false → acked_props k props qs ≡ props
same-props k props [] h = refl
same-props k props ((j, m) ∷ qs) h =
    let p = neither (nat_eq j k) (list_any (λ (q : ℕ × Changes). nat_eq q.0 k) qs) h in
    rw p.0 (same-props k props qs p.1)

all-kept : (k : ℕ) (qs : List (ℕ × Changes)) → list_any (λ q. nat_eq q.0 k) qs ≡ false → filter (λ q. not (nat_eq q.0 k)) qs ≡ qs
all-kept k [] h = refl
all-kept k (q ∷ qs) h =
    let p = neither (nat_eq q.0 k) (list_any (λ (q : ℕ × Changes). nat_eq q.0 k) qs) h in
    rw p.0 (ap (λ ms. q ∷ ms) (all-kept k qs p.1))

-- ---- properties

acked-shown_props : (k : ℕ) (ks : List ℕ) (props : PropertyList) (qs : List (ℕ × Changes)) → AreAbove k ks → StagesRise qs → AreOf (k ∷ ks) qs
    → shown_props (acked_props k props qs) (filter (λ q. not (nat_eq q.0 k)) qs) ≡ shown_props props qs
acked-shown_props k ks props [] h rise of = refl
acked-shown_props k ks props ((j, c) ∷ qs) h rise of = by (nat_eq j k) refl
  where
    rest : k ≤ j → list_any (λ (q : ℕ × Changes). nat_eq q.0 k) qs ≡ false
    rest le = none-above k qs (further-above k j qs le rise.0)

    by : (b : Bool) → nat_eq j k ≡ b
        → shown_props (acked_props k (cond b (change props c) props) qs) (cond (not b) ((j, c) ∷ filter (λ q. not (nat_eq q.0 k)) qs) (filter (λ q. not (nat_eq q.0 k)) qs))
        ≡ shown_props (change props c) qs
    by true e =
        let is = eqb-true j k e in
        let none = rest (omega arith) in
        ap (λ ps. shown_props ps (filter (λ q. not (nat_eq q.0 k)) qs)) (same-props k (change props c) qs none) ∙ ap (shown_props (change props c)) (all-kept k qs none)
    by false e =
        let less : k < j = elim (either (nat_eq j k) (list_any (nat_eq j) ks) of.0) [ inl same ↦ absurd (cc) | inr later ↦ above k j ks h later ] in
        let none = rest (omega arith) in
        ap (λ ps. shown_props (change ps c) (filter (λ q. not (nat_eq q.0 k)) qs)) (same-props k props qs none) ∙ ap (shown_props (change props c)) (all-kept k qs none)

-- ---- who is seen

module _ (k last s c : ℕ) (low : k ≤ last) where
  at_last : (j : ℕ) → nat_eq j k ≡ true → nat_le j last ≡ true
  at_last j e = let is = eqb-true j k e in grind (arith, is, low)

  acked-insertion : (t : Stamp) → has_occurred_at_stage last (acked_stamp k s c t) ≡ has_occurred_at_stage last t
  acked-insertion (Acked a b) = refl
  acked-insertion (Local j) = by (nat_eq j k) refl
    where
      by : (b : Bool) → nat_eq j k ≡ b → has_occurred_at_stage last (cond b (Acked s c) (Local j)) ≡ nat_le j last
      by true e = sym (at_last j e)
      by false e = refl

  acked-removals : (dels : List Stamp) (o : Option ℕ)
      → list_any (has_occurred_at_stage last) ((dels ++ acked_removal k s c o) ++ removal_stamp (remaining_removal k o)) ≡ list_any (has_occurred_at_stage last) (dels ++ removal_stamp o)
  acked-removals dels None = ap (list_any (has_occurred_at_stage last)) (append-nil (dels ++ []))
  acked-removals dels (Some j) = by (nat_eq j k) refl
    where
      by : (b : Bool) → nat_eq j k ≡ b
          → list_any (has_occurred_at_stage last) ((dels ++ cond b (Acked s c ∷ []) []) ++ removal_stamp (cond b None (Some j))) ≡ list_any (has_occurred_at_stage last) (dels ++ Local j ∷ [])
      by true e =
          any-middle (has_occurred_at_stage last) (Acked s c) refl dels []
          ∙ sym (ap (list_any (has_occurred_at_stage last)) (sym (append-nil (dels ++ Local j ∷ []))) ∙ any-middle (has_occurred_at_stage last) (Local j) (at_last j e) dels [])
      by false e = ap (λ ds. list_any (has_occurred_at_stage last) (ds ++ Local j ∷ [])) (append-nil dels)

  pub acked-seen : (n : ℕ) (e : ListElement) → seen last (acked_element k n s c e) ≡ seen last e
  acked-seen n e =
      ap (λ b. b && not (list_any (has_occurred_at_stage last) ((e.dels ++ acked_removal k s c e.removal_stage) ++ removal_stamp (remaining_removal k e.removal_stage)))) (acked-insertion e.ins)
      ∙ ap (λ b. has_occurred_at_stage last e.ins && not b) (acked-removals e.dels e.removal_stage)

  module _ (ks : List ℕ) (h : AreAbove k ks) where
    acked-shown : (n : ℕ) (xs : List ListElement) → AreMarkedBy (k ∷ ks) xs → shown_elements last (map (acked_element k n s c) xs) ≡ shown_elements last xs
    acked-shown n [] m = refl
    acked-shown n (e ∷ xs) m =
        ap (λ b. cond b (shown_element (acked_element k n s c e) ∷ shown_elements last (map (acked_element k n s c) xs)) (shown_elements last (map (acked_element k n s c) xs))) (acked-seen n e)
        ∙ ap (λ p. cond (seen last e) (record { content = e.content; props = p } ∷ shown_elements last (map (acked_element k n s c) xs)) (shown_elements last (map (acked_element k n s c) xs)))
        (acked-shown_props k ks e.props e.pending h m.0 m.1)
        ∙ ap (λ es. cond (seen last e) (shown_element e ∷ es) es) (acked-shown n xs m.2)

  acked-count : (n : ℕ) (xs : List ListElement) → len (seen last) (map (acked_element k n s c) xs) ≡ len (seen last) xs
  acked-count n [] = refl
  acked-count n (e ∷ xs) = grind (arith, acked-seen n e, acked-count n xs)

-- what is pending after the acknowledgement
remaining-of : (k : ℕ) (ks : List ℕ) (qs : List (ℕ × Changes)) → AreOf (k ∷ ks) qs → AreOf ks (filter (λ q. not (nat_eq q.0 k)) qs)
remaining-of k ks [] h = tt
remaining-of k ks (q ∷ qs) h = by (nat_eq q.0 k) (remaining-of k ks qs h.1) h.0
  where
    by : (b : Bool) → AreOf ks (filter (λ p. not (nat_eq p.0 k)) qs) → b || list_any (nat_eq q.0) ks ≡ true → AreOf ks (cond (not b) (q ∷ filter (λ p. not (nat_eq p.0 k)) qs) (filter (λ p. not (nat_eq p.0 k)) qs))
    by true rest e = rest
    by false rest e = (e, rest)

remaining-below : (k j : ℕ) (qs : List (ℕ × Changes)) → IsBelowStages j qs → IsBelowStages j (filter (λ q. not (nat_eq q.0 k)) qs)
remaining-below k j [] h = tt
remaining-below k j ((i, c) ∷ qs) h = by (nat_eq i k) (remaining-below k j qs h.1)
  where
    by : (b : Bool) → IsBelowStages j (filter (λ p. not (nat_eq p.0 k)) qs) → IsBelowStages j (cond (not b) ((i, c) ∷ filter (λ p. not (nat_eq p.0 k)) qs) (filter (λ p. not (nat_eq p.0 k)) qs))
    by true rest = rest
    by false rest = (h.0, rest)

remaining-rise : (k : ℕ) (qs : List (ℕ × Changes)) → StagesRise qs → StagesRise (filter (λ q. not (nat_eq q.0 k)) qs)
remaining-rise k [] h = tt
remaining-rise k ((i, c) ∷ qs) h = by (nat_eq i k) (remaining-rise k qs h.1)
  where
    by : (b : Bool) → StagesRise (filter (λ p. not (nat_eq p.0 k)) qs) → StagesRise (cond (not b) ((i, c) ∷ filter (λ p. not (nat_eq p.0 k)) qs) (filter (λ p. not (nat_eq p.0 k)) qs))
    by true rest = rest
    by false rest = (remaining-below k i qs h.0, rest)

remaining-marked : (k n s c : ℕ) (ks : List ℕ) (xs : List ListElement) → AreMarkedBy (k ∷ ks) xs → AreMarkedBy ks (map (acked_element k n s c) xs)
remaining-marked k n s c ks [] m = tt
remaining-marked k n s c ks (e ∷ xs) m = (remaining-rise k e.pending m.0, remaining-of k ks e.pending m.1, remaining-marked k n s c ks xs m.2)

-- ---- several stages

-- a list after the acknowledgement of these stages
abbrev pub acked_lists : ℕ → ℕ → List ℕ → Sequence → Sequence
acked_lists s c [] list = list
acked_lists s c (k ∷ ks) list = acked_lists s c ks (acked_list k s c list)

pub acked_lists-shown : (s c last : ℕ) (ks js : List ℕ) (list : Sequence) → RiseTo last (ks ++ js) → AreMarkedBy (ks ++ js) list.items
    → shown_elements last (acked_lists s c ks list).items ≡ shown_elements last list.items
acked_lists-shown s c last [] js list rise m = refl
acked_lists-shown s c last (k ∷ ks) js list rise m =
    acked_lists-shown s c last ks js (acked_list k s c list) rise.2 (remaining-marked k list.made s c (ks ++ js) list.items m)
    ∙ acked-shown k last s c rise.0 (ks ++ js) rise.1 list.made list.items m

pub acked_lists-count : (s c last : ℕ) (ks js : List ℕ) (list : Sequence) → RiseTo last (ks ++ js) → len (seen last) (acked_lists s c ks list).items ≡ len (seen last) list.items
acked_lists-count s c last [] js list rise = refl
acked_lists-count s c last (k ∷ ks) js list rise =
    acked_lists-count s c last ks js (acked_list k s c list) rise.2 ∙ acked-count k last s c rise.0 list.made list.items
