-- Which keys a search takes of a list of items.
use Rattle.std.proofs.Common.{◌≡◌, ℕ, ℤ, int_lt, ◌<ℤ◌, ◌≤ℤ◌, ◌≤◌, Bool, true, false, not, ◌&&◌, List, [], ◌∷◌, ◌++◌, length, All, Contains, refl, sym, ap, ◌∙◌, arith}
use Rattle.std.proofs.lemmas.Int.{ints}
use Rattle.std.proofs.lemmas.List.Elements.{All-nil, All-cons, All-head, All-tail, All-contains, All-weaker}
use Rattle.ft_overlap.specs.declared.items.Item.{Item}
use Rattle.ft_overlap.specs.Items.{starts_by, ends_from, key_if, keys_within, IsRising, IsGreatest}
use Rattle.ft_overlap.specs.Search.{keys_from}

pub lt_true : (x y : ℤ) → x <ℤ y → int_lt x y ≡ true
lt_true x y h = by (int_lt x y) refl
  where
    by : (t : Bool) → int_lt x y ≡ t → int_lt x y ≡ true
    by true e = e
    by false e = absurd (omega (arith, ints))

pub lt_false : (x y : ℤ) → y ≤ℤ x → int_lt x y ≡ false
lt_false x y h = by (int_lt x y) refl
  where
    by : (t : Bool) → int_lt x y ≡ t → int_lt x y ≡ false
    by false e = e
    by true e = absurd (omega (arith, ints))

pub true_lt : (x y : ℤ) → int_lt x y ≡ true → x <ℤ y
true_lt x y h = omega (arith, ints, h)

pub false_lt : (x y : ℤ) → int_lt x y ≡ false → y ≤ℤ x
false_lt x y h = omega (arith, ints, h)

and_false : (s : Bool) → s && false ≡ false
and_false true = refl
and_false false = refl

key_if-append : (t : Bool) (k : ℕ) (xs ys : List ℕ) → key_if t k (xs ++ ys) ≡ key_if t k xs ++ ys
key_if-append true k xs ys = refl
key_if-append false k xs ys = refl

pub all_front : {X : Type 0} (P : X → Type 0) (xs ys : List X) → All P (xs ++ ys) → All P xs
all_front P [] ys h = All-nil P
all_front P (x ∷ xs) ys h = All-cons P x xs (All-head P x (xs ++ ys) h) (all_front P xs ys (All-tail P x (xs ++ ys) h))

pub all_rest : {X : Type 0} (P : X → Type 0) (xs ys : List X) → All P (xs ++ ys) → All P ys
all_rest P [] ys h = h
all_rest P (x ∷ xs) ys h = all_rest P xs ys (All-tail P x (xs ++ ys) h)

pub rising_rest : (place : ℕ → ℤ) (xs ys : List Item) → IsRising place (xs ++ ys) → IsRising place ys
rising_rest place [] ys h = h
rising_rest place (x ∷ xs) ys h = rising_rest place xs ys h.1

pub rising_front : (place : ℕ → ℤ) (xs ys : List Item) → IsRising place (xs ++ ys) → IsRising place xs
rising_front place [] ys h = tt
rising_front place (x ∷ xs) ys h = (all_front (λ y. place x.start ≤ℤ place y.start) xs ys h.0, rising_front place xs ys h.1)

pub nothing_right : (xs ys : List ℕ) → xs ++ ys ≡ [] → ys ≡ []
nothing_right [] ys h = h
nothing_right (x ∷ xs) ys h = cc

module _ (place : ℕ → ℤ) (a b : ℤ) where
  pub within-append : (xs ys : List Item) → keys_within place a b (xs ++ ys) ≡ keys_within place a b xs ++ keys_within place a b ys
  within-append [] ys = refl
  within-append (x ∷ xs) ys =
      ap (key_if (starts_by place b x && ends_from place a x) x.key) (within-append xs ys)
      ∙ key_if-append (starts_by place b x && ends_from place a x) x.key (keys_within place a b xs) (keys_within place a b ys)

  pub from-append : (xs ys : List Item) → keys_from place a (xs ++ ys) ≡ keys_from place a xs ++ keys_from place a ys
  from-append [] ys = refl
  from-append (x ∷ xs) ys =
      ap (key_if (ends_from place a x) x.key) (from-append xs ys) ∙ key_if-append (ends_from place a x) x.key (keys_from place a xs) (keys_from place a ys)

  -- where the greatest end is before a, none of the items reaches it
  pub none_within : (named : Item) (xs : List Item) → IsGreatest place named xs → place named.end <ℤ a → keys_within place a b xs ≡ []
  none_within named [] g l = refl
  none_within named (x ∷ xs) g l =
      let h = All-head (λ y. place y.end ≤ℤ place named.end) x xs g in
      let e : ends_from place a x ≡ false = ap not (lt_true (place x.end) a (omega (arith, ints, h, l))) in
      ap (λ t. key_if (starts_by place b x && t) x.key (keys_within place a b xs)) e
      ∙ ap (λ t. key_if t x.key (keys_within place a b xs)) (and_false (starts_by place b x))
      ∙ none_within named xs (All-tail (λ y. place y.end ≤ℤ place named.end) x xs g) l

  pub none_from : (named : Item) (xs : List Item) → IsGreatest place named xs → place named.end <ℤ a → keys_from place a xs ≡ []
  none_from named [] g l = refl
  none_from named (x ∷ xs) g l =
      let h = All-head (λ y. place y.end ≤ℤ place named.end) x xs g in
      let e : ends_from place a x ≡ false = ap not (lt_true (place x.end) a (omega (arith, ints, h, l))) in
      ap (λ t. key_if t x.key (keys_from place a xs)) e ∙ none_from named xs (All-tail (λ y. place y.end ≤ℤ place named.end) x xs g) l

  none_behind : (xs : List Item) → All (λ y. b <ℤ place y.start) xs → keys_within place a b xs ≡ []
  none_behind [] h = refl
  none_behind (x ∷ xs) h =
      let e : starts_by place b x ≡ false = ap not (lt_true b (place x.start) (All-head (λ y. b <ℤ place y.start) x xs h)) in
      ap (λ t. key_if (t && ends_from place a x) x.key (keys_within place a b xs)) e ∙ none_behind xs (All-tail (λ y. b <ℤ place y.start) x xs h)

  -- behind an item that starts behind b none meets the range
  pub none_past : (x : Item) (ys : List Item) → b <ℤ place x.start → IsRising place (x ∷ ys) → keys_within place a b ys ≡ []
  none_past x ys l r = none_behind ys (All-weaker (λ y. place x.start ≤ℤ place y.start) (λ y. b <ℤ place y.start) (λ y h. omega (arith, ints, h, l)) ys r.0)

  -- who ends at a or behind it is found where all are found that do
  none_reaches : (xs : List Item) → keys_from place a xs ≡ [] → All (λ x. place x.end <ℤ a) xs
  none_reaches [] h = All-nil (λ x. place x.end <ℤ a)
  none_reaches (x ∷ xs) h = by (int_lt (place x.end) a) refl (none_reaches xs)
    where
      by : (t : Bool) → int_lt (place x.end) a ≡ t → (keys_from place a xs ≡ [] → All (λ x. place x.end <ℤ a) xs) → All (λ x. place x.end <ℤ a) (x ∷ xs)
      by true e more =
          let rest : keys_from place a xs ≡ [] = sym (ap (λ t. key_if (not t) x.key (keys_from place a xs)) e) ∙ h in
          All-cons (λ x. place x.end <ℤ a) x xs (omega (arith, ints, e)) (more rest)
      by false e more =
          let some : x.key ∷ keys_from place a xs ≡ [] = sym (ap (λ t. key_if (not t) x.key (keys_from place a xs)) e) ∙ h in
          cc some

  pub one_reaches : (named : Item) (xs : List Item) → Contains xs named → a ≤ℤ place named.end → 1 ≤ length (keys_from place a xs)
  one_reaches named xs c h = by (keys_from place a xs) refl
    where
      by : (ks : List ℕ) → keys_from place a xs ≡ ks → 1 ≤ length ks
      by [] e = let l = All-contains (λ x. place x.end <ℤ a) xs named (none_reaches xs e) c in absurd (omega (arith, ints, h, l))
      by (k ∷ ks) e = omega arith
