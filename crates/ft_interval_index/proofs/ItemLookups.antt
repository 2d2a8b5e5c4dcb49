-- Look-ups of items by their keys, in a list that gets one or loses one.
use Rattle.std.proofs.Common.{◌≡◌, ◌≢◌, ℕ, suc, ℤ, ◌≤◌, Bool, true, false, cond, nat_eq, List, [], ◌∷◌, Some, None, All, Contains, refl, sym, ap, subst, ◌∙◌, inl, inr, arith}
use Rattle.std.proofs.lemmas.Bool.{cases_eq, cond-true, cond-false, eq-eqb, ne_eqb}
use Rattle.std.proofs.lemmas.List.Elements.{All-nil, All-cons, All-contains, All-weaker}
use Rattle.ft_base.specs.Scan.{len, one_more_if}
use Rattle.ft_overlap.specs.declared.items.Item.{Item}
use Rattle.ft_overlap.specs.Items.{has_key, item_at, put_item, starts_by, without_key}

-- how many items have this key
abbrev pub times : ℕ → List Item → ℕ
times k xs = len (λ (y : Item). nat_eq y.key k) xs

module _ (k : ℕ) where
  at-here : (x : Item) (xs : List Item) → x.key ≡ k → item_at k (x ∷ xs) ≡ Some x
  at-here x xs e = cond-true (nat_eq x.key k) (Some x) (item_at k xs) (eq-eqb x.key k e)

  at-later : (x : Item) (xs : List Item) → x.key ≢ k → item_at k (x ∷ xs) ≡ item_at k xs
  at-later x xs d = cond-false (nat_eq x.key k) (Some x) (item_at k xs) (ne_eqb x.key k d)

  times-here : (x : Item) (xs : List Item) → x.key ≡ k → times k (x ∷ xs) ≡ suc (times k xs)
  times-here x xs e = ap (λ b. one_more_if b (times k xs)) (eq-eqb x.key k e)

  times-later : (x : Item) (xs : List Item) → x.key ≢ k → times k (x ∷ xs) ≡ times k xs
  times-later x xs d = ap (λ b. one_more_if b (times k xs)) (ne_eqb x.key k d)

  -- where none has the key, it isn't found
  pub none-at : (xs : List Item) → times k xs ≡ 0 → item_at k xs ≡ None
  none-at [] h = refl
  none-at (x ∷ xs) h = elim (cases_eq x.key k) [
    | inl e ↦ absurd (let t = times-here x xs e in omega (arith, t, h))
    | inr d ↦ at-later x xs d ∙ none-at xs (sym (times-later x xs d) ∙ h)
  ]

  pub at-none : (xs : List Item) → item_at k xs ≡ None → times k xs ≡ 0
  at-none [] h = refl
  at-none (x ∷ xs) h = elim (cases_eq x.key k) [
    | inl e ↦ absurd (let n : Some x ≡ None = sym (at-here x xs e) ∙ h in cc n)
    | inr d ↦ times-later x xs d ∙ at-none xs (sym (at-later x xs d) ∙ h)
  ]

  pub at-some : (xs : List Item) (y : Item) → item_at k xs ≡ Some y → 1 ≤ times k xs
  at-some [] y h = absurd (let n : None ≡ Some y = h in cc n)
  at-some (x ∷ xs) y h = elim (cases_eq x.key k) [
    | inl e ↦ let t = times-here x xs e in omega (arith, t)
    | inr d ↦ let t = times-later x xs d in let more = at-some xs y (sym (at-later x xs d) ∙ h) in omega (arith, t, more)
  ]

  -- what is found has the key
  pub at-key : (xs : List Item) (y : Item) → item_at k xs ≡ Some y → y.key ≡ k
  at-key [] y h = absurd (let n : None ≡ Some y = h in cc n)
  at-key (x ∷ xs) y h = elim (cases_eq x.key k) [
    | inl e ↦ let same : Some x ≡ Some y = sym (at-here x xs e) ∙ h in let is : x ≡ y = (cc) in ap (λ (z : Item). z.key) (sym is) ∙ e
    | inr d ↦ at-key xs y (sym (at-later x xs d) ∙ h)
  ]

  pub has-none : (xs : List Item) → item_at k xs ≡ None → has_key k xs ≡ false
  has-none [] h = refl
  has-none (x ∷ xs) h = elim (cases_eq x.key k) [
    | inl e ↦ absurd (let n : Some x ≡ None = sym (at-here x xs e) ∙ h in cc n)
    | inr d ↦ cond-false (nat_eq x.key k) true (has_key k xs) (ne_eqb x.key k d) ∙ has-none xs (sym (at-later x xs d) ∙ h)
  ]

-- ---- an item more

module _ (place : ℕ → ℤ) (new : Item) where
  -- by whether it goes before this item
  put-by : (b : Bool) (x : Item) (xs : List Item) → starts_by place (place new.start) x ≡ b
      → put_item place new (x ∷ xs) ≡ cond b (x ∷ put_item place new xs) (new ∷ x ∷ xs)
  put-by b x xs e = ap (λ t. cond t (x ∷ put_item place new xs) (new ∷ x ∷ xs)) e

  pub put-times : (k : ℕ) (xs : List Item) → times k (put_item place new xs) ≡ one_more_if (nat_eq new.key k) (times k xs)
  put-times k [] = refl
  put-times k (x ∷ xs) = step (starts_by place (place new.start) x) refl (put-times k xs)
    where
      turn : (a b : Bool) (n : ℕ) → one_more_if a (one_more_if b n) ≡ one_more_if b (one_more_if a n)
      turn true true n = refl
      turn true false n = refl
      turn false true n = refl
      turn false false n = refl

      step : (b : Bool) → starts_by place (place new.start) x ≡ b → times k (put_item place new xs) ≡ one_more_if (nat_eq new.key k) (times k xs)
          → times k (put_item place new (x ∷ xs)) ≡ one_more_if (nat_eq new.key k) (times k (x ∷ xs))
      step true e rest =
          ap (times k) (put-by true x xs e) ∙ ap (one_more_if (nat_eq x.key k)) rest ∙ turn (nat_eq x.key k) (nat_eq new.key k) (times k xs)
      step false e rest = ap (times k) (put-by false x xs e)

  -- it is found by its key, and the others as before
  pub put-at : (k : ℕ) (xs : List Item) → item_at new.key xs ≡ None → item_at k (put_item place new xs) ≡ cond (nat_eq new.key k) (Some new) (item_at k xs)
  put-at k [] h = refl
  put-at k (x ∷ xs) h = step (starts_by place (place new.start) x) refl (put-at k xs rest-none)
    where
      apart : x.key ≢ new.key
      apart e = let n : Some x ≡ None = sym (at-here new.key x xs e) ∙ h in cc n

      rest-none : item_at new.key xs ≡ None
      rest-none = sym (at-later new.key x xs apart) ∙ h

      turn : (a b : Bool) → nat_eq x.key k ≡ a → nat_eq new.key k ≡ b
          → cond a (Some x) (cond b (Some new) (item_at k xs)) ≡ cond b (Some new) (cond a (Some x) (item_at k xs))
      turn true true p q = absurd (elim (cases_eq x.key k) [
        | inl e ↦ elim (cases_eq new.key k) [
          | inl f ↦ apart (e ∙ sym f)
          | inr d ↦ let n : true ≡ false = sym q ∙ ne_eqb new.key k d in cc n
        ]
        | inr d ↦ let n : true ≡ false = sym p ∙ ne_eqb x.key k d in cc n
      ])
      turn true false p q = refl
      turn false true p q = refl
      turn false false p q = refl

      step : (b : Bool) → starts_by place (place new.start) x ≡ b → item_at k (put_item place new xs) ≡ cond (nat_eq new.key k) (Some new) (item_at k xs)
          → item_at k (put_item place new (x ∷ xs)) ≡ cond (nat_eq new.key k) (Some new) (item_at k (x ∷ xs))
      step true e rest =
          ap (item_at k) (put-by true x xs e) ∙ ap (λ o. cond (nat_eq x.key k) (Some x) o) rest ∙ turn (nat_eq x.key k) (nat_eq new.key k) refl refl
      step false e rest = ap (item_at k) (put-by false x xs e)

-- ---- an item less

module _ (j : ℕ) where
  out-here : (x : Item) (xs : List Item) → x.key ≡ j → without_key j (x ∷ xs) ≡ xs
  out-here x xs e = cond-true (nat_eq x.key j) xs (x ∷ without_key j xs) (eq-eqb x.key j e)

  out-later : (x : Item) (xs : List Item) → x.key ≢ j → without_key j (x ∷ xs) ≡ x ∷ without_key j xs
  out-later x xs d = cond-false (nat_eq x.key j) xs (x ∷ without_key j xs) (ne_eqb x.key j d)

  pub out-times : (k : ℕ) (xs : List Item) → times k (without_key j xs) ≤ times k xs
  out-times k [] = omega arith
  out-times k (x ∷ xs) = elim (cases_eq x.key j) [
    | inl e ↦ subst (λ ys. times k ys ≤ times k (x ∷ xs)) (sym (out-here x xs e)) (more (nat_eq x.key k) (times k xs))
    | inr d ↦ subst (λ ys. times k ys ≤ times k (x ∷ xs)) (sym (out-later x xs d)) (both (nat_eq x.key k) (times k (without_key j xs)) (times k xs) (out-times k xs))
  ]
    where
      more : (b : Bool) (n : ℕ) → n ≤ one_more_if b n
      more true n = omega arith
      more false n = omega arith

      both : (b : Bool) (m n : ℕ) → m ≤ n → one_more_if b m ≤ one_more_if b n
      both true m n l = omega (arith, l)
      both false m n l = l

  -- it isn't found any more, and the others are as before
  pub out-at : (k : ℕ) (xs : List Item) → times j xs ≤ 1 → item_at k (without_key j xs) ≡ cond (nat_eq j k) None (item_at k xs)
  out-at k [] h = either (nat_eq j k)
    where
      either : (b : Bool) → item_at k [] ≡ cond b None (item_at k [])
      either true = refl
      either false = refl
  out-at k (x ∷ xs) h = elim (cases_eq x.key j) [
    | inl e ↦ ap (item_at k) (out-here x xs e) ∙ elim (cases_eq j k) [
      | inl f ↦ none-at k xs (gone e f) ∙ sym (cond-true (nat_eq j k) None (item_at k (x ∷ xs)) (eq-eqb j k f))
      | inr d ↦ sym (at-later k x xs (λ f. d (sym e ∙ f))) ∙ sym (cond-false (nat_eq j k) None (item_at k (x ∷ xs)) (ne_eqb j k d))
    ]
    | inr d ↦ ap (item_at k) (out-later x xs d) ∙ ap (λ o. cond (nat_eq x.key k) (Some x) o) (out-at k xs (fewer d)) ∙ turn d (nat_eq x.key k) (nat_eq j k) refl refl
  ]
    where
      gone : x.key ≡ j → j ≡ k → times k xs ≡ 0
      gone e f = subst (λ m. times m xs ≡ 0) f (let t = times-here j x xs e in omega (arith, t, h))

      fewer : x.key ≢ j → times j xs ≤ 1
      fewer d = let t = times-later j x xs d in omega (arith, t, h)

      turn : x.key ≢ j → (a b : Bool) → nat_eq x.key k ≡ a → nat_eq j k ≡ b
          → cond a (Some x) (cond b None (item_at k xs)) ≡ cond b None (cond a (Some x) (item_at k xs))
      turn d true true p q = absurd (elim (cases_eq x.key k) [
        | inl e ↦ elim (cases_eq j k) [
          | inl f ↦ d (e ∙ sym f)
          | inr g ↦ let n : true ≡ false = sym q ∙ ne_eqb j k g in cc n
        ]
        | inr g ↦ let n : true ≡ false = sym p ∙ ne_eqb x.key k g in cc n
      ])
      turn d true false p q = refl
      turn d false true p q = refl
      turn d false false p q = refl

-- ---- where no key stands twice

abbrev pub IsOwn : List Item → Item → Type 0
IsOwn xs y = item_at y.key xs ≡ Some y

-- each item is found by its key
pub each-own : (xs : List Item) → ((k : ℕ) → times k xs ≤ 1) → All (IsOwn xs) xs
each-own [] h = All-nil (IsOwn [])
each-own (x ∷ xs) h = All-cons (IsOwn (x ∷ xs)) x xs (at-here x.key x xs refl) (All-weaker (IsOwn xs) (IsOwn (x ∷ xs)) behind xs (each-own xs fewer))
  where
    few : (b : Bool) (n : ℕ) → one_more_if b n ≤ 1 → n ≤ 1
    few true n l = omega (arith, l)
    few false n l = l

    fewer : (k : ℕ) → times k xs ≤ 1
    fewer k = few (nat_eq x.key k) (times k xs) (h k)

    behind : (y : Item) → IsOwn xs y → IsOwn (x ∷ xs) y
    behind y o = elim (cases_eq x.key y.key) [
      | inl e ↦ absurd (let t = times-here y.key x xs e in let some = at-some y.key xs y o in let most = h y.key in omega (arith, t, some, most))
      | inr d ↦ at-later y.key x xs d ∙ o
    ]

pub own : (xs : List Item) → ((k : ℕ) → times k xs ≤ 1) → (y : Item) → Contains xs y → item_at y.key xs ≡ Some y
own xs h y c = All-contains (IsOwn xs) xs y (each-own xs h) c

-- what holds of each item that is found holds of all
pub all-found : (P : Item → Type 0) (xs : List Item) → ((k : ℕ) → times k xs ≤ 1) → ((k : ℕ) (y : Item) → item_at k xs ≡ Some y → P y) → All P xs
all-found P xs h f = All-weaker (IsOwn xs) P (λ y o. f y.key y o) xs (each-own xs h)
