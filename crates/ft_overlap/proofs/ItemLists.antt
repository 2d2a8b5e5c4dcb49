-- A list of items that gets one, or loses one.
use Rattle.std.proofs.Common.{◌≡◌, ◌≢◌, ℕ, ℤ, int_lt, ◌≤ℤ◌, ◌<ℤ◌, Bool, true, false, not, List, [], ◌∷◌, ◌++◌, Some, None, All, refl, sym, ap, subst, ◌∙◌, inl, inr, arith, eqb}
use Rattle.std.proofs.lemmas.Int.{ints}
use Rattle.std.proofs.lemmas.Bool.{cases_eq, cond-true, cond-false, eq-eqb, ne_eqb}
use Rattle.std.proofs.lemmas.List.Elements.{All-nil, All-cons, All-head, All-tail, All-weaker}
use Rattle.ft_overlap.specs.declared.items.Item.{Item}
use Rattle.ft_overlap.specs.Items.{starts_by, IsRising, has_key, item_at, without_key, put_item}
use Rattle.ft_overlap.specs.Inside.{IsBehind}
use Rattle.ft_overlap.proofs.Keys.{lt_true, lt_false}

module _ (key : ℕ) where
  pub at_here : (x : Item) (xs : List Item) → x.key ≡ key → item_at key (x ∷ xs) ≡ Some x
  at_here x xs e = cond-true (eqb x.key key) (Some x) (item_at key xs) (eq-eqb x.key key e)

  pub at_later : (x : Item) (xs : List Item) → x.key ≢ key → item_at key (x ∷ xs) ≡ item_at key xs
  at_later x xs d = cond-false (eqb x.key key) (Some x) (item_at key xs) (ne_eqb x.key key d)

  pub out_here : (x : Item) (xs : List Item) → x.key ≡ key → without_key key (x ∷ xs) ≡ xs
  out_here x xs e = cond-true (eqb x.key key) xs (x ∷ without_key key xs) (eq-eqb x.key key e)

  pub out_later : (x : Item) (xs : List Item) → x.key ≢ key → without_key key (x ∷ xs) ≡ x ∷ without_key key xs
  out_later x xs d = cond-false (eqb x.key key) xs (x ∷ without_key key xs) (ne_eqb x.key key d)

  -- where no item has it, none is found
  pub none_at : (xs : List Item) → has_key key xs ≡ false → item_at key xs ≡ None
  none_at [] h = refl
  none_at (x ∷ xs) h = elim (cases_eq x.key key) [
    | inl e ↦ absurd (let n : true ≡ false = sym (cond-true (eqb x.key key) true (has_key key xs) (eq-eqb x.key key e)) ∙ h in cc n)
    | inr d ↦ at_later x xs d ∙ none_at xs (sym (cond-false (eqb x.key key) true (has_key key xs) (ne_eqb x.key key d)) ∙ h)
  ]

  -- where none is found, nothing is taken out
  pub out_none : (xs : List Item) → item_at key xs ≡ None → without_key key xs ≡ xs
  out_none [] h = refl
  out_none (x ∷ xs) h = elim (cases_eq x.key key) [
    | inl e ↦ absurd (let n : Some x ≡ None = sym (at_here x xs e) ∙ h in cc n)
    | inr d ↦ out_later x xs d ∙ ap (λ (zs : List Item). x ∷ zs) (out_none xs (sym (at_later x xs d) ∙ h))
  ]

  -- what holds of all items holds of those that are left
  all_out : (P : Item → Type 0) (xs : List Item) → All P xs → All P (without_key key xs)
  all_out P [] h = h
  all_out P (x ∷ xs) h = elim (cases_eq x.key key) [
    | inl e ↦ subst (All P) (sym (out_here x xs e)) (All-tail P x xs h)
    | inr d ↦ subst (All P) (sym (out_later x xs d)) (All-cons P x (without_key key xs) (All-head P x xs h) (all_out P xs (All-tail P x xs h)))
  ]

  -- a list that rises still does without one item
  pub rising_out : (place : ℕ → ℤ) (xs : List Item) → IsRising place xs → IsRising place (without_key key xs)
  rising_out place [] h = h
  rising_out place (x ∷ xs) h = elim (cases_eq x.key key) [
    | inl e ↦ subst (IsRising place) (sym (out_here x xs e)) h.1
    | inr d ↦ subst (IsRising place) (sym (out_later x xs d)) (all_out (λ y. place x.start ≤ℤ place y.start) xs h.0, rising_out place xs h.1)
  ]

module _ (place : ℕ → ℤ) (new : Item) where
  put_later : (x : Item) (xs : List Item) → place x.start ≤ℤ place new.start → put_item place new (x ∷ xs) ≡ x ∷ put_item place new xs
  put_later x xs h =
      cond-true (starts_by place (place new.start) x) (x ∷ put_item place new xs) (new ∷ x ∷ xs) (ap not (lt_false (place new.start) (place x.start) h))

  put_here : (x : Item) (xs : List Item) → place new.start <ℤ place x.start → put_item place new (x ∷ xs) ≡ new ∷ x ∷ xs
  put_here x xs h =
      cond-false (starts_by place (place new.start) x) (x ∷ put_item place new xs) (new ∷ x ∷ xs) (ap not (lt_true (place new.start) (place x.start) h))

  -- the item goes where the first that starts behind it stands
  pub put_cut : (xs ys : List Item) → All (λ x. place x.start ≤ℤ place new.start) xs → IsBehind place (place new.start) ys
      → put_item place new (xs ++ ys) ≡ xs ++ new ∷ ys
  put_cut [] [] h b = refl
  put_cut [] (y ∷ ys) h b = put_here y ys b
  put_cut (x ∷ xs) ys h b =
      put_later x (xs ++ ys) (All-head (λ y. place y.start ≤ℤ place new.start) x xs h)
      ∙ ap (λ (zs : List Item). x ∷ zs) (put_cut xs ys (All-tail (λ y. place y.start ≤ℤ place new.start) x xs h) b)

  -- whether an item starts behind the new one
  data Order (x : Item) : Type 0 where
    not_behind : place x.start ≤ℤ place new.start → Order x
    behind : place new.start <ℤ place x.start → Order x

  order : (x : Item) → Order x
  order x = by (int_lt (place new.start) (place x.start)) refl
    where
      by : (t : Bool) → int_lt (place new.start) (place x.start) ≡ t → Order x
      by true e = behind (omega (arith, ints, e))
      by false e = not_behind (omega (arith, ints, e))

  all_put : (P : Item → Type 0) (xs : List Item) → P new → All P xs → All P (put_item place new xs)
  all_put P [] n h = All-cons P new [] n h
  all_put P (x ∷ xs) n h = elim (order x) [
    | not_behind l ↦ subst (All P) (sym (put_later x xs l)) (All-cons P x (put_item place new xs) (All-head P x xs h) (all_put P xs n (All-tail P x xs h)))
    | behind l ↦ subst (All P) (sym (put_here x xs l)) (All-cons P new (x ∷ xs) n h)
  ]

  -- a list that rises still does with the new item
  pub rising_put : (xs : List Item) → IsRising place xs → IsRising place (put_item place new xs)
  rising_put [] h = (All-nil (λ y. place new.start ≤ℤ place y.start), tt)
  rising_put (x ∷ xs) h = elim (order x) [
    | not_behind l ↦ subst (IsRising place) (sym (put_later x xs l)) (all_put (λ y. place x.start ≤ℤ place y.start) xs l h.0, rising_put xs h.1)
    | behind l ↦ subst (IsRising place) (sym (put_here x xs l)) (
      All-cons (λ y. place new.start ≤ℤ place y.start) x xs (omega (arith, ints, l))
          (All-weaker (λ y. place x.start ≤ℤ place y.start) (λ y. place new.start ≤ℤ place y.start) (λ y q. omega (arith, ints, l, q)) xs h.0),
      h,
    )
  ]
