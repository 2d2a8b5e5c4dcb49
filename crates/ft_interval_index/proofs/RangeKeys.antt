-- The keys that an index finds for numbers of 63 bits are those of the items that meet the range.
use Rattle.std.proofs.Common.{◌≡◌, ℕ, ℤ, pos, negsuc, int_le, int_lt, ◌≤ℤ◌, ◌<ℤ◌, min, Bool, true, false, not, ◌&&◌, List, [], ◌∷◌, Option, Some, None, refl, sym, ◌∙◌, ap, inl, inr, arith}
use Rattle.std.proofs.lemmas.Int.{ints}
use Rattle.std.proofs.lemmas.Bool.{cases_lt}
use Rattle.ft_overlap.specs.declared.items.Item.{Item}
use Rattle.ft_overlap.specs.Items.{ends_from, key_if, keys_within, starts_by}
use Rattle.ft_tree_leaves.specs.Elements.{TreeElement}
use Rattle.ft_interval_index.specs.Indexes.{IsRange, keys_meeting}
use Rattle.ft_interval_store.specs.Shown.{number_at}

le-true : (x y : ℤ) → x ≤ℤ y → int_le x y ≡ true
le-true x y h = by (int_le x y) refl
  where
    by : (t : Bool) → int_le x y ≡ t → int_le x y ≡ true
    by true e = e
    by false e = absurd (omega (arith, ints, h, e))

le-false : (x y : ℤ) → y <ℤ x → int_le x y ≡ false
le-false x y h = by (int_le x y) refl
  where
    by : (t : Bool) → int_le x y ≡ t → int_le x y ≡ false
    by false e = e
    by true e = absurd (omega (arith, ints, h, e))

module _ (a b : ℕ) (low high s e : ℤ) (least : negsuc 0 ≤ℤ s) (top : s ≤ℤ pos 9223372036854775807) (last : e ≤ℤ pos 9223372036854775807) where
  start-same : high ≡ pos (min b 9223372036854775807) → not (int_lt high s) ≡ int_le s (pos b)
  start-same h = by (int_lt high s) refl
    where
      by : (t : Bool) → int_lt high s ≡ t → not (int_lt high s) ≡ int_le s (pos b)
      by true f = ap not f ∙ sym (le-false s (pos b) (omega (arith, ints, h, f, top)))
      by false f = ap not f ∙ sym (le-true s (pos b) (omega (arith, ints, h, f)))

  end-same : low ≡ pos a → not (int_lt e low) ≡ int_le (pos a) e
  end-same h = by (int_lt e low) refl
    where
      by : (t : Bool) → int_lt e low ≡ t → not (int_lt e low) ≡ int_le (pos a) e
      by true f = ap not f ∙ sym (le-false (pos a) e (omega (arith, ints, h, f)))
      by false f = ap not f ∙ sym (le-true (pos a) e (omega (arith, ints, h, f)))

  and-false : (p : Bool) → p && false ≡ false
  and-false true = refl
  and-false false = refl

  none-left : high <ℤ negsuc 0 → not (int_lt high s) ≡ false
  none-left h = by (int_lt high s) refl
    where
      by : (t : Bool) → int_lt high s ≡ t → not (int_lt high s) ≡ false
      by true f = ap not f
      by false f = absurd (omega (arith, ints, h, f, least))

  pub test-same : IsRange a b low high → not (int_lt high s) && not (int_lt e low) ≡ int_le s (pos b) && int_le (pos a) e
  test-same r = elim (cases_lt 9223372036854775807 a) [
    | inl past ↦ ap (λ p. p && not (int_lt e low)) (none-left (r.past past)) ∙ sym (ap (λ p. int_le s (pos b) && p) (le-false (pos a) e (omega (arith, ints, last, past))) ∙ and-false (int_le s (pos b)))
    | inr fits ↦ let p = r.fits fits in ap (λ q. q && not (int_lt e low)) (start-same p.1) ∙ ap (λ q. int_le s (pos b) && q) (end-same p.0)
  ]

module _ (place : ℕ → ℤ) (a b : ℕ) (low high : ℤ) (r : IsRange a b low high) (least : (k : ℕ) → negsuc 0 ≤ℤ place k)
    (most : (k : ℕ) → place k ≤ℤ pos 9223372036854775807) where
  pub keys-same : (ys : List Item) → keys_within place low high ys ≡ keys_meeting place a b ys
  keys-same [] = refl
  keys-same (y ∷ ys) =
      ap (key_if (starts_by place high y && ends_from place low y) y.key) (keys-same ys)
      ∙ ap (λ p. key_if p y.key (keys_meeting place a b ys)) (test-same a b low high (place y.start) (place y.end) (least y.start) (most y.start) (most y.end) r)

module _ {U : Type 0} (xs : List (TreeElement U)) where
  pub number-least : (k : ℕ) (p : Option ℕ) → negsuc 0 ≤ℤ number_at xs k p
  number-least k None = omega (arith, ints)
  number-least k (Some i) = omega (arith, ints)

  pub number-greatest : (k : ℕ) (p : Option ℕ) → number_at xs k p ≤ℤ pos 9223372036854775807
  number-greatest k None = omega (arith, ints)
  number-greatest k (Some i) = omega (arith, ints)
