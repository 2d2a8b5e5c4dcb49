-- The orders of intervals and of cells.
use Rattle.std.proofs.Common.{◌≡◌, ℕ, ◌<◌, ◌⊎◌, inl, inr, Bool, true, false, nat_lt, refl, sym, ◌∙◌, ap, subst, arith}
use Rattle.std.proofs.lemmas.Bool.Decides.{nat_tests}
use Rattle.std.specs.Cmp.{nat_cmp_is}
use Rattle.std.specs.Ordering.{nat_cmp, ordering_then}
use Rattle.std.specs.declared.cmp.Ordering.{Ordering}
use Rattle.std.specs.declared.cmp.Ordering.TheVariants.{Less, Equal, Greater}
use Rattle.ft_props.specs.Keys.{text_cmp}
use Rattle.ft_props.proofs.RisingKeys.{same_from_text_cmp, text_cmp-back, text_cmp-same, text_cmp-trans, text_cmp-turned}
use Rattle.ft_op.specs.Intervals.{Interval, interval_cmp}
use Rattle.ft_sumdoc.specs.declared.summary.CellRec.{CellRec}
use Rattle.ft_sumdoc.specs.declared.summary.IntervalRec.{IntervalRec}
use Rattle.ft_changes.specs.Shown.{cell_order, interval_order}
use Rattle.ft_changes.proofs.ToldItems.{IsKeyOrder}

-- the laws of an order of the keys themselves
pub record IsExactOrder {K : Type 0} (cmp : K → K → Ordering) : Type 0 where
  pub same : (a : K) → cmp a a ≡ Equal
  pub exact : (a b : K) → cmp a b ≡ Equal → a ≡ b
  pub back : (a b : K) → cmp a b ≡ Less → cmp b a ≡ Greater
  pub trans : (a b c : K) → cmp c b ≡ Greater → cmp b a ≡ Greater → cmp c a ≡ Greater

text-exact : IsExactOrder text_cmp
text-exact = record {
  same = text_cmp-same;
  exact = same_from_text_cmp;
  back = text_cmp-back;
  trans = λ a b c h g. text_cmp-back a c (text_cmp-trans a b c (text_cmp-turned b a g) (text_cmp-turned c b h));
}

-- ---- numbers

tri : {G : Type 0} (a b : ℕ) → (a < b → G) → (a ≡ b → G) → (b < a → G) → G
tri {G} a b f g h = by (nat_lt a b) (nat_lt b a) refl refl
  where
    by : (x y : Bool) → nat_lt a b ≡ x → nat_lt b a ≡ y → G
    by true y e d = f (grind (arith, nat_tests))
    by false true e d = h (grind (arith, nat_tests))
    by false false e d = g (grind (arith, nat_tests))

pub nat-greater : (a b : ℕ) → b < a → nat_cmp a b ≡ Greater
nat-greater a b h = sym (nat_cmp_is a b Greater h)

nat-less : (a b : ℕ) → a < b → nat_cmp a b ≡ Less
nat-less a b h = sym (nat_cmp_is a b Less h)

nat-equal : (a b : ℕ) → a ≡ b → nat_cmp a b ≡ Equal
nat-equal a b h = sym (nat_cmp_is a b Equal h)

pub greater-nat : (a b : ℕ) → nat_cmp a b ≡ Greater → b < a
greater-nat a b h = tri a b (λ l. let o = nat-less a b l in absurd (cc)) (λ e. let o = nat-equal a b e in absurd (cc)) (λ g. g)

less-nat : (a b : ℕ) → nat_cmp a b ≡ Less → a < b
less-nat a b h = tri a b (λ l. l) (λ e. let o = nat-equal a b e in absurd (cc)) (λ g. let o = nat-greater a b g in absurd (cc))

equal-nat : (a b : ℕ) → nat_cmp a b ≡ Equal → a ≡ b
equal-nat a b h = tri a b (λ l. let o = nat-less a b l in absurd (cc)) (λ e. e) (λ g. let o = nat-greater a b g in absurd (cc))

nat-exact : IsExactOrder nat_cmp
nat-exact = record {
  same = λ a. nat-equal a a refl;
  exact = equal-nat;
  back = λ a b h. nat-greater b a (less-nat a b h);
  trans = λ a b c h g. let x = greater-nat c b h in let y = greater-nat b a g in nat-greater c a (omega arith);
}

-- ---- pairs of keys

module _ {A K L : Type 0} (f : A → K) (g : A → L) (first : K → K → Ordering) (second : L → L → Ordering) (is : IsExactOrder first) (also : IsExactOrder second) where
  pub greater-behind : (a b : A) → ordering_then (first (f b) (f a)) (second (g b) (g a)) ≡ Greater → (first (f b) (f a) ≡ Greater) ⊎ ((f b ≡ f a) × (second (g b) (g a) ≡ Greater))
  greater-behind a b h = by (first (f b) (f a)) refl h
    where
      by : (o : Ordering) → first (f b) (f a) ≡ o → ordering_then o (second (g b) (g a)) ≡ Greater → (first (f b) (f a) ≡ Greater) ⊎ ((f b ≡ f a) × (second (g b) (g a) ≡ Greater))
      by Less e d = absurd (cc)
      by Equal e d = inr (is.exact (f b) (f a) e, d)
      by Greater e d = inl e

  pub behind-greater : (a b : A) → (first (f b) (f a) ≡ Greater) ⊎ ((f b ≡ f a) × (second (g b) (g a) ≡ Greater)) → ordering_then (first (f b) (f a)) (second (g b) (g a)) ≡ Greater
  behind-greater a b (inl h) = ap (λ o. ordering_then o (second (g b) (g a))) h
  behind-greater a b (inr h) = ap (λ k. ordering_then (first (f b) k) (second (g b) (g a))) (sym h.0) ∙ ap (λ o. ordering_then o (second (g b) (g a))) (is.same (f b)) ∙ h.1

  pub pair-order : IsKeyOrder (λ (a b : A). ordering_then (first (f a) (f b)) (second (g a) (g b)))
  pair-order = record {
    same = λ a. ap (λ o. ordering_then o (second (g a) (g a))) (is.same (f a)) ∙ also.same (g a);
    back = λ a b h. behind-greater a b (turned a b (first (f a) (f b)) refl h);
    trans = λ a b c h d. behind-greater a c (further a b c (greater-behind b c h) (greater-behind a b d));
    alike = λ a b c h d. equal a b c (first (f a) (f b)) refl h d;
  }
    where
      turned : (a b : A) (o : Ordering) → first (f a) (f b) ≡ o → ordering_then o (second (g a) (g b)) ≡ Less → (first (f b) (f a) ≡ Greater) ⊎ ((f b ≡ f a) × (second (g b) (g a) ≡ Greater))
      turned a b Less e d = inl (is.back (f a) (f b) e)
      turned a b Equal e d = inr (sym (is.exact (f a) (f b) e), also.back (g a) (g b) d)
      turned a b Greater e d = absurd (cc)

      further : (a b c : A) → (first (f c) (f b) ≡ Greater) ⊎ ((f c ≡ f b) × (second (g c) (g b) ≡ Greater)) → (first (f b) (f a) ≡ Greater) ⊎ ((f b ≡ f a) × (second (g b) (g a) ≡ Greater))
          → (first (f c) (f a) ≡ Greater) ⊎ ((f c ≡ f a) × (second (g c) (g a) ≡ Greater))
      further a b c (inl x) (inl y) = inl (is.trans (f a) (f b) (f c) x y)
      further a b c (inl x) (inr y) = inl (subst (λ k. first (f c) k ≡ Greater) y.0 x)
      further a b c (inr x) (inl y) = inl (subst (λ k. first k (f a) ≡ Greater) (sym x.0) y)
      further a b c (inr x) (inr y) = inr (x.0 ∙ y.0, also.trans (g a) (g b) (g c) x.1 y.1)

      equal : (a b c : A) (o : Ordering) → first (f a) (f b) ≡ o → ordering_then o (second (g a) (g b)) ≡ Equal
          → ordering_then (first (f c) (f b)) (second (g c) (g b)) ≡ Greater → ordering_then (first (f c) (f a)) (second (g c) (g a)) ≡ Greater
      equal a b c Less e d h = absurd (cc)
      equal a b c Greater e d h = absurd (cc)
      equal a b c Equal e d h =
          ap (λ k. ordering_then (first (f c) k) (second (g c) (g a))) (is.exact (f a) (f b) e)
          ∙ ap (λ k. ordering_then (first (f c) (f b)) (second (g c) k)) (also.exact (g a) (g b) d) ∙ h

  pub equal-keys : (a b : A) → ordering_then (first (f a) (f b)) (second (g a) (g b)) ≡ Equal → (f a ≡ f b) × (g a ≡ g b)
  equal-keys a b h = by (first (f a) (f b)) refl h
    where
      by : (o : Ordering) → first (f a) (f b) ≡ o → ordering_then o (second (g a) (g b)) ≡ Equal → (f a ≡ f b) × (g a ≡ g b)
      by Less e d = absurd (cc)
      by Equal e d = (is.exact (f a) (f b) e, also.exact (g a) (g b) d)
      by Greater e d = absurd (cc)

-- ---- both

pub interval_order-is : IsKeyOrder interval_order
interval_order-is = pair-order (λ (i : IntervalRec). i.label) (λ i. i.id) text_cmp text_cmp text-exact text-exact

pub interval_cmp-is : IsKeyOrder interval_cmp
interval_cmp-is = pair-order (λ (i : Interval). i.label) (λ i. i.id) text_cmp text_cmp text-exact text-exact

pub cell_order-is : IsKeyOrder cell_order
cell_order-is = pair-order (λ (c : CellRec). c.row) (λ c. c.col) nat_cmp nat_cmp nat-exact nat-exact

pub same-interval_keys : (a b : IntervalRec) → interval_order a b ≡ Equal → (a.label ≡ b.label) × (a.id ≡ b.id)
same-interval_keys = equal-keys (λ (i : IntervalRec). i.label) (λ i. i.id) text_cmp text_cmp text-exact text-exact

pub same-cell_keys : (a b : CellRec) → cell_order a b ≡ Equal → (a.row ≡ b.row) × (a.col ≡ b.col)
same-cell_keys = equal-keys (λ (c : CellRec). c.row) (λ c. c.col) nat_cmp nat_cmp nat-exact nat-exact

-- a cell stands behind another: in a later row, or in a later column of the same row
pub behind-cell : (a b : CellRec) → cell_order b a ≡ Greater → (a.row < b.row) ⊎ ((b.row ≡ a.row) × (a.col < b.col))
behind-cell a b h = elim (greater-behind (λ (c : CellRec). c.row) (λ c. c.col) nat_cmp nat_cmp nat-exact nat-exact a b h) [
  | inl x ↦ inl (greater-nat b.row a.row x)
  | inr x ↦ inr (x.0, greater-nat b.col a.col x.1)
]

pub cell-behind : (a b : CellRec) → (a.row < b.row) ⊎ ((b.row ≡ a.row) × (a.col < b.col)) → cell_order b a ≡ Greater
cell-behind a b (inl x) = behind-greater (λ (c : CellRec). c.row) (λ c. c.col) nat_cmp nat_cmp nat-exact nat-exact a b (inl (nat-greater b.row a.row x))
cell-behind a b (inr x) = behind-greater (λ (c : CellRec). c.row) (λ c. c.col) nat_cmp nat_cmp nat-exact nat-exact a b (inr (x.0, nat-greater b.col a.col x.1))
