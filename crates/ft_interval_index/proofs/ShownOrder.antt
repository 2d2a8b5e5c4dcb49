-- Ends keep their order where they settle, are carried from stage to stage, are shown, or make room for new elements.
use Rattle.std.proofs.Common.{◌≡◌, ℕ, zero, suc, ◌+◌, ◌-◌, ◌<◌, ◌≤◌, ◌≤ℤ◌, min, Bool, true, false, cond, nat_le, List, [], ◌∷◌, ◌++◌, length, take, drop, Option, Some, None, is_some, option_map, option_and_then, refl, sym, ◌∙◌, ap, arith}
use Rattle.std.proofs.Math.Seq.{take-add}
use Rattle.std.proofs.lemmas.Bool.Decides.{nat_tests}
use Rattle.std.proofs.lemmas.Int.{ints}
use Rattle.ft_base.specs.Scan.{len, one_more_if}
use Rattle.ft_block.specs.declared.leaves.LenView.TheVariants.{Stage}
use Rattle.ft_overlap.specs.declared.items.Item.{Item}
use Rattle.ft_overlap.specs.Items.{IsEndIn, KeepsOrder}
use Rattle.ft_tree_leaves.specs.Elements.{TreeElement, seen_in}
use Rattle.ft_tree_leaves.specs.Places.{seen_before, settled_place, shifted_place}
use Rattle.ft_tree_leaves.specs.References.{reference_place}
use Rattle.ft_tree_leaves.proofs.Runs.{len-append}
use Rattle.ft_interval_store.specs.Ends.{References}
use Rattle.ft_interval_index.specs.Order.{IsAtMost, IsWithin, KeepsEndOrder, list_place}
use Rattle.ft_interval_store.specs.Shown.{shown_end, shown_place, carried_end, last, number_at, settled_end}
use Rattle.ft_interval_index.proofs.PlaceOrder.{number-most, settle-rises, settle-within}
use Rattle.ft_interval_store.proofs.SettledEnds.{is_ok_at, settled-ok, settled-some}

pub same-order : (n : ℕ) → KeepsEndOrder n n (λ a. a)
same-order n = record { rises = λ a b w h. h; within = λ a w. w; together = λ a b w v h. h; detached = refl }

pub order-then : (n m k : ℕ) (f g : Option ℕ → Option ℕ) → KeepsEndOrder n m f → KeepsEndOrder m k g → KeepsEndOrder n k (λ a. g (f a))
order-then n m k f g o p = record {
  rises = λ a b w h. p.rises (f a) (f b) (o.within b w) (o.rises a b w h);
  within = λ a w. p.within (f a) (o.within a w);
  together = λ a b w v h. p.together (f a) (f b) (o.within a w) (o.within b v) (o.together a b w v h);
  detached = ap g o.detached ∙ p.detached;
}

-- ---- ends that settle

module _ {A : Type 0} (ok : A → Bool) where
  ok-some : (j : ℕ) (xs : List A) → is_ok_at ok j xs ≡ true → 1 ≤ len ok xs
  ok-some j [] h = (cc)
  ok-some zero (x ∷ xs) h = (let e : len ok (x ∷ xs) ≡ suc (len ok xs) = ap (λ b. one_more_if b (len ok xs)) h in omega (arith, e))
  ok-some (suc j) (x ∷ xs) h = more (ok x) (ok-some j xs h)
    where
      more : (b : Bool) → 1 ≤ len ok xs → 1 ≤ one_more_if b (len ok xs)
      more true l = omega arith
      more false l = l

  abbrev settle : List A → Option ℕ → Option ℕ
  settle xs a = option_and_then (settled_place ok xs) a

  settle-together : (xs : List A) (a b : Option ℕ) → IsWithin (length xs) a → IsWithin (length xs) b → is_some a ≡ is_some b
      → is_some (settle xs a) ≡ is_some (settle xs b)
  settle-together xs None None w v h = refl
  settle-together xs None (Some j) w v h = (cc)
  settle-together xs (Some i) None w v h = (cc)
  settle-together xs (Some i) (Some j) w v h = step (settled_place ok xs i) (settled_place ok xs j) refl refl
    where
      step : (p q : Option ℕ) → settled_place ok xs i ≡ p → settled_place ok xs j ≡ q → is_some (settled_place ok xs i) ≡ is_some (settled_place ok xs j)
      step None None d e = ap (λ o. is_some o) d ∙ sym (ap (λ o. is_some o) e)
      step (Some k) q d e =
          ap (λ o. is_some o) d ∙ sym (settled-some ok j xs v (ok-some k xs (settled-ok ok i k xs d)))
      step None (Some k) d e =
          settled-some ok i xs w (ok-some k xs (settled-ok ok j k xs e)) ∙ sym (ap (λ o. is_some o) e)

  pub settle-order : (xs : List A) → KeepsEndOrder (length xs) (length xs) (settle xs)
  settle-order xs = record { rises = settle-rises ok xs; within = λ a w. settle-within ok xs a; together = settle-together xs; detached = refl }

  before-rises : (xs : List A) (i j : ℕ) → i ≤ j → seen_before ok xs i ≤ seen_before ok xs j
  before-rises xs i j h =
      let n : ℕ = j - i in
      let sum : i + n ≡ j = omega (arith, h) in
      let cut : take j xs ≡ take i xs ++ take n (drop i xs) = ap (λ k. take k xs) (sym sum) ∙ take-add i n xs in
      let all = ap (len ok) cut ∙ len-append ok (take i xs) (take n (drop i xs)) in
      omega (arith, all)

module _ {U : Type 0} (xs : List (TreeElement U)) where
  pub settled-order : (k : ℕ) → KeepsEndOrder (length xs) (length xs) (settled_end xs k)
  settled-order k = settle-order (seen_in (Stage k)) xs

  pub carried-order : (k n : ℕ) → KeepsEndOrder (length xs) (length xs) (carried_end xs k n)
  carried-order k zero = same-order (length xs)
  carried-order k (suc n) =
      order-then (length xs) (length xs) (length xs) (settled_end xs (suc k)) (carried_end xs (suc k) n) (settled-order (suc k)) (carried-order (suc k) n)

  pub shown-order : KeepsEndOrder (length xs) (length xs) (shown_end xs)
  unfolding shown_end
  shown-order = order-then (length xs) (length xs) (length xs) (settled_end xs 0) (carried_end xs 0 (last - 0)) (settled-order 0) (carried-order 0 (last - 0))

  -- an end that isn't behind another one has no greater number
  pub number-rises : (k : ℕ) (a b : Option ℕ) → IsAtMost a b → number_at xs k a ≤ℤ number_at xs k b
  number-rises k None None h = omega (arith, ints)
  number-rises k None (Some j) h = omega (arith, ints)
  number-rises k (Some i) None h = absurd h
  number-rises k (Some i) (Some j) h =
      let l = before-rises (seen_in (Stage k)) xs i j h in
      let m : min (seen_before (seen_in (Stage k)) xs i) 9223372036854775807 ≤ min (seen_before (seen_in (Stage k)) xs j) 9223372036854775807 = omega (arith, l) in
      omega (arith, ints, m)

  -- what is in order in the list is as it is shown
  pub shown-keeps : (refs : References) (items : List Item) → ((r : ℕ) → IsEndIn items r → IsWithin (length xs) (reference_place refs r))
      → KeepsOrder (list_place refs) (shown_place xs refs) items
  shown-keeps refs items within = λ r s p q h.
      number-rises last (shown_end xs (reference_place refs r)) (shown_end xs (reference_place refs s))
      (shown-order.rises (reference_place refs r) (reference_place refs s) (within s q) (number-most (reference_place refs r) (reference_place refs s) h))

-- ---- elements that are put in

shift-rises : (i c : ℕ) (a b : Option ℕ) → IsAtMost a b → IsAtMost (option_map (shifted_place i c) a) (option_map (shifted_place i c) b)
shift-rises i c None b h = tt
shift-rises i c (Some x) None h = absurd h
shift-rises i c (Some x) (Some y) h = step (nat_le i x) (nat_le i y) refl refl
  where
    step : (p q : Bool) → nat_le i x ≡ p → nat_le i y ≡ q → cond p (x + c) x ≤ cond q (y + c) y
    step true true d e = omega (arith, h)
    step true false d e = absurd (grind (arith, nat_tests, h))
    step false true d e = omega (arith, h)
    step false false d e = h

shift-within : (i c n : ℕ) (a : Option ℕ) → IsWithin n a → IsWithin (n + c) (option_map (shifted_place i c) a)
shift-within i c n None w = tt
shift-within i c n (Some x) w = step (nat_le i x)
  where
    step : (p : Bool) → cond p (x + c) x < n + c
    step true = omega (arith, w)
    step false = omega (arith, w)

shift-together : (f : ℕ → ℕ) (a b : Option ℕ) → is_some a ≡ is_some b → is_some (option_map f a) ≡ is_some (option_map f b)
shift-together f None None h = refl
shift-together f None (Some y) h = (cc)
shift-together f (Some x) None h = (cc)
shift-together f (Some x) (Some y) h = refl

pub shifted-order : (i c n : ℕ) → KeepsEndOrder n (n + c) (option_map (shifted_place i c))
shifted-order i c n = record {
  rises = λ a b w h. shift-rises i c a b h;
  within = shift-within i c n;
  together = λ a b w v h. shift-together (shifted_place i c) a b h;
  detached = refl;
}
