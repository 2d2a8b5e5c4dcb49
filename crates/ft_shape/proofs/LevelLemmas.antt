-- Levels of a tree where some of its nodes change.
use Rattle.std.proofs.Common.{◌≡◌, ℕ, zero, suc, ◌+◌, ◌-◌, ◌<◌, ◌≤◌, List, refl, sym, ap, ◌∙◌, arith}
use Rattle.std.specs.List.{flat_map}
use Rattle.ft_arena.specs.Ids.{times}
use Rattle.ft_arena.specs.Forest.{Forest, kids_of}
use Rattle.ft_shape.specs.declared.headed.Headed.{Headed}
use Rattle.ft_shape.specs.Tree.{height_of, below}
use Rattle.ft_shape.proofs.Levels.{AllHigh, flat_map_member}
use Rattle.ft_shape.proofs.EditLemmas.{flat_map_same}

module _ {L S : Type 0} where
  pub below-below : (s : Forest L (Headed S)) (i j : ℕ) (xs : List ℕ) → below s i (below s j xs) ≡ below s (j + i) xs
  below-below s i zero xs = let e : i ≡ zero + i = omega arith in ap (λ n. below s n xs) e
  below-below s i (suc j) xs =
      let e : suc j + i ≡ suc (j + i) = omega arith in
      below-below s i j (flat_map (kids_of s) xs) ∙ ap (λ n. below s n xs) (sym e)

  -- the levels stay where no block above them changes its children
  pub below_same : (s s' : Forest L (Headed S)) (n k : ℕ) (xs : List ℕ)
      → ((b x : ℕ) → 1 ≤ times (kids_of s b) x → height_of s b ≡ height_of s x + 1) → AllHigh s k xs
      → n ≤ k → ((x : ℕ) → height_of s x ≤ k → k < height_of s x + n → kids_of s' x ≡ kids_of s x) → below s' n xs ≡ below s n xs
  below_same s s' zero k xs hs a l h = refl
  below_same s s' (suc n) k xs hs a l h =
      let e : flat_map (kids_of s') xs ≡ flat_map (kids_of s) xs = flat_map_same (kids_of s) (kids_of s') xs (λ x m. h x (omega (arith, a x m)) (omega (arith, a x m))) in
      ap (below s' n) e ∙ below_same s s' n (k - 1) (flat_map (kids_of s) xs) hs (λ x m. let r = flat_map_member (kids_of s) xs x m in
      omega (arith, a r.0 r.1, hs r.0 x r.2)) (omega arith) (λ x low high. h x (omega arith) (omega arith))

  pub below_high : (s : Forest L (Headed S)) (n k : ℕ) (xs : List ℕ)
      → ((b x : ℕ) → 1 ≤ times (kids_of s b) x → height_of s b ≡ height_of s x + 1) → AllHigh s k xs
      → AllHigh s (k - n) (below s n xs)
  below_high s zero k xs hs a = λ x m. omega (arith, a x m)
  below_high s (suc n) k xs hs a =
      let r = below_high s n (k - 1) (flat_map (kids_of s) xs) hs (λ x m. let r = flat_map_member (kids_of s) xs x m in omega (arith, a r.0 r.1, hs r.0 x r.2)) in
      λ x m. omega (arith, r x m)
