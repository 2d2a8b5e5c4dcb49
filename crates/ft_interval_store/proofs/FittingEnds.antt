-- Ends that fit a list are places in it, or detached.
use Rattle.std.proofs.Common.{◌≡◌, ◌<◌, ℕ, ℤ, pos, negsuc, true, nat_lt, arith}
use Rattle.std.proofs.lemmas.Bool.Decides.{nat_tests}
use Rattle.ft_base.proofs.Booleans.{both}
use Rattle.ft_op.specs.declared.operations.Ends.{Ends}
use Rattle.ft_op.specs.Intervals.{ends_fit, is_place}

module _ (n : ℕ) where
  place-within : (q p : ℕ) → nat_lt q n ≡ true → pos q ≡ pos p → p < n
  place-within q p h e =
      let same : q ≡ p = (cc) in
      let less : q < n = grind (arith, nat_tests, h) in
      omega (arith, same, less)

  pub start-fits : (start end : ℤ) (p : ℕ) → (let ends : Ends = record { start = start; end = end } in ends_fit n ends ≡ true) → start ≡ pos p → p < n
  start-fits (pos q) end p h e = place-within q p (both (nat_lt q n) (is_place n end) h).0 e
  start-fits (negsuc q) end p h e = absurd (cc)

  pub end-fits : (start end : ℤ) (p : ℕ) → (let ends : Ends = record { start = start; end = end } in ends_fit n ends ≡ true) → end ≡ pos p → p < n
  end-fits (pos r) (pos q) p h e = place-within q p (both (nat_lt r n) (nat_lt q n) h).1 e
  end-fits (negsuc r) (pos q) p h e = absurd (cc)
  end-fits start (negsuc q) p h e = absurd (cc)
