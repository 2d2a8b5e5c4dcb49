use Rattle.std.proofs.Common.{◌≤◌, ◌^◌, inl, inr, arith}
use Rattle.std.proofs.lemmas.Bool.{cases_lt}
use Rattle.std.proofs.Math.Nat.{pow-le-pow_right}
use Rattle.ft_tests_tree.proofs.bounds.find_5000.Goals as goal

pub returns : goal.returns
returns g c = elim (cases_lt c.args.blocks.now.depth 7) [
  | inl low ↦ omega (arith, c.find_local.ensures.cost)
  | inr high ↦ let more : 4 ^ 7 ≤ 4 ^ c.args.blocks.now.depth = pow-le-pow_right (omega arith) high in absurd (omega (arith, more, c.find_local.ensures.depth, c.requires.many))
]
