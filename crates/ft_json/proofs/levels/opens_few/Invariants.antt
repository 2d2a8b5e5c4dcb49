use Rattle.std.proofs.Common.{◌≡◌, ◌+◌, ◌≤◌, drop}
use Rattle.ft_json.specs.declared.levels.Place.TheVariants.{Outside}
use Rattle.ft_json.specs.Levels.{opens_at_most}
use Rattle.ft_json.proofs.levels.opens_few.Given as goal

-- the bytes that are left decide, and no more levels were closed than bytes were passed
abbrev pub invariant-loop-byte : goal.invariant-loop-byte
invariant-loop-byte l =
    (opens_at_most l.left l.place (drop l.byte-index l.text) ≡ opens_at_most 100 Outside l.text) × (l.left ≤ 100 + l.byte-index)
