use Rattle.std.proofs.Common.{◌≡◌, ◌+◌, drop}
use Rattle.ft_base.specs.Visibility.{sees}
use Rattle.ft_base.specs.Scan.{place}
use Rattle.ft_base.proofs.scans.insertion_place.Given as goal

-- the place of all is as many elements on as were passed
abbrev pub invariant-loop-i : goal.invariant-loop-i
invariant-loop-i l = place (λ e. sees e l.at.r l.at.c) l.fn.p l.items ≡ l.i + place (λ e. sees e l.at.r l.at.c) l.left (drop l.i l.items)
