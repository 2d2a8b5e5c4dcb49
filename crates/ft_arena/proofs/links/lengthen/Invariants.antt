use Rattle.std.proofs.Common.{◌≡◌, ℕ, ◌-◌, ◌≤◌, length}
use Rattle.std.specs.Prelude.{max, vec_capacity}
use Rattle.ft_arena.specs.Links.{links_under}
use Rattle.ft_arena.proofs.links.lengthen.Given as goal

-- links to nothing stand behind the old ones
abbrev pub invariant-loop-links : goal.invariant-loop-links
invariant-loop-links l =
    ((x : ℕ) → links_under l.links.items x ≡ links_under l.initial.links.items x) × (length l.links.items ≤ max (length l.initial.links.items) l.numbers)
    × (length l.initial.links.items ≤ length l.links.items) × (vec_capacity l.links ≡ vec_capacity l.initial.links)

abbrev pub decreases-loop-links : goal.decreases-loop-links
decreases-loop-links l = l.numbers - length l.links.items
