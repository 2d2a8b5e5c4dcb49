-- The order of removals in two parts: their numbers, and their connections.
use Rattle.std.specs.Prelude.{ℕ, suc, Bool, true, not, ◌&&◌, nat_eq, nat_le, List, [], ◌∷◌}
use Rattle.std.specs.List.{list_any}
use Rattle.ft_sumdoc.specs.declared.summary.Mark.{Mark}

-- whether the numbers rise from low on
abbrev pub numbers_rise : ℕ → List Mark → Bool
numbers_rise low [] = true
numbers_rise low (m ∷ ms) = nat_le low m.seq && numbers_rise (suc m.seq) ms

-- whether no connection stands twice
abbrev pub conns_differ : List Mark → Bool
conns_differ [] = true
conns_differ (m ∷ ms) = not (list_any (λ n. nat_eq m.conn n.conn) ms) && conns_differ ms
