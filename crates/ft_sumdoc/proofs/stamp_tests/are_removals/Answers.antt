use Rattle.std.proofs.Common.{◌≡◌, ◌∙◌, ◌<◌, ◌^◌, List, [], ◌∷◌, true, nat_le, nat_lt, leb-true, lt-ltb, refl, sym, arith}
use Rattle.std.specs.List.{list_all}
use Rattle.ft_base.proofs.Booleans.{all_four, both}
use Rattle.ft_sumdoc.specs.declared.summary.Mark.{Mark}
use Rattle.ft_sumdoc.specs.Items.{bounds_in}
use Rattle.ft_sumdoc.specs.Stamps.{Bounds, is_recent}
use Rattle.ft_sumdoc.proofs.stamp_tests.are_removals.Goals as goal

recent_small : (b : Bounds) (ms : List Mark) → b.seq < 2 ^ 53 → list_all (is_recent b) ms ≡ true → list_all (λ (m : Mark). nat_lt m.seq (2 ^ 53)) ms ≡ true
recent_small b [] small h = refl
recent_small b (m ∷ ms) small h =
    let parts = both (is_recent b m) (list_all (is_recent b) ms) h in
    let tests = all_four (nat_lt b.min m.seq) (nat_le m.seq b.seq) (nat_lt 0 m.conn) (nat_le m.conn b.conns) parts.0 in
    rw (lt-ltb m.seq (2 ^ 53) (omega (arith, leb-true m.seq b.seq tests.1)), recent_small b ms small parts.1)

pub numbers_rise-requires : goal.numbers_rise-requires
numbers_rise-requires c = recent_small (bounds_in c.args.limits) c.args.marks.now c.requires (sym c.are_recent.ensures ∙ c.if-not-are_recent.false)
