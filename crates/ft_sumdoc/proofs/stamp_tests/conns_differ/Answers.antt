use Rattle.std.proofs.Common.{◌≡◌, ◌∙◌, ◌+◌, ◌-◌, ◌<◌, length, sym, ap, arith}
use Rattle.std.specs.Prelude.{is_some}
use Rattle.ft_sumdoc.proofs.RisingRemovals.{stands_again}
use Rattle.ft_sumdoc.proofs.stamp_tests.conns_differ.Goals as goal

pub returns-then-is_some : goal.returns-then-is_some
returns-then-is_some c =
    let marks = c.args.marks.now in
    let i = c.loop-i.i - 1 in
    let within : i < length marks = omega (arith, c.loop-i-test.true, c.loop-i.invariant.place) in
    let next : i + 1 ≡ c.loop-i.i = omega (arith, c.loop-i-test.true) in
    sym (stands_again marks i c.loop-i.i _ within next (
    sym (c.loop-i.invariant.known _) ∙ (ap is_some (sym c.in_ok-insert.ensures.old) ∙ sym c.is_some.ensures ∙ c.if-is_some.true)
    ))
