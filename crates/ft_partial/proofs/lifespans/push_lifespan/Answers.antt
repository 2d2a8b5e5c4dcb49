use Rattle.std.proofs.Common.{ℕ, ◌+◌, ◌-◌, ◌%◌, Option, sym, subst, arith}
use Rattle.std.proofs.lemmas.Result.{on_ok_weaker}
use Rattle.ft_partial.specs.EntryLists.{entries_of}
use Rattle.ft_partial.specs.Lifespans.{AddsLifespan}
use Rattle.ft_partial.proofs.LifespanLemmas.{adds_stay, adds_until, adds_never}
use Rattle.ft_partial.proofs.lifespans.push_lifespan.Goals as goal

pub returns-in-None : goal.returns-in-None
returns-in-None c =
    let P : Option ℕ → Type 0 = λ until. AddsLifespan (entries_of c.args.entries.now) (entries_of c.push_but.new.entries) (record { from = c.args.lifespan.now.from; until = until }) c.args.len in
    on_ok_weaker c.push_but.result
    (λ but. subst P (sym c.in-None.is) (adds_stay (entries_of c.args.entries.now) (entries_of c.push_but.new.entries) c.args.lifespan.now.from c.args.len
    ((0 + (18446744073709551616 - c.args.len)) % 18446744073709551616) (omega arith) (omega arith) but)) c.push_but.ensures

pub returns-then-until-lifespan : goal.returns-then-until-lifespan
returns-then-until-lifespan c =
    let P : Option ℕ → Type 0 = λ until. AddsLifespan (entries_of c.args.entries.now) (entries_of c.args.entries.now) (record { from = c.args.lifespan.now.from; until = until }) c.args.len in
    subst P (sym c.in-Some.is) (adds_never (entries_of c.args.entries.now) c.args.lifespan.now.from c.in-Some.until c.args.len c.if-until-lifespan.true)

pub returns-in_ok-push_but-in-Some : goal.returns-in_ok-push_but-in-Some
returns-in_ok-push_but-in-Some c =
    let P : Option ℕ → Type 0 = λ until. AddsLifespan (entries_of c.args.entries.now) (entries_of c.push_but-in-Some-2.new.entries) (record { from = c.args.lifespan.now.from; until = until }) c.args.len in
    on_ok_weaker c.push_but-in-Some-2.result
    (λ back. subst P (sym c.in-Some.is) (adds_until (entries_of c.args.entries.now) (entries_of c.push_but-in-Some.new.entries) (entries_of c.push_but-in-Some-2.new.entries)
    c.args.lifespan.now.from c.in-Some.until c.args.len ((0 + (18446744073709551616 - c.args.len)) % 18446744073709551616) (omega (arith, c.if-until-lifespan.false)) (omega arith) (omega arith)
    c.in_ok-push_but-in-Some.ensures back)) c.push_but-in-Some-2.ensures
