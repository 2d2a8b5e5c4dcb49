use Rattle.std.proofs.Common.{◌++◌, sym, ap, ◌∙◌, arith}
use Rattle.ft_gen.specs.Exchange.{lessons_from}
use Rattle.ft_gen.specs.Rounds.{each, return, tickets}
use Rattle.ft_gen.proofs.ExchangeSteps.{others-keep, others-skip}
use Rattle.ft_gen.proofs.exchange.submit.Goals as goal

pub returns-then-ne-clause-told : goal.returns-then-ne-clause-told
returns-then-ne-clause-told c =
    let l = c.loop-client in
    let next = l.invariant.skipped ∙ others-keep c.args.dropped c.args.clients l.client (omega arith) (sym c.ne.ensures ∙ c.if-ne.true) in
    λ round. ap (λ is. each tickets is ++ (return c.args.dropped ++ lessons_from c.args.clients round 1)) next

pub loop-client-preserved : goal.loop-client-preserved
loop-client-preserved c =
    let l = c.loop-client in
    record {
      within = omega arith;
      skipped = l.invariant.skipped ∙ others-skip c.args.dropped c.args.clients l.client (omega arith) (sym c.ne.ensures ∙ c.if-ne.false);
    }
