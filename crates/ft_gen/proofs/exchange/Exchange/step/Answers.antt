use Rattle.std.proofs.Common.{ap}
use Rattle.ft_gen.specs.Acts.{act_event}
use Rattle.ft_gen.specs.Exchange.{exchange_left}
use Rattle.ft_gen.proofs.ExchangeSteps.{compacts-first, lessons-first, noop_lessons-first, noops-first}
use Rattle.ft_gen.proofs.exchange.Exchange.step.Goals as goal

pub returns-in-Learn-clause-told : goal.returns-in-Learn-clause-told
returns-in-Learn-clause-told c =
    let first = lessons-first c.args.clients c.args.round c.args.self _ c.in-Learn.is c.requires.sound in
    let act = ap act_event c.new.ensures in
    cc

pub returns-in-Noop-clause-told : goal.returns-in-Noop-clause-told
returns-in-Noop-clause-told c =
    let first = noops-first c.args.clients c.args.round c.args.self _ c.in-Noop.is c.requires.sound in
    let act = ap (λ r. act_event r.0) c.does-in-Noop.ensures in
    let next = ap (λ r. exchange_left c.args.clients c.args.round r.1) c.does-in-Noop.ensures in
    cc

pub returns-in-LearnNoops-clause-told : goal.returns-in-LearnNoops-clause-told
returns-in-LearnNoops-clause-told c =
    let first = noop_lessons-first c.args.clients c.args.round c.args.self _ c.in-LearnNoops.is c.requires.sound in
    let act = ap (λ r. act_event r.0) c.does-in-LearnNoops.ensures in
    let next = ap (λ r. exchange_left c.args.clients c.args.round r.1) c.does-in-LearnNoops.ensures in
    let rest = c.learn_noops.ensures.told c.args.round in
    cc

pub returns-in-Compact-clause-told : goal.returns-in-Compact-clause-told
returns-in-Compact-clause-told c =
    let first = compacts-first c.args.clients c.args.round c.args.self _ c.in-Compact.is c.requires.sound in
    let act = ap act_event c.new-in-Compact.ensures in
    let rest = c.compact.ensures.told c.args.round in
    cc
