use Rattle.std.proofs.Common.{ap}
use Rattle.ft_gen.specs.Acts.{act_event}
use Rattle.ft_gen.proofs.OpeningSteps.{greetings-first, grid_lessons-first, starts-first}
use Rattle.ft_gen.proofs.opening.Opening.step.Goals as goal

pub returns-in-Start-clause-told : goal.returns-in-Start-clause-told
returns-in-Start-clause-told c =
    let first = starts-first c.args.clients c.args.self _ c.in-Start.is c.requires.sound in
    let act = ap act_event c.new.ensures in
    cc

pub returns-in-Greet-clause-told : goal.returns-in-Greet-clause-told
returns-in-Greet-clause-told c =
    let first = greetings-first c.args.clients c.args.self _ c.in-Greet.is c.requires.sound in
    let act = ap act_event c.new-in-Greet.ensures in
    cc

pub returns-in-Learn-clause-told : goal.returns-in-Learn-clause-told
returns-in-Learn-clause-told c =
    let first = grid_lessons-first c.args.clients c.args.self _ c.in-Learn.is c.requires.sound in
    let act = ap act_event c.new-in-Learn.ensures in
    cc
