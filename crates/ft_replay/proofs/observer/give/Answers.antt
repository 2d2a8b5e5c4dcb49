use Rattle.ft_replay.proofs.Observing.{given-fault, given-taken}
use Rattle.ft_replay.proofs.observer.give.Goals as goal

pub returns-in-Ok : goal.returns-in-Ok
returns-in-Ok g c = λ seen h.
    let state = g.R.Replica.state in
    given-taken (state c.args.replica.now) (state c.process.new.self) c.args.entry.now c.requires c.in-Ok.ensures seen h

pub returns-in-Err : goal.returns-in-Err
returns-in-Err g c = λ seen h.
    let state = g.R.Replica.state in
    given-fault (state c.args.replica.now) (state c.process.new.self) c.args.entry.now c.in-Err.fault c.args.entry.now.msg.seq c.told_of.result c.told_of.ensures.refusal c.told_of.ensures.found c.in-Err.ensures seen h
