use Rattle.ft_replica.proofs.LinkedReads.{entry-takes, keeps-further, on-any, runs-compacted}
use Rattle.ft_replica.proofs.linked.LinkedClient.process.Goals as goal

pub take-requires-clause-known : goal.take-requires-clause-known
take-requires-clause-known g c =
    runs-compacted g.D.OwnDocument.holds g.D.OwnDocument.shown g.met.D.OwnDocument.shows c.args.self.now c.tidy.new.self c.args.entry.now c.requires.known c.in_ok-tidy.ensures.compacts

pub returns-in_err-take-clause-err : goal.returns-in_err-take-clause-err
returns-in_err-take-clause-err g c =
    on-any c.from_residual-in_err-take.result (keeps-further c.args.self.now c.tidy.new.self c.take.new.self c.in_ok-tidy.ensures.kept c.in_err-take.ensures)

pub returns-clause-ok : goal.returns-clause-ok
returns-clause-ok g c =
    entry-takes g.D.OwnDocument.holds g.D.OwnDocument.shown g.met.D.OwnDocument.shows c.args.self.now c.tidy.new.self c.take.new.self c.args.entry.now c.requires.known
    c.in_ok-tidy.ensures.compacts c.in_ok-take.ensures
