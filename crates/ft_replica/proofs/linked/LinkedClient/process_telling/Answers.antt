use Rattle.ft_msg.specs.Client.{floor}
use Rattle.ft_laws_compaction.proofs.Compacting.{compacts-further}
use Rattle.ft_replica.proofs.LinkedReads.{entry-takes, keeps-further, on-any, runs-compacted}
use Rattle.ft_replica.proofs.LinkedSteps.{made-named}
use Rattle.ft_replica.proofs.linked.LinkedClient.process_telling.Goals as goal

pub take_telling-requires-clause-known : goal.take_telling-requires-clause-known
take_telling-requires-clause-known g c =
    runs-compacted g.D.OwnDocument.holds g.D.OwnDocument.shown g.met.D.OwnDocument.shows c.args.self.now c.tidy.new.self c.args.entry.now c.requires.known c.in_ok-tidy.ensures.compacts

pub returns-in_err-take_telling-clause-err : goal.returns-in_err-take_telling-clause-err
returns-in_err-take_telling-clause-err g c =
    on-any c.from_residual-in_err-take_telling.result (keeps-further c.args.self.now c.tidy.new.self c.take_telling.new.self c.in_ok-tidy.ensures.kept c.in_err-take_telling.ensures.answers)

pub returns-clause-ok : goal.returns-clause-ok
returns-clause-ok g c =
    entry-takes g.D.OwnDocument.holds g.D.OwnDocument.shown g.met.D.OwnDocument.shows c.args.self.now c.tidy.new.self c.take_telling.new.self c.args.entry.now c.requires.known
    c.in_ok-tidy.ensures.compacts c.in_ok-take_telling.ensures.answers

pub returns-clause-told : goal.returns-clause-told
returns-clause-told g c = λ start low p made l.
    let k = c.in_ok-tidy.ensures.compacts low p (made-named start p made) l in
    let fewer = k.0 in (
      fewer,
      k.1,
      c.in_ok-take_telling.ensures.told start (floor p) fewer
          (record { whole = made.whole; reached = made.reached; starts = made.starts; keeps = compacts-further made.whole p fewer made.keeps k.1 }) k.3,
    )
