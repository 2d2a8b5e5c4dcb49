use Rattle.std.proofs.lemmas.Result.{IfOk-at_ok}
use Rattle.ft_msg.specs.declared.messages.Entry.{Entry}
use Rattle.ft_msg.specs.WellFormed.{IsWellFormedMessage}
use Rattle.ft_replay.proofs.Observing.{given-made}
use Rattle.ft_replay.proofs.observer.give_made.Goals as goal

pub give-requires : goal.give-requires
give-requires g c = IfOk-at_ok (λ (entry : Entry). IsWellFormedMessage entry.msg) c.in-Ok.is c.requires

pub returns-in-Ok : goal.returns-in-Ok
returns-in-Ok g c =
    given-made (g.R.Replica.state c.args.replica.now) (g.R.Replica.state c.give.new.replica) c.args.made.now c.in-Ok.entry c.give.result c.in-Ok.is c.give.ensures
