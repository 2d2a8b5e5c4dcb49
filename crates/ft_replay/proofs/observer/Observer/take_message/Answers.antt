use Rattle.std.proofs.Common.{◌≡◌}
use Rattle.std.proofs.lemmas.Result.{IfOk-at_ok, IfOk-weaker}
use Rattle.ft_msg.specs.declared.messages.Entry.{Entry}
use Rattle.ft_replay.specs.Observation.{names_with, numbered_entry}
use Rattle.ft_replay.proofs.Observing.{length-numbered, message-step, numbered-formed}
use Rattle.ft_replay.proofs.observer.Observer.take_message.Goals as goal

pub give_made-told-requires : goal.give_made-told-requires
give_made-told-requires g c = numbered-formed c.args.self.now.names c.args.msg c.number_sender-made.result c.requires.formed c.number_sender-made.ensures.ok

pub returns-clause-step : goal.returns-clause-step
returns-clause-step g c = λ seen h.
    let state = g.R.Replica.state in
    let self = c.args.self.now in
    let names = c.number_sender-made.new.names in
    IfOk-weaker c.give_made-told.result _ _ (λ told k. message-step self.names names (state self.replica) (state c.give_made-told.new.replica) c.args.msg k.0 told seen h
    (IfOk-at_ok (λ (entry : Entry). entry ≡ numbered_entry self.names c.args.msg) k.1 c.number_sender-made.ensures.ok)
    (IfOk-at_ok (λ _. names ≡ names_with self.names c.args.msg.client_id) k.1 c.number_sender-made.ensures.names) k.2) c.give_made-told.ensures

pub returns-clause-names : goal.returns-clause-names
returns-clause-names g c =
    length-numbered c.args.self.now.names c.number_sender-made.new.names c.args.msg.client_id c.number_sender-made.result c.number_sender-made.ensures.names c.number_sender-made.ensures.err
