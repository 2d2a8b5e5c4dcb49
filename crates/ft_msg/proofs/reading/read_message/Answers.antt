use Rattle.std.proofs.lemmas.Result.{IfOk-weaker}
use Rattle.std.proofs.Common.{◌≡◌, ℕ, List, Ok, refl}
use Rattle.serde_json.specs.Data.{Data}
use Rattle.serde_json.specs.View.{view}
use Rattle.ft_json.specs.Reading.{read_line}
use Rattle.ft_op.proofs.ReadSteps.{if_ok-both}
use Rattle.ft_msg.specs.MessageGrammar.{message, message_of}
use Rattle.ft_msg.proofs.ReadMessages.{message_of-formed, message_of-in_range}
use Rattle.ft_msg.proofs.reading.read_message.Goals as goal

-- the message of a text is that of its value
message-value : (bytes : List ℕ) (d : Data) → read_line bytes ≡ Ok d → message bytes ≡ message_of d
unfolding message
message-value bytes d h = rw h refl

pub returns-clause-reads : goal.returns-clause-reads
returns-clause-reads c =
    let value = view c.in_ok-value.value in
    let given = c.read_message_value.ensures in
    rw (message-value c.args.bytes.now value c.in_ok-value.ensures.ok) (record {
      ok = given.reads.ok;
      err = given.reads.err;
      formed = if_ok-both _ _ _ c.read_message_value.result (message_of-formed value) given.reads.ok given.body;
    })

pub returns-clause-in_range : goal.returns-clause-in_range
returns-clause-in_range c =
    IfOk-weaker c.read_message_value.result _ _ (λ m e. message_of-in_range (view c.in_ok-value.value) m e) c.read_message_value.ensures.reads.ok
