use Rattle.std.proofs.Common.{◌≡◌, ℕ, List, Ok, refl}
use Rattle.serde_json.specs.Data.{Data}
use Rattle.serde_json.specs.View.{view}
use Rattle.ft_json.specs.Reading.{read_line}
use Rattle.ft_op.proofs.ReadSteps.{if_ok-both}
use Rattle.ft_msg.specs.MessageGrammar.{draft, draft_of}
use Rattle.ft_msg.proofs.ReadMessages.{draft_of-formed}
use Rattle.ft_msg.proofs.reading.read_draft.Goals as goal

-- the draft of a text is that of its value
draft-value : (bytes : List ℕ) (d : Data) → read_line bytes ≡ Ok d → draft bytes ≡ draft_of d
unfolding draft
draft-value bytes d h = rw h refl

pub returns : goal.returns
returns c =
    let value = view c.in_ok-value.value in
    let given = c.read_draft_value.ensures in
    rw (draft-value c.args.bytes.now value c.in_ok-value.ensures.ok) (record {
      ok = given.reads.ok;
      err = given.reads.err;
      formed = if_ok-both _ _ _ c.read_draft_value.result (draft_of-formed value) given.reads.ok given.body;
    })
