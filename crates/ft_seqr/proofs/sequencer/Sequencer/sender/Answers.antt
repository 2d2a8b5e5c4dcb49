-- Nothing is against the draft.
use Rattle.std.proofs.Common.{◌∙◌, ap, sym}
use Rattle.std.specs.List.{find}
use Rattle.ft_seqr.specs.Sequencer.{NaiveSequencer, is_joined}
use Rattle.ft_seqr.specs.SequencerCalls.{sender_of}
use Rattle.ft_seqr.proofs.sequencer.Sequencer.sender.Goals as goal

pub returns-clause-ok : goal.returns-clause-ok
returns-clause-ok c = record {
  joined = c.in-Some.joined.now;
  found = ap (λ (q : NaiveSequencer). find (is_joined c.args.conn) q.joined) (sym c.self.view_is)
      ∙ sym (c.in-Some.ensures ∙ ap (find (is_joined c.args.conn)) c.as_slice.ensures.value);
  free = sym c.in_ok-nack.ensures ∙ c.in_default-2.is;
  is = c.in_ok-sender.ensures ∙ ap (sender_of c.in-Some.joined.now) c.in_ok-number.ensures;
}
