-- The message is as the sender and the draft say.
use Rattle.std.proofs.Common.{ap}
use Rattle.ft_seqr.specs.Sequencer.{NaiveSequencer}
use Rattle.ft_seqr.proofs.SequencedDrafts.{sequenced}
use Rattle.ft_seqr.proofs.sequencer.Sequencer.number_draft.Goals as goal

pub returns : goal.returns
returns c = λ conn h. sequenced c.args.self.now c.go_on.new.self conn c.args.draft c.args.sender c.self.inside.minimum c.message.result h c.go_on.ensures
    (ap (λ (q : NaiveSequencer). q.minimum) c.self.view_is) c.message.ensures
