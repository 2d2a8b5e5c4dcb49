use Rattle.std.proofs.Common.{Result, sym, subst}
use Rattle.serde_json.specs.View.{view}
use Rattle.ft_json.specs.Readers.{Gives}
use Rattle.ft_msg.specs.declared.faults.Cause.{Cause}
use Rattle.ft_msg.specs.declared.faults.Cause.TheVariants.{OutOfMemory}
use Rattle.ft_seqr.specs.declared.events.Event.{Event}
use Rattle.ft_seqr.proofs.EventWords.{event_for-bytes}
use Rattle.ft_seqr.proofs.reading.read_event_for.Goals as goal

pub returns : goal.returns
returns c =
    subst (λ (x : Result Event Cause). Gives OutOfMemory x c.read_spelled_event.result)
    (sym (event_for-bytes c.args.word.now (view c.args.value.now) c.utf8.word)) c.read_spelled_event.ensures
