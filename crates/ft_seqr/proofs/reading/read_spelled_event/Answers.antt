-- The event of a word is that of its reader.
use Rattle.std.proofs.Common.{◌≡◌, ℕ, List, codes, subst, sym}
use Rattle.std.specs.Prelude.{Result}
use Rattle.serde_json.specs.Data.{Data}
use Rattle.serde_json.specs.View.{view}
use Rattle.ft_json.specs.Readers.{Gives}
use Rattle.ft_msg.specs.declared.faults.Cause.{Cause}
use Rattle.ft_msg.specs.declared.faults.Cause.TheVariants.{OutOfMemory}
use Rattle.ft_seqr.specs.declared.events.Event.{Event}
use Rattle.ft_seqr.specs.EventGrammar.{event_for}
use Rattle.ft_seqr.proofs.reading.read_spelled_event.Goals as goal

at : (word given : List ℕ) (d : Data) (r : Result Event Cause) → word ≡ given → Gives OutOfMemory (event_for given d) r → Gives OutOfMemory (event_for word d) r
at word given d r is h = subst (λ w. Gives OutOfMemory (event_for w d) r) (sym is) h

pub returns-in-start : goal.returns-in-start
returns-in-start c = at c.args.word.now (codes "start") (view c.args.value.now) c.read_start.result c.in-start.is c.read_start.ensures

pub returns-in-connect : goal.returns-in-connect
returns-in-connect c = at c.args.word.now (codes "connect") (view c.args.value.now) c.read_of_client.result c.in-connect.is c.read_of_client.ensures

pub returns-in-drop : goal.returns-in-drop
returns-in-drop c =
    at c.args.word.now (codes "drop") (view c.args.value.now) c.read_of_client-in-drop.result c.in-drop.is c.read_of_client-in-drop.ensures

pub returns-in-edit : goal.returns-in-edit
returns-in-edit c = at c.args.word.now (codes "edit") (view c.args.value.now) c.read_edit.result c.in-edit.is c.read_edit.ensures

pub returns-in-ticket : goal.returns-in-ticket
returns-in-ticket c = at c.args.word.now (codes "ticket") (view c.args.value.now) c.read_ticket.result c.in-ticket.is c.read_ticket.ensures

pub returns-in-deliver : goal.returns-in-deliver
returns-in-deliver c = at c.args.word.now (codes "deliver") (view c.args.value.now) c.read_deliver.result c.in-deliver.is c.read_deliver.ensures

pub returns-in-noop : goal.returns-in-noop
returns-in-noop c =
    at c.args.word.now (codes "noop") (view c.args.value.now) c.read_of_client-in-noop.result c.in-noop.is c.read_of_client-in-noop.ensures

pub returns-in-show : goal.returns-in-show
returns-in-show c =
    at c.args.word.now (codes "show") (view c.args.value.now) c.read_of_client-in-show.result c.in-show.is c.read_of_client-in-show.ensures

pub returns-in-queue : goal.returns-in-queue
returns-in-queue c =
    at c.args.word.now (codes "queue") (view c.args.value.now) c.read_of_client-in-queue.result c.in-queue.is c.read_of_client-in-queue.ensures

pub returns-in-compact : goal.returns-in-compact
returns-in-compact c =
    at c.args.word.now (codes "compact") (view c.args.value.now) c.read_of_client-in-compact.result
    c.in-compact.is c.read_of_client-in-compact.ensures

pub returns-in-summary : goal.returns-in-summary
returns-in-summary c =
    at c.args.word.now (codes "summary") (view c.args.value.now) c.read_of_client-in-summary.result
    c.in-summary.is c.read_of_client-in-summary.ensures
