-- The event of a word is that of its reader.
use Rattle.std.proofs.Common.{◌≡◌, ℕ, List, codes, subst, sym}
use Rattle.std.specs.Prelude.{Result}
use Rattle.serde_json.specs.Data.{Data}
use Rattle.serde_json.specs.View.{view}
use Rattle.ft_json.specs.Readers.{Gives}
use Rattle.ft_msg.specs.declared.faults.Cause.{Cause}
use Rattle.ft_msg.specs.declared.faults.Cause.TheVariants.{OutOfMemory}
use Rattle.ft_seqr.specs.declared.events.Event.{Event}
use Rattle.ft_seqr.specs.EventGrammar.{later_event}
use Rattle.ft_seqr.proofs.reading.read_later_event.Goals as goal

at : (word given : List ℕ) (d : Data) (r : Result Event Cause) → word ≡ given → Gives OutOfMemory (later_event given d) r → Gives OutOfMemory (later_event word d) r
at word given d r is h = subst (λ w. Gives OutOfMemory (later_event w d) r) (sym is) h

pub returns-in-offer : goal.returns-in-offer
returns-in-offer c = at c.args.word.now (codes "offer") (view c.args.value.now) c.read_offer.result c.in-offer.is c.read_offer.ensures

pub returns-in-guest : goal.returns-in-guest
returns-in-guest c = at c.args.word.now (codes "guest") (view c.args.value.now) c.read_guest.result c.in-guest.is c.read_guest.ensures

pub returns-in-submit : goal.returns-in-submit
returns-in-submit c = at c.args.word.now (codes "submit") (view c.args.value.now) c.read_submit.result c.in-submit.is c.read_submit.ensures

pub returns-in-part : goal.returns-in-part
returns-in-part c = at c.args.word.now (codes "part") (view c.args.value.now) c.read_part.result c.in-part.is c.read_part.ensures

pub returns-in-overlap : goal.returns-in-overlap
returns-in-overlap c = at c.args.word.now (codes "overlap") (view c.args.value.now) c.read_overlap.result c.in-overlap.is c.read_overlap.ensures

pub returns-in-blame : goal.returns-in-blame
returns-in-blame c = at c.args.word.now (codes "blame") (view c.args.value.now) c.read_blame.result c.in-blame.is c.read_blame.ensures

pub returns-in-authors : goal.returns-in-authors
returns-in-authors c = at c.args.word.now (codes "authors") (view c.args.value.now) c.read_of_client.result c.in-authors.is c.read_of_client.ensures
