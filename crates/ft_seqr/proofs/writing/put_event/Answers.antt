-- The members of an event are those of its form.
use Rattle.std.proofs.Common.{◌≡◌, subst, sym}
use Rattle.std.specs.Prelude.{Result, Ok, Err, OnOk}
use Rattle.std.proofs.lemmas.Result.{on_ok_weaker}
use Rattle.serde_json.specs.Data.{Data, object}
use Rattle.serde_json.specs.View.{members_view}
use Rattle.ft_op.specs.Representable.{IsText}
use Rattle.ft_seqr.specs.declared.events.Event.{Event}
use Rattle.ft_seqr.specs.declared.events.Event.TheVariants.{Start, Connect, Drop, Edit, Ticket, Deliver, Noop, Show, Queue, Compact, Summary, Offer, Guest, Submit, Part, Overlap, Blame, Authors}
use Rattle.ft_seqr.specs.WellFormedEvent.{IsRepresentableEvent}
use Rattle.ft_seqr.specs.WrittenEvent.{written_event}
use Rattle.ft_seqr.proofs.writing.put_event.Goals as goal

value_at : {E : Type 0} (r : Result (Unit {0}) E) (d : Data) (e given : Event) → e ≡ given
    → OnOk r (d ≡ written_event given) → OnOk r (d ≡ written_event e)
value_at r d e given is h = subst (λ x. OnOk r (d ≡ written_event x)) (sym is) h

representable_at : {E : Type 0} (r : Result (Unit {0}) E) (e given : Event) → e ≡ given
    → OnOk r (IsRepresentableEvent given) → OnOk r (IsRepresentableEvent e)
representable_at r e given is h = subst (λ x. OnOk r (IsRepresentableEvent x)) (sym is) h

always : {E : Type 0} (P : Type 0) (r : Result (Unit {0}) E) → P → OnOk r P
always P (Ok u) h = h
always P (Err e) h = tt

both_ok : {E : Type 0} (P Q : Type 0) (r : Result (Unit {0}) E) → OnOk r P → OnOk r Q → OnOk r (P × Q)
both_ok P Q (Ok u) h k = (h, k)
both_ok P Q (Err e) h k = tt

pub returns-in-Start-clause-value : goal.returns-in-Start-clause-value
returns-in-Start-clause-value c =
    value_at c.put_start.result (object (members_view c.put_start.new.members.entries)) c.args.event.now
    (Start c.in-Start.client c.in-Start.from) c.in-Start.is c.put_start.ensures.value

pub returns-in-Start-clause-representable : goal.returns-in-Start-clause-representable
returns-in-Start-clause-representable c =
    representable_at c.put_start.result c.args.event.now (Start c.in-Start.client c.in-Start.from) c.in-Start.is
    (on_ok_weaker c.put_start.result (λ h. (c.put_start.ensures.client, h)) c.put_start.ensures.from)

pub returns-in-Connect-clause-value : goal.returns-in-Connect-clause-value
returns-in-Connect-clause-value c =
    value_at c.put_client.result (object (members_view c.put_client.new.members.entries)) c.args.event.now
    (Connect c.in-Connect.client) c.in-Connect.is c.put_client.ensures.value

pub returns-in-Connect-clause-representable : goal.returns-in-Connect-clause-representable
returns-in-Connect-clause-representable c =
    representable_at c.put_client.result c.args.event.now (Connect c.in-Connect.client) c.in-Connect.is
    (always (IsRepresentableEvent (Connect c.in-Connect.client)) c.put_client.result c.put_client.ensures.client)

pub returns-in-Drop-clause-value : goal.returns-in-Drop-clause-value
returns-in-Drop-clause-value c =
    value_at c.put_client-in-Drop.result (object (members_view c.put_client-in-Drop.new.members.entries)) c.args.event.now
    (Drop c.in-Drop.client) c.in-Drop.is c.put_client-in-Drop.ensures.value

pub returns-in-Drop-clause-representable : goal.returns-in-Drop-clause-representable
returns-in-Drop-clause-representable c =
    representable_at c.put_client-in-Drop.result c.args.event.now (Drop c.in-Drop.client) c.in-Drop.is
    (always (IsRepresentableEvent (Drop c.in-Drop.client)) c.put_client-in-Drop.result c.put_client-in-Drop.ensures.client)

pub returns-in-Edit-clause-value : goal.returns-in-Edit-clause-value
returns-in-Edit-clause-value c =
    value_at c.put_edit.result (object (members_view c.put_edit.new.members.entries)) c.args.event.now
    (Edit c.in-Edit.client c.in-Edit.op) c.in-Edit.is c.put_edit.ensures.value

pub returns-in-Edit-clause-representable : goal.returns-in-Edit-clause-representable
returns-in-Edit-clause-representable c =
    representable_at c.put_edit.result c.args.event.now (Edit c.in-Edit.client c.in-Edit.op) c.in-Edit.is
    (on_ok_weaker c.put_edit.result (λ h. (c.put_edit.ensures.client, h)) c.put_edit.ensures.op)

pub returns-in-Ticket-clause-value : goal.returns-in-Ticket-clause-value
returns-in-Ticket-clause-value c =
    value_at c.put_counted.result (object (members_view c.put_counted.new.members.entries)) c.args.event.now
    (Ticket c.in-Ticket.client c.in-Ticket.count) c.in-Ticket.is c.put_counted.ensures.value

pub returns-in-Ticket-clause-representable : goal.returns-in-Ticket-clause-representable
returns-in-Ticket-clause-representable c =
    representable_at c.put_counted.result c.args.event.now (Ticket c.in-Ticket.client c.in-Ticket.count) c.in-Ticket.is
    (always (IsRepresentableEvent (Ticket c.in-Ticket.client c.in-Ticket.count)) c.put_counted.result c.put_counted.ensures.client)

pub returns-in-Deliver-clause-value : goal.returns-in-Deliver-clause-value
returns-in-Deliver-clause-value c =
    value_at c.put_counted-in-Deliver.result (object (members_view c.put_counted-in-Deliver.new.members.entries)) c.args.event.now
    (Deliver c.in-Deliver.client c.in-Deliver.count) c.in-Deliver.is c.put_counted-in-Deliver.ensures.value

pub returns-in-Deliver-clause-representable : goal.returns-in-Deliver-clause-representable
returns-in-Deliver-clause-representable c =
    representable_at c.put_counted-in-Deliver.result c.args.event.now (Deliver c.in-Deliver.client c.in-Deliver.count) c.in-Deliver.is
    (always (IsRepresentableEvent (Deliver c.in-Deliver.client c.in-Deliver.count))
    c.put_counted-in-Deliver.result c.put_counted-in-Deliver.ensures.client)

pub returns-in-Noop-clause-value : goal.returns-in-Noop-clause-value
returns-in-Noop-clause-value c =
    value_at c.put_client-in-Noop.result (object (members_view c.put_client-in-Noop.new.members.entries)) c.args.event.now
    (Noop c.in-Noop.client) c.in-Noop.is c.put_client-in-Noop.ensures.value

pub returns-in-Noop-clause-representable : goal.returns-in-Noop-clause-representable
returns-in-Noop-clause-representable c =
    representable_at c.put_client-in-Noop.result c.args.event.now (Noop c.in-Noop.client) c.in-Noop.is
    (always (IsRepresentableEvent (Noop c.in-Noop.client)) c.put_client-in-Noop.result c.put_client-in-Noop.ensures.client)

pub returns-in-Show-clause-value : goal.returns-in-Show-clause-value
returns-in-Show-clause-value c =
    value_at c.put_client-in-Show.result (object (members_view c.put_client-in-Show.new.members.entries)) c.args.event.now
    (Show c.in-Show.client) c.in-Show.is c.put_client-in-Show.ensures.value

pub returns-in-Show-clause-representable : goal.returns-in-Show-clause-representable
returns-in-Show-clause-representable c =
    representable_at c.put_client-in-Show.result c.args.event.now (Show c.in-Show.client) c.in-Show.is
    (always (IsRepresentableEvent (Show c.in-Show.client)) c.put_client-in-Show.result c.put_client-in-Show.ensures.client)

pub returns-in-Queue-clause-value : goal.returns-in-Queue-clause-value
returns-in-Queue-clause-value c =
    value_at c.put_client-in-Queue.result (object (members_view c.put_client-in-Queue.new.members.entries)) c.args.event.now
    (Queue c.in-Queue.client) c.in-Queue.is c.put_client-in-Queue.ensures.value

pub returns-in-Queue-clause-representable : goal.returns-in-Queue-clause-representable
returns-in-Queue-clause-representable c =
    representable_at c.put_client-in-Queue.result c.args.event.now (Queue c.in-Queue.client) c.in-Queue.is
    (always (IsRepresentableEvent (Queue c.in-Queue.client)) c.put_client-in-Queue.result c.put_client-in-Queue.ensures.client)

pub returns-in-Compact-clause-value : goal.returns-in-Compact-clause-value
returns-in-Compact-clause-value c =
    value_at c.put_client-in-Compact.result (object (members_view c.put_client-in-Compact.new.members.entries)) c.args.event.now
    (Compact c.in-Compact.client) c.in-Compact.is c.put_client-in-Compact.ensures.value

pub returns-in-Compact-clause-representable : goal.returns-in-Compact-clause-representable
returns-in-Compact-clause-representable c =
    representable_at c.put_client-in-Compact.result c.args.event.now (Compact c.in-Compact.client) c.in-Compact.is
    (always (IsRepresentableEvent (Compact c.in-Compact.client)) c.put_client-in-Compact.result c.put_client-in-Compact.ensures.client)

pub returns-in-Summary-clause-value : goal.returns-in-Summary-clause-value
returns-in-Summary-clause-value c =
    value_at c.put_client-in-Summary.result (object (members_view c.put_client-in-Summary.new.members.entries)) c.args.event.now
    (Summary c.in-Summary.client) c.in-Summary.is c.put_client-in-Summary.ensures.value

pub returns-in-Summary-clause-representable : goal.returns-in-Summary-clause-representable
returns-in-Summary-clause-representable c =
    representable_at c.put_client-in-Summary.result c.args.event.now (Summary c.in-Summary.client) c.in-Summary.is
    (always (IsRepresentableEvent (Summary c.in-Summary.client)) c.put_client-in-Summary.result c.put_client-in-Summary.ensures.client)

pub returns-in-Offer-clause-value : goal.returns-in-Offer-clause-value
returns-in-Offer-clause-value c =
    value_at c.put_offer.result (object (members_view c.put_offer.new.members.entries)) c.args.event.now
    (Offer c.in-Offer.client c.in-Offer.message) c.in-Offer.is c.put_offer.ensures.value

pub returns-in-Offer-clause-representable : goal.returns-in-Offer-clause-representable
returns-in-Offer-clause-representable c =
    representable_at c.put_offer.result c.args.event.now (Offer c.in-Offer.client c.in-Offer.message) c.in-Offer.is
    (on_ok_weaker c.put_offer.result (λ h. (c.put_offer.ensures.client, h)) c.put_offer.ensures.text)

pub returns-in-Guest-clause-value : goal.returns-in-Guest-clause-value
returns-in-Guest-clause-value c =
    value_at c.put_guest.result (object (members_view c.put_guest.new.members.entries)) c.args.event.now
    (Guest c.in-Guest.guest) c.in-Guest.is c.put_guest.ensures.value

pub returns-in-Guest-clause-representable : goal.returns-in-Guest-clause-representable
returns-in-Guest-clause-representable c =
    representable_at c.put_guest.result c.args.event.now (Guest c.in-Guest.guest) c.in-Guest.is
    c.put_guest.ensures.guest

pub returns-in-Submit-clause-value : goal.returns-in-Submit-clause-value
returns-in-Submit-clause-value c =
    value_at c.put_submission.result (object (members_view c.put_submission.new.members.entries)) c.args.event.now
    (Submit c.in-Submit.guest c.in-Submit.message) c.in-Submit.is c.put_submission.ensures.value

pub returns-in-Submit-clause-representable : goal.returns-in-Submit-clause-representable
returns-in-Submit-clause-representable c =
    representable_at c.put_submission.result c.args.event.now (Submit c.in-Submit.guest c.in-Submit.message) c.in-Submit.is
    (both_ok (IsText c.in-Submit.guest) (IsText c.in-Submit.message) c.put_submission.result c.put_submission.ensures.guest c.put_submission.ensures.text)

pub returns-in-Part-clause-value : goal.returns-in-Part-clause-value
returns-in-Part-clause-value c =
    value_at c.put_guest-in-Part.result (object (members_view c.put_guest-in-Part.new.members.entries)) c.args.event.now
    (Part c.in-Part.guest) c.in-Part.is c.put_guest-in-Part.ensures.value

pub returns-in-Part-clause-representable : goal.returns-in-Part-clause-representable
returns-in-Part-clause-representable c =
    representable_at c.put_guest-in-Part.result c.args.event.now (Part c.in-Part.guest) c.in-Part.is
    c.put_guest-in-Part.ensures.guest

pub returns-in-Overlap-clause-value : goal.returns-in-Overlap-clause-value
returns-in-Overlap-clause-value c =
    value_at c.put_overlap.result (object (members_view c.put_overlap.new.members.entries)) c.args.event.now
    (Overlap c.in-Overlap.client c.in-Overlap.label c.in-Overlap.start c.in-Overlap.end) c.in-Overlap.is c.put_overlap.ensures.value

pub returns-in-Overlap-clause-representable : goal.returns-in-Overlap-clause-representable
returns-in-Overlap-clause-representable c =
    representable_at c.put_overlap.result c.args.event.now
    (Overlap c.in-Overlap.client c.in-Overlap.label c.in-Overlap.start c.in-Overlap.end) c.in-Overlap.is
    (on_ok_weaker c.put_overlap.result (λ h. (c.put_overlap.ensures.client, h)) c.put_overlap.ensures.label)

pub returns-in-Blame-clause-value : goal.returns-in-Blame-clause-value
returns-in-Blame-clause-value c =
    value_at c.put_blame.result (object (members_view c.put_blame.new.members.entries)) c.args.event.now
    (Blame c.in-Blame.client c.in-Blame.start c.in-Blame.end) c.in-Blame.is c.put_blame.ensures.value

pub returns-in-Blame-clause-representable : goal.returns-in-Blame-clause-representable
returns-in-Blame-clause-representable c =
    representable_at c.put_blame.result c.args.event.now (Blame c.in-Blame.client c.in-Blame.start c.in-Blame.end) c.in-Blame.is
    (always (IsRepresentableEvent (Blame c.in-Blame.client c.in-Blame.start c.in-Blame.end)) c.put_blame.result c.put_blame.ensures.client)

pub returns-in-Authors-clause-value : goal.returns-in-Authors-clause-value
returns-in-Authors-clause-value c =
    value_at c.put_client-in-Authors.result (object (members_view c.put_client-in-Authors.new.members.entries)) c.args.event.now
    (Authors c.in-Authors.client) c.in-Authors.is c.put_client-in-Authors.ensures.value

pub returns-in-Authors-clause-representable : goal.returns-in-Authors-clause-representable
returns-in-Authors-clause-representable c =
    representable_at c.put_client-in-Authors.result c.args.event.now (Authors c.in-Authors.client) c.in-Authors.is
    (always (IsRepresentableEvent (Authors c.in-Authors.client)) c.put_client-in-Authors.result c.put_client-in-Authors.ensures.client)
