-- The laws of sessions, from what is known of each world.
use Rattle.std.proofs.Common.{◌≡◌, ℕ, true, List, length, take, Err, sym, ◌∙◌, ap, subst, map}
use Rattle.std.proofs.lemmas.List.{take_at}
use Rattle.ft_msg.specs.declared.messages.Entry.{Entry}
use Rattle.ft_seqr.specs.declared.events.Event.{Event}
use Rattle.ft_seqr.specs.declared.refusals.Refusal.{Refusal}
use Rattle.ft_msg.specs.Agreed.{agreed}
use Rattle.ft_msg.specs.Applied.{applied}
use Rattle.ft_props.specs.Element.{ListElement}
use Rattle.ft_op.specs.Document.{Document}
use Rattle.ft_msg.specs.Blame.{blame, origin_of}
use Rattle.ft_msg.specs.Client.{NaiveClient, client_over}
use Rattle.ft_msg.specs.Content.{content, shown}
use Rattle.ft_seqr.specs.World.{NamedClient, NaiveWorld, Stepped, is_client, new_world, step}
use Rattle.ft_msg.specs.ClientSteps.{is_without_edits, taken_entries}
use Rattle.ft_laws_agreement.proofs.ClientsAgree.{clients-agree, idle-clients-show, idle-views}
use Rattle.ft_laws_agreement.proofs.CountedEntries.{entries-counted}
use Rattle.ft_laws_agreement.proofs.EveryClientReady.{pending-stays-on_top}
use Rattle.ft_laws_sessions.specs.Worlds.{AttributionsAgree, ClientsAreOfLog, ClientsAttributeTheSame, CountsAreAgreed, HasCountsOf, ClientsShowTheSame, EventsHaveTheirRefusals, IsOfLog, LogIsInOrder, ViewsAreApplied, reached}
use Rattle.ft_laws_summaries.proofs.Lists.{each-found, each-weaker}
use Rattle.ft_laws_sessions.proofs.Orders.{leads-order}
use Rattle.ft_laws_sessions.proofs.WorldEvents.{IsReachedWorld, Serves, Turns, first-reached, reaches, steps-turn}

pub world-reached : (events : List Event) → IsReachedWorld ⊥ 0 (reached events)
world-reached events = reaches ⊥ events new_world (first-reached ⊥) (λ f. absurd f)

pub log-in-order : LogIsInOrder
log-in-order events = let r = world-reached events in leads-order (reached events).log 0 0 (reached events).sequencer.number (reached events).sequencer.minimum r.base.order

-- a client that is served is of the log
pub of-log : (w : NaiveWorld) (r : IsReachedWorld ⊥ 0 w) (c : NamedClient) → Serves ⊥ r.owner (length w.names) w.sequencer w.log c → IsOfLog w.log c.client
of-log w r c s = record {
  steps = s.served.steps;
  run = s.served.run;
  entries = sym (ap (take c.client.doc.number) (sym s.served.entries) ∙ take_at (taken_entries s.served.steps) s.rest c.client.doc.number
      (sym (entries-counted s.served.steps c.client s.served.run.made)));
}

pub clients-of-log : ClientsAreOfLog
clients-of-log events =
    let r = world-reached events in
    let w = reached events in
    each-weaker (Serves ⊥ r.owner (length w.names) w.sequencer w.log) (λ (c : NamedClient). IsOfLog w.log c.client) (λ c s. of-log w r c s) w.clients r.clients

refused : (e : Event) (s : Stepped) (refusal : Refusal) → Turns ⊥ 0 e s → s ≡ Err refusal → Turns ⊥ 0 e (Err refusal)
refused e s refusal h g = subst (Turns ⊥ 0 e) g h

pub events-have-their_refusals : EventsHaveTheirRefusals
events-have-their_refusals events e refusal h = refused e (step (reached events) e) refusal (steps-turn ⊥ (reached events) (world-reached events) e (λ f. absurd f)) h

on-top : (w : NaiveWorld) (r : IsReachedWorld ⊥ 0 w) (conn : ℕ) (c : NamedClient) → Serves ⊥ r.owner (length w.names) w.sequencer w.log c → content c.client
    ≡ applied c.client w.log conn
on-top w r conn c s =
    pending-stays-on_top s.served.steps c.client s.rest conn s.served.run.made s.served.run.bodies ∙ ap (λ log. applied c.client log conn) s.served.entries

pub views-are-applied : ViewsAreApplied
views-are-applied events conn =
    let r = world-reached events in
    let w = reached events in
    each-weaker (Serves ⊥ r.owner (length w.names) w.sequencer w.log) (λ (c : NamedClient). content c.client ≡ applied c.client w.log conn)
    (λ c s. on-top w r conn c s) w.clients r.clients

-- what a client with nothing pending shows
idle-shows : (log : List Entry) (x : NaiveClient) → IsOfLog log x → is_without_edits x ≡ true → content x ≡ shown (agreed (take x.doc.number log))
idle-shows log x o none = idle-clients-show o.steps x o.run.made o.run.bodies none ∙ ap (λ es. shown (agreed es)) o.entries

pub clients-show-the_same : ClientsShowTheSame
clients-show-the_same events name other c d f g n a b =
    let w = reached events in
    let o = (each-found (λ (c : NamedClient). IsOfLog w.log c.client) (is_client name) w.clients c f (clients-of-log events)).0 in
    let p = (each-found (λ (c : NamedClient). IsOfLog w.log c.client) (is_client other) w.clients d g (clients-of-log events)).0 in
    idle-shows w.log c.client o a ∙ (ap (λ i. shown (agreed (take i w.log))) n ∙ sym (idle-shows w.log d.client p b))

-- a client's counts, and with nothing pending its attribution, are those of the agreed document
counts-of : (log : List Entry) (x : NaiveClient) → IsOfLog log x → HasCountsOf (agreed (take x.doc.number log)) x.doc
counts-of log x o =
    let a = clients-agree o.steps x o.run.made o.run.bodies ∙ ap agreed o.entries in
    record { skipped = ap (λ (d : Document). d.skipped) a; other = ap (λ (d : Document). d.other) a }

pub counts-are-agreed : CountsAreAgreed
counts-are-agreed events =
    let w = reached events in
    each-weaker (λ (c : NamedClient). IsOfLog w.log c.client) (λ (c : NamedClient). HasCountsOf (agreed (take c.client.doc.number w.log)) c.client.doc)
    (λ c o. counts-of w.log c.client o) w.clients (clients-of-log events)

blame-of : (log : List Entry) (x : NaiveClient) → IsOfLog log x → is_without_edits x ≡ true → blame x ≡ blame (client_over (agreed (take x.doc.number log)))
blame-of log x o none =
    ap (λ (es : List ListElement). map (λ e. origin_of e.by) es) (idle-views o.steps x x.last_stage o.run.made o.run.bodies none)
    ∙ ap (λ es. blame (client_over (agreed es))) o.entries

pub attributions-agree : AttributionsAgree
attributions-agree events name c f none =
    let w = reached events in
    blame-of w.log c.client (each-found (λ (c : NamedClient). IsOfLog w.log c.client) (is_client name) w.clients c f (clients-of-log events)).0 none

pub clients-attribute-the_same : ClientsAttributeTheSame
clients-attribute-the_same events name other c d f g n a b =
    let w = reached events in
    let o = (each-found (λ (c : NamedClient). IsOfLog w.log c.client) (is_client name) w.clients c f (clients-of-log events)).0 in
    let p = (each-found (λ (c : NamedClient). IsOfLog w.log c.client) (is_client other) w.clients d g (clients-of-log events)).0 in
    blame-of w.log c.client o a ∙ (ap (λ i. blame (client_over (agreed (take i w.log)))) n ∙ sym (blame-of w.log d.client p b))
