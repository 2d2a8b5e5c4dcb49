-- What each step makes of the reference numbers of a client's pending edits: they rise, and the floor doesn't fall.
use Rattle.std.proofs.Common.{◌≡◌, ℕ, ◌+◌, ◌≤◌, Bool, true, false, cond, ◌&&◌, List, [], ◌∷◌, ◌++◌, Option, Some, None, Result, Ok, Err, drop, length, map, min, refl, sym, ◌∙◌, ap, subst, arith}
use Rattle.std.proofs.Math.Nat.{min-le_right}
use Rattle.ft_op.specs.declared.operations.ChannelOp.{ChannelOp}
use Rattle.ft_msg.specs.declared.faults.EditFault.{EditFault}
use Rattle.ft_msg.specs.declared.faults.ProcessFault.{ProcessFault}
use Rattle.ft_msg.specs.declared.messages.Body.TheVariants.{Nothing}
use Rattle.ft_msg.specs.declared.messages.Entry.{Entry}
use Rattle.ft_msg.specs.declared.views.Link.{Link}
use Rattle.ft_msg.specs.declared.views.Link.TheVariants.{Offline, Joining, Online}
use Rattle.ft_props.specs.Element.{ElementId}
use Rattle.ft_op.specs.Operation.{sub_operations}
use Rattle.ft_op.specs.Document.{Document}
use Rattle.ft_op.specs.Stages.{Stage}
use Rattle.ft_msg.specs.Acknowledgement.{ack_stages, after_own_message, renamed_edit}
use Rattle.ft_msg.specs.Agreed.{with_numbers}
use Rattle.ft_msg.specs.Client.{NaiveClient, PendingEdit, SentAs, after_edit, client_over, connect, drop_link, local_edit, local_sub_operations, noop, sent_as, stages_of, with_draft}
use Rattle.ft_msg.specs.ClientSteps.{ClientStep, Edits, Connects, Drops, Idles, Sends, Restarts, Takes, after_step, after_steps, is_none_pending}
use Rattle.ft_msg.specs.Process.{after_entry, after_foreign_message, come_online, is_op, is_own, is_own_join, process, process_fault}
use Rattle.ft_msg.specs.Reconnection.{regenerated_edit, resubmitted_edit, resubmitted_edits}
use Rattle.ft_laws_agreement.specs.Sequencing.{Each}
use Rattle.ft_laws_agreement.proofs.ClientsAgree.{refused-ok}
use Rattle.ft_laws_agreement.proofs.CountedEntries.{edited, steps-counted}
use Rattle.ft_laws_compaction.specs.Floors.{AreRising, HasRisingReferences, least_with_oldest, references}
use Rattle.ft_laws_compaction.proofs.FreeTombstones.{least_ref}
use Rattle.ft_laws_compaction.proofs.Runs.{process_from}

-- ---- the numbers after a step

-- what a step makes of them, from the client's number n to m: they stay; n comes behind them; the first goes; or all are m
pub data NextReferences (n m : ℕ) : List ℕ → List ℕ → Type 0 where
  as_before : {ms : List ℕ} → NextReferences n m ms ms
  one_more : {ms : List ℕ} → NextReferences n m ms (ms ++ (n ∷ []))
  one_less : {k : ℕ} {ms : List ℕ} → NextReferences n m (k ∷ ms) ms
  all_again : {ms ns : List ℕ} → Each (λ k. k ≡ m) ns → NextReferences n m ms ns

references-append : (edits : List PendingEdit) (edit : PendingEdit) → references (edits ++ (edit ∷ [])) ≡ references edits ++ (edit.ref_seq ∷ [])
references-append [] edit = refl
references-append (e ∷ edits) edit = ap (λ ms. e.ref_seq ∷ ms) (references-append edits edit)

references-renamed : (f : ElementId → ElementId) (edits : List PendingEdit) → references (map (renamed_edit f) edits) ≡ references edits
references-renamed f [] = refl
references-renamed f (e ∷ edits) = ap (λ ms. e.ref_seq ∷ ms) (references-renamed f edits)

references-again : (doc : Document) (conn i : ℕ) (edits : List PendingEdit) → Each (λ k. k ≡ doc.number) (references (resubmitted_edits doc conn i edits))
references-again doc conn i [] = tt
references-again doc conn i (edit ∷ edits) = step (regenerated_edit doc edit) (references-again doc conn i edits) (references-again doc conn (i + 1) edits)
  where
    step : (o : Option ChannelOp) → Each (λ k. k ≡ doc.number) (references (resubmitted_edits doc conn i edits))
        → Each (λ k. k ≡ doc.number) (references (resubmitted_edits doc conn (i + 1) edits))
        → Each (λ k. k ≡ doc.number)
        (references (elim o [ None ↦ resubmitted_edits doc conn i edits | Some op ↦ resubmitted_edit doc conn i edit op ∷ resubmitted_edits doc conn (i + 1) edits ]))
    step None now more = now
    step (Some op) now more = (refl, more)

-- a step from one client to another
abbrev Next : NaiveClient → NaiveClient → Type 0
Next x y = NextReferences x.doc.number y.doc.number (references x.pending) (references y.pending)

draft-pending : (sent : Option SentAs) (n : ℕ) (x : NaiveClient) → (with_draft sent n x).pending ≡ x.pending
draft-pending None n x = refl
draft-pending (Some sent) n x = refl

edit-next : (x y : NaiveClient) (op : ChannelOp) (r : Result (Document × List Stage) EditFault) → edited x op r ≡ Ok y → Next x y
edit-next x y op (Err fault) h = (cc)
edit-next x y op (Ok taken) h =
    let same : after_edit op taken.0 taken.1 x ≡ y = (cc) in
    let sent = sent_as x.link x.next_client_seq op in
    let edit : PendingEdit = record { stages = taken.1; ref_seq = x.doc.number; sent = sent } in
    let z : NaiveClient = record x { doc = taken.0; last_stage = x.last_stage + length taken.1; pending = x.pending ++ (edit ∷ []) } in
    let made : references (with_draft sent x.doc.number z).pending ≡ references x.pending ++ (x.doc.number ∷ []) =
    ap references (draft-pending sent x.doc.number z) ∙ references-append x.pending edit in
    subst (λ w. Next x w) same
    (subst (λ ms. NextReferences x.doc.number (after_edit op taken.0 taken.1 x).doc.number (references x.pending) ms) (sym made) one_more)

connect-next : (x y : NaiveClient) (conn : ℕ) (link : Link) → connect (record x { link = link }) conn ≡ Ok y → Next x y
connect-next x y conn Offline h =
    let same : record x { link = Joining conn; conns = x.conns ++ (conn ∷ []); next_client_seq = 1 } ≡ y = (cc) in
    subst (λ w. Next x w) same as_before
connect-next x y conn (Joining d) h = (cc)
connect-next x y conn (Online d) h = (cc)

dropped-next : (x y : NaiveClient) → record x { link = Offline; queue = [] } ≡ y → Next x y
dropped-next x y same = subst (λ w. Next x w) same as_before

drop-next : (x y : NaiveClient) (link : Link) → drop_link (record x { link = link }) ≡ Ok y → Next x y
drop-next x y Offline h = (cc)
drop-next x y (Joining d) h = dropped-next x y (cc)
drop-next x y (Online d) h = dropped-next x y (cc)

noop-next : (x y : NaiveClient) (link : Link) → noop (record x { link = link }) ≡ Ok y → Next x y
noop-next x y Offline h = (cc)
noop-next x y (Joining d) h = (cc)
noop-next x y (Online d) h =
    let same : record x {
      link = Online d;
      next_client_seq = x.next_client_seq + 1;
      queue = x.queue ++ (record { client_seq = x.next_client_seq; ref_seq = x.doc.number; body = Nothing } ∷ []);
    } ≡ y = (cc) in
    subst (λ w. Next x w) same as_before

restart-next : (x y : NaiveClient) (edits : List PendingEdit) → cond (is_none_pending edits) (Some (client_over x.doc)) None ≡ Some y → Next (record x { pending = edits }) y
restart-next x y (edit ∷ edits) h = (cc)
restart-next x y [] h =
    let same : client_over x.doc ≡ y = (cc) in
    subst (λ w. Next (record x { pending = [] }) w) same as_before

own-next : (x : NaiveClient) (entry : Entry) (edits : List PendingEdit)
    → Next (record x { pending = edits }) (after_own_message (record x { pending = edits }) entry)
own-next x entry [] = as_before
own-next x entry (edit ∷ edits) =
    let y = after_own_message (record x { pending = edit ∷ edits }) entry in
    let acked = ack_stages entry.msg.seq entry.origin (λ i. i) edit.stages x.doc in
    subst (λ ms. NextReferences x.doc.number y.doc.number (edit.ref_seq ∷ references edits) ms) (sym (references-renamed acked.1 edits)) one_less

entry-next : (x : NaiveClient) (entry : Entry) (b o : Bool) → Next x (cond b (come_online x entry) (cond o (after_own_message x entry) (after_foreign_message x entry)))
entry-next x entry true o = all_again (references-again (with_numbers entry x.doc) entry.origin 1 x.pending)
entry-next x entry false true = own-next x entry x.pending
entry-next x entry false false = as_before

process-next : (x y : NaiveClient) (entry : Entry) (fault : Option ProcessFault) → process_from x entry fault ≡ Ok y → Next x y
process-next x y entry (Some fault) h = (cc)
process-next x y entry None h =
    let same : after_entry x entry ≡ y = (cc) in
    subst (λ w. Next x w) same (entry-next x entry (is_own_join x.link entry.msg.kind entry.origin) (is_op entry.msg.body && is_own x entry))

pub references-next : (x y : NaiveClient) (step : ClientStep) → after_step x step ≡ Some y
    → NextReferences x.doc.number y.doc.number (references x.pending) (references y.pending)
references-next x y (Edits op) h =
    edit-next x y op (local_sub_operations x.doc (stages_of x) (x.last_stage + 1) (sub_operations op)) (refused-ok (local_edit x op) y h)
references-next x y (Connects conn) h = connect-next x y conn x.link (refused-ok (connect x conn) y h)
references-next x y Drops h = drop-next x y x.link (refused-ok (drop_link x) y h)
references-next x y Idles h = noop-next x y x.link (refused-ok (noop x) y h)
references-next x y Sends h =
    let same : record x { queue = drop 1 x.queue } ≡ y = (cc) in
    subst (λ w. Next x w) same as_before
references-next x y Restarts h = restart-next x y x.pending h
references-next x y (Takes entry) h = process-next x y entry (process_fault x entry) (refused-ok (process x entry) y h)

-- the number doesn't fall
pub number-next : (x y : NaiveClient) (step : ClientStep) → after_step x step ≡ Some y → x.doc.number ≤ y.doc.number
number-next x y step h = let e = steps-counted (step ∷ []) x y (ap (λ o. after_steps o []) h) in omega arith

-- ---- they rise

each-more : (n m : ℕ) → n ≤ m → (ms : List ℕ) → Each (λ k. k ≤ n) ms → Each (λ k. k ≤ m) ms
each-more n m l [] h = tt
each-more n m l (k ∷ ms) h = ((let b = h.0 in omega arith), each-more n m l ms h.1)

each-last : (R : ℕ → Type 0) (ms : List ℕ) (n : ℕ) → Each R ms → R n → Each R (ms ++ (n ∷ []))
each-last R [] n h r = (r, tt)
each-last R (m ∷ ms) n h r = (h.0, each-last R ms n h.1 r)

rising-last : (n : ℕ) (ms : List ℕ) → AreRising ms → Each (λ k. k ≤ n) ms → AreRising (ms ++ (n ∷ []))
rising-last n [] r h = (tt, tt)
rising-last n (m ∷ ms) r h = (each-last (λ k. m ≤ k) ms n r.0 h.0, rising-last n ms r.1 h.1)

each-equal : (m : ℕ) (R : ℕ → Type 0) → R m → (ns : List ℕ) → Each (λ k. k ≡ m) ns → Each R ns
each-equal m R r [] h = tt
each-equal m R r (n ∷ ns) h = (subst R (sym h.0) r, each-equal m R r ns h.1)

rising-equal : (m : ℕ) (ns : List ℕ) → Each (λ k. k ≡ m) ns → AreRising ns
rising-equal m [] h = tt
rising-equal m (n ∷ ns) h = (each-equal m (λ k. n ≤ k) (let e = h.0 in omega arith) ns h.1, rising-equal m ns h.1)

rising-next : (n m : ℕ) {ms ns : List ℕ} → NextReferences n m ms ns → n ≤ m → AreRising ms → Each (λ k. k ≤ n) ms → AreRising ns × Each (λ k. k ≤ m) ns
rising-next n m (as_before {ms = ms}) l r h = (r, each-more n m l ms h)
rising-next n m (one_more {ms = ms}) l r h = (rising-last n ms r h, each-last (λ k. k ≤ m) ms n (each-more n m l ms h) l)
rising-next n m (one_less {k = k} {ms = ms}) l r h = (r.1, each-more n m l ms h.1)
rising-next n m (all_again {ns = ns} e) l r h = (rising-equal m ns e, each-equal m (λ k. k ≤ m) (omega arith) ns e)

rising-step : (x y : NaiveClient) (step : ClientStep) → HasRisingReferences x → after_step x step ≡ Some y → HasRisingReferences y
rising-step x y step h e =
    let p = rising-next x.doc.number y.doc.number (references-next x y step e) (number-next x y step e) h.rise h.last in
    record { rise = p.0; last = p.1 }

then-rising : (steps : List ClientStep) (y : NaiveClient) (o : Option NaiveClient)
    → ((z : NaiveClient) → o ≡ Some z → after_steps (Some z) steps ≡ Some y → HasRisingReferences y) → after_steps o steps ≡ Some y → HasRisingReferences y
then-rising steps y None f h = (cc)
then-rising steps y (Some z) f h = f z refl h

pub steps-rising : (steps : List ClientStep) (x y : NaiveClient) → HasRisingReferences x → after_steps (Some x) steps ≡ Some y → HasRisingReferences y
steps-rising [] x y h e =
    let same : x ≡ y = (cc) in
    subst HasRisingReferences same h
steps-rising (step ∷ steps) x y h e = then-rising steps y (after_step x step) (λ z f g. steps-rising steps z y (rising-step x z step h f) g) e

-- so the oldest has the least
least-of : (m : ℕ) (edits : List PendingEdit) (n : ℕ) → n ≤ m → Each (λ k. m ≤ k) (references edits) → least_ref n edits ≡ n
least-of m [] n l h = refl
least-of m (e ∷ edits) n l h =
    let b = h.0 in
    let same : min n e.ref_seq ≡ n = omega arith in
    ap (λ k. least_ref k edits) same ∙ least-of m edits n l h.1

pub oldest-least : (n : ℕ) (edits : List PendingEdit) → AreRising (references edits) → least_ref n edits ≡ least_with_oldest n edits
oldest-least n [] r = refl
oldest-least n (e ∷ edits) r = least-of e.ref_seq edits (min n e.ref_seq) (min-le_right n e.ref_seq) r.0
