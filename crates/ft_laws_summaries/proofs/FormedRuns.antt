-- The steps of a client keep what a summary of it needs: what it begins with has it, and each message that it takes may come next.
use Rattle.std.proofs.Common.{◌≡◌, ℕ, ◌+◌, ◌≤◌, max, Bool, true, false, cond, not, ◌&&◌, nat_eq, List, [], ◌∷◌, ◌++◌, drop, length, Option, Some, None, Ok, refl, sym, ◌∙◌, ap, subst, arith}
use Rattle.std.specs.List.{list_all}
use Rattle.std.proofs.lemmas.Bool.Decides.{nat_tests}
use Rattle.ft_base.proofs.Booleans.{both}
use Rattle.ft_op.specs.declared.operations.ChannelOp.{ChannelOp}
use Rattle.ft_op.specs.Document.{Document, empty, sequenced_part}
use Rattle.ft_sumdoc.specs.declared.summary.SumDoc.{SumDoc}
use Rattle.ft_sumdoc.specs.Valid.{IsValidSummary}
use Rattle.ft_msg.specs.declared.faults.ProcessFault.{ProcessFault}
use Rattle.ft_msg.specs.declared.faults.ProcessFault.TheVariants.{OutOfOrder, NotSent}
use Rattle.ft_msg.specs.declared.messages.Entry.{Entry}
use Rattle.ft_msg.specs.Agreed.{take_entries}
use Rattle.ft_msg.specs.Client.{NaiveClient, client_over, connect, drop_link, local_edit, noop}
use Rattle.ft_msg.specs.ClientSteps.{ClientStep, Connects, Drops, Edits, Idles, Restarts, Sends, Takes, after_step, after_steps, has_fitting_body, is_without_edits, taken_entries, unless_refused}
use Rattle.ft_msg.specs.Process.{is_oldest, is_op, is_op_kind, is_own, numbers_fault, process, process_fault}
use Rattle.ft_msg.specs.Reached.{IsReached, IsStart, from_nothing as reached_nothing, from_summary as reached_summary}
use Rattle.ft_msg.specs.Summary.{doc_of}
use Rattle.ft_msg.specs.WellFormed.{IsWellFormedMessage}
use Rattle.ft_msg.proofs.ReachedSteps.{after-one, well-formed-fits}
use Rattle.ft_laws_agreement.specs.Sequencing.{Each}
use Rattle.ft_laws_agreement.specs.Starts.{IsRunFrom, IsSoundRun}
use Rattle.ft_laws_agreement.proofs.ClientsAgree.{idle-clients-agree-from, refused-ok}
use Rattle.ft_laws_agreement.proofs.SummaryStarts.{start-sound}
use Rattle.ft_laws_compaction.proofs.Runs.{entry-numbers, process_from, run-next, run-sequenced}
use Rattle.ft_laws_compaction.proofs.TrimmedStarts.{then-from}
use Rattle.ft_laws_summaries.specs.Runs.{IsFormedEntry, IsFormedRun, IsStartWithin, from_nothing, from_summary}
use Rattle.ft_laws_summaries.proofs.Lists.{each-weaker}
use Rattle.ft_laws_summaries.proofs.ValidDocuments.{AreNext, IsFrom, IsMadeBy, IsNext, entries-made}
use Rattle.ft_laws_summaries.proofs.SummaryDocuments.{starts-made}

-- ---- such a client is one of which promises speak

start-reached : (n : ℕ) {start : Document} → IsStartWithin n start → IsStart start
start-reached n from_nothing = reached_nothing
start-reached n (from_summary h within) = reached_summary h

entries-fit : (n : ℕ) (es : List Entry) → Each (IsFormedEntry n) es → list_all has_fitting_body es ≡ true
entries-fit n [] h = refl
entries-fit n (e ∷ es) h = rw (well-formed-fits e h.0.message, entries-fit n es h.1) refl

pub formed-reached : (n : ℕ) (x : NaiveClient) → IsFormedRun n x → IsReached x
formed-reached n x r = record {
  start = r.start;
  starts = start-reached n r.starts;
  steps = r.steps;
  made = r.made;
  bodies = entries-fit n (taken_entries r.steps) r.entries;
}

-- ---- with more connections, and after one more step

start-wider : (m n : ℕ) {start : Document} → m ≤ n → IsStartWithin m start → IsStartWithin n start
start-wider m n l from_nothing = from_nothing
start-wider m n l (from_summary {sum} h within) = from_summary h (omega (arith, l, within))

entry-wider : (m n : ℕ) (e : Entry) → m ≤ n → IsFormedEntry m e → IsFormedEntry n e
entry-wider m n e l h = let within = h.within in record { message = h.message; sender = h.sender; within = omega (arith, l, within) }

pub formed-wider : (m n : ℕ) (x : NaiveClient) → m ≤ n → IsFormedRun m x → IsFormedRun n x
formed-wider m n x l r = record {
  start = r.start;
  starts = start-wider m n l r.starts;
  steps = r.steps;
  made = r.made;
  entries = each-weaker (IsFormedEntry m) (IsFormedEntry n) (λ e h. entry-wider m n e l h) (taken_entries r.steps) r.entries;
}

entries-one : (P : Entry → Type 0) (steps : List ClientStep) (step : ClientStep) → Each P (taken_entries steps) → Each P (taken_entries (step ∷ []))
    → Each P (taken_entries (steps ++ (step ∷ [])))
entries-one P [] step h k = k
entries-one P (Takes entry ∷ steps) step h k = (h.0, entries-one P steps step h.1 k)
entries-one P (Edits op ∷ steps) step h k = entries-one P steps step h k
entries-one P (Connects conn ∷ steps) step h k = entries-one P steps step h k
entries-one P (Drops ∷ steps) step h k = entries-one P steps step h k
entries-one P (Idles ∷ steps) step h k = entries-one P steps step h k
entries-one P (Sends ∷ steps) step h k = entries-one P steps step h k
entries-one P (Restarts ∷ steps) step h k = entries-one P steps step h k

pub formed-after : (n : ℕ) (x y : NaiveClient) (step : ClientStep) → IsFormedRun n x → after_step x step ≡ Some y → Each (IsFormedEntry n) (taken_entries (step ∷ []))
    → IsFormedRun n y
formed-after n x y step r h k = record {
  start = r.start;
  starts = r.starts;
  steps = r.steps ++ (step ∷ []);
  made = after-one r.steps (Some (client_over r.start)) step x y r.made h;
  entries = entries-one (IsFormedEntry n) r.steps step r.entries k;
}

pub formed-empty : IsFormedRun 0 (client_over empty)
formed-empty = record { start = empty; starts = from_nothing; steps = []; made = refl; entries = tt }

pub formed-summary : (sum : SumDoc) → IsValidSummary sum → IsFormedRun (length sum.conns) (client_over (doc_of sum))
formed-summary sum h = record { start = doc_of sum; starts = from_summary h (omega arith); steps = []; made = refl; entries = tt }

pub formed-edit : (n : ℕ) (x y : NaiveClient) (op : ChannelOp) → IsFormedRun n x → local_edit x op ≡ Ok y → IsFormedRun n y
formed-edit n x y op r h = formed-after n x y (Edits op) r (ap unless_refused h) tt

pub formed-connect : (n : ℕ) (x y : NaiveClient) (conn : ℕ) → IsFormedRun n x → connect x conn ≡ Ok y → IsFormedRun n y
formed-connect n x y conn r h = formed-after n x y (Connects conn) r (ap unless_refused h) tt

pub formed-drop : (n : ℕ) (x y : NaiveClient) → IsFormedRun n x → drop_link x ≡ Ok y → IsFormedRun n y
formed-drop n x y r h = formed-after n x y Drops r (ap unless_refused h) tt

pub formed-noop : (n : ℕ) (x y : NaiveClient) → IsFormedRun n x → noop x ≡ Ok y → IsFormedRun n y
formed-noop n x y r h = formed-after n x y Idles r (ap unless_refused h) tt

pub formed-send : (n : ℕ) (x : NaiveClient) → IsFormedRun n x → IsFormedRun n (record x { queue = drop 1 x.queue })
formed-send n x r = formed-after n x (record x { queue = drop 1 x.queue }) Sends r refl tt

pub formed-restart : (n : ℕ) (x : NaiveClient) → IsFormedRun n x → is_without_edits x ≡ true → IsFormedRun n (client_over x.doc)
formed-restart n x r none = formed-after n x (client_over x.doc) Restarts r (ap (λ b. cond b (Some (client_over x.doc)) None) none) tt

-- a message leads to the greater one of its sender's number and that of the connections before it
pub formed-process : (n : ℕ) (x y : NaiveClient) (entry : Entry) → IsFormedRun n x → IsWellFormedMessage entry.msg → (is_op entry.msg.body ≡ true → 1 ≤ entry.origin)
    → process x entry ≡ Ok y → IsFormedRun (max n entry.origin) y
formed-process n x y entry r w sender h =
    formed-after (max n entry.origin) x y (Takes entry) (formed-wider n (max n entry.origin) x (omega arith) r) (ap unless_refused h)
    (record { message = w; sender = sender; within = omega arith }, tt)

-- ---- what the client took comes next, message by message

-- the number of an entry that isn't refused
right-number : (x : NaiveClient) (e : Entry) → process_fault x e ≡ None → e.msg.seq ≡ x.doc.number + 1
right-number x e h = by (nat_eq e.msg.seq (x.doc.number + 1)) refl h
  where
    by : (b : Bool) → nat_eq e.msg.seq (x.doc.number + 1) ≡ b
        → cond (not b) (Some (OutOfOrder (x.doc.number + 1) e.msg.seq)) (elim (numbers_fault x e) [
          | Some fault ↦ Some fault
          | None ↦ cond (is_op_kind e.msg.kind && is_own x e && not (is_oldest e x.pending)) (Some NotSent) None
        ]) ≡ None → e.msg.seq ≡ x.doc.number + 1
    by true p g = grind (arith, nat_tests)
    by false p g = (cc)

entry-next : (x z : NaiveClient) (e : Entry) (o : Option ProcessFault) → process_fault x e ≡ o → process_from x e o ≡ Ok z → IsNext x.doc.number x.doc.minimum e
entry-next x z e None p g = let n = entry-numbers x e p in record { seq = right-number x e p; later = n.rises; below = n.below }
entry-next x z e (Some fault) p g = (cc)

-- a step without an entry
quiet : (before steps : List ClientStep) (step : ClientStep) (x y : NaiveClient) (run : IsSoundRun before x) → taken_entries (step ∷ []) ≡ []
    → ((z : NaiveClient) → IsSoundRun (before ++ (step ∷ [])) z → after_steps (Some z) steps ≡ Some y → AreNext z.doc.number z.doc.minimum (taken_entries steps))
    → after_steps (after_step x step) steps ≡ Some y → AreNext x.doc.number x.doc.minimum (taken_entries steps)
quiet before steps step x y run none rest h =
    then-from steps y (after_step x step) (AreNext x.doc.number x.doc.minimum (taken_entries steps))
    (λ z e g.
    let next = run-next before step x z run e (ap (list_all has_fitting_body) none) in
    let same : sequenced_part z.doc ≡ sequenced_part x.doc = run-sequenced before step x z run next ∙ ap (take_entries (sequenced_part x.doc)) none in
    subst (λ (d : Document). AreNext d.number d.minimum (taken_entries steps)) same (rest z (record { start = run.start; run = next }) g)) h

-- and one with an entry
taking : (before steps : List ClientStep) (entry : Entry) (x y : NaiveClient) (run : IsSoundRun before x) → has_fitting_body entry ≡ true
    → ((z : NaiveClient) → IsSoundRun (before ++ (Takes entry ∷ [])) z → after_steps (Some z) steps ≡ Some y → AreNext z.doc.number z.doc.minimum (taken_entries steps))
    → after_steps (after_step x (Takes entry)) steps ≡ Some y → AreNext x.doc.number x.doc.minimum (entry ∷ taken_entries steps)
taking before steps entry x y run fits rest h =
    then-from steps y (after_step x (Takes entry)) (AreNext x.doc.number x.doc.minimum (entry ∷ taken_entries steps))
    (λ z e g.
    let n = entry-next x z entry (process_fault x entry) refl (refused-ok (process x entry) z e) in
    let next = run-next before (Takes entry) x z run e (rw fits refl) in
    let after = subst (λ (d : Document). AreNext d.number d.minimum (taken_entries steps)) (run-sequenced before (Takes entry) x z run next)
    (rest z (record { start = run.start; run = next }) g) in
    (n, subst (λ i. AreNext i entry.msg.min (taken_entries steps)) n.seq after)) h

entries-next : (before steps : List ClientStep) (x y : NaiveClient) → IsSoundRun before x → after_steps (Some x) steps ≡ Some y
    → list_all has_fitting_body (taken_entries steps) ≡ true → AreNext x.doc.number x.doc.minimum (taken_entries steps)
entries-next before [] x y run h fits = tt
entries-next before (Edits op ∷ steps) x y run h fits = quiet before steps (Edits op) x y run refl (λ z r g. entries-next (before ++ (Edits op ∷ [])) steps z y r g fits) h
entries-next before (Connects conn ∷ steps) x y run h fits = quiet before steps (Connects conn) x y run refl
    (λ z r g. entries-next (before ++ (Connects conn ∷ [])) steps z y r g fits) h
entries-next before (Drops ∷ steps) x y run h fits = quiet before steps Drops x y run refl (λ z r g. entries-next (before ++ (Drops ∷ [])) steps z y r g fits) h
entries-next before (Idles ∷ steps) x y run h fits = quiet before steps Idles x y run refl (λ z r g. entries-next (before ++ (Idles ∷ [])) steps z y r g fits) h
entries-next before (Sends ∷ steps) x y run h fits = quiet before steps Sends x y run refl (λ z r g. entries-next (before ++ (Sends ∷ [])) steps z y r g fits) h
entries-next before (Restarts ∷ steps) x y run h fits = quiet before steps Restarts x y run refl (λ z r g. entries-next (before ++ (Restarts ∷ [])) steps z y r g fits) h
entries-next before (Takes entry ∷ steps) x y run h fits =
    let f = both (has_fitting_body entry) (list_all has_fitting_body (taken_entries steps)) fits in
    taking before steps entry x y run f.0 (λ z r g. entries-next (before ++ (Takes entry ∷ [])) steps z y r g f.1) h

-- the document of such a client with nothing pending
pub formed-made : (n : ℕ) (x : NaiveClient) → IsFormedRun n x → is_without_edits x ≡ true → IsMadeBy n x.doc
formed-made n x r none =
    let es = taken_entries r.steps in
    let run : IsRunFrom r.start r.steps x = record { sound = start-sound (start-reached n r.starts); made = r.made; bodies = entries-fit n es r.entries } in
    let begun : IsSoundRun [] (client_over r.start) = record { start = r.start; run = record { sound = run.sound; made = refl; bodies = refl } } in
    let next = entries-next [] r.steps (client_over r.start) x begun run.made run.bodies in
    subst (λ (d : Document). IsMadeBy n d) (sym (idle-clients-agree-from r.start r.steps x run none))
    (entries-made n es r.start next
    (each-weaker (IsFormedEntry n) (IsFrom n) (λ e h. record { body = h.message.body; known = h.sender; within = h.within }) es r.entries)
    (starts-made n r.start r.starts))
