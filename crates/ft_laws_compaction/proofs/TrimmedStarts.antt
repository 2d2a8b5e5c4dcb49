-- Clients that start from the trimmed document of another.
use Rattle.std.proofs.Common.{◌≡◌, true, cond, List, [], ◌∷◌, ◌++◌, Option, Some, None, Ok, refl, sym, ◌∙◌, ap, subst}
use Rattle.std.specs.List.{list_all}
use Rattle.std.proofs.lemmas.List.Folds.{list_all-append}
use Rattle.ft_base.proofs.Booleans.{both}
use Rattle.ft_msg.specs.declared.faults.ProcessFault.{ProcessFault}
use Rattle.ft_msg.specs.declared.messages.Entry.{Entry}
use Rattle.ft_op.specs.Document.{Document, sequenced_part}
use Rattle.ft_msg.specs.Agreed.{take_entries, take_entry}
use Rattle.ft_msg.specs.Client.{NaiveClient, client_over}
use Rattle.ft_msg.specs.ClientSteps.{ClientStep, Connects, Drops, Edits, Idles, Restarts, Sends, Takes, after_step, after_steps, has_fitting_body, is_without_edits, taken_entries}
use Rattle.ft_msg.specs.Content.{content, shown}
use Rattle.ft_msg.specs.Process.{is_op_kind, process, process_fault}
use Rattle.ft_msg.specs.Summary.{trim}
use Rattle.ft_laws_agreement.specs.Starts.{IsRunFrom, IsSoundRun}
use Rattle.ft_laws_agreement.specs.Trimming.{AreFrom}
use Rattle.ft_laws_agreement.proofs.ClientsAgree.{op-kind, refused-ok}
use Rattle.ft_laws_agreement.proofs.ConsistentDocument.{take_entries-consistent}
use Rattle.ft_laws_agreement.proofs.TrimmedFromNow.{trim-shows}
use Rattle.ft_laws_compaction.specs.Keeping.{StepsAlike, each_takes, none_takes}
use Rattle.ft_laws_compaction.proofs.AllSteps.{step-alike}
use Rattle.ft_laws_compaction.proofs.Compacting.{starts-from-summary}
use Rattle.ft_laws_compaction.proofs.Runs.{entry-numbers, process_from, run-facts, run-next, run-sequenced, taken-append}
use Rattle.ft_laws_compaction.proofs.SameContent.{show-alike}
use Rattle.ft_msg.specs.Compacted.{IsCompacted}

-- ---- the minimums of the entries that a run takes

-- after a step its minimum is that of the entries which the step took
minimum-after : (steps : List ClientStep) (step : ClientStep) (x z : NaiveClient) (run : IsSoundRun steps x) → IsRunFrom run.start (steps ++ (step ∷ [])) z
    → (take_entries (sequenced_part x.doc) (taken_entries (step ∷ []))).minimum ≡ z.doc.minimum
minimum-after steps step x z run next = sym (ap (λ (d : Document). d.minimum) (run-sequenced steps step x z run next))

passed-of : (x z : NaiveClient) (entry : Entry) (o : Option ProcessFault) → process_fault x entry ≡ o → process_from x entry o ≡ Ok z → process_fault x entry ≡ None
passed-of x z entry None e h = e
passed-of x z entry (Some fault) e h = (cc)

pub then-from : (steps : List ClientStep) (y : NaiveClient) (o : Option NaiveClient) (P : Type 0)
    → ((z : NaiveClient) → o ≡ Some z → after_steps (Some z) steps ≡ Some y → P) → after_steps o steps ≡ Some y → P
then-from steps y None P f h = (cc)
then-from steps y (Some z) P f h = f z refl h

-- a step without an entry
quiet : (before steps : List ClientStep) (step : ClientStep) (x y : NaiveClient) (run : IsSoundRun before x) → taken_entries (step ∷ []) ≡ []
    → ((z : NaiveClient) → IsSoundRun (before ++ (step ∷ [])) z → after_steps (Some z) steps ≡ Some y → AreFrom z.doc.minimum (taken_entries steps))
    → after_steps (after_step x step) steps ≡ Some y
    → AreFrom x.doc.minimum (taken_entries steps)
quiet before steps step x y run none rest h =
    then-from steps y (after_step x step) (AreFrom x.doc.minimum (taken_entries steps))
    (λ z e g.
    let next = run-next before step x z run e (ap (list_all has_fitting_body) none) in
    let same : x.doc.minimum ≡ z.doc.minimum = ap (λ es. (take_entries (sequenced_part x.doc) es).minimum) (sym none) ∙ minimum-after before step x z run next in
    subst (λ m. AreFrom m (taken_entries steps)) (sym same) (rest z (record { start = run.start; run = next }) g)) h

-- a step that takes an entry
taking : (before steps : List ClientStep) (entry : Entry) (x y : NaiveClient) (run : IsSoundRun before x) → has_fitting_body entry ≡ true
    → ((z : NaiveClient) → IsSoundRun (before ++ (Takes entry ∷ [])) z → after_steps (Some z) steps ≡ Some y → AreFrom z.doc.minimum (taken_entries steps))
    → after_steps (after_step x (Takes entry)) steps ≡ Some y
    → AreFrom x.doc.minimum (entry ∷ taken_entries steps)
taking before steps entry x y run fits rest h =
    then-from steps y (after_step x (Takes entry)) (AreFrom x.doc.minimum (entry ∷ taken_entries steps))
    (λ z e g.
    let n = entry-numbers x entry (passed-of x z entry (process_fault x entry) refl (refused-ok (process x entry) z e)) in
    let next = run-next before (Takes entry) x z run e (rw fits refl) in (
      n.rises,
      (λ o. n.ref (op-kind (is_op_kind entry.msg.kind) entry.msg.body fits o)),
      subst (λ m. AreFrom m (taken_entries steps))
          (sym (minimum-after before (Takes entry) x z run next)) (rest z (record { start = run.start; run = next }) g),
    )) h

pub entries-from : (before steps : List ClientStep) (x y : NaiveClient) → IsSoundRun before x → after_steps (Some x) steps ≡ Some y
    → list_all has_fitting_body (taken_entries steps) ≡ true → AreFrom x.doc.minimum (taken_entries steps)
entries-from before [] x y run h fits = tt
entries-from before (Edits op ∷ steps) x y run h fits = quiet before steps (Edits op) x y run refl (λ z r g. entries-from (before ++ (Edits op ∷ [])) steps z y r g fits) h
entries-from before (Connects conn ∷ steps) x y run h fits = quiet before steps (Connects conn) x y run refl
    (λ z r g. entries-from (before ++ (Connects conn ∷ [])) steps z y r g fits) h
entries-from before (Drops ∷ steps) x y run h fits = quiet before steps Drops x y run refl (λ z r g. entries-from (before ++ (Drops ∷ [])) steps z y r g fits) h
entries-from before (Idles ∷ steps) x y run h fits = quiet before steps Idles x y run refl (λ z r g. entries-from (before ++ (Idles ∷ [])) steps z y r g fits) h
entries-from before (Sends ∷ steps) x y run h fits = quiet before steps Sends x y run refl (λ z r g. entries-from (before ++ (Sends ∷ [])) steps z y r g fits) h
entries-from before (Restarts ∷ steps) x y run h fits = quiet before steps Restarts x y run refl (λ z r g. entries-from (before ++ (Restarts ∷ [])) steps z y r g fits) h
entries-from before (Takes entry ∷ steps) x y run h fits =
    let f = both (has_fitting_body entry) (list_all has_fitting_body (taken_entries steps)) fits in
    taking before steps entry x y run f.0 (λ z r g. entries-from (before ++ (Takes entry ∷ [])) steps z y r g f.1) h

from-later : (doc : Document) (first further : List Entry) → AreFrom doc.minimum (first ++ further) → AreFrom (take_entries doc first).minimum further
from-later doc [] further h = h
from-later doc (entry ∷ first) further h = from-later (take_entry doc entry) first further h.2

entries-append : (doc : Document) (es fs : List Entry) → take_entries doc (es ++ fs) ≡ take_entries (take_entries doc es) fs
entries-append doc [] fs = refl
entries-append doc (e ∷ es) fs = entries-append (take_entry doc e) es fs

pub trimmed-run-shows : (start : Document) (steps : List ClientStep) (x : NaiveClient) (first further : List Entry) → IsRunFrom start steps x
    → taken_entries steps ≡ first ++ further
    → shown (take_entries (trim (take_entries start first)) further) ≡ shown (take_entries start (taken_entries steps))
trimmed-run-shows start steps x first further run e =
    let begun : IsSoundRun [] (client_over start) = record { start = start; run = record { sound = run.sound; made = refl; bodies = refl } } in
    let from : AreFrom start.minimum (first ++ further) = subst (AreFrom start.minimum) e (entries-from [] steps (client_over start) x begun run.made run.bodies) in
    trim-shows (take_entries start first) further (take_entries-consistent start first run.sound.consistent) (from-later start first further from)
    ∙ ap shown (sym (entries-append start first further)) ∙ ap (λ es. shown (take_entries start es)) (sym e)

-- ---- a client that starts from the trimmed document

abbrev ShowsSoFrom : NaiveClient → List ClientStep → NaiveClient → Type 0
ShowsSoFrom w further z = (v : NaiveClient) × (after_steps (Some w) further ≡ Some v) × (content v ≡ content z)

-- both take the next step
pub both-take : {o p : Option NaiveClient} (z : NaiveClient) → StepsAlike o p → p ≡ Some z → (w : NaiveClient) × ((o ≡ Some w) × IsCompacted w z)
both-take z none_takes e = (cc)
both-take z (each_takes kept x k) e =
    let same : x ≡ z = (cc) in
    (kept, (refl, subst (IsCompacted kept) same k))

goes-on : (before further : List ClientStep) (w x z : NaiveClient) → IsSoundRun before x → IsCompacted w x → after_steps (Some x) further ≡ Some z
    → list_all has_fitting_body (taken_entries further) ≡ true → ShowsSoFrom w further z
goes-on before [] w x z run k h fits =
    let same : x ≡ z = (cc) in
    (w, refl, (show-alike w x (run-facts before x run) k).content ∙ ap content same)
goes-on before (step ∷ further) w x z run k h fits =
    then-from further z (after_step x step) (ShowsSoFrom w (step ∷ further) z)
    (λ y e g.
    let f = both (list_all has_fitting_body (taken_entries (step ∷ []))) (list_all has_fitting_body (taken_entries further))
    (sym (list_all-append has_fitting_body (taken_entries (step ∷ [])) (taken_entries further)) ∙ ap (list_all has_fitting_body) (sym (taken-append (step ∷ []) further)) ∙ fits) in
    let t = both-take y (step-alike before x w step run k f.0) e in
    let rest = goes-on (before ++ (step ∷ [])) further t.0 y z (record { start = run.start; run = run-next before step x y run e f.0 }) t.1.1 g f.1 in
    (rest.0, ap (λ o. after_steps o further) t.1.0 ∙ rest.1, rest.2)) h

pub trimmed-start-shows : (steps : List ClientStep) (x : NaiveClient) → IsSoundRun steps x → is_without_edits x ≡ true
    → (further : List ClientStep) (z : NaiveClient) → after_steps (Some (client_over x.doc)) further ≡ Some z
    → list_all has_fitting_body (taken_entries further) ≡ true → ShowsSoFrom (client_over (trim x.doc)) further z
trimmed-start-shows steps x run none further z h fits =
    let next = run-next steps Restarts x (client_over x.doc) run (ap (λ b. cond b (Some (client_over x.doc)) None) none) refl in
    goes-on (steps ++ (Restarts ∷ [])) further (client_over (trim x.doc)) (client_over x.doc) z (record { start = run.start; run = next })
    (starts-from-summary steps x run none) h fits
