-- A client that starts from a summary of another goes on as one that starts from its document.
use Rattle.std.proofs.Common.{◌≡◌, Bool, true, false, cond, List, [], ◌∷◌, ◌++◌, Option, Some, None, Result, drop, map, refl, sym, ◌∙◌, ap, subst}
use Rattle.std.specs.List.{list_all}
use Rattle.std.proofs.lemmas.List.Folds.{list_all-append}
use Rattle.ft_base.proofs.Booleans.{both}
use Rattle.ft_sumdoc.specs.declared.summary.SumDoc.{SumDoc}
use Rattle.ft_msg.specs.Client.{NaiveClient, PendingEdit, client_over}
use Rattle.ft_msg.specs.ClientSteps.{ClientStep, Connects, Drops, Edits, Idles, Restarts, Sends, Takes, after_step, after_steps, has_fitting_body, is_none_pending, is_without_edits, taken_entries, unless_refused}
use Rattle.ft_msg.specs.Compacted.{IsCompacted}
use Rattle.ft_msg.specs.Content.{content}
use Rattle.ft_msg.specs.Indexed.{IndexedClient, IndexedDocument, IndexedEdit, indexed_edit}
use Rattle.ft_msg.specs.Summary.{GivesDocument, doc_of, trim}
use Rattle.ft_sumdoc.specs.Valid.{IsValidSummary}
use Rattle.ft_laws_agreement.specs.Starts.{IsSoundRun}
use Rattle.ft_laws_agreement.proofs.SummaryStarts.{summary-sound}
use Rattle.ft_laws_compaction.proofs.AllSteps.{step-alike}
use Rattle.ft_laws_compaction.proofs.Compacting.{starts-from-summary}
use Rattle.ft_laws_compaction.proofs.Runs.{run-facts, run-next, taken-append}
use Rattle.ft_laws_compaction.proofs.SameContent.{show-alike}
use Rattle.ft_laws_compaction.proofs.TrimmedStarts.{both-take, then-from}
use Rattle.ft_laws_names.specs.Renaming.{AnswersUpToNames, DifferInNames, refused, taken}
use Rattle.ft_laws_names.specs.WellNamed.{IsWellNamed}
use Rattle.ft_laws_names.proofs.KeptNames.{kept-named}
use Rattle.ft_laws_names.proofs.NamedStarts.{start-named}
use Rattle.ft_laws_names.proofs.NamedSteps.{connects-of, drops-of, edits-of, entries-of, idles-of, restarts-of, run-named, sends-of, views-of}

-- ---- one step of two clients that differ in names alone

-- the first takes a step to a client that differs from this one in names alone
abbrev TakesBeside : Option NaiveClient → NaiveClient → Type 0
TakesBeside o q = (p : NaiveClient) × ((o ≡ Some p) × DifferInNames p q)

module _ (E : Type 0) where
  beside-answer : {r s : Result NaiveClient E} (y : NaiveClient) → AnswersUpToNames E r s → unless_refused s ≡ Some y → TakesBeside (unless_refused r) y
  beside-answer y (refused fault) e = (cc)
  beside-answer y (taken p q d) e =
      let same : q ≡ y = (cc) in
      (p, (refl, subst (DifferInNames p) same d))

none-mapped : (f g : PendingEdit → IndexedEdit) (es fs : List PendingEdit) → map f es ≡ map g fs → is_none_pending fs ≡ true → is_none_pending es ≡ true
none-mapped f g [] fs e h = refl
none-mapped f g (a ∷ es) [] e h = (cc)
none-mapped f g (a ∷ es) (b ∷ fs) e h = (cc)

restart-beside : (p q y : NaiveClient) → DifferInNames p q → (b : Bool) → is_without_edits q ≡ b → cond b (Some (client_over q.doc)) None ≡ Some y
    → TakesBeside (after_step p Restarts) y
restart-beside p q y d false f e = (cc)
restart-beside p q y d true f e =
    let none : is_without_edits p ≡ true = none-mapped (indexed_edit p.doc) (indexed_edit q.doc) p.pending q.pending (ap (λ (c : IndexedClient). c.pending) d.same) f in
    let same : client_over q.doc ≡ y = (cc) in
    (client_over p.doc, (ap (λ b. cond b (Some (client_over p.doc)) None) none, subst (DifferInNames (client_over p.doc)) same (restarts-of p q d none)))

step-beside : (p q y : NaiveClient) (step : ClientStep) → DifferInNames p q → after_step q step ≡ Some y → TakesBeside (after_step p step) y
step-beside p q y (Edits op) d e = beside-answer _ y (edits-of p q op d) e
step-beside p q y (Connects conn) d e = beside-answer _ y (connects-of p q conn d) e
step-beside p q y Drops d e = beside-answer _ y (drops-of p q d) e
step-beside p q y Idles d e = beside-answer _ y (idles-of p q d) e
step-beside p q y (Takes entry) d e = beside-answer _ y (entries-of p q entry d) e
step-beside p q y Restarts d e = restart-beside p q y d (is_without_edits q) refl e
step-beside p q y Sends d e =
    let same : record q { queue = drop 1 q.queue } ≡ y = (cc) in
    (record p { queue = drop 1 p.queue }, (refl, subst (DifferInNames (record p { queue = drop 1 p.queue })) same (sends-of p q d)))

-- ---- all steps

abbrev ShowsSoFrom : NaiveClient → List ClientStep → NaiveClient → Type 0
ShowsSoFrom p further z = (v : NaiveClient) × (after_steps (Some p) further ≡ Some v) × (content v ≡ content z)

-- p differs in names alone from w, which keeps the whole client x
goes-on : (before further : List ClientStep) (p w x z : NaiveClient) → IsSoundRun before x → DifferInNames p w → IsCompacted w x → after_steps (Some x) further
    ≡ Some z → list_all has_fitting_body (taken_entries further) ≡ true → ShowsSoFrom p further z
goes-on before [] p w x z run d k h fits =
    let same : x ≡ z = (cc) in
    let here : content p ≡ content w = (views-of p w d).content in
    let kept : content w ≡ content x = (show-alike w x (run-facts before x run) k).content in
    (p, refl, here ∙ kept ∙ ap content same)
goes-on before (step ∷ further) p w x z run d k h fits =
    then-from further z (after_step x step) (ShowsSoFrom p (step ∷ further) z)
    (λ y e g.
    let f = both (list_all has_fitting_body (taken_entries (step ∷ []))) (list_all has_fitting_body (taken_entries further))
    (sym (list_all-append has_fitting_body (taken_entries (step ∷ [])) (taken_entries further)) ∙ ap (list_all has_fitting_body) (sym (taken-append (step ∷ []) further)) ∙ fits) in
    let t = both-take y (step-alike before x w step run k f.0) e in
    let b = step-beside p w t.0 step d t.1.0 in
    let rest = goes-on (before ++ (step ∷ [])) further b.0 t.0 y z (record { start = run.start; run = run-next before step x y run e f.0 }) b.1.1 t.1.1 g f.1 in
    (rest.0, ap (λ o. after_steps o further) b.1.0 ∙ rest.1, rest.2)) h

pub summary-start-shows : (steps : List ClientStep) (x : NaiveClient) → IsSoundRun steps x → is_without_edits x ≡ true → (sum : SumDoc) → IsValidSummary sum
    → GivesDocument sum x.doc
    → (further : List ClientStep) (z : NaiveClient) → after_steps (Some (client_over x.doc)) further ≡ Some z
    → list_all has_fitting_body (taken_entries further) ≡ true → ShowsSoFrom (client_over (doc_of sum)) further z
summary-start-shows steps x run none sum valid gives further z h fits =
    let next = run-next steps Restarts x (client_over x.doc) run (ap (λ b. cond b (Some (client_over x.doc)) None) none) refl in
    let keeps = starts-from-summary steps x run none in
    let whole : IsWellNamed (client_over x.doc) = run-named run.start (steps ++ (Restarts ∷ [])) (client_over x.doc) next in
    let differ : DifferInNames (client_over (doc_of sum)) (client_over (trim x.doc)) = record {
      left = start-named (doc_of sum) (summary-sound sum valid);
      right = kept-named (client_over x.doc) (client_over (trim x.doc)) whole keeps;
      same = ap over gives;
    } in
    goes-on (steps ++ (Restarts ∷ [])) further (client_over (doc_of sum)) (client_over (trim x.doc)) (client_over x.doc) z
    (record { start = run.start; run = next }) differ keeps h fits
  where
    over : IndexedDocument → IndexedClient
    over d = record { doc = d; link = (client_over (doc_of sum)).link; conns = []; last_stage = 0; next_client_seq = 1; queue = []; pending = [] }
