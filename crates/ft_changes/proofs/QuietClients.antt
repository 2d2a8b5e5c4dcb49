-- A client without pending stages: nothing is pending in its text, and its document is that of the messages.
use Rattle.std.proofs.Common.{◌≡◌, ℕ, true, not, ◌&&◌, List, [], ◌∷◌, ◌++◌, Option, Some, None, refl, sym, ◌∙◌, ap, subst}
use Rattle.std.specs.List.{list_all, list_any}
use Rattle.ft_base.specs.declared.stamps.Stamp.{Stamp}
use Rattle.ft_base.specs.declared.stamps.Stamp.TheVariants.{Acked, Local}
use Rattle.ft_base.specs.Visibility.{has_occurred_at_stage, is_acked}
use Rattle.ft_base.proofs.Booleans.{all_four, both}
use Rattle.ft_props.specs.Element.{ListElement, is_sequenced, is_unremoved, removal_stamp, seen}
use Rattle.ft_msg.specs.Agreed.{take_entries}
use Rattle.ft_msg.specs.Client.{NaiveClient, stages_of}
use Rattle.ft_msg.specs.ClientSteps.{taken_entries}
use Rattle.ft_msg.specs.Reached.{IsReached}
use Rattle.ft_laws_agreement.specs.Trimming.{IsConsistent}
use Rattle.ft_laws_agreement.proofs.BareLists.{document-bare}
use Rattle.ft_laws_agreement.proofs.ClientHolds.{flat}
use Rattle.ft_laws_agreement.proofs.ClientsAgree.{all-stepped-from}
use Rattle.ft_laws_agreement.proofs.ConsistentDocument.{take_entries-consistent}
use Rattle.ft_laws_agreement.proofs.MarksOfStages.{bare_stages}
use Rattle.ft_laws_agreement.proofs.RebuiltDocument.{edits-stages}
use Rattle.ft_laws_agreement.proofs.SummaryStarts.{reached-run}
use Rattle.ft_laws_agreement.proofs.ToldStages.{Holds, ToldStage}
use Rattle.ft_laws_agreement.proofs.WithinStages.{is_among, is_numbered, is_within, mark_within, stamp_within}
use Rattle.ft_changes.proofs.IntervalsLead.{IsQuiet}
use Rattle.ft_changes.proofs.SlidNumbers.{AreShown}

-- ---- a document without pending stages

-- a removal counts at each stage
removed-alike : (k n : ℕ) (dels : List Stamp) → list_all (is_numbered n) dels ≡ true → list_any is_acked (dels ++ [])
    ≡ list_any (has_occurred_at_stage k) (dels ++ [])
removed-alike k n [] h = refl
removed-alike k n (Acked s c ∷ dels) h = refl
removed-alike k n (Local j ∷ dels) h = absurd (cc)

bare-element : (k n : ℕ) (e : ListElement) → is_within n [] e ≡ true → (is_unremoved e ≡ seen k e) × (is_sequenced e ≡ true)
bare-element k n e h =
    let p = all_four (stamp_within n [] e.ins) (list_all (is_numbered n) e.dels) (mark_within [] e.removal_stage) (list_all (λ q. is_among [] q.0)
    e.pending) h in
    by e.ins e.removal_stage p.0 p.2 p.1
  where
    by : (t : Stamp) (m : Option ℕ) → stamp_within n [] t ≡ true → mark_within [] m ≡ true → list_all (is_numbered n) e.dels ≡ true
        → (is_acked t && not (list_any is_acked (e.dels ++ removal_stamp m)) ≡ has_occurred_at_stage k t && not (list_any (has_occurred_at_stage k)
        (e.dels ++ removal_stamp m)))
        × (is_acked t ≡ true)
    by (Acked s c) None f g d = (ap not (removed-alike k n e.dels d), refl)
    by (Acked s c) (Some j) f g d = absurd (cc)
    by (Local i) m f g d = absurd (cc)

bare-shown : (k n : ℕ) (xs : List ListElement) → list_all (is_within n []) xs ≡ true → AreShown k xs
bare-shown k n [] h = tt
bare-shown k n (e ∷ xs) h =
    let p = both (is_within n [] e) (list_all (is_within n []) xs) h in
    let q = bare-element k n e p.0 in
    (q.0, q.1, bare-shown k n xs p.1)

-- ---- a client without pending stages

no-stages : (ts : List ToldStage) → bare_stages ts ≡ [] → ts ≡ []
no-stages [] e = refl
no-stages (t ∷ ts) e = absurd (cc)

pub quiet-client : (n c r : ℕ) (x : NaiveClient) → IsReached x → stages_of x ≡ [] → IsQuiet x.last_stage n c r x.doc
quiet-client n c r x reached none =
    let run = reached-run x reached in
    let s = all-stepped-from reached.start reached.steps x run in
    let holds : Holds s.c x.doc.number x.doc.number x.last_stage [] x.doc =
    subst (λ ts. Holds s.c x.doc.number x.doc.number x.last_stage ts x.doc) (no-stages (flat s.gss) (sym (edits-stages s.c s.gss x.pending
    s.client.edits) ∙ none)) s.client.doc in
    let agreed : take_entries reached.start (taken_entries reached.steps) ≡ x.doc = sym s.agrees
    ∙ document-bare s.c x.doc.number x.doc.number x.last_stage x.doc holds in
    record {
      consistent = subst IsConsistent agreed (take_entries-consistent reached.start (taken_entries reached.steps) run.sound.consistent);
      shown = bare-shown x.last_stage x.doc.number x.doc.text.items holds.text;
    }
