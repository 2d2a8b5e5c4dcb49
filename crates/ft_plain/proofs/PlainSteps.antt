-- What a document over plain lists makes of a step it makes of each document that it holds.
use Rattle.std.proofs.Common.{◌≡◌, ◌≤◌, ℕ, ◌+◌, List, [], ◌∷◌, ◌++◌, Result, Ok, Err, drop, length, length-append, map, refl, sym, ◌∙◌, ap, subst, arith}
use Rattle.std.specs.Prelude.{OnOk, flat_map}
use Rattle.std.proofs.lemmas.Grind.{flat_map-append}
use Rattle.std.proofs.lemmas.List.{drop_at, take_at}
use Rattle.ft_op.specs.Document.{Document}
use Rattle.ft_op.specs.Operation.{SubOperation}
use Rattle.ft_op.specs.Stages.{Stage}
use Rattle.ft_msg.specs.declared.faults.EditFault.{EditFault}
use Rattle.ft_msg.specs.declared.messages.Entry.{Entry}
use Rattle.ft_msg.specs.Agreed.{with_numbers}
use Rattle.ft_msg.specs.Client.{NaiveClient, PendingEdit, local_sub_operations}
use Rattle.ft_msg.specs.Reconnection.{carried_stage, rebuilt_document}
use Rattle.ft_msg.proofs.ReplicaStarts.{keeps-itself}
use Rattle.ft_laws_summaries.specs.Summaries.{IsSmall}
use Rattle.ft_laws_summaries.proofs.ValidSegments.{trimmed-length}
use Rattle.ft_replica.specs.declared.document.Resent.{Resent}
use Rattle.ft_replica.specs.Own.{AnswersStages, Compacts, HeldDocument, MeansRefused, held_by, rejoined, resent}
use Rattle.ft_plain.specs.Cut.{cut, cut_length}
use Rattle.ft_plain.specs.Own.{HasSmallLists, HoldsExactly, PlainState}
use Rattle.ft_plain.proofs.RefusedEdits.{steps-refusal}

-- ---- edits

module _ (old new : PlainState) (last : ℕ) (ops : List SubOperation) (held : HeldDocument) (h : HoldsExactly old held) where
  same-steps : local_sub_operations held.doc held.stages (last + 1) ops ≡ local_sub_operations old.doc old.stages (last + 1) ops
  same-steps =
      ap (λ d. local_sub_operations d held.stages (last + 1) ops) (sym h.document) ∙ ap (λ ss. local_sub_operations old.doc ss (last + 1) ops) (sym h.pending)

  pub edit-refused : (fault : EditFault) → local_sub_operations old.doc old.stages (last + 1) ops ≡ Err fault → new.doc ≡ old.doc → new.stages ≡ old.stages
      → AnswersStages (HoldsExactly new) held (local_sub_operations held.doc held.stages (last + 1) ops) (Err fault)
  edit-refused fault made doc stages =
      let refused : (local_sub_operations held.doc held.stages (last + 1) ops ≡ Err fault) × HoldsExactly new held = (same-steps ∙ made, record { document = doc ∙ h.document; pending = stages ∙ h.pending }) in
      subst (λ k. MeansRefused k ((local_sub_operations held.doc held.stages (last + 1) ops ≡ Err fault) × HoldsExactly new held))
      (sym (steps-refusal old.doc old.stages (last + 1) ops fault made)) refused

-- ---- its own join

cut-all : (edits : List (List Stage)) → cut (map (λ ss. length ss) edits) (flat_map (λ ss. ss) edits) ≡ edits
cut-all [] = refl
cut-all (e ∷ edits) =
    let rest = flat_map (λ (ss : List Stage). ss) edits in
    ap (λ first. first ∷ cut (map (λ (ss : List Stage). length ss) edits) (drop (length e) (e ++ rest))) (take_at e rest (length e) refl)
    ∙ ap (λ others. e ∷ cut (map (λ (ss : List Stage). length ss) edits) others) (drop_at e rest (length e) refl)
    ∙ ap (λ es. e ∷ es) (cut-all edits)

carried-all : (doc : Document) (edits : List (List Stage)) → flat_map (λ ss. flat_map (carried_stage doc) ss) edits ≡ flat_map (carried_stage doc) (flat_map (λ ss. ss) edits)
carried-all doc [] = refl
carried-all doc (e ∷ edits) =
    ap (λ ss. flat_map (carried_stage doc) e ++ ss) (carried-all doc edits) ∙ sym (flat_map-append (carried_stage doc) e (flat_map (λ (ss : List Stage). ss) edits))

-- the edits of a client have all its stages
pub edits-cut : (d : PlainState) (low : ℕ) (p : NaiveClient) (counts : List ℕ) → HoldsExactly d (held_by low p)
    → map (λ e. length e.stages) p.pending ≡ counts
    → cut_length counts ≤ length d.stages
edits-cut d low p counts h e =
    let all = ap cut_length (sym e) ∙ by p.pending ∙ ap length (sym h.pending) in
    omega (arith, all)
  where
    by : (es : List PendingEdit) → cut_length (map (λ e. length e.stages) es) ≡ length (flat_map (λ e. e.stages) es)
    by [] = refl
    by (e ∷ es) = ap (λ n. length e.stages + n) (by es) ∙ sym (length-append e.stages (flat_map (λ (e : PendingEdit). e.stages) es))

pub rejoin-held : (old new : PlainState) (entry : Entry) (counts : List ℕ) (again : List Resent)
    → again ≡ map (resent (with_numbers entry old.doc)) (cut counts old.stages)
    → new.doc ≡ rebuilt_document (map (λ t. t.stage) old.stages) (with_numbers entry old.doc)
    → new.stages ≡ flat_map (λ ss. flat_map (carried_stage (with_numbers entry old.doc)) ss) (cut counts old.stages)
    → (held : HeldDocument) (edits : List (List Stage)) → held.stages ≡ flat_map (λ ss. ss) edits → map (λ ss. length ss) edits ≡ counts → HoldsExactly old held
    → (again ≡ map (resent (with_numbers entry held.doc)) edits) × HoldsExactly new (rejoined entry held)
rejoin-held old new entry counts again sent doc stages held edits e n h =
    let cuts : cut counts old.stages ≡ edits = ap (λ cs. cut cs old.stages) (sym n) ∙ ap (cut (map (λ (ss : List Stage). length ss) edits)) (h.pending ∙ e) ∙ cut-all edits in
    let carried : Document → List (List Stage) → List Stage = λ d es. flat_map (λ ss. flat_map (carried_stage (with_numbers entry d)) ss) es in (
      sent ∙ ap (λ d. map (resent (with_numbers entry d)) (cut counts old.stages)) h.document ∙ ap (map (resent (with_numbers entry held.doc))) cuts,
      record {
        document = doc ∙ ap (λ d. rebuilt_document (map (λ (t : Stage). t.stage) old.stages) (with_numbers entry d)) h.document
            ∙ ap (λ ss. rebuilt_document (map (λ (t : Stage). t.stage) ss) (with_numbers entry held.doc)) h.pending;
        pending = stages ∙ ap (λ d. carried d (cut counts old.stages)) h.document ∙ ap (carried held.doc) cuts ∙ carried-all (with_numbers entry held.doc) edits
            ∙ ap (flat_map (carried_stage (with_numbers entry held.doc))) (sym e);
      },
    )

-- ---- compaction, which leaves it as it is

pub itself-compacts : (d : PlainState) (low : ℕ) (p : NaiveClient) → HoldsExactly d (held_by low p) → Compacts HoldsExactly d p
itself-compacts d low p h = record {
  fewer = p.doc;
  keeps = (keeps-itself p).doc;
  cells = λ row col a b. refl;
  document = record { document = h.document; pending = h.pending };
}

-- ---- summaries

pub small-held : (d : PlainState) (held : HeldDocument) → HasSmallLists d.doc → HoldsExactly d held → IsSmall held.doc
small-held d held s h = subst IsSmall h.document (small d.doc s)
  where
    small : (doc : Document) → HasSmallLists doc → IsSmall doc
    small doc s =
        let text = trimmed-length doc.minimum doc.text.items in
        let rows = trimmed-length doc.minimum doc.rows.items in
        let cols = trimmed-length doc.minimum doc.cols.items in
        let t = s.text in
        let r = s.rows in
        let c = s.cols in
        record {
          number = s.number;
          skipped = s.skipped;
          other = s.other;
          text = omega (arith, text, t);
          rows = omega (arith, rows, r);
          cols = omega (arith, cols, c);
        }

-- what holds anyway holds where there was memory
pub any-ok : {A E P : Type 0} (r : Result A E) → P → OnOk r P
any-ok (Ok a) h = h
any-ok (Err e) h = tt
