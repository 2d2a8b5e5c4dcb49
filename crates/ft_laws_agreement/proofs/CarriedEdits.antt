-- The stages of a client after its own join are those that have a piece, in order, and its queue has its regenerated
-- operations.
use Rattle.std.proofs.Common.{◌≡◌, ℕ, ◌+◌, List, [], ◌∷◌, ◌++◌, Option, Some, None, refl, sym, ◌∙◌, ap, flat_map}
use Rattle.std.specs.Prelude.{filter_map}
use Rattle.std.specs.List.{cons_option}
use Rattle.std.proofs.lemmas.Grind.{flat_map-append}
use Rattle.ft_op.specs.declared.operations.ChannelOp.{ChannelOp}
use Rattle.ft_op.specs.declared.operations.CellOp.{CellOp}
use Rattle.ft_op.specs.declared.operations.CellOp.TheVariants.{Set, SpliceIn, SpliceOut}
use Rattle.ft_op.specs.declared.operations.Target.TheVariants.{Rows, Cols}
use Rattle.ft_msg.specs.declared.messages.Entry.{Entry}
use Rattle.ft_msg.specs.declared.messages.Body.TheVariants.{Op}
use Rattle.ft_op.specs.Operation.{OnGrid, OnIntervals, OnText, SubOperation}
use Rattle.ft_op.specs.Document.{Document}
use Rattle.ft_op.specs.Intervals.{NamedElements}
use Rattle.ft_op.specs.Pieces.{grid_pieces, op_of, pieces, text_pieces}
use Rattle.ft_op.specs.Stages.{Stage}
use Rattle.ft_msg.specs.Agreed.{with_numbers}
use Rattle.ft_msg.specs.Client.{PendingEdit}
use Rattle.ft_msg.specs.Reconnection.{carried_stage, sent_draft, regenerated_edit, resubmitted_edit, resubmitted_edits}
use Rattle.ft_laws_agreement.specs.Reconnecting.{drafts_from}

-- pieces make an operation unless there are none
pub no-operation : (ps : List SubOperation) → op_of ps ≡ None → ps ≡ []
no-operation [] h = refl
no-operation (OnText op ∷ []) h = absurd cc
no-operation (OnText op ∷ p ∷ ps) h = absurd cc
no-operation (OnIntervals op ∷ ps) h = absurd cc
no-operation (OnGrid op ∷ []) h = absurd cc
no-operation (OnGrid op ∷ p ∷ ps) h = absurd cc

first-empty : {A : Type 0} (xs ys : List A) → xs ++ ys ≡ [] → xs ≡ []
first-empty [] ys h = refl
first-empty (x ∷ xs) ys h = absurd cc

second-empty : {A : Type 0} (xs ys : List A) → xs ++ ys ≡ [] → ys ≡ []
second-empty [] ys h = h
second-empty (x ∷ xs) ys h = absurd cc

module _ (doc : Document) where
  stage-gone : (k : ℕ) (o : SubOperation) (names : NamedElements) → pieces doc (record { stage = k; sub_operation = o; names = names }) ≡ []
      → carried_stage doc (record { stage = k; sub_operation = o; names = names }) ≡ []
  stage-gone k (OnText op) names h = by_pieces (text_pieces k doc.text.items op) h
    where
      by_pieces : (ps : List SubOperation) → ps ≡ [] → (elim ps as (λ _. List Stage) [ [] ↦ [] | _ ∷ _ ↦ record { stage = k; sub_operation = OnText op; names = names } ∷ [] ]) ≡ []
      by_pieces [] h = refl
      by_pieces (p ∷ ps) h = absurd cc
  stage-gone k (OnIntervals op) names h = absurd cc
  stage-gone k (OnGrid op) names h = by_pieces (grid_pieces k doc names op) h
    where
      by_pieces : (ps : List SubOperation) → ps ≡ [] → (elim ps as (λ _. List Stage) [ [] ↦ [] | _ ∷ _ ↦ record { stage = k; sub_operation = OnGrid op; names = names } ∷ [] ]) ≡ []
      by_pieces [] h = refl
      by_pieces (p ∷ ps) h = absurd cc

  stages-gone : (stages : List Stage) → flat_map (pieces doc) stages ≡ [] → flat_map (carried_stage doc) stages ≡ []
  stages-gone [] h = refl
  stages-gone (t ∷ stages) h =
      ap (λ us. us ++ flat_map (carried_stage doc) stages) (stage-gone t.stage t.sub_operation t.names (first-empty (pieces doc t) (flat_map (pieces doc) stages) h))
      ∙ stages-gone stages (second-empty (pieces doc t) (flat_map (pieces doc) stages) h)

  module _ (edit : PendingEdit) (edits : List PendingEdit) (conn n : ℕ) where
    stages-here : (o : Option ChannelOp) → op_of (flat_map (pieces doc) edit.stages) ≡ o → (rest : List Stage)
        → flat_map (λ e. e.stages) (resubmitted_edits doc conn n edits) ≡ rest → flat_map (λ e. e.stages) (resubmitted_edits doc conn (n + 1) edits) ≡ rest
        → flat_map (λ (e : PendingEdit). e.stages) (elim o [
          | None ↦ resubmitted_edits doc conn n edits
          | Some op ↦ resubmitted_edit doc conn n edit op ∷
              resubmitted_edits doc conn (n + 1) edits
        ])
        ≡ flat_map (carried_stage doc) edit.stages ++ rest
    stages-here None h rest p q = p ∙ ap (λ us. us ++ rest) (sym (stages-gone edit.stages (no-operation (flat_map (pieces doc) edit.stages) h)))
    stages-here (Some op) h rest p q = ap (λ us. flat_map (carried_stage doc) edit.stages ++ us) q

    queue-here : (r : ℕ) (o : Option ChannelOp) (ops : List ChannelOp)
        → flat_map (sent_draft r) (resubmitted_edits doc conn n edits) ≡ drafts_from n r ops → flat_map (sent_draft r) (resubmitted_edits doc conn (n + 1) edits)
        ≡ drafts_from (n + 1) r ops
        → flat_map (sent_draft r) (elim o [ None ↦ resubmitted_edits doc conn n edits | Some op ↦ resubmitted_edit doc conn n edit op ∷ resubmitted_edits doc conn (n + 1) edits ])
        ≡ drafts_from n r (cons_option o ops)
    queue-here r None ops p q = p
    queue-here r (Some op) ops p q = ap (λ ds. record { client_seq = n; ref_seq = r; body = Op op } ∷ ds) q

  -- the stages that go on are those that have a piece
  pub stages-resubmitted : (conn n : ℕ) (edits : List PendingEdit) → flat_map (λ e. e.stages) (resubmitted_edits doc conn n edits)
      ≡ flat_map (carried_stage doc) (flat_map (λ e. e.stages) edits)
  stages-resubmitted conn n [] = refl
  stages-resubmitted conn n (edit ∷ edits) =
      stages-here edit edits conn n (op_of (flat_map (pieces doc) edit.stages)) refl (flat_map (carried_stage doc) (flat_map (λ e. e.stages) edits))
      (stages-resubmitted conn n edits) (stages-resubmitted conn (n + 1) edits)
      ∙ sym (flat_map-append (carried_stage doc) edit.stages (flat_map (λ e. e.stages) edits))

  -- each edit that goes on is queued
  pub queue-resubmitted : (conn n r : ℕ) (edits : List PendingEdit) → flat_map (sent_draft r) (resubmitted_edits doc conn n edits)
      ≡ drafts_from n r (filter_map (regenerated_edit doc) edits)
  queue-resubmitted conn n r [] = refl
  queue-resubmitted conn n r (edit ∷ edits) =
      queue-here edit edits conn n r (op_of (flat_map (pieces doc) edit.stages)) (filter_map (regenerated_edit doc) edits) (queue-resubmitted conn n r edits)
      (queue-resubmitted conn (n + 1) r edits)

-- ---- the numbers of a document have no part in it

grid-numbers : (entry : Entry) (doc : Document) (k : ℕ) (names : NamedElements) (op : CellOp) → grid_pieces k (with_numbers entry doc) names op ≡ grid_pieces k doc names op
grid-numbers entry doc k names (SpliceIn Rows p count) = refl
grid-numbers entry doc k names (SpliceIn Cols p count) = refl
grid-numbers entry doc k names (SpliceOut Rows p q) = refl
grid-numbers entry doc k names (SpliceOut Cols p q) = refl
grid-numbers entry doc k names (Set i j value) = refl

piece-numbers : (entry : Entry) (doc : Document) (k : ℕ) (o : SubOperation) (names : NamedElements)
    → pieces (with_numbers entry doc) (record { stage = k; sub_operation = o; names = names }) ≡ pieces doc (record { stage = k; sub_operation = o; names = names })
piece-numbers entry doc k (OnText op) names = refl
piece-numbers entry doc k (OnIntervals op) names = refl
piece-numbers entry doc k (OnGrid op) names = grid-numbers entry doc k names op

pieces-numbers : (entry : Entry) (doc : Document) (stages : List Stage) → flat_map (pieces (with_numbers entry doc)) stages ≡ flat_map (pieces doc) stages
pieces-numbers entry doc [] = refl
pieces-numbers entry doc (t ∷ stages) =
    ap (λ us. us ++ flat_map (pieces (with_numbers entry doc)) stages) (piece-numbers entry doc t.stage t.sub_operation t.names)
    ∙ ap (λ us. pieces doc t ++ us) (pieces-numbers entry doc stages)

pub edits-numbers : (entry : Entry) (doc : Document) (edits : List PendingEdit) → filter_map (regenerated_edit (with_numbers entry doc)) edits
    ≡ filter_map (regenerated_edit doc) edits
edits-numbers entry doc [] = refl
edits-numbers entry doc (edit ∷ edits) =
    ap (λ ps. cons_option (op_of ps) (filter_map (regenerated_edit (with_numbers entry doc)) edits)) (pieces-numbers entry doc edit.stages)
    ∙ ap (cons_option (op_of (flat_map (pieces doc) edit.stages))) (edits-numbers entry doc edits)
