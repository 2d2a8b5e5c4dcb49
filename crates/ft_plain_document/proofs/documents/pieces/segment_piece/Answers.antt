use Rattle.std.proofs.Common.{◌≡◌, List, [], ◌∷◌, ◌∙◌, ap, map, refl, sym}
use Rattle.std.proofs.lemmas.Result.{IfOk-weaker}
use Rattle.ft_op.specs.declared.operations.BaseOp.TheVariants.{Insert}
use Rattle.ft_op.specs.Operation.{OnText, SubOperation, segment_contents}
use Rattle.ft_op.specs.Pieces.{text_pieces, unless_empty}
use Rattle.ft_plain_document.specs.declared.stages.SubOp.TheVariants.{Text}
use Rattle.ft_plain_document.specs.SubOperations.{sub_operation_of}
use Rattle.ft_plain_document.proofs.documents.pieces.segment_piece.Goals as goal

-- a segment that isn't empty
filled : {A : Type 0} (xs : List A) (sub : SubOperation) → (xs ≡ [] → ⊥) → unless_empty xs sub ≡ sub ∷ []
filled [] sub h = absurd (h refl)
filled (x ∷ xs) sub h = refl

pub returns : goal.returns
returns c p =
    let seg = c.args.seg.now in
    let props = c.args.props.now in
    let pieces = text_pieces c.args.stage c.args.items.now (Insert p seg props) in
    let full : segment_contents seg ≡ [] → ⊥ = λ e. (let none = c.is_empty.ensures.1 e in absurd cc) in
    IfOk-weaker c.queue_of.result (λ v. v.items ≡ Text c.in_ok-insertion.insertion ∷ []) (λ v. map sub_operation_of v.items ≡ pieces)
    (λ v e. ap (map sub_operation_of) e
    ∙ ap (λ op. OnText op ∷ []) (c.in_ok-insertion.ensures ∙ ap (λ k. Insert k seg props) c.stage_position.ensures)
    ∙ sym (filled (segment_contents seg) _ full)) c.queue_of.ensures
