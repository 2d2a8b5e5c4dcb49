-- The acknowledgement of a whole edit: its stages one after another are the effect of its sub-operations.
use Rattle.std.proofs.Common.{◌≡◌, ℕ, List, [], ◌∷◌, ◌++◌, Option, Some, None, map, refl, sym, ◌∙◌, ap, subst, arith}
use Rattle.std.specs.List.{flat_map}
use Rattle.ft_props.specs.Element.{ElementId}
use Rattle.ft_props.specs.Steps.{acked_id, acked_list}
use Rattle.ft_op.specs.Operation.{SubOperation}
use Rattle.ft_op.specs.Intervals.{NamedElements}
use Rattle.ft_op.specs.Document.{Document, effect, effects, sequenced_part, with_slid_ends}
use Rattle.ft_op.specs.Stages.{Stage, intervals_after_stage}
use Rattle.ft_msg.specs.Acknowledgement.{ack_stage, ack_stages, cells_after_stage, made_before, renamed, renamed_names, renamed_stage}
use Rattle.ft_laws_agreement.proofs.SentStages.{told_as}
use Rattle.ft_laws_agreement.proofs.ToldStages.{Holds, ToldStage, renamed_told}
use Rattle.ft_laws_agreement.proofs.NamedByPlace.{names-not_renamed}
use Rattle.ft_laws_agreement.proofs.HoldsAfterAcknowledgement.{acknowledged-effects, acknowledged-holds}

-- ---- renamings one after another

renamed-twice : (f g : ElementId → ElementId) (o : Option ElementId) → renamed f (renamed g o) ≡ renamed (λ x. f (g x)) o
renamed-twice f g None = refl
renamed-twice f g (Some x) = refl

told-twice : (f g : ElementId → ElementId) (t : ToldStage) → renamed_told f (renamed_told g t) ≡ renamed_told (λ x. f (g x)) t
told-twice f g t = rw (renamed-twice f g t.stage.names.first, renamed-twice f g t.stage.names.second) refl

pub all-twice : (f g : ElementId → ElementId) (ts : List ToldStage) → map (renamed_told f) (map (renamed_told g) ts) ≡ map (renamed_told (λ x. f (g x))) ts
all-twice f g [] = refl
all-twice f g (t ∷ ts) = rw (renamed-twice f g t.stage.names.first, renamed-twice f g t.stage.names.second, all-twice f g ts) refl

-- the stage's acknowledgement with its elements renamed first
abbrev acked_with : ℕ → ℕ → Stage → Document → NamedElements → Document
acked_with s c t doc names = with_slid_ends (record doc {
  text = acked_list t.stage s c doc.text;
  rows = acked_list t.stage s c doc.rows;
  cols = acked_list t.stage s c doc.cols;
  intervals = intervals_after_stage t.sub_operation names doc.intervals;
  cells = cells_after_stage t.sub_operation names doc.cells;
})

pub renamed-first : (s c : ℕ) (rename : ElementId → ElementId) (t : Stage) (doc : Document) → ack_stage s c (λ x. x) (renamed_stage rename t) doc ≡ ack_stage s c rename t doc
renamed-first s c rename t doc = ap (acked_with s c t doc) (names-not_renamed (renamed_names rename t.names))

-- ---- the stages of an edit

pub effects-append : (doc : Document) (s c r : ℕ) (os ps : List SubOperation) → effects doc s c r (os ++ ps) ≡ effects (effects doc s c r os) s c r ps
effects-append doc s c r [] ps = refl
effects-append doc s c r (o ∷ os) ps = effects-append (effect doc s c r o) s c r os ps

-- all have that reference number
abbrev pub AllRef : ℕ → List ToldStage → Type 0
AllRef r [] = Unit {0}
AllRef r (t ∷ ts) = (t.ref ≡ r) × AllRef r ts

-- what comes of the stages of an edit, and of those behind
pub record EditAcked (c m s last r : ℕ) (gs rest : List ToldStage) (doc : Document) (out : Document × (ElementId → ElementId)) : Type 0 where
  pub holds : Holds c m s last (map (renamed_told out.1) rest) out.0
  pub agrees : sequenced_part out.0 ≡ effects (sequenced_part doc) s c r (flat_map (λ g. told_as g.sent) gs)

pub edit-acked : (c m s last r : ℕ) (gs rest : List ToldStage) (rename : ElementId → ElementId) (doc : Document) → AllRef r gs
    → Holds c m s last (map (renamed_told rename) (gs ++ rest)) doc
    → EditAcked c m s last r gs rest doc (ack_stages s c rename (map (λ g. g.stage) gs) doc)
edit-acked c m s last r [] rest rename doc refs h = record { holds = h; agrees = refl }
edit-acked c m s last r (g ∷ gs) rest rename doc refs h =
    let t = renamed_told rename g in
    let f = acked_id g.stage.stage (made_before doc g.stage.sub_operation) in
    let doc1 = ack_stage s c rename g.stage doc in
    let same : ack_stage s c (λ x. x) t.stage doc ≡ doc1 = renamed-first s c rename g.stage doc in
    let here : sequenced_part doc1 ≡ effects (sequenced_part doc) s c r (told_as g.sent) =
    ap sequenced_part (sym same) ∙ acknowledged-effects c m s last s t (map (renamed_told rename) (gs ++ rest)) doc h
    ∙ ap (λ i. effects (sequenced_part doc) s c i (told_as g.sent)) refs.0 in
    let next : Holds c m s last (map (renamed_told (λ x. f (rename x))) (gs ++ rest)) doc1 =
    subst (λ ts. Holds c m s last ts doc1) (all-twice f rename (gs ++ rest))
    (subst (λ d. Holds c m s last (map (renamed_told f) (map (renamed_told rename) (gs ++ rest))) d) same
    (acknowledged-holds c m s last s t (map (renamed_told rename) (gs ++ rest)) doc (omega arith) h)) in
    let later = edit-acked c m s last r gs rest (λ x. f (rename x)) doc1 refs.1 next in
    record {
      holds = later.holds;
      agrees = later.agrees ∙ ap (λ d. effects d s c r (flat_map (λ g. told_as g.sent) gs)) here
          ∙ sym (effects-append (sequenced_part doc) s c r (told_as g.sent) (flat_map (λ g. told_as g.sent) gs));
    }
