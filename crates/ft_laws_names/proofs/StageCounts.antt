-- A message of another client puts in no pending element.
use Rattle.std.proofs.Common.{◌≡◌, ℕ, ◌+◌, Bool, true, false, cond, nat_le, List, [], ◌∷◌, Option, Some, None, refl, ◌∙◌, ap, arith, replicate}
use Rattle.ft_base.specs.declared.stamps.Stamp.{Stamp}
use Rattle.ft_base.specs.declared.stamps.Stamp.TheVariants.{Acked}
use Rattle.ft_base.specs.Scan.{len}
use Rattle.ft_op.specs.declared.operations.BaseOp.TheVariants.{Insert, Remove, Annotate}
use Rattle.ft_op.specs.declared.operations.CellOp.TheVariants.{SpliceIn, SpliceOut, Set}
use Rattle.ft_op.specs.declared.operations.Target.TheVariants.{Rows, Cols}
use Rattle.ft_msg.specs.declared.messages.Body.{Body}
use Rattle.ft_msg.specs.declared.messages.Body.TheVariants.{Nothing, Op, Elsewhere}
use Rattle.ft_msg.specs.declared.messages.Entry.{Entry}
use Rattle.ft_props.specs.Properties.{PropertyList, apply}
use Rattle.ft_props.specs.Element.{ElementContent, GridUnit, ListElement, is_pending, new_elements, seen_by, with_annotation, with_removal}
use Rattle.ft_props.specs.Steps.{Sequence, after_insertion, after_removal, is_inserted_by}
use Rattle.ft_op.specs.Operation.{OnGrid, OnIntervals, OnText, SubOperation, segment_contents, sub_operations}
use Rattle.ft_op.specs.Document.{Document, cell_effect, effect, effects, ends_of, given_ends_fit}
use Rattle.ft_msg.specs.Agreed.{body_effect, reference_number, take_entry}
use Rattle.ft_op.specs.Stages.{Stage}
use Rattle.ft_laws_agreement.proofs.AgreedStage.{len-put-add}
use Rattle.ft_laws_agreement.proofs.RangesOfLists.{len-range}
use Rattle.ft_laws_names.specs.WellNamed.{HasItsStages}
use Rattle.ft_laws_names.proofs.NumberedLists.{new-stage}

-- as many elements of each pending stage as before
pub record SameStages (before after : Document) : Type 0 where
  pub text : (k : ℕ) → len (is_inserted_by k) after.text.items ≡ len (is_inserted_by k) before.text.items
  pub rows : (k : ℕ) → len (is_inserted_by k) after.rows.items ≡ len (is_inserted_by k) before.rows.items
  pub cols : (k : ℕ) → len (is_inserted_by k) after.cols.items ≡ len (is_inserted_by k) before.cols.items

itself : (doc : Document) → SameStages doc doc
itself doc = record { text = λ k. refl; rows = λ k. refl; cols = λ k. refl }

pub has-stages : (ts : List Stage) (before after : Document) → SameStages before after → HasItsStages ts before → HasItsStages ts after
has-stages ts before after s h = record { text = λ k g. s.text k ∙ h.text k g; rows = λ k g. s.rows k ∙ h.rows k g; cols = λ k g. s.cols k ∙ h.cols k g }

choice : (before : Document) (b : Bool) (p q : Document) → SameStages before p → SameStages before q → SameStages before (cond b p q)
choice before true p q f g = f
choice before false p q f g = g

module _ (s c r : ℕ) where
  inserted : (p : ℕ) (by : Option Stamp) (props : PropertyList) (bs : List ElementContent) (list : Sequence) (k : ℕ)
      → len (is_inserted_by k) (after_insertion s c r p by props bs list).items ≡ len (is_inserted_by k) list.items
  inserted p by props bs list k =
      len-put-add (is_inserted_by k) (seen_by r c) is_pending p (new_elements list.made (Acked s c) [] by props bs) list.items
      ∙ ap (λ n. n + len (is_inserted_by k) list.items) (new-stage by props (Acked s c) k refl list.made bs)
      ∙ zero (len (is_inserted_by k) list.items)
    where
      zero : (n : ℕ) → 0 + n ≡ n
      zero n = omega arith

  removed : (p q : ℕ) (list : Sequence) (k : ℕ) → len (is_inserted_by k) (after_removal s c r p q list).items ≡ len (is_inserted_by k) list.items
  removed p q list k = len-range (is_inserted_by k) (seen_by r c) (with_removal s c) (λ e. refl) p q 0 list.items

  effect-stages : (doc : Document) (o : SubOperation) → SameStages doc (effect doc s c r o)
  effect-stages doc (OnText (Insert p seg props)) = choice doc (nat_le p (len (seen_by r c) doc.text.items)) _ _
      (record { text = λ k. inserted p (Some (Acked s c)) (apply [] props) (segment_contents seg) doc.text k; rows = λ k. refl; cols = λ k. refl })
      (record { text = λ k. refl; rows = λ k. refl; cols = λ k. refl })
  effect-stages doc (OnText (Remove p q)) = choice doc (nat_le q (len (seen_by r c) doc.text.items)) _ _
      (record { text = λ k. removed p q doc.text k; rows = λ k. refl; cols = λ k. refl }) (record { text = λ k. refl; rows = λ k. refl; cols = λ k. refl })
  effect-stages doc (OnText (Annotate p q changes)) =
      choice doc (nat_le q (len (seen_by r c) doc.text.items)) _ _ (record {
        text = λ k. len-range (is_inserted_by k) (seen_by r c) (with_annotation changes)
            (λ e. refl) p q 0 doc.text.items;
        rows = λ k. refl;
        cols = λ k. refl;
      }) (record { text = λ k. refl; rows = λ k. refl; cols = λ k. refl })
  effect-stages doc (OnIntervals op) = choice doc (given_ends_fit (len (seen_by r c) doc.text.items) (ends_of op)) _ _
      (record { text = λ k. refl; rows = λ k. refl; cols = λ k. refl }) (record { text = λ k. refl; rows = λ k. refl; cols = λ k. refl })
  effect-stages doc (OnGrid (SpliceIn Rows p count)) = choice doc (nat_le p (len (seen_by r c) doc.rows.items)) _ _
      (record { text = λ k. refl; rows = λ k. inserted p None [] (replicate count GridUnit) doc.rows k; cols = λ k. refl })
      (record { text = λ k. refl; rows = λ k. refl; cols = λ k. refl })
  effect-stages doc (OnGrid (SpliceIn Cols p count)) = choice doc (nat_le p (len (seen_by r c) doc.cols.items)) _ _
      (record { text = λ k. refl; rows = λ k. refl; cols = λ k. inserted p None [] (replicate count GridUnit) doc.cols k })
      (record { text = λ k. refl; rows = λ k. refl; cols = λ k. refl })
  effect-stages doc (OnGrid (SpliceOut Rows p q)) = choice doc (nat_le q (len (seen_by r c) doc.rows.items)) _ _
      (record { text = λ k. refl; rows = λ k. removed p q doc.rows k; cols = λ k. refl }) (record { text = λ k. refl; rows = λ k. refl; cols = λ k. refl })
  effect-stages doc (OnGrid (SpliceOut Cols p q)) = choice doc (nat_le q (len (seen_by r c) doc.cols.items)) _ _
      (record { text = λ k. refl; rows = λ k. refl; cols = λ k. removed p q doc.cols k }) (record { text = λ k. refl; rows = λ k. refl; cols = λ k. refl })
  effect-stages doc (OnGrid (Set i j value)) = cell _ _
    where
      cell : (o p : Option ListElement) → SameStages doc (cell_effect doc o p value)
      cell (Some x) (Some y) = record { text = λ k. refl; rows = λ k. refl; cols = λ k. refl }
      cell (Some x) None = record { text = λ k. refl; rows = λ k. refl; cols = λ k. refl }
      cell None p = record { text = λ k. refl; rows = λ k. refl; cols = λ k. refl }

  effects-stages : (doc : Document) (os : List SubOperation) → SameStages doc (effects doc s c r os)
  effects-stages doc [] = itself doc
  effects-stages doc (o ∷ os) =
      let one = effect-stages doc o in
      let rest = effects-stages (effect doc s c r o) os in
      record { text = λ k. rest.text k ∙ one.text k; rows = λ k. rest.rows k ∙ one.rows k; cols = λ k. rest.cols k ∙ one.cols k }

  body-stages : (doc : Document) (body : Body) → SameStages doc (body_effect doc s c r body)
  body-stages doc Nothing = itself doc
  body-stages doc (Op op) = effects-stages doc (sub_operations op)
  body-stages doc (Elsewhere address) = record { text = λ k. refl; rows = λ k. refl; cols = λ k. refl }

pub entry-stages : (doc : Document) (entry : Entry) → SameStages doc (take_entry doc entry)
entry-stages doc entry =
    let body = body-stages entry.msg.seq entry.origin (reference_number entry.msg.ref_seq) doc entry.msg.body in
    record { text = λ k. body.text k; rows = λ k. body.rows k; cols = λ k. body.cols k }
