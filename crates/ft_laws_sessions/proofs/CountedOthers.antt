-- How many messages for others are counted: no more than there are messages.
use Rattle.std.proofs.Common.{◌≡◌, ℕ, ◌+◌, ◌≤◌, Bool, true, false, cond, nat_le, List, [], ◌∷◌, length, Option, Some, None, refl, ◌∙◌, arith}
use Rattle.ft_base.specs.Scan.{at, len}
use Rattle.ft_props.specs.Element.{ListElement, seen_by}
use Rattle.ft_op.specs.declared.operations.BaseOp.TheVariants.{Insert, Remove, Annotate}
use Rattle.ft_op.specs.declared.operations.CellOp.TheVariants.{SpliceIn, SpliceOut, Set}
use Rattle.ft_op.specs.declared.operations.Target.TheVariants.{Rows, Cols}
use Rattle.ft_op.specs.Document.{Document, cell_effect, effect, effects, ends_of, given_ends_fit, with_skip}
use Rattle.ft_op.specs.Operation.{OnGrid, OnIntervals, OnText, SubOperation, sub_operations}
use Rattle.ft_msg.specs.declared.messages.Body.{Body}
use Rattle.ft_msg.specs.declared.messages.Body.TheVariants.{Nothing, Op, Elsewhere}
use Rattle.ft_msg.specs.declared.messages.Entry.{Entry}
use Rattle.ft_msg.specs.Agreed.{body_effect, reference_number, take_entries, take_entry}

other-choice : (n : ℕ) (b : Bool) (p q : Document) → p.other ≡ n → q.other ≡ n → (cond b p q).other ≡ n
other-choice n true p q f g = f
other-choice n false p q f g = g

module _ (s c r : ℕ) where
  effect-other : (doc : Document) (o : SubOperation) → (effect doc s c r o).other ≡ doc.other
  effect-other doc (OnText (Insert p seg props)) = other-choice doc.other (nat_le p (len (seen_by r c) doc.text.items)) _ (with_skip doc) refl refl
  effect-other doc (OnText (Remove p q)) = other-choice doc.other (nat_le q (len (seen_by r c) doc.text.items)) _ (with_skip doc) refl refl
  effect-other doc (OnText (Annotate p q changes)) = other-choice doc.other (nat_le q (len (seen_by r c) doc.text.items)) _ (with_skip doc) refl refl
  effect-other doc (OnIntervals op) = other-choice doc.other (given_ends_fit (len (seen_by r c) doc.text.items) (ends_of op)) _ (with_skip doc) refl refl
  effect-other doc (OnGrid (SpliceIn Rows p count)) = other-choice doc.other (nat_le p (len (seen_by r c) doc.rows.items)) _ (with_skip doc) refl refl
  effect-other doc (OnGrid (SpliceIn Cols p count)) = other-choice doc.other (nat_le p (len (seen_by r c) doc.cols.items)) _ (with_skip doc) refl refl
  effect-other doc (OnGrid (SpliceOut Rows p q)) = other-choice doc.other (nat_le q (len (seen_by r c) doc.rows.items)) _ (with_skip doc) refl refl
  effect-other doc (OnGrid (SpliceOut Cols p q)) = other-choice doc.other (nat_le q (len (seen_by r c) doc.cols.items)) _ (with_skip doc) refl refl
  effect-other doc (OnGrid (Set i j value)) = by (at (seen_by r c) i doc.rows.items) (at (seen_by r c) j doc.cols.items)
    where
      by : (o p : Option ListElement) → (cell_effect doc o p value).other ≡ doc.other
      by (Some x) (Some y) = refl
      by (Some x) None = refl
      by None p = refl

  effects-other : (os : List SubOperation) (doc : Document) → (effects doc s c r os).other ≡ doc.other
  effects-other [] doc = refl
  effects-other (o ∷ os) doc = effects-other os (effect doc s c r o) ∙ effect-other doc o

  body-other : (b : Body) (doc : Document) → (body_effect doc s c r b).other ≤ doc.other + 1
  body-other Nothing doc = omega arith
  body-other (Op op) doc = let e = effects-other (sub_operations op) doc in omega (arith, e)
  body-other (Elsewhere address) doc = omega arith

pub entries-other : (es : List Entry) (doc : Document) → (take_entries doc es).other ≤ doc.other + length es
entries-other [] doc = omega arith
entries-other (e ∷ es) doc =
    let here = body-other e.msg.seq e.origin (reference_number e.msg.ref_seq) e.msg.body doc in
    let later = entries-other es (take_entry doc e) in
    omega (arith, here, later)
