-- The effect of another client's sub-operation on a client's document is its effect on the document of the messages alone.
use Rattle.std.proofs.Common.{◌≡◌, ℕ, Bool, true, false, cond, List, [], ◌∷◌, Option, Some, None, refl, sym, ◌∙◌, ap, nat_le, ℤ, pos, negsuc, replicate}
use Rattle.std.specs.Option.{option_map}
use Rattle.ft_base.specs.declared.stamps.Stamp.TheVariants.{Acked}
use Rattle.ft_op.specs.declared.operations.BaseOp.{BaseOp}
use Rattle.ft_op.specs.declared.operations.BaseOp.TheVariants.{Insert, Remove, Annotate}
use Rattle.ft_op.specs.declared.operations.Ends.{Ends}
use Rattle.ft_op.specs.declared.operations.TextOp.{TextOp}
use Rattle.ft_op.specs.declared.operations.CellOp.{CellOp}
use Rattle.ft_op.specs.declared.operations.CellOp.TheVariants.{SpliceIn, SpliceOut, Set}
use Rattle.ft_op.specs.declared.operations.Target.{Target}
use Rattle.ft_op.specs.declared.operations.Target.TheVariants.{Rows, Cols}
use Rattle.ft_base.proofs.ScanLaws.{range-retain_map}
use Rattle.ft_base.specs.Scan.{at}
use Rattle.ft_props.proofs.SequencedElements.{after_insertion-sequenced, after_removal-sequenced, at-sequenced, len-sequenced, map-id, sees-sequenced, slide-sequenced}
use Rattle.ft_props.specs.Properties.{ValueBytes, apply}
use Rattle.ft_props.specs.Element.{ListElement, id, GridUnit, seen_by, is_sequenced, without_pending, sequenced_elements, with_annotation}
use Rattle.ft_props.specs.Steps.{Sequence, after_removal, sequenced_list}
use Rattle.ft_op.specs.Operation.{SubOperation, OnText, OnIntervals, OnGrid, segment_contents}
use Rattle.ft_op.specs.Intervals.{Interval, slide_ends, element_at_end, after_interval_operation}
use Rattle.ft_op.specs.Document.{Document, with_slid_ends, text_effect, interval_effect, grid_effect, cell_effect, effect, effects, ends_of, given_ends_fit, elements_at_given_ends, rows_or_cols, with_rows_or_cols, sequenced_part}

-- a choice goes through a function
chosen : {A B : Type 0} (f : A → B) (b : Bool) {x y : A} {u v : B} → f x ≡ u → f y ≡ v → f (cond b x y) ≡ cond b u v
chosen f true p q = p
chosen f false p q = q

choice : {A B : Type 0} (f : A → B) (b c : Bool) {x y : A} {u v : B} → c ≡ b → f x ≡ u → f y ≡ v → f (cond b x y) ≡ cond c u v
choice f b c e p q = rw e (chosen f b p q)

slide-ends : (xs : List ListElement) (is : List Interval) → slide_ends (sequenced_elements xs) is ≡ slide_ends xs is
slide-ends xs [] = refl
slide-ends xs (i ∷ is) = rw (slide-sequenced xs i.start, slide-sequenced xs i.end, slide-ends xs is)

with_slid_ends-sequenced : (doc : Document) → sequenced_part (with_slid_ends doc) ≡ with_slid_ends (sequenced_part doc)
with_slid_ends-sequenced doc = ap (λ is. sequenced_part (record doc { intervals = is })) (sym (slide-ends doc.text.items doc.intervals))

pub text_effect-sequenced : (doc : Document) (s c r : ℕ) (op : BaseOp) → sequenced_part (text_effect doc s c r op) ≡ text_effect (sequenced_part doc) s c r op
text_effect-sequenced doc s c r (Insert p seg props) =
    choice sequenced_part _ _ (ap (nat_le p) (len-sequenced r c doc.text.items))
    (ap (λ list. record (sequenced_part doc) { text = list }) (after_insertion-sequenced s c r p (Some (Acked s c)) (apply [] props) (segment_contents seg) doc.text)) refl
text_effect-sequenced doc s c r (Remove p q) =
    choice sequenced_part _ _ (ap (nat_le q) (len-sequenced r c doc.text.items))
    (with_slid_ends-sequenced (record doc { text = after_removal s c r p q doc.text }) ∙ ap (λ list. with_slid_ends (record (sequenced_part doc) { text = list })) (after_removal-sequenced s c r p q doc.text)) refl
text_effect-sequenced doc s c r (Annotate p q changes) =
    choice sequenced_part _ _ (ap (nat_le q) (len-sequenced r c doc.text.items))
    (ap (λ xs. record (sequenced_part doc) { text = record { items = xs; made = doc.text.made } })
    (range-retain_map is_sequenced (seen_by r c) without_pending (seen_by r c) (sees-sequenced r c) (with_annotation changes) (with_annotation changes) (λ e. refl) (λ e. refl) 0 p q doc.text.items)) refl

end-sequenced : (r c : ℕ) (xs : List ListElement) (z : ℤ) → element_at_end (seen_by r c) (sequenced_elements xs) z ≡ element_at_end (seen_by r c) xs z
end-sequenced r c xs (pos p) = ap (option_map id) (at-sequenced r c p xs) ∙ map-id (at (seen_by r c) p xs)
end-sequenced r c xs (negsuc p) = refl

elements_at_given_ends-sequenced : (r c : ℕ) (xs : List ListElement) (ends : Option Ends) → elements_at_given_ends (seen_by r c) (sequenced_elements xs) ends ≡ elements_at_given_ends (seen_by r c) xs ends
elements_at_given_ends-sequenced r c xs None = refl
elements_at_given_ends-sequenced r c xs (Some ends) = rw (end-sequenced r c xs ends.start, end-sequenced r c xs ends.end)

pub interval_effect-sequenced : (doc : Document) (c r : ℕ) (op : TextOp) → sequenced_part (interval_effect doc c r op) ≡ interval_effect (sequenced_part doc) c r op
interval_effect-sequenced doc c r op =
    choice sequenced_part _ _ (ap (λ n. given_ends_fit n (ends_of op)) (len-sequenced r c doc.text.items))
    (with_slid_ends-sequenced (record doc { intervals = after_interval_operation op (elements_at_given_ends (seen_by r c) doc.text.items (ends_of op)) doc.intervals })
    ∙ ap (λ names. with_slid_ends (record (sequenced_part doc) { intervals = after_interval_operation op names doc.intervals })) (sym (elements_at_given_ends-sequenced r c doc.text.items (ends_of op)))) refl

lane-sequenced : (target : Target) (doc : Document) → rows_or_cols target (sequenced_part doc) ≡ sequenced_list (rows_or_cols target doc)
lane-sequenced Rows doc = refl
lane-sequenced Cols doc = refl

with-sequenced : (target : Target) (doc : Document) (list : Sequence) → sequenced_part (with_rows_or_cols target doc list) ≡ with_rows_or_cols target (sequenced_part doc) (sequenced_list list)
with-sequenced Rows doc list = refl
with-sequenced Cols doc list = refl

cell-sequenced : (doc : Document) (row col : Option ListElement) (value : ValueBytes)
    → sequenced_part (cell_effect doc row col value) ≡ cell_effect (sequenced_part doc) (option_map without_pending row) (option_map without_pending col) value
cell-sequenced doc None col value = refl
cell-sequenced doc (Some row) None value = refl
cell-sequenced doc (Some row) (Some col) value = refl

pub grid_effect-sequenced : (doc : Document) (s c r : ℕ) (op : CellOp) → sequenced_part (grid_effect doc s c r op) ≡ grid_effect (sequenced_part doc) s c r op
grid_effect-sequenced doc s c r (SpliceIn target p count) =
    rw (lane-sequenced target doc) (choice sequenced_part _ _ (ap (nat_le p) (len-sequenced r c (rows_or_cols target doc).items))
    (with-sequenced target doc _ ∙ ap (with_rows_or_cols target (sequenced_part doc)) (after_insertion-sequenced s c r p None [] (replicate count GridUnit) (rows_or_cols target doc))) refl)
grid_effect-sequenced doc s c r (SpliceOut target p q) =
    rw (lane-sequenced target doc) (choice sequenced_part _ _ (ap (nat_le q) (len-sequenced r c (rows_or_cols target doc).items))
    (with-sequenced target doc _ ∙ ap (with_rows_or_cols target (sequenced_part doc)) (after_removal-sequenced s c r p q (rows_or_cols target doc))) refl)
grid_effect-sequenced doc s c r (Set i j value) =
    cell-sequenced doc (at (seen_by r c) i doc.rows.items) (at (seen_by r c) j doc.cols.items) value
    ∙ rw (at-sequenced r c i doc.rows.items, at-sequenced r c j doc.cols.items) refl

pub effect-sequenced : (doc : Document) (s c r : ℕ) (sub_operation : SubOperation) → sequenced_part (effect doc s c r sub_operation) ≡ effect (sequenced_part doc) s c r sub_operation
effect-sequenced doc s c r (OnText op) = text_effect-sequenced doc s c r op
effect-sequenced doc s c r (OnIntervals op) = interval_effect-sequenced doc c r op
effect-sequenced doc s c r (OnGrid op) = grid_effect-sequenced doc s c r op

pub effects-sequenced : (doc : Document) (s c r : ℕ) (sub_operations : List SubOperation) → sequenced_part (effects doc s c r sub_operations) ≡ effects (sequenced_part doc) s c r sub_operations
effects-sequenced doc s c r [] = refl
effects-sequenced doc s c r (sub_operation ∷ sub_operations) =
    effects-sequenced (effect doc s c r sub_operation) s c r sub_operations ∙ ap (λ d. effects d s c r sub_operations) (effect-sequenced doc s c r sub_operation)
