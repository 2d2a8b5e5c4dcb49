-- The acknowledgement of the lowest stage of a document is the effect of its sub-operations on the document of the messages
-- alone.
use Rattle.std.proofs.Common.{◌≡◌, ℕ, zero, suc, ◌+◌, Bool, true, false, cond, not, List, [], ◌∷◌, Option, Some, None, map, length, replicate, refl, sym, ◌∙◌, ap, subst, arith}
use Rattle.std.specs.List.{list_all}
use Rattle.std.proofs.lemmas.Bool.Decides.{nat_tests}
use Rattle.ft_base.specs.declared.stamps.Stamp.{Stamp}
use Rattle.ft_base.specs.declared.stamps.Stamp.TheVariants.{Acked, Local}
use Rattle.ft_base.proofs.ScanLaws.{len-retain_map}
use Rattle.ft_base.specs.Scan.{len, no_run}
use Rattle.ft_base.specs.Visibility.{has_occurred_at_stage, is_of_stage}
use Rattle.ft_op.specs.declared.operations.Seg.{Seg}
use Rattle.ft_op.specs.declared.operations.Seg.TheVariants.{Chars, Marker}
use Rattle.ft_op.specs.declared.operations.Target.TheVariants.{Rows, Cols}
use Rattle.ft_props.specs.Properties.{PropertyList}
use Rattle.ft_props.specs.Element.{Character, ElementContent, ElementId, GridUnit, ListElement, is_sequenced, new_elements, seen_by, sequenced_elements, with_pending_annotation, with_pending_removal, without_pending}
use Rattle.ft_props.specs.Steps.{Sequence, acked_list, is_inserted_by, sequenced_list}
use Rattle.ft_props.proofs.SequencedElements.{slide-sequenced}
use Rattle.ft_props.proofs.AcknowledgedInsertion.{element_up_to, expects, expects-seen, is_from, list_up_to, same_nat}
use Rattle.ft_props.proofs.PlacedInsertion.{is_upto}
use Rattle.ft_op.specs.Operation.{SubOperation, segment_contents}
use Rattle.ft_op.specs.Intervals.{Interval, NamedElements, slide_ends}
use Rattle.ft_op.specs.Cells.{Cell}
use Rattle.ft_op.specs.Document.{Document, effects, sequenced_part}
use Rattle.ft_op.specs.Stages.{Stage, intervals_after_stage}
use Rattle.ft_msg.specs.Acknowledgement.{ack_stage, cells_after_stage, renamed_names}
use Rattle.ft_laws_agreement.proofs.StageEdits.{StageEdit, PutIn, TakenOut, Annotated, IsStanding, after_pending, after_sequenced}
use Rattle.ft_laws_agreement.proofs.SentStages.{SentStage, TextPut, TextTaken, TextAnnotated, IntervalsChanged, UnitsPut, UnitsTaken, CellWritten, NamesBy, StageStands, Tells, cols_edit, document_after, intervals_after_sent, list_after, made_after, rows_edit, text_edit, told_as}
use Rattle.ft_laws_agreement.proofs.RangesOfLists.{all-retain_map, len-ranges}
use Rattle.ft_laws_agreement.proofs.AcknowledgedStage.{HasAuthor, HaveAuthor, acknowledged-fits, acknowledged-sequenced, list_up_to-lowest}
use Rattle.ft_laws_agreement.proofs.AgreedStage.{FitsAgreed, IsSound, effects-stage, len-put-add}
use Rattle.ft_laws_agreement.proofs.NamedByPlace.{names-as, names-not_renamed, seen-agree}

-- ---- how many elements a stage has put in

abbrev pub count_put : StageEdit → ℕ
count_put (PutIn p props items) = length items
count_put (TakenOut ranges) = 0
count_put (Annotated ranges changes) = 0

new-count : (k i : ℕ) (props : PropertyList) (items : List ElementContent) → len (is_inserted_by k) (new_elements i (Local k) [] None props items) ≡ length items
new-count k i props [] = refl
new-count k i props (b ∷ bs) = rw (same_nat k) (ap suc (new-count k (i + 1) props bs))

pending-count : (r c k : ℕ) (edit : StageEdit) (xs : List ListElement) → len (is_inserted_by k) (after_pending r c k edit xs) ≡ count_put edit + len (is_inserted_by k) xs
pending-count r c k (PutIn p props items) xs =
    len-put-add (is_inserted_by k) (expects r c (suc k)) no_run p (new_elements 0 (Local k) [] None props items) xs
    ∙ ap (λ n. n + len (is_inserted_by k) xs) (new-count k 0 props items)
pending-count r c k (TakenOut ranges) xs = len-ranges (is_inserted_by k) (expects r c (suc k)) (with_pending_removal k) (λ x. refl) ranges xs ∙ omega arith
pending-count r c k (Annotated ranges changes) xs = len-ranges (is_inserted_by k) (expects r c (suc k)) (with_pending_annotation k changes) (λ x. refl) ranges xs ∙ omega arith

not-reached : (k : ℕ) (t : Stamp) → has_occurred_at_stage k t ≡ false → is_of_stage k t ≡ false
not-reached k (Acked s c) h = refl
not-reached k (Local j) h = grind (arith, nat_tests)

count-up_to : (k : ℕ) (xs : List ListElement) → len (is_inserted_by k) (list_up_to k xs) ≡ len (is_inserted_by k) xs
count-up_to k xs =
    len-retain_map (is_upto k) (is_inserted_by k) (element_up_to k) (is_inserted_by k) (record { kept = λ e h. not-reached k e.ins h; same = λ e h. refl }) xs

not-later : (k : ℕ) (t : Stamp) → has_occurred_at_stage k t ≡ true → is_of_stage (suc k) t ≡ false
not-later k (Acked s c) h = refl
not-later k (Local j) h = grind (arith, nat_tests)

pub none-later : (k : ℕ) (xs : List ListElement) → len (is_inserted_by (suc k)) (list_up_to k xs) ≡ 0
none-later k [] = refl
none-later k (e ∷ xs) = grind (arith, none-later k xs, not-later k e.ins)

-- the edit of a stage put in what is of the stage
pub standing-count : (k r c : ℕ) (edit : StageEdit) (xs : List ListElement) → IsStanding k r c edit xs → len (is_inserted_by (suc k)) xs ≡ count_put edit
standing-count k r c edit xs h =
    let added = sym (count-up_to (suc k) xs) ∙ ap (len (is_inserted_by (suc k))) h.made ∙ pending-count r c (suc k) edit (list_up_to k xs) in
    let none = none-later k xs in
    omega arith

made-as : (edit : StageEdit) (n : ℕ) → n + count_put edit ≡ made_after edit n
made-as (PutIn p props items) n = refl
made-as (TakenOut ranges) n = omega arith
made-as (Annotated ranges changes) n = omega arith

-- one list
pub list-acked : (k s c r : ℕ) (by : Option Stamp) (edit : StageEdit) (list : Sequence) → HasAuthor s c by edit → list_all (is_from (suc k)) list.items ≡ true
    → IsStanding k r c edit list.items
    → sequenced_list (acked_list (suc k) s c list) ≡ list_after s c r by edit (sequenced_list list)
list-acked k s c r by edit list a lowest h =
    ap (λ xs. record { items = xs; made = list.made + len (is_inserted_by (suc k)) list.items }) (acknowledged-sequenced k list.made s c r by edit list.items a lowest h)
    ∙ ap (λ n. record { items = after_sequenced s c r list.made by edit (sequenced_elements list.items); made = n })
    (ap (λ n. list.made + n) (standing-count k r c edit list.items h) ∙ made-as edit list.made)

-- ---- authors

chars-author : (s c : ℕ) (text : List ℕ) → HaveAuthor s c (Some (Acked s c)) (map (λ x. Character x) text)
chars-author s c [] = tt
chars-author s c (x ∷ text) = (refl, chars-author s c text)

segment-author : (s c : ℕ) (seg : Seg) → HaveAuthor s c (Some (Acked s c)) (segment_contents seg)
segment-author s c (Chars text) = chars-author s c text
segment-author s c (Marker ref_type) = (refl, tt)

units-author : (s c n : ℕ) → HaveAuthor s c None (replicate n GridUnit)
units-author s c zero = tt
units-author s c (suc n) = (refl, units-author s c n)

text-author : (s c : ℕ) (sent : SentStage) → HasAuthor s c (Some (Acked s c)) (text_edit sent)
text-author s c (TextPut p seg props) = segment-author s c seg
text-author s c (TextTaken ranges) = tt
text-author s c (TextAnnotated ranges changes) = tt
text-author s c (IntervalsChanged op) = tt
text-author s c (UnitsPut target p count) = tt
text-author s c (UnitsTaken target ranges) = tt
text-author s c (CellWritten i j value) = tt

rows-author : (s c : ℕ) (sent : SentStage) → HasAuthor s c None (rows_edit sent)
rows-author s c (TextPut p seg props) = tt
rows-author s c (TextTaken ranges) = tt
rows-author s c (TextAnnotated ranges changes) = tt
rows-author s c (IntervalsChanged op) = tt
rows-author s c (UnitsPut Rows p count) = units-author s c count
rows-author s c (UnitsPut Cols p count) = tt
rows-author s c (UnitsTaken Rows ranges) = tt
rows-author s c (UnitsTaken Cols ranges) = tt
rows-author s c (CellWritten i j value) = tt

cols-author : (s c : ℕ) (sent : SentStage) → HasAuthor s c None (cols_edit sent)
cols-author s c (TextPut p seg props) = tt
cols-author s c (TextTaken ranges) = tt
cols-author s c (TextAnnotated ranges changes) = tt
cols-author s c (IntervalsChanged op) = tt
cols-author s c (UnitsPut Rows p count) = tt
cols-author s c (UnitsPut Cols p count) = units-author s c count
cols-author s c (UnitsTaken Rows ranges) = tt
cols-author s c (UnitsTaken Cols ranges) = tt
cols-author s c (CellWritten i j value) = tt

-- ---- a document

pub slide-ends : (xs : List ListElement) (is : List Interval) → slide_ends (sequenced_elements xs) is ≡ slide_ends xs is
slide-ends xs [] = refl
slide-ends xs (i ∷ is) = rw (slide-sequenced xs i.start, slide-sequenced xs i.end, slide-ends xs is)

-- nothing below stage k is pending in the document
pub record IsLowest (k : ℕ) (doc : Document) : Type 0 where
  pub text : list_all (is_from k) doc.text.items ≡ true
  pub rows : list_all (is_from k) doc.rows.items ≡ true
  pub cols : list_all (is_from k) doc.cols.items ≡ true

abbrev made_of : Document → Sequence → Sequence → Sequence → List Interval → List Cell → Document
made_of doc text rows cols is cells = record (sequenced_part doc) { text = text; rows = rows; cols = cols; intervals = slide_ends text.items is; cells = cells }

stage-acked : (k s c r : ℕ) (rename : ElementId → ElementId) (o : SubOperation) (own : NamedElements) (sent : SentStage) (doc : Document)
    → Tells o sent → IsLowest (suc k) doc → StageStands k r c sent (renamed_names rename own) doc
    → sequenced_part (ack_stage s c rename (record { stage = suc k; sub_operation = o; names = own }) doc)
    ≡ document_after s c r sent (renamed_names rename own) (sequenced_part doc)
stage-acked k s c r rename o own sent doc tells low h =
    let names = renamed_names rename own in
    let text = acked_list (suc k) s c doc.text in
    let rows = acked_list (suc k) s c doc.rows in
    let cols = acked_list (suc k) s c doc.cols in
    let is = intervals_after_stage o names doc.intervals in
    let cells = cells_after_stage o names doc.cells in
    let text' = list_after s c r (Some (Acked s c)) (text_edit sent) (sequenced_list doc.text) in
    let rows' = list_after s c r None (rows_edit sent) (sequenced_list doc.rows) in
    let cols' = list_after s c r None (cols_edit sent) (sequenced_list doc.cols) in
    ap (λ js. record (sequenced_part doc) {
      text = sequenced_list text;
      rows = sequenced_list rows;
      cols = sequenced_list cols;
      intervals = js;
      cells = cells;
    }) (sym (slide-ends text.items is))
    ∙ ap (λ xs. made_of doc xs (sequenced_list rows) (sequenced_list cols) is cells)
    (list-acked k s c r (Some (Acked s c)) (text_edit sent) doc.text (text-author s c sent) low.text h.text)
    ∙ ap (λ xs. made_of doc text' xs (sequenced_list cols) is cells) (list-acked k s c r None (rows_edit sent) doc.rows (rows-author s c sent) low.rows h.rows)
    ∙ ap (λ xs. made_of doc text' rows' xs is cells) (list-acked k s c r None (cols_edit sent) doc.cols (cols-author s c sent) low.cols h.cols)
    ∙ ap (λ js. made_of doc text' rows' cols' js cells) (tells.intervals names doc.intervals)
    ∙ ap (λ js. made_of doc text' rows' cols' (intervals_after_sent sent names doc.intervals) js) (tells.cells names doc.cells)

pub ack_stage-as : (k s c r : ℕ) (rename : ElementId → ElementId) (t : Stage) (sent : SentStage) (doc : Document)
    → t.stage ≡ suc k → Tells t.sub_operation sent → IsLowest (suc k) doc → StageStands k r c sent (renamed_names rename t.names) doc
    → sequenced_part (ack_stage s c rename t doc) ≡ document_after s c r sent (renamed_names rename t.names) (sequenced_part doc)
ack_stage-as k s c r rename t sent doc e tells low h =
    ap (λ j. sequenced_part (ack_stage s c rename (record { stage = j; sub_operation = t.sub_operation; names = t.names }) doc)) e
    ∙ stage-acked k s c r rename t.sub_operation t.names sent doc tells low h

-- what is known of the stage says that it is in range on the document of the messages alone
abbrev agrees_on : ℕ → ℕ → ℕ → ListElement → Bool
agrees_on r c k e = cond (seen_by r c e) (expects r c k e) (not (expects r c k e))

agrees-as : (a b : Bool) → b ≡ a → cond a b (not b) ≡ true
agrees-as true b h = h
agrees-as false b h = ap not h

as-agrees : (a b : Bool) → cond a b (not b) ≡ true → a ≡ b
as-agrees true b h = sym h
as-agrees false true h = (cc)
as-agrees false false h = refl

sequenced-agree : (r c k : ℕ) (xs : List ListElement) → list_all (agrees_on r c k) (sequenced_elements xs) ≡ true
sequenced-agree r c k xs =
    all-retain_map is_sequenced without_pending (agrees_on r c k) (λ e h. agrees-as (seen_by r c (without_pending e)) (expects r c k (without_pending e))
    (expects-seen r c k e h)) xs

pub fits-agreed : (k s c r : ℕ) (sent : SentStage) (names : NamedElements) (doc : Document) → IsLowest (suc k) doc → StageStands k r c sent names doc
    → FitsAgreed s c r sent names (sequenced_part doc)
fits-agreed k s c r sent names doc low h =
    let test = expects r c (suc (suc k)) in
    let agree = λ (xs : List ListElement). seen-agree (agrees_on r c (suc (suc k))) test (seen_by r c) (λ e g. as-agrees (seen_by r c e) (test e) g)
    (sequenced_elements xs) (sequenced-agree r c (suc (suc k)) xs) in
    let here : NamesBy test (sequenced_elements doc.text.items) (sequenced_elements doc.rows.items) (sequenced_elements doc.cols.items) sent names =
    subst (λ xs. NamesBy test xs (sequenced_elements doc.rows.items) (sequenced_elements doc.cols.items) sent names) (list_up_to-lowest k doc.text.items low.text)
    (subst (λ xs. NamesBy test (list_up_to k doc.text.items) xs (sequenced_elements doc.cols.items) sent names) (list_up_to-lowest k doc.rows.items low.rows)
    (subst (λ xs. NamesBy test (list_up_to k doc.text.items) (list_up_to k doc.rows.items) xs sent names) (list_up_to-lowest k doc.cols.items low.cols) h.named)) in
    record {
      text = acknowledged-fits k s c r (text_edit sent) doc.text.items low.text h.text;
      rows = acknowledged-fits k s c r (rows_edit sent) doc.rows.items low.rows h.rows;
      cols = acknowledged-fits k s c r (cols_edit sent) doc.cols.items low.cols h.cols;
      named =
          subst (λ n. NamesBy (seen_by r c) (sequenced_elements doc.text.items) (sequenced_elements doc.rows.items) (sequenced_elements doc.cols.items) sent n)
          (names-not_renamed names)
          (names-as test (seen_by r c) (λ x. x) (sequenced_elements doc.text.items) (sequenced_elements doc.text.items) (sequenced_elements doc.rows.items)
          (sequenced_elements doc.rows.items) (sequenced_elements doc.cols.items) (sequenced_elements doc.cols.items)
          (agree doc.text.items) (agree doc.rows.items) (agree doc.cols.items) sent names here);
    }

-- the acknowledgement of the lowest stage is the effect of its sub-operations
pub stage-effects : (k s c r : ℕ) (rename : ElementId → ElementId) (t : Stage) (sent : SentStage) (doc : Document)
    → t.stage ≡ suc k → Tells t.sub_operation sent → IsLowest (suc k) doc → IsSound (sequenced_part doc) → StageStands k r c sent (renamed_names rename t.names) doc
    → sequenced_part (ack_stage s c rename t doc) ≡ effects (sequenced_part doc) s c r (told_as sent)
stage-effects k s c r rename t sent doc e tells low sound h =
    ack_stage-as k s c r rename t sent doc e tells low h
    ∙ sym (effects-stage s c r sent (renamed_names rename t.names) (sequenced_part doc) sound (fits-agreed k s c r sent (renamed_names rename t.names) doc low h))
