-- What holds of the document that well-formed messages make: a valid summary can be written of it.
use Rattle.std.proofs.Common.{◌≡◌, ℕ, ◌+◌, ◌≤◌, ◌<◌, Bool, true, false, cond, not, ◌&&◌, ◌||◌, nat_eq, nat_le, List, [], ◌∷◌, filter, replicate, Option, Some, None, refl, sym, subst, arith}
use Rattle.std.specs.Bool.{⊤}
use Rattle.ft_base.specs.declared.stamps.Stamp.{Stamp}
use Rattle.ft_base.specs.declared.stamps.Stamp.TheVariants.{Acked, Local}
use Rattle.std.proofs.lemmas.Bool.Decides.{nat_tests}
use Rattle.ft_base.specs.Scan.{at, change_range, len}
use Rattle.ft_props.specs.Properties.{PropertyList, ValueBytes, apply}
use Rattle.ft_props.specs.Element.{ElementContent, GridUnit, ListElement, id, is_pending, new_elements, seen_by, with_annotation, with_removal}
use Rattle.ft_props.specs.Steps.{after_insertion, after_removal}
use Rattle.ft_op.specs.declared.operations.BaseOp.{BaseOp}
use Rattle.ft_op.specs.declared.operations.BaseOp.TheVariants.{Insert, Remove, Annotate}
use Rattle.ft_op.specs.declared.operations.CellOp.{CellOp}
use Rattle.ft_op.specs.declared.operations.CellOp.TheVariants.{SpliceIn, SpliceOut, Set}
use Rattle.ft_op.specs.declared.operations.Seg.{Seg}
use Rattle.ft_op.specs.declared.operations.Seg.TheVariants.{Chars, Marker}
use Rattle.ft_op.specs.declared.operations.Target.TheVariants.{Rows, Cols}
use Rattle.ft_op.specs.declared.operations.TextOp.{TextOp}
use Rattle.ft_op.specs.Cells.{Cell, is_cell, is_null, put_cell, write_cell}
use Rattle.ft_op.specs.Document.{Document, cell_effect, effect, effects, elements_at_given_ends, empty, ends_of, given_ends_fit, grid_effect, interval_effect, text_effect, with_skip}
use Rattle.ft_op.specs.Intervals.{after_interval_operation}
use Rattle.ft_op.specs.Operation.{OnGrid, OnIntervals, OnText, SubOperation, segment_contents, sub_operations}
use Rattle.ft_op.specs.WellFormed.{IsPropertySet, IsWellFormedBase, IsWellFormedCell, IsWellFormedText, is_segment}
use Rattle.ft_json.specs.Canonical.{IsTextWithin}
use Rattle.ft_sumdoc.specs.Forms.{rises}
use Rattle.ft_sumdoc.specs.Valid.{HasValues, IsValue, is_segment_body}
use Rattle.ft_msg.specs.declared.messages.Body.{Body}
use Rattle.ft_msg.specs.declared.messages.Body.TheVariants.{Nothing, Op, Elsewhere}
use Rattle.ft_msg.specs.declared.messages.Entry.{Entry}
use Rattle.ft_msg.specs.Agreed.{body_effect, reference_number, take_entries, take_entry}
use Rattle.ft_msg.specs.Process.{is_op}
use Rattle.ft_msg.specs.SummaryOf.{element_body}
use Rattle.ft_msg.specs.WellFormed.{IsWellFormedBody}
use Rattle.ft_laws_agreement.specs.Sequencing.{Each}
use Rattle.ft_laws_agreement.specs.Trimming.{IsConsistent}
use Rattle.ft_laws_agreement.proofs.ConsistentDocument.{effect-consistent, take_entry-consistent}
use Rattle.ft_laws_agreement.proofs.HeldNames.{all-range}
use Rattle.ft_laws_agreement.proofs.OwnNames.{insertion-numbered, range-numbered}
use Rattle.ft_laws_summaries.proofs.FormedClients.{IsFormedSub, interval-ordered, subs-formed}
use Rattle.ft_laws_summaries.proofs.Lists.{each-filtered, each-put, each-range, each-weaker}
use Rattle.ft_laws_summaries.proofs.OrderedEnds.{carries-put, carries-range}
use Rattle.ft_laws_summaries.proofs.SummaryLists.{IsPlain, body-plain, effect-plain, is_plain, removal-plain}
use Rattle.ft_laws_summaries.proofs.ValidElements.{IsDate, IsDated, date-dated, dated-weaker, is_dated, new-dated, removal-dated, stamp-begins, stamp-ends}
use Rattle.ft_laws_summaries.proofs.ValidIntervals.{IsValidInterval, intervals-carried, is_before, operation-rises, operation-valid, slide-rises, slides-valid}
use Rattle.ft_laws_summaries.proofs.ValidValues.{apply-values, change-values}

-- whether the author isn't known, or is that of a message at or below the minimum
abbrev pub is_old_author : ℕ → ℕ → Stamp → Bool
is_old_author min n (Acked t d) = nat_eq t 0 && nat_eq d 0 || nat_le 1 t && nat_le t min && nat_le 1 d && nat_le d n
is_old_author min n (Local k) = false

-- an element's author is that of its insertion; or the insertion is the universal one, and the author old or not known
pub data HasAuthor (s c n min : ℕ) (ins : Stamp) (by : Option Stamp) : Type 0 where
  own : by ≡ Some ins → is_dated s c n ins ≡ true → HasAuthor s c n min ins by
  old : (author : Stamp) → ins ≡ Acked 0 0 → by ≡ Some author → is_old_author min n author ≡ true → HasAuthor s c n min ins by

-- an element of the text whose stamps are in range and order, with an author, and with content and values that a summary may have
pub record IsValidText (s c n min : ℕ) (e : ListElement) : Type 0 where
  pub dated : IsDated s c n e
  pub by : HasAuthor s c n min e.ins e.by
  pub body : is_segment_body (element_body e.content) ≡ true
  pub props : HasValues e.props

-- a document of such elements, intervals and cells
pub record IsValidDocument (s c n min : ℕ) (doc : Document) : Type 0 where
  pub text : Each (IsValidText s c n min) doc.text.items
  pub rows : Each (IsDated s c n) doc.rows.items
  pub cols : Each (IsDated s c n) doc.cols.items
  pub intervals : Each (IsValidInterval doc.text.items) doc.intervals
  pub order : rises is_before doc.intervals ≡ true
  pub cells : Each (λ cell. IsValue cell.value) doc.cells

valid-choice : (s c n min : ℕ) (b : Bool) (p q : Document) → (b ≡ true → IsValidDocument s c n min p) → IsValidDocument s c n min q → IsValidDocument s c n min (cond b p q)
valid-choice s c n min true p q f g = f refl
valid-choice s c n min false p q f g = g

skip-valid : (s c n min : ℕ) (doc : Document) → IsValidDocument s c n min doc → IsValidDocument s c n min (with_skip doc)
skip-valid s c n min doc h = record { text = h.text; rows = h.rows; cols = h.cols; intervals = h.intervals; order = h.order; cells = h.cells }

-- ---- new elements

contents-valid : (seg : Seg) → is_segment seg ≡ true → Each (λ b. is_segment_body (element_body b) ≡ true) (segment_contents seg)
contents-valid (Chars text) h = all text
  where
    all : (cs : List ℕ) → Each (λ b. is_segment_body (element_body b) ≡ true) (segment_contents (Chars cs))
    all [] = tt
    all (c ∷ cs) = (refl, all cs)
contents-valid (Marker r) h = (h, tt)

new-valid : (s c n min m : ℕ) (props : PropertyList) (bs : List ElementContent) → IsDate s c n → HasValues props → Each (λ b. is_segment_body (element_body b) ≡ true) bs
    → Each (IsValidText s c n min) (new_elements m (Acked s c) [] (Some (Acked s c)) props bs)
new-valid s c n min m props [] d v h = tt
new-valid s c n min m props (b ∷ bs) d v h = (
  record { dated = (new-dated s c n m (Some (Acked s c)) props (b ∷ []) d).0; by = own refl (date-dated s c n d); body = h.0; props = v },
  new-valid s c n min (m + 1) props bs d v h.1,
)

-- ---- cells

put-value : (cell : Cell) (cells : List Cell) → IsValue cell.value → Each (λ (c : Cell). IsValue c.value) cells → Each (λ (c : Cell). IsValue c.value) (put_cell cell cells)
put-value cell [] v h = (v, tt)
put-value cell (other ∷ cells) v h = by (put-value cell cells v h.1) (is_cell cell.row cell.col other)
  where
    by : Each (λ (c : Cell). IsValue c.value) (put_cell cell cells) → (b : Bool) → Each (λ (c : Cell). IsValue c.value) (cond b (cell ∷ cells) (other ∷ put_cell cell cells))
    by ih true = (v, h.1)
    by ih false = (h.0, ih)

write-value : (cell : Cell) (cells : List Cell) → IsTextWithin 100 cell.value → Each (λ (c : Cell). IsValue c.value) cells
    → Each (λ (c : Cell). IsValue c.value) (write_cell cell cells)
write-value cell cells v h = by (is_null cell.value) refl
  where
    by : (b : Bool) → is_null cell.value ≡ b
        → Each (λ (c : Cell). IsValue c.value) (cond b (filter (λ other. not (is_cell cell.row cell.col other)) cells) (put_cell cell cells))
    by true e = each-filtered (λ (c : Cell). IsValue c.value) (λ other. not (is_cell cell.row cell.col other)) cells h
    by false e = put-value cell cells (v, e) h

cell-valid : (s c n min : ℕ) (doc : Document) (row col : Option ListElement) (value : ValueBytes) → IsTextWithin 100 value → IsValidDocument s c n min doc
    → IsValidDocument s c n min (cell_effect doc row col value)
cell-valid s c n min doc (Some row) (Some col) value v h = record {
  text = h.text;
  rows = h.rows;
  cols = h.cols;
  intervals = h.intervals;
  order = h.order;
  cells = write-value (record { row = id row; col = id col; value = value }) doc.cells v h.cells;
}
cell-valid s c n min doc (Some row) None value v h = skip-valid s c n min doc h
cell-valid s c n min doc None col value v h = skip-valid s c n min doc h

-- ---- effects

module _ (s c n min r : ℕ) (date : IsDate s c n) where
  text-removal : (e : ListElement) → IsValidText s c n min e → seen_by r c e ≡ true → IsValidText s c n min (with_removal s c e)
  text-removal e h g = record { dated = removal-dated s c n r e date h.dated g; by = h.by; body = h.body; props = h.props }

  insert-valid : (doc : Document) (p : ℕ) (seg : Seg) (props : List (List ℕ × Option (List ℕ))) → is_segment seg ≡ true → IsPropertySet props → IsConsistent doc
      → IsValidDocument s c n min doc → IsValidDocument s c n min (text_effect doc s c r (Insert p seg props))
  insert-valid doc p seg props f g k h =
      let new = new_elements doc.text.made (Acked s c) [] (Some (Acked s c)) (apply [] props) (segment_contents seg) in
      let list = after_insertion s c r p (Some (Acked s c)) (apply [] props) (segment_contents seg) doc.text in
      let distinct = (insertion-numbered s c r p (Some (Acked s c)) (apply [] props) (segment_contents seg) doc.text k.text).distinct in
      valid-choice s c n min (nat_le p (len (seen_by r c) doc.text.items)) (record doc { text = list }) (with_skip doc)
      (λ e. record {
        text = each-put (IsValidText s c n min) (seen_by r c) is_pending p new doc.text.items
            (new-valid s c n min doc.text.made (apply [] props) (segment_contents seg) date (apply-values [] props g tt) (contents-valid seg f)) h.text;
        rows = h.rows;
        cols = h.cols;
        intervals = intervals-carried doc.text.items list.items doc.intervals (carries-put (seen_by r c) is_pending p new doc.text.items) distinct h.intervals;
        order = h.order;
        cells = h.cells;
      }) (skip-valid s c n min doc h)

  remove-valid : (doc : Document) (p q : ℕ) → IsPlain doc → IsConsistent doc → IsValidDocument s c n min doc → IsValidDocument s c n min (text_effect doc s c r (Remove p q))
  remove-valid doc p q l k h =
      let list = after_removal s c r p q doc.text in
      let distinct = (range-numbered (seen_by r c) (with_removal s c) (λ e. refl) (λ e. refl) (λ e. refl) p q doc.text k.text).distinct in
      let plain = all-range is_plain (seen_by r c) (with_removal s c) (removal-plain s c) 0 p q doc.text.items l.text in
      valid-choice s c n min (nat_le q (len (seen_by r c) doc.text.items)) _ (with_skip doc)
      (λ e. record {
        text = each-range (IsValidText s c n min) (seen_by r c) (with_removal s c) (λ d v g. text-removal d v g) 0 p q doc.text.items h.text;
        rows = h.rows;
        cols = h.cols;
        intervals = slides-valid list.items doc.intervals plain distinct
            (intervals-carried doc.text.items list.items doc.intervals (carries-range (seen_by r c) (with_removal s c) (λ d. refl) p q 0 doc.text.items) distinct h.intervals);
        order = slide-rises list.items doc.intervals h.order;
        cells = h.cells;
      }) (skip-valid s c n min doc h)

  text-valid : (doc : Document) (op : BaseOp) → IsWellFormedBase op → IsPlain doc → IsConsistent doc → IsValidDocument s c n min doc
      → IsValidDocument s c n min (text_effect doc s c r op)
  text-valid doc (Insert p seg props) f l k h = insert-valid doc p seg props f.1 f.2 k h
  text-valid doc (Remove p q) f l k h = remove-valid doc p q l k h
  text-valid doc (Annotate p q changes) f l k h =
      let items = change_range (seen_by r c) p q (with_annotation changes) doc.text.items in
      let distinct = (range-numbered (seen_by r c) (with_annotation changes) (λ e. refl) (λ e. refl) (λ e. refl) p q doc.text k.text).distinct in
      valid-choice s c n min (nat_le q (len (seen_by r c) doc.text.items)) _ (with_skip doc)
      (λ e. record {
        text = each-range (IsValidText s c n min) (seen_by r c) (with_annotation changes)
            (λ d v g. record {
              dated = record { ins = v.dated.ins; dels = v.dated.dels; rising = v.dated.rising };
              by = v.by;
              body = v.body;
              props = change-values d.props changes f.1 v.props;
            }) 0 p q doc.text.items h.text;
        rows = h.rows;
        cols = h.cols;
        intervals = intervals-carried doc.text.items items doc.intervals
            (carries-range (seen_by r c) (with_annotation changes) (λ d. refl) p q 0 doc.text.items) distinct h.intervals;
        order = h.order;
        cells = h.cells;
      }) (skip-valid s c n min doc h)

  interval-valid : (doc : Document) (op : TextOp) → IsWellFormedText op → IsPlain doc → IsConsistent doc → IsValidDocument s c n min doc
      → IsValidDocument s c n min (interval_effect doc c r op)
  interval-valid doc op f l k h =
      let xs = doc.text.items in
      let names = elements_at_given_ends (seen_by r c) xs (ends_of op) in
      valid-choice s c n min (given_ends_fit (len (seen_by r c) xs) (ends_of op)) _ (with_skip doc)
      (λ e.
      let at = interval-ordered (seen_by r c) xs op f e k.text.distinct in
      record {
        text = h.text;
        rows = h.rows;
        cols = h.cols;
        intervals = slides-valid xs (after_interval_operation op names doc.intervals) l.text k.text.distinct
            (operation-valid xs op names doc.intervals f at.0 at.1 h.intervals);
        order = slide-rises xs (after_interval_operation op names doc.intervals) (operation-rises op names doc.intervals h.order);
        cells = h.cells;
      }) (skip-valid s c n min doc h)

  grid-valid : (doc : Document) (op : CellOp) → IsWellFormedCell op → IsValidDocument s c n min doc → IsValidDocument s c n min (grid_effect doc s c r op)
  grid-valid doc (SpliceIn Rows p count) f h =
      valid-choice s c n min (nat_le p (len (seen_by r c) doc.rows.items)) _ (with_skip doc)
      (λ e. record {
        text = h.text;
        rows = each-put (IsDated s c n) (seen_by r c) is_pending p (new_elements doc.rows.made (Acked s c) [] None [] (replicate count GridUnit)) doc.rows.items
            (new-dated s c n doc.rows.made None [] (replicate count GridUnit) date) h.rows;
        cols = h.cols;
        intervals = h.intervals;
        order = h.order;
        cells = h.cells;
      }) (skip-valid s c n min doc h)
  grid-valid doc (SpliceIn Cols p count) f h =
      valid-choice s c n min (nat_le p (len (seen_by r c) doc.cols.items)) _ (with_skip doc)
      (λ e. record {
        text = h.text;
        rows = h.rows;
        cols = each-put (IsDated s c n) (seen_by r c) is_pending p (new_elements doc.cols.made (Acked s c) [] None [] (replicate count GridUnit)) doc.cols.items
            (new-dated s c n doc.cols.made None [] (replicate count GridUnit) date) h.cols;
        intervals = h.intervals;
        order = h.order;
        cells = h.cells;
      }) (skip-valid s c n min doc h)
  grid-valid doc (SpliceOut Rows p q) f h =
      valid-choice s c n min (nat_le q (len (seen_by r c) doc.rows.items)) _ (with_skip doc)
      (λ e. record {
        text = h.text;
        rows = each-range (IsDated s c n) (seen_by r c) (with_removal s c) (λ d v g. removal-dated s c n r d date v g) 0 p q doc.rows.items h.rows;
        cols = h.cols;
        intervals = h.intervals;
        order = h.order;
        cells = h.cells;
      }) (skip-valid s c n min doc h)
  grid-valid doc (SpliceOut Cols p q) f h =
      valid-choice s c n min (nat_le q (len (seen_by r c) doc.cols.items)) _ (with_skip doc)
      (λ e. record {
        text = h.text;
        rows = h.rows;
        cols = each-range (IsDated s c n) (seen_by r c) (with_removal s c) (λ d v g. removal-dated s c n r d date v g) 0 p q doc.cols.items h.cols;
        intervals = h.intervals;
        order = h.order;
        cells = h.cells;
      }) (skip-valid s c n min doc h)
  grid-valid doc (Set i j value) f h =
      cell-valid s c n min doc (at (seen_by r c) i doc.rows.items) (at (seen_by r c) j doc.cols.items) value f.2 h

  effect-valid : (doc : Document) (o : SubOperation) → IsFormedSub o → IsPlain doc → IsConsistent doc → IsValidDocument s c n min doc
      → IsValidDocument s c n min (effect doc s c r o)
  effect-valid doc (OnText op) f l k h = text-valid doc op f l k h
  effect-valid doc (OnIntervals op) f l k h = interval-valid doc op f l k h
  effect-valid doc (OnGrid op) f l k h = grid-valid doc op f h

  effects-valid : (os : List SubOperation) (doc : Document) → Each IsFormedSub os → IsPlain doc → IsConsistent doc → IsValidDocument s c n min doc
      → IsValidDocument s c n min (effects doc s c r os)
  effects-valid [] doc f l k h = h
  effects-valid (o ∷ os) doc f l k h =
      effects-valid os (effect doc s c r o) f.1 (effect-plain s c r doc o l) (effect-consistent doc s c r o k) (effect-valid doc o f.0 l k h)

  body-valid : (b : Body) (doc : Document) → IsWellFormedBody b → IsPlain doc → IsConsistent doc → IsValidDocument s c n min doc
      → IsValidDocument s c n min (body_effect doc s c r b)
  body-valid Nothing doc f l k h = h
  body-valid (Op op) doc f l k h = effects-valid (sub_operations op) doc (subs-formed op f) l k h
  body-valid (Elsewhere address) doc f l k h =
      record { text = h.text; rows = h.rows; cols = h.cols; intervals = h.intervals; order = h.order; cells = h.cells }

-- ---- messages

-- an author of a wider range
author-weaker : (s c t d n low high : ℕ) → low ≤ high → ((u : Stamp) → is_dated s c n u ≡ true → is_dated t d n u ≡ true) → (ins : Stamp) (by : Option Stamp)
    → HasAuthor s c n low ins by → HasAuthor t d n high ins by
author-weaker s c t d n low high l f ins by (own e g) = own e (f ins g)
author-weaker s c t d n low high l f ins by (old author i e g) = old author i e (older author g)
  where
    older : (u : Stamp) → is_old_author low n u ≡ true → is_old_author high n u ≡ true
    older (Acked i j) o = grind (arith, nat_tests, l)
    older (Local k) o = (cc)

document-weaker : (s c t d n low high : ℕ) (doc : Document) → low ≤ high → ((u : Stamp) → is_dated s c n u ≡ true → is_dated t d n u ≡ true) → IsValidDocument s c n low doc
    → IsValidDocument t d n high doc
document-weaker s c t d n low high doc l f h = record {
  text = each-weaker (IsValidText s c n low) (IsValidText t d n high)
      (λ e v. record { dated = dated-weaker s c t d n f e v.dated; by = author-weaker s c t d n low high l f e.ins e.by v.by; body = v.body; props = v.props }) doc.text.items
      h.text;
  rows = each-weaker (IsDated s c n) (IsDated t d n) (dated-weaker s c t d n f) doc.rows.items h.rows;
  cols = each-weaker (IsDated s c n) (IsDated t d n) (dated-weaker s c t d n f) doc.cols.items h.cols;
  intervals = h.intervals;
  order = h.order;
  cells = h.cells;
}

-- a document of messages of n connections, its minimum at most its number
pub record IsMadeBy (n : ℕ) (doc : Document) : Type 0 where
  pub plain : IsPlain doc
  pub consistent : IsConsistent doc
  pub valid : IsValidDocument (doc.number + 1) 0 n doc.minimum doc
  pub numbers : doc.minimum ≤ doc.number

-- an entry that may come next: it has the next number, and a minimum from the last one up to its own number
pub record IsNext (number minimum : ℕ) (e : Entry) : Type 0 where
  pub seq : e.msg.seq ≡ number + 1
  pub later : minimum ≤ e.msg.min
  pub below : e.msg.min ≤ e.msg.seq

-- each comes next behind the ones before it
abbrev pub AreNext : ℕ → ℕ → List Entry → Type 0
AreNext number minimum [] = ⊤
AreNext number minimum (e ∷ es) = IsNext number minimum e × AreNext (number + 1) e.msg.min es

-- a message by one of n connections, or by nobody where it isn't an operation, whose body is well formed
pub record IsFrom (n : ℕ) (e : Entry) : Type 0 where
  pub body : IsWellFormedBody e.msg.body
  pub known : is_op e.msg.body ≡ true → 1 ≤ e.origin
  pub within : e.origin ≤ n

body-taken : (s c n min r : ℕ) (b : Body) (doc : Document) → 0 < s → (is_op b ≡ true → 1 ≤ c) → c ≤ n → IsWellFormedBody b → IsPlain doc → IsConsistent doc
    → IsValidDocument s c n min doc → IsValidDocument s c n min (body_effect doc s c r b)
body-taken s c n min r Nothing doc q a w f l k h = h
body-taken s c n min r (Op op) doc q a w f l k h = let known = a refl in body-valid s c n min r (record { seq = q; conn = omega (arith, known); known = w }) (Op op) doc f l k h
body-taken s c n min r (Elsewhere address) doc q a w f l k h =
    record { text = h.text; rows = h.rows; cols = h.cols; intervals = h.intervals; order = h.order; cells = h.cells }

entry-made : (n : ℕ) (doc : Document) (e : Entry) → IsNext doc.number doc.minimum e → IsFrom n e → IsMadeBy n doc → IsMadeBy n (take_entry doc e)
entry-made n doc e next from h =
    let s = e.msg.seq in
    let q = next.seq in
    let r = reference_number e.msg.ref_seq in
    let before = subst (λ t. IsValidDocument t 0 n doc.minimum doc) (sym q) h.valid in
    let begun = document-weaker s 0 s e.origin n doc.minimum e.msg.min doc next.later (stamp-begins s e.origin n) before in
    let after = body-taken s e.origin n e.msg.min r e.msg.body doc (omega (arith, q)) from.known from.within from.body h.plain h.consistent begun in
    let ended = document-weaker s e.origin (s + 1) 0 n e.msg.min e.msg.min (body_effect doc s e.origin r e.msg.body) (omega arith) (stamp-ends s e.origin n) after in
    let plain = body-plain s e.origin r e.msg.body doc h.plain in
    record {
      plain = record { text = plain.text; rows = plain.rows; cols = plain.cols };
      consistent = take_entry-consistent doc e h.consistent;
      valid = record { text = ended.text; rows = ended.rows; cols = ended.cols; intervals = ended.intervals; order = ended.order; cells = ended.cells };
      numbers = next.below;
    }

pub entries-made : (n : ℕ) (es : List Entry) (doc : Document) → AreNext doc.number doc.minimum es → Each (IsFrom n) es → IsMadeBy n doc → IsMadeBy n (take_entries doc es)
entries-made n [] doc o f h = h
entries-made n (e ∷ es) doc o f h =
    entries-made n es (take_entry doc e) (subst (λ i. AreNext i e.msg.min es) (sym o.0.seq) o.1) f.1 (entry-made n doc e o.0 f.0 h)

pub empty-made : (n : ℕ) → IsMadeBy n empty
empty-made n = record {
  plain = record { text = refl; rows = refl; cols = refl };
  consistent = record {
    text = record { below = refl; distinct = refl };
    rows = record { below = refl; distinct = refl };
    cols = record { below = refl; distinct = refl };
    ends = refl;
    cells = refl;
  };
  valid = record { text = tt; rows = tt; cols = tt; intervals = tt; order = refl; cells = tt };
  numbers = omega arith;
}
