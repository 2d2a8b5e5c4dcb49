-- The client's own sub-operations, each at the next stage, keep what is known of a document.
use Rattle.std.proofs.Common.{◌≡◌, ℕ, suc, ◌+◌, ◌-◌, Bool, true, false, cond, not, nat_le, List, [], ◌∷◌, ◌++◌, Option, Some, None, Result, Ok, Err, append-nil, append_assoc, length, map, replicate, refl, sym, ◌∙◌, ap, subst, arith}
use Rattle.std.specs.List.{flat_map}
use Rattle.std.specs.Option.{option_map}
use Rattle.ft_base.specs.declared.stamps.Stamp.TheVariants.{Local}
use Rattle.ft_base.specs.Scan.{at, change_range, len, no_run, put}
use Rattle.ft_op.specs.declared.operations.BaseOp.{BaseOp}
use Rattle.ft_op.specs.declared.operations.BaseOp.TheVariants.{Insert, Remove, Annotate}
use Rattle.ft_op.specs.declared.operations.CellOp.{CellOp}
use Rattle.ft_op.specs.declared.operations.CellOp.TheVariants.{SpliceIn, SpliceOut, Set}
use Rattle.ft_op.specs.declared.operations.Target.TheVariants.{Rows, Cols}
use Rattle.ft_op.specs.declared.operations.TextOp.{TextOp}
use Rattle.ft_op.specs.declared.operations.TextOp.TheVariants.{IntervalDelete}
use Rattle.ft_msg.specs.declared.faults.EditFault.{EditFault}
use Rattle.ft_msg.specs.declared.faults.EditFault.TheVariants.{OutOfRange}
use Rattle.ft_props.specs.Properties.{PropertyList, ValueBytes, apply}
use Rattle.ft_props.specs.Element.{ElementContent, GridUnit, ListElement, id, new_elements, seen, with_pending_annotation, with_pending_removal}
use Rattle.ft_props.specs.Steps.{Sequence, after_local_insertion, after_local_mark, sequenced_list}
use Rattle.ft_props.proofs.RebuiltList.{pred_suc}
use Rattle.ft_op.specs.Operation.{OnGrid, OnIntervals, OnText, SubOperation, segment_contents}
use Rattle.ft_op.specs.Intervals.{NamedElements, no_elements}
use Rattle.ft_op.specs.Document.{Document, elements_at_given_ends, ends_of, given_ends_fit, sequenced_part}
use Rattle.ft_op.specs.Stages.{Stage, shown_intervals}
use Rattle.ft_msg.specs.Client.{EditResult, id_fault, local_grid, local_interval, local_set, local_sub_operation, local_sub_operations, local_text, unless_fault}
use Rattle.ft_laws_agreement.proofs.StageEdits.{StageEdit, PutIn, TakenOut, Annotated}
use Rattle.ft_laws_agreement.proofs.SentStages.{SentStage, TextPut, TextTaken, TextAnnotated, IntervalsChanged, UnitsPut, UnitsTaken, CellWritten, IsOneName, IsPlaced, NamesBy, Tells, are_given, cols_edit, ends_alike, rows_edit, text_edit, told_as}
use Rattle.ft_laws_agreement.proofs.ToldStages.{Holds, ToldStage}
use Rattle.ft_laws_agreement.proofs.AcknowledgedEdit.{AllRef}
use Rattle.ft_laws_agreement.proofs.HoldsAfterOwn.{IsOwn, IsOwnStep, own-holds, own-sequenced, untouched}
use Rattle.ft_laws_agreement.proofs.NumberTests.{one-test}

-- how a message tells a sub-operation as it was typed
abbrev pub told_of : SubOperation → SentStage
told_of (OnText (Insert p seg props)) = TextPut p seg props
told_of (OnText (Remove p q)) = TextTaken ((p, q) ∷ [])
told_of (OnText (Annotate p q changes)) = TextAnnotated ((p, q) ∷ []) changes
told_of (OnIntervals op) = IntervalsChanged op
told_of (OnGrid (SpliceIn target p count)) = UnitsPut target p count
told_of (OnGrid (SpliceOut target p q)) = UnitsTaken target ((p, q) ∷ [])
told_of (OnGrid (Set i j value)) = CellWritten i j value

pub told_as-told_of : (o : SubOperation) → told_as (told_of o) ≡ o ∷ []
told_as-told_of (OnText (Insert p seg props)) = refl
told_as-told_of (OnText (Remove p q)) = refl
told_as-told_of (OnText (Annotate p q changes)) = refl
told_as-told_of (OnIntervals op) = refl
told_as-told_of (OnGrid (SpliceIn target p count)) = refl
told_as-told_of (OnGrid (SpliceOut target p q)) = refl
told_as-told_of (OnGrid (Set i j value)) = refl

alike-itself : (op : TextOp) → ends_alike (OnIntervals op) op ≡ true
alike-itself op = either (are_given (ends_of op))
  where
    either : (b : Bool) → cond b b (not b) ≡ true
    either true = refl
    either false = refl

-- it is told where it was typed
typed-place : (o : SubOperation) → IsPlaced o (told_of o)
typed-place (OnText (Insert p seg props)) = record { first = p; second = 0; ranges = []; other = IntervalDelete [] []; alike = refl; made = refl }
typed-place (OnText (Remove p q)) = record { first = 0; second = 0; ranges = (p, q) ∷ []; other = IntervalDelete [] []; alike = refl; made = refl }
typed-place (OnText (Annotate p q changes)) = record { first = 0; second = 0; ranges = (p, q) ∷ []; other = IntervalDelete [] []; alike = refl; made = refl }
typed-place (OnIntervals op) = record { first = 0; second = 0; ranges = []; other = op; alike = alike-itself op; made = refl }
typed-place (OnGrid (SpliceIn target p count)) = record { first = p; second = 0; ranges = []; other = IntervalDelete [] []; alike = refl; made = refl }
typed-place (OnGrid (SpliceOut target p q)) = record { first = 0; second = 0; ranges = (p, q) ∷ []; other = IntervalDelete [] []; alike = refl; made = refl }
typed-place (OnGrid (Set i j value)) = record { first = i; second = j; ranges = []; other = IntervalDelete [] []; alike = refl; made = refl }

pub tells-told_of : (o : SubOperation) → Tells o (told_of o)
tells-told_of (OnText (Insert p seg props)) = record {
  place = typed-place (OnText (Insert p seg props));
  intervals = λ names is. refl;
  cells = λ names cells.
      refl;
  made = λ doc. refl;
}
tells-told_of (OnText (Remove p q)) = record { place = typed-place (OnText (Remove p q)); intervals = λ names is. refl; cells = λ names cells. refl; made = λ doc. refl }
tells-told_of (OnText (Annotate p q changes)) = record {
  place = typed-place (OnText (Annotate p q changes));
  intervals = λ names is. refl;
  cells = λ names
      cells. refl;
  made = λ doc. refl;
}
tells-told_of (OnIntervals op) = record { place = typed-place (OnIntervals op); intervals = λ names is. refl; cells = λ names cells. refl; made = λ doc. refl }
tells-told_of (OnGrid (SpliceIn target p count)) = record {
  place = typed-place (OnGrid (SpliceIn target p count));
  intervals = λ names is. refl;
  cells =
      λ names cells. refl;
  made = λ doc. refl;
}
tells-told_of (OnGrid (SpliceOut target p q)) = record {
  place = typed-place (OnGrid (SpliceOut target p q));
  intervals = λ names is. refl;
  cells = λ names
      cells. refl;
  made = λ doc. refl;
}
tells-told_of (OnGrid (Set i j value)) = record { place = typed-place (OnGrid (Set i j value)); intervals = λ names is. refl; cells = λ names cells. refl; made = λ doc. refl }

-- ---- what an answer that isn't a fault says

pub ok-choice : {A E : Type 0} (b : Bool) (x z : A) (f : E) → cond b (Ok x) (Err f) ≡ Ok z → (b ≡ true) × (x ≡ z)
ok-choice true x z f h = (refl, (cc))
ok-choice false x z f h = (cc)

module _ (k : ℕ) where
  put-step : (p : ℕ) (props : PropertyList) (items : List ElementContent) (list : Sequence) → nat_le p (len (seen (suc k - 1)) list.items) ≡ true
      → IsOwnStep k (PutIn p props items) list.items (after_local_insertion (suc k) p props items list).items
  put-step p props items list h = record {
    one = refl;
    fits = ap (λ i. nat_le p (len (seen i) list.items)) (sym (pred_suc k)) ∙ h;
    made = ap (λ i. put (seen i) no_run p (new_elements 0 (Local (suc k)) [] None props items) list.items) (pred_suc k);
  }

  removal-step : (p q : ℕ) (list : Sequence) → nat_le q (len (seen (suc k - 1)) list.items) ≡ true
      → IsOwnStep k (TakenOut ((p, q) ∷ [])) list.items (after_local_mark (suc k) p q (with_pending_removal (suc k)) list).items
  removal-step p q list h = record {
    one = refl;
    fits = one-test q (len (seen k) list.items) (ap (λ i. nat_le q (len (seen i) list.items)) (sym (pred_suc k)) ∙ h);
    made = ap (λ i. change_range (seen i) p q (with_pending_removal (suc k)) list.items) (pred_suc k);
  }

  list-agrees : (edit : StageEdit) (list : Sequence) (ys : List ListElement) → IsOwnStep k edit list.items ys → sequenced_list (record list { items = ys }) ≡ sequenced_list list
  list-agrees edit list ys o = ap (λ zs. sequenced_list (record list { items = zs })) o.made ∙ ap (λ zs. record list { items = zs }) (own-sequenced k edit list.items)

  text-own : (doc : Document) (op : BaseOp) (ys : List ListElement) → IsOwnStep k (text_edit (told_of (OnText op))) doc.text.items ys
      → IsOwn k (told_of (OnText op)) no_elements doc (record doc { text = record doc.text { items = ys } })
  text-own doc (Insert p seg props) ys o = record {
    text = o;
    rows = untouched k doc.rows.items;
    cols = untouched k doc.cols.items;
    named = tt;
    agrees = ap (λ list. record (sequenced_part doc) { text = list }) (list-agrees (PutIn p (apply [] props) (segment_contents seg)) doc.text ys o);
  }
  text-own doc (Remove p q) ys o = record {
    text = o;
    rows = untouched k doc.rows.items;
    cols = untouched k doc.cols.items;
    named = tt;
    agrees = ap (λ list. record (sequenced_part doc) { text = list }) (list-agrees (TakenOut ((p, q) ∷ [])) doc.text ys o);
  }
  text-own doc (Annotate p q changes) ys o = record {
    text = o;
    rows = untouched k doc.rows.items;
    cols = untouched k doc.cols.items;
    named = tt;
    agrees = ap (λ list. record (sequenced_part doc) { text = list }) (list-agrees (Annotated ((p, q) ∷ []) changes) doc.text ys o);
  }

  local-text : (doc : Document) (op : BaseOp) (taken : Document × NamedElements) → local_text doc (suc k) op ≡ Ok taken → IsOwn k (told_of (OnText op)) taken.1 doc taken.0
  local-text doc (Insert p seg props) taken h =
      let list = after_local_insertion (suc k) p (apply [] props) (segment_contents seg) doc.text in
      let n = len (seen (suc k - 1)) doc.text.items in
      let c = ok-choice (nat_le p n) (record doc { text = list }, no_elements) taken (OutOfRange n) h in
      subst (λ z. IsOwn k (TextPut p seg props) z.1 doc z.0) c.1 (text-own doc (Insert p seg props) list.items (put-step p (apply [] props) (segment_contents seg) doc.text c.0))
  local-text doc (Remove p q) taken h =
      let list = after_local_mark (suc k) p q (with_pending_removal (suc k)) doc.text in
      let n = len (seen (suc k - 1)) doc.text.items in
      let c = ok-choice (nat_le q n) (record doc { text = list }, no_elements) taken (OutOfRange n) h in
      subst (λ z. IsOwn k (TextTaken ((p, q) ∷ [])) z.1 doc z.0) c.1 (text-own doc (Remove p q) list.items (removal-step p q doc.text c.0))
  local-text doc (Annotate p q changes) taken h =
      let list = after_local_mark (suc k) p q (with_pending_annotation (suc k) changes) doc.text in
      let n = len (seen (suc k - 1)) doc.text.items in
      let c = ok-choice (nat_le q n) (record doc { text = list }, no_elements) taken (OutOfRange n) h in
      subst (λ z. IsOwn k (TextAnnotated ((p, q) ∷ []) changes) z.1 doc z.0) c.1 (text-own doc (Annotate p q changes) list.items (record {
        one = refl;
        fits = one-test q (len (seen k) doc.text.items) (ap (λ i. nat_le q (len (seen i) doc.text.items)) (sym (pred_suc k)) ∙ c.0);
        made = ap (λ i. change_range (seen i) p q (with_pending_annotation (suc k) changes) doc.text.items) (pred_suc k);
      }))

  unless-ok : (o : Option EditFault) (r : EditResult) (taken : Document × NamedElements) → unless_fault o r ≡ Ok taken → r ≡ Ok taken
  unless-ok None r taken h = h
  unless-ok (Some fault) r taken h = (cc)

  local-interval : (doc : Document) (stages : List Stage) (op : TextOp) (taken : Document × NamedElements) → local_interval doc stages (suc k) op ≡ Ok taken
      → IsOwn k (IntervalsChanged op) taken.1 doc taken.0
  local-interval doc stages op taken h =
      let n = len (seen (suc k - 1)) doc.text.items in
      let names = elements_at_given_ends (seen (suc k - 1)) doc.text.items (ends_of op) in
      let answer : EditResult = cond (given_ends_fit n (ends_of op)) (Ok (doc, names)) (Err (OutOfRange n)) in
      let c = ok-choice (given_ends_fit n (ends_of op)) (doc, names) taken (OutOfRange n)
      (unless-ok (id_fault (shown_intervals doc.text.items doc.intervals stages) op) answer taken h) in
      subst (λ z. IsOwn k (IntervalsChanged op) z.1 doc z.0) c.1 (record {
        text = untouched k doc.text.items;
        rows = untouched k doc.rows.items;
        cols = untouched k doc.cols.items;
        named = (
          ap (λ i. given_ends_fit (len (seen i) doc.text.items) (ends_of op)) (sym (pred_suc k))
              ∙ c.0,
          ap (λ i. elements_at_given_ends (seen i) doc.text.items (ends_of op)) (sym (pred_suc k)),
        );
        agrees = refl;
      })

  rows-own : (doc : Document) (sent : SentStage) (ys : List ListElement) → IsOwnStep k (rows_edit sent) doc.rows.items ys → text_edit sent ≡ TakenOut []
      → cols_edit sent ≡ TakenOut []
      → NamesBy (seen k) doc.text.items doc.rows.items doc.cols.items sent no_elements → IsOwn k sent no_elements doc (record doc { rows = record doc.rows { items = ys } })
  rows-own doc sent ys o e f names = record {
    text = subst (λ edit. IsOwnStep k edit doc.text.items doc.text.items) (sym e) (untouched k doc.text.items);
    rows = o;
    cols = subst (λ edit. IsOwnStep k edit doc.cols.items doc.cols.items) (sym f) (untouched k doc.cols.items);
    named = names;
    agrees = ap (λ list. record (sequenced_part doc) { rows = list }) (list-agrees (rows_edit sent) doc.rows ys o);
  }

  cols-own : (doc : Document) (sent : SentStage) (ys : List ListElement) → IsOwnStep k (cols_edit sent) doc.cols.items ys → text_edit sent ≡ TakenOut []
      → rows_edit sent ≡ TakenOut []
      → NamesBy (seen k) doc.text.items doc.rows.items doc.cols.items sent no_elements → IsOwn k sent no_elements doc (record doc { cols = record doc.cols { items = ys } })
  cols-own doc sent ys o e f names = record {
    text = subst (λ edit. IsOwnStep k edit doc.text.items doc.text.items) (sym e) (untouched k doc.text.items);
    rows = subst (λ edit. IsOwnStep k edit doc.rows.items doc.rows.items) (sym f) (untouched k doc.rows.items);
    cols = o;
    named = names;
    agrees = ap (λ list. record (sequenced_part doc) { cols = list }) (list-agrees (cols_edit sent) doc.cols ys o);
  }

  set-own : (doc : Document) (i j : ℕ) (value : ValueBytes) (row col : Option ListElement) (taken : Document × NamedElements) → at (seen k) i doc.rows.items
      ≡ row → at (seen k) j doc.cols.items ≡ col
      → local_set doc (suc k) row col ≡ Ok taken → IsOwn k (CellWritten i j value) taken.1 doc taken.0
  set-own doc i j value (Some row) (Some col) taken e f h =
      let names : NamedElements = record { first = Some (id row); second = Some (id col) } in
      let same : (doc, names) ≡ taken = (cc) in
      subst (λ z. IsOwn k (CellWritten i j value) z.1 doc z.0) same (record {
        text = untouched k doc.text.items;
        rows = untouched k doc.rows.items;
        cols = untouched k doc.cols.items;
        named = (subst (λ o. IsOneName (option_map id o) (Some (id row))) (sym e) refl, subst (λ o. IsOneName (option_map id o) (Some (id col))) (sym f) refl);
        agrees = refl;
      })
  set-own doc i j value (Some row) None taken e f h = (cc)
  set-own doc i j value None col taken e f h = (cc)

  local-grid : (doc : Document) (op : CellOp) (taken : Document × NamedElements) → local_grid doc (suc k) op ≡ Ok taken → IsOwn k (told_of (OnGrid op)) taken.1 doc taken.0
  local-grid doc (SpliceIn Rows p count) taken h =
      let list = after_local_insertion (suc k) p [] (replicate count GridUnit) doc.rows in
      let n = len (seen (suc k - 1)) doc.rows.items in
      let c = ok-choice (nat_le p n) (record doc { rows = list }, no_elements) taken (OutOfRange n) h in
      subst (λ z. IsOwn k (UnitsPut Rows p count) z.1 doc z.0) c.1 (rows-own doc (UnitsPut Rows p count) list.items
      (put-step p [] (replicate count GridUnit) doc.rows c.0) refl refl tt)
  local-grid doc (SpliceIn Cols p count) taken h =
      let list = after_local_insertion (suc k) p [] (replicate count GridUnit) doc.cols in
      let n = len (seen (suc k - 1)) doc.cols.items in
      let c = ok-choice (nat_le p n) (record doc { cols = list }, no_elements) taken (OutOfRange n) h in
      subst (λ z. IsOwn k (UnitsPut Cols p count) z.1 doc z.0) c.1 (cols-own doc (UnitsPut Cols p count) list.items
      (put-step p [] (replicate count GridUnit) doc.cols c.0) refl refl tt)
  local-grid doc (SpliceOut Rows p q) taken h =
      let list = after_local_mark (suc k) p q (with_pending_removal (suc k)) doc.rows in
      let n = len (seen (suc k - 1)) doc.rows.items in
      let c = ok-choice (nat_le q n) (record doc { rows = list }, no_elements) taken (OutOfRange n) h in
      subst (λ z. IsOwn k (UnitsTaken Rows ((p, q) ∷ [])) z.1 doc z.0) c.1 (rows-own doc (UnitsTaken Rows ((p, q) ∷ [])) list.items (removal-step p q doc.rows c.0) refl refl tt)
  local-grid doc (SpliceOut Cols p q) taken h =
      let list = after_local_mark (suc k) p q (with_pending_removal (suc k)) doc.cols in
      let n = len (seen (suc k - 1)) doc.cols.items in
      let c = ok-choice (nat_le q n) (record doc { cols = list }, no_elements) taken (OutOfRange n) h in
      subst (λ z. IsOwn k (UnitsTaken Cols ((p, q) ∷ [])) z.1 doc z.0) c.1 (cols-own doc (UnitsTaken Cols ((p, q) ∷ [])) list.items (removal-step p q doc.cols c.0) refl refl tt)
  local-grid doc (Set i j value) taken h =
      set-own doc i j value (at (seen (suc k - 1)) i doc.rows.items) (at (seen (suc k - 1)) j doc.cols.items) taken
      (ap (λ m. at (seen m) i doc.rows.items) (sym (pred_suc k))) (ap (λ m. at (seen m) j doc.cols.items) (sym (pred_suc k))) h

  pub local-own : (doc : Document) (stages : List Stage) (o : SubOperation) (taken : Document × NamedElements) → local_sub_operation doc stages (suc k) o
      ≡ Ok taken → IsOwn k (told_of o) taken.1 doc taken.0
  local-own doc stages (OnText op) taken h = local-text doc op taken h
  local-own doc stages (OnIntervals op) taken h = local-interval doc stages op taken h
  local-own doc stages (OnGrid op) taken h = local-grid doc op taken h

-- ---- the sub-operations of an edit

-- stages as they were typed, above the stage k, whose message will have reference number n
abbrev pub typed_stages : ℕ → ℕ → List Stage → List ToldStage
typed_stages n k [] = []
typed_stages n k (t ∷ stages) = record { stage = t; before = k; ref = n; sent = told_of t.sub_operation } ∷ typed_stages n (suc k) stages

pub stages-typed : (n k : ℕ) (stages : List Stage) → map (λ g. g.stage) (typed_stages n k stages) ≡ stages
stages-typed n k [] = refl
stages-typed n k (t ∷ stages) = ap (λ ts. t ∷ ts) (stages-typed n (suc k) stages)

pub refs-typed : (n k : ℕ) (stages : List Stage) → AllRef n (typed_stages n k stages)
refs-typed n k [] = tt
refs-typed n k (t ∷ stages) = (refl, refs-typed n (suc k) stages)

-- what comes of the sub-operations of an edit
pub record OwnEdit (c n k : ℕ) (ts : List ToldStage) (doc : Document) (os : List SubOperation) (taken : Document × List Stage) : Type 0 where
  pub holds : Holds c n n (k + length taken.1) (ts ++ typed_stages n k taken.1) taken.0
  pub agrees : sequenced_part taken.0 ≡ sequenced_part doc
  pub told : flat_map (λ g. told_as g.sent) (typed_stages n k taken.1) ≡ os

abbrev then_rest : Stage → Result (Document × List Stage) EditFault → Result (Document × List Stage) EditFault
then_rest here (Err fault) = Err fault
then_rest here (Ok rest) = Ok (rest.0, here ∷ rest.1)

abbrev then_stage : List Stage → ℕ → SubOperation → List SubOperation → EditResult → Result (Document × List Stage) EditFault
then_stage stages k o os (Err fault) = Err fault
then_stage stages k o os (Ok taken) =
    let here : Stage = record { stage = k; sub_operation = o; names = taken.1 } in
    then_rest here (local_sub_operations taken.0 (stages ++ (here ∷ [])) (k + 1) os)

abbrev Later : ℕ → ℕ → List SubOperation → Type 0
Later c n os = (k : ℕ) (ts : List ToldStage) (doc : Document) (stages : List Stage) (taken : Document × List Stage)
    → local_sub_operations doc stages (suc k) os ≡ Ok taken → Holds c n n k ts doc → OwnEdit c n k ts doc os taken

none-typed : (c n k : ℕ) (ts : List ToldStage) (doc : Document) → Holds c n n k ts doc → OwnEdit c n k ts doc [] (doc, [])
none-typed c n k ts doc h = record {
  holds = subst (λ l. Holds c n n l (ts ++ []) doc) (sym (plus-zero k)) (subst (λ us. Holds c n n k us doc) (sym (append-nil ts)) h);
  agrees = refl;
  told = refl;
}
  where
    plus-zero : (m : ℕ) → m + 0 ≡ m
    plus-zero m = omega arith

one-typed : (c n k : ℕ) (ts : List ToldStage) (doc : Document) (o : SubOperation) (os : List SubOperation) (t : Document × NamedElements)
    (rest : Document × List Stage) → IsOwn k (told_of o) t.1 doc t.0
    → OwnEdit c n (suc k) (ts ++ (record { stage = record { stage = suc k; sub_operation = o; names = t.1 }; before = k; ref = n; sent = told_of o } ∷ [])) t.0 os rest
    → OwnEdit c n k ts doc (o ∷ os) (rest.0, record { stage = suc k; sub_operation = o; names = t.1 } ∷ rest.1)
one-typed c n k ts doc o os t rest own later =
    let g : ToldStage = record { stage = record { stage = suc k; sub_operation = o; names = t.1 }; before = k; ref = n; sent = told_of o } in
    let l : suc k + length rest.1 ≡ k + suc (length rest.1) = omega arith in
    record {
      holds = subst (λ m. Holds c n n m (ts ++ (g ∷ typed_stages n (suc k) rest.1)) rest.0) l
          (subst (λ us. Holds c n n (suc k + length rest.1) us rest.0) (append_assoc ts (g ∷ []) (typed_stages n (suc k) rest.1)) later.holds);
      agrees = later.agrees ∙ own.agrees;
      told = ap (λ ps. ps ++ flat_map (λ g. told_as g.sent) (typed_stages n (suc k) rest.1)) (told_as-told_of o) ∙ ap (λ ps. o ∷ ps) later.told;
    }

rest-typed : (c n k : ℕ) (ts : List ToldStage) (doc : Document) (stages : List Stage) (o : SubOperation) (os : List SubOperation)
    (t : Document × NamedElements) (taken : Document × List Stage)
    → IsOwn k (told_of o) t.1 doc t.0 → ((rest : Document × List Stage) → local_sub_operations t.0
    (stages ++ (record { stage = suc k; sub_operation = o; names = t.1 } ∷ [])) (suc k + 1) os ≡ Ok rest
    → OwnEdit c n (suc k) (ts ++ (record { stage = record { stage = suc k; sub_operation = o; names = t.1 }; before = k; ref = n; sent = told_of o } ∷ [])) t.0 os rest)
    → (q : Result (Document × List Stage) EditFault) → local_sub_operations t.0 (stages ++ (record { stage = suc k; sub_operation = o; names = t.1 } ∷ [])) (suc k + 1) os ≡ q
    → then_rest (record { stage = suc k; sub_operation = o; names = t.1 }) q ≡ Ok taken → OwnEdit c n k ts doc (o ∷ os) taken
rest-typed c n k ts doc stages o os t taken own later (Err fault) e h = (cc)
rest-typed c n k ts doc stages o os t taken own later (Ok rest) e h =
    let same : (rest.0, record { stage = suc k; sub_operation = o; names = t.1 } ∷ rest.1) ≡ taken = (cc) in
    subst (λ z. OwnEdit c n k ts doc (o ∷ os) z) same (one-typed c n k ts doc o os t rest own (later rest e))

first-typed : (c n k : ℕ) (ts : List ToldStage) (doc : Document) (stages : List Stage) (o : SubOperation) (os : List SubOperation)
    (taken : Document × List Stage) → Holds c n n k ts doc → Later c n os
    → (r : EditResult) → local_sub_operation doc stages (suc k) o ≡ r → then_stage stages (suc k) o os r ≡ Ok taken → OwnEdit c n k ts doc (o ∷ os) taken
first-typed c n k ts doc stages o os taken holds ih (Err fault) e h = (cc)
first-typed c n k ts doc stages o os taken holds ih (Ok t) e h =
    let own = local-own k doc stages o t e in
    let here : Stage = record { stage = suc k; sub_operation = o; names = t.1 } in
    let g : ToldStage = record { stage = here; before = k; ref = n; sent = told_of o } in
    let next : suc k + 1 ≡ suc (suc k) = omega arith in
    rest-typed c n k ts doc stages o os t taken own
    (λ rest f. ih (suc k) (ts ++ (g ∷ [])) t.0 (stages ++ (here ∷ [])) rest (ap (λ i. local_sub_operations t.0 (stages ++ (here ∷ [])) i os) (sym next) ∙ f)
    (own-holds c n k ts here (told_of o) doc t.0 refl (tells-told_of o) own holds))
    (local_sub_operations t.0 (stages ++ (here ∷ [])) (suc k + 1) os) refl h

-- the sub-operations of an edit keep what is known of a document
pub sub_operations-own : (c n : ℕ) (os : List SubOperation) → Later c n os
sub_operations-own c n [] k ts doc stages taken h holds =
    let same : (doc, []) ≡ taken = (cc) in
    subst (λ z. OwnEdit c n k ts doc [] z) same (none-typed c n k ts doc holds)
sub_operations-own c n (o ∷ os) k ts doc stages taken h holds =
    first-typed c n k ts doc stages o os taken holds (sub_operations-own c n os) (local_sub_operation doc stages (suc k) o) refl h
