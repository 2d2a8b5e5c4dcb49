-- What is compared of what is shown beside the lists is enough.
use Rattle.std.proofs.Common.{◌≡◌, ℕ, Bool, true, false, cond, not, ◌||◌, List, [], ◌∷◌, ◌++◌, Option, Result, Ok, Err, filter, flat_map, length, refl, sym, ◌∙◌, ap, map, ℤ}
use Rattle.std.specs.Prelude.{OnOk}
use Rattle.std.specs.List.{list_any}
use Rattle.ft_op.specs.declared.operations.BaseOp.{BaseOp}
use Rattle.ft_op.specs.declared.operations.CellOp.{CellOp}
use Rattle.ft_op.specs.declared.operations.TextOp.{TextOp}
use Rattle.ft_op.specs.declared.operations.ChannelOp.{ChannelOp}
use Rattle.ft_op.specs.declared.operations.ChannelOp.TheVariants.{Grid, Text}
use Rattle.ft_op.specs.declared.operations.TextOp.TheVariants.{Group, IntervalAdd, IntervalChange, IntervalDelete, One}
use Rattle.ft_op.specs.Document.{Document}
use Rattle.ft_op.specs.Operation.{OnGrid, OnText, SubOperation, segment_contents, sub_operations}
use Rattle.ft_op.specs.declared.operations.Target.{Target}
use Rattle.ft_op.specs.declared.operations.Target.TheVariants.{Cols, Rows}
use Rattle.ft_op.specs.Stages.{Stage}
use Rattle.ft_sumdoc.specs.declared.summary.CellRec.{CellRec}
use Rattle.ft_sumdoc.specs.declared.summary.IntervalRec.{IntervalRec}
use Rattle.ft_msg.specs.declared.messages.Body.{Body}
use Rattle.ft_msg.specs.declared.messages.Body.TheVariants.{Op}
use Rattle.ft_msg.specs.declared.messages.Entry.{Entry}
use Rattle.ft_msg.specs.Agreed.{reference_number}
use Rattle.ft_msg.specs.Client.{NaiveClient, PendingEdit, local_edit, stages_of}
use Rattle.ft_msg.specs.Process.{after_entry}
use Rattle.ft_msg.specs.WellFormed.{IsWellFormedMessage}
use Rattle.ft_msg.proofs.ReachedSteps.{well-formed-fits}
use Rattle.ft_laws_compaction.specs.Keeping.{IsMadeOrKept}
use Rattle.ft_laws_compaction.proofs.AllSteps.{reached-sound}
use Rattle.ft_laws_compaction.proofs.KeptSteps.{entries-answer}
use Rattle.ft_changes.specs.declared.changes.ViewChange.{ViewChange}
use Rattle.ft_changes.specs.declared.changes.ViewChange.TheVariants.{ClearCell, DropInterval, Put, PutUnits, SetCell, SetInterval, Style, Take, TakeUnits}
use Rattle.ft_changes.specs.Beside.{body_moves_ends_alike, body_sub_operations, entry_moves_ends_alike, is_changed_by}
use Rattle.ft_changes.specs.Laws.{after_edit_lists, after_lists, changes_table, has_sub_operation, sets_cell}
use Rattle.ft_changes.specs.Rest.{are_of_lists, is_of_list}
use Rattle.ft_changes.specs.Shown.{ShownContent, after_change, after_changes, end_after_put, end_after_take, moved_cells, number_after_put, number_after_take, shown_content, with_moved_ends}
use Rattle.ft_changes.specs.ShownRuns.{take_out}
use Rattle.ft_changes.specs.Told.{told_cells, told_intervals, told_rest}
use Rattle.ft_changes.proofs.CellsTold.{kept-unset-cells-tell-nothing}
use Rattle.ft_changes.proofs.FilteredIntervals.{same-named}
use Rattle.ft_changes.proofs.KeptEdits.{kept-edits-leave-cells, kept-edits-tell-their-intervals}
use Rattle.ft_changes.proofs.MessageIntervals.{kept-messages-tell-their-intervals}
use Rattle.ft_changes.proofs.RestSteps.{both-parts}
use Rattle.ft_replica.specs.Comparing.{compared_by, compared_by_edit, compared_intervals, compared_part, is_of_table}
use Rattle.ft_replica.specs.declared.comparing.Compared.{Compared}
use Rattle.ft_replica.specs.declared.comparing.ComparedIntervals.{ComparedIntervals}
use Rattle.ft_replica.specs.declared.comparing.ComparedIntervals.TheVariants.{All, OfOperation, OfOperationAndStages}
use Rattle.ft_replica.specs.Linked.{LinkedState, linked_as, part_of}
use Rattle.ft_replica.specs.Telling.{IsEnough, TakesOther}
use Rattle.ft_replica.proofs.MadeSteps.{after-taken}
use Rattle.ft_replica.proofs.Replicas.{taken-alike}

pub ok-same : {A E : Type 0} {B : Type 0} (r : Result A E) (a b c : B) → b ≡ c → OnOk r (a ≡ b) → OnOk r (a ≡ c)
ok-same (Ok x) a b c e h = h ∙ e
ok-same (Err x) a b c e h = tt

-- ---- changes of lists

abbrev with_parts : ShownContent → List IntervalRec → List CellRec → ShownContent
with_parts s is cells = record s { intervals = is; cells = cells }

filter-moved : (test : IntervalRec → Bool) → ((f : ℤ → ℤ) (i : IntervalRec) → test (with_moved_ends f i) ≡ test i) → (f : ℤ → ℤ) (is : List IntervalRec)
    → map (with_moved_ends f) (filter test is) ≡ filter test (map (with_moved_ends f) is)
filter-moved test same f [] = refl
filter-moved test same f (i ∷ is) =
    by (test i) (filter-moved test same f is)
    ∙ ap (λ b. cond b (with_moved_ends f i ∷ filter test (map (with_moved_ends f) is)) (filter test (map (with_moved_ends f) is))) (sym (same f i))
  where
    by : (b : Bool) → map (with_moved_ends f) (filter test is) ≡ filter test (map (with_moved_ends f) is)
        → map (with_moved_ends f) (cond b (i ∷ filter test is) (filter test is))
        ≡ cond b (with_moved_ends f i ∷ filter test (map (with_moved_ends f) is)) (filter test (map (with_moved_ends f) is))
    by true e = ap (λ js. with_moved_ends f i ∷ js) e
    by false e = e

-- a change of the lists moves the ends of those that are compared as it moves all
intervals-moved : (which : ComparedIntervals) (op : ChannelOp) (stages : List Stage) (f : ℤ → ℤ) (is : List IntervalRec)
    → map (with_moved_ends f) (compared_intervals which op stages is) ≡ compared_intervals which op stages (map (with_moved_ends f) is)
intervals-moved All op stages f is = refl
intervals-moved OfOperation op stages f is =
    filter-moved (is_changed_by (sub_operations op)) (λ g i. same-named (sub_operations op) (with_moved_ends g i) i refl refl) f is
intervals-moved OfOperationAndStages op stages f is =
    let own : List SubOperation = sub_operations op in
    let theirs : List SubOperation = map (λ (t : Stage). t.sub_operation) stages in
    filter-moved (λ i. is_changed_by own i || is_changed_by theirs i)
    (λ g i. ap (λ b. b || is_changed_by theirs (with_moved_ends g i)) (same-named own (with_moved_ends g i) i refl refl)
    ∙ ap (λ b. is_changed_by own i || b) (same-named theirs (with_moved_ends g i) i refl refl)) f is

units-moved : (cells : Bool) (target : Target) (f : ℕ → Option ℕ) (cs : List CellRec) → moved_cells target f (cond cells cs [])
    ≡ cond cells (moved_cells target f cs) []
units-moved true target f cs = refl
units-moved false target f cs = refl

module _ (compared : Compared) (op : ChannelOp) (stages : List Stage) where
  abbrev part : ShownContent → ShownContent
  part s = compared_part compared op stages s

  abbrev some : List IntervalRec → List IntervalRec
  some is = compared_intervals compared.intervals op stages is

  moved-ends : (s : ShownContent) (change : ViewChange) (f : ℤ → ℤ) → map (with_moved_ends f) (some s.intervals) ≡ some (map (with_moved_ends f) s.intervals)
      → with_parts (after_change s change) (map (with_moved_ends f) (some s.intervals)) (cond compared.cells s.cells [])
      ≡ with_parts (after_change s change) (some (map (with_moved_ends f) s.intervals)) (cond compared.cells s.cells [])
  moved-ends s change f e = ap (λ is. with_parts (after_change s change) is (cond compared.cells s.cells [])) e

  moved-units : (s : ShownContent) (change : ViewChange) (target : Target) (f : ℕ → Option ℕ)
      → with_parts (after_change s change) (some s.intervals) (moved_cells target f (cond compared.cells s.cells []))
      ≡ with_parts (after_change s change) (some s.intervals) (cond compared.cells (moved_cells target f s.cells) [])
  moved-units s change target f = ap (λ cs. with_parts (after_change s change) (some s.intervals) cs) (units-moved compared.cells target f s.cells)

  after-part : (s : ShownContent) (change : ViewChange) → is_of_list change ≡ true → after_change (part s) change ≡ part (after_change s change)
  after-part s (Put p seg props) h =
      let f = end_after_put p (length (segment_contents seg)) in
      moved-ends s (Put p seg props) f (intervals-moved compared.intervals op stages f s.intervals)
  after-part s (Take p n) h =
      let f = end_after_take p n (length (take_out p n s.elements)) in
      moved-ends s (Take p n) f (intervals-moved compared.intervals op stages f s.intervals)
  after-part s (Style p n props) h = refl
  after-part s (PutUnits Rows p n) h = moved-units s (PutUnits Rows p n) Rows (number_after_put p n)
  after-part s (PutUnits Cols p n) h = moved-units s (PutUnits Cols p n) Cols (number_after_put p n)
  after-part s (TakeUnits Rows p n) h = moved-units s (TakeUnits Rows p n) Rows (number_after_take p n)
  after-part s (TakeUnits Cols p n) h = moved-units s (TakeUnits Cols p n) Cols (number_after_take p n)
  after-part s (SetCell i j value) h = absurd (cc)
  after-part s (ClearCell i j) h = absurd (cc)
  after-part s (SetInterval i) h = absurd (cc)
  after-part s (DropInterval label id) h = absurd (cc)

  pub after-compared : (s : ShownContent) (changes : List ViewChange) → are_of_lists changes ≡ true
      → after_changes (part s) changes ≡ part (after_changes s changes)
  after-compared s [] h = refl
  after-compared s (change ∷ changes) h =
      let both = both-parts (is_of_list change) (are_of_lists changes) h in
      ap (λ t. after_changes t changes) (after-part s change both.0) ∙ after-compared (after_change s change) changes both.1

-- ---- what is told of the parts

told-parts : (compared : Compared) (op : ChannelOp) (stages : List Stage) (s t : ShownContent) → (compared.cells ≡ false → told_cells s.cells t.cells ≡ [])
    → told_intervals (compared_intervals compared.intervals op stages s.intervals) (compared_intervals compared.intervals op stages t.intervals)
    ≡ told_intervals s.intervals t.intervals
    → told_rest (compared_part compared op stages s) (compared_part compared op stages t) ≡ told_rest s t
told-parts compared op stages s t cells intervals =
    let some : List IntervalRec → List IntervalRec = λ is. compared_intervals compared.intervals op stages is in
    ap (λ cs. cs ++ told_intervals (some s.intervals) (some t.intervals)) (by compared.cells refl)
    ∙ ap (λ cs. told_cells s.cells t.cells ++ cs) intervals
  where
    by : (b : Bool) → compared.cells ≡ b → told_cells (cond b s.cells []) (cond b t.cells []) ≡ told_cells s.cells t.cells
    by true e = refl
    by false e = sym (cells e)

-- ---- operations

-- the sub-operations of a group are of the text, or of the table
any_text : (test : SubOperation → Bool) → ((op : BaseOp) → test (OnText op) ≡ false) → (ops : List BaseOp) → list_any test
    (map (λ op. OnText op) ops) ≡ false
any_text test none [] = refl
any_text test none (op ∷ ops) = ap (λ b. b || list_any test (map (λ op. OnText op) ops)) (none op) ∙ any_text test none ops

pub any_grid : (test : SubOperation → Bool) (ops : List CellOp) → list_any test (map (λ op. OnGrid op) ops) ≡ list_any (λ op. test (OnGrid op)) ops
any_grid test [] = refl
any_grid test (op ∷ ops) = ap (λ b. test (OnGrid op) || b) (any_grid test ops)

pub text_unset : (op : TextOp) → list_any sets_cell (sub_operations (Text op)) ≡ false
text_unset (One op) = refl
text_unset (Group ops) = any_text sets_cell (λ op. refl) ops
text_unset (IntervalAdd label id ends props) = refl
text_unset (IntervalChange label id ends props) = refl
text_unset (IntervalDelete label id) = refl

-- ---- a message

module _ (start : Document) (p : NaiveClient) (entry : Entry) (last : ℕ) (t : TakesOther entry last p) (op : ChannelOp)
    (is : entry.msg.body ≡ Op op) where
  -- those that the body or a pending stage is on
  abbrev around : Body → List IntervalRec → List IntervalRec
  around body js = filter (λ i. is_changed_by (body_sub_operations body) i || is_changed_by (map (λ (t : Stage). t.sub_operation) (stages_of p)) i) js

  pub enough-compared : (alike : Bool) → IsWellFormedMessage entry.msg → IsMadeOrKept start p
      → (alike ≡ true → entry_moves_ends_alike p entry ≡ true) → IsEnough (compared_by alike op) op entry p
  enough-compared alike formed m moves =
      let x = m.whole in
      let fits = well-formed-fits entry formed in
      let a = taken-alike (after_entry p entry) (entries-answer m.reached.steps x p entry (reached-sound x m.reached) m.keeps fits)
      (after-taken p entry t.taken) in
      told-parts (compared_by alike op) op (stages_of p) (after_lists p entry) (shown_content (after_entry p entry))
      (λ unset. kept-unset-cells-tell-nothing p x a.0 entry m.reached m.keeps fits a.1.0 (ap (has_sub_operation sets_cell) is ∙ unset))
      (by alike (λ h. kept-messages-tell-their-intervals p x a.0 entry m.reached m.keeps fits a.1.0 (moves h)))
    where
      before : List IntervalRec
      before = (after_lists p entry).intervals

      after : List IntervalRec
      after = (shown_content (after_entry p entry)).intervals

      by : (b : Bool) → (b ≡ true → told_intervals before after ≡ told_intervals (around entry.msg.body before) (around entry.msg.body after))
          → told_intervals (compared_intervals (compared_by b op).intervals op (stages_of p) before)
          (compared_intervals (compared_by b op).intervals op (stages_of p) after) ≡ told_intervals before after
      by true e = sym (e refl ∙ ap (λ body. told_intervals (around body before) (around body after)) is)
      by false e = refl

-- ---- an edit

no-table : (op : ChannelOp) → is_of_table op ≡ false → list_any changes_table (sub_operations op) ≡ false
no-table (Text (One op)) h = refl
no-table (Text (Group ops)) h = any_text changes_table (λ op. refl) ops
no-table (Text (IntervalAdd label id ends props)) h = refl
no-table (Text (IntervalChange label id ends props)) h = refl
no-table (Text (IntervalDelete label id)) h = refl
no-table (Grid op) h = absurd (cc)

-- which stages are pending makes no difference
pub same-part : (compared : Compared) (op : ChannelOp) → compared ≡ compared_by_edit op → (ts us : List Stage) (s : ShownContent)
    → compared_part compared op ts s ≡ compared_part compared op us s
same-part compared op e ts us s = ap (λ c. compared_part c op ts s) e ∙ sym (ap (λ c. compared_part c op us s) e)

pub edit-compared : (start : Document) (p y : NaiveClient) (op : ChannelOp) (stages : List Stage) → IsMadeOrKept start p → local_edit p op ≡ Ok y
    → told_rest (compared_part (compared_by_edit op) op stages (after_edit_lists p op)) (compared_part (compared_by_edit op) op stages (shown_content y))
    ≡ told_rest (after_edit_lists p op) (shown_content y)
edit-compared start p y op stages m e =
    told-parts (compared_by_edit op) op stages (after_edit_lists p op) (shown_content y)
    (λ none. kept-edits-leave-cells p m.whole y op m.reached m.keeps e (no-table op none))
    (sym (kept-edits-tell-their-intervals p m.whole y op m.reached m.keeps e))

-- ---- a client of which nothing is pending

none-pending : (edits : List PendingEdit) → length (map part_of edits) ≡ 0 → flat_map (λ (e : PendingEdit). e.stages) edits ≡ []
none-pending [] h = refl
none-pending (e ∷ edits) h = absurd (cc)

-- so a message moves no end elsewhere
pub idle-alike : {D : Type 0} (s : LinkedState D) (p : NaiveClient) (entry : Entry) → s ≡ linked_as p s.document → (n : ℕ) → n ≡ length s.pending → n ≡ 0
    → entry_moves_ends_alike p entry ≡ true
idle-alike s p entry rest n count idle =
    let none : stages_of p ≡ [] = none-pending p.pending (sym (count ∙ ap (λ (t : LinkedState _). length t.pending) rest) ∙ idle) in
    let body : Bool = body_moves_ends_alike p.doc entry.origin (reference_number entry.msg.ref_seq) entry.msg.body in
    ap (λ (ts : List Stage). not (list_any (λ _. true) ts) || body) none
