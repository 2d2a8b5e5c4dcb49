-- An operation of another client on the text leaves the table, and one on the table the text; what each call says of its part says
-- of the whole.
use Rattle.std.proofs.Common.{◌≡◌, ◌≤◌, ℕ, ◌+◌, Bool, true, false, cond, nat_le, List, [], ◌∷◌, Option, Some, None, refl, sym, ◌∙◌, ap, subst, map, replicate, arith}
use Rattle.std.specs.List.{list_all}
use Rattle.ft_base.specs.declared.stamps.Stamp.{Stamp}
use Rattle.ft_base.specs.declared.stamps.Stamp.TheVariants.{Acked}
use Rattle.ft_base.specs.Scan.{at, len}
use Rattle.ft_base.proofs.Booleans.{both}
use Rattle.ft_op.specs.declared.operations.BaseOp.TheVariants.{Insert, Remove, Annotate}
use Rattle.ft_op.specs.declared.operations.CellOp.{CellOp}
use Rattle.ft_op.specs.declared.operations.CellOp.TheVariants.{SpliceIn, SpliceOut, Set}
use Rattle.ft_op.specs.declared.operations.ChannelOp.TheVariants.{Grid}
use Rattle.ft_op.specs.declared.operations.GridOp.{GridOp}
use Rattle.ft_op.specs.declared.operations.Target.TheVariants.{Rows, Cols}
use Rattle.ft_op.specs.declared.operations.TextOp.{TextOp}
use Rattle.ft_op.specs.Document.{Document, cell_effect, effect, effects, ends_of, given_ends_fit}
use Rattle.ft_op.specs.Operation.{OnGrid, OnIntervals, OnText, SubOperation, sub_operations, text_sub_operations}
use Rattle.ft_props.specs.Element.{ElementContent, GridUnit, ListElement, is_pending, new_elements, seen_by, with_removal}
use Rattle.ft_props.specs.Properties.{PropertyList}
use Rattle.ft_props.specs.Steps.{Sequence, after_insertion, after_removal}
use Rattle.ft_op.specs.declared.operations.ChannelOp.{ChannelOp}
use Rattle.ft_props.specs.Properties.{Characters}
use Rattle.ft_msg.specs.declared.messages.Body.{Body}
use Rattle.ft_msg.specs.declared.messages.Body.TheVariants.{Op}
use Rattle.ft_msg.specs.declared.messages.Entry.{Entry}
use Rattle.ft_msg.specs.declared.messages.MsgKind.{MsgKind}
use Rattle.ft_msg.specs.declared.messages.MsgKind.TheVariants as msg
use Rattle.ft_msg.specs.Agreed.{reference_number, with_numbers}
use Rattle.ft_msg.specs.Answers.{count_held}
use Rattle.ft_msg.specs.Client.{floor, stages_of}
use Rattle.ft_msg.specs.Process.{is_op_kind, process_fault}
use Rattle.ft_msg.specs.WellFormed.{HasItsParts, IsWellFormedMessage, has_body}
use Rattle.ft_laws_compaction.proofs.FloorSteps.{entry-above}
use Rattle.ft_laws_agreement.proofs.SlidEnds.{true-false}
use Rattle.ft_laws_agreement.proofs.AgreedStage.{len-put-add}
use Rattle.ft_laws_agreement.proofs.RangesOfLists.{len-range}
use Rattle.ft_replica.specs.Own.{HeldDocument, HoldsOne}
use Rattle.ft_string.specs.Calls.{IsApplied}
use Rattle.ft_string.specs.Holds.{HoldsText, is_on_text}
use Rattle.ft_string.specs.State.{KeepsRest as KeepsText, TextState}
use Rattle.ft_matrix.specs.Conditions.{KeepsRest as KeepsGrid, TakesOp}
use Rattle.ft_matrix.specs.GridStates.{GridState}
use Rattle.ft_matrix.specs.HoldsGrid.{HoldsGrid}
use Rattle.ft_client.specs.declared.own.TreeOwn.{TreeOwn}
use Rattle.ft_client.specs.Holds.{HoldsTree, IsSettled}
use Rattle.ft_client.specs.Numbers.{NumberState}
use Rattle.ft_client.proofs.Edits.{all-on-text, ops-are, ops_of}
use Rattle.ft_client.proofs.Parts.{grid-same, text-same}

-- ---- what is left

abbrev pub LeavesTable : Document → Document → Type 0
LeavesTable doc d = d ≡ record doc { text = d.text; intervals = d.intervals; skipped = d.skipped }

abbrev pub LeavesText : Document → Document → Type 0
LeavesText doc d = d ≡ record doc { rows = d.rows; cols = d.cols; cells = d.cells; skipped = d.skipped }

choice : (P : Document → Type 0) (b : Bool) (d e : Document) → P d → P e → P (cond b d e)
choice P true d e f g = f
choice P false d e f g = g

-- as many rows and columns were made, or more
abbrev pub Grows : Document → Document → Type 0
Grows doc d = (doc.rows.made ≤ d.rows.made) × (doc.cols.made ≤ d.cols.made)

same : (n : ℕ) → n ≤ n
same n = omega arith

up : (n m : ℕ) → n ≤ n + m
up n m = omega arith

-- the pending rows and columns are as many
abbrev KeepsPending : Document → Document → Type 0
KeepsPending doc d = (len is_pending d.rows.items ≡ len is_pending doc.rows.items) × (len is_pending d.cols.items ≡ len is_pending doc.cols.items)

module _ (s c r : ℕ) where
  one-leaves : (doc : Document) (o : SubOperation) → is_on_text o ≡ true → LeavesTable doc (effect doc s c r o)
  one-leaves doc (OnText (Insert p seg props)) h = choice (LeavesTable doc) (nat_le p (len (seen_by r c) doc.text.items)) _ _ refl refl
  one-leaves doc (OnText (Remove p q)) h = choice (LeavesTable doc) (nat_le q (len (seen_by r c) doc.text.items)) _ _ refl refl
  one-leaves doc (OnText (Annotate p q changes)) h = choice (LeavesTable doc) (nat_le q (len (seen_by r c) doc.text.items)) _ _ refl refl
  one-leaves doc (OnIntervals op) h = choice (LeavesTable doc) (given_ends_fit (len (seen_by r c) doc.text.items) (ends_of op)) _ _ refl refl
  one-leaves doc (OnGrid op) h = (cc)

  pub text-leaves : (doc : Document) (os : List SubOperation) → list_all is_on_text os ≡ true → LeavesTable doc (effects doc s c r os)
  text-leaves doc [] h = refl
  text-leaves doc (o ∷ os) h =
      let p = both (is_on_text o) (list_all is_on_text os) h in
      let e = effects doc s c r (o ∷ os) in
      text-leaves (effect doc s c r o) os p.1 ∙ ap (λ (d : Document). record d { text = e.text; intervals = e.intervals; skipped = e.skipped }) (one-leaves doc o p.0)

  new-sequenced : (n : ℕ) (by : Option Stamp) (props : PropertyList) (bs : List ElementContent) → len is_pending (new_elements n (Acked s c) [] by props bs) ≡ 0
  new-sequenced n by props [] = refl
  new-sequenced n by props (b ∷ bs) = new-sequenced (n + 1) by props bs

  inserted : (p count : ℕ) (list : Sequence) → len is_pending (after_insertion s c r p None [] (replicate count GridUnit) list).items
      ≡ len is_pending list.items
  inserted p count list =
      sums (len is_pending (after_insertion s c r p None [] (replicate count GridUnit) list).items) (len is_pending list.items)
      (len is_pending (new_elements list.made (Acked s c) [] None [] (replicate count GridUnit)))
      (len-put-add is_pending (seen_by r c) is_pending p (new_elements list.made (Acked s c) [] None [] (replicate count GridUnit))
      list.items)
      (new-sequenced list.made None [] (replicate count GridUnit))
    where
      sums : (a b n : ℕ) → a ≡ n + b → n ≡ 0 → a ≡ b
      sums a b n f g = omega arith

  removed : (p q : ℕ) (list : Sequence) → len is_pending (after_removal s c r p q list).items ≡ len is_pending list.items
  removed p q list = len-range is_pending (seen_by r c) (with_removal s c) (λ e. refl) p q 0 list.items

  one-grid : (doc : Document) (op : CellOp) → LeavesText doc (effect doc s c r (OnGrid op)) × KeepsPending doc (effect doc s c r (OnGrid op))
  one-grid doc (SpliceIn Rows p count) = choice (λ d. LeavesText doc d × KeepsPending doc d) (nat_le p (len (seen_by r c) doc.rows.items)) _ _
      (refl, (inserted p count doc.rows, refl)) (refl, (refl, refl))
  one-grid doc (SpliceIn Cols p count) = choice (λ d. LeavesText doc d × KeepsPending doc d) (nat_le p (len (seen_by r c) doc.cols.items)) _ _
      (refl, (refl, inserted p count doc.cols)) (refl, (refl, refl))
  one-grid doc (SpliceOut Rows p q) = choice (λ d. LeavesText doc d × KeepsPending doc d) (nat_le q (len (seen_by r c) doc.rows.items)) _ _
      (refl, (removed p q doc.rows, refl)) (refl, (refl, refl))
  one-grid doc (SpliceOut Cols p q) = choice (λ d. LeavesText doc d × KeepsPending doc d) (nat_le q (len (seen_by r c) doc.cols.items)) _ _
      (refl, (refl, removed p q doc.cols)) (refl, (refl, refl))
  one-grid doc (Set i j value) = cell (at (seen_by r c) i doc.rows.items) (at (seen_by r c) j doc.cols.items)
    where
      cell : (o p : Option ListElement) → LeavesText doc (cell_effect doc o p value) × KeepsPending doc (cell_effect doc o p value)
      cell (Some x) (Some y) = (refl, (refl, refl))
      cell (Some x) None = (refl, (refl, refl))
      cell None p = (refl, (refl, refl))

  pub grid-leaves : (doc : Document) (ops : List CellOp) → LeavesText doc (effects doc s c r (map (λ op. OnGrid op) ops)) × KeepsPending doc (effects doc s c r (map (λ op. OnGrid op) ops))
  grid-leaves doc [] = (refl, (refl, refl))
  grid-leaves doc (op ∷ ops) =
      let one = one-grid doc op in
      let rest = grid-leaves (effect doc s c r (OnGrid op)) ops in
      let e = effects doc s c r (map (λ op. OnGrid op) (op ∷ ops)) in
      (rest.0 ∙ ap (λ (d : Document). record d { rows = e.rows; cols = e.cols; cells = e.cells; skipped = e.skipped }) one.0, (rest.1.0 ∙ one.1.0, rest.1.1 ∙ one.1.1))

  -- no row and no column is ever made undone
  one-grows : (doc : Document) (op : CellOp) → Grows doc (effect doc s c r (OnGrid op))
  one-grows doc (SpliceIn Rows p count) = choice (Grows doc) (nat_le p (len (seen_by r c) doc.rows.items)) _ _
      (up doc.rows.made _, same doc.cols.made) (same doc.rows.made, same doc.cols.made)
  one-grows doc (SpliceIn Cols p count) = choice (Grows doc) (nat_le p (len (seen_by r c) doc.cols.items)) _ _
      (same doc.rows.made, up doc.cols.made _) (same doc.rows.made, same doc.cols.made)
  one-grows doc (SpliceOut Rows p q) = choice (Grows doc) (nat_le q (len (seen_by r c) doc.rows.items)) _ _
      (same doc.rows.made, same doc.cols.made) (same doc.rows.made, same doc.cols.made)
  one-grows doc (SpliceOut Cols p q) = choice (Grows doc) (nat_le q (len (seen_by r c) doc.cols.items)) _ _
      (same doc.rows.made, same doc.cols.made) (same doc.rows.made, same doc.cols.made)
  one-grows doc (Set i j value) = cell (at (seen_by r c) i doc.rows.items) (at (seen_by r c) j doc.cols.items)
    where
      cell : (o p : Option ListElement) → Grows doc (cell_effect doc o p value)
      cell (Some x) (Some y) = (same doc.rows.made, same doc.cols.made)
      cell (Some x) None = (same doc.rows.made, same doc.cols.made)
      cell None p = (same doc.rows.made, same doc.cols.made)

  pub grid-grows : (doc : Document) (ops : List CellOp) → Grows doc (effects doc s c r (map (λ op. OnGrid op) ops))
  grid-grows doc [] = (same doc.rows.made, same doc.cols.made)
  grid-grows doc (op ∷ ops) =
      let one = one-grows doc op in
      let rest = grid-grows (effect doc s c r (OnGrid op)) ops in
      (further _ _ _ one.0 rest.0, further _ _ _ one.1 rest.1)
    where
      further : (i j k : ℕ) → i ≤ j → j ≤ k → i ≤ k
      further i j k l m = omega (arith, l, m)

-- the table of a client that is held has no fewer rows and columns after an operation of a message
pub made-grows : (old : TreeOwn) (new : GridState) (seq c r : ℕ) (op : GridOp) (skipped : ℕ) (k : HoldsOne HoldsTree old (λ p. floor p ≤ r))
    → TakesOp k.client.last_stage new (effects k.client.doc seq c r (sub_operations (Grid op))) k.client.doc (stages_of k.client) skipped
    → (old.table.rows_made ≤ new.rows_made) × (old.table.cols_made ≤ new.cols_made)
made-grows old new seq c r op skipped k t =
    let doc = k.client.doc in
    let grows = subst (λ os. Grows doc (effects doc seq c r os)) (sym (ops-are op)) (grid-grows seq c r doc (ops_of op)) in
    (between _ _ _ _ k.document.table.rows_made t.holds.rows_made grows.0, between _ _ _ _ k.document.table.cols_made t.holds.cols_made grows.1)
  where
    between : (a b m n : ℕ) → a ≡ m → b ≡ n → a ≤ b → m ≤ n
    between a b m n e f l = omega (arith, e, f, l)

-- ---- the whole

no-more : (n : ℕ) → n ≡ n + 0
no-more n = omega arith

module _ (old new : TreeOwn) (held : HeldDocument) (h : HoldsTree old held) (seq c r : ℕ) where
  pub text-applied : (op : TextOp) (skipped : ℕ) → IsApplied new.text held.doc (effects held.doc seq c r (text_sub_operations op)) held.stages skipped
      → KeepsText old.text new.text → new ≡ record old { text = new.text; numbers = new.numbers }
      → new.numbers ≡ record old.numbers { skipped = old.numbers.skipped + skipped }
      → HoldsTree new (record held { doc = effects held.doc seq c r (text_sub_operations op) })
  text-applied op skipped a keeps rest numbers =
      let after = effects held.doc seq c r (text_sub_operations op) in
      let same = text-leaves seq c r held.doc (text_sub_operations op) (all-on-text op) in
      let table : new.table ≡ old.table = ap (λ (s : TreeOwn). s.table) rest in
      record {
        text = a.holds;
        table = subst (λ g. HoldsGrid g after held.stages) (sym table)
            (grid-same held.doc after old.table held.stages held.stages (ap (λ (d : Document). d.rows) same) (ap (λ (d : Document). d.cols) same)
            (ap (λ (d : Document). d.cells) same) refl h.table);
        stages = ap (λ (s : TreeOwn). s.stages.items) rest ∙ h.stages;
        numbers = record {
          number = ap (λ (x : NumberState). x.number) numbers ∙ h.numbers.number ∙ sym (ap (λ (d : Document). d.number) same);
          minimum = ap (λ (x : NumberState). x.minimum) numbers ∙ h.numbers.minimum ∙ sym (ap (λ (d : Document). d.minimum) same);
          skipped = ap (λ (x : NumberState). x.skipped) numbers ∙ ap (λ n. n + skipped) h.numbers.skipped ∙ sym a.skips;
          other = ap (λ (x : NumberState). x.other) numbers ∙ h.numbers.other ∙ sym (ap (λ (d : Document). d.other) same);
          rows = ap (λ (x : NumberState). x.rows) numbers ∙ h.numbers.rows ∙ sym (ap (λ (d : Document). count_held d.rows) same);
          cols = ap (λ (x : NumberState). x.cols) numbers ∙ h.numbers.cols ∙ sym (ap (λ (d : Document). count_held d.cols) same);
          last = ap (λ (x : NumberState). x.last) numbers ∙ h.numbers.last;
          fits = h.numbers.fits;
        };
        settled = record {
          text = keeps.usable ∙ h.settled.text;
          table = ap (λ (g : GridState). g.usable) table ∙ h.settled.table;
          text_given = keeps.given ∙ h.settled.text_given;
          table_given = ap (λ (g : GridState). g.given) table ∙ h.settled.table_given;
          text_floor = subst (λ n. n ≤ held.low) (sym keeps.floor) h.settled.text_floor;
          table_floor = subst (λ (g : GridState). g.floor ≤ held.low) (sym table) h.settled.table_floor;
        };
      }

  pub grid-applied : (op : GridOp) (skipped rows cols : ℕ) (k : ℕ)
      → TakesOp k new.table (effects held.doc seq c r (sub_operations (Grid op))) held.doc held.stages skipped
      → KeepsGrid old.table new.table → new ≡ record old { table = new.table; numbers = new.numbers }
      → new.numbers ≡ record old.numbers { rows = old.numbers.rows + rows; cols = old.numbers.cols + cols; skipped = old.numbers.skipped + skipped }
      → new.table.rows_made ≡ old.table.rows_made + rows → new.table.cols_made ≡ old.table.cols_made + cols
      → HoldsTree new (record held { doc = effects held.doc seq c r (sub_operations (Grid op)) })
  grid-applied op skipped rows cols k a keeps rest numbers in_rows in_cols =
      let after = effects held.doc seq c r (sub_operations (Grid op)) in
      let left = subst (λ os. LeavesText held.doc (effects held.doc seq c r os) × KeepsPending held.doc (effects held.doc seq c r os)) (sym (ops-are op))
      (grid-leaves seq c r held.doc (ops_of op)) in
      let same = left.0 in
      let text : new.text ≡ old.text = ap (λ (s : TreeOwn). s.text) rest in
      record {
        text = subst (λ s. HoldsText s after held.stages) (sym text)
            (text-same held.doc after old.text held.stages held.stages (ap (λ (d : Document). d.text) same) (ap (λ (d : Document). d.intervals) same) refl refl h.text);
        table = a.holds;
        stages = ap (λ (s : TreeOwn). s.stages.items) rest ∙ h.stages;
        numbers = record {
          number = ap (λ (x : NumberState). x.number) numbers ∙ h.numbers.number ∙ sym (ap (λ (d : Document). d.number) same);
          minimum = ap (λ (x : NumberState). x.minimum) numbers ∙ h.numbers.minimum ∙ sym (ap (λ (d : Document). d.minimum) same);
          skipped = ap (λ (x : NumberState). x.skipped) numbers ∙ ap (λ n. n + skipped) h.numbers.skipped ∙ sym a.skipped;
          other = ap (λ (x : NumberState). x.other) numbers ∙ h.numbers.other ∙ sym (ap (λ (d : Document). d.other) same);
          rows = ap (λ (x : NumberState). x.rows) numbers ∙ ap (λ n. n + rows) h.numbers.rows
              ∙ counts held.doc.rows.made after.rows.made old.table.rows_made new.table.rows_made rows _ _ h.table.rows_made a.holds.rows_made in_rows left.1.0;
          cols = ap (λ (x : NumberState). x.cols) numbers ∙ ap (λ n. n + cols) h.numbers.cols
              ∙ counts held.doc.cols.made after.cols.made old.table.cols_made new.table.cols_made cols _ _ h.table.cols_made a.holds.cols_made in_cols left.1.1;
          last = ap (λ (x : NumberState). x.last) numbers ∙ h.numbers.last;
          fits = h.numbers.fits;
        };
        settled = record {
          text = ap (λ (x : TextState). x.usable) text ∙ h.settled.text;
          table = keeps.usable ∙ h.settled.table;
          text_given = ap (λ (x : TextState). x.given) text ∙ h.settled.text_given;
          table_given = keeps.given ∙ h.settled.table_given;
          text_floor = subst (λ (x : TextState). x.floor ≤ held.low) (sym text) h.settled.text_floor;
          table_floor = subst (λ n. n ≤ held.low) (sym keeps.floor) h.settled.table_floor;
        };
      }
    where
      counts : (a b m n i u v : ℕ) → a ≡ m → b ≡ n → n ≡ m + i → u ≡ v → a + v + i ≡ b + u
      counts a b m n i u v e f g l = omega arith

-- a message for another address is counted
pub other-counted : (old new : TreeOwn) (held : HeldDocument) → HoldsTree old held → new ≡ record old { numbers = new.numbers }
    → new.numbers ≡ record old.numbers { other = old.numbers.other + 1 }
    → HoldsTree new (record held { doc = record held.doc { other = held.doc.other + 1 } })
other-counted old new held h rest numbers = record {
  text = subst (λ s. HoldsText s (record held.doc { other = held.doc.other + 1 }) held.stages) (sym (ap (λ (s : TreeOwn). s.text) rest))
      (text-same held.doc (record held.doc { other = held.doc.other + 1 }) old.text held.stages held.stages refl refl refl refl h.text);
  table = subst (λ g. HoldsGrid g (record held.doc { other = held.doc.other + 1 }) held.stages) (sym (ap (λ (s : TreeOwn). s.table) rest))
      (grid-same held.doc (record held.doc { other = held.doc.other + 1 }) old.table held.stages held.stages refl refl refl refl h.table);
  stages = ap (λ (s : TreeOwn). s.stages.items) rest ∙ h.stages;
  numbers = record {
    number = ap (λ (x : NumberState). x.number) numbers ∙ h.numbers.number;
    minimum = ap (λ (x : NumberState). x.minimum) numbers ∙ h.numbers.minimum;
    skipped = ap (λ (x : NumberState). x.skipped) numbers ∙ h.numbers.skipped;
    other = ap (λ (x : NumberState). x.other) numbers ∙ ap (λ n. n + 1) h.numbers.other;
    rows = ap (λ (x : NumberState). x.rows) numbers ∙ h.numbers.rows;
    cols = ap (λ (x : NumberState). x.cols) numbers ∙ h.numbers.cols;
    last = ap (λ (x : NumberState). x.last) numbers ∙ h.numbers.last;
    fits = h.numbers.fits;
  };
  settled = subst (IsSettled held.low) (sym rest) (record {
    text = h.settled.text;
    table = h.settled.table;
    text_given = h.settled.text_given;
    table_given = h.settled.table_given;
    text_floor = h.settled.text_floor;
    table_floor = h.settled.table_floor;
  });
}

-- the numbers of the message
pub numbers-taken : (old new : TreeOwn) (held : HeldDocument) (doc : Document) (entry : Entry) → HoldsTree old (record held { doc = doc })
    → new ≡ record old { numbers = new.numbers }
    → new.numbers ≡ record old.numbers { number = entry.msg.seq; minimum = entry.msg.min } → HoldsTree new (record held { doc = with_numbers entry doc })
numbers-taken old new held doc entry h rest numbers = record {
  text = subst (λ s. HoldsText s (with_numbers entry doc) held.stages) (sym (ap (λ (s : TreeOwn). s.text) rest))
      (text-same doc (with_numbers entry doc) old.text held.stages held.stages refl refl refl refl h.text);
  table = subst (λ g. HoldsGrid g (with_numbers entry doc) held.stages) (sym (ap (λ (s : TreeOwn). s.table) rest))
      (grid-same doc (with_numbers entry doc) old.table held.stages held.stages refl refl refl refl h.table);
  stages = ap (λ (s : TreeOwn). s.stages.items) rest ∙ h.stages;
  numbers = record {
    number = ap (λ (x : NumberState). x.number) numbers;
    minimum = ap (λ (x : NumberState). x.minimum) numbers;
    skipped = ap (λ (x : NumberState). x.skipped) numbers ∙ h.numbers.skipped;
    other = ap (λ (x : NumberState). x.other) numbers ∙ h.numbers.other;
    rows = ap (λ (x : NumberState). x.rows) numbers ∙ h.numbers.rows;
    cols = ap (λ (x : NumberState). x.cols) numbers ∙ h.numbers.cols;
    last = ap (λ (x : NumberState). x.last) numbers ∙ h.numbers.last;
    fits = h.numbers.fits;
  };
  settled = subst (IsSettled held.low) (sym rest) (record {
    text = h.settled.text;
    table = h.settled.table;
    text_given = h.settled.text_given;
    table_given = h.settled.table_given;
    text_floor = h.settled.text_floor;
    table_floor = h.settled.table_floor;
  });
}

-- a message with an operation is of that kind
op-kind : (kind : MsgKind) (sender : Option Characters) (body : Body) (op : ChannelOp) → HasItsParts kind sender body → body ≡ Op op → is_op_kind kind ≡ true
op-kind msg.Op sender body op h e = refl
op-kind msg.Join sender body op h e = absurd (true-false (sym (ap has_body e) ∙ h))
op-kind msg.Leave sender body op h e = absurd (true-false (sym (ap has_body e) ∙ h))
op-kind msg.Noop sender body op h e = absurd (true-false (sym (ap has_body e) ∙ h))
op-kind (msg.Other word) sender body op h e = absurd (true-false (sym (ap has_body e) ∙ h))

-- the floor is no higher than the reference number of an operation that isn't refused
pub known-above : (s : TreeOwn) (entry : Entry) (op : ChannelOp) (n : ℕ) → IsWellFormedMessage entry.msg → entry.msg.body ≡ Op op
    → n ≡ reference_number entry.msg.ref_seq
    → HoldsOne HoldsTree s (λ p. process_fault p entry ≡ None) → HoldsOne HoldsTree s (λ p. floor p ≤ n)
known-above s entry op n formed is same k = record {
  start = k.start;
  client = k.client;
  made = k.made;
  low = k.low;
  above = k.above;
  document = k.document;
  fits = subst (λ i. floor k.client ≤ i) (sym same) (entry-above k.client entry k.fits (op-kind entry.msg.kind entry.msg.client_id entry.msg.body op formed.parts is));
}
