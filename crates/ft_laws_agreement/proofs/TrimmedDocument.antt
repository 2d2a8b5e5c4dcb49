-- A document and a trimmed one beside it go through the same steps, and show the same.
use Rattle.std.proofs.Common.{◌≡◌, ℕ, ◌+◌, ◌≤◌, Bool, true, false, cond, not, ◌&&◌, List, [], ◌∷◌, ◌++◌, Option, Some, None, refl, sym, ◌∙◌, ap, subst, arith, filter, map, length, nat_le, ℤ, pos, negsuc, replicate}
use Rattle.std.specs.Option.{option_map}
use Rattle.std.specs.List.{list_all, list_any}
use Rattle.ft_base.specs.declared.stamps.Stamp.{Stamp}
use Rattle.ft_base.specs.declared.stamps.Stamp.TheVariants.{Acked}
use Rattle.ft_base.specs.Scan.{at, len, change_range}
use Rattle.ft_base.specs.Visibility.{is_acked}
use Rattle.ft_base.proofs.Booleans.{both}
use Rattle.ft_op.specs.declared.operations.BaseOp.{BaseOp}
use Rattle.ft_op.specs.declared.operations.BaseOp.TheVariants.{Insert, Remove, Annotate}
use Rattle.ft_op.specs.declared.operations.Ends.{Ends}
use Rattle.ft_op.specs.declared.operations.TextOp.{TextOp}
use Rattle.ft_op.specs.declared.operations.TextOp.TheVariants.{One, Group, IntervalAdd, IntervalChange, IntervalDelete}
use Rattle.ft_op.specs.declared.operations.CellOp.{CellOp}
use Rattle.ft_op.specs.declared.operations.CellOp.TheVariants.{SpliceIn, SpliceOut, Set}
use Rattle.ft_op.specs.declared.operations.Target.TheVariants.{Rows, Cols}
use Rattle.ft_props.specs.Properties.{PropertyList, ValueBytes, apply, put_rising}
use Rattle.std.specs.declared.cmp.Ordering.{Ordering}
use Rattle.std.specs.declared.cmp.Ordering.TheVariants.{Less, Equal, Greater}
use Rattle.ft_props.specs.Element.{ListElement, ElementId, ElementContent, GridUnit, id, seen_by, is_pending, is_unremoved, new_elements, with_removal, with_annotation}
use Rattle.ft_props.specs.Compaction.{Keeps, KeepsList, is_collectable}
use Rattle.ft_props.specs.Slide.{slide}
use Rattle.ft_props.specs.Steps.{Sequence, empty_list, after_insertion}
use Rattle.ft_props.proofs.CompactedList.{collected-unseen, keeps-put}
use Rattle.ft_op.specs.Operation.{SubOperation, OnText, OnIntervals, OnGrid, segment_contents}
use Rattle.ft_op.specs.Intervals.{Interval, NamedElements, interval_cmp, has_interval, is_interval, with_ends, slide_ends, element_at_end, after_interval_operation}
use Rattle.ft_op.specs.Cells.{Cell, cell_value, write_cell}
use Rattle.ft_op.specs.Document.{Document, with_skip, with_slid_ends, text_effect, interval_effect, grid_effect, cell_effect, effect, effects, ends_of, given_ends_fit, elements_at_given_ends}
use Rattle.ft_laws_agreement.proofs.CompactedScans.{Marking, is_held_end, len-kept, at-kept, range-kept, seen_by-alike, slide-kept, unremoved-alike, with_removal-marking, with_annotation-marking}
use Rattle.ft_laws_agreement.proofs.HeldNames.{HoldsNames, keeps_name, insertion-names, range-names, at-held, settled-held}
use Rattle.ft_laws_agreement.proofs.CellValues.{write-agrees, write-none}

-- the names that stay: of the text, of the rows, of the columns
pub record HeldNames : Type 0 where
  pub text : ElementId → Bool
  pub rows : ElementId → Bool
  pub cols : ElementId → Bool

-- whether a removal of the element is sequenced
abbrev pub is_removed : ListElement → Bool
is_removed e = list_any is_acked e.dels

-- whether both ends of the interval are held
abbrev pub has_held_ends : (ElementId → Bool) → Interval → Bool
has_held_ends held i = is_held_end held i.start && is_held_end held i.end

-- whether both named elements are held
abbrev pub are_held : (ElementId → Bool) → NamedElements → Bool
are_held held names = is_held_end held names.first && is_held_end held names.second

-- the document but for its lists and its cells
abbrev pub without_lists : Document → Document
without_lists doc = record doc { text = empty_list; rows = empty_list; cols = empty_list; cells = [] }

-- kept is the document, but for elements removed at or below the floor, cells of removed rows and columns, and old
-- insertions written as the universal one
pub record Trimmed (floor : ℕ) (held : HeldNames) (kept doc : Document) : Type 0 where
  pub text : KeepsList floor held.text kept.text doc.text
  pub rows : KeepsList floor held.rows kept.rows doc.rows
  pub cols : KeepsList floor held.cols kept.cols doc.cols
  pub text_names : HoldsNames (is_collectable floor) held.text doc.text
  pub row_names : HoldsNames is_removed held.rows doc.rows
  pub col_names : HoldsNames is_removed held.cols doc.cols
  pub ends : list_all (has_held_ends held.text) doc.intervals ≡ true
  pub cells : (row col : ElementId) → held.rows row ≡ true → held.cols col ≡ true → cell_value row col kept.cells ≡ cell_value row col doc.cells
  pub unwritten : (row col : ElementId) → cell_value row col doc.cells ≡ None → cell_value row col kept.cells ≡ None
  pub rest : without_lists kept ≡ without_lists doc

-- ---- one list

new-sequenced : (n s c : ℕ) (by : Option Stamp) (props : PropertyList) (bs : List ElementContent) → list_any is_pending (new_elements n (Acked s c) [] by props bs) ≡ false
new-sequenced n s c by props [] = refl
new-sequenced n s c by props (b ∷ bs) = new-sequenced (n + 1) s c by props bs

module _ {floor : ℕ} {held : ElementId → Bool} {kept list : Sequence} (s c r : ℕ) (above : floor ≤ r) (k : KeepsList floor held kept list) where
  insertion-kept : (p : ℕ) (by : Option Stamp) (props : PropertyList) (bs : List ElementContent)
      → KeepsList floor held (after_insertion s c r p by props bs kept) (after_insertion s c r p by props bs list)
  insertion-kept p by props bs = record {
    items = subst (λ n. Keeps floor held (after_insertion s c r p by props bs (record kept { made = n })).items (after_insertion s c r p by props bs list).items)
        (sym k.made) (keeps-put (new_elements list.made (Acked s c) [] by props bs) (new-sequenced list.made s c by props bs) r c above p k.items);
    made = ap (λ n. n + length bs) k.made;
  }

  mark-kept : (p q : ℕ) (f : ListElement → ListElement) → Marking floor f
      → KeepsList floor held (record kept { items = change_range (seen_by r c) p q f kept.items }) (record list { items = change_range (seen_by r c) p q f list.items })
  mark-kept p q f m = record { items = range-kept (seen_by r c) (seen_by-alike floor r c held above) f m 0 p q k.items; made = k.made }

  len-list : len (seen_by r c) kept.items ≡ len (seen_by r c) list.items
  len-list = len-kept (seen_by r c) (seen_by-alike floor r c held above) k.items

  at-list : (i : ℕ) → option_map id (at (seen_by r c) i kept.items) ≡ option_map id (at (seen_by r c) i list.items)
  at-list i = at-kept (seen_by r c) (seen_by-alike floor r c held above) i k.items

pub removed-more : (s c : ℕ) (e : ListElement) → is_removed e ≡ true → is_removed (with_removal s c e) ≡ true
removed-more s c e h = more e.dels h
  where
    more : (dels : List Stamp) → list_any is_acked dels ≡ true → list_any is_acked (dels ++ (Acked s c ∷ [])) ≡ true
    more [] h = refl
    more (t ∷ dels) h = grind (arith, more dels)

-- ---- intervals

module _ (held : ElementId → Bool) where
  all-rising : (x : Interval) (is : List Interval) → has_held_ends held x ≡ true → list_all (has_held_ends held) is ≡ true
      → list_all (has_held_ends held) (put_rising interval_cmp x is) ≡ true
  all-rising x [] h k = rw h refl
  all-rising x (i ∷ is) h k =
      let p = both (has_held_ends held i) (list_all (has_held_ends held) is) k in
      placed (interval_cmp x i) p.0 p.1 (all-rising x is h p.1)
    where
      placed : (o : Ordering) → has_held_ends held i ≡ true → list_all (has_held_ends held) is ≡ true → list_all (has_held_ends held) (put_rising interval_cmp x is) ≡ true
          → list_all (has_held_ends held) (elim o [ Less ↦ x ∷ i ∷ is | Equal ↦ x ∷ is | Greater ↦ i ∷ put_rising interval_cmp x is ]) ≡ true
      placed Less a b c = rw (h, a, b) refl
      placed Equal a b c = rw (h, b) refl
      placed Greater a b c = rw (a, c) refl

  all-map : (f : Interval → Interval) (is : List Interval) → ((i : Interval) → has_held_ends held i ≡ true → has_held_ends held (f i) ≡ true)
      → list_all (has_held_ends held) is ≡ true → list_all (has_held_ends held) (map f is) ≡ true
  all-map f [] h k = refl
  all-map f (i ∷ is) h k = let p = both (has_held_ends held i) (list_all (has_held_ends held) is) k in rw (h i p.0, all-map f is h p.1) refl

  all-filter : (test : Interval → Bool) (is : List Interval) → list_all (has_held_ends held) is ≡ true → list_all (has_held_ends held) (filter test is) ≡ true
  all-filter test [] k = refl
  all-filter test (i ∷ is) k = grind (arith, all-filter test is)

  chosen-ends : (b : Bool) (i j : Interval) → has_held_ends held i ≡ true → has_held_ends held j ≡ true → has_held_ends held (cond b i j) ≡ true
  chosen-ends true i j h k = h
  chosen-ends false i j h k = k

  given-ends : (ends : Option Ends) (names : NamedElements) (i : Interval) → are_held held names ≡ true → has_held_ends held i ≡ true
      → has_held_ends held (with_ends ends names i) ≡ true
  given-ends None names i h k = k
  given-ends (Some ends) names i h k = h

  -- an operation that names held elements leaves the ends held
  pub operation-held : (op : TextOp) (names : NamedElements) (is : List Interval) → are_held held names ≡ true → list_all (has_held_ends held) is ≡ true
      → list_all (has_held_ends held) (after_interval_operation op names is) ≡ true
  operation-held (One op) names is h k = k
  operation-held (Group ops) names is h k = k
  operation-held (IntervalAdd label name ends props) names is h k = added (has_interval label name is)
    where
      new : Interval
      new = record { label = label; id = name; start = names.first; end = names.second; props = apply [] props }

      added : (b : Bool) → list_all (has_held_ends held) (cond b is (put_rising interval_cmp
          (record { label = label; id = name; start = names.first; end = names.second; props = apply [] props }) is)) ≡ true
      added true = k
      added false = all-rising (record { label = label; id = name; start = names.first; end = names.second; props = apply [] props }) is h k
  operation-held (IntervalChange label name ends props) names is h k =
      all-map (λ i. cond (is_interval label name i) (let j = with_ends ends names i in record j { props = apply j.props props }) i) is
      (λ i g. chosen-ends (is_interval label name i) (let j = with_ends ends names i in record j { props = apply j.props props }) i (given-ends ends names i h g) g) k
  operation-held (IntervalDelete label name) names is h k = all-filter (λ i. not (is_interval label name i)) is k

  module _ {floor : ℕ} {ks xs : List ListElement} (k : Keeps floor held ks xs) (names : list_all (keeps_name (is_collectable floor) held) xs ≡ true) where
    slide-held : (x : Option ElementId) → is_held_end held (slide xs x) ≡ true
    slide-held None = refl
    slide-held (Some x) = settled-held (is_collectable floor) held is_unremoved (λ e g. (unremoved-alike floor (λ _. false)).gone e g refl) _ None xs refl names

    slide_ends-kept : (is : List Interval) → list_all (has_held_ends held) is ≡ true → slide_ends ks is ≡ slide_ends xs is
    slide_ends-kept [] h = refl
    slide_ends-kept (i ∷ is) h =
        let p = both (has_held_ends held i) (list_all (has_held_ends held) is) h in
        let q = both (is_held_end held i.start) (is_held_end held i.end) p.0 in
        rw (slide-kept i.start q.0 k, slide-kept i.end q.1 k, slide_ends-kept is p.1) refl

    slide_ends-held : (is : List Interval) → list_all (has_held_ends held) (slide_ends xs is) ≡ true
    slide_ends-held [] = refl
    slide_ends-held (i ∷ is) = rw (slide-held i.start, slide-held i.end, slide_ends-held is) refl

-- ---- the parts of the document

module _ {floor : ℕ} {held : HeldNames} {kept doc : Document} (t : Trimmed floor held kept doc) where
  pub text-step : (ks xs : Sequence) → KeepsList floor held.text ks xs → HoldsNames (is_collectable floor) held.text xs
      → Trimmed floor held (record kept { text = ks }) (record doc { text = xs })
  text-step ks xs k n = record {
    text = k;
    rows = t.rows;
    cols = t.cols;
    text_names = n;
    row_names = t.row_names;
    col_names = t.col_names;
    ends = t.ends;
    cells = t.cells;
    unwritten = t.unwritten;
    rest = t.rest;
  }

  pub rows-step : (ks xs : Sequence) → KeepsList floor held.rows ks xs → HoldsNames is_removed held.rows xs
      → Trimmed floor held (record kept { rows = ks }) (record doc { rows = xs })
  rows-step ks xs k n = record {
    text = t.text;
    rows = k;
    cols = t.cols;
    text_names = t.text_names;
    row_names = n;
    col_names = t.col_names;
    ends = t.ends;
    cells = t.cells;
    unwritten = t.unwritten;
    rest = t.rest;
  }

  pub cols-step : (ks xs : Sequence) → KeepsList floor held.cols ks xs → HoldsNames is_removed held.cols xs
      → Trimmed floor held (record kept { cols = ks }) (record doc { cols = xs })
  cols-step ks xs k n = record {
    text = t.text;
    rows = t.rows;
    cols = k;
    text_names = t.text_names;
    row_names = t.row_names;
    col_names = n;
    ends = t.ends;
    cells = t.cells;
    unwritten = t.unwritten;
    rest = t.rest;
  }

  pub cells-step : (ks cs : List Cell) → ((row col : ElementId) → held.rows row ≡ true → held.cols col ≡ true → cell_value row col ks ≡ cell_value row col cs)
      → ((row col : ElementId) → cell_value row col cs ≡ None → cell_value row col ks ≡ None) → Trimmed floor held (record kept { cells = ks }) (record doc { cells = cs })
  cells-step ks cs h f = record {
    text = t.text;
    rows = t.rows;
    cols = t.cols;
    text_names = t.text_names;
    row_names = t.row_names;
    col_names = t.col_names;
    ends = t.ends;
    cells = h;
    unwritten = f;
    rest = t.rest;
  }

  pub intervals-step : (is js : List Interval) → is ≡ js → list_all (has_held_ends held.text) js ≡ true
      → Trimmed floor held (record kept { intervals = is }) (record doc { intervals = js })
  intervals-step is js e h = record {
    text = t.text;
    rows = t.rows;
    cols = t.cols;
    text_names = t.text_names;
    row_names = t.row_names;
    col_names = t.col_names;
    ends = h;
    cells = t.cells;
    unwritten = t.unwritten;
    rest = ap (λ (d : Document). record d { intervals = is }) t.rest ∙ ap (λ l. record (without_lists doc) { intervals = l }) e;
  }

  pub same-intervals : kept.intervals ≡ doc.intervals
  same-intervals = ap (λ (d : Document). d.intervals) t.rest

  pub slid-step : Trimmed floor held (with_slid_ends kept) (with_slid_ends doc)
  slid-step =
      intervals-step (slide_ends kept.text.items kept.intervals) (slide_ends doc.text.items doc.intervals)
      (ap (slide_ends kept.text.items) same-intervals ∙ slide_ends-kept held.text t.text.items t.text_names.all doc.intervals t.ends)
      (slide_ends-held held.text t.text.items t.text_names.all doc.intervals)

  skip-step : Trimmed floor held (with_skip kept) (with_skip doc)
  skip-step = record {
    text = t.text;
    rows = t.rows;
    cols = t.cols;
    text_names = t.text_names;
    row_names = t.row_names;
    col_names = t.col_names;
    ends = t.ends;
    cells = t.cells;
    unwritten = t.unwritten;
    rest = ap with_skip t.rest;
  }

-- ---- effects

chosen : (R : Document → Document → Type 0) (b : Bool) (x y u v : Document) → R x u → R y v → R (cond b x y) (cond b u v)
chosen R true x y u v p q = p
chosen R false x y u v p q = q

choice : (R : Document → Document → Type 0) (b c : Bool) (x y u v : Document) → b ≡ c → R x u → R y v → R (cond b x y) (cond c u v)
choice R b c x y u v e p q = subst (λ d. R (cond b x y) (cond d u v)) e (chosen R b x y u v p q)

module _ (held : ElementId → Bool) (floor r c : ℕ) (above : floor ≤ r) where
  end-held : (doc : Document) (z : ℤ) → list_all (keeps_name (is_collectable floor) held) doc.text.items ≡ true
      → is_held_end held (element_at_end (seen_by r c) doc.text.items z) ≡ true
  end-held doc (pos p) n = at-held (is_collectable floor) held (seen_by r c) (collected-unseen floor r c above) p doc.text.items n
  end-held doc (negsuc p) n = refl

  names-held : (doc : Document) (ends : Option Ends) → list_all (keeps_name (is_collectable floor) held) doc.text.items ≡ true
      → are_held held (elements_at_given_ends (seen_by r c) doc.text.items ends) ≡ true
  names-held doc None n = refl
  names-held doc (Some ends) n = rw (end-held doc ends.start n, end-held doc ends.end n) refl

module _ {floor : ℕ} {held : HeldNames} (s c r : ℕ) (above : floor ≤ r) where
  text_effect-trimmed : (kept doc : Document) (op : BaseOp) → Trimmed floor held kept doc → Trimmed floor held (text_effect kept s c r op) (text_effect doc s c r op)
  text_effect-trimmed kept doc (Insert p seg props) t =
      choice (Trimmed floor held) (nat_le p (len (seen_by r c) kept.text.items)) (nat_le p (len (seen_by r c) doc.text.items)) _ (with_skip kept) _
      (with_skip doc) (ap (nat_le p) (len-list s c r above t.text))
      (text-step t _ _ (insertion-kept s c r above t.text p (Some (Acked s c)) (apply [] props) (segment_contents seg))
      (insertion-names (is_collectable floor) held.text s c r p (Some (Acked s c)) (apply [] props) (segment_contents seg) doc.text t.text_names)) (skip-step t)
  text_effect-trimmed kept doc (Remove p q) t =
      choice (Trimmed floor held) (nat_le q (len (seen_by r c) kept.text.items)) (nat_le q (len (seen_by r c) doc.text.items)) _ (with_skip kept) _
      (with_skip doc) (ap (nat_le q) (len-list s c r above t.text))
      (slid-step (text-step t _ _ (mark-kept s c r above t.text p q (with_removal s c) (with_removal-marking floor s c))
      (range-names (is_collectable floor) held.text (seen_by r c) (with_removal s c) (λ e. refl) (with_removal-marking floor s c).gone p q doc.text t.text_names))) (skip-step t)
  text_effect-trimmed kept doc (Annotate p q changes) t =
      choice (Trimmed floor held) (nat_le q (len (seen_by r c) kept.text.items)) (nat_le q (len (seen_by r c) doc.text.items)) _ (with_skip kept) _
      (with_skip doc) (ap (nat_le q) (len-list s c r above t.text))
      (text-step t _ _ (mark-kept s c r above t.text p q (with_annotation changes) (with_annotation-marking floor changes))
      (range-names (is_collectable floor) held.text (seen_by r c) (with_annotation changes) (λ e. refl) (λ e g. g) p q doc.text t.text_names)) (skip-step t)

  end-kept : (kept doc : Document) (z : ℤ) → Trimmed floor held kept doc → element_at_end (seen_by r c) kept.text.items z ≡ element_at_end (seen_by r c) doc.text.items z
  end-kept kept doc (pos p) t = at-list s c r above t.text p
  end-kept kept doc (negsuc p) t = refl

  names-kept : (kept doc : Document) (ends : Option Ends) → Trimmed floor held kept doc → elements_at_given_ends (seen_by r c) kept.text.items ends
      ≡ elements_at_given_ends (seen_by r c) doc.text.items ends
  names-kept kept doc None t = refl
  names-kept kept doc (Some ends) t = rw (end-kept kept doc ends.start t, end-kept kept doc ends.end t) refl

  interval_effect-trimmed : (kept doc : Document) (op : TextOp) → Trimmed floor held kept doc → Trimmed floor held (interval_effect kept c r op) (interval_effect doc c r op)
  interval_effect-trimmed kept doc op t =
      choice (Trimmed floor held) (given_ends_fit (len (seen_by r c) kept.text.items) (ends_of op))
      (given_ends_fit (len (seen_by r c) doc.text.items) (ends_of op)) _ (with_skip kept) _ (with_skip doc)
      (ap (λ n. given_ends_fit n (ends_of op)) (len-list s c r above t.text))
      (slid-step (intervals-step t _ _
      (ap (λ names. after_interval_operation op names kept.intervals) (names-kept kept doc (ends_of op) t)
      ∙ ap (after_interval_operation op (elements_at_given_ends (seen_by r c) doc.text.items (ends_of op))) (same-intervals t))
      (operation-held held.text op (elements_at_given_ends (seen_by r c) doc.text.items (ends_of op)) doc.intervals
      (names-held held.text floor r c above doc (ends_of op) t.text_names.all) t.ends))) (skip-step t)

  cell_effect-trimmed : (kept doc : Document) (a b x y : Option ListElement) (value : ValueBytes) → option_map id a ≡ option_map id x → option_map id b
      ≡ option_map id y → Trimmed floor held kept doc → Trimmed floor held (cell_effect kept a b value) (cell_effect doc x y value)
  cell_effect-trimmed kept doc None b None y value p q t = skip-step t
  cell_effect-trimmed kept doc (Some a) None (Some x) None value p q t = skip-step t
  cell_effect-trimmed kept doc (Some a) (Some b) (Some x) (Some y) value p q t =
      let e : id a ≡ id x = cc in
      let f : id b ≡ id y = cc in
      subst (λ i. Trimmed floor held (record kept { cells = write_cell (record { row = i; col = id b; value = value }) kept.cells })
      (cell_effect doc (Some x) (Some y) value)) (sym e)
      (subst (λ i. Trimmed floor held (record kept { cells = write_cell (record { row = id x; col = i; value = value }) kept.cells })
      (cell_effect doc (Some x) (Some y) value)) (sym f)
      (cells-step t _ _ (λ row col h k. write-agrees row col (record { row = id x; col = id y; value = value }) kept.cells doc.cells (t.cells row col h k))
      (λ row col h. write-none row col (record { row = id x; col = id y; value = value }) kept.cells doc.cells (t.unwritten row col) h)))
  cell_effect-trimmed kept doc None b (Some x) y value p q t = absurd cc
  cell_effect-trimmed kept doc (Some a) b None y value p q t = absurd cc
  cell_effect-trimmed kept doc (Some a) None (Some x) (Some y) value p q t = absurd cc
  cell_effect-trimmed kept doc (Some a) (Some b) (Some x) None value p q t = absurd cc

  grid_effect-trimmed : (kept doc : Document) (op : CellOp) → Trimmed floor held kept doc → Trimmed floor held (grid_effect kept s c r op) (grid_effect doc s c r op)
  grid_effect-trimmed kept doc (SpliceIn Rows p count) t =
      choice (Trimmed floor held) (nat_le p (len (seen_by r c) kept.rows.items)) (nat_le p (len (seen_by r c) doc.rows.items)) _ (with_skip kept) _
      (with_skip doc) (ap (nat_le p) (len-list s c r above t.rows))
      (rows-step t _ _ (insertion-kept s c r above t.rows p None [] (replicate count GridUnit))
      (insertion-names is_removed held.rows s c r p None [] (replicate count GridUnit) doc.rows t.row_names)) (skip-step t)
  grid_effect-trimmed kept doc (SpliceIn Cols p count) t =
      choice (Trimmed floor held) (nat_le p (len (seen_by r c) kept.cols.items)) (nat_le p (len (seen_by r c) doc.cols.items)) _ (with_skip kept) _
      (with_skip doc) (ap (nat_le p) (len-list s c r above t.cols))
      (cols-step t _ _ (insertion-kept s c r above t.cols p None [] (replicate count GridUnit))
      (insertion-names is_removed held.cols s c r p None [] (replicate count GridUnit) doc.cols t.col_names)) (skip-step t)
  grid_effect-trimmed kept doc (SpliceOut Rows p q) t =
      choice (Trimmed floor held) (nat_le q (len (seen_by r c) kept.rows.items)) (nat_le q (len (seen_by r c) doc.rows.items)) _ (with_skip kept) _
      (with_skip doc) (ap (nat_le q) (len-list s c r above t.rows))
      (rows-step t _ _ (mark-kept s c r above t.rows p q (with_removal s c) (with_removal-marking floor s c))
      (range-names is_removed held.rows (seen_by r c) (with_removal s c) (λ e. refl) (removed-more s c) p q doc.rows t.row_names)) (skip-step t)
  grid_effect-trimmed kept doc (SpliceOut Cols p q) t =
      choice (Trimmed floor held) (nat_le q (len (seen_by r c) kept.cols.items)) (nat_le q (len (seen_by r c) doc.cols.items)) _ (with_skip kept) _
      (with_skip doc) (ap (nat_le q) (len-list s c r above t.cols))
      (cols-step t _ _ (mark-kept s c r above t.cols p q (with_removal s c) (with_removal-marking floor s c))
      (range-names is_removed held.cols (seen_by r c) (with_removal s c) (λ e. refl) (removed-more s c) p q doc.cols t.col_names)) (skip-step t)
  grid_effect-trimmed kept doc (Set i j value) t =
      cell_effect-trimmed kept doc (at (seen_by r c) i kept.rows.items) (at (seen_by r c) j kept.cols.items) (at (seen_by r c) i doc.rows.items)
      (at (seen_by r c) j doc.cols.items) value (at-list s c r above t.rows i) (at-list s c r above t.cols j) t

  pub effect-trimmed : (kept doc : Document) (o : SubOperation) → Trimmed floor held kept doc → Trimmed floor held (effect kept s c r o) (effect doc s c r o)
  effect-trimmed kept doc (OnText op) t = text_effect-trimmed kept doc op t
  effect-trimmed kept doc (OnIntervals op) t = interval_effect-trimmed kept doc op t
  effect-trimmed kept doc (OnGrid op) t = grid_effect-trimmed kept doc op t

  -- the sub-operations of a message from the floor up keep the relation
  pub effects-trimmed : (kept doc : Document) (os : List SubOperation) → Trimmed floor held kept doc → Trimmed floor held (effects kept s c r os) (effects doc s c r os)
  effects-trimmed kept doc [] t = t
  effects-trimmed kept doc (o ∷ os) t = effects-trimmed (effect kept s c r o) (effect doc s c r o) os (effect-trimmed kept doc o t)
