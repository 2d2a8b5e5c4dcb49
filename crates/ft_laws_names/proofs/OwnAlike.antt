-- The acknowledgement of a client's own edit in two documents that differ in names alone.
use Rattle.std.proofs.Common.{◌≡◌, ℕ, ◌+◌, ◌≤◌, ◌<◌, Bool, true, false, cond, ◌&&◌, ◌||◌, nat_eq, List, [], ◌∷◌, ◌++◌, Option, Some, None, refl, sym, ◌∙◌, ap, subst, length, map, arith}
use Rattle.std.specs.List.{list_any}
use Rattle.std.proofs.lemmas.Bool.Decides.{nat_tests}
use Rattle.ft_base.specs.Scan.{len}
use Rattle.ft_op.specs.declared.operations.CellOp.TheVariants.{SpliceIn, SpliceOut, Set}
use Rattle.ft_op.specs.declared.operations.Target.TheVariants.{Rows, Cols}
use Rattle.ft_op.specs.declared.operations.TextOp.{TextOp}
use Rattle.ft_props.specs.Element.{ElementId, ListElement, PendingId, SequencedId, has_id}
use Rattle.ft_props.specs.Steps.{Sequence, acked_id, acked_list, is_inserted_by}
use Rattle.ft_op.specs.Operation.{OnGrid, OnIntervals, OnText, SubOperation}
use Rattle.ft_op.specs.Intervals.{NamedElements}
use Rattle.ft_op.specs.Cells.{cell_value}
use Rattle.ft_op.specs.Document.{Document, with_slid_ends}
use Rattle.ft_op.specs.Stages.{Stage, intervals_after_stage}
use Rattle.ft_msg.specs.Acknowledgement.{ack_stage, ack_stages, cells_after_stage, made_before, renamed, renamed_names, renamed_stage, write_named_cell}
use Rattle.ft_laws_agreement.specs.Sequencing.{Each}
use Rattle.ft_laws_names.specs.WellNamed.{AreNamedBefore, ArePutIn, HasItsStages, HasNoCellsAhead, IsNamedBefore, IsSequencedName, IsWellNumbered, RiseTo, inserts_cols, inserts_rows, puts_text_in}
use Rattle.ft_laws_names.proofs.AckedLists.{acked-alike, acked-carries, acked-stands, stage-count, unstaged}
use Rattle.ft_laws_names.proofs.Beside.{beside-map, next}
use Rattle.ft_laws_names.proofs.DocumentsAlike.{DocsAlike, RowsAlike, cells-written, less-ahead, parts-intervals, slid-docs}
use Rattle.ft_laws_names.proofs.IntervalsAlike.{NamesAlike, SettledAlike, away, intervals-after, intervals-more, on_sequenced, settled-ends}
use Rattle.ft_laws_names.proofs.LocalAlike.{StageNames, StagesBeside}
use Rattle.ft_laws_names.proofs.Twins.{BesideList, EndsAlike, EndsBeside, IsTwin, StandAlike, detached, ends-beside, len-alike, on, there-other, twin-inserted}

-- ---- what the stages tell of the lists

pub stages-apart : (inserts : SubOperation → Bool) (j k last : ℕ) (ts : List Stage) → j ≤ k → RiseTo k last ts → list_any (λ t. nat_eq j t.stage && inserts t.sub_operation) ts ≡ false
stages-apart inserts j k last [] l h = refl
stages-apart inserts j k last (t ∷ ts) l h = rw (other j t.stage (omega arith), stages-apart inserts j t.stage last ts (omega arith) h.1) refl
  where
    other : (i m : ℕ) → i < m → nat_eq i m ≡ false
    other i m g = grind (arith, nat_tests)

-- the number of the first stage is that of no other one
pub unlisted : (inserts : SubOperation → Bool) (low last : ℕ) (t : Stage) (ts : List Stage) → inserts t.sub_operation ≡ false → RiseTo low last (t ∷ ts)
    → list_any (λ u. nat_eq t.stage u.stage && inserts u.sub_operation) (t ∷ ts) ≡ false
unlisted inserts low last t ts e r = ap (λ b. b || list_any (λ u. nat_eq t.stage u.stage && inserts u.sub_operation) ts)
    (ap (λ b. nat_eq t.stage t.stage && b) e ∙ never (nat_eq t.stage t.stage)) ∙ stages-apart inserts t.stage t.stage last ts (omega arith) r.1
  where
    never : (b : Bool) → b && false ≡ false
    never true = refl
    never false = refl

-- a list into which the first stage doesn't insert has none of its elements
pub not-own : (inserts : SubOperation → Bool) (low last : ℕ) (t : Stage) (ts : List Stage) (xs : List ListElement) → inserts t.sub_operation ≡ false
    → RiseTo low last (t ∷ ts) → ArePutIn inserts (t ∷ ts) xs → len (is_inserted_by t.stage) xs ≡ 0
not-own inserts low last t ts xs e r h = h t.stage (unlisted inserts low last t ts e r)

-- a list has none of the elements of a stage that puts nothing into it
abbrev pub HasNoneOf : (SubOperation → Bool) → List ListElement → Stage → Type 0
HasNoneOf inserts xs t = inserts t.sub_operation ≡ false → len (is_inserted_by t.stage) xs ≡ 0

-- so it is for each stage
pub none-own : (inserts : SubOperation → Bool) (xs : List ListElement) (low last : ℕ) (ts : List Stage) → RiseTo low last ts
    → ((k : ℕ) → low < k → list_any (λ t. nat_eq k t.stage && inserts t.sub_operation) ts ≡ false → len (is_inserted_by k) xs ≡ 0)
    → Each (HasNoneOf inserts xs) ts
none-own inserts xs low last [] r h = tt
none-own inserts xs low last (t ∷ ts) r h = (
  λ e. h t.stage r.0 (unlisted inserts low last t ts e r),
  none-own inserts xs t.stage last ts r.1 (λ k l g. h k (later low t.stage k r.0 l)
      (ap (λ b. b && inserts t.sub_operation || list_any (λ u. nat_eq k u.stage && inserts u.sub_operation) ts) (other k t.stage l) ∙ g)),
)
  where
    later : (i j k : ℕ) → i < j → j < k → i < k
    later i j k l g = omega arith

    other : (i m : ℕ) → m < i → nat_eq i m ≡ false
    other i m g = grind (arith, nat_tests)

pub put-in-twins : (inserts : SubOperation → Bool) (ts : List Stage) {xs ys : List ListElement} → BesideList IsTwin xs ys → ArePutIn inserts ts xs → ArePutIn inserts ts ys
put-in-twins inserts ts t h k g = sym (len-alike (is_inserted_by k) (λ x y q. twin-inserted k x y q) t) ∙ h k g

-- a standing name of a stage before the first one is sequenced
pub sequenced-name : (inserts : SubOperation → Bool) (low last : ℕ) (t : Stage) (ts : List Stage) (list : Sequence) (a : ElementId) → IsWellNumbered last list
    → RiseTo low last (t ∷ ts) → ArePutIn inserts (t ∷ ts) list.items → 1 ≤ len (has_id a) list.items
    → IsNamedBefore t.stage (Some a) → IsSequencedName a
sequenced-name inserts low last t ts list (SequencedId n) w r h l b = tt
sequenced-name inserts low last t ts list (PendingId j n) w r h l b =
    let none = h j (stages-apart inserts j j last (t ∷ ts) (omega arith) (b, r.1)) in
    let absent = w.counted j n (omega arith) in
    absurd (omega arith)

-- the others have their elements after it
pub put-in-after : (inserts : SubOperation → Bool) (last s c : ℕ) (t : Stage) (ts : List Stage) (list : Sequence) → IsWellNumbered last list
    → ArePutIn inserts (t ∷ ts) list.items → ArePutIn inserts ts (acked_list t.stage s c list).items
put-in-after inserts last s c t ts list w h k g = step (nat_eq k t.stage) refl
  where
    step : (b : Bool) → nat_eq k t.stage ≡ b → len (is_inserted_by k) (acked_list t.stage s c list).items ≡ 0
    step true e = stage-count last t.stage s c list w k true e
    step false e = stage-count last t.stage s c list w k false e ∙ h k (ap
        (λ b. b && inserts t.sub_operation || list_any (λ u. nat_eq k u.stage && inserts u.sub_operation) ts) e ∙ g)

-- ---- one stage

-- what acknowledging a stage gives: documents that differ in names alone, and names that stand at the same places
record AckedDocs (last : ℕ) (p q d e : Document) (f g : ElementId → ElementId) : Type 0 where
  pub alike : DocsAlike last d e
  pub text : (a b : ElementId) → StandAlike p.text.items q.text.items a b → StandAlike d.text.items e.text.items (f a) (g b)
  pub rows : (a b : ElementId) → StandAlike p.rows.items q.rows.items a b → StandAlike d.rows.items e.rows.items (f a) (g b)
  pub cols : (a b : ElementId) → StandAlike p.cols.items q.cols.items a b → StandAlike d.cols.items e.cols.items (f a) (g b)

module _ (last s c low : ℕ) (t : Stage) (others : NamedElements) (ts : List Stage) (p q : Document) (h : DocsAlike last p q) (names : StageNames p q t.sub_operation t.names others)
    (before : AreNamedBefore t.stage t.sub_operation t.names) (other : AreNamedBefore t.stage t.sub_operation others) (rise : RiseTo low last (t ∷ ts))
    (own : HasItsStages (t ∷ ts) p) where
  -- the name as its list renames it
  pub list-name : (inserts : SubOperation → Bool) (list : Sequence) (n : ℕ) (a : ElementId) → IsWellNumbered last list → ArePutIn inserts (t ∷ ts) list.items
      → inserts t.sub_operation ≡ false → 1 ≤ len (has_id a) list.items → acked_id t.stage list.made a ≡ acked_id t.stage n a
  list-name inserts list n a w put e l =
      let none = not-own inserts low last t ts list.items e rise put in
      unstaged last t.stage list.made list a w none l ∙ sym (unstaged last t.stage n list a w none l)

  text-name : (doc : Document) → IsWellNumbered last doc.text → ArePutIn puts_text_in (t ∷ ts) doc.text.items → (o : SubOperation) → t.sub_operation ≡ o
      → (a : ElementId) → 1 ≤ len (has_id a) doc.text.items → acked_id t.stage doc.text.made a ≡ acked_id t.stage (made_before doc o) a
  text-name doc w put (OnText op) e a l = refl
  text-name doc w put (OnIntervals op) e a l = list-name puts_text_in doc.text _ a w put (ap puts_text_in e) l
  text-name doc w put (OnGrid op) e a l = list-name puts_text_in doc.text _ a w put (ap puts_text_in e) l

  pub rows-name : (doc : Document) → IsWellNumbered last doc.rows → ArePutIn inserts_rows (t ∷ ts) doc.rows.items → (o : SubOperation) → t.sub_operation ≡ o
      → (a : ElementId) → 1 ≤ len (has_id a) doc.rows.items → acked_id t.stage doc.rows.made a ≡ acked_id t.stage (made_before doc o) a
  rows-name doc w put (OnText op) e a l = list-name inserts_rows doc.rows _ a w put (ap inserts_rows e) l
  rows-name doc w put (OnIntervals op) e a l = list-name inserts_rows doc.rows _ a w put (ap inserts_rows e) l
  rows-name doc w put (OnGrid (SpliceIn Rows i count)) e a l = refl
  rows-name doc w put (OnGrid (SpliceIn Cols i count)) e a l = list-name inserts_rows doc.rows _ a w put (ap inserts_rows e) l
  rows-name doc w put (OnGrid (SpliceOut target i j)) e a l = list-name inserts_rows doc.rows _ a w put (ap inserts_rows e) l
  rows-name doc w put (OnGrid (Set i j value)) e a l = list-name inserts_rows doc.rows _ a w put (ap inserts_rows e) l

  pub cols-name : (doc : Document) → IsWellNumbered last doc.cols → ArePutIn inserts_cols (t ∷ ts) doc.cols.items → (o : SubOperation) → t.sub_operation ≡ o
      → (a : ElementId) → 1 ≤ len (has_id a) doc.cols.items → acked_id t.stage doc.cols.made a ≡ acked_id t.stage (made_before doc o) a
  cols-name doc w put (OnText op) e a l = list-name inserts_cols doc.cols _ a w put (ap inserts_cols e) l
  cols-name doc w put (OnIntervals op) e a l = list-name inserts_cols doc.cols _ a w put (ap inserts_cols e) l
  cols-name doc w put (OnGrid (SpliceIn Rows i count)) e a l = list-name inserts_cols doc.cols _ a w put (ap inserts_cols e) l
  cols-name doc w put (OnGrid (SpliceIn Cols i count)) e a l = refl
  cols-name doc w put (OnGrid (SpliceOut target i j)) e a l = list-name inserts_cols doc.cols _ a w put (ap inserts_cols e) l
  cols-name doc w put (OnGrid (Set i j value)) e a l = list-name inserts_cols doc.cols _ a w put (ap inserts_cols e) l

  other-put : HasItsStages (t ∷ ts) q
  other-put = record {
    text = put-in-twins puts_text_in (t ∷ ts) h.parts.text.twins own.text;
    rows = put-in-twins inserts_rows (t ∷ ts) h.parts.rows.twins
        own.rows;
    cols = put-in-twins inserts_cols (t ∷ ts) h.parts.cols.twins own.cols;
  }

  -- cells keep their values
  pub row-value : (doc : Document) → HasNoCellsAhead doc → (i col : ElementId) → cell_value (acked_id t.stage doc.rows.made i) col doc.cells ≡ cell_value i col doc.cells
  row-value doc n (SequencedId m) col = refl
  row-value doc n (PendingId j m) col = step (nat_eq j t.stage)
    where
      step : (b : Bool) → cell_value (cond b (SequencedId (doc.rows.made + m)) (PendingId j m)) col doc.cells ≡ cell_value (PendingId j m) col doc.cells
      step true = n.rows (SequencedId (doc.rows.made + m)) col (omega arith) ∙ sym (n.rows (PendingId j m) col tt)
      step false = refl

  pub col-value : (doc : Document) → HasNoCellsAhead doc → (row i : ElementId) → cell_value row (acked_id t.stage doc.cols.made i) doc.cells ≡ cell_value row i doc.cells
  col-value doc n row (SequencedId m) = refl
  col-value doc n row (PendingId j m) = step (nat_eq j t.stage)
    where
      step : (b : Bool) → cell_value row (cond b (SequencedId (doc.cols.made + m)) (PendingId j m)) doc.cells ≡ cell_value row (PendingId j m) doc.cells
      step true = n.cols row (SequencedId (doc.cols.made + m)) (omega arith) ∙ sym (n.cols row (PendingId j m) tt)
      step false = refl

  abbrev lists : Document → Document
  lists doc = record doc { text = acked_list t.stage s c doc.text; rows = acked_list t.stage s c doc.rows; cols = acked_list t.stage s c doc.cols }

  ahead : (doc : Document) → HasNoCellsAhead doc → HasNoCellsAhead (lists doc)
  ahead doc n = record {
    rows = λ row col u. n.rows row col (less-ahead doc.rows.made _ row (omega arith) u);
    cols = λ row col u. n.cols row col
        (less-ahead doc.cols.made _ col (omega arith) u);
  }

  text-stands : (a b : ElementId) → StandAlike p.text.items q.text.items a b
      → StandAlike (lists p).text.items (lists q).text.items (acked_id t.stage p.text.made a) (acked_id t.stage q.text.made b)
  text-stands = acked-stands last t.stage s c p.text q.text h.parts.text

  -- the ends of intervals are on sequenced elements
  settled-acked : {o i : Option ElementId} → SettledAlike p.text.items q.text.items o i → SettledAlike (lists p).text.items (lists q).text.items o i
  settled-acked away = away
  settled-acked (on_sequenced {m = m} {n = n} g) = on_sequenced (text-stands (SequencedId m) (SequencedId n) g)

  parts : DocsAlike last (lists p) (lists q)
  parts = record {
    parts = record {
      text = acked-alike last t.stage s c p.text q.text h.parts.text;
      rows = acked-alike last t.stage s c p.rows q.rows h.parts.rows;
      cols = acked-alike last t.stage s c p.cols q.cols h.parts.cols;
      cells = acked-carries last t.stage s c p.rows q.rows h.parts.rows (RowsAlike p.cols.items q.cols.items p.cells q.cells)
          (RowsAlike (lists p).cols.items (lists q).cols.items p.cells q.cells)
          (λ i j u v r. acked-carries last t.stage s c p.cols q.cols h.parts.cols (λ a b. cell_value i a p.cells ≡ cell_value j b q.cells)
          (λ a b. cell_value (acked_id t.stage p.rows.made i) a p.cells ≡ cell_value (acked_id t.stage q.rows.made j) b q.cells)
          (λ a b x y e. row-value p h.parts.left i (acked_id t.stage p.cols.made a) ∙ col-value p h.parts.left i a ∙ e
          ∙ sym (row-value q h.parts.right j (acked_id t.stage q.cols.made b) ∙ col-value q h.parts.right j b)) r) h.parts.cells;
      left = ahead p h.parts.left;
      right = ahead q h.parts.right;
      skipped = h.parts.skipped;
      other = h.parts.other;
      number = h.parts.number;
      minimum = h.parts.minimum;
    };
    intervals = intervals-more (SettledAlike p.text.items q.text.items) (SettledAlike (lists p).text.items (lists q).text.items) (λ i j e. settled-acked e) h.intervals;
  }

  -- its cell write
  written : (o : SubOperation) → t.sub_operation ≡ o → DocsAlike last (record (lists p) { cells = cells_after_stage o t.names p.cells })
      (record (lists q) { cells = cells_after_stage o others q.cells })
  written (OnText op) e = parts
  written (OnIntervals op) e = parts
  written (OnGrid (SpliceIn target i count)) e = parts
  written (OnGrid (SpliceOut target i j)) e = parts
  written (OnGrid (Set i j value)) e =
      let n = subst (λ o. StageNames p q o t.names others) e names in
      let b = subst (λ o. AreNamedBefore t.stage o t.names) e before in
      let o = subst (λ o. AreNamedBefore t.stage o others) e other in
      cell t.names.first others.first t.names.second others.second n.0 n.1 b.0 o.0 b.1 o.1
    where
      cell : (o1 o2 o3 o4 : Option ElementId) → EndsAlike p.rows.items q.rows.items o1 o2 → EndsAlike p.cols.items q.cols.items o3 o4
          → IsNamedBefore t.stage o1 → IsNamedBefore t.stage o2 → IsNamedBefore t.stage o3 → IsNamedBefore t.stage o4
          → DocsAlike last (record (lists p) { cells = write_named_cell o1 o3 value p.cells }) (record (lists q) { cells = write_named_cell o2 o4 value q.cells })
      cell None None o3 o4 detached g b1 b2 b3 b4 = parts
      cell (Some a) (Some b) None None (on r) detached b1 b2 b3 b4 = parts
      cell (Some a) (Some b) (Some x) (Some y) (on r) (on v) b1 b2 b3 b4 =
          let sa = sequenced-name inserts_rows low last t ts p.rows a h.parts.rows.left rise own.rows r.there b1 in
          let sb = sequenced-name inserts_rows low last t ts q.rows b h.parts.rows.right rise other-put.rows (there-other r) b2 in
          let sx = sequenced-name inserts_cols low last t ts p.cols x h.parts.cols.left rise own.cols v.there b3 in
          let sy = sequenced-name inserts_cols low last t ts q.cols y h.parts.cols.right rise other-put.cols (there-other v) b4 in
          cells-written last (lists p) (lists q) parts value a b x y
          (same-stands p.rows.made q.rows.made a b sa sb (acked-stands last t.stage s c p.rows q.rows h.parts.rows a b r))
          (same-stands p.cols.made q.cols.made x y sx sy (acked-stands last t.stage s c p.cols q.cols h.parts.cols x y v)) sa sb sx sy
        where
          same-stands : {xs ys : List ListElement} (m n : ℕ) (a b : ElementId) → IsSequencedName a → IsSequencedName b
              → StandAlike xs ys (acked_id t.stage m a) (acked_id t.stage n b) → StandAlike xs ys a b
          same-stands m n (SequencedId i) (SequencedId j) x y g = g
          same-stands m n (PendingId i j) b x y g = absurd x
          same-stands m n (SequencedId i) (PendingId j l) x y g = absurd y
      cell None (Some b) o3 o4 g v b1 b2 b3 b4 = elim g [ ]
      cell (Some a) None o3 o4 g v b1 b2 b3 b4 = elim g [ ]
      cell (Some a) (Some b) None (Some y) g v b1 b2 b3 b4 = elim v [ ]
      cell (Some a) (Some b) (Some x) None g v b1 b2 b3 b4 = elim v [ ]

  -- the names of its interval operation
  interval-names : (op : TextOp) → t.sub_operation ≡ OnIntervals op → NamesAlike (EndsAlike (lists p).text.items (lists q).text.items) t.names others
  interval-names op e =
      let n = subst (λ o. StageNames p q o t.names others) e names in
      record { first = end n.first; second = end n.second }
    where
      end : {o i : Option ElementId} → EndsAlike p.text.items q.text.items o i → EndsAlike (lists p).text.items (lists q).text.items o i
      end detached = detached
      end (on {a = a} {b = b} g) =
          let none = not-own puts_text_in low last t ts p.text.items (ap puts_text_in e) rise own.text in
          let none' = not-own puts_text_in low last t ts q.text.items (ap puts_text_in e) rise other-put.text in
          on (subst (λ i. StandAlike (lists p).text.items (lists q).text.items i b) (unstaged last t.stage p.text.made p.text a h.parts.text.left none g.there)
          (subst (λ i. StandAlike (lists p).text.items (lists q).text.items (acked_id t.stage p.text.made a) i)
          (unstaged last t.stage q.text.made q.text b h.parts.text.right none' (there-other g)) (text-stands a b g)))

  stage-alike : AckedDocs last p q (with_slid_ends (record (lists p) {
    intervals = intervals_after_stage t.sub_operation t.names p.intervals;
    cells =
        cells_after_stage t.sub_operation t.names p.cells;
  }))
      (with_slid_ends (record (lists q) { intervals = intervals_after_stage t.sub_operation others q.intervals; cells = cells_after_stage t.sub_operation others q.cells }))
      (acked_id t.stage (made_before p t.sub_operation)) (acked_id t.stage (made_before q t.sub_operation))
  stage-alike =
      let w = written t.sub_operation refl in
      let E = EndsAlike (lists p).text.items (lists q).text.items in
      let after = intervals-after (EndsAlike (lists p).text.items (lists q).text.items) t.sub_operation t.names others interval-names
      (intervals-more (SettledAlike (lists p).text.items (lists q).text.items) (EndsAlike (lists p).text.items (lists q).text.items)
      (λ i j e. settled-ends e) parts.intervals) in
      record {
        alike = slid-docs last _ _ (parts-intervals last _ _ w.parts (intervals_after_stage t.sub_operation t.names p.intervals)
            (intervals_after_stage t.sub_operation others q.intervals))
            (intervals-more (EndsAlike (lists p).text.items (lists q).text.items) (EndsBeside (lists p).text.items (lists q).text.items) (λ i j e. ends-beside e) after);
        text = λ a b g. moved (text-name p h.parts.text.left own.text t.sub_operation refl a g.there)
            (text-name q h.parts.text.right other-put.text t.sub_operation refl b (there-other g)) (text-stands a b g);
        rows = λ a b g. moved (rows-name p h.parts.rows.left own.rows t.sub_operation refl a g.there)
            (rows-name q h.parts.rows.right other-put.rows t.sub_operation refl b (there-other g)) (acked-stands last t.stage s c p.rows q.rows h.parts.rows a b g);
        cols = λ a b g. moved (cols-name p h.parts.cols.left own.cols t.sub_operation refl a g.there)
            (cols-name q h.parts.cols.right other-put.cols t.sub_operation refl b (there-other g)) (acked-stands last t.stage s c p.cols q.cols h.parts.cols a b g);
      }
    where
      moved : {xs ys : List ListElement} {a b i j : ElementId} → a ≡ i → b ≡ j → StandAlike xs ys a b → StandAlike xs ys i j
      moved {xs} {ys} {a} {b} {i} {j} e f g = subst (λ x. StandAlike xs ys x j) e (subst (λ y. StandAlike xs ys a y) f g)

-- ---- renamed stages

pub renamed-twice : (f g : ElementId → ElementId) (o : Option ElementId) → renamed g (renamed f o) ≡ renamed (λ x. g (f x)) o
renamed-twice f g None = refl
renamed-twice f g (Some a) = refl

pub stage-twice : (f g : ElementId → ElementId) (t : Stage) → renamed_stage g (renamed_stage f t) ≡ renamed_stage (λ x. g (f x)) t
stage-twice f g t = ap (λ o. record t { names = record { first = o; second = renamed g (renamed f t.names.second) } }) (renamed-twice f g t.names.first)
    ∙ ap (λ o. record t { names = record { first = renamed (λ x. g (f x)) t.names.first; second = o } }) (renamed-twice f g t.names.second)

pub stages-twice : (f g : ElementId → ElementId) (ts : List Stage) → map (renamed_stage g) (map (renamed_stage f) ts) ≡ map (renamed_stage (λ x. g (f x))) ts
stages-twice f g [] = refl
stages-twice f g (t ∷ ts) = ap (λ u. u ∷ map (renamed_stage g) (map (renamed_stage f) ts)) (stage-twice f g t)
    ∙ ap (λ us. renamed_stage (λ x. g (f x)) t ∷ us) (stages-twice f g ts)

map-append : {A B : Type 0} (f : A → B) (xs ys : List A) → map f (xs ++ ys) ≡ map f xs ++ map f ys
map-append f [] ys = refl
map-append f (x ∷ xs) ys = ap (λ zs. f x ∷ zs) (map-append f xs ys)

pub before-acked : (k n j : ℕ) (o : Option ElementId) → IsNamedBefore j o → IsNamedBefore j (renamed (acked_id k n) o)
before-acked k n j None h = tt
before-acked k n j (Some (SequencedId m)) h = tt
before-acked k n j (Some (PendingId i m)) h = step (nat_eq i k)
  where
    step : (b : Bool) → IsNamedBefore j (Some (cond b (SequencedId (n + m)) (PendingId i m)))
    step true = tt
    step false = h

pub named-acked : (k n j : ℕ) (o : SubOperation) (a : NamedElements) → AreNamedBefore j o a → AreNamedBefore j o (renamed_names (acked_id k n) a)
named-acked k n j (OnText op) a h = tt
named-acked k n j (OnIntervals op) a h = (before-acked k n j a.first h.0, before-acked k n j a.second h.1)
named-acked k n j (OnGrid op) a h = (before-acked k n j a.first h.0, before-acked k n j a.second h.1)

ends-renamed : {xs ys us vs : List ListElement} (f g : ElementId → ElementId) → ((a b : ElementId) → StandAlike xs ys a b → StandAlike us vs (f a) (g b))
    → {o p : Option ElementId} → EndsAlike xs ys o p → EndsAlike us vs (renamed f o) (renamed g p)
ends-renamed f g h detached = detached
ends-renamed f g h (on {a = a} {b = b} s) = on (h a b s)

names-renamed : (last : ℕ) (p q d e : Document) (f g : ElementId → ElementId) → AckedDocs last p q d e f g → (o : SubOperation) (a b : NamedElements)
    → StageNames p q o a b → StageNames d e o (renamed_names f a) (renamed_names g b)
names-renamed last p q d e f g s (OnText op) a b n = (ap (renamed_names f) n.0, ap (renamed_names g) n.1)
names-renamed last p q d e f g s (OnIntervals op) a b n = record { first = ends-renamed f g s.text n.first; second = ends-renamed f g s.text n.second }
names-renamed last p q d e f g s (OnGrid (SpliceIn target i count)) a b n = (ap (renamed_names f) n.0, ap (renamed_names g) n.1)
names-renamed last p q d e f g s (OnGrid (SpliceOut target i j)) a b n = (ap (renamed_names f) n.0, ap (renamed_names g) n.1)
names-renamed last p q d e f g s (OnGrid (Set i j value)) a b n = (ends-renamed f g s.rows n.0, ends-renamed f g s.cols n.1)

stages-renamed : (last k m n : ℕ) (p q d e : Document) → AckedDocs last p q d e (acked_id k m) (acked_id k n) → {ts us : List Stage} → StagesBeside p q ts us
    → StagesBeside d e (map (renamed_stage (acked_id k m)) ts) (map (renamed_stage (acked_id k n)) us)
stages-renamed last k m n p q d e s h = beside-map (renamed_stage (acked_id k m)) (renamed_stage (acked_id k n)) (λ t u r. record {
  rest = ap (λ (v : Stage). record v { names = renamed_names (acked_id k n) u.names }) r.rest;
  names = names-renamed last p q d e (acked_id k m) (acked_id k n) s t.sub_operation t.names u.names r.names;
  before = named-acked k m t.stage t.sub_operation t.names r.before;
  other = named-acked k n t.stage t.sub_operation u.names r.other;
}) h

pub any-renamed : (inserts : SubOperation → Bool) (k : ℕ) (f : ElementId → ElementId) (ts : List Stage)
    → list_any (λ (t : Stage). nat_eq k t.stage && inserts t.sub_operation) (map (renamed_stage f) ts) ≡ list_any (λ (t : Stage). nat_eq k t.stage && inserts t.sub_operation) ts
any-renamed inserts k f [] = refl
any-renamed inserts k f (t ∷ ts) = ap (λ b. nat_eq k t.stage && inserts t.sub_operation || b) (any-renamed inserts k f ts)

pub put-in-renamed : (f : ElementId → ElementId) (ts : List Stage) (doc : Document) → HasItsStages ts doc → HasItsStages (map (renamed_stage f) ts) doc
put-in-renamed f ts doc h = record {
  text = λ k g. h.text k (sym (any-renamed puts_text_in k f ts) ∙ g);
  rows = λ k g. h.rows k (sym (any-renamed inserts_rows k f ts) ∙ g);
  cols = λ k g. h.cols k (sym (any-renamed inserts_cols k f ts) ∙ g);
}

pub put-in-back : (f : ElementId → ElementId) (ts : List Stage) (doc : Document) → HasItsStages (map (renamed_stage f) ts) doc → HasItsStages ts doc
put-in-back f ts doc h = record {
  text = λ k g. h.text k (any-renamed puts_text_in k f ts ∙ g);
  rows = λ k g. h.rows k (any-renamed inserts_rows k f ts ∙ g);
  cols = λ k g. h.cols k (any-renamed inserts_cols k f ts ∙ g);
}

pub rise-renamed : (f : ElementId → ElementId) (low last : ℕ) (ts : List Stage) → RiseTo low last ts → RiseTo low last (map (renamed_stage f) ts)
rise-renamed f low last [] h = h
rise-renamed f low last (t ∷ ts) h = (h.0, rise-renamed f t.stage last ts h.1)

pub rise-lower : (low more last : ℕ) (ts : List Stage) → low ≤ more → RiseTo more last ts → RiseTo low last ts
rise-lower low more last [] l h = omega arith
rise-lower low more last (t ∷ ts) l h = (omega arith, h.1)

-- ---- the stages of an edit

-- what acknowledging the stages of an edit gives, where these are the later stages
pub record AckedEdits (last low : ℕ) (rest behind : List Stage) (acked other : Document × (ElementId → ElementId)) : Type 0 where
  pub alike : DocsAlike last acked.0 other.0
  pub stages : StagesBeside acked.0 other.0 (map (renamed_stage acked.1) rest) (map (renamed_stage other.1) behind)
  pub own : HasItsStages rest acked.0
  pub rise : RiseTo low last rest

pub edit-alike : (last s c low : ℕ) (rest behind : List Stage) (f g : ElementId → ElementId) (ts us : List Stage) (p q : Document) → length ts ≡ length us
    → DocsAlike last p q → StagesBeside p q (map (renamed_stage f) (ts ++ rest)) (map (renamed_stage g) (us ++ behind))
    → HasItsStages (ts ++ rest) p → RiseTo low last (ts ++ rest) → AckedEdits last low rest behind (ack_stages s c f ts p) (ack_stages s c g us q)
edit-alike last s c low rest behind f g [] [] p q l h b own rise = record { alike = h; stages = b; own = own; rise = rise }
edit-alike last s c low rest behind f g [] (u ∷ us) p q l h b own rise = absurd (omega arith)
edit-alike last s c low rest behind f g (t ∷ ts) [] p q l h b own rise = absurd (omega arith)
edit-alike last s c low rest behind f g (t ∷ ts) (u ∷ us) p q l h (next r rs) own rise =
    let same : u ≡ record t { names = u.names } = ap (λ (v : Stage). record v { names = u.names }) r.rest in
    subst (λ (v : Stage). AckedEdits last low rest behind (ack_stages s c f (t ∷ ts) p) (ack_stages s c g (v ∷ us) q)) (sym same)
    (let st = stage-alike last s c low (renamed_stage f t) (renamed_names g u.names) (map (renamed_stage f) (ts ++ rest)) p q h r.names r.before r.other
    (rise-renamed f low last (t ∷ (ts ++ rest)) rise) (put-in-renamed f (t ∷ (ts ++ rest)) p own) in
    edit-alike last s c low rest behind (λ x. acked_id t.stage (made_before p t.sub_operation) (f x)) (λ x. acked_id t.stage (made_before q t.sub_operation) (g x)) ts us
    (ack_stage s c f t p) (ack_stage s c g (record t { names = u.names }) q) (omega arith) st.alike
    (subst (λ vs. StagesBeside (ack_stage s c f t p) (ack_stage s c g (record t { names = u.names }) q) vs
    (map (renamed_stage (λ x. acked_id t.stage (made_before q t.sub_operation) (g x))) (us ++ behind)))
    (stages-twice f (acked_id t.stage (made_before p t.sub_operation)) (ts ++ rest))
    (subst (λ vs. StagesBeside (ack_stage s c f t p) (ack_stage s c g (record t { names = u.names }) q)
    (map (renamed_stage (acked_id t.stage (made_before p t.sub_operation))) (map (renamed_stage f) (ts ++ rest))) vs)
    (stages-twice g (acked_id t.stage (made_before q t.sub_operation)) (us ++ behind))
    (stages-renamed last t.stage (made_before p t.sub_operation) (made_before q t.sub_operation) p q (ack_stage s c f t p)
    (ack_stage s c g (record t { names = u.names }) q) st rs)))
    (record {
      text = put-in-after puts_text_in last s c t (ts ++ rest) p.text h.parts.text.left own.text;
      rows = put-in-after inserts_rows last s c t (ts ++ rest) p.rows h.parts.rows.left own.rows;
      cols = put-in-after inserts_cols last s c t (ts ++ rest) p.cols h.parts.cols.left own.cols;
    })
    (rise-lower low t.stage last (ts ++ rest) (omega arith) rise.1))
