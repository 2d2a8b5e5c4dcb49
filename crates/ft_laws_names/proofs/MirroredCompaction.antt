-- What is left out of one of two clients that differ in names is left out of the other at the same places.
use Rattle.std.proofs.Common.{◌≡◌, ℕ, ◌≤◌, Bool, List, [], ◌∷◌, Option, Ok, Err, refl, sym, ◌∙◌, ap, subst, min, fold}
use Rattle.std.specs.List.{list_any}
use Rattle.ft_sumdoc.specs.declared.summary.CellRec.{CellRec}
use Rattle.ft_base.specs.Scan.{len}
use Rattle.ft_op.specs.declared.operations.CellOp.TheVariants.{SpliceIn, SpliceOut, Set}
use Rattle.ft_props.specs.Element.{ElementId, ListElement, has_id, id, same_id, NamelessElement}
use Rattle.ft_props.specs.Compaction.{Keeps, KeepsList, none, same, universal, collected, is_before_pending, is_collectable, is_insertion_at_or_below, with_universal_insertion}
use Rattle.ft_props.specs.Steps.{Sequence}
use Rattle.ft_op.specs.Operation.{OnGrid, OnIntervals, OnText, SubOperation}
use Rattle.ft_op.specs.Intervals.{Interval, NamedElements}
use Rattle.ft_op.specs.Cells.{Cell, cell_value}
use Rattle.ft_op.specs.Document.{Document}
use Rattle.ft_op.specs.Stages.{Stage}
use Rattle.ft_msg.specs.declared.faults.ViewFault.TheVariants.{OutOfMemory, Stopped}
use Rattle.ft_msg.specs.Answers.{RiseAlike, held_in}
use Rattle.ft_msg.specs.Client.{NaiveClient, PendingEdit, floor}
use Rattle.ft_msg.specs.Compacted.{IsCompacted, holds_col, holds_row, holds_text, interval_holds, stage_holds_col, stage_holds_row, stage_holds_text}
use Rattle.ft_msg.specs.Indexed.{IndexedDocument, IndexedInterval, indexed, indexed_client, indexed_edit, indexed_interval, indexed_stage, places_of}
use Rattle.ft_laws_agreement.proofs.CompactedScans.{id-universal}
use Rattle.ft_laws_compaction.proofs.Compacting.{compacts-further, kept-shape}
use Rattle.ft_laws_names.specs.WellNamed.{IsWellNamed}
use Rattle.ft_laws_names.specs.Renaming.{DifferInNames, OneCompactionServesAll, ShowsItsCells}
use Rattle.ft_laws_names.proofs.Beside.{beside-both, beside-more, ends, next, same-map}
use Rattle.ft_laws_names.proofs.ClientsAlike.{ClientsAlike, stages-flat}
use Rattle.ft_laws_names.proofs.DocumentsAlike.{RowsAlike}
use Rattle.ft_laws_names.proofs.Indexing.{cells-indexed, list-indexed, place-alike}
use Rattle.ft_laws_names.proofs.IntervalsAlike.{IntervalAlike, IntervalsBeside, SettledAlike, intervals-more, settled-beside, settled-ends}
use Rattle.ft_laws_names.proofs.KeptNames.{kept-differs, kept-numbered}
use Rattle.ft_laws_names.proofs.LocalAlike.{StageAlike, StageNames, StagesBeside}
use Rattle.ft_laws_names.proofs.NamedSteps.{alike-of, reached-named}
use Rattle.ft_laws_names.proofs.RejoinAlike.{EditAlike, EditsBeside}
use Rattle.ft_laws_names.proofs.Twins.{AreTwins, BesideList, EndsAlike, EndsBeside, IsTwin, Named, at_names, ends-beside, loose, places-alike, same-of, twin-pending, twins-of}
use Rattle.ft_laws_names.proofs.ViewsAlike.{named-alike}

-- ---- the other list

-- what is kept of the other list
abbrev mirrored : {floor : ℕ} {held : ElementId → Bool} {ks xs : List ListElement} → Keeps floor held ks xs → List ListElement → List ListElement
mirrored none ys = []
mirrored (same k) [] = []
mirrored (same k) (y ∷ ys) = y ∷ mirrored k ys
mirrored (universal f k) [] = []
mirrored (universal f k) (y ∷ ys) = with_universal_insertion y ∷ mirrored k ys
mirrored (collected g u n k) [] = []
mirrored (collected g u n k) (y ∷ ys) = mirrored k ys

before-twins : {xs ys : List ListElement} → BesideList IsTwin xs ys → is_before_pending xs ≡ is_before_pending ys
before-twins ends = refl
before-twins (next {x = x} {y = y} t ts) = twin-pending x y t

pub old-twin : (floor : ℕ) (x y : ListElement) → IsTwin x y → is_insertion_at_or_below floor x.ins ≡ is_insertion_at_or_below floor y.ins
old-twin floor x y t = same-of (λ (e : ListElement). is_insertion_at_or_below floor e.ins) (λ e n. refl) x y t

pub gone-twin : (floor : ℕ) (x y : ListElement) → IsTwin x y → is_collectable floor x ≡ is_collectable floor y
gone-twin floor x y t = same-of (is_collectable floor) (λ e n. refl) x y t

pub universal-twin : (x y : ListElement) → IsTwin x y → IsTwin (with_universal_insertion x) (with_universal_insertion y)
universal-twin x y t = subst (λ z. IsTwin (with_universal_insertion x) (with_universal_insertion z)) (sym t) refl

module _ {floor : ℕ} {held : ElementId → Bool} (others : ElementId → Bool) where
  mirror-keeps : {ks xs ys : List ListElement} → (k : Keeps floor held ks xs) → BesideList (Named (λ i j. held i ≡ others j)) xs ys → Keeps floor others (mirrored k ys) ys
  mirror-keeps none ends = none
  mirror-keeps (same k) (next q qs) = same (mirror-keeps k qs)
  mirror-keeps (universal {e = e} f k) (next {y = y} q qs) = universal (sym (old-twin floor e y q.0) ∙ f) (mirror-keeps k qs)
  mirror-keeps (collected {e = e} g u n k) (next {y = y} q qs) = collected (sym (gone-twin floor e y q.0) ∙ g) (sym q.1 ∙ u)
      (sym (before-twins (twins-of (λ i j. held i ≡ others j) qs)) ∙ n) (mirror-keeps k qs)

mirror-beside : {floor : ℕ} {held : ElementId → Bool} (P : ElementId → ElementId → Type 0) {ks xs ys : List ListElement} → (k : Keeps floor held ks xs)
    → BesideList (Named P) xs ys → BesideList (Named P) ks (mirrored k ys)
mirror-beside P none ends = ends
mirror-beside P (same k) (next q qs) = next q (mirror-beside P k qs)
mirror-beside {floor} P (universal {e = e} f k) (next {y = y} q qs) =
    next (
      universal-twin e y q.0,
      subst (λ a. P a (id (with_universal_insertion y))) (sym (id-universal floor e f))
          (subst (λ b. P (id e) b) (sym (id-universal floor y (sym (old-twin floor e y q.0) ∙ f))) q.1),
    ) (mirror-beside P k qs)
mirror-beside P (collected g u n k) (next q qs) = mirror-beside P k qs

mirror-ends : {floor : ℕ} {held : ElementId → Bool} {ks xs ys : List ListElement} {o p : Option ElementId} → (k : Keeps floor held ks xs)
    → EndsBeside xs ys o p → EndsBeside ks (mirrored k ys) o p
mirror-ends k loose = loose
mirror-ends k (at_names {a = a} {b = b} h) = at_names (mirror-beside (λ i j. same_id a i ≡ same_id b j) k h)

-- ---- what is held

module _ {xs ys : List ListElement} (h : BesideList IsTwin xs ys) where
  intervals-hold : {is js : List Interval} → IntervalsBeside (EndsAlike xs ys) is js
      → BesideList (Named (λ a b. list_any (interval_holds a) is ≡ list_any (interval_holds b) js)) xs ys
  intervals-hold ends = beside-more (λ x y t. (t, refl)) h
  intervals-hold (next r rs) = beside-more (λ x y q. (q.0.0.0, rw (q.0.0.1, q.0.1.1, q.1.1) refl))
      (beside-both (beside-both (named-alike h r.start) (named-alike h r.end)) (intervals-hold rs))

module _ (p q : Document) (text : BesideList IsTwin p.text.items q.text.items) (rows : BesideList IsTwin p.rows.items q.rows.items)
    (cols : BesideList IsTwin p.cols.items q.cols.items) where
  text-stage : (k : ℕ) (o : SubOperation) (a b : NamedElements) → StageNames p q o a b
      → BesideList (Named (λ i j. stage_holds_text i (record { stage = k; sub_operation = o; names = a })
      ≡ stage_holds_text j (record { stage = k; sub_operation = o; names = b }))) p.text.items q.text.items
  text-stage k (OnText op) a b n = beside-more (λ x y t. (t, refl)) text
  text-stage k (OnIntervals op) a b n = beside-more (λ x y r. (r.0.0, rw (r.0.1, r.1.1) refl)) (beside-both (named-alike text n.first) (named-alike text n.second))
  text-stage k (OnGrid op) a b n = beside-more (λ x y t. (t, refl)) text

  row-stage : (k : ℕ) (o : SubOperation) (a b : NamedElements) → StageNames p q o a b
      → BesideList (Named (λ i j. stage_holds_row i (record { stage = k; sub_operation = o; names = a })
      ≡ stage_holds_row j (record { stage = k; sub_operation = o; names = b }))) p.rows.items q.rows.items
  row-stage k (OnText op) a b n = beside-more (λ x y t. (t, refl)) rows
  row-stage k (OnIntervals op) a b n = beside-more (λ x y t. (t, refl)) rows
  row-stage k (OnGrid (SpliceIn target i count)) a b n = beside-more (λ x y t. (t, refl)) rows
  row-stage k (OnGrid (SpliceOut target i j)) a b n = beside-more (λ x y t. (t, refl)) rows
  row-stage k (OnGrid (Set i j value)) a b n = named-alike rows n.0

  col-stage : (k : ℕ) (o : SubOperation) (a b : NamedElements) → StageNames p q o a b
      → BesideList (Named (λ i j. stage_holds_col i (record { stage = k; sub_operation = o; names = a })
      ≡ stage_holds_col j (record { stage = k; sub_operation = o; names = b }))) p.cols.items q.cols.items
  col-stage k (OnText op) a b n = beside-more (λ x y t. (t, refl)) cols
  col-stage k (OnIntervals op) a b n = beside-more (λ x y t. (t, refl)) cols
  col-stage k (OnGrid (SpliceIn target i count)) a b n = beside-more (λ x y t. (t, refl)) cols
  col-stage k (OnGrid (SpliceOut target i j)) a b n = beside-more (λ x y t. (t, refl)) cols
  col-stage k (OnGrid (Set i j value)) a b n = named-alike cols n.1

  -- for all stages
  stages-hold : {xs ys : List ListElement} (holds : ElementId → Stage → Bool) → BesideList IsTwin xs ys
      → ((k : ℕ) (o : SubOperation) (a b : NamedElements) → StageNames p q o a b
      → BesideList (Named (λ i j. holds i (record { stage = k; sub_operation = o; names = a }) ≡ holds j (record { stage = k; sub_operation = o; names = b }))) xs ys)
      → {ts us : List Stage} → StagesBeside p q ts us → BesideList (Named (λ i j. list_any (holds i) ts ≡ list_any (holds j) us)) xs ys
  stages-hold holds h f ends = beside-more (λ x y t. (t, refl)) h
  stages-hold {xs} {ys} holds h f (next {x = t} {y = u} {xs = ts} {ys = us} s ss) =
      subst (λ (v : Stage). BesideList (Named (λ i j. list_any (holds i) (t ∷ ts) ≡ list_any (holds j) (v ∷ us))) xs ys) (sym s.rest)
      (beside-more (λ x y q. (q.0.0, rw (q.0.1, q.1.1) refl)) (beside-both (f t.stage t.sub_operation t.names u.names s.names) (stages-hold holds h f ss)))

-- ---- clients

abbrev pub index_with : List NamelessElement → List NamelessElement → List NamelessElement → List IndexedInterval → List CellRec → ℕ → ℕ → ℕ → ℕ → IndexedDocument
index_with t r c is cs s o n m = record { text = t; rows = r; cols = c; intervals = is; cells = cs; skipped = s; other = o; number = n; minimum = m }

pub same-index : {t u r v c w : List NamelessElement} {is js : List IndexedInterval} {cs ds : List CellRec} {a b d e f g h i : ℕ} → t ≡ u → r ≡ v → c ≡ w → is
    ≡ js → cs ≡ ds → a ≡ b → d ≡ e → f ≡ g → h ≡ i → index_with t r c is cs a d f h ≡ index_with u v w js ds b e g i
same-index e1 e2 e3 e4 e5 e6 e7 e8 e9 = rw (e1, e2, e3, e4, e5, e6, e7, e8, e9) refl

least-alike : (p q : Document) (n : ℕ) {es fs : List PendingEdit} → EditsBeside p q es fs → fold (λ m (e : PendingEdit). min m e.ref_seq) n es
    ≡ fold (λ m (e : PendingEdit). min m e.ref_seq) n fs
least-alike p q n ends = refl
least-alike p q n (next {x = e} {y = f} {xs = es} {ys = fs} r rs) = ap (λ m. fold (λ i (e : PendingEdit). min i e.ref_seq) (min n m) es) r.ref_seq
    ∙ least-alike p q (min n f.ref_seq) rs

module _ (p q : NaiveClient) (c : ClientsAlike p q) (pn : IsWellNamed p) (qn : IsWellNamed q) where
  floor-alike : floor p ≡ floor q
  floor-alike = ap (λ n. fold (λ m (e : PendingEdit). min m e.ref_seq) n p.pending) c.doc.parts.minimum ∙ least-alike p.doc q.doc q.doc.minimum c.pending

  text-held : BesideList (Named (λ i j. holds_text p i ≡ holds_text q j)) p.doc.text.items q.doc.text.items
  text-held =
      beside-more (λ x y r. (r.0.0, rw (r.0.1, r.1.1) refl))
      (beside-both (intervals-hold c.doc.parts.text.twins (intervals-more (SettledAlike p.doc.text.items q.doc.text.items)
      (EndsAlike p.doc.text.items q.doc.text.items) (λ i j e. settled-ends e) c.doc.intervals))
      (stages-hold p.doc q.doc c.doc.parts.text.twins c.doc.parts.rows.twins c.doc.parts.cols.twins stage_holds_text c.doc.parts.text.twins
      (λ k o a b n. text-stage p.doc q.doc c.doc.parts.text.twins c.doc.parts.rows.twins c.doc.parts.cols.twins k o a b n) (stages-flat p.doc q.doc c.pending)))

  row-held : BesideList (Named (λ i j. holds_row p i ≡ holds_row q j)) p.doc.rows.items q.doc.rows.items
  row-held = stages-hold p.doc q.doc c.doc.parts.text.twins c.doc.parts.rows.twins c.doc.parts.cols.twins stage_holds_row c.doc.parts.rows.twins
      (λ k o a b n. row-stage p.doc q.doc c.doc.parts.text.twins c.doc.parts.rows.twins c.doc.parts.cols.twins k o a b n) (stages-flat p.doc q.doc c.pending)

  col-held : BesideList (Named (λ i j. holds_col p i ≡ holds_col q j)) p.doc.cols.items q.doc.cols.items
  col-held = stages-hold p.doc q.doc c.doc.parts.text.twins c.doc.parts.rows.twins c.doc.parts.cols.twins stage_holds_col c.doc.parts.cols.twins
      (λ k o a b n. col-stage p.doc q.doc c.doc.parts.text.twins c.doc.parts.rows.twins c.doc.parts.cols.twins k o a b n) (stages-flat p.doc q.doc c.pending)

  module _ (text rows cols : Sequence) (cells : List Cell) (kt : KeepsList (floor p) (holds_text p) text p.doc.text)
      (kr : KeepsList (floor p) (holds_row p) rows p.doc.rows) (kc : KeepsList (floor p) (holds_col p) cols p.doc.cols)
      (shows : (row col : ElementId) → 1 ≤ len (has_id row) rows.items → 1 ≤ len (has_id col) cols.items → cell_value row col cells ≡ cell_value row col p.doc.cells) where
    abbrev other_doc : Document
    other_doc = record q.doc {
      text = record { items = mirrored kt.items q.doc.text.items; made = q.doc.text.made };
      rows = record { items = mirrored kr.items q.doc.rows.items; made = q.doc.rows.made };
      cols = record { items = mirrored kc.items q.doc.cols.items; made = q.doc.cols.made };
    }

    abbrev fewer_doc : Document
    fewer_doc = record p.doc { text = text; rows = rows; cols = cols; cells = cells }

    other-keeps : IsCompacted (record q { doc = other_doc }) q
    other-keeps = record {
      doc = record {
        text = record {
          items = subst (λ n. Keeps n (holds_text q) (mirrored kt.items q.doc.text.items) q.doc.text.items) floor-alike
              (mirror-keeps (holds_text q) kt.items text-held);
          made = refl;
        };
        rows = record {
          items = subst (λ n. Keeps n (holds_row q) (mirrored kr.items q.doc.rows.items) q.doc.rows.items) floor-alike
              (mirror-keeps (holds_row q) kr.items row-held);
          made = refl;
        };
        cols = record {
          items = subst (λ n. Keeps n (holds_col q) (mirrored kc.items q.doc.cols.items) q.doc.cols.items) floor-alike
              (mirror-keeps (holds_col q) kc.items col-held);
          made = refl;
        };
        cells = record { values = λ row col a b. refl; none = λ row col e. e };
        rest = refl;
      };
      rest = refl;
    }

    rows-twins : BesideList (AreTwins rows.items (mirrored kr.items q.doc.rows.items)) rows.items (mirrored kr.items q.doc.rows.items)
    rows-twins =
        places-alike (kept-numbered p.last_stage rows p.doc.rows kr pn.rows).once (kept-numbered q.last_stage other_doc.rows q.doc.rows other-keeps.doc.rows qn.rows).once
        (twins-of (λ i j. Unit {0}) (mirror-beside (λ i j. Unit {0}) kr.items (beside-more (λ x y t. (t, tt)) c.doc.parts.rows.twins)))

    cols-twins : BesideList (AreTwins cols.items (mirrored kc.items q.doc.cols.items)) cols.items (mirrored kc.items q.doc.cols.items)
    cols-twins =
        places-alike (kept-numbered p.last_stage cols p.doc.cols kc pn.cols).once (kept-numbered q.last_stage other_doc.cols q.doc.cols other-keeps.doc.cols qn.cols).once
        (twins-of (λ i j. Unit {0}) (mirror-beside (λ i j. Unit {0}) kc.items (beside-more (λ x y t. (t, tt)) c.doc.parts.cols.twins)))

    cells-kept : BesideList (Named (RowsAlike cols.items (mirrored kc.items q.doc.cols.items) cells q.doc.cells)) rows.items (mirrored kr.items q.doc.rows.items)
    cells-kept =
        beside-more (λ x y r. (
          r.0.0,
          beside-more (λ u v s. (s.0.0, shows (id x) (id u) r.1.stand.there s.1.stand.there ∙ s.0.1))
              (beside-both (mirror-beside (λ i j. cell_value (id x) i p.doc.cells ≡ cell_value (id y) j q.doc.cells) kc.items r.0.1) cols-twins),
        ))
        (beside-both (mirror-beside (RowsAlike p.doc.cols.items q.doc.cols.items p.doc.cells q.doc.cells) kr.items c.doc.parts.cells) rows-twins)

    interval-kept : (i j : Interval) → IntervalAlike (SettledAlike p.doc.text.items q.doc.text.items) i j → indexed_interval text.items i
        ≡ indexed_interval (mirrored kt.items q.doc.text.items) j
    interval-kept i j r = rw (r.label, r.id, r.props, place-alike (mirror-ends kt.items (settled-beside r.start)), place-alike (mirror-ends kt.items (settled-beside r.end))) refl

    places-kept : (o : SubOperation) (a b : NamedElements) → StageNames p.doc q.doc o a b → places_of fewer_doc o a ≡ places_of other_doc o b
    places-kept (OnText op) a b n = rw (n.0, n.1) refl
    places-kept (OnIntervals op) a b n = rw (place-alike (mirror-ends kt.items (ends-beside n.first)), place-alike (mirror-ends kt.items (ends-beside n.second))) refl
    places-kept (OnGrid (SpliceIn target i count)) a b n = rw (n.0, n.1) refl
    places-kept (OnGrid (SpliceOut target i j)) a b n = rw (n.0, n.1) refl
    places-kept (OnGrid (Set i j value)) a b n = rw (place-alike (mirror-ends kr.items (ends-beside n.0)), place-alike (mirror-ends kc.items (ends-beside n.1))) refl

    stage-kept : (t u : Stage) → StageAlike p.doc q.doc t u → indexed_stage fewer_doc t ≡ indexed_stage other_doc u
    stage-kept t u s = ap (λ w. record { stage = t.stage; sub_operation = t.sub_operation; places = w }) (places-kept t.sub_operation t.names u.names s.names)
        ∙ ap (indexed_stage other_doc) (sym s.rest)

    edit-kept : (e f : PendingEdit) → EditAlike p.doc q.doc e f → indexed_edit fewer_doc e ≡ indexed_edit other_doc f
    edit-kept e f r = rw (same-map (indexed_stage fewer_doc) (indexed_stage other_doc) (λ t u s. stage-kept t u s) r.stages, r.ref_seq, r.sent) refl

    document-kept : indexed fewer_doc ≡ indexed other_doc
    document-kept =
        same-index (list-indexed (twins-of (λ i j. Unit {0}) (mirror-beside (λ i j. Unit {0}) kt.items
        (beside-more (λ x y t. (t, tt)) c.doc.parts.text.twins)))) (list-indexed (beside-more (λ x y t. t.twin) rows-twins))
        (list-indexed (beside-more (λ x y t. t.twin) cols-twins))
        (same-map (indexed_interval text.items) (indexed_interval (mirrored kt.items q.doc.text.items)) (λ i j r. interval-kept i j r) c.doc.intervals)
        (cells-indexed cells q.doc.cells cols.items (mirrored kc.items q.doc.cols.items) 0 cells-kept) c.doc.parts.skipped c.doc.parts.other c.doc.parts.number c.doc.parts.minimum

    client-kept : indexed_client (record p { doc = fewer_doc }) ≡ indexed_client (record q { doc = other_doc })
    client-kept =
        ap (λ d. record (indexed_client (record p { doc = fewer_doc })) { doc = d }) document-kept
        ∙ ap (λ es. record (indexed_client (record p { doc = fewer_doc })) { doc = indexed other_doc; pending = es })
        (same-map (indexed_edit fewer_doc) (indexed_edit other_doc) (λ e f r. edit-kept e f r) c.pending)
        ∙ ap (λ (z : NaiveClient). indexed_client (record z { doc = other_doc })) (sym c.rest)

    pub shape-mirrored : (other : NaiveClient) × (IsCompacted other q × (indexed_client (record p { doc = fewer_doc }) ≡ indexed_client other))
    shape-mirrored = (record q { doc = other_doc }, (other-keeps, client-kept))

pub compaction-mirrored : (p q fewer : NaiveClient) → DifferInNames p q → IsCompacted fewer p → ShowsItsCells fewer p → (other : NaiveClient)
    × (IsCompacted other q × (indexed_client fewer ≡ indexed_client other))
compaction-mirrored p q fewer d k shows =
    let m = shape-mirrored p q (alike-of p q d) d.left d.right fewer.doc.text fewer.doc.rows fewer.doc.cols fewer.doc.cells k.doc.text k.doc.rows k.doc.cols shows in
    (m.0, (m.1.0, ap indexed_client (kept-shape p fewer k) ∙ m.1.1))

pub one-compacts : OneCompactionServesAll
one-compacts start old new (Ok u) p named shows (held, does) x r e s =
    let d = kept-differs p x s.kept named (reached-named x r) s.keeps (shows ∙ sym s.shows) in
    let m = compaction-mirrored p s.kept does.0 d does.1 does.2 in
    let same : RiseAlike old.held old.held (held_in x.doc) (held_in x.doc) = record { text = refl; rows = refl; cols = refl } in (
      x,
      refl,
      record {
        client = record { kept = m.0; shows = sym m.1.1 ∙ does.3; keeps = compacts-further x s.kept m.0 s.keeps m.1.0 };
        held = subst
            (λ h. RiseAlike old.held h (held_in x.doc) (held_in x.doc)) (sym held) same;
      },
    )
one-compacts start old new (Err OutOfMemory) p named shows does x r e s = tt
one-compacts start old new (Err (Stopped seq)) p named shows does x r e s = tt
