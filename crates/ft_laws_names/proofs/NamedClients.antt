-- A client with names by places differs from the one that was shown in names alone.
use Rattle.std.proofs.Common.{◌≡◌, ℕ, zero, suc, ◌+◌, ◌≤◌, Bool, true, false, cond, ◌&&◌, nat_eq, List, [], ◌∷◌, ◌++◌, Option, Some, None, refl, sym, ◌∙◌, ap, subst, map, arith, find}
use Rattle.std.specs.List.{list_any}
use Rattle.std.specs.Option.{option_map}
use Rattle.ft_sumdoc.specs.declared.summary.CellRec.{CellRec}
use Rattle.ft_base.specs.declared.stamps.Stamp.{Stamp}
use Rattle.ft_base.specs.declared.stamps.Stamp.TheVariants.{Acked, Local}
use Rattle.ft_base.specs.Scan.{at, len, one_more_if, rank}
use Rattle.ft_op.specs.declared.operations.CellOp.TheVariants.{SpliceIn, SpliceOut, Set}
use Rattle.ft_props.specs.Element.{ElementId, ListElement, PendingId, SequencedId, has_id, id, id_of_stamp, same_id}
use Rattle.ft_props.specs.Steps.{Sequence}
use Rattle.ft_op.specs.Operation.{OnGrid, OnIntervals, OnText, SubOperation}
use Rattle.ft_op.specs.Intervals.{Interval, NamedElements}
use Rattle.ft_op.specs.Cells.{Cell, cell_value, is_cell}
use Rattle.ft_op.specs.Document.{Document}
use Rattle.ft_op.specs.Stages.{Stage}
use Rattle.ft_msg.specs.Client.{NaiveClient, PendingEdit}
use Rattle.ft_msg.specs.Content.{all_cells}
use Rattle.ft_msg.specs.Indexed.{indexed, indexed_client, indexed_edit, indexed_interval, indexed_stage, place_in_list, places_of}
use Rattle.ft_laws_agreement.proofs.SlidEnds.{Once, same_id-eq}
use Rattle.ft_laws_names.proofs.OwnAlike.{put-in-twins}
use Rattle.ft_laws_names.specs.Naming.{end_at, name_at_place, named, named_cell, named_cells, named_document, named_edit, named_interval, named_stage, names_at}
use Rattle.ft_laws_names.specs.WellNamed.{AreNamedBefore, AreSettledIn, AreStagesNamed, AreThere, IsNamedBefore, IsSettledIn, IsWellNamed, StandsIn, IsAhead, ArePutIn, RiseTo, puts_text_in, inserts_rows, inserts_cols}
use Rattle.ft_laws_names.proofs.Beside.{beside-more, beside-rank, ends, next, beside-any}
use Rattle.ft_laws_names.proofs.DocumentsAlike.{DocsAlike, places}
use Rattle.ft_laws_names.proofs.IntervalsAlike.{IntervalsBeside, SettledAlike, away, on_sequenced}
use Rattle.ft_laws_names.proofs.ListSteps.{ListsAlike}
use Rattle.ft_laws_names.proofs.LocalAlike.{StageNames, StagesBeside}
use Rattle.ft_laws_names.proofs.ClientsAlike.{ClientsAlike, stages-flat}
use Rattle.ft_laws_names.proofs.NamedCells.{look-all, lookup, rank-at, value-named}
use Rattle.ft_laws_names.proofs.NamedLists.{named-alike}
use Rattle.ft_laws_names.proofs.RejoinAlike.{EditsBeside, stages_in}
use Rattle.ft_laws_names.proofs.Twins.{AreTwins, BesideList, EndsAlike, IsTwin, StandAlike, detached, on, there-other}

-- ---- the element at a name's place

record FoundAt (xs ys rest : List ListElement) (a : ElementId) (i : ℕ) : Type 0 where
  pub x : ListElement
  pub y : ListElement
  pub here : at (λ _. true) i rest ≡ Some y
  pub twin : IsTwin x y
  pub name : a ≡ id x
  pub stand : StandAlike xs ys a (id y)

found : {xs ys us vs : List ListElement} (a : ElementId) → BesideList (AreTwins xs ys) us vs → 1 ≤ len (has_id a) us → FoundAt xs ys vs a (rank (has_id a) (λ _. true) us)
found a ends l = absurd (omega arith)
found {xs} {ys} a (next {x = x} {y = y} {xs = us} {ys = vs} t ts) l = step (has_id a x) refl l (λ g. found a ts g)
  where
    step : (b : Bool) → has_id a x ≡ b → 1 ≤ one_more_if b (len (has_id a) us) → (1 ≤ len (has_id a) us → FoundAt xs ys vs a (rank (has_id a) (λ _. true) us))
        → FoundAt xs ys (y ∷ vs) a (cond b 0 (suc (rank (has_id a) (λ _. true) us)))
    step true e g ih = let same = same_id-eq a (id x) e in record {
      x = x;
      y = y;
      here = refl;
      twin = t.twin;
      name = same;
      stand = subst
          (λ i. StandAlike xs ys i (id y)) (sym same) t.stand;
    }
    step false e g ih = let f = ih g in record { x = f.x; y = f.y; here = f.here; twin = f.twin; name = f.name; stand = f.stand }

-- of what kind its name is
same-before : (k : ℕ) (a : ElementId) (x y : ListElement) → IsTwin x y → a ≡ id x → IsNamedBefore k (Some a) → IsNamedBefore k (Some (id y))
same-before k a x y t e h = subst (λ z. IsNamedBefore k (Some (id z))) (sym t) (of x.ins (subst (λ i. IsNamedBefore k (Some i)) e h))
  where
    of : (s : Stamp) → IsNamedBefore k (Some (id_of_stamp s x.nth)) → IsNamedBefore k (Some (id_of_stamp s y.nth))
    of (Acked r c) g = tt
    of (Local j) g = g

sequenced-twin : (n : ℕ) (x y : ListElement) → IsTwin x y → SequencedId n ≡ id x → id y ≡ SequencedId y.nth
sequenced-twin n x y t e = ap id t ∙ of x.ins e
  where
    of : (s : Stamp) → SequencedId n ≡ id_of_stamp s x.nth → id_of_stamp s y.nth ≡ SequencedId y.nth
    of (Acked r c) g = refl
    of (Local j) g = (cc)

module _ (last : ℕ) (l m : Sequence) (h : ListsAlike last l m) where
  end-named : (k : ℕ) (o : Option ElementId) → StandsIn l.items o → EndsAlike l.items m.items o (end_at m.items (place_in_list l.items o))
      × (IsNamedBefore k o → IsNamedBefore k (end_at m.items (place_in_list l.items o)))
  end-named k None s = (detached, λ g. tt)
  end-named k (Some a) s =
      let f = found a (places last l m h) s in
      subst (λ o. EndsAlike l.items m.items (Some a) (option_map id o) × (IsNamedBefore k (Some a) → IsNamedBefore k (option_map id o))) (sym f.here)
      (on f.stand, λ g. same-before k a f.x f.y f.twin f.name g)

  settled-named : (o : Option ElementId) → IsSettledIn l.items o → SettledAlike l.items m.items o (end_at m.items (place_in_list l.items o))
  settled-named None s = away
  settled-named (Some (PendingId k n)) s = absurd s
  settled-named (Some (SequencedId n)) s =
      let f = found (SequencedId n) (places last l m h) s in
      let named = sequenced-twin n f.x f.y f.twin f.name in
      subst (λ o. SettledAlike l.items m.items (Some (SequencedId n)) (option_map id o)) (sym f.here)
      (subst (λ i. SettledAlike l.items m.items (Some (SequencedId n)) (Some i)) (sym named)
      (on_sequenced (subst (λ i. StandAlike l.items m.items (SequencedId n) i) named f.stand)))

  intervals-named : (is : List Interval) → AreSettledIn l.items is → IntervalsBeside (SettledAlike l.items m.items) is
      (map (named_interval m.items) (map (indexed_interval l.items) is))
  intervals-named [] s = ends
  intervals-named (i ∷ is) s = next (record { label = refl; id = refl; start = settled-named i.start s.0.0; end = settled-named i.end s.0.1; props = refl })
      (intervals-named is s.1)

-- ---- cells

zero-left : (n : ℕ) → 0 + n ≡ n
zero-left n = omega arith

rank-twins : {xs ys : List ListElement} (a b : ElementId) → StandAlike xs ys a b → rank (has_id a) (λ _. true) xs ≡ rank (has_id b) (λ _. true) ys
rank-twins a b s = beside-rank (has_id a) (has_id b) (λ x y q. q.1) (λ _. true) (λ _. true) (λ x y q. refl) s.twins

-- a name of the second list has one of the first at its place
record OtherName (xs ys : List ListElement) (b : ElementId) : Type 0 where
  pub x : ListElement
  pub y : ListElement
  pub twin : IsTwin x y
  pub name : b ≡ id y
  pub stand : StandAlike xs ys (id x) (id y)

other-name : {xs ys us vs : List ListElement} (b : ElementId) → BesideList (AreTwins xs ys) us vs → 1 ≤ len (has_id b) vs → OtherName xs ys b
other-name b ends l = absurd (omega arith)
other-name {xs} {ys} b (next {x = x} {y = y} {xs = us} {ys = vs} t ts) l = step (has_id b y) refl l (λ g. other-name b ts g)
  where
    step : (c : Bool) → has_id b y ≡ c → 1 ≤ one_more_if c (len (has_id b) vs) → (1 ≤ len (has_id b) vs → OtherName xs ys b) → OtherName xs ys b
    step true e g ih = record { x = x; y = y; twin = t.twin; name = same_id-eq b (id y) e; stand = t.stand }
    step false e g ih = ih g

pending-twin : (k n : ℕ) (x y : ListElement) → IsTwin x y → PendingId k n ≡ id y → id x ≡ PendingId k x.nth
pending-twin k n x y t e = of x.ins (e ∙ ap id t)
  where
    of : (s : Stamp) → PendingId k n ≡ id_of_stamp s y.nth → id_of_stamp s x.nth ≡ PendingId k x.nth
    of (Acked r c) g = (cc)
    of (Local j) g =
        let same : k ≡ j = (cc) in
        ap (λ i. PendingId i x.nth) (sym same)

-- no named cell has a name that doesn't stand
absent-row : (ys vs : List ListElement) → Once ys → (a c : ElementId) → len (has_id a) ys ≡ 0 → (cs : List CellRec) → cell_value a c (named_cells ys vs cs) ≡ None
absent-row ys vs o a c z [] = refl
absent-row ys vs o a c z (r ∷ cs) = step (name_at_place ys r.row) refl (name_at_place vs r.col) (absent-row ys vs o a c z cs)
  where
    apart : (b : ElementId) → name_at_place ys r.row ≡ Some b → (d : Bool) → same_id a b ≡ d → same_id a b ≡ false
    apart b e false f = f
    apart b e true f =
        let there = (rank-at ys o r.row b e).1 in
        let same = same_id-eq a b f in
        let none : len (has_id b) ys ≡ 0 = subst (λ i. len (has_id i) ys ≡ 0) same z in
        absurd (omega arith)

    step : (p : Option ElementId) → name_at_place ys r.row ≡ p → (q : Option ElementId) → cell_value a c (named_cells ys vs cs) ≡ None
        → cell_value a c (named_cell p q r.value ++ named_cells ys vs cs) ≡ None
    step None e q ih = ih
    step (Some b) e None ih = ih
    step (Some b) e (Some d) ih = ap (λ i. option_map (λ (x : Cell). x.value)
        (cond (i && same_id c d) (Some (record { row = b; col = d; value = r.value })) (find (is_cell a c) (named_cells ys vs cs)))) (apart b e (same_id a b) refl) ∙ ih

absent-col : (ys vs : List ListElement) → Once vs → (a c : ElementId) → len (has_id c) vs ≡ 0 → (cs : List CellRec) → cell_value a c (named_cells ys vs cs) ≡ None
absent-col ys vs o a c z [] = refl
absent-col ys vs o a c z (r ∷ cs) = step (name_at_place ys r.row) (name_at_place vs r.col) refl (absent-col ys vs o a c z cs)
  where
    apart : (d : ElementId) → name_at_place vs r.col ≡ Some d → (i : Bool) → same_id c d ≡ i → same_id c d ≡ false
    apart d e false f = f
    apart d e true f =
        let there = (rank-at vs o r.col d e).1 in
        let same = same_id-eq c d f in
        let none : len (has_id d) vs ≡ 0 = subst (λ i. len (has_id i) vs ≡ 0) same z in
        absurd (omega arith)

    never : (b : Bool) → b && false ≡ false
    never true = refl
    never false = refl

    step : (p : Option ElementId) (q : Option ElementId) → name_at_place vs r.col ≡ q → cell_value a c (named_cells ys vs cs) ≡ None
        → cell_value a c (named_cell p q r.value ++ named_cells ys vs cs) ≡ None
    step None q e ih = ih
    step (Some b) None e ih = ih
    step (Some b) (Some d) e ih =
        ap (λ i. option_map (λ (x : Cell). x.value) (cond i (Some (record { row = b; col = d; value = r.value })) (find (is_cell a c) (named_cells ys vs cs))))
        (ap (λ i. same_id a b && i) (apart d e (same_id c d) refl) ∙ never (same_id a b)) ∙ ih

module _ (x : NaiveClient) (h : IsWellNamed x) where
  abbrev other : Document
  other = named_document (indexed x.doc)

  text-lists : ListsAlike x.last_stage x.doc.text other.text
  text-lists = named-alike x.last_stage x.doc.text h.text

  row-lists : ListsAlike x.last_stage x.doc.rows other.rows
  row-lists = named-alike x.last_stage x.doc.rows h.rows

  col-lists : ListsAlike x.last_stage x.doc.cols other.cols
  col-lists = named-alike x.last_stage x.doc.cols h.cols

  value-alike : (a b c d : ElementId) → StandAlike x.doc.rows.items other.rows.items a b → StandAlike x.doc.cols.items other.cols.items c d
      → cell_value a c x.doc.cells ≡ cell_value b d other.cells
  value-alike a b c d r s =
      let cs = all_cells x.doc.cells [] x.doc.cols.items 0 x.doc.rows.items in
      sym (value-named other.rows.items other.cols.items row-lists.right.once col-lists.right.once b d (there-other r) (there-other s) cs
      ∙ ap (λ i. lookup i (rank (has_id d) (λ _. true) other.cols.items) cs) (sym (rank-twins a b r) ∙ sym (zero-left (rank (has_id a) (λ _. true) x.doc.rows.items)))
      ∙ ap (λ i. lookup (0 + rank (has_id a) (λ _. true) x.doc.rows.items) i cs) (sym (rank-twins c d s) ∙ sym (zero-left (rank (has_id c) (λ _. true) x.doc.cols.items)))
      ∙ look-all x.doc.cells a c x.doc.cols.items s.there 0 x.doc.rows.items r.there)

  none-row-ahead : (row col : ElementId) → IsAhead other.rows.made row → cell_value row col other.cells ≡ None
  none-row-ahead (SequencedId n) col u = absent-row other.rows.items other.cols.items row-lists.right.once (SequencedId n) col (row-lists.right.below n u) _
  none-row-ahead (PendingId k n) col u = step (len (has_id (PendingId k n)) other.rows.items) refl (len (has_id col) other.cols.items) refl
    where
      step : (i : ℕ) → len (has_id (PendingId k n)) other.rows.items ≡ i → (j : ℕ) → len (has_id col) other.cols.items ≡ j → cell_value (PendingId k n) col other.cells ≡ None
      step zero e j f = absent-row other.rows.items other.cols.items row-lists.right.once (PendingId k n) col e _
      step (suc i) e zero f = absent-col other.rows.items other.cols.items col-lists.right.once (PendingId k n) col f _
      step (suc i) e (suc j) f =
          let r = other-name (PendingId k n) (places x.last_stage x.doc.rows other.rows row-lists) (omega arith) in
          let s = other-name col (places x.last_stage x.doc.cols other.cols col-lists) (omega arith) in
          ap (λ a. cell_value a col other.cells) r.name ∙ ap (λ c. cell_value (id r.y) c other.cells) s.name ∙ sym (value-alike (id r.x) (id r.y) (id s.x) (id s.y) r.stand s.stand)
          ∙ ap (λ a. cell_value a (id s.x) x.doc.cells) (pending-twin k n r.x r.y r.twin r.name) ∙ h.cells.rows (PendingId k r.x.nth) (id s.x) tt

  none-col-ahead : (row col : ElementId) → IsAhead other.cols.made col → cell_value row col other.cells ≡ None
  none-col-ahead row (SequencedId n) u = absent-col other.rows.items other.cols.items col-lists.right.once row (SequencedId n) (col-lists.right.below n u) _
  none-col-ahead row (PendingId k n) u = step (len (has_id row) other.rows.items) refl (len (has_id (PendingId k n)) other.cols.items) refl
    where
      step : (i : ℕ) → len (has_id row) other.rows.items ≡ i → (j : ℕ) → len (has_id (PendingId k n)) other.cols.items ≡ j → cell_value row (PendingId k n) other.cells ≡ None
      step zero e j f = absent-row other.rows.items other.cols.items row-lists.right.once row (PendingId k n) e _
      step (suc i) e zero f = absent-col other.rows.items other.cols.items col-lists.right.once row (PendingId k n) f _
      step (suc i) e (suc j) f =
          let r = other-name row (places x.last_stage x.doc.rows other.rows row-lists) (omega arith) in
          let s = other-name (PendingId k n) (places x.last_stage x.doc.cols other.cols col-lists) (omega arith) in
          ap (λ a. cell_value a (PendingId k n) other.cells) r.name ∙ ap (λ c. cell_value (id r.y) c other.cells) s.name
          ∙ sym (value-alike (id r.x) (id r.y) (id s.x) (id s.y) r.stand s.stand)
          ∙ ap (λ c. cell_value (id r.x) c x.doc.cells) (pending-twin k n s.x s.y s.twin s.name) ∙ h.cells.cols (id r.x) (PendingId k s.x.nth) tt

  document : DocsAlike x.last_stage x.doc other
  document = record {
    parts = record {
      text = text-lists;
      rows = row-lists;
      cols = col-lists;
      cells = beside-more (λ r s t. (
        t.twin,
        beside-more (λ u v w. (w.twin, value-alike (id r) (id s) (id u) (id v) t.stand w.stand))
            (places x.last_stage x.doc.cols other.cols col-lists),
      )) (places x.last_stage x.doc.rows other.rows row-lists);
      left = h.cells;
      right = record { rows = λ row col u. none-row-ahead row col u; cols = λ row col u. none-col-ahead row col u };
      skipped = refl;
      other = refl;
      number = refl;
      minimum = refl;
    };
    intervals = intervals-named x.last_stage x.doc.text other.text text-lists x.doc.intervals h.intervals;
  }

  -- ---- stages

  stage-of : (k : ℕ) (o : SubOperation) (a : NamedElements) → AreThere x.doc o a → AreNamedBefore k o a
      → StageNames x.doc other o a (names_at other o (places_of x.doc o a)) × AreNamedBefore k o (names_at other o (places_of x.doc o a))
  stage-of k (OnText op) a t b = ((t, ap (λ n. names_at other (OnText op) (places_of x.doc (OnText op) n)) t), tt)
  stage-of k (OnIntervals op) a t b =
      let r = end-named x.last_stage x.doc.text other.text text-lists k a.first t.0 in
      let s = end-named x.last_stage x.doc.text other.text text-lists k a.second t.1 in
      (record { first = r.0; second = s.0 }, (r.1 b.0, s.1 b.1))
  stage-of k (OnGrid (SpliceIn target i count)) a t b =
      let none = ap (λ n. names_at other (OnGrid (SpliceIn target i count)) (places_of x.doc (OnGrid (SpliceIn target i count)) n)) t in
      ((t, none), subst (λ n. AreNamedBefore k (OnGrid (SpliceIn target i count)) n) (sym none) (tt, tt))
  stage-of k (OnGrid (SpliceOut target i j)) a t b =
      let none = ap (λ n. names_at other (OnGrid (SpliceOut target i j)) (places_of x.doc (OnGrid (SpliceOut target i j)) n)) t in
      ((t, none), subst (λ n. AreNamedBefore k (OnGrid (SpliceOut target i j)) n) (sym none) (tt, tt))
  stage-of k (OnGrid (Set i j value)) a t b =
      let r = end-named x.last_stage x.doc.rows other.rows row-lists k a.first t.0 in
      let s = end-named x.last_stage x.doc.cols other.cols col-lists k a.second t.1 in
      ((r.0, s.0), (r.1 b.0, s.1 b.1))

  stages-of-names : (ts : List Stage) → AreStagesNamed x.doc ts → StagesBeside x.doc other ts (map (named_stage other) (map (indexed_stage x.doc) ts))
  stages-of-names [] s = ends
  stages-of-names (t ∷ ts) s = let n = stage-of t.stage t.sub_operation t.names s.0.0 s.0.1 in next
      (record { rest = refl; names = n.0; before = s.0.1; other = n.1 }) (stages-of-names ts s.1)

  first-stages : (ts us : List Stage) → AreStagesNamed x.doc (ts ++ us) → AreStagesNamed x.doc ts × AreStagesNamed x.doc us
  first-stages [] us s = (tt, s)
  first-stages (t ∷ ts) us s = let r = first-stages ts us s.1 in ((s.0, r.0), r.1)

  edits-of-names : (es : List PendingEdit) → AreStagesNamed x.doc (stages_in es) → EditsBeside x.doc other es (map (named_edit other) (map (indexed_edit x.doc) es))
  edits-of-names [] s = ends
  edits-of-names (e ∷ es) s = let r = first-stages e.stages (stages_in es) s in next
      (record { stages = stages-of-names e.stages r.0; ref_seq = refl; sent = refl }) (edits-of-names es r.1)

  pub client-named : ClientsAlike x (named (indexed_client x))
  client-named = record { rest = refl; doc = document; pending = edits-of-names x.pending h.stages; own = h.own; rise = h.rise }

-- ---- the second of two clients

settled-right : {xs ys : List ListElement} {o p : Option ElementId} → SettledAlike xs ys o p → IsSettledIn ys p
settled-right away = tt
settled-right (on_sequenced s) = there-other s

intervals-right : {xs ys : List ListElement} {is js : List Interval} → IntervalsBeside (SettledAlike xs ys) is js → AreSettledIn ys js
intervals-right ends = tt
intervals-right (next r rs) = ((settled-right r.start, settled-right r.end), intervals-right rs)

stands-right : {xs ys : List ListElement} {o p : Option ElementId} → EndsAlike xs ys o p → StandsIn ys p
stands-right detached = tt
stands-right (on s) = there-other s

there-right : (p q : Document) (o : SubOperation) (a b : NamedElements) → StageNames p q o a b → AreThere q o b
there-right p q (OnText op) a b n = n.1
there-right p q (OnIntervals op) a b n = (stands-right n.first, stands-right n.second)
there-right p q (OnGrid (SpliceIn target i count)) a b n = n.1
there-right p q (OnGrid (SpliceOut target i j)) a b n = n.1
there-right p q (OnGrid (Set i j value)) a b n = (stands-right n.0, stands-right n.1)

stages-right : (p q : Document) {ts us : List Stage} → StagesBeside p q ts us → AreStagesNamed q us
stages-right p q ends = tt
stages-right p q (next {x = t} {y = u} {ys = us} s ss) =
    subst (λ (v : Stage). AreStagesNamed q (v ∷ us)) (sym s.rest) ((there-right p q t.sub_operation t.names u.names s.names, s.other), stages-right p q ss)

any-right : (inserts : SubOperation → Bool) (k : ℕ) (p q : Document) {ts us : List Stage} → StagesBeside p q ts us
    → list_any (λ (t : Stage). nat_eq k t.stage && inserts t.sub_operation) ts ≡ list_any (λ (t : Stage). nat_eq k t.stage && inserts t.sub_operation) us
any-right inserts k p q h = beside-any (λ (t : Stage). nat_eq k t.stage && inserts t.sub_operation)
    (λ (t : Stage). nat_eq k t.stage && inserts t.sub_operation) (λ t u s. sym (ap (λ (v : Stage). nat_eq k v.stage && inserts v.sub_operation) s.rest)) h

put-in-right : (inserts : SubOperation → Bool) (p q : Document) {ts us : List Stage} {xs ys : List ListElement} → StagesBeside p q ts us
    → BesideList IsTwin xs ys → ArePutIn inserts ts xs → ArePutIn inserts us ys
put-in-right inserts p q {ts} s t h k g = put-in-twins inserts ts t h k (any-right inserts k p q s ∙ g)

rise-right : (last : ℕ) (p q : Document) (low : ℕ) {ts us : List Stage} → StagesBeside p q ts us → RiseTo low last ts → RiseTo low last us
rise-right last p q low ends h = h
rise-right last p q low (next {x = t} {y = u} {ys = us} s ss) h = subst (λ (v : Stage). RiseTo low last (v ∷ us)) (sym s.rest) (h.0, rise-right last p q t.stage ss h.1)

pub other-well-named : (x y : NaiveClient) → ClientsAlike x y → IsWellNamed y
other-well-named x y h =
    let s = stages-flat x.doc y.doc h.pending in
    subst IsWellNamed (sym h.rest)
    (record {
      text = h.doc.parts.text.right;
      rows = h.doc.parts.rows.right;
      cols = h.doc.parts.cols.right;
      intervals = intervals-right h.doc.intervals;
      cells = h.doc.parts.right;
      stages = stages-right x.doc y.doc s;
      own = record {
        text = put-in-right puts_text_in x.doc y.doc s h.doc.parts.text.twins h.own.text;
        rows = put-in-right inserts_rows x.doc y.doc s h.doc.parts.rows.twins h.own.rows;
        cols = put-in-right inserts_cols x.doc y.doc s h.doc.parts.cols.twins h.own.cols;
      };
      rise = rise-right x.last_stage x.doc y.doc 0 s h.rise;
    })
