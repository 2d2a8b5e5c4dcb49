-- Each pending stage of a client's document as it is sent again: what is known of it in the rebuilt document.
use Rattle.std.proofs.Common.{◌≡◌, ℕ, suc, ◌-◌, ◌<◌, true, not, List, [], ◌∷◌, Option, Some, None, ℤ, pos, negsuc, filter, refl, sym, ◌∙◌, ap, subst, arith}
use Rattle.std.specs.List.{list_all, list_any}
use Rattle.std.specs.Option.{option_map}
use Rattle.ft_op.specs.declared.operations.Ends.{Ends}
use Rattle.ft_op.specs.declared.operations.BaseOp.TheVariants.{Insert, Remove, Annotate}
use Rattle.ft_op.specs.declared.operations.CellOp.TheVariants.{SpliceIn, SpliceOut, Set}
use Rattle.ft_op.specs.declared.operations.TextOp.{TextOp}
use Rattle.ft_op.specs.declared.operations.TextOp.TheVariants.{One, Group, IntervalAdd, IntervalChange, IntervalDelete}
use Rattle.ft_base.proofs.Booleans.{both}
use Rattle.ft_base.specs.Scan.{at, len}
use Rattle.ft_props.specs.Element.{ElementId, ListElement, has_id, id, seen}
use Rattle.ft_props.specs.Steps.{Sequence, is_annotated_by, is_inserted_by, is_removed_by, lowered_runs, marked_runs, rebuilt_list, stage_position}
use Rattle.ft_props.specs.Slide.{end_number, settle}
use Rattle.ft_props.proofs.AcknowledgedInsertion.{expects, list_up_to}
use Rattle.ft_props.proofs.RebuiltList.{pred_suc, stage_list, stage_view-rebuilt}
use Rattle.ft_op.specs.Operation.{OnGrid, OnIntervals, OnText, SubOperation}
use Rattle.ft_op.specs.Intervals.{Interval, NamedElements, after_interval_operation, element_at_end, elements_at_ends, ends_fit, no_elements, settle_elements}
use Rattle.ft_op.specs.Document.{Document, elements_at_given_ends, ends_of, given_ends_fit, rows_or_cols}
use Rattle.ft_op.specs.Pieces.{ends_in, interval_piece, is_named_and_seen, position_of_named}
use Rattle.ft_op.specs.Stages.{Stage}
use Rattle.ft_laws_agreement.proofs.StageEdits.{StageEdit, TakenOut, IsStanding}
use Rattle.ft_laws_agreement.proofs.SentStages.{SentStage, TextPut, TextTaken, TextAnnotated, IntervalsChanged, UnitsPut, UnitsTaken, CellWritten, IsOneName, Tells, are_given, ends_alike}
use Rattle.ft_laws_agreement.proofs.GoneStages.{free-unremoved, free-views, no-runs, standing-free}
use Rattle.ft_laws_agreement.proofs.MarkedRuns.{Each}
use Rattle.ft_laws_agreement.proofs.OrderedMarks.{is_ordered}
use Rattle.ft_laws_agreement.proofs.RebuiltStages.{is_kept, length-again, place-again, rebuilt-kept, sent_again, stands-again}
use Rattle.ft_laws_agreement.proofs.SettledNames.{AreThere, at-rank, ends-settle, ends-there, found-each, named-each, number-each, numbers-at, numbers-fit}
use Rattle.ft_laws_agreement.proofs.SideBySideStages.{AllRuns, first-view, none-filtered, none-of-stage, rise-absent, side_by_side, stages-put}
use Rattle.ft_laws_agreement.proofs.SlidEnds.{Once}
use Rattle.ft_laws_agreement.proofs.ToldStages.{Rise, ToldStage, stage_numbers}
use Rattle.ft_laws_agreement.proofs.WithinStages.{is_within}

-- ---- the stage as it is sent again

-- how the message tells it now, at stage k
abbrev pub retold : Document → ℕ → NamedElements → SubOperation → SentStage
retold doc k names (OnText (Insert p seg props)) = TextPut (stage_position k doc.text.items) seg props
retold doc k names (OnText (Remove p q)) = TextTaken (lowered_runs 0 (marked_runs k (is_removed_by k) doc.text.items))
retold doc k names (OnText (Annotate p q changes)) = TextAnnotated (marked_runs k (is_annotated_by k) doc.text.items) changes
retold doc k names (OnIntervals op) = IntervalsChanged (interval_piece k doc.text.items (settle_elements doc.text.items k names) op)
retold doc k names (OnGrid (SpliceIn target p count)) = UnitsPut target (stage_position k (rows_or_cols target doc).items) count
retold doc k names (OnGrid (SpliceOut target p q)) = UnitsTaken target (lowered_runs 0 (marked_runs k (is_removed_by k) (rows_or_cols target doc).items))
retold doc k names (OnGrid (Set i j value)) = CellWritten (position_of_named (k - 1) doc.rows.items names.first) (position_of_named (k - 1) doc.cols.items names.second) value

-- the elements that it names now
abbrev pub names_again : Document → ℕ → NamedElements → SubOperation → NamedElements
names_again doc k names (OnText op) = names
names_again doc k names (OnIntervals op) = settle_elements doc.text.items k names
names_again doc k names (OnGrid op) = names

abbrev pub stage_as : ℕ → SubOperation → NamedElements → Stage
stage_as k o names = record { stage = k; sub_operation = o; names = names }

-- ---- it tells the same sub-operation

nowhere : TextOp
nowhere = IntervalDelete [] []

interval-place : (doc : Document) (k : ℕ) (names : NamedElements) (op : TextOp)
    → ends_alike (OnIntervals op) (interval_piece k doc.text.items (settle_elements doc.text.items k names) op) ≡ true
interval-place doc k names (One op) = refl
interval-place doc k names (Group ops) = refl
interval-place doc k names (IntervalAdd label id ends props) = refl
interval-place doc k names (IntervalChange label id None props) = refl
interval-place doc k names (IntervalChange label id (Some ends) props) = refl
interval-place doc k names (IntervalDelete label id) = refl

interval-same : (doc : Document) (k : ℕ) (own names : NamedElements) (op : TextOp) (is : List Interval)
    → after_interval_operation op names is ≡ after_interval_operation (interval_piece k doc.text.items own op) names is
interval-same doc k own names (One op) is = refl
interval-same doc k own names (Group ops) is = refl
interval-same doc k own names (IntervalAdd label id ends props) is = refl
interval-same doc k own names (IntervalChange label id None props) is = refl
interval-same doc k own names (IntervalChange label id (Some ends) props) is = refl
interval-same doc k own names (IntervalDelete label id) is = refl

pub tells-retold : (doc : Document) (k : ℕ) (own : NamedElements) (o : SubOperation) → Tells o (retold doc k own o)
tells-retold doc k own (OnText (Insert p seg props)) = record {
  place = record { first = stage_position k doc.text.items; second = 0; ranges = []; other = nowhere; alike = refl; made = refl };
  intervals = λ names is. refl;
  cells = λ names cells. refl;
  made = λ d. refl;
}
tells-retold doc k own (OnText (Remove p q)) = record {
  place = record { first = 0; second = 0; ranges = lowered_runs 0 (marked_runs k (is_removed_by k) doc.text.items); other = nowhere; alike = refl; made = refl };
  intervals = λ names is. refl;
  cells = λ names cells. refl;
  made = λ d. refl;
}
tells-retold doc k own (OnText (Annotate p q changes)) = record {
  place = record { first = 0; second = 0; ranges = marked_runs k (is_annotated_by k) doc.text.items; other = nowhere; alike = refl; made = refl };
  intervals = λ names is. refl;
  cells = λ names cells. refl;
  made = λ d. refl;
}
tells-retold doc k own (OnIntervals op) = record {
  place = record {
    first = 0;
    second = 0;
    ranges = [];
    other = interval_piece k doc.text.items (settle_elements doc.text.items k own) op;
    alike =
        interval-place doc k own op;
    made = refl;
  };
  intervals = λ names is. interval-same doc k (settle_elements doc.text.items k own) names op is;
  cells = λ names cells. refl;
  made = λ d. refl;
}
tells-retold doc k own (OnGrid (SpliceIn target p count)) = record {
  place = record { first = stage_position k (rows_or_cols target doc).items; second = 0; ranges = []; other = nowhere; alike = refl; made = refl };
  intervals = λ names is. refl;
  cells = λ names cells. refl;
  made = λ d. refl;
}
tells-retold doc k own (OnGrid (SpliceOut target p q)) = record {
  place = record { first = 0; second = 0; ranges = lowered_runs 0 (marked_runs k (is_removed_by k) (rows_or_cols target doc).items); other = nowhere; alike = refl; made = refl };
  intervals = λ names is. refl;
  cells = λ names cells. refl;
  made = λ d. refl;
}
tells-retold doc k own (OnGrid (Set i j value)) = record {
  place = record {
    first = position_of_named (k - 1) doc.rows.items own.first;
    second = position_of_named (k - 1) doc.cols.items own.second;
    ranges = [];
    other = nowhere;
    alike = refl;
    made = refl;
  };
  intervals = λ names is. refl;
  cells = λ names cells. refl;
  made = λ d. refl;
}

-- ---- one list

-- what is known of a list of a client's document
pub record CanBeRebuilt (n last : ℕ) (ts : List ToldStage) (list : Sequence) : Type 0 where
  pub rising : Rise 0 last ts
  pub within : list_all (is_within n (stage_numbers ts)) list.items ≡ true
  pub order : list_all is_ordered list.items ≡ true
  pub runs : AllRuns list.items
  pub once : Once list.items

all-kept : (n : ℕ) (ks : List ℕ) (xs : List ListElement) → list_all (is_within n ks) xs ≡ true → list_all is_ordered xs ≡ true → list_all (is_kept n ks) xs ≡ true
all-kept n ks [] h g = refl
all-kept n ks (e ∷ xs) h g =
    let p = both (is_within n ks e) (list_all (is_within n ks) xs) h in
    let q = both (is_ordered e) (list_all is_ordered xs) g in
    rw (p.0, q.0, all-kept n ks xs p.1 q.1) refl

kept-parts : (n : ℕ) (ks : List ℕ) (xs : List ListElement) → list_all (is_kept n ks) xs ≡ true → (list_all (is_within n ks) xs ≡ true) × (list_all is_ordered xs ≡ true)
kept-parts n ks [] h = (refl, refl)
kept-parts n ks (e ∷ xs) h =
    let p = both (is_kept n ks e) (list_all (is_kept n ks) xs) h in
    let q = both (is_within n ks e) (is_ordered e) p.0 in
    let rest = kept-parts n ks xs p.1 in
    (rw (q.0, rest.0) refl, rw (q.1, rest.1) refl)

module _ (n last : ℕ) (ts : List ToldStage) (list : Sequence) (ready : CanBeRebuilt n last ts list) where
  list-whole : (rebuilt_list (stage_numbers ts) list).items ≡ stage_list list.items last
  list-whole = stages-put list.items 0 last ts ready.rising (λ i m o absent. none-filtered (is_inserted_by (suc i)) list.items
      (none-of-stage n (suc i) (stage_numbers ts) list.items absent ready.within))

  list-kept : list_all (is_kept n (stage_numbers ts)) list.items ≡ true
  list-kept = all-kept n (stage_numbers ts) list.items ready.within ready.order

  rebuilt-parts : (list_all (is_within n (stage_numbers ts)) (rebuilt_list (stage_numbers ts) list).items ≡ true)
      × (list_all is_ordered (rebuilt_list (stage_numbers ts) list).items ≡ true)
  rebuilt-parts = kept-parts n (stage_numbers ts) (rebuilt_list (stage_numbers ts) list).items
      (ap (list_all (is_kept n (stage_numbers ts))) list-whole ∙ rebuilt-kept n last (stage_numbers ts) list.items list-kept)

  pub rebuilt-within : list_all (is_within n (stage_numbers ts)) (rebuilt_list (stage_numbers ts) list).items ≡ true
  rebuilt-within = rebuilt-parts.0

  pub rebuilt-order : list_all is_ordered (rebuilt_list (stage_numbers ts) list).items ≡ true
  rebuilt-order = rebuilt-parts.1

  module _ (conn k : ℕ) (below : k < last) where
    list-view : filter (seen k) (stage_list list.items k) ≡ filter (seen k) list.items
    list-view = stage_view-rebuilt list.items (side_by_side list.items ready.runs)
        (first-view n (stage_numbers ts) list.items (rise-absent 0 0 last ts (omega arith) ready.rising) ready.within) k

    pub list-again : (r d : ℕ) (edit : StageEdit) → IsStanding k r d edit list.items
        → IsStanding k n conn (sent_again k list.items edit) (rebuilt_list (stage_numbers ts) list).items
    list-again r d edit h =
        subst (λ ys. IsStanding k n conn (sent_again k list.items edit) ys) (sym list-whole)
        (stands-again n conn k last (stage_numbers ts) list.items below list-kept list-view r d edit h)

    pub untouched-again : (r d : ℕ) → IsStanding k r d (TakenOut []) list.items → IsStanding k n conn (TakenOut []) (rebuilt_list (stage_numbers ts) list).items
    untouched-again r d h =
        let free = free-unremoved (suc k) list.items (standing-free k r d list.items ready.order h) in
        subst (λ rs. IsStanding k n conn (TakenOut (lowered_runs 0 rs)) (rebuilt_list (stage_numbers ts) list).items)
        (no-runs (seen (suc k - 1)) (is_removed_by (suc k)) 0 list.items free) (list-again r d (TakenOut []) h)

    length-now : len (expects n conn (suc (suc k))) (list_up_to k (rebuilt_list (stage_numbers ts) list).items) ≡ len (seen k) list.items
    length-now = ap (λ ys. len (expects n conn (suc (suc k))) (list_up_to k ys)) list-whole ∙ length-again n conn k last (stage_numbers ts) list.items below list-kept list-view

    place-now : (i : ℕ) → option_map id (at (expects n conn (suc (suc k))) i (list_up_to k (rebuilt_list (stage_numbers ts) list).items)) ≡ option_map id (at (seen k) i list.items)
    place-now i = ap (λ ys. option_map id (at (expects n conn (suc (suc k))) i (list_up_to k ys))) list-whole
        ∙ place-again n conn k last (stage_numbers ts) list.items below list-kept list-view i

    views-now : (r d : ℕ) → IsStanding k r d (TakenOut []) list.items → Each (λ e. seen (suc k) e ≡ seen k e) list.items
    views-now r d h = free-views n k (stage_numbers ts) list.items ready.within (standing-free k r d list.items ready.order h)

    -- ---- a named unit

    pub unit-named : (r d : ℕ) (o : Option ElementId) → IsStanding k r d (TakenOut []) list.items → is_named_and_seen (suc k) list.items o ≡ true
        → IsOneName (option_map id (at (expects n conn (suc (suc k))) (position_of_named (suc k - 1) list.items o) (list_up_to k (rebuilt_list (stage_numbers ts) list).items))) o
    unit-named r d None h g = (cc)
    unit-named r d (Some x) h g =
        let named = sym (named-each (seen (suc k)) (seen k) list.items x (views-now r d h)) ∙ g in
        let here =
        ap (λ i. option_map id (at (expects n conn (suc (suc k))) (position_of_named i list.items (Some x))
        (list_up_to k (rebuilt_list (stage_numbers ts) list).items))) (pred_suc k)
        ∙ place-now (position_of_named k list.items (Some x)) ∙ at-rank (seen k) x list.items (ready.once x) named in
        subst (λ p. IsOneName p (Some x)) (sym here) refl

    -- ---- the ends of an interval operation

    end-now : (z : ℤ) → element_at_end (expects n conn (suc (suc k))) (list_up_to k (rebuilt_list (stage_numbers ts) list).items) z ≡ element_at_end (seen k) list.items z
    end-now (pos p) = place-now p
    end-now (negsuc p) = refl

    up_to-named : (a : ElementId) (xs : List ListElement) → list_any (has_id a) (list_up_to k xs) ≡ true → list_any (has_id a) xs ≡ true
    up_to-named a [] h = (cc)
    up_to-named a (e ∷ xs) h = grind (arith, up_to-named a xs)

    up_to-there : (xs : List ListElement) (a b : Option ElementId) → AreThere (list_up_to k xs) a b → AreThere xs a b
    up_to-there xs None None h = tt
    up_to-there xs (Some a) (Some b) h = (up_to-named a xs h.0, up_to-named b xs h.1)
    up_to-there xs (Some a) None h = h
    up_to-there xs None (Some b) h = h

    given-there : (r d : ℕ) (ends : Option Ends) (names : NamedElements) → given_ends_fit (len (expects r d (suc (suc k))) (list_up_to k list.items)) ends ≡ true
        → elements_at_given_ends (expects r d (suc (suc k))) (list_up_to k list.items) ends ≡ names → AreThere list.items names.first names.second
    given-there r d None names h e = subst (λ ns. AreThere list.items ns.first ns.second) e tt
    given-there r d (Some ends) names h e =
        subst (λ ns. AreThere list.items ns.first ns.second) e
        (up_to-there list.items (elements_at_ends (expects r d (suc (suc k))) (list_up_to k list.items) ends).first
        (elements_at_ends (expects r d (suc (suc k))) (list_up_to k list.items) ends).second
        (ends-there (expects r d (suc (suc k))) (list_up_to k list.items) ends h))

    -- the settled ends are those of the operation that is sent again
    ends-now : (r d : ℕ) (names : NamedElements) → IsStanding k r d (TakenOut []) list.items → AreThere list.items names.first names.second
        → (given_ends_fit (len (expects n conn (suc (suc k))) (list_up_to k (rebuilt_list (stage_numbers ts) list).items))
        (Some (ends_in (suc k) list.items (settle_elements list.items (suc k) names))) ≡ true)
        × (elements_at_given_ends (expects n conn (suc (suc k))) (list_up_to k (rebuilt_list (stage_numbers ts) list).items)
        (Some (ends_in (suc k) list.items (settle_elements list.items (suc k) names))) ≡ settle_elements list.items (suc k) names)
    ends-now r d names h there =
        let a = settle list.items (suc k) names.first in
        let b = settle list.items (suc k) names.second in
        let same = views-now r d h in
        let found = found-each (seen (suc k)) (seen k) list.items a b same (ends-settle (suc k) list.items names.first names.second there) in
        let p : end_number (suc k) list.items a ≡ end_number k list.items a = number-each (suc k) k list.items a same in
        let q : end_number (suc k) list.items b ≡ end_number k list.items b = number-each (suc k) k list.items b same in
        let ats = numbers-at k list.items a b ready.once found in
        let test = expects n conn (suc (suc k)) in
        let ys = list_up_to k (rebuilt_list (stage_numbers ts) list).items in
        let first : element_at_end test ys (end_number (suc k) list.items a) ≡ a = ap (element_at_end test ys) p ∙ end-now (end_number k list.items a) ∙ ats.0 in
        let second : element_at_end test ys (end_number (suc k) list.items b) ≡ b = ap (element_at_end test ys) q ∙ end-now (end_number k list.items b) ∙ ats.1 in (
          ap (λ m. ends_fit m (record { start = end_number (suc k) list.items a; end = end_number (suc k) list.items b })) length-now
              ∙ ap (λ z. ends_fit (len (seen k) list.items) (record { start = z; end = end_number (suc k) list.items b })) p
              ∙ ap (λ z. ends_fit (len (seen k) list.items) (record { start = end_number k list.items a; end = z })) q
              ∙ numbers-fit k list.items a b ready.once found,
          ap (λ x. record { first = x; second = element_at_end test ys (end_number (suc k) list.items b) }) first ∙ ap (λ x. record { first = a; second = x }) second,
        )

    none-given : (r d : ℕ) (ends : Option Ends) (names : NamedElements) → not (are_given ends) ≡ true
        → elements_at_given_ends (expects r d (suc (suc k))) (list_up_to k list.items) ends ≡ names
        → no_elements ≡ settle_elements list.items (suc k) names
    none-given r d None names g e = ap (settle_elements list.items (suc k)) e
    none-given r d (Some ends) names g e = (cc)

    pub interval-named : (r d : ℕ) (op other : TextOp) (names : NamedElements) → IsStanding k r d (TakenOut []) list.items → ends_alike (OnIntervals op) other ≡ true
        → (given_ends_fit (len (expects r d (suc (suc k))) (list_up_to k list.items)) (ends_of other) ≡ true)
        × (elements_at_given_ends (expects r d (suc (suc k))) (list_up_to k list.items) (ends_of other) ≡ names)
        → (given_ends_fit (len (expects n conn (suc (suc k))) (list_up_to k (rebuilt_list (stage_numbers ts) list).items))
        (ends_of (interval_piece (suc k) list.items (settle_elements list.items (suc k) names) op)) ≡ true)
        × (elements_at_given_ends (expects n conn (suc (suc k))) (list_up_to k (rebuilt_list (stage_numbers ts) list).items)
        (ends_of (interval_piece (suc k) list.items (settle_elements list.items (suc k) names) op)) ≡ settle_elements list.items (suc k) names)
    interval-named r d (One op) other names h g f = (refl, none-given r d (ends_of other) names g f.1)
    interval-named r d (Group ops) other names h g f = (refl, none-given r d (ends_of other) names g f.1)
    interval-named r d (IntervalAdd label id ends props) other names h g f = ends-now r d names h (given-there r d (ends_of other) names f.0 f.1)
    interval-named r d (IntervalChange label id None props) other names h g f = (refl, none-given r d (ends_of other) names g f.1)
    interval-named r d (IntervalChange label id (Some ends) props) other names h g f = ends-now r d names h (given-there r d (ends_of other) names f.0 f.1)
    interval-named r d (IntervalDelete label id) other names h g f = (refl, none-given r d (ends_of other) names g f.1)
