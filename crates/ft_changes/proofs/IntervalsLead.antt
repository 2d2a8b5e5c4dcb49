-- Changes that move the ends of intervals; and where nothing is pending, a sub-operation of a message moves each end as it moves the lists.
use Rattle.std.proofs.Common.{◌≡◌, ℕ, zero, suc, ◌+◌, ◌≤◌, Bool, true, false, cond, not, ◌&&◌, ◌||◌, nat_eq, nat_le, nat_lt, List, [], ◌∷◌, ◌++◌, Option, Some, None, refl, sym, ◌∙◌, ap, arith, length, map, ℤ, pos, negsuc}
use Rattle.std.proofs.lemmas.Bool.Decides.{nat_tests}
use Rattle.std.specs.List.{list_all, list_any}
use Rattle.ft_base.specs.declared.stamps.Stamp.{Stamp}
use Rattle.ft_base.specs.declared.stamps.Stamp.TheVariants.{Acked, Local}
use Rattle.ft_base.proofs.Booleans.{both}
use Rattle.ft_base.specs.Scan.{at, change_range, change_range_from, len, one_more_if, put, put_past, rank, within}
use Rattle.ft_props.specs.declared.properties.Changes.{Changes}
use Rattle.ft_props.specs.Element.{ElementContent, ElementId, ListElement, SequencedId, has_id, id, id_of_stamp, is_pending, is_sequenced, is_unremoved, new_elements, same_id, seen, seen_by, with_annotation, with_removal}
use Rattle.ft_props.specs.Properties.{PropertyList, apply}
use Rattle.ft_props.specs.Slide.{end_number, slide}
use Rattle.ft_props.specs.Steps.{Sequence, after_insertion, after_removal}
use Rattle.ft_op.specs.declared.operations.BaseOp.{BaseOp}
use Rattle.ft_op.specs.declared.operations.BaseOp.TheVariants.{Annotate, Insert, Remove}
use Rattle.ft_op.specs.declared.operations.CellOp.{CellOp}
use Rattle.ft_op.specs.declared.operations.CellOp.TheVariants.{Set, SpliceIn, SpliceOut}
use Rattle.ft_op.specs.declared.operations.Target.{Target}
use Rattle.ft_op.specs.declared.operations.Target.TheVariants.{Cols, Rows}
use Rattle.ft_op.specs.Document.{Document, cell_effect, effect, ends_of, given_ends_fit, grid_effect, rows_or_cols, text_effect, with_rows_or_cols, with_skip}
use Rattle.ft_op.specs.Operation.{OnGrid, OnIntervals, OnText, SubOperation, segment_contents}
use Rattle.ft_sumdoc.specs.declared.summary.IntervalRec.{IntervalRec}
use Rattle.ft_laws_agreement.specs.Trimming.{IsConsistent, are_distinct_elements, is_end_on, is_numbered_below}
use Rattle.ft_laws_agreement.proofs.ConsistentDocument.{effect-consistent}
use Rattle.ft_laws_agreement.proofs.SlidEnds.{same_id-eq}
use Rattle.ft_changes.specs.Shown.{ShownContent, after_change, after_changes, end_after_put, end_after_take, shown_element, shown_elements, with_moved_ends}
use Rattle.ft_changes.specs.ShownRuns.{ChangedRun, GoneRun, gone_runs, place_of_insertion, take_out}
use Rattle.ft_changes.specs.Told.{styled_run, taken_run, taken_units}
use Rattle.ft_changes.proofs.ElementLaws.{removed-gone, removed-hidden}
use Rattle.ft_changes.proofs.MovedEnds.{after_runs, ends-gone, is_shown_one, rank-put}
use Rattle.ft_changes.proofs.SlidNumbers.{AreShown, slid-number}

-- ---- maps

pub map-twice : {A B C : Type 0} (f : B → C) (g : A → B) (xs : List A) → map f (map g xs) ≡ map (λ x. f (g x)) xs
map-twice f g [] = refl
map-twice f g (x ∷ xs) = ap (λ ys. f (g x) ∷ ys) (map-twice f g xs)

pub map-none : (is : List IntervalRec) → is ≡ map (with_moved_ends (λ e. e)) is
map-none [] = refl
map-none (i ∷ is) = ap (λ js. i ∷ js) (map-none is)

-- ---- the elements of a text on which nothing is pending

module _ (k n c : ℕ) where
  new-shown : (m : ℕ) (by : Option Stamp) (props : PropertyList) (bs : List ElementContent) → AreShown k (new_elements m (Acked n c) [] by props bs)
  new-shown m by props [] = tt
  new-shown m by props (b ∷ bs) = (refl, refl, new-shown (m + 1) by props bs)

  pub new-count : (m : ℕ) (by : Option Stamp) (props : PropertyList) (bs : List ElementContent)
      → len (seen k) (new_elements m (Acked n c) [] by props bs) ≡ length bs
  new-count m by props [] = refl
  new-count m by props (b ∷ bs) = ap suc (new-count (m + 1) by props bs)

append-shown : (k : ℕ) (ys xs : List ListElement) → AreShown k ys → AreShown k xs → AreShown k (ys ++ xs)
append-shown k [] xs h g = g
append-shown k (y ∷ ys) xs h g = (h.0, h.1, append-shown k ys xs h.2 g)

past-shown : (k : ℕ) (past : ListElement → Bool) (new xs : List ListElement) → AreShown k new → AreShown k xs → AreShown k (put_past past new xs)
past-shown k past new [] h g = h
past-shown k past new (x ∷ xs) h g = by (past x) (past-shown k past new xs h g.2)
  where
    by : (b : Bool) → AreShown k (put_past past new xs) → AreShown k (cond b (x ∷ put_past past new xs) (new ++ (x ∷ xs)))
    by true rest = (g.0, g.1, rest)
    by false rest = append-shown k new (x ∷ xs) h g

put-are_shown : (k : ℕ) (see past : ListElement → Bool) (p : ℕ) (new xs : List ListElement) → AreShown k new → AreShown k xs
    → AreShown k (put see past p new xs)
put-are_shown k see past zero new xs h g = past-shown k past new xs h g
put-are_shown k see past (suc p) new [] h g = h
put-are_shown k see past (suc p) new (x ∷ xs) h g = (g.0, g.1, put-are_shown k see past (cond (see x) p (suc p)) new xs h g.2)

-- what is done to each of a range
module _ (k : ℕ) (f : ListElement → ListElement) (unremoved : (x : ListElement) → is_unremoved x ≡ seen k x → is_unremoved (f x) ≡ seen k (f x))
    (sequenced : (x : ListElement) → is_sequenced (f x) ≡ is_sequenced x) (see : ListElement → Bool) (p q : ℕ) where
  range-are_shown : (i : ℕ) (xs : List ListElement) → AreShown k xs → AreShown k (change_range_from i see p q f xs)
  range-are_shown i [] h = tt
  range-are_shown i (x ∷ xs) h = by (see x && within p q i) (range-are_shown (one_more_if (see x) i) xs h.2)
    where
      rest : List ListElement
      rest = change_range_from (one_more_if (see x) i) see p q f xs

      by : (b : Bool) → AreShown k rest → AreShown k (cond b (f x) x ∷ rest)
      by true r = (unremoved x h.0, sequenced x ∙ h.1, r)
      by false r = (h.0, h.1, r)

module _ (f : ListElement → ListElement) (named : (x : ListElement) → id (f x) ≡ id x) (see : ListElement → Bool) (p q : ℕ) (a : ElementId) where
  range-any : (i : ℕ) (xs : List ListElement) → list_any (has_id a) (change_range_from i see p q f xs) ≡ list_any (has_id a) xs
  range-any i [] = refl
  range-any i (x ∷ xs) = by (see x && within p q i) ∙ ap (λ b. has_id a x || b) (range-any (one_more_if (see x) i) xs)
    where
      rest : Bool
      rest = list_any (has_id a) (change_range_from (one_more_if (see x) i) see p q f xs)

      by : (b : Bool) → has_id a (cond b (f x) x) || rest ≡ has_id a x || rest
      by true = ap (λ d. same_id a d || rest) (named x)
      by false = refl

  pub range-rank : (k : ℕ) → ((x : ListElement) → seen k (f x) ≡ seen k x) → (i : ℕ) (xs : List ListElement)
      → rank (has_id a) (seen k) (change_range_from i see p q f xs) ≡ rank (has_id a) (seen k) xs
  range-rank k same i [] = refl
  range-rank k same i (x ∷ xs) = by (see x && within p q i) ∙ ap (λ m. cond (has_id a x) 0 (one_more_if (seen k x) m)) (range-rank k same
      (one_more_if (see x) i) xs)
    where
      rest : ℕ
      rest = rank (has_id a) (seen k) (change_range_from (one_more_if (see x) i) see p q f xs)

      by : (b : Bool) → cond (has_id a (cond b (f x) x)) 0 (one_more_if (seen k (cond b (f x) x)) rest)
          ≡ cond (has_id a x) 0 (one_more_if (seen k x) rest)
      by true = ap (λ d. cond (same_id a d) 0 (one_more_if (seen k (f x)) rest)) (named x)
          ∙ ap (λ b. cond (has_id a x) 0 (one_more_if b rest)) (same x)
      by false = refl

-- ---- the element at an end

end-named : (a : ElementId) (xs : List ListElement) → list_any (λ e. has_id a e && is_unremoved e) xs ≡ true → list_any (has_id a) xs ≡ true
end-named a [] h = h
end-named a (x ∷ xs) h = by (has_id a x) h (end-named a xs)
  where
    by : (b : Bool) → (b && is_unremoved x) || list_any (λ e. has_id a e && is_unremoved e) xs ≡ true
        → (list_any (λ e. has_id a e && is_unremoved e) xs ≡ true → list_any (has_id a) xs ≡ true) → b || list_any (has_id a) xs ≡ true
    by true g ih = refl
    by false g ih = ih g

-- is shown
end-shown : (k : ℕ) (a : ElementId) (xs : List ListElement) → are_distinct_elements xs ≡ true → AreShown k xs
    → list_any (λ e. has_id a e && is_unremoved e) xs ≡ true
    → is_shown_one (has_id a) (seen k) xs ≡ true
end-shown k a [] d s h = absurd (cc)
end-shown k a (x ∷ xs) d s h =
    let p = both (not (list_any (has_id (id x)) xs)) (are_distinct_elements xs) d in
    by (has_id a x) refl (is_unremoved x) refl h (end-shown k a xs p.1 s.2) p.0
  where
    Rest : Type 0
    Rest = list_any (λ e. has_id a e && is_unremoved e) xs ≡ true

    by : (b : Bool) → has_id a x ≡ b → (u : Bool) → is_unremoved x ≡ u → (b && u) || list_any (λ e. has_id a e && is_unremoved e) xs ≡ true
        → (Rest → is_shown_one (has_id a) (seen k) xs ≡ true) → not (list_any (has_id (id x)) xs) ≡ true
        → cond b (seen k x) (is_shown_one (has_id a) (seen k) xs) ≡ true
    by true e true f g ih n = sym s.0 ∙ f
    by true e false f g ih n =
        let same : a ≡ id x = same_id-eq a (id x) e in
        let there : list_any (has_id (id x)) xs ≡ true = ap (λ i. list_any (has_id i) xs) (sym same) ∙ end-named a xs g in
        absurd (cc)
    by false e u f g ih n = ih g

-- a name of a list isn't that of a new element
is-below : (made : ℕ) (a : ElementId) (xs : List ListElement) → list_all (is_numbered_below made) xs ≡ true → list_any (has_id a) xs ≡ true
    → (m n c : ℕ) (by : Option Stamp) (props : PropertyList) (bs : List ElementContent) → made ≤ m
    → list_any (has_id a) (new_elements m (Acked n c) [] by props bs) ≡ false
is-below made a xs h g m n c from props [] l = refl
is-below made a xs h g m n c from props (b ∷ bs) l =
    ap (λ d. d || list_any (has_id a) (new_elements (m + 1) (Acked n c) [] from props bs)) (other xs h g)
    ∙ is-below made a xs h g (m + 1) n c from props bs (omega arith)
  where
    apart : (i : ℕ) → nat_lt i made ≡ true → nat_eq i m ≡ false
    apart i e = grind (arith, nat_tests, l)

    one : (x : ListElement) → is_sequenced x && nat_lt x.nth made ≡ true → same_id (id x) (SequencedId m) ≡ false
    one x e = by x.ins e
      where
        by : (t : Stamp) → (elim t [ Acked s d ↦ true | Local j ↦ false ]) && nat_lt x.nth made ≡ true
            → same_id (id_of_stamp t x.nth) (SequencedId m) ≡ false
        by (Acked s d) f = apart x.nth f
        by (Local j) f = absurd (cc)

    other : (xs : List ListElement) → list_all (is_numbered_below made) xs ≡ true → list_any (has_id a) xs ≡ true → same_id a (SequencedId m) ≡ false
    other [] h g = absurd (cc)
    other (x ∷ xs) h g =
        let p = both (is_numbered_below made x) (list_all (is_numbered_below made) xs) h in
        by (has_id a x) refl g (other xs p.1)
      where
        by : (b : Bool) → has_id a x ≡ b → b || list_any (has_id a) xs ≡ true → (list_any (has_id a) xs ≡ true → same_id a (SequencedId m) ≡ false)
            → same_id a (SequencedId m) ≡ false
        by true e f ih =
            let p = both (is_numbered_below made x) (list_all (is_numbered_below made) xs) h in
            ap (λ i. same_id i (SequencedId m)) (same_id-eq a (id x) e) ∙ one x p.0
        by false e f ih = ih f

-- ---- changes that leave intervals alone

pub styled-intervals : (s : ShownContent) (runs : List (ChangedRun PropertyList)) → (after_changes s (map styled_run runs)).intervals ≡ s.intervals
styled-intervals s [] = refl
styled-intervals s (run ∷ runs) = styled-intervals (after_change s (styled_run run)) runs

pub units-intervals : (target : Target) (s : ShownContent) (runs : List GoneRun) → (after_changes s (map (taken_units target) runs)).intervals
    ≡ s.intervals
units-intervals target s [] = refl
units-intervals Rows s (run ∷ runs) = units-intervals Rows (after_change s (taken_units Rows run)) runs
units-intervals Cols s (run ∷ runs) = units-intervals Cols (after_change s (taken_units Cols run)) runs

-- runs of elements that go away move each end
pub taken-intervals : (s : ShownContent) (runs : List GoneRun) → (after_changes s (map taken_run runs)).intervals
    ≡ map (with_moved_ends (after_runs runs s.elements)) s.intervals
taken-intervals s [] = map-none s.intervals
taken-intervals s (run ∷ runs) =
    let left = take_out run.place run.count s.elements in
    taken-intervals (after_change s (taken_run run)) runs
    ∙ map-twice (with_moved_ends (after_runs runs left)) (with_moved_ends (end_after_take run.place run.count (length left))) s.intervals

pub detached-stays : {A : Type 0} (runs : List GoneRun) (es : List A) (j : ℕ) → after_runs runs es (negsuc j) ≡ negsuc j
detached-stays [] es j = refl
detached-stays (run ∷ runs) es j = detached-stays runs (take_out run.place run.count es) j

-- ---- one sub-operation

module _ (k n c r : ℕ) where
  -- nothing is pending in its text
  pub record IsQuiet (doc : Document) : Type 0 where
    pub consistent : IsConsistent doc
    pub shown : AreShown k doc.text.items

  abbrev see : ListElement → Bool
  see = seen_by r c

  -- ---- an insertion

  module _ (doc : Document) (h : IsQuiet doc) (p : ℕ) (by : Option Stamp) (props : PropertyList) (bs : List ElementContent) where
    abbrev xs : List ListElement
    xs = doc.text.items

    abbrev ys : List ListElement
    ys = (after_insertion n c r p by props bs doc.text).items

    abbrev place : ℕ
    place = place_of_insertion (seen_by r c) is_pending (seen k) p doc.text.items

    pub put-end : (o : Option ElementId) → is_end_on xs o ≡ true → end_after_put place (length bs) (end_number k xs o) ≡ end_number k ys o
    put-end None e = refl
    put-end (Some a) e =
        let new = new_elements doc.text.made (Acked n c) [] by props bs in
        let none = is-below doc.text.made a xs h.consistent.text.below (end-named a xs e) doc.text.made n c by props bs (omega arith) in
        ap (λ m. pos (cond (nat_le place (rank (has_id a) (seen k) xs)) (rank (has_id a) (seen k) xs + m) (rank (has_id a) (seen k) xs))) (sym
        (new-count k n c doc.text.made by props bs))
        ∙ ap pos (sym (rank-put (has_id a) (seen k) new none see is_pending p xs (end-shown k a xs h.consistent.text.distinct h.shown e)))

  -- an insertion of no elements changes no end
  pub none-put : (p : ℕ) (is : List IntervalRec) → is ≡ map (with_moved_ends (end_after_put p 0)) is
  none-put p [] = refl
  none-put p (i ∷ is) = ap (λ js. i ∷ js) (none-put p is) ∙ ap (λ j. j ∷ map (with_moved_ends (end_after_put p 0)) is) (same i)
    where
      chosen : (b : Bool) (m : ℕ) → m ≡ cond b (m + 0) m
      chosen true m = omega arith
      chosen false m = refl

      one : (e : ℤ) → e ≡ end_after_put p 0 e
      one (pos m) = ap pos (chosen (nat_le p m) m)
      one (negsuc m) = refl

      same : (i : IntervalRec) → i ≡ with_moved_ends (end_after_put p 0) i
      same i = ap (λ e. record i { ends = record { start = e; end = i.ends.end } }) (one i.ends.start)
          ∙ ap (λ e. record i { ends = record { start = end_after_put p 0 i.ends.start; end = e } }) (one i.ends.end)

  -- ---- a removal

  removed-shown : (p q : ℕ) (xs : List ListElement) → AreShown k xs → AreShown k (change_range (seen_by r c) p q (with_removal n c) xs)
  removed-shown p q xs h =
      range-are_shown k (with_removal n c) (λ x e. removed-gone n c x ∙ sym (removed-hidden k n c x)) (λ x. refl) see p q 0 xs h

  module _ (doc : Document) (h : IsQuiet doc) (p q : ℕ) (after : are_distinct_elements (after_removal n c r p q doc.text).items ≡ true) where
    abbrev before : List ListElement
    before = doc.text.items

    abbrev left : List ListElement
    left = (after_removal n c r p q doc.text).items

    abbrev runs : List GoneRun
    runs = gone_runs (seen_by r c) (seen k) p q doc.text.items

    pub take-end : (o : Option ElementId) → is_end_on before o ≡ true → after_runs runs (shown_elements k before) (end_number k before o)
        ≡ end_number k left (slide left o)
    take-end None e = detached-stays runs (shown_elements k before) 0
    take-end (Some a) e =
        let there : list_any (has_id a) left ≡ true = range-any (with_removal n c) (λ x. refl) see p q a 0 before ∙ end-named a before e in
        ends-gone (has_id a) see (seen k) shown_element p q (with_removal n c) (removed-hidden k n c) (λ x. refl) before (end-shown k a before
        h.consistent.text.distinct h.shown e)
        ∙ sym (slid-number k left a after (removed-shown p q before h.shown) there)

  -- ---- an annotation

  module _ (doc : Document) (p q : ℕ) (changes : Changes) where
    abbrev annotated : List ListElement
    annotated = change_range (seen_by r c) p q (with_annotation changes) doc.text.items

    pub annotated-end : (o : Option ElementId) → end_number k annotated o ≡ end_number k doc.text.items o
    annotated-end None = refl
    annotated-end (Some a) = ap pos (range-rank (with_annotation changes) (λ x. refl) see p q a k (λ x. refl) 0 doc.text.items)

  -- ---- one sub-operation

  one-shown : (b : Bool) (x y : Document) → AreShown k x.text.items → AreShown k y.text.items → AreShown k (cond b x y).text.items
  one-shown true x y g h = g
  one-shown false x y g h = h

  text-quiet : (doc : Document) → AreShown k doc.text.items → (op : BaseOp) → AreShown k (text_effect doc n c r op).text.items
  text-quiet doc h (Insert p seg props) =
      let new = new_elements doc.text.made (Acked n c) [] (Some (Acked n c)) (apply [] props) (segment_contents seg) in
      one-shown (nat_le p (len (seen_by r c) doc.text.items)) _ (with_skip doc)
      (put-are_shown k see is_pending p new doc.text.items
      (new-shown k n c doc.text.made (Some (Acked n c)) (apply [] props) (segment_contents seg)) h) h
  text-quiet doc h (Remove p q) =
      one-shown (nat_le q (len (seen_by r c) doc.text.items)) _ (with_skip doc) (removed-shown p q doc.text.items h) h
  text-quiet doc h (Annotate p q changes) =
      one-shown (nat_le q (len (seen_by r c) doc.text.items)) _ (with_skip doc)
      (range-are_shown k (with_annotation changes) (λ x e. e) (λ x. refl) see p q 0 doc.text.items h) h

  grid-quiet : (doc : Document) → AreShown k doc.text.items → (op : CellOp) → AreShown k (grid_effect doc n c r op).text.items
  grid-quiet doc h (SpliceIn target p count) =
      one-shown (nat_le p (len (seen_by r c) (rows_or_cols target doc).items)) _ (with_skip doc) (same target _) h
    where
      same : (target : Target) (list : Sequence) → AreShown k (with_rows_or_cols target doc list).text.items
      same Rows list = h
      same Cols list = h
  grid-quiet doc h (SpliceOut target p q) =
      one-shown (nat_le q (len (seen_by r c) (rows_or_cols target doc).items)) _ (with_skip doc) (same target _) h
    where
      same : (target : Target) (list : Sequence) → AreShown k (with_rows_or_cols target doc list).text.items
      same Rows list = h
      same Cols list = h
  grid-quiet doc h (Set i j value) = by (at (seen_by r c) i doc.rows.items) (at (seen_by r c) j doc.cols.items)
    where
      by : (row col : Option ListElement) → AreShown k (cell_effect doc row col value).text.items
      by (Some row) (Some col) = h
      by (Some row) None = h
      by None col = h

  effect-shown : (doc : Document) → AreShown k doc.text.items → (o : SubOperation) → AreShown k (effect doc n c r o).text.items
  effect-shown doc h (OnText op) = text-quiet doc h op
  effect-shown doc h (OnIntervals op) = one-shown (given_ends_fit (len (seen_by r c) doc.text.items) (ends_of op)) _ (with_skip doc) h h
  effect-shown doc h (OnGrid op) = grid-quiet doc h op

  -- nothing is pending in the text afterwards
  pub next-quiet : (doc : Document) (o : SubOperation) → IsQuiet doc → IsQuiet (effect doc n c r o)
  next-quiet doc o h = record { consistent = effect-consistent doc n c r o h.consistent; shown = effect-shown doc h.shown o }
