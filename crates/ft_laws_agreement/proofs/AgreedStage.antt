-- What the sub-operations of a stage, one after another, make of the document of the messages alone.
use Rattle.std.proofs.Common.{◌≡◌, ℕ, zero, suc, ◌+◌, ◌≤◌, ◌<◌, Bool, true, false, cond, not, ◌&&◌, nat_le, nat_eq, List, [], ◌∷◌, ◌++◌, Option, Some, None, map, length, replicate, refl, sym, ◌∙◌, ap, subst, arith}
use Rattle.std.specs.List.{list_any}
use Rattle.std.specs.Option.{option_map}
use Rattle.std.proofs.lemmas.Bool.Decides.{nat_tests}
use Rattle.ft_base.specs.declared.stamps.Stamp.{Stamp}
use Rattle.ft_base.specs.declared.stamps.Stamp.TheVariants.{Acked}
use Rattle.ft_base.proofs.Booleans.{both}
use Rattle.ft_base.specs.Scan.{at, change_range, change_range_from, len, one_more_if, put, put_past, within}
use Rattle.ft_op.specs.declared.operations.BaseOp.TheVariants.{Remove, Annotate}
use Rattle.ft_op.specs.declared.operations.CellOp.TheVariants.{SpliceOut}
use Rattle.ft_op.specs.declared.operations.Target.TheVariants.{Rows, Cols}
use Rattle.ft_props.specs.declared.properties.Changes.{Changes}
use Rattle.ft_props.specs.Properties.{PropertyList, ValueBytes, apply}
use Rattle.ft_props.specs.Element.{ElementContent, ElementId, SequencedId, PendingId, GridUnit, ListElement, has_id, id, is_pending, is_sequenced, is_unremoved, new_elements, seen_by, with_annotation, with_removal}
use Rattle.ft_props.specs.Steps.{Sequence, after_removal}
use Rattle.ft_op.specs.Operation.{OnGrid, OnText, segment_contents}
use Rattle.ft_op.specs.Intervals.{Interval, NamedElements, after_interval_operation, slide_ends}
use Rattle.ft_op.specs.Document.{Document, cell_effect, elements_at_given_ends, ends_of, effects, with_skip, with_slid_ends}
use Rattle.std.proofs.lemmas.List.Folds.{list_any-append}
use Rattle.ft_base.specs.Visibility.{is_acked}
use Rattle.ft_props.proofs.SequencedElements.{any-acked}
use Rattle.ft_laws_agreement.proofs.RangesOfLists.{len-range, len-ranges}
use Rattle.ft_msg.specs.Acknowledgement.{write_named_cell}
use Rattle.ft_laws_agreement.proofs.StageEdits.{StageEdit, PutIn, TakenOut, Annotated, change_ranges, fits_sequenced, ranges_fit}
use Rattle.ft_laws_agreement.proofs.SentStages.{NamesBy, IsOneName, text_edit, rows_edit, cols_edit, intervals_after_sent, SentStage, TextPut, TextTaken, TextAnnotated, IntervalsChanged, UnitsPut, UnitsTaken, CellWritten, told_as, document_after, list_after}
use Rattle.ft_laws_agreement.proofs.SlidEnds.{MoreRemoved, Once, true-false, Stands, is_standing_at, slide-stays, slide-twice, stands-slide}
use Rattle.ft_laws_agreement.proofs.Booleans.{never, or-true}
use Rattle.ft_laws_agreement.proofs.AnyAndAll.{any-behind}

-- whether the edit takes elements out
abbrev pub removes : StageEdit → Bool
removes (PutIn p props items) = false
removes (TakenOut []) = false
removes (TakenOut (range ∷ ranges)) = true
removes (Annotated ranges changes) = false

-- ---- what stands in a document of messages alone: each element of the text has a name of its own, and each end of an interval
-- stands on an unremoved element

-- no element has this name yet, where n were sequenced
abbrev pub IsFresh : ℕ → ElementId → Type 0
IsFresh n (SequencedId m) = n ≤ m
IsFresh n (PendingId k m) = Unit {0}

abbrev pub EndsStand : List ListElement → List Interval → Type 0
EndsStand xs [] = Unit {0}
EndsStand xs (i ∷ is) = Stands xs i.start × Stands xs i.end × EndsStand xs is

pub record IsNamed (list : Sequence) : Type 0 where
  pub once : Once list.items
  pub fresh : (a : ElementId) → IsFresh list.made a → len (has_id a) list.items ≡ 0

pub record IsSound (doc : Document) : Type 0 where
  pub named : IsNamed doc.text
  pub ends : EndsStand doc.text.items doc.intervals
  pub rows : IsNamed doc.rows
  pub cols : IsNamed doc.cols

-- ends that stand stay
pub ends-stay : (xs : List ListElement) (is : List Interval) → Once xs → EndsStand xs is → slide_ends xs is ≡ is
ends-stay xs [] once h = refl
ends-stay xs (i ∷ is) once h = rw (slide-stays i.start xs once h.0, slide-stays i.end xs once h.1, ends-stay xs is once h.2) refl

pub ends-stand : (xs : List ListElement) (is : List Interval) → EndsStand xs (slide_ends xs is)
ends-stand xs [] = tt
ends-stand xs (i ∷ is) = (stands-slide i.start xs, stands-slide i.end xs, ends-stand xs is)

pub ends-twice : (xs ys : List ListElement) (is : List Interval) → Once xs → MoreRemoved xs ys → slide_ends ys (slide_ends xs is) ≡ slide_ends ys is
ends-twice xs ys [] once h = refl
ends-twice xs ys (i ∷ is) once h = rw (slide-twice i.start xs ys once h, slide-twice i.end xs ys once h, ends-twice xs ys is once h) refl

-- ---- removals

unremoved-as : (x : ListElement) → is_unremoved x ≡ (is_acked x.ins && not (list_any is_acked x.dels))
unremoved-as x = ap (λ b. is_acked x.ins && not b) (any-acked x.dels x.removal_stage)

removed-now : (s c : ℕ) (x : ListElement) → is_unremoved (with_removal s c x) ≡ false
removed-now s c x =
    unremoved-as (with_removal s c x)
    ∙ ap (λ b. is_acked x.ins && not b) (list_any-append is_acked x.dels (Acked s c ∷ []) ∙ or-true (list_any is_acked x.dels))
    ∙ never (is_acked x.ins)

still-unremoved : (s c : ℕ) (b : Bool) (x : ListElement) → is_unremoved (cond b (with_removal s c x) x) ≡ true → is_unremoved x ≡ true
still-unremoved s c true x h = absurd (true-false (sym h ∙ removed-now s c x))
still-unremoved s c false x h = h

same-name : (s c : ℕ) (b : Bool) (x : ListElement) → id (cond b (with_removal s c x) x) ≡ id x
same-name s c true x = refl
same-name s c false x = refl

same-sequenced : (s c : ℕ) (b : Bool) (x : ListElement) → is_sequenced (cond b (with_removal s c x) x) ≡ is_sequenced x
same-sequenced s c true x = refl
same-sequenced s c false x = refl

pub more-removed : (s c : ℕ) (seen : ListElement → Bool) (p q i : ℕ) (xs : List ListElement) → MoreRemoved xs (change_range_from i seen p q (with_removal s c) xs)
more-removed s c seen p q i [] = tt
more-removed s c seen p q i (x ∷ xs) =
    let b = seen x && within p q i in
    (same-name s c b x, same-sequenced s c b x, still-unremoved s c b x, more-removed s c seen p q (one_more_if (seen x) i) xs)

once-range : (seen : ListElement → Bool) (g : ListElement → ListElement) → ((a : ElementId) (x : ListElement) → has_id a (g x) ≡ has_id a x)
    → (p q : ℕ) (xs : List ListElement) → Once xs → Once (change_range seen p q g xs)
once-range seen g same p q xs once a = subst (λ n. n ≤ 1) (sym (len-range (has_id a) seen g (same a) p q 0 xs)) (once a)

-- removals of ranges, after each of which the ends slide
removals : (s c r : ℕ) (is : List Interval) (ranges : List (ℕ × ℕ)) (doc : Document) → doc.intervals ≡ slide_ends doc.text.items is → Once doc.text.items
    → ranges_fit (seen_by r c) (with_removal s c) ranges doc.text.items ≡ true
    → effects doc s c r (map (λ r. OnText (Remove r.0 r.1)) ranges)
    ≡ with_slid_ends (record doc { text = record doc.text { items = change_ranges (seen_by r c) (with_removal s c) ranges doc.text.items }; intervals = is })
removals s c r is [] doc h once fit = ap (λ js. record doc { intervals = js }) h
removals s c r is ((p, q) ∷ ranges) doc h once fit =
    let f = both (nat_le q (len (seen_by r c) doc.text.items)) (ranges_fit (seen_by r c) (with_removal s c) ranges
    (change_range (seen_by r c) p q (with_removal s c) doc.text.items)) fit in
    let doc1 = with_slid_ends (record doc { text = after_removal s c r p q doc.text }) in
    let slid : doc1.intervals ≡ slide_ends doc1.text.items is =
    ap (slide_ends doc1.text.items) h ∙ ends-twice doc.text.items doc1.text.items is once (more-removed s c (seen_by r c) p q 0 doc.text.items) in
    ap (λ b. effects (cond b doc1 (with_skip doc)) s c r (map (λ r. OnText (Remove r.0 r.1)) ranges)) f.0
    ∙ removals s c r is ranges doc1 slid (once-range (seen_by r c) (with_removal s c) (λ a x. refl) p q doc.text.items once) f.1

annotations : (s c r : ℕ) (changes : Changes) (ranges : List (ℕ × ℕ)) (doc : Document) → ranges_fit (seen_by r c) (with_annotation changes) ranges doc.text.items ≡ true
    → effects doc s c r (map (λ r. OnText (Annotate r.0 r.1 changes)) ranges)
    ≡ record doc { text = record doc.text { items = change_ranges (seen_by r c) (with_annotation changes) ranges doc.text.items } }
annotations s c r changes [] doc fit = refl
annotations s c r changes ((p, q) ∷ ranges) doc fit =
    let f = both (nat_le q (len (seen_by r c) doc.text.items)) (ranges_fit (seen_by r c) (with_annotation changes) ranges
    (change_range (seen_by r c) p q (with_annotation changes) doc.text.items)) fit in
    let doc1 : Document = record doc { text = record { items = change_range (seen_by r c) p q (with_annotation changes) doc.text.items; made = doc.text.made } } in
    ap (λ b. effects (cond b doc1 (with_skip doc)) s c r (map (λ r. OnText (Annotate r.0 r.1 changes)) ranges)) f.0
    ∙ annotations s c r changes ranges doc1 f.1

rows-removals : (s c r : ℕ) (ranges : List (ℕ × ℕ)) (doc : Document) → ranges_fit (seen_by r c) (with_removal s c) ranges doc.rows.items ≡ true
    → effects doc s c r (map (λ r. OnGrid (SpliceOut Rows r.0 r.1)) ranges)
    ≡ record doc { rows = record doc.rows { items = change_ranges (seen_by r c) (with_removal s c) ranges doc.rows.items } }
rows-removals s c r [] doc fit = refl
rows-removals s c r ((p, q) ∷ ranges) doc fit =
    let f = both (nat_le q (len (seen_by r c) doc.rows.items)) (ranges_fit (seen_by r c) (with_removal s c) ranges
    (change_range (seen_by r c) p q (with_removal s c) doc.rows.items)) fit in
    let doc1 : Document = record doc { rows = after_removal s c r p q doc.rows } in
    ap (λ b. effects (cond b doc1 (with_skip doc)) s c r (map (λ r. OnGrid (SpliceOut Rows r.0 r.1)) ranges)) f.0
    ∙ rows-removals s c r ranges doc1 f.1

cols-removals : (s c r : ℕ) (ranges : List (ℕ × ℕ)) (doc : Document) → ranges_fit (seen_by r c) (with_removal s c) ranges doc.cols.items ≡ true
    → effects doc s c r (map (λ r. OnGrid (SpliceOut Cols r.0 r.1)) ranges)
    ≡ record doc { cols = record doc.cols { items = change_ranges (seen_by r c) (with_removal s c) ranges doc.cols.items } }
cols-removals s c r [] doc fit = refl
cols-removals s c r ((p, q) ∷ ranges) doc fit =
    let f = both (nat_le q (len (seen_by r c) doc.cols.items)) (ranges_fit (seen_by r c) (with_removal s c) ranges
    (change_range (seen_by r c) p q (with_removal s c) doc.cols.items)) fit in
    let doc1 : Document = record doc { cols = after_removal s c r p q doc.cols } in
    ap (λ b. effects (cond b doc1 (with_skip doc)) s c r (map (λ r. OnGrid (SpliceOut Cols r.0 r.1)) ranges)) f.0
    ∙ cols-removals s c r ranges doc1 f.1

-- ---- names and ends after a sequenced edit

len-append-add : {A : Type 0} (test : A → Bool) (new xs : List A) → len test (new ++ xs) ≡ len test new + len test xs
len-append-add test [] xs = omega arith
len-append-add test (y ∷ ys) xs = grind (arith, len-append-add test ys xs)

len-past-add : {A : Type 0} (test past : A → Bool) (new xs : List A) → len test (put_past past new xs) ≡ len test new + len test xs
len-past-add test past new [] = omega arith
len-past-add test past new (x ∷ xs) = grind (arith, len-past-add test past new xs, len-append-add test new (x ∷ xs))

-- an insertion adds what is counted of the new elements
pub len-put-add : {A : Type 0} (test place past : A → Bool) (q : ℕ) (new xs : List A) → len test (put place past q new xs) ≡ len test new + len test xs
len-put-add test place past zero new xs = len-past-add test past new xs
len-put-add test place past (suc q) new [] = omega arith
len-put-add test place past (suc q) new (x ∷ xs) = grind (arith, len-put-add test place past q new xs, len-put-add test place past (suc q) new xs)

any-past-more : {A : Type 0} (test past : A → Bool) (new xs : List A) → list_any test xs ≡ true → list_any test (put_past past new xs) ≡ true
any-past-more test past new [] h = (cc)
any-past-more test past new (x ∷ xs) h = grind (arith, any-past-more test past new xs, any-behind test new (x ∷ xs))

any-put-more : {A : Type 0} (test place past : A → Bool) (q : ℕ) (new xs : List A) → list_any test xs ≡ true → list_any test (put place past q new xs) ≡ true
any-put-more test place past zero new xs h = any-past-more test past new xs h
any-put-more test place past (suc q) new [] h = (cc)
any-put-more test place past (suc q) new (x ∷ xs) h = grind (arith, any-put-more test place past q new xs, any-put-more test place past (suc q) new xs)

any-range : {A : Type 0} (test seen : A → Bool) (g : A → A) → ((x : A) → test (g x) ≡ test x) → (p q i : ℕ) (xs : List A)
    → list_any test (change_range_from i seen p q g xs) ≡ list_any test xs
any-range test seen g same p q i [] = refl
any-range test seen g same p q i (x ∷ xs) = grind (arith, any-range test seen g same p q i xs, any-range test seen g same p q (suc i) xs, same x)

pub any-ranges : {A : Type 0} (test seen : A → Bool) (g : A → A) → ((x : A) → test (g x) ≡ test x) → (ranges : List (ℕ × ℕ)) (xs : List A)
    → list_any test (change_ranges seen g ranges xs) ≡ list_any test xs
any-ranges test seen g same [] xs = refl
any-ranges test seen g same ((p, q) ∷ ranges) xs = any-ranges test seen g same ranges (change_range seen p q g xs) ∙ any-range test seen g same p q 0 xs

new-names-below : (m n s c : ℕ) (by : Option Stamp) (props : PropertyList) (items : List ElementContent) → m < n
    → len (has_id (SequencedId m)) (new_elements n (Acked s c) [] by props items) ≡ 0
new-names-below m n s c by props [] l = refl
new-names-below m n s c by props (b ∷ bs) l =
    let here : nat_eq m n ≡ false = grind (arith, nat_tests) in
    rw here (new-names-below m (n + 1) s c by props bs (omega arith))

new-names-once : (m n s c : ℕ) (by : Option Stamp) (props : PropertyList) (items : List ElementContent)
    → len (has_id (SequencedId m)) (new_elements n (Acked s c) [] by props items) ≤ 1
new-names-once m n s c by props [] = omega arith
new-names-once m n s c by props (b ∷ bs) = grind (arith, nat_tests, new-names-once m (n + 1) s c by props bs, new-names-below m (n + 1) s c by props bs)

new-names-above : (m n s c : ℕ) (by : Option Stamp) (props : PropertyList) (items : List ElementContent) → n + length items ≤ m
    → len (has_id (SequencedId m)) (new_elements n (Acked s c) [] by props items) ≡ 0
new-names-above m n s c by props [] l = refl
new-names-above m n s c by props (b ∷ bs) l =
    let here : nat_eq m n ≡ false = grind (arith, nat_tests) in
    rw here (new-names-above m (n + 1) s c by props bs (omega arith))

new-names-pending : (k m n s c : ℕ) (by : Option Stamp) (props : PropertyList) (items : List ElementContent)
    → len (has_id (PendingId k m)) (new_elements n (Acked s c) [] by props items) ≡ 0
new-names-pending k m n s c by props [] = refl
new-names-pending k m n s c by props (b ∷ bs) = new-names-pending k m (n + 1) s c by props bs

-- how often a name stands in a list after an insertion
put-once : (s c r p : ℕ) (by : Option Stamp) (props : PropertyList) (items : List ElementContent) (list : Sequence) → IsNamed list → (a : ElementId)
    → len (has_id a) (new_elements list.made (Acked s c) [] by props items) + len (has_id a) list.items ≤ 1
put-once s c r p by props items list h (SequencedId m) = either (nat_le list.made m) refl
  where
    either : (b : Bool) → nat_le list.made m ≡ b → len (has_id (SequencedId m)) (new_elements list.made (Acked s c) [] by props items) + len (has_id (SequencedId m)) list.items ≤ 1
    either true e =
        let l : list.made ≤ m = grind (arith, nat_tests) in
        let none = h.fresh (SequencedId m) l in
        let new = new-names-once m list.made s c by props items in
        omega arith
    either false e =
        let l : m < list.made = grind (arith, nat_tests) in
        let none = new-names-below m list.made s c by props items l in
        let old = h.once (SequencedId m) in
        omega arith
put-once s c r p by props items list h (PendingId k m) =
    let none = h.fresh (PendingId k m) tt in
    let new = new-names-pending k m list.made s c by props items in
    omega arith

put-fresh : (s c : ℕ) (by : Option Stamp) (props : PropertyList) (items : List ElementContent) (list : Sequence) → IsNamed list → (a : ElementId)
    → IsFresh (list.made + length items) a
    → len (has_id a) (new_elements list.made (Acked s c) [] by props items) + len (has_id a) list.items ≡ 0
put-fresh s c by props items list h (SequencedId m) l =
    let none = h.fresh (SequencedId m) (omega arith) in
    let new = new-names-above m list.made s c by props items l in
    omega arith
put-fresh s c by props items list h (PendingId k m) l =
    let none = h.fresh (PendingId k m) tt in
    let new = new-names-pending k m list.made s c by props items in
    omega arith

ranges-named : (seen : ListElement → Bool) (g : ListElement → ListElement) → ((a : ElementId) (x : ListElement) → has_id a (g x) ≡ has_id a x)
    → (ranges : List (ℕ × ℕ)) (list : Sequence) → IsNamed list → IsNamed (record list { items = change_ranges seen g ranges list.items })
ranges-named seen g same ranges list h = record {
  once = λ a. subst (λ n. n ≤ 1) (sym (len-ranges (has_id a) seen g (same a) ranges list.items)) (h.once a);
  fresh = λ a f. len-ranges (has_id a) seen g (same a) ranges list.items ∙ h.fresh a f;
}

-- a sequenced edit keeps the names
pub named-after : (s c r : ℕ) (by : Option Stamp) (edit : StageEdit) (list : Sequence) → IsNamed list → IsNamed (list_after s c r by edit list)
named-after s c r by (PutIn p props items) list h =
    let new = new_elements list.made (Acked s c) [] by props items in
    record {
      once = λ a. subst (λ n. n ≤ 1) (sym (len-put-add (has_id a) (seen_by r c) is_pending p new list.items)) (put-once s c r p by props items list h a);
      fresh = λ a f. len-put-add (has_id a) (seen_by r c) is_pending p new list.items ∙ put-fresh s c by props items list h a f;
    }
named-after s c r by (TakenOut ranges) list h = ranges-named (seen_by r c) (with_removal s c) (λ a x. refl) ranges list h
named-after s c r by (Annotated ranges changes) list h = ranges-named (seen_by r c) (with_annotation changes) (λ a x. refl) ranges list h

end-after : (s c r : ℕ) (by : Option Stamp) (edit : StageEdit) (list : Sequence) (o : Option ElementId) → removes edit ≡ false → Stands list.items o
    → Stands (list_after s c r by edit list).items o
end-after s c r by edit list None keeps h = tt
end-after s c r by (PutIn p props items) list (Some a) keeps h = any-put-more (is_standing_at a) (seen_by r c) is_pending p
    (new_elements list.made (Acked s c) [] by props items) list.items h
end-after s c r by (TakenOut []) list (Some a) keeps h = h
end-after s c r by (TakenOut (range ∷ ranges)) list (Some a) keeps h = (cc)
end-after s c r by (Annotated ranges changes) list (Some a) keeps h = any-ranges (is_standing_at a) (seen_by r c) (with_annotation changes) (λ x. refl) ranges list.items ∙ h

-- an edit that removes nothing keeps the ends where they stand
pub ends-after : (s c r : ℕ) (by : Option Stamp) (edit : StageEdit) (list : Sequence) (is : List Interval) → removes edit ≡ false → EndsStand list.items is
    → EndsStand (list_after s c r by edit list).items is
ends-after s c r by edit list [] keeps h = tt
ends-after s c r by edit list (i ∷ is) keeps h = (
  end-after s c r by edit list i.start keeps h.0,
  end-after s c r by edit list i.end keeps h.1,
  ends-after s c
      r by edit list is keeps h.2,
)

ends-kept : (s c r : ℕ) (by : Option Stamp) (edit : StageEdit) (list : Sequence) (is : List Interval) → removes edit ≡ false → IsNamed list → EndsStand list.items is
    → slide_ends (list_after s c r by edit list).items is ≡ is
ends-kept s c r by edit list is keeps named h = ends-stay (list_after s c r by edit list).items is (named-after s c r by edit list named).once
    (ends-after s c r by edit list is keeps h)

-- ---- a stage

cell-write : (doc : Document) (value : ValueBytes) (row col : Option ListElement) (first second : Option ElementId) → IsOneName (option_map id row) first
    → IsOneName (option_map id col) second
    → cell_effect doc row col value ≡ record doc { cells = write_named_cell first second value doc.cells }
cell-write doc value (Some row) (Some col) (Some a) (Some b) h g = rw (h, g) refl
cell-write doc value (Some row) (Some col) (Some a) None h g = absurd g
cell-write doc value (Some row) (Some col) None second h g = absurd h
cell-write doc value (Some row) None first (Some b) h g = absurd g
cell-write doc value (Some row) None first None h g = absurd g
cell-write doc value None col (Some a) second h g = absurd h
cell-write doc value None col None second h g = absurd h

-- the stage is in range in each list
pub record FitsAgreed (s c r : ℕ) (sent : SentStage) (names : NamedElements) (doc : Document) : Type 0 where
  pub text : fits_sequenced s c r (text_edit sent) doc.text.items ≡ true
  pub rows : fits_sequenced s c r (rows_edit sent) doc.rows.items ≡ true
  pub cols : fits_sequenced s c r (cols_edit sent) doc.cols.items ≡ true
  pub named : NamesBy (seen_by r c) doc.text.items doc.rows.items doc.cols.items sent names

-- the sub-operations of a stage, one after another, are the stage as a whole
pub effects-stage : (s c r : ℕ) (sent : SentStage) (names : NamedElements) (doc : Document) → IsSound doc → FitsAgreed s c r sent names doc
    → effects doc s c r (told_as sent) ≡ document_after s c r sent names doc
effects-stage s c r (TextPut p seg props) names doc sound fits =
    let list = list_after s c r (Some (Acked s c)) (PutIn p (apply [] props) (segment_contents seg)) doc.text in
    ap (λ b. cond b (record doc { text = list }) (with_skip doc)) fits.text
    ∙ ap (λ is. record doc { text = list; intervals = is }) (sym (ends-kept s c r (Some (Acked s c)) (PutIn p (apply [] props) (segment_contents seg)) doc.text
    doc.intervals refl sound.named sound.ends))
effects-stage s c r (TextTaken ranges) names doc sound fits =
    removals s c r doc.intervals ranges doc (sym (ends-stay doc.text.items doc.intervals sound.named.once sound.ends)) sound.named.once fits.text
effects-stage s c r (TextAnnotated ranges changes) names doc sound fits =
    let list = list_after s c r (Some (Acked s c)) (Annotated ranges changes) doc.text in
    annotations s c r changes ranges doc fits.text
    ∙ ap (λ is. record doc { text = list; intervals = is }) (sym (ends-kept s c r (Some (Acked s c)) (Annotated ranges changes) doc.text doc.intervals refl sound.named sound.ends))
effects-stage s c r (IntervalsChanged op) names doc sound fits =
    ap (λ b. cond b (with_slid_ends (record doc {
      intervals = after_interval_operation op (elements_at_given_ends (seen_by r c) doc.text.items (ends_of op))
          doc.intervals;
    })) (with_skip doc)) fits.named.0
    ∙ ap (λ n. with_slid_ends (record doc { intervals = after_interval_operation op n doc.intervals })) fits.named.1
effects-stage s c r (UnitsPut Rows p count) names doc sound fits =
    let list = list_after s c r None (PutIn p [] (replicate count GridUnit)) doc.rows in
    ap (λ b. cond b (record doc { rows = list }) (with_skip doc)) fits.rows
    ∙ ap (λ is. record doc { rows = list; intervals = is }) (sym (ends-stay doc.text.items doc.intervals sound.named.once sound.ends))
effects-stage s c r (UnitsPut Cols p count) names doc sound fits =
    let list = list_after s c r None (PutIn p [] (replicate count GridUnit)) doc.cols in
    ap (λ b. cond b (record doc { cols = list }) (with_skip doc)) fits.cols
    ∙ ap (λ is. record doc { cols = list; intervals = is }) (sym (ends-stay doc.text.items doc.intervals sound.named.once sound.ends))
effects-stage s c r (UnitsTaken Rows ranges) names doc sound fits =
    let list = list_after s c r None (TakenOut ranges) doc.rows in
    rows-removals s c r ranges doc fits.rows
    ∙ ap (λ is. record doc { rows = list; intervals = is }) (sym (ends-stay doc.text.items doc.intervals sound.named.once sound.ends))
effects-stage s c r (UnitsTaken Cols ranges) names doc sound fits =
    let list = list_after s c r None (TakenOut ranges) doc.cols in
    cols-removals s c r ranges doc fits.cols
    ∙ ap (λ is. record doc { cols = list; intervals = is }) (sym (ends-stay doc.text.items doc.intervals sound.named.once sound.ends))
effects-stage s c r (CellWritten i j value) names doc sound fits =
    cell-write doc value (at (seen_by r c) i doc.rows.items) (at (seen_by r c) j doc.cols.items) names.first names.second fits.named.0 fits.named.1
    ∙ ap (λ is. record doc { cells = write_named_cell names.first names.second value doc.cells; intervals = is })
    (sym (ends-stay doc.text.items doc.intervals sound.named.once sound.ends))

-- a stage keeps what stands in the document
pub sound-after : (s c r : ℕ) (sent : SentStage) (names : NamedElements) (doc : Document) → IsSound doc → IsSound (document_after s c r sent names doc)
sound-after s c r sent names doc sound = record {
  named = named-after s c r (Some (Acked s c)) (text_edit sent) doc.text sound.named;
  ends = ends-stand (list_after s c r (Some (Acked s c)) (text_edit sent) doc.text).items (intervals_after_sent sent names doc.intervals);
  rows = named-after s c r None (rows_edit sent) doc.rows sound.rows;
  cols = named-after s c r None (cols_edit sent) doc.cols sound.cols;
}
