-- What a client has pending is well formed: its operations as they were typed and as they were sent, and the ends of its interval
-- operations stand in order in its text.
use Rattle.std.proofs.Common.{◌≡◌, inl, inr, ℕ, suc, ◌+◌, ◌-◌, ◌≤◌, ◌<◌, ◌^◌, Bool, true, false, cond, not, ◌&&◌, ◌||◌, nat_eq, nat_le, nat_lt, ℤ, pos, negsuc, List, [], ◌∷◌, ◌++◌, Option, Some, None, Result, Ok, Err, filter, flat_map, length, map, option_map, refl, sym, ◌∙◌, ap, subst, arith, lt-ltb}
use Rattle.std.specs.Prelude.{IsTrue}
use Rattle.std.specs.List.{AllByRecursion, list_all, list_any}
use Rattle.std.proofs.lemmas.Bool.Decides.{nat_tests}
use Rattle.ft_base.proofs.Booleans.{all_three, both}
use Rattle.ft_base.specs.declared.stamps.Stamp.{Stamp}
use Rattle.ft_base.specs.declared.stamps.Stamp.TheVariants.{Acked, Local}
use Rattle.ft_base.specs.Scan.{at, len, no_run, one_more_if, rank}
use Rattle.ft_base.specs.Visibility.{is_acked, is_of_stage}
use Rattle.ft_base.proofs.Options.{some-same}
use Rattle.ft_op.specs.declared.operations.BaseOp.{BaseOp}
use Rattle.ft_op.specs.declared.operations.BaseOp.TheVariants.{Insert, Remove, Annotate}
use Rattle.ft_op.specs.declared.operations.CellOp.{CellOp}
use Rattle.ft_op.specs.declared.operations.CellOp.TheVariants.{SpliceIn, SpliceOut, Set}
use Rattle.ft_op.specs.declared.operations.ChannelOp.{ChannelOp}
use Rattle.ft_op.specs.declared.operations.ChannelOp.TheVariants.{Text, Grid}
use Rattle.ft_op.specs.declared.operations.Ends.{Ends}
use Rattle.ft_op.specs.declared.operations.GridOp.TheVariants as grid
use Rattle.ft_op.specs.declared.operations.Target.{Target}
use Rattle.ft_op.specs.declared.operations.Target.TheVariants.{Rows, Cols}
use Rattle.ft_op.specs.declared.operations.TextOp.{TextOp}
use Rattle.ft_op.specs.declared.operations.TextOp.TheVariants.{One, Group, IntervalAdd, IntervalChange, IntervalDelete}
use Rattle.ft_msg.specs.declared.faults.EditFault.{EditFault}
use Rattle.ft_msg.specs.declared.faults.EditFault.TheVariants.{OutOfRange}
use Rattle.ft_msg.specs.declared.messages.Body.{Body}
use Rattle.ft_msg.specs.declared.messages.Body.TheVariants.{Nothing, Op, Elsewhere}
use Rattle.ft_msg.specs.declared.messages.Entry.{Entry}
use Rattle.ft_props.specs.Element.{ElementId, ListElement, PendingId, SequencedId, has_id, id, id_of_stamp, same_id, seen, seen_by, with_annotation, with_pending_annotation, with_pending_removal, with_removal}
use Rattle.ft_props.specs.Slide.{end_number, settle}
use Rattle.ft_props.specs.Steps.{Sequence, acked_element, acked_id, acked_stamp, extended_runs, is_annotated_by, is_inserted_by, is_removed_by, lowered_runs, marked_runs, marked_runs_from, stage_position}
use Rattle.ft_op.specs.Document.{Document, cell_effect, effect, effects, elements_at_given_ends, ends_of, given_ends_fit}
use Rattle.ft_op.specs.Intervals.{NamedElements, elements_at_ends, ends_fit, no_elements, settle_elements}
use Rattle.ft_op.specs.Pieces.{base_op_of, cell_op_of, ends_in, grid_pieces, interval_piece, is_named_and_seen, op_of, pieces, position_of_named, text_pieces, unless_empty}
use Rattle.ft_op.specs.Operation.{OnGrid, OnIntervals, OnText, SubOperation, segment_contents, sub_operations}
use Rattle.ft_op.specs.Stages.{Stage, shown_intervals}
use Rattle.ft_op.specs.WellFormed.{IsWellFormed, IsWellFormedBase, IsWellFormedCell, IsWellFormedEnds, IsWellFormedText, are_ends, is_count, is_range}
use Rattle.ft_msg.specs.Acknowledgement.{ack_stage, ack_stages, made_before, renamed_edit, renamed_names, renamed_stage}
use Rattle.ft_msg.specs.Agreed.{body_effect, reference_number, take_entry, with_numbers}
use Rattle.ft_msg.specs.Client.{EditResult, NaiveClient, PendingEdit, SentAs, after_edit, id_fault, local_edit, local_grid, local_interval, local_set, local_sub_operation, local_sub_operations, local_text, sent_as, stages_of, unless_fault, with_draft}
use Rattle.ft_msg.specs.Acknowledgement.{after_own_message}
use Rattle.ft_msg.specs.Process.{after_foreign_message, come_online}
use Rattle.ft_msg.specs.Reconnection.{carried_stage, regenerated_edit, resubmitted_edit, resubmitted_edits}
use Rattle.ft_msg.specs.declared.views.Link.{Link}
use Rattle.ft_msg.specs.declared.views.Link.TheVariants.{Offline, Joining, Online}
use Rattle.ft_laws_agreement.specs.Reconnecting.{StagesRiseTo, has_insertion_of, has_marks_of, has_removal_of, inserts_text, is_stage_of, removes_text}
use Rattle.ft_laws_agreement.specs.Sequencing.{Each, IsReady, are_ends_in}
use Rattle.ft_laws_agreement.specs.Trimming.{are_distinct_elements}
use Rattle.ft_laws_agreement.proofs.CountedEntries.{after_first, edited, with_first}
use Rattle.ft_laws_agreement.proofs.NamedByPlace.{names-not_renamed}
use Rattle.ft_laws_agreement.proofs.OwnSubOperations.{ok-choice}
use Rattle.ft_laws_agreement.proofs.SlidEnds.{true-false}
use Rattle.ft_laws_agreement.proofs.OwnNames.{has_named}
use Rattle.ft_laws_agreement.proofs.SettledEnds.{ends-fit, is_end_at, named-filter, only-named, settle-at}
use Rattle.ft_laws_summaries.proofs.Lists.{each-joined, each-weaker, size}
use Rattle.ft_laws_summaries.proofs.OrderedEnds.{AreInOrder, Carries, Next, any-carried, at-above, at-leads, at-named, carries-itself, carries-map, carries-put, carries-range, carries-then, leads, leads-carried, leads-filter, leads-settled, rank-leads}

-- ---- what is well formed

-- a sub-operation is
abbrev pub IsFormedSub : SubOperation → Type 0
IsFormedSub (OnText op) = IsWellFormedBase op
IsFormedSub (OnIntervals op) = IsWellFormedText op
IsFormedSub (OnGrid op) = IsWellFormedCell op

-- the elements that an interval operation names stand in order
abbrev pub AreOrderedFor : List ListElement → SubOperation → NamedElements → Type 0
AreOrderedFor xs (OnText op) names = Unit {0}
AreOrderedFor xs (OnIntervals op) names = AreInOrder xs names.first names.second
AreOrderedFor xs (OnGrid op) names = Unit {0}

-- they are in the list
abbrev pub AreThereFor : List ListElement → SubOperation → NamedElements → Type 0
AreThereFor xs (OnText op) names = Unit {0}
AreThereFor xs (OnIntervals op) names = are_ends_in xs names.first names.second ≡ true
AreThereFor xs (OnGrid op) names = Unit {0}

pub record IsFormedStage (xs : List ListElement) (t : Stage) : Type 0 where
  pub sub : IsFormedSub t.sub_operation
  pub there : AreThereFor xs t.sub_operation t.names
  pub order : AreOrderedFor xs t.sub_operation t.names

-- as an edit was sent, its operation is
abbrev pub IsFormedSent : Option SentAs → Type 0
IsFormedSent None = Unit {0}
IsFormedSent (Some sent) = IsWellFormed sent.op

pub record IsFormedEdit (xs : List ListElement) (e : PendingEdit) : Type 0 where
  pub stages : Each (IsFormedStage xs) e.stages
  pub sent : IsFormedSent e.sent

-- all that a client has pending is
abbrev pub IsFormed : NaiveClient → Type 0
IsFormed x = Each (IsFormedEdit x.doc.text.items) x.pending

-- ---- the text carries what it had

distinct-tail : (x : ListElement) (xs : List ListElement) → are_distinct_elements (x ∷ xs) ≡ true → are_distinct_elements xs ≡ true
distinct-tail x xs h = (both (not (list_any (has_id (id x)) xs)) (are_distinct_elements xs) h).1

-- so its names were distinct
pub distinct-carried : (h : ElementId → ElementId) (xs ys : List ListElement) → Carries h xs ys → are_distinct_elements ys ≡ true → are_distinct_elements xs ≡ true
distinct-carried h [] ys c d = refl
distinct-carried h (x ∷ xs) ys c d = by (λ us e f. distinct-carried h xs us e f) ys c d
  where
    none : (y : ListElement) (us : List ListElement) → id y ≡ h (id x) → Carries h xs us → are_distinct_elements (y ∷ us) ≡ true → (t : Bool)
        → list_any (has_id (id x)) xs ≡ t → not t ≡ true
    none y us e c f false g = refl
    none y us e c f true g =
        let there : list_any (has_id (id y)) us ≡ true = ap (λ a. list_any (has_id a) us) e ∙ any-carried h (id x) xs us c g in
        sym (ap not there) ∙ (both (not (list_any (has_id (id y)) us)) (are_distinct_elements us) f).0

    by : ((us : List ListElement) → Carries h xs us → are_distinct_elements us ≡ true → are_distinct_elements xs ≡ true) → (us : List ListElement)
        → Next (h (id x)) us (λ zs. Carries h xs zs) → are_distinct_elements us ≡ true
        → not (list_any (has_id (id x)) xs) && are_distinct_elements xs ≡ true
    by ih [] n f = absurd n
    by ih (u ∷ us) (inl e) f = rw (none u us e.0 e.1 f (list_any (has_id (id x)) xs) refl, ih us e.1 (distinct-tail u us f)) refl
    by ih (u ∷ us) (inr n) f = by ih us n (distinct-tail u us f)

pub ends-carried : (h : ElementId → ElementId) (xs ys : List ListElement) (names : NamedElements) → Carries h xs ys → are_ends_in xs names.first names.second ≡ true
    → are_ends_in ys (renamed_names h names).first (renamed_names h names).second ≡ true
ends-carried h xs ys names c t = by names.first names.second t
  where
    by : (a b : Option ElementId) → are_ends_in xs a b ≡ true → are_ends_in ys (renamed_names h (record { first = a; second = b })).first
        (renamed_names h (record { first = a; second = b })).second ≡ true
    by None None g = refl
    by (Some a) (Some b) g =
        let p = both (list_any (has_id a) xs) (list_any (has_id b) xs) g in
        rw (any-carried h a xs ys c p.0, any-carried h b xs ys c p.1) refl
    by None (Some b) g = (cc)
    by (Some a) None g = (cc)

pub order-carried : (h : ElementId → ElementId) (xs ys : List ListElement) (names : NamedElements) → Carries h xs ys → are_distinct_elements ys ≡ true
    → are_ends_in xs names.first names.second ≡ true → AreInOrder xs names.first names.second
    → AreInOrder ys (renamed_names h names).first (renamed_names h names).second
order-carried h xs ys names c d t o = by names.first names.second t o
  where
    by : (a b : Option ElementId) → are_ends_in xs a b ≡ true → AreInOrder xs a b
        → AreInOrder ys (renamed_names h (record { first = a; second = b })).first (renamed_names h (record { first = a; second = b })).second
    by None None g k = tt
    by (Some a) (Some b) g k = leads-carried h a b xs ys c d (both (list_any (has_id a) xs) (list_any (has_id b) xs) g).1 k
    by None (Some b) g k = tt
    by (Some a) None g k = tt

pub stage-renamed : (h : ElementId → ElementId) (xs ys : List ListElement) → Carries h xs ys → are_distinct_elements ys ≡ true → (t : Stage) → IsFormedStage xs t
    → IsFormedStage ys (renamed_stage h t)
stage-renamed h xs ys c d t f = record { sub = f.sub; there = there t.sub_operation f.there; order = order t.sub_operation f.there f.order }
  where
    there : (o : SubOperation) → AreThereFor xs o t.names → AreThereFor ys o (renamed_names h t.names)
    there (OnText op) g = tt
    there (OnIntervals op) g = ends-carried h xs ys t.names c g
    there (OnGrid op) g = tt

    order : (o : SubOperation) → AreThereFor xs o t.names → AreOrderedFor xs o t.names → AreOrderedFor ys o (renamed_names h t.names)
    order (OnText op) g k = tt
    order (OnIntervals op) g k = order-carried h xs ys t.names c d g k
    order (OnGrid op) g k = tt

pub stage-moved : (xs ys : List ListElement) → Carries (λ a. a) xs ys → are_distinct_elements ys ≡ true → (t : Stage) → IsFormedStage xs t → IsFormedStage ys t
stage-moved xs ys c d t f = subst (λ names. IsFormedStage ys (record t { names = names })) (names-not_renamed t.names) (stage-renamed (λ a. a) xs ys c d t f)

stages-renamed : (h : ElementId → ElementId) (xs ys : List ListElement) → Carries h xs ys → are_distinct_elements ys ≡ true → (ts : List Stage)
    → Each (IsFormedStage xs) ts → Each (IsFormedStage ys) (map (renamed_stage h) ts)
stages-renamed h xs ys c d [] f = tt
stages-renamed h xs ys c d (t ∷ ts) f = (stage-renamed h xs ys c d t f.0, stages-renamed h xs ys c d ts f.1)

pub edits-renamed : (h : ElementId → ElementId) (xs ys : List ListElement) → Carries h xs ys → are_distinct_elements ys ≡ true → (es : List PendingEdit)
    → Each (IsFormedEdit xs) es → Each (IsFormedEdit ys) (map (renamed_edit h) es)
edits-renamed h xs ys c d [] f = tt
edits-renamed h xs ys c d (e ∷ es) f = (record { stages = stages-renamed h xs ys c d e.stages f.0.stages; sent = f.0.sent }, edits-renamed h xs ys c d es f.1)

pub edits-moved : (xs ys : List ListElement) → Carries (λ a. a) xs ys → are_distinct_elements ys ≡ true → (es : List PendingEdit) → Each (IsFormedEdit xs) es
    → Each (IsFormedEdit ys) es
edits-moved xs ys c d es f =
    each-weaker (IsFormedEdit xs) (IsFormedEdit ys) (λ e g. record {
      stages = each-weaker (IsFormedStage xs) (IsFormedStage ys)
          (λ t k. stage-moved xs ys c d t k) e.stages g.stages;
      sent = g.sent;
    }) es f

-- ---- messages of others

text-carried : (b : Bool) (doc p q : Document) → Carries (λ a. a) doc.text.items p.text.items → Carries (λ a. a) doc.text.items q.text.items
    → Carries (λ a. a) doc.text.items (cond b p q).text.items
text-carried true doc p q f g = f
text-carried false doc p q f g = g

module _ (s c r : ℕ) where
  effect-carries : (doc : Document) (o : SubOperation) → Carries (λ a. a) doc.text.items (effect doc s c r o).text.items
  effect-carries doc (OnText (Insert p seg props)) = text-carried (nat_le p (len (seen_by r c) doc.text.items)) doc _ _
      (carries-put (seen_by r c) _ p _ doc.text.items) (carries-itself doc.text.items)
  effect-carries doc (OnText (Remove p q)) = text-carried (nat_le q (len (seen_by r c) doc.text.items)) doc _ _
      (carries-range (seen_by r c) (with_removal s c) (λ e. refl) p q 0 doc.text.items) (carries-itself doc.text.items)
  effect-carries doc (OnText (Annotate p q changes)) = text-carried (nat_le q (len (seen_by r c) doc.text.items)) doc _ _
      (carries-range (seen_by r c) (with_annotation changes) (λ e. refl) p q 0 doc.text.items) (carries-itself doc.text.items)
  effect-carries doc (OnIntervals op) = text-carried (given_ends_fit (len (seen_by r c) doc.text.items) (ends_of op)) doc _ _ (carries-itself doc.text.items)
      (carries-itself doc.text.items)
  effect-carries doc (OnGrid (SpliceIn Rows p count)) = text-carried (nat_le p (len (seen_by r c) doc.rows.items)) doc _ _ (carries-itself doc.text.items)
      (carries-itself doc.text.items)
  effect-carries doc (OnGrid (SpliceIn Cols p count)) = text-carried (nat_le p (len (seen_by r c) doc.cols.items)) doc _ _ (carries-itself doc.text.items)
      (carries-itself doc.text.items)
  effect-carries doc (OnGrid (SpliceOut Rows p q)) = text-carried (nat_le q (len (seen_by r c) doc.rows.items)) doc _ _ (carries-itself doc.text.items)
      (carries-itself doc.text.items)
  effect-carries doc (OnGrid (SpliceOut Cols p q)) = text-carried (nat_le q (len (seen_by r c) doc.cols.items)) doc _ _ (carries-itself doc.text.items)
      (carries-itself doc.text.items)
  effect-carries doc (OnGrid (Set i j value)) = by (at (seen_by r c) i doc.rows.items) (at (seen_by r c) j doc.cols.items)
    where
      by : (o p : Option ListElement) → Carries (λ a. a) doc.text.items (cell_effect doc o p value).text.items
      by (Some x) (Some y) = carries-itself doc.text.items
      by (Some x) None = carries-itself doc.text.items
      by None p = carries-itself doc.text.items

  effects-carry : (os : List SubOperation) (doc : Document) → Carries (λ a. a) doc.text.items (effects doc s c r os).text.items
  effects-carry [] doc = carries-itself doc.text.items
  effects-carry (o ∷ os) doc = carries-then (λ a. a) (λ a. a) doc.text.items (effect doc s c r o).text.items _ (effect-carries doc o) (effects-carry os (effect doc s c r o))

  body-carries : (b : Body) (doc : Document) → Carries (λ a. a) doc.text.items (body_effect doc s c r b).text.items
  body-carries Nothing doc = carries-itself doc.text.items
  body-carries (Op op) doc = effects-carry (sub_operations op) doc
  body-carries (Elsewhere address) doc = carries-itself doc.text.items

pub foreign-carries : (doc : Document) (e : Entry) → Carries (λ a. a) doc.text.items (take_entry doc e).text.items
foreign-carries doc e = body-carries e.msg.seq e.origin (reference_number e.msg.ref_seq) e.msg.body doc

-- ---- an edit of its own

-- what a sub-operation makes of the text, and of the elements that it names
pub record IsOneTaken (doc : Document) (o : SubOperation) (taken : Document × NamedElements) : Type 0 where
  pub carries : Carries (λ a. a) doc.text.items taken.0.text.items
  pub there : IsFormedSub o → are_distinct_elements taken.0.text.items ≡ true → AreThereFor taken.0.text.items o taken.1
  pub order : IsFormedSub o → are_distinct_elements taken.0.text.items ≡ true → AreOrderedFor taken.0.text.items o taken.1

text-taken : (doc after : Document) (op : BaseOp) (p n : ℕ) (taken : Document × NamedElements) → Carries (λ a. a) doc.text.items after.text.items
    → cond (nat_le p n) (Ok (after, no_elements)) (Err (OutOfRange n)) ≡ Ok taken → IsOneTaken doc (OnText op) taken
text-taken doc after op p n taken c h =
    let same = (ok-choice (nat_le p n) (after, no_elements) taken (OutOfRange n) h).1 in
    record { carries = subst (λ (z : Document × NamedElements). Carries (λ a. a) doc.text.items z.0.text.items) same c; there = λ f d. tt; order = λ f d. tt }

local-text-taken : (doc : Document) (k : ℕ) (op : BaseOp) (taken : Document × NamedElements) → local_text doc k op ≡ Ok taken → IsOneTaken doc (OnText op) taken
local-text-taken doc k (Insert p seg props) taken h = text-taken doc _ (Insert p seg props) p (len (seen (k - 1)) doc.text.items) taken
    (carries-put (seen (k - 1)) no_run p _ doc.text.items) h
local-text-taken doc k (Remove p q) taken h = text-taken doc _ (Remove p q) q (len (seen (k - 1)) doc.text.items) taken
    (carries-range (seen (k - 1)) (with_pending_removal k) (λ e. refl) p q 0 doc.text.items) h
local-text-taken doc k (Annotate p q changes) taken h = text-taken doc _ (Annotate p q changes) q (len (seen (k - 1)) doc.text.items) taken
    (carries-range (seen (k - 1)) (with_pending_annotation k changes) (λ e. refl) p q 0 doc.text.items) h

grid-taken : (doc after : Document) (op : CellOp) (p n : ℕ) (taken : Document × NamedElements) → after.text ≡ doc.text
    → cond (nat_le p n) (Ok (after, no_elements)) (Err (OutOfRange n)) ≡ Ok taken → IsOneTaken doc (OnGrid op) taken
grid-taken doc after op p n taken e h =
    let same = (ok-choice (nat_le p n) (after, no_elements) taken (OutOfRange n) h).1 in
    record {
      carries = subst (λ (z : Document × NamedElements). Carries (λ a. a) doc.text.items z.0.text.items) same
          (subst (λ (l : Sequence). Carries (λ a. a) doc.text.items l.items) (sym e) (carries-itself doc.text.items));
      there = λ f d. tt;
      order = λ f d. tt;
    }

set-taken : (doc : Document) (k i j : ℕ) (value : List ℕ) (row col : Option ListElement) (taken : Document × NamedElements) → local_set doc k row col
    ≡ Ok taken → IsOneTaken doc (OnGrid (Set i j value)) taken
set-taken doc k i j value (Some row) (Some col) taken h =
    let names : NamedElements = record { first = Some (id row); second = Some (id col) } in
    let same : (doc, names) ≡ taken = (cc) in
    record {
      carries = subst (λ (z : Document × NamedElements). Carries (λ a. a) doc.text.items z.0.text.items) same (carries-itself doc.text.items);
      there =
          λ f d. tt;
      order = λ f d. tt;
    }
set-taken doc k i j value None col taken h = (cc)
set-taken doc k i j value (Some row) None taken h = (cc)

local-grid-taken : (doc : Document) (k : ℕ) (op : CellOp) (taken : Document × NamedElements) → local_grid doc k op ≡ Ok taken → IsOneTaken doc (OnGrid op) taken
local-grid-taken doc k (SpliceIn Rows p count) taken h = grid-taken doc _ (SpliceIn Rows p count) p (len (seen (k - 1)) doc.rows.items) taken refl h
local-grid-taken doc k (SpliceIn Cols p count) taken h = grid-taken doc _ (SpliceIn Cols p count) p (len (seen (k - 1)) doc.cols.items) taken refl h
local-grid-taken doc k (SpliceOut Rows p q) taken h = grid-taken doc _ (SpliceOut Rows p q) q (len (seen (k - 1)) doc.rows.items) taken refl h
local-grid-taken doc k (SpliceOut Cols p q) taken h = grid-taken doc _ (SpliceOut Cols p q) q (len (seen (k - 1)) doc.cols.items) taken refl h
local-grid-taken doc k (Set i j value) taken h = set-taken doc k i j value (at (seen (k - 1)) i doc.rows.items) (at (seen (k - 1)) j doc.cols.items) taken h

-- both ends are places in order
pub places-ordered : (test : ListElement → Bool) (xs : List ListElement) (p q : ℕ) → p ≤ q → nat_lt q (len test xs) ≡ true → are_distinct_elements xs ≡ true
    → (are_ends_in xs (option_map id (at test p xs)) (option_map id (at test q xs)) ≡ true) × AreInOrder xs (option_map id (at test p xs)) (option_map id (at test q xs))
places-ordered test xs p q l g d = by (at test p xs) (at test q xs) refl refl
  where
    low : nat_lt q (len test xs) ≡ true → q < len test xs
    low k = grind (arith, nat_tests)

    by : (o u : Option ListElement) → at test p xs ≡ o → at test q xs ≡ u → (are_ends_in xs (option_map id o) (option_map id u) ≡ true)
        × AreInOrder xs (option_map id o) (option_map id u)
    by (Some a) (Some b) e f = (rw (at-named test p xs a e, at-named test q xs b f) refl, at-leads test p q xs a b l d e f)
    by None u e f = let a = at-above test p xs e in let b = low g in absurd (omega (arith, a, b, l))
    by (Some a) None e f = let b = low g in let c = at-above test q xs f in absurd (omega (arith, b, c))

ends-ordered : (test : ListElement → Bool) (xs : List ListElement) (ends : Ends) → IsWellFormedEnds ends → given_ends_fit (len test xs) (Some ends) ≡ true
    → are_distinct_elements xs ≡ true
    → (are_ends_in xs (elements_at_ends test xs ends).first (elements_at_ends test xs ends).second ≡ true)
    × AreInOrder xs (elements_at_ends test xs ends).first (elements_at_ends test xs ends).second
ends-ordered test xs ends f g d = by ends.start ends.end f g
  where
    by : (a b : ℤ) → are_ends a b ≡ true → given_ends_fit (len test xs) (Some (record { start = a; end = b })) ≡ true
        → (are_ends_in xs (elements_at_ends test xs (record { start = a; end = b })).first (elements_at_ends test xs (record { start = a; end = b })).second ≡ true)
        × AreInOrder xs (elements_at_ends test xs (record { start = a; end = b })).first (elements_at_ends test xs (record { start = a; end = b })).second
    by (pos p) (pos q) e k =
        let low = (both (nat_le p q) (is_count q) e).0 in
        let order : p ≤ q = grind (arith, nat_tests) in
        places-ordered test xs p q order (both (nat_lt p (len test xs)) (nat_lt q (len test xs)) k).1 d
    by (negsuc p) (negsuc q) e k = (refl, tt)
    by (pos p) (negsuc q) e k = (cc)
    by (negsuc p) (pos q) e k = (cc)

pub interval-ordered : (test : ListElement → Bool) (xs : List ListElement) (op : TextOp) → IsWellFormedText op → given_ends_fit (len test xs) (ends_of op) ≡ true
    → are_distinct_elements xs ≡ true
    → (are_ends_in xs (elements_at_given_ends test xs (ends_of op)).first (elements_at_given_ends test xs (ends_of op)).second ≡ true)
    × AreInOrder xs (elements_at_given_ends test xs (ends_of op)).first (elements_at_given_ends test xs (ends_of op)).second
interval-ordered test xs (One op) f g d = (refl, tt)
interval-ordered test xs (Group ops) f g d = (refl, tt)
interval-ordered test xs (IntervalAdd label name ends props) f g d = ends-ordered test xs ends f.0 g d
interval-ordered test xs (IntervalChange label name None props) f g d = (refl, tt)
interval-ordered test xs (IntervalChange label name (Some ends) props) f g d = ends-ordered test xs ends f.0 g d
interval-ordered test xs (IntervalDelete label name) f g d = (refl, tt)

unless-ok : (fault : Option EditFault) (r : EditResult) (taken : Document × NamedElements) → unless_fault fault r ≡ Ok taken → r ≡ Ok taken
unless-ok None r taken h = h
unless-ok (Some fault) r taken h = (cc)

local-interval-taken : (doc : Document) (stages : List Stage) (k : ℕ) (op : TextOp) (taken : Document × NamedElements) → local_interval doc stages k op
    ≡ Ok taken → IsOneTaken doc (OnIntervals op) taken
local-interval-taken doc stages k op taken h =
    let test = seen (k - 1) in
    let n = len (seen (k - 1)) doc.text.items in
    let names = elements_at_given_ends (seen (k - 1)) doc.text.items (ends_of op) in
    let answer : EditResult = cond (given_ends_fit n (ends_of op)) (Ok (doc, names)) (Err (OutOfRange n)) in
    let c = ok-choice (given_ends_fit n (ends_of op)) (doc, names) taken (OutOfRange n)
    (unless-ok (id_fault (shown_intervals doc.text.items doc.intervals stages) op) answer taken h) in
    subst (IsOneTaken doc (OnIntervals op)) c.1 (record {
      carries = carries-itself doc.text.items;
      there = λ f d. (interval-ordered (seen (k - 1)) doc.text.items op f c.0 d).0;
      order = λ f d. (interval-ordered (seen (k - 1)) doc.text.items op f c.0 d).1;
    })

one-taken : (doc : Document) (stages : List Stage) (k : ℕ) (o : SubOperation) (taken : Document × NamedElements) → local_sub_operation doc stages k o
    ≡ Ok taken → IsOneTaken doc o taken
one-taken doc stages k (OnText op) taken h = local-text-taken doc k op taken h
one-taken doc stages k (OnIntervals op) taken h = local-interval-taken doc stages k op taken h
one-taken doc stages k (OnGrid op) taken h = local-grid-taken doc k op taken h

-- what all of them make
pub record AreTaken (doc : Document) (taken : Document × List Stage) : Type 0 where
  pub carries : Carries (λ a. a) doc.text.items taken.0.text.items
  pub formed : are_distinct_elements taken.0.text.items ≡ true → Each (IsFormedStage taken.0.text.items) taken.1

rest-taken : (doc : Document) (here : Stage) (one : Document × NamedElements) (r : Result (Document × List Stage) EditFault) (taken : Document × List Stage)
    → IsFormedSub here.sub_operation → here.names ≡ one.1 → IsOneTaken doc here.sub_operation one
    → ((rest : Document × List Stage) → r ≡ Ok rest → AreTaken one.0 rest) → with_first here r ≡ Ok taken → AreTaken doc taken
rest-taken doc here one (Err fault) taken f n o g h = (cc)
rest-taken doc here one (Ok rest) taken f n o g h =
    let same : (rest.0, here ∷ rest.1) ≡ taken = (cc) in
    let later = g rest refl in
    let c = carries-then (λ a. a) (λ a. a) doc.text.items one.0.text.items rest.0.text.items o.carries later.carries in
    subst (AreTaken doc) same (record {
      carries = c;
      formed = λ d.
          let first = distinct-carried (λ a. a) one.0.text.items rest.0.text.items later.carries d in (
            stage-moved one.0.text.items rest.0.text.items later.carries d here (record {
              sub = f;
              there = subst (AreThereFor one.0.text.items here.sub_operation) (sym n) (o.there f first);
              order = subst (AreOrderedFor one.0.text.items here.sub_operation) (sym n) (o.order f first);
            }),
            later.formed d,
          );
    })

all-taken : (os : List SubOperation) (doc : Document) (stages : List Stage) (k : ℕ) (taken : Document × List Stage) → Each IsFormedSub os
    → local_sub_operations doc stages k os ≡ Ok taken → AreTaken doc taken
all-taken [] doc stages k taken f h =
    let bare : List Stage = [] in
    let same : (doc, bare) ≡ taken = (cc) in
    subst (AreTaken doc) same (record { carries = carries-itself doc.text.items; formed = λ d. tt })
all-taken (o ∷ os) doc stages k taken f h =
    first (λ d ss rest g. all-taken os d ss (k + 1) rest f.1 g) (local_sub_operation doc stages k o) refl h
  where
    first : ((d : Document) (ss : List Stage) (rest : Document × List Stage) → local_sub_operations d ss (k + 1) os ≡ Ok rest → AreTaken d rest)
        → (r : EditResult) → local_sub_operation doc stages k o ≡ r
        → after_first stages k o os r ≡ Ok taken → AreTaken doc taken
    first ih (Err fault) e g = (cc)
    first ih (Ok one) e g =
        let here : Stage = record { stage = k; sub_operation = o; names = one.1 } in
        rest-taken doc here one (local_sub_operations one.0 (stages ++ (here ∷ [])) (k + 1) os) taken f.0 refl (one-taken doc stages k o one e)
        (λ rest q. ih one.0 (stages ++ (here ∷ [])) rest q) g

-- the sub-operations of a well-formed operation
texts-formed : (ops : List BaseOp) → AllByRecursion IsWellFormedBase ops → Each IsFormedSub (map (λ op. OnText op) ops)
texts-formed [] h = tt
texts-formed (op ∷ ops) h = (h.0, texts-formed ops h.1)

cells-formed : (ops : List CellOp) → AllByRecursion IsWellFormedCell ops → Each IsFormedSub (map (λ op. OnGrid op) ops)
cells-formed [] h = tt
cells-formed (op ∷ ops) h = (h.0, cells-formed ops h.1)

pub subs-formed : (op : ChannelOp) → IsWellFormed op → Each IsFormedSub (sub_operations op)
subs-formed (Text (One op)) h = (h, tt)
subs-formed (Text (Group ops)) h = texts-formed ops h
subs-formed (Text (IntervalAdd label name ends props)) h = (h, tt)
subs-formed (Text (IntervalChange label name ends props)) h = (h, tt)
subs-formed (Text (IntervalDelete label name)) h = (h, tt)
subs-formed (Grid (grid.One op)) h = (h, tt)
subs-formed (Grid (grid.Group ops)) h = cells-formed ops h

-- ---- an acknowledgement

-- whether the insertion is sequenced, or of a stage that inserts into the text
abbrev pub is_marked : List Stage → ListElement → Bool
is_marked all e = has_insertion_of inserts_text all e.ins

-- a stage that doesn't insert into the text is no stage that does
abbrev pub IsOfItsKind : List Stage → Stage → Type 0
IsOfItsKind all t = inserts_text t.sub_operation ≡ false → is_stage_of inserts_text all t.stage ≡ false

named-stamp : (k n s c i : ℕ) (t : Stamp) → id_of_stamp (acked_stamp k s c t) (cond (is_of_stage k t) (n + i) i) ≡ acked_id k n (id_of_stamp t i)
named-stamp k n s c i (Acked r d) = refl
named-stamp k n s c i (Local j) = by (nat_eq j k)
  where
    by : (b : Bool) → id_of_stamp (cond b (Acked s c) (Local j)) (cond b (n + i) i) ≡ cond b (SequencedId (n + i)) (PendingId j i)
    by true = refl
    by false = refl

other-stamp : (k m n s c i : ℕ) (t : Stamp) → is_of_stage k t ≡ false → id_of_stamp (acked_stamp k s c t) (cond (is_of_stage k t) (m + i) i) ≡ acked_id k n (id_of_stamp t i)
other-stamp k m n s c i (Acked r d) h = refl
other-stamp k m n s c i (Local j) h = rw h refl

not-of-stage : (all : List Stage) (k : ℕ) (t : Stamp) → has_insertion_of inserts_text all t ≡ true → is_stage_of inserts_text all k ≡ false → is_of_stage k t ≡ false
not-of-stage all k (Acked r d) h g = refl
not-of-stage all k (Local j) h g = by (nat_eq j k) refl
  where
    same : nat_eq j k ≡ true → j ≡ k
    same e = grind (arith, nat_tests)

    by : (b : Bool) → nat_eq j k ≡ b → b ≡ false
    by false e = refl
    by true e = sym h ∙ (ap (is_stage_of inserts_text all) (same e) ∙ g)

acked-mark : (all : List Stage) (k s c : ℕ) (t : Stamp) → has_insertion_of inserts_text all t ≡ true → has_insertion_of inserts_text all (acked_stamp k s c t) ≡ true
acked-mark all k s c t h = by (is_of_stage k t)
  where
    by : (b : Bool) → has_insertion_of inserts_text all (cond b (Acked s c) t) ≡ true
    by true = refl
    by false = h

acked-marks : (all : List Stage) (k m s c : ℕ) (xs : List ListElement) → list_all (is_marked all) xs ≡ true → list_all (is_marked all) (map (acked_element k m s c) xs) ≡ true
acked-marks all k m s c [] h = refl
acked-marks all k m s c (x ∷ xs) h =
    let p = both (is_marked all x) (list_all (is_marked all) xs) h in
    rw (acked-mark all k s c x.ins p.0, acked-marks all k m s c xs p.1) refl

stage-acked : (all : List Stage) (t : Stage) (o : SubOperation) (s c : ℕ) (doc : Document) → t.sub_operation ≡ o → IsOfItsKind all t
    → list_all (is_marked all) doc.text.items ≡ true
    → Carries (acked_id t.stage (made_before doc o)) doc.text.items (map (acked_element t.stage doc.text.made s c) doc.text.items)
stage-acked all t (OnText op) s c doc e k h = carries-map (acked_id t.stage doc.text.made) (acked_element t.stage doc.text.made s c) (is_marked all)
    (λ x g. named-stamp t.stage doc.text.made s c x.nth x.ins) doc.text.items h
stage-acked all t (OnIntervals op) s c doc e k h =
    carries-map (acked_id t.stage (made_before doc (OnIntervals op))) (acked_element t.stage doc.text.made s c) (is_marked all)
    (λ x g. other-stamp t.stage doc.text.made (made_before doc (OnIntervals op)) s c x.nth x.ins (not-of-stage all t.stage x.ins g (k (ap inserts_text e)))) doc.text.items h
stage-acked all t (OnGrid op) s c doc e k h =
    carries-map (acked_id t.stage (made_before doc (OnGrid op))) (acked_element t.stage doc.text.made s c) (is_marked all)
    (λ x g. other-stamp t.stage doc.text.made (made_before doc (OnGrid op)) s c x.nth x.ins (not-of-stage all t.stage x.ins g (k (ap inserts_text e)))) doc.text.items h

acks-carry : (all : List Stage) (s c : ℕ) (ts : List Stage) (rename : ElementId → ElementId) (xs : List ListElement) (doc : Document)
    → Each (IsOfItsKind all) ts → list_all (is_marked all) doc.text.items ≡ true → Carries rename xs doc.text.items
    → Carries (ack_stages s c rename ts doc).1 xs (ack_stages s c rename ts doc).0.text.items
acks-carry all s c [] rename xs doc k h r = r
acks-carry all s c (t ∷ ts) rename xs doc k h r =
    acks-carry all s c ts (λ x. acked_id t.stage (made_before doc t.sub_operation) (rename x)) xs (ack_stage s c rename t doc) k.1
    (acked-marks all t.stage doc.text.made s c doc.text.items h)
    (carries-then rename (acked_id t.stage (made_before doc t.sub_operation)) xs doc.text.items (map (acked_element t.stage doc.text.made s c) doc.text.items)
    r (stage-acked all t t.sub_operation s c doc refl k.0 h))

-- stages that rise are of their own kinds
absent : (kind : SubOperation → Bool) (i j m : ℕ) (ts : List Stage) → StagesRiseTo j ts m → i ≤ j → is_stage_of kind ts i ≡ false
absent kind i j m [] h l = refl
absent kind i j m (t ∷ ts) h l = rw (other (h.0), absent kind i t.stage m ts h.1 (let a = h.0 in omega (arith, a, l))) refl
  where
    other : j < t.stage → nat_eq t.stage i ≡ false
    other a = grind (arith, nat_tests)

kinds-rise : (before ts : List Stage) (j m : ℕ) → StagesRiseTo j ts m → ((i : ℕ) → j < i → is_stage_of inserts_text before i ≡ false) → (all : List Stage)
    → ((i : ℕ) → is_stage_of inserts_text all i ≡ is_stage_of inserts_text before i || is_stage_of inserts_text ts i) → Each (IsOfItsKind all) ts
kinds-rise before [] j m h b all same = tt
kinds-rise before (t ∷ ts) j m h b all same = (here, kinds-rise (before ++ (t ∷ [])) ts t.stage m h.1 next all again)
  where
    any-more : (xs : List Stage) (i : ℕ) → is_stage_of inserts_text (xs ++ (t ∷ [])) i ≡ is_stage_of inserts_text xs i || (nat_eq t.stage i && inserts_text t.sub_operation)
    any-more [] i = last (nat_eq t.stage i && inserts_text t.sub_operation)
      where
        last : (b : Bool) → b || false ≡ b
        last true = refl
        last false = refl
    any-more (x ∷ xs) i = ap (λ b. (nat_eq x.stage i && inserts_text x.sub_operation) || b) (any-more xs i)
        ∙ joined (nat_eq x.stage i && inserts_text x.sub_operation) (is_stage_of inserts_text xs i) (nat_eq t.stage i && inserts_text t.sub_operation)
      where
        joined : (a b c : Bool) → a || (b || c) ≡ (a || b) || c
        joined true b c = refl
        joined false b c = refl

    moved : (a b c : Bool) → a || (b || c) ≡ (a || b) || c
    moved true b c = refl
    moved false b c = refl

    again : (i : ℕ) → is_stage_of inserts_text all i ≡ is_stage_of inserts_text (before ++ (t ∷ [])) i || is_stage_of inserts_text ts i
    again i =
        same i ∙ (moved (is_stage_of inserts_text before i) (nat_eq t.stage i && inserts_text t.sub_operation) (is_stage_of inserts_text ts i)
        ∙ ap (λ b. b || is_stage_of inserts_text ts i) (sym (any-more before i)))

    apart : (i : ℕ) → t.stage < i → nat_eq t.stage i ≡ false
    apart i l = grind (arith, nat_tests)

    next : (i : ℕ) → t.stage < i → is_stage_of inserts_text (before ++ (t ∷ [])) i ≡ false
    next i l = any-more before i ∙ rw (b i (let a = h.0 in omega (arith, a, l)), apart i l) refl

    nothing : (a c : Bool) → c ≡ false → a && c ≡ false
    nothing true c e = e
    nothing false c e = refl

    here : IsOfItsKind all t
    here e = same t.stage ∙ rw (b t.stage h.0, nothing (nat_eq t.stage t.stage) (inserts_text t.sub_operation) e, absent inserts_text t.stage t.stage m ts h.1 (omega arith)) refl

pub stages-kinds : (ts : List Stage) (m : ℕ) → StagesRiseTo 0 ts m → Each (IsOfItsKind ts) ts
stages-kinds ts m h = kinds-rise [] ts 0 m h (λ i l. refl) ts (λ i. refl)

-- ---- pieces

rank-size : (is test : ListElement → Bool) (xs : List ListElement) → rank is test xs ≤ size xs
rank-size is test [] = omega arith
rank-size is test (e ∷ xs) = by (is e) (test e) (rank-size is test xs)
  where
    by : (a b : Bool) → rank is test xs ≤ size xs → cond a 0 (one_more_if b (rank is test xs)) ≤ suc (size xs)
    by true b h = omega arith
    by false true h = omega (arith, h)
    by false false h = omega (arith, h)

-- places in order, up to n
abbrev pub IsRunWithin : ℕ → ℕ × ℕ → Type 0
IsRunWithin n r = (r.0 ≤ r.1) × (r.1 ≤ n)

extended-within : (i n : ℕ) (runs : List (ℕ × ℕ)) → i + 1 ≤ n → Each (IsRunWithin n) runs → Each (IsRunWithin n) (extended_runs i runs)
extended-within i n [] l h = ((omega arith, l), tt)
extended-within i n ((a, b) ∷ runs) l h = by (nat_eq a (i + 1)) refl
  where
    next : nat_eq a (i + 1) ≡ true → a ≡ i + 1
    next e = grind (arith, nat_tests)

    by : (t : Bool) → nat_eq a (i + 1) ≡ t → Each (IsRunWithin n) (cond t ((i, b) ∷ runs) ((i, i + 1) ∷ (a, b) ∷ runs))
    by true e = let s = next e in let o = h.0.0 in ((omega (arith, s, o), h.0.1), h.1)
    by false e = ((omega arith, l), h)

runs-within : (i : ℕ) (test mark : ListElement → Bool) (xs : List ListElement) (n : ℕ) → i + size xs ≤ n → Each (IsRunWithin n) (marked_runs_from i test mark xs)
runs-within i test mark [] n l = tt
runs-within i test mark (e ∷ xs) n l = by (test e) (mark e) (λ j k. runs-within j test mark xs n k)
  where
    by : (a b : Bool) → ((j : ℕ) → j + size xs ≤ n → Each (IsRunWithin n) (marked_runs_from j test mark xs))
        → Each (IsRunWithin n) (cond (a && b) (extended_runs i (marked_runs_from (one_more_if a i) test mark xs)) (marked_runs_from (one_more_if a i) test mark xs))
    by true true ih = extended-within i n (marked_runs_from (suc i) test mark xs) (omega (arith, l)) (ih (suc i) (omega (arith, l)))
    by true false ih = ih (suc i) (omega (arith, l))
    by false b ih = ih i (omega (arith, l))

lowered-within : (d n : ℕ) (runs : List (ℕ × ℕ)) → Each (IsRunWithin n) runs → Each (IsRunWithin n) (lowered_runs d runs)
lowered-within d n [] h = tt
lowered-within d n ((a, b) ∷ runs) h = let o = h.0.0 in let l = h.0.1 in ((omega (arith, o), omega (arith, l)), lowered-within (d + (b - a)) n runs h.1)

small-count : (q n : ℕ) → q ≤ n → n < 2 ^ 53 → IsTrue (is_count q)
small-count q n l s = lt-ltb q (2 ^ 53) (omega arith)

small-range : (p q n : ℕ) → p ≤ q → q ≤ n → n < 2 ^ 53 → IsTrue (is_range p q)
small-range p q n o l s = rw (low o, small-count q n l s) refl
  where
    low : p ≤ q → nat_le p q ≡ true
    low k = grind (arith, nat_tests)

runs-formed : (n : ℕ) (f : ℕ × ℕ → SubOperation) → ((r : ℕ × ℕ) → IsRunWithin n r → IsFormedSub (f r)) → (runs : List (ℕ × ℕ)) → Each (IsRunWithin n) runs
    → Each IsFormedSub (map f runs)
runs-formed n f k [] h = tt
runs-formed n f k (r ∷ runs) h = (k r h.0, runs-formed n f k runs h.1)

no-place : (b : Bool) → b && false ≡ true → false ≡ true
no-place true h = h
no-place false h = h

-- the ends of an interval operation that settled
settled-ends : (k n : ℕ) (xs : List ListElement) (names : NamedElements) → are_distinct_elements xs ≡ true → size xs ≤ n → n < 2 ^ 53
    → are_ends_in xs names.first names.second ≡ true → AreInOrder xs names.first names.second
    → IsWellFormedEnds (ends_in k xs (settle_elements xs k names))
settled-ends k n xs names d l s t o = by (settle xs k names.first) (settle xs k names.second) (ends-fit k xs d names.first names.second t) (settled names.first names.second t o)
  where
    settled : (a b : Option ElementId) → are_ends_in xs a b ≡ true → AreInOrder xs a b → AreInOrder xs (settle xs k a) (settle xs k b)
    settled (Some a) (Some b) g h = let p = both (list_any (has_id a) xs) (list_any (has_id b) xs) g in leads-settled k a b xs d p.0 p.1 h
    settled None None g h = tt
    settled None (Some b) g h = (cc)
    settled (Some a) None g h = (cc)

    by : (u v : Option ElementId) → ends_fit (len (seen k) xs) (record { start = end_number k xs u; end = end_number k xs v }) ≡ true → AreInOrder xs u v
        → are_ends (end_number k xs u) (end_number k xs v) ≡ true
    by None None f h = refl
    by (Some a) (Some b) f h = small-range (rank (has_id a) (seen k) xs) (rank (has_id b) (seen k) xs) n (rank-leads (seen k) a b xs h)
        (let r = rank-size (has_id b) (seen k) xs in omega (arith, r, l)) s
    by None (Some b) f h = (cc)
    by (Some a) None f h = let wrong : false ≡ true = no-place (nat_lt (rank (has_id a) (seen k) xs) (len (seen k) xs)) f in (cc)

interval-formed : (k : ℕ) (xs : List ListElement) (names : NamedElements) (op : TextOp) → IsWellFormedText op → IsWellFormedEnds (ends_in k xs names)
    → IsWellFormedText (interval_piece k xs names op)
interval-formed k xs names (One op) f e = f
interval-formed k xs names (Group ops) f e = f
interval-formed k xs names (IntervalAdd label name ends props) f e = (e, f.1)
interval-formed k xs names (IntervalChange label name None props) f e = f
interval-formed k xs names (IntervalChange label name (Some ends) props) f e = (e, f.1)
interval-formed k xs names (IntervalDelete label name) f e = f

module _ (n : ℕ) (small : n < 2 ^ 53) (doc : Document) (text : size doc.text.items ≤ n) (rows : size doc.rows.items ≤ n) (cols : size doc.cols.items ≤ n)
    (distinct : are_distinct_elements doc.text.items ≡ true) where
  place-formed : (k : ℕ) (xs : List ListElement) → size xs ≤ n → IsTrue (is_count (stage_position k xs))
  place-formed k xs l = small-count (stage_position k xs) n (let r = rank-size (is_inserted_by k) (seen (k - 1)) xs in omega (arith, r, l)) small

  named-formed : (k : ℕ) (xs : List ListElement) (o : Option ElementId) → size xs ≤ n → IsTrue (is_count (position_of_named k xs o))
  named-formed k xs None l = refl
  named-formed k xs (Some a) l = small-count (position_of_named k xs (Some a)) n (let r = rank-size (has_id a) (seen k) xs in omega (arith, r, l)) small

  unless-formed : {A : Type 0} (ys : List A) (o : SubOperation) → IsFormedSub o → Each IsFormedSub (unless_empty ys o)
  unless-formed [] o h = tt
  unless-formed (y ∷ ys) o h = (h, tt)

  cond-formed : (b : Bool) (ps qs : List SubOperation) → Each IsFormedSub ps → Each IsFormedSub qs → Each IsFormedSub (cond b ps qs)
  cond-formed true ps qs h g = h
  cond-formed false ps qs h g = g

  text-formed : (k : ℕ) (op : BaseOp) → IsWellFormedBase op → Each IsFormedSub (text_pieces k doc.text.items op)
  text-formed k (Insert p seg props) h = unless-formed (segment_contents seg) (OnText (Insert (stage_position k doc.text.items) seg props))
      (place-formed k doc.text.items text, h.1, h.2)
  text-formed k (Remove p q) h =
      runs-formed n (λ r. OnText (Remove r.0 r.1)) (λ r w. small-range r.0 r.1 n w.0 w.1 small) (lowered_runs 0 (marked_runs k (is_removed_by k) doc.text.items))
      (lowered-within 0 n (marked_runs k (is_removed_by k) doc.text.items) (runs-within 0 (seen (k - 1)) (is_removed_by k) doc.text.items n (omega arith)))
  text-formed k (Annotate p q changes) h =
      runs-formed n (λ r. OnText (Annotate r.0 r.1 changes)) (λ r w. (small-range r.0 r.1 n w.0 w.1 small, h.1, h.2)) (marked_runs k (is_annotated_by k) doc.text.items)
      (runs-within 0 (seen (k - 1)) (is_annotated_by k) doc.text.items n (omega arith))

  removed-formed : (k : ℕ) (target : Target) (xs : List ListElement) → size xs ≤ n
      → Each IsFormedSub (map (λ r. OnGrid (SpliceOut target r.0 r.1)) (lowered_runs 0 (marked_runs k (is_removed_by k) xs)))
  removed-formed k target xs l =
      runs-formed n (λ r. OnGrid (SpliceOut target r.0 r.1)) (λ r w. small-range r.0 r.1 n w.0 w.1 small) (lowered_runs 0 (marked_runs k (is_removed_by k) xs))
      (lowered-within 0 n (marked_runs k (is_removed_by k) xs) (runs-within 0 (seen (k - 1)) (is_removed_by k) xs n (omega arith)))

  grid-formed : (k : ℕ) (names : NamedElements) (op : CellOp) → IsWellFormedCell op → Each IsFormedSub (grid_pieces k doc names op)
  grid-formed k names (SpliceIn Rows p count) h = cond-formed (nat_eq count 0) [] _ tt ((place-formed k doc.rows.items rows, h.1), tt)
  grid-formed k names (SpliceIn Cols p count) h = cond-formed (nat_eq count 0) [] _ tt ((place-formed k doc.cols.items cols, h.1), tt)
  grid-formed k names (SpliceOut Rows p q) h = removed-formed k Rows doc.rows.items rows
  grid-formed k names (SpliceOut Cols p q) h = removed-formed k Cols doc.cols.items cols
  grid-formed k names (Set i j value) h =
      cond-formed (is_named_and_seen k doc.rows.items names.first && is_named_and_seen k doc.cols.items names.second) _ []
      ((named-formed (k - 1) doc.rows.items names.first rows, named-formed (k - 1) doc.cols.items names.second cols, h.2), tt) tt

  -- the pieces of a stage are well formed
  pieces-formed : (t : Stage) → IsFormedStage doc.text.items t → Each IsFormedSub (pieces doc t)
  pieces-formed t h = by t.sub_operation h.sub h.there h.order
    where
      by : (o : SubOperation) → IsFormedSub o → AreThereFor doc.text.items o t.names → AreOrderedFor doc.text.items o t.names
          → Each IsFormedSub (pieces doc (record t { sub_operation = o }))
      by (OnText op) f a b = text-formed t.stage op f
      by (OnIntervals op) f a b = (
        interval-formed t.stage doc.text.items (settle_elements doc.text.items t.stage t.names) op f
            (settled-ends t.stage n doc.text.items t.names distinct text small a b),
        tt,
      )
      by (OnGrid op) f a b = grid-formed t.stage t.names op f

  all-pieces : (ts : List Stage) → Each (IsFormedStage doc.text.items) ts → Each IsFormedSub (flat_map (pieces doc) ts)
  all-pieces [] h = tt
  all-pieces (t ∷ ts) h = each-joined IsFormedSub (pieces doc t) (flat_map (pieces doc) ts) (pieces-formed t h.0) (all-pieces ts h.1)

-- the operation that well-formed pieces make
bases-formed : (ps : List SubOperation) → Each IsFormedSub ps → AllByRecursion IsWellFormedBase (flat_map base_op_of ps)
bases-formed [] h = tt
bases-formed (OnText op ∷ ps) h = (h.0, bases-formed ps h.1)
bases-formed (OnIntervals op ∷ ps) h = bases-formed ps h.1
bases-formed (OnGrid op ∷ ps) h = bases-formed ps h.1

cell-ops-formed : (ps : List SubOperation) → Each IsFormedSub ps → AllByRecursion IsWellFormedCell (flat_map cell_op_of ps)
cell-ops-formed [] h = tt
cell-ops-formed (OnText op ∷ ps) h = cell-ops-formed ps h.1
cell-ops-formed (OnIntervals op ∷ ps) h = cell-ops-formed ps h.1
cell-ops-formed (OnGrid op ∷ ps) h = (h.0, cell-ops-formed ps h.1)

op-formed : (ps : List SubOperation) (op : ChannelOp) → Each IsFormedSub ps → op_of ps ≡ Some op → IsWellFormed op
op-formed [] op h e = (cc)
op-formed (OnText o ∷ []) op h e = subst IsWellFormed (some-same (Text (One o)) op e) h.0
op-formed (OnText o ∷ p ∷ ps) op h e = subst IsWellFormed (some-same (Text (Group (o ∷ flat_map base_op_of (p ∷ ps)))) op e) (h.0, bases-formed (p ∷ ps) h.1)
op-formed (OnIntervals o ∷ ps) op h e = subst IsWellFormed (some-same (Text o) op e) h.0
op-formed (OnGrid o ∷ []) op h e = subst IsWellFormed (some-same (Grid (grid.One o)) op e) h.0
op-formed (OnGrid o ∷ p ∷ ps) op h e = subst IsWellFormed (some-same (Grid (grid.Group (o ∷ flat_map cell_op_of (p ∷ ps)))) op e) (h.0, cell-ops-formed (p ∷ ps) h.1)

-- ---- what goes on after a reconnection

named-any : (test : ListElement → Bool) (a : ElementId) (xs : List ListElement) → has_named test xs a ≡ true → list_any (has_id a) xs ≡ true
named-any test a [] h = (cc)
named-any test a (e ∷ xs) h = by (same_id a (id e)) h (named-any test a xs)
  where
    by : (b : Bool) → (b && test e) || has_named test xs a ≡ true → (has_named test xs a ≡ true → list_any (has_id a) xs ≡ true) → b || list_any (has_id a) xs ≡ true
    by true g ih = refl
    by false g ih = ih g

module _ (k : ℕ) (xs ys : List ListElement) (view : filter (seen k) ys ≡ filter (seen k) xs) (d : are_distinct_elements xs ≡ true) (f : are_distinct_elements ys ≡ true) where
  -- what is seen at the stage is seen in the other list too
  named-there : (a : ElementId) → has_named (seen k) xs a ≡ true → has_named (seen k) ys a ≡ true
  named-there a h = named-filter (seen k) a ys ∙ (ap (list_any (has_id a)) view ∙ (sym (named-filter (seen k) a xs) ∙ h))

  -- and in the same order
  order-there : (a b : ElementId) → has_named (seen k) xs a ≡ true → has_named (seen k) xs b ≡ true → leads a b xs ≡ true → leads a b ys ≡ true
  order-there a b g h l =
      sym (leads-filter (seen k) a b ys (only-named (seen k) ys f a (named-there a g)) (only-named (seen k) ys f b (named-there b h)))
      ∙ (ap (leads a b) view ∙ (leads-filter (seen k) a b xs (only-named (seen k) xs d a g) (only-named (seen k) xs d b h) ∙ l))

  pub settled-there : (names : NamedElements) → are_ends_in xs names.first names.second ≡ true → AreInOrder xs names.first names.second
      → (are_ends_in ys (settle xs k names.first) (settle xs k names.second) ≡ true) × AreInOrder ys (settle xs k names.first) (settle xs k names.second)
  settled-there names t o =
      by (settle xs k names.first) (settle xs k names.second) (settle-at k xs names.first) (settle-at k xs names.second)
      (ends-fit k xs d names.first names.second t) (settled names.first names.second t o)
    where
      settled : (a b : Option ElementId) → are_ends_in xs a b ≡ true → AreInOrder xs a b → AreInOrder xs (settle xs k a) (settle xs k b)
      settled (Some a) (Some b) g h = let p = both (list_any (has_id a) xs) (list_any (has_id b) xs) g in leads-settled k a b xs d p.0 p.1 h
      settled None None g h = tt
      settled None (Some b) g h = (cc)
      settled (Some a) None g h = (cc)

      by : (u v : Option ElementId) → is_end_at k xs u ≡ true → is_end_at k xs v ≡ true
          → ends_fit (len (seen k) xs) (record { start = end_number k xs u; end = end_number k xs v }) ≡ true → AreInOrder xs u v
          → (are_ends_in ys u v ≡ true) × AreInOrder ys u v
      by None None g h e o = (refl, tt)
      by (Some a) (Some b) g h e o = (rw (named-any (seen k) a ys (named-there a g), named-any (seen k) b ys (named-there b h)) refl, order-there a b g h o)
      by None (Some b) g h e o = (cc)
      by (Some a) None g h e o = let wrong : false ≡ true = no-place (nat_lt (rank (has_id a) (seen k) xs) (len (seen k) xs)) e in absurd (true-false (sym wrong))

-- a stage that goes on is well formed in the rebuilt text
stage-goes : (doc : Document) (ys : List ListElement) (t : Stage) → filter (seen t.stage) ys ≡ filter (seen t.stage) doc.text.items
    → are_distinct_elements doc.text.items ≡ true → are_distinct_elements ys ≡ true → IsFormedStage doc.text.items t
    → Each (IsFormedStage ys) (carried_stage doc t)
stage-goes doc ys t view d f h = by t.sub_operation h.sub h.there h.order
  where
    kept : (o : SubOperation) → IsFormedSub o → AreThereFor ys o t.names → AreOrderedFor ys o t.names → (ps : List SubOperation)
        → Each (IsFormedStage ys) (elim ps [ [] ↦ [] | _ ∷ _ ↦ record t { sub_operation = o } ∷ [] ])
    kept o s a b [] = tt
    kept o s a b (p ∷ ps) = (record { sub = s; there = a; order = b }, tt)

    by : (o : SubOperation) → IsFormedSub o → AreThereFor doc.text.items o t.names → AreOrderedFor doc.text.items o t.names
        → Each (IsFormedStage ys) (carried_stage doc (record t { sub_operation = o }))
    by (OnText op) s a b = kept (OnText op) s tt tt (pieces doc (record t { sub_operation = OnText op }))
    by (OnIntervals op) s a b = let r = settled-there t.stage doc.text.items ys view d f t.names a b in (record { sub = s; there = r.0; order = r.1 }, tt)
    by (OnGrid op) s a b = kept (OnGrid op) s tt tt (pieces doc (record t { sub_operation = OnGrid op }))

-- the stages' numbers are up to m
abbrev pub StagesAreUpTo : ℕ → List Stage → Type 0
StagesAreUpTo m ts = Each (λ (t : Stage). t.stage ≤ m) ts

stages-go : (m : ℕ) (doc : Document) (ys : List ListElement) → ((k : ℕ) → k ≤ m → filter (seen k) ys ≡ filter (seen k) doc.text.items)
    → are_distinct_elements doc.text.items ≡ true → are_distinct_elements ys ≡ true → (ts : List Stage) → StagesAreUpTo m ts
    → Each (IsFormedStage doc.text.items) ts → Each (IsFormedStage ys) (flat_map (carried_stage doc) ts)
stages-go m doc ys view d f [] u h = tt
stages-go m doc ys view d f (t ∷ ts) u h =
    each-joined (IsFormedStage ys) (carried_stage doc t) (flat_map (carried_stage doc) ts) (stage-goes doc ys t (view t.stage u.0) d f h.0) (stages-go m doc ys view d f ts u.1 h.1)

module _ (n m : ℕ) (small : n < 2 ^ 53) (doc : Document) (ys : List ListElement) (text : size doc.text.items ≤ n) (rows : size doc.rows.items ≤ n) (cols : size doc.cols.items ≤ n)
    (view : (k : ℕ) → k ≤ m → filter (seen k) ys ≡ filter (seen k) doc.text.items) (d : are_distinct_elements doc.text.items ≡ true) (f : are_distinct_elements ys ≡ true) where
  -- so are the edits that are sent again
  pub edits-again : (conn i : ℕ) (es : List PendingEdit) → Each (λ (e : PendingEdit). StagesAreUpTo m e.stages) es → Each (IsFormedEdit doc.text.items) es
      → Each (IsFormedEdit ys) (resubmitted_edits doc conn i es)
  edits-again conn i [] u h = tt
  edits-again conn i (e ∷ es) u h = by (regenerated_edit doc e) refl (edits-again conn i es u.1 h.1) (edits-again conn (i + 1) es u.1 h.1)
    where
      again : Option ChannelOp → List PendingEdit
      again None = resubmitted_edits doc conn i es
      again (Some op) = resubmitted_edit doc conn i e op ∷ resubmitted_edits doc conn (i + 1) es

      by : (o : Option ChannelOp) → regenerated_edit doc e ≡ o → Each (IsFormedEdit ys) (resubmitted_edits doc conn i es)
          → Each (IsFormedEdit ys) (resubmitted_edits doc conn (i + 1) es) → Each (IsFormedEdit ys) (again o)
      by None g same more = same
      by (Some op) g same more = (
        record {
          stages = stages-go m doc ys view d f e.stages u.0 h.0.stages;
          sent = op-formed (flat_map (pieces doc) e.stages) op (all-pieces n small doc text rows cols d e.stages h.0.stages) g;
        },
        more,
      )

-- ---- the steps of a client

rises-up : (j m : ℕ) (ts : List Stage) → StagesRiseTo j ts m → j ≤ m
rises-up j m [] h = h
rises-up j m (t ∷ ts) h = let a = h.0 in let b = rises-up t.stage m ts h.1 in omega (arith, a, b)

stages-up : (j m : ℕ) (ts : List Stage) → StagesRiseTo j ts m → StagesAreUpTo m ts
stages-up j m [] h = tt
stages-up j m (t ∷ ts) h = (rises-up t.stage m ts h.1, stages-up t.stage m ts h.1)

each-front : {A : Type 0} (P : A → Type 0) (xs ys : List A) → Each P (xs ++ ys) → Each P xs × Each P ys
each-front P [] ys h = (tt, h)
each-front P (x ∷ xs) ys h = let r = each-front P xs ys h.1 in ((h.0, r.0), r.1)

each-flat : (P : Stage → Type 0) (es : List PendingEdit) → Each P (flat_map (λ (e : PendingEdit). e.stages) es) → Each (λ (e : PendingEdit). Each P e.stages) es
each-flat P [] h = tt
each-flat P (e ∷ es) h = let r = each-front P e.stages (flat_map (λ (e : PendingEdit). e.stages) es) h in (r.0, each-flat P es r.1)

-- an accepted edit
pub edit-formed : (x y : NaiveClient) (op : ChannelOp) → IsReady y → IsWellFormed op → local_edit x op ≡ Ok y → IsFormed x → IsFormed y
edit-formed x y op ready f h v = by (local_sub_operations x.doc (stages_of x) (x.last_stage + 1) (sub_operations op)) refl h
  where
    sent : (link : Link) (n : ℕ) → IsFormedSent (sent_as link n op)
    sent Offline n = tt
    sent (Joining conn) n = tt
    sent (Online conn) n = f

    parts : (o : Option SentAs) (r : ℕ) (z : NaiveClient) → ((with_draft o r z).doc ≡ z.doc) × ((with_draft o r z).pending ≡ z.pending)
    parts None r z = (refl, refl)
    parts (Some s) r z = (refl, refl)

    by : (r : Result (Document × List Stage) EditFault) → local_sub_operations x.doc (stages_of x) (x.last_stage + 1) (sub_operations op) ≡ r → edited x op r ≡ Ok y → IsFormed y
    by (Err fault) e g = (cc)
    by (Ok taken) e g =
        let s : after_edit op taken.0 taken.1 x ≡ y = (cc) in
        let a = all-taken (sub_operations op) x.doc (stages_of x) (x.last_stage + 1) taken (subs-formed op f) e in
        let went = sent_as x.link x.next_client_seq op in
        let edit : PendingEdit = record { stages = taken.1; ref_seq = x.doc.number; sent = went } in
        let z : NaiveClient = record x { doc = taken.0; last_stage = x.last_stage + length taken.1; pending = x.pending ++ (edit ∷ []) } in
        let p = parts went x.doc.number z in
        let doc : y.doc ≡ taken.0 = ap (λ (w : NaiveClient). w.doc) (sym s) ∙ p.0 in
        let pending : y.pending ≡ x.pending ++ (edit ∷ []) = ap (λ (w : NaiveClient). w.pending) (sym s) ∙ p.1 in
        let d : are_distinct_elements taken.0.text.items ≡ true = ap (λ (w : Document). are_distinct_elements w.text.items) (sym doc) ∙ ready.text.place.distinct in
        subst (λ (w : Document). Each (IsFormedEdit w.text.items) y.pending) (sym doc)
        (subst (Each (IsFormedEdit taken.0.text.items)) (sym pending)
        (each-joined (IsFormedEdit taken.0.text.items) x.pending (edit ∷ []) (edits-moved x.doc.text.items taken.0.text.items a.carries d x.pending v)
        (record { stages = a.formed d; sent = sent x.link x.next_client_seq }, tt)))

-- a message of another
pub foreign-formed : (x : NaiveClient) (e : Entry) → IsReady (after_foreign_message x e) → IsFormed x → IsFormed (after_foreign_message x e)
foreign-formed x e ready v = edits-moved x.doc.text.items (take_entry x.doc e).text.items (foreign-carries x.doc e) ready.text.place.distinct x.pending v

marks-of-text : (all : List Stage) (xs : List ListElement) → list_all (has_marks_of inserts_text removes_text all) xs ≡ true → list_all (is_marked all) xs ≡ true
marks-of-text all [] h = refl
marks-of-text all (e ∷ xs) h =
    let p = both (has_marks_of inserts_text removes_text all e) (list_all (has_marks_of inserts_text removes_text all) xs) h in
    rw ((all_three (has_insertion_of inserts_text all e.ins) (has_removal_of removes_text all e.removal_stage) (list_all is_acked e.dels) p.0).0, marks-of-text all xs p.1) refl

-- its own message
pub own-formed : (x : NaiveClient) (e : Entry) → IsReady x → IsReady (after_own_message x e) → IsFormed x → IsFormed (after_own_message x e)
own-formed x e ready after v = by x.pending (each-flat (IsOfItsKind (stages_of x)) x.pending (stages-kinds (stages_of x) x.last_stage ready.stages)) after v
  where
    all : List Stage
    all = stages_of x

    by : (es : List PendingEdit) → Each (λ (e : PendingEdit). Each (IsOfItsKind (stages_of x)) e.stages) es
        → IsReady (after_own_message (record x { pending = es }) e) → Each (IsFormedEdit x.doc.text.items) es
        → IsFormed (after_own_message (record x { pending = es }) e)
    by [] k r h = tt
    by (edit ∷ es) k r h =
        let acked = ack_stages e.msg.seq e.origin (λ i. i) edit.stages x.doc in
        edits-renamed acked.1 x.doc.text.items acked.0.text.items
        (acks-carry (stages_of x) e.msg.seq e.origin edit.stages (λ i. i) x.doc.text.items x.doc k.0
        (marks-of-text (stages_of x) x.doc.text.items ready.text.place.marks) (carries-itself x.doc.text.items))
        r.text.place.distinct es h.1

-- its own join
pub join-formed : (n : ℕ) (x : NaiveClient) (e : Entry) → n < 2 ^ 53 → size x.doc.text.items ≤ n → size x.doc.rows.items ≤ n → size x.doc.cols.items ≤ n
    → IsReady x → IsReady (come_online x e)
    → ((k : ℕ) → k ≤ x.last_stage → filter (seen k) (come_online x e).doc.text.items ≡ filter (seen k) x.doc.text.items) → IsFormed x → IsFormed (come_online x e)
join-formed n x e small text rows cols ready after view v =
    edits-again n x.last_stage small (with_numbers e x.doc) (come_online x e).doc.text.items text rows cols view ready.text.place.distinct
    after.text.place.distinct e.origin 1 x.pending
    (each-flat (λ (t : Stage). t.stage ≤ x.last_stage) x.pending (stages-up 0 x.last_stage (stages_of x) ready.stages)) v
