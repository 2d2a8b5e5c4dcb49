-- The intervals of a client stand by rising label and id, as it keeps them and as it shows them.
use Rattle.std.proofs.Common.{◌≡◌, ℕ, Bool, true, false, cond, not, ◌&&◌, ◌||◌, List, [], ◌∷◌, Option, Some, None, refl, sym, ◌∙◌, ap, subst, map, bytes_eq, nat_le, replicate}
use Rattle.std.proofs.lemmas.Slice.Eq.{bytes_eq-Decides}
use Rattle.std.specs.Ordering.{is_lt, ordering_then}
use Rattle.std.specs.declared.cmp.Ordering.{Ordering}
use Rattle.std.specs.declared.cmp.Ordering.TheVariants.{Less, Equal, Greater}
use Rattle.ft_base.specs.Scan.{at, change_range, len}
use Rattle.ft_base.specs.declared.stamps.Stamp.TheVariants.{Acked}
use Rattle.ft_props.specs.Element.{ElementId, GridUnit, ListElement, seen_by, with_annotation}
use Rattle.ft_props.specs.Properties.{Characters, PropertySet, apply, put_rising, text_cmp}
use Rattle.ft_props.proofs.RisingKeys.{text_cmp-back, text_cmp-same}
use Rattle.ft_op.specs.declared.operations.BaseOp.{BaseOp}
use Rattle.ft_op.specs.declared.operations.BaseOp.TheVariants.{Insert, Remove, Annotate}
use Rattle.ft_op.specs.declared.operations.CellOp.{CellOp}
use Rattle.ft_op.specs.declared.operations.CellOp.TheVariants.{SpliceIn, SpliceOut, Set}
use Rattle.ft_op.specs.declared.operations.Ends.{Ends}
use Rattle.ft_op.specs.declared.operations.Target.{Target}
use Rattle.ft_op.specs.declared.operations.Target.TheVariants.{Rows, Cols}
use Rattle.ft_op.specs.declared.operations.TextOp.{TextOp}
use Rattle.ft_op.specs.declared.operations.TextOp.TheVariants.{Group, IntervalAdd, IntervalChange, IntervalDelete, One}
use Rattle.ft_op.specs.Document.{Document, cell_effect, effects, elements_at_given_ends, ends_of, given_ends_fit, grid_effect, interval_effect, rows_or_cols, text_effect, with_rows_or_cols, with_skip, with_slid_ends}
use Rattle.ft_op.specs.Intervals.{Interval, NamedElements, after_interval_operation, has_interval, interval_cmp, is_interval, settle_elements, settle_ends, settle_interval, slide_ends, slide_interval, with_ends}
use Rattle.ft_op.specs.Operation.{OnGrid, OnIntervals, OnText, SubOperation, segment_contents, sub_operations}
use Rattle.ft_op.specs.Stages.{Stage, intervals_after_stage, shown_intervals}
use Rattle.ft_sumdoc.specs.declared.summary.IntervalRec.{IntervalRec}
use Rattle.ft_sumdoc.specs.Forms.{is_before_first, rises}
use Rattle.ft_sumdoc.specs.Valid.{is_interval_before}
use Rattle.ft_msg.specs.declared.messages.Body.{Body}
use Rattle.ft_msg.specs.declared.messages.Body.TheVariants.{Nothing, Op, Elsewhere}
use Rattle.ft_msg.specs.declared.messages.Entry.{Entry}
use Rattle.ft_msg.specs.Acknowledgement.{ack_stage, ack_stages, after_own_message, made_before, renamed_names}
use Rattle.ft_props.specs.Steps.{acked_id, acked_list, after_insertion, after_removal}
use Rattle.ft_msg.specs.Agreed.{body_effect, reference_number, take_entries, take_entry}
use Rattle.ft_msg.specs.Client.{NaiveClient, PendingEdit, stages_of}
use Rattle.ft_msg.specs.ClientSteps.{taken_entries}
use Rattle.ft_msg.specs.Content.{interval_record, stage_view}
use Rattle.ft_msg.specs.Process.{after_entry, after_foreign_message, come_online, is_op, is_own, is_own_join}
use Rattle.ft_msg.specs.Reached.{IsReached, IsStart, from_nothing, from_summary}
use Rattle.ft_msg.specs.Summary.{interval_of}
use Rattle.ft_laws_agreement.proofs.ClientsAgree.{clients-agree-from}
use Rattle.ft_laws_agreement.proofs.SummaryStarts.{reached-run}
use Rattle.ft_changes.specs.Shown.{interval_order, shown_content}
use Rattle.ft_changes.proofs.Orders.{interval_cmp-is, interval_order-is}
use Rattle.ft_changes.proofs.Rising.{Rises, cells-rise, filter-rise, map-rise, put-rise}
use Rattle.ft_changes.proofs.ToldItems.{AreBehind, Rise, behind-further}

-- ---- operations

abbrev changed : Characters → Characters → Option Ends → NamedElements → PropertySet → Interval → Interval
changed label name ends at props i = cond (is_interval label name i) (let j = with_ends ends at i in record j { props = apply j.props props }) i

label-kept : (label name : Characters) (ends : Option Ends) (at : NamedElements) (props : PropertySet) (i : Interval) → (changed label name ends at props i).label ≡ i.label
label-kept label name ends at props i = by (is_interval label name i) ends
  where
    by : (b : Bool) (e : Option Ends) → (cond b (let j = with_ends e at i in record j { props = apply j.props props }) i).label ≡ i.label
    by true None = refl
    by true (Some e) = refl
    by false e = refl

name-kept : (label name : Characters) (ends : Option Ends) (at : NamedElements) (props : PropertySet) (i : Interval) → (changed label name ends at props i).id ≡ i.id
name-kept label name ends at props i = by (is_interval label name i) ends
  where
    by : (b : Bool) (e : Option Ends) → (cond b (let j = with_ends e at i in record j { props = apply j.props props }) i).id ≡ i.id
    by true None = refl
    by true (Some e) = refl
    by false e = refl

change-rise : (label name : Characters) (ends : Option Ends) (at : NamedElements) (props : PropertySet) (is : List Interval) → Rise interval_cmp is
    → Rise interval_cmp (map (λ i. cond (is_interval label name i) (let j = with_ends ends at i in record j { props = apply j.props props }) i) is)
change-rise label name ends at props is r = map-rise interval_cmp interval_cmp (changed label name ends at props) same is r
  where
    same : (a b : Interval) → interval_cmp (changed label name ends at props a) (changed label name ends at props b) ≡ interval_cmp a b
    same a b =
        let f = changed label name ends at props in
        ap (λ l. ordering_then (text_cmp l (f b).label) (text_cmp (f a).id (f b).id)) (label-kept label name ends at props a)
        ∙ ap (λ l. ordering_then (text_cmp a.label l) (text_cmp (f a).id (f b).id)) (label-kept label name ends at props b)
        ∙ ap (λ n. ordering_then (text_cmp a.label b.label) (text_cmp n (f b).id)) (name-kept label name ends at props a)
        ∙ ap (λ n. ordering_then (text_cmp a.label b.label) (text_cmp a.id n)) (name-kept label name ends at props b)

operation-rise : (op : TextOp) (at : NamedElements) (is : List Interval) → Rise interval_cmp is → Rise interval_cmp (after_interval_operation op at is)
operation-rise (One op) at is r = r
operation-rise (Group ops) at is r = r
operation-rise (IntervalAdd label name ends props) at is r = by (has_interval label name is)
  where
    new : Interval
    new = record { label = label; id = name; start = at.first; end = at.second; props = apply [] props }

    by : (b : Bool) → Rise interval_cmp (cond b is (put_rising interval_cmp (record { label = label; id = name; start = at.first; end = at.second; props = apply [] props }) is))
    by true = r
    by false = put-rise interval_cmp interval_cmp-is (record { label = label; id = name; start = at.first; end = at.second; props = apply [] props }) is r
operation-rise (IntervalChange label name ends props) at is r = change-rise label name ends at props is r
operation-rise (IntervalDelete label name) at is r = filter-rise interval_cmp (λ i. not (is_interval label name i)) is r

slide-rise : (xs : List ListElement) (is : List Interval) → Rise interval_cmp is → Rise interval_cmp (slide_ends xs is)
slide-rise xs is r = map-rise interval_cmp interval_cmp (slide_interval xs) (λ a b. refl) is r

settle-rise : (xs : List ListElement) (k : ℕ) (is : List Interval) → Rise interval_cmp is → Rise interval_cmp (settle_ends xs k is)
settle-rise xs k is r = map-rise interval_cmp interval_cmp (settle_interval xs k) (λ a b. refl) is r

stage-rise : (o : SubOperation) (at : NamedElements) (is : List Interval) → Rise interval_cmp is → Rise interval_cmp (intervals_after_stage o at is)
stage-rise (OnText op) at is r = r
stage-rise (OnIntervals op) at is r = operation-rise op at is r
stage-rise (OnGrid op) at is r = r

shown-rise : (xs : List ListElement) (stages : List Stage) (is : List Interval) → Rise interval_cmp is → Rise interval_cmp (shown_intervals xs is stages)
shown-rise xs [] is r = r
shown-rise xs (t ∷ stages) is r =
    shown-rise xs stages (intervals_after_stage t.sub_operation (settle_elements xs t.stage t.names) (settle_ends xs t.stage is))
    (stage-rise t.sub_operation (settle_elements xs t.stage t.names) (settle_ends xs t.stage is) (settle-rise xs t.stage is r))

-- ---- messages

text-rise : (doc : Document) (s c r : ℕ) (op : BaseOp) → Rise interval_cmp doc.intervals → Rise interval_cmp (text_effect doc s c r op).intervals
text-rise doc s c r (Insert p seg props) h = by (nat_le p (len (seen_by r c) doc.text.items))
  where
    by : (b : Bool) → Rise interval_cmp (cond b (record doc { text = after_insertion s c r p (Some (Acked s c)) (apply [] props) (segment_contents seg) doc.text }) (with_skip doc)).intervals
    by true = h
    by false = h
text-rise doc s c r (Remove p q) h = by (nat_le q (len (seen_by r c) doc.text.items))
  where
    by : (b : Bool) → Rise interval_cmp (cond b (with_slid_ends (record doc { text = after_removal s c r p q doc.text })) (with_skip doc)).intervals
    by true = slide-rise (after_removal s c r p q doc.text).items doc.intervals h
    by false = h
text-rise doc s c r (Annotate p q changes) h = by (nat_le q (len (seen_by r c) doc.text.items))
  where
    by : (b : Bool) → Rise interval_cmp (cond b (record doc { text = record { items = change_range (seen_by r c) p q (with_annotation changes) doc.text.items; made = doc.text.made } }) (with_skip doc)).intervals
    by true = h
    by false = h

interval-rise : (doc : Document) (c r : ℕ) (op : TextOp) → Rise interval_cmp doc.intervals → Rise interval_cmp (interval_effect doc c r op).intervals
interval-rise doc c r op h = by (given_ends_fit (len (seen_by r c) doc.text.items) (ends_of op))
  where
    is : List Interval
    is = after_interval_operation op (elements_at_given_ends (seen_by r c) doc.text.items (ends_of op)) doc.intervals

    by : (b : Bool) → Rise interval_cmp (cond b (with_slid_ends (record doc { intervals = is })) (with_skip doc)).intervals
    by true = slide-rise doc.text.items is (operation-rise op (elements_at_given_ends (seen_by r c) doc.text.items (ends_of op)) doc.intervals h)
    by false = h

grid-rise : (doc : Document) (s c r : ℕ) (op : CellOp) → Rise interval_cmp doc.intervals → Rise interval_cmp (grid_effect doc s c r op).intervals
grid-rise doc s c r (SpliceIn target p count) h = by (nat_le p (len (seen_by r c) (rows_or_cols target doc).items)) target
  where
    by : (b : Bool) (t : Target) → Rise interval_cmp (cond b (with_rows_or_cols t doc (after_insertion s c r p None [] (replicate count GridUnit) (rows_or_cols target doc))) (with_skip doc)).intervals
    by true Rows = h
    by true Cols = h
    by false t = h
grid-rise doc s c r (SpliceOut target p q) h = by (nat_le q (len (seen_by r c) (rows_or_cols target doc).items)) target
  where
    by : (b : Bool) (t : Target) → Rise interval_cmp (cond b (with_rows_or_cols t doc (after_removal s c r p q (rows_or_cols target doc))) (with_skip doc)).intervals
    by true Rows = h
    by true Cols = h
    by false t = h
grid-rise doc s c r (Set i j value) h = by (at (seen_by r c) i doc.rows.items) (at (seen_by r c) j doc.cols.items)
  where
    by : (row col : Option ListElement) → Rise interval_cmp (cell_effect doc row col value).intervals
    by (Some row) (Some col) = h
    by (Some row) None = h
    by None col = h

effects-rise : (s c r : ℕ) (os : List SubOperation) (doc : Document) → Rise interval_cmp doc.intervals → Rise interval_cmp (effects doc s c r os).intervals
effects-rise s c r [] doc h = h
effects-rise s c r (OnText op ∷ os) doc h = effects-rise s c r os (text_effect doc s c r op) (text-rise doc s c r op h)
effects-rise s c r (OnIntervals op ∷ os) doc h = effects-rise s c r os (interval_effect doc c r op) (interval-rise doc c r op h)
effects-rise s c r (OnGrid op ∷ os) doc h = effects-rise s c r os (grid_effect doc s c r op) (grid-rise doc s c r op h)

body-rise : (doc : Document) (s c r : ℕ) (body : Body) → Rise interval_cmp doc.intervals → Rise interval_cmp (body_effect doc s c r body).intervals
body-rise doc s c r Nothing h = h
body-rise doc s c r (Op op) h = effects-rise s c r (sub_operations op) doc h
body-rise doc s c r (Elsewhere address) h = h

entries-rise : (es : List Entry) (doc : Document) → Rise interval_cmp doc.intervals → Rise interval_cmp (take_entries doc es).intervals
entries-rise [] doc h = h
entries-rise (e ∷ es) doc h = entries-rise es (take_entry doc e) (body-rise doc e.msg.seq e.origin (reference_number e.msg.ref_seq) e.msg.body h)

-- ---- starts

less-is : (o : Ordering) → is_lt o ≡ true → o ≡ Less
less-is Less h = refl
less-is Equal h = absurd (cc)
less-is Greater h = absurd (cc)

both : (a b : Bool) → a && b ≡ true → (a ≡ true) × (b ≡ true)
both true b h = (refl, h)
both false b h = absurd (cc)

behind-next : (i j : IntervalRec) → is_interval_before i j ≡ true → interval_order j i ≡ Greater
behind-next i j h = by (is_lt (text_cmp i.label j.label)) refl h
  where
    by : (b : Bool) → is_lt (text_cmp i.label j.label) ≡ b → b || (bytes_eq i.label j.label && is_lt (text_cmp i.id j.id)) ≡ true → interval_order j i ≡ Greater
    by true e g = ap (λ o. ordering_then o (text_cmp j.id i.id)) (text_cmp-back i.label j.label (less-is _ e))
    by false e g =
        let p = both (bytes_eq i.label j.label) (is_lt (text_cmp i.id j.id)) g in
        ap (λ l. ordering_then (text_cmp j.label l) (text_cmp j.id i.id)) ((bytes_eq-Decides i.label j.label).0 p.0)
        ∙ ap (λ o. ordering_then o (text_cmp j.id i.id)) (text_cmp-same j.label) ∙ text_cmp-back i.id j.id (less-is _ p.1)

all-behind : (i : IntervalRec) (is : List IntervalRec) → is_before_first is_interval_before i is ≡ true → rises is_interval_before is ≡ true → AreBehind interval_order i is
all-behind i [] f r = tt
all-behind i (j ∷ is) f r =
    let p = both (is_before_first is_interval_before j is) (rises is_interval_before is) r in
    (behind-next i j f, behind-further interval_order interval_order-is i j is (behind-next i j f) (all-behind j is p.0 p.1))

rising-from : (is : List IntervalRec) → rises is_interval_before is ≡ true → Rise interval_order is
rising-from [] r = tt
rising-from (i ∷ is) r =
    let p = both (is_before_first is_interval_before i is) (rises is_interval_before is) r in
    (all-behind i is p.0 p.1, rising-from is p.1)

start-rise : (doc : Document) → IsStart doc → Rise interval_cmp doc.intervals
start-rise _ from_nothing = tt
start-rise _ (from_summary {sum} valid) =
    map-rise interval_order interval_cmp (interval_of _) (λ a b. refl) sum.intervals (rising-from sum.intervals valid.names)

-- ---- clients

pub reached-rise : (x : NaiveClient) → IsReached x → Rise interval_cmp x.doc.intervals
reached-rise x r =
    subst (λ (doc : Document). Rise interval_cmp doc.intervals) (sym (clients-agree-from r.start r.steps x (reached-run x r)))
    (entries-rise (taken_entries r.steps) r.start (start-rise r.start r.starts))

acked-rise : (s c : ℕ) (ts : List Stage) (rename : ElementId → ElementId) (doc : Document) → Rise interval_cmp doc.intervals → Rise interval_cmp (ack_stages s c rename ts doc).0.intervals
acked-rise s c [] rename doc h = h
acked-rise s c (t ∷ ts) rename doc h =
    acked-rise s c ts (λ i. acked_id t.stage (made_before doc t.sub_operation) (rename i)) (ack_stage s c rename t doc)
    (slide-rise (acked_list t.stage s c doc.text).items (intervals_after_stage t.sub_operation (renamed_names rename t.names) doc.intervals)
    (stage-rise t.sub_operation (renamed_names rename t.names) doc.intervals h))

own-rise : (x : NaiveClient) (entry : Entry) → Rise interval_cmp x.doc.intervals → Rise interval_cmp (after_own_message x entry).doc.intervals
own-rise x entry h = by x.pending
  where
    by : (edits : List PendingEdit) → Rise interval_cmp (after_own_message (record x { pending = edits }) entry).doc.intervals
    by [] = h
    by (edit ∷ edits) = acked-rise entry.msg.seq entry.origin edit.stages (λ i. i) x.doc h

pub entry-rise : (x : NaiveClient) (entry : Entry) → Rise interval_cmp x.doc.intervals → Rise interval_cmp (after_entry x entry).doc.intervals
entry-rise x entry h = by (is_own_join x.link entry.msg.kind entry.origin) (is_op entry.msg.body && is_own x entry)
  where
    by : (join own : Bool) → Rise interval_cmp (cond join (come_online x entry) (cond own (after_own_message x entry) (after_foreign_message x entry))).doc.intervals
    by true own = h
    by false true = own-rise x entry h
    by false false = body-rise x.doc entry.msg.seq entry.origin (reference_number entry.msg.ref_seq) entry.msg.body h

-- what it shows stands in order
pub content-rises : (x : NaiveClient) → Rise interval_cmp x.doc.intervals → Rises (shown_content x)
content-rises x h = record {
  intervals = map-rise interval_cmp interval_order (interval_record x.last_stage x.doc.text.items) (λ a b. refl)
      (shown_intervals x.doc.text.items x.doc.intervals (stages_of x)) (shown-rise x.doc.text.items (stages_of x) x.doc.intervals h);
  cells = cells-rise x.doc.cells (stages_of x) 0 (stage_view x.last_stage x.doc.cols.items) (stage_view x.last_stage x.doc.rows.items);
}
