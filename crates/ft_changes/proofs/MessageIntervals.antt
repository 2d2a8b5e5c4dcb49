-- Of intervals a message that moves the ends as it moves the lists tells only those that it or a pending stage adds, changes or deletes.
use Rattle.std.proofs.Common.{◌≡◌, ℕ, Bool, true, false, not, ◌&&◌, ◌||◌, List, [], ◌∷◌, Option, Ok, refl, sym, ◌∙◌, ap, append-nil, filter, map, subst}
use Rattle.std.specs.List.{list_all, list_any}
use Rattle.std.specs.declared.cmp.Ordering.TheVariants.{Equal}
use Rattle.std.proofs.lemmas.Bool.{or_left, or_right}
use Rattle.ft_base.proofs.Booleans.{all_three, both}
use Rattle.ft_props.specs.Element.{ElementId, ListElement}
use Rattle.ft_op.specs.Document.{Document, effect, effects}
use Rattle.ft_op.specs.Intervals.{Interval, interval_cmp}
use Rattle.ft_op.specs.Operation.{SubOperation, sub_operations}
use Rattle.ft_op.specs.Stages.{Stage, shown_intervals}
use Rattle.ft_sumdoc.specs.declared.summary.IntervalRec.{IntervalRec}
use Rattle.ft_msg.specs.declared.messages.Body.{Body}
use Rattle.ft_msg.specs.declared.messages.Body.TheVariants.{Elsewhere, Nothing, Op}
use Rattle.ft_msg.specs.declared.messages.Entry.{Entry}
use Rattle.ft_msg.specs.Agreed.{body_effect, reference_number}
use Rattle.ft_msg.specs.Client.{NaiveClient, stages_of}
use Rattle.ft_msg.specs.ClientSteps.{Takes, has_fitting_body, unless_refused}
use Rattle.ft_msg.specs.Compacted.{IsCompacted}
use Rattle.ft_msg.specs.Content.{interval_record}
use Rattle.ft_msg.specs.Process.{after_entry, after_foreign_message, process}
use Rattle.ft_msg.specs.Reached.{IsReached}
use Rattle.ft_msg.proofs.ReachedSteps.{reached-after}
use Rattle.ft_laws_agreement.specs.Reconnecting.{has_insertion_of, has_marks_of, has_removal_of, inserts_text, removes_text}
use Rattle.ft_laws_agreement.specs.Sequencing.{IsReady}
use Rattle.ft_laws_agreement.specs.Trimming.{are_distinct_elements, has_ends_on, is_end_on}
use Rattle.ft_laws_agreement.proofs.OwnNames.{all-weaker}
use Rattle.ft_laws_agreement.proofs.SettledEnds.{has_ends_at, is_end_at}
use Rattle.ft_laws_compaction.proofs.AllSteps.{reached-sound}
use Rattle.ft_laws_compaction.proofs.KeptReady.{kept-ready}
use Rattle.ft_laws_compaction.proofs.KeptSteps.{entries-answer}
use Rattle.ft_changes.specs.Beside.{body_moves_ends_alike, body_sub_operations, entry_moves_ends_alike, is_changed_around, is_changed_by, moves_ends_alike}
use Rattle.ft_changes.specs.Laws.{after_lists}
use Rattle.ft_changes.specs.Shown.{ShownContent, after_changes, interval_order, shown_content}
use Rattle.ft_changes.specs.Told.{told_body, told_intervals, told_sub_operation, told_sub_operations}
use Rattle.ft_changes.proofs.EditsQuiet.{before-edit}
use Rattle.ft_changes.proofs.FilteredIntervals.{intervals-filtered, same-named, same-place}
use Rattle.ft_changes.proofs.ForeignSteps.{ShowsLists, after-append, sub_operation-step}
use Rattle.ft_changes.proofs.IntervalsLead.{IsQuiet, next-quiet}
use Rattle.ft_changes.proofs.KeptEdits.{reached-ready}
use Rattle.ft_changes.proofs.KeptTells.{alike-taken, in-place-of}
use Rattle.ft_changes.proofs.KeptTold.{kept-shows-as}
use Rattle.ft_changes.proofs.MessageEnds.{beside-leads, is_on, is_shown_end, quiet-leads}
use Rattle.ft_changes.proofs.MessageSteps.{IsLed, is-led, led-shown, shown_others}
use Rattle.ft_changes.proofs.NothingTold.{foreign, foreign-in-place, intervals-same-none, own-or-foreign}
use Rattle.ft_changes.proofs.OrderedIntervals.{content-rises, entry-rise, reached-rise}
use Rattle.ft_changes.proofs.QuietClients.{quiet-client}
use Rattle.ft_changes.proofs.Rising.{changes-rise}
use Rattle.ft_changes.proofs.StandingElements.{all-filter, has_acked_removals}
use Rattle.ft_changes.proofs.ThroughStages.{Covers, covers-first, covers-rest, is_other, others-settle, others-shown, through, unmoved, with_ends_by}
use Rattle.ft_changes.proofs.ToldItems.{Rise}
use Rattle.ft_changes.proofs.ToldLaw.{processed}

-- ---- ends of a document that is shown

-- what is known of the text and the intervals of a document with these stages pending, where k is the last one
record IsShownWith (k : ℕ) (ts : List Stage) (doc : Document) : Type 0 where
  pub distinct : are_distinct_elements doc.text.items ≡ true
  pub dels : list_all has_acked_removals doc.text.items ≡ true
  pub on : list_all (has_ends_on doc.text.items) doc.intervals ≡ true
  pub ends : list_all (has_ends_at k doc.text.items) (shown_intervals doc.text.items doc.intervals ts) ≡ true

ready-shown : (x : NaiveClient) → IsReady x → Rise interval_cmp x.doc.intervals → IsShownWith x.last_stage (stages_of x) x.doc
ready-shown x ready rise = record {
  distinct = ready.text.place.distinct;
  dels = all-weaker (has_marks_of inserts_text removes_text (stages_of x)) has_acked_removals
      (λ e h. (all_three (has_insertion_of inserts_text (stages_of x) e.ins) (has_removal_of removes_text (stages_of x) e.removal_stage)
      (has_acked_removals e) h).2) x.doc.text.items ready.text.place.marks;
  on = ready.ends;
  ends = (before-edit x ready rise).intervals.ends;
}

module _ (test : IntervalRec → Bool) (names : (a b : IntervalRec) → a.label ≡ b.label → a.id ≡ b.id → test a ≡ test b) (k n c r : ℕ) where
  abbrev others : List IntervalRec → List IntervalRec
  others is = filter (λ i. not (test i)) is

  -- ---- with stages pending

  module _ (ts : List Stage) (stages : Covers test (map (λ (t : Stage). t.sub_operation) ts)) where
    -- the shown intervals of other names
    start-others : (doc : Document) → others (map (interval_record k doc.text.items) (shown_intervals doc.text.items doc.intervals ts))
        ≡ shown_others test names k n c r ts (is_shown_end test names k n c r ts) doc
    start-others doc =
        others-shown test names k doc.text.items (shown_intervals doc.text.items doc.intervals ts)
        ∙ ap (map (interval_record k doc.text.items)) (others-settle test names doc.text.items ts stages doc.intervals)

    other-ends : (doc : Document) → IsShownWith k ts doc
        → list_all (has_ends_at k doc.text.items) (map (with_ends_by (through doc.text.items ts)) (filter (is_other test names) doc.intervals))
        ≡ true
    other-ends doc h =
        ap (list_all (has_ends_at k doc.text.items)) (sym (others-settle test names doc.text.items ts stages doc.intervals))
        ∙ all-filter (has_ends_at k doc.text.items) (is_other test names) (shown_intervals doc.text.items doc.intervals ts) h.ends

    shown-ends : (xs ys : List ListElement) (f : Option ElementId → Option ElementId) (is : List Interval) → list_all (has_ends_on xs) is ≡ true
        → list_all (has_ends_at k xs) (map (with_ends_by (through xs ts)) is) ≡ true
        → list_all (has_ends_at k ys) (map (with_ends_by (through ys ts)) (map (with_ends_by f) is)) ≡ true
        → list_all (λ i. is_shown_end test names k n c r ts xs f ys i.start && is_shown_end test names k n c r ts xs f ys i.end) is ≡ true
    shown-ends xs ys f [] h e d = refl
    shown-ends xs ys f (i ∷ is) h e d =
        let u = with_ends_by (through xs ts) i in
        let v = with_ends_by (through ys ts) (with_ends_by f i) in
        let p = both (has_ends_on xs i) (list_all (has_ends_on xs) is) h in
        let q = both (has_ends_at k xs u) (list_all (has_ends_at k xs) (map (with_ends_by (through xs ts)) is)) e in
        let s = both (has_ends_at k ys v) (list_all (has_ends_at k ys) (map (with_ends_by (through ys ts)) (map (with_ends_by f) is))) d in
        let a = both (is_end_on xs i.start) (is_end_on xs i.end) p.0 in
        let b = both (is_end_at k xs u.start) (is_end_at k xs u.end) q.0 in
        let m = both (is_end_at k ys v.start) (is_end_at k ys v.end) s.0 in
        rw (a.0, a.1, b.0, b.1, m.0, m.1, shown-ends xs ys f is p.1 q.1 s.1) refl

    one-others : (t : ShownContent) (doc : Document) (o : SubOperation) → Covers test (o ∷ []) → moves_ends_alike doc c r o ≡ true
        → IsShownWith k ts doc → IsShownWith k ts (effect doc n c r o) → ShowsLists k t doc
        → t.intervals ≡ map (interval_record k doc.text.items) (shown_intervals doc.text.items doc.intervals ts)
        → others (after_changes t (told_sub_operation k doc c r o)).intervals
        ≡ others (map (interval_record k (effect doc n c r o).text.items)
        (shown_intervals (effect doc n c r o).text.items (effect doc n c r o).intervals ts))
    one-others t doc o covers alike before after lists shown =
        let next = effect doc n c r o in
        let good = is_shown_end test names k n c r ts in
        let led : IsLed test names k n c r ts good doc next (told_sub_operation k doc c r o) =
        is-led test names k n c r ts good doc o covers (beside-leads test names k n c r ts doc o before.distinct before.dels alike after.distinct) in
        let is = filter (is_other test names) doc.intervals in
        let there : list_all (has_ends_at k next.text.items) (map (with_ends_by (through next.text.items ts)) (map (with_ends_by led.f) is)) ≡ true =
        ap (λ js. list_all (has_ends_at k next.text.items) (map (with_ends_by (through next.text.items ts)) js)) (sym led.kept)
        ∙ other-ends next after in
        led-shown test names k n c r ts good doc next (told_sub_operation k doc c r o) led t lists
        (shown-ends doc.text.items next.text.items led.f is
        (all-filter (has_ends_on doc.text.items) (is_other test names) doc.intervals before.on) (other-ends doc before) there)
        (ap others shown ∙ start-others doc)
        ∙ sym (start-others next)

    -- a message of one sub-operation at most
    body-others : (t : ShownContent) (doc : Document) (body : Body) → Covers test (body_sub_operations body)
        → body_moves_ends_alike doc c r body ≡ true
        → IsShownWith k ts doc → IsShownWith k ts (body_effect doc n c r body) → ShowsLists k t doc
        → t.intervals ≡ map (interval_record k doc.text.items) (shown_intervals doc.text.items doc.intervals ts)
        → others (after_changes t (told_body k doc n c r body)).intervals
        ≡ others (map (interval_record k (body_effect doc n c r body).text.items)
        (shown_intervals (body_effect doc n c r body).text.items (body_effect doc n c r body).intervals ts))
    body-others t doc Nothing covers alike before after lists shown = ap others shown
    body-others t doc (Elsewhere address) covers alike before after lists shown = ap others shown
    body-others t doc (Op op) covers alike before after lists shown = by (sub_operations op) covers alike after
      where
        by : (os : List SubOperation) → Covers test os
            → elim os as (λ _. Bool) [ [] ↦ true | o ∷ us ↦ elim us as (λ _. Bool) [ [] ↦ moves_ends_alike doc c r o | _ ↦ false ] ] ≡ true
            → IsShownWith k ts (effects doc n c r os)
            → others (after_changes t (told_sub_operations k doc n c r os)).intervals
            ≡ others (map (interval_record k (effects doc n c r os).text.items)
            (shown_intervals (effects doc n c r os).text.items (effects doc n c r os).intervals ts))
        by [] d e g = ap others shown
        by (o ∷ []) d e g =
            ap (λ cs. others (after_changes t cs).intervals) (append-nil (told_sub_operation k doc c r o))
            ∙ one-others t doc o d e before g lists shown
        by (o ∷ u ∷ us) d e g = absurd (cc)

  -- ---- with nothing pending

  abbrev quiet_others : Document → List IntervalRec
  quiet_others doc = shown_others test names k n c r [] (is_on test names k n c r) doc

  operations-others : (os : List SubOperation) (t : ShownContent) (doc : Document) → Covers test os → ShowsLists k t doc → IsQuiet k n c r doc
      → others t.intervals ≡ quiet_others doc
      → others (after_changes t (told_sub_operations k doc n c r os)).intervals ≡ quiet_others (effects doc n c r os)
  operations-others [] t doc covers lists h e = e
  operations-others (o ∷ os) t doc covers lists h e =
      let next = effect doc n c r o in
      let told = told_sub_operation k doc c r o in
      let u = after_changes t told in
      let led : IsLed test names k n c r [] (is_on test names k n c r) doc next told =
      is-led test names k n c r [] (is_on test names k n c r) doc o (covers-first test o os covers) (quiet-leads test names k n c r doc o h) in
      ap (λ (s : ShownContent). others s.intervals) (after-append t told (told_sub_operations k next n c r os))
      ∙ operations-others os u next (covers-rest test o os covers) (sub_operation-step k n c r t doc o lists) (next-quiet k n c r doc o h)
      (led-shown test names k n c r [] (is_on test names k n c r) doc next told led t lists
      (all-filter (has_ends_on doc.text.items) (is_other test names) doc.intervals h.consistent.ends) e)

  quiet-body : (t : ShownContent) (doc : Document) (body : Body) → Covers test (body_sub_operations body) → ShowsLists k t doc → IsQuiet k n c r doc
      → others t.intervals ≡ quiet_others doc
      → others (after_changes t (told_body k doc n c r body)).intervals ≡ quiet_others (body_effect doc n c r body)
  quiet-body t doc Nothing covers lists h e = e
  quiet-body t doc (Elsewhere address) covers lists h e = e
  quiet-body t doc (Op op) covers lists h e = operations-others (sub_operations op) t doc covers lists h e

  quiet-start : (doc : Document) → others (map (interval_record k doc.text.items) doc.intervals) ≡ quiet_others doc
  quiet-start doc =
      others-shown test names k doc.text.items doc.intervals
      ∙ ap (map (interval_record k doc.text.items)) (unmoved (filter (is_other test names) doc.intervals))

-- ---- an entry

module _ (x : NaiveClient) (entry : Entry) where
  around-named : (a b : IntervalRec) → a.label ≡ b.label → a.id ≡ b.id → is_changed_around x entry a ≡ is_changed_around x entry b
  around-named a b l m =
      let ops = body_sub_operations entry.msg.body in
      let stages = map (λ (t : Stage). t.sub_operation) (stages_of x) in
      ap (λ d. d || is_changed_by stages a) (same-named ops a b l m) ∙ ap (λ d. is_changed_by ops b || d) (same-named stages a b l m)

  around-placed : (a b : IntervalRec) → interval_order a b ≡ Equal → is_changed_around x entry a ≡ is_changed_around x entry b
  around-placed a b e =
      let ops = body_sub_operations entry.msg.body in
      let stages = map (λ (t : Stage). t.sub_operation) (stages_of x) in
      ap (λ d. d || is_changed_by stages a) (same-place ops a b e) ∙ ap (λ d. is_changed_by ops b || d) (same-place stages a b e)

  covers-body : Covers (is_changed_around x entry) (body_sub_operations entry.msg.body)
  covers-body i h = or_left (is_changed_by (body_sub_operations entry.msg.body) i) _ h

  covers-stages : Covers (is_changed_around x entry) (map (λ (t : Stage). t.sub_operation) (stages_of x))
  covers-stages i h = or_right (is_changed_by (body_sub_operations entry.msg.body) i) _ h

  -- it tells those alone that it or a pending stage changes
  abbrev TellsChanged : ShownContent → ShownContent → Type 0
  TellsChanged t u =
      told_intervals t.intervals u.intervals
      ≡ told_intervals (filter (is_changed_around x entry) t.intervals) (filter (is_changed_around x entry) u.intervals)

  same-tells : (t : ShownContent) → TellsChanged t t
  same-tells t = intervals-same-none t.intervals ∙ sym (intervals-same-none (filter (is_changed_around x entry) t.intervals))

  abbrev others_of : List IntervalRec → List IntervalRec
  others_of is = filter (λ i. not (is_changed_around x entry i)) is

  -- it is enough that the others are as they were
  others-tell : Rise interval_cmp x.doc.intervals → Rise interval_cmp (after_foreign_message x entry).doc.intervals
      → others_of (after_changes (shown_content x) (foreign x entry)).intervals ≡ others_of (shown_content (after_foreign_message x entry)).intervals
      → TellsChanged (after_changes (shown_content x) (foreign x entry)) (shown_content (after_foreign_message x entry))
  others-tell rise after h =
      intervals-filtered (is_changed_around x entry) around-placed (after_changes (shown_content x) (foreign x entry)).intervals
      (shown_content (after_foreign_message x entry)).intervals (changes-rise (shown_content x) (foreign x entry) (content-rises x rise)).intervals
      (content-rises (after_foreign_message x entry) after).intervals h

  -- with stages pending
  pending-others : IsReady x → IsReady (after_foreign_message x entry) → Rise interval_cmp x.doc.intervals
      → Rise interval_cmp (after_foreign_message x entry).doc.intervals
      → body_moves_ends_alike x.doc entry.origin (reference_number entry.msg.ref_seq) entry.msg.body ≡ true
      → others_of (after_changes (shown_content x) (foreign x entry)).intervals ≡ others_of (shown_content (after_foreign_message x entry)).intervals
  pending-others ready later rise after alike =
      let then = ready-shown (after_foreign_message x entry) later after in
      body-others (is_changed_around x entry) around-named x.last_stage entry.msg.seq entry.origin (reference_number entry.msg.ref_seq) (stages_of x)
      covers-stages (shown_content x) x.doc entry.msg.body covers-body alike (ready-shown x ready rise)
      (record { distinct = then.distinct; dels = then.dels; on = then.on; ends = then.ends })
      (record { elements = refl; rows = refl; cols = refl }) refl

  -- with none
  quiet-foreign : IsReached x → stages_of x ≡ []
      → others_of (after_changes (shown_content x) (foreign x entry)).intervals ≡ others_of (shown_content (after_foreign_message x entry)).intervals
  quiet-foreign reached none =
      let k = x.last_stage in
      let s = entry.msg.seq in
      let c = entry.origin in
      let r = reference_number entry.msg.ref_seq in
      let doc = body_effect x.doc s c r entry.msg.body in
      let shown : (d : Document) → others_of (map (interval_record k d.text.items) (shown_intervals d.text.items d.intervals (stages_of x)))
      ≡ others_of (map (interval_record k d.text.items) d.intervals) =
      λ d. ap (λ ts. others_of (map (interval_record k d.text.items) (shown_intervals d.text.items d.intervals ts))) none in
      quiet-body (is_changed_around x entry) around-named k s c r (shown_content x) x.doc entry.msg.body covers-body
      (record { elements = refl; rows = refl; cols = refl }) (quiet-client s c r x reached none)
      (shown x.doc ∙ quiet-start (is_changed_around x entry) around-named k s c r x.doc)
      ∙ sym (shown doc ∙ quiet-start (is_changed_around x entry) around-named k s c r doc)

-- where stages are pending, the body is tested
tested : (ts : List Stage) (b : Bool) → not (list_any (λ (t : Stage). true) ts) || b ≡ true → (ts ≡ [] → ⊥) → b ≡ true
tested [] b h some = absurd (some refl)
tested (t ∷ ts) b h some = h

pub messages-tell-their-intervals : (x y : NaiveClient) (entry : Entry) → IsReached x → has_fitting_body entry ≡ true → process x entry ≡ Ok y
    → entry_moves_ends_alike x entry ≡ true
    → told_intervals (after_lists x entry).intervals (shown_content y).intervals
    ≡ told_intervals (filter (is_changed_around x entry) (after_lists x entry).intervals)
    (filter (is_changed_around x entry) (shown_content y).intervals)
messages-tell-their-intervals x y entry reached fits e alike =
    own-or-foreign x y entry reached fits e (λ t u. TellsChanged x entry t u) (same-tells x entry)
    (λ is. others-tell x entry (reached-rise x reached) (rise is) (by (stages_of x) refl is))
  where
    next : IsReached y
    next = reached-after x y (Takes entry) reached (ap unless_refused e) (rw fits refl)

    rise : y ≡ after_foreign_message x entry → Rise interval_cmp (after_foreign_message x entry).doc.intervals
    rise is = subst (λ (z : NaiveClient). Rise interval_cmp z.doc.intervals) is (reached-rise y next)

    by : (ts : List Stage) → stages_of x ≡ ts → y ≡ after_foreign_message x entry
        → filter (λ i. not (is_changed_around x entry i)) (after_changes (shown_content x) (foreign x entry)).intervals
        ≡ filter (λ i. not (is_changed_around x entry i)) (shown_content (after_foreign_message x entry)).intervals
    by [] none is = quiet-foreign x entry reached none
    by (t ∷ ts) some is =
        pending-others x entry (reached-ready x reached) (subst IsReady is (reached-ready y next)) (reached-rise x reached) (rise is)
        (tested (stages_of x) (body_moves_ends_alike x.doc entry.origin (reference_number entry.msg.ref_seq) entry.msg.body) alike
        (λ none. absurd (cc (none, some))))

-- ---- a client that keeps another

pub kept-messages-tell-their-intervals : (kept x y : NaiveClient) (entry : Entry) → IsReached x → IsCompacted kept x → has_fitting_body entry ≡ true
    → process x entry ≡ Ok y → entry_moves_ends_alike kept entry ≡ true
    → told_intervals (after_lists kept entry).intervals (shown_content (after_entry kept entry)).intervals
    ≡ told_intervals (filter (is_changed_around kept entry) (after_lists kept entry).intervals)
    (filter (is_changed_around kept entry) (shown_content (after_entry kept entry)).intervals)
kept-messages-tell-their-intervals kept x y entry reached keeps fits e alike = by (stages_of kept) refl
  where
    stages : stages_of kept ≡ stages_of x
    stages = ap stages_of keeps.rest

    next : IsReached y
    next = reached-after x y (Takes entry) reached (ap unless_refused e) (rw fits refl)

    rise : Rise interval_cmp kept.doc.intervals
    rise = subst (Rise interval_cmp) (sym (ap (λ (doc : Document). doc.intervals) keeps.doc.rest)) (reached-rise x reached)

    by : (ts : List Stage) → stages_of kept ≡ ts → TellsChanged kept entry (after_lists kept entry) (shown_content (after_entry kept entry))
    by [] none =
        kept-shows-as kept x y entry reached keeps fits e (λ t u. TellsChanged kept entry t u)
        (subst (λ (z : NaiveClient). TellsChanged z entry (after_lists x entry) (shown_content y)) (sym keeps.rest)
        (messages-tell-their-intervals x y entry reached fits e
        (ap (λ ts. not (list_any (λ (t : Stage). true) ts)
        || body_moves_ends_alike x.doc entry.origin (reference_number entry.msg.ref_seq) entry.msg.body) (sym stages ∙ none))))
    by (t ∷ ts) some =
        foreign-in-place kept x entry reached (in-place-of kept x y entry reached keeps fits e) y fits e (λ t u. TellsChanged kept entry t u)
        (same-tells kept entry)
        (λ is.
        let answer = alike-taken y (entries-answer reached.steps x kept entry (reached-sound x reached) keeps fits) e in
        let ready : IsReady (after_foreign_message kept entry) =
        subst IsReady (sym (processed kept answer.0 entry answer.1.0) ∙ is) (kept-ready next.steps y answer.0 (reached-sound y next) answer.1.1) in
        let after : Rise interval_cmp (after_foreign_message kept entry).doc.intervals =
        subst (λ (z : NaiveClient). Rise interval_cmp z.doc.intervals) is (entry-rise kept entry rise) in
        others-tell kept entry rise after
        (pending-others kept entry (kept-ready reached.steps x kept (reached-sound x reached) keeps) ready rise after
        (tested (stages_of kept) (body_moves_ends_alike kept.doc entry.origin (reference_number entry.msg.ref_seq) entry.msg.body) alike
        (λ none. absurd (cc (none, some))))))
