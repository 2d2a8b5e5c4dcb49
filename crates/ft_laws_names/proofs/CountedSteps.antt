-- Each step sequences as many elements as it counts, so the counts of two clients that show the same before and after a step
-- rise alike.
use Rattle.std.proofs.Common.{◌≡◌, ℕ, suc, ◌+◌, ◌-◌, Bool, true, false, cond, not, ◌&&◌, nat_eq, nat_le, List, [], ◌∷◌, ◌++◌, Option, Some, None, Result, Ok, Err, refl, sym, ◌∙◌, ap, subst, length, map, arith, replicate}
use Rattle.std.specs.List.{list_any}
use Rattle.ft_base.specs.declared.stamps.Stamp.{Stamp}
use Rattle.ft_base.specs.declared.stamps.Stamp.TheVariants.{Acked, Local}
use Rattle.ft_base.specs.Scan.{change_range, len, no_run, one_more_if, retain_map}
use Rattle.ft_base.specs.Visibility.{is_acked, is_of_stage}
use Rattle.ft_op.specs.declared.operations.BaseOp.{BaseOp}
use Rattle.ft_op.specs.declared.operations.BaseOp.TheVariants.{Insert, Remove, Annotate}
use Rattle.ft_op.specs.declared.operations.CellOp.{CellOp}
use Rattle.ft_op.specs.declared.operations.CellOp.TheVariants.{SpliceIn, SpliceOut, Set}
use Rattle.ft_op.specs.declared.operations.ChannelOp.{ChannelOp}
use Rattle.ft_op.specs.declared.operations.Target.TheVariants.{Rows, Cols}
use Rattle.ft_op.specs.declared.operations.TextOp.{TextOp}
use Rattle.ft_msg.specs.declared.faults.EditFault.{EditFault}
use Rattle.ft_msg.specs.declared.faults.EditFault.TheVariants.{OutOfRange}
use Rattle.ft_msg.specs.declared.faults.LinkFault.{LinkFault}
use Rattle.ft_msg.specs.declared.faults.LinkFault.TheVariants.{AlreadyConnected, NotConnected}
use Rattle.ft_msg.specs.declared.faults.ProcessFault.{ProcessFault}
use Rattle.ft_msg.specs.declared.messages.Body.{Body}
use Rattle.ft_msg.specs.declared.messages.Body.TheVariants.{Nothing, Op, Elsewhere}
use Rattle.ft_msg.specs.declared.messages.Entry.{Entry}
use Rattle.ft_msg.specs.declared.views.Link.{Link}
use Rattle.ft_msg.specs.declared.views.Link.TheVariants.{Offline, Joining, Online}
use Rattle.ft_props.specs.Properties.{PropertyList, apply}
use Rattle.ft_props.specs.Element.{ElementContent, ElementId, GridUnit, ListElement, NamelessElement, is_pending, is_sequenced, nameless, new_elements, seen, seen_by, with_annotation, with_pending_annotation, with_pending_removal, with_removal, without_pending}
use Rattle.ft_props.specs.Steps.{Sequence, acked_element, acked_list, acked_stamp, after_insertion, after_local_insertion, carried_element, is_inserted_by, rebuilt_list}
use Rattle.ft_op.specs.Operation.{OnGrid, OnIntervals, OnText, SubOperation, segment_contents, sub_operations}
use Rattle.ft_op.specs.Intervals.{NamedElements, no_elements}
use Rattle.ft_op.specs.Document.{Document, cell_effect, effect, effects, elements_at_given_ends, ends_of, given_ends_fit}
use Rattle.ft_op.specs.Stages.{Stage, shown_intervals}
use Rattle.ft_msg.specs.Acknowledgement.{ack_stage, ack_stages, acknowledge}
use Rattle.ft_msg.specs.Agreed.{body_effect, reference_number, take_entry, with_numbers}
use Rattle.ft_msg.specs.Answers.{HeldCounts, RiseAlike, held_in}
use Rattle.ft_msg.specs.Client.{EditResult, NaiveClient, PendingEdit, SentAs, after_edit, connect, drop_link, id_fault, if_in_range, local_edit, local_grid, local_interval, local_set, local_sub_operation, local_sub_operations, local_text, noop, sent_as, stages_of, unless_fault, with_draft}
use Rattle.ft_msg.specs.Indexed.{IndexedClient, IndexedDocument, indexed_client}
use Rattle.ft_msg.specs.Process.{after_entry, is_op, is_own, is_own_join, process, process_fault}
use Rattle.ft_msg.specs.Reconnection.{rebuilt_document}
use Rattle.ft_laws_agreement.proofs.AgreedStage.{len-put-add}
use Rattle.ft_laws_agreement.proofs.RangesOfLists.{len-range}
use Rattle.ft_laws_names.proofs.AckedLists.{len-map, len-sum}
use Rattle.ft_laws_names.proofs.RebuiltLists.{filter-none, sequenced-all, stages-none}

-- as many more were ever sequenced as are sequenced elements of the list
abbrev pub Counted : Sequence → Sequence → Type 0
Counted l m = m.made + len is_sequenced l.items ≡ l.made + len is_sequenced m.items

-- so in all three lists
pub record Counts (before after : Document) : Type 0 where
  pub text : Counted before.text after.text
  pub rows : Counted before.rows after.rows
  pub cols : Counted before.cols after.cols

itself : (doc : Document) → Counts doc doc
itself doc = record { text = refl; rows = refl; cols = refl }

then-counted : (l m n : Sequence) → Counted l m → Counted m n → Counted l n
then-counted l m n f g = sums l.made m.made n.made (len is_sequenced l.items) (len is_sequenced m.items) (len is_sequenced n.items) f g
  where
    sums : (a b c i j k : ℕ) → b + i ≡ a + j → c + j ≡ b + k → c + i ≡ a + k
    sums a b c i j k f g = omega arith

then-counts : (p q r : Document) → Counts p q → Counts q r → Counts p r
then-counts p q r f g = record {
  text = then-counted p.text q.text r.text f.text g.text;
  rows = then-counted p.rows q.rows r.rows f.rows g.rows;
  cols =
      then-counted p.cols q.cols r.cols f.cols g.cols;
}

choice : (before : Document) (b : Bool) (p q : Document) → Counts before p → Counts before q → Counts before (cond b p q)
choice before true p q f g = f
choice before false p q f g = g

-- what a step answers: a refusal, or a client that is counted
data CountsStep (E : Type 0) (doc : Document) : Result NaiveClient E → Type 0 where
  step_refused : (fault : E) → CountsStep E doc (Err fault)
  step_taken : (y : NaiveClient) → Counts doc y.doc → CountsStep E doc (Ok y)

taken-counts : (E : Type 0) (doc : Document) {r : Result NaiveClient E} (k : NaiveClient) → CountsStep E doc r → r ≡ Ok k → Counts doc k.doc
taken-counts E doc k (step_refused fault) e = (cc)
taken-counts E doc k (step_taken y c) e =
    let same : y ≡ k = (cc) in
    subst (λ (z : NaiveClient). Counts doc z.doc) same c

-- ---- one list

new-sequenced : (by : Option Stamp) (props : PropertyList) (s c n : ℕ) (bs : List ElementContent) → len is_sequenced (new_elements n (Acked s c) [] by props bs) ≡ length bs
new-sequenced by props s c n [] = refl
new-sequenced by props s c n (b ∷ bs) = ap suc (new-sequenced by props s c (n + 1) bs)

new-pending : (by : Option Stamp) (props : PropertyList) (k n : ℕ) (bs : List ElementContent) → len is_sequenced (new_elements n (Local k) [] by props bs) ≡ 0
new-pending by props k n [] = refl
new-pending by props k n (b ∷ bs) = new-pending by props k (n + 1) bs

inserted : (s c r p : ℕ) (by : Option Stamp) (props : PropertyList) (bs : List ElementContent) (list : Sequence) → Counted list (after_insertion s c r p by props bs list)
inserted s c r p by props bs list =
    sums _ _ _ _ _ (len-put-add is_sequenced (seen_by r c) is_pending p (new_elements list.made (Acked s c) [] by props bs) list.items) (new-sequenced by props s c list.made bs)
  where
    sums : (a n i j k : ℕ) → k ≡ j + i → j ≡ n → a + n + i ≡ a + k
    sums a n i j k f g = omega arith

locally-inserted : (k p : ℕ) (props : PropertyList) (bs : List ElementContent) (list : Sequence) → Counted list (after_local_insertion k p props bs list)
locally-inserted k p props bs list = sums _ _ _ _ (len-put-add is_sequenced (seen (k - 1)) no_run p (new_elements 0 (Local k) [] None props bs) list.items)
    (new-pending None props k 0 bs)
  where
    sums : (a i j k : ℕ) → k ≡ j + i → j ≡ 0 → a + i ≡ a + k
    sums a i j k f g = omega arith

changed : (test : ListElement → Bool) (p q : ℕ) (f : ListElement → ListElement) → ((e : ListElement) → is_sequenced (f e) ≡ is_sequenced e) → (list : Sequence)
    → list.made + len is_sequenced list.items ≡ list.made + len is_sequenced (change_range test p q f list.items)
changed test p q f same list = ap (λ n. list.made + n) (sym (len-range is_sequenced test f same p q 0 list.items))

acked : (k s c : ℕ) (list : Sequence) → Counted list (acked_list k s c list)
acked k s c list =
    sums _ _ _ _ (len-map is_sequenced (acked_element k list.made s c) list.items
    ∙ len-sum (λ e. is_sequenced (acked_element k list.made s c e)) (λ e. is_of_stage k e.ins) is_sequenced (λ e. stamped e.ins) list.items)
  where
    sums : (a n i j : ℕ) → j ≡ n + i → a + n + i ≡ a + j
    sums a n i j f = omega arith

    stamped : (t : Stamp) → one_more_if (is_acked (acked_stamp k s c t)) 0 ≡ one_more_if (is_of_stage k t) 0 + one_more_if (is_acked t) 0
    stamped (Acked r d) = omega arith
    stamped (Local j) = step (nat_eq j k)
      where
        step : (b : Bool) → one_more_if (is_acked (cond b (Acked s c) (Local j))) 0 ≡ one_more_if b 0 + 0
        step true = omega arith
        step false = omega arith

list-rebuilt : (ks : List ℕ) (list : Sequence) → Counted list (rebuilt_list ks list)
list-rebuilt ks list =
    ap (λ n. list.made + n) (sym (stages-none is_sequenced list.items (λ k. filter-none is_sequenced (is_inserted_by k) (λ e g. apart k e.ins g) list.items) ks
    (retain_map is_sequenced carried_element list.items)
    ∙ sequenced-all is_sequenced (λ e. carried e (list_any is_acked e.dels)) (λ e h. h) list.items))
  where
    apart : (k : ℕ) (t : Stamp) → is_of_stage k t ≡ true → is_acked t ≡ false
    apart k (Acked s c) h = (cc)
    apart k (Local j) h = refl

    carried : (e : ListElement) (b : Bool) → is_sequenced (cond b (without_pending e) e) ≡ is_sequenced e
    carried e true = refl
    carried e false = refl

-- ---- a message of another client

module _ (s c r : ℕ) where
  effect-counts : (doc : Document) (o : SubOperation) → Counts doc (effect doc s c r o)
  effect-counts doc (OnText (Insert p seg props)) =
      choice doc (nat_le p (len (seen_by r c) doc.text.items)) _ _ (record {
        text = inserted s c r p (Some (Acked s c)) (apply [] props) (segment_contents seg)
            doc.text;
        rows = refl;
        cols = refl;
      }) (record { text = refl; rows = refl; cols = refl })
  effect-counts doc (OnText (Remove p q)) = choice doc (nat_le q (len (seen_by r c) doc.text.items)) _ _
      (record { text = changed (seen_by r c) p q (with_removal s c) (λ e. refl) doc.text; rows = refl; cols = refl }) (record { text = refl; rows = refl; cols = refl })
  effect-counts doc (OnText (Annotate p q changes)) =
      choice doc (nat_le q (len (seen_by r c) doc.text.items)) _ _ (record {
        text = changed (seen_by r c) p q (with_annotation changes) (λ e. refl) doc.text;
        rows = refl;
        cols = refl;
      }) (record { text = refl; rows = refl; cols = refl })
  effect-counts doc (OnIntervals op) = choice doc (given_ends_fit (len (seen_by r c) doc.text.items) (ends_of op)) _ _
      (record { text = refl; rows = refl; cols = refl }) (record { text = refl; rows = refl; cols = refl })
  effect-counts doc (OnGrid (SpliceIn Rows p count)) =
      choice doc (nat_le p (len (seen_by r c) doc.rows.items)) _ _ (record {
        text = refl;
        rows = inserted s c r p None [] (replicate count GridUnit) doc.rows;
        cols = refl;
      }) (record { text = refl; rows = refl; cols = refl })
  effect-counts doc (OnGrid (SpliceIn Cols p count)) =
      choice doc (nat_le p (len (seen_by r c) doc.cols.items)) _ _ (record {
        text = refl;
        rows = refl;
        cols = inserted s c r p None []
            (replicate count GridUnit) doc.cols;
      }) (record { text = refl; rows = refl; cols = refl })
  effect-counts doc (OnGrid (SpliceOut Rows p q)) = choice doc (nat_le q (len (seen_by r c) doc.rows.items)) _ _
      (record { text = refl; rows = changed (seen_by r c) p q (with_removal s c) (λ e. refl) doc.rows; cols = refl }) (record { text = refl; rows = refl; cols = refl })
  effect-counts doc (OnGrid (SpliceOut Cols p q)) = choice doc (nat_le q (len (seen_by r c) doc.cols.items)) _ _
      (record { text = refl; rows = refl; cols = changed (seen_by r c) p q (with_removal s c) (λ e. refl) doc.cols }) (record { text = refl; rows = refl; cols = refl })
  effect-counts doc (OnGrid (Set i j value)) = cell _ _
    where
      cell : (o p : Option ListElement) → Counts doc (cell_effect doc o p value)
      cell (Some x) (Some y) = record { text = refl; rows = refl; cols = refl }
      cell (Some x) None = record { text = refl; rows = refl; cols = refl }
      cell None p = record { text = refl; rows = refl; cols = refl }

  effects-count : (doc : Document) (os : List SubOperation) → Counts doc (effects doc s c r os)
  effects-count doc [] = itself doc
  effects-count doc (o ∷ os) = then-counts doc (effect doc s c r o) _ (effect-counts doc o) (effects-count (effect doc s c r o) os)

  body-counts : (doc : Document) (body : Body) → Counts doc (body_effect doc s c r body)
  body-counts doc Nothing = itself doc
  body-counts doc (Op op) = effects-count doc (sub_operations op)
  body-counts doc (Elsewhere address) = record { text = refl; rows = refl; cols = refl }

foreign-counts : (doc : Document) (entry : Entry) → Counts doc (take_entry doc entry)
foreign-counts doc entry =
    let body = body-counts entry.msg.seq entry.origin (reference_number entry.msg.ref_seq) doc entry.msg.body in
    record { text = body.text; rows = body.rows; cols = body.cols }

-- ---- its own messages

acks-count : (s c : ℕ) (ts : List Stage) (f : ElementId → ElementId) (doc : Document) → Counts doc (ack_stages s c f ts doc).0
acks-count s c [] f doc = itself doc
acks-count s c (t ∷ ts) f doc =
    then-counts doc (ack_stage s c f t doc) _ (record {
      text = acked t.stage s c doc.text;
      rows = acked t.stage s c doc.rows;
      cols = acked t.stage s c doc.cols;
    }) (acks-count s c ts _ (ack_stage s c f t doc))

own-counts : (s c : ℕ) (x : NaiveClient) (es : List PendingEdit) → Counts x.doc (acknowledge s c (record x { pending = es })).doc
own-counts s c x [] = itself x.doc
own-counts s c x (e ∷ es) = acks-count s c e.stages (λ i. i) x.doc

numbered : (entry : Entry) (doc after : Document) → Counts doc after → Counts doc (with_numbers entry after)
numbered entry doc after h = record { text = h.text; rows = h.rows; cols = h.cols }

online-counts : (ks : List ℕ) (entry : Entry) (doc : Document) → Counts doc (rebuilt_document ks (with_numbers entry doc))
online-counts ks entry doc = record { text = list-rebuilt ks doc.text; rows = list-rebuilt ks doc.rows; cols = list-rebuilt ks doc.cols }

client-choice : (doc : Document) (b : Bool) (p q : NaiveClient) → Counts doc p.doc → Counts doc q.doc → Counts doc (cond b p q).doc
client-choice doc true p q f g = f
client-choice doc false p q f g = g

entry-counts : (x : NaiveClient) (entry : Entry) → Counts x.doc (after_entry x entry).doc
entry-counts x entry =
    client-choice x.doc (is_own_join x.link entry.msg.kind entry.origin) _ _ (online-counts (map (λ (t : Stage). t.stage) (stages_of x)) entry x.doc)
    (client-choice x.doc (is_op entry.msg.body && is_own x entry) _ _ (numbered entry x.doc _ (own-counts entry.msg.seq entry.origin x x.pending)) (foreign-counts x.doc entry))

pub entries-count : (q k : NaiveClient) (entry : Entry) → process q entry ≡ Ok k → Counts q.doc k.doc
entries-count q k entry e = taken-counts _ q.doc k (step (process_fault q entry)) e
  where
    step : (o : Option ProcessFault) → CountsStep ProcessFault q.doc (elim o [ Some fault ↦ Err fault | None ↦ Ok (after_entry q entry) ])
    step (Some fault) = step_refused fault
    step None = step_taken (after_entry q entry) (entry-counts q entry)

-- ---- edits

data CountsOn (doc : Document) : EditResult → Type 0 where
  refuses : (fault : EditFault) → CountsOn doc (Err fault)
  takes : (d : Document) (a : NamedElements) → Counts doc d → CountsOn doc (Ok (d, a))

data CountsAll (doc : Document) : Result (Document × List Stage) EditFault → Type 0 where
  all_refused : (fault : EditFault) → CountsAll doc (Err fault)
  all_taken : (d : Document) (ts : List Stage) → Counts doc d → CountsAll doc (Ok (d, ts))

module _ (k : ℕ) where
  in-range : (doc : Document) (i n : ℕ) (d : Document) → Counts doc d → CountsOn doc (if_in_range i n d)
  in-range doc i n d h = step (nat_le i n)
    where
      step : (b : Bool) → CountsOn doc (cond b (Ok (d, no_elements)) (Err (OutOfRange n)))
      step true = takes d no_elements h
      step false = refuses (OutOfRange n)

  text-counts : (doc : Document) (op : BaseOp) → CountsOn doc (local_text doc k op)
  text-counts doc (Insert p seg props) = in-range doc p _ _ (record { text = locally-inserted k p (apply [] props) (segment_contents seg) doc.text; rows = refl; cols = refl })
  text-counts doc (Remove p q) = in-range doc q _ _ (record { text = changed (seen (k - 1)) p q (with_pending_removal k) (λ e. refl) doc.text; rows = refl; cols = refl })
  text-counts doc (Annotate p q changes) = in-range doc q _ _ (record {
    text = changed (seen (k - 1)) p q (with_pending_annotation k changes) (λ e. refl)
        doc.text;
    rows = refl;
    cols = refl;
  })

  interval-counts : (doc : Document) (stages : List Stage) (op : TextOp) → CountsOn doc (local_interval doc stages k op)
  interval-counts doc stages op = step (id_fault (shown_intervals doc.text.items doc.intervals stages) op) (given_ends_fit (len (seen (k - 1)) doc.text.items) (ends_of op))
    where
      step : (f : Option EditFault) (b : Bool) → CountsOn doc (unless_fault f
          (cond b (Ok (doc, elements_at_given_ends (seen (k - 1)) doc.text.items (ends_of op))) (Err (OutOfRange (len (seen (k - 1)) doc.text.items)))))
      step (Some fault) b = refuses fault
      step None true = takes doc _ (itself doc)
      step None false = refuses _

  grid-counts : (doc : Document) (op : CellOp) → CountsOn doc (local_grid doc k op)
  grid-counts doc (SpliceIn Rows p count) = in-range doc p _ _ (record { text = refl; rows = locally-inserted k p [] (replicate count GridUnit) doc.rows; cols = refl })
  grid-counts doc (SpliceIn Cols p count) = in-range doc p _ _ (record { text = refl; rows = refl; cols = locally-inserted k p [] (replicate count GridUnit) doc.cols })
  grid-counts doc (SpliceOut Rows p q) = in-range doc q _ _ (record { text = refl; rows = changed (seen (k - 1)) p q (with_pending_removal k) (λ e. refl) doc.rows; cols = refl })
  grid-counts doc (SpliceOut Cols p q) = in-range doc q _ _ (record { text = refl; rows = refl; cols = changed (seen (k - 1)) p q (with_pending_removal k) (λ e. refl) doc.cols })
  grid-counts doc (Set i j value) = cell _ _
    where
      cell : (o p : Option ListElement) → CountsOn doc (local_set doc k o p)
      cell (Some x) (Some y) = takes doc _ (itself doc)
      cell (Some x) None = refuses _
      cell None p = refuses _

  sub-counts : (doc : Document) (stages : List Stage) (o : SubOperation) → CountsOn doc (local_sub_operation doc stages k o)
  sub-counts doc stages (OnText op) = text-counts doc op
  sub-counts doc stages (OnIntervals op) = interval-counts doc stages op
  sub-counts doc stages (OnGrid op) = grid-counts doc op

subs-count : (k : ℕ) (stages : List Stage) (doc : Document) (os : List SubOperation) → CountsAll doc (local_sub_operations doc stages k os)
subs-count k stages doc [] = all_taken doc [] (itself doc)
subs-count k stages doc (o ∷ os) = one (sub-counts k doc stages o) (λ d a. subs-count (k + 1) (stages ++ (here a ∷ [])) d os)
  where
    here : NamedElements → Stage
    here a = record { stage = k; sub_operation = o; names = a }

    rest-of : NamedElements → Result (Document × List Stage) EditFault → Result (Document × List Stage) EditFault
    rest-of a r = elim r [ Err fault ↦ Err fault | Ok rest ↦ Ok (rest.0, here a ∷ rest.1) ]

    behind : (d : Document) (a : NamedElements) → Counts doc d → {r : Result (Document × List Stage) EditFault} → CountsAll d r → CountsAll doc (rest-of a r)
    behind d a h (all_refused fault) = all_refused fault
    behind d a h (all_taken e ts g) = all_taken e (here a ∷ ts) (then-counts doc d e h g)

    one : {r : EditResult} → CountsOn doc r → ((d : Document) (a : NamedElements) → CountsAll d (local_sub_operations d (stages ++ (here a ∷ [])) (k + 1) os))
        → CountsAll doc (elim r [ Err fault ↦ Err fault | Ok taken ↦ rest-of taken.1 (local_sub_operations taken.0 (stages ++ (here taken.1 ∷ [])) (k + 1) os) ])
    one (refuses fault) f = all_refused fault
    one (takes d a h) f = behind d a h (f d a)

pub edits-count : (q k : NaiveClient) (op : ChannelOp) → local_edit q op ≡ Ok k → Counts q.doc k.doc
edits-count q k op e = taken-counts _ q.doc k (answer (subs-count (q.last_stage + 1) (stages_of q) q.doc (sub_operations op))) e
  where
    drafted : (sent : Option SentAs) (n : ℕ) (y : NaiveClient) → Counts q.doc y.doc → Counts q.doc (with_draft sent n y).doc
    drafted None n y c = c
    drafted (Some sent) n y c = c

    answer : {r : Result (Document × List Stage) EditFault} → CountsAll q.doc r
        → CountsStep EditFault q.doc (elim r [ Err fault ↦ Err fault | Ok taken ↦ Ok (after_edit op taken.0 taken.1 q) ])
    answer (all_refused fault) = step_refused fault
    answer (all_taken d ts c) = step_taken (after_edit op d ts q) (drafted (sent_as q.link q.next_client_seq op) q.doc.number _ c)

-- ---- the link

module _ (q k : NaiveClient) where
  pub connects-count : (conn : ℕ) → connect q conn ≡ Ok k → Counts q.doc k.doc
  connects-count conn e = taken-counts _ q.doc k (step q.link) e
    where
      step : (l : Link) → CountsStep LinkFault q.doc (elim l [
        | Offline ↦ Ok (record q
            { link = Joining conn; conns = q.conns ++ (conn ∷ []); next_client_seq = 1 })
        | _ ↦ Err AlreadyConnected
      ])
      step Offline = step_taken _ (itself q.doc)
      step (Joining c) = step_refused AlreadyConnected
      step (Online c) = step_refused AlreadyConnected

  pub drops-count : drop_link q ≡ Ok k → Counts q.doc k.doc
  drops-count e = taken-counts _ q.doc k (step q.link) e
    where
      step : (l : Link) → CountsStep LinkFault q.doc (elim l [ Offline ↦ Err NotConnected | _ ↦ Ok (record q { link = Offline; queue = [] }) ])
      step Offline = step_refused NotConnected
      step (Joining c) = step_taken _ (itself q.doc)
      step (Online c) = step_taken _ (itself q.doc)

  pub idles-count : noop q ≡ Ok k → Counts q.doc k.doc
  idles-count e = taken-counts _ q.doc k (step q.link) e
    where
      step : (l : Link) → CountsStep LinkFault q.doc (elim l [
        | Online conn ↦ Ok
            (record q {
              next_client_seq = q.next_client_seq + 1;
              queue = q.queue ++
                  (record { client_seq = q.next_client_seq; ref_seq = q.doc.number; body = Nothing } ∷ []);
            })
        | _ ↦ Err NotConnected
      ])
      step Offline = step_refused NotConnected
      step (Joining c) = step_refused NotConnected
      step (Online c) = step_taken _ (itself q.doc)

-- ---- two clients

-- a test of the insertion counts as many of elements that are shown alike
same-count : (test : Stamp → Bool) (xs ys : List ListElement) → map nameless xs ≡ map nameless ys → len (λ e. test e.ins) xs ≡ len (λ e. test e.ins) ys
same-count test xs ys h = sym (len-map (λ (d : NamelessElement). test d.stamps.ins) nameless xs) ∙ ap (len (λ (d : NamelessElement). test d.stamps.ins)) h
    ∙ len-map (λ (d : NamelessElement). test d.stamps.ins) nameless ys

list-rises : (old new : ℕ) (p q y k : Sequence) → map nameless p.items ≡ map nameless q.items → map nameless y.items ≡ map nameless k.items → Counted p y → Counted q k
    → new + (p.made + len is_pending p.items) ≡ old + (y.made + len is_pending y.items) → new + (q.made + len is_pending q.items) ≡ old + (k.made + len is_pending k.items)
list-rises old new p q y k before after f g h =
    sums old new p.made q.made y.made k.made _ _ _ _ _ _ _ _ (same-count is_acked p.items q.items before) (same-count is_acked y.items k.items after)
    (same-count (λ t. not (is_acked t)) p.items q.items before) (same-count (λ t. not (is_acked t)) y.items k.items after) f g h
  where
    sums : (o n a b c d i j u v l m r s : ℕ) → i ≡ j → u ≡ v → l ≡ m → r ≡ s → c + i ≡ a + u → d + j ≡ b + v → n + (a + l) ≡ o + (c + r) → n + (b + m) ≡ o + (d + s)
    sums o n a b c d i j u v l m r s e f g h p q w = omega arith

-- counts that rise as those of one client do rise as those of another that shows the same before and after
pub rises-alike : (old new : HeldCounts) (p q y k : NaiveClient) → indexed_client p ≡ indexed_client q → indexed_client y ≡ indexed_client k
    → Counts p.doc y.doc → Counts q.doc k.doc
    → RiseAlike old new (held_in p.doc) (held_in y.doc) → RiseAlike old new (held_in q.doc) (held_in k.doc)
rises-alike old new p q y k before after f g h =
    let b = ap (λ (c : IndexedClient). c.doc) before in
    let a = ap (λ (c : IndexedClient). c.doc) after in
    record {
      text = list-rises old.text new.text p.doc.text q.doc.text y.doc.text k.doc.text (ap (λ (d : IndexedDocument). d.text) b)
          (ap (λ (d : IndexedDocument). d.text) a) f.text g.text h.text;
      rows = list-rises old.rows new.rows p.doc.rows q.doc.rows y.doc.rows k.doc.rows (ap (λ (d : IndexedDocument). d.rows) b)
          (ap (λ (d : IndexedDocument). d.rows) a) f.rows g.rows h.rows;
      cols = list-rises old.cols new.cols p.doc.cols q.doc.cols y.doc.cols k.doc.cols (ap (λ (d : IndexedDocument). d.cols) b)
          (ap (λ (d : IndexedDocument). d.cols) a) f.cols g.cols h.cols;
    }
