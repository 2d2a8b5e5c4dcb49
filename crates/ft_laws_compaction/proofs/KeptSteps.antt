-- Each step of a compacted client beside the whole one.
use Rattle.std.proofs.Math.Nat.{min-le_left, min-le_right}
use Rattle.std.proofs.Common.{◌≡◌, ℕ, ◌+◌, ◌≤◌, Bool, true, false, cond, not, ◌&&◌, List, [], ◌∷◌, ◌++◌, Option, Some, None, Result, drop, length, map, min, refl, sym, ◌∙◌, ap, subst, arith}
use Rattle.std.specs.List.{flat_map}
use Rattle.ft_base.proofs.Booleans.{both}
use Rattle.ft_op.specs.declared.operations.ChannelOp.{ChannelOp}
use Rattle.ft_msg.specs.declared.faults.EditFault.{EditFault}
use Rattle.ft_msg.specs.declared.faults.LinkFault.{LinkFault}
use Rattle.ft_msg.specs.declared.faults.LinkFault.TheVariants.{AlreadyConnected, NotConnected}
use Rattle.ft_msg.specs.declared.faults.ProcessFault.{ProcessFault}
use Rattle.ft_msg.specs.declared.messages.Body.TheVariants.{Nothing}
use Rattle.ft_msg.specs.declared.messages.Entry.{Entry}
use Rattle.ft_msg.specs.declared.views.Link.{Link}
use Rattle.ft_msg.specs.declared.views.Link.TheVariants.{Offline, Joining, Online}
use Rattle.ft_props.specs.Element.{ElementId, has_sequenced_removal}
use Rattle.ft_props.specs.Compaction.{KeepsList, is_collectable}
use Rattle.ft_props.specs.Steps.{Sequence, rebuilt_list}
use Rattle.ft_props.proofs.CompactedList.{keeps-higher}
use Rattle.ft_op.specs.Operation.{sub_operations}
use Rattle.ft_op.specs.Document.{Document}
use Rattle.ft_op.specs.Stages.{Stage}
use Rattle.ft_msg.specs.Acknowledgement.{ack_stages, after_own_message, renamed_edit}
use Rattle.ft_msg.specs.Agreed.{reference_number, take_entry, with_numbers}
use Rattle.ft_msg.specs.Client.{NaiveClient, PendingEdit, SentAs, after_edit, client_over, connect, drop_link, floor, local_edit, local_sub_operations, noop, sent_as, stages_of, with_draft}
use Rattle.ft_msg.specs.Compacted.{IsCompacted, KeepsCells, KeepsDocument}
use Rattle.ft_msg.specs.Process.{after_entry, after_foreign_message, come_online, is_oldest, is_sent_as, is_op, is_op_kind, is_own, is_own_join, process, process_fault}
use Rattle.ft_msg.specs.Reconnection.{sent_draft, rebuilt_document, resubmitted_edits}
use Rattle.ft_laws_agreement.specs.Starts.{IsRunFrom, IsSoundRun}
use Rattle.ft_msg.specs.ClientSteps.{ClientStep, Edits, Takes, after_step, has_fitting_body, is_none_pending, is_without_edits, unless_refused}
use Rattle.ft_laws_agreement.proofs.ClientHolds.{EditsTold, draft-doc, flat, sent-facts, told-unrenamed}
use Rattle.ft_laws_agreement.proofs.ClientsAgree.{accepted, all-stepped-from, op-kind}
use Rattle.ft_laws_agreement.proofs.CountedEntries.{edited}
use Rattle.ft_laws_agreement.proofs.HoldsAfterForeign.{holds-more}
use Rattle.ft_laws_agreement.proofs.ToldStages.{Holds, ToldStage, renamed_told}
use Rattle.ft_laws_agreement.proofs.TrimmedContent.{body_effect-trimmed, with_numbers-trimmed}
use Rattle.ft_laws_agreement.proofs.TrimmedDocument.{Trimmed, is_removed, without_lists}
use Rattle.ft_laws_compaction.specs.Free.{HasFreeTombstones}
use Rattle.ft_laws_compaction.specs.Keeping.{AnswersAlike, refused, taken}
use Rattle.ft_laws_compaction.proofs.Acknowledged.{AckedAlike, edit-alike}
use Rattle.ft_laws_compaction.proofs.ClientFacts.{ClientFacts, collectable-sequenced, kept-beside, pending-stays, removed-sequenced, staying}
use Rattle.ft_laws_compaction.proofs.Floors.{least-append, least-more, least-renamed, least-resubmitted}
use Rattle.ft_laws_compaction.proofs.FreeTombstones.{least-first, least_ref}
use Rattle.ft_laws_compaction.proofs.KeptLists.{Leaves, free-keeps, leaves-higher}
use Rattle.ft_laws_compaction.proofs.LocalEdits.{EditAlike, HoldsPending, edit_refused, edit_taken, sub_operations-alike}
use Rattle.ft_laws_compaction.proofs.Rejoined.{list-rebuilt, resubmitted-kept}
use Rattle.ft_laws_compaction.proofs.RemovedUnits.{StayRemoved}
use Rattle.ft_laws_compaction.proofs.Runs.{NumbersFit, facts-from, entry-numbers, process_from, run-facts, run-next, run-numbers, run-removed, run-sequenced}

-- ---- what a step leaves

-- two lists after a step, of which one leaves something out
pub record LeavesList (low : ℕ) (kept list : Sequence) : Type 0 where
  pub items : Leaves low kept.items list.items
  pub made : kept.made ≡ list.made

-- the document of a client after a step and a compacted one
document-keeps : (z : NaiveClient) (kept : Document) → LeavesList (floor z) kept.text z.doc.text → LeavesList (floor z) kept.rows z.doc.rows
    → LeavesList (floor z) kept.cols z.doc.cols
    → HasFreeTombstones z → KeepsCells z.doc.rows.items z.doc.cols.items kept.cells z.doc.cells → without_lists kept ≡ without_lists z.doc → KeepsDocument z kept
document-keeps z kept text rows cols free cells rest = record {
  text = record { items = free-keeps free.text text.items; made = text.made };
  rows = record { items = free-keeps free.rows rows.items; made = rows.made };
  cols = record { items = free-keeps free.cols cols.items; made = cols.made };
  cells = cells;
  rest = ap (λ (d : Document). record d { text = kept.text; rows = kept.rows; cols = kept.cols; cells = kept.cells }) rest;
}

-- cells of units that weren't removed before the step agree, so those of units that aren't removed after it do
cells-keep : (low : ℕ) (x z : NaiveClient) (kept : Document) → Trimmed low (staying x) kept z.doc → StayRemoved x.doc z.doc
    → KeepsCells z.doc.rows.items z.doc.cols.items kept.cells z.doc.cells
cells-keep low x z kept t g = record {
  values = λ row col a b. t.cells row col (unremoved (has_sequenced_removal x.doc.rows.items row) (g.rows row) a)
      (unremoved (has_sequenced_removal x.doc.cols.items col) (g.cols col) b);
  none = t.unwritten;
}
  where
    unremoved : (a : Bool) {b : Bool} → (a ≡ true → b ≡ true) → b ≡ false → not a ≡ true
    unremoved false f h = refl
    unremoved true f h = cc (f refl)

beside-keeps : (low : ℕ) (x z : NaiveClient) (kept : Document) → low ≤ floor z → HasFreeTombstones z → StayRemoved x.doc z.doc
    → Trimmed low (staying x) kept z.doc → KeepsDocument z kept
beside-keeps low x z kept l free g t =
    document-keeps z kept (record { items = leaves-higher l t.text.items; made = t.text.made })
    (record { items = leaves-higher l t.rows.items; made = t.rows.made }) (record { items = leaves-higher l t.cols.items; made = t.cols.made })
    free (cells-keep low x z kept t g) t.rest

pub client-keeps : (z other : NaiveClient) (kept : Document) → other ≡ record z { doc = kept } → KeepsDocument z kept → IsCompacted other z
client-keeps z other kept e k = record {
  doc = subst (λ (y : NaiveClient). KeepsDocument z y.doc) (sym e) k;
  rest = e ∙ ap (λ (y : NaiveClient). record z { doc = y.doc }) (sym e);
}

-- ---- links

same-link : (x z : NaiveClient) (kept : Document) → z.doc ≡ x.doc → z.pending ≡ x.pending → KeepsDocument x kept → KeepsDocument z kept
same-link x z kept e f k = moved z.doc z.pending e f
  where
    moved : (doc : Document) (edits : List PendingEdit) → doc ≡ x.doc → edits ≡ x.pending → KeepsDocument (record z { doc = doc; pending = edits }) kept
    moved doc edits e f =
        subst (λ d. KeepsDocument (record z { doc = d; pending = edits }) kept) (sym e)
        (subst (λ es. KeepsDocument (record z { doc = x.doc; pending = es }) kept) (sym f) (record { text = k.text; rows = k.rows; cols = k.cols; cells = k.cells; rest = k.rest }))

connects : (x : NaiveClient) (kept : Document) (conn : ℕ) → KeepsDocument x kept → (link : Link)
    → AnswersAlike LinkFault (connect (record x { doc = kept; link = link }) conn) (connect (record x { link = link }) conn)
connects x kept conn k Offline = taken _ _ (record { doc = record { text = k.text; rows = k.rows; cols = k.cols; cells = k.cells; rest = k.rest }; rest = refl })
connects x kept conn k (Joining c) = refused AlreadyConnected
connects x kept conn k (Online c) = refused AlreadyConnected

pub connects-alike : (x kept : NaiveClient) (conn : ℕ) → IsCompacted kept x → AnswersAlike LinkFault (connect kept conn) (connect x conn)
connects-alike x kept conn k = subst (λ y. AnswersAlike LinkFault (connect y conn) (connect x conn)) (sym k.rest) (connects x kept.doc conn k.doc x.link)

drops : (x : NaiveClient) (kept : Document) → KeepsDocument x kept → (link : Link)
    → AnswersAlike LinkFault (drop_link (record x { doc = kept; link = link })) (drop_link (record x { link = link }))
drops x kept k Offline = refused NotConnected
drops x kept k (Joining c) = taken _ _ (record { doc = record { text = k.text; rows = k.rows; cols = k.cols; cells = k.cells; rest = k.rest }; rest = refl })
drops x kept k (Online c) = taken _ _ (record { doc = record { text = k.text; rows = k.rows; cols = k.cols; cells = k.cells; rest = k.rest }; rest = refl })

pub drops-alike : (x kept : NaiveClient) → IsCompacted kept x → AnswersAlike LinkFault (drop_link kept) (drop_link x)
drops-alike x kept k = subst (λ y. AnswersAlike LinkFault (drop_link y) (drop_link x)) (sym k.rest) (drops x kept.doc k.doc x.link)

-- the draft of a noop
abbrev noop_sent : NaiveClient → ℕ → ℕ → NaiveClient
noop_sent x conn ref = record x {
  link = Online conn;
  next_client_seq = x.next_client_seq + 1;
  queue = x.queue ++
      (record { client_seq = x.next_client_seq; ref_seq = ref; body = Nothing } ∷ []);
}

idles : (x : NaiveClient) (kept : Document) → KeepsDocument x kept → (link : Link)
    → AnswersAlike LinkFault (noop (record x { doc = kept; link = link })) (noop (record x { link = link }))
idles x kept k Offline = refused NotConnected
idles x kept k (Joining c) = refused NotConnected
idles x kept k (Online c) =
    taken _ _ (client-keeps (noop_sent x c x.doc.number) (noop_sent (record x { doc = kept }) c kept.number) kept
    (ap (λ n. record (noop_sent x c n) { doc = kept }) (ap (λ (d : Document). d.number) k.rest))
    (record { text = k.text; rows = k.rows; cols = k.cols; cells = k.cells; rest = k.rest }))

pub idles-alike : (x kept : NaiveClient) → IsCompacted kept x → AnswersAlike LinkFault (noop kept) (noop x)
idles-alike x kept k = subst (λ y. AnswersAlike LinkFault (noop y) (noop x)) (sym k.rest) (idles x kept.doc k.doc x.link)

pub sends-alike : (x kept : NaiveClient) → IsCompacted kept x → IsCompacted (record kept { queue = drop 1 kept.queue }) (record x { queue = drop 1 x.queue })
sends-alike x kept k =
    client-keeps (record x { queue = drop 1 x.queue }) (record kept { queue = drop 1 kept.queue }) kept.doc (ap (λ (y : NaiveClient). record y { queue = drop 1 y.queue }) k.rest)
    (record { text = k.doc.text; rows = k.doc.rows; cols = k.doc.cols; cells = k.doc.cells; rest = k.doc.rest })

-- ---- an edit of its own

pending-held : (x : NaiveClient) → ClientFacts x → HoldsPending (staying x)
pending-held x f = record {
  text = λ k i. pending-stays (is_collectable (floor x)) x.doc.text.items k i (collectable-sequenced (floor x) x.doc.text.items);
  rows = λ k i. pending-stays is_removed x.doc.rows.items k i (removed-sequenced x.doc.rows.items f.ready.rows.later);
  cols = λ k i. pending-stays is_removed x.doc.cols.items k i (removed-sequenced x.doc.cols.items f.ready.cols.later);
}

draft-kept : (sent : Option SentAs) (n : ℕ) (x : NaiveClient) (kept : Document) → with_draft sent n (record x { doc = kept }) ≡ record (with_draft sent n x) { doc = kept }
draft-kept None n x kept = refl
draft-kept (Some sent) n x kept = refl

draft-floor : (sent : Option SentAs) (n : ℕ) (x : NaiveClient) → floor (with_draft sent n x) ≡ floor x
draft-floor None n x = refl
draft-floor (Some sent) n x = refl

-- the pending edits with one more
abbrev edits_with : NaiveClient → ChannelOp → List Stage → ℕ → List PendingEdit
edits_with x op stages n = x.pending ++ (record { stages = stages; ref_seq = n; sent = sent_as x.link x.next_client_seq op } ∷ [])

abbrev with_edit : NaiveClient → ChannelOp → Document → List Stage → ℕ → NaiveClient
with_edit x op doc stages n = record x { doc = doc; last_stage = x.last_stage + length stages; pending = edits_with x op stages n }

same-edit : (x : NaiveClient) (op : ChannelOp) (start kept doc : Document) (stages : List Stage) → start.number ≡ x.doc.number
    → after_edit op kept stages (record x { doc = start }) ≡ record (after_edit op doc stages x) { doc = kept }
same-edit x op start kept doc stages e =
    let sent = sent_as x.link x.next_client_seq op in
    ap (λ n. with_draft sent n (with_edit x op kept stages n)) e ∙ draft-kept sent x.doc.number (with_edit x op doc stages x.doc.number) kept

self : (n : ℕ) → n ≤ n
self n = omega arith

module _ (steps : List ClientStep) (x : NaiveClient) (run : IsSoundRun steps x) (op : ChannelOp) (start : Document) (k : KeepsDocument x start) where
  edit-taken : {r s : Result (Document × List Stage) EditFault} → local_sub_operations x.doc (stages_of x) (x.last_stage + 1) (sub_operations op) ≡ s
      → EditAlike (floor x) (staying x) r s
      → AnswersAlike EditFault (edited (record x { doc = start }) op r) (edited x op s)
  edit-taken e (edit_refused fault) = refused fault
  edit-taken e (edit_taken kept doc stages t names) =
      let z = after_edit op doc stages x in
      let sent = sent_as x.link x.next_client_seq op in
      let made : after_step x (Edits op) ≡ Some (after_edit op doc stages x) = ap (λ r. unless_refused (edited x op r)) e in
      let next = run-next steps (Edits op) x z run made refl in
      let here : z.doc ≡ doc = draft-doc sent x.doc.number (with_edit x op doc stages x.doc.number) in
      let number = run-numbers steps x run in
      let least : floor x ≤ x.doc.minimum = least-first x.pending x.doc.minimum in
      let minimum : doc.minimum ≡ x.doc.minimum = ap (λ (d : Document). d.minimum) (sym here) ∙ ap (λ (d : Document). d.minimum) (run-sequenced steps (Edits op) x z run next) in
      let low : floor x ≤ floor (after_edit op doc stages x) =
      subst (λ n. floor x ≤ n) (sym (draft-floor sent x.doc.number (with_edit x op doc stages x.doc.number)))
      (subst (λ n. floor x ≤ least_ref n (edits_with x op stages x.doc.number)) (sym minimum)
      (least-append (floor x) x.pending (record { stages = stages; ref_seq = x.doc.number; sent = sent }) x.doc.minimum (self (floor x)) (omega arith))) in
      taken _ _ (client-keeps z (after_edit op kept stages (record x { doc = start })) kept (same-edit x op start kept doc stages (ap (λ (d : Document). d.number) k.rest))
      (beside-keeps (floor x) x z kept low (facts-from run.start (steps ++ (Edits op ∷ [])) z next).free (run-removed steps (Edits op) x z run next)
      (subst (λ d. Trimmed (floor x) (staying x) kept d) (sym here) t)))

  edit-answers : AnswersAlike EditFault (local_edit (record x { doc = start }) op) (local_edit x op)
  edit-answers =
      let f = run-facts steps x run in
      edit-taken refl (sub_operations-alike (floor x) (staying x) (pending-held x f) (sub_operations op) start x.doc (stages_of x) (x.last_stage + 1)
      (kept-beside x start f k) f.names.text)

pub edits-answer : (steps : List ClientStep) (x kept : NaiveClient) (op : ChannelOp) → IsSoundRun steps x → IsCompacted kept x
    → AnswersAlike EditFault (local_edit kept op) (local_edit x op)
edits-answer steps x kept op run k = subst (λ y. AnswersAlike EditFault (local_edit y op) (local_edit x op)) (sym k.rest) (edit-answers steps x run op kept.doc k.doc)

-- ---- an entry

fault-same : (x : NaiveClient) (start : Document) (entry : Entry) → KeepsDocument x start → process_fault (record x { doc = start }) entry ≡ process_fault x entry
fault-same x start entry k = ap (λ d. process_fault (record x { doc = d }) entry) k.rest

module _ (steps : List ClientStep) (x : NaiveClient) (run : IsSoundRun steps x) (entry : Entry) (fits : has_fitting_body entry ≡ true)
    (passed : process_fault x entry ≡ None) (start : Document) (k : KeepsDocument x start) where
  facts : ClientFacts x
  facts = run-facts steps x run

  numbers : NumbersFit x entry
  numbers = entry-numbers x entry passed

  beside : Trimmed (floor x) (staying x) start x.doc
  beside = kept-beside x start facts k

  low-minimum : floor x ≤ x.doc.minimum
  low-minimum = least-first x.pending x.doc.minimum

  -- what holds of the client after the entry
  after-run : (z : NaiveClient) → after_entry x entry ≡ z → IsRunFrom run.start (steps ++ (Takes entry ∷ [])) z
  after-run z e = run-next steps (Takes entry) x z run (ap (λ o. unless_refused (process_from x entry o)) passed ∙ ap Some e) (rw fits refl)

  after-keeps : (z : NaiveClient) (kept : Document) → after_entry x entry ≡ z → floor x ≤ floor z → Trimmed (floor x) (staying x) kept z.doc → KeepsDocument z kept
  after-keeps z kept e l t =
      let next = after-run z e in
      beside-keeps (floor x) x z kept l (facts-from run.start (steps ++ (Takes entry ∷ [])) z next).free (run-removed steps (Takes entry) x z run next) t

  foreign : after_entry x entry ≡ after_foreign_message x entry → IsCompacted (after_foreign_message (record x { doc = start }) entry) (after_foreign_message x entry)
  foreign e =
      let body : is_op entry.msg.body ≡ true → floor x ≤ reference_number entry.msg.ref_seq = λ o.
      (let m = numbers.ref (op-kind (is_op_kind entry.msg.kind) entry.msg.body fits o) in let l = low-minimum in omega arith) in
      client-keeps (after_foreign_message x entry) (after_foreign_message (record x { doc = start }) entry) (take_entry start entry) refl
      (after-keeps (after_foreign_message x entry) (take_entry start entry) e (least-more x.pending x.doc.minimum entry.msg.min numbers.rises)
      (with_numbers-trimmed entry _ _ (body_effect-trimmed entry.msg.seq entry.origin (reference_number entry.msg.ref_seq) entry.msg.body start x.doc body beside)))

  -- ---- its own join

  joined-list : (stages : List ℕ) (high : ℕ) (held : ElementId → Bool) (kept list : Sequence) → floor x ≤ high → KeepsList (floor x) held kept list
      → LeavesList high (rebuilt_list stages kept) (rebuilt_list stages list)
  joined-list stages high held kept list l h = record { items = list-rebuilt (keeps-higher l h.items) stages; made = h.made }

  join : after_entry x entry ≡ come_online x entry → IsCompacted (come_online (record x { doc = start }) entry) (come_online x entry)
  join e =
      let z = come_online x entry in
      let stages = map (λ (t : Stage). t.stage) (stages_of x) in
      let begun = with_numbers-trimmed entry start x.doc beside in
      let edits : resubmitted_edits (with_numbers entry start) entry.origin 1 x.pending ≡ resubmitted_edits (with_numbers entry x.doc) entry.origin 1 x.pending =
      resubmitted-kept (with_numbers entry start) (with_numbers entry x.doc) begun entry.origin 1 x.pending refl facts.names.text in
      let next = after-run z e in
      let free = facts-from run.start (steps ++ (Takes entry ∷ [])) z next in
      let l = low-minimum in
      let m = numbers.rises in
      let b = numbers.below in
      let high : floor x ≤ floor (come_online x entry) = least-resubmitted (floor x) (with_numbers entry x.doc) entry.origin 1 x.pending entry.msg.min
      (omega arith) (omega arith) in
      let g = run-removed steps (Takes entry) x z run next in
      client-keeps z (come_online (record x { doc = start }) entry) (rebuilt_document stages (with_numbers entry start))
      (ap (λ es. record x {
        doc = rebuilt_document stages (with_numbers entry start);
        link = Online entry.origin;
        next_client_seq = length es + 1;
        queue = flat_map (sent_draft entry.msg.seq) es;
        pending = es;
      }) edits)
      (document-keeps z (rebuilt_document stages (with_numbers entry start))
      (joined-list stages (floor z) (staying x).text start.text x.doc.text high beside.text)
      (joined-list stages (floor z) (staying x).rows start.rows x.doc.rows high beside.rows)
      (joined-list stages (floor z) (staying x).cols start.cols x.doc.cols high beside.cols) free.free
      (record {
        values = λ row col a c. beside.cells row col (unremoved (has_sequenced_removal x.doc.rows.items row) (g.rows row) a)
            (unremoved (has_sequenced_removal x.doc.cols.items col) (g.cols col) c);
        none = beside.unwritten;
      })
      (ap (with_numbers entry) beside.rest))
    where
      unremoved : (a : Bool) {b : Bool} → (a ≡ true → b ≡ true) → b ≡ false → not a ≡ true
      unremoved false f h = refl
      unremoved true f h = cc (f refl)

  -- ---- its own message

  own-edit : (edit : PendingEdit) (edits : List PendingEdit) (out other : Document × (ElementId → ElementId)) → x.pending ≡ edit ∷ edits → after_entry x entry
      ≡ record x { doc = with_numbers entry out.0; pending = map (renamed_edit out.1) edits }
      → AckedAlike (floor x) (staying x) other out → IsCompacted (record x { doc = with_numbers entry other.0; pending = map (renamed_edit other.1) edits })
      (record x { doc = with_numbers entry out.0; pending = map (renamed_edit out.1) edits })
  own-edit edit edits out other p e a =
      let z : NaiveClient = record x { doc = with_numbers entry out.0; pending = map (renamed_edit out.1) edits } in
      let m = numbers.rises in
      let first : min x.doc.minimum edit.ref_seq ≤ entry.msg.min = (let l = min-le_left x.doc.minimum edit.ref_seq in omega arith) in
      let low : floor x ≤ floor (record x { doc = with_numbers entry out.0; pending = map (renamed_edit out.1) edits }) =
      subst (λ es. least_ref x.doc.minimum es ≤ least_ref entry.msg.min (map (renamed_edit out.1) edits)) (sym p)
      (least-renamed out.1 edits (min x.doc.minimum edit.ref_seq) entry.msg.min first) in
      client-keeps z (record x { doc = with_numbers entry other.0; pending = map (renamed_edit other.1) edits }) (with_numbers entry other.0)
      (ap (λ f. record x { doc = with_numbers entry other.0; pending = map (renamed_edit f) edits }) a.names)
      (after-keeps z (with_numbers entry other.0) e low (with_numbers-trimmed entry other.0 out.0 a.doc))

  abbrev acked_from : ℕ → ℕ → NaiveClient → List PendingEdit → NaiveClient
  acked_from s c y [] = y
  acked_from s c y (edit ∷ edits) = let acked = ack_stages s c (λ i. i) edit.stages y.doc in record y { doc = acked.0; pending = map (renamed_edit acked.1) edits }

  abbrev own_from : NaiveClient → List PendingEdit → NaiveClient
  own_from y edits = let z = acked_from entry.msg.seq entry.origin y edits in record z { doc = with_numbers entry z.doc }

  own-first : (c : ℕ) (gs : List ToldStage) (gss : List (List ToldStage)) (edit : PendingEdit) (edits : List PendingEdit)
      → Holds c x.doc.number x.doc.number x.last_stage (gs ++ flat gss) x.doc → EditsTold c (gs ∷ gss) (edit ∷ edits)
      → x.pending ≡ edit ∷ edits → is_sent_as entry edit ≡ true → after_entry x entry ≡ own_from x (edit ∷ edits)
      → IsCompacted (own_from (record x { doc = start }) (edit ∷ edits)) (own_from x (edit ∷ edits))
  own-first c gs gss edit edits h told p sent e =
      let s = entry.msg.seq in
      let n = x.doc.number in
      let one = told.0 in
      let said = sent-facts c gs edit.stages edit.ref_seq entry edit.sent one.sent sent in
      let next = (accepted x entry passed).next in
      let begun : Holds c x.doc.number entry.msg.seq x.last_stage (map (renamed_told (λ i. i)) (gs ++ flat gss)) x.doc =
      subst (λ ts. Holds c n s x.last_stage ts x.doc) (sym (told-unrenamed (gs ++ flat gss)))
      (holds-more c n n n s x.last_stage (gs ++ flat gss) x.doc (omega arith) (omega arith) h) in
      let least = least-first edits (min x.doc.minimum edit.ref_seq) in
      let below = min-le_right x.doc.minimum edit.ref_seq in
      let low : floor x ≤ edit.ref_seq = subst (λ es. least_ref x.doc.minimum es ≤ edit.ref_seq) (sym p) (omega arith) in
      let a = edit-alike c n s x.last_stage edit.ref_seq gs (flat gss) (λ i. i) start x.doc low one.refs begun beside in
      let b : AckedAlike (floor x) (staying x) (ack_stages entry.msg.seq entry.origin (λ i. i) edit.stages start)
      (ack_stages entry.msg.seq entry.origin (λ i. i) edit.stages x.doc) =
      subst (λ ss. AckedAlike (floor x) (staying x) (ack_stages s entry.origin (λ i. i) ss start) (ack_stages s entry.origin (λ i. i) ss x.doc)) (sym one.stages)
      (subst (λ d. AckedAlike (floor x) (staying x) (ack_stages s d (λ i. i) (map (λ (g : ToldStage). g.stage) gs) start)
      (ack_stages s d (λ i. i) (map (λ (g : ToldStage). g.stage) gs) x.doc)) (sym said.origin) a) in
      own-edit edit edits (ack_stages s entry.origin (λ i. i) edit.stages x.doc) (ack_stages s entry.origin (λ i. i) edit.stages start) p e b

  own-told : (c : ℕ) (gss : List (List ToldStage)) (edits : List PendingEdit) → Holds c x.doc.number x.doc.number x.last_stage (flat gss) x.doc
      → EditsTold c gss edits → x.pending ≡ edits → is_oldest entry edits ≡ true
      → after_entry x entry ≡ own_from x edits → IsCompacted (own_from (record x { doc = start }) edits) (own_from x edits)
  own-told c gss [] h told p oldest e = (cc)
  own-told c [] (edit ∷ edits) h told p oldest e = absurd told
  own-told c (gs ∷ gss) (edit ∷ edits) h told p oldest e = own-first c gs gss edit edits h told p oldest e

  own : is_oldest entry x.pending ≡ true → after_entry x entry ≡ after_own_message x entry
      → IsCompacted (after_own_message (record x { doc = start }) entry) (after_own_message x entry)
  own oldest e = let s = all-stepped-from run.start steps x run.run in own-told s.c s.gss x.pending s.client.doc s.client.edits refl oldest e

  -- ---- each of the three

  entry-kept : (b : Bool) → is_own_join x.link entry.msg.kind entry.origin ≡ b → (o : Bool) → is_op entry.msg.body && is_own x entry ≡ o
      → IsCompacted (cond b (come_online (record x { doc = start }) entry) (cond o (after_own_message (record x { doc = start }) entry)
      (after_foreign_message (record x { doc = start }) entry)))
      (cond b (come_online x entry) (cond o (after_own_message x entry) (after_foreign_message x entry)))
  entry-kept true e o f = join (ap (λ b. cond b (come_online x entry) (cond (is_op entry.msg.body && is_own x entry) (after_own_message x entry)
      (after_foreign_message x entry))) e)
  entry-kept false e true f =
      let p = both (is_op entry.msg.body) (is_own x entry) f in
      let op = op-kind (is_op_kind entry.msg.kind) entry.msg.body fits p.0 in
      own ((accepted x entry passed).oldest (rw (op, p.1) refl))
      (ap (λ b. cond b (come_online x entry) (cond (is_op entry.msg.body && is_own x entry) (after_own_message x entry) (after_foreign_message x entry))) e
      ∙ ap (λ o. cond o (after_own_message x entry) (after_foreign_message x entry)) f)
  entry-kept false e false f =
      foreign
      (ap (λ b. cond b (come_online x entry) (cond (is_op entry.msg.body && is_own x entry) (after_own_message x entry) (after_foreign_message x entry))) e
      ∙ ap (λ o. cond o (after_own_message x entry) (after_foreign_message x entry)) f)

  pub after-kept : IsCompacted (after_entry (record x { doc = start }) entry) (after_entry x entry)
  after-kept = entry-kept (is_own_join x.link entry.msg.kind entry.origin) refl (is_op entry.msg.body && is_own x entry) refl

pub entries-answer : (steps : List ClientStep) (x kept : NaiveClient) (entry : Entry) → IsSoundRun steps x → IsCompacted kept x → has_fitting_body entry ≡ true
    → AnswersAlike ProcessFault (process kept entry) (process x entry)
entries-answer steps x kept entry run k fits =
    subst (λ y. AnswersAlike ProcessFault (process y entry) (process x entry)) (sym k.rest)
    (subst (λ o. AnswersAlike ProcessFault (process_from (record x { doc = kept.doc }) entry o) (process x entry)) (sym (fault-same x kept.doc entry k.doc))
    (step (process_fault x entry) refl))
  where
    step : (o : Option ProcessFault) → process_fault x entry ≡ o → AnswersAlike ProcessFault (process_from (record x { doc = kept.doc }) entry o) (process_from x entry o)
    step (Some fault) e = refused fault
    step None e = taken _ _ (after-kept steps x run entry fits e kept.doc k.doc)

-- ---- a new client over its document

pub restarts-alike : (x kept : NaiveClient) → IsCompacted kept x → is_without_edits x ≡ true → IsCompacted (client_over kept.doc) (client_over x.doc)
restarts-alike x kept k h = step x.pending refl h
  where
    step : (edits : List PendingEdit) → x.pending ≡ edits → is_none_pending edits ≡ true → IsCompacted (client_over kept.doc) (client_over x.doc)
    step (edit ∷ edits) p g = (cc)
    step [] p g =
        let d : KeepsDocument (record x { pending = [] }) kept.doc = subst (λ es. KeepsDocument (record x { pending = es }) kept.doc) p k.doc in
        record { doc = record { text = d.text; rows = d.rows; cols = d.cols; cells = d.cells; rest = d.rest }; rest = refl }
