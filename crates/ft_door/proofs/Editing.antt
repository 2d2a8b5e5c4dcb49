-- What an editor is told of its calls, and for which one it stands then.
use Rattle.std.proofs.Common.{chars, if◌then◌else◌, ◌≡◌, ℕ, ◌+◌, ◌*◌, ◌<◌, ◌≤◌, Bool, true, false, cond, not, ◌&&◌, IsTrue, nat_le, List, [], ◌∷◌, Option, Some, None, Result, Ok, Err, drop, is_some, length, max, option_map, slice_get, refl, sym, ◌∙◌, ap, subst, arith}
use Rattle.std.proofs.lemmas.Bool.{and_parts, false_from_ne_true, lt-ltb, le-leb, or_left}
use Rattle.std.proofs.lemmas.Bool.Decides.{nat_tests}
use Rattle.std.proofs.lemmas.Str.{IsUtf8-from_is_utf8, is_utf8-from_IsUtf8}
use Rattle.std.specs.Prelude.{OnErr, OnOk}
use Rattle.std.specs.Str.{IsUtf8, is_utf8}
use Rattle.ft_base.specs.Scan.{len}
use Rattle.ft_props.specs.Element.{ListElement, is_pending}
use Rattle.ft_props.specs.Properties.{Characters}
use Rattle.ft_sumdoc.specs.declared.summary.SumDoc.{SumDoc}
use Rattle.ft_sumdoc.specs.Valid.{IsValidSummary}
use Rattle.ft_op.specs.declared.operations.ChannelOp.{ChannelOp}
use Rattle.ft_op.specs.Document.{Document, empty}
use Rattle.ft_op.specs.WellFormed.{IsWellFormed}
use Rattle.ft_msg.specs.declared.faults.Cause.TheVariants.{NotUtf8}
use Rattle.ft_msg.specs.declared.faults.EditFault.{EditFault}
use Rattle.ft_msg.specs.declared.faults.LinkFault.{LinkFault}
use Rattle.ft_msg.specs.declared.faults.LinkFault.TheVariants as links
use Rattle.ft_msg.specs.declared.faults.ProcessFault.{ProcessFault}
use Rattle.ft_msg.specs.declared.messages.Body.{Body}
use Rattle.ft_msg.specs.declared.messages.Draft.{Draft}
use Rattle.ft_msg.specs.declared.messages.Entry.{Entry}
use Rattle.ft_msg.specs.declared.messages.Message.{Message}
use Rattle.ft_msg.specs.declared.views.Link.{Link}
use Rattle.ft_msg.specs.declared.views.Link.TheVariants.{Joining, Offline, Online}
use Rattle.ft_msg.specs.declared.views.Numbers.{Numbers}
use Rattle.ft_msg.specs.declared.views.View.{View}
use Rattle.ft_msg.specs.Answers.{HeldCounts, ReplicaState, RunsFor, StartsOver, held_in, numbers_of, view_content, with_queue}
use Rattle.ft_msg.specs.Client.{NaiveClient, client_over, connect, local_edit}
use Rattle.ft_msg.specs.ClientSteps.{Connects, Drops, Edits, Sends, Takes, unless_refused}
use Rattle.ft_msg.specs.Content.{ViewContent, content}
use Rattle.ft_msg.specs.Process.{process}
use Rattle.ft_msg.specs.Reached.{IsReached, IsStart, from_nothing, from_summary}
use Rattle.ft_msg.specs.Summary.{doc_of}
use Rattle.ft_msg.specs.WellFormed.{IsWellFormedDraft, IsWellFormedMessage}
use Rattle.ft_msg.proofs.LinkSteps.{stands-link}
use Rattle.ft_seqr.specs.declared.refusals.Refusal.{Refusal}
use Rattle.ft_seqr.specs.declared.refusals.Refusal.TheVariants.{AlreadyConnected, Malformed, NotConnected}
use Rattle.ft_seqr.specs.Refusals.{refusal_of_edit, refusal_of_process}
use Rattle.ft_seqr.specs.Walk.{Step, passes, refuses}
use Rattle.ft_seqr.specs.World.{body_load, op_load}
use Rattle.ft_laws_agreement.specs.Sequencing.{Each}
use Rattle.ft_laws_sessions.specs.ClientDrafts.{DraftsOfClientsAreFormed, IsMadeAlone, element_count, start_cost}
use Rattle.ft_laws_sessions.proofs.ClientDrafts.{alone-after, alone-reached}
use Rattle.ft_replay.specs.Observation.{names_with, numbered_entry}
use Rattle.ft_session.specs.Outputs.{IsViewOf}
use Rattle.ft_session.proofs.Counting.{stands-minimum, stands-other, stands-pending, stands-skipped}
use Rattle.ft_door.specs.declared.calls.Told.{Told}
use Rattle.ft_door.specs.declared.calls.Told.TheVariants.{Full, Refused, Taken}
use Rattle.ft_changes.specs.declared.changes.ViewChange.{ViewChange}
use Rattle.ft_changes.specs.Shown.{ShownContent, shown_content}
use Rattle.ft_change_lines.specs.FromNothing.{told_from_nothing}
use Rattle.ft_door.specs.Editors.{EditorState, AnswersStep, IsEditor, IsNextFor, IsSomeEditor, Leads, NaiveEditor, TakesJoin, TellsStep, as_client, client_after, connect_as, connect_line, drop_answer, drop_step, dropped_unless, edit_answer, edit_exceeds, edited, editor_of, entry_answer, is_free, is_join, is_offline, informed, is_sender, joining_as, listening, load_exceeds, load_limit, load_of, load_reading, load_reading_exceeds, message_answer, message_answer_exceeds, message_exceeds, never_exceeds, new_editor, next_exceeds, no_name, oldest_bytes, or_same, order_fault, shown_link, start_load, table_limit, take_entry, is_awaited_by, message_refusal, take_message, take_next, since_nothing, since_told, told_of, waits_after, draft_bytes, with_listener}
use Rattle.ft_door.specs.Editors as editors
use Rattle.ft_door.proofs.GivenSteps.{join-taken, lead-same, runs-queued}

-- ---- what is told of a step

-- it stands for some editor behind it
pub still-some : (told : Told) (old new : EditorState) (step : NaiveEditor → Step NaiveEditor) (exceeds : NaiveEditor → Bool) → TellsStep told old new step exceeds
    → IsSomeEditor old → IsSomeEditor new
still-some Taken old new step exceeds t some = ((step some.0).made, (t some.0 some.1).1)
still-some (Refused why) old new step exceeds t some = ((step some.0).made, (t some.0 some.1).1)
still-some Full old new step exceeds t some = subst IsSomeEditor (sym t.0) some

-- what is told of one step is told of another that is the same, and is too much where that is
pub step-same : (told : Told) (old new : EditorState) (step other : NaiveEditor → Step NaiveEditor) (exceeds beyond : NaiveEditor → Bool)
    → ((x : NaiveEditor) → IsEditor old x → step x ≡ other x) → ((x : NaiveEditor) → IsEditor old x → exceeds x ≡ beyond x)
    → TellsStep told old new step exceeds → TellsStep told old new other beyond
step-same Taken old new step other exceeds beyond same both t = λ x h. subst (λ (s : Step NaiveEditor). (s.refusal ≡ None) × IsEditor new s.made) (same x h) (t x h)
step-same (Refused why) old new step other exceeds beyond same both t = λ x h.
    subst (λ (s : Step NaiveEditor). (s.refusal ≡ Some why) × IsEditor new s.made) (same x h) (t x h)
step-same Full old new step other exceeds beyond same both t = (t.0, λ x h. sym (both x h) ∙ t.1 x h)

-- it is refused, and changes nothing
pub refused-told : (why : Refusal) (s : EditorState) (step : NaiveEditor → Step NaiveEditor) → ((x : NaiveEditor) → IsEditor s x → step x ≡ refuses x why)
    → TellsStep (Refused why) s s step never_exceeds
refused-told why s step is = λ x h. subst (λ (t : Step NaiveEditor). (t.refusal ≡ Some why) × IsEditor s t.made) (sym (is x h)) (refl, h)

-- another replica that is as it was, and changes that lead to what its client shows
same-editor : (s : EditorState) (r : ReplicaState) (changes : Option (List ViewChange)) (x : NaiveEditor) → r ≡ s.replica → Leads x.listener changes x.client → IsEditor s x
    → IsEditor (record s { replica = r; told = changes }) x
same-editor s r changes x same leads h = record {
  runs = subst (λ (q : ReplicaState). RunsFor q x.client) (sym same) h.runs;
  made = h.made;
  low = h.low;
  names = h.names;
  name = h.name;
  waits = h.waits;
  load = h.load;
  leads = leads;
}

pub editor-reached : (s : EditorState) (x : NaiveEditor) → IsEditor s x → IsReached x.client
editor-reached s x h = alone-reached x.load x.client h.made

-- the fields of an editor, and it by another name for each
abbrev pub state_of : ReplicaState → Option (List ViewChange) → List Characters → Characters → Bool → ℕ → EditorState
state_of replica told names name waits load = record { replica = replica; names = names; name = name; waits = waits; load = load; told = told }

pub told-as : (told other : Told) (old was new is : EditorState) (step : NaiveEditor → Step NaiveEditor) (exceeds : NaiveEditor → Bool) → told ≡ other → was ≡ old → new ≡ is
    → TellsStep other was is step exceeds → TellsStep told old new step exceeds
told-as told other old was new is step exceeds a b c t =
    subst (λ (o : EditorState). TellsStep told o new step exceeds) b
    (subst (λ (n : EditorState). TellsStep told was n step exceeds) (sym c) (subst (λ (k : Told). TellsStep k was is step exceeds) (sym a) t))

pub editor-as : (s t : EditorState) (x : NaiveEditor) → s ≡ t → IsEditor t x → IsEditor s x
editor-as s t x is h = subst (λ (o : EditorState). IsEditor o x) (sym is) h

-- ---- an edit

module _ (s : EditorState) (r : ReplicaState) (changes : Option (List ViewChange)) (op : ChannelOp) (after : ℕ) (formed : IsWellFormed op) (sum : after ≡ s.load + (1 + op_load op)) (low : after ≤ load_limit) where
  pub edit-told : (exceeds : NaiveEditor → Bool) (refusal : Option Refusal)
      → ((x : NaiveClient) → IsReached x → RunsFor s.replica x → AnswersStep refusal_of_edit s.replica r (local_edit x op) refusal)
      → ((x : NaiveClient) (shown : Option ShownContent) → IsReached x → RunsFor s.replica x → Leads shown s.told x → Leads shown changes (client_after x (local_edit x op)))
      → TellsStep (told_of refusal) s (record s { replica = r; told = changes; load = load_of refusal s.load after }) (λ x. edited x op) exceeds
  edit-told exceeds None give lead = λ x h.
      let (y, e, runs) = give x.client (editor-reached s x h) h.runs in
      let load = h.load in
      subst (λ (a : Result NaiveClient EditFault). ((edit_answer x op a).refusal ≡ None) × IsEditor (record s { replica = r; told = changes; load = after }) (edit_answer x op a).made) (sym e) (
        refl,
        record {
          runs = runs;
          made = alone-after x.load x.client y (Edits op) h.made (ap unless_refused e) formed;
          low = omega (arith, load, sum, low);
          names = h.names;
          name = h.name;
          waits = h.waits;
          load = omega (arith, load, sum);
          leads = subst (λ (a : Result NaiveClient EditFault). Leads x.listener changes (client_after x.client a)) e
              (lead x.client x.listener (editor-reached s x h) h.runs h.leads);
        },
      )
  edit-told exceeds (Some why) give lead = λ x h.
      let (fault, e, is, same) = give x.client (editor-reached s x h) h.runs in
      subst (λ (a : Result NaiveClient EditFault). ((edit_answer x op a).refusal ≡ Some why) × IsEditor (record s { replica = r; told = changes }) (edit_answer x op a).made) (sym e) (
        ap Some (sym is),
        same-editor s r changes x same (subst (λ (a : Result NaiveClient EditFault). Leads x.listener changes (client_after x.client a)) e
            (lead x.client x.listener (editor-reached s x h) h.runs h.leads)) h,
      )

-- ---- a message

-- the client that joins is made as it was
connected-made : (load conn : ℕ) (x : NaiveClient) (a : Result NaiveClient LinkFault) → connect x conn ≡ a → IsMadeAlone load x → IsMadeAlone load (or_same x a)
connected-made load conn x (Ok y) e m =
    let none : load + 0 ≡ load = omega arith in
    subst (λ (n : ℕ). IsMadeAlone n y) none (alone-after load x y (Connects conn) m (ap unless_refused e) tt)
connected-made load conn x (Err fault) e m = m

pub joined-made : (load : ℕ) (joins : Bool) (conn : ℕ) (x : NaiveClient) → IsMadeAlone load x → IsMadeAlone load (joining_as joins conn x)
joined-made load true conn x m = connected-made load conn x (connect x conn) refl m
joined-made load false conn x m = m

module _ (s : EditorState) (names : List Characters) (r : ReplicaState) (changes : Option (List ViewChange)) (m : Message) (joins : Bool) (after : ℕ) (formed : IsWellFormedMessage m)
    (sum : after ≡ s.load + (1 + body_load m.body)) (low : after ≤ load_limit) (named : names ≡ names_with s.names m.client_id) where
  abbrev entry_of : EditorState → Entry
  entry_of t = numbered_entry t.names m

  abbrev state_after : Option Refusal → EditorState
  state_after refusal =
      record { replica = r; names = names; name = s.name; waits = waits_after refusal s.waits joins; load = load_of refusal s.load after; told = changes }

  -- the changes lead to what the client shows after the entry
  abbrev LeadsAfter : Type 0
  LeadsAfter =
      (x : NaiveClient) (shown : Option ShownContent) → IsReached x → RunsFor s.replica x → Leads shown s.told x
      → Leads shown changes (client_after x (process (joining_as joins (entry_of s).origin x) (entry_of s)))

  -- where it joins, or doesn't, as is told
  abbrev step_at : NaiveEditor → Step NaiveEditor
  step_at x = take_entry (record x { names = names_with x.names m.client_id }) joins (numbered_entry x.names m)

  names-after : (x : NaiveEditor) → IsEditor s x → names ≡ names_with x.names m.client_id
  names-after x h = named ∙ ap (λ (ns : List Characters). names_with ns m.client_id) h.names

  entry-at : (exceeds : NaiveEditor → Bool) (refusal : Option Refusal)
      → ((x : NaiveClient) → IsReached x → RunsFor s.replica x
      → AnswersStep (refusal_of_process m.seq) s.replica r (process (joining_as joins (entry_of s).origin x) (entry_of s)) refusal)
      → LeadsAfter → TellsStep (told_of refusal) s (state_after refusal) step_at exceeds
  entry-at exceeds None give lead = λ x h.
      let (y, e, runs) = give x.client (editor-reached s x h) h.runs in
      let load = h.load in
      let at : NaiveEditor = record x { names = names_with x.names m.client_id } in
      let same = ap (λ (ns : List Characters). numbered_entry ns m) h.names in
      let taken : process (joining_as joins (numbered_entry x.names m).origin x.client) (numbered_entry x.names m) ≡ Ok y =
      ap (λ (entry : Entry). process (joining_as joins entry.origin x.client) entry) (sym same) ∙ e in
      let joined = joined-made x.load joins (numbered_entry x.names m).origin x.client h.made in
      subst (λ (a : Result NaiveClient ProcessFault). ((entry_answer at joins (numbered_entry x.names m) a).refusal ≡ None)
      × IsEditor (state_after None) (entry_answer at joins (numbered_entry x.names m) a).made) (sym taken) (
        refl,
        record {
          runs = runs;
          made = alone-after x.load (joining_as joins (numbered_entry x.names m).origin x.client) y (Takes (numbered_entry x.names m)) joined (ap unless_refused taken) formed;
          low = omega (arith, load, sum, low);
          names = names-after x h;
          name = h.name;
          waits = ap (cond joins false) h.waits;
          load = omega (arith, load, sum);
          leads = subst (λ (a : Result NaiveClient ProcessFault). Leads x.listener changes (client_after x.client a)) e
              (lead x.client x.listener (editor-reached s x h) h.runs h.leads);
        },
      )
  entry-at exceeds (Some why) give lead = λ x h.
      let (fault, e, is, replica) = give x.client (editor-reached s x h) h.runs in
      let at : NaiveEditor = record x { names = names_with x.names m.client_id } in
      let same = ap (λ (ns : List Characters). numbered_entry ns m) h.names in
      let taken : process (joining_as joins (numbered_entry x.names m).origin x.client) (numbered_entry x.names m) ≡ Err fault =
      ap (λ (entry : Entry). process (joining_as joins entry.origin x.client) entry) (sym same) ∙ e in
      subst (λ (a : Result NaiveClient ProcessFault). ((entry_answer at joins (numbered_entry x.names m) a).refusal ≡ Some why)
      × IsEditor (state_after (Some why)) (entry_answer at joins (numbered_entry x.names m) a).made) (sym taken) (
        ap Some (sym is),
        record {
          runs = subst (λ (q : ReplicaState). RunsFor q x.client) (sym replica) h.runs;
          made = h.made;
          low = h.low;
          names = names-after x h;
          name = h.name;
          waits = h.waits;
          load = h.load;
          leads = subst (λ (a : Result NaiveClient ProcessFault). Leads x.listener changes (client_after x.client a)) e
              (lead x.client x.listener (editor-reached s x h) h.runs h.leads);
        },
      )

  pub entry-told : joins ≡ (s.waits && (is_join m.kind && is_sender s.name m.client_id)) → (exceeds : NaiveEditor → Bool) (refusal : Option Refusal)
      → ((x : NaiveClient) → IsReached x → RunsFor s.replica x
      → AnswersStep (refusal_of_process m.seq) s.replica r (process (joining_as joins (entry_of s).origin x) (entry_of s)) refusal)
      → LeadsAfter → TellsStep (told_of refusal) s (state_after refusal) (λ x. take_next x m) exceeds
  entry-told is exceeds refusal give lead =
      step-same (told_of refusal) s (state_after refusal) step_at (λ x. take_next x m) exceeds exceeds
      (λ x h. ap (λ b. take_entry (record x { names = names_with x.names m.client_id }) b (numbered_entry x.names m))
      (is ∙ ap (λ b. b && (is_join m.kind && is_sender s.name m.client_id)) h.waits ∙ ap (λ (n : Characters). x.waits && (is_join m.kind && is_sender n m.client_id)) h.name))
      (λ x h. refl) (entry-at exceeds refusal give lead)

abbrev GivesEntry : ReplicaState → ReplicaState → Bool → Option Refusal → Entry → Type 0
GivesEntry old new joins refusal entry =
    (x : NaiveClient) → IsReached x → RunsFor old x → AnswersStep (refusal_of_process entry.msg.seq) old new (process (joining_as joins entry.origin x) entry) refusal

-- the changes lead to what its client shows after the entry
abbrev LeadsOver : EditorState → Option (List ViewChange) → Bool → Entry → Type 0
LeadsOver old changes joins entry =
    (x : NaiveClient) (shown : Option ShownContent) → IsReached x → RunsFor old.replica x → Leads shown old.told x
    → Leads shown changes (client_after x (process (joining_as joins entry.origin x) entry))

-- .. from the names with its sender on
pub entry-taken : (s old : EditorState) (r : ReplicaState) (changes : Option (List ViewChange)) (m : Message) (entry : Entry) (joins : Bool) (after : ℕ) (exceeds : NaiveEditor → Bool) (refusal : Option Refusal)
    → IsWellFormedMessage entry.msg
    → after ≤ load_limit → entry ≡ numbered_entry s.names m → old ≡ record s { names = names_with s.names m.client_id } → joins ≡ is_awaited_by s m
    → after ≡ s.load + (1 + body_load m.body) → GivesEntry old.replica r joins refusal entry → LeadsOver old changes joins entry
    → TellsStep (told_of refusal) s (record old { replica = r; told = changes; waits = waits_after refusal old.waits joins; load = load_of refusal old.load after }) (λ x. take_next x m)
    exceeds
entry-taken s old r changes m entry joins after exceeds refusal formed low entry_is old_is is sum give lead =
    subst (λ (o : EditorState). GivesEntry o.replica r joins refusal entry → LeadsOver o changes joins entry
    → TellsStep (told_of refusal) s (record o { replica = r; told = changes; waits = waits_after refusal o.waits joins; load = load_of refusal o.load after }) (λ x. take_next x m) exceeds)
    (sym old_is)
    (λ given led. entry-told s (names_with s.names m.client_id) r changes m joins after (subst (λ (e : Entry). IsWellFormedMessage e.msg) entry_is formed) sum low refl is exceeds refusal
    (subst (GivesEntry s.replica r joins refusal) entry_is given) (subst (LeadsOver s changes joins) entry_is led)) give lead

-- its numbers are those of the editor for which it stands
pub order-same : (s : EditorState) (x : NaiveEditor) (m : Message) (numbers : Numbers) → numbers ≡ numbers_of s.replica → IsEditor s x
    → order_fault numbers.seq numbers.min m ≡ order_fault x.client.doc.number x.client.doc.minimum m
order-same s x m numbers is h =
    ap (λ (n : Numbers). order_fault n.seq n.min m) is
    ∙ ap (λ n. order_fault n s.replica.client.doc.minimum m) (stands-link s.replica.client x.client h.runs.client).number
    ∙ ap (λ n. order_fault x.client.doc.number n m) (stands-minimum s.replica.client x.client h.runs.client)

-- the message isn't the next one, or is
pub message-refused : (x : NaiveEditor) (m : Message) (why : Refusal) → Some why ≡ message_refusal x m → take_message x m ≡ refuses x why
message-refused x m why e = by (order_fault x.client.doc.number x.client.doc.minimum m) e
  where
    by : (o : Option ProcessFault) → Some why ≡ option_map (refusal_of_process m.seq) o → message_answer x m o ≡ refuses x why
    by None f = absurd (cc)
    by (Some fault) f = let same : why ≡ refusal_of_process m.seq fault = (cc) in ap (refuses x) (sym same)

pub message-next : (x : NaiveEditor) (m : Message) → None ≡ message_refusal x m → take_next x m ≡ take_message x m
message-next x m e = by (order_fault x.client.doc.number x.client.doc.minimum m) e
  where
    by : (o : Option ProcessFault) → None ≡ option_map (refusal_of_process m.seq) o → take_next x m ≡ message_answer x m o
    by None f = refl
    by (Some fault) f = absurd (cc)

pub message-exceeds : (x : NaiveEditor) (m : Message) → None ≡ message_refusal x m → next_exceeds x m.body ≡ message_exceeds x m
message-exceeds x m e = by (order_fault x.client.doc.number x.client.doc.minimum m) e
  where
    by : (o : Option ProcessFault) → None ≡ option_map (refusal_of_process m.seq) o → next_exceeds x m.body ≡ message_answer_exceeds x m o
    by None f = refl
    by (Some fault) f = absurd (cc)

-- .. and is the next one for it
pub message-is_next : (x : NaiveEditor) (m : Message) → None ≡ message_refusal x m → order_fault x.client.doc.number x.client.doc.minimum m ≡ None
message-is_next x m e = by (order_fault x.client.doc.number x.client.doc.minimum m) e
  where
    by : (o : Option ProcessFault) → None ≡ option_map (refusal_of_process m.seq) o → o ≡ None
    by None f = refl
    by (Some fault) f = absurd (cc)

-- the join that it waits for is one that its client takes
pub awaited-taken : (s : EditorState) (m : Message) (origin : ℕ) (joins : Bool) → IsNextFor s m → joins ≡ is_awaited_by s m → joins ≡ true
    → TakesJoin s.replica (record { msg = m; origin = origin })
awaited-taken s m origin joins (x, h, next) is awaits =
    let awaited = and_parts s.waits (is_join m.kind && is_sender s.name m.client_id) (sym is ∙ awaits) in
    let join = and_parts (is_join m.kind) (is_sender s.name m.client_id) awaited.1 in
    let (after, takes) = join-taken x.client m origin join.0 next in
    record { client = x.client; reached = editor-reached s x h; runs = h.runs; after = after; takes = takes }

-- ---- what is too much

-- the load would be
pub load-full : (s : EditorState) (x : NaiveEditor) (more : ℕ) → load_limit < s.load + (1 + more) → IsEditor s x → IsTrue (load_exceeds x more)
load-full s x more above h = let load = h.load in grind (arith, nat_tests)

-- there are as many names as there may be
pub names-full : (s : EditorState) (x : NaiveEditor) (body : Body) → table_limit ≤ length s.names → IsEditor s x → IsTrue (next_exceeds x body)
names-full s x body many h =
    let few : nat_le table_limit (length x.names) ≡ true =
    le-leb table_limit (length x.names) (subst (λ names. table_limit ≤ length names) h.names many) in
    or_left (nat_le table_limit (length x.names)) (load_exceeds x (body_load body)) few

pub edit-full : (s : EditorState) (op : ChannelOp) → load_limit < s.load + (1 + op_load op) → TellsStep Full s s (λ x. edited x op) (λ x. edit_exceeds x (Some op))
edit-full s op above = (refl, λ x h. load-full s x (op_load op) above h)

-- ---- connections

-- whether it is free, by what its replica tells
free-same : (s : EditorState) (x : NaiveEditor) → IsEditor s x → not s.waits && is_offline s.replica.client.link ≡ is_free x
free-same s x h =
    ap (λ b. not b && is_offline s.replica.client.link) h.waits ∙ ap (λ link. not x.waits && is_offline link) (stands-link s.replica.client x.client h.runs.client).link

-- it waits for the join of a connection, or has or waits for one
pub connect-told : (s : EditorState) (name : Characters) → not s.waits && is_offline s.replica.client.link ≡ true
    → TellsStep Taken s (record s { name = name; waits = true }) (connect_as name) never_exceeds
connect-told s name free = λ x h.
    subst (λ (t : Step NaiveEditor). (t.refusal ≡ None) × IsEditor (record s { name = name; waits = true }) t.made)
    (ap (λ b. cond b (passes (record x { name = name; waits = true })) (refuses x AlreadyConnected)) (sym free ∙ free-same s x h))
    (refl, record { runs = h.runs; made = h.made; low = h.low; names = h.names; name = refl; waits = refl; load = h.load; leads = h.leads })

pub connect-refused : (s : EditorState) (name : Characters) → not s.waits && is_offline s.replica.client.link ≡ false
    → (x : NaiveEditor) → IsEditor s x → connect_as name x ≡ refuses x AlreadyConnected
connect-refused s name taken x h = ap (λ b. cond b (passes (record x { name = name; waits = true })) (refuses x AlreadyConnected)) (sym (free-same s x h) ∙ taken)

-- its name is read, or isn't UTF-8
pub name-refused : (line : List ℕ) (x : NaiveEditor) → (IsUtf8 line → ⊥) → connect_line line x ≡ refuses x (Malformed NotUtf8)
name-refused line x not =
    ap (λ b. if b then connect_as (chars line) x else refuses x (Malformed NotUtf8)) (false_from_ne_true (is_utf8 line) (λ e. not (IsUtf8-from_is_utf8 line e)))

pub name-read : (line name : List ℕ) (x : NaiveEditor) → IsUtf8 line → name ≡ line → connect_as (chars name) x ≡ connect_line line x
name-read line name x is same =
    ap (λ bytes. connect_as (chars bytes) x) same ∙ ap (λ b. if b then connect_as (chars line) x else refuses x (Malformed NotUtf8)) (sym (is_utf8-from_IsUtf8 line is))

-- it has no connection any more
dropped-made : (load : ℕ) (waits : Bool) (x y : NaiveClient) → dropped_unless waits x ≡ Ok y → IsMadeAlone load x → IsMadeAlone load y
dropped-made load true x y e m = let same : x ≡ y = (cc) in subst (IsMadeAlone load) same m
dropped-made load false x y e m =
    let none : load + 0 ≡ load = omega arith in
    subst (λ (n : ℕ). IsMadeAlone n y) none (alone-after load x y Drops m (ap unless_refused e) tt)

refused-waits : (waits : Bool) (x : NaiveClient) (fault : LinkFault) → dropped_unless waits x ≡ Err fault → false ≡ waits
refused-waits true x fault e = absurd (cc)
refused-waits false x fault e = refl

dropped-shown : (waits : Bool) (x y : NaiveClient) → dropped_unless waits x ≡ Ok y → shown_content y ≡ shown_content x
dropped-shown true x y e = let same : x ≡ y = (cc) in ap shown_content (sym same)
dropped-shown false x y e = by x.link e
  where
    by : (link : Link) → elim link as (λ _. Result NaiveClient LinkFault) [ Offline ↦ Err links.NotConnected | _ ↦ Ok (record x { link = Offline; queue = [] }) ] ≡ Ok y
        → shown_content y ≡ shown_content x
    by Offline d = absurd (cc)
    by (Joining n) d = let same : record x { link = Offline; queue = [] } ≡ y = (cc) in ap shown_content (sym same)
    by (Online n) d = let same : record x { link = Offline; queue = [] } ≡ y = (cc) in ap shown_content (sym same)

pub drop-told : (s : EditorState) (r : ReplicaState) (refusal : Option Refusal)
    → ((x : NaiveClient) → IsReached x → RunsFor s.replica x → AnswersStep (λ (fault : LinkFault). NotConnected) s.replica r (dropped_unless s.waits x) refusal)
    → TellsStep (told_of refusal) s (record s { replica = r; waits = false }) drop_step never_exceeds
drop-told s r None give = λ x h.
    let (y, e, runs) = give x.client (editor-reached s x h) h.runs in
    let taken : dropped_unless x.waits x.client ≡ Ok y = ap (λ b. dropped_unless b x.client) (sym h.waits) ∙ e in
    subst (λ (a : Result NaiveClient LinkFault). ((drop_answer x a).refusal ≡ None) × IsEditor (record s { replica = r; waits = false }) (drop_answer x a).made) (sym taken) (
      refl,
      record {
        runs = runs;
        made = dropped-made x.load x.waits x.client y taken h.made;
        low = h.low;
        names = h.names;
        name = h.name;
        waits = refl;
        load = h.load;
        leads = lead-same x.listener s.told x.client y (dropped-shown x.waits x.client y taken) h.leads;
      },
    )
drop-told s r (Some why) give = λ x h.
    let (fault, e, is, same) = give x.client (editor-reached s x h) h.runs in
    let taken : dropped_unless x.waits x.client ≡ Err fault = ap (λ b. dropped_unless b x.client) (sym h.waits) ∙ e in
    subst (λ (a : Result NaiveClient LinkFault). ((drop_answer x a).refusal ≡ Some why) × IsEditor (record s { replica = r; waits = false }) (drop_answer x a).made) (sym taken) (
      ap Some (sym is),
      record {
        runs = subst (λ (q : ReplicaState). RunsFor q x.client) (sym same) h.runs;
        made = h.made;
        low = h.low;
        names = h.names;
        name = h.name;
        waits = refused-waits x.waits x.client fault taken;
        load = h.load;
        leads = h.leads;
      },
    )

-- ---- its start

alone-start : (load : ℕ) (doc : Document) → IsStart doc → start_cost doc ≤ load → IsMadeAlone load (client_over doc)
alone-start load doc s cost = record { start = doc; starts = s; steps = []; made = refl; formed = tt; cost = omega (arith, cost) }

-- one that starts from a summary is reached
pub start-reached : (sum : SumDoc) → IsValidSummary sum → IsReached (client_over (doc_of sum))
start-reached sum valid = record { start = doc_of sum; starts = from_summary valid; steps = []; made = refl; bodies = refl }

pub new-stands : (r : ReplicaState) (names : List Characters) (name : Characters) → names ≡ [] → name ≡ no_name → StartsOver r empty 0
    → IsEditor (record { replica = r; names = names; name = name; waits = false; load = 0; told = None }) new_editor
new-stands r names name n m s =
    let none : start_cost empty ≡ 0 = refl in
    record {
      runs = s.runs;
      made = alone-start 0 empty from_nothing (omega (arith, none));
      low = omega arith;
      names = n;
      name = m;
      waits = refl;
      load = refl;
      leads = tt;
    }

-- a list has as many elements as were made
counted : (items : List ListElement) → element_count items ≡ length items
counted [] = refl
counted (e ∷ items) = let ih = counted items in omega (arith, ih)

start-paid : (sum : SumDoc) → start_cost (doc_of sum) ≤ start_load (doc_of sum)
start-paid sum =
    let doc = doc_of sum in
    let text = counted doc.text.items in
    let rows = counted doc.rows.items in
    let cols = counted doc.cols.items in
    by doc.number (element_count doc.text.items) (element_count doc.rows.items) (element_count doc.cols.items) (len is_pending doc.text.items) (len is_pending doc.rows.items)
    (len is_pending doc.cols.items) doc.text.made doc.rows.made doc.cols.made text rows cols
  where
    by : (n a b c p q o i j k : ℕ) → a ≡ i → b ≡ j → c ≡ k → n + (a + (b + c)) ≤ max (i + p) (max (j + q) (k + o)) * 3 + n
    by n a b c p q o i j k x y z = omega (arith, x, y, z)

-- the load by the numbers of a replica that starts from it
pub start-same : (sum : SumDoc) (r : ReplicaState) (numbers : Numbers) (conns : ℕ) → StartsOver r (doc_of sum) conns → numbers ≡ numbers_of r
    → numbers.made * 3 + numbers.seq ≡ start_load (doc_of sum)
start-same sum r numbers conns s is =
    let doc = doc_of sum in
    let number = (stands-link r.client (client_over doc) s.runs.client).number in
    ap (λ (n : Numbers). n.made * 3 + n.seq) is ∙ ap (λ (h : HeldCounts). max h.text (max h.rows h.cols) * 3 + r.client.doc.number) s.held
    ∙ ap (λ n. max (held_in doc).text (max (held_in doc).rows (held_in doc).cols) * 3 + n) number

pub summary-full : (s : EditorState) (sum : SumDoc) (r : ReplicaState) (numbers : Numbers) (conns : ℕ) → StartsOver r (doc_of sum) conns → numbers ≡ numbers_of r
    → load_limit < numbers.made * 3 + numbers.seq → TellsStep Full s s (λ x. load_reading x (Ok sum)) (λ x. load_reading_exceeds (Ok sum))
summary-full s sum r numbers conns starts is above =
    (refl, λ x h. lt-ltb load_limit (start_load (doc_of sum)) (subst (λ load. load_limit < load) (start-same sum r numbers conns starts is) above))

pub summary-stands : (sum : SumDoc) (r : ReplicaState) (changes : Option (List ViewChange)) (listens : Bool) (numbers : Numbers) (load conns : ℕ) → IsValidSummary sum → StartsOver r (doc_of sum) conns → numbers ≡ numbers_of r
    → load ≡ numbers.made * 3 + numbers.seq → load ≤ load_limit
    → Leads (listening listens) changes (client_over (doc_of sum))
    → IsEditor (record { replica = r; names = sum.conns; name = no_name; waits = false; load = load; told = changes }) (editor_of listens sum)
summary-stands sum r changes listens numbers load conns valid s is paid low leads =
    let doc = doc_of sum in
    let same : load ≡ start_load doc = paid ∙ start-same sum r numbers conns s is in
    record {
      runs = s.runs;
      made = alone-start (start_load doc) doc (from_summary valid) (start-paid sum);
      low = subst (λ n. n ≤ load_limit) same low;
      names = refl;
      name = refl;
      waits = refl;
      load = same;
      leads = leads;
    }

-- ---- what it sends

first-formed : (queue : List Draft) (d : Draft) → Each IsWellFormedDraft queue → Some d ≡ slice_get queue 0 → IsWellFormedDraft d
first-formed [] d h e = absurd (cc)
first-formed (b ∷ ds) d h e = let same : b ≡ d = (cc) in subst IsWellFormedDraft same h.0

pub draft-formed : (s : EditorState) (d : Draft) → DraftsOfClientsAreFormed → IsSomeEditor s → Some d ≡ slice_get s.replica.client.queue 0 → IsWellFormedDraft d
draft-formed s d law some is =
    let (x, h) = some in
    let low = h.low in
    let queue = (stands-link s.replica.client x.client h.runs.client).queue in
    first-formed x.client.queue d (law x.load x.client h.made (omega (arith, low))) (is ∙ ap (λ ds. slice_get ds 0) queue)

oldest-of : (queue : List Draft) (d : Draft) → Some d ≡ slice_get queue 0 → oldest_bytes queue ≡ Some (draft_bytes d)
oldest-of [] d e = absurd (cc)
oldest-of (b ∷ ds) d e = let same : b ≡ d = (cc) in ap (λ (f : Draft). Some (draft_bytes f)) same

none-of : (queue : List Draft) → None ≡ slice_get queue 0 → oldest_bytes queue ≡ None
none-of [] e = refl
none-of (d ∷ ds) e = absurd (cc)

pub oldest-told : (s : EditorState) (d : Draft) → Some d ≡ slice_get s.replica.client.queue 0 → (x : NaiveEditor) → IsEditor s x
    → Some (draft_bytes d) ≡ oldest_bytes x.client.queue
oldest-told s d is x h =
    let queue = (stands-link s.replica.client x.client h.runs.client).queue in
    sym (oldest-of x.client.queue d (is ∙ ap (λ ds. slice_get ds 0) queue))

pub none-told : (s : EditorState) → None ≡ slice_get s.replica.client.queue 0 → (x : NaiveEditor) → IsEditor s x → None ≡ oldest_bytes x.client.queue
none-told s is x h =
    let queue = (stands-link s.replica.client x.client h.runs.client).queue in
    sym (none-of x.client.queue (is ∙ ap (λ ds. slice_get ds 0) queue))

pub sent-stands : (s : EditorState) (r : ReplicaState) → r ≡ with_queue (drop 1 s.replica.client.queue) s.replica → (x : NaiveEditor) → IsEditor s x
    → IsEditor (record s { replica = r }) (editors.with_queue (drop 1 x.client.queue) x)
sent-stands s r is x h =
    let queue = (stands-link s.replica.client x.client h.runs.client).queue in
    let none : x.load + 0 ≡ x.load = omega arith in
    record {
      runs = subst (λ (q : ReplicaState). RunsFor q (record x.client { queue = drop 1 x.client.queue }))
          (ap (λ ds. with_queue (drop 1 ds) s.replica) (sym queue) ∙ sym is) (runs-queued (drop 1 x.client.queue) s.replica x.client h.runs);
      made = subst (λ n. IsMadeAlone n (record x.client { queue = drop 1 x.client.queue })) none
          (alone-after x.load x.client (record x.client { queue = drop 1 x.client.queue }) Sends h.made refl tt);
      low = h.low;
      names = h.names;
      name = h.name;
      waits = h.waits;
      load = h.load;
      leads = lead-same x.listener s.told x.client (record x.client { queue = drop 1 x.client.queue }) refl h.leads;
    }

-- ---- its listener

-- there are changes to tell just where it has one
pub listener-same : (shown : Option ShownContent) (changes : Option (List ViewChange)) (x : NaiveClient) → Leads shown changes x → is_some changes ≡ is_some shown
listener-same None None x h = refl
listener-same (Some s) (Some cs) x h = refl
listener-same None (Some cs) x h = absurd h
listener-same (Some s) None x h = absurd h

pub unheard : (shown : Option ShownContent) (changes : Option (List ViewChange)) (x : NaiveClient) → Leads shown changes x → changes ≡ None → shown ≡ None
unheard None changes x h e = refl
unheard (Some s) None x h e = absurd h
unheard (Some s) (Some cs) x h e = absurd (cc)

-- another one begins
pub anew-told : (s : EditorState) (changes : Option (List ViewChange)) (listener : Option ShownContent) (x : NaiveEditor) → IsEditor s x → Leads listener changes x.client
    → IsEditor (record s { told = changes }) (with_listener listener x)
anew-told s changes listener x h leads = record {
  runs = h.runs;
  made = h.made;
  low = h.low;
  names = h.names;
  name = h.name;
  waits = h.waits;
  load = h.load;
  leads = leads;
}

-- whether that went well or not, it stands for some editor behind it
pub anew-some : {E : Type 0} (listener : Option ShownContent) (old new : EditorState) (r : Result (Unit {0}) E)
    → ((x : NaiveEditor) → IsEditor old x → OnOk r (IsEditor new (with_listener listener x))) → OnErr r (new ≡ old) → IsSomeEditor old → IsSomeEditor new
anew-some listener old new (Ok u) ok err (x, h) = (with_listener listener x, ok x h)
anew-some listener old new (Err fault) ok err some = subst IsSomeEditor (sym err) some

-- all is told to it
none-left : (shown : Option ShownContent) (changes : Option (List ViewChange)) (x : NaiveClient) → Leads shown changes x
    → Leads (option_map (λ _. shown_content x) shown) (option_map (λ _. []) changes) x
none-left None None x h = tt
none-left (Some s) (Some cs) x h = since_told refl
none-left None (Some cs) x h = absurd h
none-left (Some s) None x h = absurd h

pub informed-stands : (s : EditorState) (x : NaiveEditor) → IsEditor s x → IsEditor (record s { told = option_map (λ _. []) s.told }) (informed x)
informed-stands s x h =
    anew-told s (option_map (λ _. []) s.told) (option_map (λ _. shown_content x.client) x.listener) x h (none-left x.listener s.told x.client h.leads)

-- what leads from nothing to its view
pub view-leads : (v : View) (x : NaiveClient) → IsReached x → view_content v ≡ content x → Leads (listening true) (Some (told_from_nothing (view_content v))) x
view-leads v x reached shows =
    subst (λ (c : ViewContent). Leads (listening true) (Some (told_from_nothing c)) x) (sym shows) (since_nothing refl reached)

-- ---- what it shows

pub view-stands : (s : EditorState) (v w : View) → w ≡ record v { numbers = record v.numbers { link = shown_link s.waits v.numbers.link } } → v.numbers ≡ numbers_of s.replica
    → (x : NaiveEditor) → IsEditor s x → view_content v ≡ content x.client → IsViewOf (as_client x) s.name w
view-stands s v w is numbers x h shows =
    let r = s.replica.client in
    let t = h.runs.client in
    let l = stands-link r x.client t in
    let told = ap (λ (k : View). k.numbers) is in
    record {
      name_is = h.name;
      seq = ap (λ (k : Numbers). k.seq) (told ∙ ap (λ (n : Numbers). record n { link = shown_link s.waits n.link }) numbers) ∙ l.number;
      min = ap (λ (k : Numbers). k.min) (told ∙ ap (λ (n : Numbers). record n { link = shown_link s.waits n.link }) numbers) ∙ stands-minimum r x.client t;
      pending = ap (λ (k : Numbers). k.pending) (told ∙ ap (λ (n : Numbers). record n { link = shown_link s.waits n.link }) numbers)
          ∙ stands-pending r x.client t;
      skipped = ap (λ (k : Numbers). k.skipped) (told ∙ ap (λ (n : Numbers). record n { link = shown_link s.waits n.link }) numbers)
          ∙ stands-skipped r x.client t;
      other = ap (λ (k : Numbers). k.other) (told ∙ ap (λ (n : Numbers). record n { link = shown_link s.waits n.link }) numbers)
          ∙ stands-other r x.client t;
      link = ap (λ (k : Numbers). k.link) (told ∙ ap (λ (n : Numbers). record n { link = shown_link s.waits n.link }) numbers)
          ∙ ap (λ b. shown_link b r.link) h.waits ∙ ap (shown_link x.waits) l.link;
      shows = ap view_content is ∙ shows;
    }
