-- What an observer makes of a message, in the steps in which the code comes to it, and the lines of its view.
use Rattle.std.proofs.Common.{◌≡◌, ℕ, ◌+◌, ◌<◌, ◌≤◌, Bool, true, false, cond, not, ◌&&◌, List, [], ◌∷◌, ◌++◌, Option, Some, None, Result, Ok, Err, bytes_eq, length, arith, refl, sym, ◌∙◌, ap, subst, nat_eq, nat_lt, int_lt, pos, if◌then◌else◌, append_assoc, length-append, drop, drop-cons, get_or, suc, add-one}
use Rattle.std.specs.List.{list_any}
use Rattle.std.specs.Prelude.{IfOk, OnErr, OnOk}
use Rattle.std.proofs.lemmas.Bool.{not-true}
use Rattle.ft_base.specs.declared.memory.OutOfMemory.{OutOfMemory}
use Rattle.ft_base.proofs.Booleans.{both}
use Rattle.ft_json.specs.declared.fields.Field.TheVariants.{MinimumSequenceNumber, ReferenceSequenceNumber}
use Rattle.ft_op.specs.Document.{Document}
use Rattle.ft_op.proofs.ReadSteps.{same_value}
use Rattle.ft_sumdoc.specs.Counts.{are_distinct_names}
use Rattle.ft_sumdoc.specs.Summary.{summary}
use Rattle.ft_msg.specs.declared.faults.ProcessFault.{ProcessFault}
use Rattle.ft_msg.specs.declared.faults.ProcessFault.TheVariants as processing
use Rattle.ft_msg.specs.declared.messages.Entry.{Entry}
use Rattle.ft_msg.specs.declared.messages.Message.{Message}
use Rattle.ft_msg.specs.declared.views.Numbers.{Numbers}
use Rattle.ft_msg.specs.declared.views.View.{View}
use Rattle.ft_msg.specs.Acknowledgement.{after_own_message}
use Rattle.ft_msg.specs.Agreed.{take_entry}
use Rattle.ft_msg.specs.Answers.{Answers, ReplicaState, StartsOver, numbers_of, process_fault_kind, view_content}
use Rattle.ft_msg.specs.Client.{NaiveClient, client_over}
use Rattle.ft_msg.specs.Compacted.{StandsFor}
use Rattle.ft_msg.specs.Content.{shown}
use Rattle.ft_msg.specs.NameTable.{AreDistinct, names_after}
use Rattle.ft_msg.specs.Process.{after_entry, is_oldest, is_op, is_op_kind, numbers_fault, process, process_fault}
use Rattle.ft_msg.specs.Reached.{IsReached}
use Rattle.ft_msg.specs.WellFormed.{IsWellFormedMessage}
use Rattle.ft_msg.proofs.NameLemmas.{names_after-next}
use Rattle.ft_msg.proofs.ReachedSteps.{reached-process}
use Rattle.ft_seqr.specs.declared.refusals.Refusal.{Refusal}
use Rattle.ft_seqr.specs.Refusals.{refusal_of_process}
use Rattle.ft_seqr.specs.ViewLines.{content_lines, numbers_line}
use Rattle.ft_session.specs.declared.outputs.Counts.{Counts}
use Rattle.ft_session.proofs.Counting.{stands-minimum, stands-number, stands-other, stands-skipped}
use Rattle.ft_seqr.specs.Walk.{Step}
use Rattle.ft_replay.specs.declared.listener.Told.{Told}
use Rattle.ft_replay.specs.declared.listener.Told.TheVariants.{Nothing, Refused}
use Rattle.ft_replay.specs.LineForm.{bytes_of}
use Rattle.ft_replay.specs.Listening.{IsStep, counts_in, told_refusal, told_text}
use Rattle.ft_replay.specs.Loading.{Loading, load_line, load_reading, load_step}
use Rattle.ft_replay.specs.Observation.{Observation, numbered_entry, names_with, observe, observe_answer, observe_message, observer_numbers}
use Rattle.ft_replay.specs.Observers.{Observes}
use Rattle.ft_replay.specs.Forms.{view_lines}

-- a name adds at most one
length-names_after : (names : List (List ℕ)) (name : List ℕ) → length (names_after names name) ≤ length names + 1
length-names_after [] name = omega arith
length-names_after (first ∷ names) name = grind (arith, length-names_after names name)

-- a message adds at most one name
pub length-names_with : (names : List (List ℕ)) (name : Option (List ℕ)) → length (names_with names name) ≤ length names + 1
length-names_with names None = omega arith
length-names_with names (Some name) = length-names_after names name

-- ---- what a client over a document makes of an entry

-- it takes it as another client's
over-after : (doc : Document) (entry : Entry) → after_entry (client_over doc) entry ≡ client_over (take_entry doc entry)
over-after doc entry = by (is_op entry.msg.body)
  where
    by : (b : Bool) → cond (b && false) (after_own_message (client_over doc) entry) (client_over (take_entry doc entry)) ≡ client_over (take_entry doc entry)
    by true = refl
    by false = refl

-- and is a client over the document after it
over-processed : (doc : Document) (entry : Entry) (y : NaiveClient) → process (client_over doc) entry ≡ Ok y → y ≡ client_over y.doc
over-processed doc entry y h = by (process_fault (client_over doc) entry) h
  where
    by : (f : Option ProcessFault) → elim f as (λ _. Result NaiveClient ProcessFault) [ Some fault ↦ Err fault | None ↦ Ok (after_entry (client_over doc) entry) ] ≡ Ok y
        → y ≡ client_over y.doc
    by (Some fault) g = (cc)
    by None g =
        let e : y ≡ client_over (take_entry doc entry) = sym (same_value (after_entry (client_over doc) entry) y (Ok (after_entry (client_over doc) entry)) refl g) ∙ over-after doc entry in
        e ∙ ap (λ (x : NaiveClient). client_over x.doc) (sym e)

abbrev IsOther : Option ProcessFault → Type 0
IsOther f = f ≡ Some processing.NotSent → ⊥

either : (b : Bool) (p q : Option ProcessFault) → IsOther p → IsOther q → IsOther (cond b p q)
either true p q f g = f
either false p q f g = g

no-fault : IsOther None
no-fault e = (cc)

order-fault : (n m : ℕ) → IsOther (Some (processing.OutOfOrder n m))
order-fault n m e = (cc)

number-faults : (x : NaiveClient) (entry : Entry) → IsOther (numbers_fault x entry)
number-faults x entry =
    let m = entry.msg in
    let below : Option ProcessFault = Some (processing.BadNumbers ReferenceSequenceNumber x.doc.minimum m.ref_seq) in
    let ahead : Option ProcessFault = Some (processing.BadNumbers ReferenceSequenceNumber x.doc.number m.ref_seq) in
    let falls : Option ProcessFault = Some (processing.BadNumbers MinimumSequenceNumber x.doc.minimum (pos m.min)) in
    let above : Option ProcessFault = Some (processing.BadNumbers MinimumSequenceNumber m.seq (pos m.min)) in
    either (is_op_kind m.kind && int_lt m.ref_seq (pos x.doc.minimum)) below _ (λ e. (cc))
    (either (is_op_kind m.kind && int_lt (pos x.doc.number) m.ref_seq) ahead _ (λ e. (cc))
    (either (nat_lt m.min x.doc.minimum) falls _ (λ e. (cc)) (either (nat_lt m.seq m.min) above None (λ e. (cc)) no-fault)))

-- it never sent a message
over-sent : (doc : Document) (entry : Entry) → process (client_over doc) entry ≡ Err processing.NotSent → ⊥
over-sent doc entry h = by (process_fault (client_over doc) entry) fault h
  where
    own : (b c : Bool) → IsOther (cond (b && false && c) (Some processing.NotSent) None)
    own true c = no-fault
    own false c = no-fault

    later : (f : Option ProcessFault) → IsOther f
        → IsOther (elim f as (λ _. Option ProcessFault) [ Some fault ↦ Some fault | None ↦ cond (is_op_kind entry.msg.kind && false && not (is_oldest entry [])) (Some processing.NotSent) None ])
    later (Some f) g = g
    later None g = own (is_op_kind entry.msg.kind) (not (is_oldest entry []))

    fault : IsOther (process_fault (client_over doc) entry)
    fault = either (not (nat_eq entry.msg.seq (doc.number + 1))) (Some (processing.OutOfOrder (doc.number + 1) entry.msg.seq)) _ (order-fault (doc.number + 1) entry.msg.seq) (later (numbers_fault (client_over doc) entry) (number-faults (client_over doc) entry))

    by : (f : Option ProcessFault) → IsOther f
        → elim f as (λ _. Result NaiveClient ProcessFault) [ Some fault ↦ Err fault | None ↦ Ok (after_entry (client_over doc) entry) ] ≡ Err processing.NotSent → ⊥
    by None g e = (cc)
    by (Some f) g e = let same : f ≡ processing.NotSent = (cc) in g (ap Some same)

-- ---- what its replica makes of it

module _ (old new : ReplicaState) (entry : Entry) where
  pub given-taken : IsWellFormedMessage entry.msg → Answers process_fault_kind entry.origin (λ x. process x entry) old new (Ok tt) → (seen : Observation) → Observes seen.names old seen
      → IsStep (Observes seen.names new) Nothing (observe_answer seen (process (client_over seen.doc) entry))
  given-taken formed a seen h =
      let x = client_over seen.doc in
      let (y, e, f) = a.client x h.reached h.runs.client in
      let over = over-processed seen.doc entry y e in
      subst (λ r. IsStep (Observes seen.names new) Nothing (observe_answer seen r)) (sym e)
      (record {
        holds = record {
          known = refl;
          runs = record { running = a.state.runs; client = subst (StandsFor new.client) over f.client };
          reached = subst IsReached over (reached-process x y entry formed h.reached e);
        };
        text = refl;
        refusal = refl;
      })

  abbrev Refuses : ProcessFault → Refusal → Type 0
  Refuses fault refusal = (seen : Observation) → Observes seen.names old seen → IsStep (Observes seen.names new) (Refused refusal) (observe_answer seen (process (client_over seen.doc) entry))

  none-some : {n : ℕ} {o : Option ℕ} → o ≡ None → o ≡ Some n → ⊥
  none-some h k = (cc)

  -- the refusal, which changes nothing
  refused : (fault : ProcessFault) (refusal : Refusal) (seen : Observation) → Observes seen.names old seen → new ≡ old → process (client_over seen.doc) entry ≡ Err fault
      → Some refusal ≡ (observe_answer seen (Err fault)).refusal → IsStep (Observes seen.names new) (Refused refusal) (observe_answer seen (process (client_over seen.doc) entry))
  refused fault refusal seen h same is told =
      subst (λ r. IsStep (Observes seen.names new) (Refused refusal) (observe_answer seen r)) (sym is)
      (record { holds = subst (λ s. Observes seen.names s seen) (sym same) h; text = refl; refusal = told })

  given-refused : (fault : ProcessFault) (n : ℕ) (refusal : Refusal) → refusal ≡ refusal_of_process n fault → (fault ≡ processing.OutOfMemory → ⊥)
      → Answers process_fault_kind entry.origin (λ x. process x entry) old new (Err fault) → Refuses fault refusal
  given-refused processing.OutOfMemory n refusal is found a = absurd (found refl)
  given-refused (processing.Stopped seq) n refusal is found a = λ seen h. absurd (none-some h.runs.running a.state.0)
  given-refused (processing.OutOfOrder expected got) n refusal is found a = λ seen h.
      refused (processing.OutOfOrder expected got) refusal seen h a.state.1 (a.client (client_over seen.doc) h.reached h.runs.client) (ap Some is)
  given-refused (processing.BadNumbers field kept got) n refusal is found a = λ seen h.
      refused (processing.BadNumbers field kept got) refusal seen h a.state.1 (a.client (client_over seen.doc) h.reached h.runs.client) (ap Some is)
  given-refused processing.NotSent n refusal is found a = λ seen h. absurd (over-sent seen.doc entry (a.client (client_over seen.doc) h.reached h.runs.client))

  pub given-fault : (fault : ProcessFault) (n : ℕ) (r : Result Told OutOfMemory) → IfOk r (λ told. told ≡ Refused (refusal_of_process n fault))
      → IfOk r (λ told. fault ≡ processing.OutOfMemory → ⊥) → Answers process_fault_kind entry.origin (λ x. process x entry) old new (Err fault)
      → (seen : Observation) → Observes seen.names old seen
      → IfOk r (λ told. IsStep (Observes seen.names new) told (observe_answer seen (process (client_over seen.doc) entry)))
  given-fault fault n (Ok told) is found a seen h =
      subst (λ t. IsStep (Observes seen.names new) t (observe_answer seen (process (client_over seen.doc) entry))) (sym is)
      (given-refused fault n (refusal_of_process n fault) refl found a seen h)
  given-fault fault n (Err e) is found a seen h = tt

-- the same for a message that was made
pub given-made : {E : Type 0} (old new : ReplicaState) (made : Result Entry E) (entry : Entry) (r : Result Told OutOfMemory) → made ≡ Ok entry
    → ((seen : Observation) → Observes seen.names old seen → IfOk r (λ told. IsStep (Observes seen.names new) told (observe_answer seen (process (client_over seen.doc) entry))))
    → IfOk r (λ told. (e : Entry) × (made ≡ Ok e) × ((seen : Observation) → Observes seen.names old seen
    → IsStep (Observes seen.names new) told (observe_answer seen (process (client_over seen.doc) e))))
given-made old new made entry (Ok told) is given = (entry, is, given)
given-made old new made entry (Err want) is given = tt

-- the message with the number of its sender is well formed, and adds at most one name, if there was memory for that
pub numbered-formed : {E : Type 0} (names : List (List ℕ)) (m : Message) (r : Result Entry E) → IsWellFormedMessage m → IfOk r (λ entry. entry ≡ numbered_entry names m)
    → IfOk r (λ entry. IsWellFormedMessage entry.msg)
numbered-formed names m (Ok entry) formed is = subst (λ (e : Entry). IsWellFormedMessage e.msg) (sym is) formed
numbered-formed names m (Err want) formed is = tt

pub length-numbered : {E : Type 0} (names later : List (List ℕ)) (name : Option (List ℕ)) (r : Result Entry E) → OnOk r (later ≡ names_with names name) → OnErr r (later ≡ names)
    → length later ≤ length names + 1
length-numbered names later name (Ok entry) ok err = omega (arith, ap length ok, length-names_with names name)
length-numbered names later name (Err want) ok err = omega (arith, ap length err)

-- the step of a message, from the entry that it makes and the names after it
pub message-step : (table names : List (List ℕ)) (old new : ReplicaState) (m : Message) (entry : Entry) (told : Told) (seen : Observation) → Observes table old seen
    → entry ≡ numbered_entry table m → names ≡ names_with table m.client_id
    → ((at : Observation) → Observes at.names old at → IsStep (Observes at.names new) told (observe_answer at (process (client_over at.doc) entry)))
    → IsStep (Observes names new) told (observe_message seen m)
unfolding observe_message
message-step table names old new m entry told seen h is_entry is_names given =
    let after : List (List ℕ) → Entry → Step Observation = λ ns e. observe_answer (record { names = ns; doc = seen.doc }) (process (client_over seen.doc) e) in
    subst (IsStep (Observes names new) told)
    (ap (λ ns. after ns entry) (is_names ∙ ap (λ ns. names_with ns m.client_id) h.known)
    ∙ ap (after (names_with seen.names m.client_id)) (is_entry ∙ ap (λ ns. numbered_entry ns m) h.known))
    (given (record { names = names; doc = seen.doc }) (record { known = refl; runs = h.runs; reached = h.reached }))

-- ---- what it begins with, and what it shows

pub starts-observing : (table names : List (List ℕ)) (r : ReplicaState) (doc : Document) (n : ℕ) → table ≡ names → StartsOver r doc n → IsReached (client_over doc)
    → Observes table r (record { names = names; doc = doc })
starts-observing table names r doc n same s reached = record { known = same; runs = s.runs; reached = reached }

-- these counts
abbrev pub counts_with : ℕ → ℕ → Counts
counts_with skipped other = record { skipped = skipped; other = other }

pub counts-told : (r : ReplicaState) (numbers : Numbers) (doc : Document) → StandsFor r.client (client_over doc) → numbers ≡ numbers_of r
    → counts_with numbers.skipped numbers.other ≡ counts_in doc
counts-told r numbers doc stands told =
    let x = client_over doc in
    ap (λ (n : Numbers). counts_with n.skipped n.other) told
    ∙ ap (λ n. counts_with n r.client.doc.other) (stands-skipped r.client x stands) ∙ ap (counts_with doc.skipped) (stands-other r.client x stands)

-- the lines of a view that shows what a client over the document shows
pub lines-shown : (v : View) (r : ReplicaState) (doc : Document) → StandsFor r.client (client_over doc) → v.numbers ≡ numbers_of r → view_content v ≡ shown doc
    → bytes_of (numbers_line v.numbers ∷ content_lines (view_content v)) ≡ bytes_of (view_lines doc)
unfolding view_lines
lines-shown v r doc stands numbers shows =
    let told : ℕ → ℕ → Numbers = λ number minimum. record (observer_numbers doc) { seq = number; min = minimum } in
    let x = client_over doc in
    ap (λ n. bytes_of (numbers_line n ∷ content_lines (view_content v))) numbers
    ∙ ap (λ n. bytes_of (numbers_line (told n r.client.doc.minimum) ∷ content_lines (view_content v))) (stands-number r.client x stands)
    ∙ ap (λ n. bytes_of (numbers_line (told doc.number n) ∷ content_lines (view_content v))) (stands-minimum r.client x stands)
    ∙ ap (λ w. bytes_of (numbers_line (observer_numbers doc) ∷ content_lines w)) shows

-- the step of a line behind a summary
pub load-next : (Holds : Observation → Type 0) (told : Told) (at : Loading) (line : List ℕ) → at.begun ≡ true → IsStep Holds told (observe at.seen line)
    → IsStep (λ (next : Loading). (next.begun ≡ true) × Holds next.seen) told (load_line at line)
load-next Holds told at line begun s =
    subst (λ b. IsStep (λ (next : Loading). (next.begun ≡ true) × Holds next.seen) told (if b then load_step (observe at.seen line) else load_reading (summary line))) (sym begun)
    (record { holds = (refl, s.holds); text = s.text; refusal = s.refusal })

-- the step of the summary's line, of which this is told
pub load-told : {E : Type 0} (Holds : Loading → Type 0) (r : Result Told E) (told : Told) (step : Step Loading) → IfOk r (λ said. said ≡ told) → OnOk r (Holds step.made)
    → told_text told ≡ bytes_of step.told → told_refusal told ≡ step.refusal → IfOk r (λ said. IsStep Holds said step)
load-told Holds (Err want) told step is h text refusal = tt
load-told Holds (Ok said) told step is h text refusal = subst (λ t. IsStep Holds t step) (sym is) (record { holds = h; text = text; refusal = refusal })

-- ---- the names of a summary

distinct-names : (names : List (List ℕ)) → are_distinct_names names ≡ true → AreDistinct names
distinct-names [] h = tt
distinct-names (first ∷ names) h =
    let h = both (not (list_any (bytes_eq first) names)) (are_distinct_names names) h in
    (not-true (list_any (bytes_eq first) names) h.0, distinct-names names h.1)

-- the next name stands between those before it and those behind it
pub names-split : (names items done : List (List ℕ)) (i : ℕ) (name : List ℕ) → done ++ drop i items ≡ names → i < length items → name ≡ get_or items i name
    → done ++ name ∷ drop (i + 1) items ≡ names
names-split names items done i name before within is =
    rw add-one (ap (λ first. done ++ first ∷ drop (suc i) items) is ∙ ap (λ xs. done ++ xs) (sym (drop-cons items i name within)) ∙ before)

-- it goes last
pub names-next : (names done left : List (List ℕ)) (name : List ℕ) → done ++ name ∷ left ≡ names → are_distinct_names names ≡ true → names_after done name ++ left ≡ names
names-next names done left name split distinct =
    let next = names_after-next done name left (subst AreDistinct (sym split) (distinct-names names distinct)) in
    ap (λ front. front ++ left) next ∙ append_assoc done (name ∷ []) left ∙ split

-- there are fewer names before it
pub names-before : (names done left : List (List ℕ)) (name : List ℕ) → done ++ name ∷ left ≡ names → length done < length names
names-before names done left name split = omega (arith, ap length split, length-append done (name ∷ left))
