-- What a replica is given, and for which client it stands then.
use Rattle.std.proofs.Common.{◌≡◌, ℕ, ◌+◌, Bool, true, false, not, cond, ◌&&◌, nat_eq, List, [], ◌∷◌, ◌++◌, Option, Some, None, Result, Ok, Err, IfOk, IsSome, refl, sym, ◌∙◌, ap, subst}
use Rattle.std.specs.Prelude.{OnOk}
use Rattle.std.proofs.lemmas.Result.{on_ok_weaker}
use Rattle.ft_base.specs.declared.memory.OutOfMemory.{OutOfMemory}
use Rattle.ft_op.specs.Document.{Document, empty}
use Rattle.ft_msg.specs.declared.faults.LinkFault.{LinkFault}
use Rattle.ft_msg.specs.declared.faults.LinkFault.TheVariants.{AlreadyConnected}
use Rattle.ft_msg.specs.declared.faults.ProcessFault.{ProcessFault}
use Rattle.ft_msg.specs.declared.faults.ProcessFault.TheVariants.{NotSent, OutOfOrder}
use Rattle.ft_msg.specs.declared.messages.Draft.{Draft}
use Rattle.ft_msg.specs.declared.messages.Entry.{Entry}
use Rattle.ft_msg.specs.declared.messages.Message.{Message}
use Rattle.ft_msg.specs.declared.messages.MsgKind.{MsgKind}
use Rattle.ft_msg.specs.declared.messages.MsgKind.TheVariants.{Join, Leave, Noop, Op, Other}
use Rattle.ft_msg.specs.declared.views.Link.{Link}
use Rattle.ft_msg.specs.declared.views.Link.TheVariants.{Joining, Offline, Online}
use Rattle.ft_msg.specs.Answers.{Answers, AnswersFault, FaultKind, MeansRefusal, ReplicaState, Refusal as OfItsClient, RunsFor, StoppedBefore, WantOfMemory, with_queue}
use Rattle.ft_msg.specs.Client.{NaiveClient, client_over, connect}
use Rattle.ft_msg.specs.Compacted.{StandsFor}
use Rattle.ft_msg.specs.Content.{content}
use Rattle.ft_msg.specs.Indexed.{IndexedClient}
use Rattle.ft_msg.specs.Process.{after_entry, is_oldest, is_op_kind, is_own, numbers_fault, process, process_fault}
use Rattle.ft_msg.specs.Reached.{IsReached}
use Rattle.ft_msg.proofs.ReachedSteps.{reached-connect}
use Rattle.ft_seqr.specs.declared.refusals.Refusal.{Refusal}
use Rattle.ft_changes.specs.declared.changes.ViewChange.{ViewChange}
use Rattle.ft_changes.specs.Shown.{ShownContent, after_changes, shown_content}
use Rattle.ft_changes.specs.Telling.{TellsChanges}
use Rattle.ft_changes.proofs.ForeignSteps.{after-append}
use Rattle.ft_change_lines.specs.FromNothing.{told_from_nothing}
use Rattle.ft_change_lines.proofs.ShownFromNothing.{from-nothing-leads}
use Rattle.ft_door.specs.Editors.{AddsTold, AnswersStep, IsRefusal, IsTold, Leads, client_after, is_join, joining_as, on_edit, on_entry, on_none, or_same, order_fault, since_nothing, since_told}

-- it takes the step
pub given-taken : {E : Type 0} (kind : E → FaultKind) (sender : ℕ) (step : NaiveClient → Result NaiveClient E) (refusal : E → Refusal) (old new : ReplicaState)
    → Answers kind sender step old new (Ok tt) → (x : NaiveClient) → IsReached x → RunsFor old x → AnswersStep refusal old new (step x) None
given-taken kind sender step refusal old new a x reached h =
    let (y, e, f) = a.client x reached h.client in (y, e, record { running = a.state.runs; client = f.client })

-- where it has no memory, now or before, it has stopped
pub given-stopped : {E : Type 0} (kind : E → FaultKind) (old new : ReplicaState) (fault : E) → ¬ IsRefusal (kind fault) → AnswersFault old new (kind fault) → IsSome new.stop
given-stopped kind old new fault want a = by (kind fault) want a
  where
    by : (k : FaultKind) → ¬ IsRefusal k → AnswersFault old new k → IsSome new.stop
    by WantOfMemory want (ran, stops) = subst (λ (stop : Option ℕ). IsSome stop) (sym stops.stop) refl
    by (StoppedBefore seq) want (stopped, same) = subst (λ (stop : Option ℕ). IsSome stop) (sym (ap (λ (r : ReplicaState). r.stop) same ∙ stopped)) refl
    by OfItsClient want a = absurd (want tt)

-- a client for which it runs refuses with the same fault
pub given-refused : {E : Type 0} (kind : E → FaultKind) (sender : ℕ) (step : NaiveClient → Result NaiveClient E) (old new : ReplicaState) (fault : E) → IsRefusal (kind fault)
    → Answers kind sender step old new (Err fault) → (x : NaiveClient) → IsReached x → RunsFor old x → step x ≡ Err fault
given-refused kind sender step old new fault refuses a x reached h = by (kind fault) refuses (a.client x reached h.client)
  where
    by : (k : FaultKind) → IsRefusal k → MeansRefusal k (step x ≡ Err fault) → step x ≡ Err fault
    by OfItsClient r means = means
    by WantOfMemory r means = absurd r
    by (StoppedBefore seq) r means = absurd r

-- ---- what is told

-- what is told leads from what was shown to what the client shows
pub told-leads : (shown : ShownContent) (changes : List ViewChange) (x : NaiveClient) → IsTold shown changes x → after_changes shown changes ≡ shown_content x
told-leads shown _ _ (since_nothing {x} e r) = ap (λ s. after_changes s (told_from_nothing (content x))) e ∙ from-nothing-leads x r
told-leads shown _ _ (since_told e) = e
told-leads shown changes _ (on_none {x} e t) = told-leads shown changes x t ∙ sym e
told-leads shown _ _ (on_edit {x} {y} {before} op r runs is tells t) =
    ap (after_changes shown) tells.added ∙ after-append shown before tells.changes ∙ ap (λ s. after_changes s tells.changes) (told-leads shown before x t)
    ∙ tells.leads x y r runs.client is
told-leads shown _ _ (on_entry {x} {y} {before} entry r runs is tells t) =
    ap (after_changes shown) tells.added ∙ after-append shown before tells.changes ∙ ap (λ s. after_changes s tells.changes) (told-leads shown before x t)
    ∙ tells.leads x y r runs.client is

-- what a client told is told to who listens to another one that shows the same
pub lead-same : (shown : Option ShownContent) (changes : Option (List ViewChange)) (x y : NaiveClient) → shown_content y ≡ shown_content x → Leads shown changes x → Leads shown changes y
lead-same None None x y e h = tt
lead-same (Some s) (Some cs) x y e h = on_none e h
lead-same None (Some cs) x y e h = absurd h
lead-same (Some s) None x y e h = absurd h

-- what is told of a step to who listens, and to nobody
pub adds-some : {E : Type 0} (step : NaiveClient → Result NaiveClient E) (told_of : NaiveClient → List ViewChange) (old : ReplicaState) (told after : Option (List ViewChange))
    (before more : List ViewChange) → told ≡ Some before → after ≡ Some more → (r : Result (Unit {0}) E) → OnOk r (TellsChanges step told_of old before more)
    → OnOk r (AddsTold step told_of old told after)
adds-some step told_of old told after before more t a r h =
    subst (λ (cs : Option (List ViewChange)). OnOk r (AddsTold step told_of old cs after)) (sym t) (on_ok_weaker r (λ tells. (more, a, tells)) h)

pub adds-none : {E : Type 0} (step : NaiveClient → Result NaiveClient E) (told_of : NaiveClient → List ViewChange) (old : ReplicaState) (told after : Option (List ViewChange))
    → told ≡ None → after ≡ None → (r : Result (Unit {0}) E) → OnOk r (AddsTold step told_of old told after)
adds-none step told_of old told after t a (Ok u) = subst (λ (cs : Option (List ViewChange)). AddsTold step told_of old cs after) (sym t) a
adds-none step told_of old told after t a (Err fault) = tt

module _ {E : Type 0} (kind : E → FaultKind) (sender : ℕ) (step : NaiveClient → Result NaiveClient E) (told_of : NaiveClient → List ViewChange) (old new : ReplicaState)
    (before after : Option (List ViewChange)) where
  -- what is told of a step goes behind what was told before it
  abbrev GoesBehind : Type 0
  GoesBehind =
      (shown : ShownContent) (cs ds : List ViewChange) (x y : NaiveClient) → IsReached x → RunsFor old x → step x ≡ Ok y → TellsChanges step told_of old cs ds
      → IsTold shown cs x → IsTold shown ds y

  lead-on : GoesBehind → (x y : NaiveClient) (shown : Option ShownContent) (cs ds : Option (List ViewChange)) → IsReached x → RunsFor old x → step x ≡ Ok y
      → AddsTold step told_of old cs ds → Leads shown cs x → Leads shown ds y
  lead-on behind x y None None ds reached h e adds leads = subst (λ (changes : Option (List ViewChange)). Leads None changes y) (sym adds) tt
  lead-on behind x y (Some s) (Some changes) ds reached h e (more, is, tells) leads =
      subst (λ (cs : Option (List ViewChange)). Leads (Some s) cs y) (sym is) (behind s changes more x y reached h e tells leads)
  lead-on behind x y None (Some changes) ds reached h e adds leads = absurd leads
  lead-on behind x y (Some s) None ds reached h e adds leads = absurd leads

  pub taken-leads : GoesBehind → Answers kind sender step old new (Ok tt) → AddsTold step told_of old before after → (x : NaiveClient) (shown : Option ShownContent) → IsReached x
      → RunsFor old x → Leads shown before x → Leads shown after (client_after x (step x))
  taken-leads behind a adds x shown reached h leads =
      let (y, e, f) = a.client x reached h.client in
      subst (λ (r : Result NaiveClient E). Leads shown after (client_after x r)) (sym e) (lead-on behind x y shown before after reached h e adds leads)

  pub refused-leads : (fault : E) → IsRefusal (kind fault) → Answers kind sender step old new (Err fault) → after ≡ before → (x : NaiveClient) (shown : Option ShownContent)
      → IsReached x → RunsFor old x → Leads shown before x → Leads shown after (client_after x (step x))
  refused-leads fault refuses a same x shown reached h leads =
      subst (λ (r : Result NaiveClient E). Leads shown after (client_after x r)) (sym (given-refused kind sender step old new fault refuses a x reached h))
      (subst (λ (cs : Option (List ViewChange)). Leads shown cs x) (sym same) leads)

-- a client that begins to join is made by steps too
pub joins-reached : (x : NaiveClient) (conn : ℕ) → IsReached x → IsReached (joining_as true conn x)
joins-reached x conn h = by (connect x conn) refl
  where
    by : (a : Result NaiveClient LinkFault) → connect x conn ≡ a → IsReached (or_same x a)
    by (Ok y) e = reached-connect x y conn h e
    by (Err fault) e = h

-- with another queue it stands for the client with that queue
stands-queued : (queue : List Draft) (c : IndexedClient) (x : NaiveClient) → StandsFor c x → StandsFor (record c { queue = queue }) (record x { queue = queue })
stands-queued queue c x s =
    let d = s.keeps.doc in
    record {
      kept = record s.kept { queue = queue };
      shows = ap (λ (b : IndexedClient). record b { queue = queue }) s.shows;
      keeps = record {
        doc = record { text = d.text; rows = d.rows; cols = d.cols; cells = d.cells; rest = d.rest };
        rest = ap (λ (k : NaiveClient). record k { queue = queue }) s.keeps.rest;
      };
    }

pub runs-queued : (queue : List Draft) (r : ReplicaState) (x : NaiveClient) → RunsFor r x → RunsFor (with_queue queue r) (record x { queue = queue })
runs-queued queue r x h = record { running = h.running; client = stands-queued queue r.client x h.client }

-- ---- a join that is the next message

-- it isn't refused, whichever client took it
pub join-given : {E : Type 0} (refusal : E → Refusal) (old middle new : ReplicaState) (step taken : Result NaiveClient E) (y : NaiveClient) → taken ≡ Ok y
    → (r : Result (Option Refusal) OutOfMemory) → IfOk r (AnswersStep refusal middle new taken) → IfOk r (AnswersStep refusal middle new step)
    → IfOk r (AnswersStep refusal old new step)
join-given refusal old middle new step taken y is (Ok None) own given = given
join-given refusal old middle new step taken y is (Ok (Some why)) own given = let e = own.1 in absurd (cc)
join-given refusal old middle new step taken y is (Err want) own given = tt

-- what it adds to what is told leads on, also from before the client began to join
pub join-leads : {E : Type 0} (shown : Option ShownContent) (told : Option (List ViewChange)) (x z : NaiveClient) (step : Result NaiveClient E) → shown_content z ≡ shown_content x
    → (r : Result (Option Refusal) OutOfMemory) → IfOk r (λ _. Leads shown told (client_after z step)) → IfOk r (λ _. Leads shown told (client_after x step))
join-leads shown told x z (Ok y) e r h = h
join-leads shown told x z (Err fault) e (Ok refusal) h = lead-same shown told z x (sym e) h
join-leads shown told x z (Err fault) e (Err want) h = tt

-- where a message is the next one, its number is the next, and no other number contradicts
next-numbers : (number minimum : ℕ) (m : Message) → order_fault number minimum m ≡ None
    → (nat_eq m.seq (number + 1) ≡ true) × (numbers_fault (client_over (record empty { number = number; minimum = minimum })) (record { msg = m; origin = 0 }) ≡ None)
next-numbers number minimum m e = by (nat_eq m.seq (number + 1)) refl e
  where
    fault : Option ProcessFault
    fault = numbers_fault (client_over (record empty { number = number; minimum = minimum })) (record { msg = m; origin = 0 })

    by : (b : Bool) → nat_eq m.seq (number + 1) ≡ b → cond (not b) (Some (OutOfOrder (number + 1) m.seq)) fault ≡ None
        → (nat_eq m.seq (number + 1) ≡ true) × (fault ≡ None)
    by true is f = (is, f)
    by false is f = absurd (cc)

no-op : (k : MsgKind) → is_join k ≡ true → is_op_kind k ≡ false
no-op Join e = refl
no-op Leave e = refl
no-op Op e = absurd (cc)
no-op Noop e = refl
no-op (Other word) e = absurd (cc)

-- to begin to join leaves the document
same-document : (x : NaiveClient) (conn : ℕ) → (joining_as true conn x).doc ≡ x.doc
same-document x conn = by x.link
  where
    by : (link : Link) → (or_same x (elim link [
      | Offline ↦ Ok (record x { link = Joining conn; conns = x.conns ++ (conn ∷ []); next_client_seq = 1 })
      | _ ↦ Err AlreadyConnected
    ])).doc ≡ x.doc
    by Offline = refl
    by (Joining n) = refl
    by (Online n) = refl

-- and what is shown
pub same-shown : (x : NaiveClient) (conn : ℕ) → shown_content (joining_as true conn x) ≡ shown_content x
same-shown x conn = by x.link
  where
    by : (link : Link) → shown_content (or_same x (elim link [
      | Offline ↦ Ok (record x { link = Joining conn; conns = x.conns ++ (conn ∷ []); next_client_seq = 1 })
      | _ ↦ Err AlreadyConnected
    ])) ≡ shown_content x
    by Offline = refl
    by (Joining n) = refl
    by (Online n) = refl

-- the client takes it
pub join-taken : (x : NaiveClient) (m : Message) (origin : ℕ) → is_join m.kind ≡ true → order_fault x.doc.number x.doc.minimum m ≡ None
    → (y : NaiveClient) × (process (joining_as true origin x) (record { msg = m; origin = origin }) ≡ Ok y)
join-taken x m origin joins next = taken (joining_as true origin x) (subst (λ (d : Document). order_fault d.number d.minimum m ≡ None) (sym (same-document x origin)) next)
  where
    taken : (z : NaiveClient) → order_fault z.doc.number z.doc.minimum m ≡ None → (y : NaiveClient) × (process z (record { msg = m; origin = origin }) ≡ Ok y)
    taken z order =
        let (number, numbers) = next-numbers z.doc.number z.doc.minimum m order in
        let entry : Entry = record { msg = m; origin = origin } in
        let unsent : Option ProcessFault = cond (is_op_kind m.kind && is_own z entry && not (is_oldest entry z.pending)) (Some NotSent) None in
        let behind : Option ProcessFault → Option ProcessFault = λ o. elim o [ Some fault ↦ Some fault | None ↦ unsent ] in
        let none : process_fault z entry ≡ None =
        (λ j. cond (not (number j)) (Some (OutOfOrder (z.doc.number + 1) m.seq)) (behind (numbers_fault z entry)))
        ∙ ap behind numbers
        ∙ (λ j. cond (no-op m.kind joins j && is_own z entry && not (is_oldest entry z.pending)) (Some NotSent) None) in
        (after_entry z entry, ap (λ (o : Option ProcessFault). elim o as (λ _. Result NaiveClient ProcessFault) [ Some fault ↦ Err fault | None ↦ Ok (after_entry z entry) ]) none)
