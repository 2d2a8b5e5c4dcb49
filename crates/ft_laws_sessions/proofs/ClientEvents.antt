-- What each event does to the client that it is of: it stays one of the log.
use Rattle.std.proofs.Common.{◌≡◌, ℕ, ◌+◌, ◌≤◌, Bool, true, false, cond, not, ◌&&◌, ◌||◌, nat_eq, List, [], ◌∷◌, ◌++◌, append-nil, append_assoc, drop, Option, Some, None, Result, Ok, Err, find, pos, refl, sym, ◌∙◌, ap, subst, arith}
use Rattle.std.specs.List.{list_all, list_any}
use Rattle.std.proofs.lemmas.Bool.Decides.{nat_tests}
use Rattle.ft_op.specs.declared.operations.ChannelOp.{ChannelOp}
use Rattle.ft_msg.specs.declared.faults.EditFault.{EditFault}
use Rattle.ft_msg.specs.declared.messages.Body.{Body}
use Rattle.ft_msg.specs.declared.messages.Body.TheVariants.{Nothing, Op, Elsewhere}
use Rattle.ft_msg.specs.declared.messages.Draft.{Draft}
use Rattle.ft_msg.specs.declared.messages.Entry.{Entry}
use Rattle.ft_msg.specs.declared.views.Link.{Link}
use Rattle.ft_msg.specs.declared.views.Link.TheVariants.{Offline, Joining, Online}
use Rattle.ft_props.specs.Properties.{Characters}
use Rattle.ft_op.specs.Document.{Document, empty}
use Rattle.ft_op.specs.Operation.{SubOperation, sub_operations}
use Rattle.ft_op.specs.Stages.{Stage}
use Rattle.ft_msg.specs.Agreed.{agreed}
use Rattle.ft_msg.specs.Client.{EditResult, NaiveClient, PendingEdit, after_edit, client_over, connect, drop_link, local_edit, local_sub_operation, local_sub_operations, noop, stages_of}
use Rattle.ft_msg.specs.Process.{is_body, is_op_kind, is_sent_as}
use Rattle.ft_op.specs.Same.{same_int}
use Rattle.ft_op.proofs.SameOperations.{same_op-Decides}
use Rattle.ft_seqr.specs.Sequencer.{JoinedConnection, NaiveSequencer, is_joined, join, draft_kind, next, sequence, submit, submitted}
use Rattle.ft_seqr.specs.World.{conn_of, inserted_count}
use Rattle.ft_laws_agreement.specs.Agreement.{IsRun}
use Rattle.ft_msg.specs.ClientSteps.{ClientStep, Edits, Connects, Drops, Idles, Sends, Restarts, after_step, has_fitting_body, is_none_pending, taken_entries, unless_refused}
use Rattle.ft_laws_agreement.specs.Sequencing.{Each}
use Rattle.ft_laws_agreement.proofs.AnyAndAll.{any-behind}
use Rattle.ft_laws_agreement.proofs.Booleans.{never}
use Rattle.ft_laws_agreement.proofs.ClientsAgree.{clients-agree}
use Rattle.ft_laws_agreement.proofs.CountedEntries.{after_first, with_first}
use Rattle.ft_laws_agreement.proofs.NumberTests.{same_number}
use Rattle.ft_msg.specs.WellFormed.{IsWellFormedBody, has_body}
use Rattle.ft_laws_sessions.specs.LogOrder.{StandsNext}
use Rattle.ft_laws_summaries.proofs.Lists.{each-any, each-found, each-more, each-weaker, filter-more, find-changed, find-filtered, find-mapped, find-more, find-new}
use Rattle.ft_laws_sessions.proofs.Orders.{IsAccepted, IsBase, IsBounded, Leads, after_draft, draft-numbered, gone, join-numbered, leads-more, leads-up, leave-numbered, new_connection, numbered-base, numbered-follows, others, submit-accepted}
use Rattle.ft_laws_sessions.proofs.Links.{AnyEdits, HasJoined, IsAnswered, IsDraftOf, IsFirstQueued, IsLinked, IsOffline, IsOnline, IsQueue, IsQueued, answered-more, answered-next, answered-weaker, awaits-new, is_owed, owed, owed-more, queue-more, queue-up, queued-more, queued-noop}
use Rattle.ft_laws_sessions.proofs.Owing.{answered-behind, behind, each-behind_some, edit_cost, entry_cost, noops, op_inserts, owing, owing-edited, owing-sent, owing_of, stage_inserts, total, total-append}
use Rattle.ft_laws_sessions.proofs.Prices.{client-priced}
use Rattle.ft_laws_summaries.proofs.FormedClients.{IsFormed, IsFormedEdit, IsFormedSent}
use Rattle.ft_props.specs.Element.{ListElement}
use Rattle.ft_msg.specs.Agreed.{agreed}
use Rattle.ft_laws_sessions.proofs.SkippedEntries.{own-entry-skips}
use Rattle.ft_laws_sessions.proofs.Served.{IsOwned, IsServed, entry_of, run-more, taken-more}

-- ---- numbers of clients that took the same

-- a client's number and minimum are those of the agreed document
numbers-agree : (steps : List ClientStep) (x : NaiveClient) → IsRun steps x → (x.doc.number ≡ (agreed (taken_entries steps)).number)
    × (x.doc.minimum ≡ (agreed (taken_entries steps)).minimum)
numbers-agree steps x r = let a = clients-agree steps x r.made r.bodies in (ap (λ (d : Document). d.number) a, ap (λ (d : Document). d.minimum) a)

-- a step without an entry keeps them, and the client stays served where its link does
pub served-step : (owner : ℕ → Option Characters) (count : ℕ) (q : NaiveSequencer) (log : List Entry) (name : Characters) (rest : List Entry)
    (x y : NaiveClient) (s : ClientStep) → after_step x s ≡ Some y → entry_of s ≡ []
    → Each (IsOwned owner count name) y.conns → (y.doc.number ≡ x.doc.number → IsLinked y.conns y.doc.number y.next_client_seq y.queue y.pending rest q y.link)
    → IsServed owner count q log name rest x → IsServed owner count q log name rest y
served-step owner count q log name rest x y s h e o l v =
    let run : IsRun (v.steps ++ (s ∷ [])) y = run-more v.steps x y s v.run h (ap (list_all has_fitting_body) e) in
    let same : taken_entries (v.steps ++ (s ∷ [])) ≡ taken_entries v.steps = taken-more v.steps s
    ∙ (ap (λ es. taken_entries v.steps ++ es) e ∙ append-nil (taken_entries v.steps)) in
    let before = numbers-agree v.steps x v.run in
    let after = numbers-agree (v.steps ++ (s ∷ [])) y run in
    let number : y.doc.number ≡ x.doc.number = after.0 ∙ (ap (λ es. (agreed es).number) same ∙ sym before.0) in
    let minimum : y.doc.minimum ≡ x.doc.minimum = after.1 ∙ (ap (λ es. (agreed es).minimum) same ∙ sym before.1) in
    record {
      steps = v.steps ++ (s ∷ []);
      run = run;
      entries = ap (λ es. es ++ rest) same ∙ v.entries;
      order = subst (λ i. Leads i y.doc.minimum rest q.number q.minimum) (sym number) (subst (λ i. Leads x.doc.number i rest q.number q.minimum) (sym minimum) v.order);
      conns = o;
      link = l number;
    }

-- ---- an edit of its own

-- the stages of sub-operations insert what these do
rest-insert : (n : ℕ) (here : Stage) (r : Result (Document × List Stage) EditFault) (taken : Document × List Stage)
    → ((rest : Document × List Stage) → r ≡ Ok rest → total stage_inserts rest.1 ≡ n)
    → with_first here r ≡ Ok taken → total stage_inserts taken.1 ≡ stage_inserts here + n
rest-insert n here (Err fault) taken f h = (cc)
rest-insert n here (Ok rest) taken f h =
    let same : (rest.0, here ∷ rest.1) ≡ taken = (cc) in
    ap (λ (z : Document × List Stage). total stage_inserts z.1) (sym same) ∙ ap (λ m. stage_inserts here + m) (f rest refl)

all-insert : (os : List SubOperation) (doc : Document) (stages : List Stage) (k : ℕ) (taken : Document × List Stage) → local_sub_operations doc stages k os
    ≡ Ok taken → total stage_inserts taken.1 ≡ total inserted_count os
all-insert [] doc stages k taken h =
    let bare : List Stage = [] in
    let same : (doc, bare) ≡ taken = (cc) in
    ap (λ (z : Document × List Stage). total stage_inserts z.1) (sym same)
all-insert (o ∷ os) doc stages k taken h =
    first (λ d ss rest. all-insert os d ss (k + 1) rest) (local_sub_operation doc stages k o) h
  where
    first : ((d : Document) (ss : List Stage) (rest : Document × List Stage) → local_sub_operations d ss (k + 1) os ≡ Ok rest → total stage_inserts rest.1
        ≡ total inserted_count os) → (r : EditResult)
        → after_first stages k o os r ≡ Ok taken → total stage_inserts taken.1 ≡ inserted_count o + total inserted_count os
    first ih (Err fault) g = (cc)
    first ih (Ok one) g =
        let here : Stage = record { stage = k; sub_operation = o; names = one.1 } in
        rest-insert (total inserted_count os) here (local_sub_operations one.0 (stages ++ (here ∷ [])) (k + 1) os) taken (λ rest f. ih one.0 (stages ++ (here ∷ [])) rest f) g

-- what an accepted edit makes
pub record IsEdited (x : NaiveClient) (op : ChannelOp) (y : NaiveClient) : Type 0 where
  pub doc : Document
  pub stages : List Stage
  pub inserts : total stage_inserts stages ≡ op_inserts op
  pub same : after_edit op doc stages x ≡ y

abbrev edited : NaiveClient → ChannelOp → Result (Document × List Stage) EditFault → Result NaiveClient EditFault
edited x op (Err fault) = Err fault
edited x op (Ok taken) = Ok (after_edit op taken.0 taken.1 x)

pub edit-made : (x y : NaiveClient) (op : ChannelOp) → local_edit x op ≡ Ok y → IsEdited x op y
edit-made x y op h = by (local_sub_operations x.doc (stages_of x) (x.last_stage + 1) (sub_operations op)) refl h
  where
    by : (r : Result (Document × List Stage) EditFault) → local_sub_operations x.doc (stages_of x) (x.last_stage + 1) (sub_operations op) ≡ r → edited x op r
        ≡ Ok y → IsEdited x op y
    by (Err fault) e g = (cc)
    by (Ok taken) e g =
        let s : after_edit op taken.0 taken.1 x ≡ y = (cc) in
        record { doc = taken.0; stages = taken.1; inserts = all-insert (sub_operations op) x.doc (stages_of x) (x.last_stage + 1) taken e; same = s }

edited-owes : (x : NaiveClient) (op : ChannelOp) (doc : Document) (stages : List Stage) (rest : List Entry) (link : Link) → total stage_inserts stages ≡ op_inserts op
    → owing_of (after_edit op doc stages (record x { link = link })) rest ≤ owing_of x rest + (1 + op_inserts op)
edited-owes x op doc stages rest Offline e = let h = owing-edited x.conns rest x.pending (record { stages = stages; ref_seq = x.doc.number; sent = None })
    x.queue in omega (arith, h, e)
edited-owes x op doc stages rest (Joining conn) e = let h = owing-edited x.conns rest x.pending
    (record { stages = stages; ref_seq = x.doc.number; sent = None }) x.queue in omega (arith, h, e)
edited-owes x op doc stages rest (Online conn) e =
    let d : Draft = record { client_seq = x.next_client_seq; ref_seq = x.doc.number; body = Op op } in
    let edit : PendingEdit = record { stages = stages; ref_seq = x.doc.number; sent = Some (record { conn = conn; client_seq = x.next_client_seq; op = op }) } in
    let h = owing-edited x.conns rest x.pending edit x.queue in
    let none = total-append noops x.queue (d ∷ []) in
    omega (arith, h, e, none)

-- it owes one message more, and the elements that the edit inserts
pub edit-owes : (x y : NaiveClient) (op : ChannelOp) (rest : List Entry) → local_edit x op ≡ Ok y → owing_of y rest ≤ owing_of x rest + (1 + op_inserts op)
edit-owes x y op rest h =
    let e = edit-made x y op h in
    subst (λ z. owing_of z rest ≤ owing_of x rest + (1 + op_inserts op)) e.same (edited-owes x op e.doc e.stages rest x.link e.inserts)

-- the parts of a client of which a link speaks
pub record HasLink (x : NaiveClient) (cs : List ℕ) (link : Link) (rest : List Entry) (q : NaiveSequencer) (number : ℕ) : Type 0 where
  pub conns : x.conns ≡ cs
  pub linked : IsLinked cs number x.next_client_seq x.queue x.pending rest q x.link

edited-link : (x : NaiveClient) (op : ChannelOp) (doc : Document) (stages : List Stage) (rest : List Entry) (q : NaiveSequencer) (link : Link)
    → IsLinked x.conns x.doc.number x.next_client_seq x.queue x.pending rest q link → HasLink (after_edit op doc stages (record x { link = link })) x.conns link rest q x.doc.number
edited-link x op doc stages rest q Offline l = record {
  conns = refl;
  linked = record {
    unsent = l.unsent;
    answered = answered-more (owed x.conns rest) x.pending (record { stages = stages; ref_seq = x.doc.number; sent = None })
        AnyEdits AnyEdits (λ ys g. tt) l.answered;
  };
}
edited-link x op doc stages rest q (Joining conn) l = record {
  conns = refl;
  linked = record {
    j = l.j;
    has = l.has;
    first = l.first;
    unsent = l.unsent;
    awaits = l.awaits;
    answered = answered-more (owed x.conns rest) x.pending (record { stages = stages; ref_seq = x.doc.number; sent = None }) AnyEdits AnyEdits (λ ys g. tt) l.answered;
  };
}
edited-link x op doc stages rest q (Online conn) l =
    let d : Draft = record { client_seq = x.next_client_seq; ref_seq = x.doc.number; body = Op op } in
    let edit : PendingEdit = record { stages = stages; ref_seq = x.doc.number; sent = Some (record { conn = conn; client_seq = x.next_client_seq; op = op }) } in
    record {
      conns = refl;
      linked = record {
        j = l.j;
        has = l.has;
        numbers = queue-more l.j.client_seq l.j.ref_seq x.queue x.doc.number x.next_client_seq (Op op) l.numbers;
        answered = answered-more (owed x.conns rest) x.pending edit (λ ys. IsQueued conn x.queue ys) (λ ys. IsQueued conn (x.queue ++ (d ∷ [])) ys)
            (λ ys g. queued-more conn x.queue ys d op edit g refl (refl, refl)) l.answered;
      };
    }

pub served-edits : (owner : ℕ → Option Characters) (count : ℕ) (q : NaiveSequencer) (log : List Entry) (name : Characters) (rest : List Entry)
    (x y : NaiveClient) (op : ChannelOp) → local_edit x op ≡ Ok y
    → IsServed owner count q log name rest x → IsServed owner count q log name rest y
served-edits owner count q log name rest x y op h v =
    let e = edit-made x y op h in
    let l : HasLink y x.conns x.link rest q x.doc.number = subst (λ z. HasLink z x.conns x.link rest q x.doc.number) e.same
    (edited-link x op e.doc e.stages rest q x.link v.link) in
    served-step owner count q log name rest x y (Edits op) (ap unless_refused h) refl (subst (Each (IsOwned owner count name)) (sym l.conns) v.conns)
    (λ n. subst (λ cs. IsLinked cs y.doc.number y.next_client_seq y.queue y.pending rest q y.link) (sym l.conns)
    (subst (λ i. IsLinked x.conns i y.next_client_seq y.queue y.pending rest q y.link) (sym n) l.linked)) v

-- ---- a noop

noop-link : (x y : NaiveClient) (rest : List Entry) (q : NaiveSequencer) (link : Link) → noop (record x { link = link }) ≡ Ok y
    → IsLinked x.conns x.doc.number x.next_client_seq x.queue x.pending rest q link
    → HasLink y x.conns link rest q x.doc.number
noop-link x y rest q Offline h l = (cc)
noop-link x y rest q (Joining conn) h l = (cc)
noop-link x y rest q (Online conn) h l = subst (λ z. HasLink z x.conns (Online conn) rest q x.doc.number) same here
  where
    d : Draft
    d = record { client_seq = x.next_client_seq; ref_seq = x.doc.number; body = Nothing }

    z : NaiveClient
    z = record x { link = Online conn; next_client_seq = x.next_client_seq + 1; queue = x.queue ++ (d ∷ []) }

    same : z ≡ y
    same = (cc)

    here : HasLink z x.conns (Online conn) rest q x.doc.number
    here = record {
      conns = refl;
      linked = record {
        j = l.j;
        has = l.has;
        numbers = queue-more l.j.client_seq l.j.ref_seq x.queue x.doc.number x.next_client_seq Nothing l.numbers;
        answered = answered-weaker (owed x.conns rest) x.pending (λ ys. IsQueued conn x.queue ys) (λ ys. IsQueued conn (x.queue ++ (d ∷ [])) ys)
            (λ ys g. queued-noop conn x.queue ys d g refl) l.answered;
      };
    }

noop-queued : (x y : NaiveClient) (rest : List Entry) (link : Link) → noop (record x { link = link }) ≡ Ok y → owing_of y rest ≤ owing_of x rest + 1
noop-queued x y rest Offline h = (cc)
noop-queued x y rest (Joining conn) h = (cc)
noop-queued x y rest (Online conn) h = subst (λ w. owing_of w rest ≤ owing_of x rest + 1) same (let more = total-append noops x.queue (d ∷ []) in omega (arith, more))
  where
    d : Draft
    d = record { client_seq = x.next_client_seq; ref_seq = x.doc.number; body = Nothing }

    same : record x { link = Online conn; next_client_seq = x.next_client_seq + 1; queue = x.queue ++ (d ∷ []) } ≡ y
    same = (cc)

-- it owes one message more
pub noop-owes : (x y : NaiveClient) (rest : List Entry) → noop x ≡ Ok y → owing_of y rest ≤ owing_of x rest + 1
noop-owes x y rest h = noop-queued x y rest x.link h

pub served-idles : (owner : ℕ → Option Characters) (count : ℕ) (q : NaiveSequencer) (log : List Entry) (name : Characters) (rest : List Entry) (x y : NaiveClient) → noop x ≡ Ok y
    → IsServed owner count q log name rest x → IsServed owner count q log name rest y
served-idles owner count q log name rest x y h v =
    let l : HasLink y x.conns x.link rest q x.doc.number = noop-link x y rest q x.link h v.link in
    served-step owner count q log name rest x y Idles (ap unless_refused h) refl (subst (Each (IsOwned owner count name)) (sym l.conns) v.conns)
    (λ n. subst (λ cs. IsLinked cs y.doc.number y.next_client_seq y.queue y.pending rest q y.link) (sym l.conns)
    (subst (λ i. IsLinked x.conns i y.next_client_seq y.queue y.pending rest q y.link) (sym n) l.linked)) v

-- ---- a draft goes to the sequencer

four-true : (a b c d : Bool) → a ≡ true → b ≡ true → c ≡ true → d ≡ true → a && b && c && d ≡ true
four-true true true true true ha hb hc hd = refl
four-true false b c d ha hb hc hd = (cc)
four-true true false c d ha hb hc hd = (cc)
four-true true true false d ha hb hc hd = (cc)
four-true true true true false ha hb hc hd = (cc)

int-self : (n : ℕ) → same_int (pos n) (pos n) ≡ true
int-self n = grind (arith, nat_tests)

-- the message of a draft is its edit as it was sent
sent-so : (q : NaiveSequencer) (j : JoinedConnection) (d : Draft) (op : ChannelOp) (edit : PendingEdit) → d.body ≡ Op op → IsDraftOf j.conn d op edit
    → is_sent_as (sequence q j d).1 edit ≡ true
sent-so q j d op edit b i =
    let e = (sequence q j d).1 in
    subst (λ s. is_sent_as e (record edit { sent = s }) ≡ true) (sym i.0)
    (four-true (nat_eq j.conn j.conn) (same_int (pos d.client_seq) (pos d.client_seq)) (same_int (pos edit.ref_seq) (pos d.ref_seq)) (is_body op d.body)
    (grind (arith, nat_tests)) (int-self d.client_seq)
    (subst (λ r. same_int (pos r) (pos d.ref_seq) ≡ true) (sym i.1) (int-self d.ref_seq))
    (subst (λ o. is_body op o ≡ true) (sym b) ((same_op-Decides op op).1 refl)))

-- the message of the first draft stands behind the rest
sent-answered : (conns : List ℕ) (rest : List Entry) (pending : List PendingEdit) (q : NaiveSequencer) (j : JoinedConnection) (d : Draft) (ds : List Draft)
    → list_any (nat_eq j.conn) conns ≡ true
    → IsAnswered (owed conns rest) pending (λ ys. IsQueued j.conn (d ∷ ds) ys) → IsAnswered (owed conns (rest ++ ((sequence q j d).1 ∷ []))) pending (λ ys. IsQueued j.conn ds ys)
sent-answered conns rest pending q j d ds o a = by d.body refl
  where
    e : Entry
    e = (sequence q j d).1

    R : List PendingEdit → Type 0
    R ys = IsQueued j.conn ds ys

    kind-is : (b : Body) → d.body ≡ b → is_owed conns e ≡ is_op_kind (draft_kind b) && true
    kind-is b h = ap (λ t. is_op_kind (draft_kind d.body) && t) o ∙ ap (λ t. is_op_kind (draft_kind t) && true) h

    owing : is_owed conns e ≡ true → owed conns (rest ++ (e ∷ [])) ≡ owed conns rest ++ (e ∷ [])
    owing h = filter-more (is_owed conns) rest e ∙ ap (λ b. owed conns rest ++ (cond b (e ∷ []) [])) h

    first : (op : ChannelOp) → d.body ≡ Op op → (ys : List PendingEdit) → IsFirstQueued j.conn d (Op op) ys R → IsAnswered (e ∷ []) ys R
    first op h [] g = absurd g
    first op h (edit ∷ ys) g = (sent-so q j d op edit h g.0, g.1)

    by : (b : Body) → d.body ≡ b → IsAnswered (owed conns (rest ++ (e ∷ []))) pending R
    by Nothing h =
        subst (λ es. IsAnswered es pending R) (sym (owed-more conns rest e (kind-is Nothing h)))
        (answered-weaker (owed conns rest) pending (λ ys. IsQueued j.conn (d ∷ ds) ys) R (λ ys g. subst (λ b. IsFirstQueued j.conn d b ys R) h g) a)
    by (Op op) h =
        subst (λ es. IsAnswered es pending R) (sym (owing (kind-is (Op op) h)))
        (answered-next (owed conns rest) e pending (λ ys. IsQueued j.conn (d ∷ ds) ys) R (λ ys g. first op h ys (subst (λ b. IsFirstQueued j.conn d b ys R) h g)) a)
    by (Elsewhere address) h =
        subst (λ es. IsAnswered es pending R) (sym (owing (kind-is (Elsewhere address) h)))
        (answered-next (owed conns rest) e pending (λ ys. IsQueued j.conn (d ∷ ds) ys) R (λ ys g. absurd (subst (λ b. IsFirstQueued j.conn d b ys R) h g)) a)

-- ---- other connections stay joined as they are

other-of : (a b c : ℕ) → nat_eq a b ≡ false → nat_eq a c ≡ true → nat_eq b c ≡ false
other-of a b c h g = grind (arith, nat_tests)

submitted-name : (conn : ℕ) (b : Bool) (d : Draft) (i : JoinedConnection) → is_joined conn (cond b (submitted d i) i) ≡ is_joined conn i
submitted-name conn true d i = refl
submitted-name conn false d i = refl

pub sequence-kept : (q : NaiveSequencer) (j : JoinedConnection) (d : Draft) (conn : ℕ) → nat_eq conn j.conn ≡ false → find (is_joined conn) (after_draft j d q)
    ≡ find (is_joined conn) q.joined
sequence-kept q j d conn h =
    find-changed (is_joined conn) (λ i. cond (is_joined j.conn i) (submitted d i) i) (λ i. submitted-name conn (is_joined j.conn i) d i)
    (λ i g. ap (λ b. cond b (submitted d i) i) (other-of conn j.conn i.conn h g)) q.joined

pub sequence-own : (q : NaiveSequencer) (j : JoinedConnection) (d : Draft) → find (is_joined j.conn) q.joined ≡ Some j → is_joined j.conn j ≡ true
    → find (is_joined j.conn) (after_draft j d q) ≡ Some (submitted d j)
sequence-own q j d f s =
    find-mapped (is_joined j.conn) (λ i. cond (is_joined j.conn i) (submitted d i) i) (λ i. submitted-name j.conn (is_joined j.conn i) d i) q.joined j f
    ∙ ap (λ b. Some (cond b (submitted d j) j)) s

pub leave-kept : (q : NaiveSequencer) (conn other : ℕ) → nat_eq other conn ≡ false → find (is_joined other) (others conn q) ≡ find (is_joined other) q.joined
leave-kept q conn other h =
    find-filtered (is_joined other) (λ i. not (is_joined conn i)) (λ i g. ap not (other-of other conn i.conn h g)) q.joined

pub join-kept : (q : NaiveSequencer) (conn : ℕ) (name : Characters) (other : ℕ) → nat_eq other conn ≡ false
    → find (is_joined other) (q.joined ++ (new_connection q conn name ∷ [])) ≡ find (is_joined other) q.joined
join-kept q conn name other h = find-more (is_joined other) q.joined (new_connection q conn name) h

-- ---- a draft goes to the sequencer

-- the sequencer numbered a message of the connection
pub record IsLogged (count : ℕ) (q : NaiveSequencer) (log : List Entry) (conn : ℕ) (p : NaiveSequencer × Entry) : Type 0 where
  pub base : IsBase count p.0 (log ++ (p.1 ∷ []))
  pub follows : StandsNext q.number q.minimum p.1
  pub number : p.0.number ≡ q.number + 1
  pub minimum : p.0.minimum ≡ p.1.msg.min
  pub origin : p.1.origin ≡ conn
  pub kept : (other : ℕ) → nat_eq other conn ≡ false → find (is_joined other) p.0.joined ≡ find (is_joined other) q.joined

pub sequence-logged : (count : ℕ) (q : NaiveSequencer) (log : List Entry) (conn : ℕ) (j : JoinedConnection) (d : Draft) → IsBase count q log
    → find (is_joined conn) q.joined ≡ Some j → IsAccepted q j d → IsLogged count q log conn (sequence q j d)
sequence-logged count q log conn j d b f a =
    let here = each-found (IsBounded q.minimum q.number count) (is_joined conn) q.joined j f b.joined in
    let same : conn ≡ j.conn = same_number conn j.conn here.1 in
    let last = (each-found (λ (i : JoinedConnection). i.client_seq ≤ q.number) (is_joined conn) q.joined j f b.sent).0 in
    let next = a.next in
    let n = draft-numbered count q log j d b here.0.first here.0.known a (omega (arith, last, next)) in
    record {
      base = numbered-base count count (after_draft j d q) q log (sequence q j d).1 (omega arith) (omega arith) b n;
      follows = numbered-follows count (after_draft j d q) q (sequence q j d).1 b.within n;
      number = refl;
      minimum = refl;
      origin = sym same;
      kept = λ other h. sequence-kept q j d other (subst (λ c. nat_eq other c ≡ false) same h);
    }

-- the first draft of a client's queue is accepted, and the client stays served
pub record IsSent (owner : ℕ → Option Characters) (count : ℕ) (q : NaiveSequencer) (log : List Entry) (name : Characters) (rest : List Entry) (x : NaiveClient)
    (conn : ℕ) (d : Draft) (ds : List Draft) : Type 0 where
  pub p : NaiveSequencer × Entry
  pub submits : submit q conn d ≡ Ok p
  pub logged : IsLogged count q log conn p
  pub owned : owner conn ≡ Some name
  pub served : IsServed owner count p.0 (log ++ (p.1 ∷ [])) name (rest ++ (p.1 ∷ [])) (record x { queue = ds })
  pub owes : owing x.conns (rest ++ (p.1 ∷ [])) x.pending ds + entry_cost p.1 ≤ owing x.conns rest x.pending (d ∷ ds)
  pub skips : (agreed (log ++ (p.1 ∷ []))).skipped ≤ (agreed log).skipped
  pub formed : IsFormed x → IsWellFormedBody p.1.msg.body

-- a client's draft is accepted
pub draft-accepted : (count : ℕ) (q : NaiveSequencer) (log : List Entry) (conn number next : ℕ) (j : JoinedConnection) (d : Draft) (ds : List Draft)
    → IsBase count q log → find (is_joined conn) q.joined ≡ Some j
    → number ≤ q.number → IsQueue j.client_seq j.ref_seq (d ∷ ds) number next → IsAccepted q j d
draft-accepted count q log conn number next j d ds b f u h =
    let here = (each-found (IsBounded q.minimum q.number count) (is_joined conn) q.joined j f b.joined).0 in
    let low = here.above in
    let up = queue-up (j.client_seq + 1) d.ref_seq ds number next h.2 in
    record { next = h.0; above = omega (arith, low, h.1); rising = h.1; below = omega (arith, up, u) }

-- the first draft of the queue is well formed where the pending edits are
queued-formed : (conn : ℕ) (xs : List ListElement) (es : List Entry) (pending : List PendingEdit) (d : Draft) (ds : List Draft)
    → IsAnswered es pending (λ ys. IsQueued conn (d ∷ ds) ys) → Each (IsFormedEdit xs) pending → IsWellFormedBody d.body
queued-formed conn xs es pending d ds a f =
    by d.body (behind es pending) (answered-behind es pending (λ ys. IsQueued conn (d ∷ ds) ys) a) (each-behind_some (IsFormedEdit xs) es pending f)
  where
    by : (b : Body) (edits : List PendingEdit) → IsFirstQueued conn d b edits (λ ys. IsQueued conn ds ys) → Each (IsFormedEdit xs) edits → IsWellFormedBody b
    by Nothing edits h g = tt
    by (Op op) [] h g = absurd h
    by (Op op) (edit ∷ edits) h g = subst IsFormedSent h.0.0 g.0.sent
    by (Elsewhere address) edits h g = absurd h

owed-body : (b : Body) (t : Bool) → t ≡ true → is_op_kind (draft_kind b) && t ≡ has_body b
owed-body Nothing t h = refl
owed-body (Op op) t h = h
owed-body (Elsewhere address) t h = h

sent-online : (owner : ℕ → Option Characters) (count : ℕ) (q : NaiveSequencer) (log : List Entry) (name : Characters) (rest : List Entry) (x : NaiveClient)
    (conn : ℕ) (d : Draft) (ds : List Draft) → IsBase count q log
    → x.link ≡ Online conn → x.queue ≡ d ∷ ds → IsOnline x.conns x.doc.number x.next_client_seq (d ∷ ds) x.pending rest q conn
    → IsServed owner count q log name rest x → IsSent owner count q log name rest x conn d ds
sent-online owner count q log name rest x conn d ds b k u l v =
    let f = l.has.joined in
    let j = l.j in
    let a : IsAccepted q j d = draft-accepted count q log conn x.doc.number x.next_client_seq j d ds b f
    (leads-up rest x.doc.number x.doc.minimum q.number q.minimum v.order) l.numbers in
    let here = each-found (IsBounded q.minimum q.number count) (is_joined conn) q.joined j f b.joined in
    let same : conn ≡ j.conn = same_number conn j.conn here.1 in
    let g : IsLogged count q log conn (sequence q j d) = sequence-logged count q log conn j d b f a in
    let e : Entry = (sequence q j d).1 in
    let y : NaiveClient = record x { queue = ds } in
    let own : list_any (nat_eq j.conn) x.conns ≡ true = subst (λ c. list_any (nat_eq c) x.conns ≡ true) same l.has.own in
    let found : find (is_joined j.conn) q.joined ≡ Some j = subst (λ c. find (is_joined c) q.joined ≡ Some j) same f in
    let it : is_joined j.conn j ≡ true = subst (λ c. is_joined c j ≡ true) same here.1 in
    let online : IsOnline x.conns x.doc.number x.next_client_seq ds x.pending (rest ++ (e ∷ [])) (sequence q j d).0 j.conn = record {
      j = submitted d j;
      has = record { own = own; joined = sequence-own q j d found it };
      numbers = subst (λ c. IsQueue c d.ref_seq ds x.doc.number x.next_client_seq) (sym l.numbers.0) l.numbers.2;
      answered = sent-answered x.conns rest x.pending q j d ds own (subst (λ c. IsAnswered (owed x.conns rest) x.pending (λ ys. IsQueued c (d ∷ ds) ys)) same l.answered);
    } in
    let now : IsServed owner count (sequence q j d).0 (log ++ (e ∷ [])) name (rest ++ (e ∷ [])) y = record {
      steps = v.steps ++ (Sends ∷ []);
      run = run-more v.steps x y Sends v.run (ap (λ ys. Some (record x { queue = drop 1 ys })) u) refl;
      entries = ap (λ es. es ++ (rest ++ (e ∷ []))) (taken-more v.steps Sends ∙ append-nil (taken_entries v.steps))
          ∙ (sym (append_assoc (taken_entries v.steps) rest (e ∷ [])) ∙ ap (λ es. es ++ (e ∷ [])) v.entries);
      order = leads-more rest x.doc.number x.doc.minimum q.number q.minimum e v.order g.follows;
      conns = v.conns;
      link = subst (λ t. IsLinked x.conns x.doc.number x.next_client_seq ds x.pending (rest ++ (e ∷ [])) (sequence q j d).0 t) (sym (k ∙ ap Online same)) online;
    } in
    record {
      p = sequence q j d;
      submits = submit-accepted q conn j d f a;
      logged = g;
      owned = (each-any (IsOwned owner count name) conn x.conns l.has.own v.conns).by;
      served = now;
      skips = own-entry-skips owner count (sequence q j d).0 log name rest y e own now;
      owes = owing-sent conn x.conns rest e x.pending d ds refl (owed-body d.body (list_any (nat_eq j.conn) x.conns) own) l.answered (client-priced v.steps x v.run);
      formed = λ f. queued-formed conn x.doc.text.items (owed x.conns rest) x.pending d ds l.answered f;
    }

pub served-sends : (owner : ℕ → Option Characters) (count : ℕ) (q : NaiveSequencer) (log : List Entry) (name : Characters) (rest : List Entry)
    (x : NaiveClient) (conn : ℕ) (d : Draft) (ds : List Draft) → IsBase count q log
    → conn_of x.link ≡ Some conn → x.queue ≡ d ∷ ds → IsServed owner count q log name rest x → IsSent owner count q log name rest x conn d ds
served-sends owner count q log name rest x conn d ds b k u v = by x.link refl k v.link
  where
    by : (link : Link) → x.link ≡ link → conn_of link ≡ Some conn → IsLinked x.conns x.doc.number x.next_client_seq x.queue x.pending rest q link
        → IsSent owner count q log name rest x conn d ds
    by Offline s c l = (cc)
    by (Joining other) s c l = let none : d ∷ ds ≡ [] = sym u ∙ l.unsent in (cc)
    by (Online other) s c l =
        let same : other ≡ conn = (cc) in
        sent-online owner count q log name rest x conn d ds b (s ∙ ap Online same) u
        (subst (λ c. IsOnline x.conns x.doc.number x.next_client_seq (d ∷ ds) x.pending rest q c) same
        (subst (λ ys. IsOnline x.conns x.doc.number x.next_client_seq ys x.pending rest q other) u l)) v

-- ---- a client joins

-- whose connections, with one more
abbrev pub with_owner : (ℕ → Option Characters) → ℕ → Option Characters → ℕ → Option Characters
with_owner owner conn o k = cond (nat_eq k conn) o (owner k)

pub owner-new : (owner : ℕ → Option Characters) (conn : ℕ) (o : Option Characters) → with_owner owner conn o conn ≡ o
owner-new owner conn o = let t : nat_eq conn conn ≡ true = grind (arith, nat_tests) in ap (λ b. cond b o (owner conn)) t

pub owner-old : (owner : ℕ → Option Characters) (count : ℕ) (o : Option Characters) (k : ℕ) → k ≤ count → with_owner owner (count + 1) o k ≡ owner k
owner-old owner count o k l = let t : nat_eq k (count + 1) ≡ false = grind (arith, nat_tests) in ap (λ b. cond b o (owner k)) t

pub join-logged : (count : ℕ) (q : NaiveSequencer) (log : List Entry) (name : Characters) → IsBase count q log → IsLogged (count + 1) q log (count + 1) (join q (count + 1) name)
join-logged count q log name b =
    let n = join-numbered count q log name b in
    record {
      base = numbered-base count (count + 1) (q.joined ++ (new_connection q (count + 1) name ∷ [])) q log (join q (count + 1) name).1 (omega arith) (omega arith) b n;
      follows = numbered-follows (count + 1) (q.joined ++ (new_connection q (count + 1) name ∷ [])) q (join q (count + 1) name).1 b.within n;
      number = refl;
      minimum = refl;
      origin = refl;
      kept = λ other h. join-kept q (count + 1) name other h;
    }

any-old : (n conn : ℕ) (conns : List ℕ) → nat_eq n conn ≡ false → list_any (nat_eq n) (conns ++ (conn ∷ [])) ≡ list_any (nat_eq n) conns
any-old n conn [] h = ap (λ b. b || false) h
any-old n conn (c ∷ conns) h = ap (λ b. nat_eq n c || b) (any-old n conn conns h)

-- a new connection owes nothing of what is there
owed-old : (conns : List ℕ) (count : ℕ) (rest : List Entry) → Each (λ e. e.origin ≤ count) rest → owed (conns ++ ((count + 1) ∷ [])) rest ≡ owed conns rest
owed-old conns count [] h = refl
owed-old conns count (e ∷ rest) h =
    let l = h.0 in
    let t : nat_eq e.origin (count + 1) ≡ false = grind (arith, nat_tests) in
    ap (λ b. cond (is_op_kind e.msg.kind && b) (e ∷ owed (conns ++ ((count + 1) ∷ [])) rest) (owed (conns ++ ((count + 1) ∷ [])) rest)) (any-old e.origin (count + 1) conns t)
    ∙ ap (λ es. cond (is_op_kind e.msg.kind && list_any (nat_eq e.origin) conns) (e ∷ es) es) (owed-old conns count rest h.1)

pub each-behind : {A : Type 0} (P : A → Type 0) (xs ys : List A) → Each P (xs ++ ys) → Each P ys
each-behind P [] ys h = h
each-behind P (x ∷ xs) ys h = each-behind P xs ys h.1

connects-to : (x y : NaiveClient) (conn : ℕ) (link : Link) → connect (record x { link = link }) conn ≡ Ok y → (link ≡ Offline)
    × (record x { link = Joining conn; conns = x.conns ++ (conn ∷ []); next_client_seq = 1 } ≡ y)
connects-to x y conn Offline h = (refl, same)
  where
    same : record x { link = Joining conn; conns = x.conns ++ (conn ∷ []); next_client_seq = 1 } ≡ y
    same = (cc)
connects-to x y conn (Joining other) h = (cc)
connects-to x y conn (Online other) h = (cc)

pub served-connects : (owner : ℕ → Option Characters) (count : ℕ) (q : NaiveSequencer) (log : List Entry) (name label : Characters) (rest : List Entry)
    (x y : NaiveClient) → IsBase count q log → connect x (count + 1) ≡ Ok y
    → IsServed owner count q log name rest x → IsServed (with_owner owner (count + 1) (Some name)) (count + 1) (join q (count + 1) label).0
    (log ++ ((join q (count + 1) label).1 ∷ [])) name (rest ++ ((join q (count + 1) label).1 ∷ [])) y
served-connects owner count q log name label rest x y b h v =
    let conn = count + 1 in
    let p = join q (count + 1) label in
    let g = join-logged count q log label b in
    let t = connects-to x y (count + 1) x.link h in
    let off : IsOffline x.conns x.queue x.pending rest = subst (λ k. IsLinked x.conns x.doc.number x.next_client_seq x.queue x.pending rest q k) t.0 v.link in
    let known : Each (λ e. e.origin ≤ count) rest = each-behind (λ (e : Entry). e.origin ≤ count) (taken_entries v.steps) rest
    (subst (Each (λ (e : Entry). e.origin ≤ count)) (sym v.entries) b.origins) in
    let low = b.within in
    let owner' = with_owner owner (count + 1) (Some name) in
    subst (λ z. IsServed owner' (count + 1) p.0 (log ++ (p.1 ∷ [])) name (rest ++ (p.1 ∷ [])) z) t.1
    (record {
      steps = v.steps ++ (Connects (count + 1) ∷ []);
      run = run-more v.steps x _ (Connects (count + 1)) v.run (ap unless_refused h ∙ ap Some (sym t.1)) refl;
      entries = ap (λ es. es ++ (rest ++ (p.1 ∷ []))) (taken-more v.steps (Connects (count + 1)) ∙ append-nil (taken_entries v.steps))
          ∙ (sym (append_assoc (taken_entries v.steps) rest (p.1 ∷ [])) ∙ ap (λ es. es ++ (p.1 ∷ [])) v.entries);
      order = leads-more rest x.doc.number x.doc.minimum q.number q.minimum p.1 v.order g.follows;
      conns = each-more (IsOwned owner' (count + 1) name) x.conns (count + 1)
          (each-weaker (IsOwned owner count name) (IsOwned owner' (count + 1) name)
          (λ k o. record { by = owner-old owner count (Some name) k o.known ∙ o.by; known = let l = o.known in omega (arith, l) }) x.conns v.conns)
          (record { by = owner-new owner (count + 1) (Some name); known = omega arith });
      link = record {
        j = new_connection q (count + 1) label;
        has = record {
          own = any-behind (nat_eq (count + 1)) x.conns ((count + 1) ∷ []) (one-own (count + 1));
          joined = find-new (is_joined (count + 1)) q.joined (new_connection q (count + 1) label)
              (each-weaker (IsBounded q.minimum q.number count) (λ j. is_joined (count + 1) j ≡ false) (λ j k. let l = k.known in grind (arith, nat_tests))
              q.joined b.joined) (self (count + 1));
        };
        first = refl;
        unsent = off.unsent;
        awaits = awaits-new (x.conns ++ ((count + 1) ∷ [])) (count + 1) q.minimum rest p.1
            (each-weaker (λ (e : Entry). e.origin ≤ count) (λ (e : Entry). nat_eq (count + 1) e.origin ≡ false) (λ e l. grind (arith, nat_tests)) rest known)
            (self (count + 1)) (omega (arith, low));
        answered = subst (λ es. IsAnswered es x.pending AnyEdits) (sym (owed-more (x.conns ++ ((count + 1) ∷ [])) rest p.1 refl ∙ owed-old x.conns count rest known)) off.answered;
      };
    })
  where
    self : (n : ℕ) → nat_eq n n ≡ true
    self n = grind (arith, nat_tests)

    one-own : (n : ℕ) → list_any (nat_eq n) (n ∷ []) ≡ true
    one-own n = ap (λ b. b || false) (self n)

-- it owes no more
pub connect-owes : (count : ℕ) (q : NaiveSequencer) (log : List Entry) (label : Characters) (rest : List Entry) (x y : NaiveClient) → connect x (count + 1)
    ≡ Ok y → Each (λ e. e.origin ≤ count) rest
    → owing_of y (rest ++ ((join q (count + 1) label).1 ∷ [])) ≡ owing_of x rest
connect-owes count q log label rest x y h known =
    let e = (join q (count + 1) label).1 in
    let conns = x.conns ++ ((count + 1) ∷ []) in
    ap (λ (z : NaiveClient). owing_of z (rest ++ (e ∷ []))) (sym (connects-to x y (count + 1) x.link h).1)
    ∙ ap (λ es. total edit_cost (behind es x.pending) + total noops x.queue) (owed-more conns rest e refl ∙ owed-old x.conns count rest known)

-- the rest of the log is of connections so far
pub rest-known : (owner : ℕ → Option Characters) (count : ℕ) (q : NaiveSequencer) (log : List Entry) (name : Characters) (rest : List Entry) (x : NaiveClient)
    → IsBase count q log → IsServed owner count q log name rest x → Each (λ e. e.origin ≤ count) rest
rest-known owner count q log name rest x b v =
    each-behind (λ (e : Entry). e.origin ≤ count) (taken_entries v.steps) rest (subst (Each (λ (e : Entry). e.origin ≤ count)) (sym v.entries) b.origins)

-- ---- a client loses its connection

-- the joined connection of a link
pub record IsJoined (conns : List ℕ) (q : NaiveSequencer) (conn : ℕ) : Type 0 where
  pub j : JoinedConnection
  pub has : HasJoined conns q conn j

pub linked-joined : (conns : List ℕ) (number next : ℕ) (queue : List Draft) (pending : List PendingEdit) (rest : List Entry) (q : NaiveSequencer) (conn : ℕ)
    (link : Link) → conn_of link ≡ Some conn
    → IsLinked conns number next queue pending rest q link → IsJoined conns q conn × IsAnswered (owed conns rest) pending AnyEdits
linked-joined conns number next queue pending rest q conn Offline h l = (cc)
linked-joined conns number next queue pending rest q conn (Joining other) h l =
    let same : other ≡ conn = (cc) in
    (record { j = l.j; has = subst (λ c. HasJoined conns q c l.j) same l.has }, l.answered)
linked-joined conns number next queue pending rest q conn (Online other) h l =
    let same : other ≡ conn = (cc) in (
      record { j = l.j; has = subst (λ c. HasJoined conns q c l.j) same l.has },
      answered-weaker (owed conns rest) pending (λ ys. IsQueued other queue ys)
          AnyEdits (λ ys g. tt) l.answered,
    )

pub drop-made : (x : NaiveClient) (conn : ℕ) (link : Link) → conn_of link ≡ Some conn → drop_link (record x { link = link }) ≡ Ok (record x { link = Offline; queue = [] })
drop-made x conn Offline h = (cc)
drop-made x conn (Joining other) h = refl
drop-made x conn (Online other) h = refl

pub leave-logged : (count : ℕ) (q : NaiveSequencer) (log : List Entry) (conn : ℕ) (j : JoinedConnection) → IsBase count q log
    → find (is_joined conn) q.joined ≡ Some j → IsLogged count q log conn (gone q conn j)
leave-logged count q log conn j b f =
    let n = leave-numbered count q log conn j b f in
    record {
      base = numbered-base count count (others conn q) q log (gone q conn j).1 (omega arith) (omega arith) b n;
      follows = numbered-follows count (others conn q) q (gone q conn j).1 b.within n;
      number = refl;
      minimum = refl;
      origin = refl;
      kept = λ other h. leave-kept q conn other h;
    }

pub served-drops : (owner : ℕ → Option Characters) (count : ℕ) (q : NaiveSequencer) (log : List Entry) (name : Characters) (rest : List Entry)
    (x : NaiveClient) (conn : ℕ) (j : JoinedConnection) → IsBase count q log
    → find (is_joined conn) q.joined ≡ Some j → conn_of x.link ≡ Some conn → IsServed owner count q log name rest x
    → IsServed owner count (gone q conn j).0 (log ++ ((gone q conn j).1 ∷ [])) name (rest ++ ((gone q conn j).1 ∷ [])) (record x { link = Offline; queue = [] })
served-drops owner count q log name rest x conn j b f c v =
    let p = gone q conn j in
    let g = leave-logged count q log conn j b f in
    let y : NaiveClient = record x { link = Offline; queue = [] } in
    let a = (linked-joined x.conns x.doc.number x.next_client_seq x.queue x.pending rest q conn x.link c v.link).1 in
    record {
      steps = v.steps ++ (Drops ∷ []);
      run = run-more v.steps x y Drops v.run (ap unless_refused (drop-made x conn x.link c)) refl;
      entries = ap (λ es. es ++ (rest ++ (p.1 ∷ []))) (taken-more v.steps Drops ∙ append-nil (taken_entries v.steps))
          ∙ (sym (append_assoc (taken_entries v.steps) rest (p.1 ∷ [])) ∙ ap (λ es. es ++ (p.1 ∷ [])) v.entries);
      order = leads-more rest x.doc.number x.doc.minimum q.number q.minimum p.1 v.order g.follows;
      conns = v.conns;
      link = record { unsent = refl; answered = subst (λ es. IsAnswered es x.pending AnyEdits) (sym (owed-more x.conns rest p.1 refl)) a };
    }

-- ---- a client starts

owed-none : (rest : List Entry) → owed [] rest ≡ []
owed-none [] = refl
owed-none (e ∷ rest) = ap (λ b. cond b (e ∷ owed [] rest) (owed [] rest)) (never (is_op_kind e.msg.kind)) ∙ owed-none rest

new-link : (rest : List Entry) → IsOffline [] [] [] rest
new-link rest = record { unsent = refl; answered = subst (λ es. IsAnswered es [] AnyEdits) (sym (owed-none rest)) tt }

pub served-new : (owner : ℕ → Option Characters) (count : ℕ) (q : NaiveSequencer) (log : List Entry) (name : Characters) → IsBase count q log
    → IsServed owner count q log name log (client_over empty)
served-new owner count q log name b = record { steps = []; run = record { made = refl; bodies = refl }; entries = refl; order = b.order; conns = tt; link = new-link log }

pub served-restarts : (owner : ℕ → Option Characters) (count : ℕ) (q : NaiveSequencer) (log : List Entry) (name other : Characters) (rest : List Entry)
    (x : NaiveClient) → x.pending ≡ [] → IsServed owner count q log name rest x
    → IsServed owner count q log other rest (client_over x.doc)
served-restarts owner count q log name other rest x none v = record {
  steps = v.steps ++ (Restarts ∷ []);
  run = run-more v.steps x (client_over x.doc) Restarts v.run (ap (λ es. cond (is_none_pending es) (Some (client_over x.doc)) None) none) refl;
  entries = ap (λ es. es ++ rest) (taken-more v.steps Restarts ∙ append-nil (taken_entries v.steps)) ∙ v.entries;
  order = v.order;
  conns = tt;
  link = new-link rest;
}
