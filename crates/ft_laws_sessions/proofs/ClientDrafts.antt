-- What one client alone has to send is well formed.
use Rattle.std.proofs.Common.{◌≡◌, ℕ, ◌+◌, ◌≤◌, ◌<◌, ◌^◌, Bool, true, false, cond, List, [], ◌∷◌, ◌++◌, Option, Some, None, Result, Ok, Err, drop, flat_map, length, refl, sym, ◌∙◌, ap, subst, arith, lt-ltb}
use Rattle.std.specs.List.{list_all}
use Rattle.ft_op.specs.declared.operations.ChannelOp.{ChannelOp}
use Rattle.ft_op.specs.Document.{Document}
use Rattle.ft_op.specs.Stages.{Stage}
use Rattle.ft_op.specs.WellFormed.{IsWellFormed}
use Rattle.ft_props.specs.Element.{ListElement}
use Rattle.ft_msg.specs.declared.faults.ProcessFault.{ProcessFault}
use Rattle.ft_msg.specs.declared.messages.Body.TheVariants.{Nothing, Op}
use Rattle.ft_msg.specs.declared.messages.Draft.{Draft}
use Rattle.ft_msg.specs.declared.messages.Entry.{Entry}
use Rattle.ft_msg.specs.declared.views.Link.{Link}
use Rattle.ft_msg.specs.declared.views.Link.TheVariants.{Offline, Joining, Online}
use Rattle.ft_msg.specs.Acknowledgement.{ack_stages, after_own_message}
use Rattle.ft_msg.specs.Agreed.{with_numbers}
use Rattle.ft_msg.specs.Client.{NaiveClient, PendingEdit, SentAs, after_edit, client_over, connect, drop_link, local_edit, noop}
use Rattle.ft_msg.specs.ClientSteps.{ClientStep, Connects, Drops, Edits, Idles, Restarts, Sends, Takes, after_step, after_steps, has_fitting_body, is_without_edits, taken_entries, unless_refused}
use Rattle.ft_msg.specs.Process.{after_entry, after_foreign_message, come_online, process, process_fault}
use Rattle.ft_msg.specs.Reached.{IsReached}
use Rattle.ft_msg.specs.Reconnection.{regenerated_edit, resubmitted_edit, resubmitted_edits, sent_draft}
use Rattle.ft_msg.specs.WellFormed.{IsWellFormedDraft}
use Rattle.ft_msg.proofs.ReachedSteps.{after-one, bodies-one, well-formed-fits}
use Rattle.ft_seqr.specs.World.{body_load, op_load}
use Rattle.ft_laws_agreement.specs.Sequencing.{Each, IsReady}
use Rattle.ft_laws_agreement.specs.Starts.{IsRunFrom}
use Rattle.ft_laws_agreement.proofs.ClientsAgree.{refused-ok}
use Rattle.ft_laws_agreement.proofs.CountedEntries.{steps-counted}
use Rattle.ft_laws_agreement.proofs.EveryClientReady.{client-ready-from}
use Rattle.ft_laws_agreement.proofs.ReconnectedClient.{reconnection-keeps-views-from}
use Rattle.ft_laws_agreement.proofs.SummaryStarts.{start-sound}
use Rattle.ft_laws_summaries.proofs.FormedClients.{IsFormed, IsFormedEdit, edit-formed, foreign-formed, join-formed, own-formed}
use Rattle.ft_laws_summaries.proofs.Lists.{each-more}
use Rattle.ft_laws_sessions.specs.ClientDrafts.{DraftsOfClientsAreFormed, IsFormedStep, IsMadeAlone, start_cost, step_cost, steps_cost}
use Rattle.ft_laws_sessions.proofs.ClientEvents.{edit-made}
use Rattle.ft_laws_sessions.proofs.HeldElements.{IsSizedWithin, entry_inserts, sized-from}
use Rattle.ft_laws_sessions.proofs.LoadLaws.{each-costs}
use Rattle.ft_laws_sessions.proofs.Owing.{body-loaded, edit_cost, edit_inserts, entry_cost, inserts-loaded, op_inserts, renamed-cost, resubmitted-cost, stage_inserts, total, total-append, total-less}
use Rattle.ft_laws_sessions.proofs.Served.{taken-more}

-- ---- what a client sends again when it comes online

-- how many there are is within what they cost
edits-cost : (es : List PendingEdit) → length es ≤ total edit_cost es
edits-cost [] = omega arith
edits-cost (e ∷ es) = let ih = edits-cost es in omega (arith, ih)

-- each is well formed, where each edit is, and the last number is in range
drafts-again : (xs : List ListElement) (doc : Document) (conn i r : ℕ) (es : List PendingEdit) → r < 2 ^ 53 → i + length (resubmitted_edits doc conn i es) ≤ 2 ^ 53
    → Each (IsFormedEdit xs) (resubmitted_edits doc conn i es)
    → Each IsWellFormedDraft (flat_map (sent_draft r) (resubmitted_edits doc conn i es))
drafts-again xs doc conn i r [] low few h = tt
drafts-again xs doc conn i r (e ∷ es) low few h = by (λ j f k. drafts-again xs doc conn j r es low f k) (regenerated_edit doc e) few h
  where
    again : Option ChannelOp → List PendingEdit
    again None = resubmitted_edits doc conn i es
    again (Some op) = resubmitted_edit doc conn i e op ∷ resubmitted_edits doc conn (i + 1) es

    by : ((j : ℕ) → j + length (resubmitted_edits doc conn j es) ≤ 2 ^ 53 → Each (IsFormedEdit xs) (resubmitted_edits doc conn j es)
        → Each IsWellFormedDraft (flat_map (sent_draft r) (resubmitted_edits doc conn j es)))
        → (o : Option ChannelOp) → i + length (again o) ≤ 2 ^ 53 → Each (IsFormedEdit xs) (again o) → Each IsWellFormedDraft (flat_map (sent_draft r) (again o))
    by ih None f k = ih i f k
    by ih (Some op) f k = (
      record { client_seq = lt-ltb i (2 ^ 53) (omega (arith, f)); ref_seq = lt-ltb r (2 ^ 53) low; body = k.0.sent },
      ih (i + 1) (omega (arith, f)) k.1,
    )

-- what is answered well is one value
same-ok : {A E : Type 0} (r : Result A E) (a b : A) → r ≡ Ok a → r ≡ Ok b → a ≡ b
same-ok r a b g h = (cc)

-- ---- a step

-- what a client has pending and has to send is well formed, and within n
record Keeps (n : ℕ) (start : Document) (before : List ClientStep) (x : NaiveClient) : Type 0 where
  run : IsRunFrom start before x
  formed : IsFormed x
  queue : Each IsWellFormedDraft x.queue
  next : x.next_client_seq ≤ n + 1
  cost : start_cost start + (total entry_cost (taken_entries before) + total edit_cost x.pending) ≤ n

-- its number is
number-within : (n : ℕ) (start : Document) (before : List ClientStep) (x : NaiveClient) → Keeps n start before x → x.doc.number ≤ n
number-within n start before x k =
    let count = steps-counted before (client_over start) x k.run.made in
    let few = each-costs (taken_entries before) in
    let cost = k.cost in
    omega (arith, count, few, cost)

-- and so are its lists
sized : (n : ℕ) (start : Document) (before : List ClientStep) (x : NaiveClient) → Keeps n start before x → IsSizedWithin n x.doc
sized n start before x k =
    let z = sized-from start before x k.run in
    let cost = k.cost in
    let entries = total-less entry_cost entry_inserts (λ e. omega arith) (taken_entries before) in
    let edits = total-less edit_cost edit_inserts (λ e. omega arith) x.pending in
    record {
      text = let a = z.text in omega (arith, a, cost, entries, edits);
      rows = let a = z.rows in omega (arith, a, cost, entries, edits);
      cols = let a = z.cols in omega (arith, a, cost, entries, edits);
    }

-- the run with a step more
run-one : (start : Document) (before : List ClientStep) (step : ClientStep) (x y : NaiveClient) → IsRunFrom start before x → after_step x step ≡ Some y
    → list_all has_fitting_body (taken_entries (step ∷ [])) ≡ true → IsRunFrom start (before ++ (step ∷ [])) y
run-one start before step x y run h fits = record {
  sound = run.sound;
  made = after-one before (Some (client_over start)) step x y run.made h;
  bodies = bodies-one before step run.bodies fits;
}

taken-cost : (before : List ClientStep) (step : ClientStep) → total entry_cost (taken_entries (before ++ (step ∷ [])))
    ≡ total entry_cost (taken_entries before) + total entry_cost (taken_entries (step ∷ []))
taken-cost before step = ap (total entry_cost) (taken-more before step) ∙ total-append entry_cost (taken_entries before) (taken_entries (step ∷ []))

-- what a step leaves: the queue, the next number, and what is pending costs at most c more
record Leaves (n c : ℕ) (x y : NaiveClient) : Type 0 where
  formed : IsFormed y
  queue : Each IsWellFormedDraft y.queue
  next : y.next_client_seq ≤ n + 1
  pending : total edit_cost y.pending ≤ total edit_cost x.pending + c

-- a client with the same document and edits keeps them well formed
same-formed : (x y : NaiveClient) → y.doc ≡ x.doc → y.pending ≡ x.pending → IsFormed x → IsFormed y
same-formed x y d p f = subst (λ (doc : Document). Each (IsFormedEdit doc.text.items) y.pending) (sym d) (subst (Each (IsFormedEdit x.doc.text.items)) (sym p) f)

module _ (n : ℕ) (start : Document) (before : List ClientStep) (x : NaiveClient) (k : Keeps n start before x) where
  -- an edit
  edit-leaves : (op : ChannelOp) (y : NaiveClient) → IsWellFormed op → n + (1 + op_load op) < 2 ^ 53 → local_edit x op ≡ Ok y
      → Leaves (n + (1 + op_load op)) (1 + op_load op) x y
  edit-leaves op y f low h =
      let e = edit-made x y op h in
      let ready = client-ready-from start (before ++ (Edits op ∷ [])) y (run-one start before (Edits op) x y k.run (ap unless_refused h) refl) in
      let formed = edit-formed x y op ready f h k.formed in
      let less = inserts-loaded op in
      let a = by e.doc e.stages e.inserts x.link less in
      record {
        formed = formed;
        queue = subst (λ (z : NaiveClient). Each IsWellFormedDraft z.queue) e.same a.0;
        next = subst (λ (z : NaiveClient). z.next_client_seq ≤ n + (1 + op_load op) + 1) e.same a.1;
        pending = subst (λ (z : NaiveClient). total edit_cost z.pending ≤ total edit_cost x.pending + (1 + op_load op)) e.same a.2;
      }
    where
      next : x.next_client_seq ≤ n + 1
      next = k.next

      number : x.doc.number ≤ n
      number = number-within n start before x k

      by : (doc : Document) (stages : List Stage) → total stage_inserts stages ≡ op_inserts op → (link : Link) → op_inserts op ≤ op_load op
          → Each IsWellFormedDraft (after_edit op doc stages (record x { link = link })).queue
          × ((after_edit op doc stages (record x { link = link })).next_client_seq ≤ n + (1 + op_load op) + 1)
          × (total edit_cost (after_edit op doc stages (record x { link = link })).pending ≤ total edit_cost x.pending + (1 + op_load op))
      by doc stages i Offline less =
          let sum = total-append edit_cost x.pending (record { stages = stages; ref_seq = x.doc.number; sent = None } ∷ []) in
          (k.queue, omega (arith, next), omega (arith, sum, i, less))
      by doc stages i (Joining conn) less =
          let sum = total-append edit_cost x.pending (record { stages = stages; ref_seq = x.doc.number; sent = None } ∷ []) in
          (k.queue, omega (arith, next), omega (arith, sum, i, less))
      by doc stages i (Online conn) less =
          let sent : SentAs = record { conn = conn; client_seq = x.next_client_seq; op = op } in
          let sum = total-append edit_cost x.pending (record { stages = stages; ref_seq = x.doc.number; sent = Some sent } ∷ []) in
          let d : Draft = record { client_seq = x.next_client_seq; ref_seq = x.doc.number; body = Op op } in (
            each-more IsWellFormedDraft x.queue d k.queue
                (record { client_seq = lt-ltb x.next_client_seq (2 ^ 53) (omega (arith, next, low)); ref_seq = lt-ltb x.doc.number (2 ^ 53) (omega (arith, number, low)); body = f }),
            omega (arith, next),
            omega (arith, sum, i, less),
          )

  -- a noop
  noop-leaves : (y : NaiveClient) → n + 1 < 2 ^ 53 → noop x ≡ Ok y → Leaves (n + 1) 1 x y
  noop-leaves y low h = by x.link h
    where
      by : (link : Link) → noop (record x { link = link }) ≡ Ok y → Leaves (n + 1) 1 x y
      by Offline e = (cc)
      by (Joining conn) e = (cc)
      by (Online conn) e =
          let d : Draft = record { client_seq = x.next_client_seq; ref_seq = x.doc.number; body = Nothing } in
          let z : NaiveClient = record x { link = Online conn; next_client_seq = x.next_client_seq + 1; queue = x.queue ++ (d ∷ []) } in
          let same : z ≡ y = (cc) in
          let next = k.next in
          let number = number-within n start before x k in
          subst (Leaves (n + 1) 1 x) same (record {
            formed = k.formed;
            queue = each-more IsWellFormedDraft x.queue d k.queue
                (record { client_seq = lt-ltb x.next_client_seq (2 ^ 53) (omega (arith, next, low)); ref_seq = lt-ltb x.doc.number (2 ^ 53) (omega (arith, number, low)); body = tt });
            next = omega (arith, next);
            pending = omega arith;
          })

  -- a connection, and its loss
  connect-leaves : (conn : ℕ) (y : NaiveClient) → connect x conn ≡ Ok y → Leaves n 0 x y
  connect-leaves conn y h = by x.link h
    where
      by : (link : Link) → connect (record x { link = link }) conn ≡ Ok y → Leaves n 0 x y
      by Offline e =
          let z : NaiveClient = record x { link = Joining conn; conns = x.conns ++ (conn ∷ []); next_client_seq = 1 } in
          let same : z ≡ y = (cc) in
          subst (Leaves n 0 x) same (record { formed = k.formed; queue = k.queue; next = omega arith; pending = omega arith })
      by (Joining other) e = (cc)
      by (Online other) e = (cc)

  drop-leaves : (y : NaiveClient) → drop_link x ≡ Ok y → Leaves n 0 x y
  drop-leaves y h = by x.link h
    where
      gone : NaiveClient
      gone = record x { link = Offline; queue = [] }

      left : gone ≡ y → Leaves n 0 x y
      left same = let next = k.next in subst (Leaves n 0 x) same (record { formed = k.formed; queue = tt; next = next; pending = omega arith })

      by : (link : Link) → drop_link (record x { link = link }) ≡ Ok y → Leaves n 0 x y
      by Offline e = (cc)
      by (Joining conn) e = left (cc)
      by (Online conn) e = left (cc)

  -- a new client in its place
  restart-leaves : (y : NaiveClient) → (b : Bool) → cond b (Some (client_over x.doc)) None ≡ Some y → Leaves n 0 x y
  restart-leaves y true h =
      let same : client_over x.doc ≡ y = (cc) in
      subst (Leaves n 0 x) same (record { formed = tt; queue = tt; next = omega arith; pending = omega arith })
  restart-leaves y false h = (cc)

  -- a message
  module _ (e : Entry) (y : NaiveClient) (low : n + (1 + body_load e.msg.body) < 2 ^ 53) (run : IsRunFrom start (before ++ (Takes e ∷ [])) y) where
    ready : IsReady x
    ready = client-ready-from start before x k.run

    after : IsReady y
    after = client-ready-from start (before ++ (Takes e ∷ [])) y run

    join-leaves : come_online x e ≡ y → Leaves (n + (1 + body_load e.msg.body)) 0 x y
    join-leaves g =
        let doc = with_numbers e x.doc in
        let edits = resubmitted_edits doc e.origin 1 x.pending in
        let z = sized n start before x k in
        let formed : IsFormed (come_online x e) =
        join-formed n x e (omega (arith, low)) z.text z.rows z.cols ready (subst IsReady (sym g) after) (λ i l. (reconnection-keeps-views-from start before x e i k.run l).text) k.formed in
        let less = resubmitted-cost doc e.origin 1 x.pending in
        let count = edits-cost edits in
        let cost = k.cost in
        let counted = steps-counted (before ++ (Takes e ∷ [])) (client_over start) y run.made in
        let taken = taken-cost before (Takes e) in
        let few = each-costs (taken_entries before) in
        let sum = ap length (taken-more before (Takes e)) in
        let number : y.doc.number ≡ e.msg.seq = ap (λ (w : NaiveClient). w.doc.number) (sym g) in
        subst (Leaves (n + (1 + body_load e.msg.body)) 0 x) g (record {
          formed = formed;
          queue = drafts-again (come_online x e).doc.text.items doc e.origin 1 e.msg.seq x.pending (number-low counted number) (omega (arith, less, count, cost, low)) formed;
          next = omega (arith, less, count, cost);
          pending = omega (arith, less);
        })
      where
        number-low : y.doc.number ≡ start.number + length (taken_entries (before ++ (Takes e ∷ []))) → y.doc.number ≡ e.msg.seq → e.msg.seq < 2 ^ 53
        number-low counted number =
            let few = each-costs (taken_entries before) in
            let cost = k.cost in
            let one = one-more-taken before in
            omega (arith, counted, number, few, cost, one, low)
          where
            one-more-taken : (steps : List ClientStep) → length (taken_entries (steps ++ (Takes e ∷ []))) ≡ length (taken_entries steps) + 1
            one-more-taken steps = ap length (taken-more steps (Takes e)) ∙ pushed (taken_entries steps)
              where
                pushed : (es : List Entry) → length (es ++ (e ∷ [])) ≡ length es + 1
                pushed [] = refl
                pushed (f ∷ es) = let ih = pushed es in omega (arith, ih)

    own-leaves : after_own_message x e ≡ y → Leaves (n + (1 + body_load e.msg.body)) 0 x y
    own-leaves g =
        let formed = own-formed x e ready (subst IsReady (sym g) after) k.formed in
        let p = parts x.pending in
        let next = k.next in
        subst (Leaves (n + (1 + body_load e.msg.body)) 0 x) g (record {
          formed = formed;
          queue = subst (Each IsWellFormedDraft) (sym p.0) k.queue;
          next = let same = p.1 in omega (arith, same, next);
          pending = p.2;
        })
      where
        parts : (es : List PendingEdit) → ((after_own_message (record x { pending = es }) e).queue ≡ x.queue)
            × ((after_own_message (record x { pending = es }) e).next_client_seq ≡ x.next_client_seq)
            × (total edit_cost (after_own_message (record x { pending = es }) e).pending ≤ total edit_cost es + 0)
        parts [] = (refl, refl, omega arith)
        parts (edit ∷ es) =
            let same = renamed-cost {A = Entry} (ack_stages e.msg.seq e.origin (λ i. i) edit.stages x.doc).1 [] es in
            (refl, refl, omega (arith, same))

    foreign-leaves : after_foreign_message x e ≡ y → Leaves (n + (1 + body_load e.msg.body)) 0 x y
    foreign-leaves g =
        let next = k.next in
        subst (Leaves (n + (1 + body_load e.msg.body)) 0 x) g
        (record { formed = foreign-formed x e (subst IsReady (sym g) after) k.formed; queue = k.queue; next = omega (arith, next); pending = omega arith })

    taken-leaves : (a c : Bool) → cond a (come_online x e) (cond c (after_own_message x e) (after_foreign_message x e)) ≡ y
        → Leaves (n + (1 + body_load e.msg.body)) 0 x y
    taken-leaves true c g = join-leaves g
    taken-leaves false true g = own-leaves g
    taken-leaves false false g = foreign-leaves g

    abbrev answer_of : Option ProcessFault → Result NaiveClient ProcessFault
    answer_of (Some fault) = Err fault
    answer_of None = Ok (after_entry x e)

    answer-leaves : (o : Option ProcessFault) → answer_of o ≡ Ok y → Leaves (n + (1 + body_load e.msg.body)) 0 x y
    answer-leaves (Some fault) g = (cc)
    answer-leaves None g = taken-leaves _ _ (same-ok (answer_of None) (after_entry x e) y refl g)

    process-leaves : process x e ≡ Ok y → Leaves (n + (1 + body_load e.msg.body)) 0 x y
    process-leaves h = answer-leaves (process_fault x e) h

-- ---- all steps

kept : (n c : ℕ) (start : Document) (before : List ClientStep) (step : ClientStep) (x y : NaiveClient) → Keeps n start before x → IsRunFrom start (before ++ (step ∷ [])) y
    → total entry_cost (taken_entries (step ∷ [])) + c ≤ step_cost step → Leaves (n + step_cost step) c x y → Keeps (n + step_cost step) start (before ++ (step ∷ [])) y
kept n c start before step x y k run paid l = record {
  run = run;
  formed = l.formed;
  queue = l.queue;
  next = l.next;
  cost = let cost = k.cost in let pending = l.pending in let sum = taken-cost before step in omega (arith, cost, pending, sum, paid);
}

wider : (n m c : ℕ) (x y : NaiveClient) → n ≤ m → Leaves n c x y → Leaves m c x y
wider n m c x y less l = record { formed = l.formed; queue = l.queue; next = let next = l.next in omega (arith, next, less); pending = l.pending }

step-kept : (n : ℕ) (start : Document) (before : List ClientStep) (step : ClientStep) (x y : NaiveClient) → Keeps n start before x → IsFormedStep step
    → n + step_cost step < 2 ^ 53 → after_step x step ≡ Some y → Keeps (n + step_cost step) start (before ++ (step ∷ [])) y
step-kept n start before (Edits op) x y k f low h =
    let run = run-one start before (Edits op) x y k.run h refl in
    kept n (1 + op_load op) start before (Edits op) x y k run (omega arith) (edit-leaves n start before x k op y f low (refused-ok (local_edit x op) y h))
step-kept n start before (Connects conn) x y k f low h =
    let run = run-one start before (Connects conn) x y k.run h refl in
    kept n 0 start before (Connects conn) x y k run (omega arith) (wider n (n + 0) 0 x y (omega arith) (connect-leaves n start before x k conn y (refused-ok (connect x conn) y h)))
step-kept n start before Drops x y k f low h =
    let run = run-one start before Drops x y k.run h refl in
    kept n 0 start before Drops x y k run (omega arith) (wider n (n + 0) 0 x y (omega arith) (drop-leaves n start before x k y (refused-ok (drop_link x) y h)))
step-kept n start before Idles x y k f low h =
    let run = run-one start before Idles x y k.run h refl in
    kept n 1 start before Idles x y k run (omega arith) (noop-leaves n start before x k y low (refused-ok (noop x) y h))
step-kept n start before Sends x y k f low h =
    let run = run-one start before Sends x y k.run h refl in
    let same : record x { queue = drop 1 x.queue } ≡ y = (cc) in
    let next = k.next in
    kept n 0 start before Sends x y k run (omega arith)
    (subst (Leaves (n + 0) 0 x) same (record { formed = k.formed; queue = rest x.queue k.queue; next = omega (arith, next); pending = omega arith }))
  where
    rest : (ds : List Draft) → Each IsWellFormedDraft ds → Each IsWellFormedDraft (drop 1 ds)
    rest [] g = tt
    rest (d ∷ ds) g = g.1
step-kept n start before Restarts x y k f low h =
    let run = run-one start before Restarts x y k.run h refl in
    kept n 0 start before Restarts x y k run (omega arith) (wider n (n + 0) 0 x y (omega arith) (restart-leaves n start before x k y (is_without_edits x) h))
step-kept n start before (Takes e) x y k f low h =
    let run = run-one start before (Takes e) x y k.run h (rw (well-formed-fits e f) refl) in
    let less = body-loaded e.msg.body in
    kept n 0 start before (Takes e) x y k run (omega (arith, less)) (process-leaves n start before x k e y low run (refused-ok (process x e) y h))

steps-kept : (n : ℕ) (start : Document) (before steps : List ClientStep) (x z : NaiveClient) → Keeps n start before x → Each IsFormedStep steps
    → n + steps_cost steps < 2 ^ 53 → after_steps (Some x) steps ≡ Some z → Each IsWellFormedDraft z.queue
steps-kept n start before [] x z k f low h = let same : x ≡ z = (cc) in subst (λ (w : NaiveClient). Each IsWellFormedDraft w.queue) same k.queue
steps-kept n start before (step ∷ steps) x z k f low h =
    by (λ y next g. steps-kept (n + step_cost step) start (before ++ (step ∷ [])) steps y z next f.1 (omega (arith, low)) g) (after_step x step) refl h
  where
    by : ((y : NaiveClient) → Keeps (n + step_cost step) start (before ++ (step ∷ [])) y → after_steps (Some y) steps ≡ Some z → Each IsWellFormedDraft z.queue)
        → (o : Option NaiveClient) → after_step x step ≡ o → after_steps o steps ≡ Some z → Each IsWellFormedDraft z.queue
    by later None e g = absurd (cc)
    by later (Some y) e g = later y (step-kept n start before step x y k f.0 (omega (arith, low)) e) g

pub drafts-of_clients-are_formed : DraftsOfClientsAreFormed
drafts-of_clients-are_formed load x m low =
    let cost = m.cost in
    let run : IsRunFrom m.start [] (client_over m.start) = record { sound = start-sound m.starts; made = refl; bodies = refl } in
    let first : Keeps (start_cost m.start) m.start [] (client_over m.start) =
    record { run = run; formed = tt; queue = tt; next = omega arith; cost = omega arith } in
    steps-kept (start_cost m.start) m.start [] m.steps (client_over m.start) x first m.formed (omega (arith, cost, low)) m.made

-- ---- such a client is one of which promises speak, and after a step more it is one again

entries-fit : (steps : List ClientStep) → Each IsFormedStep steps → list_all has_fitting_body (taken_entries steps) ≡ true
entries-fit [] h = refl
entries-fit (Edits op ∷ steps) h = entries-fit steps h.1
entries-fit (Connects conn ∷ steps) h = entries-fit steps h.1
entries-fit (Drops ∷ steps) h = entries-fit steps h.1
entries-fit (Idles ∷ steps) h = entries-fit steps h.1
entries-fit (Sends ∷ steps) h = entries-fit steps h.1
entries-fit (Restarts ∷ steps) h = entries-fit steps h.1
entries-fit (Takes e ∷ steps) h = rw (well-formed-fits e h.0, entries-fit steps h.1) refl

pub alone-reached : (load : ℕ) (x : NaiveClient) → IsMadeAlone load x → IsReached x
alone-reached load x m = record { start = m.start; starts = m.starts; steps = m.steps; made = m.made; bodies = entries-fit m.steps m.formed }

cost-more : (steps : List ClientStep) (step : ClientStep) → steps_cost (steps ++ (step ∷ [])) ≡ steps_cost steps + step_cost step
cost-more [] step = omega arith
cost-more (first ∷ steps) step = let ih = cost-more steps step in omega (arith, ih)

pub alone-after : (load : ℕ) (x y : NaiveClient) (step : ClientStep) → IsMadeAlone load x → after_step x step ≡ Some y → IsFormedStep step
    → IsMadeAlone (load + step_cost step) y
alone-after load x y step m h f = record {
  start = m.start;
  starts = m.starts;
  steps = m.steps ++ (step ∷ []);
  made = after-one m.steps (Some (client_over m.start)) step x y m.made h;
  formed = each-more IsFormedStep m.steps step m.formed f;
  cost = let cost = m.cost in let more = cost-more m.steps step in omega (arith, cost, more);
}
