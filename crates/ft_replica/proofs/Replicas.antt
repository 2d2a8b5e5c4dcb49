-- What the client over its own document does, the replica answers for every client for which it stands.
use Rattle.std.proofs.Common.{◌≡◌, ◌≤◌, ℕ, ◌+◌, max, Bool, drop, length, Option, None, Some, Result, Ok, Err, refl, sym, ◌∙◌, ap, subst, arith}
use Rattle.ft_op.specs.Document.{Document}
use Rattle.ft_msg.specs.declared.views.Link.{Link}
use Rattle.ft_msg.specs.declared.views.Numbers.{Numbers}
use Rattle.ft_msg.specs.Answers.{Answers, AnswersFault, FaultKind, HeldCounts, MeansRefusal, Refusal, ReplicaState, RiseAlike, StandsForSome, StoppedBefore, StopsAfter, WantOfMemory, held_in, numbers_of}
use Rattle.ft_msg.specs.Client.{NaiveClient, floor}
use Rattle.ft_msg.specs.Compacted.{IsCompacted, StandsFor}
use Rattle.ft_msg.specs.Indexed.{IndexedClient, indexed_client}
use Rattle.ft_msg.specs.Reached.{IsReached}
use Rattle.ft_laws_compaction.specs.Keeping.{AnswersAlike, AnswersEach, DoesStep, refused, taken}
use Rattle.ft_msg.proofs.ReachedSteps.{reached-send}
use Rattle.ft_laws_compaction.proofs.Compacting.{floor-kept}
use Rattle.ft_laws_compaction.proofs.KeptSteps.{sends-alike}
use Rattle.ft_laws_names.specs.Renaming.{ShowsOf}
use Rattle.ft_laws_names.specs.WellNamed.{IsWellNamed}
use Rattle.ft_laws_names.proofs.KeptNames.{kept-named}
use Rattle.ft_laws_names.proofs.NamedSteps.{reached-named}
use Rattle.ft_laws_names.proofs.OneAnswersAll.{one-view-answers-all}
use Rattle.ft_laws_summaries.specs.Runs.{IsFormedRun}
use Rattle.ft_laws_summaries.proofs.FormedRuns.{formed-send}
use Rattle.ft_replica.specs.declared.document.OwnNumbers.{OwnNumbers}
use Rattle.ft_replica.specs.Kept.{Holds, IsKept, state_at, state_of}
use Rattle.ft_replica.specs.Linked.{IsLinkedAs, KeepsLink, LinkedState, Refuses, RunsForOne, Takes, client_shown, edits_shown}
use Rattle.ft_replica.specs.Own.{HeldDocument, ShownDocument, Shows, numbers_in}
use Rattle.ft_replica.specs.Stopping.{AnswersOwn, AnswersOwnFault, GoesOnOwn, StoppingState, stop_number, told_numbers}
use Rattle.ft_replica.proofs.LinkedSteps.{relinked}
use Rattle.ft_replica.proofs.LinkedReads.{client-counts, client-is-shown, shown-length}

-- the step is answered as a replica answers it, and it goes on to hold
pub record IsServed {D E : Type 0} (holds : D → HeldDocument → Type 0) (shown : D → ShownDocument) (kind : E → FaultKind) (sender : ℕ) (step : NaiveClient → Result NaiveClient E) (old new : StoppingState D) (is : Bool) (result : Result (Unit {0}) E) : Type 0 where
  pub keeps : Holds holds new is
  pub answers : Answers kind sender step (state_of shown old) (state_of shown new) result

-- the numbers that are told
abbrev pub numbers_with : OwnNumbers → ℕ → Link → Numbers
numbers_with own pending link = record {
  seq = own.number;
  min = own.minimum;
  pending = pending;
  skipped = own.skipped;
  other = own.other;
  made = max own.text (max own.rows own.cols);
  link = link;
}

-- what is known of a step: of each client that steps made, of one that keeps it, of its floor, and of the clients of which a summary
-- can be written; and that one well named client answers for all
pub record IsKnownStep {E : Type 0} (kind : E → FaultKind) (step : NaiveClient → Result NaiveClient E) : Type 0 where
  pub alike : (x kept : NaiveClient) → IsReached x → IsCompacted kept x → AnswersAlike E (step kept) (step x)
  pub reached : (x y : NaiveClient) → IsReached x → step x ≡ Ok y → IsReached y
  pub floors : (x y : NaiveClient) → IsReached x → step x ≡ Ok y → floor x ≤ floor y
  pub formed : (n : ℕ) (x y : NaiveClient) → IsFormedRun n x → step x ≡ Ok y → IsFormedRun n y
  pub serves : (start : Document) (before after : ReplicaState) (result : Result (Unit {0}) E) (p : NaiveClient) → IsWellNamed p → indexed_client p ≡ before.client
      → DoesStep kind before after p (step p) result → AnswersEach start kind before after step result

-- counts that are those of two clients rise as these do
pub rises : (before after : HeldCounts) (x y : Document) → before ≡ held_in x → after ≡ held_in y → RiseAlike before after (held_in x) (held_in y)
rises before after x y h k =
    subst (λ b. RiseAlike b after (held_in x) (held_in y)) (sym h) (subst (λ a. RiseAlike (held_in x) a (held_in x) (held_in y)) (sym k)
    (record { text = turned (held_in y).text (held_in x).text; rows = turned (held_in y).rows (held_in x).rows; cols = turned (held_in y).cols (held_in x).cols }))
  where
    turned : (m n : ℕ) → m + n ≡ n + m
    turned m n = omega arith

-- the step of a client and of one that keeps it
pub taken-alike : {E : Type 0} {r s : Result NaiveClient E} (y : NaiveClient) → AnswersAlike E r s → r ≡ Ok y → (z : NaiveClient) × ((s ≡ Ok z) × IsCompacted y z)
taken-alike y (refused fault) e = (cc)
taken-alike y (taken kept x k) e =
    let same : kept ≡ y = (cc) in
    (x, (refl, subst (λ w. IsCompacted w x) same k))

some-none : {A : Type 0} {o : Option A} {a : A} → o ≡ Some a → o ≡ None → ⊥
some-none h k = (cc)

pub most-zero : (m : ℕ) → m ≡ max m 0
most-zero m = omega arith

module _ {D : Type 0} (holds : D → HeldDocument → Type 0) (shown : D → ShownDocument) (shows : (d : D) (held : HeldDocument) → holds d held → Shows (shown d) held) where
  -- ---- a client that is kept

  pub kept-is-named : (s : LinkedState D) (origin : ℕ) (nameless : Bool) (k : IsKept holds s origin nameless) → IsWellNamed k.kept
  kept-is-named s origin nameless k = kept-named k.whole k.kept (reached-named k.whole k.reached) k.keeps

  -- it runs for one
  pub kept-runs : (s : LinkedState D) (origin : ℕ) (nameless : Bool) (Fits : NaiveClient → Type 0) (k : IsKept holds s origin nameless) → Fits k.kept → RunsForOne holds s Fits
  kept-runs s origin nameless Fits k fits = record {
    start = k.reached.start;
    client = k.kept;
    made = record { whole = k.whole; reached = k.reached; starts = refl; keeps = k.keeps };
    low = k.low;
    above = k.above;
    linked = k.linked;
    fits = fits;
  }

  -- with another origin
  pub kept-from : (s : LinkedState D) (a b : ℕ) (nameless : Bool) → b ≡ a → IsKept holds s a nameless → IsKept holds s b nameless
  kept-from s a b nameless e k = subst (λ o. IsKept holds s o nameless) (sym e) k

  -- ---- what it shows

  stop-of : (s : StoppingState D) → (state_of shown s).stop ≡ stop_number s.stop
  stop-of s = by s.stop
    where
      by : (stop : Option OwnNumbers) → (state_at shown s.client s.origin stop).stop ≡ stop_number stop
      by None = refl
      by (Some n) = refl

  -- the numbers that it tells
  pub numbers-told : (s : StoppingState D) → numbers_of (state_of shown s) ≡ numbers_with (told_numbers shown s) (length s.client.pending) s.client.link
  numbers-told s = by s.stop
    where
      count : length (edits_shown (shown s.client.document).pending s.client.pending) ≡ length s.client.pending
      count = shown-length (shown s.client.document).pending s.client.pending

      by : (stop : Option OwnNumbers) → numbers_of (state_at shown s.client s.origin stop) ≡ numbers_with (told_numbers shown (record s { stop = stop })) (length s.client.pending) s.client.link
      by None = ap (λ n. numbers_with (numbers_in (shown s.client.document)) n s.client.link) count
      by (Some numbers) = ap (λ n. numbers_with numbers n s.client.link) count

  none-stopped : (o : Option OwnNumbers) → stop_number o ≡ None → o ≡ None
  none-stopped None e = refl
  none-stopped (Some n) e = (cc)

  pub still-runs : (s : StoppingState D) → (state_of shown s).stop ≡ None → s.stop ≡ None
  still-runs s e = none-stopped s.stop (sym (stop-of s) ∙ e)

  -- it stands for the client that steps made
  pub stands-some : (s : StoppingState D) (nameless : Bool) → Holds holds s nameless → StandsForSome (state_of shown s)
  stands-some s nameless h e =
      let runs = still-runs s e in
      let k = h runs in (
        k.whole,
        k.reached,
        record {
          kept = k.kept;
          shows = sym (client-is-shown holds shown shows k.low s.client k.kept k.linked) ∙ ap (λ o. (state_at shown s.client s.origin o).client) (sym runs);
          keeps = k.keeps;
        },
      )

  -- it shows one client that is kept
  pub shows-kept : (s : StoppingState D) (nameless : Bool) (h : Holds holds s nameless) (runs : s.stop ≡ None) → indexed_client (h runs).kept ≡ (state_of shown s).client
  shows-kept s nameless h runs =
      let k = h runs in
      sym (client-is-shown holds shown shows k.low s.client k.kept k.linked) ∙ ap (λ o. (state_at shown s.client s.origin o).client) (sym runs)

  -- and so what that shows is what each client shows for which it stands
  pub shows-all : (s : StoppingState D) (nameless : Bool) (h : Holds holds s nameless) (runs : s.stop ≡ None) (x : NaiveClient) → IsReached x → StandsFor (state_of shown s).client x
      → ShowsOf (h runs).kept x
  shows-all s nameless h runs x reached stands =
      one-view-answers-all (state_of shown s) (h runs).kept (kept-is-named s.client s.origin nameless (h runs)) (shows-kept s nameless h runs) x reached stands

  -- its client has this of it where that one is told
  pub kept-linked : (s : StoppingState D) (t : LinkedState D) (nameless : Bool) (h : Holds holds s nameless) (runs : s.stop ≡ None) → t ≡ s.client → IsLinkedAs holds (h runs).low t (h runs).kept
  kept-linked s t nameless h runs e = subst (λ u. IsLinkedAs holds (h runs).low u (h runs).kept) (sym e) (h runs).linked

  pub told-runs : (s : StoppingState D) (t : LinkedState D) (nameless : Bool) (Fits : NaiveClient → Type 0) (h : Holds holds s nameless) (runs : s.stop ≡ None) → t ≡ s.client → Fits (h runs).kept
      → RunsForOne holds t Fits
  told-runs s t nameless Fits h runs e fits = subst (λ u. RunsForOne holds u Fits) (sym e) (kept-runs s.client s.origin nameless Fits (h runs) fits)

  pub named-kept : (s : StoppingState D) (nameless : Bool) (h : Holds holds s nameless) (runs : s.stop ≡ None) → IsWellNamed (h runs).kept
  named-kept s nameless h runs = kept-is-named s.client s.origin nameless (h runs)

  -- it runs
  pub runs-now : (s : StoppingState D) → s.stop ≡ None → (state_of shown s).stop ≡ None
  runs-now s e = stop-of s ∙ ap stop_number e

  -- its oldest message goes
  pub sent-kept : (s new : StoppingState D) (nameless : Bool) → Holds holds s nameless → new ≡ record s { client = record s.client { box = record s.client.box { drafts = drop 1 s.client.box.drafts } } }
      → Holds holds new nameless
  sent-kept s new nameless h is =
      subst (λ t. Holds holds t nameless) (sym is)
      (λ e.
      let k = h e in
      let p : NaiveClient = record k.kept { queue = drop 1 k.kept.queue } in
      let change : LinkedState D → LinkedState D = λ t. record t { box = record t.box { drafts = drop 1 t.box.drafts } } in
      record {
        whole = record k.whole { queue = drop 1 k.whole.queue };
        reached = reached-send k.whole k.reached;
        formed = λ n. formed-send s.origin k.whole (k.formed n);
        kept = p;
        keeps = sends-alike k.whole k.kept k.keeps;
        low = k.low;
        above = k.above;
        linked = relinked holds s.client (change s.client) k.kept p k.low k.linked refl (ap change k.linked.rest);
      })

  same-running : (c e : LinkedState D) (o u : ℕ) → client_shown shown c ≡ client_shown shown e → (shown c.document).counts ≡ (shown e.document).counts → o ≡ u
      → state_at shown c o None ≡ state_at shown e u None
  same-running c e o u h k l =
      let running : IndexedClient → HeldCounts → ℕ → ReplicaState = λ client held origin. record { client = client; held = held; origin = origin; stop = None } in
      ap (λ client. running client (shown c.document).counts o) h ∙ ap (λ held. running (client_shown shown e) held o) k
      ∙ ap (running (client_shown shown e) (shown e.document).counts) l

  -- after OutOfMemory
  stopped : (c e : LinkedState D) (o u : ℕ) → KeepsLink c e → StopsAfter (state_at shown c o None) (state_at shown e u (Some (numbers_in (shown c.document))))
  stopped c e o u k = record {
    stop = refl;
    number = refl;
    minimum = refl;
    skipped = refl;
    other = refl;
    pending = shown-length (shown e.document).pending e.pending ∙ k.pending ∙ sym (shown-length (shown c.document).pending c.pending);
    held = refl;
    link = k.link;
    conns = k.conns;
    queue = k.queue;
  }

  -- ---- errors

  module _ {E : Type 0} (kind : E → FaultKind) (sender : ℕ) (step : NaiveClient → Result NaiveClient E) (old new : StoppingState D) (nameless : Bool) (fault : E) where
    abbrev Refused : Type 0
    Refused = Refuses holds step fault old.client new.client

    -- the law that one well named client answers for all
    abbrev RefusesAll : Type 0
    RefusesAll = (R : ReplicaState) (start : Document) (p : NaiveClient) → IsWellNamed p → indexed_client p ≡ R.client → MeansRefusal (kind fault) (step p ≡ Err fault) → AnswersEach start kind R R step (Err fault)

    fault-kept : Holds holds old nameless → (k : FaultKind) → AnswersOwnFault shown old new Refused k → Holds holds new nameless
    fault-kept h WantOfMemory a = λ e. absurd (some-none a.1 e)
    fault-kept h (StoppedBefore seq) a = subst (λ s. Holds holds s nameless) (sym a.1) h
    fault-kept h Refusal a = λ e.
        let k = h a.0 in
        let r = a.3 k.low k.kept (kept-is-named old.client old.origin nameless k) k.linked in
        kept-from new.client old.origin new.origin nameless a.2 (record {
          whole = k.whole;
          reached = k.reached;
          formed = k.formed;
          kept = k.kept;
          keeps = k.keeps;
          low = k.low;
          above = k.above;
          linked = r.1;
        })

    fault-state : Holds holds old nameless → (k : FaultKind) → AnswersOwnFault shown old new Refused k → AnswersFault (state_of shown old) (state_of shown new) k
    fault-state h WantOfMemory a = (
      stop-of old ∙ ap stop_number a.0,
      subst (λ t. StopsAfter (state_at shown old.client old.origin t) (state_of shown new)) (sym a.0)
          (subst (λ t. StopsAfter (state_at shown old.client old.origin None) (state_at shown new.client new.origin t)) (sym a.1)
          (stopped old.client new.client old.origin new.origin a.3)),
    )
    fault-state h (StoppedBefore seq) a = (stop-of old ∙ a.0, ap (state_of shown) a.1)
    fault-state h Refusal a =
        let k = h a.0 in
        let r = a.3 k.low k.kept (kept-is-named old.client old.origin nameless k) k.linked in (
          stop-of old ∙ ap stop_number a.0,
          ap (state_at shown new.client new.origin) a.1
              ∙ same-running new.client old.client new.origin old.origin
              (client-is-shown holds shown shows k.low new.client k.kept r.1 ∙ sym (client-is-shown holds shown shows k.low old.client k.kept k.linked))
              (client-counts holds shown shows k.low new.client k.kept r.1 ∙ sym (client-counts holds shown shows k.low old.client k.kept k.linked)) a.2
              ∙ sym (ap (state_at shown old.client old.origin) a.0),
        )

    refusal-for : Holds holds old nameless → RefusesAll → (k : FaultKind) → kind fault ≡ k → AnswersOwnFault shown old new Refused k
        → (x : NaiveClient) → IsReached x → StandsFor (state_of shown old).client x → MeansRefusal k (step x ≡ Err fault)
    refusal-for h all WantOfMemory e a x reached s = tt
    refusal-for h all (StoppedBefore seq) e a x reached s = tt
    refusal-for h all Refusal e a x reached s =
        let k = h a.0 in
        let named = kept-is-named old.client old.origin nameless k in
        let r = a.3 k.low k.kept named k.linked in
        let running = state_at shown old.client old.origin None in
        let shows_it : indexed_client k.kept ≡ running.client = sym (client-is-shown holds shown shows k.low old.client k.kept k.linked) in
        let means : MeansRefusal (kind fault) (step k.kept ≡ Err fault) = subst (λ i. MeansRefusal i (step k.kept ≡ Err fault)) (sym e) r.0 in
        let here : StandsFor running.client x = subst (λ t. StandsFor (state_at shown old.client old.origin t).client x) a.0 s in
        subst (λ i. MeansRefusal i (step x ≡ Err fault)) e (all running reached.start k.kept named shows_it means x reached refl here)

    pub fault-served : Holds holds old nameless → RefusesAll → AnswersOwnFault shown old new Refused (kind fault)
        → IsServed holds shown kind sender step old new nameless (Err fault)
    fault-served h all a = record {
      keeps = fault-kept h (kind fault) a;
      answers = record {
        state = fault-state h (kind fault) a;
        client = refusal-for h all (kind fault) refl a;
      };
    }

  -- ---- steps

  module _ {E : Type 0} (kind : E → FaultKind) (step : NaiveClient → Result NaiveClient E) (old new : StoppingState D) (nameless : Bool) where
    taken-kept : IsKnownStep kind step → (k : IsKept holds old.client old.origin nameless) → Takes holds step old.client new.client → IsKept holds new.client old.origin nameless
    taken-kept known k takes =
        let t = takes k.low k.kept (kept-is-named old.client old.origin nameless k) k.linked in
        let a = taken-alike t.0 (known.alike k.whole k.kept k.reached k.keeps) t.1 in
        record {
          whole = a.0;
          reached = known.reached k.whole a.0 k.reached a.1.0;
          formed = λ n. known.formed old.origin k.whole a.0 (k.formed n) a.1.0;
          kept = t.0;
          keeps = a.1.1;
          low = k.low;
          above = (
              let up = known.floors k.whole a.0 k.reached a.1.0 in
              let first = floor-kept k.whole k.kept k.keeps in
              let last = floor-kept a.0 t.0 a.1.1 in
              let above = k.above in
              omega (arith, up, first, last, above)
              );
          linked = t.2;
        }

    taken-served : (u : Unit {0}) → IsKnownStep kind step → Holds holds old nameless → GoesOnOwn 0 old new (Takes holds step old.client new.client)
        → IsServed holds shown kind 0 step old new nameless (Ok u)
    taken-served u known h a =
        let k = h a.0 in
        let named = kept-is-named old.client old.origin nameless k in
        let t = a.3 k.low k.kept named k.linked in
        let before = state_at shown old.client old.origin None in
        let after = state_at shown new.client new.origin None in
        let shows_old = client-is-shown holds shown shows k.low old.client k.kept k.linked in
        let shows_new = client-is-shown holds shown shows k.low new.client t.0 t.2 in
        let counts = rises (shown old.client.document).counts (shown new.client.document).counts k.kept.doc t.0.doc (client-counts holds shown shows k.low old.client k.kept k.linked)
        (client-counts holds shown shows k.low new.client t.0 t.2) in
        let running : Answers kind 0 step before after (Ok u) = record {
          state = record { ran = refl; runs = refl; origin = a.2 };
          client = λ x r s. known.serves r.start before after (Ok u) k.kept named (sym shows_old) (t.0, t.1, sym shows_new, counts) x r refl s;
        } in
        record {
          keeps = λ e. kept-from new.client old.origin new.origin nameless (a.2 ∙ sym (most-zero old.origin)) (taken-kept known k a.3);
          answers = subst (λ o. Answers kind 0 step (state_at shown old.client old.origin o) (state_of shown new) (Ok u)) (sym a.0)
              (subst (λ o. Answers kind 0 step before (state_at shown new.client new.origin o) (Ok u)) (sym a.1) running);
        }

    pub own-served : (result : Result (Unit {0}) E) → IsKnownStep kind step → Holds holds old nameless → AnswersOwn holds shown kind step old new result
        → IsServed holds shown kind 0 step old new nameless result
    own-served (Ok u) known h a = taken-served u known h a
    own-served (Err fault) known h a =
        fault-served kind 0 step old new nameless fault h
        (λ R start p named e means. known.serves start R R (Err fault) p named e means) a
