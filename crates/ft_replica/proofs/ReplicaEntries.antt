-- Entries and compactions of a replica over its own document.
use Rattle.std.proofs.Common.{◌≡◌, ◌≤◌, ℕ, ◌+◌, ◌&&◌, ◌||◌, nat_eq, max, min, fold, map, List, [], ◌∷◌, Bool, true, false, None, Result, Ok, Err, refl, sym, ◌∙◌, ap, subst, arith}
use Rattle.std.specs.Prelude.{OnOk}
use Rattle.std.specs.List.{list_all}
use Rattle.std.specs.Result.{is_ok}
use Rattle.std.proofs.lemmas.Bool.Decides.{nat_tests}
use Rattle.ft_op.specs.Document.{Document}
use Rattle.ft_msg.specs.declared.faults.ProcessFault.{ProcessFault}
use Rattle.ft_msg.specs.declared.faults.ViewFault.{ViewFault}
use Rattle.ft_msg.specs.declared.messages.Entry.{Entry}
use Rattle.ft_msg.specs.Answers.{Answers, FaultKind, HeldCounts, Refusal, ReplicaState, RiseAlike, StoppedBefore, WantOfMemory, IsFullyCompacted, floor_of, held_in, process_fault_kind, view_fault_kind}
use Rattle.ft_msg.specs.Client.{NaiveClient, PendingEdit, floor}
use Rattle.ft_msg.specs.ClientSteps.{Takes, has_fitting_body, taken_entries, unless_refused}
use Rattle.ft_msg.specs.Compacted.{IsCompacted, StandsFor}
use Rattle.ft_msg.specs.Indexed.{IndexedClient, IndexedDocument, indexed_client, indexed_edit}
use Rattle.ft_msg.specs.Process.{is_op, process}
use Rattle.ft_msg.specs.WellFormed.{IsWellFormedMessage}
use Rattle.ft_msg.proofs.ReachedSteps.{reached-process, well-formed-fits}
use Rattle.ft_msg.proofs.ReplicaStarts.{keeps-itself}
use Rattle.ft_laws_compaction.proofs.AllSteps.{reached-sound}
use Rattle.ft_laws_compaction.proofs.FloorSteps.{floor-step}
use Rattle.ft_laws_compaction.proofs.Compacting.{compacts-further, floor-kept}
use Rattle.ft_laws_compaction.proofs.CountsKept.{rises-kept}
use Rattle.ft_laws_compaction.proofs.KeptSteps.{entries-answer}
use Rattle.ft_laws_names.proofs.KeptNames.{kept-named}
use Rattle.ft_laws_names.proofs.OneAnswersAll.{one-compaction-serves-all, one-entry-answers-all}
use Rattle.ft_laws_summaries.proofs.FormedRuns.{formed-process}
use Rattle.ft_replica.specs.Kept.{Holds, IsKept, is_of_nobody, state_at, state_of}
use Rattle.ft_replica.specs.Linked.{Refuses, TakesCompaction, TakesEntry, client_shown, least_ref}
use Rattle.ft_replica.specs.Own.{HasNoTombstone, HeldDocument, ShownDocument, Shows}
use Rattle.ft_replica.specs.Stopping.{AnswersEntry, AnswersOwnCompaction, AnswersOwnFault, StoppingState}
use Rattle.ft_replica.proofs.LinkedReads.{client-counts, client-is-shown, floor-is}
use Rattle.ft_replica.proofs.Replicas.{IsServed, fault-served, kept-from, kept-is-named, most-zero, rises, taken-alike}

-- what keeps a client held as many elements
counted-alike : (a b : ℕ) → a + a ≡ b + a → a ≡ b
counted-alike a b h = omega (arith, h)

turned : (m n : ℕ) → m + n ≡ n + m
turned m n = omega arith

abbrev counts : ℕ → ℕ → ℕ → HeldCounts
counts text rows cols = record { text = text; rows = rows; cols = cols }

pub held-same : (fewer p : NaiveClient) → IsCompacted fewer p → held_in p.doc ≡ held_in fewer.doc
held-same fewer p k =
    let a = held_in p.doc in
    let b = held_in fewer.doc in
    let r : RiseAlike b a a a = rises-kept b a fewer p p p k (keeps-itself p) (record { text = turned a.text b.text; rows = turned a.rows b.rows; cols = turned a.cols b.cols }) in
    ap (λ n. counts n a.rows a.cols) (counted-alike a.text b.text r.text)
    ∙ ap (λ n. counts b.text n a.cols) (counted-alike a.rows b.rows r.rows)
    ∙ ap (λ n. counts b.text b.rows n) (counted-alike a.cols b.cols r.cols)

-- whether a client took an operation of nobody, after an answer
pub nameless-taken : (r : Result (Unit {0}) ProcessFault) (was now is : Bool) → true ≡ is_ok r → is ≡ now → is ≡ elim r as (λ _. Bool) [ Ok _ ↦ now | Err _ ↦ was ]
nameless-taken (Ok u) was now is e h = h
nameless-taken (Err fault) was now is e h = (cc)

pub nameless-kept : (r : Result (Unit {0}) ProcessFault) (was now : Bool) → false ≡ is_ok r → was ≡ elim r as (λ _. Bool) [ Ok _ ↦ now | Err _ ↦ was ]
nameless-kept (Ok u) was now e = (cc)
nameless-kept (Err fault) was now e = refl

-- the floor with places for names
indexed-floor : (doc : Document) (n : ℕ) (es : List PendingEdit) → fold (λ n e. min n e.ref_seq) n (map (indexed_edit doc) es) ≡ fold (λ n e. min n e.ref_seq) n es
indexed-floor doc n [] = refl
indexed-floor doc n (e ∷ es) = indexed-floor doc (min n e.ref_seq) es

-- an entry that is the only one
pub only-fits : (entry : Entry) → has_fitting_body entry ≡ true → list_all has_fitting_body (taken_entries (Takes entry ∷ [])) ≡ true
only-fits entry h = ap (λ b. b && true) h

-- an entry of somebody
of-somebody : (entry : Entry) (was : Bool) → (is_of_nobody entry || was) ≡ false → (was ≡ false) × (is_op entry.msg.body ≡ true → 1 ≤ entry.origin)
of-somebody entry was h = by (is_op entry.msg.body) (nat_eq entry.origin 0) was refl h
  where
    some-origin : (n : ℕ) → nat_eq n 0 ≡ false → 1 ≤ n
    some-origin n e = grind (arith, nat_tests, e)

    by : (a b c : Bool) → nat_eq entry.origin 0 ≡ b → (a && b || c) ≡ false → (c ≡ false) × (a ≡ true → 1 ≤ entry.origin)
    by true true c e g = (cc)
    by true false c e g = (g, λ o. some-origin entry.origin e)
    by false b c e g = (g, λ o. (cc))

module _ {D : Type 0} (holds : D → HeldDocument → Type 0) (shown : D → ShownDocument) (shows : (d : D) (held : HeldDocument) → holds d held → Shows (shown d) held)
    (old new : StoppingState D) (was : Bool) where
  -- ---- an entry

  module _ (entry : Entry) (fits : IsWellFormedMessage entry.msg) where
    entry-kept : (k : IsKept holds old.client old.origin was) → TakesEntry holds entry old.client new.client
        → IsKept holds new.client (max old.origin entry.origin) (is_of_nobody entry || was)
    entry-kept k takes =
        let t = takes k.low k.kept (kept-is-named holds shown shows old.client old.origin was k) k.linked in
        let y = t.3.0 in
        let keeps = compacts-further k.whole k.kept t.0 k.keeps t.1 in
        let a = taken-alike y (entries-answer k.reached.steps k.whole t.0 entry (reached-sound k.whole k.reached) keeps (well-formed-fits entry fits)) t.3.1 in
        record {
          whole = a.0;
          reached = reached-process k.whole a.0 entry fits k.reached a.1.0;
          formed = λ named.
              let s = of-somebody entry was named in
              formed-process old.origin k.whole a.0 entry (k.formed s.0) fits s.1 a.1.0;
          kept = y;
          keeps = a.1.1;
          low = floor k.kept;
          above = (
              let up = floor-step k.reached.steps (Takes entry) k.whole a.0 (reached-sound k.whole k.reached) (ap unless_refused a.1.0) (only-fits entry (well-formed-fits entry fits)) in
              let first = floor-kept k.whole k.kept k.keeps in
              let last = floor-kept a.0 y a.1.1 in
              omega (arith, up, first, last)
              );
          linked = t.3.2;
        }

    entry-taken : (u : Unit {0}) (k : IsKept holds old.client old.origin was) → TakesEntry holds entry old.client new.client
        → new.origin ≡ max old.origin entry.origin
        → Answers process_fault_kind entry.origin (λ x. process x entry) (state_at shown old.client old.origin None) (state_at shown new.client new.origin None) (Ok u)
    entry-taken u k takes origin =
        let named = kept-is-named holds shown shows old.client old.origin was k in
        let t = takes k.low k.kept named k.linked in
        let fewer = t.0 in
        let y = t.3.0 in
        let before = state_at shown old.client old.origin None in
        let after = state_at shown new.client new.origin None in
        let between : ReplicaState = record before { client = indexed_client fewer } in
        let shows_old = client-is-shown holds shown shows k.low old.client k.kept k.linked in
        let shows_new = client-is-shown holds shown shows (floor k.kept) new.client y t.3.2 in
        let rise = rises (shown old.client.document).counts (shown new.client.document).counts fewer.doc y.doc
        (client-counts holds shown shows k.low old.client k.kept k.linked ∙ held-same fewer k.kept t.1) (client-counts holds shown shows (floor k.kept) new.client y t.3.2) in
        record {
          state = record { ran = refl; runs = refl; origin = origin };
          client = λ x r s.
              let c = one-compaction-serves-all r.start before between (Ok tt) k.kept named (sym shows_old) (refl, (fewer, t.1, t.2, refl)) x r refl s in
              let same : x ≡ c.0 = (cc) in
              let here : StandsFor between.client x = subst (λ z. StandsFor between.client z) (sym same) c.2.client in
              let d = one-entry-answers-all r.start between after entry (Ok u) fewer fits (kept-named k.kept fewer named t.1) refl (y, t.3.1, sym shows_new, rise) x r refl here in
              (d.0, d.1, record { client = d.2.client; held = d.2.held });
        }

    pub entry-served : (result : Result (Unit {0}) ProcessFault) → Holds holds old was → AnswersEntry holds shown entry old new result
        → (is : Bool) → is ≡ elim result as (λ _. Bool) [ Ok _ ↦ is_of_nobody entry || was | Err _ ↦ was ]
        → IsServed holds shown process_fault_kind entry.origin (λ x. process x entry) old new is result
    entry-served (Ok u) h a is e =
        let k = h a.0 in
        let before = state_at shown old.client old.origin None in
        record {
          keeps = λ running.
              subst (λ b. IsKept holds new.client new.origin b) (sym e)
              (kept-from holds shown shows new.client (max old.origin entry.origin) new.origin (is_of_nobody entry || was) a.2 (entry-kept k a.3));
          answers = subst (λ o. Answers process_fault_kind entry.origin (λ x. process x entry) (state_at shown old.client old.origin o) (state_of shown new) (Ok u)) (sym a.0)
              (subst (λ o. Answers process_fault_kind entry.origin (λ x. process x entry) before (state_at shown new.client new.origin o) (Ok u)) (sym a.1)
              (entry-taken u k a.3 a.2));
        }
    entry-served (Err fault) h a is e =
        subst (λ b. IsServed holds shown process_fault_kind entry.origin (λ x. process x entry) old new b (Err fault)) (sym e)
        (fault-served holds shown shows process_fault_kind entry.origin (λ x. process x entry) old new was fault h
        (λ R start p named shown_as means. one-entry-answers-all start R R entry (Err fault) p fits named shown_as means) a)

  -- ---- a compaction

  compaction-kept : (k : IsKept holds old.client old.origin was) → TakesCompaction holds old.client new.client → IsKept holds new.client old.origin was
  compaction-kept k takes =
      let t = takes k.low k.kept (kept-is-named holds shown shows old.client old.origin was k) k.linked in
      record {
        whole = k.whole;
        reached = k.reached;
        formed = k.formed;
        kept = t.0;
        keeps = compacts-further k.whole k.kept t.0 k.keeps t.1;
        low = floor k.kept;
        above = (let same = floor-kept k.kept t.0 t.1 in omega (arith, same));
        linked = t.3;
      }

  compaction-taken : (u : Unit {0}) (k : IsKept holds old.client old.origin was) → TakesCompaction holds old.client new.client → new.origin ≡ max old.origin 0
      → Answers view_fault_kind 0 (λ x. Ok x) (state_at shown old.client old.origin None) (state_at shown new.client new.origin None) (Ok u)
  compaction-taken u k takes origin =
      let named = kept-is-named holds shown shows old.client old.origin was k in
      let t = takes k.low k.kept named k.linked in
      let before = state_at shown old.client old.origin None in
      let after = state_at shown new.client new.origin None in
      let shows_old = client-is-shown holds shown shows k.low old.client k.kept k.linked in
      let shows_new = client-is-shown holds shown shows (floor k.kept) new.client t.0 t.3 in
      let held : (shown new.client.document).counts ≡ (shown old.client.document).counts =
      client-counts holds shown shows (floor k.kept) new.client t.0 t.3 ∙ sym (held-same t.0 k.kept t.1) ∙ sym (client-counts holds shown shows k.low old.client k.kept k.linked) in
      record {
        state = record { ran = refl; runs = refl; origin = origin };
        client = λ x r s. one-compaction-serves-all r.start before after (Ok u) k.kept named (sym shows_old) (held, (t.0, t.1, t.2, sym shows_new)) x r refl s;
      }

  never-refuses : (fault : ViewFault) (k : FaultKind) → AnswersOwnFault shown old new ⊥ k → AnswersOwnFault shown old new (Refuses holds (λ x. Ok x) fault old.client new.client) k
  never-refuses fault WantOfMemory a = a
  never-refuses fault (StoppedBefore seq) a = a
  never-refuses fault Refusal a = absurd a.3

  pub compaction-served : (result : Result (Unit {0}) ViewFault) → Holds holds old was → AnswersOwnCompaction holds shown old new result
      → IsServed holds shown view_fault_kind 0 (λ x. Ok x) old new was result
  compaction-served (Ok u) h a =
      let k = h a.0 in
      let before = state_at shown old.client old.origin None in
      record {
        keeps = λ e. kept-from holds shown shows new.client old.origin new.origin was (a.2 ∙ sym (most-zero old.origin)) (compaction-kept k a.3);
        answers = subst (λ o. Answers view_fault_kind 0 (λ x. Ok x) (state_at shown old.client old.origin o) (state_of shown new) (Ok u)) (sym a.0)
            (subst (λ o. Answers view_fault_kind 0 (λ x. Ok x) before (state_at shown new.client new.origin o) (Ok u)) (sym a.1) (compaction-taken u k a.3 a.2));
      }
  compaction-served (Err fault) h a =
      fault-served holds shown shows view_fault_kind 0 (λ x. Ok x) old new was fault h
      (λ R start p named shown_as means. one-compaction-serves-all start R R (Err fault) p named shown_as tt) (never-refuses fault (view_fault_kind fault) a)

  -- and nothing is left that may go
  all-gone : (n m : ℕ) (d : IndexedDocument) (client : IndexedClient) → n ≡ m → floor_of client ≡ m → client.doc ≡ d → HasNoTombstone n d → IsFullyCompacted client
  all-gone n m d client e f g h =
      let at_floor : HasNoTombstone (floor_of client) client.doc = subst (λ x. HasNoTombstone (floor_of client) x) (sym g) (subst (λ k. HasNoTombstone k d) (e ∙ sym f) h) in
      record { text = at_floor.text; rows = at_floor.rows; cols = at_floor.cols }

  pub compaction-full : (result : Result (Unit {0}) ViewFault) → Holds holds old was → AnswersOwnCompaction holds shown old new result
      → OnOk result (HasNoTombstone (least_ref (shown old.client.document).content.minimum old.client.pending) (shown new.client.document).content)
      → OnOk result (IsFullyCompacted (state_of shown new).client)
  compaction-full (Ok u) h a full =
      let k = h a.0 in
      let t = a.3 k.low k.kept (kept-is-named holds shown shows old.client old.origin was k) k.linked in
      let fewer = t.0 in
      let floors : floor_of (client_shown shown new.client) ≡ floor k.kept =
      ap floor_of (client-is-shown holds shown shows (floor k.kept) new.client fewer t.3) ∙ indexed-floor fewer.doc fewer.doc.minimum fewer.pending ∙ floor-kept k.kept fewer t.1 in
      subst (λ o. IsFullyCompacted (state_at shown new.client new.origin o).client) (sym a.1)
      (all-gone (least_ref (shown old.client.document).content.minimum old.client.pending) (floor k.kept) (shown new.client.document).content (client_shown shown new.client)
      (floor-is holds shown shows k.low old.client k.kept k.linked) floors refl full)
  compaction-full (Err fault) h a full = tt
