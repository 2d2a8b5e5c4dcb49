-- What a client over its own document shows of the client for which it stands, and why it refuses a message.
use Rattle.std.proofs.Common.{◌≡◌, ℕ, ◌+◌, ◌&&◌, Bool, true, false, cond, not, nat_eq, nat_lt, int_lt, pos, List, [], ◌∷◌, ◌++◌, Option, Some, None, Result, Ok, Err, arith, drop, fold, length, map, min, suc, take, refl, sym, ◌∙◌, ap, subst}
use Rattle.std.specs.Prelude.{OnErr, flat_map, slice_get}
use Rattle.std.proofs.lemmas.List.{drop_at, length-map, map-append, take_at}
use Rattle.ft_base.specs.declared.memory.OutOfMemory.{OutOfMemory}
use Rattle.ft_op.specs.Stages.{Stage}
use Rattle.ft_json.specs.declared.fields.Field.TheVariants.{ReferenceSequenceNumber, MinimumSequenceNumber}
use Rattle.ft_msg.specs.declared.faults.ProcessFault.{ProcessFault}
use Rattle.ft_msg.specs.declared.faults.ProcessFault.TheVariants.{OutOfOrder, BadNumbers, NotSent}
use Rattle.ft_msg.specs.declared.messages.Entry.{Entry}
use Rattle.ft_msg.specs.Answers.{Refusal, held_in, process_fault_kind}
use Rattle.ft_msg.specs.Client.{NaiveClient, PendingEdit, floor}
use Rattle.ft_msg.specs.Compacted.{IsCompacted}
use Rattle.ft_msg.specs.Indexed.{IndexedClient, IndexedEdit, IndexedStage, indexed_client, indexed_stage}
use Rattle.ft_msg.specs.Process.{after_entry, is_oldest, is_op_kind, is_own, is_sent_as, numbers_fault, process, process_fault}
use Rattle.ft_laws_compaction.specs.Floors.{least_with_oldest}
use Rattle.ft_laws_compaction.proofs.Compacting.{compacts-further, floor-kept}
use Rattle.ft_laws_compaction.proofs.FloorSteps.{oldest-has-least}
use Rattle.ft_laws_compaction.proofs.Runs.{process_from}
use Rattle.ft_laws_names.proofs.KeptNames.{kept-named}
use Rattle.ft_laws_names.specs.WellNamed.{IsWellNamed}
use Rattle.ft_replica.specs.Linked.{Anyone, IsLinkedAs, KeepsLink, LinkedState, PendingPart, Refuses, RunsForOne, Takes, TakesCompaction, TakesEntry, bare_edit, client_shown, edits_shown, least_ref, oldest_ref, outline, part_of}
use Rattle.ft_replica.specs.Own.{Compacts, HeldDocument, HoldsOne, ShownDocument, Shows, held_by}
use Rattle.ft_replica.specs.Stopping.{AnswersOwnFault, StoppingState}
use Rattle.ft_replica.proofs.LinkedSteps.{links, made-named}

-- ---- its pending edits with places for names

edits-are-shown : (f : Stage → IndexedStage) (es : List PendingEdit)
    → edits_shown (map f (flat_map (λ e. e.stages) es)) (map part_of es) ≡ map (λ e. record { stages = map f e.stages; ref_seq = e.ref_seq; sent = e.sent }) es
edits-are-shown f [] = refl
edits-are-shown f (e ∷ es) =
    let rest = flat_map (λ (e : PendingEdit). e.stages) es in
    let long : length (map f e.stages) ≡ length e.stages = length-map e.stages f in
    let shown : List IndexedStage → List IndexedEdit → List IndexedEdit = λ ss fs. record { stages = ss; ref_seq = e.ref_seq; sent = e.sent } ∷ fs in
    ap (λ ss. shown (take (length e.stages) ss) (edits_shown (drop (length e.stages) ss) (map part_of es))) (map-append f e.stages rest)
    ∙ ap (λ ss. shown ss (edits_shown (drop (length e.stages) (map f e.stages ++ map f rest)) (map part_of es))) (take_at (map f e.stages) (map f rest) (length e.stages) long)
    ∙ ap (λ ss. shown (map f e.stages) (edits_shown ss (map part_of es))) (drop_at (map f e.stages) (map f rest) (length e.stages) long)
    ∙ ap (shown (map f e.stages)) (edits-are-shown f es)

pub shown-length : (stages : List IndexedStage) (es : List PendingPart) → length (edits_shown stages es) ≡ length es
shown-length stages [] = refl
shown-length stages (e ∷ es) = ap suc (shown-length (drop e.count stages) es)

least-parts : (n : ℕ) (es : List PendingEdit) → least_ref n (map part_of es) ≡ fold (λ n e. min n e.ref_seq) n es
least-parts n [] = refl
least-parts n (e ∷ es) = least-parts (min n e.ref_seq) es

oldest-part : (n : ℕ) (es : List PendingEdit) → oldest_ref n (map part_of es) ≡ least_with_oldest n es
oldest-part n [] = refl
oldest-part n (e ∷ es) = refl

-- ---- a client that keeps another refuses a message as that does

pub fault-kept : (p fewer : NaiveClient) (entry : Entry) → IsCompacted fewer p → process_fault fewer entry ≡ process_fault p entry
fault-kept p fewer entry k = ap (λ y. process_fault y entry) k.rest ∙ ap (λ d. process_fault (record p { doc = d }) entry) k.doc.rest

-- the same client is taken, whatever may go wrong
taken-with : {E F : Type 0} (x y : NaiveClient) → ◌≡◌ {A = Result NaiveClient E} (Ok x) (Ok y) → ◌≡◌ {A = Result NaiveClient F} (Ok x) (Ok y)
taken-with x y e = ap Ok (cc)

-- the oldest pending edit
pub oldest-is : (entry : Entry) (es : List PendingPart) (e : PendingPart) → slice_get es 0 ≡ Some e → is_sent_as entry (bare_edit e) ≡ is_oldest entry (map bare_edit es)
oldest-is entry [] e h = (cc)
oldest-is entry (first ∷ es) e h =
    let same : first ≡ e = (cc) in
    ap (λ f. is_sent_as entry (bare_edit f)) (sym same)

-- ---- a fault of an entry is a refusal

abbrev OnlyRefuses : Option ProcessFault → Type 0
OnlyRefuses None = Unit {0}
OnlyRefuses (Some fault) = process_fault_kind fault ≡ Refusal

or-later : (b : Bool) (fault : ProcessFault) (later : Option ProcessFault) → process_fault_kind fault ≡ Refusal → OnlyRefuses later → OnlyRefuses (cond b (Some fault) later)
or-later true fault later h k = h
or-later false fault later h k = k

entry-refuses : (x : NaiveClient) (entry : Entry) → OnlyRefuses (process_fault x entry)
entry-refuses x entry =
    let m = entry.msg in
    or-later (not (nat_eq entry.msg.seq (x.doc.number + 1))) (OutOfOrder (x.doc.number + 1) entry.msg.seq) _ refl
    (by (numbers_fault x entry)
    (or-later (is_op_kind m.kind && int_lt m.ref_seq (pos x.doc.minimum)) (BadNumbers ReferenceSequenceNumber x.doc.minimum m.ref_seq) _ refl
    (or-later (is_op_kind m.kind && int_lt (pos x.doc.number) m.ref_seq) (BadNumbers ReferenceSequenceNumber x.doc.number m.ref_seq) _ refl
    (or-later (nat_lt m.min x.doc.minimum) (BadNumbers MinimumSequenceNumber x.doc.minimum (pos m.min)) _ refl
    (or-later (nat_lt m.seq m.min) (BadNumbers MinimumSequenceNumber m.seq (pos m.min)) None refl tt)))))
  where
    by : (o : Option ProcessFault) → OnlyRefuses o
        → OnlyRefuses (elim o as (λ _. Option ProcessFault) [
          | Some fault ↦ Some fault
          | None ↦ cond (is_op_kind entry.msg.kind && is_own x entry && not (is_oldest entry x.pending)) (Some NotSent) None
        ])
    by (Some fault) h = h
    by None h = or-later (is_op_kind entry.msg.kind && is_own x entry && not (is_oldest entry x.pending)) NotSent None refl tt

pub fault-refuses : (x : NaiveClient) (entry : Entry) (fault : ProcessFault) → process_fault x entry ≡ Some fault → process_fault_kind fault ≡ Refusal
fault-refuses x entry fault h = let P : Option ProcessFault → Type 0 = λ o. OnlyRefuses o in subst P h (entry-refuses x entry)

-- what holds anyway holds after an error
pub on-any : {A E P : Type 0} (r : Result A E) → P → OnErr r P
on-any (Ok a) h = tt
on-any (Err e) h = h

pub keeps-further : {D : Type 0} (s mid new : LinkedState D) → KeepsLink s mid → KeepsLink mid new → KeepsLink s new
keeps-further s mid new h k = record { link = k.link ∙ h.link; conns = k.conns ∙ h.conns; queue = k.queue ∙ h.queue; pending = k.pending ∙ h.pending }

-- ---- its client

module _ {D : Type 0} (holds : D → HeldDocument → Type 0) (shown : D → ShownDocument) (shows : (d : D) (held : HeldDocument) → holds d held → Shows (shown d) held) where
  -- it shows the client for which it stands
  pub client-is-shown : (low : ℕ) (s : LinkedState D) (p : NaiveClient) → IsLinkedAs holds low s p → client_shown shown s ≡ indexed_client p
  client-is-shown low s p l =
      let d = s.document in
      let told = shows d (held_by low p) l.document in
      let as_shown : List IndexedEdit → IndexedClient = λ es. record (indexed_client p) { doc = (shown d).content; pending = es } in
      ap (λ (t : LinkedState D). record {
        doc = (shown d).content;
        link = t.link;
        conns = t.conns;
        last_stage = t.last_stage;
        next_client_seq = t.box.next;
        queue = t.box.drafts;
        pending = edits_shown (shown d).pending t.pending;
      }) l.rest
      ∙ ap (λ ss. as_shown (edits_shown ss (map part_of p.pending))) told.pending
      ∙ ap as_shown (edits-are-shown (indexed_stage p.doc) p.pending)
      ∙ ap (λ doc. record (indexed_client p) { doc = doc }) told.content

  pub client-counts : (low : ℕ) (s : LinkedState D) (p : NaiveClient) → IsLinkedAs holds low s p → (shown s.document).counts ≡ held_in p.doc
  client-counts low s p l = (shows s.document (held_by low p) l.document).counts

  -- the floor
  pub floor-is : (low : ℕ) (s : LinkedState D) (p : NaiveClient) → IsLinkedAs holds low s p → least_ref (shown s.document).content.minimum s.pending ≡ floor p
  floor-is low s p l =
      ap (λ (t : LinkedState D). least_ref (shown s.document).content.minimum t.pending) l.rest
      ∙ ap (λ d. least_ref d.minimum (map part_of p.pending)) (shows s.document (held_by low p) l.document).content
      ∙ least-parts p.doc.minimum p.pending

  -- the oldest edit has the least reference number
  pub oldest-has-floor : (s : LinkedState D) (Fits : NaiveClient → Type 0) → RunsForOne holds s Fits
      → oldest_ref (shown s.document).content.minimum s.pending ≡ least_ref (shown s.document).content.minimum s.pending
  oldest-has-floor s Fits r =
      let p = r.client in
      ap (λ (t : LinkedState D). oldest_ref (shown s.document).content.minimum t.pending) r.linked.rest
      ∙ ap (λ d. oldest_ref d.minimum (map part_of p.pending)) (shows s.document (held_by r.low p) r.linked.document).content
      ∙ oldest-part p.doc.minimum p.pending ∙ sym (oldest-has-least r.start p r.made) ∙ sym (floor-is r.low s p r.linked)

  -- so the floor is known
  pub floor-known : (s : LinkedState D) → RunsForOne holds s Anyone → (n : ℕ) → n ≡ oldest_ref (shown s.document).content.minimum s.pending
      → HoldsOne holds s.document (λ p. floor p ≡ n)
  floor-known s r n e = record {
    start = r.start;
    client = r.client;
    made = r.made;
    low = r.low;
    above = r.above;
    document = r.linked.document;
    fits = sym (floor-is r.low s r.client r.linked) ∙ sym (oldest-has-floor s Anyone r) ∙ sym e;
  }

  -- why it refuses a message
  pub fault-is : (low : ℕ) (s : LinkedState D) (p : NaiveClient) (entry : Entry) → IsLinkedAs holds low s p
      → process_fault (outline (shown s.document).content.number (shown s.document).content.minimum s.conns s.pending) entry ≡ process_fault p entry
  fault-is low s p entry l =
      let told = (shows s.document (held_by low p) l.document).content in
      ap (λ (t : LinkedState D). process_fault (outline (shown s.document).content.number (shown s.document).content.minimum t.conns t.pending) entry) l.rest
      ∙ ap (λ d. process_fault (outline d.number d.minimum p.conns (map part_of p.pending)) entry) told
      ∙ by p.pending
    where
      by : (es : List PendingEdit) → process_fault (outline p.doc.number p.doc.minimum p.conns (map part_of es)) entry ≡ process_fault (record p { pending = es }) entry
      by [] = refl
      by (e ∷ es) = refl

  -- it is compacted
  pub compaction-takes : (s new : LinkedState D) (low : ℕ) → low ≡ least_ref (shown s.document).content.minimum s.pending → new ≡ record s { document = new.document }
      → ((n : ℕ) (p : NaiveClient) → IsWellNamed p → floor p ≡ low → holds s.document (held_by n p) → Compacts holds new.document p) → TakesCompaction holds s new
  compaction-takes s new low is same h n p named l =
      let c = h n p named (sym (is ∙ floor-is n s p l)) l.document in
      let fewer : NaiveClient = record p { doc = c.fewer } in (
        fewer,
        record { doc = c.keeps; rest = refl },
        c.cells,
        links holds new fewer (floor p) new.document (same ∙ ap (λ (t : LinkedState D). record t { document = new.document }) l.rest) c.document,
      )

  -- each client for which it stands takes the entry, as one does
  pub none-refuses : (low : ℕ) (s : LinkedState D) (p : NaiveClient) (entry : Entry) → RunsForOne holds s (λ q. process_fault q entry ≡ None) → IsLinkedAs holds low s p
      → process_fault p entry ≡ None
  none-refuses low s p entry r l = sym (fault-is low s p entry l) ∙ fault-is r.low s r.client entry r.linked ∙ r.fits

  pub entry-takes : (s mid new : LinkedState D) (entry : Entry) → RunsForOne holds s (λ q. process_fault q entry ≡ None) → TakesCompaction holds s mid
      → Takes {E = OutOfMemory} holds (λ q. Ok (after_entry q entry)) mid new → TakesEntry holds entry s new
  entry-takes s mid new entry r c t low p named l =
      let k = c low p named l in
      let fewer = k.0 in
      let a = t (floor p) fewer (kept-named p fewer named k.1) k.3 in (
        fewer,
        k.1,
        k.2,
        (a.0, ap (process_from fewer entry) (fault-kept p fewer entry k.1 ∙ none-refuses low s p entry r l) ∙ taken-with (after_entry fewer entry) a.0 a.1, a.2),
      )

  -- and may go on to run
  pub runs-compacted : (s mid : LinkedState D) (entry : Entry) → RunsForOne holds s (λ q. process_fault q entry ≡ None) → TakesCompaction holds s mid
      → RunsForOne holds mid (λ q. process_fault q entry ≡ None)
  runs-compacted s mid entry r c =
      let k = c r.low r.client (made-named r.start r.client r.made) r.linked in
      record {
        start = r.start;
        client = k.0;
        made = record { whole = r.made.whole; reached = r.made.reached; starts = r.made.starts; keeps = compacts-further r.made.whole r.client k.0 r.made.keeps k.1 };
        low = floor r.client;
        above = (let same = floor-kept r.client k.0 k.1 in omega (arith, same));
        linked = k.3;
        fits = fault-kept r.client k.0 entry k.1 ∙ r.fits;
      }

  -- it runs for one that takes the entry
  pub runs-fitting : (s : LinkedState D) (entry : Entry) → RunsForOne holds s Anyone
      → process_fault (outline (shown s.document).content.number (shown s.document).content.minimum s.conns s.pending) entry ≡ None
      → RunsForOne holds s (λ q. process_fault q entry ≡ None)
  runs-fitting s entry r e = record {
    start = r.start;
    client = r.client;
    made = r.made;
    low = r.low;
    above = r.above;
    linked = r.linked;
    fits = sym (fault-is r.low s r.client entry r.linked) ∙ e;
  }

  -- each client for which it stands refuses the entry, as it does
  pub fault-answers : (old : StoppingState D) (entry : Entry) (fault : ProcessFault) → old.stop ≡ None
      → process_fault (outline (shown old.client.document).content.number (shown old.client.document).content.minimum old.client.conns old.client.pending) entry ≡ Some fault
      → AnswersOwnFault shown old old (Refuses holds (λ p. process p entry) fault old.client old.client) (process_fault_kind fault)
  fault-answers old entry fault runs e =
      subst (λ k. AnswersOwnFault shown old old (Refuses holds (λ p. process p entry) fault old.client old.client) k) (sym (fault-refuses (outline (shown old.client.document).content.number (shown old.client.document).content.minimum old.client.conns old.client.pending) entry fault e))
      (runs, runs, refl, λ low p named l. (ap (process_from p entry) (sym (fault-is low old.client p entry l) ∙ e), l))
