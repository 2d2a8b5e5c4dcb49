-- An entry that a client over its own document takes: a message of another, its own message, its own join.
use Rattle.std.proofs.Common.{◌≡◌, ◌≤◌, ℕ, ◌+◌, ◌&&◌, Bool, true, false, cond, List, [], ◌∷◌, ◌++◌, Option, Some, None, Result, Ok, Err, drop, length, map, suc, refl, sym, ◌∙◌, ap, subst, arith, append-nil, append_assoc}
use Rattle.std.specs.Prelude.{flat_map, nat_eq}
use Rattle.std.specs.List.{list_any}
use Rattle.std.proofs.lemmas.List.{length-append, length-map, map-append}
use Rattle.ft_base.specs.declared.memory.OutOfMemory.{OutOfMemory}
use Rattle.ft_op.specs.declared.operations.ChannelOp.{ChannelOp}
use Rattle.ft_op.specs.Document.{Document}
use Rattle.ft_op.specs.Stages.{Stage}
use Rattle.ft_props.specs.Element.{ElementId}
use Rattle.ft_msg.specs.declared.messages.Draft.{Draft}
use Rattle.ft_msg.specs.declared.messages.Entry.{Entry}
use Rattle.ft_msg.specs.declared.views.Link.TheVariants.{Online}
use Rattle.ft_msg.specs.Acknowledgement.{ack_stages, after_own_message, renamed_edit, renamed_stage}
use Rattle.ft_msg.specs.Agreed.{with_numbers}
use Rattle.ft_msg.specs.Answers.{WantOfMemory}
use Rattle.ft_msg.specs.Client.{NaiveClient, PendingEdit, stages_of}
use Rattle.ft_msg.specs.Process.{after_entry, after_foreign_message, come_online, is_op, is_own, is_own_join}
use Rattle.ft_msg.specs.Reconnection.{regenerated_edit, resubmitted_edit, resubmitted_edits, sent_draft}
use Rattle.ft_laws_agreement.proofs.CarriedEdits.{stages-resubmitted}
use Rattle.ft_laws_names.specs.WellNamed.{IsWellNamed}
use Rattle.ft_replica.specs.declared.document.Resent.{Resent}
use Rattle.ft_replica.specs.Linked.{AnswersLinked, IsLinkedAs, LinkedState, PendingPart, Takes, linked_as, oldest_count, part_of, sent_part, sent_parts, with_parts}
use Rattle.ft_replica.specs.Own.{HeldDocument, NamesFit, acknowledged, held_by, oldest_stages, rejoined, resent, with_entry}
use Rattle.ft_replica.specs.Unsent.{Unsent}
use Rattle.ft_replica.proofs.LinkedSteps.{links}

-- ---- of what kind the entry is

module _ (p : NaiveClient) (entry : Entry) where
  pub chosen : (a b : Bool) → is_own_join p.link entry.msg.kind entry.origin ≡ a → is_op entry.msg.body && is_own p entry ≡ b
      → after_entry p entry ≡ cond a (come_online p entry) (cond b (after_own_message p entry) (after_foreign_message p entry))
  chosen a b e f =
      ap (λ c. cond c (come_online p entry) (cond (is_op entry.msg.body && is_own p entry) (after_own_message p entry) (after_foreign_message p entry))) e
      ∙ ap (λ c. cond a (come_online p entry) (cond c (after_own_message p entry) (after_foreign_message p entry))) f

module _ {D : Type 0} (holds : D → HeldDocument → Type 0) (entry : Entry) (s new : LinkedState D) where
  joins_of : (low : ℕ) (p : NaiveClient) (a : Bool) → IsLinkedAs holds low s p → is_own_join s.link entry.msg.kind entry.origin ≡ a
      → is_own_join p.link entry.msg.kind entry.origin ≡ a
  joins_of low p a l e = ap (λ (t : LinkedState D). is_own_join t.link entry.msg.kind entry.origin) (sym l.rest) ∙ e

  owns_of : (low : ℕ) (p : NaiveClient) (b : Bool) → IsLinkedAs holds low s p → is_op entry.msg.body && list_any (nat_eq entry.origin) s.conns ≡ b
      → is_op entry.msg.body && is_own p entry ≡ b
  owns_of low p b l e = ap (λ (t : LinkedState D). is_op entry.msg.body && list_any (nat_eq entry.origin) t.conns) (sym l.rest) ∙ e

  -- its own join
  pub joins-entry : is_own_join s.link entry.msg.kind entry.origin ≡ true → Takes {E = OutOfMemory} holds (λ p. Ok (come_online p entry)) s new
      → Takes {E = OutOfMemory} holds (λ p. Ok (after_entry p entry)) s new
  joins-entry e h low p named l =
      let t = h low p named l in
      (t.0, ap Ok (chosen p entry true (is_op entry.msg.body && is_own p entry) (joins_of low p true l e) refl) ∙ t.1, t.2)

  -- its own message
  pub owns-entry : is_own_join s.link entry.msg.kind entry.origin ≡ false → is_op entry.msg.body && list_any (nat_eq entry.origin) s.conns ≡ true
      → Takes {E = OutOfMemory} holds (λ p. Ok (after_own_message p entry)) s new → Takes {E = OutOfMemory} holds (λ p. Ok (after_entry p entry)) s new
  owns-entry e f h low p named l =
      let t = h low p named l in
      (t.0, ap Ok (chosen p entry false true (joins_of low p false l e) (owns_of low p true l f)) ∙ t.1, t.2)

  pub joins-answers : is_own_join s.link entry.msg.kind entry.origin ≡ true → (result : Result (Unit {0}) OutOfMemory)
      → AnswersLinked holds (λ _. WantOfMemory) (λ p. Ok (come_online p entry)) s new result → AnswersLinked holds (λ _. WantOfMemory) (λ p. Ok (after_entry p entry)) s new result
  joins-answers e (Ok u) h = joins-entry e h
  joins-answers e (Err fault) h = h

  pub owns-answers : is_own_join s.link entry.msg.kind entry.origin ≡ false → is_op entry.msg.body && list_any (nat_eq entry.origin) s.conns ≡ true
      → (result : Result (Unit {0}) OutOfMemory)
      → AnswersLinked holds (λ _. WantOfMemory) (λ p. Ok (after_own_message p entry)) s new result → AnswersLinked holds (λ _. WantOfMemory) (λ p. Ok (after_entry p entry)) s new result
  owns-answers e f (Ok u) h = owns-entry e f h
  owns-answers e f (Err fault) h = h

  -- another
  pub takes-entry : is_own_join s.link entry.msg.kind entry.origin ≡ false → is_op entry.msg.body && list_any (nat_eq entry.origin) s.conns ≡ false
      → ((held : HeldDocument) → NamesFit held → holds s.document held → holds new.document (with_entry entry held)) → new ≡ record s { document = new.document }
      → Takes {E = OutOfMemory} holds (λ p. Ok (after_entry p entry)) s new
  takes-entry e f h is low p named l = (
    after_foreign_message p entry,
    ap Ok (chosen p entry false false (joins_of low p false l e) (owns_of low p false l f)),
    links holds new (after_foreign_message p entry) low new.document (is ∙ ap (λ (t : LinkedState D). record t { document = new.document }) l.rest)
        (h (held_by low p) named l.document),
  )

-- ---- its own message

all-renamed : (f : ElementId → ElementId) (es : List PendingEdit) → map (renamed_stage f) (flat_map (λ e. e.stages) es) ≡ flat_map (λ e. e.stages) (map (renamed_edit f) es)
all-renamed f [] = refl
all-renamed f (e ∷ es) =
    map-append (renamed_stage f) e.stages (flat_map (λ (e : PendingEdit). e.stages) es) ∙ ap (λ ss. map (renamed_stage f) e.stages ++ ss) (all-renamed f es)

parts-renamed : (f : ElementId → ElementId) (es : List PendingEdit) → map part_of es ≡ map part_of (map (renamed_edit f) es)
parts-renamed f [] = refl
parts-renamed f (e ∷ es) =
    ap (λ n. record (part_of e) { count = n } ∷ map part_of es) (sym (length-map e.stages (renamed_stage f)))
    ∙ ap (λ ps. part_of (renamed_edit f e) ∷ ps) (parts-renamed f es)

module _ {D : Type 0} (holds : D → HeldDocument → Type 0) (entry : Entry) (d e : D) (low : ℕ) where
  abbrev Acks : ℕ → Type 0
  Acks count =
      (held : HeldDocument) (own rest : List Stage) → NamesFit held → held.stages ≡ own ++ rest → length own ≡ count → holds d held → holds e (acknowledged entry own rest held)

  -- with its pending edits
  owns-first : (es : List PendingEdit) (p : NaiveClient) → IsWellNamed (record p { pending = es }) → holds d (held_by low (record p { pending = es })) → Acks (oldest_count (map part_of es))
      → IsLinkedAs holds low (record (linked_as p e) { pending = drop 1 (map part_of es) }) (after_own_message (record p { pending = es }) entry)
  owns-first [] p named h acks =
      let q : NaiveClient = record p { pending = [] } in
      links holds (record (linked_as p e) { pending = [] }) (after_own_message q entry) low e refl (acks (held_by low q) [] [] named refl refl h)
  owns-first (edit ∷ es) p named h acks =
      let q : NaiveClient = record p { pending = edit ∷ es } in
      let rest = flat_map (λ (e : PendingEdit). e.stages) es in
      let acked = ack_stages entry.msg.seq entry.origin (λ i. i) edit.stages p.doc in
      let made = acks (held_by low q) edit.stages rest named refl refl h in
      links holds (record (linked_as p e) { pending = map part_of es }) (after_own_message q entry) low e
      (ap (λ ps. record (linked_as p e) { pending = ps }) (parts-renamed acked.1 es))
      (subst (λ ss. holds e (record (acknowledged entry edit.stages rest (held_by low q)) { stages = ss })) (all-renamed acked.1 es) made)

-- the oldest edit has no more stages than there are
count-within : (es : List PendingEdit) → oldest_count (map part_of es) ≤ length (flat_map (λ e. e.stages) es)
count-within [] = omega arith
count-within (e ∷ es) =
    let long = length-append e.stages (flat_map (λ (e : PendingEdit). e.stages) es) in
    omega (arith, long)

pub own-within : {D : Type 0} (s : LinkedState D) (p : NaiveClient) (n : ℕ) → s ≡ linked_as p s.document → n ≡ oldest_count s.pending → n ≤ length (stages_of p)
own-within s p n rest e =
    let same : n ≡ oldest_count (map part_of p.pending) = e ∙ ap (λ (t : LinkedState _). oldest_count t.pending) rest in
    let within = count-within p.pending in
    omega (arith, same, within)

oldest-counted : (es : List PendingEdit) → length (oldest_stages es) ≡ oldest_count (map part_of es)
oldest-counted [] = refl
oldest-counted (e ∷ es) = refl

pub own-oldest : {D : Type 0} (s : LinkedState D) (p : NaiveClient) (n : ℕ) → s ≡ linked_as p s.document → n ≡ oldest_count s.pending → length (oldest_stages p.pending) ≡ n
own-oldest s p n rest e = oldest-counted p.pending ∙ sym (e ∙ ap (λ (t : LinkedState _). oldest_count t.pending) rest)

pub own-takes : {D : Type 0} (holds : D → HeldDocument → Type 0) (entry : Entry) (s new : LinkedState D)
    → ((held : HeldDocument) (own rest : List Stage) → NamesFit held → held.stages ≡ own ++ rest → length own ≡ oldest_count s.pending → holds s.document held
    → holds new.document (acknowledged entry own rest held)) → new ≡ record s { document = new.document; pending = drop 1 s.pending }
    → Takes {E = OutOfMemory} holds (λ p. Ok (after_own_message p entry)) s new
own-takes {D} holds entry s new h is low p named l =
    let count : oldest_count s.pending ≡ oldest_count (map part_of p.pending) = ap (λ (t : LinkedState D). oldest_count t.pending) l.rest in
    let acks = subst (λ n. Acks holds entry s.document new.document low n) count h in
    let same : new ≡ record (linked_as p new.document) { pending = drop 1 (map part_of p.pending) } = is ∙ ap (λ (t : LinkedState D). record t { document = new.document; pending = drop 1 t.pending }) l.rest in (
      after_own_message p entry,
      refl,
      subst (λ t. IsLinkedAs holds low t (after_own_message p entry)) (sym same) (owns-first holds entry s.document new.document low p.pending p named l.document acks),
    )

-- ---- its own join

-- the parts of the edits that are sent again
parts-again : (doc : Document) (conn n : ℕ) (es : List PendingEdit)
    → sent_parts conn doc.number n (map (resent doc) (map (λ e. e.stages) es)) ≡ map part_of (resubmitted_edits doc conn n es)
parts-again doc conn n [] = refl
parts-again doc conn n (e ∷ es) = by (regenerated_edit doc e) (parts-again doc conn n es) (parts-again doc conn (n + 1) es)
  where
    by : (o : Option ChannelOp)
        → sent_parts conn doc.number n (map (resent doc) (map (λ (e : PendingEdit). e.stages) es)) ≡ map part_of (resubmitted_edits doc conn n es)
        → sent_parts conn doc.number (n + 1) (map (resent doc) (map (λ (e : PendingEdit). e.stages) es)) ≡ map part_of (resubmitted_edits doc conn (n + 1) es)
        → (elim o as (λ _. List PendingPart) [
          | None ↦ sent_parts conn doc.number n (map (resent doc) (map (λ (e : PendingEdit). e.stages) es))
          | Some op ↦ sent_part conn doc.number n (resent doc e.stages) op ∷ sent_parts conn doc.number (n + 1) (map (resent doc) (map (λ (e : PendingEdit). e.stages) es))
        ])
        ≡ map part_of (elim o as (λ _. List PendingEdit) [ None ↦ resubmitted_edits doc conn n es | Some op ↦ resubmitted_edit doc conn n e op ∷ resubmitted_edits doc conn (n + 1) es ])
    by None now more = now
    by (Some op) now more = ap (λ ps. part_of (resubmitted_edit doc conn n e op) ∷ ps) more

none-more : (n : ℕ) → n ≡ 0 + n
none-more n = omega arith

-- and their messages
module _ (doc : Document) (conn : ℕ) where
  box-again : (n : ℕ) (drafts : List Draft) (es : List PendingEdit)
      → with_parts (map part_of (resubmitted_edits doc conn n es)) (record { next = n; drafts = drafts })
      ≡ record { next = length (resubmitted_edits doc conn n es) + n; drafts = drafts ++ flat_map (sent_draft doc.number) (resubmitted_edits doc conn n es) }
  box-again n drafts [] = ap (λ ds. record { next = n; drafts = ds }) (sym (append-nil drafts)) ∙ ap (λ m. record { next = m; drafts = drafts ++ [] }) (none-more n)
  box-again n drafts (e ∷ es) = by (regenerated_edit doc e) (box-again n drafts es) (λ op. box-again (n + 1) (drafts ++ sent_draft doc.number (resubmitted_edit doc conn n e op)) es)
    where
      next : (m : ℕ) → m + (n + 1) ≡ suc m + n
      next m = omega arith

      by : (o : Option ChannelOp)
          → with_parts (map part_of (resubmitted_edits doc conn n es)) (record { next = n; drafts = drafts })
          ≡ record { next = length (resubmitted_edits doc conn n es) + n; drafts = drafts ++ flat_map (sent_draft doc.number) (resubmitted_edits doc conn n es) }
          → ((op : ChannelOp) → with_parts (map part_of (resubmitted_edits doc conn (n + 1) es)) (record { next = n + 1; drafts = drafts ++ sent_draft doc.number (resubmitted_edit doc conn n e op) })
          ≡ record {
            next = length (resubmitted_edits doc conn (n + 1) es) + (n + 1);
            drafts = drafts ++ sent_draft doc.number (resubmitted_edit doc conn n e op) ++ flat_map (sent_draft doc.number) (resubmitted_edits doc conn (n + 1) es);
          })
          → with_parts (map part_of (elim o as (λ _. List PendingEdit) [ None ↦ resubmitted_edits doc conn n es | Some op ↦ resubmitted_edit doc conn n e op ∷ resubmitted_edits doc conn (n + 1) es ]))
          (record { next = n; drafts = drafts })
          ≡ record {
            next = length (elim o as (λ _. List PendingEdit) [ None ↦ resubmitted_edits doc conn n es | Some op ↦ resubmitted_edit doc conn n e op ∷ resubmitted_edits doc conn (n + 1) es ]) + n;
            drafts = drafts ++ flat_map (sent_draft doc.number) (elim o as (λ _. List PendingEdit) [ None ↦ resubmitted_edits doc conn n es | Some op ↦ resubmitted_edit doc conn n e op ∷ resubmitted_edits doc conn (n + 1) es ]);
          }
      by None now more = now
      by (Some op) now more =
          let rest = resubmitted_edits doc conn (n + 1) es in
          let first = sent_draft doc.number (resubmitted_edit doc conn n e op) in
          more op
          ∙ ap (λ ds. record { next = length rest + (n + 1); drafts = ds }) (append_assoc drafts first (flat_map (sent_draft doc.number) rest))
          ∙ ap (λ m. record { next = m; drafts = drafts ++ (first ++ flat_map (sent_draft doc.number) rest) }) (next (length rest))

all-stages : (es : List PendingEdit) → flat_map (λ e. e.stages) es ≡ flat_map (λ ss. ss) (map (λ e. e.stages) es)
all-stages [] = refl
all-stages (e ∷ es) = ap (λ ss. e.stages ++ ss) (all-stages es)

all-counts : (es : List PendingEdit) → map (λ ss. length ss) (map (λ e. e.stages) es) ≡ map (λ e. e.count) (map part_of es)
all-counts [] = refl
all-counts (e ∷ es) = ap (λ ns. length e.stages ∷ ns) (all-counts es)

pub counts-of : (es : List PendingEdit) → map (λ e. length e.stages) es ≡ map (λ e. e.count) (map part_of es)
counts-of [] = refl
counts-of (e ∷ es) = ap (λ ns. length e.stages ∷ ns) (counts-of es)

pub join-takes : {D : Type 0} (holds : D → HeldDocument → Type 0) (entry : Entry) (counts : List ℕ) (again : List Resent) (s new : LinkedState D) → counts ≡ map (λ e. e.count) s.pending
    → ((held : HeldDocument) (edits : List (List Stage)) → NamesFit held → held.stages ≡ flat_map (λ ss. ss) edits → map (λ ss. length ss) edits ≡ counts → holds s.document held
    → (again ≡ map (resent (with_numbers entry held.doc)) edits) × holds new.document (rejoined entry held))
    → new ≡ record s {
      document = new.document;
      link = Online entry.origin;
      box = with_parts (sent_parts entry.origin entry.msg.seq 1 again) (record { next = 1; drafts = [] });
      pending = sent_parts entry.origin entry.msg.seq 1 again;
    } → Takes {E = OutOfMemory} holds (λ p. Ok (come_online p entry)) s new
join-takes {D} holds entry counts again s new asked edits is low p named l =
    let held = held_by low p in
    let doc = with_numbers entry p.doc in
    let y = come_online p entry in
    let of_pending : counts ≡ map (λ e. e.count) (map part_of p.pending) = asked ∙ ap (λ (t : LinkedState D). map (λ (e : PendingPart). e.count) t.pending) l.rest in
    let given = edits held (map (λ (e : PendingEdit). e.stages) p.pending) named (all-stages p.pending) (all-counts p.pending ∙ sym of_pending) l.document in
    let sent : again ≡ map (resent doc) (map (λ (e : PendingEdit). e.stages) p.pending) = given.0 in
    let parts : sent_parts entry.origin entry.msg.seq 1 again ≡ map part_of (resubmitted_edits doc entry.origin 1 p.pending) =
    ap (sent_parts entry.origin entry.msg.seq 1) sent ∙ parts-again doc entry.origin 1 p.pending in
    let change : List PendingPart → LinkedState D → LinkedState D = λ ps t. record t {
      document = new.document;
      link = Online entry.origin;
      box = with_parts ps (record { next = 1; drafts = [] });
      pending = ps;
    } in
    let same : new ≡ linked_as y new.document =
    is ∙ ap (change (sent_parts entry.origin entry.msg.seq 1 again)) l.rest
    ∙ ap (λ ps. change ps (linked_as p s.document)) parts
    ∙ ap (λ (box : Unsent). record (linked_as y new.document) { box = box }) (box-again doc entry.origin 1 [] p.pending) in
    let stages : (rejoined entry held).stages ≡ stages_of y = sym (stages-resubmitted doc entry.origin 1 p.pending) in (
      y,
      refl,
      links holds new y low new.document same
          (subst (λ ss. holds new.document (record (rejoined entry held) { stages = ss })) stages given.1),
    )
