-- A client that steps made, or that keeps one which they made, is such a client after one more.
use Rattle.std.proofs.Common.{◌≡◌, ◌≤◌, ℕ, ◌+◌, [], ◌∷◌, ◌++◌, None, Result, Ok, refl, sym, ◌∙◌, ap, subst, arith}
use Rattle.ft_op.specs.declared.operations.ChannelOp.{ChannelOp}
use Rattle.ft_op.specs.Document.{Document}
use Rattle.ft_msg.specs.declared.messages.Entry.{Entry}
use Rattle.ft_msg.specs.Answers.{FaultKind, edit_fault_kind}
use Rattle.ft_msg.specs.Client.{NaiveClient, floor, local_edit, sent_as}
use Rattle.ft_msg.specs.ClientSteps.{Takes, unless_refused}
use Rattle.ft_msg.specs.Process.{after_entry, after_foreign_message, process, process_fault}
use Rattle.ft_msg.specs.WellFormed.{IsWellFormedMessage}
use Rattle.ft_msg.proofs.ReachedSteps.{reached-process, well-formed-fits}
use Rattle.ft_laws_compaction.specs.Keeping.{IsMadeOrKept}
use Rattle.ft_laws_compaction.proofs.AllSteps.{reached-sound}
use Rattle.ft_laws_compaction.proofs.Compacting.{floor-kept}
use Rattle.ft_laws_compaction.proofs.FloorSteps.{floor-step}
use Rattle.ft_laws_compaction.proofs.KeptSteps.{entries-answer}
use Rattle.ft_laws_compaction.proofs.Runs.{process_from}
use Rattle.ft_laws_names.specs.WellNamed.{IsWellNamed}
use Rattle.ft_replica.specs.Linked.{LinkedState, linked_as}
use Rattle.ft_replica.specs.Own.{HeldDocument, HoldsOne, NamesFit, ShownDocument, Shows, held_by, with_entry}
use Rattle.ft_replica.specs.Telling.{TakesOther}
use Rattle.ft_replica.specs.Unsent.{with_sent}
use Rattle.ft_replica.proofs.KnownSteps.{edit-known}
use Rattle.ft_replica.proofs.LinkedEdits.{Edits, edit-takes}
use Rattle.ft_replica.proofs.LinkedEntries.{chosen}
use Rattle.ft_replica.proofs.LinkedSteps.{made-named}
use Rattle.ft_replica.proofs.ReplicaEntries.{only-fits}
use Rattle.ft_replica.proofs.Replicas.{IsKnownStep, taken-alike}

-- it is made from some start, with no lower floor than before
pub record IsMadeFurther (before : ℕ) (p : NaiveClient) : Type 0 where
  pub start : Document
  pub made : IsMadeOrKept start p
  pub higher : before ≤ floor p

pub made-step : {E : Type 0} (kind : E → FaultKind) (step : NaiveClient → Result NaiveClient E) → IsKnownStep kind step → (start : Document) (p y : NaiveClient)
    → IsMadeOrKept start p → step p ≡ Ok y → IsMadeFurther (floor p) y
made-step kind step known start p y m e =
    let a = taken-alike y (known.alike m.whole p m.reached m.keeps) e in
    let reached = known.reached m.whole a.0 m.reached a.1.0 in
    record {
      start = reached.start;
      made = record { whole = a.0; reached = reached; starts = refl; keeps = a.1.1 };
      higher = (
          let up = known.floors m.whole a.0 m.reached a.1.0 in
          let first = floor-kept m.whole p m.keeps in
          let last = floor-kept a.0 y a.1.1 in
          omega (arith, up, first, last)
          );
    }

pub edited-named : (op : ChannelOp) (start : Document) (p y : NaiveClient) → IsMadeOrKept start p → local_edit p op ≡ Ok y → IsWellNamed y
edited-named op start p y m e =
    let further = made-step edit_fault_kind (λ x. local_edit x op) (edit-known op) start p y m e in
    made-named further.start y further.made

-- the client after an entry that it takes
pub after-taken : (p : NaiveClient) (entry : Entry) → process_fault p entry ≡ None → process p entry ≡ Ok (after_entry p entry)
after-taken p entry e = ap (process_from p entry) e

pub made-entry : (start : Document) (p : NaiveClient) (entry : Entry) → IsWellFormedMessage entry.msg → IsMadeOrKept start p → process_fault p entry ≡ None
    → IsMadeFurther (floor p) (after_entry p entry)
made-entry start p entry formed m e =
    let y = after_entry p entry in
    let fits = well-formed-fits entry formed in
    let a = taken-alike y (entries-answer m.reached.steps m.whole p entry (reached-sound m.whole m.reached) m.keeps fits) (after-taken p entry e) in
    let reached = reached-process m.whole a.0 entry formed m.reached a.1.0 in
    record {
      start = reached.start;
      made = record { whole = a.0; reached = reached; starts = refl; keeps = a.1.1 };
      higher = (
          let up = floor-step m.reached.steps (Takes entry) m.whole a.0 (reached-sound m.whole m.reached) (ap unless_refused a.1.0) (only-fits entry fits) in
          let first = floor-kept m.whole p m.keeps in
          let last = floor-kept a.0 y a.1.1 in
          omega (arith, up, first, last)
          );
    }

-- what comes from another client changes the document alone
pub after-other : (entry : Entry) (last : ℕ) (p : NaiveClient) → TakesOther entry last p → after_entry p entry ≡ after_foreign_message p entry
after-other entry last p t = chosen p entry _ _ t.join t.own

-- and leaves it well named
pub named-after : (start : Document) (p : NaiveClient) (entry : Entry) (last : ℕ) → IsWellFormedMessage entry.msg → IsMadeOrKept start p → TakesOther entry last p
    → IsWellNamed (after_foreign_message p entry)
named-after start p entry last formed m t =
    let further = made-entry start p entry formed m t.taken in
    subst IsWellNamed (after-other entry last p t) (made-named further.start (after_entry p entry) further.made)

module _ {D : Type 0} (holds : D → HeldDocument → Type 0) (d e : D) where
  -- another fact of the client for which it holds one
  pub other-fact : (Fits Q : NaiveClient → Type 0) → HoldsOne holds d Fits → ((p : NaiveClient) → Fits p → Q p) → HoldsOne holds d Q
  other-fact Fits Q h f = record { start = h.start; client = h.client; made = h.made; low = h.low; above = h.above; document = h.document; fits = f h.client h.fits }

  -- it holds one after what comes from another client
  pub holds-entry : (entry : Entry) (last : ℕ) → IsWellFormedMessage entry.msg → HoldsOne holds d (TakesOther entry last)
      → ((held : HeldDocument) → NamesFit held → holds d held → holds e (with_entry entry held)) → HoldsOne holds e (λ p. p.last_stage ≡ last)
  holds-entry entry last formed h takes =
      let p = h.client in
      let y = after_foreign_message p entry in
      let same = after-other entry last p h.fits in
      let further : IsMadeFurther (floor p) y = subst (IsMadeFurther (floor p)) same (made-entry h.start p entry formed h.made h.fits.taken) in
      let above = h.above in
      let higher = further.higher in
      record {
        start = further.start;
        client = y;
        made = further.made;
        low = h.low;
        above = omega (arith, above, higher);
        document = takes (held_by h.low p) (made-named h.start p h.made) h.document;
        fits = h.fits.last_is;
      }

  module _ (shown : D → ShownDocument) (shows : (d : D) (held : HeldDocument) → holds d held → Shows (shown d) held) (op : ChannelOp) (count : ℕ) where
    -- a client after an edit, as the document holds it
    pub record IsEdited (low : ℕ) (p : NaiveClient) : Type 0 where
      pub client : NaiveClient
      pub taken : local_edit p op ≡ Ok client
      pub document : holds e (held_by low client)
      pub last_is : client.last_stage ≡ p.last_stage + count

    pub edited-client : (last low : ℕ) (p : NaiveClient) → IsWellNamed p → p.last_stage ≡ last → holds d (held_by low p) → Edits holds op d e last (Ok count) → IsEdited low p
    edited-client last low p named is h edits =
        let s : LinkedState D = linked_as p d in
        let ref = (shown d).content.number in
        let sent = sent_as s.link s.box.next op in
        let here : Edits holds op d e p.last_stage (Ok count) = subst (λ n. Edits holds op d e n (Ok count)) (sym is) edits in
        let new : LinkedState D = record s {
          document = e;
          last_stage = s.last_stage + count;
          box = with_sent sent ref s.box;
          pending = s.pending ++ (record { count = count; ref_seq = ref; sent = sent } ∷ []);
        } in
        let t = edit-takes holds op s e shown count ref sent new shows here refl refl refl low p named (record { document = h; rest = refl }) in
        record {
          client = t.0;
          taken = t.1;
          document = t.2.document;
          last_is = sym (ap (λ (u : LinkedState D). u.last_stage) t.2.rest);
        }

    pub holds-edited : (last : ℕ) → HoldsOne holds d (λ p. p.last_stage ≡ last) → Edits holds op d e last (Ok count) → HoldsOne holds e (λ p. p.last_stage ≡ last + count)
    holds-edited last h edits =
        let p = h.client in
        let t = edited-client last h.low p (made-named h.start p h.made) h.fits h.document edits in
        let further = made-step edit_fault_kind (λ x. local_edit x op) (edit-known op) h.start p t.client h.made t.taken in
        let above = h.above in
        let higher = further.higher in
        record {
          start = further.start;
          client = t.client;
          made = further.made;
          low = h.low;
          above = omega (arith, above, higher);
          document = t.document;
          fits = t.last_is ∙ ap (λ n. n + count) h.fits;
        }
