-- An edit of a client over its own document.
use Rattle.std.proofs.Common.{◌≡◌, ℕ, ◌+◌, List, [], ◌∷◌, ◌++◌, Option, Some, None, Result, Ok, Err, length, map, refl, sym, ◌∙◌, ap, subst}
use Rattle.std.specs.Prelude.{flat_map}
use Rattle.std.proofs.lemmas.Grind.{flat_map-append}
use Rattle.std.proofs.lemmas.List.{append-nil, map-append}
use Rattle.ft_op.specs.declared.operations.ChannelOp.{ChannelOp}
use Rattle.ft_op.specs.Document.{Document}
use Rattle.ft_op.specs.Operation.{sub_operations}
use Rattle.ft_op.specs.Stages.{Stage}
use Rattle.ft_msg.specs.declared.faults.EditFault.{EditFault}
use Rattle.ft_msg.specs.Answers.{FaultKind, Refusal, StoppedBefore, WantOfMemory, edit_fault_kind}
use Rattle.ft_msg.specs.Client.{NaiveClient, PendingEdit, SentAs, local_edit, local_sub_operations, sent_as, stages_of, with_draft}
use Rattle.ft_laws_agreement.proofs.CountedEntries.{edited}
use Rattle.ft_laws_names.specs.WellNamed.{IsWellNamed}
use Rattle.ft_replica.specs.Linked.{Anyone, IsLinkedAs, KeepsLink, LinkedState, MeansFault, Refuses, RunsForOne, Takes, linked_as, part_of}
use Rattle.ft_replica.specs.Own.{AnswersStages, HeldDocument, MeansRefused, NamesFit, ShownDocument, Shows, held_by, with_stages}
use Rattle.ft_replica.specs.Unsent.{with_sent}
use Rattle.ft_replica.proofs.LinkedSteps.{links, made-named}

-- what a document answers to an edit
abbrev pub Edits : {D : Type 0} → (D → HeldDocument → Type 0) → ChannelOp → D → D → ℕ → Result ℕ EditFault → Type 0
Edits holds op d e last result =
    (held : HeldDocument) → NamesFit held → held.last ≡ last → holds d held
    → AnswersStages (holds e) held (local_sub_operations held.doc held.stages (last + 1) (sub_operations op)) result

-- a pending edit more
stages-more : (edits : List PendingEdit) (edit : PendingEdit) → flat_map (λ e. e.stages) (edits ++ (edit ∷ [])) ≡ flat_map (λ e. e.stages) edits ++ edit.stages
stages-more edits edit = flat_map-append (λ (e : PendingEdit). e.stages) edits (edit ∷ []) ∙ ap (λ ss. flat_map (λ (e : PendingEdit). e.stages) edits ++ ss) (append-nil edit.stages)

module _ {D : Type 0} (holds : D → HeldDocument → Type 0) (low : ℕ) (p : NaiveClient) (e : D) (doc : Document) (stages : List Stage) (ref : ℕ) where
  abbrev edit_with : Option SentAs → PendingEdit
  edit_with sent = record { stages = stages; ref_seq = ref; sent = sent }

  abbrev client_with : Option SentAs → NaiveClient
  client_with sent = record p { doc = doc; last_stage = p.last_stage + length stages; pending = p.pending ++ (edit_with sent ∷ []) }

  abbrev state_with : Option SentAs → LinkedState D
  state_with sent = record {
    document = e;
    link = p.link;
    conns = p.conns;
    last_stage = p.last_stage + length stages;
    box = with_sent sent ref (record { next = p.next_client_seq; drafts = p.queue });
    pending = map part_of p.pending ++ (part_of (edit_with sent) ∷ []);
  }

  held-more : (sent : Option SentAs) → with_stages doc stages (held_by low p) ≡ held_by low (client_with sent)
  held-more sent = ap (λ ss. record (with_stages doc stages (held_by low p)) { stages = ss }) (sym (stages-more p.pending (edit_with sent)))

  linked-more : (sent : Option SentAs) → holds e (with_stages doc stages (held_by low p)) → IsLinkedAs holds low (state_with sent) (with_draft sent ref (client_with sent))
  linked-more None h =
      links holds (state_with None) (client_with None) low e
      (ap (λ ps. record (linked_as (client_with None) e) { pending = ps }) (sym (map-append part_of p.pending (edit_with None ∷ []))))
      (subst (λ k. holds e k) (held-more None) h)
  linked-more (Some sent) h =
      links holds (state_with (Some sent)) (with_draft (Some sent) ref (client_with (Some sent))) low e
      (ap (λ ps. record (linked_as (with_draft (Some sent) ref (client_with (Some sent))) e) { pending = ps }) (sym (map-append part_of p.pending (edit_with (Some sent) ∷ []))))
      (subst (λ k. holds e k) (held-more (Some sent)) h)

module _ {D : Type 0} (holds : D → HeldDocument → Type 0) (op : ChannelOp) (s : LinkedState D) (e : D) where
  asked : (result : Result ℕ EditFault) (low : ℕ) (p : NaiveClient) → Edits holds op s.document e s.last_stage result → IsWellNamed p → IsLinkedAs holds low s p
      → AnswersStages (holds e) (held_by low p) (local_sub_operations p.doc (stages_of p) (p.last_stage + 1) (sub_operations op)) result
  asked result low p h named l =
      let last : s.last_stage ≡ p.last_stage = ap (λ (t : LinkedState D). t.last_stage) l.rest in
      subst (λ k. AnswersStages (holds e) (held_by low p) (local_sub_operations p.doc (stages_of p) (k + 1) (sub_operations op)) result) last
      (h (held_by low p) named (sym last) l.document)

  -- it is taken
  pub edit-takes : (shown : D → ShownDocument) (count ref : ℕ) (sent : Option SentAs) (new : LinkedState D) → ((d : D) (held : HeldDocument) → holds d held → Shows (shown d) held)
      → Edits holds op s.document e s.last_stage (Ok count) → ref ≡ (shown s.document).content.number → sent ≡ sent_as s.link s.box.next op
      → new ≡ record s {
        document = e;
        last_stage = s.last_stage + count;
        box = with_sent sent ref s.box;
        pending = s.pending ++ (record { count = count; ref_seq = ref; sent = sent } ∷ []);
      } → Takes holds (λ p. local_edit p op) s new
  edit-takes shown count ref sent new shows h told said is low p named l =
      let a = asked (Ok count) low p h named l in
      let doc = a.0.0 in
      let stages = a.0.1 in
      let here : sent ≡ sent_as p.link p.next_client_seq op = said ∙ ap (λ (t : LinkedState D). sent_as t.link t.box.next op) l.rest in
      let number : ref ≡ p.doc.number = told ∙ ap (λ d. d.number) (shows s.document (held_by low p) l.document).content in
      let change : ℕ → LinkedState D → LinkedState D = λ n t. record t {
        document = e;
        last_stage = t.last_stage + n;
        box = with_sent sent ref t.box;
        pending = t.pending ++ (record { count = n; ref_seq = ref; sent = sent } ∷ []);
      } in
      let same : new ≡ state_with holds low p e doc stages ref sent = is ∙ ap (change count) l.rest ∙ ap (λ n. change n (linked_as p s.document)) (sym a.2) in
      let made : NaiveClient = with_draft sent ref (client_with holds low p e doc stages ref sent) in (
        made,
        ap (edited p op) a.1
            ∙ ap (λ n. Ok (with_draft (sent_as p.link p.next_client_seq op) n (client_with holds low p e doc stages n (sent_as p.link p.next_client_seq op)))) (sym number)
            ∙ ap (λ o. Ok (with_draft o ref (client_with holds low p e doc stages ref o))) (sym here),
        subst (λ t. IsLinkedAs holds low t made) (sym same) (linked-more holds low p e doc stages ref sent a.3),
      )

  -- it isn't
  pub edit-refuses : (fault : EditFault) (new : LinkedState D) → RunsForOne holds s Anyone → Edits holds op s.document e s.last_stage (Err fault) → new ≡ record s { document = e }
      → MeansFault (edit_fault_kind fault) (KeepsLink s new) (Refuses holds (λ p. local_edit p op) fault s new)
  edit-refuses fault new r h is = by (edit_fault_kind fault) refl
    where
      kept : KeepsLink s new
      kept = record {
        link = ap (λ (t : LinkedState D). t.link) is;
        conns = ap (λ (t : LinkedState D). t.conns) is;
        queue = ap (λ (t : LinkedState D). t.box.drafts) is;
        pending = ap (λ (t : LinkedState D). length t.pending) is;
      }

      meant : (low : ℕ) (p : NaiveClient) → IsWellNamed p → IsLinkedAs holds low s p → (k : FaultKind) → edit_fault_kind fault ≡ k
          → MeansRefused k ((local_sub_operations p.doc (stages_of p) (p.last_stage + 1) (sub_operations op) ≡ Err fault) × holds e (held_by low p))
      meant low p named l k same = subst (λ i. MeansRefused i ((local_sub_operations p.doc (stages_of p) (p.last_stage + 1) (sub_operations op) ≡ Err fault) × holds e (held_by low p))) same (asked (Err fault) low p h named l)

      refuses : edit_fault_kind fault ≡ Refusal → Refuses holds (λ p. local_edit p op) fault s new
      refuses same low p named l =
          let m = meant low p named l Refusal same in (
            ap (edited p op) m.0,
            links holds new p low e (is ∙ ap (λ (t : LinkedState D). record t { document = e }) l.rest) m.1,
          )

      by : (k : FaultKind) → edit_fault_kind fault ≡ k → MeansFault k (KeepsLink s new) (Refuses holds (λ p. local_edit p op) fault s new)
      by WantOfMemory same = kept
      by (StoppedBefore seq) same = meant r.low r.client (made-named r.start r.client r.made) r.linked (StoppedBefore seq) same
      by Refusal same = refuses same
