-- A summary goes on as the session does.
use Rattle.std.proofs.Common.{◌≡◌, ℕ, ◌+◌, ◌≤◌, true, ℤ, pos, negsuc, List, [], ◌∷◌, ◌++◌, take, refl, sym, ◌∙◌, ap, subst}
use Rattle.ft_msg.specs.declared.messages.Entry.{Entry}
use Rattle.ft_op.specs.Document.{Document}
use Rattle.ft_msg.specs.Agreed.{agreed, reference_number, take_entries, take_entry}
use Rattle.ft_msg.specs.Content.{shown}
use Rattle.ft_msg.specs.Process.{is_op, is_op_kind}
use Rattle.ft_laws_agreement.specs.Trimming.{AreFrom, IsConsistent}
use Rattle.ft_laws_agreement.proofs.ClientsAgree.{idle-clients-agree, op-kind}
use Rattle.ft_laws_agreement.proofs.ConsistentDocument.{agreed-consistent}
use Rattle.ft_laws_agreement.proofs.TrimmedFromNow.{trim-shows}
use Rattle.ft_seqr.specs.World.{known_names}
use Rattle.ft_laws_sessions.specs.LogOrder.{StandsNext, RefersWithin}
use Rattle.ft_laws_sessions.specs.Summaries.{SummariesGiveDocuments, SummariesGoOn}
use Rattle.ft_laws_summaries.proofs.RunSummaries.{document-given}
use Rattle.ft_laws_summaries.proofs.SummaryLists.{IsPlain, agreed-plain}
use Rattle.ft_laws_sessions.specs.Worlds.{reached}
use Rattle.ft_laws_sessions.proofs.Orders.{Leads}
use Rattle.ft_laws_sessions.proofs.WorldEvents.{ahead-is, found-serves}
use Rattle.ft_laws_sessions.proofs.WorldLaws.{of-log, world-reached}

-- the messages of a log are from the minimum before them on
refers-from : (m n : ℕ) (z : ℤ) → RefersWithin m n z → m ≤ reference_number z
refers-from m n (pos r) h = h.0
refers-from m n (negsuc r) h = absurd h

follows-from : (n m : ℕ) (e : Entry) → StandsNext n m e → is_op e.msg.body ≡ true → m ≤ reference_number e.msg.ref_seq
follows-from n m e f h = refers-from m n e.msg.ref_seq (f.refers (op-kind (is_op_kind e.msg.kind) e.msg.body f.body h))

leads-from : (next rest : List Entry) (n m k l : ℕ) → Leads n m (next ++ rest) k l → AreFrom m next
leads-from [] rest n m k l h = tt
leads-from (e ∷ next) rest n m k l h = (h.0.later, follows-from n m e h.0, leads-from next rest (n + 1) e.msg.min k l h.1)

take-more : (es next : List Entry) (doc : Document) → take_entries doc (es ++ next) ≡ take_entries (take_entries doc es) next
take-more [] next doc = refl
take-more (e ∷ es) next doc = take-more es next (take_entry doc e)

pub summaries-go-on : SummariesGoOn
summaries-go-on events name c next rest f none ahead =
    let w = reached events in
    let r = world-reached events in
    let s = found-serves ⊥ w r name c f in
    let x = c.client in
    let entries = take x.doc.number w.log in
    let o = of-log w r c (record { rest = s.rest; served = s.served; formed = s.formed }) in
    let doc : x.doc ≡ agreed entries = idle-clients-agree o.steps x o.run.made o.run.bodies none ∙ ap agreed o.entries in
    let order : AreFrom x.doc.minimum next =
    leads-from next rest x.doc.number x.doc.minimum w.sequencer.number w.sequencer.minimum
    (subst (λ es. Leads x.doc.number x.doc.minimum es w.sequencer.number w.sequencer.minimum) (sym (ahead-is ⊥ r.owner w c s.rest s.served) ∙ ahead) s.served.order) in
    trim-shows x.doc next (subst IsConsistent (sym doc) (agreed-consistent entries)) order
    ∙ (ap (λ d. shown (take_entries d next)) doc ∙ ap shown (sym (take-more entries next _)))

pub summaries-give-documents : SummariesGiveDocuments
summaries-give-documents events name c f none =
    let w = reached events in
    let r = world-reached events in
    let s = found-serves ⊥ w r name c f in
    let x = c.client in
    let entries = take x.doc.number w.log in
    let o = of-log w r c (record { rest = s.rest; served = s.served; formed = s.formed }) in
    let doc : x.doc ≡ agreed entries = idle-clients-agree o.steps x o.run.made o.run.bodies none ∙ ap agreed o.entries in
    document-given (known_names w x) x.doc (subst IsPlain (sym doc) (agreed-plain entries)) (subst IsConsistent (sym doc) (agreed-consistent entries))
