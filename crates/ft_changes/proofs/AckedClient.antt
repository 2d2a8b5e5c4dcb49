-- The intervals that a client shows stay where they are as its own message comes back.
use Rattle.std.proofs.Common.{◌≡◌, ℕ, ◌<◌, Bool, true, false, cond, ◌&&◌, List, [], ◌∷◌, ◌++◌, Ok, refl, sym, ◌∙◌, ap, subst, arith, flat_map, map}
use Rattle.ft_props.specs.Element.{ElementId}
use Rattle.ft_op.specs.Document.{Document}
use Rattle.ft_op.specs.Stages.{Stage}
use Rattle.ft_sumdoc.specs.declared.summary.IntervalRec.{IntervalRec}
use Rattle.ft_msg.specs.declared.messages.Entry.{Entry}
use Rattle.ft_msg.specs.Acknowledgement.{ack_stages, after_own_message, renamed_edit, renamed_stage}
use Rattle.ft_msg.specs.Client.{NaiveClient, PendingEdit}
use Rattle.ft_msg.specs.ClientSteps.{has_fitting_body}
use Rattle.ft_msg.specs.Content.{ViewContent, content}
use Rattle.ft_msg.specs.Process.{after_foreign_message, come_online, is_oldest, is_op, is_op_kind, is_own, is_own_join, is_sent_as, process}
use Rattle.ft_msg.specs.Reached.{IsReached}
use Rattle.ft_base.proofs.Booleans.{both}
use Rattle.ft_laws_agreement.proofs.ClientHolds.{ClientHolds, flat, sent-facts, told-unrenamed}
use Rattle.ft_laws_agreement.proofs.ClientsAgree.{accepted, all-stepped-from, op-kind}
use Rattle.ft_laws_agreement.proofs.EveryClientReady.{join-changes_nothing-from}
use Rattle.ft_laws_agreement.proofs.HoldsAfterForeign.{holds-more}
use Rattle.ft_laws_agreement.proofs.MarksOfStages.{bare_stages}
use Rattle.ft_laws_agreement.proofs.RebuiltDocument.{edits-stages}
use Rattle.ft_laws_agreement.proofs.SummaryStarts.{reached-run}
use Rattle.ft_laws_agreement.proofs.ToldStages.{Holds, ToldStage, renamed_told}
use Rattle.ft_changes.proofs.AckedShown.{edit-shown, intervals_shown}
use Rattle.ft_changes.proofs.ToldLaw.{passed, processed}

map-append : (f : Stage → Stage) (ts us : List Stage) → map f (ts ++ us) ≡ map f ts ++ map f us
map-append f [] us = refl
map-append f (t ∷ ts) us = ap (λ vs. f t ∷ vs) (map-append f ts us)

bare-append : (gs hs : List ToldStage) → bare_stages (gs ++ hs) ≡ bare_stages gs ++ bare_stages hs
bare-append [] hs = refl
bare-append (g ∷ gs) hs = ap (λ vs. g.stage ∷ vs) (bare-append gs hs)

pub edits-renamed : (f : ElementId → ElementId) (edits : List PendingEdit) → flat_map (λ e. e.stages) (map (renamed_edit f) edits) ≡ map (renamed_stage f) (flat_map (λ e. e.stages) edits)
edits-renamed f [] = refl
edits-renamed f (e ∷ edits) = ap (λ ts. map (renamed_stage f) e.stages ++ ts) (edits-renamed f edits) ∙ sym (map-append (renamed_stage f) e.stages (flat_map (λ (d : PendingEdit). d.stages) edits))

-- the intervals that a client shows over this document with these edits pending
abbrev shown_over : ℕ → Document → List PendingEdit → List IntervalRec
shown_over last doc edits = intervals_shown last doc (flat_map (λ e. e.stages) edits)

own-step : (bound c : ℕ) (gs : List ToldStage) (gss : List (List ToldStage)) (x : NaiveClient) (entry : Entry) (edit : PendingEdit) (edits : List PendingEdit)
    → ClientHolds bound c (gs ∷ gss) (record x { pending = edit ∷ edits }) → x.doc.number < entry.msg.seq → is_sent_as entry edit ≡ true
    → shown_over x.last_stage (after_own_message (record x { pending = edit ∷ edits }) entry).doc (after_own_message (record x { pending = edit ∷ edits }) entry).pending
    ≡ shown_over x.last_stage x.doc (edit ∷ edits)
own-step bound c gs gss x entry edit edits h l sent =
    let s = entry.msg.seq in
    let n = x.doc.number in
    let last = x.last_stage in
    let told = h.edits.0 in
    let facts = sent-facts c gs edit.stages edit.ref_seq entry edit.sent told.sent sent in
    let start : Holds c n s last (map (renamed_told (λ i. i)) (gs ++ flat gss)) x.doc =
    subst (λ ts. Holds c n s last ts x.doc) (sym (told-unrenamed (gs ++ flat gss))) (holds-more c n n n s last (gs ++ flat gss) x.doc (omega arith) (omega arith) h.doc) in
    let rest : flat_map (λ (e : PendingEdit). e.stages) edits ≡ bare_stages (flat gss) = edits-stages c gss edits h.edits.1 in
    let all : bare_stages (map (renamed_told (λ i. i)) (gs ++ flat gss)) ≡ edit.stages ++ flat_map (λ (e : PendingEdit). e.stages) edits =
    ap bare_stages (told-unrenamed (gs ++ flat gss)) ∙ bare-append gs (flat gss) ∙ ap (λ ts. ts ++ bare_stages (flat gss)) (sym told.stages) ∙ ap (λ ts. edit.stages ++ ts) (sym rest) in
    let acked : Document × (ElementId → ElementId) = ack_stages s entry.origin (λ i. i) edit.stages x.doc in
    let out = ack_stages s c (λ i. i) (bare_stages gs) x.doc in
    let same : out ≡ acked =
    ap (λ d. ack_stages s d (λ i. i) (bare_stages gs) x.doc) (sym facts.origin) ∙ ap (λ ts. ack_stages s entry.origin (λ i. i) ts x.doc) (sym told.stages) in
    ap (intervals_shown last acked.0) (edits-renamed acked.1 edits ∙ ap (map (renamed_stage acked.1)) rest)
    ∙ ap (λ (p : Document × (ElementId → ElementId)). intervals_shown last p.0 (map (renamed_stage p.1) (bare_stages (flat gss)))) (sym same)
    ∙ edit-shown c n s last gs (flat gss) (λ i. i) x.doc start
    ∙ ap (intervals_shown last x.doc) all

own-edits : (bound c : ℕ) (gss : List (List ToldStage)) (x : NaiveClient) (entry : Entry) (edits : List PendingEdit)
    → ClientHolds bound c gss (record x { pending = edits }) → x.doc.number < entry.msg.seq → is_oldest entry edits ≡ true
    → (content (after_own_message (record x { pending = edits }) entry)).intervals ≡ (content (record x { pending = edits })).intervals
own-edits bound c gss x entry [] h l oldest = (cc)
own-edits bound c [] x entry (edit ∷ edits) h l oldest = absurd h.edits
own-edits bound c (gs ∷ gss) x entry (edit ∷ edits) h l oldest = own-step bound c gs gss x entry edit edits h l oldest

pub ack-moves-none : (x y : NaiveClient) (entry : Entry) → IsReached x → has_fitting_body entry ≡ true → process x entry ≡ Ok y
    → is_op entry.msg.body && is_own x entry ≡ true → (content y).intervals ≡ (content x).intervals
ack-moves-none x y entry reached fits e own =
    ap (λ (z : NaiveClient). (content z).intervals) (sym (processed x y entry e)) ∙ by (is_own_join x.link entry.msg.kind entry.origin)
  where
    after : (content (after_own_message x entry)).intervals ≡ (content x).intervals
    after =
        let a = accepted x entry (passed x y entry e) in
        let p = both (is_op entry.msg.body) (is_own x entry) own in
        let op = op-kind (is_op_kind entry.msg.kind) entry.msg.body fits p.0 in
        let s = all-stepped-from reached.start reached.steps x (reached-run x reached) in
        own-edits _ s.c s.gss x entry x.pending s.client a.next (a.oldest (rw (op, p.1) refl))

    by : (b : Bool) → (content (cond b (come_online x entry) (cond (is_op entry.msg.body && is_own x entry) (after_own_message x entry) (after_foreign_message x entry)))).intervals
        ≡ (content x).intervals
    by true = ap (λ (v : ViewContent). v.intervals) (join-changes_nothing-from reached.start reached.steps x entry (reached-run x reached))
    by false = ap (λ b. (content (cond b (after_own_message x entry) (after_foreign_message x entry))).intervals) own ∙ after
