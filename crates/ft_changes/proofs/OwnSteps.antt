-- What is the client's own changes no list that is shown: neither the acknowledgement of an edit nor its own join.
use Rattle.std.proofs.Common.{◌≡◌, ℕ, ◌≤◌, Bool, true, false, cond, ◌&&◌, ◌||◌, ◌⊎◌, inl, inr, nat_eq, List, [], ◌∷◌, ◌++◌, refl, sym, ◌∙◌, ap, subst, arith, flat_map, length, map}
use Rattle.std.proofs.lemmas.Bool.{eqb-true, eq-eqb}
use Rattle.std.specs.List.{list_all, list_any}
use Rattle.ft_base.specs.Scan.{len}
use Rattle.ft_props.specs.declared.properties.Changes.{Changes}
use Rattle.ft_props.specs.Element.{ElementId, ListElement, seen}
use Rattle.ft_props.specs.Overlay.{StagesRise}
use Rattle.ft_props.specs.Steps.{Sequence, acked_id}
use Rattle.ft_op.specs.Document.{Document}
use Rattle.ft_op.specs.Operation.{SubOperation}
use Rattle.ft_op.specs.Stages.{Stage}
use Rattle.ft_msg.specs.declared.messages.Entry.{Entry}
use Rattle.ft_msg.specs.Acknowledgement.{ack_stage, ack_stages, after_own_message, made_before}
use Rattle.ft_msg.specs.Client.{NaiveClient, PendingEdit, stages_of}
use Rattle.ft_msg.specs.Content.{stage_view}
use Rattle.ft_laws_agreement.specs.Agreement.{HaveSameViews}
use Rattle.ft_laws_agreement.specs.Reconnecting.{StagesRiseTo, is_stage_of}
use Rattle.ft_laws_agreement.specs.Sequencing.{Each, IsReady}
use Rattle.ft_laws_agreement.proofs.ListSteps.{len-view}
use Rattle.ft_changes.specs.Shown.{shown_element, shown_elements}
use Rattle.ft_changes.proofs.AckedLists.{AreAbove, AreMarkedBy, AreOf, RiseTo, acked_lists, acked_lists-count, acked_lists-shown}

-- ---- the stages of a client

abbrev pub numbers_of_stages : List Stage → List ℕ
numbers_of_stages ts = map (λ t. t.stage) ts

all-to : (j last : ℕ) (ts : List Stage) → StagesRiseTo j ts last → j ≤ last
all-to j last [] h = h
all-to j last (t ∷ ts) h = let less = h.0 in let rest = all-to t.stage last ts h.1 in omega arith

all-above : (i j last : ℕ) (ts : List Stage) → i ≤ j → StagesRiseTo j ts last → AreAbove i (numbers_of_stages ts)
all-above i j last [] le h = tt
all-above i j last (t ∷ ts) le h = let less = h.0 in (omega arith, all-above i t.stage last ts (omega arith) h.1)

pub rise-to : (j last : ℕ) (ts : List Stage) → StagesRiseTo j ts last → RiseTo last (numbers_of_stages ts)
rise-to j last [] h = tt
rise-to j last (t ∷ ts) h = (all-to t.stage last ts h.1, all-above t.stage t.stage last ts (omega arith) h.1, rise-to t.stage last ts h.1)

pub either : (a b : Bool) → a || b ≡ true → (a ≡ true) ⊎ (b ≡ true)
either true b h = inl refl
either false b h = inr h

both : (a b : Bool) → a && b ≡ true → (a ≡ true) × (b ≡ true)
both true b h = (refl, h)
both false b h = absurd (cc)

or-left : (a b : Bool) → a ≡ true → a || b ≡ true
or-left a b e = ap (λ c. c || b) e

or-right : (a b : Bool) → b ≡ true → a || b ≡ true
or-right true b e = refl
or-right false b e = e

pub stage-known : (kind : SubOperation → Bool) (k : ℕ) (ts : List Stage) → is_stage_of kind ts k ≡ true → list_any (nat_eq k) (numbers_of_stages ts) ≡ true
stage-known kind k [] h = absurd cc
stage-known kind k (t ∷ ts) h = elim (either (nat_eq t.stage k && kind t.sub_operation) (is_stage_of kind ts k) h) [
  | inl here ↦ or-left (nat_eq k t.stage) (list_any (nat_eq k) (numbers_of_stages ts)) (eq-eqb k t.stage (sym (eqb-true t.stage k (both (nat_eq t.stage k) (kind t.sub_operation) here).0)))
  | inr later ↦ or-right (nat_eq k t.stage) (list_any (nat_eq k) (numbers_of_stages ts)) (stage-known kind k ts later)
]

changes-known : (kind : SubOperation → Bool) (ts : List Stage) (qs : List (ℕ × Changes)) → list_all (λ q. is_stage_of kind ts q.0) qs ≡ true → AreOf (numbers_of_stages ts) qs
changes-known kind ts [] h = tt
changes-known kind ts (q ∷ qs) h =
    let p = both (is_stage_of kind ts q.0) (list_all (λ (r : ℕ × Changes). is_stage_of kind ts r.0) qs) h in
    (stage-known kind q.0 ts p.0, changes-known kind ts qs p.1)

marked-by : (kind : SubOperation → Bool) (ts : List Stage) (xs : List ListElement) → Each (λ e. StagesRise e.pending) xs
    → list_all (λ e. list_all (λ q. is_stage_of kind ts q.0) e.pending) xs ≡ true → AreMarkedBy (numbers_of_stages ts) xs
marked-by kind ts [] rise h = tt
marked-by kind ts (e ∷ xs) rise h =
    let p = both (list_all (λ (q : ℕ × Changes). is_stage_of kind ts q.0) e.pending) (list_all (λ (d : ListElement). list_all (λ (q : ℕ × Changes). is_stage_of kind ts q.0) d.pending) xs) h in
    (rise.0, changes-known kind ts e.pending p.0, marked-by kind ts xs rise.1 p.1)

numbers-append : (ts us : List Stage) → numbers_of_stages (ts ++ us) ≡ numbers_of_stages ts ++ numbers_of_stages us
numbers-append [] us = refl
numbers-append (t ∷ ts) us = ap (λ ks. t.stage ∷ ks) (numbers-append ts us)

-- ---- an acknowledgement

acked-text : (s c : ℕ) (ts : List Stage) (rename : ElementId → ElementId) (doc : Document) → (ack_stages s c rename ts doc).0.text ≡ acked_lists s c (numbers_of_stages ts) doc.text
acked-text s c [] rename doc = refl
acked-text s c (t ∷ ts) rename doc = acked-text s c ts (λ i. acked_id t.stage (made_before doc t.sub_operation) (rename i)) (ack_stage s c rename t doc)

acked-rows : (s c : ℕ) (ts : List Stage) (rename : ElementId → ElementId) (doc : Document) → (ack_stages s c rename ts doc).0.rows ≡ acked_lists s c (numbers_of_stages ts) doc.rows
acked-rows s c [] rename doc = refl
acked-rows s c (t ∷ ts) rename doc = acked-rows s c ts (λ i. acked_id t.stage (made_before doc t.sub_operation) (rename i)) (ack_stage s c rename t doc)

acked-cols : (s c : ℕ) (ts : List Stage) (rename : ElementId → ElementId) (doc : Document) → (ack_stages s c rename ts doc).0.cols ≡ acked_lists s c (numbers_of_stages ts) doc.cols
acked-cols s c [] rename doc = refl
acked-cols s c (t ∷ ts) rename doc = acked-cols s c ts (λ i. acked_id t.stage (made_before doc t.sub_operation) (rename i)) (ack_stage s c rename t doc)

-- two documents show the same lists at stage k
pub record HaveSameLists (k : ℕ) (doc after : Document) : Type 0 where
  pub elements : shown_elements k after.text.items ≡ shown_elements k doc.text.items
  pub rows : len (seen k) after.rows.items ≡ len (seen k) doc.rows.items
  pub cols : len (seen k) after.cols.items ≡ len (seen k) doc.cols.items

pub own-message-lists : (x : NaiveClient) (entry : Entry) → IsReady x → HaveSameLists x.last_stage x.doc (after_own_message x entry).doc
own-message-lists x entry ready = by x.pending refl
  where
    k : ℕ
    k = x.last_stage

    s : ℕ
    s = entry.msg.seq

    c : ℕ
    c = entry.origin

    by : (edits : List PendingEdit) → x.pending ≡ edits → HaveSameLists x.last_stage x.doc (after_own_message (record x { pending = edits }) entry).doc
    by [] e = record { elements = refl; rows = refl; cols = refl }
    by (edit ∷ edits) e =
        let rest : List Stage = flat_map (λ d. d.stages) edits in
        let ks = numbers_of_stages edit.stages in
        let js = numbers_of_stages rest in
        let same : numbers_of_stages (stages_of x) ≡ ks ++ js = ap (λ (es : List PendingEdit). numbers_of_stages (flat_map (λ (d : PendingEdit). d.stages) es)) e ∙ numbers-append edit.stages rest in
        let rise : RiseTo k (ks ++ js) = subst (RiseTo k) same (rise-to 0 k (stages_of x) ready.stages) in
        let marked : AreMarkedBy (ks ++ js) x.doc.text.items = subst (λ ns. AreMarkedBy ns x.doc.text.items) same (marked-by _ (stages_of x) x.doc.text.items ready.text.rising ready.text.changes) in
        record {
          elements = ap (λ (list : Sequence). shown_elements k list.items) (acked-text s c edit.stages (λ i. i) x.doc) ∙ acked_lists-shown s c k ks js x.doc.text rise marked;
          rows = ap (λ (list : Sequence). len (seen k) list.items) (acked-rows s c edit.stages (λ i. i) x.doc) ∙ acked_lists-count s c k ks js x.doc.rows rise;
          cols = ap (λ (list : Sequence). len (seen k) list.items) (acked-cols s c edit.stages (λ i. i) x.doc) ∙ acked_lists-count s c k ks js x.doc.cols rise;
        }

-- ---- an own join

shown-of-view : (k : ℕ) (xs : List ListElement) → map shown_element (stage_view k xs) ≡ shown_elements k xs
shown-of-view k [] = refl
shown-of-view k (e ∷ xs) = by (seen k e) (shown-of-view k xs)
  where
    by : (b : Bool) → map shown_element (stage_view k xs) ≡ shown_elements k xs
        → map shown_element (cond b (e ∷ stage_view k xs) (stage_view k xs)) ≡ cond b (shown_element e ∷ shown_elements k xs) (shown_elements k xs)
    by true rest = ap (λ es. shown_element e ∷ es) rest
    by false rest = rest

pub same-views-lists : (k : ℕ) (doc after : Document) → HaveSameViews k doc after → HaveSameLists k doc after
same-views-lists k doc after h = record {
  elements = sym (shown-of-view k after.text.items) ∙ ap (map shown_element) h.text ∙ shown-of-view k doc.text.items;
  rows = len-view (seen k) after.rows.items ∙ ap length h.rows ∙ sym (len-view (seen k) doc.rows.items);
  cols = len-view (seen k) after.cols.items ∙ ap length h.cols ∙ sym (len-view (seen k) doc.cols.items);
}
