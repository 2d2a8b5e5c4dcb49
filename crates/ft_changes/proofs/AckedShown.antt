-- The acknowledgement of an edit, stage by stage, leaves the intervals that are shown as they are.
use Rattle.std.proofs.Common.{◌≡◌, ℕ, suc, ◌≤◌, Bool, true, List, [], ◌∷◌, ◌++◌, Option, Some, None, refl, sym, ◌∙◌, ap, subst, arith, map, nat_le, ℤ}
use Rattle.std.specs.List.{list_all}
use Rattle.ft_base.specs.Visibility.{is_acked}
use Rattle.ft_props.specs.Element.{ElementId, ListElement, id, sequenced_elements}
use Rattle.ft_props.specs.Steps.{acked_element, acked_id}
use Rattle.ft_props.proofs.AcknowledgedInsertion.{expects, is_from, list_up_to}
use Rattle.ft_op.specs.declared.operations.Ends.{Ends}
use Rattle.ft_op.specs.declared.operations.TextOp.{TextOp}
use Rattle.ft_op.specs.Document.{Document, ends_of, elements_at_given_ends}
use Rattle.ft_op.specs.Intervals.{element_at_end, slide_ends}
use Rattle.ft_op.specs.Operation.{OnIntervals, SubOperation}
use Rattle.ft_op.specs.Stages.{Stage, intervals_after_stage, shown_intervals}
use Rattle.ft_sumdoc.specs.declared.summary.IntervalRec.{IntervalRec}
use Rattle.ft_msg.specs.Acknowledgement.{ack_stage, ack_stages, made_before, renamed_stage}
use Rattle.ft_msg.specs.Content.{interval_record}
use Rattle.ft_laws_agreement.specs.Sequencing.{Each, IsTyped}
use Rattle.ft_laws_agreement.specs.Trimming.{are_distinct_elements}
use Rattle.ft_laws_agreement.proofs.AcknowledgedEdit.{all-twice, renamed-first}
use Rattle.ft_laws_agreement.proofs.AcknowledgedStage.{list_up_to-lowest}
use Rattle.ft_laws_agreement.proofs.HoldsAfterAcknowledgement.{acknowledged-holds}
use Rattle.ft_laws_agreement.proofs.MarksOfStages.{bare_stages}
use Rattle.ft_laws_agreement.proofs.NamedByPlace.{names-not_renamed}
use Rattle.ft_laws_agreement.proofs.NumberTests.{from_self}
use Rattle.ft_laws_agreement.proofs.SentStages.{IntervalsChanged, NamesBy, placed}
use Rattle.ft_laws_agreement.proofs.ToldStages.{AreTold, Holds, Rise, ToldStage, renamed_told, stage_numbers}
use Rattle.ft_laws_agreement.proofs.TypedStages.{typed-stages}
use Rattle.ft_laws_agreement.proofs.WithinStages.{within-from}
use Rattle.ft_laws_names.proofs.IntervalsAlike.{NamesAlike}
use Rattle.ft_laws_names.proofs.Twins.{BesideList}
use Rattle.ft_changes.proofs.AckedEnds.{AreAlike, IsSameAfter, MeanSequenced, first-mean, records-mean, shown-mean}
use Rattle.ft_changes.proofs.AckedIntervals.{distinct-text, ends-there-all, named-there, text-names, within-removals}
use Rattle.ft_changes.proofs.AckedNames.{end-there, ends-there, names-there, same-after}

-- the intervals that a document shows with these stages pending
abbrev pub intervals_shown : ℕ → Document → List Stage → List IntervalRec
intervals_shown last doc ts = map (interval_record last doc.text.items) (shown_intervals doc.text.items doc.intervals ts)

rise-least : (i j last : ℕ) (ts : List ToldStage) → i ≤ suc j → Rise j last ts → list_all (λ k. nat_le i k) (stage_numbers ts) ≡ true
rise-least i j last [] l h = refl
rise-least i j last (t ∷ ts) l h =
    let here : j ≤ t.before = h.0 in
    let there : i ≤ suc t.before = omega arith in
    let next : i ≤ suc (suc t.before) = omega arith in
    rw (from_self i (suc t.before) there, rise-least i (suc t.before) last ts next h.1) refl

rise-last : (j last : ℕ) (ts : List ToldStage) → Rise j last ts → j ≤ last
rise-last j last [] h = h
rise-last j last (t ∷ ts) h = let here : j ≤ t.before = h.0 in let rest = rise-last (suc t.before) last ts h.1 in omega arith

pub stages-renamed : (f : ElementId → ElementId) (ts : List ToldStage) → map (renamed_stage f) (bare_stages ts) ≡ bare_stages (map (renamed_told f) ts)
stages-renamed f [] = refl
stages-renamed f (t ∷ ts) = ap (λ us. renamed_stage f t.stage ∷ us) (stages-renamed f ts)

module _ (c m n last s : ℕ) (t : ToldStage) (ts : List ToldStage) (doc : Document) (le : n ≤ s) (h : Holds c m n last (t ∷ ts) doc) where
  abbrev k : ℕ
  k = t.stage.stage

  abbrev o : SubOperation
  o = t.stage.sub_operation

  abbrev f : ElementId → ElementId
  f = acked_id k (made_before doc o)

  abbrev xs : List ListElement
  xs = doc.text.items

  abbrev ys : List ListElement
  ys = map (acked_element k doc.text.made s c) xs

  least : list_all (is_from (suc t.before)) xs ≡ true
  least = within-from n (suc t.before) (stage_numbers (t ∷ ts)) xs
      (rw (from_self (suc t.before) (suc t.before) (omega arith), rise-least (suc t.before) (suc t.before) last ts (omega arith) h.rising.1) refl) h.text

  from : list_all (is_from k) xs ≡ true
  from = subst (λ i. list_all (is_from i) xs ≡ true) (sym h.told.0) least

  removals : list_all (λ e. list_all is_acked e.dels) xs ≡ true
  removals = within-removals n (stage_numbers (t ∷ ts)) xs h.text

  before-text : are_distinct_elements xs ≡ true
  before-text = distinct-text c m n last (t ∷ ts) doc h

  after-text : are_distinct_elements ys ≡ true
  after-text = distinct-text c m s last _ (ack_stage s c (λ x. x) t.stage doc) (acknowledged-holds c m n last s t ts doc le h)

  facts : BesideList (IsSameAfter k xs ys) xs ys
  facts = same-after k doc.text.made s c xs from removals before-text after-text

  end-own : (test : ListElement → Bool) (z : ℤ) → MeanSequenced xs ys (element_at_end test (sequenced_elements xs) z) (element_at_end test (sequenced_elements xs) z)
  end-own test z = end-there k doc.text.made s c xs from removals before-text after-text (element_at_end test (sequenced_elements xs) z) (named-there test xs z)

  given-own : (test : ListElement → Bool) (given : Option Ends)
      → NamesAlike (MeanSequenced xs ys) (elements_at_given_ends test (sequenced_elements xs) given) (elements_at_given_ends test (sequenced_elements xs) given)
  given-own test None = record { first = MeanSequenced.nowhere; second = MeanSequenced.nowhere }
  given-own test (Some e) = record { first = end-own test e.start; second = end-own test e.end }

  own-names : (op : TextOp) → o ≡ OnIntervals op → NamesAlike (MeanSequenced xs ys) t.stage.names t.stage.names
  own-names op e =
      let place = h.told.1.place in
      let test = expects t.ref c (suc (suc t.before)) in
      let sent : t.sent ≡ IntervalsChanged place.other = place.made ∙ ap (placed place.first place.second place.ranges place.other) e in
      let named = subst (λ z. NamesBy test (list_up_to t.before xs) (list_up_to t.before doc.rows.items) (list_up_to t.before doc.cols.items) z t.stage.names) sent h.stand.0.named in
      let names : elements_at_given_ends test (sequenced_elements xs) (ends_of place.other) ≡ t.stage.names =
      ap (λ us. elements_at_given_ends test us (ends_of place.other)) (sym (list_up_to-lowest t.before xs least)) ∙ named.1 in
      subst (λ z. NamesAlike (MeanSequenced xs ys) z z) names (given-own test (ends_of place.other))

  text-named : Each (λ e. id (acked_element k doc.text.made s c e) ≡ f (id e)) xs
  text-named =
      subst (λ i. Each (λ e. id (acked_element i doc.text.made s c e) ≡ acked_id i (made_before doc o) (id e)) xs) (sym h.told.0)
      (text-names t.before s c t.ref c o t.sent doc h.told.1 h.stand.0.text)

  later-names : (us : List ToldStage) (i j : ℕ) → k ≤ suc j → AreTold i us → Rise j last us → Each (λ u. IsTyped u.stage doc u.names u.sub_operation) (bare_stages us)
      → AreAlike k facts f (bare_stages us)
  later-names [] i j l told rise typed = tt
  later-names (u ∷ us) i j l told rise typed =
      let here : j ≤ u.before = rise.0 in
      let number : u.stage.stage ≡ suc u.before = told.0 in (
        omega arith,
        λ op e. names-there k doc.text.made s c xs from removals before-text after-text f text-named u.stage.names.first u.stage.names.second
            (subst (λ p. IsTyped u.stage.stage doc u.stage.names p) e typed.0),
        later-names us i (suc u.before) (omega arith) told.3 rise.1 typed.1,
      )

  pub stage-shown : intervals_shown last (ack_stage s c (λ x. x) t.stage doc) (map (renamed_stage f) (bare_stages ts)) ≡ intervals_shown last doc (t.stage ∷ bare_stages ts)
  stage-shown =
      let number : k ≡ suc t.before = h.told.0 in
      let most = rise-last (suc t.before) last ts h.rising.1 in
      let here = first-mean k facts o t.stage.names t.stage.names own-names
      (ends-there k doc.text.made s c xs from removals before-text after-text doc.intervals (ends-there-all xs doc.intervals h.sound.ends)) in
      let alike = later-names ts m (suc t.before) (omega arith) h.told.3 h.rising.1 (typed-stages c m doc (t ∷ ts) h.text_order h.told h.stand).1 in
      let shown = records-mean k facts last (omega arith) (shown-mean k facts f (bare_stages ts) alike _ _ here) in
      sym (shown ∙ ap (λ names. map (interval_record last ys) (shown_intervals ys (slide_ends ys (intervals_after_stage o names doc.intervals)) (map (renamed_stage f) (bare_stages ts))))
      (sym (names-not_renamed t.stage.names)))

-- the stages of an edit one after another, whose elements are renamed by the stages before
pub edit-shown : (c m s last : ℕ) (gs rest : List ToldStage) (rename : ElementId → ElementId) (doc : Document) → Holds c m s last (map (renamed_told rename) (gs ++ rest)) doc
    → intervals_shown last (ack_stages s c rename (bare_stages gs) doc).0 (map (renamed_stage (ack_stages s c rename (bare_stages gs) doc).1) (bare_stages rest))
    ≡ intervals_shown last doc (bare_stages (map (renamed_told rename) (gs ++ rest)))
edit-shown c m s last [] rest rename doc h = ap (intervals_shown last doc) (stages-renamed rename rest)
edit-shown c m s last (g ∷ gs) rest rename doc h =
    let t = renamed_told rename g in
    let us = gs ++ rest in
    let f = acked_id g.stage.stage (made_before doc g.stage.sub_operation) in
    let doc1 = ack_stage s c rename g.stage doc in
    let same : ack_stage s c (λ x. x) t.stage doc ≡ doc1 = renamed-first s c rename g.stage doc in
    let next : Holds c m s last (map (renamed_told (λ x. f (rename x))) us) doc1 =
    subst (λ ts. Holds c m s last ts doc1) (all-twice f rename us)
    (subst (λ d. Holds c m s last (map (renamed_told f) (map (renamed_told rename) us)) d) same
    (acknowledged-holds c m s last s t (map (renamed_told rename) us) doc (omega arith) h)) in
    edit-shown c m s last gs rest (λ x. f (rename x)) doc1 next
    ∙ ap (λ ts. intervals_shown last doc1 (bare_stages ts)) (sym (all-twice f rename us))
    ∙ ap (intervals_shown last doc1) (sym (stages-renamed f (map (renamed_told rename) us)))
    ∙ ap (λ d. intervals_shown last d (map (renamed_stage f) (bare_stages (map (renamed_told rename) us)))) (sym same)
    ∙ stage-shown c m s last s t (map (renamed_told rename) us) doc (omega arith) h
