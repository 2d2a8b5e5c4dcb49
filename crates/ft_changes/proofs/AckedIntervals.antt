-- The acknowledgement of an edit leaves the shown intervals as they are.
use Rattle.std.proofs.Common.{◌≡◌, ℕ, zero, suc, ◌+◌, ◌≤◌, Bool, true, false, cond, ◌&&◌, ◌||◌, List, [], ◌∷◌, Option, Some, None, refl, sym, ◌∙◌, subst, arith, nat_eq, ℤ, pos, negsuc}
use Rattle.std.proofs.lemmas.Bool.{or_right}
use Rattle.std.specs.List.{list_all, list_any}
use Rattle.std.specs.Option.{option_map}
use Rattle.ft_base.specs.declared.stamps.Stamp.{Stamp}
use Rattle.ft_base.specs.declared.stamps.Stamp.TheVariants.{Acked, Local}
use Rattle.ft_base.specs.Scan.{at, len, one_more_if}
use Rattle.ft_base.specs.Visibility.{is_acked, is_of_stage}
use Rattle.ft_base.proofs.Booleans.{both, all_four}
use Rattle.ft_props.specs.Element.{ElementId, ListElement, PendingId, SequencedId, has_id, id, id_of_stamp, is_sequenced, is_unremoved, sequenced_elements, without_pending}
use Rattle.ft_props.specs.Steps.{acked_element, acked_id, acked_stamp, is_inserted_by}
use Rattle.ft_op.specs.Document.{Document}
use Rattle.ft_op.specs.Intervals.{Interval, element_at_end}
use Rattle.ft_op.specs.Operation.{SubOperation}
use Rattle.ft_msg.specs.Acknowledgement.{made_before}
use Rattle.ft_laws_agreement.specs.Sequencing.{Each}
use Rattle.ft_laws_agreement.specs.Trimming.{are_distinct_elements}
use Rattle.ft_laws_agreement.proofs.AgreedStage.{EndsStand}
use Rattle.ft_laws_agreement.proofs.AcknowledgedDocument.{count_put, standing-count}
use Rattle.ft_laws_agreement.proofs.DistinctNames.{names-once}
use Rattle.ft_laws_agreement.proofs.OwnNames.{all-weaker}
use Rattle.ft_laws_agreement.proofs.SentStages.{SentStage, TextPut, TextTaken, TextAnnotated, IntervalsChanged, UnitsPut, UnitsTaken, CellWritten, Tells, made_before_sent, text_edit}
use Rattle.ft_laws_agreement.proofs.SideBySideStages.{none-counted}
use Rattle.ft_laws_agreement.proofs.SlidEnds.{Once, Stands, is_standing_at, once-tail, same_id-refl}
use Rattle.ft_laws_agreement.proofs.StageEdits.{Annotated, IsStanding, StageEdit, TakenOut}
use Rattle.ft_laws_agreement.proofs.ToldStages.{Holds, ToldStage}
use Rattle.ft_laws_agreement.proofs.WithinStages.{is_numbered, is_within, mark_within, stamp_within}
use Rattle.ft_changes.proofs.AckedNames.{is_end_there, is_there}

-- ---- names that stand once

none-left : (b : Bool) (n : ℕ) → b ≡ true → one_more_if b n ≤ 1 → n ≡ 0
none-left true n h l = omega arith
none-left false n h l = (cc)

once-distinct : (xs : List ListElement) → Once xs → are_distinct_elements xs ≡ true
once-distinct [] h = refl
once-distinct (e ∷ xs) h =
    let alone : len (has_id (id e)) xs ≡ 0 = none-left (has_id (id e) e) (len (has_id (id e)) xs) (same_id-refl (id e)) (h (id e)) in
    rw (none-counted (has_id (id e)) xs alone, once-distinct xs (once-tail e xs h)) refl

pub distinct-text : (c m n last : ℕ) (ts : List ToldStage) (doc : Document) → Holds c m n last ts doc → are_distinct_elements doc.text.items ≡ true
distinct-text c m n last ts doc h =
    once-distinct doc.text.items (names-once c doc (λ d. d.text.items) text_edit (λ t s. s.text) n ts h.text h.stand h.sound.named.once)

numbered-acked : (n : ℕ) (dels : List Stamp) → list_all (is_numbered n) dels ≡ true → list_all is_acked dels ≡ true
numbered-acked n [] h = refl
numbered-acked n (Acked s c ∷ dels) h = numbered-acked n dels (both (is_numbered n (Acked s c)) (list_all (is_numbered n) dels) h).1
numbered-acked n (Local j ∷ dels) h = absurd (cc)

pub within-removals : (n : ℕ) (ks : List ℕ) (xs : List ListElement) → list_all (is_within n ks) xs ≡ true → list_all (λ e. list_all is_acked e.dels) xs ≡ true
within-removals n ks xs h =
    all-weaker (is_within n ks) (λ e. list_all is_acked e.dels)
    (λ e g. numbered-acked n e.dels (all_four (stamp_within n ks e.ins) (list_all (is_numbered n) e.dels) (mark_within ks e.removal_stage) _ g).1) xs h

-- ---- names after the acknowledgement

module _ (k n s d : ℕ) where
  name-stamp : (i : ℕ) (t : Stamp) → id_of_stamp (acked_stamp k s d t) (cond (is_of_stage k t) (n + i) i) ≡ acked_id k n (id_of_stamp t i)
  name-stamp i (Acked r c) = refl
  name-stamp i (Local j) = either (nat_eq j k)
    where
      either : (b : Bool) → id_of_stamp (cond b (Acked s d) (Local j)) (cond b (n + i) i) ≡ cond b (SequencedId (n + i)) (PendingId j i)
      either true = refl
      either false = refl

  names-own : (xs : List ListElement) → Each (λ e. id (acked_element k n s d e) ≡ acked_id k n (id e)) xs
  names-own [] = tt
  names-own (e ∷ xs) = (name-stamp e.nth e.ins, names-own xs)

  other-stamp : (m i : ℕ) (t : Stamp) → is_of_stage k t ≡ false → id_of_stamp (acked_stamp k s d t) (cond (is_of_stage k t) (n + i) i) ≡ acked_id k m (id_of_stamp t i)
  other-stamp m i (Acked r c) h = refl
  other-stamp m i (Local j) h = rw h refl

  names-other : (m : ℕ) (xs : List ListElement) → list_any (is_inserted_by k) xs ≡ false → Each (λ e. id (acked_element k n s d e) ≡ acked_id k m (id e)) xs
  names-other m [] h = tt
  names-other m (e ∷ xs) h = by (is_inserted_by k e) refl h (names-other m xs)
    where
      by : (b : Bool) → is_inserted_by k e ≡ b → b || list_any (is_inserted_by k) xs ≡ false
          → (list_any (is_inserted_by k) xs ≡ false → Each (λ e. id (acked_element k n s d e) ≡ acked_id k m (id e)) xs)
          → Each (λ e. id (acked_element k n s d e) ≡ acked_id k m (id e)) (e ∷ xs)
      by true p g rest = absurd (cc)
      by false p g rest = (other-stamp m e.nth e.ins p, rest g)

pub text-names : (k s d r c : ℕ) (o : SubOperation) (sent : SentStage) (doc : Document) → Tells o sent → IsStanding k r c (text_edit sent) doc.text.items
    → Each (λ e. id (acked_element (suc k) doc.text.made s d e) ≡ acked_id (suc k) (made_before doc o) (id e)) doc.text.items
text-names k s d r c o sent doc tells h = by sent tells.made h
  where
    Named : ℕ → Type 0
    Named m = Each (λ e. id (acked_element (suc k) doc.text.made s d e) ≡ acked_id (suc k) m (id e)) doc.text.items

    none : (edit : StageEdit) → IsStanding k r c edit doc.text.items → count_put edit ≡ 0 → Named (made_before doc o)
    none edit g z =
        names-other (suc k) doc.text.made s d (made_before doc o) doc.text.items
        (none-counted (is_inserted_by (suc k)) doc.text.items (standing-count k r c edit doc.text.items g ∙ z))

    by : (sent : SentStage) → ((doc : Document) → made_before doc o ≡ made_before_sent doc sent) → IsStanding k r c (text_edit sent) doc.text.items → Named (made_before doc o)
    by (TextPut p seg props) m g = subst Named (sym (m doc)) (names-own (suc k) doc.text.made s d doc.text.items)
    by (TextTaken ranges) m g = none (TakenOut ranges) g refl
    by (TextAnnotated ranges changes) m g = none (Annotated ranges changes) g refl
    by (IntervalsChanged op) m g = none (TakenOut []) g refl
    by (UnitsPut target p count) m g = none (TakenOut []) g refl
    by (UnitsTaken target ranges) m g = none (TakenOut []) g refl
    by (CellWritten i j value) m g = none (TakenOut []) g refl

-- ---- names that are there

more-there : (e : ListElement) (xs : List ListElement) (o : Option ElementId) → is_end_there xs o ≡ true → is_end_there (e ∷ xs) o ≡ true
more-there e xs None h = refl
more-there e xs (Some a) h = or_right (is_sequenced e && has_id a e) (is_there a xs) h

standing-there : (a : ElementId) (xs : List ListElement) → list_any (is_standing_at a) (sequenced_elements xs) ≡ true → is_there a xs ≡ true
standing-there a [] h = h
standing-there a (e ∷ xs) h = step (is_sequenced e) h (standing-there a xs)
  where
    swapped : (u i : Bool) → (u && i) || list_any (is_standing_at a) (sequenced_elements xs) ≡ true
        → (list_any (is_standing_at a) (sequenced_elements xs) ≡ true → is_there a xs ≡ true) → i || is_there a xs ≡ true
    swapped u true g ih = refl
    swapped true false g ih = ih g
    swapped false false g ih = ih g

    step : (b : Bool) → list_any (is_standing_at a) (cond b (without_pending e ∷ sequenced_elements xs) (sequenced_elements xs)) ≡ true
        → (list_any (is_standing_at a) (sequenced_elements xs) ≡ true → is_there a xs ≡ true) → (b && has_id a e) || is_there a xs ≡ true
    step true g ih = swapped (is_unremoved (without_pending e)) (has_id a e) g ih
    step false g ih = ih g

pub ends-there-all : (xs : List ListElement) (is : List Interval) → EndsStand (sequenced_elements xs) is
    → list_all (λ i. is_end_there xs i.start && is_end_there xs i.end) is ≡ true
ends-there-all xs [] h = refl
ends-there-all xs (i ∷ is) h = rw (one i.start h.0, one i.end h.1, ends-there-all xs is h.2) refl
  where
    one : (o : Option ElementId) → Stands (sequenced_elements xs) o → is_end_there xs o ≡ true
    one None g = refl
    one (Some a) g = standing-there a xs g

at-there : (test : ListElement → Bool) (p : ℕ) (xs : List ListElement) → is_end_there xs (option_map id (at test p (sequenced_elements xs))) ≡ true
at-there test p [] = refl
at-there test p (e ∷ xs) = step (is_sequenced e) refl (λ q. at-there test q xs)
  where
    Rest : Type 0
    Rest = (q : ℕ) → is_end_there xs (option_map id (at test q (sequenced_elements xs))) ≡ true

    here : is_sequenced e ≡ true → is_there (id e) (e ∷ xs) ≡ true
    here s = rw (s, same_id-refl (id e)) refl

    found : is_sequenced e ≡ true → (b : Bool) → Rest
        → is_end_there (e ∷ xs) (option_map id (cond b (Some (without_pending e)) (at test 0 (sequenced_elements xs)))) ≡ true
    found s true rest = here s
    found s false rest = more-there e xs (option_map id (at test 0 (sequenced_elements xs))) (rest 0)

    place : is_sequenced e ≡ true → (q : ℕ) → Rest → is_end_there (e ∷ xs) (option_map id (at test q (without_pending e ∷ sequenced_elements xs))) ≡ true
    place s zero rest = found s (test (without_pending e)) rest
    place s (suc q) rest = let i = cond (test (without_pending e)) q (suc q) in more-there e xs (option_map id (at test i (sequenced_elements xs))) (rest i)

    step : (b : Bool) → is_sequenced e ≡ b → Rest
        → is_end_there (e ∷ xs) (option_map id (at test p (cond b (without_pending e ∷ sequenced_elements xs) (sequenced_elements xs)))) ≡ true
    step true s rest = place s p rest
    step false s rest = more-there e xs (option_map id (at test p (sequenced_elements xs))) (rest p)

pub named-there : (test : ListElement → Bool) (xs : List ListElement) (z : ℤ) → is_end_there xs (element_at_end test (sequenced_elements xs) z) ≡ true
named-there test xs (pos p) = at-there test p xs
named-there test xs (negsuc p) = refl
