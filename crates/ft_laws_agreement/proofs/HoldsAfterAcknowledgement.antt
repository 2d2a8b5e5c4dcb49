-- The acknowledgement of the first stage keeps what is known of a document.
use Rattle.std.proofs.Common.{◌≡◌, ◌⊎◌, inl, inr, ℕ, suc, ◌+◌, ◌≤◌, ◌<◌, Bool, true, false, cond, not, ◌||◌, nat_le, nat_eq, List, [], ◌∷◌, map, refl, sym, ◌∙◌, ap, subst, arith}
use Rattle.std.specs.List.{list_all}
use Rattle.ft_base.specs.declared.stamps.Stamp.{Stamp}
use Rattle.ft_base.specs.declared.stamps.Stamp.TheVariants.{Acked, Local}
use Rattle.ft_base.specs.Scan.{len}
use Rattle.ft_base.specs.Visibility.{is_of_stage}
use Rattle.ft_op.specs.declared.operations.Target.TheVariants.{Rows, Cols}
use Rattle.ft_props.specs.Element.{ElementId, SequencedId, PendingId, ListElement, id, id_of_stamp}
use Rattle.ft_props.specs.Steps.{Sequence, acked_element, acked_id, acked_list, acked_stamp, is_inserted_by}
use Rattle.ft_props.proofs.AcknowledgedInsertion.{expects, is_from, list_up_to, same_nat}
use Rattle.ft_op.specs.Operation.{SubOperation}
use Rattle.ft_op.specs.Intervals.{NamedElements}
use Rattle.ft_op.specs.Document.{Document, effects, sequenced_part}
use Rattle.ft_op.specs.Stages.{Stage}
use Rattle.ft_msg.specs.Acknowledgement.{ack_stage, made_before, renamed_names}
use Rattle.ft_laws_agreement.proofs.StageEdits.{TakenOut, Annotated, IsStanding}
use Rattle.ft_laws_agreement.proofs.SentStages.{SentStage, TextPut, TextTaken, TextAnnotated, IntervalsChanged, UnitsPut, UnitsTaken, CellWritten, StageStands, Tells, cols_edit, rows_edit, text_edit, told_as}
use Rattle.ft_laws_agreement.proofs.ToldStages.{AllStand, AreTold, Holds, Rise, ToldStage, renamed_told, stage_numbers}
use Rattle.ft_laws_agreement.proofs.HigherStages.{acknowledgement-keeps, as_expected, list_up_to-acked}
use Rattle.ft_laws_agreement.proofs.AgreedStage.{IsSound, sound-after}
use Rattle.ft_laws_agreement.proofs.OrderedMarks.{is_ordered, ordered-acked}
use Rattle.ft_laws_agreement.proofs.WithinStages.{is_within, within-acked, within-from}
use Rattle.ft_laws_agreement.proofs.NamedByPlace.{SeenAs, names-as, names-not_renamed, seen-map}
use Rattle.ft_laws_agreement.proofs.AcknowledgedDocument.{IsLowest, ack_stage-as, stage-effects, standing-count}
use Rattle.ft_laws_agreement.proofs.AnyAndAll.{all_true}
use Rattle.ft_laws_agreement.proofs.NumberTests.{from_self}

-- ---- names of acknowledged elements

name-stamp : (k n s d i : ℕ) (t : Stamp) → id_of_stamp (acked_stamp k s d t) (cond (is_of_stage k t) (n + i) i) ≡ acked_id k n (id_of_stamp t i)
name-stamp k n s d i (Acked r c) = refl
name-stamp k n s d i (Local j) = either (nat_eq j k)
  where
    either : (b : Bool) → id_of_stamp (cond b (Acked s d) (Local j)) (cond b (n + i) i) ≡ cond b (SequencedId (n + i)) (PendingId j i)
    either true = refl
    either false = refl

-- an element of the list into which the stage inserts
name-acked : (k n s d : ℕ) (e : ListElement) → id (acked_element k n s d e) ≡ acked_id k n (id e)
name-acked k n s d e = name-stamp k n s d e.nth e.ins

other-stamp : (k m n s d i : ℕ) (t : Stamp) → is_of_stage k t ≡ false → id_of_stamp (acked_stamp k s d t) (cond (is_of_stage k t) (m + i) i) ≡ acked_id k n (id_of_stamp t i)
other-stamp k m n s d i (Acked r c) h = refl
other-stamp k m n s d i (Local j) h = rw h refl

-- one of another list
name-other : (k m n s d : ℕ) (e : ListElement) → not (is_inserted_by k e) ≡ true → id (acked_element k m s d e) ≡ acked_id k n (id e)
name-other k m n s d e h = other-stamp k m n s d e.nth e.ins (not-true (is_inserted_by k e) h)
  where
    not-true : (b : Bool) → not b ≡ true → b ≡ false
    not-true true g = (cc)
    not-true false g = refl

none-inserted : (k : ℕ) (xs : List ListElement) → len (is_inserted_by k) xs ≡ 0 → list_all (λ e. not (is_inserted_by k e)) xs ≡ true
none-inserted k [] h = refl
none-inserted k (e ∷ xs) h = grind (arith, none-inserted k xs)

none-up_to : (k j : ℕ) (xs : List ListElement) → list_all (λ e. not (is_inserted_by k e)) xs ≡ true → list_all (λ e. not (is_inserted_by k e)) (list_up_to j xs) ≡ true
none-up_to k j [] h = refl
none-up_to k j (e ∷ xs) h = grind (arith, none-up_to k j xs)

-- how a higher stage sees one list after the acknowledgement, where the stage put into it n elements from, or none at all
abbrev IsOneList : ℕ → ℕ → Sequence → Type 0
IsOneList k n list = (list.made ≡ n) ⊎ (len (is_inserted_by k) list.items ≡ 0)

known-own : (s r c : ℕ) → nat_le s r || nat_eq c c ≡ true
known-own s r c = rw (same_nat c) (or-true (nat_le s r))
  where
    or-true : (b : Bool) → b || true ≡ true
    or-true true = refl
    or-true false = refl

module _ (k n s c r i : ℕ) (l : k ≤ i) where
  seen-acked : (list : Sequence) → IsOneList k n list
      → SeenAs (expects r c (suc (suc i))) (expects r c (suc (suc i))) (acked_id k n) (list_up_to i list.items) (list_up_to i (map (acked_element k list.made s c) list.items))
  seen-acked list (inl e) =
      let test = expects r c (suc (suc i)) in
      let below : k < suc i = omega arith in
      subst (λ ys. SeenAs test test (acked_id k n) (list_up_to i list.items) ys) (sym (list_up_to-acked k list.made s c i list.items l))
      (seen-map (λ x. true) test test (acked_id k n) (acked_element k list.made s c) (λ x h. as_expected k list.made s c r c (suc i) (known-own s r c) below x)
      (λ x h. name-acked k list.made s c x ∙ ap (λ m. acked_id k m (id x)) e) (list_up_to i list.items) (all_true (list_up_to i list.items)))
  seen-acked list (inr z) =
      let test = expects r c (suc (suc i)) in
      let below : k < suc i = omega arith in
      subst (λ ys. SeenAs test test (acked_id k n) (list_up_to i list.items) ys) (sym (list_up_to-acked k list.made s c i list.items l))
      (seen-map (λ x. not (is_inserted_by k x)) test test (acked_id k n) (acked_element k list.made s c) (λ x h. as_expected k list.made s c r c (suc i) (known-own s r c) below x)
      (λ x h. name-other k list.made n s c x h) (list_up_to i list.items) (none-up_to k i list.items (none-inserted k list.items z)))

-- ---- the stage puts into one list at most

one-text : (k r c : ℕ) (o : SubOperation) (sent : SentStage) (doc : Document) → Tells o sent → IsStanding k r c (text_edit sent) doc.text.items
    → IsOneList (suc k) (made_before doc o) doc.text
one-text k r c o (TextPut p seg props) doc tells h = inl (sym (tells.made doc))
one-text k r c o (TextTaken ranges) doc tells h = inr (standing-count k r c (TakenOut ranges) doc.text.items h)
one-text k r c o (TextAnnotated ranges changes) doc tells h = inr (standing-count k r c (Annotated ranges changes) doc.text.items h)
one-text k r c o (IntervalsChanged op) doc tells h = inr (standing-count k r c (TakenOut []) doc.text.items h)
one-text k r c o (UnitsPut target p count) doc tells h = inr (standing-count k r c (TakenOut []) doc.text.items h)
one-text k r c o (UnitsTaken target ranges) doc tells h = inr (standing-count k r c (TakenOut []) doc.text.items h)
one-text k r c o (CellWritten i j value) doc tells h = inr (standing-count k r c (TakenOut []) doc.text.items h)

one-rows : (k r c : ℕ) (o : SubOperation) (sent : SentStage) (doc : Document) → Tells o sent → IsStanding k r c (rows_edit sent) doc.rows.items
    → IsOneList (suc k) (made_before doc o) doc.rows
one-rows k r c o (TextPut p seg props) doc tells h = inr (standing-count k r c (TakenOut []) doc.rows.items h)
one-rows k r c o (TextTaken ranges) doc tells h = inr (standing-count k r c (TakenOut []) doc.rows.items h)
one-rows k r c o (TextAnnotated ranges changes) doc tells h = inr (standing-count k r c (TakenOut []) doc.rows.items h)
one-rows k r c o (IntervalsChanged op) doc tells h = inr (standing-count k r c (TakenOut []) doc.rows.items h)
one-rows k r c o (UnitsPut Rows p count) doc tells h = inl (sym (tells.made doc))
one-rows k r c o (UnitsPut Cols p count) doc tells h = inr (standing-count k r c (TakenOut []) doc.rows.items h)
one-rows k r c o (UnitsTaken Rows ranges) doc tells h = inr (standing-count k r c (TakenOut ranges) doc.rows.items h)
one-rows k r c o (UnitsTaken Cols ranges) doc tells h = inr (standing-count k r c (TakenOut []) doc.rows.items h)
one-rows k r c o (CellWritten i j value) doc tells h = inr (standing-count k r c (TakenOut []) doc.rows.items h)

one-cols : (k r c : ℕ) (o : SubOperation) (sent : SentStage) (doc : Document) → Tells o sent → IsStanding k r c (cols_edit sent) doc.cols.items
    → IsOneList (suc k) (made_before doc o) doc.cols
one-cols k r c o (TextPut p seg props) doc tells h = inr (standing-count k r c (TakenOut []) doc.cols.items h)
one-cols k r c o (TextTaken ranges) doc tells h = inr (standing-count k r c (TakenOut []) doc.cols.items h)
one-cols k r c o (TextAnnotated ranges changes) doc tells h = inr (standing-count k r c (TakenOut []) doc.cols.items h)
one-cols k r c o (IntervalsChanged op) doc tells h = inr (standing-count k r c (TakenOut []) doc.cols.items h)
one-cols k r c o (UnitsPut Rows p count) doc tells h = inr (standing-count k r c (TakenOut []) doc.cols.items h)
one-cols k r c o (UnitsPut Cols p count) doc tells h = inl (sym (tells.made doc))
one-cols k r c o (UnitsTaken Rows ranges) doc tells h = inr (standing-count k r c (TakenOut []) doc.cols.items h)
one-cols k r c o (UnitsTaken Cols ranges) doc tells h = inr (standing-count k r c (TakenOut ranges) doc.cols.items h)
one-cols k r c o (CellWritten i j value) doc tells h = inr (standing-count k r c (TakenOut []) doc.cols.items h)

-- ---- each higher stage

module _ (n s c : ℕ) (rename : ElementId → ElementId) (t : Stage) (doc : Document)
    (text : IsOneList t.stage n doc.text) (rows : IsOneList t.stage n doc.rows) (cols : IsOneList t.stage n doc.cols) where
  stage-kept : (k r : ℕ) (sent : SentStage) (names : NamedElements) → t.stage ≤ k → StageStands k r c sent names doc
      → StageStands k r c sent (renamed_names (acked_id t.stage n) names) (ack_stage s c rename t doc)
  stage-kept k r sent names l h =
      let test = expects r c (suc (suc k)) in
      record {
        text = acknowledgement-keeps t.stage doc.text.made s c r c k (text_edit sent) doc.text.items (known-own s r c) l h.text;
        rows = acknowledgement-keeps t.stage doc.rows.made s c r c k (rows_edit sent) doc.rows.items (known-own s r c) l h.rows;
        cols = acknowledgement-keeps t.stage doc.cols.made s c r c k (cols_edit sent) doc.cols.items (known-own s r c) l h.cols;
        named =
            names-as test test (acked_id t.stage n) (list_up_to k doc.text.items) (list_up_to k (acked_list t.stage s c doc.text).items)
            (list_up_to k doc.rows.items) (list_up_to k (acked_list t.stage s c doc.rows).items)
            (list_up_to k doc.cols.items) (list_up_to k (acked_list t.stage s c doc.cols).items)
            (seen-acked t.stage n s c r k l doc.text text) (seen-acked t.stage n s c r k l doc.rows rows) (seen-acked t.stage n s c r k l doc.cols cols) sent names h.named;
      }

  all-kept : (j last : ℕ) (ts : List ToldStage) → t.stage ≤ j → Rise j last ts → AllStand c doc ts
      → AllStand c (ack_stage s c rename t doc) (map (renamed_told (acked_id t.stage n)) ts)
  all-kept j last [] l rise h = tt
  all-kept j last (u ∷ ts) l rise h =
      let here : j ≤ u.before = rise.0 in
      let above : t.stage ≤ u.before = omega arith in
      let next : t.stage ≤ suc u.before = omega arith in
      (stage-kept u.before u.ref u.sent u.stage.names above h.0, all-kept (suc u.before) last ts next rise.1 h.1)

-- ---- a renaming changes nothing else

told-renamed : (f : ElementId → ElementId) (m : ℕ) (ts : List ToldStage) → AreTold m ts → AreTold m (map (renamed_told f) ts)
told-renamed f m [] h = tt
told-renamed f m (t ∷ ts) h = (h.0, h.1, h.2, told-renamed f m ts h.3)

rise-renamed : (f : ElementId → ElementId) (j last : ℕ) (ts : List ToldStage) → Rise j last ts → Rise j last (map (renamed_told f) ts)
rise-renamed f j last [] h = h
rise-renamed f j last (t ∷ ts) h = (h.0, rise-renamed f (suc t.before) last ts h.1)

numbers-renamed : (f : ElementId → ElementId) (ts : List ToldStage) → stage_numbers (map (renamed_told f) ts) ≡ stage_numbers ts
numbers-renamed f [] = refl
numbers-renamed f (t ∷ ts) = ap (λ ks. suc t.before ∷ ks) (numbers-renamed f ts)

pub rise-weaker : (i j last : ℕ) (ts : List ToldStage) → i ≤ j → Rise j last ts → Rise i last ts
rise-weaker i j last [] l h = omega arith
rise-weaker i j last (t ∷ ts) l h =
    let here : j ≤ t.before = h.0 in
    let there : i ≤ t.before = omega arith in
    (there, h.1)

rise-least : (i j last : ℕ) (ts : List ToldStage) → i ≤ suc j → Rise j last ts → list_all (nat_le i) (stage_numbers ts) ≡ true
rise-least i j last [] l h = refl
rise-least i j last (t ∷ ts) l h =
    let here : j ≤ t.before = h.0 in
    let there : i ≤ suc t.before = omega arith in
    let next : i ≤ suc (suc t.before) = omega arith in
    rw (from_self i (suc t.before) there, rise-least i (suc t.before) last ts next h.1) refl

-- ---- the document

lowest-first : (c m n last : ℕ) (t : ToldStage) (ts : List ToldStage) (doc : Document) → Holds c m n last (t ∷ ts) doc → IsLowest (suc t.before) doc
lowest-first c m n last t ts doc h =
    let least : list_all (nat_le (suc t.before)) (stage_numbers (t ∷ ts)) ≡ true =
    rw (from_self (suc t.before) (suc t.before) (omega arith), rise-least (suc t.before) (suc t.before) last ts (omega arith) h.rising.1) refl in
    record {
      text = within-from n (suc t.before) (stage_numbers (t ∷ ts)) doc.text.items least h.text;
      rows = within-from n (suc t.before) (stage_numbers (t ∷ ts)) doc.rows.items least h.rows;
      cols = within-from n (suc t.before) (stage_numbers (t ∷ ts)) doc.cols.items least h.cols;
    }

within-list : (n s c j k m : ℕ) (f : ElementId → ElementId) (ts : List ToldStage) (xs : List ListElement) → n ≤ s → j ≡ suc k
    → list_all (is_within n (suc k ∷ stage_numbers ts)) xs ≡ true
    → list_all (is_within s (stage_numbers (map (renamed_told f) ts))) (map (acked_element j m s c) xs) ≡ true
within-list n s c j k m f ts xs l e h =
    ap (λ ks. list_all (is_within s ks) (map (acked_element j m s c) xs)) (numbers-renamed f ts)
    ∙ ap (λ i. list_all (is_within s (stage_numbers ts)) (map (acked_element i m s c) xs)) e
    ∙ within-acked n s c (suc k) m (stage_numbers ts) xs l h

order-list : (s c j k m : ℕ) (xs : List ListElement) → j ≡ suc k → list_all is_ordered xs ≡ true → list_all (is_from (suc k)) xs ≡ true
    → list_all is_ordered (map (acked_element j m s c) xs) ≡ true
order-list s c j k m xs e h g = ap (λ i. list_all is_ordered (map (acked_element i m s c) xs)) e ∙ ordered-acked (suc k) m s c xs h g

-- the acknowledgement of the first stage, whose names are those of now
pub acknowledged-effects : (c m n last s : ℕ) (t : ToldStage) (ts : List ToldStage) (doc : Document) → Holds c m n last (t ∷ ts) doc
    → sequenced_part (ack_stage s c (λ x. x) t.stage doc) ≡ effects (sequenced_part doc) s c t.ref (told_as t.sent)
acknowledged-effects c m n last s t ts doc h =
    stage-effects t.before s c t.ref (λ x. x) t.stage t.sent doc h.told.0 h.told.1 (lowest-first c m n last t ts doc h) h.sound
    (subst (λ names. StageStands t.before t.ref c t.sent names doc) (sym (names-not_renamed t.stage.names)) h.stand.0)

pub acknowledged-holds : (c m n last s : ℕ) (t : ToldStage) (ts : List ToldStage) (doc : Document) → n ≤ s → Holds c m n last (t ∷ ts) doc
    → Holds c m s last (map (renamed_told (acked_id t.stage.stage (made_before doc t.stage.sub_operation))) ts) (ack_stage s c (λ x. x) t.stage doc)
acknowledged-holds c m n last s t ts doc l h =
    let j = made_before doc t.stage.sub_operation in
    let f = acked_id t.stage.stage j in
    let e : t.stage.stage ≡ suc t.before = h.told.0 in
    let text : IsOneList t.stage.stage j doc.text = subst (λ i. IsOneList i j doc.text) (sym e)
    (one-text t.before t.ref c t.stage.sub_operation t.sent doc h.told.1 h.stand.0.text) in
    let rows : IsOneList t.stage.stage j doc.rows = subst (λ i. IsOneList i j doc.rows) (sym e)
    (one-rows t.before t.ref c t.stage.sub_operation t.sent doc h.told.1 h.stand.0.rows) in
    let cols : IsOneList t.stage.stage j doc.cols = subst (λ i. IsOneList i j doc.cols) (sym e)
    (one-cols t.before t.ref c t.stage.sub_operation t.sent doc h.told.1 h.stand.0.cols) in
    let low = lowest-first c m n last t ts doc h in
    let reached : t.stage.stage ≤ suc t.before = subst (λ i. i ≤ suc t.before) (sym e) (omega arith) in
    record {
      told = told-renamed f m ts h.told.3;
      rising = rise-renamed f 0 last ts (rise-weaker 0 (suc t.before) last ts (omega arith) h.rising.1);
      text = within-list n s c t.stage.stage t.before doc.text.made f ts doc.text.items l e h.text;
      rows = within-list n s c t.stage.stage t.before doc.rows.made f ts doc.rows.items l e h.rows;
      cols = within-list n s c t.stage.stage t.before doc.cols.made f ts doc.cols.items l e h.cols;
      text_order = order-list s c t.stage.stage t.before doc.text.made doc.text.items e h.text_order low.text;
      rows_order = order-list s c t.stage.stage t.before doc.rows.made doc.rows.items e h.rows_order low.rows;
      cols_order = order-list s c t.stage.stage t.before doc.cols.made doc.cols.items e h.cols_order low.cols;
      stand = all-kept j s c (λ x. x) t.stage doc text rows cols (suc t.before) last ts reached h.rising.1 h.stand.1;
      sound =
          subst (λ d. IsSound d)
          (sym (ack_stage-as t.before s c t.ref (λ x. x) t.stage t.sent doc e h.told.1 (lowest-first c m n last t ts doc h)
          (subst (λ names. StageStands t.before t.ref c t.sent names doc) (sym (names-not_renamed t.stage.names)) h.stand.0)))
          (sound-after s c t.ref t.sent (renamed_names (λ x. x) t.stage.names) (sequenced_part doc) h.sound);
    }
