-- Each element of a client's lists has a name of its own, pending elements too.
use Rattle.std.proofs.Common.{◌≡◌, ℕ, suc, ◌+◌, ◌≤◌, Bool, true, false, ◌||◌, nat_eq, List, [], ◌∷◌, None, refl, sym, ◌∙◌, ap, subst, arith}
use Rattle.std.specs.List.{list_all, list_any}
use Rattle.std.proofs.lemmas.Bool.Decides.{nat_tests}
use Rattle.ft_base.specs.declared.stamps.Stamp.{Stamp}
use Rattle.ft_base.specs.declared.stamps.Stamp.TheVariants.{Acked, Local}
use Rattle.ft_base.specs.Scan.{len, no_run}
use Rattle.ft_base.specs.Visibility.{has_occurred_at_stage, is_acked, is_of_stage}
use Rattle.ft_props.specs.Properties.{PropertyList}
use Rattle.ft_props.specs.Element.{ElementContent, SequencedId, PendingId, ListElement, has_id, id_of_stamp, new_elements, same_id, sequenced_elements, with_pending_annotation, with_pending_removal}
use Rattle.ft_props.specs.Steps.{is_inserted_by}
use Rattle.ft_props.proofs.AcknowledgedInsertion.{expects, list_up_to, same_nat}
use Rattle.ft_op.specs.Document.{Document}
use Rattle.ft_laws_agreement.proofs.StageEdits.{StageEdit, PutIn, TakenOut, Annotated, IsStanding, after_pending}
use Rattle.ft_laws_agreement.proofs.SentStages.{SentStage, StageStands}
use Rattle.ft_laws_agreement.proofs.AgreedStage.{len-put-add}
use Rattle.ft_laws_agreement.proofs.RangesOfLists.{len-ranges}
use Rattle.ft_laws_agreement.proofs.SideBySideStages.{none-of-stage}
use Rattle.ft_laws_agreement.proofs.SlidEnds.{Once}
use Rattle.ft_laws_agreement.proofs.ToldStages.{AllStand, ToldStage, stage_numbers}
use Rattle.ft_laws_agreement.proofs.WithinStages.{is_among, is_within}

-- ---- names of sequenced elements

other-sequenced : (m i : ℕ) (t : Stamp) → is_acked t ≡ false → same_id (SequencedId m) (id_of_stamp t i) ≡ false
other-sequenced m i (Acked s c) h = (cc)
other-sequenced m i (Local j) h = refl

pub count-sequenced : (m : ℕ) (xs : List ListElement) → len (has_id (SequencedId m)) (sequenced_elements xs) ≡ len (has_id (SequencedId m)) xs
count-sequenced m [] = refl
count-sequenced m (e ∷ xs) = grind (arith, count-sequenced m xs, other-sequenced m e.nth e.ins)

-- ---- names of a pending stage

later-name : (k m i : ℕ) (t : Stamp) → has_occurred_at_stage k t ≡ false → same_id (PendingId k m) (id_of_stamp t i) ≡ false
later-name k m i (Acked s c) h = (cc)
later-name k m i (Local j) h =
    let other : nat_eq k j ≡ false = grind (arith, nat_tests) in
    rw other refl

earlier-name : (k m i : ℕ) (t : Stamp) → has_occurred_at_stage k t ≡ true → same_id (PendingId (suc k) m) (id_of_stamp t i) ≡ false
earlier-name k m i (Acked s c) h = refl
earlier-name k m i (Local j) h =
    let other : nat_eq (suc k) j ≡ false = grind (arith, nat_tests) in
    rw other refl

count-up_to : (k m : ℕ) (xs : List ListElement) → len (has_id (PendingId k m)) (list_up_to k xs) ≡ len (has_id (PendingId k m)) xs
count-up_to k m [] = refl
count-up_to k m (e ∷ xs) = grind (arith, count-up_to k m xs, later-name k m e.nth e.ins)

none-before : (k m : ℕ) (xs : List ListElement) → len (has_id (PendingId (suc k) m)) (list_up_to k xs) ≡ 0
none-before k m [] = refl
none-before k m (e ∷ xs) = grind (arith, none-before k m xs, earlier-name k m e.nth e.ins)

new-below : (k m n : ℕ) (props : PropertyList) (items : List ElementContent) → suc m ≤ n → len (has_id (PendingId k m)) (new_elements n (Local k) [] None props items) ≡ 0
new-below k m n props [] l = refl
new-below k m n props (b ∷ bs) l =
    let here : nat_eq m n ≡ false = grind (arith, nat_tests) in
    rw (same_nat k, here) (new-below k m (n + 1) props bs (omega arith))

new-once : (k m n : ℕ) (props : PropertyList) (items : List ElementContent) → len (has_id (PendingId k m)) (new_elements n (Local k) [] None props items) ≤ 1
new-once k m n props [] = omega arith
new-once k m n props (b ∷ bs) = new-step (nat_eq m n) refl (new-once k m (n + 1) props bs) (new-below k m (n + 1) props bs)
  where
    new-step : (e : Bool) → nat_eq m n ≡ e → len (has_id (PendingId k m)) (new_elements (n + 1) (Local k) [] None props bs) ≤ 1
        → (suc m ≤ n + 1 → len (has_id (PendingId k m)) (new_elements (n + 1) (Local k) [] None props bs) ≡ 0)
        → len (has_id (PendingId k m)) (new_elements n (Local k) [] None props (b ∷ bs)) ≤ 1
    new-step true h ih none =
        let same : suc m ≤ n + 1 = grind (arith, nat_tests) in
        let rest = none same in
        rw (same_nat k, h, rest) (omega arith)
    new-step false h ih none = rw (same_nat k, h) ih

pending-once : (r c k m : ℕ) (edit : StageEdit) (xs : List ListElement) → len (has_id (PendingId k m)) xs ≡ 0 → len (has_id (PendingId k m)) (after_pending r c k edit xs) ≤ 1
pending-once r c k m (PutIn p props items) xs h =
    let count = len-put-add (has_id (PendingId k m)) (expects r c (suc k)) no_run p (new_elements 0 (Local k) [] None props items) xs in
    let new = new-once k m 0 props items in
    omega arith
pending-once r c k m (TakenOut ranges) xs h =
    let count = len-ranges (has_id (PendingId k m)) (expects r c (suc k)) (with_pending_removal k) (λ e. refl) ranges xs in
    omega arith
pending-once r c k m (Annotated ranges changes) xs h =
    let count = len-ranges (has_id (PendingId k m)) (expects r c (suc k)) (with_pending_annotation k changes) (λ e. refl) ranges xs in
    omega arith

standing-once : (k r c m : ℕ) (edit : StageEdit) (xs : List ListElement) → IsStanding k r c edit xs → len (has_id (PendingId (suc k) m)) xs ≤ 1
standing-once k r c m edit xs h =
    let made = sym (count-up_to (suc k) m xs) ∙ ap (len (has_id (PendingId (suc k) m))) h.made in
    let one = pending-once r c (suc k) m edit (list_up_to k xs) (none-before k m xs) in
    subst (λ i. i ≤ 1) (sym made) one

other-stage : (k m i : ℕ) (t : Stamp) → is_of_stage k t ≡ false → same_id (PendingId k m) (id_of_stamp t i) ≡ false
other-stage k m i (Acked s c) h = refl
other-stage k m i (Local j) h =
    let other : nat_eq k j ≡ false = grind (arith, nat_tests) in
    rw other refl

absent-once : (k m : ℕ) (xs : List ListElement) → list_any (is_inserted_by k) xs ≡ false → len (has_id (PendingId k m)) xs ≡ 0
absent-once k m [] h = refl
absent-once k m (e ∷ xs) h = grind (arith, absent-once k m xs, other-stage k m e.nth e.ins)

-- ---- all names

module _ (c : ℕ) (doc : Document) (list : Document → List ListElement) (edit : SentStage → StageEdit)
    (stands : (t : ToldStage) → StageStands t.before t.ref c t.sent t.stage.names doc → IsStanding t.before t.ref c (edit t.sent) (list doc)) where
  present-once : (k m : ℕ) (ts : List ToldStage) → AllStand c doc ts → is_among (stage_numbers ts) k ≡ true → len (has_id (PendingId k m)) (list doc) ≤ 1
  present-once k m [] h g = (cc)
  present-once k m (t ∷ ts) h g = present-step (is_among (stage_numbers ts) k) (nat_eq k (suc t.before)) refl g (present-once k m ts h.1)
    where
      present-step : (there here : Bool) → nat_eq k (suc t.before) ≡ here → here || there ≡ true
          → (there ≡ true → len (has_id (PendingId k m)) (list doc) ≤ 1) → len (has_id (PendingId k m)) (list doc) ≤ 1
      present-step there true e f ih =
          let same : suc t.before ≡ k = grind (arith, nat_tests) in
          subst (λ i. len (has_id (PendingId i m)) (list doc) ≤ 1) same (standing-once t.before t.ref c m (edit t.sent) (list doc) (stands t h.0))
      present-step there false e f ih = ih f

  -- each name stands once in a list of a client's document
  pub names-once : (n : ℕ) (ts : List ToldStage) → list_all (is_within n (stage_numbers ts)) (list doc) ≡ true → AllStand c doc ts
      → Once (sequenced_elements (list doc)) → Once (list doc)
  names-once n ts w h once (SequencedId m) = subst (λ i. i ≤ 1) (count-sequenced m (list doc)) (once (SequencedId m))
  names-once n ts w h once (PendingId k m) = either (is_among (stage_numbers ts) k) refl
    where
      either : (b : Bool) → is_among (stage_numbers ts) k ≡ b → len (has_id (PendingId k m)) (list doc) ≤ 1
      either true e = present-once k m ts h e
      either false e =
          let none = absent-once k m (list doc) (none-of-stage n k (stage_numbers ts) (list doc) e w) in
          omega arith
