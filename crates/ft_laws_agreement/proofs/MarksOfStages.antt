-- What is pending on the elements of a client's list is of pending stages of the right kind, in order, and of known numbers.
use Rattle.std.proofs.Common.{◌≡◌, ℕ, zero, suc, ◌<◌, Bool, true, false, cond, not, ◌&&◌, ◌||◌, nat_eq, nat_le, nat_lt, List, [], ◌∷◌, Option, Some, None, map, replicate, refl, sym, ◌∙◌, ap, arith}
use Rattle.std.specs.List.{list_all, list_any}
use Rattle.std.proofs.lemmas.Bool.Decides.{nat_tests}
use Rattle.ft_base.proofs.Booleans.{all_four, both}
use Rattle.ft_base.specs.declared.stamps.Stamp.{Stamp}
use Rattle.ft_base.specs.declared.stamps.Stamp.TheVariants.{Acked, Local}
use Rattle.ft_base.specs.Visibility.{is_acked, is_of_stage}
use Rattle.ft_op.specs.declared.operations.BaseOp.TheVariants.{Insert, Remove, Annotate}
use Rattle.ft_op.specs.declared.operations.CellOp.TheVariants.{SpliceIn, SpliceOut, Set}
use Rattle.ft_op.specs.declared.operations.Target.TheVariants.{Rows, Cols}
use Rattle.ft_op.specs.declared.operations.TextOp.{TextOp}
use Rattle.ft_props.specs.declared.properties.Changes.{Changes}
use Rattle.ft_props.specs.Overlay.{IsBelowStages, StagesRise}
use Rattle.ft_props.specs.Element.{GridUnit, ListElement, removal_stamp}
use Rattle.ft_props.specs.Steps.{is_annotated_by, is_inserted_by, is_removed_by}
use Rattle.ft_props.proofs.AcknowledgedInsertion.{element_up_to, same_nat}
use Rattle.ft_props.proofs.PlacedInsertion.{is_upto}
use Rattle.ft_op.specs.Operation.{OnGrid, OnIntervals, OnText, SubOperation}
use Rattle.ft_op.specs.Document.{Document}
use Rattle.ft_op.specs.Stages.{Stage}
use Rattle.ft_laws_agreement.proofs.StageEdits.{StageEdit, PutIn, TakenOut, Annotated, IsStanding}
use Rattle.ft_laws_agreement.proofs.SentStages.{SentStage, StageStands, Tells, cols_edit, placed, rows_edit, text_edit}
use Rattle.ft_laws_agreement.specs.Reconnecting.{has_insertion_of, has_marks_of, has_removal_of, has_some, inserts_text, is_stage_of, removes_text}
use Rattle.ft_laws_agreement.specs.Sequencing.{Each, annotates_text, has_none, inserts_in, is_known, is_known_stamp, is_marked_later, is_removed_after, no_kind, removes_in}
use Rattle.ft_laws_agreement.proofs.ToldStages.{AllStand, AreTold, ToldStage, stage_numbers}
use Rattle.ft_laws_agreement.proofs.WithinStages.{is_among, is_numbered, is_within, mark_within, stamp_within}
use Rattle.ft_laws_agreement.proofs.OrderedMarks.{insertion_stage, is_ordered, is_unremoved_pending, rises_from, parts}
use Rattle.ft_laws_agreement.proofs.OwnNames.{all-weaker, none-passes}
use Rattle.ft_laws_agreement.proofs.AcknowledgedDocument.{count_put, standing-count}
use Rattle.ft_laws_agreement.proofs.SideBySideStages.{none-counted, none-of-stage}
use Rattle.ft_laws_agreement.proofs.RebuiltStages.{filtered-same, is_changing, is_taking, is_unchanged_by, is_unmarked_by, lifted, unchanged-standing, unmarked-same, unmarked-standing}
use Rattle.ft_laws_agreement.proofs.GoneStages.{late-changes as late-annotation, late-removal}
use Rattle.ft_laws_agreement.proofs.NumberTests.{own-least, same_number}
use Rattle.ft_props.proofs.RebuiltList.{or_right}

-- ---- facts of each element of a list

contradicted : (b : Bool) → b ≡ true → b ≡ false → ⊥
contradicted true h g = (cc)
contradicted false h g = (cc)

module _ {A : Type 0} where
  -- an element is in a list: each test that it passes is passed by some element there
  abbrev pub IsIn : List A → A → Type 0
  IsIn xs x = (p : A → Bool) → p x ≡ true → list_any p xs ≡ true

  first-in : (y : A) (ys : List A) → IsIn (y ∷ ys) y
  first-in y ys p e = ap (λ b. b || list_any p ys) e

  later-in : (x y : A) (ys : List A) → IsIn ys x → IsIn (y ∷ ys) x
  later-in x y ys m p e = or_right (p y) (list_any p ys) (m p e)

  pub all-in : (test : A → Bool) (xs : List A) → ((x : A) → IsIn xs x → test x ≡ true) → list_all test xs ≡ true
  all-in test [] h = refl
  all-in test (y ∷ ys) h = rw (h y (first-in y ys), all-in test ys (λ x m. h x (later-in x y ys m))) refl

  none-fails : (test : A → Bool) (xs : List A) → list_all test xs ≡ true → list_any (λ x. not (test x)) xs ≡ false
  none-fails test [] h = refl
  none-fails test (x ∷ xs) h = grind (arith, none-fails test xs)

  pub passes-in : (test : A → Bool) (xs : List A) (x : A) → list_all test xs ≡ true → IsIn xs x → test x ≡ true
  passes-in test xs x h m = either (test x) refl
    where
      either : (b : Bool) → test x ≡ b → b ≡ true
      either true e = refl
      either false e = absurd (cc (m (λ y. not (test y)) (ap not e), none-fails test xs h))

  pub all-both : (P Q : A → Bool) (xs : List A) → list_all P xs ≡ true → list_all Q xs ≡ true → list_all (λ x. P x && Q x) xs ≡ true
  all-both P Q [] h g = refl
  all-both P Q (x ∷ xs) h g = grind (arith, all-both P Q xs)

-- ---- pending changes of rising stages

rises-above : (l i : ℕ) (pending : List (ℕ × Changes)) → nat_le l i ≡ true → rises_from i pending ≡ true → list_all (λ q. nat_lt l q.0) pending ≡ true
rises-above l i [] e h = refl
rises-above l i (p ∷ pending) e h =
    let q = both (nat_lt i p.0) (rises_from p.0 pending) h in
    let here : nat_lt l p.0 ≡ true = grind (arith, nat_tests) in
    let next : nat_le l p.0 ≡ true = grind (arith, nat_tests) in
    rw (here, rises-above l p.0 pending next q.1) refl

below-all : (l : ℕ) (pending : List (ℕ × Changes)) → list_all (λ q. nat_lt l q.0) pending ≡ true → IsBelowStages l pending
below-all l [] h = tt
below-all l (p ∷ pending) h =
    let q = both (nat_lt l p.0) (list_all (λ q. nat_lt l q.0) pending) h in
    (less l p.0 q.0, below-all l pending q.1)
  where
    less : (i j : ℕ) → nat_lt i j ≡ true → i < j
    less i j e = grind (arith, nat_tests)

rises-rise : (i : ℕ) (pending : List (ℕ × Changes)) → rises_from i pending ≡ true → StagesRise pending
rises-rise i [] h = tt
rises-rise i (p ∷ pending) h =
    let q = both (nat_lt i p.0) (rises_from p.0 pending) h in
    (below-all p.0 pending (rises-above p.0 p.0 pending (own-least p.0) q.1), rises-rise p.0 pending q.1)

-- what is pending on a pending element is of later stages
pub ordered-later : (e : ListElement) → is_ordered e ≡ true → is_marked_later e ≡ true
ordered-later e h = let p = parts e h in by_stamp e.ins e.dels e.removal_stage e.pending p.0 p.2
  where
    by_stamp : (t : Stamp) (dels : List Stamp) (m : Option ℕ) (pending : List (ℕ × Changes)) → rises_from (insertion_stage t) pending ≡ true → is_unremoved_pending t dels m ≡ true
        → elim t [ Acked s c ↦ true | Local k ↦ has_none dels && is_removed_after k m && list_all (λ q. nat_lt k q.0) pending ] ≡ true
    by_stamp (Acked s c) dels m pending r u = refl
    by_stamp (Local j) [] None pending r u = rises-above j j pending (own-least j) r
    by_stamp (Local j) [] (Some i) pending r u = rw (u, rises-above j j pending (own-least j) r) refl
    by_stamp (Local j) (t ∷ dels) m pending r u = (cc)

pub ordered-rising : (xs : List ListElement) → list_all is_ordered xs ≡ true → Each (λ e. StagesRise e.pending) xs
ordered-rising [] h = tt
ordered-rising (e ∷ xs) h =
    let p = both (is_ordered e) (list_all is_ordered xs) h in
    (rises-rise (insertion_stage e.ins) e.pending (parts e p.0).0, ordered-rising xs p.1)

-- ---- known numbers

pub within-known : (n : ℕ) (ks : List ℕ) (e : ListElement) → is_within n ks e ≡ true → is_known n e ≡ true
within-known n ks e h =
    let p = all_four (stamp_within n ks e.ins) (list_all (is_numbered n) e.dels) (mark_within ks e.removal_stage) (list_all (λ q. is_among ks q.0) e.pending) h in
    rw (stamp e.ins p.0, all-weaker (is_numbered n) (is_known_stamp n) removal e.dels p.1) refl
  where
    stamp : (t : Stamp) → stamp_within n ks t ≡ true → is_known_stamp n t ≡ true
    stamp (Acked s c) g = g
    stamp (Local j) g = refl

    removal : (t : Stamp) → is_numbered n t ≡ true → is_known_stamp n t ≡ true
    removal (Acked s c) g = g
    removal (Local j) g = refl

-- ---- the kinds of the edits of one list

-- whether the edit puts something in
abbrev pub is_putting : StageEdit → Bool
is_putting (PutIn p props items) = has_some items
is_putting (TakenOut ranges) = false
is_putting (Annotated ranges changes) = false

-- the sub-operations of these kinds, and no others, change the list in these ways
pub record AreKindsOf (inserts removes annotates : SubOperation → Bool) (edit : SentStage → StageEdit) : Type 0 where
  pub puts : (o : SubOperation) (p q : ℕ) (ranges : List (ℕ × ℕ)) (other : TextOp) → is_putting (edit (placed p q ranges other o)) ≡ true → inserts o ≡ true
  pub takes : (o : SubOperation) (p q : ℕ) (ranges : List (ℕ × ℕ)) (other : TextOp) → is_taking (edit (placed p q ranges other o)) ≡ true → removes o ≡ true
  pub changes : (o : SubOperation) (p q : ℕ) (ranges : List (ℕ × ℕ)) (other : TextOp) → is_changing (edit (placed p q ranges other o)) ≡ true → annotates o ≡ true

puts-text : (o : SubOperation) (p q : ℕ) (ranges : List (ℕ × ℕ)) (other : TextOp) → is_putting (text_edit (placed p q ranges other o)) ≡ true → inserts_text o ≡ true
puts-text (OnText (Insert i seg props)) p q ranges other h = h
puts-text (OnText (Remove i j)) p q ranges other h = (cc)
puts-text (OnText (Annotate i j changes)) p q ranges other h = (cc)
puts-text (OnIntervals op) p q ranges other h = (cc)
puts-text (OnGrid (SpliceIn target i count)) p q ranges other h = (cc)
puts-text (OnGrid (SpliceOut target i j)) p q ranges other h = (cc)
puts-text (OnGrid (Set i j value)) p q ranges other h = (cc)

takes-text : (o : SubOperation) (p q : ℕ) (ranges : List (ℕ × ℕ)) (other : TextOp) → is_taking (text_edit (placed p q ranges other o)) ≡ true → removes_text o ≡ true
takes-text (OnText (Insert i seg props)) p q ranges other h = (cc)
takes-text (OnText (Remove i j)) p q ranges other h = refl
takes-text (OnText (Annotate i j changes)) p q ranges other h = (cc)
takes-text (OnIntervals op) p q ranges other h = (cc)
takes-text (OnGrid (SpliceIn target i count)) p q ranges other h = (cc)
takes-text (OnGrid (SpliceOut target i j)) p q ranges other h = (cc)
takes-text (OnGrid (Set i j value)) p q ranges other h = (cc)

changes-text : (o : SubOperation) (p q : ℕ) (ranges : List (ℕ × ℕ)) (other : TextOp) → is_changing (text_edit (placed p q ranges other o)) ≡ true → annotates_text o ≡ true
changes-text (OnText (Insert i seg props)) p q ranges other h = (cc)
changes-text (OnText (Remove i j)) p q ranges other h = (cc)
changes-text (OnText (Annotate i j changes)) p q ranges other h = refl
changes-text (OnIntervals op) p q ranges other h = (cc)
changes-text (OnGrid (SpliceIn target i count)) p q ranges other h = (cc)
changes-text (OnGrid (SpliceOut target i j)) p q ranges other h = (cc)
changes-text (OnGrid (Set i j value)) p q ranges other h = (cc)

pub text-kinds : AreKindsOf inserts_text removes_text annotates_text text_edit
text-kinds = record { puts = puts-text; takes = takes-text; changes = changes-text }

some-units : (count : ℕ) → has_some (replicate count GridUnit) ≡ true → not (nat_eq count 0) ≡ true
some-units zero h = (cc)
some-units (suc count) h = grind (arith, nat_tests)

puts-rows : (o : SubOperation) (p q : ℕ) (ranges : List (ℕ × ℕ)) (other : TextOp) → is_putting (rows_edit (placed p q ranges other o)) ≡ true → inserts_in Rows o ≡ true
puts-rows (OnText (Insert i seg props)) p q ranges other h = (cc)
puts-rows (OnText (Remove i j)) p q ranges other h = (cc)
puts-rows (OnText (Annotate i j changes)) p q ranges other h = (cc)
puts-rows (OnIntervals op) p q ranges other h = (cc)
puts-rows (OnGrid (SpliceIn Rows i count)) p q ranges other h = some-units count h
puts-rows (OnGrid (SpliceIn Cols i count)) p q ranges other h = (cc)
puts-rows (OnGrid (SpliceOut Rows i j)) p q ranges other h = (cc)
puts-rows (OnGrid (SpliceOut Cols i j)) p q ranges other h = (cc)
puts-rows (OnGrid (Set i j value)) p q ranges other h = (cc)

takes-rows : (o : SubOperation) (p q : ℕ) (ranges : List (ℕ × ℕ)) (other : TextOp) → is_taking (rows_edit (placed p q ranges other o)) ≡ true → removes_in Rows o ≡ true
takes-rows (OnText (Insert i seg props)) p q ranges other h = (cc)
takes-rows (OnText (Remove i j)) p q ranges other h = (cc)
takes-rows (OnText (Annotate i j changes)) p q ranges other h = (cc)
takes-rows (OnIntervals op) p q ranges other h = (cc)
takes-rows (OnGrid (SpliceIn Rows i count)) p q ranges other h = (cc)
takes-rows (OnGrid (SpliceIn Cols i count)) p q ranges other h = (cc)
takes-rows (OnGrid (SpliceOut Rows i j)) p q ranges other h = refl
takes-rows (OnGrid (SpliceOut Cols i j)) p q ranges other h = (cc)
takes-rows (OnGrid (Set i j value)) p q ranges other h = (cc)

changes-rows : (o : SubOperation) (p q : ℕ) (ranges : List (ℕ × ℕ)) (other : TextOp) → is_changing (rows_edit (placed p q ranges other o)) ≡ true → no_kind o ≡ true
changes-rows (OnText (Insert i seg props)) p q ranges other h = (cc)
changes-rows (OnText (Remove i j)) p q ranges other h = (cc)
changes-rows (OnText (Annotate i j changes)) p q ranges other h = (cc)
changes-rows (OnIntervals op) p q ranges other h = (cc)
changes-rows (OnGrid (SpliceIn Rows i count)) p q ranges other h = (cc)
changes-rows (OnGrid (SpliceIn Cols i count)) p q ranges other h = (cc)
changes-rows (OnGrid (SpliceOut Rows i j)) p q ranges other h = (cc)
changes-rows (OnGrid (SpliceOut Cols i j)) p q ranges other h = (cc)
changes-rows (OnGrid (Set i j value)) p q ranges other h = (cc)

pub rows-kinds : AreKindsOf (inserts_in Rows) (removes_in Rows) no_kind rows_edit
rows-kinds = record { puts = puts-rows; takes = takes-rows; changes = changes-rows }

puts-cols : (o : SubOperation) (p q : ℕ) (ranges : List (ℕ × ℕ)) (other : TextOp) → is_putting (cols_edit (placed p q ranges other o)) ≡ true → inserts_in Cols o ≡ true
puts-cols (OnText (Insert i seg props)) p q ranges other h = (cc)
puts-cols (OnText (Remove i j)) p q ranges other h = (cc)
puts-cols (OnText (Annotate i j changes)) p q ranges other h = (cc)
puts-cols (OnIntervals op) p q ranges other h = (cc)
puts-cols (OnGrid (SpliceIn Cols i count)) p q ranges other h = some-units count h
puts-cols (OnGrid (SpliceIn Rows i count)) p q ranges other h = (cc)
puts-cols (OnGrid (SpliceOut Rows i j)) p q ranges other h = (cc)
puts-cols (OnGrid (SpliceOut Cols i j)) p q ranges other h = (cc)
puts-cols (OnGrid (Set i j value)) p q ranges other h = (cc)

takes-cols : (o : SubOperation) (p q : ℕ) (ranges : List (ℕ × ℕ)) (other : TextOp) → is_taking (cols_edit (placed p q ranges other o)) ≡ true → removes_in Cols o ≡ true
takes-cols (OnText (Insert i seg props)) p q ranges other h = (cc)
takes-cols (OnText (Remove i j)) p q ranges other h = (cc)
takes-cols (OnText (Annotate i j changes)) p q ranges other h = (cc)
takes-cols (OnIntervals op) p q ranges other h = (cc)
takes-cols (OnGrid (SpliceIn Rows i count)) p q ranges other h = (cc)
takes-cols (OnGrid (SpliceIn Cols i count)) p q ranges other h = (cc)
takes-cols (OnGrid (SpliceOut Cols i j)) p q ranges other h = refl
takes-cols (OnGrid (SpliceOut Rows i j)) p q ranges other h = (cc)
takes-cols (OnGrid (Set i j value)) p q ranges other h = (cc)

changes-cols : (o : SubOperation) (p q : ℕ) (ranges : List (ℕ × ℕ)) (other : TextOp) → is_changing (cols_edit (placed p q ranges other o)) ≡ true → no_kind o ≡ true
changes-cols (OnText (Insert i seg props)) p q ranges other h = (cc)
changes-cols (OnText (Remove i j)) p q ranges other h = (cc)
changes-cols (OnText (Annotate i j changes)) p q ranges other h = (cc)
changes-cols (OnIntervals op) p q ranges other h = (cc)
changes-cols (OnGrid (SpliceIn Rows i count)) p q ranges other h = (cc)
changes-cols (OnGrid (SpliceIn Cols i count)) p q ranges other h = (cc)
changes-cols (OnGrid (SpliceOut Rows i j)) p q ranges other h = (cc)
changes-cols (OnGrid (SpliceOut Cols i j)) p q ranges other h = (cc)
changes-cols (OnGrid (Set i j value)) p q ranges other h = (cc)

pub cols-kinds : AreKindsOf (inserts_in Cols) (removes_in Cols) no_kind cols_edit
cols-kinds = record { puts = puts-cols; takes = takes-cols; changes = changes-cols }

-- ---- no element without an edit of the kind

nothing-put : (edit : StageEdit) → is_putting edit ≡ false → count_put edit ≡ 0
nothing-put (PutIn p props []) h = refl
nothing-put (PutIn p props (b ∷ bs)) h = (cc)
nothing-put (TakenOut ranges) h = refl
nothing-put (Annotated ranges changes) h = refl

none-put : (k r c : ℕ) (edit : StageEdit) (xs : List ListElement) → is_putting edit ≡ false → IsStanding k r c edit xs → list_any (is_inserted_by (suc k)) xs ≡ false
none-put k r c edit xs h s = none-counted (is_inserted_by (suc k)) xs (standing-count k r c edit xs s ∙ nothing-put edit h)

removal-chosen : (k : ℕ) (e : ListElement) → cond (is_upto k e) (is_unmarked_by k e) true && is_ordered e ≡ true → is_removed_by k e ≡ false
removal-chosen k e h =
    let p = both (cond (is_upto k e) (is_unmarked_by k e) true) (is_ordered e) h in
    step (is_upto k e) refl p.0 (parts e p.1).2
  where
    step : (b : Bool) → is_upto k e ≡ b → cond b (is_unmarked_by k e) true ≡ true → is_unremoved_pending e.ins e.dels e.removal_stage ≡ true → is_removed_by k e ≡ false
    step true f g u = negated (is_removed_by k e) g
      where
        negated : (b : Bool) → not b ≡ true → b ≡ false
        negated true h = (cc)
        negated false h = refl
    step false f g u = late-removal k e.ins e.dels e.removal_stage f u

none-taken : (k r c : ℕ) (edit : StageEdit) (xs : List ListElement) → is_taking edit ≡ false → list_all is_ordered xs ≡ true → IsStanding k r c edit xs
    → list_any (is_removed_by (suc k)) xs ≡ false
none-taken k r c edit xs h o s =
    none-passes (λ e. cond (is_upto (suc k) e) (is_unmarked_by (suc k) e) true && is_ordered e) (is_removed_by (suc k)) (removal-chosen (suc k)) xs
    (all-both (λ e. cond (is_upto (suc k) e) (is_unmarked_by (suc k) e) true) is_ordered xs
    (lifted (is_unmarked_by (suc k)) (suc k) (unmarked-same (suc k)) xs (unmarked-standing k r c edit xs h s)) o)

late-changes : (k j : ℕ) (pending : List (ℕ × Changes)) → nat_le j k ≡ false → list_all (λ q. nat_lt j q.0) pending ≡ true → list_any (λ p. nat_eq p.0 k) pending ≡ false
late-changes k j [] h g = refl
late-changes k j (p ∷ pending) h g = grind (arith, nat_tests, late-changes k j pending)

annotation-chosen : (k : ℕ) (e : ListElement) → cond (is_upto k e) (is_unchanged_by k e) true && is_ordered e ≡ true → is_annotated_by k e ≡ false
annotation-chosen k e h =
    let p = both (cond (is_upto k e) (is_unchanged_by k e) true) (is_ordered e) h in
    step (is_upto k e) refl p.0 (parts e p.1).0
  where
    step : (b : Bool) → is_upto k e ≡ b → cond b (is_unchanged_by k e) true ≡ true → rises_from (insertion_stage e.ins) e.pending ≡ true → is_annotated_by k e ≡ false
    step true f g u = negated (is_annotated_by k e) g
      where
        negated : (b : Bool) → not b ≡ true → b ≡ false
        negated true h = (cc)
        negated false h = refl
    step false f g u = late-annotation k e.ins e.pending f u

unchanged-same : (k : ℕ) (e : ListElement) → is_unchanged_by k (element_up_to k e) ≡ is_unchanged_by k e
unchanged-same k e = ap not (filtered-same k e.pending)

none-changed : (k r c : ℕ) (edit : StageEdit) (xs : List ListElement) → is_changing edit ≡ false → list_all is_ordered xs ≡ true → IsStanding k r c edit xs
    → list_any (is_annotated_by (suc k)) xs ≡ false
none-changed k r c edit xs h o s =
    none-passes (λ e. cond (is_upto (suc k) e) (is_unchanged_by (suc k) e) true && is_ordered e) (is_annotated_by (suc k)) (annotation-chosen (suc k)) xs
    (all-both (λ e. cond (is_upto (suc k) e) (is_unchanged_by (suc k) e) true) is_ordered xs
    (lifted (is_unchanged_by (suc k)) (suc k) (unchanged-same (suc k)) xs (unchanged-standing k r c edit xs h s)) o)

-- ---- what is pending is of these stages

-- the stages as their client has them
abbrev pub bare_stages : List ToldStage → List Stage
bare_stages ts = map (λ g. g.stage) ts

other-number : (ks : List ℕ) (j k : ℕ) → is_among ks j ≡ true → is_among ks k ≡ false → nat_eq j k ≡ false
other-number ks j k h g = either (nat_eq j k) refl
  where
    either : (b : Bool) → nat_eq j k ≡ b → b ≡ false
    either true e = sym h ∙ ap (is_among ks) (same_number j k e) ∙ g
    either false e = refl

module _ (n : ℕ) (ks : List ℕ) where
  within-parts : (e : ListElement) → is_within n ks e ≡ true → (stamp_within n ks e.ins ≡ true) × (list_all (is_numbered n) e.dels ≡ true)
      × (mark_within ks e.removal_stage ≡ true) × (list_all (λ p. is_among ks p.0) e.pending ≡ true)
  within-parts e h = all_four (stamp_within n ks e.ins) (list_all (is_numbered n) e.dels) (mark_within ks e.removal_stage) (list_all (λ p. is_among ks p.0) e.pending) h

  unmarked-among : (k : ℕ) → is_among ks k ≡ false → (e : ListElement) → is_within n ks e ≡ true → is_removed_by k e ≡ false
  unmarked-among k a e h = by_mark e.removal_stage (within-parts e h).2
    where
      by_mark : (m : Option ℕ) → mark_within ks m ≡ true → list_any (is_of_stage k) (removal_stamp m) ≡ false
      by_mark None g = refl
      by_mark (Some j) g = rw (other-number ks j k g a) refl

  unchanged-among : (k : ℕ) → is_among ks k ≡ false → (e : ListElement) → is_within n ks e ≡ true → is_annotated_by k e ≡ false
  unchanged-among k a e h = none-passes (λ p. is_among ks p.0) (λ p. nat_eq p.0 k) (λ p g. other-number ks p.0 k g a) e.pending (within-parts e h).3

  among-if : (k : ℕ) (here : Bool) → (is_among ks k ≡ false → here ≡ false) → here ≡ true → is_among ks k ≡ true
  among-if k here f h = either (is_among ks k) refl
    where
      either : (b : Bool) → is_among ks k ≡ b → b ≡ true
      either true e = refl
      either false e = absurd (cc (f e))

  module _ (xs : List ListElement) (within : list_all (is_within n ks) xs ≡ true) where
    pub among-inserted : (k : ℕ) → list_any (is_inserted_by k) xs ≡ true → is_among ks k ≡ true
    among-inserted k h = among-if k (list_any (is_inserted_by k) xs) (λ a. none-of-stage n k ks xs a within) h

    among-removed : (k : ℕ) → list_any (is_removed_by k) xs ≡ true → is_among ks k ≡ true
    among-removed k h = among-if k (list_any (is_removed_by k) xs) (λ a. none-passes (is_within n ks) (is_removed_by k) (unmarked-among k a) xs within) h

    among-annotated : (k : ℕ) → list_any (is_annotated_by k) xs ≡ true → is_among ks k ≡ true
    among-annotated k h = among-if k (list_any (is_annotated_by k) xs) (λ a. none-passes (is_within n ks) (is_annotated_by k) (unchanged-among k a) xs within) h

module _ (c m n : ℕ) (doc : Document) (list : Document → List ListElement) (edit : SentStage → StageEdit)
    (stands : (t : ToldStage) → StageStands t.before t.ref c t.sent t.stage.names doc → IsStanding t.before t.ref c (edit t.sent) (list doc)) where
  of-kind : (kind : SubOperation → Bool) (k : ℕ) → ((t : ToldStage) → Tells t.stage.sub_operation t.sent
      → StageStands t.before t.ref c t.sent t.stage.names doc → suc t.before ≡ k → kind t.stage.sub_operation ≡ true)
      → (ts : List ToldStage) → AreTold m ts → AllStand c doc ts → is_among (stage_numbers ts) k ≡ true → is_stage_of kind (bare_stages ts) k ≡ true
  of-kind kind k f [] told h g = (cc)
  of-kind kind k f (t ∷ ts) told h g = step (nat_eq k (suc t.before)) refl g (of-kind kind k f ts told.3 h.1)
    where
      step : (b : Bool) → nat_eq k (suc t.before) ≡ b → b || is_among (stage_numbers ts) k ≡ true
          → (is_among (stage_numbers ts) k ≡ true → is_stage_of kind (bare_stages ts) k ≡ true)
          → (nat_eq t.stage.stage k && kind t.stage.sub_operation) || is_stage_of kind (bare_stages ts) k ≡ true
      step true e g ih =
          let same : suc t.before ≡ k = sym (same_number k (suc t.before) e) in
          let here : nat_eq t.stage.stage k ≡ true = ap (λ i. nat_eq i k) (told.0 ∙ same) ∙ same_nat k in
          rw (here, f t told.1 h.0 same) refl
      step false e g ih = or_right (nat_eq t.stage.stage k && kind t.stage.sub_operation) (is_stage_of kind (bare_stages ts) k) (ih g)

  module _ (inserts removes annotates : SubOperation → Bool) (kinds : AreKindsOf inserts removes annotates edit) (ts : List ToldStage) (told : AreTold m ts)
      (stand : AllStand c doc ts)
      (within : list_all (is_within n (stage_numbers ts)) (list doc) ≡ true) (ordered : list_all is_ordered (list doc) ≡ true) where
    inserted-kind : (k : ℕ) → list_any (is_inserted_by k) (list doc) ≡ true → is_stage_of inserts (bare_stages ts) k ≡ true
    inserted-kind k h = of-kind inserts k here ts told stand (among-inserted n (stage_numbers ts) (list doc) within k h)
      where
        here : (t : ToldStage) → Tells t.stage.sub_operation t.sent → StageStands t.before t.ref c t.sent t.stage.names doc → suc t.before ≡ k
            → inserts t.stage.sub_operation ≡ true
        here t tells s e = either (is_putting (edit t.sent)) refl
          where
            either : (b : Bool) → is_putting (edit t.sent) ≡ b → inserts t.stage.sub_operation ≡ true
            either true f = kinds.puts t.stage.sub_operation tells.place.first tells.place.second tells.place.ranges tells.place.other
                (ap (λ x. is_putting (edit x)) (sym tells.place.made) ∙ f)
            either false f = absurd (contradicted (list_any (is_inserted_by k) (list doc)) h
                (ap (λ i. list_any (is_inserted_by i) (list doc)) (sym e) ∙ none-put t.before t.ref c (edit t.sent) (list doc) f (stands t s)))

    removed-kind : (k : ℕ) → list_any (is_removed_by k) (list doc) ≡ true → is_stage_of removes (bare_stages ts) k ≡ true
    removed-kind k h = of-kind removes k here ts told stand (among-removed n (stage_numbers ts) (list doc) within k h)
      where
        here : (t : ToldStage) → Tells t.stage.sub_operation t.sent → StageStands t.before t.ref c t.sent t.stage.names doc → suc t.before ≡ k
            → removes t.stage.sub_operation ≡ true
        here t tells s e = either (is_taking (edit t.sent)) refl
          where
            either : (b : Bool) → is_taking (edit t.sent) ≡ b → removes t.stage.sub_operation ≡ true
            either true f = kinds.takes t.stage.sub_operation tells.place.first tells.place.second tells.place.ranges tells.place.other
                (ap (λ x. is_taking (edit x)) (sym tells.place.made) ∙ f)
            either false f = absurd (contradicted (list_any (is_removed_by k) (list doc)) h
                (ap (λ i. list_any (is_removed_by i) (list doc)) (sym e) ∙ none-taken t.before t.ref c (edit t.sent) (list doc) f ordered (stands t s)))

    annotated-kind : (k : ℕ) → list_any (is_annotated_by k) (list doc) ≡ true → is_stage_of annotates (bare_stages ts) k ≡ true
    annotated-kind k h = of-kind annotates k here ts told stand (among-annotated n (stage_numbers ts) (list doc) within k h)
      where
        here : (t : ToldStage) → Tells t.stage.sub_operation t.sent → StageStands t.before t.ref c t.sent t.stage.names doc → suc t.before ≡ k
            → annotates t.stage.sub_operation ≡ true
        here t tells s e = either (is_changing (edit t.sent)) refl
          where
            either : (b : Bool) → is_changing (edit t.sent) ≡ b → annotates t.stage.sub_operation ≡ true
            either true f = kinds.changes t.stage.sub_operation tells.place.first tells.place.second tells.place.ranges tells.place.other
                (ap (λ x. is_changing (edit x)) (sym tells.place.made) ∙ f)
            either false f = absurd (contradicted (list_any (is_annotated_by k) (list doc)) h
                (ap (λ i. list_any (is_annotated_by i) (list doc)) (sym e) ∙ none-changed t.before t.ref c (edit t.sent) (list doc) f ordered (stands t s)))

    acked-removal : (t : Stamp) → is_numbered n t ≡ true → is_acked t ≡ true
    acked-removal (Acked s d) h = refl
    acked-removal (Local j) h = (cc)

    -- marks are of stages of the right kind
    pub marks-of_kind : list_all (has_marks_of inserts removes (bare_stages ts)) (list doc) ≡ true
    marks-of_kind = all-in (has_marks_of inserts removes (bare_stages ts)) (list doc) element
      where
        insertion : (e : ListElement) → IsIn (list doc) e → (t : Stamp) → e.ins ≡ t → has_insertion_of inserts (bare_stages ts) t ≡ true
        insertion e i (Acked s d) h = refl
        insertion e i (Local k) h = inserted-kind k (i (is_inserted_by k) (ap (is_of_stage k) h ∙ same_nat k))

        removal : (e : ListElement) → IsIn (list doc) e → (o : Option ℕ) → e.removal_stage ≡ o → has_removal_of removes (bare_stages ts) o ≡ true
        removal e i None h = refl
        removal e i (Some k) h = removed-kind k (i (is_removed_by k) (ap (λ o. list_any (is_of_stage k) (removal_stamp o)) h ∙ ap (λ b. b || false) (same_nat k)))

        element : (e : ListElement) → IsIn (list doc) e → has_marks_of inserts removes (bare_stages ts) e ≡ true
        element e i =
            let p = within-parts n (stage_numbers ts) e (passes-in (is_within n (stage_numbers ts)) (list doc) e within i) in
            rw (insertion e i e.ins refl, removal e i e.removal_stage refl, all-weaker (is_numbered n) is_acked acked-removal e.dels p.1) refl

    -- and so are changes
    pub changes-of_kind : list_all (λ e. list_all (λ q. is_stage_of annotates (bare_stages ts) q.0) e.pending) (list doc) ≡ true
    changes-of_kind =
        all-in (λ e. list_all (λ q. is_stage_of annotates (bare_stages ts) q.0) e.pending) (list doc)
        (λ e i. all-in (λ q. is_stage_of annotates (bare_stages ts) q.0) e.pending (λ q j. annotated-kind q.0 (i (is_annotated_by q.0) (j (λ p. nat_eq p.0 q.0) (same_nat q.0)))))
