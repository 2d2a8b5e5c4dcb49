-- The elements, the changes and the names of a pending stage are as its sub-operation was typed.
use Rattle.std.proofs.Common.{◌≡◌, ℕ, zero, suc, ◌+◌, Bool, true, false, cond, not, ◌||◌, nat_eq, nat_le, nat_lt, List, [], ◌∷◌, Option, Some, None, map, filter, replicate, refl, sym, ◌∙◌, ap, subst, arith}
use Rattle.std.specs.List.{list_all, list_any}
use Rattle.std.specs.Option.{option_map}
use Rattle.std.proofs.lemmas.Bool.Decides.{nat_tests}
use Rattle.ft_base.proofs.Booleans.{all_three, both}
use Rattle.ft_base.specs.declared.stamps.Stamp.{Stamp}
use Rattle.ft_base.specs.declared.stamps.Stamp.TheVariants.{Acked, Local}
use Rattle.ft_base.specs.Scan.{at, len}
use Rattle.ft_base.specs.Visibility.{has_occurred_at_stage}
use Rattle.ft_op.specs.declared.operations.Ends.{Ends}
use Rattle.ft_op.specs.declared.operations.BaseOp.TheVariants.{Insert, Remove, Annotate}
use Rattle.ft_op.specs.declared.operations.CellOp.TheVariants.{SpliceIn, SpliceOut, Set}
use Rattle.ft_op.specs.declared.operations.Target.TheVariants.{Rows, Cols}
use Rattle.ft_op.specs.declared.operations.TextOp.{TextOp}
use Rattle.ft_op.specs.Same.{same_changes}
use Rattle.ft_props.specs.declared.properties.Changes.{Changes}
use Rattle.ft_props.specs.Properties.{PropertyList, apply}
use Rattle.ft_props.specs.Element.{ElementContent, ElementId, GridUnit, ListElement, PendingId, SequencedId, has_id, id, id_of_stamp, new_elements, same_id}
use Rattle.ft_props.specs.Steps.{is_inserted_by}
use Rattle.ft_props.proofs.AcknowledgedInsertion.{element_up_to, expects, list_up_to}
use Rattle.ft_props.proofs.PlacedInsertion.{is_upto}
use Rattle.ft_op.specs.Operation.{OnGrid, OnIntervals, OnText, SubOperation, segment_contents}
use Rattle.ft_op.specs.Intervals.{NamedElements, elements_at_ends}
use Rattle.ft_op.specs.Document.{Document, elements_at_given_ends, ends_of, given_ends_fit}
use Rattle.ft_laws_agreement.proofs.StageEdits.{PutIn, Annotated, IsStanding}
use Rattle.ft_laws_agreement.proofs.SentStages.{IsOneName, StageStands, placed}
use Rattle.ft_laws_agreement.specs.Reconnecting.{is_inserted_before, writes_known_units}
use Rattle.ft_laws_agreement.specs.Sequencing.{Each, IsBlockOf, IsTyped, are_ends_in}
use Rattle.ft_laws_agreement.proofs.ToldStages.{AllStand, AreTold, ToldStage}
use Rattle.ft_laws_agreement.proofs.MarksOfStages.{bare_stages}
use Rattle.ft_laws_agreement.proofs.OrderedMarks.{insertion_stage, is_ordered, is_removed_last, is_unremoved_pending, rises_from}
use Rattle.ft_op.proofs.SameOperations.{same_changes-Decides}
use Rattle.ft_laws_agreement.proofs.SettledNames.{AreThere, ends-there}
use Rattle.ft_laws_agreement.proofs.SideBySideStages.{all-new, none-counted}
use Rattle.ft_laws_agreement.proofs.AcknowledgedDocument.{none-later}
use Rattle.ft_laws_agreement.proofs.RebuiltStages.{block-filter, block-up_to, has-same, has-standing, has_changes, lifted}
use Rattle.ft_props.proofs.RebuiltList.{or_right}

-- ---- the elements of an insertion

block-new : (k i : ℕ) (props : PropertyList) (items : List ElementContent) → IsBlockOf props items (new_elements i (Local k) [] None props items)
block-new k i props [] = tt
block-new k i props (b ∷ bs) = (refl, refl, block-new k (i + 1) props bs)

block-under : (k : ℕ) (props : PropertyList) (items : List ElementContent) (ys : List ListElement) → IsBlockOf props items (map (element_up_to k) ys) → IsBlockOf props items ys
block-under k props [] [] h = tt
block-under k props [] (y ∷ ys) h = h
block-under k props (b ∷ bs) [] h = h
block-under k props (b ∷ bs) (y ∷ ys) h = (h.0, h.1, block-under k props bs ys h.2)

-- they have its contents and properties
pub standing-block : (k r c p : ℕ) (props : PropertyList) (items : List ElementContent) (xs : List ListElement) → IsStanding k r c (PutIn p props items) xs
    → IsBlockOf props items (filter (is_inserted_by (suc k)) xs)
standing-block k r c p props items xs h =
    let block = new_elements 0 (Local (suc k)) [] None props items in
    let same : block ≡ map (element_up_to (suc k)) (filter (is_inserted_by (suc k)) xs) =
    sym (block-filter (is_inserted_by (suc k)) (expects r c (suc (suc k))) p block (list_up_to k xs) (all-new (suc k) 0 props items)
    (none-counted (is_inserted_by (suc k)) (list_up_to k xs) (none-later k xs)))
    ∙ ap (filter (is_inserted_by (suc k))) (sym h.made) ∙ block-up_to (suc k) xs in
    block-under (suc k) props items (filter (is_inserted_by (suc k)) xs) (subst (IsBlockOf props items) same (block-new (suc k) 0 props items))

-- ---- the changes of an annotation

late-changes : (k i : ℕ) (changes : Changes) (pending : List (ℕ × Changes)) → nat_le i k ≡ false → rises_from i pending ≡ true
    → list_all (λ p. cond (nat_eq p.0 k) (same_changes p.1 changes) true) pending ≡ true
late-changes k i changes [] h g = refl
late-changes k i changes (p ∷ pending) h g =
    let q = both (nat_lt i p.0) (rises_from p.0 pending) g in
    let other : nat_eq p.0 k ≡ false = grind (arith, nat_tests) in
    let next : nat_le p.0 k ≡ false = grind (arith, nat_tests) in
    rw (other, late-changes k p.0 changes pending next q.1) refl

late-insertion : (k : ℕ) (t : Stamp) (changes : Changes) (pending : List (ℕ × Changes)) → has_occurred_at_stage k t ≡ false → rises_from (insertion_stage t) pending ≡ true
    → list_all (λ p. cond (nat_eq p.0 k) (same_changes p.1 changes) true) pending ≡ true
late-insertion k (Acked s c) changes pending h g = (cc)
late-insertion k (Local j) changes pending h g = late-changes k j changes pending h g

their-changes : (k : ℕ) (changes : Changes) (pending : List (ℕ × Changes)) → list_all (λ p. cond (nat_eq p.0 k) (same_changes p.1 changes) true) pending ≡ true
    → Each (λ m. nat_eq m.0 k ≡ true → m.1 ≡ changes) pending
their-changes k changes [] h = tt
their-changes k changes (p ∷ pending) h =
    let q = both (cond (nat_eq p.0 k) (same_changes p.1 changes) true) (list_all (λ p. cond (nat_eq p.0 k) (same_changes p.1 changes) true) pending) h in
    ((λ e. (same_changes-Decides p.1 changes).0 (ap (λ b. cond b (same_changes p.1 changes) true) (sym e) ∙ q.0)), their-changes k changes pending q.1)

all-changes : (k : ℕ) (changes : Changes) (xs : List ListElement) → list_all (λ e. cond (is_upto k e) (has_changes k changes e) true) xs ≡ true → list_all is_ordered xs ≡ true
    → Each (λ e. Each (λ m. nat_eq m.0 k ≡ true → m.1 ≡ changes) e.pending) xs
all-changes k changes [] h o = tt
all-changes k changes (e ∷ xs) h o =
    let p = both (cond (is_upto k e) (has_changes k changes e) true) (list_all (λ e. cond (is_upto k e) (has_changes k changes e) true) xs) h in
    let q = both (is_ordered e) (list_all is_ordered xs) o in
    let r = all_three (rises_from (insertion_stage e.ins) e.pending) (is_removed_last e.removal_stage e.pending) (is_unremoved_pending e.ins e.dels e.removal_stage) q.0 in
    (their-changes k changes e.pending (step (is_upto k e) refl p.0 r.0), all-changes k changes xs p.1 q.1)
  where
    step : (b : Bool) → is_upto k e ≡ b → cond b (has_changes k changes e) true ≡ true → rises_from (insertion_stage e.ins) e.pending ≡ true → has_changes k changes e ≡ true
    step true f g u = g
    step false f g u = late-insertion k e.ins changes e.pending f u

pub standing-changes : (k r c : ℕ) (ranges : List (ℕ × ℕ)) (changes : Changes) (xs : List ListElement) → list_all is_ordered xs ≡ true
    → IsStanding k r c (Annotated ranges changes) xs
    → Each (λ e. Each (λ m. nat_eq m.0 (suc k) ≡ true → m.1 ≡ changes) e.pending) xs
standing-changes k r c ranges changes xs o h =
    all-changes (suc k) changes xs (lifted (has_changes (suc k) changes) (suc k) (λ e. has-same (suc k) changes e.pending) xs (has-standing k r c ranges changes xs h)) o

-- ---- the elements that a stage names

there-in : (xs : List ListElement) (a b : Option ElementId) → AreThere xs a b → are_ends_in xs a b ≡ true
there-in xs None None h = refl
there-in xs (Some a) (Some b) h = rw (h.0, h.1) refl
there-in xs (Some a) None h = absurd h
there-in xs None (Some b) h = absurd h

given-in : (test : ListElement → Bool) (xs : List ListElement) (ends : Option Ends) → given_ends_fit (len test xs) ends ≡ true
    → are_ends_in xs (elements_at_given_ends test xs ends).first (elements_at_given_ends test xs ends).second ≡ true
given-in test xs None h = refl
given-in test xs (Some ends) h = there-in xs (elements_at_ends test xs ends).first (elements_at_ends test xs ends).second (ends-there test xs ends h)

any-up_to : (k : ℕ) (a : ElementId) (xs : List ListElement) → list_any (has_id a) (list_up_to k xs) ≡ true → list_any (has_id a) xs ≡ true
any-up_to k a [] h = h
any-up_to k a (e ∷ xs) h = step (is_upto k e) h (any-up_to k a xs)
  where
    step : (b : Bool) → list_any (has_id a) (cond b (element_up_to k e ∷ list_up_to k xs) (list_up_to k xs)) ≡ true
        → (list_any (has_id a) (list_up_to k xs) ≡ true → list_any (has_id a) xs ≡ true) → has_id a e || list_any (has_id a) xs ≡ true
    step true g ih = first (has_id a e) g
      where
        first : (b : Bool) → b || list_any (has_id a) (list_up_to k xs) ≡ true → b || list_any (has_id a) xs ≡ true
        first true f = refl
        first false f = ih f
    step false g ih = or_right (has_id a e) (list_any (has_id a) xs) (ih g)

ends-up_to : (k : ℕ) (xs : List ListElement) (a b : Option ElementId) → are_ends_in (list_up_to k xs) a b ≡ true → are_ends_in xs a b ≡ true
ends-up_to k xs None None h = refl
ends-up_to k xs (Some x) (Some y) h =
    let p = both (list_any (has_id x) (list_up_to k xs)) (list_any (has_id y) (list_up_to k xs)) h in
    rw (any-up_to k x xs p.0, any-up_to k y xs p.1) refl
ends-up_to k xs None (Some y) h = (cc)
ends-up_to k xs (Some x) None h = (cc)

-- the elements that an interval operation names are in the text
pub named-ends : (k : ℕ) (test : ListElement → Bool) (xs : List ListElement) (op : TextOp) (names : NamedElements) → given_ends_fit (len test (list_up_to k xs)) (ends_of op) ≡ true
    → elements_at_given_ends test (list_up_to k xs) (ends_of op) ≡ names → are_ends_in xs names.first names.second ≡ true
named-ends k test xs op names h e =
    ends-up_to k xs names.first names.second (subst (λ n. are_ends_in (list_up_to k xs) n.first n.second ≡ true) e (given-in test (list_up_to k xs) (ends_of op) h))

-- an element of that name is of a stage up to k
abbrev named_before : ℕ → Option ElementId → Bool
named_before k None = false
named_before k (Some (SequencedId i)) = true
named_before k (Some (PendingId j i)) = nat_le j k

reached-name : (k nth : ℕ) (t : Stamp) → has_occurred_at_stage k t ≡ true → named_before k (Some (id_of_stamp t nth)) ≡ true
reached-name k nth (Acked s c) h = refl
reached-name k nth (Local j) h = h

-- an element, if there is one, is
abbrev is_before : ℕ → Option ElementId → Bool
is_before k None = true
is_before k (Some a) = named_before k (Some a)

all-reached : (k : ℕ) (xs : List ListElement) → list_all (is_upto k) (list_up_to k xs) ≡ true
all-reached k [] = refl
all-reached k (e ∷ xs) = step (is_upto k e) refl (all-reached k xs)
  where
    step : (b : Bool) → is_upto k e ≡ b → list_all (is_upto k) (list_up_to k xs) ≡ true
        → list_all (is_upto k) (cond b (element_up_to k e ∷ list_up_to k xs) (list_up_to k xs)) ≡ true
    step true f g = rw (f, g) refl
    step false f g = g

found-before : (k : ℕ) (test : ListElement → Bool) (i : ℕ) (ys : List ListElement) → list_all (is_upto k) ys ≡ true → is_before k (option_map id (at test i ys)) ≡ true
found-before k test i [] h = refl
found-before k test zero (e ∷ ys) h =
    let p = both (is_upto k e) (list_all (is_upto k) ys) h in
    step (test e) p.0 (found-before k test zero ys p.1)
  where
    step : (b : Bool) → is_upto k e ≡ true → is_before k (option_map id (at test zero ys)) ≡ true → is_before k (option_map id (cond b (Some e) (at test zero ys))) ≡ true
    step true f g = reached-name k e.nth e.ins f
    step false f g = g
found-before k test (suc i) (e ∷ ys) h = found-before k test (cond (test e) i (suc i)) ys (both (is_upto k e) (list_all (is_upto k) ys) h).1

at-before : (k : ℕ) (test : ListElement → Bool) (i : ℕ) (xs : List ListElement) (a : Option ElementId)
    → IsOneName (option_map id (at test i (list_up_to k xs))) a → named_before k a ≡ true
at-before k test i xs a h = from (option_map id (at test i (list_up_to k xs))) a h (found-before k test i (list_up_to k xs) (all-reached k xs))
  where
    from : (o a : Option ElementId) → IsOneName o a → is_before k o ≡ true → named_before k a ≡ true
    from (Some x) (Some y) e g = ap (λ z. named_before k (Some z)) (sym e) ∙ g
    from None y e g = absurd e
    from (Some x) None e g = absurd e

before-inserted : (k : ℕ) (xs : List ListElement) (a : Option ElementId) → named_before k a ≡ true → is_inserted_before (suc k) xs a ≡ true
before-inserted k xs None h = refl
before-inserted k xs (Some a) h = all xs
  where
    stamp : (b : ElementId) (nth : ℕ) (t : Stamp) → named_before k (Some b) ≡ true → same_id b (id_of_stamp t nth) ≡ true → has_occurred_at_stage (suc k) t ≡ true
    stamp b nth (Acked s c) g e = refl
    stamp (SequencedId i) nth (Local j) g e = (cc)
    stamp (PendingId l i) nth (Local j) g e =
        let p = both (nat_eq l j) (nat_eq i nth) e in
        grind (arith, nat_tests)

    all : (xs : List ListElement) → list_all (λ e. not (has_id a e) || has_occurred_at_stage (suc k) e.ins) xs ≡ true
    all [] = refl
    all (e ∷ xs) = rw (either (has_id a e) refl, all xs) refl
      where
        either : (b : Bool) → has_id a e ≡ b → not b || has_occurred_at_stage (suc k) e.ins ≡ true
        either true f = stamp a e.nth e.ins h f
        either false f = refl

-- ---- a stage

module _ (k r c : ℕ) (doc : Document) (names : NamedElements) (ordered : list_all is_ordered doc.text.items ≡ true) where
  typed-stage : (o : SubOperation) (p q : ℕ) (ranges : List (ℕ × ℕ)) (other : TextOp) → StageStands k r c (placed p q ranges other o) names doc → IsTyped (suc k) doc names o
  typed-stage (OnText (Insert i seg props)) p q ranges other h = standing-block k r c p (apply [] props) (segment_contents seg) doc.text.items h.text
  typed-stage (OnText (Remove i j)) p q ranges other h = tt
  typed-stage (OnText (Annotate i j changes)) p q ranges other h = standing-changes k r c ranges changes doc.text.items ordered h.text
  typed-stage (OnIntervals op) p q ranges other h = named-ends k (expects r c (suc (suc k))) doc.text.items other names h.named.0 h.named.1
  typed-stage (OnGrid (SpliceIn Rows i count)) p q ranges other h = standing-block k r c p [] (replicate count GridUnit) doc.rows.items h.rows
  typed-stage (OnGrid (SpliceIn Cols i count)) p q ranges other h = standing-block k r c p [] (replicate count GridUnit) doc.cols.items h.cols
  typed-stage (OnGrid (SpliceOut target i j)) p q ranges other h = tt
  typed-stage (OnGrid (Set i j value)) p q ranges other h = tt

  known-units : (o : SubOperation) (p q : ℕ) (ranges : List (ℕ × ℕ)) (other : TextOp) → StageStands k r c (placed p q ranges other o) names doc
      → writes_known_units doc.rows.items doc.cols.items (record { stage = suc k; sub_operation = o; names = names }) ≡ true
  known-units (OnText op) p q ranges other h = refl
  known-units (OnIntervals op) p q ranges other h = refl
  known-units (OnGrid (SpliceIn target i count)) p q ranges other h = refl
  known-units (OnGrid (SpliceOut target i j)) p q ranges other h = refl
  known-units (OnGrid (Set i j value)) p q ranges other h =
      rw (
        before-inserted k doc.rows.items names.first (at-before k (expects r c (suc (suc k))) p doc.rows.items names.first h.named.0),
        before-inserted k doc.cols.items names.second (at-before k (expects r c (suc (suc k))) q doc.cols.items names.second h.named.1),
      ) refl

-- each stage is as it was typed
pub typed-stages : (c m : ℕ) (doc : Document) (ts : List ToldStage) → list_all is_ordered doc.text.items ≡ true → AreTold m ts → AllStand c doc ts
    → Each (λ t. IsTyped t.stage doc t.names t.sub_operation) (bare_stages ts)
typed-stages c m doc [] ordered told h = tt
typed-stages c m doc (t ∷ ts) ordered told h =
    let place = told.1.place in
    let here : StageStands t.before t.ref c (placed place.first place.second place.ranges place.other t.stage.sub_operation) t.stage.names doc = subst
    (λ s. StageStands t.before t.ref c s t.stage.names doc) place.made h.0 in (
      subst (λ i. IsTyped i doc t.stage.names t.stage.sub_operation) (sym told.0)
          (typed-stage t.before t.ref c doc t.stage.names ordered t.stage.sub_operation place.first place.second place.ranges place.other here),
      typed-stages c m
          doc ts ordered told.3 h.1,
    )

-- and writes to units that were there before it
pub stages-known_units : (c m : ℕ) (doc : Document) (ts : List ToldStage) → list_all is_ordered doc.text.items ≡ true → AreTold m ts → AllStand c doc ts
    → list_all (writes_known_units doc.rows.items doc.cols.items) (bare_stages ts) ≡ true
stages-known_units c m doc [] ordered told h = refl
stages-known_units c m doc (t ∷ ts) ordered told h =
    let place = told.1.place in
    let here : StageStands t.before t.ref c (placed place.first place.second place.ranges place.other t.stage.sub_operation) t.stage.names doc = subst
    (λ s. StageStands t.before t.ref c s t.stage.names doc) place.made h.0 in
    let known : writes_known_units doc.rows.items doc.cols.items t.stage ≡ true =
    subst (λ i. writes_known_units doc.rows.items doc.cols.items (record { stage = i; sub_operation = t.stage.sub_operation; names = t.stage.names }) ≡ true) (sym told.0)
    (known-units t.before t.ref c doc t.stage.names ordered t.stage.sub_operation place.first place.second place.ranges place.other here) in
    rw (known, stages-known_units c m doc ts ordered told.3 h.1) refl
