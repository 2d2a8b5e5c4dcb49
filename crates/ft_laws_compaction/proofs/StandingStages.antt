-- Where the stages of a list stand, an element that was removed at or below their reference numbers carries nothing of them
-- and stands before none of their elements.
use Rattle.std.proofs.Common.{◌≡◌, ℕ, zero, suc, ◌+◌, ◌≤◌, Bool, true, false, cond, not, ◌&&◌, ◌||◌, nat_le, nat_eq, List, [], ◌∷◌, ◌++◌, Option, Some, None, refl, sym, ◌∙◌, ap, subst, arith, filter}
use Rattle.std.specs.List.{list_all, list_any}
use Rattle.std.proofs.lemmas.Bool.Decides.{nat_tests}
use Rattle.ft_base.specs.declared.stamps.Stamp.{Stamp}
use Rattle.ft_base.specs.declared.stamps.Stamp.TheVariants.{Acked, Local}
use Rattle.ft_base.specs.Scan.{len, no_run, put, retain_map}
use Rattle.ft_base.specs.Visibility.{has_occurred, has_occurred_at_stage, is_acked, is_of_stage}
use Rattle.ft_base.proofs.Booleans.{all_four, both}
use Rattle.ft_base.proofs.ScanLaws.{put_past-no_run}
use Rattle.ft_props.specs.declared.properties.Changes.{Changes}
use Rattle.ft_props.specs.Properties.{PropertyList}
use Rattle.ft_props.specs.Element.{ElementContent, ElementId, ListElement, id, new_elements, removal_stamp, with_pending_annotation, with_pending_removal}
use Rattle.ft_props.specs.Compaction.{has_collectable_removal, is_before_pending, is_collectable}
use Rattle.ft_props.specs.Steps.{is_annotated_by, is_inserted_by, is_removed_by}
use Rattle.ft_props.proofs.AcknowledgedInsertion.{below_stamp, element_up_to, expects, list_up_to, removal_up_to, same_nat}
use Rattle.ft_op.specs.Document.{Document}
use Rattle.ft_laws_agreement.proofs.Booleans.{never}
use Rattle.ft_laws_agreement.proofs.HeldNames.{all-put}
use Rattle.ft_laws_agreement.proofs.OrderedMarks.{all-ranges-seen}
use Rattle.ft_laws_agreement.proofs.OwnNames.{all-weaker}
use Rattle.ft_laws_agreement.proofs.RebuiltStages.{filtered-same, lifted, unchanged-below, unmarked-below}
use Rattle.ft_laws_agreement.proofs.SentStages.{SentStage, StageStands}
use Rattle.ft_laws_agreement.proofs.StageEdits.{StageEdit, PutIn, TakenOut, Annotated, IsStanding, change_ranges}
use Rattle.ft_laws_agreement.proofs.ToldStages.{AllStand, ToldStage, stage_numbers}
use Rattle.ft_laws_agreement.proofs.WithinStages.{is_among, is_within, mark_within, stamp_within, is_numbered}
use Rattle.ft_laws_compaction.specs.Free.{AreFree}
use Rattle.ft_laws_compaction.proofs.KeptLists.{implied}

-- ---- what stands before what

-- whether the first element passes
abbrev pub is_next : (ListElement → Bool) → List ListElement → Bool
is_next is [] = false
is_next is (e ∷ xs) = is e

-- whether no element that is gone stands directly before one that passes
abbrev pub none_before : (ListElement → Bool) → (ListElement → Bool) → List ListElement → Bool
none_before gone is [] = true
none_before gone is (e ∷ xs) = not (gone e && is_next is xs) && none_before gone is xs

module _ (gone is : ListElement → Bool) where
  next-none : (xs : List ListElement) → list_all (λ e. not (is e)) xs ≡ true → is_next is xs ≡ false
  next-none [] h = refl
  next-none (e ∷ xs) h = hidden (is e) (both (not (is e)) (list_all (λ d. not (is d)) xs) h).0
    where
      hidden : (b : Bool) → not b ≡ true → b ≡ false
      hidden true g = (cc)
      hidden false g = refl

  before-none : (xs : List ListElement) → list_all (λ e. not (is e)) xs ≡ true → none_before gone is xs ≡ true
  before-none [] h = refl
  before-none (e ∷ xs) h =
      let p = both (not (is e)) (list_all (λ d. not (is d)) xs) h in
      rw (next-none xs p.1, never (gone e), before-none xs p.1) refl

  before-append : (new xs : List ListElement) → list_all (λ e. not (gone e)) new ≡ true → none_before gone is xs ≡ true → none_before gone is (new ++ xs) ≡ true
  before-append [] xs g h = h
  before-append (e ∷ new) xs g h = grind (arith, before-append new xs)

  module _ (test : ListElement → Bool) (unseen : (e : ListElement) → gone e ≡ true → test e ≡ false) (new : List ListElement)
      (fresh : list_all (λ e. not (gone e)) new ≡ true) where
    next-put : (p : ℕ) (xs : List ListElement) → suc p ≤ len test xs → list_all (λ e. not (is e)) xs ≡ true → is_next is (put test no_run (suc p) new xs) ≡ false
    next-put p [] l h = absurd (omega arith)
    next-put p (e ∷ xs) l h = next-none (e ∷ xs) h

    before-put : (p : ℕ) (xs : List ListElement) → p ≤ len test xs → list_all (λ e. not (is e)) xs ≡ true → none_before gone is (put test no_run p new xs) ≡ true
    before-put zero xs l h = ap (none_before gone is) (put_past-no_run new xs) ∙ before-append new xs fresh (before-none xs h)
    before-put (suc p) [] l h = absurd (omega arith)
    before-put (suc p) (e ∷ xs) l h =
        let q = both (not (is e)) (list_all (λ d. not (is d)) xs) h in
        step (gone e) (test e) refl refl l q.1 (λ i m. before-put i xs m q.1)
      where
        step : (a b : Bool) → gone e ≡ a → test e ≡ b → suc p ≤ len test (e ∷ xs) → list_all (λ d. not (is d)) xs ≡ true
            → ((i : ℕ) → i ≤ len test xs → none_before gone is (put test no_run i new xs) ≡ true)
            → not (a && is_next is (put test no_run (cond b p (suc p)) new xs)) && none_before gone is (put test no_run (cond b p (suc p)) new xs) ≡ true
        step true true f t m k ih = cc (unseen e f)
        step true false f t m k ih =
            let here : suc p ≤ len test xs = rw t at m in
            rw (next-put p xs here k, ih (suc p) here) refl
        step false true f t m k ih =
            let here : suc p ≤ suc (len test xs) = rw t at m in
            ih p (omega arith)
        step false false f t m k ih =
            let here : suc p ≤ len test xs = rw t at m in
            ih (suc p) here

  module _ (keep : ListElement → Bool) (f : ListElement → ListElement) (other : (e : ListElement) → keep e ≡ false → (gone e ≡ false) × (is e ≡ false))
      (same_gone : (e : ListElement) → gone (f e) ≡ gone e) (same_is : (e : ListElement) → is (f e) ≡ is e) where
    next-retained : (xs : List ListElement) → is_next is xs ≡ true → is_next is (retain_map keep f xs) ≡ true
    next-retained [] h = (cc)
    next-retained (e ∷ xs) h = step (keep e) refl
      where
        step : (b : Bool) → keep e ≡ b → is_next is (cond b (f e ∷ retain_map keep f xs) (retain_map keep f xs)) ≡ true
        step true k = same_is e ∙ h
        step false k = cc ((other e k).1)

    pub before-retained : (xs : List ListElement) → none_before gone is (retain_map keep f xs) ≡ true → none_before gone is xs ≡ true
    before-retained [] h = refl
    before-retained (e ∷ xs) h = step (keep e) refl h (before-retained xs)
      where
        apart : (a b c : Bool) → (b ≡ true → c ≡ true) → not (a && c) ≡ true → not (a && b) ≡ true
        apart false b c i g = refl
        apart true false c i g = refl
        apart true true c i g = cc (i refl)

        step : (b : Bool) → keep e ≡ b → none_before gone is (cond b (f e ∷ retain_map keep f xs) (retain_map keep f xs)) ≡ true
            → (none_before gone is (retain_map keep f xs) ≡ true → none_before gone is xs ≡ true) → not (gone e && is_next is xs) && none_before gone is xs ≡ true
        step true k g ih =
            let p = both (not (gone (f e) && is_next is (retain_map keep f xs))) (none_before gone is (retain_map keep f xs)) g in
            rw (
              apart (gone e) (is_next is xs) (is_next is (retain_map keep f xs)) (next-retained xs)
                  (ap (λ b. not (b && is_next is (retain_map keep f xs))) (sym (same_gone e)) ∙ p.0),
              ih p.1,
            ) refl
        step false k g ih = rw ((other e k).0, ih g) refl

-- ---- one stage

collectable-occurs : (floor r c : ℕ) → floor ≤ r → (dels : List Stamp) → has_collectable_removal floor dels ≡ true → list_any (has_occurred r c) dels ≡ true
collectable-occurs floor r c above [] h = (cc)
collectable-occurs floor r c above (Acked s d ∷ dels) h = ap (λ b. b || list_any (has_occurred r c) dels) (known s d h)
  where
    known : (s d : ℕ) → nat_le s floor ≡ true → nat_le s r || nat_eq d c ≡ true
    known s d g = grind (arith, nat_tests)
collectable-occurs floor r c above (Local k ∷ dels) h = (cc)

-- the message of a stage doesn't see what was removed up to its reference number
pub collectable-unexpected : (floor r c j : ℕ) → floor ≤ r → (e : ListElement) → is_collectable floor e ≡ true → expects r c j e ≡ false
collectable-unexpected floor r c j above e h =
    rw (collectable-occurs floor r c above e.dels (both (is_acked e.ins) (has_collectable_removal floor e.dels) h).1) (never (has_occurred r c e.ins || below_stamp j e.ins))

pending-stays : (floor k : ℕ) (e : ListElement) → has_occurred_at_stage k e.ins ≡ false → is_collectable floor e ≡ false
pending-stays floor k e h = step e.ins h
  where
    step : (t : Stamp) → has_occurred_at_stage k t ≡ false → is_acked t && has_collectable_removal floor e.dels ≡ false
    step (Acked s c) g = (cc)
    step (Local j) g = refl

later-inserted : (k : ℕ) (t : Stamp) → has_occurred_at_stage k t ≡ false → is_of_stage k t ≡ false
later-inserted k (Acked s c) h = refl
later-inserted k (Local j) h = grind (arith, nat_tests)

none-yet : (k : ℕ) (xs : List ListElement) → list_all (λ e. not (is_inserted_by (suc k) e)) (list_up_to k xs) ≡ true
none-yet k [] = refl
none-yet k (e ∷ xs) = grind (arith, none-yet k xs, first e.ins)
  where
    first : (t : Stamp) → has_occurred_at_stage k t ≡ true → is_of_stage (suc k) t ≡ false
    first (Acked s c) h = refl
    first (Local j) h = grind (arith, nat_tests)

new-stays : (floor k i : ℕ) (props : PropertyList) (items : List ElementContent)
    → list_all (λ e. not (is_collectable floor e)) (new_elements i (Local k) [] None props items) ≡ true
new-stays floor k i props [] = refl
new-stays floor k i props (b ∷ bs) = new-stays floor k (i + 1) props bs

-- whether the element may be left out and carries something of the stage
abbrev pub is_unmarked_if_gone : ℕ → ℕ → ListElement → Bool
is_unmarked_if_gone floor j e = not (is_collectable floor e && (is_removed_by j e || is_annotated_by j e))

module _ (floor k r c : ℕ) (above : floor ≤ r) (xs : List ListElement) where
  before-made : (edit : StageEdit) → IsStanding k r c edit xs → none_before (is_collectable floor) (is_inserted_by (suc k)) (list_up_to (suc k) xs) ≡ true
  before-made (PutIn p props items) h =
      let l : p ≤ len (expects r c (suc (suc k))) (list_up_to k xs) = fits p _ h.in_range in
      ap (none_before (is_collectable floor) (is_inserted_by (suc k))) h.made
      ∙ before-put (is_collectable floor) (is_inserted_by (suc k)) (expects r c (suc (suc k))) (collectable-unexpected floor r c (suc (suc k)) above)
      (new_elements 0 (Local (suc k)) [] None props items) (new-stays floor (suc k) 0 props items) p (list_up_to k xs) l (none-yet k xs)
    where
      fits : (m n : ℕ) → nat_le m n ≡ true → m ≤ n
      fits m n g = grind (arith, nat_tests)
  before-made (TakenOut ranges) h =
      ap (none_before (is_collectable floor) (is_inserted_by (suc k))) h.made
      ∙ before-none (is_collectable floor) (is_inserted_by (suc k)) (change_ranges (expects r c (suc (suc k))) (with_pending_removal (suc k)) ranges
      (list_up_to k xs)) (all-ranges-seen (λ e. not (is_inserted_by (suc k) e)) (expects r c (suc (suc k))) (with_pending_removal (suc k)) (λ e g f. g)
      ranges (list_up_to k xs) (none-yet k xs))
  before-made (Annotated ranges changes) h =
      ap (none_before (is_collectable floor) (is_inserted_by (suc k))) h.made
      ∙ before-none (is_collectable floor) (is_inserted_by (suc k)) (change_ranges (expects r c (suc (suc k))) (with_pending_annotation (suc k) changes) ranges
      (list_up_to k xs)) (all-ranges-seen (λ e. not (is_inserted_by (suc k) e)) (expects r c (suc (suc k))) (with_pending_annotation (suc k) changes)
      (λ e g f. g) ranges (list_up_to k xs) (none-yet k xs))

  -- no element that may be left out stands before one of the stage
  pub before-standing : (edit : StageEdit) → IsStanding k r c edit xs → none_before (is_collectable floor) (is_inserted_by (suc k)) xs ≡ true
  before-standing edit h =
      before-retained (is_collectable floor) (is_inserted_by (suc k)) (λ e. has_occurred_at_stage (suc k) e.ins) (element_up_to (suc k))
      (λ e g. (pending-stays floor (suc k) e g, later-inserted (suc k) e.ins g)) (λ e. refl) (λ e. refl) xs (before-made edit h)

  bare : (ys : List ListElement) → list_all (λ e. not (is_removed_by (suc k) e)) ys ≡ true → list_all (λ e. not (is_annotated_by (suc k) e)) ys ≡ true
      → list_all (is_unmarked_if_gone floor (suc k)) ys ≡ true
  bare [] g h = refl
  bare (e ∷ ys) g h = grind (arith, bare ys)

  first : list_all (is_unmarked_if_gone floor (suc k)) (list_up_to k xs) ≡ true
  first = bare (list_up_to k xs) (unmarked-below k xs) (unchanged-below k xs)

  unseen-marked : (g : ListElement → ListElement) → ((e : ListElement) → is_collectable floor (g e) ≡ is_collectable floor e) → (e : ListElement)
      → expects r c (suc (suc k)) e ≡ true → is_unmarked_if_gone floor (suc k) (g e) ≡ true
  unseen-marked g same e s = step (is_collectable floor e) refl
    where
      step : (b : Bool) → is_collectable floor e ≡ b → not (is_collectable floor (g e) && (is_removed_by (suc k) (g e) || is_annotated_by (suc k) (g e))) ≡ true
      step true f = cc (collectable-unexpected floor r c (suc (suc k)) above e f)
      step false f = rw (same e, f) refl

  marks-made : (edit : StageEdit) → IsStanding k r c edit xs → list_all (is_unmarked_if_gone floor (suc k)) (list_up_to (suc k) xs) ≡ true
  marks-made (PutIn p props items) h =
      ap (list_all (is_unmarked_if_gone floor (suc k))) h.made
      ∙ all-put (is_unmarked_if_gone floor (suc k)) (expects r c (suc (suc k))) no_run p (new_elements 0 (Local (suc k)) [] None props items) (list_up_to k xs)
      (all-weaker (λ e. not (is_collectable floor e)) (is_unmarked_if_gone floor (suc k))
      (λ e f. stays (is_collectable floor e) (is_removed_by (suc k) e || is_annotated_by (suc k) e) f) (new_elements 0 (Local (suc k)) [] None props items)
      (new-stays floor (suc k) 0 props items)) first
    where
      stays : (a b : Bool) → not a ≡ true → not (a && b) ≡ true
      stays true b g = (cc)
      stays false b g = refl
  marks-made (TakenOut ranges) h =
      ap (list_all (is_unmarked_if_gone floor (suc k))) h.made
      ∙ all-ranges-seen (is_unmarked_if_gone floor (suc k)) (expects r c (suc (suc k))) (with_pending_removal (suc k))
      (λ e q s. unseen-marked (with_pending_removal (suc k)) (λ d. refl) e s) ranges (list_up_to k xs) first
  marks-made (Annotated ranges changes) h =
      ap (list_all (is_unmarked_if_gone floor (suc k))) h.made
      ∙ all-ranges-seen (is_unmarked_if_gone floor (suc k)) (expects r c (suc (suc k))) (with_pending_annotation (suc k) changes)
      (λ e q s. unseen-marked (with_pending_annotation (suc k) changes) (λ d. refl) e s) ranges (list_up_to k xs) first

  same-marks : (e : ListElement) → is_unmarked_if_gone floor (suc k) (element_up_to (suc k) e) ≡ is_unmarked_if_gone floor (suc k) e
  same-marks e =
      ap (λ b. not (is_collectable floor e && (b || list_any (λ p. nat_eq p.0 (suc k)) (filter (λ p. nat_le p.0 (suc k)) e.pending)))) (mark e.removal_stage)
      ∙ ap (λ b. not (is_collectable floor e && (is_removed_by (suc k) e || b))) (filtered-same (suc k) e.pending)
    where
      mark : (m : Option ℕ) → list_any (is_of_stage (suc k)) (removal_stamp (removal_up_to (suc k) m)) ≡ list_any (is_of_stage (suc k)) (removal_stamp m)
      mark None = refl
      mark (Some j) = grind (arith, nat_tests)

  -- and none carries a mark of the stage
  pub marks-standing : (edit : StageEdit) → IsStanding k r c edit xs → list_all (is_unmarked_if_gone floor (suc k)) xs ≡ true
  marks-standing edit h =
      all-weaker (λ e. cond (has_occurred_at_stage (suc k) e.ins) (is_unmarked_if_gone floor (suc k) e) true) (is_unmarked_if_gone floor (suc k))
      (λ e g. step e (has_occurred_at_stage (suc k) e.ins) refl g) xs
      (lifted (is_unmarked_if_gone floor (suc k)) (suc k) same-marks xs (marks-made edit h))
    where
      step : (e : ListElement) (b : Bool) → has_occurred_at_stage (suc k) e.ins ≡ b → cond b (is_unmarked_if_gone floor (suc k) e) true ≡ true
          → is_unmarked_if_gone floor (suc k) e ≡ true
      step e true f g = g
      step e false f g = rw (pending-stays floor (suc k) e f) refl

-- ---- all stages

-- the reference number of each stage is at or above the floor
abbrev pub AreAbove : ℕ → List ToldStage → Type 0
AreAbove floor [] = Unit {0}
AreAbove floor (t ∷ ts) = (floor ≤ t.ref) × AreAbove floor ts

module _ (floor c n : ℕ) (doc : Document) (list : Document → List ListElement) (edit : SentStage → StageEdit)
    (stands : (t : ToldStage) → StageStands t.before t.ref c t.sent t.stage.names doc → IsStanding t.before t.ref c (edit t.sent) (list doc)) where
  pub before-stages : (j : ℕ) (ts : List ToldStage) → AreAbove floor ts → AllStand c doc ts → is_among (stage_numbers ts) j ≡ true
      → none_before (is_collectable floor) (is_inserted_by j) (list doc) ≡ true
  before-stages j [] a h g = (cc)
  before-stages j (t ∷ ts) a h g = step (nat_eq j (suc t.before)) refl g (before-stages j ts a.1 h.1)
    where
      step : (b : Bool) → nat_eq j (suc t.before) ≡ b → b || is_among (stage_numbers ts) j ≡ true
          → (is_among (stage_numbers ts) j ≡ true → none_before (is_collectable floor) (is_inserted_by j) (list doc) ≡ true)
          → none_before (is_collectable floor) (is_inserted_by j) (list doc) ≡ true
      step true e f ih =
          let same : suc t.before ≡ j = grind (arith, nat_tests) in
          subst (λ i. none_before (is_collectable floor) (is_inserted_by i) (list doc) ≡ true) same
          (before-standing floor t.before t.ref c a.0 (list doc) (edit t.sent) (stands t h.0))
      step false e f ih = ih f

  pub marks-stages : (j : ℕ) (ts : List ToldStage) → AreAbove floor ts → AllStand c doc ts → is_among (stage_numbers ts) j ≡ true
      → list_all (is_unmarked_if_gone floor j) (list doc) ≡ true
  marks-stages j [] a h g = (cc)
  marks-stages j (t ∷ ts) a h g = step (nat_eq j (suc t.before)) refl g (marks-stages j ts a.1 h.1)
    where
      step : (b : Bool) → nat_eq j (suc t.before) ≡ b → b || is_among (stage_numbers ts) j ≡ true
          → (is_among (stage_numbers ts) j ≡ true → list_all (is_unmarked_if_gone floor j) (list doc) ≡ true)
          → list_all (is_unmarked_if_gone floor j) (list doc) ≡ true
      step true e f ih =
          let same : suc t.before ≡ j = grind (arith, nat_tests) in
          subst (λ i. list_all (is_unmarked_if_gone floor i) (list doc) ≡ true) same (marks-standing floor t.before t.ref c a.0 (list doc) (edit t.sent) (stands t h.0))
      step false e f ih = ih f

module _ (floor n : ℕ) (ks : List ℕ) (held : ElementId → Bool) where
  next-free : (e : ListElement) (xs : List ListElement) → is_collectable floor e ≡ true
      → ((j : ℕ) → is_among ks j ≡ true → none_before (is_collectable floor) (is_inserted_by j) (e ∷ xs) ≡ true) → list_all (is_within n ks) xs ≡ true
      → is_before_pending xs ≡ false
  next-free e [] g before w = refl
  next-free e (d ∷ xs) g before w =
      let p = both (is_within n ks d) (list_all (is_within n ks) xs) w in
      step d.ins refl (all_four (stamp_within n ks d.ins) (list_all (is_numbered n) d.dels) (mark_within ks d.removal_stage) (list_all (λ q. is_among ks q.0) d.pending) p.0).0
    where
      step : (t : Stamp) → d.ins ≡ t → stamp_within n ks t ≡ true → not (is_acked t) ≡ false
      step (Acked s c) f m = refl
      step (Local j) f m =
          let p = both (not (is_collectable floor e && is_of_stage j d.ins)) (none_before (is_collectable floor) (is_inserted_by j) (d ∷ xs)) (before j m) in
          let q : is_of_stage j d.ins ≡ true = ap (is_of_stage j) f ∙ same_nat j in
          let r : not (is_collectable floor e && is_of_stage j d.ins) ≡ false = rw (g, q) refl in
          absurd (cc (p.0, r))

  unmarked : (e : ListElement) → is_collectable floor e ≡ true → ((j : ℕ) → is_among ks j ≡ true → is_unmarked_if_gone floor j e ≡ true) → (m : Option ℕ)
      → e.removal_stage ≡ m → mark_within ks m ≡ true → m ≡ None
  unmarked e g free None f w = refl
  unmarked e g free (Some j) f w =
      let q : is_removed_by j e ≡ true = ap (λ m. list_any (is_of_stage j) (removal_stamp m)) f ∙ rw (same_nat j) refl in
      let r : is_unmarked_if_gone floor j e ≡ false = rw (g, q) refl in
      absurd (cc (free j w, r))

  unchanged : (e : ListElement) → is_collectable floor e ≡ true → ((j : ℕ) → is_among ks j ≡ true → is_unmarked_if_gone floor j e ≡ true)
      → (ps : List (ℕ × Changes)) → e.pending ≡ ps → list_all (λ q. is_among ks q.0) ps ≡ true → ps ≡ []
  unchanged e g free [] f w = refl
  unchanged e g free (p ∷ ps) f w =
      let m = both (is_among ks p.0) (list_all (λ q. is_among ks q.0) ps) w in
      let q : is_annotated_by p.0 e ≡ true = ap (list_any (λ q. nat_eq q.0 p.0)) f ∙ rw (same_nat p.0) refl in
      let r : is_unmarked_if_gone floor p.0 e ≡ false = rw (g, q) (either (is_removed_by p.0 e)) in
      absurd (cc (free p.0 m.0, r))
    where
      either : (b : Bool) → not (b || true) ≡ false
      either true = refl
      either false = refl

  -- where names that are held are none of elements that may be left out, these are free
  pub list-free : (xs : List ListElement) → ((j : ℕ) → is_among ks j ≡ true → none_before (is_collectable floor) (is_inserted_by j) xs ≡ true)
      → ((j : ℕ) → is_among ks j ≡ true → list_all (is_unmarked_if_gone floor j) xs ≡ true)
      → list_all (is_within n ks) xs ≡ true → list_all (λ e. not (is_collectable floor e) || not (held (id e))) xs ≡ true → AreFree floor held xs
  list-free [] before marks w names = tt
  list-free (e ∷ xs) before marks w names =
      let p = both (is_within n ks e) (list_all (is_within n ks) xs) w in
      let q = all_four (stamp_within n ks e.ins) (list_all (is_numbered n) e.dels) (mark_within ks e.removal_stage) (list_all (λ q. is_among ks q.0) e.pending) p.0 in
      let r = both (not (is_collectable floor e) || not (held (id e))) (list_all (λ d. not (is_collectable floor d) || not (held (id d))) xs) names in
      let here : (j : ℕ) → is_among ks j ≡ true → is_unmarked_if_gone floor j e
      ≡ true = λ j m. (both (is_unmarked_if_gone floor j e) (list_all (is_unmarked_if_gone floor j) xs) (marks j m)).0 in (
        λ g. record {
          removal = unmarked e g here e.removal_stage refl q.2;
          changes = unchanged e g here e.pending refl q.3;
          name = implied (is_collectable floor e) (held (id e)) r.0 g;
          next = next-free e xs g before p.1;
        },
        list-free xs (λ j m. (both (not (is_collectable floor e && is_next (is_inserted_by j) xs)) (none_before (is_collectable floor) (is_inserted_by j) xs) (before j m)).1)
            (λ j m. (both (is_unmarked_if_gone floor j e) (list_all (is_unmarked_if_gone floor j) xs) (marks j m)).1) p.1 r.1,
      )
