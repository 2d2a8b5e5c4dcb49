-- Where ends stand after all pending stages, of intervals that no stage adds, changes or deletes.
use Rattle.std.proofs.Common.{◌≡◌, ℕ, Bool, true, false, cond, not, ◌||◌, List, [], ◌∷◌, Option, refl, sym, ◌∙◌, ap, filter, map}
use Rattle.ft_props.specs.Element.{ElementId, ListElement}
use Rattle.ft_props.specs.Slide.{settle}
use Rattle.ft_op.specs.declared.operations.TextOp.{TextOp}
use Rattle.ft_op.specs.Intervals.{Interval, NamedElements, after_interval_operation, settle_elements, settle_ends, settle_interval}
use Rattle.ft_op.specs.Operation.{OnGrid, OnIntervals, OnText, SubOperation}
use Rattle.ft_op.specs.Stages.{Stage, intervals_after_stage, shown_intervals}
use Rattle.ft_sumdoc.specs.declared.summary.IntervalRec.{IntervalRec}
use Rattle.ft_msg.specs.Content.{interval_record}
use Rattle.ft_laws_agreement.proofs.CompactedScans.{is_held_end}
use Rattle.ft_laws_agreement.proofs.SettledEnds.{settle-at}
use Rattle.ft_changes.specs.Beside.{changes_interval, is_changed_by}
use Rattle.ft_changes.specs.Shown.{interval_of_name}
use Rattle.ft_changes.proofs.IntervalsLead.{map-twice}
use Rattle.ft_changes.proofs.LocalEnds.{end-known, is_known}
use Rattle.ft_changes.proofs.OwnIntervals.{operation-leaves}

-- ---- ends

-- an end settled at each stage
abbrev pub through : List ListElement → List Stage → Option ElementId → Option ElementId
through xs [] o = o
through xs (t ∷ ts) o = through xs ts (settle xs t.stage o)

pub known-settled : (xs : List ListElement) (m : ℕ) (o : Option ElementId) → is_held_end (is_known xs) (settle xs m o) ≡ true
known-settled xs m o = end-known m xs (settle xs m o) (settle-at m xs o)

-- where ends settle in ys as in xs
module _ (xs ys : List ListElement) (ok : Option ElementId → Bool)
    (same : (m : ℕ) (o : Option ElementId) → ok o ≡ true → settle ys m o ≡ settle xs m o)
    (kept : (m : ℕ) (o : Option ElementId) → ok (settle xs m o) ≡ true) where
  pub through-same : (ts : List Stage) (o : Option ElementId) → ok o ≡ true → through ys ts o ≡ through xs ts o
  through-same [] o h = refl
  through-same (t ∷ ts) o h = ap (through ys ts) (same t.stage o h) ∙ through-same ts (settle xs t.stage o) (kept t.stage o)

-- where ends that settled in xs go on in ys as those that settled in ys
module _ (xs ys : List ListElement)
    (same : (m n : ℕ) (o : Option ElementId) → is_held_end (is_known xs) o ≡ true → settle ys n (settle xs m o) ≡ settle ys n (settle ys m o)) where
  pub through-left : (ts : List Stage) (o e : Option ElementId) → ((m : ℕ) → settle ys m e ≡ settle ys m o) → is_held_end (is_known xs) o ≡ true
      → (m : ℕ) → settle ys m (through ys ts e) ≡ settle ys m (through xs ts o)
  through-left [] o e h known m = h m
  through-left (t ∷ ts) o e h known m =
      through-left ts (settle xs t.stage o) (settle ys t.stage e) (λ n. ap (settle ys n) (h t.stage) ∙ sym (same t.stage n o known))
      (known-settled xs t.stage o) m

-- ---- filters

pub filter-map : {A B : Type 0} (f : A → B) (keep : B → Bool) (before : A → Bool) → ((x : A) → keep (f x) ≡ before x) → (xs : List A)
    → filter keep (map f xs) ≡ map f (filter before xs)
filter-map f keep before same [] = refl
filter-map f keep before same (x ∷ xs) =
    ap (λ b. cond b (f x ∷ filter keep (map f xs)) (filter keep (map f xs))) (same x) ∙ by (before x) (filter-map f keep before same xs)
  where
    by : (b : Bool) → filter keep (map f xs) ≡ map f (filter before xs)
        → cond b (f x ∷ filter keep (map f xs)) (filter keep (map f xs)) ≡ map f (cond b (x ∷ filter before xs) (filter before xs))
    by true ih = ap (λ ys. f x ∷ ys) ih
    by false ih = ih

-- what one filter leaves, where another one leaves more
filter-within : {A : Type 0} (keep more : A → Bool) → ((x : A) → keep x ≡ true → more x ≡ true) → (xs : List A)
    → filter keep (filter more xs) ≡ filter keep xs
filter-within keep more h [] = refl
filter-within keep more h (x ∷ xs) = by (more x) (keep x) refl (h x) (filter-within keep more h xs)
  where
    by : (m k : Bool) → keep x ≡ k → (k ≡ true → m ≡ true) → filter keep (filter more xs) ≡ filter keep xs
        → filter keep (cond m (x ∷ filter more xs) (filter more xs)) ≡ cond k (x ∷ filter keep xs) (filter keep xs)
    by true k e g ih =
        ap (λ b. cond b (x ∷ filter keep (filter more xs)) (filter keep (filter more xs))) e
        ∙ ap (λ ys. cond k (x ∷ ys) ys) ih
    by false true e g ih = let m = g refl in absurd (cc)
    by false false e g ih = ih

-- ---- intervals of other names

-- the interval with f of its ends
abbrev pub with_ends_by : (Option ElementId → Option ElementId) → Interval → Interval
with_ends_by f i = record i { start = f i.start; end = f i.end }

pub unmoved : (is : List Interval) → is ≡ map (with_ends_by (λ o. o)) is
unmoved [] = refl
unmoved (i ∷ is) = ap (λ js. i ∷ js) (unmoved is)

-- the test is passed by those that one of the operations adds, changes or deletes
abbrev pub Covers : (IntervalRec → Bool) → List SubOperation → Type 0
Covers test ops = (i : IntervalRec) → is_changed_by ops i ≡ true → test i ≡ true

pub covers-first : (test : IntervalRec → Bool) (o : SubOperation) (ops : List SubOperation) → Covers test (o ∷ ops) → Covers test (o ∷ [])
covers-first test o ops h i e = h i (by (changes_interval i o) e)
  where
    by : (b : Bool) → b || false ≡ true → b || is_changed_by ops i ≡ true
    by true f = refl
    by false f = absurd (cc)

pub covers-rest : (test : IntervalRec → Bool) (o : SubOperation) (ops : List SubOperation) → Covers test (o ∷ ops) → Covers test ops
covers-rest test o ops h i e = h i (by (changes_interval i o) e)
  where
    by : (b : Bool) → is_changed_by ops i ≡ true → b || is_changed_by ops i ≡ true
    by true f = refl
    by false f = f

module _ (test : IntervalRec → Bool) (names : (a b : IntervalRec) → a.label ≡ b.label → a.id ≡ b.id → test a ≡ test b) where
  -- whether the test leaves the interval
  abbrev pub is_other : Interval → Bool
  is_other i = not (test (interval_of_name i.label i.id))

  pub others-shown : (k : ℕ) (xs : List ListElement) (is : List Interval)
      → filter (λ i. not (test i)) (map (interval_record k xs) is) ≡ map (interval_record k xs) (filter is_other is)
  others-shown k xs is =
      filter-map (interval_record k xs) (λ i. not (test i)) is_other
      (λ i. ap not (names (interval_record k xs i) (interval_of_name i.label i.id) refl refl)) is

  pub others-moved : (f : Option ElementId → Option ElementId) (is : List Interval)
      → filter is_other (map (with_ends_by f) is) ≡ map (with_ends_by f) (filter is_other is)
  others-moved f is = filter-map (with_ends_by f) is_other is_other (λ i. refl) is

  other-left : (b d : Bool) → (b ≡ true → d ≡ true) → not d ≡ true → not b ≡ true
  other-left true d h e = let f = h refl in absurd (cc)
  other-left false d h e = refl

  -- whether the operation leaves it
  abbrev left_by : TextOp → Interval → Bool
  left_by op i = not (is_changed_by (OnIntervals op ∷ []) (interval_record 0 [] i))

  pub operation-others : (op : TextOp) → Covers test (OnIntervals op ∷ []) → (at : NamedElements) (is : List Interval)
      → filter is_other (after_interval_operation op at is) ≡ filter is_other is
  operation-others op covers at is =
      let within : (i : Interval) → is_other i ≡ true → left_by op i ≡ true =
      λ i e. other-left (is_changed_by (OnIntervals op ∷ []) (interval_record 0 [] i)) (test (interval_of_name i.label i.id))
      (λ c. sym (names (interval_record 0 [] i) (interval_of_name i.label i.id) refl refl) ∙ covers (interval_record 0 [] i) c) e in
      sym (filter-within is_other (left_by op) within (after_interval_operation op at is))
      ∙ ap (filter is_other) (operation-leaves 0 [] op at is) ∙ filter-within is_other (left_by op) within is

  stage-others : (o : SubOperation) → Covers test (o ∷ []) → (at : NamedElements) (is : List Interval)
      → filter is_other (intervals_after_stage o at is) ≡ filter is_other is
  stage-others (OnText op) covers at is = refl
  stage-others (OnGrid op) covers at is = refl
  stage-others (OnIntervals op) covers at is = operation-others op covers at is

  -- the others settle at each stage, and no more
  pub others-settle : (xs : List ListElement) (ts : List Stage) → Covers test (map (λ (t : Stage). t.sub_operation) ts) → (is : List Interval)
      → filter is_other (shown_intervals xs is ts) ≡ map (with_ends_by (through xs ts)) (filter is_other is)
  others-settle xs [] covers is = unmoved (filter is_other is)
  others-settle xs (t ∷ ts) covers is =
      let here = t.sub_operation in
      let rest = map (λ (u : Stage). u.sub_operation) ts in
      let settled = settle_ends xs t.stage is in
      others-settle xs ts (covers-rest test here rest covers) (intervals_after_stage here (settle_elements xs t.stage t.names) settled)
      ∙ ap (map (with_ends_by (through xs ts)))
      (stage-others here (covers-first test here rest covers) (settle_elements xs t.stage t.names) settled ∙ others-moved (settle xs t.stage) is)
      ∙ map-twice (with_ends_by (through xs ts)) (settle_interval xs t.stage) (filter is_other is)
