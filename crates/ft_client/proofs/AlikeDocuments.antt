-- Two documents that differ in names alone, with their stages: what is known of the one is so of the other.
use Rattle.std.proofs.Common.{◌≡◌, ◌≤◌, ℕ, Bool, true, false, ◌&&◌, ◌||◌, nat_eq, List, [], ◌∷◌, Option, Some, None, refl, sym, ◌∙◌, ap, subst, replicate, arith}
use Rattle.std.specs.List.{AllByRecursion, list_all, list_any}
use Rattle.std.proofs.lemmas.List.Elements.{All-from_recursion, recursion_from_All}
use Rattle.ft_base.specs.declared.stamps.Stamp.{Stamp}
use Rattle.ft_base.specs.declared.stamps.Stamp.TheVariants.{Acked, Local}
use Rattle.ft_base.specs.Scan.{len, one_more_if}
use Rattle.ft_base.specs.Visibility.{is_acked}
use Rattle.ft_base.proofs.Booleans.{both}
use Rattle.ft_props.specs.declared.properties.Changes.{Changes}
use Rattle.ft_props.specs.Element.{ElementContent, ElementId, GridUnit, ListElement, has_id}
use Rattle.ft_props.specs.Compaction.{is_before_pending, is_collectable}
use Rattle.ft_props.specs.Properties.{PropertyList, apply}
use Rattle.ft_props.specs.Steps.{is_inserted_by}
use Rattle.ft_op.specs.declared.operations.BaseOp.{BaseOp}
use Rattle.ft_op.specs.declared.operations.BaseOp.TheVariants.{Insert, Remove, Annotate}
use Rattle.ft_op.specs.declared.operations.CellOp.{CellOp}
use Rattle.ft_op.specs.declared.operations.CellOp.TheVariants.{SpliceIn, SpliceOut, Set}
use Rattle.ft_op.specs.declared.operations.Target.TheVariants.{Rows, Cols}
use Rattle.ft_op.specs.Document.{Document}
use Rattle.ft_op.specs.Intervals.{Interval, NamedElements}
use Rattle.ft_op.specs.Operation.{OnGrid, OnIntervals, OnText, SubOperation, segment_contents}
use Rattle.ft_op.specs.Stages.{Stage}
use Rattle.ft_msg.specs.Compacted.{interval_holds, stage_holds_text}
use Rattle.ft_laws_compaction.specs.Free.{AreFree}
use Rattle.ft_laws_agreement.specs.Reconnecting.{has_insertion_of, has_marks_of, has_removal_of, is_stage_of}
use Rattle.ft_laws_agreement.specs.Sequencing.{Each, IsBlockOf, IsTyped, IsTypedGrid, IsTypedText, are_ends_in, is_marked_later}
use Rattle.ft_laws_agreement.specs.Trimming.{has_ends_on, is_end_on}
use Rattle.ft_laws_names.specs.GridFacts.{AreCounted, IsCounted}
use Rattle.ft_laws_names.proofs.Beside.{beside-any, beside-both, beside-filter, beside-len, beside-more, ends, next}
use Rattle.ft_laws_names.proofs.DocumentsAlike.{DocsAlike}
use Rattle.ft_laws_names.proofs.IntervalsAlike.{IntervalsBeside, SettledAlike, away, intervals-more, on_sequenced, settled-ends}
use Rattle.ft_laws_names.proofs.LocalAlike.{StageAlike, StageNames, StagesBeside}
use Rattle.ft_laws_names.proofs.Twins.{BesideList, EndsAlike, IsTwin, Named, detached, on, same-of, there-other, twin-inserted, twin-pending, twin-unremoved, twins-of}
use Rattle.ft_laws_names.proofs.ViewsAlike.{named-alike}
use Rattle.ft_string.specs.Calls.{is_held}

-- ---- lists

all-twins : (test other : ListElement → Bool) → ((x y : ListElement) → IsTwin x y → test x ≡ other y) → {xs ys : List ListElement} → BesideList IsTwin xs ys
    → list_all test xs ≡ true → list_all other ys ≡ true
all-twins test other f ends h = refl
all-twins test other f (next {x = x} {y = y} {xs = xs} t ts) h =
    let p = both (test x) (list_all test xs) h in
    rw (sym (f x y t) ∙ p.0, all-twins test other f ts p.1) refl

each-twins : (P Q : ListElement → Type 0) → ((x y : ListElement) → IsTwin x y → P x → Q y) → {xs ys : List ListElement}
    → BesideList IsTwin xs ys → Each P xs → Each Q ys
each-twins P Q f ends h = tt
each-twins P Q f (next {x = x} {y = y} t ts) h = (f x y t h.0, each-twins P Q f ts h.1)

block-twins : (props : PropertyList) (cs : List ElementContent) {xs ys : List ListElement} → BesideList IsTwin xs ys
    → IsBlockOf props cs xs → IsBlockOf props cs ys
block-twins props [] ends h = tt
block-twins props [] (next t ts) h = (cc)
block-twins props (c ∷ cs) ends h = (cc)
block-twins props (c ∷ cs) (next {x = x} {y = y} t ts) h = (
  sym (same-of (λ (e : ListElement). e.content) (λ e n. refl) x y t) ∙ h.0,
  sym (same-of (λ (e : ListElement). e.props) (λ e n. refl) x y t) ∙ h.1,
  block-twins props cs ts h.2,
)

counted-there : {A : Type 0} (test : A → Bool) (xs : List A) → 1 ≤ len test xs → list_any test xs ≡ true
counted-there test [] h = absurd (omega arith)
counted-there test (x ∷ xs) h = step (test x) h (λ g. counted-there test xs g)
  where
    step : (b : Bool) → 1 ≤ one_more_if b (len test xs) → (1 ≤ len test xs → list_any test xs ≡ true) → b || list_any test xs ≡ true
    step true g ih = refl
    step false g ih = ih g

-- ---- stages

module _ (last : ℕ) (p q : Document) (h : DocsAlike last p q) {ts us : List Stage} (b : StagesBeside p q ts us) where
  same-stage : {A : Type 0} (f : ℕ → SubOperation → A) (t u : Stage) → StageAlike p q t u → f t.stage t.sub_operation ≡ f u.stage u.sub_operation
  same-stage f t u r = sym (ap (λ (v : Stage). f v.stage v.sub_operation) r.rest)

  pub stage_of-alike : (kind : SubOperation → Bool) (k : ℕ) → is_stage_of kind ts k ≡ is_stage_of kind us k
  stage_of-alike kind k = beside-any (λ (t : Stage). nat_eq t.stage k && kind t.sub_operation) (λ (t : Stage). nat_eq t.stage k && kind t.sub_operation)
      (λ t u r. same-stage (λ j o. nat_eq j k && kind o) t u r) b

  module _ (inserts removes : SubOperation → Bool) where
    insertion-alike : (s : Stamp) → has_insertion_of inserts ts s ≡ has_insertion_of inserts us s
    insertion-alike (Acked s c) = refl
    insertion-alike (Local k) = stage_of-alike inserts k

    removal-alike : (o : Option ℕ) → has_removal_of removes ts o ≡ has_removal_of removes us o
    removal-alike None = refl
    removal-alike (Some k) = stage_of-alike removes k

    marks-alike : (x y : ListElement) → IsTwin x y → has_marks_of inserts removes ts x ≡ has_marks_of inserts removes us y
    marks-alike x y t =
        ap (λ i. i && has_removal_of removes ts x.removal_stage && list_all is_acked x.dels) (insertion-alike x.ins)
        ∙ ap (λ i. has_insertion_of inserts us x.ins && i && list_all is_acked x.dels) (removal-alike x.removal_stage)
        ∙ same-of (has_marks_of inserts removes us) (λ e n. refl) x y t

    pub marks-carried : {xs ys : List ListElement} → BesideList IsTwin xs ys → list_all (has_marks_of inserts removes ts) xs ≡ true
        → list_all (has_marks_of inserts removes us) ys ≡ true
    marks-carried t m = all-twins (has_marks_of inserts removes ts) (has_marks_of inserts removes us) marks-alike t m

  noted-alike : (kind : SubOperation → Bool) (qs : List (ℕ × Changes)) → list_all (λ m. is_stage_of kind ts m.0) qs ≡ list_all (λ m. is_stage_of kind us m.0) qs
  noted-alike kind [] = refl
  noted-alike kind (m ∷ ms) = rw (stage_of-alike kind m.0, noted-alike kind ms) refl

  pub changes-carried : (kind : SubOperation → Bool) {xs ys : List ListElement} → BesideList IsTwin xs ys
      → list_all (λ e. list_all (λ m. is_stage_of kind ts m.0) e.pending) xs ≡ true
      → list_all (λ e. list_all (λ m. is_stage_of kind us m.0) e.pending) ys ≡ true
  changes-carried kind t m = all-twins (λ e. list_all (λ m. is_stage_of kind ts m.0) e.pending) (λ e. list_all (λ m. is_stage_of kind us m.0) e.pending)
      (λ x y t. noted-alike kind x.pending ∙ same-of (λ (e : ListElement). list_all (λ m. is_stage_of kind us m.0) e.pending) (λ e n. refl) x y t) t m

  -- ---- as typed

  typed-text : (k : ℕ) (op : BaseOp) {xs ys : List ListElement} → BesideList IsTwin xs ys → IsTypedText k xs op → IsTypedText k ys op
  typed-text k (Insert n seg props) t m =
      block-twins (apply [] props) (segment_contents seg) (beside-filter (is_inserted_by k) (is_inserted_by k) (λ x y s. twin-inserted k x y s) t) m
  typed-text k (Remove n m) t g = tt
  typed-text k (Annotate n m changes) t g =
      each-twins (λ e. Each (λ (i : ℕ × Changes). nat_eq i.0 k ≡ true → i.1 ≡ changes) e.pending) (λ e. Each (λ (i : ℕ × Changes). nat_eq i.0 k ≡ true → i.1 ≡ changes) e.pending)
      (λ x y s f. subst (λ ms. Each (λ (i : ℕ × Changes). nat_eq i.0 k ≡ true → i.1 ≡ changes) ms) (same-of (λ (e : ListElement). e.pending) (λ e n. refl) x y s) f) t g

  both-ends : (a c : Option ElementId) {i j : Option ElementId} → EndsAlike p.text.items q.text.items a i → EndsAlike p.text.items q.text.items c j
      → are_ends_in p.text.items a c ≡ true → are_ends_in q.text.items i j ≡ true
  both-ends None None detached detached g = refl
  both-ends (Some a) (Some c) (on {b = i} s) (on {b = j} r) g =
      rw (counted-there (has_id i) q.text.items (there-other s), counted-there (has_id j) q.text.items (there-other r)) refl
  both-ends None (Some c) detached (on r) g = (cc)
  both-ends (Some a) None (on s) detached g = (cc)

  typed-grid : (k : ℕ) (op : CellOp) → IsTypedGrid k p op → IsTypedGrid k q op
  typed-grid k (SpliceIn Rows n count) g =
      block-twins [] (replicate count GridUnit) (beside-filter (is_inserted_by k) (is_inserted_by k) (λ x y s. twin-inserted k x y s) h.parts.rows.twins) g
  typed-grid k (SpliceIn Cols n count) g =
      block-twins [] (replicate count GridUnit) (beside-filter (is_inserted_by k) (is_inserted_by k) (λ x y s. twin-inserted k x y s) h.parts.cols.twins) g
  typed-grid k (SpliceOut target n m) g = tt
  typed-grid k (Set i j value) g = tt

  typed-alike : (k : ℕ) (o : SubOperation) (a c : NamedElements) → StageNames p q o a c → IsTyped k p a o → IsTyped k q c o
  typed-alike k (OnText op) a c n g = typed-text k op h.parts.text.twins g
  typed-alike k (OnIntervals op) a c n g = both-ends a.first a.second n.first n.second g
  typed-alike k (OnGrid op) a c n g = typed-grid k op g

  counted-alike : (k : ℕ) (o : SubOperation) → IsCounted p k o → IsCounted q k o
  counted-alike k (OnText op) g = g
  counted-alike k (OnIntervals op) g = g
  counted-alike k (OnGrid (SpliceIn Rows n count)) g = sym (beside-len (is_inserted_by k) (is_inserted_by k) (λ x y s. twin-inserted k x y s) h.parts.rows.twins) ∙ g
  counted-alike k (OnGrid (SpliceIn Cols n count)) g = sym (beside-len (is_inserted_by k) (is_inserted_by k) (λ x y s. twin-inserted k x y s) h.parts.cols.twins) ∙ g
  counted-alike k (OnGrid (SpliceOut target n m)) g = g
  counted-alike k (OnGrid (Set i j value)) g = g

  -- ---- ends

  end-alike : {o i : Option ElementId} → SettledAlike p.text.items q.text.items o i → is_end_on p.text.items o ≡ is_end_on q.text.items i
  end-alike away = refl
  end-alike (on_sequenced s) = beside-any _ _ (λ x y r. rw (r.1, twin-unremoved x y r.0) refl) s.twins

  pub ends-carried : {is js : List Interval} → IntervalsBeside (SettledAlike p.text.items q.text.items) is js → list_all (has_ends_on p.text.items) is ≡ true
      → list_all (has_ends_on q.text.items) js ≡ true
  ends-carried ends g = refl
  ends-carried (next {x = i} {y = j} {xs = is} r rs) g =
      let e = both (has_ends_on p.text.items i) (list_all (has_ends_on p.text.items) is) g in
      let same : has_ends_on p.text.items i ≡ has_ends_on q.text.items j = rw (end-alike r.start, end-alike r.end) refl in
      rw (sym same ∙ e.0, ends-carried rs e.1) refl

module _ (last : ℕ) (p q : Document) (h : DocsAlike last p q) where
  pub typed-carried : {ts us : List Stage} → StagesBeside p q ts us → Each (λ t. IsTyped t.stage p t.names t.sub_operation) ts
      → Each (λ t. IsTyped t.stage q t.names t.sub_operation) us
  typed-carried ends g = tt
  typed-carried (next {x = t} {y = u} r rs) g = (
    subst (λ (v : Stage). IsTyped v.stage q v.names v.sub_operation) (sym r.rest) (typed-alike last p q h (next r rs) t.stage t.sub_operation t.names u.names r.names g.0),
    typed-carried rs g.1,
  )

  counted-each : {ts us : List Stage} → StagesBeside p q ts us → AllByRecursion (λ t. IsCounted p t.stage t.sub_operation) ts
      → AllByRecursion (λ t. IsCounted q t.stage t.sub_operation) us
  counted-each ends g = tt
  counted-each (next {x = t} {y = u} r rs) g = (
    subst (λ (v : Stage). IsCounted q v.stage v.sub_operation) (sym r.rest) (counted-alike last p q h (next r rs) t.stage t.sub_operation g.0),
    counted-each rs g.1,
  )

  pub counted-carried : {ts us : List Stage} → StagesBeside p q ts us → AreCounted p ts → AreCounted q us
  counted-carried {ts} {us} b g = All-from_recursion (λ t. IsCounted q t.stage t.sub_operation) us
      (counted-each b (recursion_from_All (λ t. IsCounted p t.stage t.sub_operation) ts g))

  pub later-carried : {xs ys : List ListElement} → BesideList IsTwin xs ys → list_all is_marked_later xs ≡ true → list_all is_marked_later ys ≡ true
  later-carried t g = all-twins is_marked_later is_marked_later (λ x y s. same-of is_marked_later (λ e n. refl) x y s) t g

-- ---- what is free

module _ {xs ys : List ListElement} (h : BesideList IsTwin xs ys) where
  intervals-hold : {is js : List Interval} → IntervalsBeside (EndsAlike xs ys) is js
      → BesideList (Named (λ a b. list_any (interval_holds a) is ≡ list_any (interval_holds b) js)) xs ys
  intervals-hold ends = beside-more (λ x y t. (t, refl)) h
  intervals-hold (next r rs) = beside-more (λ x y q. (q.0.0.0, rw (q.0.0.1, q.0.1.1, q.1.1) refl))
      (beside-both (beside-both (named-alike h r.start) (named-alike h r.end)) (intervals-hold rs))

module _ (p q : Document) (text : BesideList IsTwin p.text.items q.text.items) where
  stage-holds : (k : ℕ) (o : SubOperation) (a b : NamedElements) → StageNames p q o a b
      → BesideList (Named (λ i j. stage_holds_text i (record { stage = k; sub_operation = o; names = a })
      ≡ stage_holds_text j (record { stage = k; sub_operation = o; names = b }))) p.text.items q.text.items
  stage-holds k (OnText op) a b n = beside-more (λ x y t. (t, refl)) text
  stage-holds k (OnIntervals op) a b n = beside-more (λ x y r. (r.0.0, rw (r.0.1, r.1.1) refl)) (beside-both (named-alike text n.first) (named-alike text n.second))
  stage-holds k (OnGrid op) a b n = beside-more (λ x y t. (t, refl)) text

  stages-hold : {ts us : List Stage} → StagesBeside p q ts us
      → BesideList (Named (λ i j. list_any (stage_holds_text i) ts ≡ list_any (stage_holds_text j) us)) p.text.items q.text.items
  stages-hold ends = beside-more (λ x y t. (t, refl)) text
  stages-hold (next {x = t} {y = u} {xs = ts} {ys = us} s ss) =
      subst (λ (v : Stage). BesideList (Named (λ i j. list_any (stage_holds_text i) (t ∷ ts) ≡ list_any (stage_holds_text j) (v ∷ us))) p.text.items q.text.items) (sym s.rest)
      (beside-more (λ x y q. (q.0.0, rw (q.0.1, q.1.1) refl)) (beside-both (stage-holds t.stage t.sub_operation t.names u.names s.names) (stages-hold ss)))

  pub held-alike : {ts us : List Stage} → StagesBeside p q ts us → IntervalsBeside (SettledAlike p.text.items q.text.items) p.intervals q.intervals
      → BesideList (Named (λ i j. is_held p ts i ≡ is_held q us j)) p.text.items q.text.items
  held-alike b is = beside-more (λ x y q. (q.0.0, rw (q.0.1, q.1.1) refl))
      (beside-both (intervals-hold text (intervals-more (SettledAlike p.text.items q.text.items) (EndsAlike p.text.items q.text.items) (λ i j e. settled-ends e) is)) (stages-hold b))

before-twins : {xs ys : List ListElement} → BesideList IsTwin xs ys → is_before_pending xs ≡ is_before_pending ys
before-twins ends = refl
before-twins (next {x = x} {y = y} t ts) = twin-pending x y t

pub free-carried : (floor : ℕ) (held others : ElementId → Bool) {xs ys : List ListElement} → BesideList (Named (λ i j. held i ≡ others j)) xs ys
    → AreFree floor held xs → AreFree floor others ys
free-carried floor held others ends h = tt
free-carried floor held others (next {x = x} {y = y} {xs = xs} {ys = ys} q qs) h = (
  (λ g. (
      let f = h.0 (same-of (is_collectable floor) (λ e n. refl) x y q.0 ∙ g) in
      record {
        removal = sym (same-of (λ (e : ListElement). e.removal_stage) (λ e n. refl) x y q.0) ∙ f.removal;
        changes = sym (same-of (λ (e : ListElement). e.pending) (λ e n. refl) x y q.0) ∙ f.changes;
        name = sym q.1 ∙ f.name;
        next = sym (before-twins (twins-of (λ i j. held i ≡ others j) qs)) ∙ f.next;
      })),
  free-carried floor held others qs h.1,
)
