-- Two lists side by side, one before and one after an acknowledgement: ends that mean the same elements go on to do so.
use Rattle.std.proofs.Common.{◌≡◌, ℕ, ◌≤◌, true, false, ◌&&◌, List, [], ◌∷◌, Option, Some, None, refl, ◌∙◌, ap, map, pos}
use Rattle.std.specs.Option.{option_map}
use Rattle.ft_base.specs.declared.stamps.Stamp.{Stamp}
use Rattle.ft_base.specs.declared.stamps.Stamp.TheVariants.{Acked, Local}
use Rattle.ft_op.specs.declared.operations.TextOp.{TextOp}
use Rattle.ft_props.specs.Element.{ElementId, ListElement, has_id, id, id_of_stamp, is_sequenced, is_unremoved, same_id, seen}
use Rattle.ft_props.specs.Slide.{end_number, settle, slide}
use Rattle.ft_op.specs.Operation.{OnIntervals, SubOperation}
use Rattle.ft_op.specs.Intervals.{Interval, NamedElements, settle_elements, settle_ends, settle_interval, slide_ends}
use Rattle.ft_op.specs.Stages.{Stage, intervals_after_stage, shown_intervals}
use Rattle.ft_msg.specs.Acknowledgement.{renamed_names, renamed_stage}
use Rattle.ft_msg.specs.Content.{interval_record}
use Rattle.ft_laws_names.proofs.Beside.{Both, beside-both, beside-map, beside-rank, both-settled, each, ends, neither, next, same-map}
use Rattle.ft_laws_names.proofs.IntervalsAlike.{IntervalsBeside, NamesAlike, intervals-after}
use Rattle.ft_laws_names.proofs.Twins.{BesideList}

-- an element has the one name just where the element beside it has the other
abbrev pub IsOneNamed : ElementId → ElementId → ListElement → ListElement → Type 0
IsOneNamed a b x y = has_id a x ≡ has_id b y

-- only a sequenced element has the name
abbrev pub IsSequencedName : ElementId → Type 0
IsSequencedName a = (e : ListElement) → has_id a e ≡ is_sequenced e && has_id a e

pub sequenced-name : (e : ListElement) → is_sequenced e ≡ true → IsSequencedName (id e)
sequenced-name e h d = by e.ins d.ins h
  where
    by : (t u : Stamp) → (elim t [ Acked s c ↦ true | Local k ↦ false ]) ≡ true
        → same_id (id_of_stamp t e.nth) (id_of_stamp u d.nth) ≡ (elim u [ Acked s c ↦ true | Local k ↦ false ]) && same_id (id_of_stamp t e.nth) (id_of_stamp u d.nth)
    by (Acked s c) (Acked r b) g = refl
    by (Acked s c) (Local j) g = refl
    by (Local i) u g = absurd (cc)

-- two ends: both are detached, or they mean the same elements
pub data MeanOne (xs ys : List ListElement) : Option ElementId → Option ElementId → Type 0 where
  nowhere : MeanOne xs ys None None
  at_one : {a b : ElementId} → BesideList (IsOneNamed a b) xs ys → MeanOne xs ys (Some a) (Some b)

-- and the second one is that of a sequenced element
pub data MeanSequenced (xs ys : List ListElement) : Option ElementId → Option ElementId → Type 0 where
  nowhere : MeanSequenced xs ys None None
  at_sequenced : {a b : ElementId} → BesideList (IsOneNamed a b) xs ys → IsSequencedName b → MeanSequenced xs ys (Some a) (Some b)

-- what is known of an element and of the one beside it, which is the same after the acknowledgement of stage k
pub record IsSameAfter (k : ℕ) (xs ys : List ListElement) (x y : ListElement) : Type 0 where
  pub later : (j : ℕ) → k ≤ j → seen j x ≡ seen j y
  pub now : seen k x ≡ is_unremoved y
  pub name : BesideList (IsOneNamed (id x) (id y)) xs ys

module _ (k : ℕ) {xs ys : List ListElement} (same : BesideList (IsSameAfter k xs ys) xs ys) where
  settle-mean : (j : ℕ) → k ≤ j → {o p : Option ElementId} → MeanOne xs ys o p → MeanOne xs ys (settle xs j o) (settle ys j p)
  settle-mean j le MeanOne.nowhere = MeanOne.nowhere
  settle-mean j le (at_one {a = a} {b = b} m) = by
      (both-settled (has_id a) (has_id b) (λ x y q. q.1) (seen j) (seen j) (λ x y q. q.0.later j le) (beside-both same m) neither)
    where
      by : {o p : Option ListElement} → Both ListElement ListElement (λ x y. (IsSameAfter k xs ys x y × IsOneNamed a b x y) × (seen j x ≡ true)) o p
          → MeanOne xs ys (option_map id o) (option_map id p)
      by neither = MeanOne.nowhere
      by (each q) = at_one q.0.0.name

  slide-mean : {o p : Option ElementId} → MeanSequenced xs ys o p → MeanOne xs ys (settle xs k o) (slide ys p)
  slide-mean MeanSequenced.nowhere = MeanOne.nowhere
  slide-mean (at_sequenced {a = a} {b = b} m s) = by
      (both-settled (has_id a) (λ e. is_sequenced e && has_id b e) (λ x y q. q.1 ∙ s y) (seen k) is_unremoved (λ x y q. q.0.now) (beside-both same m) neither)
    where
      by : {o p : Option ListElement} → Both ListElement ListElement (λ x y. (IsSameAfter k xs ys x y × IsOneNamed a b x y) × (seen k x ≡ true)) o p
          → MeanOne xs ys (option_map id o) (option_map id p)
      by neither = MeanOne.nowhere
      by (each q) = at_one q.0.0.name

  number-mean : (j : ℕ) → k ≤ j → {o p : Option ElementId} → MeanOne xs ys o p → end_number j xs o ≡ end_number j ys p
  number-mean j le MeanOne.nowhere = refl
  number-mean j le (at_one {a = a} {b = b} m) = ap pos (beside-rank (has_id a) (has_id b) (λ x y q. q.1) (seen j) (seen j) (λ x y q. q.0.later j le) (beside-both same m))

  -- ---- intervals

  settled-mean : (j : ℕ) → k ≤ j → {is js : List Interval} → IntervalsBeside (MeanOne xs ys) is js → IntervalsBeside (MeanOne xs ys) (settle_ends xs j is) (settle_ends ys j js)
  settled-mean j le h = beside-map (settle_interval xs j) (settle_interval ys j)
      (λ i d q. record { label = q.label; id = q.id; start = settle-mean j le q.start; end = settle-mean j le q.end; props = q.props }) h

  -- the stage that is acknowledged: settled on the one side, slid on the other
  abbrev MeanOneSlid : Option ElementId → Option ElementId → Type 0
  MeanOneSlid o p = MeanOne xs ys o (slide ys p)

  settled-slid : {is js : List Interval} → IntervalsBeside (MeanSequenced xs ys) is js → IntervalsBeside MeanOneSlid (settle_ends xs k is) js
  settled-slid ends = ends
  settled-slid (next q qs) = next (record { label = q.label; id = q.id; start = slide-mean q.start; end = slide-mean q.end; props = q.props }) (settled-slid qs)

  slid-mean : {is js : List Interval} → IntervalsBeside MeanOneSlid is js → IntervalsBeside (MeanOne xs ys) is (slide_ends ys js)
  slid-mean ends = ends
  slid-mean (next q qs) = next (record { label = q.label; id = q.id; start = q.start; end = q.end; props = q.props }) (slid-mean qs)

  pub first-mean : (o : SubOperation) (own names : NamedElements) → ((op : TextOp) → o ≡ OnIntervals op → NamesAlike (MeanSequenced xs ys) own names)
      → {is js : List Interval} → IntervalsBeside (MeanSequenced xs ys) is js
      → IntervalsBeside (MeanOne xs ys) (intervals_after_stage o (settle_elements xs k own) (settle_ends xs k is)) (slide_ends ys (intervals_after_stage o names js))
  first-mean o own names n h =
      slid-mean (intervals-after MeanOneSlid o (settle_elements xs k own) names
      (λ op e. let m = n op e in record { first = slide-mean m.first; second = slide-mean m.second }) (settled-slid h))

  -- the numbers of the stages are at least k, and the names of interval operations mean the same elements
  abbrev pub AreAlike : (ElementId → ElementId) → List Stage → Type 0
  AreAlike f [] = Unit {0}
  AreAlike f (t ∷ ts) = (k ≤ t.stage) × ((op : TextOp) → t.sub_operation ≡ OnIntervals op → NamesAlike (MeanOne xs ys) t.names (renamed_names f t.names)) × AreAlike f ts

  -- the stages behind it
  pub shown-mean : (f : ElementId → ElementId) (ts : List Stage) → AreAlike f ts → (is js : List Interval) → IntervalsBeside (MeanOne xs ys) is js
      → IntervalsBeside (MeanOne xs ys) (shown_intervals xs is ts) (shown_intervals ys js (map (renamed_stage f) ts))
  shown-mean f [] a is js h = h
  shown-mean f (t ∷ ts) a is js h =
      shown-mean f ts a.2 _ _
      (intervals-after (MeanOne xs ys) t.sub_operation (settle_elements xs t.stage t.names) (settle_elements ys t.stage (renamed_names f t.names))
      (λ op o. let n = a.1 op o in record { first = settle-mean t.stage a.0 n.first; second = settle-mean t.stage a.0 n.second })
      (settled-mean t.stage a.0 h))

  pub records-mean : (j : ℕ) → k ≤ j → {is js : List Interval} → IntervalsBeside (MeanOne xs ys) is js → map (interval_record j xs) is ≡ map (interval_record j ys) js
  records-mean j le h = same-map (interval_record j xs) (interval_record j ys)
      (λ i d q. rw (q.label, q.id, q.props, number-mean j le q.start, number-mean j le q.end) refl) h
