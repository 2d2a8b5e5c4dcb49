-- Intervals of two lists side by side, whose ends stand at the same places.
use Rattle.std.proofs.Common.{◌≡◌, ℕ, Bool, true, false, cond, not, ◌&&◌, List, ◌∷◌, Option, Some, None, refl, sym, ◌∙◌, ap, subst}
use Rattle.std.specs.declared.cmp.Ordering.{Ordering}
use Rattle.std.specs.declared.cmp.Ordering.TheVariants.{Less, Equal, Greater}
use Rattle.std.specs.Option.{option_map}
use Rattle.ft_base.specs.declared.stamps.Stamp.{Stamp}
use Rattle.ft_base.specs.declared.stamps.Stamp.TheVariants.{Acked, Local}
use Rattle.ft_base.specs.Visibility.{is_acked}
use Rattle.ft_base.proofs.Booleans.{both}
use Rattle.std.specs.List.{list_any}
use Rattle.ft_op.specs.declared.operations.Ends.{Ends}
use Rattle.ft_op.specs.declared.operations.TextOp.{TextOp}
use Rattle.ft_op.specs.declared.operations.TextOp.TheVariants.{One, Group, IntervalAdd, IntervalChange, IntervalDelete}
use Rattle.ft_props.specs.Properties.{Characters, apply, put_rising}
use Rattle.ft_props.specs.Element.{ElementId, ListElement, SequencedId, has_id, id, id_of_stamp, is_sequenced, is_unremoved, stamps_of}
use Rattle.ft_props.specs.Slide.{slide}
use Rattle.ft_op.specs.Operation.{OnGrid, OnIntervals, OnText, SubOperation}
use Rattle.ft_op.specs.Intervals.{Interval, NamedElements, after_interval_operation, has_interval, interval_cmp, is_interval, settle_elements, settle_ends, settle_interval, slide_ends, slide_interval, with_ends}
use Rattle.ft_op.specs.Stages.{intervals_after_stage}
use Rattle.ft_laws_names.proofs.Beside.{Beside, Both, beside-any, beside-choice, beside-filter, beside-map, beside-more, both-settled, each, ends, neither, next}
use Rattle.ft_laws_names.proofs.Twins.{AreTwins, BesideList, EndsAlike, EndsBeside, StandAlike, at_names, detached, loose, named-places, on, same-meant, settle-alike, twin-unremoved}

-- ---- slid ends

-- two ends: both are detached, or their names are sequenced and stand at the same places
pub data SettledAlike (xs ys : List ListElement) : Option ElementId → Option ElementId → Type 0 where
  away : SettledAlike xs ys None None
  on_sequenced : {m n : ℕ} → StandAlike xs ys (SequencedId m) (SequencedId n) → SettledAlike xs ys (Some (SequencedId m)) (Some (SequencedId n))

pub settled-ends : {xs ys : List ListElement} {o p : Option ElementId} → SettledAlike xs ys o p → EndsAlike xs ys o p
settled-ends away = detached
settled-ends (on_sequenced s) = on s

pub settled-beside : {xs ys : List ListElement} {o p : Option ElementId} → SettledAlike xs ys o p → EndsBeside xs ys o p
settled-beside away = loose
settled-beside (on_sequenced s) = at_names s.twins

-- what keeps names standing keeps ends
pub ends-stay : {xs ys us vs : List ListElement} → ((a b : ElementId) → StandAlike xs ys a b → StandAlike us vs a b) → {o p : Option ElementId}
    → EndsAlike xs ys o p → EndsAlike us vs o p
ends-stay f detached = detached
ends-stay f (on {a = a} {b = b} s) = on (f a b s)

pub settled-stay : {xs ys us vs : List ListElement} → ((a b : ElementId) → StandAlike xs ys a b → StandAlike us vs a b) → {o p : Option ElementId}
    → SettledAlike xs ys o p → SettledAlike us vs o p
settled-stay f away = away
settled-stay f (on_sequenced {m = m} {n = n} s) = on_sequenced (f (SequencedId m) (SequencedId n) s)

unremoved-id : (x : ListElement) → is_unremoved x ≡ true → id x ≡ SequencedId x.nth
unremoved-id x h = stamped x.ins (both (is_acked x.ins) (not (list_any is_acked (stamps_of x).dels)) h).0
  where
    stamped : (t : Stamp) → is_acked t ≡ true → id_of_stamp t x.nth ≡ SequencedId x.nth
    stamped (Acked s c) g = refl
    stamped (Local k) g = (cc)

module _ {xs ys : List ListElement} (places : BesideList (AreTwins xs ys) xs ys) where
  slid-settled : {R : ListElement → ListElement → Type 0} → ((x y : ListElement) → R x y → AreTwins xs ys x y × (is_unremoved x ≡ true))
      → {o p : Option ListElement} → Both ListElement ListElement R o p → SettledAlike xs ys (option_map id o) (option_map id p)
  slid-settled f neither = away
  slid-settled f (each {x = x} {y = y} r) =
      let q = f x y r in
      let named = unremoved-id x q.1 in
      let other = unremoved-id y (sym (twin-unremoved x y q.0.twin) ∙ q.1) in
      subst (λ a. SettledAlike xs ys (Some a) (Some (id y))) (sym named) (subst (λ b. SettledAlike xs ys (Some (SequencedId x.nth)) (Some b)) (sym other)
      (on_sequenced (subst (λ a. StandAlike xs ys a (SequencedId y.nth)) named (subst (λ b. StandAlike xs ys (id x) b) other q.0.stand))))

  pub slide-settles : {o p : Option ElementId} → EndsBeside xs ys o p → SettledAlike xs ys (slide xs o) (slide ys p)
  slide-settles loose = away
  slide-settles (at_names {a = a} {b = b} h) =
      slid-settled (λ x y q. (q.0.0, q.1))
      (both-settled (λ e. is_sequenced e && has_id a e) (λ e. is_sequenced e && has_id b e) (λ x y q. same-meant places a b x y q) is_unremoved is_unremoved
      (λ x y q. twin-unremoved x y q.0.twin) (named-places places a b h) neither)

-- ---- intervals

-- two intervals of which the ends are so related
pub record IntervalAlike (E : Option ElementId → Option ElementId → Type 0) (i j : Interval) : Type 0 where
  pub label : i.label ≡ j.label
  pub id : i.id ≡ j.id
  pub start : E i.start j.start
  pub end : E i.end j.end
  pub props : i.props ≡ j.props

abbrev pub IntervalsBeside : (Option ElementId → Option ElementId → Type 0) → List Interval → List Interval → Type 0
IntervalsBeside E is js = Beside Interval Interval (IntervalAlike E) is js

pub record NamesAlike (E : Option ElementId → Option ElementId → Type 0) (a b : NamedElements) : Type 0 where
  pub first : E a.first b.first
  pub second : E a.second b.second

pub intervals-more : (E F : Option ElementId → Option ElementId → Type 0) → ((o p : Option ElementId) → E o p → F o p) → {is js : List Interval}
    → IntervalsBeside E is js → IntervalsBeside F is js
intervals-more E F f h = beside-more (λ i j q. record { label = q.label; id = q.id; start = f i.start j.start q.start; end = f i.end j.end q.end; props = q.props }) h

module _ (E : Option ElementId → Option ElementId → Type 0) where
  is_interval-alike : (label name : Characters) (i j : Interval) → IntervalAlike E i j → is_interval label name i ≡ is_interval label name j
  is_interval-alike label name i j q = rw (q.label, q.id) refl

  pub has_interval-alike : (label name : Characters) {is js : List Interval} → IntervalsBeside E is js → has_interval label name is ≡ has_interval label name js
  has_interval-alike label name h = beside-any (is_interval label name) (is_interval label name) (λ i j q. is_interval-alike label name i j q) h

  cmp-alike : (a b i j : Interval) → IntervalAlike E a b → IntervalAlike E i j → interval_cmp a i ≡ interval_cmp b j
  cmp-alike a b i j p q = rw (p.label, p.id, q.label, q.id) refl

  put-alike : (a b : Interval) → IntervalAlike E a b → {is js : List Interval} → IntervalsBeside E is js
      → IntervalsBeside E (put_rising interval_cmp a is) (put_rising interval_cmp b js)
  put-alike a b p ends = next p ends
  put-alike a b p (next {x = i} {y = j} {xs = is} {ys = js} q qs) = step (interval_cmp a i) (interval_cmp b j) (cmp-alike a b i j p q) (put-alike a b p qs)
    where
      step : (s t : Ordering) → s ≡ t → IntervalsBeside E (put_rising interval_cmp a is) (put_rising interval_cmp b js)
          → IntervalsBeside E (elim s [ Less ↦ a ∷ i ∷ is | Equal ↦ a ∷ is | Greater ↦ i ∷ put_rising interval_cmp a is ])
          (elim t [ Less ↦ b ∷ j ∷ js | Equal ↦ b ∷ js | Greater ↦ j ∷ put_rising interval_cmp b js ])
      step Less Less e r = next p (next q qs)
      step Equal Equal e r = next p qs
      step Greater Greater e r = next q r
      step Less Equal e r = (cc)
      step Less Greater e r = (cc)
      step Equal Less e r = (cc)
      step Equal Greater e r = (cc)
      step Greater Less e r = (cc)
      step Greater Equal e r = (cc)

  given-alike : (given : Option Ends) (a b : NamedElements) → NamesAlike E a b → (i j : Interval) → IntervalAlike E i j
      → IntervalAlike E (with_ends given a i) (with_ends given b j)
  given-alike None a b n i j q = q
  given-alike (Some g) a b n i j q = record { label = q.label; id = q.id; start = n.first; end = n.second; props = q.props }

  choice : (b c : Bool) → b ≡ c → (i j f g : Interval) → IntervalAlike E f g → IntervalAlike E i j → IntervalAlike E (cond b f i) (cond c g j)
  choice true true e i j f g p q = p
  choice false false e i j f g p q = q
  choice true false e i j f g p q = (cc)
  choice false true e i j f g p q = (cc)

  pub operation-alike : (op : TextOp) (a b : NamedElements) → NamesAlike E a b → {is js : List Interval} → IntervalsBeside E is js
      → IntervalsBeside E (after_interval_operation op a is) (after_interval_operation op b js)
  operation-alike (IntervalAdd label name given props) a b n {is} {js} h =
      beside-choice (has_interval label name is) (has_interval label name js) (has_interval-alike label name h) h
      (put-alike _ _ (record { label = refl; id = refl; start = n.first; end = n.second; props = refl }) h)
  operation-alike (IntervalChange label name given props) a b n h =
      beside-map _ _ (λ i j q. choice (is_interval label name i) (is_interval label name j) (is_interval-alike label name i j q) i j _ _
      (changed i j (given-alike given a b n i j q)) q) h
    where
      changed : (i j : Interval) → IntervalAlike E (with_ends given a i) (with_ends given b j)
          → IntervalAlike E (record (with_ends given a i) { props = apply (with_ends given a i).props props })
          (record (with_ends given b j) { props = apply (with_ends given b j).props props })
      changed i j q = record { label = q.label; id = q.id; start = q.start; end = q.end; props = ap (λ ps. apply ps props) q.props }
  operation-alike (IntervalDelete label name) a b n h = beside-filter _ _ (λ i j q. ap not (is_interval-alike label name i j q)) h
  operation-alike (One op) a b n h = h
  operation-alike (Group ops) a b n h = h

-- the names of an interval operation's stage
pub intervals-after : (E : Option ElementId → Option ElementId → Type 0) (o : SubOperation) (a b : NamedElements)
    → ((op : TextOp) → o ≡ OnIntervals op → NamesAlike E a b) → {is js : List Interval} → IntervalsBeside E is js
    → IntervalsBeside E (intervals_after_stage o a is) (intervals_after_stage o b js)
intervals-after E (OnText op) a b n h = h
intervals-after E (OnIntervals op) a b n h = operation-alike E op a b (n op refl) h
intervals-after E (OnGrid op) a b n h = h

module _ {xs ys : List ListElement} (places : BesideList (AreTwins xs ys) xs ys) where
  pub names-settle : (k : ℕ) (a b : NamedElements) → NamesAlike (EndsBeside xs ys) a b → NamesAlike (EndsAlike xs ys) (settle_elements xs k a) (settle_elements ys k b)
  names-settle k a b n = record { first = settle-alike places k n.first; second = settle-alike places k n.second }

  pub intervals-settle : (k : ℕ) {is js : List Interval} → IntervalsBeside (EndsBeside xs ys) is js → IntervalsBeside (EndsAlike xs ys) (settle_ends xs k is) (settle_ends ys k js)
  intervals-settle k h = beside-map (settle_interval xs k) (settle_interval ys k)
      (λ i j q. record { label = q.label; id = q.id; start = settle-alike places k q.start; end = settle-alike places k q.end; props = q.props }) h

  pub intervals-slide : {is js : List Interval} → IntervalsBeside (EndsBeside xs ys) is js → IntervalsBeside (SettledAlike xs ys) (slide_ends xs is) (slide_ends ys js)
  intervals-slide h = beside-map (slide_interval xs) (slide_interval ys)
      (λ i j q. record { label = q.label; id = q.id; start = slide-settles places q.start; end = slide-settles places q.end; props = q.props }) h
