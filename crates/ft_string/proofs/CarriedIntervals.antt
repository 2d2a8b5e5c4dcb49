-- The intervals that are shown, with places here and with names there: here an end is settled at each stage up to the last, there
-- only at those that are pending, and between these nothing is seen otherwise.
use Rattle.std.proofs.Common.{◌≡◌, ℕ, zero, suc, ◌+◌, ◌-◌, ◌≤◌, ◌<◌, Bool, true, false, not, ◌||◌, List, [], ◌∷◌, Option, Some, None, refl, sym, ◌∙◌, ap, subst, arith, map, pos}
use Rattle.std.specs.List.{list_all}
use Rattle.ft_base.proofs.Booleans.{both}
use Rattle.ft_base.specs.Scan.{len}
use Rattle.ft_block.specs.declared.leaves.LenView.TheVariants.{Stage as at_stage}
use Rattle.ft_interval_store.specs.declared.intervals.EndPair.{EndPair}
use Rattle.ft_interval_store.specs.declared.intervals.Interval.{Interval}
use Rattle.ft_interval_store.specs.declared.pending.Operation.{Operation}
use Rattle.ft_interval_store.specs.Ends.{map_ends}
use Rattle.ft_interval_store.specs.Intervals.{NamesRise, after_operation, changed_interval}
use Rattle.ft_interval_store.specs.Shown.{carried, carried_end, carried_interval, last as top, number_at, settled_end, settled_interval, shown_from, shown_intervals as placed_shown, shown_record}
use Rattle.ft_interval_store.specs.State.{CollectionsState, placed, text_elements, with_mapped_ends}
use Rattle.ft_interval_store.specs.Ends.{places_of_ends}
use Rattle.ft_interval_store.proofs.OneInterval.{NamesRise-after, NamesRise-map}
use Rattle.ft_tree_leaves.specs.declared.text.TextContent.{TextContent}
use Rattle.ft_tree_leaves.specs.Elements.{seen_in}
use Rattle.ft_msg.specs.Content.{interval_record}
use Rattle.ft_msg.specs.Indexed.{IndexedInterval, IndexedStage, indexed_interval, indexed_stage, place_in_list}
use Rattle.ft_op.specs.declared.operations.Ends.{Ends}
use Rattle.ft_op.specs.declared.operations.TextOp.{TextOp}
use Rattle.ft_op.specs.Document.{Document}
use Rattle.ft_op.specs.Intervals.{NamedElements, after_interval_operation, settle_elements, settle_ends, settle_interval, with_ends}
use Rattle.ft_op.specs.Intervals.{Interval as NamedInterval}
use Rattle.ft_op.specs.Operation.{OnGrid, OnIntervals, OnText, SubOperation}
use Rattle.ft_op.specs.Stages.{Stage, shown_intervals}
use Rattle.ft_props.specs.Element.{ElementId, ListElement, has_id, is_unremoved, seen}
use Rattle.ft_props.specs.Properties.{PropertySet, apply}
use Rattle.ft_props.specs.Slide.{end_number, settle}
use Rattle.ft_laws_agreement.specs.Reconnecting.{StagesRiseTo, has_marks_of, inserts_text, removes_text}
use Rattle.ft_laws_agreement.specs.Sequencing.{Each}
use Rattle.ft_laws_agreement.specs.Trimming.{are_distinct_elements, has_ends_on, is_end_on}
use Rattle.ft_laws_agreement.proofs.AfterOwnJoin.{unremoved-seen}
use Rattle.ft_laws_agreement.proofs.FollowingOrder.{rank-same}
use Rattle.ft_laws_agreement.proofs.ListSteps.{each-all}
use Rattle.ft_laws_agreement.proofs.OwnNames.{all-weaker}
use Rattle.ft_laws_agreement.proofs.SettledEnds.{is_end_at, is_left, left-first, left-next, named-weaker, seen-same, settle-at, settle-stays}
use Rattle.ft_laws_names.specs.WellNamed.{AreSettledIn, RiseTo, StandsIn}
use Rattle.ft_laws_names.proofs.Beside.{Beside, ends, next, same-map}
use Rattle.ft_named.proofs.Bares.{AreElements, from-bare}
use Rattle.ft_named.proofs.Changed.{is_up_to, seen-later}
use Rattle.ft_named.proofs.Lists.{each-weaker}
use Rattle.ft_named.proofs.OwnSteps.{AreUpTo}
use Rattle.ft_named.proofs.Slid.{settle-stands}
use Rattle.ft_tree.specs.State.{TreeState}
use Rattle.ft_text.specs.Texts.{TextElements}
use Rattle.ft_string.specs.Bare.{text_content}
use Rattle.ft_string.specs.Holds.{HoldsText, IsTextSound, interval_stages}
use Rattle.ft_string.specs.Parts.{state_of}
use Rattle.ft_string.specs.State.{interval_stage, interval_with_places}
use Rattle.ft_string.specs.declared.pending.PendingOp.{PendingOp}
use Rattle.ft_string.proofs.Documents.{settled-stands}
use Rattle.ft_string.proofs.GivenIntervals.{end-numbered, end-settled}
use Rattle.ft_string.proofs.RisingBeside.{operation-beside}
use Rattle.ft_string.proofs.Standing.{sound-up_to}
use Rattle.ft_string.proofs.Stages.{AreNamesIn, all-stage-names}

-- all stages that are left, as the laws on views have it
rises : (low last : ℕ) (ts : List Stage) → RiseTo low last ts → StagesRiseTo low ts last
rises low last [] h = h
rises low last (t ∷ ts) h = (h.0, rises t.stage last ts h.1)

-- the stages from m on up to k see the ends that stage m sees
abbrev Quiet : List ListElement → ℕ → ℕ → Type 0
Quiet es m k = (j : ℕ) → m ≤ j → j ≤ k → (o : Option ElementId) → is_end_at m es o ≡ true → is_end_at j es o ≡ true

implied : (a b : Bool) → b ≡ a → not a || b ≡ true
implied true b h = h
implied false b h = refl

lower : (ts : List Stage) (j k l : ℕ) → j ≤ k → StagesRiseTo k ts l → StagesRiseTo j ts l
lower [] j k l up h = omega arith
lower (t ∷ ts) j k l up h = (omega (arith, up, h.0), h.1)

-- they do where nothing of a stage in between is pending
quiet-left : (es : List ListElement) (ts : List Stage) (m k l : ℕ) → StagesRiseTo k ts l
    → list_all (is_left inserts_text removes_text ts m) es ≡ true → Quiet es m k
quiet-left es ts m k l rise left j low up None h = refl
quiet-left es ts m k l rise left j low up (Some a) h =
    named-weaker (seen m) (seen j) a es
    (all-weaker (is_left inserts_text removes_text ts m) (λ e. not (seen m e) || seen j e)
    (λ e g. implied (seen m e) (seen j e) (seen-same inserts_text removes_text ts m j l low (lower ts j k l up rise) e g)) es left) h

module _ (xs : TextElements) (es : List ListElement) where
  -- an end, settled up to stage n, is carried on to stage m where the name is then, whose element that stage sees
  pub record EndAt (n m : ℕ) (p : Option ℕ) (o : Option ElementId) : Type 0 where
    pub is : carried_end xs n (m - n) p ≡ place_in_list es o
    pub stands : StandsIn es o
    pub sees : is_end_at m es o ≡ true

  -- the same of an interval
  pub record IntervalAt (n m : ℕ) (i : Interval ℕ) (d : NamedInterval) : Type 0 where
    pub label : i.label ≡ d.label
    pub id : i.id ≡ d.id
    pub props : i.props ≡ d.props
    pub start : EndAt n m i.ends.start d.start
    pub end : EndAt n m i.ends.end d.end

  abbrev pub AreAt : ℕ → ℕ → List (Interval ℕ) → List NamedInterval → Type 0
  AreAt n m is ds = Beside (Interval ℕ) NamedInterval (IntervalAt n m) is ds

-- an interval of the same name and properties, with the places of its ends
abbrev pub IsAlike : List ListElement → Interval ℕ → NamedInterval → Type 0
IsAlike es i d = interval_with_places i ≡ indexed_interval es d

abbrev pub AreAlike : List ListElement → List (Interval ℕ) → List NamedInterval → Type 0
AreAlike es us ds = Beside (Interval ℕ) NamedInterval (IsAlike es) us ds

module _ (xs : TextElements) (es : List ListElement) (once : (a : ElementId) → len (has_id a) es ≤ 1) (distinct : are_distinct_elements es ≡ true)
    (b : AreElements text_content xs es) where
  -- ---- one end

  end-stays : (k : ℕ) (o : Option ElementId) → StandsIn es o → is_end_at k es o ≡ true → settled_end xs k (place_in_list es o) ≡ place_in_list es o
  end-stays k o s h = end-settled k xs es once b o s ∙ ap (place_in_list es) (settle-stays k es distinct o h)

  carried-stays : (d m : ℕ) (o : Option ElementId) → StandsIn es o → ((j : ℕ) → m ≤ j → j ≤ m + d → is_end_at j es o ≡ true)
      → carried_end xs m d (place_in_list es o) ≡ place_in_list es o
  carried-stays zero m o s h = refl
  carried-stays (suc d) m o s h =
      ap (carried_end xs (suc m) d) (end-stays (suc m) o s (h (suc m) (omega arith) (omega arith)))
      ∙ carried-stays d (suc m) o s (λ j l u. h j (omega arith) (omega arith))

  carried-sum : (n m a : ℕ) (p : Option ℕ) → carried_end xs a (n + m) p ≡ carried_end xs (a + n) m (carried_end xs a n p)
  carried-sum zero m a p =
      let sum : 0 + m ≡ m = omega arith in
      let at : a ≡ a + 0 = omega arith in
      ap (λ k. carried_end xs a k p) sum ∙ ap (λ k. carried_end xs k m p) at
  carried-sum (suc n) m a p =
      let sum : suc n + m ≡ suc (n + m) = omega arith in
      let at : suc a + n ≡ a + suc n = omega arith in
      ap (λ k. carried_end xs a k p) sum ∙ carried-sum n m (suc a) (settled_end xs (suc a) p) ∙ ap (λ k. carried_end xs k m (carried_end xs a (suc n) p)) at

  module _ (n m d : ℕ) (below : n ≤ m) (quiet : Quiet es m (m + d)) (p : Option ℕ) (o : Option ElementId) (e : EndAt xs es n m p o) where
    -- it stays through such stages
    pub later : carried_end xs n (m + d - n) p ≡ place_in_list es o
    later =
        let sum : m + d - n ≡ (m - n) + d = omega (arith, below) in
        let at : n + (m - n) ≡ m = omega (arith, below) in
        ap (λ c. carried_end xs n c p) sum ∙ carried-sum (m - n) d n p ∙ ap (λ a. carried_end xs a d (carried_end xs n (m - n) p)) at
        ∙ ap (carried_end xs m d) e.is ∙ carried-stays d m o e.stands (λ j l u. quiet j l u o e.sees)

    -- and settles at the next one
    pub settles : (k : ℕ) → suc (m + d) ≡ k → EndAt xs es n k p (settle es k o)
    settles k is = record {
      is =
          let sum : k - n ≡ (m + d - n) + suc zero = omega (arith, below, is) in
          let at : suc (n + (m + d - n)) ≡ k = omega (arith, below, is) in
          ap (λ c. carried_end xs n c p) sum ∙ carried-sum (m + d - n) (suc zero) n p ∙ ap (λ j. settled_end xs j (carried_end xs n (m + d - n) p)) at
          ∙ ap (settled_end xs k) later ∙ end-settled k xs es once b o e.stands;
      stands = settle-stands es k o;
      sees = settle-at k es o;
    }

  -- an end that is carried so far
  pub now : (n k : ℕ) (p : Option ℕ) (o : Option ElementId) → EndAt xs es n k p o → EndAt xs es k k (carried_end xs n (k - n) p) o
  now n k p o e = record {
    is = let none : k - k ≡ 0 = omega arith in ap (λ c. carried_end xs k c (carried_end xs n (k - n) p)) none ∙ e.is;
    stands = e.stands;
    sees = e.sees;
  }

  -- the end of an operation of this stage
  pub given-end : (k : ℕ) (p : Option ℕ) (o : Option ElementId) → p ≡ place_in_list es o → StandsIn es o → EndAt xs es k k (settled_end xs k p) (settle es k o)
  given-end k p o e s = record {
    is =
        let none : k - k ≡ 0 = omega arith in
        ap (λ c. carried_end xs k c (settled_end xs k p)) none ∙ ap (settled_end xs k) e ∙ end-settled k xs es once b o s;
    stands = settle-stands es k o;
    sees = settle-at k es o;
  }

  -- ---- one interval

  module _ (n m d k : ℕ) (below : n ≤ m) (quiet : Quiet es m (m + d)) (is : suc (m + d) ≡ k) where
    interval-settles : (i : Interval ℕ) (j : NamedInterval) → IntervalAt xs es n m i j → IntervalAt xs es n k i (settle_interval es k j)
    interval-settles i j h = record {
      label = h.label;
      id = h.id;
      props = h.props;
      start = settles n m d below quiet i.ends.start j.start h.start k is;
      end = settles n m d below quiet i.ends.end j.end h.end k is;
    }

    pub all-settle : {us : List (Interval ℕ)} {ds : List NamedInterval} → AreAt xs es n m us ds → AreAt xs es n k us (settle_ends es k ds)
    all-settle ends = ends
    all-settle (next {x = i} {y = j} q qs) = next (interval-settles i j q) (all-settle qs)

  pub all-now : (n k : ℕ) {us : List (Interval ℕ)} {ds : List NamedInterval} → AreAt xs es n k us ds → AreAt xs es k k (carried xs n k us) ds
  all-now n k ends = ends
  all-now n k (next {x = i} {y = j} q qs) = next (record {
    label = q.label;
    id = q.id;
    props = q.props;
    start = now n k i.ends.start j.start q.start;
    end = now n k i.ends.end j.end q.end;
  }) (all-now n k qs)

  -- an operation
  module _ (k : ℕ) (places : EndPair ℕ) (names : NamedElements) (start : EndAt xs es k k places.start names.first)
      (end : EndAt xs es k k places.end names.second) where
    changed : (given : Option Ends) (props : PropertySet) (i : Interval ℕ) (j : NamedInterval) → IntervalAt xs es k k i j
        → IntervalAt xs es k k (changed_interval given places props i) (let d = with_ends given names j in record d { props = apply d.props props })
    changed None props i j h =
        record { label = h.label; id = h.id; props = ap (λ ps. apply ps props) h.props; start = h.start; end = h.end }
    changed (Some given) props i j h =
        record { label = h.label; id = h.id; props = ap (λ ps. apply ps props) h.props; start = start; end = end }

    pub operation-at : (op : TextOp) {us : List (Interval ℕ)} {ds : List NamedInterval} → NamesRise us → AreAt xs es k k us ds
        → AreAt xs es k k (after_operation op places us) (after_interval_operation op names ds)
    operation-at op r h =
        operation-beside (IntervalAt xs es k k) (λ i j q. q.label) (λ i j q. q.id) op places names
        (λ label name props. record { label = refl; id = refl; props = refl; start = start; end = end }) changed r h

  -- ---- what is shown

  all-later : (n m d : ℕ) (k : ℕ) → m + d ≡ k → n ≤ m → Quiet es m (m + d) → {us : List (Interval ℕ)} {ds : List NamedInterval}
      → AreAt xs es n m us ds → AreAlike es (carried xs n k us) ds
  all-later n m d k is below quiet ends = ends
  all-later n m d k is below quiet (next {x = i} {y = j} q qs) =
      let label = q.label in
      let name = q.id in
      let props = q.props in
      let start = ap (λ c. carried_end xs n (c - n) i.ends.start) (sym is) ∙ later n m d below quiet i.ends.start j.start q.start in
      let finish = ap (λ c. carried_end xs n (c - n) i.ends.end) (sym is) ∙ later n m d below quiet i.ends.end j.end q.end in
      next (rw (label, name, props, start, finish) refl) (all-later n m d k is below quiet qs)

module _ (xs : TextElements) (last : ℕ) (doc : Document) (once : (a : ElementId) → len (has_id a) doc.text.items ≤ 1) (distinct : are_distinct_elements doc.text.items ≡ true)
    (fits : last < 18446744073709551616) (b : AreElements text_content xs doc.text.items) where
  abbrev es : List ListElement
  es = doc.text.items

  -- ---- all stages

  -- with these stages left behind stage m, what is shown is alike
  abbrev ShowsAlike : List Stage → Type 0
  ShowsAlike ts = (n m : ℕ) (us : List Operation) (is : List (Interval ℕ)) (ds : List NamedInterval) → n ≤ m
      → list_all (is_left inserts_text removes_text ts m) es ≡ true → RiseTo m last ts → Each (λ t. AreNamesIn es t.sub_operation t.names) ts
      → map interval_stage us ≡ map (indexed_stage doc) (interval_stages ts) → NamesRise is → AreAt xs es n m is ds
      → AreAlike es (shown_from xs n us is) (shown_intervals es ds ts)

  module _ (k : ℕ) (o : SubOperation) (names : NamedElements) (ts : List Stage) (n m : ℕ) (is : List (Interval ℕ)) (ds : List NamedInterval) (low : n ≤ m)
      (left : list_all (is_left inserts_text removes_text (record { stage = k; sub_operation = o; names = names } ∷ ts) m) es ≡ true)
      (rise : RiseTo m last (record { stage = k; sub_operation = o; names = names } ∷ ts)) (at : AreAt xs es n m is ds) where
    settled : AreAt xs es n k is (settle_ends es k ds)
    settled =
        let above : m < k = rise.0 in
        all-settle xs es once distinct b n m (k - suc m) k low
        (quiet-left es (record { stage = k; sub_operation = o; names = names } ∷ ts) m (m + (k - suc m)) last (omega (arith, above), rises k last ts rise.1) left)
        (omega (arith, above)) at

    left-behind : list_all (is_left inserts_text removes_text ts k) es ≡ true
    left-behind =
        all-weaker (is_left inserts_text removes_text (record { stage = k; sub_operation = o; names = names } ∷ ts) m) (is_left inserts_text removes_text ts k)
        (λ e g. left-next inserts_text removes_text (record { stage = k; sub_operation = o; names = names }) ts m e rise.0 g) es left

  -- the first operation is that of the stage
  record IsFirst (u : Operation) (us : List Operation) (k : ℕ) (op : TextOp) (names : NamedElements) (ts : List Stage) : Type 0 where
    pub stage : u.stage ≡ k
    pub op_is : u.op ≡ op
    pub start : u.ends.start ≡ place_in_list es names.first
    pub end : u.ends.end ≡ place_in_list es names.second
    pub rest : map interval_stage us ≡ map (indexed_stage doc) ts

  first-op : (u : Operation) (us : List Operation) (k : ℕ) (op : TextOp) (names : NamedElements) (ts : List Stage)
      → map interval_stage (u ∷ us) ≡ indexed_stage doc (record { stage = k; sub_operation = OnIntervals op; names = names }) ∷ map (indexed_stage doc) ts
      → IsFirst u us k op names ts
  first-op u us k op names ts h =
      let first : interval_stage u ≡ indexed_stage doc (record { stage = k; sub_operation = OnIntervals op; names = names }) = (cc) in
      let rest : map interval_stage us ≡ map (indexed_stage doc) ts = (cc) in
      let same : OnIntervals u.op ≡ OnIntervals op = ap (λ (s : IndexedStage). s.sub_operation) first in
      record {
        stage = ap (λ (s : IndexedStage). s.stage) first;
        op_is = (cc);
        start = ap (λ (s : IndexedStage). s.places.first) first;
        end = ap (λ (s : IndexedStage). s.places.second) first;
        rest = rest;
      }

  shown-step : (k : ℕ) (o : SubOperation) (names : NamedElements) (ts : List Stage) → ShowsAlike ts
      → ShowsAlike (record { stage = k; sub_operation = o; names = names } ∷ ts)
  shown-step k (OnText op) names ts go n m us is ds low left rise named h r at =
      go n k us is (settle_ends es k ds) (let above = rise.0 in omega (arith, low)) (left-behind k (OnText op) names ts n m is ds low left rise at) rise.1 named.1 h r
      (settled k (OnText op) names ts n m is ds low left rise at)
  shown-step k (OnGrid op) names ts go n m us is ds low left rise named h r at =
      go n k us is (settle_ends es k ds) (let above = rise.0 in omega (arith, low)) (left-behind k (OnGrid op) names ts n m is ds low left rise at) rise.1 named.1 h r
      (settled k (OnGrid op) names ts n m is ds low left rise at)
  shown-step k (OnIntervals op) names ts go n m [] is ds low left rise named h r at = (cc)
  shown-step k (OnIntervals op) names ts go n m (u ∷ us) is ds low left rise named h r at =
      let f = first-op u us k op names (interval_stages ts) h in
      let places : EndPair ℕ = map_ends (settled_end xs k) u.ends in
      let fs = after_interval_operation op (settle_elements es k names) (settle_ends es k ds) in
      let up : NamesRise (carried xs n k is) = NamesRise-map (carried_interval xs n k) is (λ i. refl) r in
      let done = operation-at xs es once distinct b k places (settle_elements es k names)
      (given-end xs es once distinct b k u.ends.start names.first f.start named.0.0) (given-end xs es once distinct b k u.ends.end names.second f.end named.0.1) op up
      (all-now xs es once distinct b n k (settled k (OnIntervals op) names ts n m is ds low left rise at)) in
      let shown = go k k us (after_operation op places (carried xs n k is)) fs (omega arith) (left-behind k (OnIntervals op) names ts n m is ds low left rise at) rise.1 named.1
      f.rest (NamesRise-after op places (carried xs n k is) up) done in
      subst (λ j. AreAlike es (shown_from xs j us (after_operation u.op (map_ends (settled_end xs j) u.ends) (carried xs n j is))) (shown_intervals es fs ts)) (sym f.stage)
      (subst (λ w. AreAlike es (shown_from xs k us (after_operation w places (carried xs n k is))) (shown_intervals es fs ts)) (sym f.op_is) shown)

  shown-all : (ts : List Stage) → ShowsAlike ts
  shown-all [] n m [] is ds low left rise named h r at =
      let below : m ≤ 18446744073709551615 = omega (arith, fits, rise) in
      all-later xs es once distinct b n m (18446744073709551615 - m) 18446744073709551615 (omega (arith, below)) low
      (quiet-left es [] m (m + (18446744073709551615 - m)) (m + (18446744073709551615 - m)) (omega arith) left) at
  shown-all [] n m (u ∷ us) is ds low left rise named h r at = (cc)
  shown-all (t ∷ ts) n m us is ds low left rise named h r at = shown-step t.stage t.sub_operation t.names ts (shown-all ts) n m us is ds low left rise named h r at

  -- ---- from the acknowledged ones on

  first-end : (p : Option ℕ) (o : Option ElementId) → p ≡ place_in_list es o → StandsIn es o → is_end_at 0 es o ≡ true
      → EndAt xs es 0 0 (settled_end xs 0 p) o
  first-end p o e s h = record { is = ap (settled_end xs 0) e ∙ end-stays xs es once distinct b 0 o s h; stands = s; sees = h }

  first-all : (seen-first : (o : Option ElementId) → is_end_on es o ≡ true → is_end_at 0 es o ≡ true) (is : List (Interval ℕ)) (ds : List NamedInterval)
      → map interval_with_places is ≡ map (indexed_interval es) ds → AreSettledIn es ds → list_all (has_ends_on es) ds ≡ true
      → AreAt xs es 0 0 (map (settled_interval xs 0) is) ds
  first-all f [] [] e s h = ends
  first-all f [] (d ∷ ds) e s h = (cc)
  first-all f (i ∷ is) [] e s h = (cc)
  first-all f (i ∷ is) (d ∷ ds) e s h =
      let first : interval_with_places i ≡ indexed_interval es d = (cc) in
      let rest : map interval_with_places is ≡ map (indexed_interval es) ds = (cc) in
      let p = both (has_ends_on es d) (list_all (has_ends_on es) ds) h in
      let q = both (is_end_on es d.start) (is_end_on es d.end) p.0 in
      next (record {
        label = ap (λ (j : IndexedInterval). j.label) first;
        id = ap (λ (j : IndexedInterval). j.id) first;
        props = ap (λ (j : IndexedInterval). j.props) first;
        start = first-end i.ends.start d.start (ap (λ (j : IndexedInterval). j.ends.first) first) (settled-stands es d.start s.0.0) (f d.start q.0);
        end = first-end i.ends.end d.end (ap (λ (j : IndexedInterval). j.ends.second) first) (settled-stands es d.end s.0.1) (f d.end q.1);
      }) (first-all f is ds rest s.1 p.1)

  -- ---- as they are shown

  module _ (few : len (seen_in (at_stage top)) xs ≤ 9223372036854775807) (up : AreUpTo last es) where
    number-alike : (p : Option ℕ) (o : Option ElementId) → p ≡ place_in_list es o → number_at xs top p ≡ end_number last es o
    number-alike p o e = ap (number_at xs top) e ∙ end-numbered top xs es once b few o ∙ same o
      where
        same : (q : Option ElementId) → end_number top es q ≡ end_number last es q
        same None = refl
        same (Some a) = ap pos (rank-same (has_id a) (seen top) (seen last) es
            (each-weaker (λ e g. seen-later last 18446744073709551615 (omega (arith, fits)) e g) es (each-all (is_up_to last) es up)))

    pub record-alike : (i : Interval ℕ) (d : NamedInterval) → IsAlike es i d → shown_record xs i ≡ interval_record last es d
    record-alike i d q =
        let label = ap (λ (j : IndexedInterval). j.label) q in
        let name = ap (λ (j : IndexedInterval). j.id) q in
        let sets = ap (λ (j : IndexedInterval). j.props) q in
        let start = number-alike i.ends.start d.start (ap (λ (j : IndexedInterval). j.ends.first) q) in
        let finish = number-alike i.ends.end d.end (ap (λ (j : IndexedInterval). j.ends.second) q) in
        rw (label, name, sets, start, finish) refl

-- the intervals that a text shows are those of the document that it holds, with places for names
pub all-alike : (tree : TreeState TextContent) (c : CollectionsState) (ops : List PendingOp) (given last : ℕ) (usable : Bool)
    (doc : Document) (stages : List Stage)
    → IsTextSound last doc stages → HoldsText (state_of tree c ops given usable) doc stages → NamesRise c.acked
    → AreAlike doc.text.items (placed_shown (text_elements tree) (placed tree.refs c).acked (placed tree.refs c).pending)
    (shown_intervals doc.text.items doc.intervals stages)
all-alike tree c ops given last usable doc stages sound holds names =
    let xs = text_elements tree in
    let es = doc.text.items in
    let b = from-bare text_content xs es holds.elements in
    let once = sound.list.once in
    let distinct = sound.place.distinct in
    let is = (placed tree.refs c).acked in
    let left = all-weaker (has_marks_of inserts_text removes_text stages) (is_left inserts_text removes_text stages 0)
    (left-first inserts_text removes_text stages) es sound.place.marks in
    let up : NamesRise (map (settled_interval xs 0) is) =
    NamesRise-map (settled_interval xs 0) is (λ i. refl) (NamesRise-map (with_mapped_ends (places_of_ends tree.refs)) c.acked (λ i. refl) names) in
    shown-all xs last doc once distinct sound.fits b stages 0 0 (placed tree.refs c).pending (map (settled_interval xs 0) is) doc.intervals (omega arith) left sound.rise
    (all-stage-names doc stages sound.names) holds.interval_ops up
    (first-all xs last doc once distinct sound.fits b first is doc.intervals holds.intervals sound.intervals sound.ends)
  where
    first : (o : Option ElementId) → is_end_on doc.text.items o ≡ true → is_end_at 0 doc.text.items o ≡ true
    first None h = refl
    first (Some a) h =
        named-weaker is_unremoved (seen 0) a doc.text.items
        (all-weaker (has_marks_of inserts_text removes_text stages) (λ e. not (is_unremoved e) || seen 0 e)
        (unremoved-seen inserts_text removes_text stages last (rises 0 last stages sound.rise) doc.text sound.place) doc.text.items sound.place.marks) h

-- and so are their records
pub intervals-alike : (tree : TreeState TextContent) (c : CollectionsState) (ops : List PendingOp) (given last : ℕ) (usable : Bool)
    (doc : Document) (stages : List Stage)
    → IsTextSound last doc stages → HoldsText (state_of tree c ops given usable) doc stages → NamesRise c.acked
    → len (seen_in (at_stage top)) (text_elements tree) ≤ 9223372036854775807
    → map (shown_record (text_elements tree)) (placed_shown (text_elements tree) (placed tree.refs c).acked (placed tree.refs c).pending)
    ≡ map (interval_record last doc.text.items) (shown_intervals doc.text.items doc.intervals stages)
intervals-alike tree c ops given last usable doc stages sound holds names few =
    same-map (shown_record (text_elements tree)) (interval_record last doc.text.items)
    (record-alike (text_elements tree) last doc sound.list.once sound.place.distinct sound.fits (from-bare text_content (text_elements tree) doc.text.items holds.elements) few
    (sound-up_to last doc stages sound)) (all-alike tree c ops given last usable doc stages sound holds names)
