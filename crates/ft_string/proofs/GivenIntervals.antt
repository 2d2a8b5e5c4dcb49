-- What giving an edit on an interval makes of a whole shared text: its ends are settled.
use Rattle.std.proofs.Common.{◌≡◌, ℕ, zero, suc, ◌≤◌, ◌<◌, Bool, true, false, cond, min, nat_eq, List, [], ◌∷◌, ◌++◌, Option, Some, None, refl, sym, ◌∙◌, ap, arith, map, flat_map, option_map, append_assoc, pos}
use Rattle.std.proofs.lemmas.Grind.{flat_map-append}
use Rattle.std.proofs.lemmas.Bool.Decides.{nat_tests}
use Rattle.ft_base.specs.Scan.{len, one_more_if}
use Rattle.ft_block.specs.declared.leaves.LenView.TheVariants.{Stage as at_stage}
use Rattle.ft_interval_store.specs.declared.intervals.EndPair.{EndPair}
use Rattle.ft_interval_store.specs.declared.pending.Operation.{Operation}
use Rattle.ft_interval_store.specs.Ends.{map_ends}
use Rattle.ft_interval_store.specs.Shown.{number_at, regenerated, settled_end}
use Rattle.ft_interval_store.specs.State.{CollectionsState, is_at_stage, operation_at, placed_operations, text_elements, with_mapped_names}
use Rattle.ft_tree_leaves.specs.declared.text.TextContent.{TextContent}
use Rattle.ft_tree_leaves.specs.Elements.{seen_in}
use Rattle.ft_tree_leaves.specs.Places.{seen_before}
use Rattle.ft_msg.specs.Indexed.{IndexedStage, indexed_stage, place_in_list}
use Rattle.ft_msg.specs.Reconnection.{carried_stage}
use Rattle.ft_op.specs.declared.operations.TextOp.{TextOp}
use Rattle.ft_op.specs.declared.operations.TextOp.TheVariants.{Group, IntervalAdd, IntervalChange, IntervalDelete, One}
use Rattle.ft_op.specs.declared.operations.ChannelOp.TheVariants.{Text}
use Rattle.ft_op.specs.Document.{Document}
use Rattle.ft_op.specs.Intervals.{NamedElements, settle_elements}
use Rattle.ft_op.specs.Operation.{OnIntervals}
use Rattle.ft_op.specs.Pieces.{interval_piece, op_of, pieces}
use Rattle.ft_op.specs.Stages.{Stage}
use Rattle.ft_props.specs.Element.{ElementId, ListElement, has_id, seen}
use Rattle.ft_props.specs.Slide.{end_number, settle}
use Rattle.ft_laws_agreement.specs.Sequencing.{Each}
use Rattle.ft_laws_names.specs.WellNamed.{StandsIn}
use Rattle.ft_tree.specs.State.{TreeState}
use Rattle.ft_named.specs.Bare.{bare}
use Rattle.ft_named.proofs.Bares.{AreElements, IsElement, from-bare, seen-alike}
use Rattle.ft_named.proofs.Lists.{filter-append}
use Rattle.ft_named.proofs.Placed.{name_place, place-settled, rank-place}
use Rattle.ft_text.specs.Texts.{TextElements}
use Rattle.ft_string.specs.Bare.{text_content}
use Rattle.ft_string.specs.Calls.{HoldsGiven}
use Rattle.ft_msg.specs.Overlap.{is_on_intervals}
use Rattle.ft_string.specs.Holds.{IsTextSound, element_stages, interval_stages, is_on_elements}
use Rattle.ft_string.specs.Parts.{state_of}
use Rattle.ft_string.specs.Rejoins.{GivesInterval}
use Rattle.ft_string.specs.State.{interval_stage, interval_with_places}
use Rattle.ft_string.specs.declared.pending.PendingOp.{PendingOp}
use Rattle.ft_string.proofs.Stages.{AreNamesIn, all-stage-names, each-filter}

-- ---- one end

module _ (k : ℕ) (xs : TextElements) (es : List ListElement) (once : (a : ElementId) → len (has_id a) es ≤ 1) (b : AreElements text_content xs es) where
  -- where it settles
  pub end-settled : (o : Option ElementId) → StandsIn es o → settled_end xs k (place_in_list es o) ≡ place_in_list es (settle es k o)
  end-settled None h = refl
  end-settled (Some a) h =
      sym (place-settled (IsElement text_content) once b (seen_in (at_stage k)) (seen k) (λ x e q. seen-alike text_content (at_stage k) x e q) a h)

  few-before : {A : Type 0} (see : A → Bool) (ys : List A) (i : ℕ) → seen_before see ys i ≤ len see ys
  few-before see ys zero = omega arith
  few-before see [] (suc i) = omega arith
  few-before see (y ∷ ys) (suc i) = step (see y) (few-before see ys i)
    where
      step : (c : Bool) → seen_before see ys i ≤ len see ys → one_more_if c (seen_before see ys i) ≤ one_more_if c (len see ys)
      step true l = omega arith
      step false l = l

  -- its number
  pub end-numbered : len (seen_in (at_stage k)) xs ≤ 9223372036854775807 → (o : Option ElementId) → number_at xs k (place_in_list es o) ≡ end_number k es o
  end-numbered l None = refl
  end-numbered l (Some a) =
      let few = few-before (seen_in (at_stage k)) xs (name_place es a) in
      ap pos (least (seen_before (seen_in (at_stage k)) xs (name_place es a)) (omega arith)
      ∙ sym (rank-place (IsElement text_content) (seen_in (at_stage k)) (seen k) (λ x e q. seen-alike text_content (at_stage k) x e q) a b))
    where
      least : (n : ℕ) → n ≤ 9223372036854775807 → min n 9223372036854775807 ≡ n
      least n l = omega arith

  -- the operation that is sent again
  op-numbered : len (seen_in (at_stage k)) xs ≤ 9223372036854775807 → (op : TextOp) (names : NamedElements) (at : EndPair ℕ)
      → at.start ≡ place_in_list es names.first → at.end ≡ place_in_list es names.second
      → regenerated xs k at op ≡ interval_piece k es names op
  op-numbered l (IntervalAdd label id given props) names at e f =
      rw (e, f, end-numbered l names.first, end-numbered l names.second) refl
  op-numbered l (IntervalChange label id (Some given) props) names at e f =
      rw (e, f, end-numbered l names.first, end-numbered l names.second) refl
  op-numbered l (IntervalChange label id None props) names at e f = refl
  op-numbered l (IntervalDelete label id) names at e f = refl
  op-numbered l (One op) names at e f = refl
  op-numbered l (Group ops) names at e f = refl

-- ---- the operation among the others

module _ (k : ℕ) (f : Option ℕ → Option ℕ) (doc : Document) (op : TextOp) (names settled : NamedElements)
    (first : f (place_in_list doc.text.items names.first) ≡ place_in_list doc.text.items settled.first)
    (second : f (place_in_list doc.text.items names.second) ≡ place_in_list doc.text.items settled.second) where
  abbrev here : Stage
  here = record { stage = k; sub_operation = OnIntervals op; names = names }

  abbrev now : Stage
  now = record { stage = k; sub_operation = OnIntervals op; names = settled }

  abbrev at_k : Operation → Operation
  at_k t = cond (is_at_stage k t) (with_mapped_names (map_ends f) t) t

  other-stage : (p : Operation) (u : Stage) → interval_stage p ≡ indexed_stage doc u → (u.stage ≡ k → ⊥) → is_at_stage k p ≡ false
  other-stage p u e d =
      let same : p.stage ≡ u.stage = ap (λ (x : IndexedStage). x.stage) e in step (nat_eq p.stage k) refl same
    where
      step : (c : Bool) → nat_eq p.stage k ≡ c → p.stage ≡ u.stage → nat_eq p.stage k ≡ false
      step false g s = g
      step true g s = let eq : p.stage ≡ k = grind (arith, nat_tests) in absurd (d (sym s ∙ eq))

  stay-behind : (ps : List Operation) (vs : List Stage) → Each (λ t. k < t.stage) vs → map interval_stage ps ≡ map (indexed_stage doc) vs
      → map interval_stage (map at_k ps) ≡ map (indexed_stage doc) vs
  stay-behind [] [] h e = refl
  stay-behind [] (v ∷ vs) h e = (cc)
  stay-behind (p ∷ ps) [] h e = (cc)
  stay-behind (p ∷ ps) (v ∷ vs) h e =
      let head : interval_stage p ≡ indexed_stage doc v = (cc) in
      let rest : map interval_stage ps ≡ map (indexed_stage doc) vs = (cc) in
      let no = other-stage p v head (λ s. (let up = h.0 in absurd (omega arith))) in
      ap (λ c. interval_stage (cond c (with_mapped_names (map_ends f) p) p) ∷ map interval_stage (map at_k ps)) no
      ∙ ap (λ x. x ∷ map interval_stage (map at_k ps)) head ∙ ap (λ ys. indexed_stage doc v ∷ ys) (stay-behind ps vs h.1 rest)

  is-here : (p : Operation) → interval_stage p ≡ indexed_stage doc here → is_at_stage k p ≡ true
  is-here p e = let same : p.stage ≡ k = ap (λ (x : IndexedStage). x.stage) e in self p.stage same
    where
      self : (j : ℕ) → j ≡ k → nat_eq j k ≡ true
      self j s = grind (arith, nat_tests)

  settles-here : (p : Operation) → interval_stage p ≡ indexed_stage doc here → interval_stage (with_mapped_names (map_ends f) p) ≡ indexed_stage doc now
  settles-here p e =
      let same : p.stage ≡ k = ap (λ (x : IndexedStage). x.stage) e in
      let sub : OnIntervals p.op ≡ OnIntervals op = ap (λ (x : IndexedStage). x.sub_operation) e in
      let start : f p.ends.start ≡ place_in_list doc.text.items settled.first = ap (λ (x : IndexedStage). f x.places.first) e ∙ first in
      let finish : f p.ends.end ≡ place_in_list doc.text.items settled.second = ap (λ (x : IndexedStage). f x.places.second) e ∙ second in
      rw (same, sub, start, finish) refl

  pub settles-at : (ps : List Operation) (us vs : List Stage) → Each (λ t. t.stage < k) us → Each (λ t. k < t.stage) vs
      → map interval_stage ps ≡ map (indexed_stage doc) (us ++ (here ∷ vs)) → map interval_stage (map at_k ps) ≡ map (indexed_stage doc) (us ++ (now ∷ vs))
  settles-at [] [] vs h g e = (cc)
  settles-at [] (u ∷ us) vs h g e = (cc)
  settles-at (p ∷ ps) [] vs h g e =
      let head : interval_stage p ≡ indexed_stage doc here = (cc) in
      let rest : map interval_stage ps ≡ map (indexed_stage doc) vs = (cc) in
      ap (λ c. interval_stage (cond c (with_mapped_names (map_ends f) p) p) ∷ map interval_stage (map at_k ps)) (is-here p head)
      ∙ ap (λ x. x ∷ map interval_stage (map at_k ps)) (settles-here p head) ∙ ap (λ ys. indexed_stage doc now ∷ ys) (stay-behind ps vs g rest)
  settles-at (p ∷ ps) (u ∷ us) vs h g e =
      let head : interval_stage p ≡ indexed_stage doc u = (cc) in
      let rest : map interval_stage ps ≡ map (indexed_stage doc) (us ++ (here ∷ vs)) = (cc) in
      let no = other-stage p u head (λ s. (let low = h.0 in absurd (omega arith))) in
      ap (λ c. interval_stage (cond c (with_mapped_names (map_ends f) p) p) ∷ map interval_stage (map at_k ps)) no
      ∙ ap (λ x. x ∷ map interval_stage (map at_k ps)) head ∙ ap (λ ys. indexed_stage doc u ∷ ys) (settles-at ps us vs h.1 g rest)

  pub record IsFound (ps : List Operation) : Type 0 where
    pub found : Operation
    pub at : operation_at k ps ≡ Some found
    pub is : interval_stage found ≡ indexed_stage doc here

  pub finds-at : (ps : List Operation) (us vs : List Stage) → Each (λ t. t.stage < k) us
      → map interval_stage ps ≡ map (indexed_stage doc) (us ++ (here ∷ vs)) → IsFound ps
  finds-at [] [] vs h e = (cc)
  finds-at [] (u ∷ us) vs h e = (cc)
  finds-at (p ∷ ps) [] vs h e =
      let head : interval_stage p ≡ indexed_stage doc here = (cc) in
      record { found = p; at = ap (λ c. cond c (Some p) (operation_at k ps)) (is-here p head); is = head }
  finds-at (p ∷ ps) (u ∷ us) vs h e =
      let head : interval_stage p ≡ indexed_stage doc u = (cc) in
      let rest : map interval_stage ps ≡ map (indexed_stage doc) (us ++ (here ∷ vs)) = (cc) in
      let no = other-stage p u head (λ s. (let low = h.0 in absurd (omega arith))) in
      let r = finds-at ps us vs h.1 rest in
      record { found = r.found; at = ap (λ c. cond c (Some p) (operation_at k ps)) no ∙ r.at; is = r.is }

-- ---- the edit

module _ (first : ℕ) (op : TextOp) (names : NamedElements) (front behind : List Stage) (doc : Document) (last : ℕ)
    (low : Each (λ t. t.stage < first) (flat_map (carried_stage doc) front)) (high : Each (λ t. first < t.stage) behind) where
  abbrev edit : Stage
  edit = record { stage = first; sub_operation = OnIntervals op; names = names }

  abbrev goes : Stage
  goes = record { stage = first; sub_operation = OnIntervals op; names = settle_elements doc.text.items first names }

  abbrev gone : List Stage
  gone = flat_map (carried_stage doc) front

  before : interval_stages (gone ++ (edit ∷ behind)) ≡ interval_stages gone ++ (edit ∷ interval_stages behind)
  before = filter-append (λ t. is_on_intervals t.sub_operation) gone (edit ∷ behind)

  all-after : flat_map (carried_stage doc) (front ++ (edit ∷ [])) ++ behind ≡ gone ++ (goes ∷ behind)
  all-after =
      ap (λ us. us ++ behind) (flat_map-append (carried_stage doc) front (edit ∷ [])) ∙ append_assoc gone (goes ∷ []) behind

  after : interval_stages (flat_map (carried_stage doc) (front ++ (edit ∷ [])) ++ behind) ≡ interval_stages gone ++ (goes ∷ interval_stages behind)
  after = ap (λ us. interval_stages us) all-after ∙ filter-append (λ t. is_on_intervals t.sub_operation) gone (goes ∷ behind)

  same-elements : element_stages (gone ++ (edit ∷ behind)) ≡ element_stages (flat_map (carried_stage doc) (front ++ (edit ∷ [])) ++ behind)
  same-elements =
      filter-append (λ t. is_on_elements t.sub_operation) gone (edit ∷ behind) ∙ sym (filter-append (λ t. is_on_elements t.sub_operation) gone (goes ∷ behind))
      ∙ ap (λ us. element_stages us) (sym all-after)

  module _ (text : IsTextSound last doc (front ++ (edit ∷ behind))) (tree new : TreeState TextContent) (c d : CollectionsState) (ops : List PendingOp) (given : ℕ) (usable : Bool)
      (holds : HoldsGiven (state_of tree c ops given usable) doc front (edit ∷ behind)) (one : TextOp) (gives : GivesInterval first tree new c d one)
      (small : len (seen_in (at_stage first)) (text_elements tree) ≤ 9223372036854775807) where
    list : AreElements text_content (text_elements tree) doc.text.items
    list = from-bare text_content (text_elements tree) doc.text.items holds.elements

    named : StandsIn doc.text.items names.first × StandsIn doc.text.items names.second
    named = at-edit front (all-stage-names doc (front ++ (edit ∷ behind)) text.names)
      where
        at-edit : (us : List Stage) → Each (λ t. AreNamesIn doc.text.items t.sub_operation t.names) (us ++ (edit ∷ behind))
            → StandsIn doc.text.items names.first × StandsIn doc.text.items names.second
        at-edit [] h = h.0
        at-edit (u ∷ us) h = at-edit us h.1

    abbrev f : Option ℕ → Option ℕ
    f o = settled_end (text_elements tree) first o

    start : f (place_in_list doc.text.items names.first) ≡ place_in_list doc.text.items (settle doc.text.items first names.first)
    start = end-settled first (text_elements tree) doc.text.items text.list.once list names.first named.0

    finish : f (place_in_list doc.text.items names.second) ≡ place_in_list doc.text.items (settle doc.text.items first names.second)
    finish = end-settled first (text_elements tree) doc.text.items text.list.once list names.second named.1

    pending : map interval_stage (placed_operations tree.refs c.pending) ≡ map (indexed_stage doc) (interval_stages gone ++ (edit ∷ interval_stages behind))
    pending = holds.interval_ops ∙ ap (map (indexed_stage doc)) before

    lower : Each (λ t. t.stage < first) (interval_stages gone)
    lower = each-filter (λ t. t.stage < first) (λ t. is_on_intervals t.sub_operation) gone low

    higher : Each (λ t. first < t.stage) (interval_stages behind)
    higher = each-filter (λ t. first < t.stage) (λ t. is_on_intervals t.sub_operation) behind high

    pub interval-op : option_map Text (Some one) ≡ op_of (flat_map (pieces doc) (edit ∷ []))
    interval-op =
        let r = finds-at first f doc op names (settle_elements doc.text.items first names) start finish
        (placed_operations tree.refs c.pending) (interval_stages gone) (interval_stages behind) lower pending in
        let sub : OnIntervals r.found.op ≡ OnIntervals op = ap (λ (x : IndexedStage). x.sub_operation) r.is in
        let op_is : r.found.op ≡ op = (cc) in
        let at : Some one ≡ Some (regenerated (text_elements tree) first (map_ends f r.found.ends) r.found.op) =
        gives.sends ∙ ap (λ o. option_map (λ (t : Operation). regenerated (text_elements tree) first (map_ends f t.ends) t.op) o) r.at in
        ap (option_map Text) (at ∙ ap (λ q. Some (regenerated (text_elements tree) first (map_ends f r.found.ends) q)) op_is
        ∙ ap (λ q. Some q) (op-numbered first (text_elements tree) doc.text.items text.list.once list small op
        (settle_elements doc.text.items first names) (map_ends f r.found.ends)
        (ap (λ (x : IndexedStage). f x.places.first) r.is ∙ start) (ap (λ (x : IndexedStage). f x.places.second) r.is ∙ finish)))

    pub interval-held : (more : ℕ) (other : Bool) → HoldsGiven (state_of new d ops more other) doc (front ++ (edit ∷ [])) behind
    interval-held more other = record {
      elements = ap (λ x. map (bare text_content) (text_elements x)) gives.leaves ∙ holds.elements;
      made = ap (λ (x : TreeState TextContent). x.made) gives.leaves ∙ holds.made;
      intervals = ap (λ (x : CollectionsState). map interval_with_places x.acked) gives.settles ∙ holds.intervals;
      ops = holds.ops ∙ ap (map (indexed_stage doc)) same-elements;
      interval_ops = ap (λ (x : CollectionsState). map interval_stage x.pending) gives.settles
          ∙ settles-at first f doc op names (settle_elements doc.text.items first names) start finish
          (placed_operations tree.refs c.pending) (interval_stages gone) (interval_stages behind) lower higher pending
          ∙ ap (map (indexed_stage doc)) (sym after);
    }
