-- What the acknowledgement of one stage makes of a whole text, and of the document that this holds.
use Rattle.std.proofs.Common.{◌≡◌, ℕ, ◌≤◌, ◌<◌, Bool, true, false, cond, ◌&&◌, ◌||◌, nat_eq, List, [], ◌∷◌, Option, Some, None, refl, sym, ◌∙◌, ap, subst, arith, map, drop}
use Rattle.std.specs.List.{list_all, list_any}
use Rattle.std.proofs.lemmas.Bool.Decides.{nat_tests}
use Rattle.ft_base.specs.Scan.{len}
use Rattle.ft_base.specs.Visibility.{is_acked}
use Rattle.ft_interval_store.specs.declared.intervals.EndPair.{EndPair}
use Rattle.ft_interval_store.specs.declared.intervals.Interval.{Interval}
use Rattle.ft_interval_store.specs.declared.pending.Operation.{Operation}
use Rattle.ft_interval_store.specs.Ends.{References, map_ends, place_of_end, places_of_ends, slid_end}
use Rattle.ft_interval_store.specs.Intervals.{after_operation}
use Rattle.ft_interval_store.specs.State.{CollectionsState, is_first, placed, placed_intervals, placed_operations, text_elements, with_first_acked, with_mapped_ends, with_mapped_names}
use Rattle.ft_interval_store.proofs.OneInterval.{NamesRise-map}
use Rattle.ft_tree_leaves.specs.declared.leaves.TreeLeaf.{TreeLeaf}
use Rattle.ft_tree_leaves.specs.declared.text.TextPiece.TheVariants.{Run, Marker}
use Rattle.ft_tree_leaves.specs.declared.text.TextPiece.{TextPiece}
use Rattle.ft_tree_leaves.specs.declared.text.TextContent.{TextContent}
use Rattle.ft_tree_leaves.specs.Elements.{TreeElement, acked_element, elements_with}
use Rattle.ft_tree_leaves.specs.LeafLists.{elements, leaf_elements}
use Rattle.ft_tree_leaves.specs.References.{ChangesReferences, slid_reference}
use Rattle.ft_tree_leaves.specs.TextLeaves.{piece_units, text_author, text_units}
use Rattle.ft_msg.specs.Acknowledgement.{cells_after_stage, made_before, renamed, renamed_names, renamed_stage}
use Rattle.ft_msg.specs.Indexed.{IndexedStage, indexed_interval, indexed_stage, place_in_list}
use Rattle.ft_op.specs.declared.operations.BaseOp.{BaseOp}
use Rattle.ft_op.specs.declared.operations.TextOp.{TextOp}
use Rattle.ft_op.specs.Document.{Document, with_slid_ends}
use Rattle.ft_op.specs.Intervals.{NamedElements, slide_ends}
use Rattle.ft_op.specs.Operation.{OnGrid, OnIntervals, OnText, SubOperation}
use Rattle.ft_op.specs.Stages.{Stage, intervals_after_stage}
use Rattle.ft_props.specs.Element.{Character, ElementContent, ElementId, GridUnit, ListElement, MarkerOf, NamelessElement, PendingId, SequencedId, has_id}
use Rattle.ft_props.specs.Slide.{slide}
use Rattle.ft_props.specs.Steps.{Sequence, acked_id, acked_list, author, is_inserted_by}
use Rattle.ft_props.specs.Steps.{acked_element as document_acked}
use Rattle.ft_laws_agreement.specs.Sequencing.{Each}
use Rattle.ft_laws_names.specs.WellNamed.{AreNamedBefore, ArePutIn, IsNamedBefore, IsSettledIn, IsWellNumbered, RiseTo, StandsIn, puts_text_in}
use Rattle.ft_laws_names.proofs.AckedLists.{acked-numbered, stage-count, unstaged}
use Rattle.ft_laws_names.proofs.Beside.{Beside, beside-map, ends, next}
use Rattle.ft_laws_names.proofs.OwnAlike.{named-acked, rise-renamed}
use Rattle.ft_tree.specs.State.{TreeState}
use Rattle.ft_named.specs.Bare.{bare}
use Rattle.ft_named.proofs.AckedSteps.{acked-alike, acked-held, acked-moves, acked-stays}
use Rattle.ft_named.proofs.Bares.{AreElements, to-bare}
use Rattle.ft_named.proofs.Changed.{beside-all}
use Rattle.ft_named.proofs.Lists.{each-append}
use Rattle.ft_named.proofs.ListSteps.{even-removals}
use Rattle.ft_named.proofs.Slid.{slides-settled}
use Rattle.ft_text.specs.Texts.{TextElements}
use Rattle.ft_string.specs.Acks.{AcksStage}
use Rattle.ft_string.specs.Bare.{text_content}
use Rattle.ft_msg.specs.Overlap.{is_on_intervals}
use Rattle.ft_string.specs.Holds.{element_stages, interval_stages, is_on_elements, is_on_text}
use Rattle.ft_string.specs.Parts.{AreSound}
use Rattle.ft_string.specs.State.{element_stage, interval_stage, interval_with_places}
use Rattle.ft_string.specs.declared.pending.PendingOp.{PendingOp}
use Rattle.ft_string.proofs.Applied.{Holds, choice-false, choice-true, elements-of, slid-acked}
use Rattle.ft_string.proofs.AppliedIntervals.{from-alike, kept-sound, to-alike}
use Rattle.ft_string.proofs.Documents.{IsNamed, sound-step}
use Rattle.ft_string.proofs.Ends.{IsMarkedEnd, SameEnd, end-kept, end-slid, ends-marked, from-placed, moved-intervals, name-slid, to-placed}
use Rattle.ft_string.proofs.Intervals.{operation-alike}
use Rattle.ft_string.proofs.Stages.{AreNamesIn, HaveNames, SameStage, SameStages, each-filter, from-stages, names-marked, to-stages}

-- ---- units of a text

-- a character or a marker
abbrev pub IsTextUnit : ElementContent → Type 0
IsTextUnit (Character n) = Unit {0}
IsTextUnit (MarkerOf r) = Unit {0}
IsTextUnit GridUnit = ⊥

text-made : (s c : ℕ) (u : ElementContent) → IsTextUnit u → text_author s c ≡ author s c u
text-made s c (Character n) h = refl
text-made s c (MarkerOf r) h = refl
text-made s c GridUnit h = absurd h

abbrev pub IsOfText : TreeElement ElementContent → Type 0
IsOfText x = IsTextUnit x.unit

module _ (x : TreeLeaf TextContent) where
  of-run : (cs : List ℕ) → Each IsOfText (elements_with x.stamps x.content.by x.overlay (map Character cs))
  of-run [] = tt
  of-run (n ∷ cs) = (tt, of-run cs)

  of-piece : (p : TextPiece) → Each IsOfText (elements_with x.stamps x.content.by x.overlay (piece_units p))
  of-piece (Run cs) = of-run cs
  of-piece (Marker r) = (tt, tt)

pub units-of : (xs : List (ℕ × TreeLeaf TextContent)) → Each IsOfText (elements text_units (λ (y : TextContent). y.by) xs)
units-of [] = tt
units-of (x ∷ xs) =
    each-append IsOfText (leaf_elements text_units (λ (y : TextContent). y.by) x.1) (elements text_units (λ (y : TextContent). y.by) xs) (of-piece x.1 x.1.content.piece) (units-of xs)

-- a fact of the elements of the tree
beside-left : {Q : TreeElement ElementContent → ListElement → Type 0} (P : TreeElement ElementContent → Type 0) {xs : TextElements}
    {es : List ListElement} → Each P xs
    → Beside (TreeElement ElementContent) ListElement Q xs es → Beside (TreeElement ElementContent) ListElement (λ x e. Q x e × P x) xs es
beside-left P h ends = ends
beside-left P h (next q qs) = next (q, h.0) (beside-left P h.1 qs)

-- ---- the document

-- the document after the stage was acknowledged
abbrev pub acked_document : ℕ → ℕ → Stage → Document → Document
acked_document s c t doc = with_slid_ends (record doc {
  text = acked_list t.stage s c doc.text;
  rows = acked_list t.stage s c doc.rows;
  cols = acked_list t.stage s c doc.cols;
  intervals = intervals_after_stage t.sub_operation t.names doc.intervals;
  cells = cells_after_stage t.sub_operation t.names doc.cells;
})

-- the parts hold a document whose first stages may be acknowledged: all are above low
pub record CanAck (tree : TreeState TextContent) (c : CollectionsState) (ops : List PendingOp) (given : ℕ) (usable : Bool) (last low : ℕ) (doc : Document) (stages : List Stage)
    : Type 0 where
  pub held : Holds tree c ops given usable last doc stages
  pub own : ArePutIn puts_text_in stages doc.text.items
  pub rise : RiseTo low last stages
  pub before : Each (λ t. AreNamedBefore t.stage t.sub_operation t.names) stages

-- ---- stages above

pub later-rise : (low least last : ℕ) (ts : List Stage) → least ≤ low → RiseTo low last ts → Each (λ t. least < t.stage) ts
later-rise low least last [] l h = tt
later-rise low least last (t ∷ ts) l h = (let up = h.0 in omega arith, later-rise t.stage least last ts (let up = h.0 in omega arith) h.1)

and-false : (b : Bool) → b && false ≡ false
and-false true = refl
and-false false = refl

other-stage : (k j : ℕ) (b : Bool) → k < j → nat_eq k j && b ≡ false
other-stage k j true l = grind (arith, nat_tests)
other-stage k j false l = and-false (nat_eq k j)

none-above : (k : ℕ) (ts : List Stage) → Each (λ t. k < t.stage) ts → list_any (λ t. nat_eq k t.stage && puts_text_in t.sub_operation) ts ≡ false
none-above k [] h = refl
none-above k (t ∷ ts) h = rw (other-stage k t.stage (puts_text_in t.sub_operation) h.0, none-above k ts h.1) refl

not-puts : (k j : ℕ) (o : SubOperation) → is_on_intervals o ≡ true → nat_eq k j && puts_text_in o ≡ false
not-puts k j (OnText op) h = (cc)
not-puts k j (OnIntervals op) h = and-false (nat_eq k j)
not-puts k j (OnGrid op) h = (cc)

-- ---- stages that are renamed

renamed-intervals : (f : ElementId → ElementId) (ts : List Stage) → interval_stages (map (renamed_stage f) ts) ≡ map (renamed_stage f) (interval_stages ts)
renamed-intervals f [] = refl
renamed-intervals f (t ∷ ts) = step (is_on_intervals t.sub_operation) (renamed-intervals f ts)
  where
    step : (b : Bool) → interval_stages (map (renamed_stage f) ts) ≡ map (renamed_stage f) (interval_stages ts)
        → cond b (renamed_stage f t ∷ interval_stages (map (renamed_stage f) ts)) (interval_stages (map (renamed_stage f) ts))
        ≡ map (renamed_stage f) (cond b (t ∷ interval_stages ts) (interval_stages ts))
    step true h = ap (λ us. renamed_stage f t ∷ us) h
    step false h = h

-- those on elements name none, and so are as they were
renamed-op : (f : ElementId → ElementId) (p q : Document) (o : SubOperation) (k : ℕ) (names : NamedElements) → is_on_elements o ≡ true
    → AreNamesIn p.text.items o names
    → indexed_stage q (renamed_stage f (record { stage = k; sub_operation = o; names = names }))
    ≡ indexed_stage p (record { stage = k; sub_operation = o; names = names })
renamed-op f p q (OnText op) k names h a = rw a refl
renamed-op f p q (OnIntervals op) k names h a = (cc)
renamed-op f p q (OnGrid op) k names h a = (cc)

renamed-ops : (f : ElementId → ElementId) (p q : Document) (ts : List Stage) → Each (λ t. AreNamesIn p.text.items t.sub_operation t.names) ts
    → map (indexed_stage q) (element_stages (map (renamed_stage f) ts)) ≡ map (indexed_stage p) (element_stages ts)
renamed-ops f p q [] h = refl
renamed-ops f p q (t ∷ ts) h = step (is_on_elements t.sub_operation) refl (renamed-ops f p q ts h.1)
  where
    step : (b : Bool) → is_on_elements t.sub_operation ≡ b → map (indexed_stage q) (element_stages (map (renamed_stage f) ts)) ≡ map (indexed_stage p) (element_stages ts)
        → map (indexed_stage q) (cond b (renamed_stage f t ∷ element_stages (map (renamed_stage f) ts)) (element_stages (map (renamed_stage f) ts)))
        ≡ map (indexed_stage p) (cond b (t ∷ element_stages ts) (element_stages ts))
    step true g rest =
        ap (λ u. u ∷ map (indexed_stage q) (element_stages (map (renamed_stage f) ts))) (renamed-op f p q t.sub_operation t.stage t.names g h.0)
        ∙ ap (λ us. indexed_stage p t ∷ us) rest
    step false g rest = rest

-- those on intervals, where ends are renamed as they move
module _ (refs after : References) (p q : Document) (f : ElementId → ElementId)
    (moves : (r : Option ℕ) (o : Option ElementId) → IsMarkedEnd false refs r → StandsIn p.text.items o → SameEnd refs p.text.items r o
    → SameEnd after q.text.items r (renamed f o)) where
  renamed-same : (t : Operation) (k : ℕ) (o : SubOperation) (names : NamedElements) → IsMarkedEnd false refs t.ends.start → IsMarkedEnd false refs t.ends.end
      → AreNamesIn p.text.items o names → SameStage refs p t (record { stage = k; sub_operation = o; names = names })
      → SameStage after q t (renamed_stage f (record { stage = k; sub_operation = o; names = names }))
  renamed-same t k (OnIntervals op) names a b s h =
      let stage : t.stage ≡ k = ap (λ (u : IndexedStage). u.stage) h in
      let same : OnIntervals t.op ≡ OnIntervals op = ap (λ (u : IndexedStage). u.sub_operation) h in
      let first = moves t.ends.start names.first a s.0 (ap (λ (u : IndexedStage). u.places.first) h) in
      let second = moves t.ends.end names.second b s.1 (ap (λ (u : IndexedStage). u.places.second) h) in
      rw (stage, same, first, second) refl
  renamed-same t k (OnText op) names a b s h = let never : OnIntervals t.op ≡ OnText op = ap (λ (u : IndexedStage). u.sub_operation) h in (cc)
  renamed-same t k (OnGrid op) names a b s h = let never : OnIntervals t.op ≡ OnGrid op = ap (λ (u : IndexedStage). u.sub_operation) h in (cc)

  renamed-stages : {ts : List Operation} {us : List Stage} → HaveNames (IsMarkedEnd false refs) ts
      → Each (λ u. AreNamesIn p.text.items u.sub_operation u.names) us
      → SameStages refs p ts us → SameStages after q ts (map (renamed_stage f) us)
  renamed-stages a s ends = ends
  renamed-stages a s (next {x = t} {y = u} h hs) =
      next (renamed-same t u.stage u.sub_operation u.names a.0.0 a.0.1 s.0 h) (renamed-stages a.1 s.1 hs)

-- no pending operation on an interval comes first
first-above : (k : ℕ) (refs : References) (doc : Document) (us : List Stage) (ps : List Operation) → Each (λ u. k < u.stage) us
    → map interval_stage (placed_operations refs ps) ≡ map (indexed_stage doc) us → is_first k ps ≡ false
first-above k refs doc us [] h e = refl
first-above k refs doc [] (p ∷ ps) h e = (cc)
first-above k refs doc (u ∷ us) (p ∷ ps) h e =
    let first : interval_stage (with_mapped_names (places_of_ends refs) p) ≡ indexed_stage doc u = (cc) in
    let same : p.stage ≡ u.stage = ap (λ (x : IndexedStage). x.stage) first in
    apart k p.stage (let up = h.0 in omega arith)
  where
    apart : (k j : ℕ) → k < j → nat_eq j k ≡ false
    apart k j l = grind (arith, nat_tests)

self-first : (k j : ℕ) → j ≡ k → nat_eq j k ≡ true
self-first k j e = grind (arith, nat_tests)

-- what is left of the operations on elements behind the first
ops-behind : (ops : List PendingOp) (t : IndexedStage) (us : List IndexedStage) → map element_stage ops ≡ t ∷ us → map element_stage (drop 1 ops) ≡ us
ops-behind [] t us e = (cc)
ops-behind (o ∷ os) t us e = (cc)

-- ---- names of sequenced elements

-- the list after it, and where names stand in it, where n were sequenced before
module _ (last k s c n : ℕ) (l : Sequence) (h : IsWellNumbered last l)
    (numbers : (a : ElementId) → 1 ≤ len (has_id a) l.items → acked_id k n a ≡ acked_id k l.made a) where
  abbrev after : List ListElement
  after = (acked_list k s c l).items

  place-acked : (o : Option ElementId) → StandsIn l.items o → place_in_list after (renamed (acked_id k n) o) ≡ place_in_list l.items o
  place-acked None t = refl
  place-acked (Some a) t = ap (λ i. place_in_list after (Some i)) (numbers a t) ∙ ap Some (acked-moves last k s c l h a t)

  stands-acked : (o : Option ElementId) → StandsIn l.items o → StandsIn after (renamed (acked_id k n) o)
  stands-acked None t = tt
  stands-acked (Some a) t = subst (λ i. 1 ≤ len (has_id i) after) (sym (numbers a t)) (acked-stays last k s c l h a t)

  settled-acked : (o : Option ElementId) → IsSettledIn l.items o → IsSettledIn after o
  settled-acked None t = tt
  settled-acked (Some (SequencedId i)) t = acked-stays last k s c l h (SequencedId i) t
  settled-acked (Some (PendingId j i)) t = absurd t

  place-still : (o : Option ElementId) → IsSettledIn l.items o → place_in_list after o ≡ place_in_list l.items o
  place-still None t = refl
  place-still (Some (SequencedId i)) t = ap Some (acked-moves last k s c l h (SequencedId i) t)
  place-still (Some (PendingId j i)) t = absurd t

  names-acked : (o : SubOperation) (names : NamedElements) → AreNamesIn l.items o names → AreNamesIn after o (renamed_names (acked_id k n) names)
  names-acked (OnText op) names a = ap (renamed_names (acked_id k n)) a
  names-acked (OnIntervals op) names a = (stands-acked names.first a.0, stands-acked names.second a.1)
  names-acked (OnGrid op) names a = tt

  all-names-acked : (ts : List Stage) → Each (λ t. AreNamesIn l.items t.sub_operation t.names) ts
      → Each (λ t. AreNamesIn after t.sub_operation t.names) (map (renamed_stage (acked_id k n)) ts)
  all-names-acked [] a = tt
  all-names-acked (t ∷ ts) a = (names-acked t.sub_operation t.names a.0, all-names-acked ts a.1)

  module _ (xs : TextElements) (list : AreElements text_content xs after) (refs now : References)
      (slides : ChangesReferences (slid_reference xs) refs now) where
    acked-end : (r : Option ℕ) (o : Option ElementId) → IsMarkedEnd true refs r → IsSettledIn l.items o → SameEnd refs l.items r o
        → SameEnd now after r (slide after o)
    acked-end r o a t e =
        end-slid xs refs now slides r a ∙ ap (slid_end xs) (e ∙ sym (place-still o t))
        ∙ sym (name-slid text_content xs after (acked-numbered last k s c l h).once list o (settled-acked o t))

    pending-end : (r : Option ℕ) (o : Option ElementId) → IsMarkedEnd false refs r → StandsIn l.items o → SameEnd refs l.items r o
        → SameEnd now after r (renamed (acked_id k n) o)
    pending-end r o a t e = end-kept xs refs now slides r a ∙ e ∙ sym (place-acked o t)

    -- a pending end on a sequenced element
    effect-end : (r : Option ℕ) (o : Option ElementId) → IsMarkedEnd false refs r → IsSettledIn l.items o → SameEnd refs l.items r o
        → slid_end xs (place_of_end now r) ≡ place_in_list after (slide after o)
    effect-end r o a t e =
        ap (slid_end xs) (end-kept xs refs now slides r a ∙ e ∙ sym (place-still o t))
        ∙ sym (name-slid text_content xs after (acked-numbered last k s c l h).once list o (settled-acked o t))

-- names of elements before the lowest stage are those of sequenced ones
names-settled : (last k : ℕ) (l : Sequence) (stages : List Stage) → IsWellNumbered last l → ArePutIn puts_text_in stages l.items
    → ((j : ℕ) → j < k → Each (λ t. j < t.stage) stages) → (o : Option ElementId) → StandsIn l.items o → IsNamedBefore k o → IsSettledIn l.items o
names-settled last k l stages h own above None t b = tt
names-settled last k l stages h own above (Some (SequencedId i)) t b = t
names-settled last k l stages h own above (Some (PendingId j i)) t b =
    let none = own j (none-above j stages (above j b)) in
    let gone = h.counted j i (omega arith) in
    absurd (omega arith)

-- ---- what stays known of the stages behind

any-renamed : (f : ElementId → ElementId) (j : ℕ) (ts : List Stage)
    → list_any (λ t. nat_eq j t.stage && puts_text_in t.sub_operation) (map (renamed_stage f) ts)
    ≡ list_any (λ t. nat_eq j t.stage && puts_text_in t.sub_operation) ts
any-renamed f j [] = refl
any-renamed f j (t ∷ ts) = ap (λ b. (nat_eq j t.stage && puts_text_in t.sub_operation) || b) (any-renamed f j ts)

module _ (k n : ℕ) where
  all-before : (ts : List Stage) → Each (λ t. AreNamedBefore t.stage t.sub_operation t.names) ts
      → Each (λ t. AreNamedBefore t.stage t.sub_operation t.names) (map (renamed_stage (acked_id k n)) ts)
  all-before [] b = tt
  all-before (t ∷ ts) b = (named-acked k n t.stage t.sub_operation t.names b.0, all-before ts b.1)

-- ---- the step

module _ (tree new : TreeState TextContent) (c d : CollectionsState) (ops rest : List PendingOp) (given : ℕ) (usable : Bool) (last low s conn k : ℕ)
    (o : SubOperation) (names : NamedElements) (ts : List Stage) (doc : Document) where
  abbrev here : Stage
  here = record { stage = k; sub_operation = o; names = names }

  abbrev number : ElementId → ElementId
  number = acked_id k (made_before doc o)

  abbrev items : List ListElement
  items = (acked_list k s conn doc.text).items

  abbrev later : Document
  later = acked_document s conn here doc

  module _ (h : CanAck tree c ops given usable last low doc (here ∷ ts)) (a : AcksStage k s conn tree new c d ops rest)
      (numbers : (i : ElementId) → 1 ≤ len (has_id i) doc.text.items → number i ≡ acked_id k doc.text.made i) where
    abbrev xs : TextElements
    xs = text_elements a.mid

    named : IsNamed last doc (here ∷ ts)
    named = h.held.named

    list : AreElements text_content xs items
    list =
        subst (λ ys. AreElements text_content ys items) (sym a.elements)
        (beside-map (acked_element k s conn (text_author s conn)) (document_acked k doc.text.made s conn)
        (λ x e q. acked-alike k s conn text_content (text_author s conn) doc.text.made x e q.0.0 q.0.1
        (text-made s conn x.unit q.1 ∙ ap (λ (m : NamelessElement). author s conn m.content) q.0.0))
        (beside-left IsOfText (units-of tree.leaves)
        (beside-all (λ e. list_all is_acked e.dels) (even-removals doc.text.items named.list.removals) (elements-of c ops given usable last (here ∷ ts) tree doc h.held))))

    acked : (r : Option ℕ) (i : Option ElementId) → IsMarkedEnd true tree.refs r → IsSettledIn doc.text.items i → SameEnd tree.refs doc.text.items r i
        → SameEnd a.mid.refs items r (slide items i)
    acked r i m t e = acked-end last k s conn (made_before doc o) doc.text named.list numbers xs list tree.refs a.mid.refs a.slides r i m t e

    pending : (r : Option ℕ) (i : Option ElementId) → IsMarkedEnd false tree.refs r → StandsIn doc.text.items i → SameEnd tree.refs doc.text.items r i
        → SameEnd a.mid.refs items r (renamed number i)
    pending r i m t e = pending-end last k s conn (made_before doc o) doc.text named.list numbers xs list tree.refs a.mid.refs a.slides r i m t e

    -- the ends of acknowledged intervals slid
    slid-intervals : map interval_with_places (placed_intervals a.mid.refs c.acked) ≡ map (indexed_interval items) (slide_ends items doc.intervals)
    slid-intervals =
        to-placed a.mid.refs items (moved-intervals tree.refs a.mid.refs doc.text.items items (slide items) (IsMarkedEnd true tree.refs) acked
        (ends-marked true tree.refs c.acked h.held.sound.marked.acked) named.intervals (from-placed tree.refs doc.text.items c.acked doc.intervals h.held.holds.intervals))

    -- pending operations behind the first go on with the stages behind it
    behind : (ps : List Operation) → HaveNames (IsMarkedEnd false tree.refs) ps
        → map interval_stage (placed_operations tree.refs ps) ≡ map (indexed_stage doc) (interval_stages ts)
        → map interval_stage (placed_operations a.mid.refs ps) ≡ map (indexed_stage later) (interval_stages (map (renamed_stage number) ts))
    behind ps marks e =
        to-stages a.mid.refs later (renamed-stages tree.refs a.mid.refs doc later number pending marks
        (each-filter (λ t. AreNamesIn doc.text.items t.sub_operation t.names) (λ t. is_on_intervals t.sub_operation) ts named.names.1)
        (from-stages tree.refs doc ps (interval_stages ts) e))
        ∙ ap (map (indexed_stage later)) (sym (renamed-intervals number ts))

    sound : AreSound new d
    sound = kept-sound a.mid new c d
        (sound-step (slid_reference xs) (λ x. slid-acked xs x) tree a.mid c a.slides a.goes.usable h.held.sound) a.leaves a.refs

    own-after : ArePutIn puts_text_in (map (renamed_stage number) ts) items
    own-after j e = stage-count last k s conn doc.text named.list j (nat_eq j k) refl ∙ step (nat_eq j k) refl
      where
        step : (b : Bool) → nat_eq j k ≡ b → cond b 0 (len (is_inserted_by j) doc.text.items) ≡ 0
        step true g = refl
        step false g = h.own j (ap (λ b. (b && puts_text_in o) || list_any (λ t. nat_eq j t.stage && puts_text_in t.sub_operation) ts) g ∙ sym (any-renamed number j ts) ∙ e)

    -- all of it, where the intervals and the operations are as said
    can-ack : map interval_with_places (placed_intervals new.refs d.acked) ≡ map (indexed_interval items) later.intervals
        → map interval_stage (placed_operations new.refs d.pending) ≡ map (indexed_stage later) (interval_stages (map (renamed_stage number) ts))
        → map element_stage rest ≡ map (indexed_stage doc) (element_stages ts)
        → CanAck new d rest given usable last k later (map (renamed_stage number) ts)
    can-ack intervals interval_ops rest_ops = record {
      held = record {
        named = record {
          list = acked-numbered last k s conn doc.text named.list;
          intervals = slides-settled items (intervals_after_stage o names doc.intervals);
          names = all-names-acked last k s conn (made_before doc o) doc.text named.list numbers ts named.names.1;
        };
        sound = sound;
        holds = record {
          elements = ap (λ x. map (bare text_content) (text_elements x)) a.leaves ∙ to-bare text_content list;
          made = ap (λ (x : TreeState TextContent). x.made) a.leaves ∙ a.made ∙ h.held.holds.made ∙ sym (acked-held last k s conn doc.text named.list);
          intervals = intervals;
          ops = rest_ops ∙ sym (renamed-ops number doc later ts named.names.1);
          interval_ops = interval_ops;
        };
      };
      own = own-after;
      rise = rise-renamed number k last ts h.rise.1;
      before = all-before k (made_before doc o) ts h.before.1;
    }

-- the stage is on elements
on-elements : (tree new : TreeState TextContent) (c d : CollectionsState) (ops rest : List PendingOp) (given : ℕ) (usable : Bool) (last low s conn k : ℕ)
    (op : BaseOp) (names : NamedElements) (ts : List Stage) (doc : Document)
    → CanAck tree c ops given usable last low doc (record { stage = k; sub_operation = OnText op; names = names } ∷ ts)
    → AcksStage k s conn tree new c d ops rest
    → CanAck new d rest given usable last k (acked_document s conn (record { stage = k; sub_operation = OnText op; names = names }) doc)
    (map (renamed_stage (acked_id k (made_before doc (OnText op)))) ts)
on-elements tree new c d ops rest given usable last low s conn k op names ts doc h a =
    let later = acked_document s conn (record { stage = k; sub_operation = OnText op; names = names }) doc in
    let above = each-filter (λ t. k < t.stage) (λ t. is_on_intervals t.sub_operation) ts (later-rise k k last ts (omega arith) h.rise.1) in
    let not_first = first-above k tree.refs doc (interval_stages ts) c.pending above h.held.holds.interval_ops in
    let same = a.intervals ∙ choice-false (is_first k c.pending) _ _ not_first in
    can-ack tree new c d ops rest given usable last low s conn k (OnText op) names ts doc h a (λ i t. refl)
    (ap (λ (x : CollectionsState). map interval_with_places x.acked) same
    ∙ slid-intervals tree new c d ops rest given usable last low s conn k (OnText op) names ts doc h a (λ i t. refl))
    (ap (λ (x : CollectionsState). map interval_stage x.pending) same
    ∙ behind tree new c d ops rest given usable last low s conn k (OnText op) names ts doc h a (λ i t. refl) c.pending
    (names-marked false tree.refs c.pending h.held.sound.marked.pending) h.held.holds.interval_ops)
    (ap (map element_stage) (a.ops_are ∙ choice-false (is_first k c.pending) _ _ not_first)
    ∙ ops-behind ops (indexed_stage doc (record { stage = k; sub_operation = OnText op; names = names })) (map (indexed_stage doc) (element_stages ts)) h.held.holds.ops)

-- the first pending operation on an interval takes effect
record TakesFirst (k : ℕ) (xs : TextElements) (refs : References) (op : TextOp) (is : List (Interval ℕ)) (ps : List Operation)
    (now : CollectionsState) : Type 0 where
  pub first : is_first k ps ≡ true
  pub ends : EndPair ℕ
  pub tail : List Operation
  pub acked : now.acked ≡ after_operation op (map_ends (slid_end xs) (places_of_ends refs ends)) is
  pub pending : now.pending ≡ placed_operations refs tail
  pub is_at : ps ≡ record { stage = k; op = op; ends = ends } ∷ tail

takes-first : (k : ℕ) (xs : TextElements) (refs mid : References) (doc : Document) (op : TextOp) (names : NamedElements) (us : List Stage)
    (is : List (Interval ℕ)) (ps : List Operation)
    (now : CollectionsState)
    → map interval_stage (placed_operations refs ps) ≡ indexed_stage doc (record { stage = k; sub_operation = OnIntervals op; names = names }) ∷ map (indexed_stage doc) us
    → now ≡ cond (is_first k ps) (with_first_acked (map_ends (slid_end xs)) (record { acked = is; pending = placed_operations mid ps }))
    (record { acked = is; pending = placed_operations mid ps })
    → TakesFirst k xs mid op is ps now
takes-first k xs refs mid doc op names us is [] now e h = (cc)
takes-first k xs refs mid doc op names us is (p ∷ ps) now e h =
    let first : interval_stage (with_mapped_names (places_of_ends refs) p) ≡ indexed_stage doc (record { stage = k; sub_operation = OnIntervals op; names = names }) = (cc) in
    let stage : p.stage ≡ k = ap (λ (u : IndexedStage). u.stage) first in
    let same : OnIntervals p.op ≡ OnIntervals op = ap (λ (u : IndexedStage). u.sub_operation) first in
    let op_is : p.op ≡ op = (cc) in
    let taken = h ∙ choice-true (nat_eq p.stage k) _ _ (self-first k p.stage stage) in
    record {
      first = self-first k p.stage stage;
      ends = p.ends;
      tail = ps;
      acked = ap (λ (x : CollectionsState). x.acked) taken ∙ ap (λ q. after_operation q (map_ends (slid_end xs) (places_of_ends mid p.ends)) is) op_is;
      pending = ap (λ (x : CollectionsState). x.pending) taken;
      is_at = ap (λ q. q ∷ ps) (same-operation p k op stage op_is);
    }
  where
    same-operation : (p : Operation) (k : ℕ) (op : TextOp) → p.stage ≡ k → p.op ≡ op → p ≡ record { stage = k; op = op; ends = p.ends }
    same-operation p k op e f = rw (sym e, sym f) refl

-- the stage is on an interval
on-interval : (tree new : TreeState TextContent) (c d : CollectionsState) (ops rest : List PendingOp) (given : ℕ) (usable : Bool) (last low s conn k : ℕ)
    (op : TextOp) (names : NamedElements) (ts : List Stage) (doc : Document)
    → CanAck tree c ops given usable last low doc (record { stage = k; sub_operation = OnIntervals op; names = names } ∷ ts)
    → AcksStage k s conn tree new c d ops rest
    → CanAck new d rest given usable last k (acked_document s conn (record { stage = k; sub_operation = OnIntervals op; names = names }) doc)
    (map (renamed_stage (acked_id k (made_before doc (OnIntervals op)))) ts)
on-interval tree new c d ops rest given usable last low s conn k op names ts doc h a =
    let here : Stage = record { stage = k; sub_operation = OnIntervals op; names = names } in
    let above = later-rise k k last ts (omega arith) h.rise.1 in
    let none : len (is_inserted_by k) doc.text.items ≡ 0 = h.own k (rw (not-puts k k (OnIntervals op) refl, none-above k ts above) refl) in
    let numbers : (i : ElementId) → 1 ≤ len (has_id i) doc.text.items → acked_id k 0 i ≡ acked_id k doc.text.made i =
    λ i t. unstaged last k 0 doc.text i h.held.named.list none t ∙ sym (unstaged last k doc.text.made doc.text i h.held.named.list none t) in
    let xs = text_elements a.mid in
    let items = (acked_list k s conn doc.text).items in
    let first = takes-first k xs tree.refs a.mid.refs doc op names (interval_stages ts) (placed_intervals a.mid.refs c.acked) c.pending
    (placed new.refs d) h.held.holds.interval_ops a.intervals in
    let marks = subst (HaveNames (IsMarkedEnd false tree.refs)) first.is_at (names-marked false tree.refs c.pending h.held.sound.marked.pending) in
    let stages = subst (λ ps. map interval_stage (placed_operations tree.refs ps) ≡ indexed_stage doc here ∷ map (indexed_stage doc) (interval_stages ts)) first.is_at h.held.holds.interval_ops in
    let front : interval_stage (with_mapped_names (places_of_ends tree.refs) (record { stage = k; op = op; ends = first.ends })) ≡ indexed_stage doc here = (cc) in
    let more : map interval_stage (placed_operations tree.refs first.tail) ≡ map (indexed_stage doc) (interval_stages ts) = (cc) in
    let known : (i : Option ElementId) → StandsIn doc.text.items i → IsNamedBefore k i → IsSettledIn doc.text.items i =
    λ i t b. names-settled last k doc.text (here ∷ ts) h.held.named.list h.own (λ j l. (l, later-rise k j last ts (omega arith) h.rise.1)) i t b in
    let elements = list tree new c d ops rest given usable last low s conn k (OnIntervals op) names ts doc h a numbers in
    let start = effect-end last k s conn 0 doc.text h.held.named.list numbers xs elements tree.refs a.mid.refs a.slides first.ends.start names.first marks.0.0
    (known names.first h.held.named.names.0.0 h.before.0.0) (ap (λ (u : IndexedStage). u.places.first) front) in
    let finish = effect-end last k s conn 0 doc.text h.held.named.list numbers xs elements tree.refs a.mid.refs a.slides first.ends.end names.second marks.0.1
    (known names.second h.held.named.names.0.1 h.before.0.1) (ap (λ (u : IndexedStage). u.places.second) front) in
    let alike = from-alike items (placed_intervals a.mid.refs c.acked) doc.intervals
    (slid-intervals tree new c d ops rest given usable last low s conn k (OnIntervals op) names ts doc h a numbers) in
    can-ack tree new c d ops rest given usable last low s conn k (OnIntervals op) names ts doc h a numbers
    (ap (map interval_with_places) first.acked
    ∙ to-alike items (operation-alike items op (map_ends (slid_end xs) (places_of_ends a.mid.refs first.ends)) names start finish
    (NamesRise-map (with_mapped_ends (places_of_ends a.mid.refs)) c.acked (λ i. refl) a.rises) alike))
    (ap (map interval_stage) first.pending
    ∙ behind tree new c d ops rest given usable last low s conn k (OnIntervals op) names ts doc h a numbers first.tail marks.1 more)
    (ap (map element_stage) (a.ops_are ∙ choice-true (is_first k c.pending) _ _ first.first) ∙ h.held.holds.ops)

-- any stage on the text
pub acked-step : (tree new : TreeState TextContent) (c d : CollectionsState) (ops rest : List PendingOp) (given : ℕ) (usable : Bool) (last low s conn k : ℕ)
    (o : SubOperation) (names : NamedElements) (ts : List Stage) (doc : Document) → is_on_text o ≡ true
    → CanAck tree c ops given usable last low doc (record { stage = k; sub_operation = o; names = names } ∷ ts) → AcksStage k s conn tree new c d ops rest
    → CanAck new d rest given usable last k (acked_document s conn (record { stage = k; sub_operation = o; names = names }) doc)
    (map (renamed_stage (acked_id k (made_before doc o))) ts)
acked-step tree new c d ops rest given usable last low s conn k (OnText op) names ts doc t h a =
    on-elements tree new c d ops rest given usable last low s conn k op names ts doc h a
acked-step tree new c d ops rest given usable last low s conn k (OnIntervals op) names ts doc t h a =
    on-interval tree new c d ops rest given usable last low s conn k op names ts doc h a
acked-step tree new c d ops rest given usable last low s conn k (OnGrid op) names ts doc t h a = (cc)
