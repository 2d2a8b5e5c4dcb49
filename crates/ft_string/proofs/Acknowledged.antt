-- What the acknowledgement of an edit's stages, one after another, makes of a whole shared text.
use Rattle.std.proofs.Common.{◌≡◌, ℕ, ◌≤◌, ◌<◌, All, Bool, true, false, cond, ◌&&◌, ◌||◌, min, nat_eq, nat_lt, IsTrue, List, [], ◌∷◌, ◌++◌, Option, Some, None, refl, sym, ◌∙◌, ap, subst, arith, map, drop}
use Rattle.std.specs.List.{list_all, list_any}
use Rattle.std.proofs.lemmas.Bool.Decides.{nat_tests}
use Rattle.std.proofs.lemmas.List.Elements.{All-head, All-tail}
use Rattle.ft_base.proofs.Booleans.{both}
use Rattle.ft_interval_store.specs.declared.pending.Operation.{Operation}
use Rattle.ft_interval_store.specs.Ends.{places_of_ends}
use Rattle.ft_interval_store.specs.State.{CollectionsState, first_stage, placed_operations, text_elements, with_mapped_names}
use Rattle.ft_tree_leaves.specs.declared.text.TextContent.{TextContent}
use Rattle.ft_msg.specs.Acknowledgement.{ack_stages, made_before, renamed, renamed_names, renamed_stage}
use Rattle.ft_msg.specs.Indexed.{IndexedStage, indexed_stage}
use Rattle.ft_op.specs.Document.{Document}
use Rattle.ft_op.specs.Intervals.{NamedElements}
use Rattle.ft_op.specs.Operation.{OnGrid, OnIntervals, OnText, SubOperation}
use Rattle.ft_op.specs.Stages.{Stage}
use Rattle.ft_props.specs.declared.properties.Changes.{Changes}
use Rattle.ft_props.specs.Element.{ElementId, ListElement, NamelessElement}
use Rattle.ft_props.specs.Steps.{acked_id}
use Rattle.ft_laws_agreement.specs.Reconnecting.{is_stage_of}
use Rattle.ft_laws_agreement.specs.Sequencing.{Each, annotates_text}
use Rattle.ft_laws_names.specs.WellNamed.{AreNamedBefore, AreStagesNamed, RiseTo}
use Rattle.ft_laws_names.proofs.Beside.{ends, next}
use Rattle.ft_tree.specs.State.{TreeState}
use Rattle.ft_named.proofs.Bares.{AreElements, from-bare}
use Rattle.ft_named.proofs.Lists.{all-weaker}
use Rattle.ft_interval.specs.State.{StandsOn}
use Rattle.ft_text.specs.Texts.{TextElements}
use Rattle.ft_string.specs.Acks.{AcksStage, AcksStages, AreNoted, OpsRise, first_op, if_below, is_noted, least_of}
use Rattle.ft_string.specs.Acks.{next as next_stage, none as no_stage}
use Rattle.ft_string.specs.Bare.{text_content}
use Rattle.ft_string.specs.Calls.{AreFrom, AreOldest, AreWithin, HoldsAcked, HoldsOldest}
use Rattle.ft_msg.specs.Overlap.{is_on_intervals}
use Rattle.ft_string.specs.Holds.{HoldsText, IsTextSound, element_stages, interval_stages, is_on_elements, is_on_text}
use Rattle.ft_string.specs.Parts.{AreSound, state_of}
use Rattle.ft_string.specs.Inside.{IsSoundIfUsable, view_of}
use Rattle.ft_string.specs.State.{TextState, element_stage, interval_stage}
use Rattle.ft_string.specs.declared.strings.SharedString.TheInside.{Inside}
use Rattle.ft_string.specs.declared.pending.PendingOp.{PendingOp}
use Rattle.ft_string.proofs.AcksSoFar.{below-is, some-same}
use Rattle.ft_string.proofs.AckedStage.{CanAck, acked-step, acked_document, later-rise}
use Rattle.ft_string.proofs.Applied.{Holds}
use Rattle.ft_string.proofs.Documents.{sound-named}
use Rattle.ft_string.proofs.Reconnected.{none-within}
use Rattle.ft_string.proofs.Stages.{each-filter}
use Rattle.ft_string.proofs.Wholes.{holds-any}

-- ---- the lowest stage

-- the number of the first stage
abbrev first_of : List Stage → Option ℕ
first_of [] = None
first_of (t ∷ ts) = Some t.stage

-- it is above k, if there is one
abbrev IsAbove : ℕ → Option ℕ → Type 0
IsAbove k None = Unit {0}
IsAbove k (Some j) = k < j

-- it is at k or above it
abbrev IsFrom : ℕ → Option ℕ → Type 0
IsFrom k None = Unit {0}
IsFrom k (Some j) = k ≤ j

first-op : (doc : Document) (ops : List PendingOp) (us : List Stage) → map element_stage ops ≡ map (indexed_stage doc) us → first_op ops ≡ first_of us
first-op doc [] [] h = refl
first-op doc [] (u ∷ us) h = (cc)
first-op doc (o ∷ os) [] h = (cc)
first-op doc (o ∷ os) (u ∷ us) h = let first : element_stage o ≡ indexed_stage doc u = (cc) in ap (λ (x : IndexedStage). Some x.stage) first

first-interval : (tree : TreeState TextContent) (doc : Document) (ps : List Operation) (us : List Stage)
    → map interval_stage (placed_operations tree.refs ps) ≡ map (indexed_stage doc) us → first_stage ps ≡ first_of us
first-interval tree doc [] [] h = refl
first-interval tree doc [] (u ∷ us) h = (cc)
first-interval tree doc (p ∷ ps) [] h = (cc)
first-interval tree doc (p ∷ ps) (u ∷ us) h =
    let first : interval_stage (with_mapped_names (places_of_ends tree.refs) p) ≡ indexed_stage doc u = (cc) in ap (λ (x : IndexedStage). Some x.stage) first

least-is : (tree : TreeState TextContent) (c : CollectionsState) (ops : List PendingOp) (given : ℕ) (usable : Bool) (doc : Document) (ss : List Stage)
    → HoldsText (state_of tree c ops given usable) doc ss
    → least_of (first_op ops) (first_stage c.pending) ≡ least_of (first_of (element_stages ss)) (first_of (interval_stages ss))
least-is tree c ops given usable doc ss h =
    ap (λ o. least_of o (first_stage c.pending)) (first-op doc ops (element_stages ss) h.ops)
    ∙ ap (least_of (first_of (element_stages ss))) (first-interval tree doc c.pending (interval_stages ss) h.interval_ops)

above-first : (k : ℕ) (us : List Stage) → Each (λ t. k < t.stage) us → IsAbove k (first_of us)
above-first k [] h = tt
above-first k (u ∷ us) h = h.0

from-first : (k : ℕ) (us : List Stage) → Each (λ t. k ≤ t.stage) us → IsFrom k (first_of us)
from-first k [] h = tt
from-first k (u ∷ us) h = h.0

lesser-left : (k j : ℕ) → k < j → min k j ≡ k
lesser-left k j l = omega arith

lesser-right : (k j : ℕ) → k < j → min j k ≡ k
lesser-right k j l = omega arith

least-left : (k : ℕ) (o : Option ℕ) → IsAbove k o → least_of (Some k) o ≡ Some k
least-left k None h = refl
least-left k (Some j) h = ap Some (lesser-left k j h)

least-right : (k : ℕ) (o : Option ℕ) → IsAbove k o → least_of o (Some k) ≡ Some k
least-right k None h = refl
least-right k (Some j) h = ap Some (lesser-right k j h)

from-least : (k : ℕ) (o p : Option ℕ) → IsFrom k o → IsFrom k p → IsFrom k (least_of o p)
from-least k None p a b = b
from-least k (Some i) None a b = a
from-least k (Some i) (Some j) a b = omega arith

-- the first stage is the lowest of both kinds
first-least : (k last : ℕ) (o : SubOperation) (names : NamedElements) (ts : List Stage) → is_on_text o ≡ true → RiseTo k last ts
    → let ss = record { stage = k; sub_operation = o; names = names } ∷ ts in least_of (first_of (element_stages ss)) (first_of (interval_stages ss)) ≡ Some k
first-least k last (OnText op) names ts t r =
    least-left k (first_of (interval_stages ts)) (above-first k (interval_stages ts)
    (each-filter (λ t. k < t.stage) (λ t. is_on_intervals t.sub_operation) ts (later-rise k k last ts (omega arith) r)))
first-least k last (OnIntervals op) names ts t r =
    least-right k (first_of (element_stages ts)) (above-first k (element_stages ts)
    (each-filter (λ t. k < t.stage) (λ t. is_on_elements t.sub_operation) ts (later-rise k k last ts (omega arith) r)))
first-least k last (OnGrid op) names ts t r = (cc)

not-none : (end : ℕ) (k : ℕ) → k < end → if_below end (Some k) ≡ None → ⊥
not-none end k l h = step (nat_lt k end) refl h
  where
    step : (b : Bool) → nat_lt k end ≡ b → cond b (Some k) None ≡ None → ⊥
    step true e g = (cc)
    step false e g = let up : end ≤ k = grind (arith, nat_tests) in absurd (omega arith)

none-below : (end : ℕ) (o : Option ℕ) (k : ℕ) → IsFrom end o → if_below end o ≡ Some k → ⊥
none-below end None k f h = (cc)
none-below end (Some j) k f h = step (nat_lt j end) refl h
  where
    step : (b : Bool) → nat_lt j end ≡ b → cond b (Some j) None ≡ Some k → ⊥
    step true e g = let up : j < end = grind (arith, nat_tests) in absurd (omega arith)
    step false e g = (cc)

-- ---- stages that were renamed twice

renamed-both : (f g : ElementId → ElementId) (o : Option ElementId) → renamed f (renamed g o) ≡ renamed (λ i. f (g i)) o
renamed-both f g None = refl
renamed-both f g (Some i) = refl

stages-both : (f g : ElementId → ElementId) (ts : List Stage) → map (renamed_stage f) (map (renamed_stage g) ts) ≡ map (renamed_stage (λ i. f (g i))) ts
stages-both f g [] = refl
stages-both f g (t ∷ ts) =
    ap (λ n. record t { names = n } ∷ map (renamed_stage f) (map (renamed_stage g) ts)) (names t.names) ∙ ap (λ us. renamed_stage (λ i. f (g i)) t ∷ us) (stages-both f g ts)
  where
    names : (n : NamedElements) → renamed_names f (renamed_names g n) ≡ renamed_names (λ i. f (g i)) n
    names n = rw (renamed-both f g n.first, renamed-both f g n.second) refl

unrenamed : (ts : List Stage) → map (renamed_stage (λ i. i)) ts ≡ ts
unrenamed [] = refl
unrenamed (t ∷ ts) = ap (λ n. record t { names = n } ∷ map (renamed_stage (λ i. i)) ts) (names t.names) ∙ ap (λ us. t ∷ us) (unrenamed ts)
  where
    same : (o : Option ElementId) → renamed (λ i. i) o ≡ o
    same None = refl
    same (Some i) = refl

    names : (n : NamedElements) → renamed_names (λ i. i) n ≡ n
    names n = rw (same n.first, same n.second) refl

stages-from : (f : ElementId → ElementId) (end : ℕ) (ts : List Stage) → AreFrom end ts → Each (λ t. end ≤ t.stage) (map (renamed_stage f) ts)
stages-from f end [] h = tt
stages-from f end (t ∷ ts) h = (All-head (λ (u : Stage). end ≤ u.stage) t ts h, stages-from f end ts (All-tail (λ (u : Stage). end ≤ u.stage) t ts h))

-- ---- all stages of the edit

module _ (end s conn given : ℕ) (usable : Bool) (last first : ℕ) (behind : List Stage) (later : AreFrom end behind) where
  -- the parts hold the document after these stages
  abbrev Acknowledged : TreeState TextContent → CollectionsState → List PendingOp → (ElementId → ElementId) → List Stage → Document → Type 0
  Acknowledged new d rest rename mine doc =
      let acked = ack_stages s conn rename mine doc in
      Holds new d rest given usable last acked.0 (map (renamed_stage acked.1) behind)

  acks-all : {tree new : TreeState TextContent} {c d : CollectionsState} {ops rest : List PendingOp} → AcksStages end s conn tree new c d ops rest
      → (mine : List Stage) → AreWithin first end mine → (rename : ElementId → ElementId) (low : ℕ) (doc : Document)
      → CanAck tree c ops given usable last low doc (map (renamed_stage rename) (mine ++ behind)) → Acknowledged new d rest rename mine doc
  acks-all (no_stage h) [] w rename low doc can = can.held
  acks-all (no_stage {tree = tree} {given = c} {ops = ops} h) (t ∷ mine) w rename low doc can =
      let all = λ (u : Stage). (first ≤ u.stage) × (u.stage < end) × (is_on_text u.sub_operation ≡ true) in
      let here = All-head all t mine w in
      let least = least-is tree c ops given usable doc (map (renamed_stage rename) ((t ∷ mine) ++ behind)) can.held.holds
      ∙ first-least t.stage last t.sub_operation (renamed_names rename t.names) (map (renamed_stage rename) (mine ++ behind)) here.2 can.rise.1 in
      absurd (not-none end t.stage here.1 (sym (ap (if_below end) least) ∙ h))
  acks-all (next_stage {k = k} {old = tree} {before = c} {ops = ops} h a more) [] w rename low doc can =
      let least = least-is tree c ops given usable doc (map (renamed_stage rename) behind) can.held.holds in
      let all = stages-from rename end behind later in
      absurd (none-below end (least_of (first_of (element_stages (map (renamed_stage rename) behind))) (first_of (interval_stages (map (renamed_stage rename) behind)))) k
      (from-least end (first_of (element_stages (map (renamed_stage rename) behind))) (first_of (interval_stages (map (renamed_stage rename) behind)))
      (from-first end (element_stages (map (renamed_stage rename) behind))
      (each-filter (λ t. end ≤ t.stage) (λ t. is_on_elements t.sub_operation) (map (renamed_stage rename) behind) all))
      (from-first end (interval_stages (map (renamed_stage rename) behind))
      (each-filter (λ t. end ≤ t.stage) (λ t. is_on_intervals t.sub_operation) (map (renamed_stage rename) behind) all)))
      (sym (ap (if_below end) least) ∙ h))
  acks-all (next_stage {k = k} {old = tree} {mid = mid} {before = c} {between = b} {ops = ops} {more = left} h a more) (t ∷ mine) w rename low doc can =
      let all = λ (u : Stage). (first ≤ u.stage) × (u.stage < end) × (is_on_text u.sub_operation ≡ true) in
      let here = All-head all t mine w in
      let ts = map (renamed_stage rename) (mine ++ behind) in
      let names = renamed_names rename t.names in
      let least = least-is tree c ops given usable doc (map (renamed_stage rename) ((t ∷ mine) ++ behind)) can.held.holds
      ∙ first-least t.stage last t.sub_operation names ts here.2 can.rise.1 in
      let same : k ≡ t.stage = some-same (sym (below-is end (least_of (first_op ops) (first_stage c.pending)) k h) ∙ least) in
      let step = acked-step tree mid c b ops left given usable last low s conn t.stage t.sub_operation names ts doc here.2 can
      (subst (λ j. AcksStage j s conn tree mid c b ops left) same a) in
      let number = acked_id t.stage (made_before doc t.sub_operation) in
      let after = acked_document s conn (record { stage = t.stage; sub_operation = t.sub_operation; names = names }) doc in
      acks-all more mine (All-tail all t mine w) (λ i. number (rename i)) t.stage after
      (subst (λ us. CanAck mid b left given usable last t.stage after us) (stages-both number rename (mine ++ behind)) step)

-- ---- what the loop asks for

-- stages that rise from above
abbrev StagesUp : ℕ → List Stage → Type 0
StagesUp low [] = Unit {0}
StagesUp low (t ∷ ts) = (low < t.stage) × StagesUp t.stage ts

up-weaker : (low more : ℕ) (ts : List Stage) → low ≤ more → StagesUp more ts → StagesUp low ts
up-weaker low more [] l h = tt
up-weaker low more (t ∷ ts) l h = (let up = h.0 in omega arith, h.1)

elements-up : (low more last : ℕ) (ts : List Stage) → low ≤ more → RiseTo more last ts → StagesUp low (element_stages ts)
elements-up low more last [] l h = tt
elements-up low more last (t ∷ ts) l h = step (is_on_elements t.sub_operation) (elements-up t.stage t.stage last ts (omega arith) h.1)
  where
    step : (b : Bool) → StagesUp t.stage (element_stages ts) → StagesUp low (cond b (t ∷ element_stages ts) (element_stages ts))
    step true g = (let up = h.0 in omega arith, g)
    step false g = up-weaker low t.stage (element_stages ts) (let up = h.0 in omega arith) g

ops-up : (doc : Document) (low : ℕ) (ops : List PendingOp) (us : List Stage) → StagesUp low us
    → map element_stage ops ≡ map (indexed_stage doc) us → OpsRise low ops
ops-up doc low [] us h e = tt
ops-up doc low (o ∷ os) [] h e = (cc)
ops-up doc low (o ∷ os) (u ∷ us) h e =
    let first : element_stage o ≡ indexed_stage doc u = (cc) in
    let rest : map element_stage os ≡ map (indexed_stage doc) us = (cc) in
    let same : o.stage ≡ u.stage = ap (λ (x : IndexedStage). x.stage) first in
    (let up = h.0 in omega arith, subst (λ k. OpsRise k os) (sym same) (ops-up doc u.stage os us h.1 rest))

-- whether a stage of this number is among them
abbrev is_in : ℕ → List Stage → Bool
is_in k us = list_any (λ u. nat_eq u.stage k) us

same-noted : (doc : Document) (ops : List PendingOp) (us : List Stage) (q : ℕ × Changes)
    → map element_stage ops ≡ map (indexed_stage doc) us → is_noted ops q ≡ is_in q.0 us
same-noted doc [] [] q h = refl
same-noted doc [] (u ∷ us) q h = (cc)
same-noted doc (o ∷ os) [] q h = (cc)
same-noted doc (o ∷ os) (u ∷ us) q h =
    let first : element_stage o ≡ indexed_stage doc u = (cc) in
    let rest : map element_stage os ≡ map (indexed_stage doc) us = (cc) in
    ap (λ (x : IndexedStage). nat_eq x.stage q.0 || is_noted os q) first ∙ ap (λ b. nat_eq u.stage q.0 || b) (same-noted doc os us q rest)

-- only stages on elements annotate
annotating : (k : ℕ) (ts : List Stage) → is_stage_of annotates_text ts k ≡ true → is_in k (element_stages ts) ≡ true
annotating k [] h = (cc)
annotating k (t ∷ ts) h = step t.sub_operation h (λ g. annotating k ts g)
  where
    weaker : (b a c : Bool) → (b && a) || c ≡ true → (c ≡ true → is_in k (element_stages ts) ≡ true) → b || is_in k (element_stages ts) ≡ true
    weaker true a c g f = refl
    weaker false a c g f = f g

    never : (b c : Bool) → (b && false) || c ≡ true → c ≡ true
    never true c g = g
    never false c g = g

    step : (o : SubOperation) → (nat_eq t.stage k && annotates_text o) || is_stage_of annotates_text ts k ≡ true
        → (is_stage_of annotates_text ts k ≡ true → is_in k (element_stages ts) ≡ true)
        → is_in k (cond (is_on_elements o) (t ∷ element_stages ts) (element_stages ts)) ≡ true
    step (OnText op) g f = weaker (nat_eq t.stage k) (annotates_text (OnText op)) (is_stage_of annotates_text ts k) g f
    step (OnIntervals op) g f = f (never (nat_eq t.stage k) (is_stage_of annotates_text ts k) g)
    step (OnGrid op) g f = f (never (nat_eq t.stage k) (is_stage_of annotates_text ts k) g)

noted-alike : (ops : List PendingOp) (test : ℕ × Changes → Bool) → ((q : ℕ × Changes) → test q ≡ true → is_noted ops q ≡ true)
    → {xs : TextElements} {es : List ListElement}
    → list_all (λ e. list_all test e.pending) es ≡ true → AreElements text_content xs es → AreNoted ops xs
noted-alike ops test f h ends = refl
noted-alike ops test f h (next {x = x} {y = e} {xs = xs} {ys = es} q qs) =
    let p = both (list_all test e.pending) (list_all (λ e. list_all test e.pending) es) h in
    let same = ap (λ (m : NamelessElement). list_all (is_noted ops) m.pending) q in
    rw (same ∙ all-weaker test (is_noted ops) f e.pending p.0, noted-alike ops test f p.1 qs) refl

-- what stages name is from before them
stages-before : (doc : Document) (ts : List Stage) → AreStagesNamed doc ts → Each (λ t. AreNamedBefore t.stage t.sub_operation t.names) ts
stages-before doc [] h = tt
stages-before doc (t ∷ ts) h = (h.0.1, stages-before doc ts h.1)

module _ (tree : TreeState TextContent) (c : CollectionsState) (ops : List PendingOp) (given : ℕ) (usable : Bool) (last : ℕ) (doc : Document) (stages : List Stage)
    (sound : IsTextSound last doc stages) (holds : HoldsText (state_of tree c ops given usable) doc stages) where
  pub held-rise : OpsRise 0 ops
  held-rise = ops-up doc 0 ops (element_stages stages) (elements-up 0 0 last stages (omega arith) sound.rise) holds.ops

  pub held-noted : AreNoted ops (text_elements tree)
  held-noted =
      noted-alike ops (λ q. is_stage_of annotates_text stages q.0)
      (λ q h. same-noted doc ops (element_stages stages) q holds.ops ∙ annotating q.0 stages h) sound.changes
      (from-bare text_content (text_elements tree) doc.text.items holds.elements)

  pub held-can : AreSound tree c → CanAck tree c ops given usable last 0 doc stages
  held-can parts = record {
    held = record { named = sound-named last doc stages sound; sound = parts; holds = holds };
    own = sound.own;
    rise = sound.rise;
    before = stages-before doc stages sound.names;
  }

-- operations of stages up to one that was given stand in front of none: there are none
pub none-again : (k : ℕ) (again ops : List PendingOp) → k ≡ 0 → All (λ t. t.stage ≤ k) again → OpsRise 0 (again ++ ops) → again ≡ []
none-again k [] ops e all r = refl
none-again k (t ∷ ts) ops e all r = let low = All-head (λ (u : PendingOp). u.stage ≤ k) t ts all in let up = r.0 in absurd (omega arith)

-- ---- the call

pub acked-floor : {end s conn : ℕ} {tree new : TreeState TextContent} {c d : CollectionsState} {ops rest : List PendingOp}
    → AcksStages end s conn tree new c d ops rest
    → new.floor ≡ tree.floor
acked-floor (no_stage h) = refl
acked-floor (next_stage h a more) = acked-floor more ∙ ap (λ (x : TreeState TextContent). x.floor) a.leaves ∙ a.goes.floor

pub acked-ahead : (P : PendingOp → Type 0) {end s conn : ℕ} {tree new : TreeState TextContent} {c d : CollectionsState} {ops rest : List PendingOp}
    → AcksStages end s conn tree new c d ops rest → All P ops → All P rest
acked-ahead P (no_stage h) all = all
acked-ahead P (next_stage {before = c} {ops = ops} h a more) all = acked-ahead P more (subst (λ os. All P os) (sym a.ops_are) (step _ all))
  where
    dropped : (os : List PendingOp) → All P os → All P (drop 1 os)
    dropped [] g = g
    dropped (o ∷ os) g = All-tail P o os g

    step : (b : Bool) → All P ops → All P (cond b ops (drop 1 ops))
    step true g = g
    step false g = dropped ops g

module _ (end s conn : ℕ) (tree new : TreeState TextContent) (c d : CollectionsState) (ops rest : List PendingOp) (given more : ℕ) (usable other : Bool) (first : ℕ)
    (parts : AreSound tree c) (acks : AcksStages end s conn tree new c d ops rest) where
  acked-parts : (last : ℕ) (doc : Document) (mine behind : List Stage) → AreOldest first end mine behind → IsTextSound last doc (mine ++ behind)
      → HoldsText (state_of tree c ops given usable) doc (mine ++ behind)
      → Holds new d rest given usable last (ack_stages s conn (λ i. i) mine doc).0 (map (renamed_stage (ack_stages s conn (λ i. i) mine doc).1) behind)
  acked-parts last doc mine behind old sound holds =
      acks-all end s conn given usable last first behind old.behind acks mine old.within (λ i. i) 0 doc
      (subst (λ us. CanAck tree c ops given usable last 0 doc us) (sym (unrenamed (mine ++ behind)))
      (held-can tree c ops given usable last doc (mine ++ behind) sound holds parts))

  pub acked-whole : (last : ℕ) (doc : Document) (mine behind : List Stage) → AreOldest first end mine behind → IsTextSound last doc (mine ++ behind)
      → HoldsText (state_of tree c ops given usable) doc (mine ++ behind) → HoldsAcked (state_of new d rest more other) s conn mine behind doc
  acked-whole last doc mine behind old sound holds =
      let acked = ack_stages s conn (λ i. i) mine doc in
      holds-any new d rest given more usable other acked.0 (map (renamed_stage acked.1) behind) (acked-parts last doc mine behind old sound holds).holds

  pub acked-sound : (last : ℕ) → HoldsOldest last first end (state_of tree c ops given usable) → AreSound new d
  acked-sound last h = (acked-parts last h.doc h.mine h.rest h.oldest h.sound h.holds).sound

-- no stages are acknowledged
pub acked-none : (first end : ℕ) (s : TextState) (seq conn : ℕ) (doc : Document) (mine rest : List Stage) → end ≤ first
    → AreOldest first end mine rest → HoldsText s doc (mine ++ rest)
    → HoldsAcked s seq conn mine rest doc
acked-none first end s seq conn doc mine rest l old holds =
    let none = none-within first end mine l old.within in
    subst (λ ms. HoldsAcked s seq conn ms rest doc) (sym none)
    (subst (λ ts. HoldsText s doc ts) (sym (unrenamed rest)) (subst (λ ms. HoldsText s doc (ms ++ rest)) none holds))

-- ---- what is known where the call begins

pub record IsReady (a : Inside) (first end : ℕ) : Type 0 where
  pub parts : AreSound a.tree a.intervals.state
  pub stands : StandsOn a.tree a.intervals
  pub none : a.again.items ≡ []
  pub rise : OpsRise 0 a.ops.items
  pub noted : AreNoted a.ops.items (text_elements a.tree)
  pub last : ℕ
  pub held : HoldsOldest last first end (state_of a.tree a.intervals.state a.ops.items a.given a.usable)

pub is-ready : (a : Inside) (s : TextState) (first end : ℕ) → view_of a ≡ s → IsSoundIfUsable a → IsTrue s.usable → s.given ≡ 0
    → (last : ℕ) → HoldsOldest last first end s
    → IsReady a first end
is-ready a s first end view sound usable given last h =
    let before = sound (subst (λ b. IsTrue b) (sym (ap (λ (x : TextState). x.usable) view)) usable) in
    let none_given = ap (λ (x : TextState). x.given) view ∙ given in
    let all = a.again.items ++ a.ops.items in
    let holds = subst (λ x. HoldsText x h.doc (h.mine ++ h.rest)) (sym view) h.holds in
    let up = held-rise a.tree a.intervals.state all a.given a.usable last h.doc (h.mine ++ h.rest) h.sound holds in
    let notes = held-noted a.tree a.intervals.state all a.given a.usable last h.doc (h.mine ++ h.rest) h.sound holds in
    let none = none-again a.given a.again.items a.ops.items none_given before.again up in
    record {
      parts = before.parts;
      stands = before.stands;
      none = none;
      rise = subst (λ os. OpsRise 0 (os ++ a.ops.items)) none up;
      noted = subst (λ os. AreNoted (os ++ a.ops.items) (text_elements a.tree)) none notes;
      last = last;
      held = record {
        doc = h.doc;
        mine = h.mine;
        rest = h.rest;
        oldest = h.oldest;
        sound = h.sound;
        holds = subst (λ os. HoldsText (state_of a.tree a.intervals.state (os ++ a.ops.items) a.given a.usable) h.doc (h.mine ++ h.rest)) none holds;
      };
    }
