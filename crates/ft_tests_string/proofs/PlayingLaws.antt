-- What goes together while a script is played goes together after each call.
use Rattle.std.proofs.Common.{◌≡◌, ℕ, ◌≤◌, ◌<◌, Bool, true, false, List, [], ◌∷◌, All, None, Option, map, refl, sym, ◌∙◌, ap, subst, arith}
use Rattle.std.specs.List.{list_all}
use Rattle.std.specs.Prelude.{Result, Ok, Err, IfOk, OnOk}
use Rattle.std.proofs.lemmas.List.Elements.{All-cons, All-head, All-nil, All-tail}
use Rattle.ft_base.proofs.Booleans.{both}
use Rattle.ft_base.specs.declared.elements.Perspective.{Perspective}
use Rattle.ft_base.specs.declared.stamps.Stamp.{Stamp}
use Rattle.ft_base.specs.declared.stamps.Stamp.TheVariants.{Acked, Local}
use Rattle.ft_base.specs.Scan.{no_run}
use Rattle.ft_block.specs.Leaves.{last_stage}
use Rattle.ft_block.specs.declared.leaves.LenView.TheVariants.{At}
use Rattle.ft_interval.specs.State.{IndexedState, StandsOn}
use Rattle.ft_interval.proofs.StandsSteps.{stands-none}
use Rattle.ft_interval_store.specs.Ends.{References, places_of_ends}
use Rattle.ft_interval_store.specs.State.{CollectionsState, IsAboveAll, KeepsReferences, placed, placed_intervals, placed_operations, text_elements, with_first_acked, with_mapped_names}
use Rattle.ft_interval_store.specs.declared.intervals.EndPair.{EndPair}
use Rattle.ft_interval_store.specs.declared.pending.Operation.{Operation}
use Rattle.ft_named.proofs.Lists.{all-put, all-range}
use Rattle.ft_op.specs.declared.operations.BaseOp.{BaseOp}
use Rattle.ft_op.specs.declared.operations.BaseOp.TheVariants.{Annotate, Insert, Remove}
use Rattle.ft_op.specs.Operation.{segment_contents}
use Rattle.ft_props.specs.Element.{ElementContent}
use Rattle.ft_props.specs.Overlay.{after_acked_changes, without_stage}
use Rattle.ft_props.specs.Properties.{PropertyList, apply}
use Rattle.ft_props.specs.declared.properties.Changes.{Changes}
use Rattle.ft_string.proofs.Applied.{slid-acked}
use Rattle.ft_string.proofs.AppliedIntervals.{kept-sound, same-sound}
use Rattle.ft_string.proofs.Documents.{sound-step}
use Rattle.ft_string.proofs.Edited.{took-sound}
use Rattle.ft_string.proofs.StandingIndexes.{acked-stands, took-stands, tried-stands}
use Rattle.ft_string.proofs.Wholes.{tried-sound}
use Rattle.ft_string.specs.Parts.{AppliesOp, TakesOp, TakesOps, TriesOps, applied_elements, taken_elements}
use Rattle.ft_text.specs.Lengths.{end_of}
use Rattle.ft_text.specs.Texts.{TextElements}
use Rattle.ft_tests_string.specs.Answers.{Makes, after}
use Rattle.ft_tests_string.specs.declared.edits.Answer.{Answer}
use Rattle.ft_tests_string.specs.Playing.{Carries, Together, are_none, is_annotation, is_calm}
use Rattle.ft_tree.specs.State.{KeepsRest, TreeState}
use Rattle.ft_tree_leaves.specs.declared.text.TextContent.{TextContent}
use Rattle.ft_tree_leaves.specs.Elements.{IsLowestChange, TreeElement, acked_element, is_pending, new_elements, removed_stamps, seen_in, with_overlay, with_stamps}
use Rattle.ft_tree_leaves.specs.References.{ChangesReferences, slid_reference}
use Rattle.ft_tree_leaves.specs.TextLeaves.{text_author}
use Rattle.ft_base.specs.Scan.{len}

-- ---- the beginning

pub begins : (let tree : TreeState TextContent = record { leaves = []; refs = []; floor = 0; sweep = None; made = 0; depth = 0; usable = true } in
    let c : IndexedState = record { state = record { acked = []; pending = [] }; indexes = [] } in Together tree c 1)
begins = record {
  sound = record {
    tree = refl;
    live = λ r k. absurd (let never : false ≡ true = k in cc never);
    marked = record {
      acked = λ r k. absurd (let never : false ≡ true = k in cc never);
      pending = λ r k. absurd (let never : false ≡ true = k in cc never);
    };
    only = λ r e. refl;
  };
  stands = stands-none (record { leaves = []; refs = []; floor = 0; sweep = None; made = 0; depth = 0; usable = true });
  calm = refl;
  some = omega arith;
  above = All-nil (λ (t : Operation). t.stage < 1);
}

pub begun : (tree : TreeState TextContent) (c : IndexedState) (k : ℕ)
    → tree ≡ record { leaves = []; refs = []; floor = 0; sweep = None; made = 0; depth = 0; usable = true }
    → c ≡ record { state = record { acked = []; pending = [] }; indexes = [] } → k ≡ 1 → Together tree c k
begun tree c k e f g = rw (e, f, g) begins

-- ---- no changes are pending

new-calm : (ins : Stamp) (by : Option Stamp) (props : PropertyList) (us : List ElementContent)
    → list_all is_calm (new_elements ins by props us) ≡ true
new-calm ins by props [] = refl
new-calm ins by props (u ∷ us) = new-calm ins by props us

applied-calm : (s : ℕ) (at' : Perspective) (op : BaseOp) (xs : TextElements) → list_all is_calm xs ≡ true
    → list_all is_calm (applied_elements s at' op xs) ≡ true
applied-calm s at' (Insert p seg props) xs h =
    all-put is_calm (seen_in (At at')) is_pending p (new_elements (Acked s at'.c) (text_author s at'.c) (apply [] props) (segment_contents seg)) xs
    (new-calm (Acked s at'.c) (text_author s at'.c) (apply [] props) (segment_contents seg)) h
applied-calm s at' (Remove p q) xs h = all-range is_calm (seen_in (At at')) (with_stamps (removed_stamps (Acked s at'.c))) (λ x e. e) 0 p q xs h
applied-calm s at' (Annotate p q changes) xs h =
    all-range is_calm (seen_in (At at')) (with_overlay (after_acked_changes changes)) (λ x e. e) 0 p q xs h

taken-calm : (k : ℕ) (op : BaseOp) (xs : TextElements) → is_annotation op ≡ false → list_all is_calm xs ≡ true
    → list_all is_calm (taken_elements k op xs) ≡ true
taken-calm k (Insert p seg props) xs e h =
    all-put is_calm (seen_in last_stage) no_run p (new_elements (Local k) None (apply [] props) (segment_contents seg)) xs
    (new-calm (Local k) None (apply [] props) (segment_contents seg)) h
taken-calm k (Remove p q) xs e h = all-range is_calm (seen_in last_stage) (with_stamps (removed_stamps (Local k))) (λ x g. g) 0 p q xs h
taken-calm k (Annotate p q changes) xs e h = (cc)

none-left : (k : ℕ) (cs : List (ℕ × Changes)) → are_none cs ≡ true → are_none (without_stage k cs) ≡ true
none-left k [] h = refl
none-left k (c ∷ cs) h = (cc)

acked-calm : (k s c : ℕ) (author : Option Stamp) (xs : TextElements) → list_all is_calm xs ≡ true
    → list_all is_calm (map (acked_element k s c author) xs) ≡ true
acked-calm k s c author [] h = refl
acked-calm k s c author (x ∷ xs) h =
    let p = both (is_calm x) (list_all is_calm xs) h in rw (none-left k x.overlay.pending p.0, acked-calm k s c author xs p.1) refl

lowest-none : (k : ℕ) (cs : List (ℕ × Changes)) → are_none cs ≡ true → All (λ c. k ≤ c.0) cs
lowest-none k [] h = All-nil (λ c. k ≤ c.0)
lowest-none k (c ∷ cs) h = (cc)

pub calm-lowest : (k : ℕ) (xs : TextElements) → list_all is_calm xs ≡ true → All (λ e. IsLowestChange k e.overlay) xs
calm-lowest k [] h = All-nil (λ (e : TreeElement ElementContent). IsLowestChange k e.overlay)
calm-lowest k (x ∷ xs) h =
    let p = both (is_calm x) (list_all is_calm xs) h in
    All-cons (λ (e : TreeElement ElementContent). IsLowestChange k e.overlay) x xs (lowest-none k x.overlay.pending p.0) (calm-lowest k xs p.1)

-- ---- pending stages stay below

pub same-below : (k : ℕ) (r s : References) (ts us : List Operation) → placed_operations r ts ≡ placed_operations s us → All (λ t. t.stage < k) us
    → All (λ t. t.stage < k) ts
same-below k r s [] us e h = All-nil (λ (t : Operation). t.stage < k)
same-below k r s (t ∷ ts) [] e h = (cc)
same-below k r s (t ∷ ts) (u ∷ us) e h =
    let first : with_mapped_names (places_of_ends r) t ≡ with_mapped_names (places_of_ends s) u = (cc) in
    let rest : placed_operations r ts ≡ placed_operations s us = (cc) in
    let stage : t.stage ≡ u.stage = ap (λ (x : Operation). x.stage) first in
    let low : u.stage < k = All-head (λ (x : Operation). x.stage < k) u us h in
    All-cons (λ (x : Operation). x.stage < k) t ts (omega (arith, stage, low))
    (same-below k r s ts us rest (All-tail (λ (x : Operation). x.stage < k) u us h))

-- ---- the calls

-- a message on elements
pub heard : (s : ℕ) (at' : Perspective) (op : BaseOp) (tree new : TreeState TextContent) → end_of op ≤ len (seen_in (At at')) (text_elements tree)
    → AppliesOp s at' op tree new → Carries tree new
heard s at' op tree new fits a c k h =
    let tries : TriesOps s at' (op ∷ []) 0 tree new = (new, 0, 0, ((fits, a), (refl, refl), refl)) in
    record {
      sound = tried-sound s at' (op ∷ []) 0 tree new c.state tries h.sound;
      stands = tried-stands s at' (op ∷ []) 0 tree new c tries h.sound h.stands;
      calm = ap (λ xs. list_all is_calm xs) a.elements ∙ applied-calm s at' op (text_elements tree) h.calm;
      some = h.some;
      above = h.above;
    }

-- an edit of elements
pub took : (j : ℕ) (op : BaseOp) (tree new : TreeState TextContent) → is_annotation op ≡ false → TakesOp j op tree new
    → (c : IndexedState) → (k n : ℕ) → Together tree c k → k ≤ n → IsAboveAll n c.state → Together new c n
took j op tree new kind a c k n h le above =
    let takes : TakesOps j (op ∷ []) tree new = (new, (a, refl)) in
    record {
      sound = took-sound j (op ∷ []) tree new c.state takes h.sound;
      stands = took-stands j (op ∷ []) tree new c takes h.stands;
      calm = ap (λ xs. list_all is_calm xs) a.elements ∙ taken-calm j op (text_elements tree) kind h.calm;
      some = let l = h.some in omega arith;
      above = above;
    }

-- a stage of elements that is acknowledged
pub acked-elements : (j s : ℕ) (tree new : TreeState TextContent)
    → text_elements new ≡ map (acked_element j s 1 (text_author s 1)) (text_elements tree)
    → ChangesReferences (slid_reference (text_elements new)) tree.refs new.refs → KeepsRest tree new → Carries tree new
acked-elements j s tree new elements refs rest c k h = record {
  sound = sound-step (slid_reference (text_elements new)) (λ x. slid-acked (text_elements new) x) tree new c.state refs rest.usable h.sound;
  stands = acked-stands j s 1 tree new c elements refs h.sound.marked h.stands;
  calm = ap (λ xs. list_all is_calm xs) elements ∙ acked-calm j s 1 (text_author s 1) (text_elements tree) h.calm;
  some = h.some;
  above = h.above;
}

-- a call that leaves all of the tree but its references, behind which pending stages are below n
pub kept : (tree new : TreeState TextContent) (c d : IndexedState) (k n : ℕ) → Together tree c k → new ≡ record tree { refs = new.refs }
    → KeepsReferences c.state d.state tree.refs new.refs → StandsOn new d → k ≤ n → IsAboveAll n d.state → Together new d n
kept tree new c d k n h rest refs stands le above = record {
  sound = kept-sound tree new c.state d.state h.sound rest refs;
  stands = stands;
  calm = ap (λ (t : TreeState TextContent). list_all is_calm (text_elements t)) rest ∙ h.calm;
  some = let l = h.some in omega arith;
  above = above;
}

-- a message on an interval, which fits or changes nothing
pub heard-interval : (fits : Bool) (tree new : TreeState TextContent) (c d : IndexedState)
    → (fits ≡ true → placed_operations new.refs d.state.pending ≡ placed_operations tree.refs c.state.pending)
    → (fits ≡ true → KeepsReferences c.state d.state tree.refs new.refs) → new ≡ record tree { refs = new.refs }
    → (fits ≡ false → (d.state ≡ c.state) × (new ≡ tree)) → StandsOn new d → (k : ℕ) → Together tree c k → Together new d k
heard-interval true tree new c d pending refs rest misfit stands k h =
    kept tree new c d k k h rest (refs refl) stands (omega arith)
    (same-below k new.refs tree.refs d.state.pending c.state.pending (pending refl) h.above)
heard-interval false tree new c d pending refs rest misfit stands k h =
    let same = misfit refl in
    record {
      sound = same-sound tree new c.state d.state h.sound same.0 same.1;
      stands = stands;
      calm = ap (λ (t : TreeState TextContent). list_all is_calm (text_elements t)) same.1 ∙ h.calm;
      some = h.some;
      above = subst (λ (x : CollectionsState). IsAboveAll k x) (sym same.0) h.above;
    }

-- a pending operation on an interval that is acknowledged
pub acked-interval : (f : EndPair ℕ → EndPair ℕ) (tree new : TreeState TextContent) (c d : IndexedState)
    → placed new.refs d.state ≡ with_first_acked f (placed tree.refs c.state) → KeepsReferences c.state d.state tree.refs new.refs
    → new ≡ record tree { refs = new.refs } → StandsOn new d → (k : ℕ) → Together tree c k → Together new d k
acked-interval f tree new c d effect refs rest stands k h =
    kept tree new c d k k h rest refs stands (omega arith) (step c.state.pending h.above (ap (λ (x : CollectionsState). x.pending) effect))
  where
    step : (ts : List Operation) → All (λ t. t.stage < k) ts
        → placed_operations new.refs d.state.pending
        ≡ (with_first_acked f (record { acked = placed_intervals tree.refs c.state.acked; pending = placed_operations tree.refs ts })).pending
        → All (λ t. t.stage < k) d.state.pending
    step [] a e = same-below k new.refs tree.refs d.state.pending [] e a
    step (t ∷ ts) a e = same-below k new.refs tree.refs d.state.pending ts e (All-tail (λ (x : Operation). x.stage < k) t ts a)

-- ---- results that are handed on

pub carried : {T E : Type 0} (r : Result T E) (tree new : TreeState TextContent) (c : IndexedState) (k : ℕ) → Together tree c k
    → OnOk r (Carries tree new) → OnOk r (Together new c k)
carried (Ok x) tree new c k h f = f c k h
carried (Err e) tree new c k h f = tt

pub made-together : {E : Type 0} (r : Result Answer E) (stage : ℕ) (tree new : TreeState TextContent) (c : IndexedState) → Together tree c stage
    → IfOk r (λ answer. Makes stage answer tree new) → IfOk r (λ answer. Together new c (after answer stage))
made-together (Ok x) stage tree new c h f = f c h
made-together (Err e) stage tree new c h f = tt
