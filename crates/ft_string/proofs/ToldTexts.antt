-- What is told by the elements of a tree of text is what is told by the document that it holds.
use Rattle.std.proofs.Common.{◌≡◌, ℕ, ◌+◌, ◌-◌, ◌<◌, ◌≤◌, Bool, true, false, cond, nat_le, List, [], ◌∷◌, ◌++◌, Result, Ok, Err, refl, sym, ◌∙◌, ap, subst, arith, length, map, is_ok}
use Rattle.std.specs.List.{AllByRecursion, list_all}
use Rattle.ft_base.specs.declared.elements.Perspective.{Perspective}
use Rattle.ft_base.specs.declared.stamps.Stamp.TheVariants.{Acked}
use Rattle.ft_base.specs.Scan.{len}
use Rattle.ft_base.specs.Visibility.{is_acked}
use Rattle.ft_block.specs.declared.leaves.LenView.TheVariants.{At}
use Rattle.ft_block.specs.Leaves.{last_stage}
use Rattle.ft_changes.specs.declared.changes.ViewChange.{ViewChange}
use Rattle.ft_changes.specs.declared.changes.ViewChange.TheVariants.{Put}
use Rattle.ft_changes.specs.declared.listeners.Listener.{Listener}
use Rattle.ft_changes.specs.Listeners.{heard}
use Rattle.ft_changes.specs.Shown.{shown_properties}
use Rattle.ft_changes.specs.ShownRuns.{changed_runs, gone_runs, place_of_insertion}
use Rattle.ft_changes.specs.Told.{styled_run, taken_run, told_local, told_local_text, told_locals, told_of_text, told_sub_operations, unless_no_elements}
use Rattle.ft_changes.proofs.HeardChanges.{heard-nothing}
use Rattle.ft_changes.proofs.RunsBeside.{changed-beside, gone-beside, place-beside}
use Rattle.ft_changes.proofs.ToldNext.{told-next}
use Rattle.ft_interval_store.specs.State.{CollectionsState, is_interval_operation, text_elements}
use Rattle.ft_laws_names.proofs.Beside.{beside-len}
use Rattle.ft_msg.specs.declared.faults.EditFault.{EditFault}
use Rattle.ft_msg.specs.declared.faults.EditFault.TheVariants.{OutOfRange}
use Rattle.ft_msg.specs.Client.{local_sub_operation}
use Rattle.ft_named.proofs.Bares.{IsElement, pending-alike, seen-alike}
use Rattle.ft_named.proofs.Changed.{beside-all, changed-alike, is_up_to, noted-alike, seen-later, up_to-made, up_to-parts}
use Rattle.ft_named.proofs.Lists.{all-append, all-put, all-range}
use Rattle.ft_named.proofs.OwnSteps.{AreUpTo, same-count, seen-last}
use Rattle.ft_op.specs.declared.operations.BaseOp.{BaseOp}
use Rattle.ft_op.specs.declared.operations.BaseOp.TheVariants.{Insert, Remove, Annotate}
use Rattle.ft_op.specs.declared.operations.TextOp.{TextOp}
use Rattle.ft_op.specs.Document.{Document, text_effect}
use Rattle.ft_op.specs.Intervals.{NamedElements, no_elements}
use Rattle.ft_op.specs.Operation.{OnIntervals, OnText, segment_contents, text_sub_operations}
use Rattle.ft_op.specs.Stages.{Stage}
use Rattle.ft_op.specs.WellFormed.{IsWellFormedBase}
use Rattle.ft_props.specs.Element.{ElementContent, ListElement, NamelessElement, is_pending, new_elements, seen, seen_by, with_annotation, with_pending_annotation, with_removal}
use Rattle.ft_props.specs.Overlay.{after_acked_changes, after_pending_changes}
use Rattle.ft_props.specs.Properties.{PropertyList, apply, shown_props}
use Rattle.ft_sumdoc.specs.WellFormed.{same_props}
use Rattle.ft_text.specs.Lengths.{count_after, count_after_all, end_of}
use Rattle.ft_text.specs.Texts.{TextElements}
use Rattle.ft_tree.specs.State.{TreeState}
use Rattle.ft_tree_changes.specs.ShownOverlays.{shown_of_element}
use Rattle.ft_tree_leaves.specs.declared.text.TextContent.{TextContent}
use Rattle.ft_tree_leaves.specs.Elements.{TreeElement, seen_in, with_overlay}
use Rattle.ft_tree_leaves.specs.Elements.{is_pending as tree_pending}
use Rattle.ft_string.specs.Bare.{text_content}
use Rattle.ft_string.specs.Edits.{seen_count}
use Rattle.ft_string.specs.Holds.{HoldsText, IsTextSound}
use Rattle.ft_string.specs.Parts.{AreSound, TakesOps, TriesOps, state_of, taken_elements}
use Rattle.ft_string.specs.Told.{told_of_all_own, told_of_op, told_of_ops, told_taken, tried_elements}
use Rattle.ft_string.specs.declared.pending.PendingOp.{PendingOp}
use Rattle.ft_string.proofs.Applied.{Holds, choice-true, elements-of, tries-op}
use Rattle.ft_string.proofs.Documents.{sound-named}
use Rattle.ft_string.proofs.Edited.{all-ordered, count-held}
use Rattle.ft_string.proofs.KindsOfText.{one_on_intervals}
use Rattle.ft_string.proofs.ShownTexts.{AreSeen}
use Rattle.ft_string.proofs.Standing.{sound-up_to}
use Rattle.ft_string.proofs.Taken.{AreOrdered, count-step, count-taken, fits-true, le-back, push-op, stage_of, taken-op, taken-up_to, taken_document, text-taken}
use Rattle.ft_string.proofs.ToldChains.{tried}

same-shown : (x : TreeElement ElementContent) (e : ListElement) → IsElement text_content x e → shown_of_element x ≡ shown_properties e
same-shown x e q = ap (λ (n : NamelessElement). shown_props n.props n.pending) q

-- ---- one operation

module _ (last : ℕ) (fits : last < 18446744073709551616) where
  told-alike : (at : Perspective) (op : BaseOp) (doc : Document) {xs : TextElements} → AreSeen last xs doc.text.items
      → told_of_op at op xs ≡ told_of_text last doc at.c at.r op
  told-alike at (Insert p seg props) doc {xs} b =
      let items = doc.text.items in
      let put = λ (i : ℕ). unless_no_elements (segment_contents seg) (Put i seg (apply [] props)) in
      ap (λ n. cond (nat_le p n) (put (place_of_insertion (seen_in (At at)) tree_pending (seen_in last_stage) p xs)) [])
      (beside-len (seen_in (At at)) (seen_by at.r at.c) (λ x e q. seen-alike text_content (At at) x e q.0) b)
      ∙ ap (λ i. cond (nat_le p (len (seen_by at.r at.c) items)) (put i) [])
      (place-beside (seen_in last_stage) (seen last) (λ x e q. seen-last text_content last fits x e q.0 q.1)
      (seen_in (At at)) (seen_by at.r at.c) (λ x e q. seen-alike text_content (At at) x e q.0)
      tree_pending is_pending (λ x e q. pending-alike text_content x e q.0) p b)
  told-alike at (Remove p q) doc {xs} b =
      let items = doc.text.items in
      ap (λ n. cond (nat_le q n) (map taken_run (gone_runs (seen_in (At at)) (seen_in last_stage) p q xs)) [])
      (beside-len (seen_in (At at)) (seen_by at.r at.c) (λ x e q. seen-alike text_content (At at) x e q.0) b)
      ∙ ap (λ runs. cond (nat_le q (len (seen_by at.r at.c) items)) (map taken_run runs) [])
      (gone-beside (seen_in last_stage) (seen last) (λ x e q. seen-last text_content last fits x e q.0 q.1)
      (seen_in (At at)) (seen_by at.r at.c) (λ x e q. seen-alike text_content (At at) x e q.0) p q b)
  told-alike at (Annotate p q changes) doc {xs} b =
      let items = doc.text.items in
      ap (λ n. cond (nat_le q n) (map styled_run
      (changed_runs same_props shown_of_element (with_overlay (after_acked_changes changes)) (seen_in (At at)) (seen_in last_stage) p q xs)) [])
      (beside-len (seen_in (At at)) (seen_by at.r at.c) (λ x e q. seen-alike text_content (At at) x e q.0) b)
      ∙ ap (λ runs. cond (nat_le q (len (seen_by at.r at.c) items)) (map styled_run runs) [])
      (changed-beside (seen_in last_stage) (seen last) (λ x e q. seen-last text_content last fits x e q.0 q.1)
      (seen_in (At at)) (seen_by at.r at.c) (λ x e q. seen-alike text_content (At at) x e q.0) p q
      same_props shown_of_element shown_properties (λ x e q. same-shown x e q.0)
      (with_overlay (after_acked_changes changes)) (with_annotation changes)
      (λ x e q. same-shown (with_overlay (after_acked_changes changes) x) (with_annotation changes e)
      (changed-alike text_content x e q.0 changes)) b)

-- ---- what is pending stays up to the last stage under a message of another client

new-acked : (last n s c : ℕ) (by : _) (props : PropertyList) (bs : List ElementContent)
    → list_all (is_up_to last) (new_elements n (Acked s c) [] by props bs) ≡ true
new-acked last n s c by props [] = refl
new-acked last n s c by props (b ∷ bs) = new-acked last (n + 1) s c by props bs

removed-up_to : (last s c : ℕ) (e : ListElement) → is_up_to last e ≡ true → is_up_to last (with_removal s c e) ≡ true
removed-up_to last s c e h =
    let p = up_to-parts last e h in
    up_to-made last (with_removal s c e)
    (record { ins = p.ins; removal = p.removal; dels = all-append is_acked e.dels (Acked s c ∷ []) p.dels refl; changes = p.changes })

up_to-choice : (last : ℕ) (b : Bool) (d e : Document) → AreUpTo last d.text.items → AreUpTo last e.text.items → AreUpTo last (cond b d e).text.items
up_to-choice last true d e f g = f
up_to-choice last false d e f g = g

effect-up_to : (last s : ℕ) (at : Perspective) (op : BaseOp) (doc : Document) → AreUpTo last doc.text.items
    → AreUpTo last (text_effect doc s at.c at.r op).text.items
effect-up_to last s at (Insert p seg props) doc h =
    up_to-choice last (nat_le p (len (seen_by at.r at.c) doc.text.items)) _ _
    (all-put (is_up_to last) (seen_by at.r at.c) is_pending p _ doc.text.items
    (new-acked last _ s at.c _ (apply [] props) (segment_contents seg)) h) h
effect-up_to last s at (Remove p q) doc h =
    up_to-choice last (nat_le q (len (seen_by at.r at.c) doc.text.items)) _ _
    (all-range (is_up_to last) (seen_by at.r at.c) (with_removal s at.c) (λ e g. removed-up_to last s at.c e g) 0 p q doc.text.items h) h
effect-up_to last s at (Annotate p q changes) doc h =
    up_to-choice last (nat_le q (len (seen_by at.r at.c) doc.text.items)) _ _
    (all-range (is_up_to last) (seen_by at.r at.c) (with_annotation changes) (λ e g. g) 0 p q doc.text.items h) h

-- ---- operations of a message one after another

module _ (c : CollectionsState) (ops : List PendingOp) (given : ℕ) (usable : Bool) (last : ℕ) (fits : last < 18446744073709551616)
    (stages : List Stage) where
  pub told-ops : (s : ℕ) (at : Perspective) (os : List BaseOp) (n : ℕ) (tree new : TreeState TextContent) (doc : Document)
      → Holds tree c ops given usable last doc stages → AreUpTo last doc.text.items → TriesOps s at os n tree new
      → told_of_ops s at os (text_elements tree) ≡ told_sub_operations last doc s at.c at.r (map (λ op. OnText op) os)
  told-ops s at [] n tree new doc h up t = refl
  told-ops s at (op ∷ os) n tree new doc h up t =
      let first = tries-op c ops given usable last stages tree t.0 s at doc h op t.1 t.3.0 in
      let rest = told-ops s at os t.2 t.0 new (text_effect doc s at.c at.r op) first.holds (effect-up_to last s at op doc up) t.3.1 in
      ap (λ cs. cs ++ told_of_ops s at os (tried_elements s at op (text_elements tree)))
      (told-alike last fits at op doc (beside-all (is_up_to last) up (elements-of c ops given usable last stages tree doc h)))
      ∙ ap (λ xs. told_of_text last doc at.c at.r op ++ told_of_ops s at os xs) (tried s at op t.1 tree t.0 t.3.0)
      ∙ ap (λ cs. told_of_text last doc at.c at.r op ++ cs) rest

-- ---- the client's own operations

before : (m : ℕ) → m + 1 - 1 ≡ m
before m = omega arith

module _ (m : ℕ) (fits : m < 18446744073709551616) where
  seen-next : (x : TreeElement ElementContent) (e : ListElement) → IsElement text_content x e × (is_up_to m e ≡ true) → seen_in last_stage x
      ≡ seen (m + 1) e
  seen-next x e q = seen-last text_content m fits x e q.0 q.1 ∙ sym (seen-later m (m + 1) (omega arith) e q.1)

  own-alike : (op : BaseOp) (doc : Document) {xs : TextElements} → AreSeen m xs doc.text.items
      → told_taken (m + 1) op xs ≡ told_local_text (m + 1) doc op
  own-alike (Insert p seg props) doc b = refl
  own-alike (Remove p q) doc {xs} b =
      ap (map taken_run) (gone-beside (seen_in last_stage) (seen (m + 1)) (λ x e r. seen-next x e r)
      (seen_in last_stage) (seen m) (λ x e r. seen-last text_content m fits x e r.0 r.1) p q b)
      ∙ ap (λ k. map taken_run (gone_runs (seen k) (seen (m + 1)) p q doc.text.items)) (sym (before m))
  own-alike (Annotate p q changes) doc {xs} b =
      ap (map styled_run) (changed-beside (seen_in last_stage) (seen (m + 1)) (λ x e r. seen-next x e r)
      (seen_in last_stage) (seen m) (λ x e r. seen-last text_content m fits x e r.0 r.1) p q
      same_props shown_of_element shown_properties (λ x e r. same-shown x e r.0)
      (with_overlay (after_pending_changes (m + 1) changes)) (with_pending_annotation (m + 1) changes)
      (λ x e r. same-shown (with_overlay (after_pending_changes (m + 1) changes) x) (with_pending_annotation (m + 1) changes e)
      (noted-alike text_content x e r.0 (m + 1) changes)) b)
      ∙ ap (λ k. map styled_run (changed_runs same_props shown_properties (with_pending_annotation (m + 1) changes) (seen k)
      (seen (m + 1)) p q doc.text.items)) (sym (before m))

pub told-own : (c : CollectionsState) (ops : List PendingOp) (given : ℕ) (usable : Bool) (stages : List Stage) (m : ℕ) (os : List BaseOp)
    → m + length os < 18446744073709551616 → (tree new : TreeState TextContent) (doc : Document)
    → Holds tree c ops given usable m doc stages → AreUpTo m doc.text.items
    → AreOrdered os → is_ok (count_after_all (len (seen m) doc.text.items) os) ≡ true → TakesOps (m + 1) os tree new
    → told_of_all_own (m + 1) os (text_elements tree) ≡ told_locals doc stages (m + 1) (map (λ o. OnText o) os)
told-own c ops given usable stages m [] l tree new doc h up o fits t = refl
told-own c ops given usable stages m (op ∷ os) l tree new doc h up o fits t =
    let short : m < 18446744073709551616 = omega arith in
    let n = len (seen m) doc.text.items in
    let f = count-step (nat_le (end_of op) n) (count_after_all (count_after n op) os) (OutOfRange n) fits in
    let d = taken_document m op doc in
    let here = stage_of (m + 1) op in
    let first = push-op c ops given usable stages t.0 d m op (taken-op c ops given usable stages m short tree t.0 doc h up op t.1.0) in
    let count = count-taken m op doc.text.items up o.0 (le-back (end_of op) n f.0) in
    let rest = told-own c (ops ++ (record { stage = m + 1; op = op } ∷ [])) given usable (stages ++ (here ∷ [])) (m + 1) os
    (omega arith) t.0 new d first
    (taken-up_to m op doc.text.items up) o.1 (subst (λ k. is_ok (count_after_all k os) ≡ true) (sym count) f.1) t.1.1 in
    let xs = text_elements tree in
    let b = elements-of c ops given usable m stages tree doc h in
    let told = told_local_text (m + 1) doc op in
    ap (λ k. cond (nat_le (end_of op) k) (told_taken (m + 1) op xs) [] ++ told_of_all_own (m + 1 + 1) os (taken_elements (m + 1) op xs))
    (same-count text_content m short up b)
    ∙ ap (λ cs. cs ++ told_of_all_own (m + 1 + 1) os (taken_elements (m + 1) op xs))
    (choice-true (nat_le (end_of op) n) (told_taken (m + 1) op xs) [] f.0)
    ∙ ap (λ cs. cs ++ told_of_all_own (m + 1 + 1) os (taken_elements (m + 1) op xs)) (own-alike m short op doc (beside-all (is_up_to m) up b))
    ∙ ap (λ ys. told ++ told_of_all_own (m + 1 + 1) os ys) (sym t.1.0.elements)
    ∙ ap (λ cs. told ++ cs) rest
    ∙ sym (told-next doc d stages (m + 1) (OnText op) (map (λ o. OnText o) os) no_elements (text-taken m op doc ∙ fits-true (end_of op) n d f.0))

-- ---- the whole

pub told-whole : (s : ℕ) (at : Perspective) (os : List BaseOp) (n : ℕ) (tree new : TreeState TextContent) (c : CollectionsState)
    (ops : List PendingOp) (given : ℕ) (usable : Bool) → AreSound tree c → TriesOps s at os n tree new
    → (last : ℕ) (doc : Document) (stages : List Stage) → IsTextSound last doc stages → HoldsText (state_of tree c ops given usable) doc stages
    → told_of_ops s at os (text_elements tree) ≡ told_sub_operations last doc s at.c at.r (map (λ op. OnText op) os)
told-whole s at os n tree new c ops given usable parts t last doc stages sound holds =
    let whole : Holds tree c ops given usable last doc stages = record { named = sound-named last doc stages sound; sound = parts; holds = holds } in
    told-ops c ops given usable last sound.fits stages s at os n tree new doc whole (sound-up_to last doc stages sound) t

pub told-own-whole : (first : ℕ) → 1 ≤ first → (os : List BaseOp) → AllByRecursion IsWellFormedBase os → first + length os < 18446744073709551616
    → (tree new : TreeState TextContent) (c : CollectionsState) (ops : List PendingOp) (given : ℕ) (usable : Bool) → AreSound tree c
    → is_ok (count_after_all (seen_count (state_of tree c ops given usable)) os) ≡ true → TakesOps first os tree new
    → (doc : Document) (stages : List Stage) → IsTextSound (first - 1) doc stages → HoldsText (state_of tree c ops given usable) doc stages
    → told_of_all_own first os (text_elements tree) ≡ told_locals doc stages first (map (λ op. OnText op) os)
told-own-whole first l os formed short tree new c ops given usable parts fits t doc stages sound holds =
    let m = first - 1 in
    let up = sound-up_to m doc stages sound in
    let whole : Holds tree c ops given usable m doc stages = record { named = sound-named m doc stages sound; sound = parts; holds = holds } in
    let count = count-held m sound.fits tree c ops given usable doc stages up holds in
    subst (λ k. told_of_all_own k os (text_elements tree) ≡ told_locals doc stages k (map (λ op. OnText op) os)) (back first l)
    (told-own c ops given usable stages m os (omega arith) tree new doc whole up (all-ordered os formed)
    (subst (λ n. is_ok (count_after_all n os) ≡ true) count fits) (subst (λ k. TakesOps k os tree new) (sym (back first l)) t))
  where
    back : (k : ℕ) → 1 ≤ k → k - 1 + 1 ≡ k
    back k l = omega arith

-- an operation on intervals tells nothing
pub intervals-silent : (l : Listener) (last s c r : ℕ) (doc : Document) (op : TextOp) → is_interval_operation op ≡ true
    → l ≡ heard l (told_sub_operations last doc s c r (text_sub_operations op))
intervals-silent l last s c r doc op kind =
    sym (ap (λ os. heard l (told_sub_operations last doc s c r os)) (one_on_intervals op kind) ∙ heard-nothing l)

told-one : (doc : Document) (stages : List Stage) (k : ℕ) (op : TextOp) → told_locals doc stages k (OnIntervals op ∷ []) ≡ []
told-one doc stages k op = step (local_sub_operation doc stages k (OnIntervals op))
  where
    step : (r : Result (Document × NamedElements) EditFault) → elim r as (λ _. List ViewChange) [
      | Err fault ↦ []
      | Ok taken ↦
          let here : Stage = record { stage = k; sub_operation = OnIntervals op; names = taken.1 } in
          told_local k doc (OnIntervals op) ++ told_locals taken.0 (stages ++ (here ∷ [])) (k + 1) []
    ] ≡ []
    step (Ok taken) = refl
    step (Err fault) = refl

pub own-intervals-silent : (l : Listener) (doc : Document) (stages : List Stage) (k : ℕ) (op : TextOp) → is_interval_operation op ≡ true
    → l ≡ heard l (told_locals doc stages k (text_sub_operations op))
own-intervals-silent l doc stages k op kind =
    sym (ap (λ os. heard l (told_locals doc stages k os)) (one_on_intervals op kind) ∙ ap (heard l) (told-one doc stages k op) ∙ heard-nothing l)
