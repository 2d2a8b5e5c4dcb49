use Rattle.std.proofs.Common.{◌≡◌, ℕ, ◌+◌, ◌-◌, ◌≤◌, Bool, [], Some, None, drop, length, nat_eq, option_map, refl, subst, sym, ap, arith, ◌∙◌, take}
use Rattle.std.specs.List.{list_any}
use Rattle.std.proofs.lemmas.List.{length-drop}
use Rattle.ft_arena.specs.Ids.{after, first}
use Rattle.ft_block.specs.Leaves.{IsLeafIn, IsPlaceIn, ids, sees_in, times_leaf, value_at}
use Rattle.ft_tree_leaves.specs.declared.leaves.TreeLeaf.{TreeLeaf}
use Rattle.ft_tree_leaves.specs.LeafLists.{elements}
use Rattle.ft_tree_blocks.specs.Walks.{from_place}
use Rattle.ft_tree_blocks.proofs.Walks.{after_in_place, first_in_place, from_first}
use Rattle.ft_perm.specs.Handles.{HandleRun, handles_of}
use Rattle.ft_perm.specs.Vectors.{VectorState, seen_handles}
use Rattle.ft_perm.proofs.SeenRuns.{Leaves, length-shown_runs, shown_runs}
use Rattle.ft_perm.proofs.SeenWalks.{fewer, run-past, run-there, unseen-past}
use Rattle.ft_perm.proofs.StandingRuns.{in_run-bounds, length-there, passed-run, position-none, position-there}
use Rattle.ft_perm.proofs.vectors.Vector.place_of.Goals as goal

pub loop-next-init : goal.loop-next-init
loop-next-init c =
    let tree = c.args.self.now.tree in
    let xs = tree.leaves in
    let e : c.self.inside.tree.leaves ≡ xs = ap (λ (v : VectorState). v.tree.leaves) c.self.view_is in
    let value = c.first_leaf-next.ensures.value ∙ ap (λ (zs : Leaves). first (ids zs)) e in
    record {
      passed = refl;
      within = omega arith;
      from = sym (ap (λ o. shown_runs c.args.view (from_place xs o)) value ∙ ap (shown_runs c.args.view) (from_first xs));
      live = subst (IsPlaceIn xs) (sym value) (first_in_place xs);
    }

pub next_leaf-next-requires-clause-live : goal.next_leaf-next-requires-clause-live
next_leaf-next-requires-clause-live c =
    let tree = c.args.self.now.tree in
    let xs = tree.leaves in
    let e : c.self.inside.tree.leaves ≡ xs = ap (λ (v : VectorState). v.tree.leaves) c.self.view_is in
    subst (λ (zs : Leaves). IsLeafIn zs c.in-Some.leaf) (sym e) (subst (IsPlaceIn xs) c.in-Some.is c.loop-next.invariant.live)

pub leaf_is_seen-requires-clause-live : goal.leaf_is_seen-requires-clause-live
leaf_is_seen-requires-clause-live c =
    let tree = c.args.self.now.tree in
    let xs = tree.leaves in
    let e : c.self.inside.tree.leaves ≡ xs = ap (λ (v : VectorState). v.tree.leaves) c.self.view_is in
    subst (λ (zs : Leaves). IsLeafIn zs c.in-Some.leaf) (sym e) (subst (IsPlaceIn xs) c.in-Some.is c.loop-next.invariant.live)

pub leaf_content-run-requires-clause-live : goal.leaf_content-run-requires-clause-live
leaf_content-run-requires-clause-live c =
    let tree = c.args.self.now.tree in
    let xs = tree.leaves in
    let e : c.self.inside.tree.leaves ≡ xs = ap (λ (v : VectorState). v.tree.leaves) c.self.view_is in
    subst (λ (zs : Leaves). IsLeafIn zs c.in-Some.leaf) (sym e) (subst (IsPlaceIn xs) c.in-Some.is c.loop-next.invariant.live)

pub loop-next-smaller-then-not-leaf_is_seen : goal.loop-next-smaller-then-not-leaf_is_seen
loop-next-smaller-then-not-leaf_is_seen c =
    let tree = c.args.self.now.tree in
    let xs = tree.leaves in
    let e : c.self.inside.tree.leaves ≡ xs = ap (λ (v : VectorState). v.tree.leaves) c.self.view_is in
    let once = subst (λ (zs : Leaves). (i : ℕ) → times_leaf zs i ≤ 1) e c.first_leaf-next.ensures.once in
    let live : IsLeafIn xs c.in-Some.leaf = subst (IsPlaceIn xs) c.in-Some.is c.loop-next.invariant.live in
    let on = c.next_leaf-next.ensures ∙ ap (λ (zs : Leaves). after (ids zs) c.in-Some.leaf) e in
    fewer c.args.view xs once c.loop-next.next c.next_leaf-next.result c.in-Some.leaf live c.in-Some.is on

pub loop-next-preserved-then-not-leaf_is_seen : goal.loop-next-preserved-then-not-leaf_is_seen
loop-next-preserved-then-not-leaf_is_seen c =
    let tree = c.args.self.now.tree in
    let xs = tree.leaves in
    let e : c.self.inside.tree.leaves ≡ xs = ap (λ (v : VectorState). v.tree.leaves) c.self.view_is in
    let once = subst (λ (zs : Leaves). (i : ℕ) → times_leaf zs i ≤ 1) e c.first_leaf-next.ensures.once in
    let live : IsLeafIn xs c.in-Some.leaf = subst (IsPlaceIn xs) c.in-Some.is c.loop-next.invariant.live in
    let on = c.next_leaf-next.ensures ∙ ap (λ (zs : Leaves). after (ids zs) c.in-Some.leaf) e in
    let seen = sym (ap (λ (zs : Leaves). option_map (λ (x : TreeLeaf HandleRun). sees_in c.args.view x.stamps) (value_at zs c.in-Some.leaf)) e) ∙ c.leaf_is_seen.ensures
    ∙ ap (λ (b : Bool). Some b) c.if-not-leaf_is_seen.true in
    let inv = c.loop-next.invariant in
    record {
      passed = inv.passed;
      within = inv.within;
      from = inv.from ∙ unseen-past c.args.view xs once c.loop-next.next c.next_leaf-next.result c.in-Some.leaf live c.in-Some.is on seen;
      live = subst (IsPlaceIn xs) (sym on) (after_in_place xs c.in-Some.leaf);
    }

pub overflow_add-result : goal.overflow_add-result
overflow_add-result c =
    let tree = c.args.self.now.tree in
    let xs = tree.leaves in
    let e : c.self.inside.tree.leaves ≡ xs = ap (λ (v : VectorState). v.tree.leaves) c.self.view_is in
    let once = subst (λ (zs : Leaves). (i : ℕ) → times_leaf zs i ≤ 1) e c.first_leaf-next.ensures.once in
    let live : IsLeafIn xs c.in-Some.leaf = subst (IsPlaceIn xs) c.in-Some.is c.loop-next.invariant.live in
    let on = c.next_leaf-next.ensures ∙ ap (λ (zs : Leaves). after (ids zs) c.in-Some.leaf) e in
    let seen = sym (ap (λ (zs : Leaves). option_map (λ (x : TreeLeaf HandleRun). sees_in c.args.view x.stamps) (value_at zs c.in-Some.leaf)) e) ∙ c.leaf_is_seen.ensures
    ∙ ap (λ (b : Bool). Some b) c.if-not-leaf_is_seen.false in
    let run = c.leaf_content-run.result.now in
    let content = sym (ap (λ (zs : Leaves). option_map (λ (x : TreeLeaf HandleRun). x.content) (value_at zs c.in-Some.leaf)) e) ∙ c.leaf_content-run.ensures in
    let p = c.loop-next.p in
    let all = seen_handles c.args.view tree in
    let inv = c.loop-next.invariant in
    let stands = run-there c.args.view xs once c.loop-next.next c.next_leaf-next.result c.in-Some.leaf live c.in-Some.is on run content seen p inv.within inv.from in
    let few = c.first_leaf-next.ensures.few in
    let whole = ap (λ (zs : Leaves). length (elements handles_of (λ x. None) zs)) e in
    let there = length-there p run all stands in
    let bounds = in_run-bounds c.args.handle run (sym c.if-holds.ensures) in
    let head = ap (λ (r : HandleRun). r.first) c.run.view_is in
    omega (arith, bounds, there, head, few, whole, length-shown_runs c.args.view xs)

pub returns-then-holds : goal.returns-then-holds
returns-then-holds c =
    let tree = c.args.self.now.tree in
    let xs = tree.leaves in
    let e : c.self.inside.tree.leaves ≡ xs = ap (λ (v : VectorState). v.tree.leaves) c.self.view_is in
    let once = subst (λ (zs : Leaves). (i : ℕ) → times_leaf zs i ≤ 1) e c.first_leaf-next.ensures.once in
    let live : IsLeafIn xs c.in-Some.leaf = subst (IsPlaceIn xs) c.in-Some.is c.loop-next.invariant.live in
    let on = c.next_leaf-next.ensures ∙ ap (λ (zs : Leaves). after (ids zs) c.in-Some.leaf) e in
    let seen = sym (ap (λ (zs : Leaves). option_map (λ (x : TreeLeaf HandleRun). sees_in c.args.view x.stamps) (value_at zs c.in-Some.leaf)) e) ∙ c.leaf_is_seen.ensures
    ∙ ap (λ (b : Bool). Some b) c.if-not-leaf_is_seen.false in
    let run = c.leaf_content-run.result.now in
    let content = sym (ap (λ (zs : Leaves). option_map (λ (x : TreeLeaf HandleRun). x.content) (value_at zs c.in-Some.leaf)) e) ∙ c.leaf_content-run.ensures in
    let p = c.loop-next.p in
    let all = seen_handles c.args.view tree in
    let inv = c.loop-next.invariant in
    let stands = run-there c.args.view xs once c.loop-next.next c.next_leaf-next.result c.in-Some.leaf live c.in-Some.is on run content seen p inv.within inv.from in
    ap (λ (r : HandleRun). Some (p + (c.args.handle - r.first))) c.run.view_is
    ∙ position-there c.args.handle p run all stands inv.passed (sym c.if-holds.ensures)

pub overflow_add-p : goal.overflow_add-p
overflow_add-p c =
    let tree = c.args.self.now.tree in
    let xs = tree.leaves in
    let e : c.self.inside.tree.leaves ≡ xs = ap (λ (v : VectorState). v.tree.leaves) c.self.view_is in
    let once = subst (λ (zs : Leaves). (i : ℕ) → times_leaf zs i ≤ 1) e c.first_leaf-next.ensures.once in
    let live : IsLeafIn xs c.in-Some.leaf = subst (IsPlaceIn xs) c.in-Some.is c.loop-next.invariant.live in
    let on = c.next_leaf-next.ensures ∙ ap (λ (zs : Leaves). after (ids zs) c.in-Some.leaf) e in
    let seen = sym (ap (λ (zs : Leaves). option_map (λ (x : TreeLeaf HandleRun). sees_in c.args.view x.stamps) (value_at zs c.in-Some.leaf)) e) ∙ c.leaf_is_seen.ensures
    ∙ ap (λ (b : Bool). Some b) c.if-not-leaf_is_seen.false in
    let run = c.leaf_content-run.result.now in
    let content = sym (ap (λ (zs : Leaves). option_map (λ (x : TreeLeaf HandleRun). x.content) (value_at zs c.in-Some.leaf)) e) ∙ c.leaf_content-run.ensures in
    let p = c.loop-next.p in
    let all = seen_handles c.args.view tree in
    let inv = c.loop-next.invariant in
    let stands = run-there c.args.view xs once c.loop-next.next c.next_leaf-next.result c.in-Some.leaf live c.in-Some.is on run content seen p inv.within inv.from in
    let few = c.first_leaf-next.ensures.few in
    let whole = ap (λ (zs : Leaves). length (elements handles_of (λ x. None) zs)) e in
    let there = length-there p run all stands in
    let count = ap (λ (r : HandleRun). r.count) c.run.view_is in
    omega (arith, there, count, few, whole, length-shown_runs c.args.view xs)

pub loop-next-smaller : goal.loop-next-smaller
loop-next-smaller c =
    let tree = c.args.self.now.tree in
    let xs = tree.leaves in
    let e : c.self.inside.tree.leaves ≡ xs = ap (λ (v : VectorState). v.tree.leaves) c.self.view_is in
    let once = subst (λ (zs : Leaves). (i : ℕ) → times_leaf zs i ≤ 1) e c.first_leaf-next.ensures.once in
    let live : IsLeafIn xs c.in-Some.leaf = subst (IsPlaceIn xs) c.in-Some.is c.loop-next.invariant.live in
    let on = c.next_leaf-next.ensures ∙ ap (λ (zs : Leaves). after (ids zs) c.in-Some.leaf) e in
    fewer c.args.view xs once c.loop-next.next c.next_leaf-next.result c.in-Some.leaf live c.in-Some.is on

pub loop-next-preserved : goal.loop-next-preserved
loop-next-preserved c =
    let tree = c.args.self.now.tree in
    let xs = tree.leaves in
    let e : c.self.inside.tree.leaves ≡ xs = ap (λ (v : VectorState). v.tree.leaves) c.self.view_is in
    let once = subst (λ (zs : Leaves). (i : ℕ) → times_leaf zs i ≤ 1) e c.first_leaf-next.ensures.once in
    let live : IsLeafIn xs c.in-Some.leaf = subst (IsPlaceIn xs) c.in-Some.is c.loop-next.invariant.live in
    let on = c.next_leaf-next.ensures ∙ ap (λ (zs : Leaves). after (ids zs) c.in-Some.leaf) e in
    let seen = sym (ap (λ (zs : Leaves). option_map (λ (x : TreeLeaf HandleRun). sees_in c.args.view x.stamps) (value_at zs c.in-Some.leaf)) e) ∙ c.leaf_is_seen.ensures
    ∙ ap (λ (b : Bool). Some b) c.if-not-leaf_is_seen.false in
    let run = c.leaf_content-run.result.now in
    let content = sym (ap (λ (zs : Leaves). option_map (λ (x : TreeLeaf HandleRun). x.content) (value_at zs c.in-Some.leaf)) e) ∙ c.leaf_content-run.ensures in
    let p = c.loop-next.p in
    let all = seen_handles c.args.view tree in
    let inv = c.loop-next.invariant in
    let stands = run-there c.args.view xs once c.loop-next.next c.next_leaf-next.result c.in-Some.leaf live c.in-Some.is on run content seen p inv.within inv.from in
    let count = ap (λ (r : HandleRun). r.count) c.run.view_is in
    record {
      passed = ap (λ n. list_any (λ h. nat_eq h c.args.handle) (take (p + n) all)) count
          ∙ passed-run c.args.handle p run all stands inv.passed (sym c.if-holds.ensures);
      within = omega (arith, length-there p run all stands, count);
      from = ap (λ n. drop (p + n) all) count ∙ run-past c.args.view xs once c.loop-next.next c.next_leaf-next.result c.in-Some.leaf live c.in-Some.is on
          run content seen p inv.within inv.from;
      live = subst (IsPlaceIn xs) (sym on) (after_in_place xs c.in-Some.leaf);
    }

pub returns : goal.returns
returns c =
    let tree = c.args.self.now.tree in
    let all = seen_handles c.args.view tree in
    let none : drop c.loop-next.p all ≡ [] =
    c.loop-next.invariant.from ∙ ap (λ o. shown_runs c.args.view (from_place tree.leaves o)) c.in_default.is in
    position-none c.args.handle c.loop-next.p all c.loop-next.invariant.passed (omega (arith, length-drop c.loop-next.p all, ap length none))
