use Rattle.std.proofs.Common.{◌≡◌, ℕ, ◌+◌, Bool, Option, Some, length, not, true, false, subst, sym, ◌∙◌, ap, arith}
use Rattle.std.specs.List.{prefix_len}
use Rattle.ft_base.specs.Visibility.{is_acked}
use Rattle.ft_block.specs.Leaves.{IsPlaceIn}
use Rattle.ft_tree_leaves.specs.Edits.{up_to_place}
use Rattle.ft_tree_leaves.specs.Elements.{is_pending}
use Rattle.ft_tree_leaves.specs.LeafLists.{elements, pending_leaves}
use Rattle.ft_tree_blocks.specs.Walks.{from_place, node_behind}
use Rattle.ft_tree_leaves.specs.Plain.{passes}
use Rattle.ft_tree_leaves.proofs.CutLeaves.{prefix_len-no_run}
use Rattle.ft_tree_leaves.proofs.LeafRuns.{length-leaf, prefix-ends, prefix-pending}
use Rattle.ft_tree_blocks.proofs.Walks.{behind_in_place, stands}
use Rattle.ft_tree_steps.proofs.FoundPlaces.{count_behind, elements-from, pending_from}
use Rattle.ft_tree_steps.proofs.cuts.behind_run.Goals as goal

true_false : (b : Bool) → b ≡ true → b ≡ false → ⊥
true_false b t f = (cc)

pub returns-then-not-past_pending-clause-run : goal.returns-then-not-past_pending-clause-run
returns-then-not-past_pending-clause-run g c =
    let xs = c.args.blocks.now.leaves in
    let rest = elements g.C.Content.units g.C.Content.by (from_place xs (node_behind xs c.args.at)) in
    let none : prefix_len (passes false) rest ≡ 0 = prefix_len-no_run rest in
    omega (arith, none, ap (λ (b : Bool). prefix_len (passes b) rest) c.if-not-past_pending.true)

pub loop-next-init : goal.loop-next-init
loop-next-init g c =
    let us = g.C.Content.units in
    let by = g.C.Content.by in
    let xs = c.args.blocks.now.leaves in
    record {
      next = c.leaf_behind-next.ensures;
      live = c.requires.place;
      run = ap (λ (o : Option ℕ). length (elements us by (up_to_place xs c.args.at)) + prefix_len (is_pending {U = g.row.C-Unit.Denot}) (elements us by
          (from_place xs o))) c.leaf_behind-next.ensures;
      reads = omega (arith, ap (λ (o : Option ℕ). pending_leaves (from_place xs o)) c.leaf_behind-next.ensures);
    }

pub loop-next-preserved : goal.loop-next-preserved
loop-next-preserved g c =
    let us = g.C.Content.units in
    let by = g.C.Content.by in
    let xs = c.args.blocks.now.leaves in
    let id = c.in-Some.id in
    let v = c.leaf_counted-leaf.result.now in
    let once = c.first-first.ensures.once in
    let inv = c.loop-next.invariant in
    let rest = elements us by (from_place xs (node_behind xs (Some id))) in
    let next : node_behind xs c.loop-next.end ≡ Some id = sym inv.next ∙ c.in-Some.is in
    let pending : not (is_acked v.stamps.ins) ≡ true = sym c.is_pending.ensures ∙ c.if-not-is_pending.false in
    let more = count_behind us by xs c.loop-next.end id v once inv.live next c.leaf_counted-leaf.ensures.value in
    let here = ap (prefix_len (is_pending {U = g.row.C-Unit.Denot})) (elements-from us by xs id v once c.leaf_counted-leaf.ensures.value) in
    let fewer = pending_from us by xs id v once c.leaf_counted-leaf.ensures.value pending in
    record {
      next = c.next-next.ensures;
      live = subst (IsPlaceIn xs) next (behind_in_place xs c.loop-next.end);
      run = omega (
        arith,
        ap (λ (o : Option ℕ). prefix_len (is_pending {U = g.row.C-Unit.Denot}) (elements us by (from_place xs o))) c.in-Some.is,
        ap (λ (o : Option ℕ). prefix_len (is_pending {U = g.row.C-Unit.Denot}) (elements us by (from_place xs o))) c.next-next.ensures,
        more,
        here,
        prefix-pending us by v rest pending,
        length-leaf us by v,
        inv.run,
      );
      reads = omega (
        arith,
        ap (λ (o : Option ℕ). pending_leaves (from_place xs o)) c.in-Some.is,
        ap (λ (o : Option ℕ). pending_leaves (from_place xs o)) c.next-next.ensures,
        fewer,
        c.leaf_counted-leaf.ensures.tick,
        inv.reads,
      );
    }

pub loop-next-smaller : goal.loop-next-smaller
loop-next-smaller g c =
    let xs = c.args.blocks.now.leaves in
    let s = stands xs c.in-Some.id c.leaf_counted-leaf.result.now c.first-first.ensures.once c.leaf_counted-leaf.ensures.value in
    omega (
      arith,
      ap (λ (o : Option ℕ). length (from_place xs o)) c.in-Some.is,
      ap (λ (o : Option ℕ). length (from_place xs o)) c.next-next.ensures,
      ap length s.from,
    )

pub returns-then-not-is_pending : goal.returns-then-not-is_pending
returns-then-not-is_pending g c =
    let us = g.C.Content.units in
    let by = g.C.Content.by in
    let xs = c.args.blocks.now.leaves in
    let id = c.in-Some.id in
    let v = c.leaf_counted-leaf.result.now in
    let once = c.first-first.ensures.once in
    let inv = c.loop-next.invariant in
    let rest = elements us by (from_place xs (node_behind xs (Some id))) in
    let settled : not (is_acked v.stamps.ins) ≡ false = sym c.is_pending.ensures ∙ c.if-not-is_pending.true in
    record {
      live = inv.live;
      run = omega (
        arith,
        ap (λ (o : Option ℕ). prefix_len (is_pending {U = g.row.C-Unit.Denot}) (elements us by (from_place xs o))) c.in-Some.is,
        ap (prefix_len (is_pending {U = g.row.C-Unit.Denot})) (elements-from us by xs id v once c.leaf_counted-leaf.ensures.value),
        prefix-ends us by v rest settled (omega (arith, c.len-len.ensures.value, c.len-len.ensures.some)),
        inv.run,
        ap (λ (b : Bool). prefix_len (passes b) (elements us by (from_place xs (node_behind xs c.args.at)))) c.if-not-past_pending.false,
      );
      reads = omega (arith, c.leaf_counted-leaf.ensures.tick, inv.reads);
      no_reads = λ no. absurd (true_false c.args.past_pending c.if-not-past_pending.false no);
    }

pub leaf_counted-leaf-requires : goal.leaf_counted-leaf-requires
leaf_counted-leaf-requires g c =
    let xs = c.args.blocks.now.leaves in
    let inv = c.loop-next.invariant in
    record {
      usable = c.requires.usable;
      live = subst (IsPlaceIn xs) c.in-Some.is (subst (IsPlaceIn xs) (sym inv.next) (behind_in_place xs c.loop-next.end));
    }

pub next-next-requires : goal.next-next-requires
next-next-requires g c =
    let xs = c.args.blocks.now.leaves in
    let inv = c.loop-next.invariant in
    record {
      usable = c.requires.usable;
      live = subst (IsPlaceIn xs) c.in-Some.is (subst (IsPlaceIn xs) (sym inv.next) (behind_in_place xs c.loop-next.end));
    }

pub returns : goal.returns
returns g c =
    let us = g.C.Content.units in
    let by = g.C.Content.by in
    let xs = c.args.blocks.now.leaves in
    let inv = c.loop-next.invariant in
    record {
      live = inv.live;
      run = omega (
        arith,
        ap (λ (o : Option ℕ). prefix_len (is_pending {U = g.row.C-Unit.Denot}) (elements us by (from_place xs o))) c.in_default.is,
        inv.run,
        ap (λ (b : Bool). prefix_len (passes b) (elements us by (from_place xs (node_behind xs c.args.at)))) c.if-not-past_pending.false,
      );
      reads = omega (arith, inv.reads);
      no_reads = λ no. absurd (true_false c.args.past_pending c.if-not-past_pending.false no);
    }
