use Rattle.std.proofs.Common.{Bool, ◌≡◌, ◌<◌, ◌-◌, ◌<ℤ◌, ◌≤ℤ◌, ℕ, ℤ, List, [], ◌∷◌, Some, true, length, slice_get, sym, ap, subst, ◌∙◌, arith, rules}
use Rattle.std.proofs.lemmas.Int.{ints}
use Rattle.std.proofs.lemmas.Result.{IfOk-weaker}
use Rattle.std.proofs.lemmas.Option.{slice_get_within}
use Rattle.std.proofs.lemmas.List.Elements.{All-contains}
use Rattle.ft_arena.specs.Forest.{kids_of, kids_of_entry, kids_of_node, block_value, block_of_entry, block_of_node, leaf_value, leaf_of_entry, leaf_of_node}
use Rattle.ft_shape.specs.Tree.{height_of, height_of_entry, height_of_node}
use Rattle.ft_overlap.specs.declared.items.Item.{Item}
use Rattle.ft_overlap.specs.Items.{keys_within, AreKnown, IsRising}
use Rattle.ft_overlap.specs.Search.{Collects, IsCheap}
use Rattle.ft_overlap.specs.Inside.{items_below, item_of, items_under}
use Rattle.ft_overlap.proofs.Collecting.{passed_over, read_cheap}
use Rattle.ft_overlap.proofs.SearchSteps.{b_high, b_all, b_start, k_high, k_live, k_known, k_known_rest, k_rising, k_step, k_stop, k_cheap, b_end, b_end_cheap}
use Rattle.ft_overlap.proofs.search.+collect.Goals as goal

pub returns-in-Leaf-clause-found : goal.returns-in-Leaf-clause-found
returns-in-Leaf-clause-found g t c =
    let s = c.args.arena.now in
    let n = c.args.node in
    let place = g.P.Places.end_place c.args.at.now in
    let high : height_of s n ≡ 0 = ap height_of_entry c.read.ensures.node ∙ ap height_of_node c.in-Leaf.is in
    let leaf : leaf_value s n ≡ Some c.in-Leaf.value = ap leaf_of_entry c.read.ensures.node ∙ ap leaf_of_node c.in-Leaf.is in
    let items : items_below s n ≡ c.in-Leaf.value ∷ [] = ap (λ (h : ℕ). items_under s h n) high ∙ ap (λ o. item_of o []) leaf in
    IfOk-weaker c.collect_item.result _ _ (λ more h. subst (λ (zs : List Item). Collects place c.args.range.now.low c.args.range.now.high zs (height_of s n) c.args.found.now.items c.collect_item.new.found.items
    c.args.steps.now c.read.new.steps more) (sym items) (subst (λ (k : ℕ). Collects place c.args.range.now.low c.args.range.now.high (c.in-Leaf.value ∷ []) k c.args.found.now.items
    c.collect_item.new.found.items c.args.steps.now c.read.new.steps more) (sym high)
    (subst (λ (k : ℕ). Collects place c.args.range.now.low c.args.range.now.high (c.in-Leaf.value ∷ []) 0
    c.args.found.now.items c.collect_item.new.found.items c.args.steps.now k more) (sym c.read.ensures.tick) (h c.args.steps.now)))) c.collect_item.ensures

pub returns-in-Leaf-clause-cheap : goal.returns-in-Leaf-clause-cheap
returns-in-Leaf-clause-cheap g t c =
    let s = c.args.arena.now in
    let n = c.args.node in
    let place = g.P.Places.end_place c.args.at.now in
    let high : height_of s n ≡ 0 = ap height_of_entry c.read.ensures.node ∙ ap height_of_node c.in-Leaf.is in
    let leaf : leaf_value s n ≡ Some c.in-Leaf.value = ap leaf_of_entry c.read.ensures.node ∙ ap leaf_of_node c.in-Leaf.is in
    let items : items_below s n ≡ c.in-Leaf.value ∷ [] = ap (λ (h : ℕ). items_under s h n) high ∙ ap (λ o. item_of o []) leaf in
    subst (λ (k : ℕ). IsCheap (height_of s n) (length (keys_within place c.args.range.now.low c.args.range.now.high (items_below s n)))
    c.args.steps.now k) (sym c.read.ensures.tick)
    (read_cheap place c.args.range.now.low c.args.range.now.high (height_of s n)
    (length (keys_within place c.args.range.now.low c.args.range.now.high (items_below s n))) c.args.steps.now)

pub place-requires : goal.place-requires
place-requires g t c =
    let s = c.args.arena.now in
    let n = c.args.node in
    let place = g.P.Places.end_place c.args.at.now in
    let kids : kids_of s n ≡ c.in-Block.kids = ap kids_of_entry c.read.ensures.node ∙ ap kids_of_node c.in-Block.is in
    let value : block_value s n ≡ Some c.in-Block.value = ap block_of_entry c.read.ensures.node ∙ ap block_of_node c.in-Block.is in
    (All-contains (λ x. g.P.Places.Knows c.args.at.now x.start × g.P.Places.Knows c.args.at.now x.end) (items_below s n) c.in-Block.value.sum.last c.requires.known
    (c.requires.named n c.in-Block.value value)).1

pub returns-then-place-range-clause-found : goal.returns-then-place-range-clause-found
returns-then-place-range-clause-found g t c =
    let s = c.args.arena.now in
    let n = c.args.node in
    let place = g.P.Places.end_place c.args.at.now in
    let kids : kids_of s n ≡ c.in-Block.kids = ap kids_of_entry c.read.ensures.node ∙ ap kids_of_node c.in-Block.is in
    let value : block_value s n ≡ Some c.in-Block.value = ap block_of_entry c.read.ensures.node ∙ ap block_of_node c.in-Block.is in
    subst (λ (k : ℕ). Collects place c.args.range.now.low c.args.range.now.high (items_below s n) (height_of s n) c.args.found.now.items
    c.args.found.now.items c.args.steps.now k true)
    (sym c.read.ensures.tick) (passed_over place c.args.range.now.low c.args.range.now.high c.in-Block.value.sum.last (items_below s n)
    (height_of s n) c.args.found.now.items c.args.steps.now
    (c.requires.greatest n c.in-Block.value value) (subst (λ (z : ℤ). z <ℤ c.args.range.now.low) c.place.ensures (omega (arith, ints))))

pub returns-then-place-range-clause-cheap : goal.returns-then-place-range-clause-cheap
returns-then-place-range-clause-cheap g t c =
    let s = c.args.arena.now in
    let n = c.args.node in
    let place = g.P.Places.end_place c.args.at.now in
    let kids : kids_of s n ≡ c.in-Block.kids = ap kids_of_entry c.read.ensures.node ∙ ap kids_of_node c.in-Block.is in
    let value : block_value s n ≡ Some c.in-Block.value = ap block_of_entry c.read.ensures.node ∙ ap block_of_node c.in-Block.is in
    subst (λ (k : ℕ). IsCheap (height_of s n) (length (keys_within place c.args.range.now.low c.args.range.now.high (items_below s n)))
    c.args.steps.now k) (sym c.read.ensures.tick)
    (read_cheap place c.args.range.now.low c.args.range.now.high (height_of s n)
    (length (keys_within place c.args.range.now.low c.args.range.now.high (items_below s n))) c.args.steps.now)

pub loop-kid-init : goal.loop-kid-init
loop-kid-init g t c =
    let s = c.args.arena.now in
    let n = c.args.node in
    let place = g.P.Places.end_place c.args.at.now in
    let kids : kids_of s n ≡ c.in-Block.kids = ap kids_of_entry c.read.ensures.node ∙ ap kids_of_node c.in-Block.is in
    let value : block_value s n ≡ Some c.in-Block.value = ap block_of_entry c.read.ensures.node ∙ ap block_of_node c.in-Block.is in
    record {
      few = omega (arith, c.len-few.ensures.value, c.len-few.ensures.few);
      inside = omega arith;
      known = subst (λ (zs : List Item). AreKnown (g.P.Places.Knows c.args.at.now) zs)
          (b_all place c.args.range.now.low c.args.range.now.high s c.args._root n c.requires.tree c.in-Block.kids c.in-Block.value kids
          value) c.requires.known;
      state = b_start place c.args.range.now.low c.args.range.now.high s c.args._root n c.requires.tree c.in-Block.kids c.in-Block.value
          kids value c.args.found.now.items c.read.new.steps;
    }

pub collect-requires : goal.collect-requires
collect-requires g t c =
    let s = c.args.arena.now in
    let n = c.args.node in
    let place = g.P.Places.end_place c.args.at.now in
    let kids : kids_of s n ≡ c.in-Block.kids = ap kids_of_entry c.read.ensures.node ∙ ap kids_of_node c.in-Block.is in
    let value : block_value s n ≡ Some c.in-Block.value = ap block_of_entry c.read.ensures.node ∙ ap block_of_node c.in-Block.is in
    let there : slice_get c.in-Block.kids c.loop-kid.i ≡ Some c.in-Some.kid = sym c.get.ensures ∙ c.in-Some.is in
    let kid_high : height_of s c.in-Some.kid ≡ height_of s n - 1 =
    k_high place c.args.range.now.low c.args.range.now.high s c.args._root n c.requires.tree c.in-Block.kids c.in-Block.value kids
    value c.loop-kid.i c.in-Some.kid there in
    let high = b_high place c.args.range.now.low c.args.range.now.high s c.args._root n c.requires.tree c.in-Block.kids c.in-Block.value kids value in
    let smaller : height_of s c.in-Some.kid < height_of s n = omega (arith, kid_high, high) in
    let live = k_live place c.args.range.now.low c.args.range.now.high s c.args._root n c.requires.tree c.in-Block.kids c.in-Block.value
    kids value c.loop-kid.i c.in-Some.kid there in
    let known : AreKnown (g.P.Places.Knows c.args.at.now) (items_below s c.in-Some.kid) =
    k_known place c.args.range.now.low c.args.range.now.high s c.args._root n c.requires.tree c.in-Block.kids c.in-Block.value kids
    value c.loop-kid.i c.in-Some.kid there (g.P.Places.Knows c.args.at.now) c.loop-kid.invariant.known in
    let rising : IsRising place (items_below s c.in-Some.kid) = k_rising place c.args.range.now.low c.args.range.now.high s c.args._root n
    c.requires.tree c.in-Block.kids c.in-Block.value kids value c.loop-kid.i c.in-Some.kid there c.args.found.now.items
    c.loop-kid.found.items c.read.new.steps c.loop-kid.steps c.loop-kid.invariant.state c.requires.rising in
    search rules

pub returns-in_err-collect-in-Block-clause-cheap : goal.returns-in_err-collect-in-Block-clause-cheap
returns-in_err-collect-in-Block-clause-cheap g t c =
    let s = c.args.arena.now in
    let n = c.args.node in
    let place = g.P.Places.end_place c.args.at.now in
    let kids : kids_of s n ≡ c.in-Block.kids = ap kids_of_entry c.read.ensures.node ∙ ap kids_of_node c.in-Block.is in
    let value : block_value s n ≡ Some c.in-Block.value = ap block_of_entry c.read.ensures.node ∙ ap block_of_node c.in-Block.is in
    let there : slice_get c.in-Block.kids c.loop-kid.i ≡ Some c.in-Some.kid = sym c.get.ensures ∙ c.in-Some.is in
    k_cheap place c.args.range.now.low c.args.range.now.high s c.args._root n c.requires.tree c.in-Block.kids c.in-Block.value kids value c.loop-kid.i c.in-Some.kid there c.args.found.now.items c.loop-kid.found.items c.read.new.steps c.loop-kid.steps c.loop-kid.invariant.state c.collect.new.found.items c.collect.new.steps c.args.steps.now c.read.ensures.tick (omega (arith, c.loop-kid.invariant.few, slice_get_within c.in-Block.kids c.loop-kid.i c.in-Some.kid there)) c.collect.ensures.cheap

pub returns-then-not-branch-clause-cheap : goal.returns-then-not-branch-clause-cheap
returns-then-not-branch-clause-cheap g t c =
    let s = c.args.arena.now in
    let n = c.args.node in
    let place = g.P.Places.end_place c.args.at.now in
    let kids : kids_of s n ≡ c.in-Block.kids = ap kids_of_entry c.read.ensures.node ∙ ap kids_of_node c.in-Block.is in
    let value : block_value s n ≡ Some c.in-Block.value = ap block_of_entry c.read.ensures.node ∙ ap block_of_node c.in-Block.is in
    let there : slice_get c.in-Block.kids c.loop-kid.i ≡ Some c.in-Some.kid = sym c.get.ensures ∙ c.in-Some.is in
    k_cheap place c.args.range.now.low c.args.range.now.high s c.args._root n c.requires.tree c.in-Block.kids c.in-Block.value kids value c.loop-kid.i c.in-Some.kid there c.args.found.now.items c.loop-kid.found.items c.read.new.steps c.loop-kid.steps c.loop-kid.invariant.state c.collect.new.found.items c.collect.new.steps c.args.steps.now c.read.ensures.tick (omega (arith, c.loop-kid.invariant.few, slice_get_within c.in-Block.kids c.loop-kid.i c.in-Some.kid there)) c.collect.ensures.cheap

pub returns-then-not-branch-clause-found : goal.returns-then-not-branch-clause-found
returns-then-not-branch-clause-found g t c =
    let s = c.args.arena.now in
    let n = c.args.node in
    let place = g.P.Places.end_place c.args.at.now in
    let kids : kids_of s n ≡ c.in-Block.kids = ap kids_of_entry c.read.ensures.node ∙ ap kids_of_node c.in-Block.is in
    let value : block_value s n ≡ Some c.in-Block.value = ap block_of_entry c.read.ensures.node ∙ ap block_of_node c.in-Block.is in
    let there : slice_get c.in-Block.kids c.loop-kid.i ≡ Some c.in-Some.kid = sym c.get.ensures ∙ c.in-Some.is in
    k_stop place c.args.range.now.low c.args.range.now.high s c.args._root n c.requires.tree c.in-Block.kids c.in-Block.value kids value c.loop-kid.i c.in-Some.kid there c.args.found.now.items c.loop-kid.found.items c.read.new.steps c.loop-kid.steps c.loop-kid.invariant.state c.collect.new.found.items c.collect.new.steps c.requires.rising (subst (λ (m : Bool). Collects place c.args.range.now.low c.args.range.now.high (items_below s c.in-Some.kid) (height_of s c.in-Some.kid) c.loop-kid.found.items
    c.collect.new.found.items c.loop-kid.steps c.collect.new.steps m) c.if-not-branch.true c.in_ok-collect-in-Block.ensures.found) c.args.steps.now c.collect.new.steps

pub overflow_add-i : goal.overflow_add-i
overflow_add-i g t c =
    let w = slice_get_within c.in-Block.kids c.loop-kid.i c.in-Some.kid (sym c.get.ensures ∙ c.in-Some.is) in omega (arith, w, c.loop-kid.invariant.few)

pub loop-kid-smaller : goal.loop-kid-smaller
loop-kid-smaller g t c =
    let w = slice_get_within c.in-Block.kids c.loop-kid.i c.in-Some.kid (sym c.get.ensures ∙ c.in-Some.is) in omega (arith, w)

pub loop-kid-preserved : goal.loop-kid-preserved
loop-kid-preserved g t c =
    let s = c.args.arena.now in
    let n = c.args.node in
    let place = g.P.Places.end_place c.args.at.now in
    let kids : kids_of s n ≡ c.in-Block.kids = ap kids_of_entry c.read.ensures.node ∙ ap kids_of_node c.in-Block.is in
    let value : block_value s n ≡ Some c.in-Block.value = ap block_of_entry c.read.ensures.node ∙ ap block_of_node c.in-Block.is in
    let there : slice_get c.in-Block.kids c.loop-kid.i ≡ Some c.in-Some.kid = sym c.get.ensures ∙ c.in-Some.is in
    record {
      few = c.loop-kid.invariant.few;
      inside = omega (arith, slice_get_within c.in-Block.kids c.loop-kid.i c.in-Some.kid there);
      known = k_known_rest place c.args.range.now.low c.args.range.now.high s c.args._root n c.requires.tree c.in-Block.kids
          c.in-Block.value kids value c.loop-kid.i c.in-Some.kid there (g.P.Places.Knows c.args.at.now) c.loop-kid.invariant.known;
      state = k_step place c.args.range.now.low c.args.range.now.high s c.args._root n c.requires.tree c.in-Block.kids c.in-Block.value kids value c.loop-kid.i c.in-Some.kid there c.args.found.now.items c.loop-kid.found.items c.read.new.steps c.loop-kid.steps c.loop-kid.invariant.state c.collect.new.found.items c.collect.new.steps (subst (λ (m : Bool). Collects place c.args.range.now.low c.args.range.now.high (items_below s c.in-Some.kid) (height_of s c.in-Some.kid) c.loop-kid.found.items
          c.collect.new.found.items c.loop-kid.steps c.collect.new.steps m) c.if-not-branch.false c.in_ok-collect-in-Block.ensures.found);
    }

pub returns-in_default-clause-found : goal.returns-in_default-clause-found
returns-in_default-clause-found g t c =
    let s = c.args.arena.now in
    let n = c.args.node in
    let place = g.P.Places.end_place c.args.at.now in
    let kids : kids_of s n ≡ c.in-Block.kids = ap kids_of_entry c.read.ensures.node ∙ ap kids_of_node c.in-Block.is in
    let value : block_value s n ≡ Some c.in-Block.value = ap block_of_entry c.read.ensures.node ∙ ap block_of_node c.in-Block.is in
    b_end place c.args.range.now.low c.args.range.now.high s c.args._root n c.requires.tree c.in-Block.kids c.in-Block.value kids value c.loop-kid.i (sym c.get.ensures ∙ c.in_default.is) (omega (arith, c.loop-kid.invariant.few, c.loop-kid.invariant.inside)) c.args.found.now.items c.loop-kid.found.items c.args.steps.now c.read.new.steps c.loop-kid.steps c.read.ensures.tick c.loop-kid.invariant.state c.requires.named (subst (λ (z : ℤ). c.args.range.now.low ≤ℤ z) c.place.ensures (omega (arith, ints)))

pub returns-in_default-clause-cheap : goal.returns-in_default-clause-cheap
returns-in_default-clause-cheap g t c =
    let s = c.args.arena.now in
    let n = c.args.node in
    let place = g.P.Places.end_place c.args.at.now in
    let kids : kids_of s n ≡ c.in-Block.kids = ap kids_of_entry c.read.ensures.node ∙ ap kids_of_node c.in-Block.is in
    let value : block_value s n ≡ Some c.in-Block.value = ap block_of_entry c.read.ensures.node ∙ ap block_of_node c.in-Block.is in
    b_end_cheap place c.args.range.now.low c.args.range.now.high s c.args._root n c.requires.tree c.in-Block.kids c.in-Block.value kids value c.loop-kid.i (sym c.get.ensures ∙ c.in_default.is) (omega (arith, c.loop-kid.invariant.few, c.loop-kid.invariant.inside)) c.args.found.now.items c.loop-kid.found.items c.args.steps.now c.read.new.steps c.loop-kid.steps c.read.ensures.tick c.loop-kid.invariant.state
