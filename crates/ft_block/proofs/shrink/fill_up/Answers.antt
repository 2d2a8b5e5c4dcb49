use Rattle.std.proofs.Common.{◌≡◌, ◌≤◌, ◌+◌, ℕ, Some, IsSome, length, refl, ap, sym, subst, ◌∙◌, arith}
use Rattle.std.proofs.lemmas.Option.{slice_get_within}
use Rattle.ft_arena.specs.Forest.{entry, kids_of, parent_of, block_value}
use Rattle.ft_shape.specs.Tree.{IsApart, height_of}
use Rattle.ft_block.specs.Tree.{by_view, by_size}
use Rattle.ft_shape.specs.Steps.{DropsRoot}
use Rattle.ft_shape.proofs.KindLemmas.{block_live}
use Rattle.ft_shape.proofs.FitLemmas.{leaf_total}
use Rattle.ft_shape.proofs.ShareLemmas.{share_apart, share_sums, share_block, share_high, share_up_high}
use Rattle.ft_shape.proofs.FillLemmas.{apart_full, apart_root, apart_with, fl_up_block, fl_up_full, fl_child, fl_root, fl_only, fl_short, fl_two, fl_pair, fl_many}
use Rattle.ft_shape.proofs.FillLemmas.{dropped_apart, dropped_low, dropped_sums}
use Rattle.ft_block.proofs.Floors.{fl_fits, dropped_floors}
use Rattle.std.proofs.lemmas.Result.{IfOk-from_err}
use Rattle.ft_block.proofs.shrink.fill_up.Goals as goal

pub returns-then-count_of-ge4-clause-apart : goal.returns-then-count_of-ge4-clause-apart
returns-then-count_of-ge4-clause-apart g c =
    apart_full c.up.arena c.args.root c.args._id c.up.block c.up.invariant.apart (omega (arith, c.count_of.ensures.value, c.if-count_of-ge4.true))

pub child_place-place-requires-clause-block : goal.child_place-place-requires-clause-block
child_place-place-requires-clause-block g c =
    let up : parent_of c.up.arena c.up.block ≡ Some c.in-Some.up = sym c.parent.ensures ∙ c.in-Some.is in
    fl_up_block c.up.arena c.args.root c.args._id c.up.block c.up.invariant.apart c.in-Some.up up

pub child_place-place-requires-clause-child : goal.child_place-place-requires-clause-child
child_place-place-requires-clause-child g c =
    let up : parent_of c.up.arena c.up.block ≡ Some c.in-Some.up = sym c.parent.ensures ∙ c.in-Some.is in
    fl_child c.up.arena c.args.root c.args._id c.up.block c.up.invariant.apart c.in-Some.up up

pub drop_root-requires-clause-block : goal.drop_root-requires-clause-block
drop_root-requires-clause-block g c =
    let up : parent_of c.up.arena c.up.block ≡ Some c.in-Some.up = sym c.parent.ensures ∙ c.in-Some.is in
    fl_up_block c.up.arena c.args.root c.args._id c.up.block c.up.invariant.apart c.in-Some.up up

pub drop_root-requires-clause-top : goal.drop_root-requires-clause-top
drop_root-requires-clause-top g c =
    let up : parent_of c.up.arena c.up.block ≡ Some c.in-Some.up = sym c.parent.ensures ∙ c.in-Some.is in
    let few : length (kids_of c.up.arena c.in-Some.up) ≤ 3 = omega (arith, c.child_place-place.ensures.count, c.if-count-eq1.true) in
    let is_root : c.in-Some.up ≡ c.args.root = fl_root c.up.arena c.args.root c.args._id c.up.block c.up.invariant.apart c.in-Some.up up few in
    ap (parent_of c.up.arena) is_root ∙ c.up.invariant.apart.shape.root_is_top

pub returns-then-count-eq1-clause-apart : goal.returns-then-count-eq1-clause-apart
returns-then-count-eq1-clause-apart g c =
    let up : parent_of c.up.arena c.up.block ≡ Some c.in-Some.up = sym c.parent.ensures ∙ c.in-Some.is in
    let few : length (kids_of c.up.arena c.in-Some.up) ≤ 3 = omega (arith, c.child_place-place.ensures.count, c.if-count-eq1.true) in
    let is_root : c.in-Some.up ≡ c.args.root = fl_root c.up.arena c.args.root c.args._id c.up.block c.up.invariant.apart c.in-Some.up up few in
    let drops : DropsRoot c.up.arena c.drop_root.new.arena c.args.root c.drop_root.result =
    subst (λ (z : ℕ). DropsRoot c.up.arena c.drop_root.new.arena z c.drop_root.result) is_root c.drop_root.ensures in
    let is_top : c.up.block ≡ c.drop_root.result =
    fl_only c.up.arena c.args.root c.args._id c.up.block c.up.invariant.apart c.in-Some.up up c.drop_root.result (ap (kids_of c.up.arena) is_root ∙ drops.kids) in
    let apart : IsApart c.up.arena c.args.root c.args._id (Some c.drop_root.result) =
    subst (λ (z : ℕ). IsApart c.up.arena c.args.root c.args._id (Some z)) is_top c.up.invariant.apart in
    let filled : 1 ≤ length (kids_of c.up.arena c.drop_root.result) = apart.filled c.drop_root.result refl in
    let block : IsSome (block_value c.up.arena c.drop_root.result) = subst (λ (z : ℕ). IsSome (block_value c.up.arena z)) is_top c.up.invariant.block in
    dropped_apart c.up.arena c.drop_root.new.arena c.args.root c.args._id c.drop_root.result apart filled block drops

pub returns-then-count-eq1-clause-sums : goal.returns-then-count-eq1-clause-sums
returns-then-count-eq1-clause-sums g c = λ view k.
    let up : parent_of c.up.arena c.up.block ≡ Some c.in-Some.up = sym c.parent.ensures ∙ c.in-Some.is in
    let few : length (kids_of c.up.arena c.in-Some.up) ≤ 3 = omega (arith, c.child_place-place.ensures.count, c.if-count-eq1.true) in
    let is_root : c.in-Some.up ≡ c.args.root = fl_root c.up.arena c.args.root c.args._id c.up.block c.up.invariant.apart c.in-Some.up up few in
    let drops : DropsRoot c.up.arena c.drop_root.new.arena c.args.root c.drop_root.result =
    subst (λ (z : ℕ). DropsRoot c.up.arena c.drop_root.new.arena z c.drop_root.result) is_root c.drop_root.ensures in
    let is_top : c.up.block ≡ c.drop_root.result =
    fl_only c.up.arena c.args.root c.args._id c.up.block c.up.invariant.apart c.in-Some.up up c.drop_root.result (ap (kids_of c.up.arena) is_root ∙ drops.kids) in
    let apart : IsApart c.up.arena c.args.root c.args._id (Some c.drop_root.result) =
    subst (λ (z : ℕ). IsApart c.up.arena c.args.root c.args._id (Some z)) is_top c.up.invariant.apart in
    let filled : 1 ≤ length (kids_of c.up.arena c.drop_root.result) = apart.filled c.drop_root.result refl in
    let block : IsSome (block_value c.up.arena c.drop_root.result) = subst (λ (z : ℕ). IsSome (block_value c.up.arena z)) is_top c.up.invariant.block in
    dropped_sums c.up.arena c.drop_root.new.arena c.args.root c.args._id c.drop_root.result apart filled block drops (by_view g.L.Leaf.size g.L.Leaf.element view)
    (c.up.invariant.sums view k)

pub returns-then-count-eq1-clause-floors : goal.returns-then-count-eq1-clause-floors
returns-then-count-eq1-clause-floors g c =
    let up : parent_of c.up.arena c.up.block ≡ Some c.in-Some.up = sym c.parent.ensures ∙ c.in-Some.is in
    let few : length (kids_of c.up.arena c.in-Some.up) ≤ 3 = omega (arith, c.child_place-place.ensures.count, c.if-count-eq1.true) in
    let is_root : c.in-Some.up ≡ c.args.root = fl_root c.up.arena c.args.root c.args._id c.up.block c.up.invariant.apart c.in-Some.up up few in
    let drops : DropsRoot c.up.arena c.drop_root.new.arena c.args.root c.drop_root.result =
    subst (λ (z : ℕ). DropsRoot c.up.arena c.drop_root.new.arena z c.drop_root.result) is_root c.drop_root.ensures in
    let is_top : c.up.block ≡ c.drop_root.result =
    fl_only c.up.arena c.args.root c.args._id c.up.block c.up.invariant.apart c.in-Some.up up c.drop_root.result (ap (kids_of c.up.arena) is_root ∙ drops.kids) in
    let apart : IsApart c.up.arena c.args.root c.args._id (Some c.drop_root.result) =
    subst (λ (z : ℕ). IsApart c.up.arena c.args.root c.args._id (Some z)) is_top c.up.invariant.apart in
    let filled : 1 ≤ length (kids_of c.up.arena c.drop_root.result) = apart.filled c.drop_root.result refl in
    let block : IsSome (block_value c.up.arena c.drop_root.result) = subst (λ (z : ℕ). IsSome (block_value c.up.arena z)) is_top c.up.invariant.block in
    dropped_floors c.up.arena c.drop_root.new.arena c.args.root c.args._id c.drop_root.result apart filled block drops c.args.floor c.up.invariant.floors

pub returns-then-count-eq1-clause-leaves : goal.returns-then-count-eq1-clause-leaves
returns-then-count-eq1-clause-leaves g c = c.drop_root.ensures.leaves ∙ c.up.invariant.leaves

pub returns-then-count-eq1-clause-leaf_values : goal.returns-then-count-eq1-clause-leaf_values
returns-then-count-eq1-clause-leaf_values g c = λ x. c.drop_root.ensures.leaf_values x ∙ c.up.invariant.leaf_values x

pub child_at-front-requires-clause-block : goal.child_at-front-requires-clause-block
child_at-front-requires-clause-block g c =
    let up : parent_of c.up.arena c.up.block ≡ Some c.in-Some.up = sym c.parent.ensures ∙ c.in-Some.is in
    fl_up_block c.up.arena c.args.root c.args._id c.up.block c.up.invariant.apart c.in-Some.up up

pub child_at-front-requires-clause-place : goal.child_at-front-requires-clause-place
child_at-front-requires-clause-place g c = omega (arith, slice_get_within (kids_of c.up.arena c.in-Some.up) c.child_place-place.result.0 c.up.block c.child_place-place.ensures.place)

pub child_at-rear-requires-clause-block : goal.child_at-rear-requires-clause-block
child_at-rear-requires-clause-block g c =
    let up : parent_of c.up.arena c.up.block ≡ Some c.in-Some.up = sym c.parent.ensures ∙ c.in-Some.is in
    fl_up_block c.up.arena c.args.root c.args._id c.up.block c.up.invariant.apart c.in-Some.up up

pub child_at-rear-requires-clause-place : goal.child_at-rear-requires-clause-place
child_at-rear-requires-clause-place g c =
    omega (
      arith,
      slice_get_within (kids_of c.up.arena c.in-Some.up) c.child_place-place.result.0 c.up.block c.child_place-place.ensures.place,
      c.child_place-place.ensures.count,
      c.if-count-eq1.false,
    )

pub returns-then-not-joined-clause-apart : goal.returns-then-not-joined-clause-apart
returns-then-not-joined-clause-apart g c =
    let up : parent_of c.up.arena c.up.block ≡ Some c.in-Some.up = sym c.parent.ensures ∙ c.in-Some.is in
    let pair = fl_pair c.up.arena c.args.root c.args._id c.up.block c.up.invariant.apart c.in-Some.up up c.up.invariant.block _ c.child_at-front.result
    c.child_at-rear.result c.child_at-front.ensures c.child_at-rear.ensures in
    apart_with c.share.new.arena c.args.root c.args._id c.in-Some.up
    (share_apart c.up.arena c.share.new.arena c.args.root c.args._id c.in-Some.up c.child_at-front.result c.child_at-rear.result c.up.block
    c.up.invariant.apart
    pair.front_up pair.rear_up pair.differ (fl_short c.up.arena c.args.root c.args._id c.up.block c.up.invariant.apart c.in-Some.up up c.child_place-place.result.0 _
    c.child_at-front.result c.child_at-rear.result c.child_place-place.ensures.place (omega arith) c.child_at-front.ensures c.child_at-rear.ensures)
    (fl_two c.up.arena c.args.root c.args._id c.up.block c.up.invariant.apart c.in-Some.up up c.up.invariant.block) c.in_ok-joined.ensures.shares)
    (λ b e d. omega (
      arith,
      fl_up_full c.up.arena c.args.root c.args._id c.up.block c.up.invariant.apart c.in-Some.up up (λ q. d (e ∙ q)),
      ap length
          (c.in_ok-joined.ensures.up_kids c.if-not-joined.true),
      ap (λ z. length (kids_of c.share.new.arena z)) e,
    ))

pub returns-then-not-joined-clause-sums : goal.returns-then-not-joined-clause-sums
returns-then-not-joined-clause-sums g c = λ view k.
    let up : parent_of c.up.arena c.up.block ≡ Some c.in-Some.up = sym c.parent.ensures ∙ c.in-Some.is in
    let pair = fl_pair c.up.arena c.args.root c.args._id c.up.block c.up.invariant.apart c.in-Some.up up c.up.invariant.block _ c.child_at-front.result
    c.child_at-rear.result c.child_at-front.ensures c.child_at-rear.ensures in
    share_sums c.up.arena c.share.new.arena c.args.root c.args._id c.in-Some.up c.child_at-front.result c.child_at-rear.result c.up.block
    c.up.invariant.apart
    pair.front_up pair.rear_up pair.differ (fl_short c.up.arena c.args.root c.args._id c.up.block c.up.invariant.apart c.in-Some.up up c.child_place-place.result.0 _
    c.child_at-front.result c.child_at-rear.result c.child_place-place.ensures.place (omega arith) c.child_at-front.ensures c.child_at-rear.ensures)
    (fl_two c.up.arena c.args.root c.args._id c.up.block c.up.invariant.apart c.in-Some.up up c.up.invariant.block) c.in_ok-joined.ensures.shares
    (by_view g.L.Leaf.size g.L.Leaf.element view) (c.up.invariant.sums view k) (c.in_ok-joined.ensures.sums view k).others
    (c.in_ok-joined.ensures.sums view k).front_sum (c.in_ok-joined.ensures.sums view k).rear_sum (c.in_ok-joined.ensures.sums view k).up_sum

pub returns-then-not-joined-clause-leaves : goal.returns-then-not-joined-clause-leaves
returns-then-not-joined-clause-leaves g c = c.in_ok-joined.ensures.shares.leaves ∙ c.up.invariant.leaves

pub returns-then-not-joined-clause-leaf_values : goal.returns-then-not-joined-clause-leaf_values
returns-then-not-joined-clause-leaf_values g c = λ x. c.in_ok-joined.ensures.shares.leaf_values x ∙ c.up.invariant.leaf_values x

pub share-requires-clause-forest : goal.share-requires-clause-forest
share-requires-clause-forest g c = c.up.invariant.apart.shape.forest

pub share-requires-clause-pair : goal.share-requires-clause-pair
share-requires-clause-pair g c =
    let up : parent_of c.up.arena c.up.block ≡ Some c.in-Some.up = sym c.parent.ensures ∙ c.in-Some.is in
    fl_pair c.up.arena c.args.root c.args._id c.up.block c.up.invariant.apart c.in-Some.up up c.up.invariant.block _ c.child_at-front.result c.child_at-rear.result
    c.child_at-front.ensures c.child_at-rear.ensures

pub share-requires-clause-many : goal.share-requires-clause-many
share-requires-clause-many g c =
    let up : parent_of c.up.arena c.up.block ≡ Some c.in-Some.up = sym c.parent.ensures ∙ c.in-Some.is in
    fl_many c.up.arena c.args.root c.args._id c.up.block c.up.invariant.apart c.in-Some.up up c.up.invariant.block _ c.child_at-front.result c.child_at-rear.result
    c.child_at-front.ensures c.child_at-rear.ensures

pub share-requires-clause-fits : goal.share-requires-clause-fits
share-requires-clause-fits g c = λ view k.
    let up : parent_of c.up.arena c.up.block ≡ Some c.in-Some.up = sym c.parent.ensures ∙ c.in-Some.is in
    fl_fits c.up.arena c.args.root c.args._id c.up.block c.up.invariant.apart c.in-Some.up up c.up.invariant.block _ c.child_at-front.result c.child_at-rear.result
    c.child_at-front.ensures c.child_at-rear.ensures g.L.Leaf.size g.L.Leaf.element view (c.up.invariant.sums view k) c.up.invariant.fits

pub up-smaller : goal.up-smaller
up-smaller g c =
    let up : parent_of c.up.arena c.up.block ≡ Some c.in-Some.up = sym c.parent.ensures ∙ c.in-Some.is in
    let pair = fl_pair c.up.arena c.args.root c.args._id c.up.block c.up.invariant.apart c.in-Some.up up c.up.invariant.block _ c.child_at-front.result
    c.child_at-rear.result c.child_at-front.ensures c.child_at-rear.ensures in
    let h = share_up_high c.up.arena c.share.new.arena c.args.root c.args._id c.in-Some.up c.child_at-front.result c.child_at-rear.result c.up.block
    c.up.invariant.apart
    pair.front_up pair.rear_up pair.differ (fl_short c.up.arena c.args.root c.args._id c.up.block c.up.invariant.apart c.in-Some.up up c.child_place-place.result.0 _
    c.child_at-front.result c.child_at-rear.result c.child_place-place.ensures.place (omega arith) c.child_at-front.ensures c.child_at-rear.ensures)
    (fl_two c.up.arena c.args.root c.args._id c.up.block c.up.invariant.apart c.in-Some.up up c.up.invariant.block) c.in_ok-joined.ensures.shares in
    let one : height_of c.up.arena c.in-Some.up ≡ height_of c.up.arena c.up.block + 1 = c.up.invariant.apart.shape.heights c.up.block c.in-Some.up up in
    let low = c.up.invariant.apart.shape.low c.in-Some.up
    (block_live (entry c.up.arena c.in-Some.up) (fl_up_block c.up.arena c.args.root c.args._id c.up.block c.up.invariant.apart c.in-Some.up up)) in
    omega (arith, h, one, low, c.up.invariant.high)

pub up-preserved : goal.up-preserved
up-preserved g c =
    let up : parent_of c.up.arena c.up.block ≡ Some c.in-Some.up = sym c.parent.ensures ∙ c.in-Some.is in
    let pair = fl_pair c.up.arena c.args.root c.args._id c.up.block c.up.invariant.apart c.in-Some.up up c.up.invariant.block _ c.child_at-front.result
    c.child_at-rear.result c.child_at-front.ensures c.child_at-rear.ensures in
    let r = c.in_ok-joined.ensures.shares in
    record {
      apart = share_apart c.up.arena c.share.new.arena c.args.root c.args._id c.in-Some.up c.child_at-front.result c.child_at-rear.result c.up.block
          c.up.invariant.apart
          pair.front_up pair.rear_up pair.differ (fl_short c.up.arena c.args.root c.args._id c.up.block c.up.invariant.apart c.in-Some.up up c.child_place-place.result.0 _
          c.child_at-front.result c.child_at-rear.result c.child_place-place.ensures.place (omega arith) c.child_at-front.ensures c.child_at-rear.ensures)
          (fl_two c.up.arena c.args.root c.args._id c.up.block c.up.invariant.apart c.in-Some.up up c.up.invariant.block)
          c.in_ok-joined.ensures.shares;
      block = share_block c.up.arena c.share.new.arena c.args.root c.args._id c.in-Some.up c.child_at-front.result c.child_at-rear.result c.up.block
          c.up.invariant.apart
          pair.front_up pair.rear_up pair.differ (fl_short c.up.arena c.args.root c.args._id c.up.block c.up.invariant.apart c.in-Some.up up c.child_place-place.result.0 _
          c.child_at-front.result c.child_at-rear.result c.child_place-place.ensures.place (omega arith) c.child_at-front.ensures c.child_at-rear.ensures)
          (fl_two c.up.arena c.args.root c.args._id c.up.block c.up.invariant.apart c.in-Some.up up c.up.invariant.block)
          c.in_ok-joined.ensures.shares;
      sums = λ view k. share_sums c.up.arena c.share.new.arena c.args.root c.args._id c.in-Some.up c.child_at-front.result c.child_at-rear.result
          c.up.block
          c.up.invariant.apart pair.front_up pair.rear_up pair.differ
          (fl_short c.up.arena c.args.root c.args._id c.up.block c.up.invariant.apart c.in-Some.up up c.child_place-place.result.0 _ c.child_at-front.result
          c.child_at-rear.result c.child_place-place.ensures.place (omega arith) c.child_at-front.ensures c.child_at-rear.ensures)
          (fl_two c.up.arena c.args.root c.args._id c.up.block c.up.invariant.apart c.in-Some.up up c.up.invariant.block)
          c.in_ok-joined.ensures.shares
          (by_view g.L.Leaf.size g.L.Leaf.element view) (c.up.invariant.sums view k) (c.in_ok-joined.ensures.sums view k).others
          (c.in_ok-joined.ensures.sums view k).front_sum (c.in_ok-joined.ensures.sums view k).rear_sum (c.in_ok-joined.ensures.sums view k).up_sum;
      floors = c.in_ok-joined.ensures.floors;
      fits = omega (
        arith,
        leaf_total (by_size g.L.Leaf.size) c.up.arena c.share.new.arena c.up.invariant.apart.shape.forest r.leaves r.leaf_values,
        c.up.invariant.fits,
      );
      high = share_high c.up.arena c.share.new.arena c.args.root c.args._id c.in-Some.up c.child_at-front.result c.child_at-rear.result c.up.block
          c.up.invariant.apart
          pair.front_up pair.rear_up pair.differ (fl_short c.up.arena c.args.root c.args._id c.up.block c.up.invariant.apart c.in-Some.up up c.child_place-place.result.0 _
          c.child_at-front.result c.child_at-rear.result c.child_place-place.ensures.place (omega arith) c.child_at-front.ensures c.child_at-rear.ensures)
          (fl_two c.up.arena c.args.root c.args._id c.up.block c.up.invariant.apart c.in-Some.up up c.up.invariant.block)
          c.in_ok-joined.ensures.shares
          ∙ c.up.invariant.high;
      leaves = r.leaves ∙ c.up.invariant.leaves;
      leaf_values = λ x. r.leaf_values x ∙ c.up.invariant.leaf_values x;
    }

pub returns-clause-apart : goal.returns-clause-apart
returns-clause-apart g c = apart_root c.up.arena c.args.root c.args._id c.up.block c.up.invariant.apart c.up.invariant.block (sym c.parent.ensures ∙ c.in_default.is)

pub returns-then-count_of-ge4-clause-low : goal.returns-then-count_of-ge4-clause-low
returns-then-count_of-ge4-clause-low g c = omega (arith, c.up.invariant.high)

pub returns-then-count-eq1-clause-low : goal.returns-then-count-eq1-clause-low
returns-then-count-eq1-clause-low g c =
    let up : parent_of c.up.arena c.up.block ≡ Some c.in-Some.up = sym c.parent.ensures ∙ c.in-Some.is in
    let few : length (kids_of c.up.arena c.in-Some.up) ≤ 3 = omega (arith, c.child_place-place.ensures.count, c.if-count-eq1.true) in
    let is_root : c.in-Some.up ≡ c.args.root = fl_root c.up.arena c.args.root c.args._id c.up.block c.up.invariant.apart c.in-Some.up up few in
    let drops : DropsRoot c.up.arena c.drop_root.new.arena c.args.root c.drop_root.result =
    subst (λ (z : ℕ). DropsRoot c.up.arena c.drop_root.new.arena z c.drop_root.result) is_root c.drop_root.ensures in
    let is_top : c.up.block ≡ c.drop_root.result =
    fl_only c.up.arena c.args.root c.args._id c.up.block c.up.invariant.apart c.in-Some.up up c.drop_root.result (ap (kids_of c.up.arena) is_root ∙ drops.kids) in
    let apart : IsApart c.up.arena c.args.root c.args._id (Some c.drop_root.result) =
    subst (λ (z : ℕ). IsApart c.up.arena c.args.root c.args._id (Some z)) is_top c.up.invariant.apart in
    let filled : 1 ≤ length (kids_of c.up.arena c.drop_root.result) = apart.filled c.drop_root.result refl in
    let block : IsSome (block_value c.up.arena c.drop_root.result) = subst (λ (z : ℕ). IsSome (block_value c.up.arena z)) is_top c.up.invariant.block in
    omega (arith, dropped_low c.up.arena c.drop_root.new.arena c.args.root c.args._id c.drop_root.result apart filled block drops, c.up.invariant.high)

pub returns-then-not-joined-clause-low : goal.returns-then-not-joined-clause-low
returns-then-not-joined-clause-low g c =
    let up : parent_of c.up.arena c.up.block ≡ Some c.in-Some.up = sym c.parent.ensures ∙ c.in-Some.is in
    let pair = fl_pair c.up.arena c.args.root c.args._id c.up.block c.up.invariant.apart c.in-Some.up up c.up.invariant.block _ c.child_at-front.result
    c.child_at-rear.result c.child_at-front.ensures c.child_at-rear.ensures in
    omega (
      arith,
      share_high c.up.arena c.share.new.arena c.args.root c.args._id c.in-Some.up c.child_at-front.result c.child_at-rear.result c.up.block
          c.up.invariant.apart pair.front_up pair.rear_up pair.differ
          (fl_short c.up.arena c.args.root c.args._id c.up.block c.up.invariant.apart c.in-Some.up up c.child_place-place.result.0 _ c.child_at-front.result
          c.child_at-rear.result c.child_place-place.ensures.place (omega arith) c.child_at-front.ensures c.child_at-rear.ensures)
          (fl_two c.up.arena c.args.root c.args._id c.up.block c.up.invariant.apart c.in-Some.up up c.up.invariant.block)
          c.in_ok-joined.ensures.shares,
      c.up.invariant.high,
    )

pub returns-clause-low : goal.returns-clause-low
returns-clause-low g c = omega (arith, c.up.invariant.high)

pub up-init : goal.up-init
up-init g c =
    record {
      apart = c.requires.apart;
      block = c.requires.block;
      sums = c.requires.sums;
      floors = c.requires.floors;
      fits = c.requires.fits;
      high = refl;
      leaves = refl;
      leaf_values = λ x. refl;
    }

pub returns-then-count_of-ge4-clause-sums : goal.returns-then-count_of-ge4-clause-sums
returns-then-count_of-ge4-clause-sums g c = c.up.invariant.sums

pub returns-then-count_of-ge4-clause-floors : goal.returns-then-count_of-ge4-clause-floors
returns-then-count_of-ge4-clause-floors g c = c.up.invariant.floors

pub returns-then-count_of-ge4-clause-leaves : goal.returns-then-count_of-ge4-clause-leaves
returns-then-count_of-ge4-clause-leaves g c = c.up.invariant.leaves

pub returns-then-count_of-ge4-clause-leaf_values : goal.returns-then-count_of-ge4-clause-leaf_values
returns-then-count_of-ge4-clause-leaf_values g c = c.up.invariant.leaf_values

pub share-requires-clause-floors : goal.share-requires-clause-floors
share-requires-clause-floors g c = c.up.invariant.floors

pub returns-clause-sums : goal.returns-clause-sums
returns-clause-sums g c = c.up.invariant.sums

pub returns-clause-floors : goal.returns-clause-floors
returns-clause-floors g c = c.up.invariant.floors

pub returns-clause-leaves : goal.returns-clause-leaves
returns-clause-leaves g c = c.up.invariant.leaves

pub returns-clause-leaf_values : goal.returns-clause-leaf_values
returns-clause-leaf_values g c = c.up.invariant.leaf_values

pub parent-requires : goal.parent-requires
parent-requires g c = block_live (entry c.up.arena c.up.block) c.up.invariant.block

pub count_of-requires : goal.count_of-requires
count_of-requires g c = c.up.invariant.block

pub share-requires-clause-sums : goal.share-requires-clause-sums
share-requires-clause-sums g c = c.up.invariant.sums

pub share-requires-clause-place : goal.share-requires-clause-place
share-requires-clause-place g c = c.child_at-front.ensures

pub share-requires-clause-next : goal.share-requires-clause-next
share-requires-clause-next g c = c.child_at-rear.ensures

pub drop_root-requires-clause-forest : goal.drop_root-requires-clause-forest
drop_root-requires-clause-forest g c = c.up.invariant.apart.shape.forest

pub drop_root-requires-clause-one : goal.drop_root-requires-clause-one
drop_root-requires-clause-one g c = omega (arith, c.child_place-place.ensures.count, c.if-count-eq1.true)

pub returns-then-not-joined-clause-floors : goal.returns-then-not-joined-clause-floors
returns-then-not-joined-clause-floors g c = c.in_ok-joined.ensures.floors

pub overflow_add-at : goal.overflow_add-at
overflow_add-at g c =
    omega (
      arith,
      slice_get_within (kids_of c.up.arena c.in-Some.up) c.child_place-place.result.0 c.up.block c.child_place-place.ensures.place,
      c.child_place-place.ensures.count,
    )

pub returns-in_err-joined : goal.returns-in_err-joined
returns-in_err-joined g c =
    let r = c.from_residual in
    record {
      apart = IfOk-from_err r.result _ r.ensures.0;
      low = IfOk-from_err r.result _ r.ensures.0;
      sums = IfOk-from_err r.result _ r.ensures.0;
      floors = IfOk-from_err r.result _ r.ensures.0;
      leaves = IfOk-from_err r.result _ r.ensures.0;
      leaf_values = IfOk-from_err r.result _ r.ensures.0;
    }
