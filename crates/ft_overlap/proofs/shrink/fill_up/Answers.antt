use Rattle.std.proofs.Common.{◌≡◌, ◌≤◌, ◌+◌, ℕ, Some, IsSome, length, refl, ap, sym, subst, ◌∙◌, arith}
use Rattle.std.proofs.lemmas.Option.{slice_get_within}
use Rattle.ft_arena.specs.Forest.{entry, kids_of, parent_of, block_value}
use Rattle.ft_shape.specs.Tree.{IsApart, height_of}
use Rattle.ft_shape.specs.Steps.{DropsRoot}
use Rattle.ft_shape.specs.Told.{KeepsBut}
use Rattle.ft_shape.proofs.KindLemmas.{block_live}
use Rattle.ft_shape.proofs.ShareLemmas.{share_apart, share_block, share_high, share_up_high}
use Rattle.ft_shape.proofs.FillLemmas.{apart_full, apart_root, apart_with, fl_up_block, fl_up_full, fl_child, fl_root, fl_only, fl_short, fl_two, fl_pair, fl_many, dropped_apart}
use Rattle.ft_shape.proofs.ToldLemmas.{told_from_values, gone_keeps, but_both}
use Rattle.ft_overlap.specs.Inside.{IsSpan, SpansLast}
use Rattle.ft_overlap.proofs.Taken.{gone_known}
use Rattle.ft_overlap.proofs.shrink.fill_up.Goals as goal

pub returns-then-count_of-ge4-clause-apart : goal.returns-then-count_of-ge4-clause-apart
returns-then-count_of-ge4-clause-apart g c =
    apart_full c.up.arena c.args.root c.args._id c.up.block c.up.invariant.apart (omega (arith, c.count_of.ensures.value, c.if-count_of-ge4.true))

pub child_place-place-requires-clause-block : goal.child_place-place-requires-clause-block
child_place-place-requires-clause-block g c =
    let up : parent_of c.up.arena c.up.block ≡ Some c.in-Some.up = sym c.parent.ensures ∙ c.in-Some.is in
    fl_up_block c.up.arena c.args.root c.args._id c.up.block c.up.invariant.apart c.in-Some.up up

pub child_place-place-requires-clause-child : goal.child_place-place-requires-clause-child
child_place-place-requires-clause-child g c =
    let up : parent_of c.up.arena c.up.block ≡ Some c.in-Some.up = sym c.parent.ensures ∙ c.in-Some.is in
    fl_child c.up.arena c.args.root c.args._id c.up.block c.up.invariant.apart c.in-Some.up up

pub drop_root-top-requires-clause-block : goal.drop_root-top-requires-clause-block
drop_root-top-requires-clause-block g c =
    let up : parent_of c.up.arena c.up.block ≡ Some c.in-Some.up = sym c.parent.ensures ∙ c.in-Some.is in
    fl_up_block c.up.arena c.args.root c.args._id c.up.block c.up.invariant.apart c.in-Some.up up

pub drop_root-top-requires-clause-top : goal.drop_root-top-requires-clause-top
drop_root-top-requires-clause-top g c =
    let up : parent_of c.up.arena c.up.block ≡ Some c.in-Some.up = sym c.parent.ensures ∙ c.in-Some.is in
    let few : length (kids_of c.up.arena c.in-Some.up) ≤ 3 = omega (arith, c.child_place-place.ensures.count, c.if-count-eq1.true) in
    let is_root : c.in-Some.up ≡ c.args.root = fl_root c.up.arena c.args.root c.args._id c.up.block c.up.invariant.apart c.in-Some.up up few in
    ap (parent_of c.up.arena) is_root ∙ c.up.invariant.apart.shape.root_is_top

pub returns-then-count-eq1-clause-apart : goal.returns-then-count-eq1-clause-apart
returns-then-count-eq1-clause-apart g c =
    let up : parent_of c.up.arena c.up.block ≡ Some c.in-Some.up = sym c.parent.ensures ∙ c.in-Some.is in
    let few : length (kids_of c.up.arena c.in-Some.up) ≤ 3 = omega (arith, c.child_place-place.ensures.count, c.if-count-eq1.true) in
    let is_root : c.in-Some.up ≡ c.args.root = fl_root c.up.arena c.args.root c.args._id c.up.block c.up.invariant.apart c.in-Some.up up few in
    let drops : DropsRoot c.up.arena c.drop_root-top.new.arena c.args.root c.drop_root-top.result =
    subst (λ (z : ℕ). DropsRoot c.up.arena c.drop_root-top.new.arena z c.drop_root-top.result) is_root c.drop_root-top.ensures in
    let is_top : c.up.block ≡ c.drop_root-top.result =
    fl_only c.up.arena c.args.root c.args._id c.up.block c.up.invariant.apart c.in-Some.up up c.drop_root-top.result (ap (kids_of c.up.arena) is_root ∙ drops.kids) in
    let apart : IsApart c.up.arena c.args.root c.args._id (Some c.drop_root-top.result) =
    subst (λ (z : ℕ). IsApart c.up.arena c.args.root c.args._id (Some z)) is_top c.up.invariant.apart in
    let filled : 1 ≤ length (kids_of c.up.arena c.drop_root-top.result) = apart.filled c.drop_root-top.result refl in
    let block : IsSome (block_value c.up.arena c.drop_root-top.result) = subst (λ (z : ℕ). IsSome (block_value c.up.arena z)) is_top c.up.invariant.block in
    dropped_apart c.up.arena c.drop_root-top.new.arena c.args.root c.args._id c.drop_root-top.result apart filled block drops

pub returns-then-count-eq1-clause-leaves : goal.returns-then-count-eq1-clause-leaves
returns-then-count-eq1-clause-leaves g c = c.drop_root-top.ensures.leaves ∙ c.up.invariant.leaves

pub returns-then-count-eq1-clause-leaf_values : goal.returns-then-count-eq1-clause-leaf_values
returns-then-count-eq1-clause-leaf_values g c = λ x. c.drop_root-top.ensures.leaf_values x ∙ c.up.invariant.leaf_values x

pub child_at-front-requires-clause-block : goal.child_at-front-requires-clause-block
child_at-front-requires-clause-block g c =
    let up : parent_of c.up.arena c.up.block ≡ Some c.in-Some.up = sym c.parent.ensures ∙ c.in-Some.is in
    fl_up_block c.up.arena c.args.root c.args._id c.up.block c.up.invariant.apart c.in-Some.up up

pub child_at-front-requires-clause-place : goal.child_at-front-requires-clause-place
child_at-front-requires-clause-place g c = omega (arith, slice_get_within (kids_of c.up.arena c.in-Some.up) c.child_place-place.result.0 c.up.block c.child_place-place.ensures.place)

pub child_at-rear-requires-clause-block : goal.child_at-rear-requires-clause-block
child_at-rear-requires-clause-block g c =
    let up : parent_of c.up.arena c.up.block ≡ Some c.in-Some.up = sym c.parent.ensures ∙ c.in-Some.is in
    fl_up_block c.up.arena c.args.root c.args._id c.up.block c.up.invariant.apart c.in-Some.up up

pub child_at-rear-requires-clause-place : goal.child_at-rear-requires-clause-place
child_at-rear-requires-clause-place g c =
    omega (
      arith,
      slice_get_within (kids_of c.up.arena c.in-Some.up) c.child_place-place.result.0 c.up.block c.child_place-place.ensures.place,
      c.child_place-place.ensures.count,
      c.if-count-eq1.false,
    )

pub count_of-requires-in-Some : goal.count_of-requires-in-Some
count_of-requires-in-Some g c =
    let up : parent_of c.up.arena c.up.block ≡ Some c.in-Some.up = sym c.parent.ensures ∙ c.in-Some.is in
    (fl_pair c.up.arena c.args.root c.args._id c.up.block c.up.invariant.apart c.in-Some.up up c.up.invariant.block _ c.child_at-front.result c.child_at-rear.result
    c.child_at-front.ensures c.child_at-rear.ensures).front_block

pub count_of-requires-in-Some-2 : goal.count_of-requires-in-Some-2
count_of-requires-in-Some-2 g c =
    let up : parent_of c.up.arena c.up.block ≡ Some c.in-Some.up = sym c.parent.ensures ∙ c.in-Some.is in
    (fl_pair c.up.arena c.args.root c.args._id c.up.block c.up.invariant.apart c.in-Some.up up c.up.invariant.block _ c.child_at-front.result c.child_at-rear.result
    c.child_at-front.ensures c.child_at-rear.ensures).rear_block

pub balance-requires-clause-forest : goal.balance-requires-clause-forest
balance-requires-clause-forest g c = c.up.invariant.apart.shape.forest

pub balance-requires-clause-pair : goal.balance-requires-clause-pair
balance-requires-clause-pair g c =
    let up : parent_of c.up.arena c.up.block ≡ Some c.in-Some.up = sym c.parent.ensures ∙ c.in-Some.is in
    fl_pair c.up.arena c.args.root c.args._id c.up.block c.up.invariant.apart c.in-Some.up up c.up.invariant.block _ c.child_at-front.result c.child_at-rear.result
    c.child_at-front.ensures c.child_at-rear.ensures

pub balance-requires-clause-many : goal.balance-requires-clause-many
balance-requires-clause-many g c = omega (arith, c.count_of-in-Some.ensures.value, c.count_of-in-Some-2.ensures.value, c.if-many-gt8.true)

pub returns-then-many-gt8-clause-apart : goal.returns-then-many-gt8-clause-apart
returns-then-many-gt8-clause-apart g c =
    let up : parent_of c.up.arena c.up.block ≡ Some c.in-Some.up = sym c.parent.ensures ∙ c.in-Some.is in
    let pair = fl_pair c.up.arena c.args.root c.args._id c.up.block c.up.invariant.apart c.in-Some.up up c.up.invariant.block _ c.child_at-front.result
    c.child_at-rear.result c.child_at-front.ensures c.child_at-rear.ensures in
    apart_with c.balance.new.arena c.args.root c.args._id c.in-Some.up
    (share_apart c.up.arena c.balance.new.arena c.args.root c.args._id c.in-Some.up c.child_at-front.result c.child_at-rear.result c.up.block c.up.invariant.apart
    pair.front_up pair.rear_up pair.differ (fl_short c.up.arena c.args.root c.args._id c.up.block c.up.invariant.apart c.in-Some.up up c.child_place-place.result.0 _
    c.child_at-front.result c.child_at-rear.result c.child_place-place.ensures.place (omega arith) c.child_at-front.ensures c.child_at-rear.ensures)
    (fl_two c.up.arena c.args.root c.args._id c.up.block c.up.invariant.apart c.in-Some.up up c.up.invariant.block) c.balance.ensures.shares)
    (λ b e d. omega (
      arith,
      fl_up_full c.up.arena c.args.root c.args._id c.up.block c.up.invariant.apart c.in-Some.up up (λ q. d (e ∙ q)),
      ap length
          (c.balance.ensures.up_kids),
      ap (λ z. length (kids_of c.balance.new.arena z)) e,
    ))

pub returns-then-many-gt8-clause-leaves : goal.returns-then-many-gt8-clause-leaves
returns-then-many-gt8-clause-leaves g c = c.balance.ensures.shares.leaves ∙ c.up.invariant.leaves

pub returns-then-many-gt8-clause-leaf_values : goal.returns-then-many-gt8-clause-leaf_values
returns-then-many-gt8-clause-leaf_values g c = λ x. c.balance.ensures.shares.leaf_values x ∙ c.up.invariant.leaf_values x

pub merge-requires-clause-forest : goal.merge-requires-clause-forest
merge-requires-clause-forest g c = c.up.invariant.apart.shape.forest

pub merge-requires-clause-pair : goal.merge-requires-clause-pair
merge-requires-clause-pair g c =
    let up : parent_of c.up.arena c.up.block ≡ Some c.in-Some.up = sym c.parent.ensures ∙ c.in-Some.is in
    fl_pair c.up.arena c.args.root c.args._id c.up.block c.up.invariant.apart c.in-Some.up up c.up.invariant.block _ c.child_at-front.result c.child_at-rear.result
    c.child_at-front.ensures c.child_at-rear.ensures

pub merge-requires-clause-few : goal.merge-requires-clause-few
merge-requires-clause-few g c = omega (arith, c.count_of-in-Some.ensures.value, c.count_of-in-Some-2.ensures.value, c.if-many-gt8.false)

pub merge-requires-clause-many : goal.merge-requires-clause-many
merge-requires-clause-many g c =
    let up : parent_of c.up.arena c.up.block ≡ Some c.in-Some.up = sym c.parent.ensures ∙ c.in-Some.is in
    fl_many c.up.arena c.args.root c.args._id c.up.block c.up.invariant.apart c.in-Some.up up c.up.invariant.block _ c.child_at-front.result c.child_at-rear.result
    c.child_at-front.ensures c.child_at-rear.ensures

pub returns-clause-apart : goal.returns-clause-apart
returns-clause-apart g c = apart_root c.up.arena c.args.root c.args._id c.up.block c.up.invariant.apart c.up.invariant.block (sym c.parent.ensures ∙ c.in_default.is)

pub returns-then-count_of-ge4-clause-leaves : goal.returns-then-count_of-ge4-clause-leaves
returns-then-count_of-ge4-clause-leaves g c = c.up.invariant.leaves

pub returns-then-count_of-ge4-clause-leaf_values : goal.returns-then-count_of-ge4-clause-leaf_values
returns-then-count_of-ge4-clause-leaf_values g c = c.up.invariant.leaf_values

pub returns-clause-leaves : goal.returns-clause-leaves
returns-clause-leaves g c = c.up.invariant.leaves

pub returns-clause-leaf_values : goal.returns-clause-leaf_values
returns-clause-leaf_values g c = c.up.invariant.leaf_values

pub returns-then-count_of-ge4-clause-known : goal.returns-then-count_of-ge4-clause-known
returns-then-count_of-ge4-clause-known g c = c.up.invariant.known

pub returns-clause-known : goal.returns-clause-known
returns-clause-known g c = c.up.invariant.known

pub returns-then-many-gt8-clause-known : goal.returns-then-many-gt8-clause-known
returns-then-many-gt8-clause-known g c = c.balance.ensures.known

pub returns-then-count_of-ge4-clause-one : goal.returns-then-count_of-ge4-clause-one
returns-then-count_of-ge4-clause-one g c = c.up.invariant.one

pub returns-clause-one : goal.returns-clause-one
returns-clause-one g c = c.up.invariant.one

pub returns-then-many-gt8-clause-one : goal.returns-then-many-gt8-clause-one
returns-then-many-gt8-clause-one g c = c.balance.ensures.one

pub returns-then-count_of-ge4-clause-last : goal.returns-then-count_of-ge4-clause-last
returns-then-count_of-ge4-clause-last g c = c.up.invariant.last

pub returns-clause-last : goal.returns-clause-last
returns-clause-last g c = c.up.invariant.last

pub returns-then-many-gt8-clause-last : goal.returns-then-many-gt8-clause-last
returns-then-many-gt8-clause-last g c = c.balance.ensures.last

pub returns-then-count_of-ge4-clause-block : goal.returns-then-count_of-ge4-clause-block
returns-then-count_of-ge4-clause-block g c = c.up.invariant.block

pub returns-clause-block : goal.returns-clause-block
returns-clause-block g c = c.up.invariant.block

pub returns-then-count-eq1-clause-block : goal.returns-then-count-eq1-clause-block
returns-then-count-eq1-clause-block g c =
    let up : parent_of c.up.arena c.up.block ≡ Some c.in-Some.up = sym c.parent.ensures ∙ c.in-Some.is in
    let few : length (kids_of c.up.arena c.in-Some.up) ≤ 3 = omega (arith, c.child_place-place.ensures.count, c.if-count-eq1.true) in
    let is_root : c.in-Some.up ≡ c.args.root = fl_root c.up.arena c.args.root c.args._id c.up.block c.up.invariant.apart c.in-Some.up up few in
    let drops : DropsRoot c.up.arena c.drop_root-top.new.arena c.args.root c.drop_root-top.result =
    subst (λ (z : ℕ). DropsRoot c.up.arena c.drop_root-top.new.arena z c.drop_root-top.result) is_root c.drop_root-top.ensures in
    let is_top : c.up.block ≡ c.drop_root-top.result =
    fl_only c.up.arena c.args.root c.args._id c.up.block c.up.invariant.apart c.in-Some.up up c.drop_root-top.result (ap (kids_of c.up.arena) is_root ∙ drops.kids) in
    let apart : IsApart c.up.arena c.args.root c.args._id (Some c.drop_root-top.result) =
    subst (λ (z : ℕ). IsApart c.up.arena c.args.root c.args._id (Some z)) is_top c.up.invariant.apart in
    let filled : 1 ≤ length (kids_of c.up.arena c.drop_root-top.result) = apart.filled c.drop_root-top.result refl in
    let block : IsSome (block_value c.up.arena c.drop_root-top.result) = subst (λ (z : ℕ). IsSome (block_value c.up.arena z)) is_top c.up.invariant.block in
    (dropped_apart c.up.arena c.drop_root-top.new.arena c.args.root c.args._id c.drop_root-top.result apart filled block drops).shape.root_is_block

pub returns-then-count-eq1-clause-known : goal.returns-then-count-eq1-clause-known
returns-then-count-eq1-clause-known g c =
    gone_known (g.P.Places.Knows c.args.at.now) c.up.arena c.drop_root-top.new.arena c.in-Some.up c.drop_root-top.ensures.gone
    (λ x d. told_from_values c.up.arena c.drop_root-top.new.arena x (c.drop_root-top.ensures.leaf_values x) (c.drop_root-top.ensures.block_values x d)) c.up.invariant.known

pub returns-then-count-eq1-clause-one : goal.returns-then-count-eq1-clause-one
returns-then-count-eq1-clause-one g c =
    let up : parent_of c.up.arena c.up.block ≡ Some c.in-Some.up = sym c.parent.ensures ∙ c.in-Some.is in
    let few : length (kids_of c.up.arena c.in-Some.up) ≤ 3 = omega (arith, c.child_place-place.ensures.count, c.if-count-eq1.true) in
    let is_root : c.in-Some.up ≡ c.args.root = fl_root c.up.arena c.args.root c.args._id c.up.block c.up.invariant.apart c.in-Some.up up few in
    let drops : DropsRoot c.up.arena c.drop_root-top.new.arena c.args.root c.drop_root-top.result =
    subst (λ (z : ℕ). DropsRoot c.up.arena c.drop_root-top.new.arena z c.drop_root-top.result) is_root c.drop_root-top.ensures in
    let is_top : c.up.block ≡ c.drop_root-top.result =
    fl_only c.up.arena c.args.root c.args._id c.up.block c.up.invariant.apart c.in-Some.up up c.drop_root-top.result (ap (kids_of c.up.arena) is_root ∙ drops.kids) in
    gone_keeps IsSpan c.up.arena c.drop_root-top.new.arena c.in-Some.up (Some c.drop_root-top.result) c.drop_root-top.ensures.forest c.drop_root-top.ensures.gone
    (λ x d. told_from_values c.up.arena c.drop_root-top.new.arena x (c.drop_root-top.ensures.leaf_values x) (c.drop_root-top.ensures.block_values x d))
    c.drop_root-top.ensures.other_kids (subst (λ (z : ℕ). KeepsBut IsSpan c.up.arena (Some z)) is_top c.up.invariant.one)

pub returns-then-count-eq1-clause-last : goal.returns-then-count-eq1-clause-last
returns-then-count-eq1-clause-last g c =
    let up : parent_of c.up.arena c.up.block ≡ Some c.in-Some.up = sym c.parent.ensures ∙ c.in-Some.is in
    let few : length (kids_of c.up.arena c.in-Some.up) ≤ 3 = omega (arith, c.child_place-place.ensures.count, c.if-count-eq1.true) in
    let is_root : c.in-Some.up ≡ c.args.root = fl_root c.up.arena c.args.root c.args._id c.up.block c.up.invariant.apart c.in-Some.up up few in
    let drops : DropsRoot c.up.arena c.drop_root-top.new.arena c.args.root c.drop_root-top.result =
    subst (λ (z : ℕ). DropsRoot c.up.arena c.drop_root-top.new.arena z c.drop_root-top.result) is_root c.drop_root-top.ensures in
    let is_top : c.up.block ≡ c.drop_root-top.result =
    fl_only c.up.arena c.args.root c.args._id c.up.block c.up.invariant.apart c.in-Some.up up c.drop_root-top.result (ap (kids_of c.up.arena) is_root ∙ drops.kids) in
    gone_keeps (SpansLast (g.P.Places.end_place c.args.at.now)) c.up.arena c.drop_root-top.new.arena c.in-Some.up
    (Some c.drop_root-top.result) c.drop_root-top.ensures.forest c.drop_root-top.ensures.gone
    (λ x d. told_from_values c.up.arena c.drop_root-top.new.arena x (c.drop_root-top.ensures.leaf_values x) (c.drop_root-top.ensures.block_values x d))
    c.drop_root-top.ensures.other_kids (subst (λ (z : ℕ). KeepsBut (SpansLast (g.P.Places.end_place c.args.at.now)) c.up.arena (Some z)) is_top c.up.invariant.last)

pub returns-then-many-gt8-clause-block : goal.returns-then-many-gt8-clause-block
returns-then-many-gt8-clause-block g c =
    let up : parent_of c.up.arena c.up.block ≡ Some c.in-Some.up = sym c.parent.ensures ∙ c.in-Some.is in
    let pair = fl_pair c.up.arena c.args.root c.args._id c.up.block c.up.invariant.apart c.in-Some.up up c.up.invariant.block _ c.child_at-front.result
    c.child_at-rear.result c.child_at-front.ensures c.child_at-rear.ensures in
    share_block c.up.arena c.balance.new.arena c.args.root c.args._id c.in-Some.up c.child_at-front.result c.child_at-rear.result c.up.block c.up.invariant.apart
    pair.front_up pair.rear_up pair.differ (fl_short c.up.arena c.args.root c.args._id c.up.block c.up.invariant.apart c.in-Some.up up c.child_place-place.result.0 _
    c.child_at-front.result c.child_at-rear.result c.child_place-place.ensures.place (omega arith) c.child_at-front.ensures c.child_at-rear.ensures)
    (fl_two c.up.arena c.args.root c.args._id c.up.block c.up.invariant.apart c.in-Some.up up c.up.invariant.block) c.balance.ensures.shares

pub balance-requires-clause-one : goal.balance-requires-clause-one
balance-requires-clause-one g c =
    let up : parent_of c.up.arena c.up.block ≡ Some c.in-Some.up = sym c.parent.ensures ∙ c.in-Some.is in
    but_both IsSpan c.up.arena c.up.block c.child_at-front.result c.child_at-rear.result
    (fl_short c.up.arena c.args.root c.args._id c.up.block c.up.invariant.apart c.in-Some.up up c.child_place-place.result.0 _
    c.child_at-front.result c.child_at-rear.result c.child_place-place.ensures.place (omega arith) c.child_at-front.ensures c.child_at-rear.ensures) c.up.invariant.one

pub balance-requires-clause-last : goal.balance-requires-clause-last
balance-requires-clause-last g c =
    let up : parent_of c.up.arena c.up.block ≡ Some c.in-Some.up = sym c.parent.ensures ∙ c.in-Some.is in
    but_both (SpansLast (g.P.Places.end_place c.args.at.now)) c.up.arena c.up.block c.child_at-front.result c.child_at-rear.result
    (fl_short c.up.arena c.args.root c.args._id c.up.block c.up.invariant.apart c.in-Some.up up c.child_place-place.result.0 _
    c.child_at-front.result c.child_at-rear.result c.child_place-place.ensures.place (omega arith) c.child_at-front.ensures c.child_at-rear.ensures) c.up.invariant.last

pub balance-requires-clause-known : goal.balance-requires-clause-known
balance-requires-clause-known g c = c.up.invariant.known

pub merge-requires-clause-one : goal.merge-requires-clause-one
merge-requires-clause-one g c =
    let up : parent_of c.up.arena c.up.block ≡ Some c.in-Some.up = sym c.parent.ensures ∙ c.in-Some.is in
    but_both IsSpan c.up.arena c.up.block c.child_at-front.result c.child_at-rear.result
    (fl_short c.up.arena c.args.root c.args._id c.up.block c.up.invariant.apart c.in-Some.up up c.child_place-place.result.0 _
    c.child_at-front.result c.child_at-rear.result c.child_place-place.ensures.place (omega arith) c.child_at-front.ensures c.child_at-rear.ensures) c.up.invariant.one

pub merge-requires-clause-last : goal.merge-requires-clause-last
merge-requires-clause-last g c =
    let up : parent_of c.up.arena c.up.block ≡ Some c.in-Some.up = sym c.parent.ensures ∙ c.in-Some.is in
    but_both (SpansLast (g.P.Places.end_place c.args.at.now)) c.up.arena c.up.block c.child_at-front.result c.child_at-rear.result
    (fl_short c.up.arena c.args.root c.args._id c.up.block c.up.invariant.apart c.in-Some.up up c.child_place-place.result.0 _
    c.child_at-front.result c.child_at-rear.result c.child_place-place.ensures.place (omega arith) c.child_at-front.ensures c.child_at-rear.ensures) c.up.invariant.last

pub merge-requires-clause-known : goal.merge-requires-clause-known
merge-requires-clause-known g c = c.up.invariant.known

pub up-init : goal.up-init
up-init g c =
    record {
      apart = c.requires.apart;
      block = c.requires.block;
      known = c.requires.known;
      one = c.requires.one;
      last = c.requires.last;
      leaves = refl;
      leaf_values = λ x. refl;
    }

pub up-smaller : goal.up-smaller
up-smaller g c =
    let up : parent_of c.up.arena c.up.block ≡ Some c.in-Some.up = sym c.parent.ensures ∙ c.in-Some.is in
    let pair = fl_pair c.up.arena c.args.root c.args._id c.up.block c.up.invariant.apart c.in-Some.up up c.up.invariant.block _ c.child_at-front.result
    c.child_at-rear.result c.child_at-front.ensures c.child_at-rear.ensures in
    let h = share_up_high c.up.arena c.merge.new.arena c.args.root c.args._id c.in-Some.up c.child_at-front.result c.child_at-rear.result c.up.block c.up.invariant.apart
    pair.front_up pair.rear_up pair.differ (fl_short c.up.arena c.args.root c.args._id c.up.block c.up.invariant.apart c.in-Some.up up c.child_place-place.result.0 _
    c.child_at-front.result c.child_at-rear.result c.child_place-place.ensures.place (omega arith) c.child_at-front.ensures c.child_at-rear.ensures)
    (fl_two c.up.arena c.args.root c.args._id c.up.block c.up.invariant.apart c.in-Some.up up c.up.invariant.block) c.merge.ensures.shares in
    let one : height_of c.up.arena c.in-Some.up ≡ height_of c.up.arena c.up.block + 1 = c.up.invariant.apart.shape.heights c.up.block c.in-Some.up up in
    let low = c.up.invariant.apart.shape.low c.in-Some.up
    (block_live (entry c.up.arena c.in-Some.up) (fl_up_block c.up.arena c.args.root c.args._id c.up.block c.up.invariant.apart c.in-Some.up up)) in
    let root_high = share_high c.up.arena c.merge.new.arena c.args.root c.args._id c.in-Some.up c.child_at-front.result c.child_at-rear.result c.up.block c.up.invariant.apart
    pair.front_up pair.rear_up pair.differ (fl_short c.up.arena c.args.root c.args._id c.up.block c.up.invariant.apart c.in-Some.up up c.child_place-place.result.0 _
    c.child_at-front.result c.child_at-rear.result c.child_place-place.ensures.place (omega arith) c.child_at-front.ensures c.child_at-rear.ensures)
    (fl_two c.up.arena c.args.root c.args._id c.up.block c.up.invariant.apart c.in-Some.up up c.up.invariant.block) c.merge.ensures.shares in
    omega (arith, h, one, low, root_high)

pub up-preserved : goal.up-preserved
up-preserved g c =
    let up : parent_of c.up.arena c.up.block ≡ Some c.in-Some.up = sym c.parent.ensures ∙ c.in-Some.is in
    let pair = fl_pair c.up.arena c.args.root c.args._id c.up.block c.up.invariant.apart c.in-Some.up up c.up.invariant.block _ c.child_at-front.result
    c.child_at-rear.result c.child_at-front.ensures c.child_at-rear.ensures in
    record {
      apart = share_apart c.up.arena c.merge.new.arena c.args.root c.args._id c.in-Some.up c.child_at-front.result c.child_at-rear.result c.up.block c.up.invariant.apart
          pair.front_up pair.rear_up pair.differ (fl_short c.up.arena c.args.root c.args._id c.up.block c.up.invariant.apart c.in-Some.up up c.child_place-place.result.0 _
          c.child_at-front.result c.child_at-rear.result c.child_place-place.ensures.place (omega arith) c.child_at-front.ensures c.child_at-rear.ensures)
          (fl_two c.up.arena c.args.root c.args._id c.up.block c.up.invariant.apart c.in-Some.up up c.up.invariant.block) c.merge.ensures.shares;
      block = share_block c.up.arena c.merge.new.arena c.args.root c.args._id c.in-Some.up c.child_at-front.result c.child_at-rear.result c.up.block c.up.invariant.apart
          pair.front_up pair.rear_up pair.differ (fl_short c.up.arena c.args.root c.args._id c.up.block c.up.invariant.apart c.in-Some.up up c.child_place-place.result.0 _
          c.child_at-front.result c.child_at-rear.result c.child_place-place.ensures.place (omega arith) c.child_at-front.ensures c.child_at-rear.ensures)
          (fl_two c.up.arena c.args.root c.args._id c.up.block c.up.invariant.apart c.in-Some.up up c.up.invariant.block) c.merge.ensures.shares;
      known = c.merge.ensures.known;
      one = c.merge.ensures.one;
      last = c.merge.ensures.last;
      leaves = c.merge.ensures.shares.leaves ∙ c.up.invariant.leaves;
      leaf_values = λ x. c.merge.ensures.shares.leaf_values x ∙ c.up.invariant.leaf_values x;
    }
