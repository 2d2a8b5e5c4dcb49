use Rattle.std.proofs.Common.{◌≡◌, ◌≤◌, ℕ, take, refl, ap, sym, ◌∙◌, arith}
use Rattle.std.proofs.lemmas.List.{take_all}
use Rattle.std.proofs.lemmas.Option.{slice_get_within}
use Rattle.ft_arena.specs.Ids.{times}
use Rattle.ft_arena.specs.Forest.{kids_of, parent_of}
use Rattle.ft_shape.specs.Tree.{total, length_of, length_of_entry}
use Rattle.ft_block.specs.Tree.{by_view}
use Rattle.ft_block.proofs.KeptLemmas.{node_from}
use Rattle.ft_block.proofs.NearerEnd.{before-take, points_few}
use Rattle.ft_block.proofs.position.length_before.Goals as goal

pub returns-then-place-count : goal.returns-then-place-count
returns-then-place-count g c =
    let s = c.args.arena.now in
    let f : ℕ → ℕ = length_of (by_view g.L.Leaf.size g.L.Leaf.element c.args.view) s in
    let ks = kids_of s c.args.block in
    let once : times ks c.args.child ≤ 1 = omega (arith, c.requires.forest.child_once c.args.block c.args.child, points_few (parent_of s c.args.child) c.args.block) in
    let before = before-take ks c.child_place-place.result.0 c.args.child c.child_place-place.ensures.place once in
    let none : total f (take 0 ks) ≡ 0 = refl in
    omega (arith, c.length_between.ensures, none, ap (total f) before)

pub length_between-requires-2-clause-order : goal.length_between-requires-2-clause-order
length_between-requires-2-clause-order g c =
    let ks = kids_of c.args.arena.now c.args.block in
    omega (arith, slice_get_within ks c.child_place-place.result.0 c.args.child c.child_place-place.ensures.place, c.child_place-place.ensures.count)

pub length_at-all-requires-clause-node : goal.length_at-all-requires-clause-node
length_at-all-requires-clause-node g c =
    node_from c.args.floor c.args.arena.now c.args.block c.read.result.now _ c.requires.floors c.read.ensures.node

pub overflow_sub-result : goal.overflow_sub-result
overflow_sub-result g c =
    let s = c.args.arena.now in
    let measure = by_view g.L.Leaf.size g.L.Leaf.element c.args.view in
    let f : ℕ → ℕ = length_of measure s in
    let ks = kids_of s c.args.block in
    let all : c.length_at-all.result ≡ total f ks = c.length_at-all.ensures ∙ sym (ap (length_of_entry measure) c.read.ensures.node) ∙ c.requires.all in
    let whole = take_all c.child_place-place.result.1 ks (omega (arith, c.child_place-place.ensures.count)) in
    omega (arith, all, c.length_between-2.ensures, ap (total f) whole)

pub returns : goal.returns
returns g c =
    let s = c.args.arena.now in
    let measure = by_view g.L.Leaf.size g.L.Leaf.element c.args.view in
    let f : ℕ → ℕ = length_of measure s in
    let ks = kids_of s c.args.block in
    let all : c.length_at-all.result ≡ total f ks = c.length_at-all.ensures ∙ sym (ap (length_of_entry measure) c.read.ensures.node) ∙ c.requires.all in
    let whole = take_all c.child_place-place.result.1 ks (omega (arith, c.child_place-place.ensures.count)) in
    let once : times ks c.args.child ≤ 1 = omega (arith, c.requires.forest.child_once c.args.block c.args.child, points_few (parent_of s c.args.child) c.args.block) in
    let before = before-take ks c.child_place-place.result.0 c.args.child c.child_place-place.ensures.place once in
    omega (arith, all, c.length_between-2.ensures, ap (total f) whole, ap (total f) before)

pub child_place-place-requires-clause-block : goal.child_place-place-requires-clause-block
child_place-place-requires-clause-block g c = c.requires.block

pub child_place-place-requires-clause-child : goal.child_place-place-requires-clause-child
child_place-place-requires-clause-child g c = c.requires.child

pub length_between-requires-clause-floors : goal.length_between-requires-clause-floors
length_between-requires-clause-floors g c = c.requires.floors

pub length_between-requires-2-clause-floors : goal.length_between-requires-2-clause-floors
length_between-requires-2-clause-floors g c = c.requires.floors

pub length_at-all-requires-clause-kept : goal.length_at-all-requires-clause-kept
length_at-all-requires-clause-kept g c = c.requires.kept
