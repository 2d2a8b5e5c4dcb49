use Rattle.std.proofs.Common.{◌≡◌, ℕ, Some, None, IsSome, sym, subst, ◌∙◌}
use Rattle.std.proofs.lemmas.Option.{slice_get_within}
use Rattle.ft_arena.specs.Forest.{kids_of, parent_of, block_value}
use Rattle.ft_shape.proofs.TakenLemmas.{took_id, apart_part, SameShape-apart, taken_apart, tk_p_block, tk_child, tk_up_block, has_parent}
use Rattle.ft_shape.proofs.ToldLemmas.{kids_keep}
use Rattle.ft_overlap.specs.Inside.{IsSpan, SpansLast}
use Rattle.ft_overlap.proofs.Halved.{put_known}
use Rattle.ft_overlap.proofs.Taken.{apart_filled}
use Rattle.ft_overlap.proofs.shrink.detach.Goals as goal

pub unreachable-requires : goal.unreachable-requires
unreachable-requires g c = has_parent c.args.arena.now c.args.root c.args.id c.requires.tree c.requires.live (sym c.parent.ensures ∙ c.in_default.is)

pub child_place-place-requires-clause-block : goal.child_place-place-requires-clause-block
child_place-place-requires-clause-block g c =
    let up : parent_of c.args.arena.now c.args.id ≡ Some c.in-Some.block = sym c.parent.ensures ∙ c.in-Some.is in
    tk_up_block c.args.arena.now c.args.root c.args.id c.in-Some.block c.requires.tree up

pub child_place-place-requires-clause-child : goal.child_place-place-requires-clause-child
child_place-place-requires-clause-child g c =
    let up : parent_of c.args.arena.now c.args.id ≡ Some c.in-Some.block = sym c.parent.ensures ∙ c.in-Some.is in
    tk_child c.args.arena.now c.args.root c.args.id c.in-Some.block c.requires.tree up

pub take_child-requires : goal.take_child-requires
take_child-requires g c = slice_get_within (kids_of c.args.arena.now c.in-Some.block) c.child_place-place.result.0 c.args.id c.child_place-place.ensures.place

pub fill_up-top-requires-clause-apart : goal.fill_up-top-requires-clause-apart
fill_up-top-requires-clause-apart g c =
    let up : parent_of c.args.arena.now c.args.id ≡ Some c.in-Some.block = sym c.parent.ensures ∙ c.in-Some.is in
    let takes = took_id c.args.arena.now c.take_child.new.self c.in-Some.block c.child_place-place.result.0 c.args.id c.take_child.result c.child_place-place.ensures.place
    c.take_child.ensures.child c.take_child.ensures.takes in
    taken_apart c.args.arena.now c.take_child.new.self c.args.root c.args.id c.in-Some.block c.child_place-place.result.0 c.requires.tree c.requires.live up
    c.take_child.ensures.leaves c.take_child.ensures.sound c.child_place-place.ensures.place takes c.requires.more

pub fill_up-top-requires-clause-block : goal.fill_up-top-requires-clause-block
fill_up-top-requires-clause-block g c =
    let up : parent_of c.args.arena.now c.args.id ≡ Some c.in-Some.block = sym c.parent.ensures ∙ c.in-Some.is in
    let takes = took_id c.args.arena.now c.take_child.new.self c.in-Some.block c.child_place-place.result.0 c.args.id c.take_child.result c.child_place-place.ensures.place
    c.take_child.ensures.child c.take_child.ensures.takes in
    tk_p_block c.args.arena.now c.take_child.new.self c.args.root c.args.id c.in-Some.block c.child_place-place.result.0 c.requires.tree c.requires.live up
    c.take_child.ensures.leaves c.take_child.ensures.sound c.child_place-place.ensures.place takes c.requires.more

pub fill_up-top-requires-clause-known : goal.fill_up-top-requires-clause-known
fill_up-top-requires-clause-known g c = put_known (g.P.Places.Knows c.args.at.now) c.args.arena.now c.take_child.new.self c.take_child.ensures.takes.leaf_values
    c.take_child.ensures.takes.block_values c.requires.known

pub fill_up-top-requires-clause-one : goal.fill_up-top-requires-clause-one
fill_up-top-requires-clause-one g c = kids_keep IsSpan c.args.arena.now c.take_child.new.self c.in-Some.block c.take_child.ensures.takes.leaf_values
    c.take_child.ensures.takes.block_values c.take_child.ensures.takes.other_kids c.requires.one

pub fill_up-top-requires-clause-last : goal.fill_up-top-requires-clause-last
fill_up-top-requires-clause-last g c = kids_keep (SpansLast (g.P.Places.end_place c.args.at.now)) c.args.arena.now c.take_child.new.self
    c.in-Some.block c.take_child.ensures.takes.leaf_values
    c.take_child.ensures.takes.block_values c.take_child.ensures.takes.other_kids c.requires.last

pub rename_up-requires-clause-tree : goal.rename_up-requires-clause-tree
rename_up-requires-clause-tree g c = apart_part c.fill_up-top.new.arena c.fill_up-top.result.0 c.args.id None c.fill_up-top.ensures.apart

pub rename_up-requires-clause-block : goal.rename_up-requires-clause-block
rename_up-requires-clause-block g c = λ b e. let q : c.fill_up-top.result.1 ≡ b = cc e in subst (λ (z : ℕ). IsSome (block_value c.fill_up-top.new.arena z)) q c.fill_up-top.ensures.block

pub rename_up-requires-clause-filled : goal.rename_up-requires-clause-filled
rename_up-requires-clause-filled g c = apart_filled c.fill_up-top.new.arena c.fill_up-top.result.0 c.args.id c.fill_up-top.ensures.apart

pub rename_up-requires-clause-known : goal.rename_up-requires-clause-known
rename_up-requires-clause-known g c = c.fill_up-top.ensures.known

pub rename_up-requires-clause-one : goal.rename_up-requires-clause-one
rename_up-requires-clause-one g c = c.fill_up-top.ensures.one

pub rename_up-requires-clause-last : goal.rename_up-requires-clause-last
rename_up-requires-clause-last g c = c.fill_up-top.ensures.last

pub returns-clause-apart : goal.returns-clause-apart
returns-clause-apart g c = SameShape-apart c.fill_up-top.new.arena c.rename_up.new.arena c.fill_up-top.result.0 c.args.id None c.fill_up-top.ensures.apart c.rename_up.ensures.shape

pub returns-clause-one : goal.returns-clause-one
returns-clause-one g c = c.rename_up.ensures.one

pub returns-clause-last : goal.returns-clause-last
returns-clause-last g c = c.rename_up.ensures.last

pub returns-clause-leaves : goal.returns-clause-leaves
returns-clause-leaves g c = c.rename_up.ensures.shape.leaves ∙ c.fill_up-top.ensures.leaves ∙ c.take_child.ensures.leaves

pub returns-clause-leaf_values : goal.returns-clause-leaf_values
returns-clause-leaf_values g c = λ x. c.rename_up.ensures.shape.leaf_values x ∙ c.fill_up-top.ensures.leaf_values x ∙ c.take_child.ensures.takes.leaf_values x
