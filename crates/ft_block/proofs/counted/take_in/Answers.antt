use Rattle.std.proofs.Common.{ℕ, Option, Some, None, subst, sym}
use Rattle.ft_shape.specs.Tree.{IsTree}
use Rattle.ft_shape.proofs.UnlinkLemmas.{unlinked_tree, unlinked_sums, unlinked_takes, bare_sums}
use Rattle.ft_block.specs.Inside.{IsRooted, IsSound}
use Rattle.ft_block.specs.Tree.{by_view}
use Rattle.ft_block.proofs.Floors.{unlinked_floors}
use Rattle.ft_block.proofs.KeptLemmas.{bare_floors}
use Rattle.ft_block.proofs.SoundLemmas.{leaf_rooted, takes_sound}
use Rattle.std.proofs.lemmas.Result.{IfOk-from_err}
use Rattle.ft_block.proofs.counted.take_in.Goals as goal

pub unreachable-requires : goal.unreachable-requires
unreachable-requires g c = leaf_rooted c.args.arena.now c.args.root c.args.id c.requires.sound.rooted c.requires.live c.in_default.is

pub is_only-requires-clause-forest : goal.is_only-requires-clause-forest
is_only-requires-clause-forest g c =
    let tree : IsTree c.args.arena.now c.in-Some.root = subst (λ (o : Option ℕ). IsRooted c.args.arena.now o) c.in-Some.is c.requires.sound.rooted in
    tree.shape.forest

pub is_only-requires-clause-live : goal.is_only-requires-clause-live
is_only-requires-clause-live g c = c.requires.live

pub take_last-requires-clause-tree : goal.take_last-requires-clause-tree
take_last-requires-clause-tree g c = subst (λ (o : Option ℕ). IsRooted c.args.arena.now o) c.in-Some.is c.requires.sound.rooted

pub take_last-requires-clause-only : goal.take_last-requires-clause-only
take_last-requires-clause-only g c = c.is_only.ensures.only c.if-is_only.true

pub returns-then-is_only-clause-sound : goal.returns-then-is_only-clause-sound
returns-then-is_only-clause-sound g c =
    let s = c.take_last.new.arena in
    takes_sound g.L.Leaf.size g.L.Leaf.element c.args.floor c.args.arena.now s c.args.root None c.args.id c.take_last.result c.requires.sound
    c.take_last.ensures.takes.gone
    c.take_last.ensures.bare (λ view k. bare_sums (by_view g.L.Leaf.size g.L.Leaf.element view) c.take_last.new.arena c.take_last.ensures.bare)
    (bare_floors c.args.floor c.take_last.new.arena c.take_last.ensures.bare.nodes) c.take_last.ensures.takes

pub returns-then-is_only-clause-takes : goal.returns-then-is_only-clause-takes
returns-then-is_only-clause-takes g c = c.take_last.ensures.takes

pub detach-requires-clause-tree : goal.detach-requires-clause-tree
detach-requires-clause-tree g c = subst (λ (o : Option ℕ). IsRooted c.args.arena.now o) c.in-Some.is c.requires.sound.rooted

pub detach-requires-clause-sums : goal.detach-requires-clause-sums
detach-requires-clause-sums g c = c.requires.sound.sums

pub detach-requires-clause-floors : goal.detach-requires-clause-floors
detach-requires-clause-floors g c = c.requires.sound.floors

pub detach-requires-clause-live : goal.detach-requires-clause-live
detach-requires-clause-live g c = c.requires.live

pub detach-requires-clause-more : goal.detach-requires-clause-more
detach-requires-clause-more g c = c.is_only.ensures.more c.if-is_only.false

pub detach-requires-clause-fits : goal.detach-requires-clause-fits
detach-requires-clause-fits g c = c.requires.sound.fits

pub unlink-requires-clause-live : goal.unlink-requires-clause-live
unlink-requires-clause-live g c = c.in_ok-top.ensures.apart.live

pub unlink-requires-clause-alone : goal.unlink-requires-clause-alone
unlink-requires-clause-alone g c = c.in_ok-top.ensures.apart.top

pub returns-clause-sound : goal.returns-clause-sound
returns-clause-sound g c =
    let takes = unlinked_takes c.detach.new.arena c.unlink.new.self c.in_ok-top.top c.args.id c.unlink.result c.in_ok-top.ensures.apart
    c.unlink.ensures.sound c.unlink.ensures.value
    c.unlink.ensures.leaves c.unlink.ensures.changes c.args.arena.now c.in_ok-top.ensures.leaves c.in_ok-top.ensures.leaf_values in
    subst (λ (z : ℕ). IsSound g.L.Leaf.size g.L.Leaf.element c.args.floor c.unlink.new.self (Some z)) (sym c.top.view_is)
    (takes_sound g.L.Leaf.size g.L.Leaf.element c.args.floor c.args.arena.now c.unlink.new.self c.args.root (Some c.in_ok-top.top) c.args.id
    c.unlink.result c.requires.sound takes.gone
    (unlinked_tree c.detach.new.arena c.unlink.new.self c.in_ok-top.top c.args.id c.unlink.result c.in_ok-top.ensures.apart c.unlink.ensures.sound
    c.unlink.ensures.value
    c.unlink.ensures.leaves c.unlink.ensures.changes)
    (λ view k. unlinked_sums c.detach.new.arena c.unlink.new.self c.in_ok-top.top c.args.id c.unlink.result c.in_ok-top.ensures.apart
    c.unlink.ensures.sound c.unlink.ensures.value
    c.unlink.ensures.leaves c.unlink.ensures.changes
    (by_view g.L.Leaf.size g.L.Leaf.element view) (c.in_ok-top.ensures.sums view k))
    (unlinked_floors c.detach.new.arena c.unlink.new.self c.in_ok-top.top c.args.id c.unlink.result c.in_ok-top.ensures.apart c.unlink.ensures.sound
    c.unlink.ensures.value
    c.unlink.ensures.leaves c.unlink.ensures.changes
    c.args.floor c.in_ok-top.ensures.floors) takes)

pub returns-clause-takes : goal.returns-clause-takes
returns-clause-takes g c = unlinked_takes c.detach.new.arena c.unlink.new.self c.in_ok-top.top c.args.id c.unlink.result c.in_ok-top.ensures.apart
    c.unlink.ensures.sound c.unlink.ensures.value
    c.unlink.ensures.leaves c.unlink.ensures.changes
    c.args.arena.now c.in_ok-top.ensures.leaves c.in_ok-top.ensures.leaf_values

pub returns-in_err-top : goal.returns-in_err-top
returns-in_err-top g c =
    let r = c.from_residual in
    record {
      sound = IfOk-from_err r.result _ r.ensures.0;
      takes = IfOk-from_err r.result _ r.ensures.0;
    }
