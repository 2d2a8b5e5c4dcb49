use Rattle.std.proofs.Common.{◌≡◌, ℕ, Option, Some, refl, ap, sym, subst, ◌∙◌}
use Rattle.ft_shape.specs.Tree.{total}
use Rattle.ft_block.specs.Inside.{IsRooted, IsSound}
use Rattle.ft_block.proofs.MovedLemmas.{list_total}
use Rattle.ft_block.proofs.SoundLemmas.{rooted_forest, moves_sound, leaf_rooted}
use Rattle.std.proofs.lemmas.Result.{IfOk-from_err}
use Rattle.ft_block.proofs.counted.move_in.Goals as goal

pub stands_there-requires-clause-forest : goal.stands_there-requires-clause-forest
stands_there-requires-clause-forest g c = rooted_forest c.args.arena.now c.args.root c.requires.sound.rooted

pub returns-then-stands_there-clause-moves : goal.returns-then-stands_there-clause-moves
returns-then-stands_there-clause-moves g c = record { leaves = sym (c.stands_there.ensures.there c.if-stands_there.true); values = λ x. refl }

pub returns-clause-sound : goal.returns-clause-sound
returns-clause-sound g c =
    let longer : (f : ℕ → ℕ) → total f c.move_at.new.arena.leaves ≡ total f c.args.arena.now.leaves =
    λ f. ap (total f) c.in_ok-top-in-Some.ensures.moves.leaves
    ∙ list_total c.args.arena.now (rooted_forest c.args.arena.now c.args.root c.requires.sound.rooted) f c.args.id c.args.at c.requires.live c.requires.at
    c.requires.differ in
    subst (λ (z : ℕ). IsSound g.L.Leaf.size g.L.Leaf.element c.args.floor c.move_at.new.arena (Some z)) (sym c.top.view_is)
    (moves_sound g.L.Leaf.size g.L.Leaf.element c.args.floor c.args.arena.now c.move_at.new.arena c.args.root c.in_ok-top-in-Some.top c.args.id c.args.at
    c.requires.sound c.requires.live longer c.in_ok-top-in-Some.ensures.tree c.in_ok-top-in-Some.ensures.sums c.in_ok-top-in-Some.ensures.floors
    c.in_ok-top-in-Some.ensures.moves)

pub move_at-requires-clause-tree : goal.move_at-requires-clause-tree
move_at-requires-clause-tree g c = subst (λ (o : Option ℕ). IsRooted c.args.arena.now o) c.in-Some.is c.requires.sound.rooted

pub move_at-requires-clause-sums : goal.move_at-requires-clause-sums
move_at-requires-clause-sums g c = c.requires.sound.sums

pub move_at-requires-clause-floors : goal.move_at-requires-clause-floors
move_at-requires-clause-floors g c = c.requires.sound.floors

pub move_at-requires-clause-fits : goal.move_at-requires-clause-fits
move_at-requires-clause-fits g c = c.requires.sound.fits

pub move_at-requires-clause-more : goal.move_at-requires-clause-more
move_at-requires-clause-more g c = c.stands_there.ensures.more c.if-stands_there.false

pub returns-then-stands_there-clause-sound : goal.returns-then-stands_there-clause-sound
returns-then-stands_there-clause-sound g c = subst (λ r. IsSound g.L.Leaf.size g.L.Leaf.element c.args.floor c.args.arena.now r) c.in-Some.is c.requires.sound

pub returns-clause-moves : goal.returns-clause-moves
returns-clause-moves g c = c.in_ok-top-in-Some.ensures.moves

pub unreachable-requires : goal.unreachable-requires
unreachable-requires g c = leaf_rooted c.args.arena.now c.args.root c.args.id c.requires.sound.rooted c.requires.live c.in-None.is

pub stands_there-requires-clause-live : goal.stands_there-requires-clause-live
stands_there-requires-clause-live g c = c.requires.live

pub stands_there-requires-clause-at : goal.stands_there-requires-clause-at
stands_there-requires-clause-at g c = c.requires.at

pub stands_there-requires-clause-differ : goal.stands_there-requires-clause-differ
stands_there-requires-clause-differ g c = c.requires.differ

pub move_at-requires-clause-live : goal.move_at-requires-clause-live
move_at-requires-clause-live g c = c.requires.live

pub move_at-requires-clause-at : goal.move_at-requires-clause-at
move_at-requires-clause-at g c = c.requires.at

pub move_at-requires-clause-differ : goal.move_at-requires-clause-differ
move_at-requires-clause-differ g c = c.requires.differ

pub returns-in_err-top-in-Some : goal.returns-in_err-top-in-Some
returns-in_err-top-in-Some g c =
    let r = c.from_residual in
    record {
      sound = IfOk-from_err r.result _ r.ensures.0;
      moves = IfOk-from_err r.result _ r.ensures.0;
    }
