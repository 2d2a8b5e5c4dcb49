use Rattle.std.proofs.Common.{sym, ◌∙◌}
use Rattle.std.proofs.lemmas.Bool.{eqb-true, eqb-false}
use Rattle.ft_tree_blocks.proofs.CountedWalks.{live_leaf}
use Rattle.ft_tree_steps.proofs.OrderedPlaces.{leaves_decide, offsets_decide}
use Rattle.ft_tree_steps.proofs.offsets.is_before.Goals as goal

pub returns-then-eq : goal.returns-then-eq
returns-then-eq g c =
    offsets_decide g.C.Content.units g.C.Content.by c.args.blocks.now.leaves c.args.first.now c.args.second.now
    (eqb-true c.args.first.now.owner c.args.second.now.owner (sym c.eq.ensures ∙ c.if-eq.true))

pub is_before-requires-clause-first : goal.is_before-requires-clause-first
is_before-requires-clause-first g c = live_leaf g.C.Content.units g.C.Content.by c.args.blocks.now.leaves c.args.first.now c.requires.first

pub is_before-requires-clause-second : goal.is_before-requires-clause-second
is_before-requires-clause-second g c = live_leaf g.C.Content.units g.C.Content.by c.args.blocks.now.leaves c.args.second.now c.requires.second

pub returns : goal.returns
returns g c = c.is_before.ensures
    ∙ leaves_decide g.C.Content.units g.C.Content.by c.args.blocks.now.leaves c.args.first.now c.args.second.now c.requires.first c.requires.second
    (eqb-false c.args.first.now.owner c.args.second.now.owner (sym c.eq.ensures ∙ c.if-eq.false))
