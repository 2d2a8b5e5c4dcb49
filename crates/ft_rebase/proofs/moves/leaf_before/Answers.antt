use Rattle.std.proofs.Common.{ap, ◌∙◌}
use Rattle.std.specs.Option.{option_and_then}
use Rattle.ft_block.specs.declared.blocks.Found.{Found}
use Rattle.ft_rebase.proofs.StageMoves.{find_node}
use Rattle.ft_rebase.proofs.moves.leaf_before.Goals as goal

pub returns-in-Some : goal.returns-in-Some
returns-in-Some g c q fits is =
    ap (option_and_then (λ (f : Found). f.leaf)) c.in-Some.ensures
    ∙ find_node g.C.Content.units c.args.stage q c.args.position c.args.tree.now.leaves c.first_leaf-first.ensures.some fits is

pub returns-in-None : goal.returns-in-None
returns-in-None g c q fits is =
    ap (option_and_then (λ (f : Found). f.leaf)) c.in-None.ensures
    ∙ find_node g.C.Content.units c.args.stage q c.args.position c.args.tree.now.leaves c.first_leaf-first.ensures.some fits is
