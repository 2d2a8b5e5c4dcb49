use Rattle.std.proofs.Common.{sym, ◌∙◌}
use Rattle.ft_tree_blocks.proofs.SkippedLeaves.{last_found, last_there}
use Rattle.ft_tree_blocks.proofs.finds.last_seen.Goals as goal

pub returns-in_err-found-clause-last : goal.returns-in_err-found-clause-last
returns-in_err-found-clause-last g c =
    last_there g.C.Content.units g.C.Content.by c.args.view c.args.blocks.now.leaves c.args.id c.first-first.ensures.once c.position_of-before.result
    c.position_of-before.ensures (sym c.find_leaf.ensures ∙ c.in_err-found.was)

pub returns-clause-live : goal.returns-clause-live
returns-clause-live g c =
    (last_found g.C.Content.units g.C.Content.by c.args.view c.args.blocks.now.leaves c.args.id c.first-first.ensures.once c.position_of-before.result
    c.in_ok-found.found c.position_of-before.ensures (sym c.find_leaf.ensures ∙ c.in_ok-found.was)).live

pub returns-clause-stands : goal.returns-clause-stands
returns-clause-stands g c =
    (last_found g.C.Content.units g.C.Content.by c.args.view c.args.blocks.now.leaves c.args.id c.first-first.ensures.once c.position_of-before.result
    c.in_ok-found.found c.position_of-before.ensures (sym c.find_leaf.ensures ∙ c.in_ok-found.was)).stands

pub returns-clause-last : goal.returns-clause-last
returns-clause-last g c =
    (last_found g.C.Content.units g.C.Content.by c.args.view c.args.blocks.now.leaves c.args.id c.first-first.ensures.once c.position_of-before.result
    c.in_ok-found.found c.position_of-before.ensures (sym c.find_leaf.ensures ∙ c.in_ok-found.was)).last
