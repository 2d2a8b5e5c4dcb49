use Rattle.std.proofs.Common.{◌∙◌}
use Rattle.ft_tree_steps.specs.RangeEdits.{MayEdit, edited_leaf}
use Rattle.ft_tree_steps.proofs.RangeWalks.{cut_live, cut_may, cut_value, edits_first, goes_behind}
use Rattle.ft_tree_steps.proofs.ranges.edit_first.Goals as goal

pub leaf-requires-clause-live : goal.leaf-requires-clause-live
leaf-requires-clause-live g c = cut_live g.C.Content.units g.C.Content.by c.args.view c.args.left c.in_ok-n.n c.args.blocks.now.leaves c.cut_seen.new.blocks.leaves c.args.id
    c.in_ok-n.ensures.cut

pub edit_seen-requires-clause-live : goal.edit_seen-requires-clause-live
edit_seen-requires-clause-live g c = cut_live g.C.Content.units g.C.Content.by c.args.view c.args.left c.in_ok-n.n c.args.blocks.now.leaves c.cut_seen.new.blocks.leaves
    c.args.id c.in_ok-n.ensures.cut

pub edit_seen-requires-clause-may : goal.edit_seen-requires-clause-may
edit_seen-requires-clause-may g c =
    let us = g.C.Content.units in
    let by = g.C.Content.by in
    let mid = c.cut_seen.new.blocks.leaves in
    let cut = c.in_ok-n.ensures.cut in
    cut_may us by c.args.view c.args.left c.in_ok-n.n c.args.blocks.now.leaves mid c.args.id c.first-first.ensures.once cut (MayEdit c.args.edit.now)
    (cut_value us by c.args.view c.args.left c.in_ok-n.n c.args.blocks.now.leaves mid c.args.id cut c.leaf.result.now c.len-len.result c.leaf.ensures c.len-len.ensures.value
    c.len-len.ensures.some)
    c.requires.may

pub returns-clause-list : goal.returns-clause-list
returns-clause-list g c = λ f acts.
    edits_first g.C.Content.units g.C.Content.by c.args.view (edited_leaf g.C.Content.stamped c.args.edit.now) c.args.left c.in_ok-n.n c.args.blocks.now.leaves
    c.cut_seen.new.blocks.leaves c.edit_seen.new.blocks.leaves c.args.id c.first-first.ensures.once c.requires.some c.in_ok-n.ensures.cut
    c.in_ok-edit_seen.ensures.leaves f acts

pub returns-clause-goes : goal.returns-clause-goes
returns-clause-goes g c =
    let us = g.C.Content.units in
    let by = g.C.Content.by in
    let mid = c.cut_seen.new.blocks.leaves in
    let cut = c.in_ok-n.ensures.cut in
    goes_behind us by c.args.view (edited_leaf g.C.Content.stamped c.args.edit.now) c.args.left c.in_ok-n.n c.args.blocks.now.leaves
    mid c.edit_seen.new.blocks.leaves c.args.id c.first-first.ensures.once c.requires.some cut c.in_ok-edit_seen.ensures.leaves
    (cut_value us by c.args.view c.args.left c.in_ok-n.n c.args.blocks.now.leaves mid c.args.id cut c.leaf.result.now c.len-len.result c.leaf.ensures c.len-len.ensures.value
    c.len-len.ensures.some)

pub returns-clause-refs : goal.returns-clause-refs
returns-clause-refs g c = λ r. c.in_ok-edit_seen.ensures.refs r ∙ c.in_ok-n.ensures.refs r
