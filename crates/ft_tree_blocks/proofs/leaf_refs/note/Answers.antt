use Rattle.std.proofs.Common.{is_some, ap, sym, ◌∙◌}
use Rattle.ft_tree_blocks.proofs.NotedLeaves.{none_of, notes_none, notes_pushed}
use Rattle.ft_tree_blocks.proofs.leaf_refs.note.Goals as goal

pub returns-in_ok-push : goal.returns-in_ok-push
returns-in_ok-push c = notes_pushed c.args.anchors.now c.args.id c.args.unsettled.now.items c.push.new.self.items
    (ap is_some (sym c.first.ensures.value) ∙ sym c.is_some.ensures ∙ c.if-is_some.true) c.in_ok-push.ensures.items

pub returns-else-is_some : goal.returns-else-is_some
returns-else-is_some c =
    notes_none c.args.anchors.now c.args.id c.args.unsettled.now.items c.first.ensures.sound
    (sym c.first.ensures.value ∙ none_of c.first.result (sym c.is_some.ensures ∙ c.if-is_some.false))
