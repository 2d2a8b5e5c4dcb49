use Rattle.std.proofs.Common.{sym, ◌∙◌}
use Rattle.ft_tree_leaves.proofs.LeafRuns.{leaf_seen, leaf_unseen}
use Rattle.ft_tree_leaves.proofs.leaves.TreeLeaf.seen_len.Goals as goal

pub returns-then-is_seen_in-clause-seen : goal.returns-then-is_seen_in-clause-seen
returns-then-is_seen_in-clause-seen g c = c.len.ensures.value
    ∙ sym (leaf_seen g.C.Content.units g.C.Content.by c.args.view c.args.self.now (sym c.is_seen_in.ensures ∙ c.if-is_seen_in.true))

pub returns-else-is_seen_in-clause-seen : goal.returns-else-is_seen_in-clause-seen
returns-else-is_seen_in-clause-seen g c =
    sym (leaf_unseen g.C.Content.units g.C.Content.by c.args.view c.args.self.now (sym c.is_seen_in.ensures ∙ c.if-is_seen_in.false))
