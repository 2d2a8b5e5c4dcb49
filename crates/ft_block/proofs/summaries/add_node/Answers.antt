use Rattle.std.proofs.Common.{subst, sym}
use Rattle.std.proofs.lemmas.Result.{on_ok_weaker}
use Rattle.ft_arena.specs.declared.nodes.Node.{Node}
use Rattle.ft_shape.specs.declared.headed.Headed.{Headed}
use Rattle.ft_block.specs.Tree.{KeepsNode}
use Rattle.ft_block.specs.declared.summaries.Summary.{Summary}
use Rattle.ft_block.proofs.KeptLemmas.{exchange_adds, on_ok_both}
use Rattle.ft_block.proofs.SettledLemmas.{for_all_adds}
use Rattle.ft_block.proofs.summaries.add_node.Goals as goal

pub returns-then-is_for_all-clause-sum : goal.returns-then-is_for_all-clause-sum
returns-then-is_for_all-clause-sum g c =
    subst (λ (n : Node g.row.L.Denot (Headed Summary)). KeepsNode g.L.Leaf.size g.L.Leaf.element c.args.floor c.args.sum.now n c.add_for_all.new.self) (sym c.in-Leaf.is)
    (for_all_adds g.L.Leaf.size g.L.Leaf.element c.args.floor c.args.sum.now c.add_for_all.new.self c.in-Leaf.value c.element-e.result.now c.len-len.result
    c.element-e.ensures c.len-len.ensures.value c.add_for_all.ensures.low (c.is_for_all.ensures.seen c.if-is_for_all.true) c.add_for_all.ensures.keeps)

pub returns-else-is_for_all-clause-sum : goal.returns-else-is_for_all-clause-sum
returns-else-is_for_all-clause-sum g c =
    on_ok_weaker c.add_elements.result (λ both. subst (λ (n : Node g.row.L.Denot (Headed Summary)). KeepsNode g.L.Leaf.size g.L.Leaf.element c.args.floor c.args.sum.now n
    c.add_elements.new.self) (sym c.in-Leaf.is) (exchange_adds g.L.Leaf.size g.L.Leaf.element c.args.floor c.args.sum.now c.add_elements.new.self c.in-Leaf.value
    c.element-e.result.now c.len-len.result c.element-e.ensures c.len-len.ensures.value both.0 both.1))
    (on_ok_both _ _ c.add_elements.result c.add_elements.ensures.low c.add_elements.ensures.exchanges)
