use Rattle.std.proofs.Common.{subst, sym}
use Rattle.ft_replica.specs.Own.{AreFew, counted_list}
use Rattle.ft_client.specs.Holds.{tree_content}
use Rattle.ft_client.proofs.FewReads.{grid-few, none-few}
use Rattle.ft_client.proofs.own.TreeOwn.edit_heard.Goals as goal

pub returns-in_default-clause-reads : goal.returns-in_default-clause-reads
returns-in_default-clause-reads g c = none-few (counted_list c.args.op.now (tree_content c.args.self.now)) c.args.steps.now

pub returns-in-Grid-clause-reads : goal.returns-in-Grid-clause-reads
returns-in-Grid-clause-reads g c =
    subst (λ op. AreFew (counted_list op (tree_content c.args.self.now)) c.args.steps.now c.edit_table.new.steps) (sym c.in-Grid.is)
    (grid-few c.args.self.now c.in-Grid.op c.args.steps.now c.edit_table.new.steps c.edit_table.ensures.reads c.edit_table.ensures.depth)
