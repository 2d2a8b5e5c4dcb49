use Rattle.std.proofs.Common.{length}
use Rattle.ft_block.specs.Leaves.{value_at}
use Rattle.ft_text.proofs.ShownElements.{origins-fit}
use Rattle.ft_text.proofs.shown.add_origin.Goals as goal

pub push-requires-clause-few : goal.push-requires-clause-few
push-requires-clause-few c =
    origins-fit (value_at c.args.tree.now.leaves c.args.leaf) c.leaf_len.result (length c.args.origins.now) c.if-not-is_seen.ensures c.leaf_len.ensures.value c.requires.few
