use Rattle.std.proofs.Common.{None, Option}
use Rattle.ft_tree_leaves.specs.declared.references.Reference.{Reference}
use Rattle.ft_tree_leaves.specs.References.{reference_at}
use Rattle.ft_interval_store.specs.Ends.{is_reference}
use Rattle.ft_interval_store.proofs.BothEnds.{both-changed, second-live}
use Rattle.ft_interval_store.proofs.ends.drop_ends.Goals as goal

pub drop_end-requires-2-clause-live : goal.drop_end-requires-2-clause-live
drop_end-requires-2-clause-live c =
    second-live c.args.tree.now.refs c.drop_end.new.tree.refs c.args.ends.start c.args.ends.end (λ (o : Option Reference). None)
    c.requires.once c.drop_end.ensures.refs c.requires.live.1

pub returns-clause-refs : goal.returns-clause-refs
returns-clause-refs c = λ r.
    both-changed (λ (o : Option Reference). None) (reference_at c.args.tree.now.refs r) (reference_at c.drop_end.new.tree.refs r)
    (reference_at c.drop_end-2.new.tree.refs r) (is_reference r c.args.ends.start) (is_reference r c.args.ends.end)
    (c.requires.once r) (c.drop_end.ensures.refs r) (c.drop_end-2.ensures.refs r)
