use Rattle.std.proofs.Common.{cond, option_map, ◌∙◌, ap}
use Rattle.ft_tree_leaves.specs.References.{reference_at}
use Rattle.ft_interval_store.specs.Ends.{is_reference}
use Rattle.ft_interval_store.specs.State.{text_elements}
use Rattle.ft_interval_store.proofs.BothEnds.{both-changed, second-live}
use Rattle.ft_interval_store.proofs.HandedOn.{settled_reference}
use Rattle.ft_interval_store.proofs.ends.settle_ends.Goals as goal

pub settle_end-requires-2-clause-live : goal.settle_end-requires-2-clause-live
settle_end-requires-2-clause-live c =
    second-live c.args.tree.now.refs c.settle_end.new.tree.refs c.args.ends.start c.args.ends.end (option_map (settled_reference (text_elements c.args.tree.now)))
    c.requires.once c.settle_end.ensures.refs c.requires.live.1

pub returns-clause-refs : goal.returns-clause-refs
returns-clause-refs c = λ r.
    let mid = reference_at c.settle_end.new.tree.refs r in
    both-changed (option_map (settled_reference (text_elements c.args.tree.now))) (reference_at c.args.tree.now.refs r) mid
    (reference_at c.settle_end-2.new.tree.refs r) (is_reference r c.args.ends.start) (is_reference r c.args.ends.end)
    (c.requires.once r) (c.settle_end.ensures.refs r)
    (c.settle_end-2.ensures.refs r
    ∙ ap (λ xs. cond (is_reference r c.args.ends.end) (option_map (settled_reference xs) mid) mid) (ap text_elements c.settle_end.ensures.rest))
