use Rattle.std.proofs.Common.{arith, sym}
use Rattle.ft_props.specs.Element.{has_id, seen}
use Rattle.ft_plain_lists.proofs.NotedAnswers.{rank-at-most-length}
use Rattle.ft_plain_lists.proofs.interval_views.noted_rank.Goals as goal

pub returns-in-Some-clause-rank : goal.returns-in-Some-clause-rank
returns-in-Some-clause-rank c = c.requires.right c.args.name c.in-Some.rank (sym c.in-Some.ensures)

pub returns-in-Some-clause-inside : goal.returns-in-Some-clause-inside
returns-in-Some-clause-inside c =
    let same = c.requires.right c.args.name c.in-Some.rank (sym c.in-Some.ensures) in
    let most = rank-at-most-length (has_id c.args.name) (seen c.args.stage) c.args.items.now in
    omega arith
