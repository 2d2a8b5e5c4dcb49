use Rattle.std.proofs.Common.{refl, ap, set}
use Rattle.ft_partial.proofs.EntryLemmas.{adds_at}
use Rattle.ft_partial.proofs.entries.add_at.Goals as goal

pub returns-clause-adds : goal.returns-clause-adds
returns-clause-adds c =
    adds_at c.args.entries.now.items _ c.args.j c.args.x c.index.result.now _ c.requires.rising c.requires.inside c.requires.alike c.index.ensures refl
    (ap (λ y. set c.args.entries.now.items c.args.j y) c.sum_of-sum.ensures)
