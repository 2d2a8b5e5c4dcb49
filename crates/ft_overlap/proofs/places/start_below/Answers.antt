use Rattle.ft_overlap.proofs.Descent.{starts_below}
use Rattle.ft_overlap.proofs.Last.{start_of}
use Rattle.ft_overlap.proofs.places.start_below.Goals as goal

pub returns : goal.returns
returns g c =
    starts_below c.args.arena.now c.args._root c.requires.tree c.requires.spans c.args.node c.requires.live c.span_of.result.start
    (start_of c.args.arena.now c.args.node _ c.span_of.result.start c.read.ensures.node c.span_of.ensures.start)
