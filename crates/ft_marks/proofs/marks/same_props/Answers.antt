use Rattle.std.proofs.lemmas.Bool.Decides.{same_from_decides}
use Rattle.ft_sumdoc.specs.WellFormed.{same_props}
use Rattle.ft_marks.proofs.SameStamps.{same_props-Decides}
use Rattle.ft_marks.proofs.marks.same_props.Goals as goal

pub returns : goal.returns
returns c =
    same_from_decides c.same.result (same_props c.args.a.now c.args.b.now) c.same.ensures (same_props-Decides c.args.a.now c.args.b.now)
