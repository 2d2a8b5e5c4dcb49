use Rattle.std.proofs.Common.{◌∙◌}
use Rattle.ft_props.proofs.Utf8Order.{utf8-cmp}
use Rattle.ft_props.proofs.keys.compare.Goals as goal

pub returns : goal.returns
returns c = c.cmp.ensures ∙ utf8-cmp c.args.a.now c.args.b.now c.utf8.a c.utf8.b
