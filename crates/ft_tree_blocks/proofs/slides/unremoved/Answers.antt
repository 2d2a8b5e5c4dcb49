use Rattle.std.proofs.Common.{sym, ◌∙◌}
use Rattle.ft_tree_blocks.proofs.UnremovedLeaves.{stage_zero}
use Rattle.ft_tree_blocks.proofs.slides.unremoved.Goals as goal

pub returns : goal.returns
returns g c = stage_zero c.args._blocks.now.leaves c.args.touched.now.items c.requires (sym c.is_at.ensures ∙ c.if-is_at.false)
