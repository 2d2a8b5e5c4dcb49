use Rattle.std.proofs.Common.{sym, ◌∙◌}
use Rattle.ft_text.proofs.LeafParts.{none-marked}
use Rattle.ft_text.proofs.shown.push_marker.Goals as goal

pub returns-in_default : goal.returns-in_default
returns-in_default c = none-marked c.args.content.now.piece c.args.pos c.args.markers.now (sym c.ref_type.ensures ∙ c.in_default.is)
