use Rattle.std.proofs.Common.{refl}
use Rattle.serde_json.specs.Data.{null}
use Rattle.ft_shown.proofs.shown.Shown.clear_cell.Goals as goal

pub new-requires : goal.new-requires
new-requires c = (null, tt, refl)
