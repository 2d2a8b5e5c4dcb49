use Rattle.ft_change_lines.proofs.ShownFromNothing.{from-nothing-leads}
use Rattle.ft_change_lines.proofs.laws.from_nothing.Goals as goal

pub returns : goal.returns
returns c = record { leads = from-nothing-leads }
