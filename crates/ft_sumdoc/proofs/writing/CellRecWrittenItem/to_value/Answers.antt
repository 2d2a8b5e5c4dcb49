use Rattle.std.proofs.Common.{◌∙◌}
use Rattle.serde_json.proofs.Views.{view-Array}
use Rattle.ft_sumdoc.proofs.writing.CellRecWrittenItem.to_value.Goals as goal

pub returns-clause-value : goal.returns-clause-value
returns-clause-value c = view-Array c.push_cell.new.items ∙ c.in_ok-push_cell.ensures
