use Rattle.std.proofs.Common.{◌∙◌}
use Rattle.serde_json.proofs.Views.{view-Object}
use Rattle.ft_sumdoc.proofs.writing.RunRecWrittenItem.to_value.Goals as goal

pub returns-clause-value : goal.returns-clause-value
returns-clause-value c = view-Object c.put_run.new.members ∙ c.in_ok-put_run.ensures
