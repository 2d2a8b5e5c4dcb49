use Rattle.std.proofs.Common.{◌∙◌}
use Rattle.serde_json.proofs.Views.{view-Array}
use Rattle.ft_sumdoc.proofs.writing.IntervalRecWrittenItem.to_value.Goals as goal

pub returns-clause-value : goal.returns-clause-value
returns-clause-value c = view-Array c.push_interval.new.items ∙ c.in_ok-push_interval.ensures.value
