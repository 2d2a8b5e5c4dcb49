use Rattle.std.proofs.Common.{◌∙◌}
use Rattle.serde_json.proofs.Views.{view-Object}
use Rattle.ft_sumdoc.proofs.writing.SegRecWrittenItem.to_value.Goals as goal

pub returns-clause-value : goal.returns-clause-value
returns-clause-value c = view-Object c.put_segment.new.members ∙ c.in_ok-put_segment.ensures.value
