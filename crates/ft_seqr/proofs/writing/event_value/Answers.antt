use Rattle.std.proofs.Common.{◌∙◌}
use Rattle.serde_json.proofs.Views.{view-Object}
use Rattle.ft_seqr.proofs.writing.event_value.Goals as goal

pub returns-clause-value : goal.returns-clause-value
returns-clause-value c = view-Object c.put_event.new.members ∙ c.in_ok-put_event.ensures.value
