use Rattle.std.proofs.Common.{◌∙◌}
use Rattle.serde_json.proofs.Views.{view-Object}
use Rattle.ft_op.proofs.writing.written_interval.Goals as goal

pub returns-clause-value : goal.returns-clause-value
returns-clause-value c = view-Object c.put_interval.new.members ∙ c.in_ok-put_interval.ensures.0

pub returns-clause-label : goal.returns-clause-label
returns-clause-label c = c.in_ok-put_interval.ensures.1

pub returns-clause-id : goal.returns-clause-id
returns-clause-id c = c.in_ok-put_interval.ensures.2

pub returns-clause-keyed : goal.returns-clause-keyed
returns-clause-keyed c = c.in_ok-put_interval.ensures.3
