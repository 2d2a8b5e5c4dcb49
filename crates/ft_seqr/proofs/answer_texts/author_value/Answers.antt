use Rattle.std.proofs.Common.{◌∙◌}
use Rattle.serde_json.proofs.Views.{view-Object}
use Rattle.ft_seqr.proofs.answer_texts.author_value.Goals as goal

pub returns-clause-value : goal.returns-clause-value
returns-clause-value c = view-Object c.put_author.new.members ∙ c.in_ok-put_author.ensures.value

pub returns-clause-canonical : goal.returns-clause-canonical
returns-clause-canonical c = c.in_ok-put_author.ensures.canonical
