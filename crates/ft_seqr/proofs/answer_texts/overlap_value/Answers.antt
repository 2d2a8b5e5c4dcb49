use Rattle.std.proofs.Common.{◌∙◌}
use Rattle.serde_json.proofs.Views.{view-Array}
use Rattle.ft_seqr.proofs.answer_texts.overlap_value.Goals as goal

pub returns-clause-value : goal.returns-clause-value
returns-clause-value c = view-Array c.push_overlap.new.items ∙ c.in_ok-push_overlap.ensures.value

pub returns-clause-canonical : goal.returns-clause-canonical
returns-clause-canonical c = c.in_ok-push_overlap.ensures.canonical
