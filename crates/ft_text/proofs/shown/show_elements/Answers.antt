use Rattle.std.proofs.Common.{◌∙◌, refl}
use Rattle.ft_text.proofs.shown.show_elements.Goals as goal

pub returns-clause-text : goal.returns-clause-text
returns-clause-text c = c.assign.ensures ∙ c.from_string.ensures ∙ c.in_ok-shown.ensures.text

pub returns-clause-markers : goal.returns-clause-markers
returns-clause-markers c = c.assign-2.ensures ∙ c.in_ok-shown.ensures.markers

pub returns-clause-runs : goal.returns-clause-runs
returns-clause-runs c = c.assign-3.ensures ∙ c.of.ensures ∙ c.in_ok-shown.ensures.runs

pub returns-clause-others : goal.returns-clause-others
returns-clause-others c = record { numbers = refl; rows = refl; cols = refl; cells = refl }
