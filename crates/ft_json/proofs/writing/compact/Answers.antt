use Rattle.std.proofs.Common.{◌∙◌}
use Rattle.serde_json.specs.View.{view}
use Rattle.ft_json.proofs.CompactTexts.{has_float-IsCanonical}
use Rattle.ft_json.proofs.writing.compact.Goals as goal

pub from_compact-requires : goal.from_compact-requires
from_compact-requires c =
    let d = view c.args.value.now in
    (d, c.requires, c.in_ok-to_string.ensures.text (has_float-IsCanonical d c.requires))

pub returns : goal.returns
returns c = c.from_compact.ensures ∙ c.in_ok-to_string.ensures.text (has_float-IsCanonical (view c.args.value.now) c.requires)
