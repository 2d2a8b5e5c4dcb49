use Rattle.std.proofs.Common.{ap, ◌∙◌, subst, w64}
use Rattle.std.specs.Str.Parse.{ParsesSigned}
use Rattle.ft_json.specs.Canonical.{value_of}
use Rattle.ft_json.proofs.WholeTexts.{integer, parsed_text}
use Rattle.ft_json.proofs.values.ValText.integer.Goals as goal

pub returns : goal.returns
returns c =
    let text = c.self.inside.text in
    let parses = subst (λ t. ParsesSigned w64 10 t c.parse.result) c.as_str.ensures c.parse.ensures.value.0 in
    c.ok.ensures.value ∙ parsed_text text c.parse.result c.self.invariant parses ∙ ap (λ t. integer (value_of t)) c.self.view_is
