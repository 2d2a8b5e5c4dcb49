use Rattle.std.proofs.Common.{◌∙◌, ap, sym, length}
use Rattle.ft_op.specs.Operation.{segment_contents}
use Rattle.ft_props.specs.Element.{Character}
use Rattle.ft_named.proofs.ListSteps.{mapped-length}
use Rattle.ft_text.proofs.lengths.segment_len.Goals as goal

pub returns-in-Chars : goal.returns-in-Chars
returns-in-Chars c =
    c.char_count.ensures ∙ ap length c.as_str.ensures.characters ∙ sym (mapped-length Character c.in-Chars.text)
    ∙ ap (λ s. length (segment_contents s)) (sym c.in-Chars.is)
