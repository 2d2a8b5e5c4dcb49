use Rattle.std.proofs.Common.{drop}
use Rattle.ft_props.specs.Element.{Character}
use Rattle.ft_text.specs.Saved.{unit_segment}
use Rattle.ft_text.proofs.FrontSegments.{IsAhead}
use Rattle.ft_text.proofs.segments.Segments.add_characters.Given as goal

abbrev pub invariant-loop-c : goal.invariant-loop-c
invariant-loop-c l = IsAhead (λ c. unit_segment l.head (Character c)) l.text (drop l.c-index l.text) l.fn.self l.self
