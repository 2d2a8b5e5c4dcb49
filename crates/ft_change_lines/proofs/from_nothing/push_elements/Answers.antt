use Rattle.ft_change_lines.proofs.from_nothing.push_elements.Goals as goal

pub range_from-rest-requires : goal.range_from-rest-requires
range_from-rest-requires c = λ some. c.byte_place-end.ensures.boundary
