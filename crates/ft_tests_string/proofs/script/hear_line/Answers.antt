use Rattle.ft_tests_string.proofs.script.hear_line.Goals as goal

pub returns : goal.returns
returns c = c.hear-is_made.ensures c.args.progress.now.stage c.requires

pub hear-is_made-requires-clause-usable : goal.hear-is_made-requires-clause-usable
hear-is_made-requires-clause-usable c = c.requires.sound.tree

pub hear-is_made-requires-clause-stands : goal.hear-is_made-requires-clause-stands
hear-is_made-requires-clause-stands c = c.requires.stands
