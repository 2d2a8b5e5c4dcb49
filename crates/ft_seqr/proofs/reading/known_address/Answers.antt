-- The words are characters; the code compares their bytes, which is the same.
use Rattle.std.proofs.Common.{ap}
use Rattle.std.specs.Str.{chars}
use lib.Utf8.{encode}
use Rattle.ft_seqr.specs.EventGrammar.{is_known_address}
use Rattle.ft_seqr.proofs.EventWords.{unknown_address}
use Rattle.ft_seqr.proofs.reading.known_address.Goals as goal

pub returns-in-text-clause-ok : goal.returns-in-text-clause-ok
unfolding chars encode
returns-in-text-clause-ok c = ap (λ word. is_known_address (chars word)) c.in-text.is

pub returns-in-grid-clause-ok : goal.returns-in-grid-clause-ok
unfolding chars encode
returns-in-grid-clause-ok c = ap (λ word. is_known_address (chars word)) c.in-grid.is

pub returns-in_default-clause-err : goal.returns-in_default-clause-err
returns-in_default-clause-err c = unknown_address c.args.word.now c.utf8.word c.in_default.not-text c.in_default.not-grid
