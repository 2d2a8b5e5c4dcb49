use Rattle.std.proofs.Common.{sym}
use Rattle.ft_plain_lists.proofs.cells.trimming.is_gone.Goals as goal

pub returns-in-Some : goal.returns-in-Some
returns-in-Some c = c.requires.right c.args.name c.in-Some.is_gone (sym c.in-Some.ensures)
