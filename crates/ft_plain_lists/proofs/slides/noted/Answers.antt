use Rattle.std.proofs.Common.{sym}
use Rattle.ft_plain_lists.proofs.slides.noted.Goals as goal

pub returns-in-Some : goal.returns-in-Some
returns-in-Some g c = c.requires.right c.args.name c.in-Some.to (sym c.in-Some.ensures)
