use Rattle.std.proofs.Common.{Ok, ℕ}
use Rattle.std.proofs.lemmas.Iterator.{YieldsList-from_chars, items_from_collect}
use Rattle.ft_text.proofs.contents.characters.Goals as goal

pub returns : goal.returns
returns c = items_from_collect {E = ℕ} (Ok c.in_ok-characters.characters) c.in_ok-characters.ensures.ran (YieldsList-from_chars c.args.text.now c.utf8.text cc)
