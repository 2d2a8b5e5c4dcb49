use Rattle.std.proofs.Common.{refl}
use Rattle.std.proofs.lemmas.Str.{chars-nil}
use Rattle.ft_text.proofs.shown.Shown.new.Goals as goal

pub returns-clause-text : goal.returns-clause-text
returns-clause-text c = rw c.new.ensures.bytes (rw chars-nil refl)
