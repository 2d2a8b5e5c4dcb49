use Rattle.std.proofs.Common.{rules}
use Rattle.vemiktag_c.proofs.opened.Goals as goal

pub returns-in-Ok : goal.returns-in-Ok
returns-in-Ok c = record {
  opened = λ _. (c.in-Ok.run'.value, c.open.ensures, c.in-Ok.ensures);
  none = λ is. absurd (cc);
  known = search rules;
}
