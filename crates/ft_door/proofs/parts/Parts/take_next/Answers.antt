use Rattle.std.proofs.Common.{Option, refl, subst, ℕ}
use Rattle.std.specs.Prelude.{IfNone, IsTrue}
use Rattle.ft_door.specs.Editors.{IsEditor, NaiveEditor, next_exceeds}
use Rattle.ft_door.proofs.parts.Parts.take_next.Goals as goal

pub returns-in-None : goal.returns-in-None
returns-in-None g c = (
  refl,
  subst (λ (found : Option ℕ). IfNone found ((x : NaiveEditor) → IsEditor c.args.self.now x → IsTrue (next_exceeds x c.args.entry.now.msg.body))) c.in-None.is
      c.in_ok-found.ensures.full,
)
