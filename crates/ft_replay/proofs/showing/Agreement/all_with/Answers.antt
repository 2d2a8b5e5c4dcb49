use Rattle.std.proofs.Common.{◌≡◌, IfOk, Option, refl, subst, sym}
use Rattle.ft_msg.specs.declared.views.View.{View}
use Rattle.ft_replay.specs.Playing.{agrees_with}
use Rattle.ft_replay.proofs.showing.Agreement.all_with.Goals as goal

pub returns-in-None : goal.returns-in-None
returns-in-None c = subst (λ (first : Option View). c.args.self.now.all ≡ agrees_with (record c.args.self.now { first = first }) c.args.view.now) (sym c.in-None.is) refl

pub returns-in-Some : goal.returns-in-Some
returns-in-Some c =
    subst (λ (first : Option View). IfOk c.all_same.result (λ all. all ≡ agrees_with (record c.args.self.now { first = first }) c.args.view.now)) (sym c.in-Some.is) c.all_same.ensures
