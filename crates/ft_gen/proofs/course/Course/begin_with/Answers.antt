use Rattle.std.proofs.Common.{◌++◌, ap, sym, subst}
use Rattle.ft_gen.specs.Rounds.{clients, loss}
use Rattle.ft_gen.specs.Course.{HasToCome, turns_on}
use Rattle.ft_gen.proofs.RoundSteps.{begun-sound}
use Rattle.ft_gen.proofs.course.Course.begin_with.Goals as goal

pub next_turn-requires-clause-numbers : goal.next_turn-requires-clause-numbers
next_turn-requires-clause-numbers c = begun-sound c.args.self.round c.args.roles c.args.self.progress c.requires.numbers c.requires.left

pub returns-in-Some : goal.returns-in-Some
returns-in-Some c =
    let course = c.args.self in
    let p = course.progress in
    let remover = c.args.roles.remover in
    subst (HasToCome _) (sym c.at.ensures) (record {
      told = ap (λ d. loss d ++ turns_on course.clients course.round (record { dropped = d; remover = remover }) p.length (clients course.clients) p) c.in-Some.is;
      sound = record { first = c.requires.first; few = c.requires.few; place = (c.requires.numbers, c.requires.left) };
    })
