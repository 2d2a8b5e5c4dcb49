use Rattle.std.proofs.Common.{◌++◌, ap, sym, ◌∙◌, arith}
use Rattle.ft_gen.specs.Rounds.{clients, loss, with_roles}
use Rattle.ft_gen.specs.Course.{turns_on}
use Rattle.ft_gen.proofs.RoundSteps.{rounds-begin}
use Rattle.ft_gen.proofs.course.Course.begin_round.Goals as goal

pub returns : goal.returns
returns c =
    let course = c.args.self in
    let p = course.progress in
    let roles = c.roles-roles.result in
    let begun = rounds-begin course.clients course.round p c.requires.first (omega arith) in
    let by_roles = ap (λ r. loss r.dropped ++ turns_on course.clients course.round r p.length (clients course.clients) (with_roles course.round p)) (sym c.roles-roles.ensures.roles) in
    let by_progress = ap (λ q. loss roles.dropped ++ turns_on course.clients course.round roles q.length (clients course.clients) q) (sym c.roles-roles.ensures.progress) in
    record { told = begun ∙ (by_roles ∙ (by_progress ∙ c.begin_with.ensures.told)); sound = c.begin_with.ensures.sound }
