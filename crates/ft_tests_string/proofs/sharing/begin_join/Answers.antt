use Rattle.std.proofs.Common.{◌≡◌, ◌+◌, rules}
use Rattle.ft_tests_string.proofs.SharingLaws.{joining}
use Rattle.ft_tests_string.proofs.sharing.begin_join.Goals as goal

pub returns-clause-joins : goal.returns-clause-joins
returns-clause-joins c t =
    let e : c.args.seq ≡ c.args.place.now.number + 1 = search rules in
    joining c.args.text.now c.args.place.now.number c.args.place.now.next c.args.seq c.args.spans.now.items e c.requires
