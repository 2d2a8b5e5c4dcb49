use Rattle.std.proofs.Common.{◌≡◌, ◌+◌, rules}
use Rattle.ft_tests_string.proofs.SharingLaws.{passed}
use Rattle.ft_tests_string.proofs.sharing.pass_shared.Goals as goal

pub returns : goal.returns
returns c =
    let e : c.args.seq ≡ c.args.place.now.number + 1 = search rules in
    passed c.args.text.now c.args.place.now.number c.args.place.now.next c.args.seq c.args.spans.now.items e c.requires
