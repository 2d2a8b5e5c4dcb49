use Rattle.std.proofs.Common.{◌≡◌, ◌≢◌, ◌≤◌, ◌+◌, rules}
use Rattle.ft_tests_string.specs.Sharing.{stages_in}
use Rattle.ft_tests_string.proofs.SharingLaws.{heard-shared, sound-of}
use Rattle.ft_tests_string.proofs.sharing.hear_shared.Goals as goal

pub returns : goal.returns
returns g c =
    let h = c.requires.plays in
    let number = c.args.place.now.number in
    let next = c.args.place.now.next in
    let fits = c.requires.plays.fits in
    let e : c.args.seq ≡ number + 1 = search rules in
    let seen : c.args.at.r ≤ number = search rules in
    let other : c.args.at.c ≢ 1 = search rules in
    heard-shared c.args.text.now c.apply.new.self number next c.args.seq c.args.at.r c.args.at.c c.in_ok-apply.field-0 c.args.spans.now.items c.args.op.now
    e seen other h (c.in_ok-apply.ensures.applied h.last h.doc (stages_in h.pending) (sound-of c.args.text.now number next c.args.spans.now.items h fits) h.holds)
    c.in_ok-apply.ensures.rest
