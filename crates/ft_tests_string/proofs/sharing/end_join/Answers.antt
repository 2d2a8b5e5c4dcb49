use Rattle.ft_tests_string.specs.Sharing.{stages_in}
use Rattle.ft_tests_string.proofs.SharingLaws.{all-given, given-holds, given-sound, joined}
use Rattle.ft_tests_string.proofs.sharing.end_join.Goals as goal

pub normalise-requires-clause-held : goal.normalise-requires-clause-held
normalise-requires-clause-held c =
    let next = c.args.place.now.next in
    let fits = c.requires.1.fits in
    all-given c.args.text.now c.args.place.now.number next c.requires.0 c.args.kept.now.items c.requires.1 fits

pub returns : goal.returns
returns c =
    let h = c.requires.1 in
    let next = c.args.place.now.next in
    let fits = c.requires.1.fits in
    let kept = c.args.kept.now.items in
    let e = c.in_ok-normalise.ensures in
    joined c.args.text.now c.normalise.new.self c.args.place.now.number next c.requires.0 kept h fits
    (e.holds h.last h.doc (stages_in h.front) (given-sound c.args.text.now c.args.place.now.number next c.requires.0 kept h fits)
    (given-holds c.args.text.now c.args.place.now.number next c.requires.0 kept h)) e.given e.floor e.usable
