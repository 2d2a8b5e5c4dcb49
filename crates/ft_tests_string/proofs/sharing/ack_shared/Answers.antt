use Rattle.std.proofs.Common.{◌≡◌, ◌+◌, List, subst, arith, rules}
use Rattle.ft_tests_string.specs.declared.sharing.Span.{Span}
use Rattle.ft_tests_string.specs.Sharing.{Plays}
use Rattle.ft_tests_string.proofs.SharingLaws.{acked-shared, oldest-of, span-ends}
use Rattle.ft_tests_string.proofs.sharing.ack_shared.Goals as goal

pub ack-requires-clause-stages : goal.ack-requires-clause-stages
ack-requires-clause-stages c =
    let next = c.args.place.now.next in
    let fits = c.requires.fits in
    let h = subst (λ (qs : List Span). Plays c.args.text.now c.args.place.now.number next qs) c.in-Some.ensures.items c.requires in
    let l = span-ends c.args.text.now c.args.place.now.number next c.in-Some.span c.pop_front.new.self.items h in
    omega (arith, l, fits)

pub ack-requires-clause-held : goal.ack-requires-clause-held
ack-requires-clause-held c =
    let next = c.args.place.now.next in
    let fits = c.requires.fits in
    let h = subst (λ (qs : List Span). Plays c.args.text.now c.args.place.now.number next qs) c.in-Some.ensures.items c.requires in
    oldest-of c.args.text.now c.args.place.now.number next c.in-Some.span c.pop_front.new.self.items h fits

pub returns-in_ok-ack-in-Some : goal.returns-in_ok-ack-in-Some
returns-in_ok-ack-in-Some c =
    let number = c.args.place.now.number in
    let next = c.args.place.now.next in
    let fits = c.requires.fits in
    let e : c.args.seq ≡ number + 1 = search rules in
    let h = subst (λ (qs : List Span). Plays c.args.text.now number next qs) c.in-Some.ensures.items c.requires in
    acked-shared c.args.text.now c.ack.new.self number next c.args.seq c.in-Some.span c.pop_front.new.self.items e fits h
    (λ last doc mine rest o s held. c.in_ok-ack-in-Some.ensures.acked last doc mine rest o s held) c.in_ok-ack-in-Some.ensures.rest
