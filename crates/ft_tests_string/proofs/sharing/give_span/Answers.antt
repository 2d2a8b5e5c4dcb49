use Rattle.std.proofs.Common.{◌+◌, ◌++◌, List, Option, append-nil, arith, subst, sym}
use Rattle.ft_op.specs.declared.operations.TextOp.{TextOp}
use Rattle.ft_tests_string.specs.declared.sharing.Span.{Span}
use Rattle.ft_tests_string.specs.Sharing.{Rejoins, span_of}
use Rattle.ft_tests_string.proofs.SharingLaws.{gave, next-of, next-order, on-ok}
use Rattle.ft_tests_string.proofs.sharing.give_span.Goals as goal

pub reconnect-requires-clause-stages : goal.reconnect-requires-clause-stages
reconnect-requires-clause-stages c =
    let next = c.args.place.now.next in
    let fits = c.requires.1.fits in
    let l = (next-order c.args.text.now c.args.place.now.number next c.requires.0 c.args.kept.now.items c.args.span c.args.spans.now.items c.requires.1).1 in
    omega (arith, l, fits)

pub reconnect-requires-clause-order : goal.reconnect-requires-clause-order
reconnect-requires-clause-order c =
    (next-order c.args.text.now c.args.place.now.number c.args.place.now.next c.requires.0 c.args.kept.now.items c.args.span c.args.spans.now.items c.requires.1).0

pub reconnect-requires-clause-usable : goal.reconnect-requires-clause-usable
reconnect-requires-clause-usable c = c.requires.1.usable

pub reconnect-requires-clause-held : goal.reconnect-requires-clause-held
reconnect-requires-clause-held c =
    let next = c.args.place.now.next in
    let fits = c.requires.1.fits in
    next-of c.args.text.now c.args.place.now.number next c.requires.0 c.args.kept.now.items c.args.span c.args.spans.now.items c.requires.1 fits

pub returns-in_ok-push_behind-in-Some : goal.returns-in_ok-push_behind-in-Some
returns-in_ok-push_behind-in-Some c =
    let number = c.args.place.now.number in
    let next = c.args.place.now.next in
    let fits = c.requires.1.fits in
    let end = c.args.span.first + c.args.span.count in
    let e = c.in_ok-op.ensures in
    let kept = c.args.kept.now.items in
    let g = gave c.args.text.now c.reconnect.new.self number next c.requires.0 kept c.args.span c.args.spans.now.items c.in_ok-op.field-0 fits c.requires.1
    e.op e.holds e.given e.floor e.usable in
    on-ok c.push_op.result (Rejoins c.reconnect.new.self number next end c.push_behind.new.items.items c.args.spans.now.items)
    (subst (λ (qs : List Span). Rejoins c.reconnect.new.self number next end qs c.args.spans.now.items) (sym c.in_ok-push_behind-in-Some.ensures.items)
    (subst (λ (o : Option TextOp). Rejoins c.reconnect.new.self number next end (kept ++ span_of c.args.span o) c.args.spans.now.items) c.in-Some.is g))

pub returns-in-None : goal.returns-in-None
returns-in-None c =
    let number = c.args.place.now.number in
    let next = c.args.place.now.next in
    let fits = c.requires.1.fits in
    let end = c.args.span.first + c.args.span.count in
    let e = c.in_ok-op.ensures in
    let kept = c.args.kept.now.items in
    let g = gave c.args.text.now c.reconnect.new.self number next c.requires.0 kept c.args.span c.args.spans.now.items c.in_ok-op.field-0 fits c.requires.1
    e.op e.holds e.given e.floor e.usable in
    subst (λ (qs : List Span). Rejoins c.reconnect.new.self number next end qs c.args.spans.now.items) (append-nil kept)
    (subst (λ (o : Option TextOp). Rejoins c.reconnect.new.self number next end (kept ++ span_of c.args.span o) c.args.spans.now.items) c.in-None.is g)
