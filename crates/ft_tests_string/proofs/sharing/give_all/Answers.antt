use Rattle.std.proofs.Common.{◌≡◌, ◌+◌, List, [], subst, rules}
use Rattle.ft_tests_string.specs.declared.sharing.Span.{Span}
use Rattle.ft_tests_string.specs.Sharing.{Rejoins}
use Rattle.ft_tests_string.proofs.sharing.give_all.Goals as goal

pub loop-span-init : goal.loop-span-init
loop-span-init c = c.requires

pub give_span-requires : goal.give_span-requires
give_span-requires c =
    let place = c.args.place.now in (
      c.loop-span.invariant.0,
      subst (λ (qs : List Span). Rejoins c.loop-span.text place.number place.next c.loop-span.invariant.0 c.loop-span.kept.items qs)
          c.in-Some.ensures.items c.loop-span.invariant.1,
    )

pub loop-span-preserved : goal.loop-span-preserved
loop-span-preserved c = (c.in-Some.span.first + c.in-Some.span.count, c.in_ok-give_span.ensures)

pub returns : goal.returns
returns c =
    let place = c.args.place.now in
    let none : c.loop-span.spans.items ≡ [] = search rules in (
      c.loop-span.invariant.0,
      subst (λ (qs : List Span). Rejoins c.loop-span.text place.number place.next c.loop-span.invariant.0 c.loop-span.kept.items qs) none c.loop-span.invariant.1,
    )
