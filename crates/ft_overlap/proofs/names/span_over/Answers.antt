use Rattle.std.proofs.Common.{◌≡◌, Some, None, slice_get, map, inl, inr, sym, subst, ◌∙◌, arith}
use Rattle.std.proofs.lemmas.Option.{slice_get_within}
use Rattle.ft_shape.specs.Told.{told}
use Rattle.ft_shape.proofs.Lists.{times_at}
use Rattle.ft_overlap.specs.declared.items.Item.{Item}
use Rattle.ft_overlap.specs.Inside.{NamesOne, named_by}
use Rattle.ft_overlap.proofs.Last.{named_of, start_of, first_told, names_one, last_more, last_first, last_all}
use Rattle.ft_overlap.proofs.Renamed.{one_known}
use Rattle.ft_overlap.proofs.names.span_over.Goals as goal

pub read-requires : goal.read-requires
read-requires g c = c.requires.live c.in-Some.first (times_at c.args.kids.now 0 c.in-Some.first (sym c.get.ensures ∙ c.in-Some.is))

pub loop-kid-init : goal.loop-kid-init
loop-kid-init g c =
    let s = c.args.arena.now in
    let first = c.in-Some.first in
    let there : slice_get c.args.kids.now 0 ≡ Some first = sym c.get.ensures ∙ c.in-Some.is in
    let names : named_by (told s first) ≡ Some c.span_of-span.result.last = named_of s first _ c.span_of-span.result.last c.read.ensures.node c.span_of-span.ensures.last in
    record {
      few = omega (arith, c.len-few.ensures.value, c.len-few.ensures.few);
      inside = c.requires.some;
      one = names_one s c.args.kids.now 0 first c.span_of-span.result.last there names;
      last = last_first s (g.P.Places.end_place c.args.at.now) c.args.kids.now first c.span_of-span.result.last there names;
    }

pub read-requires-in-Some-get : goal.read-requires-in-Some-get
read-requires-in-Some-get g c = c.requires.live c.in-Some-get.kid (times_at c.args.kids.now c.loop-kid.i c.in-Some-get.kid (sym c.get-in-loop-kid.ensures ∙ c.in-Some-get.is))

pub later-last-requires-clause-first : goal.later-last-requires-clause-first
later-last-requires-clause-first g c =
    one_known (g.P.Places.Knows c.args.at.now) c.args.arena.now c.requires.known c.args.kids.now c.loop-kid.last c.loop-kid.invariant.one

pub later-last-requires-clause-second : goal.later-last-requires-clause-second
later-last-requires-clause-second g c =
    c.requires.known c.in-Some-get.kid c.span_of.result.last
    (named_of c.args.arena.now c.in-Some-get.kid _ c.span_of.result.last c.read-in-Some-get.ensures.node c.span_of.ensures.last)

pub loop-kid-smaller : goal.loop-kid-smaller
loop-kid-smaller g c = let w = slice_get_within c.args.kids.now c.loop-kid.i c.in-Some-get.kid (sym c.get-in-loop-kid.ensures ∙ c.in-Some-get.is) in omega (arith, w)

pub loop-kid-preserved : goal.loop-kid-preserved
loop-kid-preserved g c =
    let s = c.args.arena.now in
    let kids = c.args.kids.now in
    let place = g.P.Places.end_place c.args.at.now in
    let i = c.loop-kid.i in
    let kid = c.in-Some-get.kid in
    let last = c.loop-kid.last in
    let next = c.span_of.result.last in
    let both = c.later-last.result in
    let there : slice_get kids i ≡ Some kid = sym c.get-in-loop-kid.ensures ∙ c.in-Some-get.is in
    let names : named_by (told s kid) ≡ Some next = named_of s kid _ next c.read-in-Some-get.ensures.node c.span_of.ensures.last in
    let one : NamesOne both (map (told s) kids) = elim c.later-last.ensures.one [
      | inl e ↦ subst (λ (z : Item). NamesOne z (map (told s) kids)) (sym e) c.loop-kid.invariant.one
      | inr e ↦ subst (λ (z : Item). NamesOne z (map (told s) kids)) (sym e) (names_one s kids i kid next there names)
    ] in
    record {
      few = c.loop-kid.invariant.few;
      inside = omega (arith, slice_get_within kids i kid there);
      one = one;
      last = last_more s place kids i kid last next both there names c.loop-kid.invariant.last c.later-last.ensures.first c.later-last.ensures.second;
    }

pub returns-clause-start : goal.returns-clause-start
returns-clause-start g c =
    let s = c.args.arena.now in
    let first = c.in-Some.first in
    let there : slice_get c.args.kids.now 0 ≡ Some first = sym c.get.ensures ∙ c.in-Some.is in
    first_told s c.args.kids.now first there ∙ start_of s first _ c.span_of-span.result.start c.read.ensures.node c.span_of-span.ensures.start

pub returns-clause-last : goal.returns-clause-last
returns-clause-last g c =
    let place = g.P.Places.end_place c.args.at.now in
    let none : slice_get c.args.kids.now c.loop-kid.i ≡ None = sym c.get-in-loop-kid.ensures ∙ c.in_default-get.is in
    last_all c.args.arena.now place c.args.kids.now c.loop-kid.i c.loop-kid.last none c.loop-kid.invariant.last
