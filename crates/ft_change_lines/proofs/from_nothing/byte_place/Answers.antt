use Rattle.std.proofs.Common.{◌≡◌, ◌∙◌, ◌-◌, length, chars, drop, sym, subst, arith, encode_utf8_all, refl}
use Rattle.std.proofs.lemmas.Str.{encodes-chars}
use Rattle.ft_change_lines.proofs.CharacterCuts.{cut-behind, left_after, left-within}
use Rattle.ft_change_lines.proofs.from_nothing.byte_place.Goals as goal

pub loop-init : goal.loop-init
loop-init c = encodes-chars c.args.text.now c.utf8.text ∙ sym c.chars-rest.ensures.rest

pub loop-preserved : goal.loop-preserved
loop-preserved c = left_after (chars c.args.text.now) c.loop.counter c.loop.rest c.next.new.self c.next.result c.loop.invariant c.next.ensures.steps.0

pub overflow_sub-result : goal.overflow_sub-result
overflow_sub-result c = left-within c.args.text.now c.as_str.result.now c.loop.counter c.utf8.text (c.loop.invariant ∙ sym c.as_str.ensures)

pub returns : goal.returns
returns c =
    let bs = c.args.text.now in
    let e : c.loop.counter ≡ c.args.count = omega arith in
    let behind = subst (λ n. encode_utf8_all (drop n (chars bs)) ≡ c.as_str.result.now) e (c.loop.invariant ∙ sym c.as_str.ensures) in
    let cut = cut-behind bs c.as_str.result.now c.args.count (length bs - length c.as_str.result.now) c.utf8.text behind refl in
    record { boundary = cut.boundary; front = cut.front; rear = cut.rear }
