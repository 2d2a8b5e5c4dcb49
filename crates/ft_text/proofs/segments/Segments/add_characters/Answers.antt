use Rattle.std.proofs.Common.{◌+◌, ◌∙◌, ◌∷◌, ap, sym, drop}
use Rattle.std.proofs.lemmas.List.{drop_all, drop_more}
use Rattle.ft_props.specs.Element.{Character}
use Rattle.ft_text.specs.Saved.{unit_segment}
use Rattle.ft_text.proofs.FrontSegments.{ahead-begin, ahead-next, ahead-done}
use Rattle.ft_text.proofs.segments.Segments.add_characters.Goals as goal

pub loop-c-init : goal.loop-c-init
loop-c-init c = ahead-begin (λ x. unit_segment c.args.head.now (Character x)) c.args.text.now c.args.self.now

pub loop-c-preserved : goal.loop-c-preserved
loop-c-preserved c =
    let all = c.args.text.now in
    let i = c.loop-c.c-index in
    ahead-next (λ x. unit_segment c.args.head.now (Character x)) all (drop i all) (drop (i + 1) all) c.c-item.result c.args.self.now c.loop-c.self c.add_character.new.self
    c.loop-c.invariant (drop_more all i c.c-item.result c.loop-c-test.true ∙ ap (λ x. x ∷ drop (i + 1) all) (sym c.c-item.is)) c.in_ok-add_character.ensures

pub returns : goal.returns
returns c =
    let all = c.args.text.now in
    ahead-done (λ x. unit_segment c.args.head.now (Character x)) all (drop c.loop-c.c-index all) c.args.self.now c.loop-c.self c.loop-c.invariant
    (drop_all c.loop-c.c-index all c.loop-c-test.false)
