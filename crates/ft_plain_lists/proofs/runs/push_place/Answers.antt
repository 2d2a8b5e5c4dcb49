use Rattle.std.proofs.Common.{◌+◌, [], ◌∷◌, ◌++◌, ◌∙◌, ap}
use Rattle.std.proofs.lemmas.Result.{on_ok_weaker}
use Rattle.ft_plain_lists.proofs.PlacedRuns.{with_place-apart, with_place-joined}
use Rattle.ft_plain_lists.proofs.runs.push_place.Goals as goal

pub returns-then-end-place : goal.returns-then-end-place
returns-then-end-place c =
    on_ok_weaker c.push-then-end-place.result
    (with_place-joined c.pop.new.self.items c.args.runs.now.items c.push-then-end-place.new.items.items c.in-Some.start c.in-Some.end c.args.place
    c.in-Some.ensures.items c.if-end-place.true)
    c.push-then-end-place.ensures.items

pub returns : goal.returns
returns c =
    on_ok_weaker c.push-3.result
    (λ made. with_place-apart c.pop.new.self.items c.args.runs.now.items c.push-3.new.items.items c.in-Some.start c.in-Some.end c.args.place
    c.in-Some.ensures.items c.if-end-place.false
    (made ∙ ap (λ runs. runs ++ ((c.args.place, c.args.place + 1) ∷ [])) c.in_ok-push.ensures.items))
    c.push-3.ensures.items
