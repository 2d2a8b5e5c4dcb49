use Rattle.std.proofs.Common.{rules, ◌≡◌, ◌+◌, [], ◌∷◌, ◌++◌, sym, ◌∙◌, ap}
use Rattle.std.proofs.lemmas.Bool.{eq-eqb, ne_eqb}
use Rattle.std.proofs.lemmas.Result.{on_ok_weaker}
use Rattle.ft_changes.specs.ShownRuns.{GoneRun}
use Rattle.ft_changes.proofs.RunsInOrder.{gone-apart, gone-joined}
use Rattle.ft_changes.proofs.runs.push_taken.Goals as goal

pub returns-then-last-place : goal.returns-then-last-place
returns-then-last-place c =
    let runs = c.pop.new.self.items in
    let last = c.in-Some.last in
    let same : last.place ≡ c.args.place = (search rules) in
    let more : c.in_ok-count.count ≡ last.count + c.args.count = (search rules) in
    on_ok_weaker c.push-then-last-place.result
    (λ made. gone-joined runs c.args.runs.now.items c.push-then-last-place.new.items.items last c.args.place c.args.count
    c.in-Some.ensures.items (eq-eqb last.place c.args.place same)
    (made ∙ ap (λ p. runs ++ record { place = p; count = c.in_ok-count.count } ∷ []) (sym same)
    ∙ ap (λ n. runs ++ record { place = last.place; count = n } ∷ []) more))
    c.push-then-last-place.ensures.items

pub returns : goal.returns
returns c =
    let new : GoneRun = record { place = c.args.place; count = c.args.count } in
    let last = c.in-Some.last in
    let apart : last.place ≡ c.args.place → ⊥ = (search rules) in
    on_ok_weaker c.push-3.result
    (λ made. gone-apart c.pop.new.self.items c.args.runs.now.items c.push-3.new.items.items last c.args.place c.args.count
    c.in-Some.ensures.items (ne_eqb last.place c.args.place apart)
    (made ∙ ap (λ runs. runs ++ (new ∷ [])) c.in_ok-push.ensures.items))
    c.push-3.ensures.items
