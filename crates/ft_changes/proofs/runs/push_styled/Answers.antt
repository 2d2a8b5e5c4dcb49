use Rattle.std.proofs.Common.{rules, ◌≡◌, ℕ, ◌+◌, [], ◌∷◌, ◌++◌, sym, ◌∙◌, ap}
use Rattle.std.proofs.lemmas.Result.{on_ok_weaker}
use Rattle.ft_props.specs.Properties.{PropertyList}
use Rattle.ft_sumdoc.specs.WellFormed.{same_props}
use Rattle.ft_changes.specs.ShownRuns.{ChangedRun}
use Rattle.ft_changes.proofs.RunsInOrder.{changed-apart, changed-joined}
use Rattle.ft_changes.proofs.runs.push_styled.Goals as goal

-- a run of these parts
abbrev run_of : ℕ → ℕ → PropertyList → ChangedRun PropertyList
run_of place count props = record { place = place; count = count; props = props }

same-run : (p q m n : ℕ) (x y : PropertyList) → p ≡ q → m ≡ n → x ≡ y → run_of p m x ≡ run_of q n y
same-run p q m n x y d e h = ap (λ i. run_of i m x) d ∙ ap (λ i. run_of q i x) e ∙ ap (λ z. run_of q n z) h

pub returns-then-goes_on : goal.returns-then-goes_on
returns-then-goes_on c =
    let runs = c.pop.new.self.items in
    let last = c.in-Some.last in
    let place : c.last.inside.place ≡ last.place = (search rules) in
    let count : c.in_ok-last-inside.field-0 ≡ last.count + c.args.count = (search rules) in
    let props : c.last.inside.props ≡ last.props = (search rules) in
    let longer = same-run c.last.inside.place last.place c.in_ok-last-inside.field-0 (last.count + c.args.count) c.last.inside.props last.props place count props in
    on_ok_weaker c.push-then-goes_on.result
    (λ made. changed-joined same_props runs c.args.runs.now.items c.push-then-goes_on.new.items.items last c.args.place c.args.count c.args.props
    c.in-Some.ensures.items (sym c.goes_on.ensures ∙ c.if-goes_on.true) (made ∙ ap (λ run. runs ++ (run ∷ [])) longer))
    c.push-then-goes_on.ensures.items

pub returns : goal.returns
returns c =
    let new : ChangedRun PropertyList = record { place = c.args.place; count = c.args.count; props = c.args.props } in
    let last = c.in-Some.last in
    on_ok_weaker c.push-3.result
    (λ made. changed-apart same_props c.pop.new.self.items c.args.runs.now.items c.push-3.new.items.items last c.args.place c.args.count c.args.props
    c.in-Some.ensures.items (sym c.goes_on.ensures ∙ c.if-goes_on.false)
    (made ∙ ap (λ runs. runs ++ (new ∷ [])) c.in_ok-push.ensures.items))
    c.push-3.ensures.items
