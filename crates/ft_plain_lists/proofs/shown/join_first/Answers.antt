use Rattle.std.proofs.Common.{◌≡◌, ◌+◌, ◌-◌, false, true, ◌&&◌, nat_eq, [], arith, refl, rules, vec_len}
use Rattle.std.proofs.lemmas.Bool.Decides.{nat_tests}
use Rattle.ft_sumdoc.specs.WellFormed.{same_props}
use Rattle.ft_plain_lists.proofs.BackwardRuns.{Extends-apart, Extends-joined, Extends-none, same_props-is}
use Rattle.ft_plain_lists.proofs.shown.join_first.Goals as goal

pub returns-then-is_empty : goal.returns-then-is_empty
returns-then-is_empty c = Extends-none c.args.place c.args.props.now c.args.runs.now.items (c.is_empty.ensures.0 (search rules))

pub returns-then-first-place : goal.returns-then-first-place
returns-then-first-place c =
    let first = c.in-Some.first.now in
    let filled : c.args.props.now ≡ [] → ⊥ = λ e. (let full = c.is_empty.ensures.1 e in absurd cc) in
    let joins : (nat_eq first.start (c.args.place + 1) && same_props first.props c.args.props.now) ≡ false = grind (arith, nat_tests) in
    Extends-apart c.args.place c.args.props.now filled c.args.runs.now.items (vec_len c.args.runs.now - 1) first
    (omega (arith, c.in-Some.ensures.variant.0 refl, c.args.runs.now.ok.0)) c.in-Some.ensures.value joins

pub returns-then-not-same : goal.returns-then-not-same
returns-then-not-same c =
    let first = c.in-Some.first.now in
    let filled : c.args.props.now ≡ [] → ⊥ = λ e. (let full = c.is_empty.ensures.1 e in absurd cc) in
    let same = same_props-is c.same.result first.props c.args.props.now c.same.ensures in
    let joins : (nat_eq first.start (c.args.place + 1) && same_props first.props c.args.props.now) ≡ false = grind (arith, nat_tests) in
    Extends-apart c.args.place c.args.props.now filled c.args.runs.now.items (vec_len c.args.runs.now - 1) first
    (omega (arith, c.in-Some.ensures.variant.0 refl, c.args.runs.now.ok.0)) c.in-Some.ensures.value joins

pub returns : goal.returns
returns c =
    let first = c.in-Some.first.now in
    let filled : c.args.props.now ≡ [] → ⊥ = λ e. (let full = c.is_empty.ensures.1 e in absurd cc) in
    let same = same_props-is c.same.result first.props c.args.props.now c.same.ensures in
    let joins : (nat_eq first.start (c.args.place + 1) && same_props first.props c.args.props.now) ≡ true = grind (arith, nat_tests) in
    Extends-joined c.args.place c.args.props.now filled c.args.runs.now.items (vec_len c.args.runs.now - 1) first
    (omega (arith, c.in-Some.ensures.variant.0 refl, c.args.runs.now.ok.0)) c.in-Some.ensures.value joins
