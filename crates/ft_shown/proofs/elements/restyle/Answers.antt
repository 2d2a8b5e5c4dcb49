use Rattle.std.proofs.Common.{◌≡◌, ◌+◌, ◌-◌, ◌++◌, ◌∙◌, ap, arith, drop, length, min, sym, take}
use Rattle.std.proofs.lemmas.Grind.{common_steps}
use Rattle.std.proofs.lemmas.Result.{on_ok_weaker}
use Rattle.ft_changes.specs.Shown.{restyled}
use Rattle.ft_shown.proofs.ListCuts.{change_at-within}
use Rattle.ft_shown.proofs.elements.restyle.Goals as goal

pub returns : goal.returns
returns c =
    let xs = c.args.elements.now in
    let p = c.args.place in
    let n = c.args.count in
    let i = c.place_within-start.result in
    let j = c.place_within-end.result in
    let start : i ≡ min p (length xs) = grind (arith, common_steps) in
    let end : j ≡ min (p + n) (length xs) = grind (arith, common_steps) in
    on_ok_weaker c.restyle_all.result
    (λ made. ap (λ ys. take i xs ++ (ys ++ drop (j - i) (drop i xs))) made ∙ sym (change_at-within p n i j (restyled c.args.props.now) xs start end))
    c.restyle_all.ensures
