use Rattle.std.proofs.Common.{◌≡◌, ◌+◌, ◌∙◌, arith, length, min, sym}
use Rattle.std.proofs.lemmas.Grind.{common_steps}
use Rattle.ft_shown.proofs.ListCuts.{take_out-within}
use Rattle.ft_shown.proofs.cuts.take_out.Goals as goal

pub returns : goal.returns
returns g c =
    let xs = c.args.items.now.items in
    let p = c.args.place in
    let n = c.args.count in
    let i = c.place_within-start.result in
    let j = c.place_within-end.result in
    let start : i ≡ min p (length xs) = grind (arith, common_steps) in
    let end : j ≡ min (p + n) (length xs) = grind (arith, common_steps) in
    c.take_at.ensures ∙ sym (take_out-within p n i j xs start end)
