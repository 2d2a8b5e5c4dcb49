use Rattle.std.proofs.Common.{◌≡◌, ◌∙◌, arith, length, min, sym}
use Rattle.std.proofs.lemmas.Grind.{common_steps}
use Rattle.std.proofs.lemmas.Result.{on_ok_weaker}
use Rattle.ft_shown.proofs.ListCuts.{put_in-within}
use Rattle.ft_shown.proofs.cuts.put_in.Goals as goal

pub returns : goal.returns
returns g c =
    let xs = c.args.items.now.items in
    let i = c.place_within-within.result in
    let within : i ≡ min c.args.place (length xs) = grind (arith, common_steps) in
    on_ok_weaker c.put_at.result (λ put. put ∙ sym (put_in-within c.args.place i c.args.new.items xs within)) c.put_at.ensures
