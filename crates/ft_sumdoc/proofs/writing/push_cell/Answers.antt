use Rattle.std.proofs.Common.{map, ap}
use Rattle.std.proofs.lemmas.Result.{on_ok_weaker}
use Rattle.serde_json.specs.Data.{array}
use Rattle.serde_json.specs.View.{items_of, view}
use Rattle.ft_sumdoc.proofs.PushedValues.{pushed}
use Rattle.ft_sumdoc.proofs.writing.push_cell.Goals as goal

pub returns : goal.returns
returns c =
    let row = pushed _ _ _ _ _ c.in_ok-push.ensures.items (ap (map view) c.requires.empty) c.from.ensures in
    let col = pushed _ _ _ _ _ c.in_ok-push-2.ensures.items row c.from-2.ensures in
    on_ok_weaker c.push-3.result (λ e. ap (λ ds. array (items_of ds)) (pushed _ _ _ _ _ e col c.in_ok-written_value.ensures)) c.push-3.ensures.items
