use Rattle.std.proofs.Common.{is_some, ap, ◌∙◌}
use Rattle.ft_interval_store.proofs.StagePlaces.{any-placed}
use Rattle.ft_interval_store.proofs.pending.has_stage.Goals as goal

pub returns : goal.returns
returns c = c.is_some.ensures ∙ ap (λ o. is_some o) c.place_of_stage.ensures ∙ any-placed c.args.stage c.args.pending.now.items
