use Rattle.std.proofs.Common.{ap}
use Rattle.ft_interval_store.specs.State.{is_interval_operation}
use Rattle.ft_string.proofs.summaries.add_interval.Goals as goal

pub apply_add-added-requires-clause-kind : goal.apply_add-added-requires-clause-kind
apply_add-added-requires-clause-kind c = ap is_interval_operation c.in_ok-op.ensures.is

pub returns-clause-adds : goal.returns-clause-adds
returns-clause-adds c = c.apply_add-added.ensures.adds c.args.i.now c.in_ok-op.ensures c.requires.fits

pub returns-clause-stands : goal.returns-clause-stands
returns-clause-stands c = c.apply_add-added.ensures.stands
