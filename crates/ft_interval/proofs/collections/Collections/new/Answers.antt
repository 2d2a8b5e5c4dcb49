use Rattle.std.proofs.Common.{[], List, sym, subst}
use Rattle.ft_interval_store.specs.State.{CollectionsState}
use Rattle.ft_interval.specs.State.{IndexedState, StandsOn}
use Rattle.ft_interval.proofs.StandsSteps.{stands-none}
use Rattle.ft_interval_index.specs.Indexes.{LabelIndex}
use Rattle.ft_interval.proofs.collections.Collections.new.Goals as goal

pub returns-clause-stands : goal.returns-clause-stands
returns-clause-stands c tree =
    subst (λ (s : CollectionsState). (let x : IndexedState = record { state = s; indexes = c.new-2.result } in StandsOn tree x)) (sym c.new.ensures)
    (subst (λ (xs : List LabelIndex). (let x : IndexedState = record { state = record { acked = []; pending = [] }; indexes = xs } in StandsOn tree
    x)) (sym c.new-2.ensures) (stands-none tree))
