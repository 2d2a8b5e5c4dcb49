use Rattle.std.proofs.Common.{map, take}
use Rattle.ft_interval_store.specs.Gathered.{Gathers}
use Rattle.ft_interval_store.specs.Shown.{settled_interval}
use Rattle.ft_interval_store.specs.State.{placed_intervals, text_elements}
use Rattle.ft_interval_index.specs.Indexes.{is_found, labelled}
use Rattle.ft_interval_index.proofs.gathering.add_found.Given as goal

-- those of the keys so far were added
abbrev pub invariant-loop-key : goal.invariant-loop-key
invariant-loop-key l =
    Gathers l.tree (map (settled_interval (text_elements l.tree) 0) (placed_intervals l.tree.refs l.store.acked)) (λ n. is_found n (labelled l.label
    l.index) (take l.key-index l.keys)) l.fn.all l.all
