-- Where an end goes whose element isn't seen any more: to the next element, else to the last one before.
use Rattle.std.specs.Prelude.{ℕ, ◌&&◌, List, Option, Some, None, option_map, ℤ, pos, negsuc}
use Rattle.ft_base.specs.Scan.{rank, settled}
use Rattle.ft_props.specs.Element.{ListElement, ElementId, id, is_sequenced, has_id, seen, is_unremoved}

-- the element itself if it is seen at stage k, else the next that is, else the last before it that is, else detached
abbrev pub settle : List ListElement → ℕ → Option ElementId → Option ElementId
settle xs k None = None
settle xs k (Some x) = option_map id (settled (has_id x) (seen k) xs)

-- the element itself if no removal of it is sequenced, else the next sequenced one that is unremoved, else the last
-- before it that is, else detached; pending elements and pending removals don't count
abbrev pub slide : List ListElement → Option ElementId → Option ElementId
slide xs None = None
slide xs (Some x) = option_map id (settled (λ e. is_sequenced e && has_id x e) is_unremoved xs)

-- an end as the number of elements seen at stage k left of it, -1 where it is detached
abbrev pub end_number : ℕ → List ListElement → Option ElementId → ℤ
end_number k xs None = negsuc 0
end_number k xs (Some x) = pos (rank (has_id x) (seen k) xs)
