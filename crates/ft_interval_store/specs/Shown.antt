-- The intervals as they are shown. Ends are places in the list of elements: at each pending stage in order they are settled
-- among what that stage sees, and then the stage's operation is applied.
use Rattle.std.specs.Prelude.{Bool, ℕ, zero, suc, ◌-◌, min, List, [], ◌∷◌, Option, Some, None, map, option_and_then, option_map, ℤ, pos, negsuc}
use Rattle.ft_block.specs.declared.leaves.LenView.TheVariants.{Stage}
use Rattle.ft_op.specs.declared.operations.Ends.{Ends}
use Rattle.ft_op.specs.declared.operations.TextOp.{TextOp}
use Rattle.ft_op.specs.declared.operations.TextOp.TheVariants.{IntervalAdd, IntervalChange}
use Rattle.ft_sumdoc.specs.declared.summary.IntervalRec.{IntervalRec}
use Rattle.ft_tree_leaves.specs.Elements.{TreeElement, seen_in}
use Rattle.ft_tree_leaves.specs.Places.{seen_before, settled_place}
use Rattle.ft_tree_leaves.specs.References.{reference_place}
use Rattle.ft_interval_store.specs.declared.intervals.EndPair.{EndPair}
use Rattle.ft_interval_store.specs.declared.intervals.Interval.{Interval}
use Rattle.ft_interval_store.specs.declared.pending.Operation.{Operation}
use Rattle.ft_interval_store.specs.Intervals.{Name, after_operation, one_after, told_there}
use Rattle.ft_interval_store.specs.Ends.{References, map_ends}

-- above all pending stages
abbrev pub last : ℕ
last = 18446744073709551615

-- whether the interval of that name is there behind these operations, where it is there or not before them
abbrev pub is_there : Name → List Operation → Bool → Bool
is_there n [] before = before
is_there n (t ∷ ts) before = is_there n ts (elim (told_there n t.op) as (λ _. Bool) [ None ↦ before | Some there ↦ there ])

module _ {U : Type 0} (xs : List (TreeElement U)) where
  -- an end as it is settled at stage k: its element if that stage sees it, else the next one that it sees, else the last
  -- before it, else none
  abbrev pub settled_end : ℕ → Option ℕ → Option ℕ
  settled_end k end = option_and_then (settled_place (seen_in (Stage k)) xs) end

  -- an end after it was settled at each of the n stages behind stage k in order
  abbrev pub carried_end : ℕ → ℕ → Option ℕ → Option ℕ
  carried_end k zero end = end
  carried_end k (suc n) end = carried_end (suc k) n (settled_end (suc k) end)

  -- an interval with both ends settled at stage k
  abbrev pub settled_interval : ℕ → Interval ℕ → Interval ℕ
  settled_interval k i = record i { ends = map_ends (settled_end k) i.ends }

  -- an interval after each of the stages behind stage k up to m settled its ends
  abbrev pub carried_interval : ℕ → ℕ → Interval ℕ → Interval ℕ
  carried_interval k m i = record i { ends = map_ends (carried_end k (m - k)) i.ends }

  -- the intervals after these stages
  abbrev pub carried : ℕ → ℕ → List (Interval ℕ) → List (Interval ℕ)
  carried k m is = map (carried_interval k m) is

  -- the intervals at the last stage, from those at stage k and the operations behind it: an operation has its own ends settled
  -- at its stage
  abbrev pub shown_from : ℕ → List Operation → List (Interval ℕ) → List (Interval ℕ)
  shown_from k [] is = carried k last is
  shown_from k (t ∷ ts) is = shown_from t.stage ts (after_operation t.op (map_ends (settled_end t.stage) t.ends) (carried k t.stage is))

  -- the intervals that are shown, where those at stage 0 and the pending operations have these places
  abbrev pub shown_intervals : List (Interval ℕ) → List Operation → List (Interval ℕ)
  shown_intervals acked pending = shown_from 0 pending (map (settled_interval 0) acked)

  -- the same of the interval of one name
  abbrev pub shown_one_from : Name → ℕ → List Operation → Option (Interval ℕ) → Option (Interval ℕ)
  shown_one_from n k [] i = option_map (carried_interval k last) i
  shown_one_from n k (t ∷ ts) i =
      shown_one_from n t.stage ts (one_after n t.op (map_ends (settled_end t.stage) t.ends) (option_map (carried_interval k t.stage) i))

  -- an end as the number of elements left of it that stage k sees, -1 where it is detached; no list is so long that its
  -- numbers don't fit
  abbrev pub number_at : ℕ → Option ℕ → ℤ
  number_at k None = negsuc 0
  number_at k (Some i) = pos (min (seen_before (seen_in (Stage k)) xs i) 9223372036854775807)

  -- an end as all stages settle it, one after another
  unfoldable pub shown_end : Option ℕ → Option ℕ
  shown_end end = carried_end 0 (last - 0) (settled_end 0 end)

  -- the number of a reference among the elements that the client sees, -1 where it is detached
  abbrev pub shown_place : References → ℕ → ℤ
  shown_place refs r = number_at last (shown_end (reference_place refs r))

  -- the ends as such numbers
  abbrev pub numbers_at : ℕ → EndPair ℕ → Ends
  numbers_at k e = record { start = number_at k e.start; end = number_at k e.end }

  -- an interval as it is shown
  abbrev pub shown_record : Interval ℕ → IntervalRec
  shown_record i =
      record { label = i.label; id = i.id; ends = record { start = number_at last i.ends.start; end = number_at last i.ends.end }; props = i.props }

  -- the operation with its ends as they are at stage k, where it gives some
  abbrev pub regenerated : ℕ → EndPair ℕ → TextOp → TextOp
  regenerated k e (IntervalAdd label id given props) = IntervalAdd label id (numbers_at k e) props
  regenerated k e (IntervalChange label id (Some given) props) = IntervalChange label id (Some (numbers_at k e)) props
  regenerated k e op = op
