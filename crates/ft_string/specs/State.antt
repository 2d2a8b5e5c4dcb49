-- What contracts see of a shared text. Its elements have no names: the ends of an interval, and of a pending operation on one,
-- are places in the list of all elements.
use Rattle.std.specs.Prelude.{◌≡◌, ℕ, Bool, List, None}
use Rattle.std.specs.Ordering.{is_eq}
use Rattle.ft_interval_store.specs.declared.intervals.EndPair.{EndPair}
use Rattle.ft_interval_store.specs.declared.intervals.Interval.{Interval}
use Rattle.ft_interval_store.specs.declared.pending.Operation.{Operation}
use Rattle.ft_msg.specs.Indexed.{IndexedInterval, IndexedStage, PlacePair}
use Rattle.ft_op.specs.Operation.{OnIntervals, OnText}
use Rattle.ft_props.specs.Element.{NamelessElement}
use Rattle.ft_props.specs.Keys.{Characters, text_cmp}
use Rattle.ft_tree.specs.State.{TreeState}
use Rattle.ft_tree_leaves.specs.declared.text.TextContent.{TextContent}
use Rattle.ft_string.specs.declared.pending.PendingOp.{PendingOp}

-- whether an interval is of that label
abbrev pub has_label : Characters → IndexedInterval → Bool
has_label label i = is_eq (text_cmp label i.label)

-- the elements, removed ones included; how many were ever made; how deep a search for one goes; the acknowledged intervals; the
-- pending stages on elements, and those on intervals; the floor; the greatest stage that was given since the last
-- normalisation, 0 where none was; whether the text may still be used; and the tree that holds it, which tells the node of each leaf
-- and the element of each reference
pub record TextState : Type 0 where
  pub elements : List NamelessElement
  pub made : ℕ
  pub depth : ℕ
  pub intervals : List IndexedInterval
  pub ops : List IndexedStage
  pub interval_ops : List IndexedStage
  pub floor : ℕ
  pub given : ℕ
  pub usable : Bool
  pub tree : TreeState TextContent

-- two places as the definitions have them
abbrev pub pair_of : EndPair ℕ → PlacePair
pair_of e = record { first = e.start; second = e.end }

-- an interval with places
abbrev pub interval_with_places : Interval ℕ → IndexedInterval
interval_with_places i = record { label = i.label; id = i.id; ends = pair_of i.ends; props = i.props }

-- a pending operation on an interval, with places
abbrev pub interval_stage : Operation → IndexedStage
interval_stage t = record { stage = t.stage; sub_operation = OnIntervals t.op; places = pair_of t.ends }

-- a pending operation on elements, which names none
abbrev pub element_stage : PendingOp → IndexedStage
element_stage t = record { stage = t.stage; sub_operation = OnText t.op; places = record { first = None; second = None } }

-- floor, use and given stage stay
pub record KeepsRest (old new : TextState) : Type 0 where
  pub floor : new.floor ≡ old.floor
  pub given : new.given ≡ old.given
  pub usable : new.usable ≡ old.usable
