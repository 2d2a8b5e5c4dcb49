-- What contracts see of the collections of intervals, and what each call makes of it. An interval and a pending operation have
-- references of a tree as their ends; `placed` has the places of these in its list of elements instead, and clauses speak
-- of that.
use Rattle.std.specs.Prelude.{◌≡◌, ℕ, ◌<◌, ◌≤◌, Bool, true, false, cond, not, nat_eq, List, [], ◌∷◌, ◌++◌, Option, Some, None, IsSome, All, ⊤, flat_map, map, option_map, is_some}
use Rattle.std.specs.List.{list_any}
use Rattle.ft_base.specs.Scan.{len}
use Rattle.ft_op.specs.declared.operations.Ends.{Ends}
use Rattle.ft_op.specs.declared.operations.TextOp.{TextOp}
use Rattle.ft_op.specs.declared.operations.TextOp.TheVariants.{IntervalAdd, IntervalChange, IntervalDelete}
use Rattle.ft_op.specs.Document.{ends_of, given_ends_fit}
use Rattle.ft_props.specs.Element.{ElementContent}
use Rattle.ft_tree_leaves.specs.declared.text.TextContent.{TextContent}
use Rattle.ft_tree_leaves.specs.declared.references.Reference.{Reference}
use Rattle.ft_tree_leaves.specs.Elements.{TreeElement}
use Rattle.ft_tree_leaves.specs.LeafLists.{elements}
use Rattle.ft_tree_leaves.specs.References.{reference_at}
use Rattle.ft_tree_leaves.specs.TextLeaves.{text_units}
use Rattle.ft_tree.specs.State.{TreeState}
use Rattle.ft_interval_store.specs.declared.faults.IntervalFault.{IntervalFault}
use Rattle.ft_interval_store.specs.declared.faults.IntervalFault.TheVariants.{IdInUse, NoSuchInterval, OutOfRange, OutOfMemory}
use Rattle.ft_interval_store.specs.declared.intervals.EndPair.{EndPair}
use Rattle.ft_interval_store.specs.declared.intervals.EndsAfter.{EndsAfter}
use Rattle.ft_interval_store.specs.declared.intervals.Interval.{Interval}
use Rattle.ft_interval_store.specs.declared.pending.Operation.{Operation}
use Rattle.ft_interval_store.specs.Intervals.{Name, after_operation, interval_of, is_on}
use Rattle.ft_interval_store.specs.Shown.{shown_intervals}
use Rattle.ft_interval_store.specs.Ends.{AreLiveEnds, References, both_ends, no_ends, is_reference, places_of_ends, places_of_given}

-- the acknowledged intervals by rising label and id, and the pending operations by rising stage
pub record CollectionsState : Type 0 where
  pub acked : List (Interval ℕ)
  pub pending : List Operation

-- the elements of a text
abbrev pub text_elements : TreeState TextContent → List (TreeElement ElementContent)
text_elements tree = elements text_units (λ x. x.by) tree.leaves

-- whether it is an interval add, change or delete
abbrev pub is_add : TextOp → Bool
is_add (IntervalAdd label id ends props) = true
is_add _ = false

abbrev pub is_change : TextOp → Bool
is_change (IntervalChange label id ends props) = true
is_change _ = false

abbrev pub is_delete : TextOp → Bool
is_delete (IntervalDelete label id) = true
is_delete _ = false

-- whether it is an operation on an interval
abbrev pub is_interval_operation : TextOp → Bool
is_interval_operation (IntervalAdd label id ends props) = true
is_interval_operation (IntervalChange label id ends props) = true
is_interval_operation (IntervalDelete label id) = true
is_interval_operation _ = false

-- ---- places

-- an interval with f of its ends
abbrev pub with_mapped_ends : (EndPair ℕ → EndPair ℕ) → Interval ℕ → Interval ℕ
with_mapped_ends f i = record i { ends = f i.ends }

-- a pending operation with f of its ends
abbrev pub with_mapped_names : (EndPair ℕ → EndPair ℕ) → Operation → Operation
with_mapped_names f t = record t { ends = f t.ends }

-- the intervals with the places of their ends
abbrev pub placed_intervals : References → List (Interval ℕ) → List (Interval ℕ)
placed_intervals refs is = map (with_mapped_ends (places_of_ends refs)) is

-- the pending operations with the places of their ends
abbrev pub placed_operations : References → List Operation → List Operation
placed_operations refs ts = map (with_mapped_names (places_of_ends refs)) ts

-- all with the places of their ends
abbrev pub placed : References → CollectionsState → CollectionsState
placed refs c = record { acked = placed_intervals refs c.acked; pending = placed_operations refs c.pending }

-- ---- references that are kept

-- the ends of intervals, and of pending operations
abbrev pub ends_of_intervals : List (Interval ℕ) → List (Option ℕ)
ends_of_intervals is = flat_map (λ i. both_ends i.ends) is

abbrev pub ends_of_operations : List Operation → List (Option ℕ)
ends_of_operations ts = flat_map (λ t. both_ends t.ends) ts

-- the ends of all
abbrev pub kept_ends : CollectionsState → List (Option ℕ)
kept_ends c = ends_of_intervals c.acked ++ ends_of_operations c.pending

-- how many of the ends are this reference
abbrev pub times_kept : ℕ → CollectionsState → ℕ
times_kept r c = len (is_reference r) (kept_ends c)

-- whether an end is this reference
abbrev pub keeps : ℕ → CollectionsState → Bool
keeps r c = list_any (is_reference r) (kept_ends c)

-- the references that the collections keep are live
abbrev pub IsLive : References → CollectionsState → Type 0
IsLive refs c = (r : ℕ) → keeps r c ≡ true → IsSome (reference_at refs r)

-- those of intervals alone, and of pending operations alone
abbrev pub AreLiveIntervals : References → List (Interval ℕ) → Type 0
AreLiveIntervals refs is = All (λ i. AreLiveEnds refs i.ends) is

abbrev pub AreLiveOperations : References → List Operation → Type 0
AreLiveOperations refs ts = All (λ t. AreLiveEnds refs t.ends) ts

-- whether the reference is acknowledged, if it is live
abbrev pub is_acknowledged : References → ℕ → Option Bool
is_acknowledged refs r = option_map (λ (x : Reference). x.acked) (reference_at refs r)

-- those of intervals are acknowledged, those of pending operations aren't
pub record IsMarked (refs : References) (c : CollectionsState) : Type 0 where
  pub acked : (r : ℕ) → list_any (is_reference r) (ends_of_intervals c.acked) ≡ true → is_acknowledged refs r ≡ Some true
  pub pending : (r : ℕ) → list_any (is_reference r) (ends_of_operations c.pending) ≡ true → is_acknowledged refs r ≡ Some false

-- what a call makes of the references: those that are kept after it are live, and marked if they were before; those that
-- are kept no more are gone, and each other one stays
pub record KeepsReferences (old new : CollectionsState) (before after : References) : Type 0 where
  pub live : IsLive after new
  pub marked : IsMarked before old → IsMarked after new
  pub others : (r : ℕ) → keeps r new ≡ false → reference_at after r ≡ cond (keeps r old) None (reference_at before r)

-- ---- stages

-- the stages rise from above k on
abbrev pub StagesRise : ℕ → List Operation → Type 0
StagesRise k [] = ⊤
StagesRise k (t ∷ ts) = (k < t.stage) × StagesRise t.stage ts

-- no reference is kept twice, and the stages rise
pub record IsInOrder (c : CollectionsState) : Type 0 where
  pub once : (r : ℕ) → times_kept r c ≤ 1
  pub rising : StagesRise 0 c.pending

-- all pending stages are below k
abbrev pub IsAboveAll : ℕ → CollectionsState → Type 0
IsAboveAll k c = All (λ t. t.stage < k) c.pending

-- whether an operation is of this stage
abbrev pub is_at_stage : ℕ → Operation → Bool
is_at_stage k t = nat_eq t.stage k

-- the stage of the first pending operation, if there is one
abbrev pub first_stage : List Operation → Option ℕ
first_stage [] = None
first_stage (t ∷ ts) = Some t.stage

-- whether the first pending operation is of stage k
abbrev pub is_first : ℕ → List Operation → Bool
is_first k [] = false
is_first k (t ∷ ts) = is_at_stage k t

-- the operation of stage k is the first pending one
abbrev pub IsFirst : ℕ → CollectionsState → Type 0
IsFirst k c = elim c.pending as (λ _. Type 0) [ [] ↦ ⊥ | t ∷ ts ↦ t.stage ≡ k ]

-- ---- what is shown

-- whether the view has an interval of that name, where all ends are places among these elements
abbrev pub is_shown : {U : Type 0} → List (TreeElement U) → Name → CollectionsState → Bool
is_shown xs n c = is_some (interval_of n (shown_intervals xs c.acked c.pending))

-- ---- what the calls make of it, with places as ends

-- a pending operation more, whose ends are on the elements that pass the test
abbrev pub with_operation : {U : Type 0} → (TreeElement U → Bool) → List (TreeElement U) → ℕ → TextOp → CollectionsState → CollectionsState
with_operation seen xs k op c =
    record c { pending = c.pending ++ (record { stage = k; op = op; ends = places_of_given seen xs (ends_of op) }) ∷ [] }

-- an operation with these ends takes effect on the acknowledged intervals
abbrev pub with_effect : TextOp → EndPair ℕ → CollectionsState → CollectionsState
with_effect op ends c = record c { acked = after_operation op ends c.acked }

-- the first pending operation takes effect, with f of its ends
abbrev pub with_first_acked : (EndPair ℕ → EndPair ℕ) → CollectionsState → CollectionsState
with_first_acked f c = elim c.pending [ [] ↦ c | t ∷ ts ↦ record { acked = after_operation t.op (f t.ends) c.acked; pending = ts } ]

-- the operation of stage k, if it is pending
abbrev pub operation_at : ℕ → List Operation → Option Operation
operation_at k [] = None
operation_at k (t ∷ ts) = cond (is_at_stage k t) (Some t) (operation_at k ts)

-- f of the ends of the operation of stage k
abbrev pub with_ends_at : ℕ → (EndPair ℕ → EndPair ℕ) → CollectionsState → CollectionsState
with_ends_at k f c = record c { pending = map (λ t. cond (is_at_stage k t) (with_mapped_names f t) t) c.pending }

-- what an edit that is taken makes of collections and tree: an operation more that is pending at stage k, with its ends on
-- the elements that pass the test
pub record Pushes {U : Type 0} (seen : TreeElement U → Bool) (xs : List (TreeElement U)) (k : ℕ) (op : TextOp)
    (old new : CollectionsState) (before after : TreeState TextContent) : Type 0 where
  pub pending : placed after.refs new ≡ with_operation seen xs k op (placed before.refs old)
  pub fits : given_ends_fit (len seen xs) (ends_of op) ≡ true
  pub refs : KeepsReferences old new before.refs after.refs
  pub rest : after ≡ record before { refs = after.refs }

-- nothing changed
abbrev pub IsAsBefore : CollectionsState → CollectionsState → TreeState TextContent → TreeState TextContent → Type 0
IsAsBefore old new before after = (new ≡ old) × (after ≡ before)

-- why an edit is refused, where the view has its name or not, and sees so many elements: the id is in use only for an add,
-- and not there only for a change or a delete, and that is tested before the ends; then nothing changed. Where there is no
-- memory nothing is said
abbrev pub IsRefusedEdit : Bool → ℕ → TextOp → Type 0 → IntervalFault → Type 0
IsRefusedEdit shown length op unchanged IdInUse = (is_add op ≡ true) × (shown ≡ true) × unchanged
IsRefusedEdit shown length op unchanged NoSuchInterval = (is_add op ≡ false) × (shown ≡ false) × unchanged
IsRefusedEdit shown length op unchanged (OutOfRange l) =
    (shown ≡ not (is_add op)) × (given_ends_fit length (ends_of op) ≡ false) × (l ≡ length) × unchanged
IsRefusedEdit shown length op unchanged OutOfMemory = ⊤

-- ---- parts of an effect

module _ {T : Type 0} where
  -- the ends of the interval of that name, none where it isn't there
  abbrev pub ends_of_name : Name → List (Interval T) → EndPair T
  ends_of_name n is = elim (interval_of n is) [ None ↦ no_ends | Some i ↦ i.ends ]

  -- the ends of an operation, where no interval takes them
  abbrev pub unused_ends : TextOp → EndPair T → List (Interval T) → EndPair T
  unused_ends (IntervalAdd label id given props) ends is = cond (is_some (interval_of (label, id) is)) ends no_ends
  unused_ends (IntervalChange label id (Some given) props) ends is = cond (is_some (interval_of (label, id) is)) no_ends ends
  unused_ends _ ends is = ends

  -- the ends that the interval of an operation had, where it gets others or is taken away
  abbrev pub lost_ends : TextOp → List (Interval T) → EndPair T
  lost_ends (IntervalChange label id (Some given) props) is = ends_of_name (label, id) is
  lost_ends (IntervalDelete label id) is = ends_of_name (label, id) is
  lost_ends _ is = no_ends

  -- what a change makes of ends, where its interval is there and had those
  abbrev pub ends_changed : Option Ends → EndPair T → EndPair T → EndsAfter T
  ends_changed None ends had = record { kept = had; unused = ends; lost = no_ends }
  ends_changed (Some given) ends had = record { kept = ends; unused = no_ends; lost = had }

  -- the same where its interval isn't there
  abbrev pub ends_missing : EndPair T → EndsAfter T
  ends_missing ends = record { kept = no_ends; unused = ends; lost = no_ends }

  -- these are the ends of the interval that the operation is on, none where it isn't there
  abbrev pub AreOwnEnds : TextOp → List (Interval T) → EndPair T → Type 0
  AreOwnEnds op is ends = (n : Name) → is_on n op ≡ true → ends ≡ ends_of_name n is

  -- which ends an operation with these ends leaves to its interval, and which to none
  pub record IsEndsAfter (op : TextOp) (ends : EndPair T) (old new : List (Interval T)) (after : EndsAfter T) : Type 0 where
    pub kept : AreOwnEnds op new after.kept
    pub unused : after.unused ≡ unused_ends op ends old
    pub lost : after.lost ≡ lost_ends op old

-- the ends of an operation, and those of intervals
abbrev pub ends_with : EndPair ℕ → List (Interval ℕ) → List (Option ℕ)
ends_with ends is = both_ends ends ++ ends_of_intervals is

-- the references of an operation and of intervals are live, and none stands twice
pub record AreKeptOnce (refs : References) (ends : EndPair ℕ) (is : List (Interval ℕ)) : Type 0 where
  pub live : (r : ℕ) → list_any (is_reference r) (ends_with ends is) ≡ true → IsSome (reference_at refs r)
  pub once : (r : ℕ) → len (is_reference r) (ends_with ends is) ≤ 1

-- what an effect makes of the references: those that an interval keeps are live and acknowledged, those that none keeps any
-- more are gone, and all others stay
pub record HandsOn (ends : EndPair ℕ) (old new : List (Interval ℕ)) (before after : References) : Type 0 where
  pub live : (r : ℕ) → list_any (is_reference r) (ends_of_intervals new) ≡ true → IsSome (reference_at after r)
  pub marked :
      ((r : ℕ) → list_any (is_reference r) (ends_of_intervals old) ≡ true → is_acknowledged before r ≡ Some true)
      → (r : ℕ) → list_any (is_reference r) (ends_of_intervals new) ≡ true → is_acknowledged after r ≡ Some true
  pub gone :
      (r : ℕ) → list_any (is_reference r) (ends_with ends old) ≡ true → list_any (is_reference r) (ends_of_intervals new) ≡ false
      → reference_at after r ≡ None
  pub others : (r : ℕ) → list_any (is_reference r) (ends_with ends old) ≡ false → reference_at after r ≡ reference_at before r
  pub once : (r : ℕ) → len (is_reference r) (ends_of_intervals new) ≤ len (is_reference r) (ends_with ends old)

-- the intervals after the operation, with some ends
pub record IsAfter (op : TextOp) (old new : List (Interval ℕ)) : Type 0 where
  pub ends : EndPair ℕ
  pub is : new ≡ after_operation op ends old

-- the same of the first of these operations
abbrev pub IsAfterFirst : List Operation → List (Interval ℕ) → List (Interval ℕ) → Type 0
IsAfterFirst [] old new = ⊥
IsAfterFirst (t ∷ ts) old new = IsAfter t.op old new

-- the operation of the first pending one, if there is one
abbrev pub first_operation : List Operation → Option TextOp
first_operation [] = None
first_operation (t ∷ ts) = Some t.op
