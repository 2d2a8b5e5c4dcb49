-- The acknowledgement of stages, as it goes over the parts of a shared text. No public clause cites this module.
use Rattle.std.specs.Prelude.{◌≡◌, ◌<◌, ⊤, nat_eq, true, ℕ, Bool, cond, nat_lt, List, [], ◌∷◌, Option, Some, None, drop, map, min}
use Rattle.std.specs.List.{list_all, list_any}
use Rattle.ft_props.specs.declared.properties.Changes.{Changes}
use Rattle.ft_interval_store.specs.Ends.{map_ends, slid_end}
use Rattle.ft_interval_store.specs.Intervals.{NamesRise}
use Rattle.ft_interval_store.specs.State.{CollectionsState, KeepsReferences, placed, text_elements, with_first_acked}
use Rattle.ft_tree_leaves.specs.declared.text.TextContent.{TextContent}
use Rattle.ft_tree_leaves.specs.Elements.{acked_element}
use Rattle.ft_tree_leaves.specs.References.{ChangesReferences, slid_reference}
use Rattle.ft_tree_leaves.specs.TextLeaves.{text_author}
use Rattle.ft_tree.specs.State.{KeepsRest, TreeState}
use Rattle.ft_interval_store.specs.State.{first_stage, is_first}
use Rattle.ft_text.specs.Texts.{TextElements}
use Rattle.ft_string.specs.declared.pending.PendingOp.{PendingOp}

-- the lesser of two numbers, as far as they are given
abbrev pub least_of : Option ℕ → Option ℕ → Option ℕ
least_of (Some a) (Some b) = Some (min a b)
least_of (Some a) None = Some a
least_of None b = b

-- the stage of the first pending operation on elements
abbrev pub first_op : List PendingOp → Option ℕ
first_op [] = None
first_op (t ∷ ts) = Some t.stage

-- the number, if it is given and below the end
abbrev pub if_below : ℕ → Option ℕ → Option ℕ
if_below end None = None
if_below end (Some k) = cond (nat_lt k end) (Some k) None

-- the lowest pending stage, if it is below the end
abbrev pub next_below : ℕ → CollectionsState → List PendingOp → Option ℕ
next_below end c ops = if_below end (least_of (first_op ops) (first_stage c.pending))

-- stage k is acknowledged: the elements first, and then the first pending operation on intervals, where this is of the stage,
-- or else the first one on elements
pub record AcksStage (k s c : ℕ) (old new : TreeState TextContent) (before after : CollectionsState) (ops rest : List PendingOp) : Type 0 where
  pub mid : TreeState TextContent
  pub rises : NamesRise before.acked
  pub elements : text_elements mid ≡ map (acked_element k s c (text_author s c)) (text_elements old)
  pub slides : ChangesReferences (slid_reference (text_elements mid)) old.refs mid.refs
  pub goes : KeepsRest old mid
  pub made : mid.made ≡ old.made
  pub leaves : new ≡ record mid { refs = new.refs }
  pub intervals : placed new.refs after ≡ cond (is_first k before.pending) (with_first_acked (map_ends (slid_end (text_elements mid))) (placed mid.refs before)) (placed mid.refs before)
  pub refs : KeepsReferences before after mid.refs new.refs
  pub ops_are : rest ≡ cond (is_first k before.pending) ops (drop 1 ops)

-- stages of operations rise from above k on
abbrev pub OpsRise : ℕ → List PendingOp → Type 0
OpsRise k [] = ⊤
OpsRise k (t ∷ ts) = (k < t.stage) × OpsRise t.stage ts

-- whether a pending change is of the stage of one of the operations
abbrev pub is_noted : List PendingOp → ℕ × Changes → Bool
is_noted ops q = list_any (λ t. nat_eq t.stage q.0) ops

-- each pending change of an element is
abbrev pub AreNoted : List PendingOp → TextElements → Type 0
AreNoted ops xs = list_all (λ e. list_all (is_noted ops) e.overlay.pending) xs ≡ true

-- stages are acknowledged one after another, as long as one is below the end
pub data AcksStages (end s c : ℕ) : TreeState TextContent → TreeState TextContent → CollectionsState → CollectionsState → List PendingOp
    → List PendingOp → Type 0 where
  none : {tree : TreeState TextContent} {given : CollectionsState} {ops : List PendingOp} → next_below end given ops ≡ None
      → AcksStages end s c tree tree given given ops ops
  next : {k : ℕ} {old mid new : TreeState TextContent} {before between after : CollectionsState} {ops more rest : List PendingOp}
      → next_below end before ops ≡ Some k
      → AcksStage k s c old mid before between ops more → AcksStages end s c mid new between after more rest → AcksStages end s c old new before after ops rest
