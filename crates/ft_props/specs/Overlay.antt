-- The properties of an element as its client holds them: the acknowledged ones, and the pending changes on top by rising
-- stage.
use Rattle.std.specs.Prelude.{◌≡◌, ℕ, ◌<◌, not, nat_eq, List, [], ◌∷◌, ◌++◌, filter, ⊤}
use Rattle.ft_props.specs.declared.overlay.Ahead.{Ahead}
use Rattle.ft_props.specs.declared.overlay.Kept.{Kept}
use Rattle.ft_props.specs.declared.overlay.Kept.TheVariants.{Settled, Changed}
use Rattle.ft_props.specs.declared.properties.Changes.{Changes}
use Rattle.ft_props.specs.Properties.{PropertyList, change, shown_props}
use Rattle.ft_props.specs.Steps.{acked_props}

-- the acknowledged properties, and the pending changes with their stages
pub record OverlayState : Type 0 where
  pub acked : PropertyList
  pub pending : List (ℕ × Changes)

-- what is shown: the acknowledged properties with the pending changes made, in order of stage
abbrev pub shown_of : OverlayState → PropertyList
shown_of o = shown_props o.acked o.pending

-- after changes below the pending ones
abbrev pub after_acked_changes : Changes → OverlayState → OverlayState
after_acked_changes c o = record o { acked = change o.acked c }

-- after changes of a new pending stage
abbrev pub after_pending_changes : ℕ → Changes → OverlayState → OverlayState
after_pending_changes k c o = record o { pending = o.pending ++ (k, c) ∷ [] }

-- the pending changes but those of stage k
abbrev pub without_stage : ℕ → List (ℕ × Changes) → List (ℕ × Changes)
without_stage k pending = filter (λ p. not (nat_eq p.0 k)) pending

-- after the acknowledgement of stage k
abbrev pub after_ack : ℕ → OverlayState → OverlayState
after_ack k o = record { acked = acked_props k o.acked o.pending; pending = without_stage k o.pending }

-- after the changes of stage k were taken out
abbrev pub after_drop : ℕ → OverlayState → OverlayState
after_drop k o = record o { pending = without_stage k o.pending }

-- stage k is below each stage of the pending changes
abbrev pub IsBelowStages : ℕ → List (ℕ × Changes) → Type 0
IsBelowStages k [] = ⊤
IsBelowStages k ((j, c) ∷ pending) = (k < j) × IsBelowStages k pending

-- each stage is below those behind it
abbrev pub StagesRise : List (ℕ × Changes) → Type 0
StagesRise [] = ⊤
StagesRise ((k, c) ∷ pending) = IsBelowStages k pending × StagesRise pending

-- the acknowledged properties of what is kept
abbrev pub kept_acked : Kept → PropertyList
kept_acked (Settled acked) = acked
kept_acked (Changed b) = b.value.acked

-- its pending changes
abbrev pub kept_pending : Kept → List (ℕ × Changes)
kept_pending (Settled acked) = []
kept_pending (Changed b) = b.value.pending.items

-- the stages rise, and what is kept ready is what is shown
pub record IsAhead (a : Ahead) : Type 0 where
  pub rising : StagesRise a.pending.items
  pub ready : a.shown ≡ shown_props a.acked a.pending.items

abbrev pub IsReady : Kept → Type 0
IsReady (Settled acked) = ⊤
IsReady (Changed b) = IsAhead b.value
