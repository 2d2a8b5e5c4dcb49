-- The elements of a tree, and what each kind of step makes of one element. A list of them has no names; a unit is what an
-- element is: a character, a marker, or the handle of a row or column. Who sees an element is told by its stamps alone.
use Rattle.std.specs.Prelude.{ℕ, ◌<◌, ◌≤◌, All, Bool, cond, not, List, [], ◌∷◌, Option, map, filter}
use Rattle.ft_base.specs.declared.stamps.Stamp.{Stamp}
use Rattle.ft_base.specs.declared.stamps.Stamp.TheVariants.{Acked}
use Rattle.ft_base.specs.declared.elements.Element.{Element as ElementStamps}
use Rattle.ft_base.specs.Scan.{put_past}
use Rattle.ft_base.specs.Visibility.{is_acked, is_of_stage, is_present}
use Rattle.ft_block.specs.declared.leaves.LenView.{LenView}
use Rattle.ft_block.specs.Leaves.{sees_in}
use Rattle.ft_props.specs.Overlay.{OverlayState, after_ack}
use Rattle.ft_props.specs.Properties.{PropertyList}
use Rattle.ft_props.specs.Steps.{acked_stamp}

-- an element: what it is, its stamps, the stamp of its insertion's message where that is kept, its acknowledged properties
-- and the pending changes on top
pub record TreeElement (U : Type 0) : Type 0 where
  pub unit : U
  pub stamps : ElementStamps
  pub by : Option Stamp
  pub overlay : OverlayState

-- the stamps with one more removal, before the pending one
abbrev pub removed_stamps : Stamp → ElementStamps → ElementStamps
removed_stamps t e = record { ins = e.ins; dels = put_past is_acked (t ∷ []) e.dels }

-- the stamps after stage k was acknowledged under number s of connection c
abbrev pub acked_stamps : ℕ → ℕ → ℕ → ElementStamps → ElementStamps
acked_stamps k s c e = record { ins = acked_stamp k s c e.ins; dels = map (acked_stamp k s c) e.dels }

-- the stamps without a removal of pending stage k
abbrev pub unmarked_stamps : ℕ → ElementStamps → ElementStamps
unmarked_stamps k e = record { ins = e.ins; dels = filter (λ t. not (is_of_stage k t)) e.dels }

-- the stamps with the removals that are sequenced alone
abbrev pub sequenced_stamps : ElementStamps → ElementStamps
sequenced_stamps e = record { ins = e.ins; dels = filter is_acked e.dels }

-- the properties without pending changes
abbrev pub sequenced_overlay : OverlayState → OverlayState
sequenced_overlay o = record { acked = o.acked; pending = [] }

-- the stamps with the insertion that everybody sees
abbrev pub universal_stamps : ElementStamps → ElementStamps
universal_stamps e = record { ins = Acked 0 0; dels = e.dels }

-- the stage is above those of the pending changes
abbrev pub IsAboveChanges : ℕ → OverlayState → Type 0
IsAboveChanges k o = All (λ change. change.0 < k) o.pending

-- no pending changes are of a lower stage
abbrev pub IsLowestChange : ℕ → OverlayState → Type 0
IsLowestChange k o = All (λ change. k ≤ change.0) o.pending

module _ {U : Type 0} where
  -- whether the view sees the element
  abbrev pub seen_in : LenView → TreeElement U → Bool
  seen_in view e = sees_in view e.stamps

  -- whether its insertion is pending
  abbrev pub is_pending : TreeElement U → Bool
  is_pending e = not (is_acked e.stamps.ins)

  -- whether its insertion is sequenced and no removal of it is
  abbrev pub is_unremoved : TreeElement U → Bool
  is_unremoved e = is_present is_acked e.stamps

  -- the element with this change of its stamps
  abbrev pub with_stamps : (ElementStamps → ElementStamps) → TreeElement U → TreeElement U
  with_stamps f e = record e { stamps = f e.stamps }

  -- the element with this change of its properties
  abbrev pub with_overlay : (OverlayState → OverlayState) → TreeElement U → TreeElement U
  with_overlay f e = record e { overlay = f e.overlay }

  -- the element after stage k was acknowledged under number s of connection c, where `author` is what such a message makes
  -- of its author
  abbrev pub acked_element : ℕ → ℕ → ℕ → Option Stamp → TreeElement U → TreeElement U
  acked_element k s c author e = record {
    unit = e.unit;
    stamps = acked_stamps k s c e.stamps;
    by = cond (is_of_stage k e.stamps.ins) author e.by;
    overlay = after_ack k e.overlay;
  }

  -- the element that is u, with these stamps, author and properties
  abbrev pub element_with : ElementStamps → Option Stamp → OverlayState → U → TreeElement U
  element_with stamps by overlay u = record { unit = u; stamps = stamps; by = by; overlay = overlay }

  -- elements side by side, all with the same stamps, author and properties
  abbrev pub elements_with : ElementStamps → Option Stamp → OverlayState → List U → List (TreeElement U)
  elements_with stamps by overlay us = map (element_with stamps by overlay) us

  -- new elements, which nobody has removed or changed
  abbrev pub new_elements : Stamp → Option Stamp → PropertyList → List U → List (TreeElement U)
  new_elements ins by props us = elements_with (record { ins = ins; dels = [] }) by (record { acked = props; pending = [] }) us
