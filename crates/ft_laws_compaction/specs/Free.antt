-- What may be left out of the lists of a client: an element that was removed at or below the floor carries nothing pending,
-- nothing names it, and it stands before no pending element.
use Rattle.std.specs.Prelude.{◌≡◌, ℕ, Bool, true, false, List, [], ◌∷◌, None}
use Rattle.ft_props.specs.Element.{ElementId, ListElement, id}
use Rattle.ft_props.specs.Compaction.{is_before_pending, is_collectable}
use Rattle.ft_msg.specs.Client.{NaiveClient, floor}
use Rattle.ft_msg.specs.Compacted.{holds_col, holds_row, holds_text}

-- the element has nothing pending on it, isn't held, and stands before no pending element, where these stand behind it
pub record IsFree (held : ElementId → Bool) (e : ListElement) (behind : List ListElement) : Type 0 where
  pub removal : e.removal_stage ≡ None
  pub changes : e.pending ≡ []
  pub name : held (id e) ≡ false
  pub next : is_before_pending behind ≡ false

-- each element that was removed at or below the floor is free
abbrev pub AreFree : ℕ → (ElementId → Bool) → List ListElement → Type 0
AreFree floor held [] = Unit {0}
AreFree floor held (e ∷ xs) = (is_collectable floor e ≡ true → IsFree held e xs) × AreFree floor held xs

-- in all three lists of the client
pub record HasFreeTombstones (x : NaiveClient) : Type 0 where
  pub text : AreFree (floor x) (holds_text x) x.doc.text.items
  pub rows : AreFree (floor x) (holds_row x) x.doc.rows.items
  pub cols : AreFree (floor x) (holds_col x) x.doc.cols.items
