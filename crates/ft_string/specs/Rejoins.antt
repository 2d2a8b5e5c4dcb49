-- What of the pending operations of a shared text is sent again, and what stays pending. No public clause cites this module.
use Rattle.std.specs.Prelude.{◌≡◌, ◌≤◌, ℕ, Bool, true, false, cond, nat_lt, List, [], ◌∷◌, ◌++◌, Option, Some, None, filter, flat_map, map, option_map}
use Rattle.ft_base.specs.Scan.{len}
use Rattle.ft_block.specs.declared.leaves.LenView.TheVariants.{Stage as at_stage}
use Rattle.ft_interval_store.specs.Ends.{map_ends}
use Rattle.ft_tree_leaves.specs.Elements.{seen_in}
use Rattle.ft_interval_store.specs.Shown.{regenerated, settled_end}
use Rattle.std.specs.List.{list_any}
use Rattle.ft_interval_store.specs.State.{CollectionsState, KeepsReferences, is_at_stage, operation_at, placed, text_elements, with_ends_at}
use Rattle.ft_tree_leaves.specs.declared.text.TextContent.{TextContent}
use Rattle.ft_op.specs.declared.operations.BaseOp.{BaseOp}
use Rattle.ft_op.specs.declared.operations.BaseOp.TheVariants.{Insert, Remove, Annotate}
use Rattle.ft_op.specs.declared.operations.TextOp.{TextOp}
use Rattle.ft_op.specs.declared.operations.TextOp.TheVariants.{One, Group}
use Rattle.ft_rebase.specs.declared.pieces.Piece.{Piece}
use Rattle.ft_rebase.specs.declared.pieces.Piece.TheVariants as piece
use Rattle.ft_rebase.specs.Pieces.{pieces}
use Rattle.ft_tree.specs.State.{TreeState}
use Rattle.ft_text.specs.Texts.{TextElements}
use Rattle.ft_string.specs.declared.pending.PendingOp.{PendingOp}

-- from where to where a piece is; an insertion is at one place
abbrev pub piece_ends : Piece → ℕ × ℕ
piece_ends (piece.Insert p) = (p, p)
piece_ends (piece.Remove p q) = (p, q)
piece_ends (piece.Annotate p q) = (p, q)

-- the operation at the place of its piece
abbrev pub piece_op : BaseOp → Piece → BaseOp
piece_op (Insert p seg props) part = Insert (piece_ends part).0 seg props
piece_op (Remove p q) part = Remove (piece_ends part).0 (piece_ends part).1
piece_op (Annotate p q changes) part = Annotate (piece_ends part).0 (piece_ends part).1 changes

-- the operations as which a pending one is sent again
abbrev pub again_of : TextElements → PendingOp → List BaseOp
again_of xs t = map (piece_op t.op) (pieces t.stage xs)

-- whether the list has something
abbrev pub has_any : {A : Type 0} → List A → Bool
has_any [] = false
has_any (x ∷ xs) = true

-- whether something of a pending operation is sent again
abbrev pub has_piece : TextElements → PendingOp → Bool
has_piece xs t = has_any (pieces t.stage xs)

-- the operations at the front of stages below the end, and those behind
abbrev pub due : ℕ → List PendingOp → List PendingOp
due end [] = []
due end (t ∷ ts) = cond (nat_lt t.stage end) (t ∷ due end ts) []

abbrev pub left_over : ℕ → List PendingOp → List PendingOp
left_over end [] = []
left_over end (t ∷ ts) = cond (nat_lt t.stage end) (left_over end ts) (t ∷ ts)

-- the first operation, if it is due, and those behind it
abbrev pub NextDue : ℕ → List PendingOp → List PendingOp → Option PendingOp → Type 0
NextDue end old new None = (due end old ≡ []) × (new ≡ old)
NextDue end old new (Some t) = (old ≡ t ∷ new) × (nat_lt t.stage end ≡ true)

-- one operation of some: one bare, several as a group, none for none
abbrev pub one_of : List BaseOp → Option TextOp
one_of [] = None
one_of (op ∷ []) = Some (One op)
one_of (op ∷ more ∷ ops) = Some (Group (op ∷ more ∷ ops))

-- operations on elements are given: those of stages below the end
pub record GivesOps (xs : TextElements) (end : ℕ) (ops rest before kept : List PendingOp) (sent : List BaseOp) : Type 0 where
  pub sends : sent ≡ flat_map (again_of xs) (due end ops)
  pub rest_is : rest ≡ left_over end ops
  pub keeps : kept ≡ before ++ filter (has_piece xs) (due end ops)

-- an operation on an interval is given: its ends are settled
pub record GivesInterval (k : ℕ) (old new : TreeState TextContent) (before after : CollectionsState) (op : TextOp) : Type 0 where
  pub sends : Some op ≡ option_map (λ t. regenerated (text_elements old) k (map_ends (settled_end (text_elements old) k) t.ends) t.op) (operation_at k (placed old.refs before).pending)
  pub settles : placed new.refs after ≡ with_ends_at k (map_ends (settled_end (text_elements old) k)) (placed old.refs before)
  pub refs : KeepsReferences before after old.refs new.refs
  pub leaves : new ≡ record old { refs = new.refs }
  pub few : len (seen_in (at_stage k)) (text_elements old) ≤ 9223372036854775807

-- what is given of the stages from `first` up to before `end`: an operation on an interval, if one of the first stage is pending, and
-- else operations on elements
pub record Gives (first end : ℕ) (old new : TreeState TextContent) (before after : CollectionsState) (ops rest again kept : List PendingOp)
    (op : Option TextOp) : Type 0 where
  pub interval : list_any (is_at_stage first) before.pending ≡ true
      → (one : TextOp) × (op ≡ Some one) × GivesInterval first old new before after one × (rest ≡ ops) × (kept ≡ again)
  pub elements : list_any (is_at_stage first) before.pending ≡ false
      → (sent : List BaseOp) × (op ≡ one_of sent) × GivesOps (text_elements old) end ops rest again kept sent × (new ≡ old) × (after ≡ before)
