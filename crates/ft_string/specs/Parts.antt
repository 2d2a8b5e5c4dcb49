-- A tree, the intervals on it, and the pending operations on its elements, as parts of a shared text. No public clause cites this
-- module.
use Rattle.std.specs.Prelude.{◌≡◌, ℕ, zero, suc, ◌+◌, ◌<◌, ◌≤◌, Bool, false, IsTrue, List, [], ◌∷◌, None, length, map}
use Rattle.ft_base.specs.declared.stamps.Stamp.TheVariants.{Acked, Local}
use Rattle.ft_base.specs.Scan.{change_range, len, no_run, put}
use Rattle.ft_block.specs.declared.leaves.LenView.TheVariants.{At}
use Rattle.ft_base.specs.declared.elements.Perspective.{Perspective}
use Rattle.ft_block.specs.Leaves.{last_stage}
use Rattle.ft_interval_store.specs.State.{CollectionsState, IsLive, IsMarked, keeps, placed_intervals, placed_operations, text_elements}
use Rattle.ft_tree_leaves.specs.declared.references.Reference.{Reference}
use Rattle.ft_tree_leaves.specs.declared.text.TextContent.{TextContent}
use Rattle.ft_tree_leaves.specs.Edits.{with_place}
use Rattle.ft_tree_leaves.specs.Elements.{is_pending, new_elements, removed_stamps, seen_in, with_overlay, with_stamps}
use Rattle.ft_tree_leaves.specs.Places.{put_place, shifted_place}
use Rattle.ft_tree_leaves.specs.References.{ChangesReferences, reference_at, slid_reference}
use Rattle.ft_tree_leaves.specs.TextLeaves.{text_author}
use Rattle.ft_op.specs.declared.operations.BaseOp.{BaseOp}
use Rattle.ft_op.specs.declared.operations.BaseOp.TheVariants.{Insert, Remove, Annotate}
use Rattle.ft_op.specs.Operation.{segment_contents}
use Rattle.ft_props.specs.Overlay.{after_acked_changes, after_pending_changes}
use Rattle.ft_props.specs.Properties.{apply}
use Rattle.ft_tree.specs.State.{KeepsRest, TreeState}
use Rattle.ft_named.specs.Bare.{bare}
use Rattle.ft_text.specs.Lengths.{end_of, put_in_by}
use Rattle.ft_text.specs.Texts.{TextElements}
use Rattle.ft_string.specs.Bare.{text_content}
use Rattle.ft_string.specs.State.{TextState, element_stage, interval_stage, interval_with_places}
use Rattle.ft_string.specs.declared.pending.PendingOp.{PendingOp}

-- what is seen of a text with these parts
abbrev pub state_of : TreeState TextContent → CollectionsState → List PendingOp → ℕ → Bool → TextState
state_of tree c ops given usable = record {
  elements = map (bare text_content) (text_elements tree);
  made = tree.made;
  depth = tree.depth;
  intervals = map interval_with_places (placed_intervals tree.refs c.acked);
  ops = map element_stage ops;
  interval_ops = map interval_stage (placed_operations tree.refs c.pending);
  floor = tree.floor;
  given = given;
  usable = usable;
  tree = tree;
}

-- the tree may be used; the references that the intervals keep are live and marked, and there are no others
pub record AreSound (t : TreeState TextContent) (c : CollectionsState) : Type 0 where
  pub tree : IsTrue t.usable
  pub live : IsLive t.refs c
  pub marked : IsMarked t.refs c
  pub only : (r : ℕ) → keeps r c ≡ false → reference_at t.refs r ≡ None

-- ---- an operation of the client's own, at a pending stage

-- the elements after it
abbrev pub taken_elements : ℕ → BaseOp → TextElements → TextElements
taken_elements k (Insert p seg props) xs =
    put (seen_in last_stage) no_run p (new_elements (Local k) None (apply [] props) (segment_contents seg)) xs
taken_elements k (Remove p q) xs = change_range (seen_in last_stage) p q (with_stamps (removed_stamps (Local k))) xs
taken_elements k (Annotate p q changes) xs = change_range (seen_in last_stage) p q (with_overlay (after_pending_changes k changes)) xs

-- the place of an element after it
abbrev pub taken_place : BaseOp → TextElements → ℕ → ℕ
taken_place (Insert p seg props) xs i = shifted_place (put_place (seen_in last_stage) no_run p xs) (length (segment_contents seg)) i
taken_place _ xs i = i

-- it is taken by a tree
pub record TakesOp (k : ℕ) (op : BaseOp) (old new : TreeState TextContent) : Type 0 where
  pub elements : text_elements new ≡ taken_elements k op (text_elements old)
  pub refs : ChangesReferences (with_place (taken_place op (text_elements old))) old.refs new.refs
  pub rest : KeepsRest old new
  pub made : new.made ≡ old.made + put_in_by op

-- operations are taken one after another, each at the next stage
abbrev pub TakesOps : ℕ → List BaseOp → TreeState TextContent → TreeState TextContent → Type 0
TakesOps k [] old new = new ≡ old
TakesOps k (op ∷ ops) old new = (mid : TreeState TextContent) × (TakesOp k op old mid × TakesOps (k + 1) ops mid new)

-- they are noted as pending
abbrev pub noted : ℕ → List BaseOp → List PendingOp
noted k [] = []
noted k (op ∷ ops) = record { stage = k; op = op } ∷ noted (k + 1) ops

-- ---- a sequenced operation of another client

-- the elements after it
abbrev pub applied_elements : ℕ → Perspective → BaseOp → TextElements → TextElements
applied_elements s at (Insert p seg props) xs =
    put (seen_in (At at)) is_pending p (new_elements (Acked s at.c) (text_author s at.c) (apply [] props) (segment_contents seg)) xs
applied_elements s at (Remove p q) xs = change_range (seen_in (At at)) p q (with_stamps (removed_stamps (Acked s at.c))) xs
applied_elements s at (Annotate p q changes) xs = change_range (seen_in (At at)) p q (with_overlay (after_acked_changes changes)) xs

-- what it makes of a reference: that keeps its element, or slides after a removal
abbrev pub applied_reference : ℕ → Perspective → BaseOp → TextElements → Reference → Reference
applied_reference s at (Insert p seg props) xs x =
    with_place (shifted_place (put_place (seen_in (At at)) is_pending p xs) (length (segment_contents seg))) x
applied_reference s at (Remove p q) xs x = slid_reference (applied_elements s at (Remove p q) xs) x
applied_reference s at (Annotate p q changes) xs x = x

-- it is applied to a tree
pub record AppliesOp (s : ℕ) (at : Perspective) (op : BaseOp) (old new : TreeState TextContent) : Type 0 where
  pub elements : text_elements new ≡ applied_elements s at op (text_elements old)
  pub refs : ChangesReferences (applied_reference s at op (text_elements old)) old.refs new.refs
  pub rest : KeepsRest old new
  pub made : new.made ≡ old.made + put_in_by op

-- an operation of a message takes effect, or it is out of range and counts as skipped
abbrev pub TriesOp : ℕ → Perspective → BaseOp → ℕ → TreeState TextContent → TreeState TextContent → Type 0
TriesOp s at op zero old new = (end_of op ≤ len (seen_in (At at)) (text_elements old)) × AppliesOp s at op old new
TriesOp s at op (suc n) old new = (len (seen_in (At at)) (text_elements old) < end_of op) × (n ≡ 0) × (new ≡ old)

-- operations of a message one after another, of which so many are skipped
abbrev pub TriesOps : ℕ → Perspective → List BaseOp → ℕ → TreeState TextContent → TreeState TextContent → Type 0
TriesOps s at [] n old new = (n ≡ 0) × (new ≡ old)
TriesOps s at (op ∷ ops) n old new =
    (mid : TreeState TextContent) × (first : ℕ) × (rest : ℕ) × (TriesOp s at op first old mid × TriesOps s at ops rest mid new × (n ≡ first + rest))
