-- How the shown elements of a text change with operations on it, by the elements of a tree. No public clause cites this module.
use Rattle.std.specs.Prelude.{ℕ, ◌+◌, cond, nat_le, List, [], ◌∷◌, ◌++◌, map}
use Rattle.ft_base.specs.declared.elements.Perspective.{Perspective}
use Rattle.ft_base.specs.Scan.{len}
use Rattle.ft_block.specs.declared.leaves.LenView.TheVariants.{At}
use Rattle.ft_block.specs.Leaves.{last_stage}
use Rattle.ft_changes.specs.declared.changes.ViewChange.{ViewChange}
use Rattle.ft_changes.specs.declared.changes.ViewChange.TheVariants.{Put}
use Rattle.ft_changes.specs.ShownRuns.{changed_runs, gone_runs, place_of_insertion}
use Rattle.ft_changes.specs.Told.{styled_run, taken_run, unless_no_elements}
use Rattle.ft_op.specs.declared.operations.BaseOp.{BaseOp}
use Rattle.ft_op.specs.declared.operations.BaseOp.TheVariants.{Insert, Remove, Annotate}
use Rattle.ft_op.specs.Operation.{segment_contents}
use Rattle.ft_props.specs.Overlay.{after_acked_changes, after_pending_changes}
use Rattle.ft_props.specs.Properties.{apply}
use Rattle.ft_sumdoc.specs.WellFormed.{same_props}
use Rattle.ft_text.specs.Lengths.{end_of}
use Rattle.ft_text.specs.Texts.{TextElements}
use Rattle.ft_tree_changes.specs.ShownOverlays.{shown_of_element}
use Rattle.ft_tree_leaves.specs.Elements.{is_pending, seen_in, with_overlay}
use Rattle.ft_string.specs.Parts.{applied_elements, taken_elements}

-- ---- an operation of a message of another client, where what is pending is shown

-- one that is within range
abbrev pub told_within : Perspective → BaseOp → TextElements → List ViewChange
told_within at (Insert p seg props) xs =
    unless_no_elements (segment_contents seg) (Put (place_of_insertion (seen_in (At at)) is_pending (seen_in last_stage) p xs) seg (apply [] props))
told_within at (Remove p q) xs = map taken_run (gone_runs (seen_in (At at)) (seen_in last_stage) p q xs)
told_within at (Annotate p q changes) xs =
    map styled_run (changed_runs same_props shown_of_element (with_overlay (after_acked_changes changes)) (seen_in (At at))
    (seen_in last_stage) p q xs)

-- whether it is within range or not
abbrev pub told_of_op : Perspective → BaseOp → TextElements → List ViewChange
told_of_op at op xs = cond (nat_le (end_of op) (len (seen_in (At at)) xs)) (told_within at op xs) []

-- the elements after it
abbrev pub tried_elements : ℕ → Perspective → BaseOp → TextElements → TextElements
tried_elements s at op xs = cond (nat_le (end_of op) (len (seen_in (At at)) xs)) (applied_elements s at op xs) xs

-- operations one after another
abbrev pub told_of_ops : ℕ → Perspective → List BaseOp → TextElements → List ViewChange
told_of_ops s at [] xs = []
told_of_ops s at (op ∷ ops) xs = told_of_op at op xs ++ told_of_ops s at ops (tried_elements s at op xs)

-- ---- an operation of the client's own, at a pending stage

-- one that is within range
abbrev pub told_taken : ℕ → BaseOp → TextElements → List ViewChange
told_taken k (Insert p seg props) xs = unless_no_elements (segment_contents seg) (Put p seg (apply [] props))
told_taken k (Remove p q) xs = map taken_run (gone_runs (seen_in last_stage) (seen_in last_stage) p q xs)
told_taken k (Annotate p q changes) xs =
    map styled_run (changed_runs same_props shown_of_element (with_overlay (after_pending_changes k changes)) (seen_in last_stage)
    (seen_in last_stage) p q xs)

-- whether it is within range or not
abbrev pub told_of_own : ℕ → BaseOp → TextElements → List ViewChange
told_of_own k op xs = cond (nat_le (end_of op) (len (seen_in last_stage) xs)) (told_taken k op xs) []

-- operations one after another, each at the next stage
abbrev pub told_of_all_own : ℕ → List BaseOp → TextElements → List ViewChange
told_of_all_own k [] xs = []
told_of_all_own k (op ∷ ops) xs = told_of_own k op xs ++ told_of_all_own (k + 1) ops (taken_elements k op xs)
