-- What is sent again of a pending stage: pieces whose positions are those of now.
use Rattle.std.specs.Prelude.{ℕ, ◌-◌, Bool, cond, nat_eq, List, ◌++◌, Option, Some, None, map, option_map}
use Rattle.std.specs.List.{list_any}
use Rattle.std.specs.Option.{option_to_list}
use Rattle.ft_base.specs.Scan.{rank}
use Rattle.ft_base.specs.Visibility.{is_of_stage}
use Rattle.ft_block.specs.declared.leaves.LenView.TheVariants.{Stage}
use Rattle.ft_tree_leaves.specs.declared.leaves.TreeLeaf.{TreeLeaf}
use Rattle.ft_tree_leaves.specs.Elements.{TreeElement, seen_in}
use Rattle.ft_props.specs.Steps.{lowered_runs}
use Rattle.ft_rebase.specs.MarkedRuns.{marked_runs_from}
use Rattle.ft_rebase.specs.declared.marks.PendingMark.{PendingMark}
use Rattle.ft_rebase.specs.declared.marks.PendingMark.TheVariants.{Removal, Changes}
use Rattle.ft_rebase.specs.declared.pieces.Piece.{Piece}
use Rattle.ft_rebase.specs.declared.pieces.Piece.TheVariants.{Insert, Remove, Annotate}

module _ {U : Type 0} where
  -- whether stage k inserted the element
  abbrev pub is_inserted_by : ℕ → TreeElement U → Bool
  is_inserted_by k e = is_of_stage k e.stamps.ins

  -- whether stage k has this mark on the element: a removal, or changes
  abbrev pub has_mark : PendingMark → ℕ → TreeElement U → Bool
  has_mark Removal k e = list_any (is_of_stage k) e.stamps.dels
  has_mark Changes k e = list_any (λ c. nat_eq c.0 k) e.overlay.pending

  -- how many elements seen at the stage before stand left of the first one of stage k, if there is one
  abbrev pub insertion_position : ℕ → List (TreeElement U) → Option ℕ
  insertion_position k xs = cond (list_any (is_inserted_by k) xs) (Some (rank (is_inserted_by k) (seen_in (Stage (k - 1))) xs)) None

  -- the maximal runs of elements with this mark in the view of the stage before k
  abbrev pub marked_runs : ℕ → PendingMark → List (TreeElement U) → List (ℕ × ℕ)
  marked_runs k mark xs = marked_runs_from 0 (seen_in (Stage (k - 1))) (has_mark mark k) xs

  -- an insertion of stage k where its elements stand; none where it has no elements
  abbrev pub insertion_pieces : ℕ → List (TreeElement U) → List Piece
  insertion_pieces k xs = option_to_list (option_map Insert (insertion_position k xs))

  -- a removal of each run that stage k marks as removed, with positions as after the earlier ones
  abbrev pub removal_pieces : ℕ → List (TreeElement U) → List Piece
  removal_pieces k xs = map (λ r. Remove r.0 r.1) (lowered_runs 0 (marked_runs k Removal xs))

  -- an annotation of each run of which stage k has changes
  abbrev pub annotation_pieces : ℕ → List (TreeElement U) → List Piece
  annotation_pieces k xs = map (λ r. Annotate r.0 r.1) (marked_runs k Changes xs)

  -- the pieces of stage k, which is an insertion, a removal or an annotation
  abbrev pub pieces : ℕ → List (TreeElement U) → List Piece
  pieces k xs = insertion_pieces k xs ++ removal_pieces k xs ++ annotation_pieces k xs

-- whether stage k has this mark on the elements of a leaf
abbrev pub leaf_has_mark : {C : Type 0} → PendingMark → ℕ → TreeLeaf C → Bool
leaf_has_mark Removal k x = list_any (is_of_stage k) x.stamps.dels
leaf_has_mark Changes k x = list_any (λ c. nat_eq c.0 k) x.overlay.pending
