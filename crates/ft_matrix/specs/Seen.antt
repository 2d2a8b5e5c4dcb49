-- Which handles are seen, as runs that stand beside one another, and the cells by the places of their handles. No public clause cites
-- this module.
use Rattle.std.specs.Prelude.{◌≡◌, ◌<◌, ◌≤◌, ◌+◌, ◌-◌, ◌^◌, ℕ, cond, List, [], ◌∷◌, ◌++◌, Option, Some, None, length, option_and_then, slice_get}
use Rattle.std.specs.List.{list_any}
use Rattle.std.specs.BTreeMap as tree
use Rattle.std.specs.BTreeMap.{BTreeMap}
use Rattle.std.specs.Ordering.{nat_cmp, ordering_then}
use Rattle.std.specs.declared.cmp.Ordering.{Ordering}
use Rattle.ft_block.specs.Leaves.{last_stage, sees_in}
use Rattle.ft_tree_leaves.specs.declared.leaves.TreeLeaf.{TreeLeaf}
use Rattle.ft_sumdoc.specs.declared.summary.CellRec.{CellRec}
use Rattle.ft_props.specs.Properties.{ValueBytes}
use Rattle.ft_cells.specs.declared.cells.CellKey.{CellKey}
use Rattle.ft_cells.specs.CellTables.{CellList, cell_at, is_key, shown_value}
use Rattle.ft_perm.specs.Handles.{HandleRun, handles_of}
use Rattle.ft_perm.specs.Vectors.{seen_handles}
use Rattle.ft_matrix.specs.declared.grid.Grid.{Grid}
use Rattle.ft_matrix.specs.declared.seen.SeenRun.{SeenRun}
use Rattle.ft_matrix.specs.declared.seen.SeenRuns.{SeenRuns}
use Rattle.ft_matrix.specs.Units.{placed_cells}

-- the handles of a leaf that the local view sees: all or none
abbrev pub seen_in_leaf : TreeLeaf HandleRun → List ℕ
seen_in_leaf x = cond (sees_in last_stage x.stamps) (handles_of x.content) []

-- each handle stands at one place
abbrev pub StandOnce : List ℕ → Type 0
StandOnce hs = (i j h : ℕ) → slice_get hs i ≡ Some h → slice_get hs j ≡ Some h → i ≡ j

-- the handle is one of a run that ends with `last`
pub record IsCovered (runs : BTreeMap ℕ SeenRun) (h : ℕ) : Type 0 where
  pub last : ℕ
  pub run : SeenRun
  pub is : tree.get nat_cmp runs last ≡ Some run
  pub from : run.first ≤ h
  pub to : h ≤ last

-- the runs are of these handles, each at its place, and no two runs have one in common
pub record HoldsRuns (hs : List ℕ) (r : SeenRuns) : Type 0 where
  pub count : r.count ≡ length hs
  pub few : length hs < 2 ^ 64
  pub once : StandOnce hs
  pub rises : (last : ℕ) (run : SeenRun) → tree.get nat_cmp r.runs last ≡ Some run → run.first ≤ last
  pub stands : (last : ℕ) (run : SeenRun) → tree.get nat_cmp r.runs last ≡ Some run → (h : ℕ) → run.first ≤ h → h ≤ last
      → slice_get hs (run.place + (h - run.first)) ≡ Some h
  pub covered : (i h : ℕ) → slice_get hs i ≡ Some h → IsCovered r.runs h
  pub apart : (l m : ℕ) (x y : SeenRun) → tree.get nat_cmp r.runs l ≡ Some x → tree.get nat_cmp r.runs m ≡ Some y → y.first ≤ l → l ≤ m → l ≡ m

-- the place of the handle, or that it has none
abbrev pub PlacesHandle : List ℕ → ℕ → Option ℕ → Type 0
PlacesHandle hs h (Some i) = slice_get hs i ≡ Some h
PlacesHandle hs h None = (i : ℕ) → slice_get hs i ≡ Some h → ⊥

-- ---- cells

-- by row, and then by column
abbrev pub place_cmp : ℕ × ℕ → ℕ × ℕ → Ordering
place_cmp x y = ordering_then (nat_cmp x.0 y.0) (nat_cmp x.1 y.1)

-- the value of two handles at the places i and j, if there are such
abbrev pub value_at : (ℕ → ℕ → Option ValueBytes) → List ℕ → List ℕ → ℕ → ℕ → Option ValueBytes
value_at value rows cols i j = option_and_then (λ r. option_and_then (λ c. value r c) (slice_get cols j)) (slice_get rows i)

-- the shown value of the cell of two handles
abbrev pub shown_at : CellList → ℕ → ℕ → Option ValueBytes
shown_at cells row col = shown_value (cell_at cells row col)

-- the same, if the keys have the cell
abbrev pub shown_among : List CellKey → CellList → ℕ → ℕ → Option ValueBytes
shown_among keys cells row col = cond (list_any (is_key row col) keys) (shown_at cells row col) None

-- at each two places stands the value of their handles
abbrev pub ArePlaced : (ℕ → ℕ → Option ValueBytes) → List ℕ → List ℕ → BTreeMap (ℕ × ℕ) ValueBytes → Type 0
ArePlaced value rows cols placed = (i j : ℕ) → tree.get place_cmp placed (i, j) ≡ value_at value rows cols i j

-- the cell of a key is one more of those that have their shown value at their place
abbrev pub PlacesCell : CellList → SeenRuns → SeenRuns → CellKey → BTreeMap (ℕ × ℕ) ValueBytes → BTreeMap (ℕ × ℕ) ValueBytes → Type 0
PlacesCell cells rows cols key old new = (hs gs : List ℕ) (keys : List CellKey) → HoldsRuns hs rows → HoldsRuns gs cols
    → ArePlaced (shown_among keys cells) hs gs old → ArePlaced (shown_among (keys ++ key ∷ []) cells) hs gs new

-- an entry as a cell
abbrev pub cell_of : (ℕ × ℕ) × ValueBytes → CellRec
cell_of e = record { row = e.0.0; col = e.0.1; value = e.1 }

-- the cells that are shown, by the places of the handles that are seen
abbrev pub shown_cells : Grid → List CellRec
shown_cells g = placed_cells (shown_at g.cells) (seen_handles last_stage g.cols.tree) 0 (seen_handles last_stage g.rows.tree)
