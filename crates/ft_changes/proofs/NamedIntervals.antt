-- Whether an operation is on an interval, by its sub-operations.
use Rattle.std.proofs.Common.{◌≡◌, Bool, true, false, ◌||◌, List, [], ◌∷◌, map, refl}
use Rattle.ft_op.specs.declared.operations.BaseOp.{BaseOp}
use Rattle.ft_op.specs.declared.operations.CellOp.{CellOp}
use Rattle.ft_op.specs.declared.operations.ChannelOp.TheVariants.{Grid, Text}
use Rattle.ft_op.specs.declared.operations.GridOp.{GridOp}
use Rattle.ft_op.specs.declared.operations.GridOp.TheVariants as grid
use Rattle.ft_op.specs.declared.operations.TextOp.{TextOp}
use Rattle.ft_op.specs.declared.operations.TextOp.TheVariants.{Group, IntervalAdd, IntervalChange, IntervalDelete, One}
use Rattle.ft_op.specs.Operation.{OnGrid, OnText, sub_operations}
use Rattle.ft_sumdoc.specs.declared.summary.IntervalRec.{IntervalRec}
use Rattle.ft_changes.specs.Beside.{is_changed_by, is_operation_on}

alone : (b : Bool) → b ≡ b || false
alone true = refl
alone false = refl

none-of-texts : (ops : List BaseOp) (i : IntervalRec) → false ≡ is_changed_by (map (λ op. OnText op) ops) i
none-of-texts [] i = refl
none-of-texts (op ∷ ops) i = none-of-texts ops i

none-of-cells : (ops : List CellOp) (i : IntervalRec) → false ≡ is_changed_by (map (λ op. OnGrid op) ops) i
none-of-cells [] i = refl
none-of-cells (op ∷ ops) i = none-of-cells ops i

pub changed_by_text : (op : TextOp) (i : IntervalRec) → is_operation_on op i ≡ is_changed_by (sub_operations (Text op)) i
changed_by_text (One op) i = refl
changed_by_text (Group ops) i = none-of-texts ops i
changed_by_text (IntervalAdd label id ends props) i = alone (is_operation_on (IntervalAdd label id ends props) i)
changed_by_text (IntervalChange label id ends props) i = alone (is_operation_on (IntervalChange label id ends props) i)
changed_by_text (IntervalDelete label id) i = alone (is_operation_on (IntervalDelete label id) i)

pub changed_by_grid : (op : GridOp) (i : IntervalRec) → false ≡ is_changed_by (sub_operations (Grid op)) i
changed_by_grid (grid.One op) i = refl
changed_by_grid (grid.Group ops) i = none-of-cells ops i
