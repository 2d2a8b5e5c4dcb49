use Rattle.std.proofs.Common.{◌≡◌, ◌≤◌, Ok, Result, ap, arith}
use Rattle.serde_json.specs.Data.{depth}
use Rattle.ft_json.proofs.Back.{one_value}
use Rattle.ft_op.specs.declared.operations.GridOp.{GridOp}
use Rattle.ft_op.specs.declared.operations.ChannelOp.TheVariants.{Grid}
use Rattle.ft_op.specs.declared.operations.OpFault.{OpFault}
use Rattle.ft_op.specs.GridGrammar.{grid_op}
use Rattle.ft_op.specs.Written.{written_grid_op}
use Rattle.ft_op.proofs.CanonicalOperations.{canonical_op}
use Rattle.ft_op.proofs.LevelsOfOperations.{op_levels}
use Rattle.ft_op.proofs.ReadGrid.{grid_op_back}
use Rattle.ft_op.proofs.laws.grid_operations_are_read_back.Goals as goal

pub returns-clause-read_back : goal.returns-clause-read_back
returns-clause-read_back c = grid_op_back

same_op : (a b : GridOp) (r s : Result GridOp OpFault) → r ≡ Ok a → s ≡ Ok b → r ≡ s → a ≡ b
same_op a b r s h g e = cc

pub returns-clause-tell_apart : goal.returns-clause-tell_apart
returns-clause-tell_apart c = λ a b ha hb same.
    let deep : depth (written_grid_op a) ≤ 127 = omega (arith, op_levels (Grid a) ha) in
    let steep : depth (written_grid_op b) ≤ 127 = omega (arith, op_levels (Grid b) hb) in
    let values = one_value _ _ (canonical_op (Grid a) tt ha) (canonical_op (Grid b) tt hb) deep steep same in
    same_op a b _ _ (grid_op_back a ha) (grid_op_back b hb) (ap grid_op values)
