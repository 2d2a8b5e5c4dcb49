use Rattle.std.proofs.Common.{◌≡◌, ◌≤◌, Ok, Result, ap, arith}
use Rattle.serde_json.specs.Data.{depth}
use Rattle.ft_json.proofs.Back.{one_value}
use Rattle.ft_op.specs.declared.operations.TextOp.{TextOp}
use Rattle.ft_op.specs.declared.operations.ChannelOp.TheVariants.{Text}
use Rattle.ft_op.specs.declared.operations.OpFault.{OpFault}
use Rattle.ft_op.specs.TextGrammar.{text_op}
use Rattle.ft_op.specs.Written.{written_text_op}
use Rattle.ft_op.proofs.CanonicalOperations.{canonical_op}
use Rattle.ft_op.proofs.LevelsOfOperations.{op_levels}
use Rattle.ft_op.proofs.ReadText.{text_op_back}
use Rattle.ft_op.proofs.laws.text_operations_are_read_back.Goals as goal

pub returns-clause-read_back : goal.returns-clause-read_back
returns-clause-read_back c = text_op_back

same_op : (a b : TextOp) (r s : Result TextOp OpFault) → r ≡ Ok a → s ≡ Ok b → r ≡ s → a ≡ b
same_op a b r s h g e = cc

pub returns-clause-tell_apart : goal.returns-clause-tell_apart
returns-clause-tell_apart c = λ a b ra rb ha hb same.
    let deep : depth (written_text_op a) ≤ 127 = omega (arith, op_levels (Text a) ha) in
    let steep : depth (written_text_op b) ≤ 127 = omega (arith, op_levels (Text b) hb) in
    let values = one_value _ _ (canonical_op (Text a) ra ha) (canonical_op (Text b) rb hb) deep steep same in
    same_op a b _ _ (text_op_back a ra ha) (text_op_back b rb hb) (ap text_op values)
