use Rattle.std.proofs.Common.{◌≡◌, ◌∙◌, Some, ap, length, nat_eq, sym, vec_len}
use Rattle.ft_laws_agreement.proofs.SlidEnds.{true-false}
use Rattle.ft_op.specs.declared.operations.ChannelOp.TheVariants.{Grid}
use Rattle.ft_op.specs.declared.operations.GridOp.TheVariants.{Group}
use Rattle.ft_matrix.proofs.SentPieces.{group-of}
use Rattle.ft_matrix.proofs.reconnection.op_of.Goals as goal

pub returns : goal.returns
returns c =
    let size : vec_len c.args.pieces ≡ length c.args.pieces.items = c.args.pieces.ok.0 in
    ap (λ g. Some (Grid (Group g))) c.of.ensures
    ∙ sym (group-of c.args.pieces.items (λ e. c.if-len-eq1.false (c.len.ensures ∙ size ∙ e))
    (λ e. true-false (sym (ap (λ n. nat_eq n 0) (size ∙ e)) ∙ sym c.is_empty.ensures ∙ c.if-is_empty.false)))
