use Rattle.std.proofs.Common.{◌≡◌, subst, sym, true}
use Rattle.ft_op.specs.declared.operations.ChannelOp.{ChannelOp}
use Rattle.ft_msg.specs.declared.messages.Body.TheVariants.{Op}
use Rattle.ft_changes.specs.Beside.{body_moves_ends_alike}
use Rattle.ft_client.proofs.Known.{held-sound}
use Rattle.ft_client.proofs.own.TreeOwn.operation_moves_ends_alike.Goals as goal

pub returns-in-Text : goal.returns-in-Text
returns-in-Text c = λ held named h alike.
    let k = c.requires.known in
    subst (λ (op : ChannelOp). body_moves_ends_alike held.doc c.args.at.c c.args.at.r (Op op) ≡ true) (sym c.in-Text.is)
    (c.moves_ends_alike.ensures held.last held.doc held.stages (held-sound k.start k.client k.made c.args.self.now k.low k.document held named h) h.text alike)
