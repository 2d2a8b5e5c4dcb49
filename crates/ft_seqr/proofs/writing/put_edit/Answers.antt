use Rattle.std.proofs.Common.{◌∙◌, ap, ap₂, codes}
use Rattle.std.proofs.lemmas.Result.{on_ok_weaker}
use Rattle.serde_json.specs.Data.{object, put}
use Rattle.ft_op.specs.Written.{written}
use Rattle.ft_seqr.proofs.WrittenMembers.{same_members}
use Rattle.ft_seqr.proofs.writing.put_edit.Goals as goal

pub returns-clause-value : goal.returns-clause-value
returns-clause-value c =
    on_ok_weaker c.put_op.result
    (λ e. ap object (e ∙ ap (put (codes "op") (written c.args.op.now))
    (c.in_ok-put_str.ensures ∙ ap₂ (put (codes "address")) c.address_of.ensures (same_members _ _ c.in_ok-put_client.ensures.value))))
    c.put_op.ensures.value

pub returns-clause-op : goal.returns-clause-op
returns-clause-op c = c.put_op.ensures.op
