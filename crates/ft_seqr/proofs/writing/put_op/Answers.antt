use Rattle.ft_seqr.proofs.writing.put_op.Goals as goal

pub returns-clause-op : goal.returns-clause-op
returns-clause-op c = c.in_ok-value.ensures.representable
