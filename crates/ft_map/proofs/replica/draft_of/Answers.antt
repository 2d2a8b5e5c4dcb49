use Rattle.std.specs.Str.{chars}
use Rattle.ft_map.proofs.Submitting.{made-draft}
use Rattle.ft_map.proofs.replica.draft_of.Goals as goal

pub returns : goal.returns
unfolding chars
returns c = made-draft c.args.n c.args.ref_seq c.in_ok-form.form c.args.op.now c.in_ok-op.op c.in_ok-form.ensures c.in_ok-op.ensures
