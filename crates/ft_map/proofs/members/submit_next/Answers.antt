-- The draft isn't refused.
use Rattle.std.proofs.Common.{◌∙◌, sym}
use Rattle.ft_map.proofs.Submitting.{one-taken}
use Rattle.ft_map.proofs.members.submit_next.Goals as goal

pub submit-requires : goal.submit-requires
submit-requires c = one-taken c.args.conn c.args.client.now.queue c.in-Some.field-0 c.args.service.now (sym c.take_outgoing.ensures.oldest ∙ c.in-Some.is) c.requires
