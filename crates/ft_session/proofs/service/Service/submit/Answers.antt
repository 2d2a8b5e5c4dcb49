-- What the sequencer told goes into the log.
use Rattle.std.proofs.Common.{◌∙◌}
use Rattle.ft_session.proofs.ServiceSteps.{submit-told}
use Rattle.ft_session.proofs.service.Service.submit.Goals as goal

pub returns : goal.returns
returns c w h =
    let (v, e, k) = submit-told c.args.conn c.args.draft _ c.take.new.self c.in_ok-entry.entry c.in_ok-entry.ensures.ok w (c.self.view_is ∙ h) in
    (v, e, c.in_ok-log_entry.ensures ∙ k)
