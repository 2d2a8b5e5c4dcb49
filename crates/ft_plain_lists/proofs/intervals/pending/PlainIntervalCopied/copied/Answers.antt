use Rattle.std.proofs.Common.{◌∙◌, ap, sym}
use Rattle.ft_op.specs.Intervals.{Interval}
use Rattle.ft_plain_lists.proofs.intervals.pending.PlainIntervalCopied.copied.Goals as goal

pub returns : goal.returns
returns c =
    let parts = c.in_ok-label.ensures in
    let inside = sym c.self.view_is in
    let label = parts.label ∙ ap (λ (i : Interval). i.label) inside in
    let id = parts.id ∙ ap (λ (i : Interval). i.id) inside in
    let props = parts.props ∙ ap (λ (i : Interval). i.props) inside in
    rw (label, id, props) c.self.view_is
