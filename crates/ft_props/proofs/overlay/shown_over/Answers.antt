use Rattle.std.proofs.Common.{sym, ◌∙◌, ap}
use Rattle.ft_props.specs.Properties.{shown_props}
use Rattle.ft_props.proofs.PendingStages.{shown_props-append}
use Rattle.ft_props.proofs.overlay.shown_over.Goals as goal

pub returns : goal.returns
returns c =
    let front = c.args.front.now in
    let back = c.args.back.now in
    c.in_ok-make_all_changes-2.ensures ∙ ap (λ p. shown_props p back) (c.in_ok-make_all_changes.ensures ∙ ap (λ p. shown_props p front) c.in_ok-shown.ensures)
    ∙ sym (shown_props-append c.args.acked.now front back)
