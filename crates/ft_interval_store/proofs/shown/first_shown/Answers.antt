use Rattle.std.proofs.Common.{sym, ◌∙◌, ap}
use Rattle.std.specs.Prelude.{option_copied}
use Rattle.ft_interval_store.specs.Intervals.{Name}
use Rattle.ft_interval_store.proofs.KeptEnds.{live-named}
use Rattle.ft_interval_store.proofs.shown.first_shown.Goals as goal

pub settled-requires-clause-live : goal.settled-requires-clause-live
settled-requires-clause-live c =
    let n : Name = (c.args.label.now, c.args.id.now) in
    live-named c.args.tree.now.refs n c.args.acked.now c.in_ok-i.i.now c.requires.live (sym c.get.ensures ∙ ap (λ o. option_copied o) c.in_ok-i.was)
