use Rattle.std.proofs.Common.{sym, ◌∙◌, ap}
use Rattle.ft_interval_store.specs.Intervals.{Name}
use Rattle.ft_interval_store.specs.Shown.{is_there}
use Rattle.ft_interval_store.specs.State.{CollectionsState, is_shown, placed, text_elements}
use Rattle.ft_interval_store.proofs.ShownOne.{there-shown}
use Rattle.ft_interval_store.proofs.store.Store.has_shown.Goals as goal

pub returns : goal.returns
returns c = λ tree.
    let n : Name = (c.args.label.now, c.args.id.now) in
    let is = c.self.inside.acked in
    c.is_there.ensures
    ∙ ap (is_there n c.self.inside.pending.items) c.is_acked-acked.ensures
    ∙ sym (there-shown (text_elements tree) n tree.refs is c.self.inside.pending.items c.pages-all.ensures.rising)
    ∙ ap (λ (x : CollectionsState). is_shown (text_elements tree) n (placed tree.refs x)) c.self.view_is
