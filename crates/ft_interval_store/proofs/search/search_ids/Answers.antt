use Rattle.std.proofs.Common.{rules}
use Rattle.std.proofs.lemmas.Fn.{always_returns_same}
use Rattle.ft_props.specs.Keys.{text_cmp}
use Rattle.ft_interval_store.specs.Intervals.{Name}
use Rattle.ft_interval_store.proofs.OneLabel.{searched-ids}
use Rattle.ft_interval_store.proofs.search.search_ids.Goals as goal

pub returns : goal.returns
returns g c =
    let facts = c.binary_search_by.ensures in
    let n : Name = (c.args.label.now, c.args.id.now) in
    let by_id = facts.position (λ x. text_cmp x.id n.1) (always_returns_same _ _ _ (λ a r f called. search rules)) in
    searched-ids n c.args.page.now c.binary_search_by.result c.requires.label c.requires.rising facts.bound by_id
