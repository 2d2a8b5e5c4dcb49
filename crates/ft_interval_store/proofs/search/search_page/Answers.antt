use Rattle.std.proofs.Common.{rules}
use Rattle.std.proofs.lemmas.Fn.{always_returns_same}
use Rattle.ft_interval_store.specs.Intervals.{Name, name_cmp, name_of}
use Rattle.ft_interval_store.proofs.RisingNames.{searched}
use Rattle.ft_interval_store.proofs.search.search_page.Goals as goal

pub returns : goal.returns
returns g c =
    let facts = c.binary_search_by.ensures in
    let n : Name = (c.args.label.now, c.args.id.now) in
    let by_name = facts.position (λ x. name_cmp (name_of x) n) (always_returns_same _ _ _ (λ a r f called. search rules)) in
    searched n c.args.page.now c.binary_search_by.result c.requires facts.bound by_name
