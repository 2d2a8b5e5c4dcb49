use Rattle.std.proofs.Common.{◌∙◌, ap}
use Rattle.ft_interval_store.specs.Intervals.{Name, place_of_name}
use Rattle.ft_interval_store.proofs.intervals.Intervals.search.Goals as goal

pub returns : goal.returns
returns g c =
    let n : Name = (c.args.label.now, c.args.id.now) in
    c.search_in.ensures ∙ ap (place_of_name n) (c.pages.ensures.value ∙ c.self.view_is)
