use Rattle.std.proofs.Common.{◌≡◌, ◌∙◌, ap, map, sym}
use Rattle.std.proofs.lemmas.Result.{IfOk-weaker}
use Rattle.ft_msg.specs.Summary.{interval_of}
use Rattle.ft_plain_summary.specs.NamedPlaces.{named_interval}
use Rattle.ft_plain_summary.proofs.NamedAtPlaces.{intervals-named}
use Rattle.ft_plain_summary.proofs.named.intervals_of.Goals as goal

pub returns : goal.returns
returns c =
    let recs = c.args.recs.now in
    let names = c.as_slice.ensures.value ∙ c.in_ok-names.ensures in
    IfOk-weaker c.named_intervals.result (λ is. is ≡ map (named_interval c.as_slice.result.now) recs) (λ is. is ≡ map (interval_of c.args.items.now) recs)
    (λ is e. e ∙ ap (λ ns. map (named_interval ns) recs) names ∙ sym (intervals-named c.args.items.now recs))
    c.named_intervals.ensures
