use Rattle.std.proofs.Common.{◌≡◌, ◌∙◌, ap, map}
use Rattle.std.proofs.Math.Path.{ap₂}
use Rattle.std.proofs.lemmas.Result.{IfOk-at_ok}
use Rattle.ft_props.specs.Steps.{Sequence}
use Rattle.ft_msg.specs.Summary.{interval_of, list_of, segment_items}
use Rattle.ft_plain_summary.proofs.reading.text_parts.Goals as goal

pub returns-clause-items : goal.returns-clause-items
returns-clause-items c = c.in_ok-intervals.ensures.value ∙ c.in_ok-list.ensures ∙ ap (λ segs. list_of (segment_items 0 segs)) c.as_slice.ensures

pub returns-clause-intervals : goal.returns-clause-intervals
returns-clause-intervals c =
    let list = c.in_ok-list.ensures ∙ ap (λ segs. list_of (segment_items 0 segs)) c.as_slice.ensures in
    IfOk-at_ok (λ is. is ≡ map (interval_of c.as_slice-2.result.now) c.as_slice-3.result.now)
    c.in_ok-intervals.ensures.made c.intervals_of-made.ensures
    ∙ ap₂ (λ xs recs. map (interval_of xs) recs) (c.as_slice-2.ensures.items ∙ ap (λ (l : Sequence). l.items) list) c.as_slice-3.ensures
