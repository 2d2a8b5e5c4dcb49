use Rattle.std.proofs.Common.{◌<◌, ◌^◌, ◌++◌, string_bytes, ◌∙◌, ap, subst}
use Rattle.std.specs.List.{AllByRecursion}
use Rattle.ft_shared_map.specs.Maps.{FiniteMap}
use Rattle.ft_map.specs.MapReport.{pairs_text}
use Rattle.ft_map.specs.MapWorlds.{IsWritable}
use Rattle.ft_map.proofs.CanonicalSummary.{spelled, summary-canonical}
use Rattle.ft_map.proofs.summaries.spelled_summary.Goals as goal

pub returns-clause-text : goal.returns-clause-text
returns-clause-text c =
    let start = string_bytes c.in_ok-text.text in
    spelled c.args.client.now c.min.result c.seq.result start (string_bytes c.push_pairs.new.text) (string_bytes c.in_ok-end.end) _
    c.min.ensures.value c.seq.ensures.value c.in_ok-text.ensures
    (c.in_ok-push_pairs.ensures.text ∙ ap (λ (m : FiniteMap). start ++ pairs_text m) c.acked.ensures)
    c.in_ok-end.ensures (c.in_ok-push_str.ensures.bytes ∙ ap (λ t. string_bytes c.push_pairs.new.text ++ t) c.as_str.ensures.value)

pub returns-clause-canonical : goal.returns-clause-canonical
returns-clause-canonical c =
    summary-canonical c.args.client.now
    (subst (λ n. n < 2 ^ 64) c.min.ensures.value c.min.ensures.fits)
    (subst (λ n. n < 2 ^ 64) c.seq.ensures.value c.seq.ensures.fits)
    (subst (λ (m : FiniteMap). AllByRecursion IsWritable m) c.acked.ensures c.in_ok-push_pairs.ensures.writable)
