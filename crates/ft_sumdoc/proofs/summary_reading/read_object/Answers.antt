use Rattle.std.proofs.Common.{Ok, Err, rules}
use Rattle.std.proofs.lemmas.Result.{err_from_is_err_and}
use Rattle.serde_json.specs.View.{view}
use Rattle.ft_sumdoc.specs.Items.{head_of, lists_of}
use Rattle.ft_sumdoc.specs.Summary.{summary_of_object}
use Rattle.ft_sumdoc.proofs.ReadObjects.{object-read}
use Rattle.ft_sumdoc.proofs.summary_reading.read_object.Goals as goal

pub returns-in_err-intervals-clause-reads : goal.returns-in_err-intervals-clause-reads
unfolding summary_of_object
returns-in_err-intervals-clause-reads c =
    let h = head_of c.in_ok-head.head in
    let ls = lists_of c.in_ok-lists.lists in
    let p = err_from_is_err_and c.from_residual-in_err-intervals.result c.from_residual-in_err-intervals.ensures.1 in
    record {
      ok = search rules;
      err = rw (p.1, p.2) (λ apart.
          object-read (view c.args.value.now) h ls (Err c.in_err-intervals.field-0.0) c.in_ok-head.ensures.ok c.in_ok-lists.ensures.ok
          (c.in_err-intervals.ensures.err apart));
      formed = search rules;
    }

pub returns-clause-reads : goal.returns-clause-reads
returns-clause-reads c =
    let h = head_of c.in_ok-head.head in
    let ls = lists_of c.in_ok-lists.lists in
    let shown = c.in_ok-intervals in
    record {
      ok = object-read (view c.args.value.now) h ls (Ok (shown.intervals, shown.cells)) c.in_ok-head.ensures.ok c.in_ok-lists.ensures.ok
          shown.ensures.ok;
      err = search rules;
      formed = record { text = c.in_ok-lists.ensures.values; intervals = shown.ensures.formed.0; cells = shown.ensures.formed.1 };
    }
