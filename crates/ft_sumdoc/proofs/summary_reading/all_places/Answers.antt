use Rattle.std.proofs.Common.{ℕ, map, Result, Ok, Err, sym, subst, rules}
use Rattle.std.proofs.lemmas.Result.{err_from_is_err_and}
use Rattle.ft_json.specs.Readers.{Gives}
use Rattle.ft_sumdoc.specs.declared.summary.SumFault.{SumFault}
use Rattle.ft_sumdoc.specs.declared.summary.SumFault.TheVariants.{OutOfMemory}
use Rattle.ft_sumdoc.specs.Items.{bounds_in, run_of, segment_of}
use Rattle.ft_sumdoc.specs.NarrowLists.{segments_stamps}
use Rattle.ft_sumdoc.specs.Summary.{run_stamps}
use Rattle.ft_sumdoc.proofs.ReadObjects.{places_one, places_three}
use Rattle.ft_sumdoc.proofs.summary_reading.all_places.Goals as goal

pub returns-in_err-text : goal.returns-in_err-text
returns-in_err-text c =
    let b = bounds_in c.args.limits in
    let xs = segments_stamps (map segment_of c.args.segs.now) in
    let ys = run_stamps (map run_of c.args.rows.now) in
    let zs = run_stamps (map run_of c.args.cols.now) in
    let p = err_from_is_err_and c.from_residual.result c.from_residual.ensures.1 in
    record {
      ok = search rules;
      err = rw (p.1, p.2) (λ apart. places_one b xs ys zs c.in_err-text.field-0.0 (sym (c.in_err-text.ensures.err apart)));
    }

pub returns-in_err-units : goal.returns-in_err-units
returns-in_err-units c =
    let b = bounds_in c.args.limits in
    let xs = segments_stamps (map segment_of c.args.segs.now) in
    let ys = run_stamps (map run_of c.args.rows.now) in
    let zs = run_stamps (map run_of c.args.cols.now) in
    let p = err_from_is_err_and c.from_residual-in_err-units.result c.from_residual-in_err-units.ensures.1 in
    record {
      ok = search rules;
      err =
          rw (p.1, p.2) (λ apart.
          places_three b xs ys zs c.in_ok-text.text (Err c.in_err-units.field-0.0) (sym c.in_ok-text.ensures.ok) (sym (c.in_err-units.ensures.err apart)));
    }

pub returns : goal.returns
returns c =
    let b = bounds_in c.args.limits in
    let xs = segments_stamps (map segment_of c.args.segs.now) in
    let ys = run_stamps (map run_of c.args.rows.now) in
    let zs = run_stamps (map run_of c.args.cols.now) in
    let whole = places_three b xs ys zs c.in_ok-text.text (Ok c.in_ok-units.units) (sym c.in_ok-text.ensures.ok) (sym c.in_ok-units.ensures.ok) in
    subst (λ (expected : Result ℕ SumFault). Gives OutOfMemory expected c.run_places-2.result) (sym whole) c.run_places-2.ensures
