use Rattle.std.proofs.Common.{◌∙◌, ℕ, Ok, Err, sym, ap, ap₂, rules}
use Rattle.std.proofs.lemmas.Result.{err_from_is_err_and}
use Rattle.serde_json.specs.View.{view}
use Rattle.ft_sumdoc.specs.Items.{lists_of}
use Rattle.ft_sumdoc.specs.Runs.{unremoved_units}
use Rattle.ft_sumdoc.specs.Segments.{unremoved_text}
use Rattle.ft_sumdoc.specs.Shown.{cells_of, intervals_of}
use Rattle.ft_sumdoc.proofs.ReadObjects.{shown-cells, shown-intervals}
use Rattle.ft_sumdoc.proofs.summary_reading.read_shown.Goals as goal

pub returns-in_err-intervals : goal.returns-in_err-intervals
returns-in_err-intervals c =
    let d = view c.args.value.now in
    let count = c.in_ok-_elements in
    let elements = c.shown_len-elements.ensures ∙ ap unremoved_text c.as_slice.ensures in
    let p = err_from_is_err_and c.from_residual-in_err-intervals.result c.from_residual-in_err-intervals.ensures.1 in
    record {
      ok = search rules;
      err = rw (p.1, p.2) (λ apart.
          shown-intervals (lists_of c.args.lists.now) d count._elements (Err c.in_err-intervals.field-0.0) count.ensures.reads.ok
          (ap (λ n. intervals_of n d) (sym elements) ∙ c.in_err-intervals.ensures.err apart));
      formed = search rules;
    }

pub returns-in_err-cells : goal.returns-in_err-cells
returns-in_err-cells c =
    let d = view c.args.value.now in
    let count = c.in_ok-_elements in
    let elements = c.shown_len-elements.ensures ∙ ap unremoved_text c.as_slice.ensures in
    let rows = c.shown_units-rows.ensures ∙ ap unremoved_units c.as_slice-2.ensures in
    let cols = c.shown_units-cols.ensures ∙ ap unremoved_units c.as_slice-3.ensures in
    let p = err_from_is_err_and c.from_residual-in_err-cells.result c.from_residual-in_err-cells.ensures.1 in
    record {
      ok = search rules;
      err = rw (p.1, p.2) (λ apart.
          shown-cells (lists_of c.args.lists.now) d count._elements c.in_ok-intervals.intervals (Err c.in_err-cells.field-0.0) count.ensures.reads.ok
          (ap (λ n. intervals_of n d) (sym elements) ∙ c.in_ok-intervals.ensures.ok)
          (ap₂ (λ (m n : ℕ). cells_of m n d) (sym rows) (sym cols) ∙ c.in_err-cells.ensures.err apart));
      formed = search rules;
    }

pub returns : goal.returns
returns c =
    let d = view c.args.value.now in
    let count = c.in_ok-_elements in
    let elements = c.shown_len-elements.ensures ∙ ap unremoved_text c.as_slice.ensures in
    let rows = c.shown_units-rows.ensures ∙ ap unremoved_units c.as_slice-2.ensures in
    let cols = c.shown_units-cols.ensures ∙ ap unremoved_units c.as_slice-3.ensures in
    record {
      ok =
          shown-cells (lists_of c.args.lists.now) d count._elements c.in_ok-intervals.intervals (Ok c.in_ok-cells.cells) count.ensures.reads.ok
          (ap (λ n. intervals_of n d) (sym elements) ∙ c.in_ok-intervals.ensures.ok)
          (ap₂ (λ (m n : ℕ). cells_of m n d) (sym rows) (sym cols) ∙ c.in_ok-cells.ensures.ok);
      err = search rules;
      formed = (c.in_ok-intervals.ensures.formed, c.in_ok-cells.ensures.formed);
    }
