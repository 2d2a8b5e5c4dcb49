use Rattle.std.proofs.Common.{◌∙◌, ◌≤◌, ◌^◌, map, ap, subst, sym}
use Rattle.serde_json.specs.View.{view}
use Rattle.ft_json.specs.declared.fields.Field.TheVariants.{Cols, Rows}
use Rattle.ft_sumdoc.specs.Items.{run_of}
use Rattle.ft_sumdoc.specs.Runs.{kept_run, unit_count}
use Rattle.ft_sumdoc.proofs.NoNulls.{runs-few}
use Rattle.ft_sumdoc.proofs.summary_reading.read_runs.Goals as goal

pub returns-clause-rows : goal.returns-clause-rows
returns-clause-rows c =
    subst (λ runs. unit_count runs ≤ 2 ^ 52) (sym (c.in_ok-keep_runs.ensures ∙ ap (λ xs. map kept_run (map run_of xs)) c.deref-3.ensures.value))
    (runs-few Rows (view c.args.value.now) (map run_of c.in_ok-rows.rows.items) c.in_ok-rows.ensures.ok)

pub returns-clause-cols : goal.returns-clause-cols
returns-clause-cols c =
    subst (λ runs. unit_count runs ≤ 2 ^ 52) (sym (c.in_ok-keep_runs-2.ensures ∙ ap (λ xs. map kept_run (map run_of xs)) c.deref-4.ensures.value))
    (runs-few Cols (view c.args.value.now) (map run_of c.in_ok-cols.cols.items) c.in_ok-cols.ensures.ok)
