use Rattle.std.proofs.Common.{◌≡◌, ◌∙◌, ℕ, List, Ok, Err, cond, refl}
use Rattle.serde_json.specs.Data.{Data}
use Rattle.serde_json.specs.View.{view}
use Rattle.ft_json.specs.declared.fields.Field.TheVariants.{Summary}
use Rattle.ft_json.specs.Reading.{read_line}
use Rattle.ft_op.specs.Reading.{is_object}
use Rattle.ft_op.proofs.ReadSteps.{if_ok-both}
use Rattle.ft_sumdoc.specs.declared.summary.SumCause.TheVariants.{WrongKind}
use Rattle.ft_sumdoc.specs.declared.summary.SumFault.TheVariants.{Malformed}
use Rattle.ft_sumdoc.specs.Summary.{summary, summary_of_object}
use Rattle.ft_sumdoc.proofs.ValidSummaries.{read_summary-valid}
use Rattle.ft_sumdoc.proofs.summary_reading.read_summary.Goals as goal

-- the summary of a text is that of its value
summary-value : (bytes : List ℕ) (d : Data) → read_line bytes ≡ Ok d → summary bytes ≡ cond (is_object d) (summary_of_object d) (Err (Malformed (WrongKind Summary)))
unfolding summary
summary-value bytes d h = rw h refl

pub returns-clause-reads : goal.returns-clause-reads
returns-clause-reads c =
    let bytes = c.args.bytes.now in
    let same = summary-value bytes (view c.in_ok-value.value) c.in_ok-value.ensures.ok in
    let given = c.read_value.ensures.reads in
    rw same (record {
      ok = given.ok;
      err = given.err;
      formed = if_ok-both _ _ _ c.read_value.result (λ sum e values. read_summary-valid bytes sum (same ∙ e) values) given.ok given.formed;
    })
