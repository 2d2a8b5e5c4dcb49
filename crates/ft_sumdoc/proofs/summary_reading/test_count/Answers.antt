use Rattle.std.proofs.Common.{ap, sym, arith}
use Rattle.serde_json.specs.View.{view}
use Rattle.ft_json.specs.declared.fields.Field.TheVariants.{Count}
use Rattle.ft_json.proofs.Counts.{count_field-below}
use Rattle.ft_sumdoc.specs.Segments.{text_length}
use Rattle.ft_sumdoc.proofs.summary_reading.test_count.Goals as goal

pub returns-clause-few : goal.returns-clause-few
returns-clause-few c =
    omega (
      arith,
      count_field-below (view c.args.value.now) Count c.in_ok-said.said (sym c.in_ok-said.ensures),
      c.if-said-found.false,
      c.in_ok-found.ensures,
      ap text_length c.as_slice.ensures,
    )
