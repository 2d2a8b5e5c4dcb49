use Rattle.std.proofs.Common.{sym}
use Rattle.serde_json.specs.View.{view}
use Rattle.ft_json.specs.declared.fields.Field.TheVariants.{Seq}
use Rattle.ft_json.proofs.Counts.{count_field-below}
use Rattle.ft_sumdoc.proofs.head_reading.read_head.Goals as goal

pub returns-clause-seq : goal.returns-clause-seq
returns-clause-seq c = count_field-below (view c.args.value.now) Seq c.in_ok-seq.seq (sym c.in_ok-seq.ensures)

pub returns-clause-few : goal.returns-clause-few
returns-clause-few c = c.in_ok-conns.ensures.few
