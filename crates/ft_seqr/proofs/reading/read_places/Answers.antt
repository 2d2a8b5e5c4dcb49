use Rattle.std.proofs.Common.{sym}
use Rattle.serde_json.specs.View.{view}
use Rattle.ft_json.specs.declared.fields.Field.TheVariants.{End, Start}
use Rattle.ft_json.proofs.Counts.{count_field-below}
use Rattle.ft_seqr.proofs.reading.read_places.Goals as goal

pub reversed-requires : goal.reversed-requires
reversed-requires c = record {
  first = count_field-below (view c.args.value.now) Start c.in_ok-start.start (sym c.in_ok-start.ensures);
  second = count_field-below (view c.args.value.now) End c.in_ok-end.end (sym c.in_ok-end.ensures);
}
