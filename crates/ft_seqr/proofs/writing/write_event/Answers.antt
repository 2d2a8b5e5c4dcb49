use Rattle.std.proofs.Common.{sym, subst}
use Rattle.ft_json.specs.Canonical.{IsCanonical}
use Rattle.ft_seqr.proofs.EventsBack.{canonical_event}
use Rattle.ft_seqr.proofs.writing.write_event.Goals as goal

pub compact-requires : goal.compact-requires
compact-requires c =
    subst IsCanonical (sym c.in_ok-value.ensures.value) (canonical_event c.args.event.now c.in_ok-value.ensures.representable c.requires)
