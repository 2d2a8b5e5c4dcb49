use Rattle.std.proofs.Common.{sym, subst}
use Rattle.ft_json.specs.Canonical.{IsCanonical}
use Rattle.ft_seqr.proofs.answer_texts.origin_run_text.Goals as goal

pub compact-requires : goal.compact-requires
compact-requires c = subst IsCanonical (sym c.in_ok-value.ensures.value) c.in_ok-value.ensures.canonical
