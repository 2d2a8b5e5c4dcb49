use Rattle.std.proofs.Common.{◌∙◌, sym, ap, subst}
use Rattle.std.proofs.lemmas.Result.{IfOk-weaker}
use Rattle.serde_json.specs.Written.{compact_text}
use Rattle.ft_json.specs.Canonical.{IsCanonical}
use Rattle.ft_sumdoc.specs.Summary.{summary}
use Rattle.ft_sumdoc.proofs.ReadBack.{summary_back}
use Rattle.ft_sumdoc.proofs.WrittenSummaries.{IsSoundSummary, canonical_summary}
use Rattle.ft_sumdoc.proofs.writing.write_summary.Goals as goal

pub compact-requires : goal.compact-requires
compact-requires c =
    subst IsCanonical (sym c.in_ok-value.ensures.value)
    (canonical_summary c.args.doc.now (record { texts = c.in_ok-value.ensures.representable; valid = c.requires.valid; conns = c.requires.conns }))

pub returns-clause-reads_back : goal.returns-clause-reads_back
returns-clause-reads_back c =
    let sound : IsSoundSummary c.args.doc.now = record { texts = c.in_ok-value.ensures.representable; valid = c.requires.valid; conns = c.requires.conns } in
    λ cut. IfOk-weaker c.compact.result _ _ (λ text e. ap summary (e ∙ ap compact_text c.in_ok-value.ensures.value) ∙ summary_back c.args.doc.now sound cut.text) c.compact.ensures
