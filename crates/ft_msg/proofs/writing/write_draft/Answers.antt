use Rattle.std.proofs.Common.{◌∙◌, sym, ap, subst}
use Rattle.std.proofs.lemmas.Result.{IfOk-weaker}
use Rattle.serde_json.specs.Written.{compact_text}
use Rattle.ft_json.specs.Canonical.{IsCanonical}
use Rattle.ft_msg.specs.MessageGrammar.{draft}
use Rattle.ft_msg.proofs.CanonicalMessages.{canonical_draft}
use Rattle.ft_msg.proofs.ReadBack.{draft_back}
use Rattle.ft_msg.proofs.writing.write_draft.Goals as goal

pub compact-requires : goal.compact-requires
compact-requires c =
    subst IsCanonical (sym c.in_ok-value.ensures.value) (canonical_draft c.args.draft.now c.in_ok-value.ensures.representable c.requires)

pub returns-clause-reads_back : goal.returns-clause-reads_back
returns-clause-reads_back c =
    let back = draft_back c.args.draft.now c.in_ok-value.ensures.representable c.requires in
    IfOk-weaker c.compact.result _ _ (λ text e. ap draft (e ∙ ap compact_text c.in_ok-value.ensures.value) ∙ back) c.compact.ensures
