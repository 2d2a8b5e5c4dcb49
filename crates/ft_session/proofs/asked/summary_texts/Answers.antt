-- The one text.
use Rattle.std.proofs.Common.{◌∙◌, ◌++◌, ◌∷◌, [], ℕ, List, ap}
use Rattle.ft_sumdoc.specs.Written.{summary_text}
use Rattle.ft_session.proofs.Asking.{added-known}
use Rattle.ft_session.proofs.asked.summary_texts.Goals as goal

pub returns : goal.returns
returns c = added-known _ c.write_summary.result _ c.push_text.new.texts c.write_summary.ensures.text c.in_ok-push_text.ensures
    ∙ ap (λ (ts : List (List ℕ)). ts ++ (summary_text c.args.summary.now ∷ [])) c.new-values.ensures
