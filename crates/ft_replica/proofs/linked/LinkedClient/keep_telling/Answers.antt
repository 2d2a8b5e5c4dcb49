use Rattle.std.proofs.Common.{◌∙◌, ◌++◌, ap, take}
use Rattle.ft_replica.proofs.ToldSteps.{taken-back}
use Rattle.ft_replica.proofs.linked.LinkedClient.keep_telling.Goals as goal

-- what was there is all that is left
pub returns-then-is_err-clause-same : goal.returns-then-is_err-clause-same
returns-then-is_err-clause-same g c =
    let old = c.args.changes.now in
    let told = c.args.edit.changes in
    c.shorten.ensures ∙ ap (take c.len-before.result) c.in_ok-append.ensures.ok ∙ ap (λ n. take n (old ++ told)) c.len-before.ensures ∙ taken-back old told
