use Rattle.std.proofs.Common.{◌∙◌}
use Rattle.std.proofs.lemmas.Result.{on_ok_weaker}
use Rattle.serde_json.specs.View.{members_view}
use Rattle.ft_seqr.proofs.WrittenMembers.{number_put}
use Rattle.ft_seqr.proofs.writing.put_limit.Goals as goal

pub returns : goal.returns
returns c =
    on_ok_weaker c.put_number.result
    (λ e. e ∙ number_put c.args.number (members_view c.args.members.now.entries) c.if-number-eq1.false)
    c.put_number.ensures.value
