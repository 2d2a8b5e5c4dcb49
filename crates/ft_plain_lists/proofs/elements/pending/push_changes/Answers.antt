use Rattle.std.proofs.lemmas.Result.{on_ok_weaker}
use Rattle.ft_plain_lists.proofs.elements.pending.push_changes.Goals as goal

pub returns-clause-ok : goal.returns-clause-ok
returns-clause-ok c = on_ok_weaker c.push.result (λ made. rw (← c.in_ok-changes.ensures) made) c.push.ensures.items
