use Rattle.std.proofs.Common.{◌≡◌, List, ℕ, length}
use Rattle.std.proofs.lemmas.Result.{IfOk-at_ok}
use Rattle.ft_msg.specs.Answers.{StartsOver}
use Rattle.ft_msg.specs.Summary.{doc_of}
use Rattle.ft_msg.proofs.ReplicaStarts.{reached-summary}
use Rattle.ft_replay.proofs.Observing.{starts-observing}
use Rattle.ft_replay.proofs.observer.Observer.of_summary.Goals as goal

pub returns : goal.returns
returns g c =
    let sum = c.args.sum.now in
    let state = g.R.Replica.state in
    starts-observing c.in_ok-names.names sum.conns (state c.in_ok-names.replica) (doc_of sum) (length sum.conns)
    (IfOk-at_ok (λ (names : List (List ℕ)). names ≡ sum.conns) c.in_ok-names.ensures.first c.table_of-table.ensures)
    (IfOk-at_ok (λ r. StartsOver (state r) (doc_of sum) (length sum.conns)) c.in_ok-names.ensures.second c.from_summary-made.ensures.starts) (reached-summary sum c.requires.valid)
