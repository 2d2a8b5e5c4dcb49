use Rattle.std.proofs.Common.{◌≡◌, None, false, subst, sym}
use Rattle.ft_op.specs.Document.{empty}
use Rattle.ft_msg.specs.Answers.{StartsOver}
use Rattle.ft_replica.specs.Kept.{IsKept, state_of}
use Rattle.ft_replica.specs.Stopping.{StoppingState}
use Rattle.ft_replica.proofs.ReplicaStarts.{empty-kept, starts-own}
use Rattle.ft_replica.proofs.replica.ReplicaOverReplica.start.Goals as goal

pub invariant_of-result : goal.invariant_of-result
invariant_of-result g c =
    let D = g.D.OwnDocument in
    subst (λ (s : StoppingState _). s.stop ≡ None → IsKept D.holds s.client s.origin false) (sym c.over.ensures)
    (λ e. empty-kept D.holds D.shown g.met.D.OwnDocument.shows c.in_ok-doc.doc c.in_ok-doc.ensures)

pub returns : goal.returns
returns g c =
    let D = g.D.OwnDocument in
    subst (λ s. StartsOver (state_of D.shown s) empty 0) (sym c.over.ensures)
    (starts-own D.holds D.shown g.met.D.OwnDocument.shows c.in_ok-doc.doc empty 0 0 c.in_ok-doc.ensures)
