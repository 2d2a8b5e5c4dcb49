use Rattle.std.proofs.Common.{◌≡◌, ℕ, None, false, length, ap, subst, sym, ◌∙◌}
use Rattle.ft_msg.specs.Answers.{RunsFor, StartsOver}
use Rattle.ft_msg.specs.Client.{client_over}
use Rattle.ft_msg.specs.Summary.{doc_of}
use Rattle.ft_replica.specs.Kept.{IsKept, state_of}
use Rattle.ft_replica.specs.Linked.{linked_over}
use Rattle.ft_replica.specs.Stopping.{StoppingState}
use Rattle.ft_replica.proofs.ReplicaStarts.{starts-for, starts-own, summary-kept}
use Rattle.ft_replica.proofs.replica.ReplicaOverReplica.from_summary.Goals as goal

pub invariant_of-result : goal.invariant_of-result
invariant_of-result g c =
    let D = g.D.OwnDocument in
    let over : ℕ → StoppingState _ = λ n. record { client = linked_over c.in_ok-own.own; origin = n; stop = None } in
    subst (λ (s : StoppingState _). s.stop ≡ None → IsKept D.holds s.client s.origin false) (sym (c.over.ensures ∙ ap over c.len-count.ensures))
    (λ e. summary-kept D.holds D.shown g.met.D.OwnDocument.shows c.in_ok-own.own c.args.doc.now c.requires c.in_ok-own.ensures)

pub returns-clause-starts : goal.returns-clause-starts
returns-clause-starts g c =
    let D = g.D.OwnDocument in
    let sum = c.args.doc.now in
    let over : ℕ → StoppingState _ = λ n. record { client = linked_over c.in_ok-own.own; origin = n; stop = None } in
    subst (λ s. StartsOver (state_of D.shown s) (doc_of sum) (length sum.conns)) (sym (c.over.ensures ∙ ap over c.len-count.ensures))
    (starts-own D.holds D.shown g.met.D.OwnDocument.shows c.in_ok-own.own (doc_of sum) sum.min (length sum.conns) c.in_ok-own.ensures)

pub returns-clause-stands : goal.returns-clause-stands
returns-clause-stands g c = λ whole reached gives.
    let D = g.D.OwnDocument in
    let over : ℕ → StoppingState _ = λ n. record { client = linked_over c.in_ok-own.own; origin = n; stop = None } in
    subst (λ s. RunsFor (state_of D.shown s) (client_over whole)) (sym (c.over.ensures ∙ ap over c.len-count.ensures))
    (starts-for D.holds D.shown g.met.D.OwnDocument.shows c.in_ok-own.own c.args.doc.now c.in_ok-own.ensures whole reached gives)
