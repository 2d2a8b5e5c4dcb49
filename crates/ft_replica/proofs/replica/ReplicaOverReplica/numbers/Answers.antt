use Rattle.std.proofs.Common.{◌≡◌, length, ap, sym, subst, ◌∙◌, rules}
use Rattle.ft_msg.specs.declared.views.Numbers.{Numbers}
use Rattle.ft_msg.specs.Answers.{StandsForSome, numbers_of}
use Rattle.ft_replica.proofs.Replicas.{numbers-told, numbers_with, stands-some}
use Rattle.ft_replica.proofs.replica.ReplicaOverReplica.numbers.Goals as goal

pub returns-clause-numbers : goal.returns-clause-numbers
returns-clause-numbers g c =
    let i = c.self.inside in
    let D = g.D.OwnDocument in
    let own = c.numbers-own.result in
    let told : Numbers = record {
      seq = own.number;
      min = own.minimum;
      pending = c.pending.result;
      skipped = own.skipped;
      other = own.other;
      made = c.most.result;
      link = c.link.result;
    } in
    let here : told ≡ numbers_with own (length i.client.client.pending) i.client.client.link = search rules in
    here ∙ ap (λ n. numbers_with n (length i.client.client.pending) i.client.client.link) c.numbers-own.ensures
    ∙ sym (numbers-told D.holds D.shown g.met.D.OwnDocument.shows i.client) ∙ ap numbers_of c.self.view_is

pub returns-clause-stands : goal.returns-clause-stands
returns-clause-stands g c =
    let i = c.self.inside in
    let D = g.D.OwnDocument in
    subst StandsForSome c.self.view_is (stands-some D.holds D.shown g.met.D.OwnDocument.shows i.client i.nameless c.self.invariant)
