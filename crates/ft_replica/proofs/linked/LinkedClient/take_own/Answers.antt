use Rattle.std.proofs.Common.{◌≡◌, ◌≤◌, None, length, drop, Ok, subst, sym, ap, ◌∙◌}
use Rattle.ft_base.specs.declared.memory.OutOfMemory.{OutOfMemory}
use Rattle.ft_msg.specs.Client.{stages_of}
use Rattle.ft_msg.specs.Process.{process_fault}
use Rattle.ft_msg.specs.Acknowledgement.{after_own_message}
use Rattle.ft_replica.specs.Linked.{RunsForOne, Takes}
use Rattle.ft_replica.specs.Own.{oldest_stages}
use Rattle.ft_replica.proofs.LinkedEntries.{own-oldest, own-takes, own-within}
use Rattle.ft_replica.proofs.LinkedSteps.{holds-one, state}
use Rattle.ft_replica.proofs.linked.LinkedClient.take_own.Goals as goal

pub take_own-requires-clause-known : goal.take_own-requires-clause-known
take_own-requires-clause-known g c =
    let i = c.self.inside in
    let holds = g.D.OwnDocument.holds in
    let entry = c.args.entry.now in
    let n = c.oldest_count.result in
    let old = state i.doc i.link i.conns i.last_stage i.outbox i.pending in
    let runs = subst (λ s. RunsForOne holds s (λ p. process_fault p entry ≡ None)) (sym c.self.view_is) c.requires.known in
    holds-one holds old (λ p. process_fault p entry ≡ None) (λ p. (process_fault p entry ≡ None) × (n ≤ length (stages_of p)) × (length (oldest_stages p.pending) ≡ n)) runs
    (λ p fits rest. (fits, own-within old p n rest c.oldest_count.ensures, own-oldest old p n rest c.oldest_count.ensures))

pub returns : goal.returns
returns g c =
    let i = c.self.inside in
    let holds = g.D.OwnDocument.holds in
    let entry = c.args.entry.now in
    let old = state i.doc i.link i.conns i.last_stage i.outbox i.pending in
    let new = state c.take_own.new.self i.link i.conns i.last_stage i.outbox c.drop_oldest.new.self in
    let is : new ≡ record old { document = c.take_own.new.self; pending = drop 1 i.pending } =
    ap (λ ps. state c.take_own.new.self i.link i.conns i.last_stage i.outbox ps) c.drop_oldest.ensures in
    subst (λ s. Takes {E = OutOfMemory} holds (λ p. Ok (after_own_message p entry)) s new) c.self.view_is
    (own-takes holds entry old new (λ held own rest named e n h. c.in_ok-take_own.ensures held own rest named e (n ∙ sym c.oldest_count.ensures) h) is)
