use Rattle.std.proofs.Common.{◌≡◌, [], None, Ok, map, length, subst, sym, ap, ◌∙◌, rules}
use Rattle.ft_base.specs.declared.memory.OutOfMemory.{OutOfMemory}
use Rattle.ft_msg.specs.declared.views.Link.TheVariants.{Online}
use Rattle.ft_msg.specs.Process.{come_online, process_fault}
use Rattle.ft_replica.specs.Linked.{LinkedState, RunsForOne, Takes, sent_parts, with_parts}
use Rattle.ft_replica.proofs.LinkedEntries.{counts-of, join-takes}
use Rattle.ft_replica.proofs.LinkedSteps.{holds-one, state}
use Rattle.ft_replica.proofs.linked.LinkedClient.come_online.Goals as goal

pub rejoin-requires-clause-known : goal.rejoin-requires-clause-known
rejoin-requires-clause-known g c =
    let i = c.self.inside in
    let holds = g.D.OwnDocument.holds in
    let entry = c.args.entry.now in
    let old = state i.doc i.link i.conns i.last_stage i.outbox i.pending in
    let runs = subst (λ s. RunsForOne holds s (λ p. process_fault p entry ≡ None)) (sym c.self.view_is) c.requires.known in
    let counts = c.as_slice.ensures.value ∙ c.in_ok-counts.ensures in
    holds-one holds old (λ p. process_fault p entry ≡ None) (λ p. (process_fault p entry ≡ None) × (map (λ e. length e.stages) p.pending ≡ c.as_slice.result.now)) runs
    (λ p fits rest. (fits, counts-of p.pending ∙ ap (λ (t : LinkedState _). map (λ e. e.count) t.pending) (sym rest) ∙ sym counts))

pub returns : goal.returns
returns g c =
    let i = c.self.inside in
    let holds = g.D.OwnDocument.holds in
    let entry = c.args.entry.now in
    let again = c.in_ok-resent.resent.items in
    let d = c.rejoin.new.self in
    let old = state i.doc i.link i.conns i.last_stage i.outbox i.pending in
    let new = state d (Online entry.origin) i.conns i.last_stage c.send_again.new.outbox c.send_again.new.pending in
    let is : new ≡ state d (Online entry.origin) i.conns i.last_stage
    (with_parts (sent_parts entry.origin entry.msg.seq 1 again) (record { next = 1; drafts = [] })) (sent_parts entry.origin entry.msg.seq 1 again) = search rules in
    subst (λ s. Takes {E = OutOfMemory} holds (λ p. Ok (come_online p entry)) s new) c.self.view_is
    (join-takes holds entry c.as_slice.result.now again old new (c.as_slice.ensures.value ∙ c.in_ok-counts.ensures) c.in_ok-resent.ensures is)
