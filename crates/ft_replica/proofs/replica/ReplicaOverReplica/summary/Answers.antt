use Rattle.std.proofs.Common.{◌≡◌, ◌≤◌, [], None, length, take, ap, subst, sym, ◌∙◌}
use Rattle.ft_msg.specs.Answers.{ReplicaState, SummarizesReplica}
use Rattle.ft_msg.specs.SummaryOf.{summary_of}
use Rattle.ft_replica.specs.Linked.{LinkedState}
use Rattle.ft_replica.proofs.Replicas.{kept-linked, named-kept, told-runs}
use Rattle.ft_replica.proofs.ReplicaStarts.{idle-kept, origin-of, pending-told, summarizes}
use Rattle.ft_replica.proofs.replica.ReplicaOverReplica.summary.Goals as goal

pub returns-then-count-gt0 : goal.returns-then-count-gt0
returns-then-count-gt0 g c =
    let i = c.self.inside in
    let D = g.D.OwnDocument in
    let n = c.pending-count.result in
    let runs : i.client.stop ≡ None = sym c.stop.ensures ∙ c.in_default.is in
    let count = c.pending-count.ensures ∙ ap (λ (t : LinkedState _). length t.pending) c.client.ensures in
    subst (λ (s : ReplicaState). (s.stop ≡ None) × (n ≡ length s.client.pending) × ¬ (s.client.pending ≡ [])) c.self.view_is
    (pending-told D.holds D.shown g.met.D.OwnDocument.shows i.client n runs count c.if-count-gt0.true)

pub summary-requires : goal.summary-requires
summary-requires g c =
    let i = c.self.inside in
    let D = g.D.OwnDocument in
    let shows = g.met.D.OwnDocument.shows in
    let runs : i.client.stop ≡ None = sym c.stop.ensures ∙ c.in_default.is in
    let idle : length i.client.client.pending ≤ 0 =
    subst (λ n. n ≤ 0) (c.pending-count.ensures ∙ ap (λ (t : LinkedState _). length t.pending) c.client.ensures) c.if-count-gt0.false in
    told-runs D.holds D.shown shows i.client c.client-2.result.now i.nameless (λ p. p.pending ≡ []) c.self.invariant runs c.client-2.ensures
    (idle-kept D.holds D.shown shows i.client i.nameless c.self.invariant runs idle)

pub first_names-requires : goal.first_names-requires
first_names-requires g c =
    let i = c.self.inside in
    let D = g.D.OwnDocument in
    let names = c.args.names.now in
    subst (λ n. n ≤ length names) (origin-of D.holds D.shown g.met.D.OwnDocument.shows i.client ∙ sym c.origin.ensures)
    (subst (λ (s : ReplicaState). s.origin ≤ length names) (sym c.self.view_is) c.requires)

-- the summary of the client that it keeps
pub returns-in-Ok-summary : goal.returns-in-Ok-summary
returns-in-Ok-summary g c =
    let i = c.self.inside in
    let D = g.D.OwnDocument in
    let shows = g.met.D.OwnDocument.shows in
    let names = c.args.names.now in
    let runs : i.client.stop ≡ None = sym c.stop.ensures ∙ c.in_default.is in
    let idle : length i.client.client.pending ≤ 0 =
    subst (λ n. n ≤ 0) (c.pending-count.ensures ∙ ap (λ (t : LinkedState _). length t.pending) c.client.ensures) c.if-count-gt0.false in
    let k = c.self.invariant runs in
    let named = named-kept D.holds D.shown shows i.client i.nameless c.self.invariant runs in
    let linked = kept-linked D.holds D.shown shows i.client c.client-2.result.now i.nameless c.self.invariant runs c.client-2.ensures in
    let none = idle-kept D.holds D.shown shows i.client i.nameless c.self.invariant runs idle in
    let written = c.in-Ok-summary.ensures.sum k.low k.kept named none linked ∙ ap (λ conns. summary_of conns k.kept.doc) c.in-Ok.ensures.first
    ∙ ap (λ n. summary_of (take n names) k.kept.doc) c.origin.ensures in
    let enough : i.client.origin ≤ length names = subst (λ n. n ≤ length names) (origin-of D.holds D.shown shows i.client)
    (subst (λ (s : ReplicaState). s.origin ≤ length names) (sym c.self.view_is) c.requires) in
    subst (λ s. SummarizesReplica c.in-Ok-summary.sum names s) c.self.view_is
    (summarizes D.holds D.shown shows i.client i.nameless c.self.invariant runs c.if-self.false idle names c.in-Ok-summary.sum enough c.in-Ok.ensures.distinct written
    (c.in-Ok-summary.ensures.small k.low k.kept named linked))
