use Rattle.std.proofs.Common.{◌≡◌, None, ap, subst, sym, ◌∙◌}
use Rattle.ft_msg.specs.Answers.{ReplicaState}
use Rattle.ft_msg.specs.Client.{NaiveClient}
use Rattle.ft_msg.specs.Compacted.{StandsFor}
use Rattle.ft_msg.specs.Overlap.{overlap}
use Rattle.ft_msg.specs.Reached.{IsReached}
use Rattle.ft_replica.specs.Linked.{Anyone}
use Rattle.ft_replica.proofs.FewNodeReads.{replica-reads-few, replica-reads-few-of-label}
use Rattle.ft_replica.proofs.Replicas.{kept-linked, named-kept, runs-now, shows-all, still-runs, told-runs}
use Rattle.ft_replica.proofs.replica.ReplicaOver.overlapping_counted.Goals as goal

pub overlapping-requires-clause-known : goal.overlapping-requires-clause-known
overlapping-requires-clause-known g c =
    let i = c.self.inside in
    let D = g.D.OwnDocument in
    told-runs D.holds D.shown g.met.D.OwnDocument.shows i.client c.client.result.now i.nameless Anyone c.self.invariant (sym c.stop.ensures ∙ c.in_default.is) c.client.ensures tt

-- what one client shows that meets the places is what each shows for which it stands
pub returns-clause-answers : goal.returns-clause-answers
returns-clause-answers g c =
    let i = c.self.inside in
    let D = g.D.OwnDocument in
    let shows = g.met.D.OwnDocument.shows in
    let label = c.args.label.now in
    let found = c.in_ok-overlapping.field-0.items in
    let runs : i.client.stop ≡ None = sym c.stop.ensures ∙ c.in_default.is in
    let k = c.self.invariant runs in
    let here = c.in_ok-overlapping.ensures.found k.low k.kept (named-kept D.holds D.shown shows i.client i.nameless c.self.invariant runs)
    (kept-linked D.holds D.shown shows i.client c.client.result.now i.nameless c.self.invariant runs c.client.ensures) in
    subst (λ (s : ReplicaState). (s.stop ≡ None) × ((x : NaiveClient) → IsReached x → StandsFor s.client x → found ≡ overlap x label c.args.a c.args.b))
    c.self.view_is (
      runs-now D.holds D.shown shows i.client runs,
      λ x reached stands.
          here ∙ (shows-all D.holds D.shown shows i.client i.nameless c.self.invariant runs x reached stands).overlap label c.args.a c.args.b,
    )

-- and needs as few reads
pub returns-clause-reads : goal.returns-clause-reads
returns-clause-reads g c = λ counts running x reached stands.
    let i = c.self.inside in
    let D = g.D.OwnDocument in
    replica-reads-few D.holds D.shown g.met.D.OwnDocument.shows i.client c.client.result.now i.nameless c.self.invariant (sym c.stop.ensures ∙ c.in_default.is) c.client.ensures
    c.args.label.now c.args.a c.args.b c.args.steps.now c.overlapping.new.steps (c.overlapping.ensures.reads counts) x reached
    (subst (λ (s : ReplicaState). StandsFor s.client x) (sym c.self.view_is) stands)

pub returns-in_err-overlapping-clause-reads : goal.returns-in_err-overlapping-clause-reads
returns-in_err-overlapping-clause-reads g c = λ counts running x reached stands.
    let i = c.self.inside in
    let D = g.D.OwnDocument in
    replica-reads-few D.holds D.shown g.met.D.OwnDocument.shows i.client c.client.result.now i.nameless c.self.invariant (sym c.stop.ensures ∙ c.in_default.is) c.client.ensures
    c.args.label.now c.args.a c.args.b c.args.steps.now c.overlapping.new.steps (c.overlapping.ensures.reads counts) x reached
    (subst (λ (s : ReplicaState). StandsFor s.client x) (sym c.self.view_is) stands)

pub returns-clause-labelled : goal.returns-clause-labelled
returns-clause-labelled g c = λ counts running x reached stands.
    let i = c.self.inside in
    let D = g.D.OwnDocument in
    replica-reads-few-of-label D.holds D.shown g.met.D.OwnDocument.shows i.client c.client.result.now i.nameless c.self.invariant (sym c.stop.ensures ∙ c.in_default.is) c.client.ensures
    c.args.label.now c.args.a c.args.b c.args.steps.now c.overlapping.new.steps (c.overlapping.ensures.labelled counts) x reached
    (subst (λ (s : ReplicaState). StandsFor s.client x) (sym c.self.view_is) stands)

pub returns-in_err-overlapping-clause-labelled : goal.returns-in_err-overlapping-clause-labelled
returns-in_err-overlapping-clause-labelled g c = λ counts running x reached stands.
    let i = c.self.inside in
    let D = g.D.OwnDocument in
    replica-reads-few-of-label D.holds D.shown g.met.D.OwnDocument.shows i.client c.client.result.now i.nameless c.self.invariant (sym c.stop.ensures ∙ c.in_default.is) c.client.ensures
    c.args.label.now c.args.a c.args.b c.args.steps.now c.overlapping.new.steps (c.overlapping.ensures.labelled counts) x reached
    (subst (λ (s : ReplicaState). StandsFor s.client x) (sym c.self.view_is) stands)

-- a client that has stopped doesn't run
pub returns-in-Some-clause-reads : goal.returns-in-Some-clause-reads
returns-in-Some-clause-reads g c = λ counts running x reached stands.
    let i = c.self.inside in
    let D = g.D.OwnDocument in
    let stops = still-runs D.holds D.shown g.met.D.OwnDocument.shows i.client (ap (λ (s : ReplicaState). s.stop) c.self.view_is ∙ running) in
    let stopped = sym c.stop.ensures ∙ c.in-Some.is in
    absurd (cc (stops, stopped))

pub returns-in-Some-clause-labelled : goal.returns-in-Some-clause-labelled
returns-in-Some-clause-labelled g c = λ counts running x reached stands.
    let i = c.self.inside in
    let D = g.D.OwnDocument in
    let stops = still-runs D.holds D.shown g.met.D.OwnDocument.shows i.client (ap (λ (s : ReplicaState). s.stop) c.self.view_is ∙ running) in
    let stopped = sym c.stop.ensures ∙ c.in-Some.is in
    absurd (cc (stops, stopped))
