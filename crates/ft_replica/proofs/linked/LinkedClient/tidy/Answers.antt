use Rattle.std.proofs.Common.{refl, subst, sym, ap, ◌∙◌}
use Rattle.ft_replica.specs.Linked.{Anyone, RunsForOne, TakesCompaction, oldest_ref}
use Rattle.ft_replica.proofs.LinkedReads.{compaction-takes, floor-known, oldest-has-floor}
use Rattle.ft_replica.proofs.LinkedSteps.{state}
use Rattle.ft_replica.proofs.linked.LinkedClient.tidy.Goals as goal

pub tidy-requires : goal.tidy-requires
tidy-requires g c =
    let i = c.self.inside in
    let D = g.D.OwnDocument in
    let old = state i.doc i.link i.conns i.last_stage i.outbox i.pending in
    let runs = subst (λ s. RunsForOne D.holds s Anyone) (sym c.self.view_is) c.requires in
    floor-known D.holds D.shown g.met.D.OwnDocument.shows old runs c.oldest_ref-floor.result (c.oldest_ref-floor.ensures ∙ ap (λ n. oldest_ref n i.pending) c.minimum.ensures.told)

pub returns-clause-compacts : goal.returns-clause-compacts
returns-clause-compacts g c =
    let i = c.self.inside in
    let holds = g.D.OwnDocument.holds in
    let old = state i.doc i.link i.conns i.last_stage i.outbox i.pending in
    let new = state c.tidy.new.self i.link i.conns i.last_stage i.outbox i.pending in
    let runs = subst (λ s. RunsForOne holds s Anyone) (sym c.self.view_is) c.requires in
    let low = c.oldest_ref-floor.ensures ∙ ap (λ n. oldest_ref n i.pending) c.minimum.ensures.told ∙ oldest-has-floor holds g.D.OwnDocument.shown g.met.D.OwnDocument.shows old Anyone runs in
    subst (λ s. TakesCompaction holds s new) c.self.view_is
    (compaction-takes holds g.D.OwnDocument.shown g.met.D.OwnDocument.shows old new c.oldest_ref-floor.result low refl c.in_ok-tidy.ensures)
