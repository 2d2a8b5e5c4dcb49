use Rattle.std.proofs.Common.{◌≡◌, ◌∙◌, None, ap, length, subst, sym}
use Rattle.ft_msg.specs.Process.{process_fault}
use Rattle.ft_replica.specs.Linked.{LinkedState, RunsForOne}
use Rattle.ft_replica.specs.Own.{held_by}
use Rattle.ft_replica.proofs.ComparedParts.{idle-alike}
use Rattle.ft_replica.proofs.LinkedSteps.{holds-one, made-named, state}
use Rattle.ft_replica.proofs.linked.LinkedClient.moves_ends_alike.Goals as goal

pub returns-then-pending-eq0 : goal.returns-then-pending-eq0
returns-then-pending-eq0 g c =
    let s = c.args.self.now in
    λ start low p made l is.
    idle-alike s p c.args.entry.now l.rest c.len-pending.result (c.len-pending.ensures ∙ ap (λ (t : LinkedState _). length t.pending) c.self.view_is) c.if-pending-eq0.true

pub moves_ends_alike-requires-clause-known : goal.moves_ends_alike-requires-clause-known
moves_ends_alike-requires-clause-known g c =
    let i = c.self.inside in
    let holds = g.D.OwnDocument.holds in
    let entry = c.args.entry.now in
    let old = state i.doc i.link i.conns i.last_stage i.outbox i.pending in
    let runs = subst (λ s. RunsForOne holds s (λ p. process_fault p entry ≡ None)) (sym c.self.view_is) c.requires.known in
    holds-one holds old (λ p. process_fault p entry ≡ None) (λ p. (process_fault p entry ≡ None) × (p.last_stage ≡ i.last_stage)) runs
    (λ p fits rest. (fits, sym (ap (λ (t : LinkedState _). t.last_stage) rest)))

pub returns : goal.returns
returns g c =
    let i = c.self.inside in
    let D = g.D.OwnDocument in
    λ start low p made l alike.
    let last = sym (ap (λ (t : LinkedState _). t.last_stage) (c.self.view_is ∙ l.rest)) in
    let document = subst (λ (t : LinkedState _). D.holds t.document (held_by low p)) (sym c.self.view_is) l.document in
    c.moves_ends_alike.ensures low p (made-named start p made) last document alike
