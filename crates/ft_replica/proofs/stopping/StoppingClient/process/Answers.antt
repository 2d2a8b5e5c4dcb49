use Rattle.std.proofs.Common.{◌≡◌, Option, None, subst, sym, ap, ◌∙◌}
use Rattle.ft_msg.specs.declared.faults.ProcessFault.{ProcessFault}
use Rattle.ft_msg.specs.Process.{process_fault}
use Rattle.ft_replica.specs.Linked.{Anyone, RunsForOne, outline}
use Rattle.ft_replica.specs.Stopping.{StoppingState}
use Rattle.ft_replica.proofs.LinkedReads.{fault-answers, runs-fitting}
use Rattle.ft_replica.proofs.stopping.StoppingClient.process.Goals as goal

pub returns-in-Some-process_fault : goal.returns-in-Some-process_fault
returns-in-Some-process_fault g c =
    let runs = sym (ap (λ (s : StoppingState _). s.stop) c.self.view_is) ∙ c.in_default.is in
    let asked : StoppingState _ → Option ProcessFault = λ s.
    process_fault (outline (g.D.OwnDocument.shown s.client.document).content.number (g.D.OwnDocument.shown s.client.document).content.minimum s.client.conns s.client.pending) c.args.entry.now in
    let fault = ap asked (sym c.self.view_is) ∙ sym c.in-Some-process_fault.ensures in
    fault-answers g.D.OwnDocument.holds g.D.OwnDocument.shown g.met.D.OwnDocument.shows c.args.self.now c.args.entry.now c.in-Some-process_fault.fault runs fault

pub process-requires-clause-known : goal.process-requires-clause-known
process-requires-clause-known g c =
    let known = subst (λ (s : StoppingState _). s.stop ≡ None → RunsForOne g.D.OwnDocument.holds s.client Anyone) (sym c.self.view_is) c.requires.known in
    runs-fitting g.D.OwnDocument.holds g.D.OwnDocument.shown g.met.D.OwnDocument.shows c.self.inside.client c.args.entry.now (known c.in_default.is)
    (sym c.in_default-process_fault.ensures)
