use Rattle.std.proofs.Common.{◌≡◌, Option, None, subst, sym, ap, ◌∙◌}
use Rattle.ft_msg.specs.declared.faults.ProcessFault.{ProcessFault}
use Rattle.ft_msg.specs.Process.{process_fault}
use Rattle.ft_changes.specs.Told.{told_of_entry}
use Rattle.ft_replica.specs.Linked.{Anyone, RunsForOne, outline}
use Rattle.ft_replica.specs.Stopping.{StoppingState}
use Rattle.ft_replica.specs.Telling.{AddsToldFewer}
use Rattle.ft_replica.proofs.LinkedReads.{fault-answers, runs-fitting}
use Rattle.ft_replica.proofs.ToldSteps.{went-well}
use Rattle.ft_replica.proofs.stopping.StoppingClient.process_telling.Goals as goal

pub returns-in-Some-process_fault-clause-answers : goal.returns-in-Some-process_fault-clause-answers
returns-in-Some-process_fault-clause-answers g c =
    let runs = sym (ap (λ (s : StoppingState _). s.stop) c.self.view_is) ∙ c.in_default.is in
    let asked : StoppingState _ → Option ProcessFault = λ s.
    process_fault (outline (g.D.OwnDocument.shown s.client.document).content.number (g.D.OwnDocument.shown s.client.document).content.minimum s.client.conns s.client.pending) c.args.entry.now in
    let fault = ap asked (sym c.self.view_is) ∙ sym c.in-Some-process_fault.ensures in
    fault-answers g.D.OwnDocument.holds g.D.OwnDocument.shown g.met.D.OwnDocument.shows c.args.self.now c.args.entry.now c.in-Some-process_fault.fault runs fault

pub process_telling-requires-clause-known : goal.process_telling-requires-clause-known
process_telling-requires-clause-known g c =
    let known = subst (λ (s : StoppingState _). s.stop ≡ None → RunsForOne g.D.OwnDocument.holds s.client Anyone) (sym c.self.view_is) c.requires.known in
    runs-fitting g.D.OwnDocument.holds g.D.OwnDocument.shown g.met.D.OwnDocument.shows c.self.inside.client c.args.entry.now (known c.in_default.is)
    (sym c.in_default-process_fault.ensures)

pub returns-clause-told : goal.returns-clause-told
returns-clause-told g c =
    let entry = c.args.entry.now in
    subst (λ (s : StoppingState _). AddsToldFewer g.D.OwnDocument.holds (λ p. told_of_entry p entry) s.client c.args.changes.now c.process_telling.new.changes) c.self.view_is
    (went-well c.process_telling.result (sym c.if-is_err.ensures.value) c.process_telling.ensures.told)
