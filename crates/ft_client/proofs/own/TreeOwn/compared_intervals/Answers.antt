use Rattle.std.proofs.Common.{◌≡◌, subst, sym}
use Rattle.std.specs.Prelude.{IfOk}
use Rattle.ft_msg.specs.Client.{stages_of}
use Rattle.ft_changes.specs.Shown.{shown_content}
use Rattle.ft_replica.specs.declared.comparing.ComparedIntervals.{ComparedIntervals}
use Rattle.ft_replica.specs.Comparing.{compared_intervals}
use Rattle.ft_client.proofs.Shown.{view-sound}
use Rattle.ft_client.proofs.own.TreeOwn.compared_intervals.Goals as goal

pub returns-in-All : goal.returns-in-All
returns-in-All c = λ low p named e h.
    let sound = view-sound c.args.self.now c.args.last c.requires low p named h in
    subst (λ (which : ComparedIntervals). IfOk c.shown_intervals.result (λ intervals. intervals ≡ compared_intervals which c.args.op.now (stages_of p) (shown_content p).intervals)) (sym c.in-All.is)
    (c.shown_intervals.ensures p.last_stage p.doc (stages_of p) sound h.text)

pub returns-in-OfOperation : goal.returns-in-OfOperation
returns-in-OfOperation c = λ low p named e h.
    let sound = view-sound c.args.self.now c.args.last c.requires low p named h in
    subst (λ (which : ComparedIntervals). IfOk c.shown_of.result (λ intervals. intervals ≡ compared_intervals which c.args.op.now (stages_of p) (shown_content p).intervals)) (sym c.in-OfOperation.is)
    (c.shown_of.ensures p.last_stage p.doc (stages_of p) sound h.text)

pub returns-in-OfOperationAndStages : goal.returns-in-OfOperationAndStages
returns-in-OfOperationAndStages c = λ low p named e h.
    let sound = view-sound c.args.self.now c.args.last c.requires low p named h in
    subst (λ (which : ComparedIntervals). IfOk c.shown_around.result (λ intervals. intervals ≡ compared_intervals which c.args.op.now (stages_of p) (shown_content p).intervals)) (sym c.in-OfOperationAndStages.is)
    (c.shown_around.ensures p.last_stage p.doc (stages_of p) sound h.text)
