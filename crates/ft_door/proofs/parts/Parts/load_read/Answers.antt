use Rattle.std.proofs.Common.{◌≡◌, ◌<◌, ◌^◌, Err, Ok, Result, ap, length, rules, subst, sym}
use Rattle.std.specs.Prelude.{IfOk}
use Rattle.std.proofs.lemmas.Result.{IfErr-at_err, IfOk-at_ok}
use Rattle.ft_sumdoc.specs.declared.summary.SumDoc.{SumDoc}
use Rattle.ft_sumdoc.specs.declared.summary.SumFault.{SumFault}
use Rattle.ft_sumdoc.specs.declared.summary.SumFault.TheVariants.{OutOfMemory}
use Rattle.ft_sumdoc.specs.Summary.{summary}
use Rattle.ft_sumdoc.specs.Valid.{IsValidSummary}
use Rattle.ft_seqr.specs.declared.refusals.Refusal.TheVariants.{Summary}
use Rattle.ft_door.specs.Editors.{TellsStep, load_line, load_reading, load_reading_exceeds}
use Rattle.ft_door.proofs.Editing.{refused-told}
use Rattle.ft_door.proofs.parts.Parts.load_read.Goals as goal

pub start_from-requires : goal.start_from-requires
start_from-requires g c = record {
  valid = IfOk-at_ok IsValidSummary c.in-Ok.is c.requires.valid;
  few = IfOk-at_ok (λ (sum : SumDoc). length sum.conns < 2 ^ 32) c.in-Ok.is c.requires.few;
}

pub returns-in-Ok : goal.returns-in-Ok
returns-in-Ok g c = λ line reads.
    subst (λ (r : Result SumDoc SumFault). IfOk c.start_from.result (λ told. TellsStep told c.args.self.now c.start_from.new.self (λ x. load_reading x r) (λ x. load_reading_exceeds r)))
    (sym (IfOk-at_ok (λ (sum : SumDoc). summary line ≡ Ok sum) c.in-Ok.is reads.ok)) c.start_from.ensures

pub returns-in-Err : goal.returns-in-Err
returns-in-Err g c = λ line reads.
    let is : summary line ≡ Err c.in-Err.fault = IfErr-at_err (λ (f : SumFault). (f ≡ OutOfMemory → ⊥) → summary line ≡ Err f) c.in-Err.is reads.err (search rules) in
    refused-told (Summary c.in-Err.fault) c.args.self.now (load_line line) (λ x h. ap (load_reading x) is)
