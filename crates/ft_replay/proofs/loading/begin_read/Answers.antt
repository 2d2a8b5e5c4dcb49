use Rattle.std.proofs.Common.{◌≡◌, ◌≤◌, Err, IfOk, Ok, Result, ap, arith, length, refl, rules, subst, sym}
use Rattle.std.proofs.lemmas.Result.{IfErr-at_err, IfOk-at_ok, IfOk-weaker}
use Rattle.ft_io.specs.Reader.{input_limit}
use Rattle.ft_sumdoc.specs.declared.summary.SumDoc.{SumDoc}
use Rattle.ft_sumdoc.specs.declared.summary.SumFault.{SumFault}
use Rattle.ft_sumdoc.specs.declared.summary.SumFault.TheVariants.{OutOfMemory}
use Rattle.ft_sumdoc.specs.Summary.{summary}
use Rattle.ft_sumdoc.specs.Valid.{IsValidSummary}
use Rattle.ft_seqr.specs.declared.refusals.Refusal.TheVariants.{Summary}
use Rattle.ft_replay.specs.declared.listener.Told.TheVariants.{Nothing, Refused}
use Rattle.ft_replay.specs.Listening.{IsStep}
use Rattle.ft_replay.specs.LoadRuns.{Loads}
use Rattle.ft_replay.specs.Loading.{load_reading, loaded, observation_of}
use Rattle.ft_replay.specs.Observation.{nothing_observed}
use Rattle.ft_replay.proofs.Observing.{load-told}
use Rattle.ft_replay.proofs.loading.begin_read.Goals as goal

pub of_summary-requires : goal.of_summary-requires
of_summary-requires g c = record {
  valid = IfOk-at_ok IsValidSummary c.in-Ok.is c.requires.valid;
  few = omega (arith, IfOk-at_ok (λ (sum : SumDoc). length sum.conns ≤ input_limit) c.in-Ok.is c.requires.few);
}

pub returns-in-Ok-clause-step : goal.returns-in-Ok-clause-step
returns-in-Ok-clause-step g c = λ line reads.
    let Holds = Loads g.R.Replica.state c.observe.new.run in
    let sum = c.in-Ok.sum in
    subst (λ (r : Result SumDoc SumFault). IfOk c.observe.result (λ told. IsStep Holds told (load_reading r))) (sym (IfOk-at_ok (λ (s : SumDoc). summary line ≡ Ok s) c.in-Ok.is reads.ok))
    (load-told Holds c.observe.result Nothing (load_reading (Ok sum)) c.observe.ensures.told (c.observe.ensures.holds (loaded (observation_of sum)) refl c.of_summary.ensures) refl refl)

pub returns-in-Ok-clause-size : goal.returns-in-Ok-clause-size
returns-in-Ok-clause-size g c = λ reserved.
    c.observe.ensures.size input_limit (omega (arith, reserved))
    (IfOk-weaker c.of_summary.result _ _ (λ o h. omega (arith, ap length h.known, IfOk-at_ok (λ (sum : SumDoc). length sum.conns ≤ input_limit) c.in-Ok.is c.requires.few)) c.of_summary.ensures)

pub returns-in-Err-clause-step : goal.returns-in-Err-clause-step
returns-in-Err-clause-step g c = λ line reads.
    let Holds = Loads g.R.Replica.state c.observe-in-Err.new.run in
    let fault = c.in-Err.fault in
    let is : summary line ≡ Err fault = IfErr-at_err (λ (f : SumFault). (f ≡ OutOfMemory → ⊥) → summary line ≡ Err f) c.in-Err.is reads.err (search rules) in
    subst (λ (r : Result SumDoc SumFault). IfOk c.observe-in-Err.result (λ told. IsStep Holds told (load_reading r))) (sym is)
    (load-told Holds c.observe-in-Err.result (Refused (Summary fault)) (load_reading (Err fault)) c.observe-in-Err.ensures.told
    (c.observe-in-Err.ensures.holds (loaded nothing_observed) refl c.start.ensures.first) refl refl)

pub returns-in-Err-clause-size : goal.returns-in-Err-clause-size
returns-in-Err-clause-size g c = λ reserved. c.observe-in-Err.ensures.size input_limit (omega (arith, reserved)) c.start.ensures.size
