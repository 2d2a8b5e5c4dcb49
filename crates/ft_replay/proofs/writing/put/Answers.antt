use Rattle.std.proofs.Common.{◌∙◌, ap, Err, IsErrOf, subst, sym}
use Rattle.std.proofs.lemmas.Result.{err_from_is_err_and}
use Rattle.ft_replay.specs.declared.endings.Fault.TheVariants.{OutOfMemory}
use Rattle.ft_replay.proofs.Written.{writes_failed}
use Rattle.ft_replay.proofs.writing.put.Goals as goal

pub returns-in_err-write_all-clause-writes : goal.returns-in_err-write_all-clause-writes
returns-in_err-write_all-clause-writes g c =
    let told = c.in_err-write_all.ensures in
    let p = err_from_is_err_and c.from_residual.result c.from_residual.ensures.1 in
    writes_failed (g.K.Sink.contents c.args.out.now) (g.K.Sink.contents c.write_all.new.out) (g.K.Sink.faults c.args.out.now) (g.K.Sink.faults c.write_all.new.out)
    told.prefix.0 c.args.bytes.now c.from_residual.result (p.1 ∙ ap Err p.2) told.prefix.2 told.cause.later told.cause.failed

pub returns-in_err-write_all-clause-fault : goal.returns-in_err-write_all-clause-fault
returns-in_err-write_all-clause-fault g c =
    let p = err_from_is_err_and c.from_residual.result c.from_residual.ensures.1 in
    subst (λ result. IsErrOf result OutOfMemory → ⊥) (sym (p.1 ∙ ap Err p.2)) (λ e. cc)
