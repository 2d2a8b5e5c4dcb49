use Rattle.std.proofs.Common.{◌∙◌, ap, arith, Err}
use Rattle.std.proofs.lemmas.Result.{err_from_is_err_and}
use Rattle.ft_replay.proofs.Written.{writes_nothing}
use Rattle.ft_replay.proofs.writing.put_text.Goals as goal

pub returns-in_err-text-clause-writes : goal.returns-in_err-text-clause-writes
returns-in_err-text-clause-writes g c = λ bytes is.
    let p = err_from_is_err_and c.from_residual.result c.from_residual.ensures.1 in
    writes_nothing (g.K.Sink.contents c.args.out.now) (g.K.Sink.faults c.args.out.now) bytes c.from_residual.result (p.1 ∙ ap Err p.2) (omega arith)
