use Rattle.std.proofs.Common.{arith}
use Rattle.std.proofs.lemmas.Result.{IfOk-weaker}
use Rattle.ft_replay.proofs.loading.begin.Goals as goal

pub begin_read-requires : goal.begin_read-requires
begin_read-requires g c = record {
  valid = c.read_summary-read.ensures.reads.formed;
  few = IfOk-weaker c.read_summary-read.result _ _ (λ sum is. omega (arith, c.read_summaries_name_few.ensures c.args.line.now sum is, c.requires)) c.read_summary-read.ensures.reads.ok;
}

pub returns-clause-step : goal.returns-clause-step
returns-clause-step g c = c.begin_read.ensures.step c.args.line.now c.read_summary-read.ensures.reads

pub returns-clause-size : goal.returns-clause-size
returns-clause-size g c = c.begin_read.ensures.size
