use Rattle.std.proofs.Common.{◌≡◌, ◌≢◌, Result, Ok, Err, subst}
use Rattle.std.specs.Prelude.{IfErr, IfOk}
use Rattle.serde_json.specs.View.{view}
use Rattle.ft_sumdoc.specs.declared.summary.SumFault.{SumFault}
use Rattle.ft_sumdoc.specs.declared.summary.SumFault.TheVariants.{OutOfMemory}
use Rattle.ft_sumdoc.specs.Items.{head_of, lists_of}
use Rattle.ft_sumdoc.specs.Summary.{Lists}
use Rattle.ft_sumdoc.proofs.NarrowSummaries.{lists-narrow}
use Rattle.ft_sumdoc.proofs.summary_reading.read_lists.Goals as goal

pub returns-clause-ok : goal.returns-clause-ok
returns-clause-ok c =
    subst (λ (expected : Result Lists SumFault). IfOk c.read_narrow_lists.result (λ found. expected ≡ Ok (lists_of found)))
    (lists-narrow (head_of c.args.head.now) (view c.args.value.now) c.requires.few) c.read_narrow_lists.ensures.ok

pub returns-clause-err : goal.returns-clause-err
returns-clause-err c =
    subst (λ (expected : Result Lists SumFault). IfErr c.read_narrow_lists.result (λ fault. fault ≢ OutOfMemory → expected ≡ Err fault))
    (lists-narrow (head_of c.args.head.now) (view c.args.value.now) c.requires.few) c.read_narrow_lists.ensures.err
