-- Each step by the law that both clients answer it alike.
use Rattle.ft_msg.specs.declared.faults.EditFault.{EditFault}
use Rattle.ft_msg.specs.declared.faults.LinkFault.{LinkFault}
use Rattle.ft_msg.specs.declared.faults.ProcessFault.{ProcessFault}
use Rattle.ft_msg.specs.Answers.{edit_fault_kind, link_fault_kind, process_fault_kind}
use Rattle.ft_msg.specs.Client.{connect, drop_link, local_edit, noop}
use Rattle.ft_msg.specs.Process.{process}
use Rattle.ft_msg.proofs.ReachedSteps.{well-formed-fits}
use Rattle.ft_laws_compaction.proofs.AllSteps.{reached-sound, replica-answers, replica-compacts}
use Rattle.ft_laws_compaction.proofs.KeptReady.{kept-ready, kept-stage_runs}
use Rattle.ft_laws_compaction.proofs.KeptSteps.{connects-alike, drops-alike, edits-answer, entries-answer, idles-alike}
use Rattle.ft_laws_compaction.proofs.SoundlyKept.{soundly-kept}
use Rattle.ft_laws_compaction.proofs.steps.replicas.Goals as goal

pub returns-clause-edits : goal.returns-clause-edits
returns-clause-edits c = λ start old new op result does x r e s. replica-answers EditFault edit_fault_kind old new (λ y. local_edit y op) result start x r e
    (λ kept k. edits-answer r.steps x kept op (reached-sound x r) k) does s

pub returns-clause-entries : goal.returns-clause-entries
returns-clause-entries c = λ start old new entry result w does x r e s. replica-answers ProcessFault process_fault_kind old new (λ y. process y entry) result
    start x r e (λ kept k. entries-answer r.steps x kept entry (reached-sound x r) k (well-formed-fits entry w)) does s

pub returns-clause-connects : goal.returns-clause-connects
returns-clause-connects c = λ start old new conn result does x r e s. replica-answers LinkFault link_fault_kind old new (λ y. connect y conn) result start x r
    e (λ kept k. connects-alike x kept conn k) does s

pub returns-clause-drops : goal.returns-clause-drops
returns-clause-drops c = λ start old new result does x r e s. replica-answers LinkFault link_fault_kind old new drop_link result start x r e (λ kept k. drops-alike x kept k) does s

pub returns-clause-idles : goal.returns-clause-idles
returns-clause-idles c = λ start old new result does x r e s. replica-answers LinkFault link_fault_kind old new noop result start x r e (λ kept k. idles-alike x kept k) does s

pub returns-clause-compacts : goal.returns-clause-compacts
returns-clause-compacts c = replica-compacts

pub returns-clause-sound : goal.returns-clause-sound
returns-clause-sound c = λ start kept h. soundly-kept h.reached.steps h.whole kept (reached-sound h.whole h.reached) h.keeps

pub returns-clause-ready : goal.returns-clause-ready
returns-clause-ready c = λ start kept h. kept-ready h.reached.steps h.whole kept (reached-sound h.whole h.reached) h.keeps

pub returns-clause-runs : goal.returns-clause-runs
returns-clause-runs c = λ start kept h. kept-stage_runs h.reached.steps h.whole kept (reached-sound h.whole h.reached) h.keeps
