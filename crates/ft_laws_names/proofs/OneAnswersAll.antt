-- What a replica does on one client that it shows, it answers for each for which it stands: each is a law on names and one on compaction.
use Rattle.ft_msg.specs.Client.{connect, drop_link, local_edit, noop}
use Rattle.ft_msg.specs.Process.{process}
use Rattle.ft_msg.specs.Answers.{edit_fault_kind, link_fault_kind, process_fault_kind}
use Rattle.ft_msg.proofs.ReachedSteps.{well-formed-fits}
use Rattle.ft_laws_compaction.proofs.AllSteps.{reached-sound}
use Rattle.ft_laws_compaction.proofs.KeptSteps as keep
use Rattle.ft_laws_names.proofs.CountedSteps.{connects-count, drops-count, edits-count, entries-count, idles-count}
use Rattle.ft_laws_names.proofs.MirroredCompaction.{one-compacts}
use Rattle.ft_laws_names.proofs.NamedSteps.{connects-of, drops-of, edits-of, entries-of, idles-of, reached-named}
use Rattle.ft_laws_names.proofs.OneForAll.{one-for-all, one-shows, one-sums}
use Rattle.ft_laws_names.specs.Renaming.{OneCompactionServesAll, OneConnectAnswersAll, OneDropAnswersAll, OneEditAnswersAll, OneEntryAnswersAll, OneIdleAnswersAll, OneSummaryAnswersAll, OneViewAnswersAll}

pub one-edit-answers-all : OneEditAnswersAll
one-edit-answers-all = λ start old new op result p named shows does x r e s.
    one-for-all _ edit_fault_kind old new (λ y. local_edit y op) result p named shows does (λ q h. edits-of p q op h) (λ q k t. edits-count q k op t) x (reached-named x r)
    (λ kept k. keep.edits-answer r.steps x kept op (reached-sound x r) k) s

pub one-entry-answers-all : OneEntryAnswersAll
one-entry-answers-all = λ start old new entry result p fits named shows does x r e s.
    one-for-all _ process_fault_kind old new (λ y. process y entry) result p named shows does (λ q h. entries-of p q entry h)
    (λ q k t. entries-count q k entry t) x (reached-named x r)
    (λ kept k. keep.entries-answer r.steps x kept entry (reached-sound x r) k (well-formed-fits entry fits)) s

pub one-connect-answers-all : OneConnectAnswersAll
one-connect-answers-all = λ start old new conn result p named shows does x r e s.
    one-for-all _ link_fault_kind old new (λ y. connect y conn) result p named shows does (λ q h. connects-of p q conn h) (λ q k t. connects-count q k conn t)
    x (reached-named x r) (λ kept k. keep.connects-alike x kept conn k) s

pub one-drop-answers-all : OneDropAnswersAll
one-drop-answers-all = λ start old new result p named shows does x r e s.
    one-for-all _ link_fault_kind old new drop_link result p named shows does (λ q h. drops-of p q h) (λ q k t. drops-count q k t) x (reached-named x r)
    (λ kept k. keep.drops-alike x kept k) s

pub one-idle-answers-all : OneIdleAnswersAll
one-idle-answers-all = λ start old new result p named shows does x r e s.
    one-for-all _ link_fault_kind old new noop result p named shows does (λ q h. idles-of p q h) (λ q k t. idles-count q k t) x (reached-named x r)
    (λ kept k. keep.idles-alike x kept k) s

pub one-view-answers-all : OneViewAnswersAll
one-view-answers-all = λ state p named shows x r s. one-shows state p named shows x r s

pub one-summary-answers-all : OneSummaryAnswersAll
one-summary-answers-all = λ state sum names origin p named shows m x r s. one-sums state sum names origin p named shows m x r s

pub one-compaction-serves-all : OneCompactionServesAll
one-compaction-serves-all = λ start old new result p named shows does x r e s. one-compacts start old new result p named shows does x r e s
