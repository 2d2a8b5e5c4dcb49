use Rattle.std.proofs.Common.{◌≡◌, ◌∙◌, ◌||◌, ◌&&◌, ◌++◌, false, nat_eq, None, ap, subst, sym}
use Rattle.std.specs.List.{list_any}
use Rattle.ft_msg.specs.Process.{is_op, is_own_join, process_fault}
use Rattle.ft_replica.specs.Linked.{LinkedState, RunsForOne}
use Rattle.ft_replica.specs.Own.{held_by}
use Rattle.ft_replica.specs.Telling.{IsEnough, TakesOther}
use Rattle.ft_replica.proofs.ComparedParts.{enough-compared}
use Rattle.ft_replica.proofs.LinkedEntries.{takes-entry}
use Rattle.ft_replica.proofs.LinkedReads.{none-refuses}
use Rattle.ft_replica.proofs.LinkedSteps.{holds-one, state}
use Rattle.ft_replica.proofs.ToldSteps.{neither, other-client}
use Rattle.ft_replica.proofs.linked.LinkedClient.take_operation.Goals as goal

pub take_into_document-requires-clause-known : goal.take_into_document-requires-clause-known
take_into_document-requires-clause-known g c =
    let i = c.self.inside in
    let holds = g.D.OwnDocument.holds in
    let entry = c.args.entry.now in
    let old = state i.doc i.link i.conns i.last_stage i.outbox i.pending in
    let runs = subst (λ s. RunsForOne holds s (λ p. process_fault p entry ≡ None)) (sym c.self.view_is) c.requires.known in
    let from_itself : LinkedState _ → _ = λ s. is_own_join s.link entry.msg.kind entry.origin || (is_op entry.msg.body && list_any (nat_eq entry.origin) s.conns) in
    let other : from_itself old ≡ false = ap from_itself c.self.view_is ∙ c.requires.other in
    holds-one holds old (λ p. process_fault p entry ≡ None) (TakesOther entry i.last_stage) runs (λ p fits rest. other-client entry old p rest fits other)

pub returns-clause-answers : goal.returns-clause-answers
returns-clause-answers g c =
    let i = c.self.inside in
    let holds = g.D.OwnDocument.holds in
    let entry = c.args.entry.now in
    let d = c.take_into_document.new.doc in
    let new = state d i.link i.conns i.last_stage i.outbox i.pending in
    let s = c.args.self.now in
    let none = neither (is_own_join s.link entry.msg.kind entry.origin) (is_op entry.msg.body && list_any (nat_eq entry.origin) s.conns) c.requires.other in
    takes-entry holds entry s new none.0 none.1
    (λ held named h. c.in_ok-told.ensures.takes held named (subst (λ (t : LinkedState _). holds t.document held) (sym c.self.view_is) h))
    (ap (λ (t : LinkedState _). record t { document = d }) c.self.view_is)

pub returns-clause-told : goal.returns-clause-told
returns-clause-told g c =
    let i = c.self.inside in
    let D = g.D.OwnDocument in
    let entry = c.args.entry.now in
    let op = c.args.op.now in
    let s = c.args.self.now in
    λ start low p made l.
    let last = sym (ap (λ (t : LinkedState _). t.last_stage) c.self.view_is) in
    let taken = none-refuses D.holds D.shown g.met.D.OwnDocument.shows low s p entry c.requires.known l in
    let other = other-client entry s p l.rest taken c.requires.other in
    let here = subst (λ n. TakesOther entry n p) last other in
    let document = subst (λ (t : LinkedState _). D.holds t.document (held_by low p)) (sym c.self.view_is) l.document in
    let enough = subst (λ compared. IsEnough compared op entry p) (sym c.by_message-compared.ensures)
    (enough-compared start p entry i.last_stage here op c.requires.operation _ c.requires.formed made
    (λ alike. c.moves_ends_alike.ensures start low p made l alike)) in
    c.in_ok-append.ensures.ok ∙ ap (λ cs. c.args.changes.now ++ cs) (c.in_ok-told.ensures.told start low p made here enough document)
