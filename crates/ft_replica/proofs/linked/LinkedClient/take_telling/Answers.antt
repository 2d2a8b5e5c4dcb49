use Rattle.std.proofs.Common.{◌∙◌, ◌++◌, append-nil, ap, sym}
use Rattle.ft_msg.specs.Process.{is_op}
use Rattle.ft_replica.proofs.LinkedReads.{none-refuses}
use Rattle.ft_replica.proofs.ToldSteps.{idle-tells-nothing, on-any-ok, other-client, own-tells-nothing, whose}
use Rattle.ft_replica.proofs.linked.LinkedClient.take_telling.Goals as goal

-- of its own join and its own message it tells nothing
pub returns-then-is_from_itself-clause-told : goal.returns-then-is_from_itself-clause-told
returns-then-is_from_itself-clause-told g c =
    let D = g.D.OwnDocument in
    let entry = c.args.entry.now in
    let s = c.args.self.now in
    on-any-ok c.take.result
    (λ start low p made l.
    sym (ap (λ cs. c.args.changes.now ++ cs)
    (own-tells-nothing start p entry c.requires.formed made (none-refuses D.holds D.shown g.met.D.OwnDocument.shows low s p entry c.requires.known l)
    (sym (whose entry s p l.rest) ∙ sym c.is_from_itself.ensures ∙ c.if-is_from_itself.true))
    ∙ append-nil c.args.changes.now))

pub take_operation-requires-clause-other : goal.take_operation-requires-clause-other
take_operation-requires-clause-other g c = sym c.is_from_itself.ensures ∙ c.if-is_from_itself.false

pub take_operation-requires-clause-operation : goal.take_operation-requires-clause-operation
take_operation-requires-clause-operation g c = c.in-Op.is

-- nor of what has no operation
pub returns-in-Nothing-clause-told : goal.returns-in-Nothing-clause-told
returns-in-Nothing-clause-told g c =
    let D = g.D.OwnDocument in
    let entry = c.args.entry.now in
    let s = c.args.self.now in
    on-any-ok c.take-in-Nothing.result
    (λ start low p made l.
    let taken = none-refuses D.holds D.shown g.met.D.OwnDocument.shows low s p entry c.requires.known l in
    let other = other-client entry s p l.rest taken (sym c.is_from_itself.ensures ∙ c.if-is_from_itself.false) in
    sym (ap (λ cs. c.args.changes.now ++ cs) (idle-tells-nothing entry s.last_stage p other (ap is_op c.in-Nothing.is)) ∙ append-nil c.args.changes.now))

pub returns-in-Elsewhere-clause-told : goal.returns-in-Elsewhere-clause-told
returns-in-Elsewhere-clause-told g c =
    let D = g.D.OwnDocument in
    let entry = c.args.entry.now in
    let s = c.args.self.now in
    on-any-ok c.take-in-Elsewhere.result
    (λ start low p made l.
    let taken = none-refuses D.holds D.shown g.met.D.OwnDocument.shows low s p entry c.requires.known l in
    let other = other-client entry s p l.rest taken (sym c.is_from_itself.ensures ∙ c.if-is_from_itself.false) in
    sym (ap (λ cs. c.args.changes.now ++ cs) (idle-tells-nothing entry s.last_stage p other (ap is_op c.in-Elsewhere.is)) ∙ append-nil c.args.changes.now))
