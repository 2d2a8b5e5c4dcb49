use Rattle.std.proofs.Common.{◌≡◌, None, subst, sym, true}
use Rattle.ft_msg.specs.Process.{after_foreign_message, process_fault}
use Rattle.ft_changes.proofs.RestSteps.{body-of-lists}
use Rattle.ft_changes.specs.Rest.{are_of_lists}
use Rattle.ft_changes.specs.Shown.{shown_content}
use Rattle.ft_msg.specs.Agreed.{reference_number}
use Rattle.ft_replica.specs.Own.{held_by}
use Rattle.ft_replica.specs.Telling.{TakesOther}
use Rattle.ft_replica.proofs.LinkedSteps.{made-named}
use Rattle.ft_replica.proofs.MadeSteps.{holds-entry, named-after, other-fact}
use Rattle.ft_replica.proofs.ToldSteps.{other-told}
use Rattle.ft_replica.proofs.linked.telling.take_into_document.Goals as goal

pub shown_rest-requires : goal.shown_rest-requires
shown_rest-requires g c =
    other-fact g.D.OwnDocument.holds c.args.doc.now c.args.doc.now (TakesOther c.args.entry.now c.args.last) (λ p. p.last_stage ≡ c.args.last) c.requires.known (λ p t. t.last_is)

pub take_telling-requires-clause-known : goal.take_telling-requires-clause-known
take_telling-requires-clause-known g c =
    let entry = c.args.entry.now in
    other-fact g.D.OwnDocument.holds c.args.doc.now c.args.doc.now (TakesOther entry c.args.last) (λ p. (process_fault p entry ≡ None) × (p.last_stage ≡ c.args.last)) c.requires.known
    (λ p t. (t.taken, t.last_is))

pub tell_rest-requires : goal.tell_rest-requires
tell_rest-requires g c =
    holds-entry g.D.OwnDocument.holds c.args.doc.now c.take_telling.new.self c.args.entry.now c.args.last c.requires.formed c.requires.known c.in_ok-changes.ensures.takes

pub returns-clause-takes : goal.returns-clause-takes
returns-clause-takes g c = c.in_ok-changes.ensures.takes

pub returns-clause-told : goal.returns-clause-told
returns-clause-told g c = λ start low p made t enough h.
    let entry = c.args.entry.now in
    let named = made-named start p made in
    let y = after_foreign_message p entry in
    let before = c.in_ok-before.ensures low p named t.last_is h in
    let lists = c.in_ok-changes.ensures.told (held_by low p) named t.last_is h in
    let of_lists = subst (λ cs. are_of_lists cs ≡ true) (sym lists)
    (body-of-lists c.args.last p.doc entry.msg.seq entry.origin (reference_number entry.msg.ref_seq) entry.msg.body) in
    let all = c.in_ok-tell_rest.ensures (shown_content p) low y (sym before) of_lists (named-after start p entry c.args.last c.requires.formed made t) t.last_is (c.in_ok-changes.ensures.takes (held_by low p) named h) in
    other-told entry c.args.last p c.args.compared c.args.op.now c.in_ok-changes.changes _ t enough lists all
