use Rattle.std.proofs.Common.{◌≡◌, ◌+◌, ap, subst, sym, true, ◌∙◌}
use Rattle.ft_msg.specs.Client.{stages_of}
use Rattle.ft_op.specs.Operation.{sub_operations}
use Rattle.ft_changes.proofs.RestSteps.{locals-of-lists}
use Rattle.ft_changes.specs.Rest.{are_of_lists, rest_of}
use Rattle.ft_changes.specs.Shown.{shown_content}
use Rattle.ft_replica.specs.Own.{HoldsOne, held_by}
use Rattle.ft_changes.specs.Laws.{after_edit_lists}
use Rattle.ft_changes.specs.Told.{told_rest}
use Rattle.ft_replica.specs.Comparing.{compared_part}
use Rattle.ft_replica.proofs.ComparedParts.{edit-compared, same-part}
use Rattle.ft_replica.proofs.LinkedSteps.{made-named}
use Rattle.ft_replica.proofs.MadeSteps.{edited-client, edited-named, holds-edited}
use Rattle.ft_replica.proofs.ToldSteps.{edited-told, went-well}
use Rattle.ft_replica.proofs.linked.telling.edit_document.Goals as goal

pub tell_rest-requires : goal.tell_rest-requires
tell_rest-requires g c =
    let D = g.D.OwnDocument in
    let d = c.edit_telling.new.self in
    let count = c.in_ok-edit.edit.stages in
    subst (λ n. HoldsOne D.holds d (λ p. p.last_stage ≡ n)) (sym c.in-Some.ensures.1)
    (holds-edited D.holds c.args.doc.now d D.shown g.met.D.OwnDocument.shows c.args.op.now count c.args.last c.requires.known c.in_ok-edit.ensures.answers)

pub returns-clause-told : goal.returns-clause-told
returns-clause-told g c = λ start low p made is h.
    let D = g.D.OwnDocument in
    let op = c.args.op.now in
    let d = c.edit_telling.new.self in
    let edit = c.in_ok-edit.edit in
    let named = made-named start p made in
    let before = c.in-Ok.ensures low p named is h in
    let lists = c.in_ok-edit.ensures.told (held_by low p) named is h in
    let of_lists = subst (λ cs. are_of_lists cs ≡ true) (sym lists) (locals-of-lists p.doc (stages_of p) (c.args.last + 1) (sub_operations op)) in
    let t = edited-client D.holds c.args.doc.now d D.shown g.met.D.OwnDocument.shows op edit.stages c.args.last low p named is h c.in_ok-edit.ensures.answers in
    let last = t.last_is ∙ ap (λ n. n + edit.stages) is ∙ sym c.in-Some.ensures.1 in
    let compared = c.by_edit-compared.result in
    let stages = stages_of t.client in
    let first = ap rest_of (same-part compared op c.by_edit-compared.ensures stages (stages_of p) (shown_content p)) ∙ sym before in
    let all = went-well c.tell_rest.result (sym c.if-is_err.ensures.value)
    (c.tell_rest.ensures (shown_content p) low t.client first of_lists (edited-named op start p t.client made t.taken) last t.document) in
    let enough = subst (λ compared. told_rest (compared_part compared op stages (after_edit_lists p op)) (compared_part compared op stages (shown_content t.client))
    ≡ told_rest (after_edit_lists p op) (shown_content t.client))
    (sym c.by_edit-compared.ensures) (edit-compared start p t.client op stages made t.taken) in
    edited-told p t.client op c.args.last _ stages edit.changes _ is t.taken enough lists all
