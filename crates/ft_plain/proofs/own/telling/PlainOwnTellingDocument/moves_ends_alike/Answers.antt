use Rattle.std.proofs.Common.{◌≡◌, Bool, ap, not, subst, true}
use Rattle.std.proofs.lemmas.Bool.{or_right}
use Rattle.std.specs.List.{list_any}
use Rattle.ft_op.specs.Document.{Document}
use Rattle.ft_op.specs.Stages.{Stage}
use Rattle.ft_msg.specs.Agreed.{reference_number}
use Rattle.ft_msg.specs.Client.{stages_of}
use Rattle.ft_changes.specs.Beside.{body_moves_ends_alike}
use Rattle.ft_plain.specs.Own.{PlainState}
use Rattle.ft_plain.proofs.own.telling.PlainOwnTellingDocument.moves_ends_alike.Goals as goal

pub returns : goal.returns
returns c = λ low p named e h alike.
    let entry = c.args.entry.now in
    let r = reference_number entry.msg.ref_seq in
    let idle : Bool = not (list_any (λ (t : Stage). true) (stages_of p)) in
    let same = ap (λ (s : PlainState). s.doc) c.self.view_is in
    or_right idle (body_moves_ends_alike p.doc entry.origin r entry.msg.body)
    (subst (λ (doc : Document). body_moves_ends_alike doc entry.origin r entry.msg.body ≡ true) h.document
    (subst (λ (doc : Document). body_moves_ends_alike doc entry.origin r entry.msg.body ≡ true) same (c.moves_ends_alike.ensures alike)))
