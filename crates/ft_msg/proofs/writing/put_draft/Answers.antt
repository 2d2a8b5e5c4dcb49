use Rattle.std.proofs.Common.{◌∙◌, ap, ap₂, codes}
use Rattle.std.proofs.lemmas.Result.{on_ok_weaker}
use Rattle.serde_json.specs.Data.{object, put}
use Rattle.ft_msg.proofs.writing.put_draft.Goals as goal

pub returns-clause-value : goal.returns-clause-value
returns-clause-value c =
    let n = c.in_ok-put_count.ensures ∙ ap (put (codes "clientSequenceNumber") _) c.requires.empty in
    let b = c.in_ok-put_body.ensures.value ∙ ap (put (codes "contents") _) n in
    let r = c.in_ok-put_count-2.ensures ∙ ap (put (codes "referenceSequenceNumber") _) b in
    on_ok_weaker c.put_type.result (λ t. ap object (t ∙ ap₂ (put (codes "type")) c.draft_word.ensures r)) c.put_type.ensures

pub returns-clause-representable : goal.returns-clause-representable
returns-clause-representable c = on_ok_weaker c.put_type.result (λ t. c.in_ok-put_body.ensures.representable) c.put_type.ensures
