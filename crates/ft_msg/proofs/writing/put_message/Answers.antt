use Rattle.std.proofs.Common.{◌∙◌, SFits, w64, ap, ap₂, codes, rules}
use Rattle.std.proofs.lemmas.Int.{to_z-of_z}
use Rattle.std.proofs.lemmas.Result.{on_ok_weaker}
use Rattle.serde_json.specs.Data.{object, put}
use Rattle.ft_op.specs.Written.{written_number}
use Rattle.ft_msg.proofs.writing.put_message.Goals as goal

pub returns-clause-value : goal.returns-clause-value
returns-clause-value c =
    let m = c.args.m.now in
    let own : SFits w64 m.client_seq = search rules in
    let seen : SFits w64 m.ref_seq = search rules in
    let s = c.in_ok-put.ensures.ok ∙ ap₂ (put (codes "clientId")) c.in_ok-sender.ensures.value c.requires.empty in
    let n = c.in_ok-put_number.ensures ∙ ap₂ (put (codes "clientSequenceNumber")) (ap written_number (to_z-of_z w64 m.client_seq own)) s in
    let b = c.in_ok-put_body.ensures.value ∙ ap (put (codes "contents") _) n in
    let l = c.in_ok-put_count.ensures ∙ ap (put (codes "minimumSequenceNumber") _) b in
    let r = c.in_ok-put_number-2.ensures ∙ ap₂ (put (codes "referenceSequenceNumber")) (ap written_number (to_z-of_z w64 m.ref_seq seen)) l in
    let q = c.in_ok-put_count-2.ensures ∙ ap (put (codes "sequenceNumber") _) r in
    on_ok_weaker c.put_type.result (λ t. ap object (t ∙ ap₂ (put (codes "type")) c.kind_word.ensures.word q)) c.put_type.ensures

pub returns-clause-representable : goal.returns-clause-representable
returns-clause-representable c =
    on_ok_weaker c.put_type.result
    (λ t. record {
      sender = c.in_ok-sender.ensures.representable;
      kind = c.kind_word.ensures.representable;
      body = c.in_ok-put_body.ensures.representable;
    })
    c.put_type.ensures
