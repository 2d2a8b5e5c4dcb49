use Rattle.std.proofs.Common.{◌+◌, [], ◌∷◌, ◌++◌, ◌∙◌, ap, drop, sym}
use Rattle.std.proofs.lemmas.List.{drop_more}
use Rattle.ft_msg.specs.Acknowledgement.{ack_stages, made_before}
use Rattle.ft_plain_document.proofs.RenamedNames.{acked-next}
use Rattle.ft_plain_document.proofs.documents.PlainDocument.acknowledge.Goals as goal

pub loop-stage-preserved : goal.loop-stage-preserved
loop-stage-preserved c =
    let s = c.args.seq in
    let conn = c.args.conn in
    let stages = c.args.stages.now in
    let i = c.loop-stage.stage-index in
    let t = c.stage-item.result in
    let made = c.made_before-made.result in
    let rest = drop (i + 1) stages in
    let doc = c.loop-stage.self in
    let next = c.acknowledge_stage.new.self in
    let acked = c.loop-stage.renaming in
    let at_front = drop_more stages i t c.loop-stage-test.true ∙ ap (λ e. e ∷ rest) (sym c.stage-item.is) in
    let counted = c.made_before-made.ensures ∙ ap (made_before doc) c.sub_operation.ensures in
    let pushed = c.in_ok-push.ensures.ok ∙ ap (λ k. acked ++ ((k, made) ∷ [])) c.stage.ensures in
    acked-next s conn made acked c.push.new.self t (drop i stages) rest doc next (ack_stages s conn (λ x. x) stages c.args.self.now) at_front counted
    c.in_ok-acknowledge_stage.ensures pushed c.loop-stage.invariant
