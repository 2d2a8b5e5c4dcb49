use Rattle.std.proofs.Common.{◌∙◌, ap, ap₂, subst}
use Rattle.std.specs.Prelude.{codes}
use Rattle.std.specs.List.{AllByRecursion}
use Rattle.std.proofs.lemmas.Result.{on_ok_weaker}
use Rattle.serde_json.specs.Data.{array, put}
use Rattle.serde_json.proofs.Views.{view-Array}
use Rattle.ft_op.specs.Written.{written_count, written_items}
use Rattle.ft_sumdoc.specs.Chunks.{chunks}
use Rattle.ft_sumdoc.specs.Representable.{IsRepresentableSegmentRecord}
use Rattle.ft_sumdoc.specs.Written.{written_chunk}
use Rattle.ft_sumdoc.proofs.writing.put_last.Goals as goal

pub returns-clause-value : goal.returns-clause-value
returns-clause-value c =
    let doc = c.args.doc.now in
    let seq = c.in_ok-put_number.ensures in
    let skipped = c.in_ok-put_number-2.ensures ∙ ap (put (codes "skipped") (written_count doc.skipped)) seq in
    let written = view-Array c.in_ok-written_chunks.field-0 ∙ ap array (c.in_ok-written_chunks.ensures.value ∙ ap
    (λ segs. written_items written_chunk (chunks segs)) c.as_slice.ensures) in
    let text = c.in_ok-put.ensures.ok ∙ ap₂ (put (codes "text")) written skipped in
    on_ok_weaker c.put_number-3.result (λ e. e ∙ ap (put (codes "version") (written_count 2)) text) c.put_number-3.ensures

pub returns-clause-text : goal.returns-clause-text
returns-clause-text c =
    on_ok_weaker c.put_number-3.result (λ _. subst (AllByRecursion IsRepresentableSegmentRecord) c.as_slice.ensures
    c.in_ok-written_chunks.ensures.representable)
    c.put_number-3.ensures
