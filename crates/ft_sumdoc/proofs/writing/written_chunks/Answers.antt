use Rattle.std.proofs.Common.{◌≡◌, ◌∙◌, ◌++◌, ◌∷◌, map, sym, ap, ap₂, subst, arith, List}
use Rattle.std.specs.List.{AllByRecursion}
use Rattle.std.proofs.lemmas.List.{take-append-drop}
use Rattle.serde_json.specs.Data.{array}
use Rattle.serde_json.specs.View.{view}
use Rattle.serde_json.specs.declared.value.Value.TheVariants.{Array}
use Rattle.serde_json.proofs.Views.{view-Array}
use Rattle.ft_sumdoc.specs.declared.summary.SegRec.{SegRec}
use Rattle.ft_sumdoc.specs.Chunks.{chunks}
use Rattle.ft_sumdoc.specs.Representable.{IsRepresentableSegmentRecord}
use Rattle.ft_sumdoc.specs.Segments.{text_length}
use Rattle.ft_sumdoc.specs.Valid.{HasValues}
use Rattle.ft_sumdoc.specs.Written.{written_chunk}
use Rattle.ft_sumdoc.proofs.CutText.{all_join, all_split, chunk_written, length_split}
use Rattle.ft_sumdoc.proofs.writing.written_chunks.Goals as goal

pub loop-rest-preserved : goal.loop-rest-preserved
loop-rest-preserved c =
    let rest = c.loop-rest.rest.now in
    let chunk = c.split_at.result.0.now in
    let left = c.split_at.result.1.now in
    let n = c.chunk_len.result in
    let inv = c.loop-rest.invariant in
    let cut = c.split_at.ensures in
    let vs = c.loop-rest.values.items in
    let made = c.in_ok-written_each in
    let Append : List SegRec → List SegRec → List SegRec = λ xs ys. xs ++ ys in
    let whole : chunk ++ left ≡ rest = ap₂ Append cut.front cut.back ∙ take-append-drop n rest in
    let parts : chunks rest ≡ chunk ∷ chunks left = c.chunk_len.ensures.cut ∙ ap₂ (λ (x y : List SegRec). x ∷ chunks y) (sym cut.front) (sym cut.back) in
    let seen : view (Array made.field-0) ≡ written_chunk chunk = view-Array made.field-0 ∙ ap array made.ensures.value in
    let split = all_split (λ (seg : SegRec). HasValues seg.props) chunk left (subst (AllByRecursion (λ seg. HasValues seg.props)) (sym whole) inv.values) in
    record {
      written =
          ap (λ items. map view items ++ map written_chunk (chunks left)) c.in_ok-push.ensures.items
          ∙ chunk_written vs (Array made.field-0) chunk (chunks left) (chunks c.args.segs.now) seen (ap (λ cs. map view vs ++ map written_chunk cs) (sym parts) ∙ inv.written);
      values = split.1;
      elements = omega (arith, length_split chunk left, ap text_length whole, inv.elements);
      representable = λ h. inv.representable (subst (AllByRecursion IsRepresentableSegmentRecord) whole (all_join IsRepresentableSegmentRecord chunk left made.ensures.representable h));
    }
