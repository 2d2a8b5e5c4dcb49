use Rattle.std.proofs.Common.{◌+◌, ◌∷◌, ◌∙◌, Some, ap, drop, map, sym}
use Rattle.std.proofs.lemmas.List.{drop_more}
use Rattle.ft_marks.specs.Marks.{stamp_of}
use Rattle.ft_msg.specs.Summary.{segment_bodies, segment_items}
use Rattle.ft_plain_summary.proofs.NumberedItems.{counted-with, segment_items-with}
use Rattle.ft_plain_summary.proofs.lists.text_list.Goals as goal

pub loop-seg-preserved : goal.loop-seg-preserved
loop-seg-preserved c =
    let segs = c.args.segs.now in
    let i = c.loop-seg.seg-index in
    let seg = c.seg-item.result in
    let old = c.loop-seg.list in
    let new = c.add_segment.new.list in
    let added = c.in_ok-add_segment.ensures in
    let front = drop_more segs i seg c.loop-seg-test.true ∙ ap (λ x. x ∷ drop (i + 1) segs) (sym c.seg-item.is) in
    record {
      counted = counted-with old.made (stamp_of seg.ins) (map stamp_of seg.dels) (Some (stamp_of seg.by)) seg.props (segment_bodies seg.body) old.items new.items new.made
          c.loop-seg.invariant.counted added.items added.made;
      all = segment_items-with old.made seg (drop (i + 1) segs) (drop i segs) old.items new.items (segment_items 0 segs) new.made front added.items added.made
          c.loop-seg.invariant.all;
    }
