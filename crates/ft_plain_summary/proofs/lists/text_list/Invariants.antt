use Rattle.std.proofs.Common.{◌≡◌, ◌++◌, drop, length}
use Rattle.ft_msg.specs.Summary.{segment_items}
use Rattle.ft_plain_summary.proofs.lists.text_list.Given as goal

-- the elements so far, and those of the rest of the segments, are all
abbrev pub invariant-loop-seg : goal.invariant-loop-seg
invariant-loop-seg l = record {
  counted : l.list.made ≡ length l.list.items;
  all : l.list.items ++ segment_items l.list.made (drop l.seg-index l.segs) ≡ segment_items 0 l.segs;
}
