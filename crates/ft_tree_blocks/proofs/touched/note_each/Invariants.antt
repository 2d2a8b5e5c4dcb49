use Rattle.std.proofs.Common.{◌≡◌, ℕ, true, false, take}
use Rattle.std.specs.List.{list_any}
use Rattle.ft_base.specs.Visibility.{is_of_stage}
use Rattle.ft_tree_blocks.specs.Touched.{Notes, is_listed, is_stamped_by}
use Rattle.ft_tree_blocks.proofs.touched.note_each.Given as goal

-- the node is listed for the stages of the stamps so far
abbrev pub invariant-loop-stamp : goal.invariant-loop-stamp
invariant-loop-stamp l = record {
  notes : Notes l.id l.initial.touched.items l.touched.items;
  listed : (k : ℕ) → list_any (is_of_stage k) (take l.stamp-index l.stamps) ≡ true → is_stamped_by k l.old ≡ false → is_listed l.touched.items k l.id ≡ true;
}
