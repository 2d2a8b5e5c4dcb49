use Rattle.std.proofs.Common.{◌≡◌, ◌≤◌, ◌++◌, drop, not, vec_len}
use Rattle.ft_base.specs.Scan.{retain_map}
use Rattle.ft_props.specs.Compaction.{is_collectable, trim_element}
use Rattle.ft_plain_lists.proofs.lists.PlainList.trimmed.Given as goal

-- those so far, and those of the rest, are all
abbrev pub invariant-loop-e : goal.invariant-loop-e
invariant-loop-e l = record {
  counted : vec_len l.items ≤ l.e-index;
  all : l.items.items ++ retain_map (λ e. not (is_collectable l.min e)) (trim_element l.min) (drop l.e-index l.self.items) ≡ retain_map
      (λ e. not (is_collectable l.min e)) (trim_element l.min) l.self.items;
}
