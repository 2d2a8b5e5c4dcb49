-- the pairs that are done, and then the others, are all; and all can be written where the others can
use Rattle.std.proofs.Common.{◌≡◌, ◌++◌, drop, string_bytes}
use Rattle.std.specs.List.{AllByRecursion}
use Rattle.ft_map.specs.MapReport.{later_pairs}
use Rattle.ft_map.specs.MapWorlds.{IsWritable}
use Rattle.ft_map.proofs.summaries.push_later_pairs.Given as goal

abbrev pub invariant-loop-pair : goal.invariant-loop-pair
invariant-loop-pair l = record {
  text : string_bytes l.text ++ later_pairs (drop l.pair-index l.pairs) ≡ string_bytes l.initial.text ++ later_pairs l.pairs;
  writable : AllByRecursion IsWritable (drop l.pair-index l.pairs) → AllByRecursion IsWritable l.pairs;
}
