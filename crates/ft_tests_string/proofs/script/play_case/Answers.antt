use Rattle.ft_tests_string.proofs.PlayingLaws.{begun}
use Rattle.ft_tests_string.proofs.script.play_case.Goals as goal

pub play_lines-requires : goal.play_lines-requires
play_lines-requires c =
    begun c.new-tree.result c.new-intervals.result c.new-progress.result.stage
    c.new-tree.ensures c.new-intervals.ensures.value c.new-progress.ensures
