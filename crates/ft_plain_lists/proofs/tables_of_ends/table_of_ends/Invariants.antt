use Rattle.ft_plain_lists.specs.NameTables.{HasAnswers}
use Rattle.ft_plain_lists.proofs.tables_of_ends.table_of_ends.Given as goal

abbrev pub invariant-loop-i : goal.invariant-loop-i
invariant-loop-i g l = HasAnswers (λ x. l.value) l.table
