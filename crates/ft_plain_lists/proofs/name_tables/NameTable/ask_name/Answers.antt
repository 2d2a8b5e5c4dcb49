use Rattle.std.proofs.Common.{refl}
use Rattle.ft_plain_lists.proofs.NotedAnswers.{only-asked}
use Rattle.ft_plain_lists.proofs.name_tables.NameTable.ask_name.Goals as goal

pub returns-in_ok-insert : goal.returns-in_ok-insert
returns-in_ok-insert g c = only-asked c.args.self.now _ c.args.name c.args.value refl c.in_ok-insert.ensures.updates.0 c.requires
