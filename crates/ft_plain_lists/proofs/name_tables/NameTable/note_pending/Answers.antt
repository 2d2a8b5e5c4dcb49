use Rattle.std.proofs.Common.{refl, sym}
use Rattle.ft_plain_lists.proofs.NotedAnswers.{Notes-pending}
use Rattle.ft_plain_lists.proofs.name_tables.NameTable.note_pending.Goals as goal

pub returns-in-Ok : goal.returns-in-Ok
returns-in-Ok g c =
    Notes-pending c.args.self.now _ c.args.name c.args.value (sym c.requires) c.if-contains_key.ensures refl c.in-Ok.ensures.updates.0
