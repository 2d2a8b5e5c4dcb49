use Rattle.std.proofs.Common.{◌/◌, length, leb-true}
use Rattle.ft_partial.proofs.EntryLemmas.{no_entry, old_at, up_to_past}
use Rattle.ft_partial.proofs.entries.is_half_old.Goals as goal

pub returns-then-middle-entries-clause-old : goal.returns-then-middle-entries-clause-old
returns-then-middle-entries-clause-old c = λ old.
    up_to_past c.args.floor (length c.args.entries.now / 2) no_entry c.args.entries.now c.requires c.if-middle-entries.true (leb-true _ _ old)

pub returns-then-middle-entries-clause-exact : goal.returns-then-middle-entries-clause-exact
returns-then-middle-entries-clause-exact c = old_at c.args.floor (length c.args.entries.now / 2) no_entry c.args.entries.now c.requires c.if-middle-entries.true
