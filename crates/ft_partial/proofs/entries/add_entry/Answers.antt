use Rattle.std.proofs.Common.{List, subst}
use Rattle.ft_partial.specs.declared.entries.Entry.{Entry}
use Rattle.ft_partial.specs.Entries.{IsPlace}
use Rattle.ft_partial.proofs.EntryLemmas.{adds_put}
use Rattle.ft_partial.proofs.entries.add_entry.Goals as goal

pub returns-in-None-clause-adds : goal.returns-in-None-clause-adds
returns-in-None-clause-adds c =
    let P : List Entry → Type 0 = λ xs. IsPlace xs c.args.x.seq c.entry_place-i.result in
    adds_put c.args.entries.now.items _ c.entry_place-i.result c.args.x c.requires.rising (subst P c.as_slice.ensures.value c.entry_place-i.ensures) c.put.ensures.items
