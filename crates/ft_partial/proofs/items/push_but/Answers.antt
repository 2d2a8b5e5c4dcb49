use Rattle.std.proofs.lemmas.Result.{on_ok_weaker}
use Rattle.ft_partial.proofs.ItemLemmas.{adds_but}
use Rattle.ft_partial.specs.EntryLists.{entries_of}
use Rattle.ft_partial.proofs.items.push_but.Goals as goal

pub returns : goal.returns
returns c =
    on_ok_weaker c.take_own.result
    (adds_but c.args.floor (entries_of c.args.entries.now) (entries_of c.push.new.self) (entries_of c.take_own.new.entries) c.args.seq c.args.by c.args.conn c.args.stamps.now c.in_ok-push.ensures)
    c.take_own.ensures
