use Rattle.std.proofs.Common.{List, ap, refl, subst, sym, ◌∙◌}
use Rattle.ft_partial.specs.declared.entries.Entry.{Entry}
use Rattle.ft_partial.specs.Entries.{AddsEntries}
use Rattle.ft_partial.proofs.TableLemmas.{adds_change}
use Rattle.ft_partial.proofs.table.Table.put_in.Goals as goal

pub returns-clause-lengths : goal.returns-clause-lengths
returns-clause-lengths c =
    let P : List Entry → Type 0 = λ entries. AddsEntries c.args.self.now.entries entries c.args.more.now in
    adds_change c.args.self.now _ c.args.self.now.entries c.args.more.now c.self.inside.last c.args.last refl
    (ap (λ t. t.last) (c.self.view_is ∙ c.in_ok-put.ensures.rest)) (subst P (sym (ap (λ t. t.entries) c.self.view_is)) c.in_ok-put.ensures.ok) refl
