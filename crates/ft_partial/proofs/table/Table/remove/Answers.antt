use Rattle.std.proofs.Common.{List, OnOk, subst, ap, ◌∙◌}
use Rattle.ft_base.specs.declared.stamps.Stamp.{Stamp}
use Rattle.ft_base.specs.declared.elements.Element.{Element}
use Rattle.ft_partial.specs.Items.{Item, removed}
use Rattle.ft_partial.specs.SameStamps.{ExchangesItem}
use Rattle.ft_partial.specs.Tables.{CountsItems}
use Rattle.ft_partial.proofs.table.Table.remove.Goals as goal

pub returns-clause-ok : goal.returns-clause-ok
returns-clause-ok c =
    let with : List Stamp → Element = λ dels. record { ins = c.in_ok-new.new.ins; dels = dels } in
    let same = ap with c.in_ok-push.ensures.ok ∙ ap (λ e. removed c.args.seq c.args.conn e) c.in_ok-new.ensures in
    let P : Element → Type 0 = λ f. OnOk c.replace.result ((xs ys : List Item) → CountsItems c.args.self.now xs → ExchangesItem xs ys c.args.e.now c.args.len f c.args.len
    → CountsItems c.replace.new.self ys) in
    subst P same c.replace.ensures.ok
