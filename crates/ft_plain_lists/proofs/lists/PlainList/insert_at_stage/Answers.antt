use Rattle.std.proofs.Common.{◌≡◌, ◌-◌, ℕ, List, [], None, map, ap}
use Rattle.std.proofs.lemmas.Result.{on_ok_weaker}
use Rattle.ft_base.specs.declared.stamps.Stamp.TheVariants.{Local}
use Rattle.ft_base.specs.Scan.{no_run, put}
use Rattle.ft_props.specs.Element.{ListElement, new_elements, seen}
use Rattle.ft_props.specs.Steps.{Sequence}
use Rattle.ft_plain_lists.specs.Contents.{content_of}
use Rattle.ft_plain_lists.proofs.MadeItems.{made-known}
use Rattle.ft_plain_lists.proofs.lists.PlainList.insert_at_stage.Goals as goal

-- a list with these elements and this count
abbrev sequence : ℕ → List ListElement → Sequence
sequence made items = record { items = items; made = made }

pub returns-clause-ok : goal.returns-clause-ok
returns-clause-ok c =
    let old = c.self.inside.items.items in
    let before = seen (c.args.stage - 1) in
    let new = new_elements 0 (Local c.args.stage) [] None c.args.props.now (map content_of c.args.contents.now) in
    rw (← c.self.view_is)
    (on_ok_weaker c.put_behind.result
    (λ made. ap (sequence c.self.inside.made)
    (made-known c.new_elements-new.result (λ v. v.items) new (λ xs. c.put_behind.new.items.items ≡ put before no_run c.args.p xs old)
    (rw c.new-dels.ensures at c.new_elements-new.ensures.elements) made))
    c.put_behind.ensures.ok)
