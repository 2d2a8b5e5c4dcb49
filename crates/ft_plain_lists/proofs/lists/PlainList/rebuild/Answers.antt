use Rattle.std.proofs.Common.{◌≡◌, ℕ, List, ◌∙◌, ap}
use Rattle.std.proofs.lemmas.Result.{IfOk-at_ok, on_ok_weaker}
use Rattle.ft_base.specs.Scan.{retain_map}
use Rattle.ft_props.specs.Element.{ListElement, is_sequenced}
use Rattle.ft_props.specs.Steps.{Sequence, carried_element, put_stages}
use Rattle.ft_plain_lists.proofs.lists.PlainList.rebuild.Goals as goal

-- a list with these elements and this count
abbrev sequence : ℕ → List ListElement → Sequence
sequence made items = record { items = items; made = made }

-- the elements, with those of each stage put in afresh
abbrev rebuilt : List ℕ → List ListElement → List ListElement
rebuilt stages items = put_stages items (retain_map is_sequenced carried_element items) stages

pub returns-clause-ok : goal.returns-clause-ok
returns-clause-ok c =
    let stages = c.args.stages.now in
    rw (← c.self.view_is)
    (on_ok_weaker c.fill.result
    (λ made. ap (sequence c.self.inside.made)
    (IfOk-at_ok (λ v. v.items ≡ rebuilt stages c.as_slice.result.now) made c.rebuilt_elements-rebuilt.ensures.items
    ∙ ap (rebuilt stages) c.as_slice.ensures.value))
    c.fill.ensures.ok)
