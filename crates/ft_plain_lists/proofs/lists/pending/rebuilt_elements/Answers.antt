use Rattle.std.proofs.Common.{◌≡◌, ◌<◌, ◌^◌, ◌∙◌, ap, length}
use Rattle.std.specs.Global.{Vec}
use Rattle.std.proofs.lemmas.Result.{on_ok_weaker}
use Rattle.ft_base.specs.Scan.{retain_map}
use Rattle.ft_base.proofs.Results.{after-done}
use Rattle.ft_props.specs.Element.{ListElement, is_sequenced}
use Rattle.ft_props.specs.Steps.{carried_element, put_stages}
use Rattle.ft_plain_lists.proofs.lists.pending.rebuilt_elements.Goals as goal

pub returns-clause-items : goal.returns-clause-items
returns-clause-items c =
    let xs = c.args.items.now in
    let stages = c.args.stages.now in
    let done = c.put_stages-done in
    after-done done.result c.after.result
    (λ (v : Vec ListElement). v.items ≡ put_stages xs (retain_map is_sequenced carried_element xs) stages) done.new.rebuilt
    (on_ok_weaker done.result (λ made. made ∙ ap (λ ys. put_stages xs ys stages) c.in_ok-rebuilt.ensures) done.ensures.items)
    c.after.ensures.done c.after.ensures.value

pub returns-clause-countable : goal.returns-clause-countable
returns-clause-countable c =
    let done = c.put_stages-done in
    after-done done.result c.after.result (λ (v : Vec ListElement). length v.items < 2 ^ 53) done.new.rebuilt done.ensures.countable
    c.after.ensures.done c.after.ensures.value
