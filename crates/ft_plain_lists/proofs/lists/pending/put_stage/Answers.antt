use Rattle.std.proofs.Common.{◌≡◌, ◌-◌, ◌∙◌, ap, filter}
use Rattle.std.proofs.lemmas.Result.{on_ok_weaker}
use Rattle.ft_base.specs.Scan.{no_run, put}
use Rattle.ft_props.specs.Element.{seen}
use Rattle.ft_props.specs.Steps.{is_inserted_by}
use Rattle.ft_plain_lists.proofs.MadeItems.{made-known}
use Rattle.ft_plain_lists.proofs.lists.pending.put_stage.Goals as goal

pub returns : goal.returns
returns c =
    let ys = c.args.rebuilt.now.items in
    let before = seen (c.args.stage - 1) in
    let found = filter (is_inserted_by c.args.stage) c.args.items.now in
    on_ok_weaker c.put_behind.result
    (λ made. made-known c.elements_of_stage-new.result (λ v. v.items) found
    (λ xs. c.put_behind.new.items.items ≡ put before no_run c.stage_position-place.result xs ys) c.elements_of_stage-new.ensures made
    ∙ ap (λ p. put before no_run p found ys) c.stage_position-place.ensures)
    c.put_behind.ensures.ok
