use Rattle.std.proofs.Common.{◌+◌, [], ◌∷◌, ◌∙◌, None, ap, drop, map, replicate, sym}
use Rattle.std.proofs.lemmas.List.{drop_more, length-replicate}
use Rattle.ft_props.specs.Element.{GridUnit}
use Rattle.ft_marks.specs.Marks.{stamp_of}
use Rattle.ft_msg.specs.Summary.{run_items}
use Rattle.ft_plain_summary.proofs.NumberedItems.{counted-with, run_items-with}
use Rattle.ft_plain_summary.proofs.lists.unit_list.Goals as goal

pub loop-run-preserved : goal.loop-run-preserved
loop-run-preserved c =
    let runs = c.args.runs.now in
    let i = c.loop-run.run-index in
    let run = c.run-item.result in
    let old = c.loop-run.list in
    let new = c.add_run.new.list in
    let added = c.in_ok-add_run.ensures in
    let front = drop_more runs i run c.loop-run-test.true ∙ ap (λ x. x ∷ drop (i + 1) runs) (sym c.run-item.is) in
    record {
      counted = counted-with old.made (stamp_of run.ins) (map stamp_of run.dels) None [] (replicate run.count GridUnit) old.items new.items new.made
          c.loop-run.invariant.counted added.items (added.made ∙ sym (ap (λ n. old.made + n) (length-replicate run.count GridUnit)));
      all = run_items-with old.made run (drop (i + 1) runs) (drop i runs) old.items new.items (run_items 0 runs) new.made front added.items added.made
          c.loop-run.invariant.all;
    }
