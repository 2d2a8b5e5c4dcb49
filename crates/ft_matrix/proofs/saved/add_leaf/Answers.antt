use Rattle.std.proofs.Common.{ap, sym, ◌∙◌}
use Rattle.std.proofs.lemmas.Result.{on_ok_weaker}
use Rattle.ft_props.specs.Compaction.{has_collectable_removal}
use Rattle.ft_matrix.proofs.SavedRuns.{adds-leaf}
use Rattle.ft_matrix.proofs.saved.add_leaf.Goals as goal

pub returns : goal.returns
returns c =
    on_ok_weaker c.push_run.result (λ adds. adds-leaf c.args.min c.args.tree.now.leaves c.args.leaf c.args.runs.now.items c.push_run.new.runs.items
    c.leaf_element-stamps.result.now c.leaf_len-count.result c.in_ok-run.run' c.leaf_element-stamps.ensures c.leaf_len-count.ensures.value c.leaf_len-count.ensures.some
    (sym (ap (has_collectable_removal c.args.min) c.as_slice.ensures) ∙ sym c.is_collectable.ensures ∙ c.if-is_collectable.false) c.in_ok-run.ensures adds)
    c.push_run.ensures
