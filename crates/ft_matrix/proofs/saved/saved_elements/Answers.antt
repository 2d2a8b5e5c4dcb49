use Rattle.std.proofs.Common.{◌≡◌, ◌∙◌, List}
use Rattle.std.proofs.lemmas.Result.{on_ok_weaker}
use Rattle.ft_base.proofs.Results.{after-done}
use Rattle.ft_perm.specs.Vectors.{vector_elements}
use Rattle.ft_sumdoc.specs.declared.summary.RunRec.{RunRec}
use Rattle.ft_matrix.specs.SavedUnits.{saved_runs}
use Rattle.ft_matrix.proofs.saved.saved_elements.Goals as goal

pub returns : goal.returns
returns c =
    after-done c.add_leaves-added.result c.after.result
    (λ (runs : List RunRec). runs ≡ saved_runs c.args.min (vector_elements c.args.tree.now))
    c.of.result (on_ok_weaker c.add_leaves-added.result (λ added. c.of.ensures ∙ added) c.add_leaves-added.ensures)
    c.after.ensures.done c.after.ensures.value
