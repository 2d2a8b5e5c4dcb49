use Rattle.std.proofs.Common.{ap}
use Rattle.std.proofs.lemmas.Result.{on_ok_weaker}
use Rattle.ft_base.specs.declared.elements.Element.{Element}
use Rattle.ft_tree_blocks.specs.Touched.{is_stamped_by}
use Rattle.ft_tree_blocks.proofs.tracked.note_new.Goals as goal

pub returns-clause-listed : goal.returns-clause-listed
returns-clause-listed c =
    on_ok_weaker c.note_stamps.result (λ listed k stamped. listed k stamped (ap (λ (e : Element). is_stamped_by k e) c.universal-old.ensures)) c.note_stamps.ensures.listed
