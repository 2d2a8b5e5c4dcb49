use Rattle.std.proofs.Common.{List, subst, sym, ◌∙◌, ap}
use Rattle.std.proofs.lemmas.Result.{on_ok_weaker}
use Rattle.ft_tree_blocks.specs.Touched.{NodesOfStage, Notes, is_listed}
use Rattle.ft_tree_blocks.proofs.TouchedLists.{heir-notes, heir-there}
use Rattle.ft_tree_blocks.proofs.tracked.note_rear.Goals as goal

pub returns-clause-notes : goal.returns-clause-notes
returns-clause-notes g c =
    let ss = c.args.touched.now.items in
    on_ok_weaker c.note_heir.result (λ e. subst (Notes c.args.rear ss) (sym e) (heir-notes c.args.front c.args.rear ss c.requires)) c.note_heir.ensures

pub returns-clause-listed : goal.returns-clause-listed
returns-clause-listed g c =
    let ss = c.args.touched.now.items in
    on_ok_weaker c.note_heir.result
    (λ e k t l. ap (λ (ts : List NodesOfStage). is_listed ts k c.args.rear) e ∙ heir-there c.args.front c.args.rear k ss l)
    c.note_heir.ensures
