use Rattle.std.proofs.Common.{option_map, sym, ◌∙◌, ap}
use Rattle.ft_tree_leaves.specs.LeafLists.{elements}
use Rattle.ft_tree_leaves.specs.References.{reference_at, slid_reference}
use Rattle.ft_tree.specs.State.{TreeState}
use Rattle.ft_tree.proofs.tree.Tree.remove_remote.Goals as goal

pub returns-clause-refs : goal.returns-clause-refs
returns-clause-refs g c = λ r.
    let us = g.C.Content.units in
    let by = g.C.Content.by in
    c.slide.ensures.refs r
    ∙ ap (option_map (slid_reference (elements us by c.edit.new.self.leaves))) (c.in_ok-edit.ensures.refs r)
    ∙ ap (λ (s : TreeState g.row.C.Denot). option_map (slid_reference (elements us by s.leaves)) (reference_at c.args.self.now.refs r)) (sym c.slide.ensures.rest)
