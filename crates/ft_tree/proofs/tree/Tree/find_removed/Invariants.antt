use Rattle.ft_tree.proofs.tree.Tree.find_removed.Given as goal

abbrev pub ghosts-find_removed_leaf : goal.ghosts-find_removed_leaf
ghosts-find_removed_leaf g a = record { name = a.blank.name; parts = a.blank.parts }
