use Rattle.ft_tree_blocks.proofs.finds.next_seen.Given as goal

abbrev pub ghosts-find_leaf : goal.ghosts-find_leaf
ghosts-find_leaf g a = record { name = a.blank.name; parts = a.blank.parts }
