use Rattle.std.proofs.Common.{drop}
use Rattle.ft_tree_blocks.proofs.NotedLeaves.{NotesSome}
use Rattle.ft_tree_blocks.proofs.leaf_refs.note_all.Given as goal

abbrev pub invariant-loop-id : goal.invariant-loop-id
invariant-loop-id l = NotesSome l.anchors l.nodes (drop l.id-index l.nodes) l.initial.unsettled.items l.unsettled.items
