use Rattle.ft_door.specs.Editors.{new_editor}
use Rattle.ft_door.proofs.editors.Editor.new.Goals as goal

pub invariant_of-editor : goal.invariant_of-editor
invariant_of-editor g c = (new_editor, c.in_ok-parts.ensures)
