use Rattle.ft_door.proofs.Editing.{draft-formed, editor-as}
use Rattle.ft_door.proofs.editors.Editor.draft.Goals as goal

pub draft-requires : goal.draft-requires
draft-requires g c = λ d is. draft-formed c.self.inside.parts d c.client_drafts_are_well_formed.ensures c.self.invariant is

pub returns : goal.returns
returns g c = λ x h. c.draft.ensures x (editor-as c.self.inside.parts c.args.self.now x c.self.view_is h)
