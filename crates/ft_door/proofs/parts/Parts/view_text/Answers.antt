use Rattle.std.proofs.Common.{◌∙◌, ap}
use Rattle.ft_msg.specs.Answers.{numbers_of}
use Rattle.ft_door.specs.Editors.{EditorState}
use Rattle.ft_door.proofs.Editing.{editor-as, editor-reached, state_of}
use Rattle.ft_door.proofs.parts.Parts.view_text.Goals as goal

pub returns-in-Ok : goal.returns-in-Ok
returns-in-Ok g c = λ x h.
    let i = c.self.inside in
    let old = state_of (g.R.Replica.state i.replica) i.told i.names i.name i.waits i.load in
    let here = editor-as old c.args.self.now x c.self.view_is h in
    c.text_of.ensures x h (c.in-Ok.ensures.numbers ∙ ap (λ (s : EditorState). numbers_of s.replica) c.self.view_is)
    (c.in-Ok.ensures.content.1 x.client (editor-reached old x here) here.runs.client)
