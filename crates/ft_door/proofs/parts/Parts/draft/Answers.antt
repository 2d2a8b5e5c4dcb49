use Rattle.std.proofs.Common.{◌∙◌, ap, slice_get}
use Rattle.std.proofs.lemmas.Result.{IfOk-weaker}
use Rattle.ft_door.specs.Editors.{EditorState}
use Rattle.ft_door.proofs.Editing.{editor-as, none-told, oldest-told, state_of}
use Rattle.ft_door.proofs.parts.Parts.draft.Goals as goal

pub some_line-requires : goal.some_line-requires
some_line-requires g c =
    c.requires c.in-Some.draft.now (c.in-Some.ensures ∙ ap (λ (s : EditorState). slice_get s.replica.client.queue 0) c.self.view_is)

pub returns-in-None : goal.returns-in-None
returns-in-None g c = λ x h.
    let i = c.self.inside in
    let old = state_of (g.R.Replica.state i.replica) i.told i.names i.name i.waits i.load in
    none-told old c.in-None.ensures x (editor-as old c.args.self.now x c.self.view_is h)

pub returns-in-Some : goal.returns-in-Some
returns-in-Some g c = λ x h.
    let i = c.self.inside in
    let old = state_of (g.R.Replica.state i.replica) i.told i.names i.name i.waits i.load in
    IfOk-weaker c.some_line.result _ _ (λ line k. k ∙ oldest-told old c.in-Some.draft.now c.in-Some.ensures x (editor-as old c.args.self.now x c.self.view_is h))
    c.some_line.ensures
