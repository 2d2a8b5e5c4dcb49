use Rattle.std.proofs.Common.{◌∙◌, [], ap, option_map}
use Rattle.ft_door.specs.Editors.{EditorState, informed}
use Rattle.ft_door.proofs.Editing.{editor-as, informed-stands, state_of}
use Rattle.ft_door.proofs.parts.Parts.informed.Goals as goal

pub returns-clause-editor : goal.returns-clause-editor
returns-clause-editor g c = λ x h.
    let i = c.self.inside in
    let old = state_of (g.R.Replica.state i.replica) i.told i.names i.name i.waits i.load in
    editor-as (record old { told = c.replace.new.dest }) (record old { told = option_map (λ _. []) i.told }) (informed x)
    (ap (λ changes. record old { told = changes }) (c.replace.ensures.after ∙ c.emptied-told.ensures)) (informed-stands old x (editor-as old c.args.self.now x c.self.view_is h))

pub returns-clause-none : goal.returns-clause-none
returns-clause-none g c = c.replace.ensures.after ∙ c.emptied-told.ensures ∙ ap (λ (s : EditorState). option_map (λ _. []) s.told) c.self.view_is
