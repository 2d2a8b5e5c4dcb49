use Rattle.std.proofs.Common.{◌∙◌, ap, sym}
use Rattle.ft_msg.specs.declared.views.Link.{Link}
use Rattle.ft_msg.specs.declared.views.View.{View}
use Rattle.ft_msg.specs.Answers.{numbers_of}
use Rattle.ft_door.specs.Editors.{EditorState, as_client}
use Rattle.ft_door.proofs.Editing.{editor-as, state_of, view-stands}
use Rattle.ft_door.proofs.parts.Parts.text_of.Goals as goal

abbrev linked : View → Link → View
linked v link = record v { numbers = record v.numbers { link = link } }

pub returns : goal.returns
returns g c = λ x h numbers shows.
    let i = c.self.inside in
    let old = state_of (g.R.Replica.state i.replica) i.told i.names i.name i.waits i.load in
    let v = c.args.view in
    c.client_text-text.ensures (as_client x) (view-stands old v (linked v c.shown_link-link.result) (ap (linked v) c.shown_link-link.ensures)
    (numbers ∙ ap (λ (s : EditorState). numbers_of s.replica) (sym c.self.view_is)) x (editor-as old c.args.self.now x c.self.view_is h) shows)
