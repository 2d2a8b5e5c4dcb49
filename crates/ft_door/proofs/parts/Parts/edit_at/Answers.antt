use Rattle.std.proofs.Common.{◌≡◌, ◌∙◌, ◌+◌, Bool, List, Option, Some, ap, subst, sym}
use Rattle.ft_seqr.specs.World.{op_load}
use Rattle.ft_changes.specs.declared.changes.ViewChange.{ViewChange}
use Rattle.ft_door.specs.Editors.{EditorState, Leads, NaiveEditor, edit_exceeds, edited, load_of, told_of}
use Rattle.ft_door.proofs.Editing.{edit-told, state_of, told-as}
use Rattle.ft_door.proofs.parts.Parts.edit_at.Goals as goal

pub returns : goal.returns
returns g c =
    let i = c.self.inside in
    let old = state_of (g.R.Replica.state i.replica) i.told i.names i.name i.waits i.load in
    let op = c.args.op.now in
    let r = g.R.Replica.state c.give_edit.new.replica in
    let changes = c.give_edit.new.told in
    let exceeds : NaiveEditor → Bool = λ x. edit_exceeds x (Some op) in
    let refusal = c.in_ok-refusal.refusal in
    let sum : c.args.load ≡ old.load + (1 + op_load op) = subst (λ (s : EditorState). c.args.load ≡ s.load + (1 + op_load op)) (sym c.self.view_is) c.requires.sum in
    told-as c.told_of.result (told_of refusal) c.args.self.now old (state_of r c.replace.new.dest i.names i.name i.waits c.load_of-self-inside.result)
    (state_of r changes i.names i.name i.waits (load_of refusal i.load c.args.load)) (λ x. edited x op) exceeds c.told_of.ensures c.self.view_is
    (ap (λ told. state_of r told i.names i.name i.waits c.load_of-self-inside.result) c.replace.ensures.after
    ∙ ap (state_of r changes i.names i.name i.waits) c.load_of-self-inside.ensures)
    (edit-told old r changes op c.args.load c.requires.formed sum c.requires.low exceeds refusal c.in_ok-refusal.ensures.answers
    (λ x shown reached h leads. c.in_ok-refusal.ensures.leads x shown reached h
    (subst (λ (told : Option (List ViewChange)). Leads shown told x) (sym c.take-told.ensures.value) leads)))
