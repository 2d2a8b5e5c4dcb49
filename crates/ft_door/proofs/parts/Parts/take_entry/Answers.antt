use Rattle.std.proofs.Common.{◌∙◌, Bool, List, Option, ap, refl, subst, sym}
use Rattle.ft_changes.specs.declared.changes.ViewChange.{ViewChange}
use Rattle.ft_door.specs.Editors.{Leads, NaiveEditor, load_of, next_exceeds, take_next, told_of, waits_after}
use Rattle.ft_door.proofs.Editing.{entry-taken, state_of, told-as}
use Rattle.ft_door.proofs.parts.Parts.take_entry.Goals as goal

pub returns : goal.returns
returns g c = λ s m entry_is old_is is sum.
    let i = c.self.inside in
    let old = state_of (g.R.Replica.state i.replica) i.told i.names i.name i.waits i.load in
    let r = g.R.Replica.state c.receive.new.replica in
    let changes = c.receive.new.told in
    let refusal = c.in_ok-refusal.refusal in
    let joins = c.args.joins in
    let exceeds : NaiveEditor → Bool = λ x. next_exceeds x m.body in
    told-as c.told_of.result (told_of refusal) s s (state_of r c.replace.new.dest i.names i.name c.waits_after-self-inside.result c.load_of-self-inside.result)
    (state_of r changes i.names i.name (waits_after refusal i.waits joins) (load_of refusal i.load c.args.load)) (λ x. take_next x m) exceeds c.told_of.ensures refl
    (ap (λ told. state_of r told i.names i.name c.waits_after-self-inside.result c.load_of-self-inside.result) c.replace.ensures.after
    ∙ ap (λ waits. state_of r changes i.names i.name waits c.load_of-self-inside.result) c.waits_after-self-inside.ensures
    ∙ ap (state_of r changes i.names i.name (waits_after refusal i.waits joins)) c.load_of-self-inside.ensures)
    (entry-taken s old r changes m c.args.entry.now joins c.args.load exceeds refusal c.requires.formed c.requires.low entry_is (c.self.view_is ∙ old_is) is sum
    c.in_ok-refusal.ensures.answers
    (λ x shown reached h leads. c.in_ok-refusal.ensures.leads x shown reached h
    (subst (λ (told : Option (List ViewChange)). Leads shown told x) (sym c.take-told.ensures.value) leads)))
