use Rattle.std.proofs.Common.{false, refl}
use Rattle.ft_door.specs.Editors.{drop_step, never_exceeds, told_of}
use Rattle.ft_door.proofs.Editing.{drop-told, state_of, told-as}
use Rattle.ft_door.proofs.parts.Parts.drop_link.Goals as goal

pub returns : goal.returns
returns g c =
    let i = c.self.inside in
    let old = state_of (g.R.Replica.state i.replica) i.told i.names i.name i.waits i.load in
    let r = g.R.Replica.state c.drop_unless.new.replica in
    let new = state_of r i.told i.names i.name false i.load in
    told-as c.told_of.result (told_of c.in_ok-refusal.refusal) c.args.self.now old new new drop_step never_exceeds c.told_of.ensures c.self.view_is refl
    (drop-told old r c.in_ok-refusal.refusal c.in_ok-refusal.ensures)
