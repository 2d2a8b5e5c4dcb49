use Rattle.std.proofs.Common.{◌≡◌, ◌&&◌, ap, chars, not, refl, subst, sym, true}
use Rattle.ft_door.specs.declared.calls.Told.TheVariants.{Taken}
use Rattle.ft_door.specs.Editors.{EditorState, connect_as, is_offline, never_exceeds}
use Rattle.ft_door.proofs.Editing.{connect-told, state_of, told-as}
use Rattle.ft_door.proofs.parts.Parts.wait_as.Goals as goal

pub returns : goal.returns
returns g c =
    let i = c.self.inside in
    let old = state_of (g.R.Replica.state i.replica) i.told i.names i.name i.waits i.load in
    let r = g.R.Replica.state i.replica in
    let name = chars c.args.text.now in
    let free = subst (λ (s : EditorState). not s.waits && is_offline s.replica.client.link ≡ true) (sym c.self.view_is) c.requires in
    told-as Taken Taken c.args.self.now old (state_of r i.told i.names c.in_ok-name.name true i.load) (state_of r i.told i.names name true i.load) (connect_as name) never_exceeds refl c.self.view_is
    (ap (λ n. state_of r i.told i.names n true i.load) c.in_ok-name.ensures) (connect-told old name free)
