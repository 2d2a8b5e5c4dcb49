use Rattle.std.proofs.Common.{refl, sym, subst}
use Rattle.ft_perm.specs.contracts.vectors.Vector.{the_view}
use Rattle.ft_matrix.specs.Compacted.{ScoursUnits}
use Rattle.ft_matrix.specs.Sound.{IsSoundVector}
use Rattle.ft_matrix.proofs.ScouredUnits.{left-sound, none-clear, scoured-part}
use Rattle.ft_matrix.proofs.compaction.scour_part.Goals as goal

pub scour-requires-clause-clear : goal.scour-requires-clause-clear
scour-requires-clause-clear c = none-clear c.args.floor (the_view c.units.inside) (subst IsSoundVector (sym c.units.view_is) c.requires.sound)

pub returns-clause-sound : goal.returns-clause-sound
returns-clause-sound c =
    let e = c.in_ok-scour.ensures in
    left-sound c.args.floor c.scour.new.taken.items (the_view c.units.inside) _ _
    (scoured-part c.args.floor c.new-taken.result.items c.scour.new.taken.items c.new-taken.ensures.items (the_view c.units.inside) _ refl e.floor c.args.budget e.elements e.taken)
    (subst IsSoundVector (sym c.units.view_is) c.requires.sound) refl e.usable e.refs e.made

pub returns-clause-scours : goal.returns-clause-scours
returns-clause-scours c =
    let e = c.in_ok-scour.ensures in
    subst (λ v. ScoursUnits c.args.floor c.scour.new.taken.items v (record (the_view c.units.inside) { tree = c.scour.new.tree })) c.units.view_is
    (scoured-part c.args.floor c.new-taken.result.items c.scour.new.taken.items c.new-taken.ensures.items (the_view c.units.inside) _ refl e.floor c.args.budget e.elements e.taken)
