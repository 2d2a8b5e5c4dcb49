use Rattle.std.proofs.Common.{refl, sym, subst}
use Rattle.ft_perm.specs.contracts.vectors.Vector.{the_view}
use Rattle.ft_matrix.specs.Compacted.{ScoursUnits}
use Rattle.ft_matrix.specs.Sound.{IsSoundVector}
use Rattle.ft_matrix.proofs.ScouredUnits.{left-sound, none-clear, scoured-all}
use Rattle.ft_matrix.proofs.compaction.scour_units.Goals as goal

pub scour_all-requires-clause-clear : goal.scour_all-requires-clause-clear
scour_all-requires-clause-clear c = none-clear c.args.floor (the_view c.units.inside) (subst IsSoundVector (sym c.units.view_is) c.requires.sound)

pub returns-clause-sound : goal.returns-clause-sound
returns-clause-sound c =
    let e = c.in_ok-scour_all.ensures in
    left-sound c.args.floor c.scour_all.new.taken.items (the_view c.units.inside) _ _
    (scoured-all c.args.floor c.new-taken.result.items c.scour_all.new.taken.items c.new-taken.ensures.items (the_view c.units.inside) _ refl e.floor e.elements e.taken)
    (subst IsSoundVector (sym c.units.view_is) c.requires.sound) refl e.usable e.refs e.made

pub returns-clause-scours : goal.returns-clause-scours
returns-clause-scours c =
    let e = c.in_ok-scour_all.ensures in
    subst (λ v. ScoursUnits c.args.floor c.scour_all.new.taken.items v (record (the_view c.units.inside) { tree = c.scour_all.new.tree })) c.units.view_is
    (scoured-all c.args.floor c.new-taken.result.items c.scour_all.new.taken.items c.new-taken.ensures.items (the_view c.units.inside) _ refl e.floor e.elements e.taken)

pub returns-clause-none : goal.returns-clause-none
returns-clause-none c = c.in_ok-scour_all.ensures.none
