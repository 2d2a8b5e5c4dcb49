use Rattle.std.proofs.Common.{◌≡◌, refl, sym, subst, OnOk, rules}
use Rattle.ft_base.specs.declared.stamps.Stamp.TheVariants.{Local}
use Rattle.ft_block.specs.Leaves.{last_stage}
use Rattle.ft_perm.specs.contracts.vectors.Vector.{the_view}
use Rattle.ft_matrix.specs.Sound.{IsSoundVector}
use Rattle.ft_matrix.proofs.SoundVectors.{keeps-changes, on-ok, vector-marked}
use Rattle.ft_matrix.proofs.splices.remove_own_units.Goals as goal
use Rattle.ft_matrix.proofs.splices.remove_own_units.Goals.{in-Ok, in-Err-OutOfRange, in-Err-OutOfMemory}

pub returns-clause-sound : goal.returns-clause-sound
returns-clause-sound g c =
    let s = subst IsSoundVector (sym c.units.view_is) c.requires.sound in
    elim c.match-remove_local.branch [
      | in-Ok w ↦ on-ok c.match-remove_local.result
          (vector-marked (the_view c.units.inside) _ s (last_stage) (Local c.args.stage) c.args.p c.args.q _ refl w.in-Ok.ensures.elements
          (keeps-changes (the_view c.units.inside).tree.refs c.remove_local.new.self.refs w.in-Ok.ensures.refs) w.in-Ok.ensures.rest
          w.in-Ok.ensures.made)
      | in-Err-OutOfRange w ↦ on-ok c.match-remove_local.result
          (let e : c.remove_local.new.self ≡ (the_view c.units.inside).tree = search (rules, w.in-Err-OutOfRange.ensures.refused) in
          subst (λ t. IsSoundVector (record (the_view c.units.inside) { tree = t })) (sym e) s)
      | in-Err-OutOfMemory w ↦ subst (λ r. OnOk r (IsSoundVector (record (the_view c.units.inside) { tree = c.remove_local.new.self }))) (sym w.result-is) tt
    ]
