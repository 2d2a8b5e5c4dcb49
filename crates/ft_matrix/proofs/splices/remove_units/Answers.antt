use Rattle.std.proofs.Common.{◌≡◌, refl, sym, subst, OnOk, rules}
use Rattle.ft_base.specs.declared.stamps.Stamp.TheVariants.{Acked}
use Rattle.ft_block.specs.declared.leaves.LenView.TheVariants.{At}
use Rattle.ft_perm.specs.contracts.vectors.Vector.{the_view}
use Rattle.ft_matrix.specs.Sound.{IsSoundVector}
use Rattle.ft_matrix.proofs.SoundVectors.{on-ok, vector-marked}
use Rattle.ft_matrix.proofs.splices.remove_units.Goals as goal
use Rattle.ft_matrix.proofs.splices.remove_units.Goals.{in-Ok, in-Err-OutOfRange, in-Err-OutOfMemory}

pub returns-clause-sound : goal.returns-clause-sound
returns-clause-sound g c =
    let s = subst IsSoundVector (sym c.units.view_is) c.requires.sound in
    elim c.match-remove_remote.branch [
      | in-Ok w ↦ on-ok c.match-remove_remote.result
          (vector-marked (the_view c.units.inside) _ s (At c.args.at) (Acked c.args.seq c.args.at.c) c.args.p c.args.q _ refl
          w.in-Ok.ensures.elements w.in-Ok.ensures.refs w.in-Ok.ensures.rest w.in-Ok.ensures.made)
      | in-Err-OutOfRange w ↦ on-ok c.match-remove_remote.result
          (let e : c.remove_remote.new.self ≡ (the_view c.units.inside).tree = search (rules, w.in-Err-OutOfRange.ensures.refused) in
          subst (λ t. IsSoundVector (record (the_view c.units.inside) { tree = t })) (sym e) s)
      | in-Err-OutOfMemory w ↦ subst (λ r. OnOk r (IsSoundVector (record (the_view c.units.inside) { tree = c.remove_remote.new.self }))) (sym w.result-is) tt
    ]
