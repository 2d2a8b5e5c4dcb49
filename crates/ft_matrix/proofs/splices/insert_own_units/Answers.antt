use Rattle.std.proofs.Common.{◌≡◌, ℕ, ◌≤◌, false, nat_eq, refl, sym, subst, arith}
use Rattle.std.proofs.lemmas.Bool.Decides.{nat_tests}
use Rattle.ft_base.specs.declared.stamps.Stamp.TheVariants.{Local}
use Rattle.ft_base.specs.Scan.{no_run}
use Rattle.ft_block.specs.Leaves.{last_stage}
use Rattle.ft_perm.specs.contracts.vectors.Vector.{the_view}
use Rattle.ft_matrix.specs.Splices.{TakesRun}
use Rattle.ft_matrix.proofs.SoundVectors.{place-within, puts-nothing, run-fits, vector-puts, vector-sound}
use Rattle.ft_matrix.proofs.splices.insert_own_units.Goals as goal

later : (k : ℕ) → 1 ≤ k → nat_eq k 0 ≡ false
later k l = grind (arith, nat_tests)

pub returns-then-count-eq0-clause-inserts : goal.returns-then-count-eq0-clause-inserts
returns-then-count-eq0-clause-inserts g c =
    (omega (arith, c.if-seen_count-p.false, c.seen_count.ensures), puts-nothing (last_stage) no_run (Local c.args.stage) c.args.p c.args.count c.args.units.now c.if-count-eq0.true)

pub insert_local-requires-clause-made : goal.insert_local-requires-clause-made
insert_local-requires-clause-made g c = run-fits c.args.count c.in_ok-content.content c.args.units.now (the_view c.units.inside)
    (subst (λ v. TakesRun c.args.count c.in_ok-content.content c.args.units.now v) (sym c.units.view_is) c.in_ok-content.ensures)

pub unreachable-requires : goal.unreachable-requires
unreachable-requires g c =
    let t = subst (λ v. TakesRun c.args.count c.in_ok-content.content c.args.units.now v) (sym c.units.view_is) c.in_ok-content.ensures in
    let r = rw c.in-Err-OutOfRange.field-0-is at c.in-Err-OutOfRange.ensures.refused in
    place-within (last_stage) c.args.p c.args.count c.in_ok-content.content c.args.units.now (the_view c.units.inside) t
    (omega (arith, c.if-seen_count-p.false, c.seen_count.ensures)) r.1

pub returns-in-Ok-clause-sound : goal.returns-in-Ok-clause-sound
returns-in-Ok-clause-sound g c =
    let t = subst (λ v. TakesRun c.args.count c.in_ok-content.content c.args.units.now v) (sym c.units.view_is) c.in_ok-content.ensures in
    vector-sound c.args.units.now (the_view c.units.inside) _ c.requires.sound c.in_ok-content.content c.args.count t (last_stage) no_run
    (Local c.args.stage) c.args.p (later c.args.stage c.requires.some) _
    c.new-props.result c.new-props.ensures refl c.in-Ok.ensures.elements c.in-Ok.ensures.refs c.in-Ok.ensures.rest c.in-Ok.ensures.made

pub returns-in-Ok-clause-inserts : goal.returns-in-Ok-clause-inserts
returns-in-Ok-clause-inserts g c =
    let t = subst (λ v. TakesRun c.args.count c.in_ok-content.content c.args.units.now v) (sym c.units.view_is) c.in_ok-content.ensures in (
      omega (arith, c.if-seen_count-p.false, c.seen_count.ensures),
      vector-puts c.args.units.now (the_view c.units.inside) _ c.requires.sound c.in_ok-content.content c.args.count t (last_stage) no_run
          (Local c.args.stage) c.args.p (later c.args.stage c.requires.some) _
          c.new-props.result c.new-props.ensures refl c.in-Ok.ensures.elements c.in-Ok.ensures.refs c.in-Ok.ensures.rest c.in-Ok.ensures.made,
    )

pub returns-then-seen_count-p-clause-inserts : goal.returns-then-seen_count-p-clause-inserts
returns-then-seen_count-p-clause-inserts g c = (omega (arith, c.if-seen_count-p.true, c.seen_count.ensures), refl)
