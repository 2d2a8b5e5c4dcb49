use Rattle.std.proofs.Common.{refl, sym, subst, arith}
use Rattle.ft_base.specs.declared.stamps.Stamp.TheVariants.{Acked}
use Rattle.ft_block.specs.declared.leaves.LenView.TheVariants.{At}
use Rattle.ft_tree_leaves.specs.Elements.{is_pending}
use Rattle.ft_perm.specs.contracts.vectors.Vector.{the_view}
use Rattle.ft_matrix.specs.Splices.{TakesRun}
use Rattle.ft_matrix.proofs.SoundVectors.{place-within, puts-nothing, run-fits, vector-puts, vector-sound}
use Rattle.ft_matrix.proofs.splices.insert_units.Goals as goal

pub returns-then-count-eq0-clause-inserts : goal.returns-then-count-eq0-clause-inserts
returns-then-count-eq0-clause-inserts g c =
    (omega (arith, c.if-seen_count-p.false, c.seen_count.ensures), puts-nothing (At c.args.at) is_pending (Acked c.args.seq c.args.at.c) c.args.p c.args.count c.args.units.now c.if-count-eq0.true)

pub insert_remote-requires-clause-made : goal.insert_remote-requires-clause-made
insert_remote-requires-clause-made g c = run-fits c.args.count c.in_ok-content.content c.args.units.now (the_view c.units.inside)
    (subst (λ v. TakesRun c.args.count c.in_ok-content.content c.args.units.now v) (sym c.units.view_is) c.in_ok-content.ensures)

pub unreachable-requires : goal.unreachable-requires
unreachable-requires g c =
    let t = subst (λ v. TakesRun c.args.count c.in_ok-content.content c.args.units.now v) (sym c.units.view_is) c.in_ok-content.ensures in
    let r = rw c.in-Err-OutOfRange.field-0-is at c.in-Err-OutOfRange.ensures.refused in
    place-within (At c.args.at) c.args.p c.args.count c.in_ok-content.content c.args.units.now (the_view c.units.inside) t
    (omega (arith, c.if-seen_count-p.false, c.seen_count.ensures)) r.1

pub returns-in-Ok-clause-sound : goal.returns-in-Ok-clause-sound
returns-in-Ok-clause-sound g c =
    let t = subst (λ v. TakesRun c.args.count c.in_ok-content.content c.args.units.now v) (sym c.units.view_is) c.in_ok-content.ensures in
    vector-sound c.args.units.now (the_view c.units.inside) _ c.requires.sound c.in_ok-content.content c.args.count t (At c.args.at)
    is_pending (Acked c.args.seq c.args.at.c) c.args.p refl _
    c.new-props.result c.new-props.ensures refl c.in-Ok.ensures.elements c.in-Ok.ensures.refs c.in-Ok.ensures.rest c.in-Ok.ensures.made

pub returns-in-Ok-clause-inserts : goal.returns-in-Ok-clause-inserts
returns-in-Ok-clause-inserts g c =
    let t = subst (λ v. TakesRun c.args.count c.in_ok-content.content c.args.units.now v) (sym c.units.view_is) c.in_ok-content.ensures in (
      omega (arith, c.if-seen_count-p.false, c.seen_count.ensures),
      vector-puts c.args.units.now (the_view c.units.inside) _ c.requires.sound c.in_ok-content.content c.args.count t (At c.args.at)
          is_pending (Acked c.args.seq c.args.at.c) c.args.p refl _
          c.new-props.result c.new-props.ensures refl c.in-Ok.ensures.elements c.in-Ok.ensures.refs c.in-Ok.ensures.rest c.in-Ok.ensures.made,
    )

pub returns-then-seen_count-p-clause-inserts : goal.returns-then-seen_count-p-clause-inserts
returns-then-seen_count-p-clause-inserts g c = (omega (arith, c.if-seen_count-p.true, c.seen_count.ensures), refl)
