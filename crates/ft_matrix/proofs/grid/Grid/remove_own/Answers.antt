use Rattle.std.proofs.Common.{◌∙◌, [], ◌∷◌, ap, arith, refl, subst, sym}
use Rattle.ft_base.specs.declared.stamps.Stamp.TheVariants.{Local}
use Rattle.ft_block.specs.Leaves.{last_stage}
use Rattle.ft_op.specs.declared.operations.CellOp.TheVariants.{SpliceOut}
use Rattle.ft_perm.specs.Vectors.{VectorState}
use Rattle.ft_matrix.specs.Sides.{units_at}
use Rattle.ft_matrix.specs.Sound.{IsSoundVector}
use Rattle.ft_matrix.specs.Splices.{Removes}
use Rattle.ft_matrix.proofs.OwnCounts.{remove-counted, remove-uncounted}
use Rattle.ft_matrix.proofs.OwnEdits.{own-remove-refused, own-remove-taken, splice_stage}
use Rattle.ft_matrix.proofs.OwnSound.{range-below, splice-above, stage-sound}
use Rattle.ft_matrix.proofs.SideLaws.{at-side, behind-side, over, marks-used, pending-at, same-sound, side-floor, sound-at}
use Rattle.ft_matrix.proofs.PendingStages.{more-stages, range-pending}
use Rattle.ft_matrix.specs.Units.{units_of}
use Rattle.ft_matrix.proofs.grid.Grid.remove_own.Goals as goal

pub returns-then-not-branch-clause-edited : goal.returns-then-not-branch-clause-edited
returns-then-not-branch-clause-edited g c = λ last doc stages e h.
    let i = over (λ (u : VectorState). Removes last_stage (Local c.args.stage) c.args.pos1 c.args.pos2 u c.remove_own_units.new.units)
    c.units_mut.ensures.value c.if-not-branch.true c.in_ok-remove_own_units.ensures.removes in
    own-remove-refused last c.args.stage e (omega (arith, c.ranges.stage.fits)) c.args.self.now doc stages c.requires.sound h c.requires.above c.args.target c.args.pos1 c.args.pos2
    c.seen_count.result c.remove_own_units.new.units c.units.result.now i
    (c.units.ensures ∙ at-side c.args.target c.args.self.now c.remove_own_units.new.units) c.seen_count.ensures

pub returns-clause-sound : goal.returns-clause-sound
returns-clause-sound g c =
    let i = over (λ (u : VectorState). Removes last_stage (Local c.args.stage) c.args.pos1 c.args.pos2 u c.remove_own_units.new.units)
    c.units_mut.ensures.value c.if-not-branch.false c.in_ok-remove_own_units.ensures.removes in
    let v = c.remove_own_units.new.units in
    let op = SpliceOut c.args.target c.args.pos1 c.args.pos2 in
    stage-sound c.args.self.now (record c.args.self.now { stages = c.push_behind.new.items }) c.args.stage op c.requires.sound c.requires.above
    (behind-side c.args.target c.args.self.now v c.push_behind.new.items.items (splice_stage c.args.stage op) c.in_ok-push_behind.ensures.items)
    (λ row col. refl) c.requires.some
    c.args.target v c.in_ok-remove_own_units.ensures.sound (marks-used last_stage (Local c.args.stage) c.args.pos1 c.args.pos2 (units_at c.args.target c.args.self.now) v i) i.1.floor
    (more-stages c.args.self.now.stages.items (splice_stage c.args.stage op ∷ []) c.push_behind.new.items.items (units_of v)
    (behind-side c.args.target c.args.self.now v c.push_behind.new.items.items (splice_stage c.args.stage op) c.in_ok-push_behind.ensures.items)
    (range-pending c.args.self.now.stages.items last_stage (Local c.args.stage) c.args.pos1 c.args.pos2 (units_at c.args.target c.args.self.now) v i
    (pending-at c.args.target c.args.self.now c.requires.sound)))

pub returns-clause-above : goal.returns-clause-above
returns-clause-above g c = λ none.
    let i = over (λ (u : VectorState). Removes last_stage (Local c.args.stage) c.args.pos1 c.args.pos2 u c.remove_own_units.new.units)
    c.units_mut.ensures.value c.if-not-branch.false c.in_ok-remove_own_units.ensures.removes in
    let v = c.remove_own_units.new.units in
    let u = splice_stage c.args.stage (SpliceOut c.args.target c.args.pos1 c.args.pos2) in
    splice-above c.args.target c.args.self.now v (record c.args.self.now { stages = c.push_behind.new.items }) c.args.stage u c.requires.above refl
    (behind-side c.args.target c.args.self.now v c.push_behind.new.items.items u c.in_ok-push_behind.ensures.items)
    (range-below c.args.pos1 c.args.pos2 c.args.stage (units_at c.args.target c.args.self.now) v i)

pub returns-clause-edited : goal.returns-clause-edited
returns-clause-edited g c = λ last doc stages e h.
    let i = over (λ (u : VectorState). Removes last_stage (Local c.args.stage) c.args.pos1 c.args.pos2 u c.remove_own_units.new.units)
    c.units_mut.ensures.value c.if-not-branch.false c.in_ok-remove_own_units.ensures.removes in
    let v = c.remove_own_units.new.units in
    let u = splice_stage c.args.stage (SpliceOut c.args.target c.args.pos1 c.args.pos2) in
    own-remove-taken last c.args.stage e (omega (arith, c.ranges.stage.fits)) c.args.self.now doc stages c.requires.sound h c.requires.above c.args.target c.args.pos1 c.args.pos2
    v (record c.args.self.now { stages = c.push_behind.new.items }) i (behind-side c.args.target c.args.self.now v c.push_behind.new.items.items
    u c.in_ok-push_behind.ensures.items)

pub returns-then-not-branch-clause-counts : goal.returns-then-not-branch-clause-counts
returns-then-not-branch-clause-counts g c =
    let i = over (λ (u : VectorState). Removes last_stage (Local c.args.stage) c.args.pos1 c.args.pos2 u c.remove_own_units.new.units)
    c.units_mut.ensures.value c.if-not-branch.true c.in_ok-remove_own_units.ensures.removes in
    remove-uncounted c.args.target c.args.pos1 c.args.pos2 c.args.stage c.seen_count.result c.args.self.now c.remove_own_units.new.units c.units.result.now i
    (c.units.ensures ∙ at-side c.args.target c.args.self.now c.remove_own_units.new.units) c.seen_count.ensures

pub returns-clause-counts : goal.returns-clause-counts
returns-clause-counts g c =
    let i = over (λ (u : VectorState). Removes last_stage (Local c.args.stage) c.args.pos1 c.args.pos2 u c.remove_own_units.new.units)
    c.units_mut.ensures.value c.if-not-branch.false c.in_ok-remove_own_units.ensures.removes in
    remove-counted c.args.target c.args.pos1 c.args.pos2 c.args.stage c.args.self.now c.remove_own_units.new.units
    (record c.args.self.now { stages = c.push_behind.new.items })
    (omega (arith, c.ranges.stage.fits)) c.requires.order i

pub remove_own_units-requires-clause-sound : goal.remove_own_units-requires-clause-sound
remove_own_units-requires-clause-sound g c = subst IsSoundVector (sym c.units_mut.ensures.value)
    (sound-at c.args.target c.args.self.now c.requires.sound)

pub returns-then-not-branch-clause-sound : goal.returns-then-not-branch-clause-sound
returns-then-not-branch-clause-sound g c =
    let i = over (λ (u : VectorState). Removes last_stage (Local c.args.stage) c.args.pos1 c.args.pos2 u c.remove_own_units.new.units)
    c.units_mut.ensures.value c.if-not-branch.true c.in_ok-remove_own_units.ensures.removes in
    same-sound c.args.target c.args.self.now c.remove_own_units.new.units i.1 c.requires.sound

pub returns-then-not-branch-clause-floor : goal.returns-then-not-branch-clause-floor
returns-then-not-branch-clause-floor g c =
    let i = over (λ (u : VectorState). Removes last_stage (Local c.args.stage) c.args.pos1 c.args.pos2 u c.remove_own_units.new.units)
    c.units_mut.ensures.value c.if-not-branch.true c.in_ok-remove_own_units.ensures.removes in
    side-floor c.args.target c.args.self.now c.remove_own_units.new.units (ap (λ (v : VectorState). v.tree.floor) i.1)

pub returns-clause-floor : goal.returns-clause-floor
returns-clause-floor g c =
    let i = over (λ (u : VectorState). Removes last_stage (Local c.args.stage) c.args.pos1 c.args.pos2 u c.remove_own_units.new.units)
    c.units_mut.ensures.value c.if-not-branch.false c.in_ok-remove_own_units.ensures.removes in
    side-floor c.args.target c.args.self.now c.remove_own_units.new.units i.1.floor

pub returns-then-not-branch-clause-above : goal.returns-then-not-branch-clause-above
returns-then-not-branch-clause-above g c = λ none. (cc)
