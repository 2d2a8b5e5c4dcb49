use Rattle.std.proofs.Common.{◌∙◌, ◌+◌, ◌*◌, ◌≤◌, ap, arith, refl, subst, sym}
use Rattle.ft_base.specs.Scan.{no_run}
use Rattle.ft_base.specs.declared.stamps.Stamp.TheVariants.{Local}
use Rattle.ft_block.specs.Leaves.{last_stage}
use Rattle.ft_op.specs.declared.operations.CellOp.TheVariants.{SpliceIn}
use Rattle.ft_perm.specs.Vectors.{VectorState}
use Rattle.ft_matrix.specs.Sides.{units_at}
use Rattle.ft_matrix.specs.Sound.{IsSoundVector}
use Rattle.ft_matrix.specs.Splices.{Inserts}
use Rattle.ft_matrix.proofs.OwnCounts.{insert-counted, insert-uncounted}
use Rattle.ft_matrix.proofs.OwnEdits.{own-insert-refused, own-insert-taken, splice_stage}
use Rattle.ft_matrix.proofs.OwnSound.{below-at, put-below, splice-above, stage-sound}
use Rattle.ft_matrix.proofs.SideLaws.{at-side, behind-side, over, pending-at, puts-used, same-sound, side-floor, sound-at}
use Rattle.ft_matrix.proofs.PendingStages.{own-put-pending}
use Rattle.ft_matrix.proofs.grid.Grid.insert_own.Goals as goal

pub returns-then-not-branch-clause-edited : goal.returns-then-not-branch-clause-edited
returns-then-not-branch-clause-edited g c = λ last doc stages e h.
    let i = over (λ (u : VectorState). Inserts last_stage no_run (Local c.args.stage) c.args.pos c.args.count u c.insert_own_units.new.units)
    c.units_mut.ensures.value c.if-not-branch.true c.in_ok-insert_own_units.ensures.inserts in
    own-insert-refused last c.args.stage e (omega (arith, c.ranges.stage.fits)) c.args.self.now doc stages c.requires.sound h c.requires.above c.args.target c.args.pos c.args.count
    c.seen_count.result c.insert_own_units.new.units c.units.result.now i
    (c.units.ensures ∙ at-side c.args.target c.args.self.now c.insert_own_units.new.units) c.seen_count.ensures

pub returns-clause-sound : goal.returns-clause-sound
returns-clause-sound g c =
    let i = over (λ (u : VectorState). Inserts last_stage no_run (Local c.args.stage) c.args.pos c.args.count u c.insert_own_units.new.units)
    c.units_mut.ensures.value c.if-not-branch.false c.in_ok-insert_own_units.ensures.inserts in
    let v = c.insert_own_units.new.units in
    let op = SpliceIn c.args.target c.args.pos c.args.count in
    stage-sound c.args.self.now (record c.args.self.now { stages = c.push_behind.new.items }) c.args.stage op c.requires.sound c.requires.above
    (behind-side c.args.target c.args.self.now v c.push_behind.new.items.items (splice_stage c.args.stage op) c.in_ok-push_behind.ensures.items)
    (λ row col. refl) c.requires.some
    c.args.target v c.in_ok-insert_own_units.ensures.sound (puts-used last_stage no_run (Local c.args.stage) c.args.pos c.args.count (units_at c.args.target c.args.self.now) v i) i.1.floor
    (own-put-pending c.args.self.now.stages.items c.push_behind.new.items.items c.args.stage op last_stage c.args.pos c.args.count (units_at c.args.target c.args.self.now) v
    (behind-side c.args.target c.args.self.now v c.push_behind.new.items.items (splice_stage c.args.stage op) c.in_ok-push_behind.ensures.items) (λ h. h) i
    (below-at c.args.target c.args.stage c.args.self.now c.requires.above) (pending-at c.args.target c.args.self.now c.requires.sound))

pub returns-clause-above : goal.returns-clause-above
returns-clause-above g c = λ none.
    let i = over (λ (u : VectorState). Inserts last_stage no_run (Local c.args.stage) c.args.pos c.args.count u c.insert_own_units.new.units)
    c.units_mut.ensures.value c.if-not-branch.false c.in_ok-insert_own_units.ensures.inserts in
    let v = c.insert_own_units.new.units in
    let u = splice_stage c.args.stage (SpliceIn c.args.target c.args.pos c.args.count) in
    splice-above c.args.target c.args.self.now v (record c.args.self.now { stages = c.push_behind.new.items }) c.args.stage u c.requires.above refl
    (behind-side c.args.target c.args.self.now v c.push_behind.new.items.items u c.in_ok-push_behind.ensures.items)
    (put-below c.args.pos c.args.count c.args.stage (units_at c.args.target c.args.self.now) v i)

pub returns-clause-edited : goal.returns-clause-edited
returns-clause-edited g c = λ last doc stages e h.
    let i = over (λ (u : VectorState). Inserts last_stage no_run (Local c.args.stage) c.args.pos c.args.count u c.insert_own_units.new.units)
    c.units_mut.ensures.value c.if-not-branch.false c.in_ok-insert_own_units.ensures.inserts in
    let v = c.insert_own_units.new.units in
    let u = splice_stage c.args.stage (SpliceIn c.args.target c.args.pos c.args.count) in
    own-insert-taken last c.args.stage e (omega (arith, c.ranges.stage.fits)) c.args.self.now doc stages c.requires.sound h c.requires.above c.args.target c.args.pos c.args.count
    v (record c.args.self.now { stages = c.push_behind.new.items }) i (behind-side c.args.target c.args.self.now v c.push_behind.new.items.items
    u c.in_ok-push_behind.ensures.items)

pub returns-then-not-branch-clause-counts : goal.returns-then-not-branch-clause-counts
returns-then-not-branch-clause-counts g c =
    let i = over (λ (u : VectorState). Inserts last_stage no_run (Local c.args.stage) c.args.pos c.args.count u c.insert_own_units.new.units)
    c.units_mut.ensures.value c.if-not-branch.true c.in_ok-insert_own_units.ensures.inserts in
    insert-uncounted c.args.target c.args.pos c.args.count c.args.stage c.seen_count.result c.args.self.now c.insert_own_units.new.units c.units.result.now i
    (c.units.ensures ∙ at-side c.args.target c.args.self.now c.insert_own_units.new.units) c.seen_count.ensures

pub returns-clause-counts : goal.returns-clause-counts
returns-clause-counts g c =
    let i = over (λ (u : VectorState). Inserts last_stage no_run (Local c.args.stage) c.args.pos c.args.count u c.insert_own_units.new.units)
    c.units_mut.ensures.value c.if-not-branch.false c.in_ok-insert_own_units.ensures.inserts in
    insert-counted c.args.target c.args.pos c.args.count c.args.stage c.args.self.now c.insert_own_units.new.units
    (record c.args.self.now { stages = c.push_behind.new.items })
    (omega (arith, c.ranges.stage.fits)) i

pub insert_own_units-requires-clause-sound : goal.insert_own_units-requires-clause-sound
insert_own_units-requires-clause-sound g c = subst IsSoundVector (sym c.units_mut.ensures.value)
    (sound-at c.args.target c.args.self.now c.requires.sound)

pub returns-then-not-branch-clause-sound : goal.returns-then-not-branch-clause-sound
returns-then-not-branch-clause-sound g c =
    let i = over (λ (u : VectorState). Inserts last_stage no_run (Local c.args.stage) c.args.pos c.args.count u c.insert_own_units.new.units)
    c.units_mut.ensures.value c.if-not-branch.true c.in_ok-insert_own_units.ensures.inserts in
    same-sound c.args.target c.args.self.now c.insert_own_units.new.units i.1 c.requires.sound

pub returns-then-not-branch-clause-floor : goal.returns-then-not-branch-clause-floor
returns-then-not-branch-clause-floor g c =
    let i = over (λ (u : VectorState). Inserts last_stage no_run (Local c.args.stage) c.args.pos c.args.count u c.insert_own_units.new.units)
    c.units_mut.ensures.value c.if-not-branch.true c.in_ok-insert_own_units.ensures.inserts in
    side-floor c.args.target c.args.self.now c.insert_own_units.new.units (ap (λ (v : VectorState). v.tree.floor) i.1)

pub returns-clause-floor : goal.returns-clause-floor
returns-clause-floor g c =
    let i = over (λ (u : VectorState). Inserts last_stage no_run (Local c.args.stage) c.args.pos c.args.count u c.insert_own_units.new.units)
    c.units_mut.ensures.value c.if-not-branch.false c.in_ok-insert_own_units.ensures.inserts in
    side-floor c.args.target c.args.self.now c.insert_own_units.new.units i.1.floor

pub returns-then-not-branch-clause-reads : goal.returns-then-not-branch-clause-reads
returns-then-not-branch-clause-reads g c =
    subst (λ (u : VectorState). c.insert_own_units.new.steps ≤ c.args.steps.now + 9 * (u.tree.depth + 1)) c.units_mut.ensures.value
    c.insert_own_units.ensures.reads

pub returns-clause-reads : goal.returns-clause-reads
returns-clause-reads g c =
    subst (λ (u : VectorState). c.insert_own_units.new.steps ≤ c.args.steps.now + 9 * (u.tree.depth + 1)) c.units_mut.ensures.value
    c.insert_own_units.ensures.reads

pub returns-in_err-insert_own_units-clause-reads : goal.returns-in_err-insert_own_units-clause-reads
returns-in_err-insert_own_units-clause-reads g c =
    subst (λ (u : VectorState). c.insert_own_units.new.steps ≤ c.args.steps.now + 9 * (u.tree.depth + 1)) c.units_mut.ensures.value
    c.insert_own_units.ensures.reads

pub returns-in_err-push_behind-clause-reads : goal.returns-in_err-push_behind-clause-reads
returns-in_err-push_behind-clause-reads g c =
    subst (λ (u : VectorState). c.insert_own_units.new.steps ≤ c.args.steps.now + 9 * (u.tree.depth + 1)) c.units_mut.ensures.value
    c.insert_own_units.ensures.reads

pub returns-then-not-branch-clause-above : goal.returns-then-not-branch-clause-above
returns-then-not-branch-clause-above g c = λ none. (cc)
