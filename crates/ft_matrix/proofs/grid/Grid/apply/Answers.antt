use Rattle.std.proofs.Common.{◌≤◌, IfOk, Bool, ap, sym, subst}
use Rattle.ft_base.specs.declared.stamps.Stamp.TheVariants.{Acked}
use Rattle.ft_block.specs.declared.leaves.LenView.TheVariants.{At}
use Rattle.ft_op.specs.declared.operations.CellOp.TheVariants.{SpliceIn}
use Rattle.ft_op.specs.Document.{grid_effect}
use Rattle.ft_tree_leaves.specs.Elements.{is_pending}
use Rattle.ft_perm.specs.Vectors.{VectorState}
use Rattle.ft_matrix.specs.Applied.{Passes, skips}
use Rattle.ft_matrix.specs.Sides.{units_at, with_units_at}
use Rattle.ft_matrix.specs.Sound.{IsSound, IsSoundVector}
use Rattle.ft_matrix.specs.Splices.{Inserts, Removes}
use Rattle.ft_matrix.proofs.Effects.{insert-refused, insert-taken, remove-done}
use Rattle.ft_matrix.proofs.SideLaws.{floor-at, made-sound, over, pending-at, puts-used, same-sound, side-floor, side-sound, sound-at}
use Rattle.ft_matrix.proofs.PendingStages.{ok-from, put-pending, removed-sound}
use Rattle.ft_matrix.proofs.SoundVectors.{if-ok}
use Rattle.ft_matrix.proofs.grid.Grid.apply.Goals as goal

pub returns-in-Set-clause-applied : goal.returns-in-Set-clause-applied
returns-in-Set-clause-applied g c = λ last doc stages h.
    subst (λ o. IfOk c.set.result (λ taken. Passes last c.set.new.self doc (grid_effect doc c.args.seq c.args.at.c c.args.at.r o) stages (skips taken))) (sym c.in-Set.is)
    (c.set.ensures.applied last c.args.seq doc stages h)

pub returns-then-not-branch-clause-sound : goal.returns-then-not-branch-clause-sound
returns-then-not-branch-clause-sound g c =
    let i = over (λ (u : VectorState). Inserts (At c.args.at) is_pending (Acked c.args.seq c.args.at.c) c.in-SpliceIn.pos c.in-SpliceIn.count u
    c.insert_units.new.units)
    c.units_mut.ensures.value c.if-not-branch.true c.in_ok-insert_units-in-SpliceIn.ensures.inserts in
    same-sound c.in-SpliceIn.target c.args.self.now c.insert_units.new.units i.1 c.requires.sound

pub returns-then-not-branch-clause-applied : goal.returns-then-not-branch-clause-applied
returns-then-not-branch-clause-applied g c = λ last doc stages h.
    let i = over (λ (u : VectorState). Inserts (At c.args.at) is_pending (Acked c.args.seq c.args.at.c) c.in-SpliceIn.pos c.in-SpliceIn.count u
    c.insert_units.new.units)
    c.units_mut.ensures.value c.if-not-branch.true c.in_ok-insert_units-in-SpliceIn.ensures.inserts in
    subst (λ o. Passes last (with_units_at c.in-SpliceIn.target c.args.self.now c.insert_units.new.units) doc (grid_effect doc c.args.seq c.args.at.c c.args.at.r o) stages 1)
    (sym c.in-SpliceIn.is)
    (insert-refused last c.args.seq c.args.at c.args.self.now doc stages c.requires.sound h c.in-SpliceIn.target c.in-SpliceIn.pos c.in-SpliceIn.count c.insert_units.new.units i)

pub returns-in_ok-count_made-in-SpliceIn-clause-sound : goal.returns-in_ok-count_made-in-SpliceIn-clause-sound
returns-in_ok-count_made-in-SpliceIn-clause-sound g c =
    let i = over (λ (u : VectorState). Inserts (At c.args.at) is_pending (Acked c.args.seq c.args.at.c) c.in-SpliceIn.pos c.in-SpliceIn.count u
    c.insert_units.new.units)
    c.units_mut.ensures.value c.if-not-branch.false c.in_ok-insert_units-in-SpliceIn.ensures.inserts in
    let t = c.in-SpliceIn.target in
    let v = c.insert_units.new.units in
    subst IsSound (sym c.in_ok-count_made-in-SpliceIn.ensures) (made-sound t c.in-SpliceIn.count (with_units_at t c.args.self.now v)
    (side-sound t c.args.self.now v c.requires.sound c.in_ok-insert_units-in-SpliceIn.ensures.sound
    (puts-used (At c.args.at) is_pending (Acked c.args.seq c.args.at.c) c.in-SpliceIn.pos c.in-SpliceIn.count (units_at t c.args.self.now) v i) i.1.floor
    (put-pending c.args.self.now.stages.items (At c.args.at) c.args.seq c.args.at.c c.in-SpliceIn.pos c.in-SpliceIn.count (units_at t c.args.self.now) v i
    (pending-at t c.args.self.now c.requires.sound))))

pub returns-in_ok-count_made-in-SpliceIn-clause-applied : goal.returns-in_ok-count_made-in-SpliceIn-clause-applied
returns-in_ok-count_made-in-SpliceIn-clause-applied g c = λ last doc stages h.
    let i = over (λ (u : VectorState). Inserts (At c.args.at) is_pending (Acked c.args.seq c.args.at.c) c.in-SpliceIn.pos c.in-SpliceIn.count u
    c.insert_units.new.units)
    c.units_mut.ensures.value c.if-not-branch.false c.in_ok-insert_units-in-SpliceIn.ensures.inserts in
    subst (λ o. Passes last c.count_made.new.self doc (grid_effect doc c.args.seq c.args.at.c c.args.at.r o) stages 0) (sym c.in-SpliceIn.is)
    (subst (λ x. Passes last x doc (grid_effect doc c.args.seq c.args.at.c c.args.at.r (SpliceIn c.in-SpliceIn.target c.in-SpliceIn.pos c.in-SpliceIn.count)) stages 0)
    (sym c.in_ok-count_made-in-SpliceIn.ensures)
    (insert-taken last c.args.seq c.args.at c.args.self.now doc stages c.requires.sound h c.in-SpliceIn.target c.in-SpliceIn.pos c.in-SpliceIn.count c.insert_units.new.units i))

pub returns-in-SpliceOut-clause-applied : goal.returns-in-SpliceOut-clause-applied
returns-in-SpliceOut-clause-applied g c = λ last doc stages h.
    let t = c.in-SpliceOut.target in
    let v = c.remove_units.new.units in
    let p = c.in-SpliceOut.pos1 in
    let q = c.in-SpliceOut.pos2 in
    if-ok (λ (taken : Bool). Removes (At c.args.at) (Acked c.args.seq c.args.at.c) p q c.units_mut-in-SpliceOut.result.now v taken)
    (λ (taken : Bool). Passes last (with_units_at t c.args.self.now v) doc (grid_effect doc c.args.seq c.args.at.c c.args.at.r c.args.op.now) stages (skips taken))
    c.remove_units.result c.remove_units.ensures.removes
    (λ taken r. subst (λ o. Passes last (with_units_at t c.args.self.now v) doc (grid_effect doc c.args.seq c.args.at.c c.args.at.r o) stages (skips taken)) (sym c.in-SpliceOut.is)
    (remove-done last c.args.seq c.args.at c.args.self.now doc stages c.requires.sound h t p q v taken
    (subst (λ (u : VectorState). Removes (At c.args.at) (Acked c.args.seq c.args.at.c) p q u v taken) c.units_mut-in-SpliceOut.ensures.value r)))

pub returns-in-Set-clause-sound : goal.returns-in-Set-clause-sound
returns-in-Set-clause-sound g c = c.set.ensures.sound

pub returns-in-Set-clause-floor : goal.returns-in-Set-clause-floor
returns-in-Set-clause-floor g c = c.set.ensures.floor

pub insert_units-requires-clause-sound : goal.insert_units-requires-clause-sound
insert_units-requires-clause-sound g c = subst IsSoundVector (sym c.units_mut.ensures.value)
    (sound-at c.in-SpliceIn.target c.args.self.now c.requires.sound)

pub insert_units-requires-clause-floor : goal.insert_units-requires-clause-floor
insert_units-requires-clause-floor g c =
    subst (λ (u : VectorState). u.tree.floor ≤ c.args.at.r) (sym c.units_mut.ensures.value)
    (subst (λ n. n ≤ c.args.at.r) (sym (floor-at c.in-SpliceIn.target c.args.self.now c.requires.sound)) c.requires.floor)

pub remove_units-requires-clause-sound : goal.remove_units-requires-clause-sound
remove_units-requires-clause-sound g c = subst IsSoundVector (sym c.units_mut-in-SpliceOut.ensures.value)
    (sound-at c.in-SpliceOut.target c.args.self.now c.requires.sound)

pub remove_units-requires-clause-floor : goal.remove_units-requires-clause-floor
remove_units-requires-clause-floor g c =
    subst (λ (u : VectorState). u.tree.floor ≤ c.args.at.r) (sym c.units_mut-in-SpliceOut.ensures.value)
    (subst (λ n. n ≤ c.args.at.r) (sym (floor-at c.in-SpliceOut.target c.args.self.now c.requires.sound)) c.requires.floor)

pub returns-then-not-branch-clause-floor : goal.returns-then-not-branch-clause-floor
returns-then-not-branch-clause-floor g c =
    let i = over (λ (u : VectorState). Inserts (At c.args.at) is_pending (Acked c.args.seq c.args.at.c) c.in-SpliceIn.pos c.in-SpliceIn.count u
    c.insert_units.new.units)
    c.units_mut.ensures.value c.if-not-branch.true c.in_ok-insert_units-in-SpliceIn.ensures.inserts in
    side-floor c.in-SpliceIn.target c.args.self.now c.insert_units.new.units (ap (λ (v : VectorState). v.tree.floor) i.1)

pub returns-in-SpliceOut-clause-sound : goal.returns-in-SpliceOut-clause-sound
returns-in-SpliceOut-clause-sound g c =
    let t = c.in-SpliceOut.target in
    let v = c.remove_units.new.units in
    let p = c.in-SpliceOut.pos1 in
    let q = c.in-SpliceOut.pos2 in
    ok-from (λ (taken : Bool). Removes (At c.args.at) (Acked c.args.seq c.args.at.c) p q c.units_mut-in-SpliceOut.result.now v taken)
    (IsSoundVector v) (IsSound (with_units_at t c.args.self.now v)) c.remove_units.result c.remove_units.ensures.removes c.remove_units.ensures.sound
    (λ taken r sv. removed-sound t c.args.self.now (At c.args.at) (Acked c.args.seq c.args.at.c) p q v taken c.requires.sound
    (subst (λ (u : VectorState). Removes (At c.args.at) (Acked c.args.seq c.args.at.c) p q u v taken) c.units_mut-in-SpliceOut.ensures.value r) sv)
