use Rattle.std.proofs.Common.{rules, ◌≡◌, ℕ, ◌+◌, ◌<◌, ◌∙◌, List, ◌∷◌, None, ap, arith, drop, get_or, length, subst, sym, true}
use Rattle.ft_op.specs.declared.operations.CellOp.{CellOp}
use Rattle.ft_op.specs.WellFormed.{IsWellFormedCell}
use Rattle.ft_matrix.specs.Conditions.{IsAboveAll}
use Rattle.ft_matrix.specs.GridStates.{grid_state}
use Rattle.ft_matrix.specs.OwnEdits.{Counts, EditsOne, refusal, seen_units}
use Rattle.ft_matrix.specs.declared.grid.Grid.{Grid}
use Rattle.ft_matrix.proofs.AppliedSteps.{all-rest, drop-item}
use Rattle.ft_matrix.proofs.OwnCounts.{first-within, rest-within}
use Rattle.ft_matrix.proofs.OwnGroups.{all-taken, one-taken}
use Rattle.ft_matrix.proofs.ToldUnits.{own-all, own-next}
use Rattle.ft_matrix.proofs.grid.Grid.edit_all.Goals as goal

-- the operations that are left, with the one that is taken now
within-here : (g : Grid) (ops : List CellOp) (i : ℕ) (op : CellOp) → i < length ops → op ≡ get_or ops i op
    → refusal (seen_units g.rows) (seen_units g.cols) (drop i ops) ≡ None
    → refusal (seen_units g.rows) (seen_units g.cols) (op ∷ drop (i + 1) ops) ≡ None
within-here g ops i op l e h = ap (refusal (seen_units g.rows) (seen_units g.cols)) (sym (drop-item ops i op l e)) ∙ h

pub unreachable-requires : goal.unreachable-requires
unreachable-requires g c =
    let i = c.loop-op.invariant in
    first-within (seen_units c.loop-op.self.rows) (seen_units c.loop-op.self.cols) c.in-Some.field-0 c.op-item.result (drop (c.loop-op.op-index + 1) c.args.ops.now)
    (within-here c.loop-op.self c.args.ops.now c.loop-op.op-index c.op-item.result c.loop-op-test.true c.op-item.is i.within)
    (subst (Counts c.op-item.result c.loop-op.self c.edit_one.new.self) c.in-Some.is c.in_ok-edit_one.ensures.counts)

pub loop-op-preserved : goal.loop-op-preserved
loop-op-preserved g c =
    let i = c.loop-op.invariant in
    let next : c.in_ok-stage-in-None.stage ≡ c.loop-op.stage + 1 = c.in_ok-stage-in-None.ensures in
    let fits : c.loop-op.stage < 18446744073709551616 = search rules in
    record {
      sound = c.in_ok-edit_one.ensures.sound;
      floor = c.in_ok-edit_one.ensures.floor ∙ i.floor;
      formed = (all-rest IsWellFormedCell c.args.ops.now c.loop-op.op-index c.op-item.result c.loop-op-test.true c.op-item.is i.formed).1;
      some = omega (arith, next);
      above = subst (λ n. IsAboveAll n (grid_state c.edit_one.new.self 0 true)) (sym next) (c.in_ok-edit_one.ensures.above c.in-None.is);
      within = rest-within (seen_units c.loop-op.self.rows) (seen_units c.loop-op.self.cols) (seen_units c.edit_one.new.self.rows) (seen_units c.edit_one.new.self.cols)
          c.op-item.result (drop (c.loop-op.op-index + 1) c.args.ops.now)
          (within-here c.loop-op.self c.args.ops.now c.loop-op.op-index c.op-item.result c.loop-op-test.true c.op-item.is i.within)
          (subst (Counts c.op-item.result c.loop-op.self c.edit_one.new.self) c.in-None.is c.in_ok-edit_one.ensures.counts);
      stage = omega (arith, next, i.stage);
      edited = λ last doc stages e h.
          one-taken last c.args.first c.loop-op.op-index c.loop-op.stage c.loop-op.self c.edit_one.new.self doc stages c.args.ops.now
          c.op-item.result i.stage c.loop-op-test.true c.op-item.is
          (λ d ts k. subst (λ o. EditsOne (last + c.loop-op.op-index) c.loop-op.stage d ts c.op-item.result c.loop-op.self c.edit_one.new.self o) c.in-None.is
          (c.in_ok-edit_one.ensures.edited (last + c.loop-op.op-index) d ts (omega (arith, i.stage, e)) k)) (i.edited last doc stages e h);
      told = λ last doc stages e h.
          own-next last c.args.first c.loop-op.op-index c.loop-op.stage c.loop-op.self c.edit_one.new.self c.args.listener.now c.loop-op.listener
          c.tell_own.new.listener c.args.ops.now c.op-item.result doc stages i.stage e
          (omega (arith, i.stage, e, fits)) c.loop-op-test.true c.op-item.is
          i.above c.in_ok-tell_own.ensures
          (λ d ts k. subst (λ o. EditsOne (last + c.loop-op.op-index) c.loop-op.stage d ts c.op-item.result c.loop-op.self c.edit_one.new.self o)
          c.in-None.is
          (c.in_ok-edit_one.ensures.edited (last + c.loop-op.op-index) d ts (omega (arith, i.stage, e)) k)) (i.told last doc stages e h);
    }

pub returns-clause-told : goal.returns-clause-told
returns-clause-told g c = λ last doc stages e h.
    own-all last c.args.first c.loop-op.op-index c.loop-op.self c.args.listener.now c.loop-op.listener c.args.ops.now doc stages c.loop-op-test.false
    (c.loop-op.invariant.told last doc stages e h)

pub returns-clause-edited : goal.returns-clause-edited
returns-clause-edited g c = λ last doc stages e h.
    all-taken last c.args.first c.loop-op.op-index c.loop-op.self doc stages c.args.ops.now c.loop-op-test.false c.loop-op.auto.op-index-end
    (c.loop-op.invariant.edited last doc stages e h)
