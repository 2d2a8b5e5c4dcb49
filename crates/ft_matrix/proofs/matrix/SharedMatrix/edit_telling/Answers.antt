use Rattle.std.proofs.Common.{◌∙◌, ap, sym, subst, true}
use Rattle.ft_op.specs.declared.operations.ChannelOp.TheVariants.{Grid}
use Rattle.ft_op.specs.Operation.{sub_operations}
use Rattle.ft_matrix.specs.GridStates.{grid_state}
use Rattle.ft_matrix.specs.HoldsGrid.{HoldsGrid}
use Rattle.ft_matrix.specs.OwnEdits.{EditsAll}
use Rattle.ft_matrix.proofs.HeldGrids.{restate}
use Rattle.ft_matrix.proofs.matrix.SharedMatrix.edit_telling.Goals as goal

pub returns-in-Ok-None-clause-answers : goal.returns-in-Ok-None-clause-answers
returns-in-Ok-None-clause-answers g c = λ last doc stages e n h.
    let t = subst (λ o. EditsAll last c.args.first doc stages (sub_operations (Grid c.args.op.now)) c.self.inside.grid c.edit_op.new.self o) c.in-Ok-None.field-0-is
    (c.in-Ok-None.ensures.edited last doc stages e (record {
      named = n;
      holds = restate c.self.inside.grid c.self.inside.given 0 c.self.inside.usable true doc stages (subst (λ s. HoldsGrid s doc stages) (sym c.self.view_is) h);
    })) in
    record {
      later = t.later;
      taken = t.taken;
      is = t.is;
      holds = restate c.edit_op.new.self 0 c.self.inside.given true c.self.inside.usable t.later _ t.holds;
      counted = t.count ∙ sym c.sub_operation_count.ensures;
    }

pub returns-in-Ok-Some-clause-answers : goal.returns-in-Ok-Some-clause-answers
returns-in-Ok-Some-clause-answers g c = λ last doc stages e n h.
    let t = subst (λ o. EditsAll last c.args.first doc stages (sub_operations (Grid c.args.op.now)) c.self.inside.grid c.edit_op.new.self o) c.in-Ok-Some.field-0-is
    (c.in-Ok-Some.ensures.edited last doc stages e (record {
      named = n;
      holds = restate c.self.inside.grid c.self.inside.given 0 c.self.inside.usable true doc stages (subst (λ s. HoldsGrid s doc stages) (sym c.self.view_is) h);
    })) in
    (t.0, ap (λ x. grid_state x c.self.inside.given c.self.inside.usable) t.1 ∙ c.self.view_is)

pub returns-in-Ok-None-clause-told : goal.returns-in-Ok-None-clause-told
returns-in-Ok-None-clause-told g c = λ last doc stages e n h.
    c.in-Ok-None.ensures.told last doc stages e (record {
      named = n;
      holds = restate c.self.inside.grid c.self.inside.given 0 c.self.inside.usable true doc stages
          (subst (λ s. HoldsGrid s doc stages) (sym c.self.view_is) h);
    }) c.in-Ok-None.field-0-is
