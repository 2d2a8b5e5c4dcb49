use Rattle.std.proofs.Common.{◌∙◌, subst, sym}
use Rattle.ft_matrix.specs.declared.grid.Grid.{Grid}
use Rattle.ft_matrix.specs.Sound.{IsSoundVector}
use Rattle.ft_matrix.proofs.ResubmitSteps.{all-sent, fewer-left, none-sent, one-sent}
use Rattle.ft_matrix.proofs.grid.Grid.resubmit.Goals as goal

pub loop-self-init : goal.loop-self-init
loop-self-init c = none-sent c.args.first c.args.count c.first_from-i.result c.args.self.now c.new-pieces.result.items c.requires c.first_from-i.ensures c.new-pieces.ensures.items

pub resubmit_stage-requires-clause-rows : goal.resubmit_stage-requires-clause-rows
resubmit_stage-requires-clause-rows c = subst (λ (x : Grid). IsSoundVector x.rows) (sym c.loop-self.invariant.rest) c.requires.rows

pub resubmit_stage-requires-clause-cols : goal.resubmit_stage-requires-clause-cols
resubmit_stage-requires-clause-cols c = subst (λ (x : Grid). IsSoundVector x.cols) (sym c.loop-self.invariant.rest) c.requires.cols

pub loop-self-preserved : goal.loop-self-preserved
loop-self-preserved c = one-sent c.args.first c.args.count c.args.self.now c.loop-self.self c.resubmit_stage.new.self c.loop-self.i
    c.in_ok-i.i c.loop-self.pieces.items c.resubmit_stage.new.pieces.items
    c.loop-self.invariant (sym c.is_due_at.ensures ∙ c.loop-self-test.true) c.in_ok-i.ensures

pub loop-self-smaller : goal.loop-self-smaller
loop-self-smaller c = fewer-left c.args.first c.args.count c.loop-self.self c.resubmit_stage.new.self c.loop-self.i c.in_ok-i.i
    c.loop-self.pieces.items c.resubmit_stage.new.pieces.items
    (sym c.is_due_at.ensures ∙ c.loop-self-test.true) c.in_ok-i.ensures

pub returns : goal.returns
returns c = all-sent c.args.first c.args.count c.loop-self.i c.args.self.now c.loop-self.self c.loop-self.pieces.items
    c.loop-self.invariant (sym c.is_due_at.ensures ∙ c.loop-self-test.false)
