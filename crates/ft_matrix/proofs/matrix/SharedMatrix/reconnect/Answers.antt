use Rattle.std.proofs.Common.{◌++◌, ◌∙◌, ap, flat_map, subst, sym, true, arith}
use Rattle.ft_op.specs.Pieces.{op_of, pieces}
use Rattle.ft_perm.specs.Handles.{numbers_from}
use Rattle.ft_matrix.specs.HoldsGrid.{HoldsGrid}
use Rattle.ft_matrix.proofs.HeldGrids.{restate}
use Rattle.ft_matrix.proofs.Reconnected.{none-given, none-numbered}
use Rattle.ft_matrix.proofs.ResubmittedGrids.{next-due, none-within, numbers-due, within-grid}
use Rattle.ft_matrix.proofs.matrix.SharedMatrix.reconnect.Goals as goal

-- ---- an edit of no stages

pub returns-then-count-eq0-clause-answer : goal.returns-then-count-eq0-clause-answer
returns-then-count-eq0-clause-answer c = λ last doc before mine rest n h numbers all.
    sym (ap (λ ts. op_of (flat_map (pieces doc) ts)) (none-numbered c.args.first mine (numbers ∙ ap (numbers_from c.args.first) c.if-count-eq0.true)))

pub returns-then-count-eq0-clause-holds : goal.returns-then-count-eq0-clause-holds
returns-then-count-eq0-clause-holds c = λ last doc before mine rest n h numbers.
    subst (HoldsGrid c.args.self.now doc)
    (none-given doc before mine rest (none-numbered c.args.first mine (numbers ∙ ap (numbers_from c.args.first) c.if-count-eq0.true))) h

pub returns-then-count-eq0-clause-answer_within : goal.returns-then-count-eq0-clause-answer_within
returns-then-count-eq0-clause-answer_within c = λ last doc before mine rest n h next.
    sym (ap (λ ts. op_of (flat_map (pieces doc) ts)) (none-within c.args.first c.args.count mine c.if-count-eq0.true next.within))

pub returns-then-count-eq0-clause-holds_within : goal.returns-then-count-eq0-clause-holds_within
returns-then-count-eq0-clause-holds_within c = λ last doc before mine rest n h next.
    subst (HoldsGrid c.args.self.now doc)
    (none-given doc before mine rest (none-within c.args.first c.args.count mine c.if-count-eq0.true next.within)) h

-- ---- an edit of some

pub returns-in-Ok-clause-answer : goal.returns-in-Ok-clause-answer
returns-in-Ok-clause-answer c = λ last doc before mine rest n h numbers all. c.in-Ok.ensures.answer last doc before mine rest (record {
  named = n;
  holds = restate c.self.inside.grid c.self.inside.given 0 c.self.inside.usable true doc _ (subst (λ s. HoldsGrid s doc (before ++ (mine ++ rest))) (sym c.self.view_is) h);
}) (numbers-due c.args.first c.args.count last before mine rest (omega (arith, c.if-count-eq0.false)) n.rise numbers) all

pub returns-in-Ok-clause-holds : goal.returns-in-Ok-clause-holds
returns-in-Ok-clause-holds c = λ last doc before mine rest n h numbers. restate c.reconnect.new.self 0 _ true c.self.inside.usable doc _
    (c.in-Ok.ensures.holds last doc before mine rest (record {
      named = n;
      holds = restate c.self.inside.grid c.self.inside.given 0 c.self.inside.usable true doc _ (subst (λ s. HoldsGrid s doc (before ++ (mine ++ rest))) (sym c.self.view_is) h);
    }) (numbers-due c.args.first c.args.count last before mine rest (omega (arith, c.if-count-eq0.false)) n.rise numbers))

pub returns-in-Ok-clause-answer_within : goal.returns-in-Ok-clause-answer_within
returns-in-Ok-clause-answer_within c = λ last doc before mine rest n h next. c.in-Ok.ensures.answer last doc before mine rest (record {
  named = n;
  holds = restate c.self.inside.grid c.self.inside.given 0 c.self.inside.usable true doc _ (subst (λ s. HoldsGrid s doc (before ++ (mine ++ rest))) (sym c.self.view_is) h);
}) (next-due c.args.first c.args.count before mine rest next) (within-grid c.args.first c.args.count mine next.within)

pub returns-in-Ok-clause-holds_within : goal.returns-in-Ok-clause-holds_within
returns-in-Ok-clause-holds_within c = λ last doc before mine rest n h next. restate c.reconnect.new.self 0 _ true c.self.inside.usable doc _
    (c.in-Ok.ensures.holds last doc before mine rest (record {
      named = n;
      holds = restate c.self.inside.grid c.self.inside.given 0 c.self.inside.usable true doc _ (subst (λ s. HoldsGrid s doc (before ++ (mine ++ rest))) (sym c.self.view_is) h);
    }) (next-due c.args.first c.args.count before mine rest next))
