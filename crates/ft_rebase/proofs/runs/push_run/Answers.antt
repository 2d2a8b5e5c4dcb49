use Rattle.std.proofs.Common.{◌++◌, [], ◌∷◌, ap, ◌∙◌}
use Rattle.ft_rebase.proofs.MarkedRunLemmas.{apart_run, joined_run}
use Rattle.ft_rebase.proofs.runs.push_run.Goals as goal

pub returns-then-last-start : goal.returns-then-last-start
returns-then-last-start c more =
    joined_run c.pop.new.self.items c.args.runs.now.items c.push-then-last-start.new.self.items c.in-Some.first c.in-Some.last
    c.args.start c.args.end more
    c.in-Some.ensures.items c.if-last-start.true c.in_ok-push-2.ensures.items

pub returns : goal.returns
returns c more =
    apart_run c.pop.new.self.items c.args.runs.now.items c.push-3.new.self.items c.in-Some.first c.in-Some.last c.args.start c.args.end more
    c.in-Some.ensures.items c.if-last-start.false
    (c.in_ok-push-4.ensures.items ∙ ap (λ rs. rs ++ (c.args.start, c.args.end) ∷ []) c.in_ok-push-3.ensures.items)
