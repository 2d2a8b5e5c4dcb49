use Rattle.std.proofs.Common.{◌≡◌, ◌+◌, ◌∙◌, sym, ap, arith, length, reverse}
use Rattle.ft_msg.specs.Content.{extended_property_runs}
use Rattle.ft_plain_lists.specs.PropertyRuns.{runs_before}
use Rattle.ft_plain_lists.proofs.BackwardRuns.{runs_before-push}
use Rattle.ft_plain_lists.proofs.shown.backward_runs.Goals as goal

pub loop-last-preserved : goal.loop-last-preserved
loop-last-preserved c =
    let xs = c.pop.new.self.items in
    let last = c.in-Some.last in
    let runs = reverse c.loop-last.runs.items in
    let place : c.len.result ≡ 0 + length xs = omega (arith, c.pop.new.self.ok.0) in
    ap (runs_before 0 xs) (c.in_ok-extend_runs.ensures ∙ ap (λ n. extended_property_runs n last runs) place)
    ∙ sym (runs_before-push 0 xs last runs)
    ∙ ap (λ ys. runs_before 0 ys runs) (sym c.in-Some.ensures.items)
    ∙ c.loop-last.invariant
