use Rattle.std.proofs.Common.{cond, reverse, take, sym, ◌∙◌, ap}
use Rattle.std.proofs.lemmas.List.{take_all}
use Rattle.ft_changes.specs.Beside.{first_passes, is_always_seen, is_standing}
use Rattle.ft_plain_lists.proofs.StandingPairs.{last-more}
use Rattle.ft_plain_lists.proofs.neighbours.last_passes.Goals as goal
use Rattle.ft_plain_lists.proofs.neighbours.last_passes.Goals.{then-is_standing, else-is_standing}

pub loop-e-preserved : goal.loop-e-preserved
loop-e-preserved c =
    let x = c.e-item.result in
    let l = c.loop-e in
    let more = last-more is_standing is_always_seen c.args.items.now l.e-index x c.loop-e-test.true c.e-item.is in
    let before = first_passes is_standing is_always_seen (reverse (take l.e-index c.args.items.now)) in
    elim c.if-is_standing.branch [
      | then-is_standing w ↦
          w.passes-is ∙ w.is_always_seen-passes.ensures
          ∙ ap (λ b. cond b (is_always_seen x) before) (sym w.if-is_standing.true ∙ c.is_standing.ensures) ∙ sym more
      | else-is_standing w ↦
          w.passes-is ∙ l.invariant
          ∙ ap (λ b. cond b (is_always_seen x) before) (sym w.if-is_standing.false ∙ c.is_standing.ensures) ∙ sym more
    ]

pub returns : goal.returns
returns c =
    let xs = c.args.items.now in
    c.loop-e.invariant ∙ ap (λ ys. first_passes is_standing is_always_seen (reverse ys)) (take_all c.loop-e.e-index xs c.loop-e-test.false)
