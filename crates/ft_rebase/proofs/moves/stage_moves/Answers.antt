use Rattle.std.proofs.Common.{ℕ, ◌<◌, ◌++◌, ◌∷◌, [], List, ap, subst, sym, ◌∙◌, arith, append_assoc, append-nil}
use Rattle.ft_rebase.specs.declared.moves.StageMove.{StageMove}
use Rattle.ft_rebase.specs.Moves.{AreMoves, NoneOf}
use Rattle.ft_rebase.proofs.NextStages.{IsBelow, lower_moves, next_above, none_between, none_is, position_is}
use Rattle.ft_rebase.proofs.moves.stage_moves.Goals as goal

pub loop-next-smaller-in_ok-push : goal.loop-next-smaller-in_ok-push
loop-next-smaller-in_ok-push g c =
    let above = next_above c.loop-next.stage c.in-Some.next c.args.tree.now.leaves (sym c.in-Some.ensures) in omega (arith, above)

pub loop-next-preserved-in_ok-push : goal.loop-next-preserved-in_ok-push
loop-next-preserved-in_ok-push g c more h =
    let us = g.C.Content.units in
    let by = g.C.Content.by in
    let xs = c.args.tree.now.leaves in
    let k = c.loop-next.stage in
    let n = c.in-Some.next in
    let some = c.first_leaf-first.ensures.some in
    let above = next_above k n xs (sym c.in-Some.ensures) in
    let between : (j : ℕ) → k < j → j < n → NoneOf j xs = λ j l b. none_between k j xs l (subst (IsBelow j) c.in-Some.ensures b) in
    let position = position_is us by xs some n c.in-Some-2.position (omega (arith, above))
    (sym c.in-Some-2.is ∙ c.in_ok-position.ensures) in
    let move : StageMove = record { stage = n; position = c.in-Some-2.position } in
    subst (λ (ms : List StageMove). AreMoves us 0 ms xs)
    (sym (ap (λ ms. ms ++ more) c.in_ok-push.ensures.items ∙ append_assoc c.loop-next.moves.items (move ∷ []) more))
    (c.loop-next.invariant (move ∷ more) (above, between, position, h))

pub loop-next-smaller : goal.loop-next-smaller
loop-next-smaller g c =
    let above = next_above c.loop-next.stage c.in-Some.next c.args.tree.now.leaves (sym c.in-Some.ensures) in omega (arith, above)

pub loop-next-preserved : goal.loop-next-preserved
loop-next-preserved g c more h =
    let us = g.C.Content.units in
    let by = g.C.Content.by in
    let xs = c.args.tree.now.leaves in
    let k = c.loop-next.stage in
    let n = c.in-Some.next in
    let some = c.first_leaf-first.ensures.some in
    let above = next_above k n xs (sym c.in-Some.ensures) in
    let between : (j : ℕ) → k < j → j < n → NoneOf j xs = λ j l b. none_between k j xs l (subst (IsBelow j) c.in-Some.ensures b) in
    c.loop-next.invariant more (lower_moves us by xs some k n more above between
    (none_is us by xs some n (sym c.in_default-2.is ∙ c.in_ok-position.ensures)) h)

pub returns : goal.returns
returns g c =
    let us = g.C.Content.units in
    let xs = c.args.tree.now.leaves in
    let none : (j : ℕ) → c.loop-next.stage < j → NoneOf j xs =
    λ j l. none_between c.loop-next.stage j xs l (subst (IsBelow j) (sym c.in_default.is ∙ c.next_pending.ensures) tt) in
    subst (λ (ms : List StageMove). AreMoves us 0 ms xs) (append-nil c.loop-next.moves.items) (c.loop-next.invariant [] none)
