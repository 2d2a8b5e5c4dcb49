use Rattle.std.proofs.Common.{◌+◌, ◌++◌, drop, arith, ap, ◌∙◌}
use Rattle.ft_replay.proofs.Observing.{names-before, names-next, names-split}
use Rattle.ft_replay.proofs.observer.table_of.Goals as goal

pub number-requires : goal.number-requires
number-requires c new =
    let items = c.as_slice-name-items.result.now in
    let now = c.loop-name in
    let name = c.name-item.result in
    let split = names-split c.args.conns.now items now.names now.name-index name now.invariant c.loop-name-test.true c.name-item.is in
    omega (arith, names-before c.args.conns.now now.names (drop (now.name-index + 1) items) name split, c.requires.few)

pub loop-name-preserved : goal.loop-name-preserved
loop-name-preserved c =
    let items = c.as_slice-name-items.result.now in
    let now = c.loop-name in
    let name = c.name-item.result in
    let left = drop (now.name-index + 1) items in
    let split = names-split c.args.conns.now items now.names now.name-index name now.invariant c.loop-name-test.true c.name-item.is in
    ap (λ names. names ++ left) c.in_ok-number.ensures.names ∙ names-next c.args.conns.now now.names left name split c.requires.distinct
