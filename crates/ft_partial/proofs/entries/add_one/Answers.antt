use Rattle.std.proofs.Common.{◌≡◌, length, rules, arith}
use Rattle.ft_partial.proofs.EntryLemmas.{added_newer, added_to_none}
use Rattle.ft_partial.proofs.entries.add_one.Goals.{else-len-gt0-via-then-len-gt0+else-index-x, else-len-gt0-via-else-len-gt0}
use Rattle.ft_partial.proofs.entries.add_one.Goals as goal

pub returns-clause-ok : goal.returns-clause-ok
returns-clause-ok c =
    let many : c.len-len.result ≡ length c.args.entries.now.items = search rules in
    elim c.else-len-gt0.branch [
      | else-len-gt0-via-then-len-gt0+else-index-x w ↦ added_newer c.args.entries.now.items _ c.len-len.result c.args.x w.index.result.now c.requires many w.if-len-gt0.true
          w.index.ensures (omega (arith, w.if-index-x.false)) (omega arith) c.in_ok-push.ensures.items
      | else-len-gt0-via-else-len-gt0 w ↦ added_to_none c.args.entries.now.items _ c.args.x (omega (arith, many, w.if-len-gt0.false)) (omega arith) c.in_ok-push.ensures.items
    ]
