use Rattle.std.proofs.Common.{◌<◌, arith, length}
use Rattle.ft_plain_lists.proofs.ShownPlaces.{shown-past, shown-step}
use Rattle.ft_plain_lists.proofs.changes.place_of_insertion.Goals as goal
use Rattle.ft_plain_lists.proofs.changes.place_of_insertion.Goals.{then-left-eq0+else-not-passes, else-left-eq0+then-passes, else-left-eq0+else-passes, then-passes-2, else-passes-2}

pub loop-e-preserved : goal.loop-e-preserved
loop-e-preserved g c =
    let seen = g.S.ElementTest.test c.args.seen in
    let past = g.P.ElementTest.test c.args.past in
    let shown = g.T.ElementTest.test c.args.shown in
    let xs = c.args.items.now in
    let inside : c.loop-e.e-index < length xs = omega arith in
    let pass = shown-past seen past shown c.loop-e.e-index c.e-item.result xs inside in
    elim c.if-left-eq0.branch [
      | then-left-eq0+else-not-passes w ↦ elim c.if-passes-2.branch [ then-passes-2 v ↦ grind (arith, pass) | else-passes-2 v ↦ grind (arith, pass) ]
      | else-left-eq0+then-passes w ↦
          let more : 0 < c.loop-e.left = omega arith in
          let next = shown-step seen past shown c.loop-e.left c.loop-e.e-index c.e-item.result xs more inside in elim c.if-passes-2.branch [ then-passes-2 v ↦ grind (arith, next) | else-passes-2 v ↦ grind (arith, next) ]
      | else-left-eq0+else-passes w ↦
          let more : 0 < c.loop-e.left = omega arith in
          let next = shown-step seen past shown c.loop-e.left c.loop-e.e-index c.e-item.result xs more inside in elim c.if-passes-2.branch [ then-passes-2 v ↦ grind (arith, next) | else-passes-2 v ↦ grind (arith, next) ]
    ]
