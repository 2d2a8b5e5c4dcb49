use Rattle.std.proofs.Common.{◌≡◌, ◌++◌, ◌+◌, ◌-◌, ◌<◌, ◌≤◌, All, IsTrue, true, flat_map, ap, subst, sym, arith}
use Rattle.ft_op.specs.Pieces.{op_of, pieces}
use Rattle.ft_string.specs.Calls.{AreNext, HoldsGiven, HoldsSomeGiven}
use Rattle.ft_string.specs.Rejoins.{Gives}
use Rattle.ft_string.specs.State.{TextState}
use Rattle.ft_string.specs.declared.pending.PendingOp.{PendingOp}
use Rattle.ft_string.proofs.Reconnected.{given-ahead, given-nothing, given-sound, is-given, kept-low, none-within}
use Rattle.ft_string.proofs.strings.SharedString.reconnect.Goals as goal

pub returns-then-count-eq0-clause-holds : goal.returns-then-count-eq0-clause-holds
returns-then-count-eq0-clause-holds c last doc front mine behind next sound holds =
    let a = c.self.inside in
    let none = none-within c.args.first (c.args.first + c.args.count) mine (omega (arith, c.if-count-eq0.true)) next.within in
    given-nothing a.tree a.intervals.state (a.again.items ++ a.ops.items) a.given a.given a.usable true doc front mine behind none
    (subst (λ s. HoldsGiven s doc front (mine ++ behind)) (sym c.self.view_is) holds)

pub returns-then-count-eq0-clause-op : goal.returns-then-count-eq0-clause-op
returns-then-count-eq0-clause-op c last doc front mine behind next sound holds =
    let none = none-within c.args.first (c.args.first + c.args.count) mine (omega (arith, c.if-count-eq0.true)) next.within in
    ap (λ ms. op_of (flat_map (pieces doc) ms)) (sym none)

pub invariant_of-self-2 : goal.invariant_of-self-2
invariant_of-self-2 c =
    let a = c.self.inside in
    let end = c.args.first + c.args.count in
    let before = c.self.invariant (subst (λ b. IsTrue b) (sym (ap (λ (s : TextState). s.usable) c.self.view_is)) c.requires.usable) in
    let last = c.requires.held.0 in
    let s = ap (λ (s : TextState). s.given) c.self.view_is in
    let order : a.given < c.args.first = omega (arith, c.requires.order, s) in
    let some : c.args.first < end = omega (arith, c.if-count-eq0.false) in
    let top = c.args.first + (c.args.count - 1) in
    let up : top + 1 ≡ end = omega (arith, c.if-count-eq0.false) in
    let gives = subst (λ n. Gives c.args.first n a.tree c.give.new.tree a.intervals.state c.give.new.intervals.state a.ops.items c.give.new.ops.items a.again.items c.give.new.kept.items c.in_ok-op.op) up
    c.in_ok-op.ensures.gives in
    let low : end - 1 ≡ top = omega (arith, c.if-count-eq0.false) in
    let h = subst (λ s. HoldsSomeGiven last c.args.first end s) (sym c.self.view_is) c.requires.held.1 in
    let g = is-given a.given c.args.first end last order some a.tree c.give.new.tree a.intervals.state c.give.new.intervals.state
    a.again.items a.ops.items c.give.new.ops.items c.give.new.kept.items
    a.usable before.again before.ahead c.in_ok-op.op gives h.doc h.front h.rest h.mine h.next h.sound h.holds in
    λ t. record {
      parts = given-sound a.given c.args.first end order some a.tree c.give.new.tree a.intervals.state c.give.new.intervals.state
          a.again.items a.ops.items c.give.new.ops.items c.give.new.kept.items
          c.in_ok-op.op gives before.parts;
      stands = c.in_ok-op.ensures.stands;
      again = subst (λ n. All (λ (t : PendingOp). t.stage ≤ n) c.give.new.kept.items) low
          (kept-low a.given c.args.first end order some a.tree c.give.new.tree a.intervals.state c.give.new.intervals.state a.again.items
          a.ops.items c.give.new.ops.items c.give.new.kept.items
          c.in_ok-op.op gives before.again);
      ahead = subst (λ n. All (λ (t : PendingOp). n < t.stage) c.give.new.ops.items) low
          (given-ahead end h.doc h.front h.mine h.rest c.give.new.tree c.give.new.intervals.state c.give.new.ops.items
          c.give.new.kept.items c.in_ok-op.op (omega arith) h.next.behind g);
    }

pub returns-clause-op : goal.returns-clause-op
returns-clause-op c last doc front mine behind next sound holds =
    let a = c.self.inside in
    let end = c.args.first + c.args.count in
    let before = c.self.invariant (subst (λ b. IsTrue b) (sym (ap (λ (s : TextState). s.usable) c.self.view_is)) c.requires.usable) in
    let s = ap (λ (s : TextState). s.given) c.self.view_is in
    let order : a.given < c.args.first = omega (arith, c.requires.order, s) in
    let some : c.args.first < end = omega (arith, c.if-count-eq0.false) in
    let top = c.args.first + (c.args.count - 1) in
    let up : top + 1 ≡ end = omega (arith, c.if-count-eq0.false) in
    let gives = subst (λ n. Gives c.args.first n a.tree c.give.new.tree a.intervals.state c.give.new.intervals.state a.ops.items c.give.new.ops.items a.again.items c.give.new.kept.items c.in_ok-op.op) up
    c.in_ok-op.ensures.gives in
    (is-given a.given c.args.first end last order some a.tree c.give.new.tree a.intervals.state c.give.new.intervals.state a.again.items
    a.ops.items c.give.new.ops.items c.give.new.kept.items
    a.usable before.again before.ahead c.in_ok-op.op gives doc front behind mine (subst (λ n. AreNext n c.args.first end front mine behind) (sym s) next) sound
    (subst (λ s. HoldsGiven s doc front (mine ++ behind)) (sym c.self.view_is) holds)).sends

pub returns-clause-holds : goal.returns-clause-holds
returns-clause-holds c last doc front mine behind next sound holds =
    let a = c.self.inside in
    let end = c.args.first + c.args.count in
    let before = c.self.invariant (subst (λ b. IsTrue b) (sym (ap (λ (s : TextState). s.usable) c.self.view_is)) c.requires.usable) in
    let s = ap (λ (s : TextState). s.given) c.self.view_is in
    let order : a.given < c.args.first = omega (arith, c.requires.order, s) in
    let some : c.args.first < end = omega (arith, c.if-count-eq0.false) in
    let top = c.args.first + (c.args.count - 1) in
    let up : top + 1 ≡ end = omega (arith, c.if-count-eq0.false) in
    let gives = subst (λ n. Gives c.args.first n a.tree c.give.new.tree a.intervals.state c.give.new.intervals.state a.ops.items c.give.new.ops.items a.again.items c.give.new.kept.items c.in_ok-op.op) up
    c.in_ok-op.ensures.gives in
    (is-given a.given c.args.first end last order some a.tree c.give.new.tree a.intervals.state c.give.new.intervals.state a.again.items
    a.ops.items c.give.new.ops.items c.give.new.kept.items
    a.usable before.again before.ahead c.in_ok-op.op gives doc front behind mine (subst (λ n. AreNext n c.args.first end front mine behind) (sym s) next) sound
    (subst (λ s. HoldsGiven s doc front (mine ++ behind)) (sym c.self.view_is) holds)).holds top true
