use Rattle.std.proofs.Common.{◌≡◌, ◌∙◌, ◌++◌, ◌+◌, ◌-◌, ◌<◌, IsTrue, true, ap, subst, sym, arith}
use Rattle.ft_string.specs.Acks.{AcksStages}
use Rattle.ft_string.specs.Calls.{HoldsAcked}
use Rattle.ft_string.specs.Holds.{HoldsText}
use Rattle.ft_string.specs.Parts.{state_of}
use Rattle.ft_string.specs.State.{TextState}
use Rattle.ft_string.proofs.Acknowledged.{acked-ahead, acked-floor, acked-none, acked-sound, acked-whole, is-ready}
use Rattle.ft_string.specs.declared.pending.PendingOp.{PendingOp}
use Rattle.ft_string.proofs.strings.SharedString.ack.Goals as goal

pub ack_all-requires-clause-rise : goal.ack_all-requires-clause-rise
ack_all-requires-clause-rise c =
    let a = c.self.inside in
    (is-ready a c.args.self.now c.args.first (c.args.first + c.args.count) c.self.view_is c.self.invariant c.requires.usable
    c.requires.none_given c.requires.held.0 c.requires.held.1).rise

pub ack_all-requires-clause-noted : goal.ack_all-requires-clause-noted
ack_all-requires-clause-noted c =
    let a = c.self.inside in
    (is-ready a c.args.self.now c.args.first (c.args.first + c.args.count) c.self.view_is c.self.invariant c.requires.usable
    c.requires.none_given c.requires.held.0 c.requires.held.1).noted

pub ack_all-requires-clause-stands : goal.ack_all-requires-clause-stands
ack_all-requires-clause-stands c =
    let a = c.self.inside in
    (is-ready a c.args.self.now c.args.first (c.args.first + c.args.count) c.self.view_is c.self.invariant c.requires.usable
    c.requires.none_given c.requires.held.0 c.requires.held.1).stands

pub ack_all-requires-clause-marked : goal.ack_all-requires-clause-marked
ack_all-requires-clause-marked c =
    let a = c.self.inside in
    (is-ready a c.args.self.now c.args.first (c.args.first + c.args.count) c.self.view_is c.self.invariant c.requires.usable
    c.requires.none_given c.requires.held.0 c.requires.held.1).parts.marked

pub invariant_of-self-2 : goal.invariant_of-self-2
invariant_of-self-2 c =
    let a = c.self.inside in
    let end = c.args.first + c.args.count in
    let up : c.args.first + (c.args.count - 1) + 1 ≡ end = omega (arith, c.if-count-eq0.false) in
    let acks = subst (λ n. AcksStages n c.args.seq c.args.conn a.tree c.ack_all.new.tree a.intervals.state c.ack_all.new.intervals.state a.ops.items c.ack_all.new.ops.items) up c.in_ok-ack_all.ensures.stages in
    let r = is-ready a c.args.self.now c.args.first end c.self.view_is c.self.invariant c.requires.usable c.requires.none_given c.requires.held.0 c.requires.held.1 in
    let before = c.self.invariant (subst (λ b. IsTrue b) (sym (ap (λ (s : TextState). s.usable) c.self.view_is)) c.requires.usable) in
    λ t. record {
      parts = acked-sound end c.args.seq c.args.conn a.tree c.ack_all.new.tree a.intervals.state c.ack_all.new.intervals.state a.ops.items
          c.ack_all.new.ops.items a.given a.given a.usable a.usable
          c.args.first r.parts acks r.last r.held;
      stands = c.in_ok-ack_all.ensures.stands;
      again = before.again;
      ahead = acked-ahead (λ (t : PendingOp). a.given < t.stage) acks before.ahead;
    }

pub returns-clause-acked : goal.returns-clause-acked
returns-clause-acked c last doc mine rest old sound holds =
    let a = c.self.inside in
    let end = c.args.first + c.args.count in
    let up : c.args.first + (c.args.count - 1) + 1 ≡ end = omega (arith, c.if-count-eq0.false) in
    let acks = subst (λ n. AcksStages n c.args.seq c.args.conn a.tree c.ack_all.new.tree a.intervals.state c.ack_all.new.intervals.state a.ops.items c.ack_all.new.ops.items) up c.in_ok-ack_all.ensures.stages in
    let r = is-ready a c.args.self.now c.args.first end c.self.view_is c.self.invariant c.requires.usable c.requires.none_given c.requires.held.0 c.requires.held.1 in
    let held = subst (λ os. HoldsText (state_of a.tree a.intervals.state (os ++ a.ops.items) a.given a.usable) doc (mine ++ rest)) r.none
    (subst (λ s. HoldsText s doc (mine ++ rest)) (sym c.self.view_is) holds) in
    subst (λ os. HoldsAcked (state_of c.ack_all.new.tree c.ack_all.new.intervals.state (os ++ c.ack_all.new.ops.items) a.given true)
    c.args.seq c.args.conn mine rest doc) (sym r.none)
    (acked-whole end c.args.seq c.args.conn a.tree c.ack_all.new.tree a.intervals.state c.ack_all.new.intervals.state a.ops.items
    c.ack_all.new.ops.items a.given a.given a.usable true
    c.args.first r.parts acks last doc mine rest old sound held)

pub returns-clause-rest : goal.returns-clause-rest
returns-clause-rest c = record {
  floor = acked-floor c.in_ok-ack_all.ensures.stages ∙ ap (λ (s : TextState). s.floor) c.self.view_is;
  given = ap (λ (s : TextState). s.given) c.self.view_is;
  usable = sym c.requires.usable;
}

pub returns-then-count-eq0-clause-acked : goal.returns-then-count-eq0-clause-acked
returns-then-count-eq0-clause-acked c last doc mine rest old sound holds =
    acked-none c.args.first (c.args.first + c.args.count) c.args.self.now c.args.seq c.args.conn doc mine rest (omega (arith, c.if-count-eq0.true)) old holds
