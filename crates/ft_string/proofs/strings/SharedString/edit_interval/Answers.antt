use Rattle.std.proofs.Common.{◌++◌, ◌-◌, IsTrue, ap, subst, sym}
use Rattle.ft_block.specs.declared.leaves.LenView.TheVariants.{Stage as at_stage}
use Rattle.ft_base.specs.Scan.{len}
use Rattle.ft_interval_store.specs.Intervals.{name_in}
use Rattle.ft_interval_store.specs.State.{IsAsBefore, is_shown, placed, text_elements}
use Rattle.ft_tree_leaves.specs.Elements.{seen_in}
use Rattle.ft_string.specs.Holds.{HoldsSome, HoldsText}
use Rattle.ft_string.specs.State.{TextState}
use Rattle.ft_string.proofs.AppliedIntervals.{kept-sound}
use Rattle.ft_string.proofs.EditedIntervals.{interval-above, interval-leaves, interval-refused, interval-taken, refused-sound, refused-stands}
use Rattle.ft_string.proofs.strings.SharedString.edit_interval.Goals as goal

pub take_interval-requires-clause-above : goal.take_interval-requires-clause-above
take_interval-requires-clause-above c =
    interval-above c.args.first c.requires.some c.self.inside.tree c.self.inside.intervals.state (c.self.inside.again.items ++ c.self.inside.ops.items) c.self.inside.given
    c.self.inside.usable (subst (λ s. HoldsSome (c.args.first - 1) s) (sym c.self.view_is) c.requires.held)

pub invariant_of-self : goal.invariant_of-self
invariant_of-self c =
    let usable : IsTrue c.self.inside.usable = subst (λ b. IsTrue b) (sym (ap (λ (s : TextState). s.usable) c.self.view_is)) c.requires.usable in
    let before = c.self.invariant usable in
    λ t. record {
      parts = kept-sound c.self.inside.tree c.take_interval.new.tree c.self.inside.intervals.state c.take_interval.new.intervals.state
          before.parts c.in-Ok.ensures.taken.rest c.in-Ok.ensures.taken.refs;
      stands = c.in-Ok.ensures.stands;
      again = before.again;
      ahead = before.ahead;
    }

pub returns-in-Ok-clause-answers : goal.returns-in-Ok-clause-answers
returns-in-Ok-clause-answers c doc stages sound holds =
    interval-taken c.args.first c.requires.some c.self.inside.tree c.self.inside.intervals.state (c.self.inside.again.items ++ c.self.inside.ops.items) c.self.inside.given
    c.self.inside.usable c.args.op.now c.requires.kind c.first_stage-first.ensures.names doc stages sound (subst (λ s. HoldsText s doc stages) (sym c.self.view_is) holds)
    c.take_interval.new.tree c.take_interval.new.intervals.state c.in-Ok.ensures.taken c.in-Ok.ensures.name

pub invariant_of-self-in-Err : goal.invariant_of-self-in-Err
invariant_of-self-in-Err c =
    let usable : IsTrue c.self.inside.usable = subst (λ b. IsTrue b) (sym (ap (λ (s : TextState). s.usable) c.self.view_is)) c.requires.usable in
    let before = c.self.invariant usable in
    let tree = c.self.inside.tree in
    let old = c.self.inside.intervals.state in
    λ t. record {
      parts = refused-sound tree c.take_interval.new.tree old c.take_interval.new.intervals.state c.args.op.now
          (is_shown (text_elements tree) (name_in c.args.op.now) (placed tree.refs old)) (len (seen_in (at_stage c.args.first)) (text_elements tree)) c.in-Err.fault
          c.is_refusal-self-inside.result c.is_refusal-self-inside.ensures c.in-Err.ensures.refused before.parts t;
      stands = refused-stands tree c.take_interval.new.tree c.self.inside.intervals c.take_interval.new.intervals c.args.op.now
          (is_shown (text_elements tree) (name_in c.args.op.now) (placed tree.refs old)) (len (seen_in (at_stage c.args.first)) (text_elements tree)) c.in-Err.fault
          c.is_refusal-self-inside.result c.is_refusal-self-inside.ensures c.in-Err.ensures.refused c.in-Err.ensures.indexes before.stands t;
      again = before.again;
      ahead = before.ahead;
    }

pub returns-in-Err : goal.returns-in-Err
returns-in-Err c =
    let usable : IsTrue c.self.inside.usable = subst (λ b. IsTrue b) (sym (ap (λ (s : TextState). s.usable) c.self.view_is)) c.requires.usable in
    let tree = c.self.inside.tree in
    let old = c.self.inside.intervals.state in
    let ops = c.self.inside.again.items ++ c.self.inside.ops.items in
    let shown = is_shown (text_elements tree) (name_in c.args.op.now) (placed tree.refs old) in
    let count = len (seen_in (at_stage c.args.first)) (text_elements tree) in
    rw (c.edit_fault.ensures)
    (record {
      answers = λ doc stages sound holds.
          interval-refused c.args.first c.requires.some tree old ops c.self.inside.given c.self.inside.usable c.args.op.now c.requires.kind c.first_stage-first.ensures.names
          doc stages sound (subst (λ s. HoldsText s doc stages) (sym c.self.view_is) holds) c.args.self.now
          (IsAsBefore old c.take_interval.new.intervals.state tree c.take_interval.new.tree) c.in-Err.fault c.in-Err.ensures.refused;
      leaves =
          rw (sym c.self.view_is)
          (interval-leaves tree c.take_interval.new.tree old c.take_interval.new.intervals.state ops c.self.inside.given c.self.inside.usable c.is_refusal-self-inside.result
          c.args.op.now shown count c.in-Err.fault usable c.is_refusal-self-inside.ensures c.in-Err.ensures.refused);
      rest = tt;
    })
