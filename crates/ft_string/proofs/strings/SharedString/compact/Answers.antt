use Rattle.std.proofs.Common.{◌++◌, IsTrue, true, ap, subst, sym}
use Rattle.ft_string.specs.Holds.{HoldsText}
use Rattle.ft_string.specs.State.{TextState}
use Rattle.ft_interval_store.specs.State.{text_elements}
use Rattle.ft_string.proofs.Compacted.{compacted-all-stands, compacts-all, shows-none, text-clear}
use Rattle.ft_string.proofs.Documents.{moved-sound}
use Rattle.ft_string.proofs.strings.SharedString.compact.Goals as goal

pub scour_all-requires-clause-clear : goal.scour_all-requires-clause-clear
scour_all-requires-clause-clear c =
    let a = c.self.inside in
    let h = c.requires.held.1 in
    let usable = subst (λ b. IsTrue b) (sym (ap (λ (s : TextState). s.usable) c.self.view_is)) c.requires.usable in
    text-clear a.tree a.intervals.state (a.again.items ++ a.ops.items) a.given a.usable c.args.floor c.requires.held.0 h.doc h.stages (c.self.invariant usable).parts h.sound
    (subst (λ s. HoldsText s h.doc h.stages) (sym c.self.view_is) h.holds) h.free

pub invariant_of-self-2 : goal.invariant_of-self-2
invariant_of-self-2 c =
    let a = c.self.inside in
    let usable = subst (λ b. IsTrue b) (sym (ap (λ (s : TextState). s.usable) c.self.view_is)) c.requires.usable in
    let before = c.self.invariant usable in
    let e = c.in_ok-scour_all.ensures in
    let h = c.requires.held.1 in
    λ t. record {
      parts = moved-sound a.tree c.scour_all.new.tree a.intervals.state _ e.refs e.usable before.parts;
      stands = compacted-all-stands a.tree c.scour_all.new.tree a.intervals.state (a.again.items ++ a.ops.items) a.given a.given a.usable
          true c.args.floor c.requires.held.0 h.doc h.stages
          before.parts h.sound (subst (λ s. HoldsText s h.doc h.stages) (sym c.self.view_is) h.holds) h.free e.elements e.refs e.made a.intervals.indexes before.stands;
      again = before.again;
      ahead = before.ahead;
    }

pub returns-clause-compacts : goal.returns-clause-compacts
returns-clause-compacts c last doc stages sound holds free =
    let a = c.self.inside in
    let usable = subst (λ b. IsTrue b) (sym (ap (λ (s : TextState). s.usable) c.self.view_is)) c.requires.usable in
    let e = c.in_ok-scour_all.ensures in
    compacts-all a.tree c.scour_all.new.tree a.intervals.state (a.again.items ++ a.ops.items) a.given a.given a.usable true c.args.floor
    last doc stages (c.self.invariant usable).parts
    sound (subst (λ s. HoldsText s doc stages) (sym c.self.view_is) holds) free e.elements e.refs e.made

pub returns-clause-none : goal.returns-clause-none
returns-clause-none c = shows-none c.args.floor (text_elements c.scour_all.new.tree) c.in_ok-scour_all.ensures.none
