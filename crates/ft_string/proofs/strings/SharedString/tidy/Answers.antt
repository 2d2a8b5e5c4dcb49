use Rattle.std.proofs.Common.{◌++◌, IsTrue, true, ap, subst, sym}
use Rattle.ft_tree_leaves.specs.declared.text.TextContent.{TextContent}
use Rattle.ft_tree_leaves.specs.TextLeaves.{text_units}
use Rattle.ft_string.specs.Holds.{HoldsText}
use Rattle.ft_string.specs.State.{TextState}
use Rattle.ft_zamboni.specs.Scours.{swept}
use Rattle.ft_zamboni.proofs.SweptElements.{swept-go, swept-list}
use Rattle.ft_string.proofs.Compacted.{compacted-stands, compacts-text, text-clear}
use Rattle.ft_string.proofs.Documents.{moved-sound}
use Rattle.ft_string.proofs.strings.SharedString.tidy.Goals as goal

pub scour-requires-clause-clear : goal.scour-requires-clause-clear
scour-requires-clause-clear c =
    let a = c.self.inside in
    let h = c.requires.held.1 in
    let usable = subst (λ b. IsTrue b) (sym (ap (λ (s : TextState). s.usable) c.self.view_is)) c.requires.usable in
    text-clear a.tree a.intervals.state (a.again.items ++ a.ops.items) a.given a.usable c.args.floor c.requires.held.0 h.doc h.stages (c.self.invariant usable).parts h.sound
    (subst (λ s. HoldsText s h.doc h.stages) (sym c.self.view_is) h.holds) h.free

pub invariant_of-self-2 : goal.invariant_of-self-2
invariant_of-self-2 c =
    let a = c.self.inside in
    let usable = subst (λ b. IsTrue b) (sym (ap (λ (s : TextState). s.usable) c.self.view_is)) c.requires.usable in
    let before = c.self.invariant usable in
    let e = c.in_ok-scour.ensures in
    let h = c.requires.held.1 in
    let by = λ (x : TextContent). x.by in
    λ t. record {
      parts = moved-sound a.tree c.scour.new.tree a.intervals.state _ e.refs e.usable before.parts;
      stands = compacted-stands a.tree c.scour.new.tree a.intervals (a.again.items ++ a.ops.items) a.given a.usable c.args.floor
          c.requires.held.0 h.doc h.stages before.parts h.sound
          (subst (λ s. HoldsText s h.doc h.stages) (sym c.self.view_is) h.holds) h.free (swept text_units by c.args.floor c.args.budget a.tree.leaves a.tree.sweep)
          (swept-go text_units by c.args.floor c.args.budget a.tree.leaves a.tree.sweep) (swept-list text_units by c.args.floor c.args.budget a.tree.leaves a.tree.sweep)
          e.elements e.refs before.stands;
      again = before.again;
      ahead = before.ahead;
    }

pub returns-clause-compacts : goal.returns-clause-compacts
returns-clause-compacts c last doc stages sound holds free =
    let a = c.self.inside in
    let usable = subst (λ b. IsTrue b) (sym (ap (λ (s : TextState). s.usable) c.self.view_is)) c.requires.usable in
    let e = c.in_ok-scour.ensures in
    let by = λ (x : TextContent). x.by in
    compacts-text a.tree a.intervals.state (a.again.items ++ a.ops.items) a.given a.usable c.args.floor last doc stages (c.self.invariant usable).parts
    sound (subst (λ s. HoldsText s doc stages) (sym c.self.view_is) holds) free c.scour.new.tree a.given true
    (swept text_units by c.args.floor c.args.budget a.tree.leaves a.tree.sweep) (swept-go text_units by c.args.floor c.args.budget a.tree.leaves a.tree.sweep)
    (swept-list text_units by c.args.floor c.args.budget a.tree.leaves a.tree.sweep) e.elements e.refs e.made
