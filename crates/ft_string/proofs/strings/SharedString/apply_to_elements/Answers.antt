use Rattle.std.proofs.Common.{◌++◌, ◌∙◌, IsTrue, ap, subst, sym}
use Rattle.ft_changes.specs.Listeners.{heard}
use Rattle.ft_string.specs.Holds.{HoldsText}
use Rattle.ft_string.specs.State.{TextState}
use Rattle.ft_string.proofs.StandingIndexes.{tried-stands}
use Rattle.ft_string.proofs.ToldTexts.{told-whole}
use Rattle.ft_string.proofs.Wholes.{applied-whole, tried-floor, tried-sound}
use Rattle.ft_string.proofs.strings.SharedString.apply_to_elements.Goals as goal

pub invariant_of-self-2 : goal.invariant_of-self-2
invariant_of-self-2 g c =
    let usable : IsTrue c.self.inside.usable = subst (λ b. IsTrue b) (sym (ap (λ (s : TextState). s.usable) c.self.view_is)) c.requires.usable in
    let before = c.self.invariant usable in
    λ t. record {
      parts = tried-sound c.args.seq c.args.at c.args.ops.now c.in_ok-skipped.skipped c.self.inside.tree c.try_all.new.tree
          c.self.inside.intervals.state c.in_ok-skipped.ensures.tries before.parts;
      stands = tried-stands c.args.seq c.args.at c.args.ops.now c.in_ok-skipped.skipped c.self.inside.tree c.try_all.new.tree
          c.self.inside.intervals c.in_ok-skipped.ensures.tries before.parts
          before.stands;
      again = before.again;
      ahead = before.ahead;
    }

pub returns-clause-applied : goal.returns-clause-applied
returns-clause-applied g c last doc stages sound holds =
    let usable : IsTrue c.self.inside.usable = subst (λ b. IsTrue b) (sym (ap (λ (s : TextState). s.usable) c.self.view_is)) c.requires.usable in
    let before = c.self.invariant usable in
    applied-whole c.args.seq c.args.at c.args.ops.now c.in_ok-skipped.skipped c.self.inside.tree c.try_all.new.tree c.self.inside.intervals.state
    (c.self.inside.again.items ++ c.self.inside.ops.items) c.self.inside.given c.self.inside.usable before.parts c.in_ok-skipped.ensures.tries
    last doc stages sound
    (subst (λ s. HoldsText s doc stages) (sym c.self.view_is) holds)

pub returns-clause-rest : goal.returns-clause-rest
returns-clause-rest g c = record {
  floor = tried-floor c.args.seq c.args.at c.args.ops.now c.in_ok-skipped.skipped c.self.inside.tree c.try_all.new.tree c.in_ok-skipped.ensures.tries
      ∙ ap (λ (s : TextState). s.floor) c.self.view_is;
  given = ap (λ (s : TextState). s.given) c.self.view_is;
  usable = sym c.requires.usable;
}

pub returns-clause-told : goal.returns-clause-told
returns-clause-told g c last doc stages sound holds =
    let usable : IsTrue c.self.inside.usable = subst (λ b. IsTrue b) (sym (ap (λ (s : TextState). s.usable) c.self.view_is)) c.requires.usable in
    let before = c.self.invariant usable in
    c.in_ok-skipped.ensures.told
    ∙ ap (heard c.args.listener.now)
    (told-whole c.args.seq c.args.at c.args.ops.now c.in_ok-skipped.skipped c.self.inside.tree c.try_all.new.tree c.self.inside.intervals.state
    (c.self.inside.again.items ++ c.self.inside.ops.items) c.self.inside.given c.self.inside.usable before.parts c.in_ok-skipped.ensures.tries
    last doc stages sound
    (subst (λ s. HoldsText s doc stages) (sym c.self.view_is) holds))
