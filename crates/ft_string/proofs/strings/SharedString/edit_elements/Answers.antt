use Rattle.std.proofs.Common.{◌-◌, ap, ◌∙◌, subst, sym, IsTrue, ◌++◌, append_assoc, is_ok, rules}
use Rattle.ft_changes.specs.Listeners.{heard}
use Rattle.ft_text.specs.Lengths.{count_after_all}
use Rattle.ft_string.specs.Edits.{seen_count}
use Rattle.ft_string.specs.Holds.{HoldsSome, HoldsText}
use Rattle.ft_string.specs.Parts.{noted}
use Rattle.ft_string.specs.State.{TextState}
use Rattle.ft_string.proofs.Edited.{edit-above, edit-refused, edit-whole, refused-leaves, took-ahead, took-floor, took-sound}
use Rattle.ft_string.proofs.StandingIndexes.{took-stands}
use Rattle.ft_string.proofs.ToldTexts.{told-own-whole}
use Rattle.ft_string.proofs.strings.SharedString.edit_elements.Goals as goal

pub returns-in-Err-clause-answers : goal.returns-in-Err-clause-answers
returns-in-Err-clause-answers g c doc stages sound holds =
    edit-refused c.args.first c.requires.some c.args.ops.now c.requires.formed c.self.inside.tree c.self.inside.intervals.state
    (c.self.inside.again.items ++ c.self.inside.ops.items) c.self.inside.given c.self.inside.usable c.args.self.now c.in-Err.fault
    (λ some. ap (λ (s : TextState). count_after_all (seen_count s) c.args.ops.now) c.self.view_is ∙ c.in-Err.ensures.refused some) doc stages sound
    (subst (λ s. HoldsText s doc stages) (sym c.self.view_is) holds)

pub returns-in-Err-clause-leaves : goal.returns-in-Err-clause-leaves
returns-in-Err-clause-leaves g c =
    refused-leaves c.args.self.now (seen_count c.args.self.now) c.args.ops.now c.in-Err.fault c.in-Err.ensures.refused (search rules)

pub take_all-requires-clause-above : goal.take_all-requires-clause-above
take_all-requires-clause-above g c =
    edit-above c.args.first c.requires.some c.self.inside.tree c.self.inside.intervals.state (c.self.inside.again.items ++ c.self.inside.ops.items) c.self.inside.given
    c.self.inside.usable (subst (λ s. HoldsSome (c.args.first - 1) s) (sym c.self.view_is) c.requires.held)

pub invariant_of-self : goal.invariant_of-self
invariant_of-self g c =
    let usable : IsTrue c.self.inside.usable = subst (λ b. IsTrue b) (sym (ap (λ (s : TextState). s.usable) c.self.view_is)) c.requires.usable in
    let before = c.self.invariant usable in
    let none = ap (λ (s : TextState). s.given) c.self.view_is ∙ c.requires.none_given in
    λ t. record {
      parts = took-sound c.args.first c.args.ops.now c.self.inside.tree c.take_all.new.tree c.self.inside.intervals.state c.in-Ok-take_all.ensures.taken before.parts;
      stands = took-stands c.args.first c.args.ops.now c.self.inside.tree c.take_all.new.tree c.self.inside.intervals c.in-Ok-take_all.ensures.taken before.stands;
      again = before.again;
      ahead = took-ahead c.self.inside.given c.args.first none c.requires.some c.args.ops.now c.self.inside.ops.items
          c.take_all.new.pending.items c.in-Ok-take_all.ensures.noted before.ahead;
    }

pub returns-in-Ok-take_all-clause-answers : goal.returns-in-Ok-take_all-clause-answers
returns-in-Ok-take_all-clause-answers g c doc stages sound holds =
    let usable : IsTrue c.self.inside.usable = subst (λ b. IsTrue b) (sym (ap (λ (s : TextState). s.usable) c.self.view_is)) c.requires.usable in
    let before = c.self.invariant usable in
    let again = c.self.inside.again.items in
    edit-whole c.args.first c.requires.some c.args.ops.now c.requires.formed c.in-Ok.ensures.stages c.self.inside.tree c.take_all.new.tree c.self.inside.intervals.state
    (again ++ c.self.inside.ops.items) (again ++ c.take_all.new.pending.items) c.self.inside.given c.self.inside.usable before.parts
    (ap (λ ps. again ++ ps) c.in-Ok-take_all.ensures.noted ∙ sym (append_assoc again c.self.inside.ops.items (noted c.args.first c.args.ops.now)))
    (ap (λ (s : TextState). is_ok (count_after_all (seen_count s) c.args.ops.now)) c.self.view_is ∙ c.in-Ok.ensures.fits) c.in-Ok-take_all.ensures.taken doc stages sound
    (subst (λ s. HoldsText s doc stages) (sym c.self.view_is) holds)

pub returns-in-Ok-take_all-clause-rest : goal.returns-in-Ok-take_all-clause-rest
returns-in-Ok-take_all-clause-rest g c = record {
  floor = took-floor c.args.first c.args.ops.now c.self.inside.tree c.take_all.new.tree c.in-Ok-take_all.ensures.taken ∙ ap (λ (s : TextState). s.floor) c.self.view_is;
  given = ap (λ (s : TextState). s.given) c.self.view_is;
  usable = sym c.requires.usable;
}

pub returns-in-Ok-take_all-clause-told : goal.returns-in-Ok-take_all-clause-told
returns-in-Ok-take_all-clause-told g c doc stages sound holds =
    let usable : IsTrue c.self.inside.usable = subst (λ b. IsTrue b) (sym (ap (λ (s : TextState). s.usable) c.self.view_is)) c.requires.usable in
    let before = c.self.invariant usable in
    c.in-Ok-take_all.ensures.told
    ∙ ap (heard c.args.listener.now)
    (told-own-whole c.args.first c.requires.some c.args.ops.now c.requires.formed c.in-Ok.ensures.stages c.self.inside.tree c.take_all.new.tree
    c.self.inside.intervals.state (c.self.inside.again.items ++ c.self.inside.ops.items) c.self.inside.given c.self.inside.usable before.parts
    (ap (λ (s : TextState). is_ok (count_after_all (seen_count s) c.args.ops.now)) c.self.view_is ∙ c.in-Ok.ensures.fits)
    c.in-Ok-take_all.ensures.taken doc stages sound
    (subst (λ s. HoldsText s doc stages) (sym c.self.view_is) holds))
