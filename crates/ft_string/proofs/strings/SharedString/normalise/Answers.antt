use Rattle.std.proofs.Common.{◌∙◌, ◌++◌, ◌≤◌, ◌<◌, All, IsTrue, [], true, ap, subst, sym}
use Rattle.std.proofs.lemmas.List.Elements.{All-nil}
use Rattle.ft_string.specs.Calls.{HoldsAllGiven, HoldsGiven, HoldsRejoined}
use Rattle.ft_string.specs.Parts.{state_of}
use Rattle.ft_string.specs.State.{TextState}
use Rattle.ft_string.specs.declared.pending.PendingOp.{PendingOp}
use Rattle.std.specs.declared.collections.VecDeque.{VecDeque}
use Rattle.std.proofs.Common.{Global}
use Rattle.ft_string.proofs.Documents.{moved-sound}
use Rattle.ft_string.proofs.Normalised.{given-side, given-up_to, rejoined-ahead, rejoined-stands, rejoined-whole}
use Rattle.ft_string.proofs.strings.SharedString.normalise.Goals as goal

pub normalise-requires-clause-side : goal.normalise-requires-clause-side
normalise-requires-clause-side c =
    let a = c.self.inside in
    let h = c.requires.held.1 in
    given-side a.tree a.tree a.intervals.state (a.again.items ++ a.ops.items) a.given a.given a.usable a.usable c.requires.held.0 h.doc h.stages h.sound
    (subst (λ s. HoldsGiven s h.doc h.stages []) (sym c.self.view_is) h.holds)

pub invariant_of-self-2 : goal.invariant_of-self-2
invariant_of-self-2 c =
    let a = c.self.inside in
    let all = a.again.items ++ a.ops.items in
    let last = c.requires.held.0 in
    let h = subst (λ s. HoldsAllGiven last s) (sym c.self.view_is) c.requires.held.1 in
    let before = c.self.invariant (subst (λ b. IsTrue b) (sym (ap (λ (s : TextState). s.usable) c.self.view_is)) c.requires.usable) in
    let e = c.in_ok-normalise.ensures in
    let up = given-up_to a.tree a.tree a.intervals.state all a.given a.given a.usable a.usable last h.doc h.stages h.sound h.holds in
    let moved = ap (λ (q : VecDeque PendingOp Global). q.items) c.swap.ensures.x_after ∙ c.in_ok-join.ensures.joined in
    let none = ap (λ (q : VecDeque PendingOp Global). q.items) c.swap.ensures.y_after ∙ c.in_ok-join.ensures.none in
    λ t. record {
      parts = moved-sound a.tree c.normalise.new.tree a.intervals.state _ (e.places last up) e.usable before.parts;
      stands = rejoined-stands a.tree c.normalise.new.tree a.intervals all a.given a.usable last h.doc h.stages h.sound h.holds
          (e.elements last up) (e.places last up) before.stands;
      again = subst (λ os. All (λ (t : PendingOp). t.stage ≤ 0) os) (sym none) (All-nil (λ (t : PendingOp). t.stage ≤ 0));
      ahead = subst (λ os. All (λ (t : PendingOp). 0 < t.stage) os) (sym moved) (rejoined-ahead last a.tree a.intervals.state all a.given a.usable h);
    }

pub returns-clause-holds : goal.returns-clause-holds
returns-clause-holds c last doc stages sound holds =
    let a = c.self.inside in
    let all = a.again.items ++ a.ops.items in
    let held = subst (λ s. HoldsGiven s doc stages []) (sym c.self.view_is) holds in
    let before = c.self.invariant (subst (λ b. IsTrue b) (sym (ap (λ (s : TextState). s.usable) c.self.view_is)) c.requires.usable) in
    let e = c.in_ok-normalise.ensures in
    let up = given-up_to a.tree a.tree a.intervals.state all a.given a.given a.usable a.usable last doc stages sound held in
    let moved = ap (λ (q : VecDeque PendingOp Global). q.items) c.swap.ensures.x_after ∙ c.in_ok-join.ensures.joined in
    let none = ap (λ (q : VecDeque PendingOp Global). q.items) c.swap.ensures.y_after ∙ c.in_ok-join.ensures.none in
    subst (λ os. HoldsRejoined (state_of c.normalise.new.tree a.intervals.state os 0 true) doc stages) (sym (ap (λ os. os ++ c.swap.new.x.items) none ∙ moved))
    (rejoined-whole a.tree c.normalise.new.tree a.intervals.state all a.given 0 a.usable true last doc stages sound held
    (e.elements last up) (e.places last up) e.made before.parts)
