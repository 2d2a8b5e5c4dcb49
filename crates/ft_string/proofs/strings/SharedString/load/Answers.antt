use Rattle.std.proofs.Common.{◌≡◌, ◌++◌, ◌∙◌, ◌≤◌, ◌<◌, All, [], List, ap, refl, subst, sym, true}
use Rattle.std.specs.Prelude.{OnOk}
use Rattle.std.proofs.lemmas.List.Elements.{All-nil}
use Rattle.std.proofs.lemmas.Result.{IfOk-at_ok}
use Rattle.ft_interval.specs.State.{IndexedState, StandsOn}
use Rattle.ft_tree_leaves.specs.declared.text.TextContent.{TextContent}
use Rattle.ft_laws_agreement.proofs.SummaryStarts.{summary-sound}
use Rattle.ft_msg.specs.Summary.{doc_of}
use Rattle.ft_tree.specs.State.{TreeState}
use Rattle.ft_string.specs.Holds.{HoldsText}
use Rattle.ft_string.specs.Parts.{AreSound, state_of}
use Rattle.ft_string.specs.declared.pending.PendingOp.{PendingOp}
use Rattle.ft_string.proofs.SoundTexts.{start-sound}
use Rattle.ft_string.proofs.strings.SharedString.load.Goals as goal

pub invariant_of-result : goal.invariant_of-result
invariant_of-result c usable =
    let e = c.in_ok-intervals.ensures in
    let filled = c.fill-intervals.ensures in
    let tree = c.fill-intervals.new.tree in
    let made = c.in_ok-intervals.intervals in
    record {
      parts = subst (λ (t : TreeState TextContent). AreSound t made.state) (sym e.value) (IfOk-at_ok (λ (s : IndexedState). AreSound tree s.state) e.made filled.sound);
      stands = subst (λ (t : TreeState TextContent). StandsOn t made) (sym e.value) (IfOk-at_ok (λ (s : IndexedState). StandsOn tree s) e.made filled.stands);
      again = subst (λ (ts : List PendingOp). All (λ (t : PendingOp). t.stage ≤ 0) ts) (sym c.new-2.ensures.items) (All-nil (λ (t : PendingOp). t.stage ≤ 0));
      ahead = subst (λ (ts : List PendingOp). All (λ (t : PendingOp). 0 < t.stage) ts) (sym c.new.ensures.items) (All-nil (λ (t : PendingOp). 0 < t.stage));
    }

pub returns : goal.returns
returns c =
    let sum = c.args.doc.now in
    let e = c.in_ok-intervals.ensures in
    let filled = c.fill-intervals.ensures in
    let tree = c.fill-intervals.new.tree in
    let made = c.in_ok-intervals.intervals in
    let none = ap (λ (ts : List PendingOp). ts ++ c.new.result.items) c.new-2.ensures.items ∙ c.new.ensures.items in
    let held = subst (λ (ts : List PendingOp). HoldsText (state_of c.in_ok-intervals.tree made.state ts 0 true) (doc_of sum) []) (sym none)
    (subst (λ (t : TreeState TextContent). HoldsText (state_of t made.state [] 0 true) (doc_of sum) []) (sym e.value)
    (IfOk-at_ok (λ (s : IndexedState). HoldsText (state_of tree s.state [] 0 true) (doc_of sum) []) e.made filled.holds)) in
    record {
      holds = held;
      sound = record { doc = doc_of sum; stages = []; sound = start-sound (doc_of sum) (summary-sound sum c.requires); holds = held };
      floor = ap (λ (t : TreeState TextContent). t.floor) e.value ∙ subst (λ r. OnOk r (tree.floor ≡ 0)) e.made filled.floor;
      given = refl;
      usable = refl;
    }
