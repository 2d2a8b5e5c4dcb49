use Rattle.std.proofs.Common.{◌≡◌, ◌∙◌, IsTrue, List, [], ap, length, refl, subst, sym, true}
use Rattle.std.proofs.lemmas.Result.{IfOk-weaker}
use Rattle.ft_base.proofs.Results.{whenever}
use Rattle.ft_interval.specs.State.{IndexedState}
use Rattle.ft_interval_store.specs.State.{text_elements}
use Rattle.ft_tree_leaves.specs.declared.text.TextContent.{TextContent}
use Rattle.ft_msg.specs.Summary.{doc_of}
use Rattle.ft_sumdoc.specs.declared.summary.IntervalRec.{IntervalRec}
use Rattle.ft_sumdoc.specs.declared.summary.SegRec.{SegRec}
use Rattle.ft_sumdoc.specs.Forms.{rises}
use Rattle.ft_sumdoc.specs.Valid.{is_interval_before}
use Rattle.ft_tree.specs.State.{TreeState}
use Rattle.ft_text.specs.Texts.{TextElements}
use Rattle.ft_string.specs.Holds.{HoldsText}
use Rattle.ft_string.specs.Loads.{AllFitOn, HasIntervals, summary_elements}
use Rattle.ft_string.specs.Parts.{AreSound, state_of}
use Rattle.ft_string.proofs.LoadedTexts.{filled, summary-fits, summary-held}
use Rattle.ft_string.proofs.summaries.fill.Goals as goal

pub append_all-requires : goal.append_all-requires
append_all-requires c = subst (λ b. IsTrue b) (sym (ap (λ (t : TreeState TextContent). t.usable) c.requires.none)) refl

pub intervals_on-requires-clause-usable : goal.intervals_on-requires-clause-usable
intervals_on-requires-clause-usable c = (filled (summary_elements c.as_slice.result.now) c.args.tree.now c.append_all.new.tree c.requires.none c.in_ok-append_all.ensures).usable

pub intervals_on-requires-clause-floor : goal.intervals_on-requires-clause-floor
intervals_on-requires-clause-floor c = (filled (summary_elements c.as_slice.result.now) c.args.tree.now c.append_all.new.tree c.requires.none c.in_ok-append_all.ensures).floor

pub intervals_on-requires-clause-bare : goal.intervals_on-requires-clause-bare
intervals_on-requires-clause-bare c = (filled (summary_elements c.as_slice.result.now) c.args.tree.now c.append_all.new.tree c.requires.none c.in_ok-append_all.ensures).bare

pub intervals_on-requires-clause-rise : goal.intervals_on-requires-clause-rise
intervals_on-requires-clause-rise c = ap (rises is_interval_before) c.as_slice-2.ensures ∙ c.requires.valid.names

pub intervals_on-requires-clause-fit : goal.intervals_on-requires-clause-fit
intervals_on-requires-clause-fit c =
    let sum = c.args.doc.now in
    let made = filled (summary_elements c.as_slice.result.now) c.args.tree.now c.append_all.new.tree c.requires.none c.in_ok-append_all.ensures in
    subst (λ (recs : List IntervalRec). AllFitOn (text_elements c.append_all.new.tree) recs) (sym c.as_slice-2.ensures)
    (subst (λ (xs : TextElements). AllFitOn xs sum.intervals) (sym (made.elements ∙ ap summary_elements c.as_slice.ensures)) (summary-fits sum c.requires.valid))

pub returns-clause-holds : goal.returns-clause-holds
returns-clause-holds c =
    let sum = c.args.doc.now in
    let tree = c.append_all.new.tree in
    let made = filled (summary_elements c.as_slice.result.now) c.args.tree.now tree c.requires.none c.in_ok-append_all.ensures in
    let elements = made.elements ∙ ap summary_elements c.as_slice.ensures in
    let count = made.made ∙ ap (λ (segs : List SegRec). length (summary_elements segs)) c.as_slice.ensures in
    IfOk-weaker c.intervals_on.result (λ (s : IndexedState). HasIntervals c.as_slice-2.result.now tree c.intervals_on.new.tree s.state)
    (λ (s : IndexedState). HoldsText (state_of c.intervals_on.new.tree s.state [] 0 true) (doc_of sum) [])
    (λ s has. summary-held sum c.requires.valid tree c.intervals_on.new.tree s.state elements count
    (subst (λ (recs : List IntervalRec). HasIntervals recs tree c.intervals_on.new.tree s.state) c.as_slice-2.ensures has)) c.intervals_on.ensures.has

pub returns-clause-sound : goal.returns-clause-sound
returns-clause-sound c =
    IfOk-weaker c.intervals_on.result (λ (s : IndexedState). HasIntervals c.as_slice-2.result.now c.append_all.new.tree c.intervals_on.new.tree s.state)
    (λ (s : IndexedState). AreSound c.intervals_on.new.tree s.state) (λ s has. has.sound) c.intervals_on.ensures.has

pub returns-clause-stands : goal.returns-clause-stands
returns-clause-stands c = c.intervals_on.ensures.stands

pub returns-clause-floor : goal.returns-clause-floor
returns-clause-floor c =
    let made = filled (summary_elements c.as_slice.result.now) c.args.tree.now c.append_all.new.tree c.requires.none c.in_ok-append_all.ensures in
    whenever c.intervals_on.result (c.intervals_on.new.tree.floor ≡ 0)
    (λ (s : IndexedState). HasIntervals c.as_slice-2.result.now c.append_all.new.tree c.intervals_on.new.tree s.state)
    (λ s has. ap (λ (t : TreeState TextContent). t.floor) has.leaves ∙ made.floor) c.intervals_on.ensures.has
