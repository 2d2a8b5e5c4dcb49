use Rattle.std.proofs.Common.{ℕ, is_some, sym, ◌∙◌, ap, subst}
use Rattle.ft_block.specs.declared.leaves.LenView.TheVariants.{At}
use Rattle.ft_op.specs.Document.{ends_of}
use Rattle.ft_tree_leaves.specs.Elements.{seen_in}
use Rattle.ft_interval_store.specs.declared.intervals.EndPair.{EndPair}
use Rattle.ft_interval_store.specs.Ends.{map_ends, places_of_given, slid_end}
use Rattle.ft_interval_store.specs.State.{AreOwnEnds, KeepsReferences, placed, text_elements, with_effect}
use Rattle.ft_interval.specs.State.{IndexedState, StandsOn}
use Rattle.ft_interval.proofs.Effects.{live-applied, out-applied, own-applied, within-applied}
use Rattle.ft_interval.proofs.collections.Collections.apply.Goals as goal

pub unlist_changed-requires-clause-live : goal.unlist_changed-requires-clause-live
unlist_changed-requires-clause-live c = (subst (λ (x : IndexedState). StandsOn c.args.tree.now x) (sym c.self.view_is) c.requires.stands).live

pub unlist_changed-requires-clause-listed : goal.unlist_changed-requires-clause-listed
unlist_changed-requires-clause-listed c = (subst (λ (x : IndexedState). StandsOn c.args.tree.now x) (sym c.self.view_is) c.requires.stands).listed

pub apply-requires-clause-live : goal.apply-requires-clause-live
apply-requires-clause-live c = (subst (λ (x : IndexedState). StandsOn c.args.tree.now x) (sym c.self.view_is) c.requires.stands).live

pub enlist_changed-requires-clause-live : goal.enlist_changed-requires-clause-live
enlist_changed-requires-clause-live c =
    let s = subst (λ (x : IndexedState). StandsOn c.args.tree.now x) (sym c.self.view_is) c.requires.stands in
    let xs = text_elements c.args.tree.now in
    let places = places_of_given (seen_in (At c.args.at)) xs (ends_of c.args.op.now) in
    live-applied c.args.tree.now c.apply.new.tree c.self.inside.store c.apply.new.self c.args.op.now c.self.inside.indexes
    c.unlist_changed.new.indexes c.first_stage-first.ensures.names
    c.in_ok-now.ensures.rest s.listed c.unlist_changed.ensures (is_some c.in_ok-now.now) places c.in_ok-now.ensures.effect
    c.in_ok-now.ensures.after c.in_ok-now.ensures.misfit c.in_ok-now.ensures.refs s.live

pub enlist_changed-requires-clause-listed : goal.enlist_changed-requires-clause-listed
enlist_changed-requires-clause-listed c =
    let s = subst (λ (x : IndexedState). StandsOn c.args.tree.now x) (sym c.self.view_is) c.requires.stands in
    let xs = text_elements c.args.tree.now in
    let places = places_of_given (seen_in (At c.args.at)) xs (ends_of c.args.op.now) in
    out-applied c.args.tree.now c.apply.new.tree c.self.inside.store c.apply.new.self c.args.op.now c.self.inside.indexes
    c.unlist_changed.new.indexes c.first_stage-first.ensures.names
    c.in_ok-now.ensures.rest s.listed c.unlist_changed.ensures (is_some c.in_ok-now.now) places c.in_ok-now.ensures.effect c.in_ok-now.ensures.after c.in_ok-now.ensures.misfit

pub enlist_changed-requires-clause-within : goal.enlist_changed-requires-clause-within
enlist_changed-requires-clause-within c =
    let s = subst (λ (x : IndexedState). StandsOn c.args.tree.now x) (sym c.self.view_is) c.requires.stands in
    let xs = text_elements c.args.tree.now in
    let places = places_of_given (seen_in (At c.args.at)) xs (ends_of c.args.op.now) in
    within-applied c.args.tree.now c.apply.new.tree c.self.inside.store c.apply.new.self c.args.op.now c.self.inside.indexes
    c.unlist_changed.new.indexes c.first_stage-first.ensures.names
    c.in_ok-now.ensures.rest s.listed c.unlist_changed.ensures (is_some c.in_ok-now.now) places c.in_ok-now.ensures.effect c.in_ok-now.ensures.after c.in_ok-now.ensures.misfit

pub enlist_changed-requires-clause-ends : goal.enlist_changed-requires-clause-ends
enlist_changed-requires-clause-ends c =
    subst (λ (e : EndPair ℕ). AreOwnEnds c.args.op.now c.apply.new.self.acked e) (sym c.unwrap_or-ends.ensures)
    (own-applied c.args.tree.now c.apply.new.tree c.self.inside.store c.apply.new.self c.args.op.now c.in_ok-now.now c.find-found.result.ends
    c.in_ok-now.ensures.ends c.in_ok-now.ensures.misfit c.find-found.ensures.ends)

pub returns-clause-stands : goal.returns-clause-stands
returns-clause-stands c =
    let s = subst (λ (x : IndexedState). StandsOn c.args.tree.now x) (sym c.self.view_is) c.requires.stands in
    let xs = text_elements c.args.tree.now in
    let places = places_of_given (seen_in (At c.args.at)) xs (ends_of c.args.op.now) in
    record {
      live = live-applied c.args.tree.now c.apply.new.tree c.self.inside.store c.apply.new.self c.args.op.now c.self.inside.indexes
          c.unlist_changed.new.indexes c.first_stage-first.ensures.names
          c.in_ok-now.ensures.rest s.listed c.unlist_changed.ensures (is_some c.in_ok-now.now) places c.in_ok-now.ensures.effect
          c.in_ok-now.ensures.after c.in_ok-now.ensures.misfit c.in_ok-now.ensures.refs s.live;
      listed = c.in-Ok.ensures;
    }

pub returns-clause-effect : goal.returns-clause-effect
returns-clause-effect c = λ e.
    let xs = text_elements c.args.tree.now in
    let places = places_of_given (seen_in (At c.args.at)) xs (ends_of c.args.op.now) in
    c.in_ok-now.ensures.effect (sym c.is_some-fits.ensures ∙ e)
    ∙ ap (λ (x : IndexedState). with_effect c.args.op.now (map_ends (slid_end xs) places) (placed c.args.tree.now.refs x.state)) c.self.view_is

pub returns-clause-refs : goal.returns-clause-refs
returns-clause-refs c = λ e.
    subst (λ (x : IndexedState). KeepsReferences x.state c.apply.new.self c.args.tree.now.refs c.apply.new.tree.refs) c.self.view_is
    (c.in_ok-now.ensures.refs (sym c.is_some-fits.ensures ∙ e))

pub returns-clause-misfit : goal.returns-clause-misfit
returns-clause-misfit c = λ e.
    let m = c.in_ok-now.ensures.misfit (sym c.is_some-fits.ensures ∙ e) in
    (m.0 ∙ ap (λ (x : IndexedState). x.state) c.self.view_is, m.1)
