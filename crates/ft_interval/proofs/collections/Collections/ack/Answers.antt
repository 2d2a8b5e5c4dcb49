use Rattle.std.proofs.Common.{length, sym, ◌∙◌, ap, subst}
use Rattle.std.specs.Prelude.{option_copied}
use Rattle.ft_op.specs.declared.operations.TextOp.{TextOp}
use Rattle.ft_interval_store.specs.Ends.{map_ends, slid_end}
use Rattle.ft_interval_store.specs.Intervals.{place_of_operation}
use Rattle.ft_interval_store.specs.State.{IsFirst, KeepsReferences, placed, text_elements, with_first_acked}
use Rattle.ft_interval_index.specs.Indexes.{AreListed, ends_but}
use Rattle.ft_interval.specs.State.{IndexedState, StandsOn}
use Rattle.ft_interval.proofs.Effects.{first-there, out-after, same-first, takes-first, within-after}
use Rattle.ft_interval.proofs.collections.Collections.ack.Goals as goal

pub unreachable-requires : goal.unreachable-requires
unreachable-requires c =
    first-there c.args.stage c.self.inside.store.acked c.self.inside.store.pending (sym c.first_operation.ensures ∙ ap option_copied c.in_default.is)
    (subst (λ (x : IndexedState). IsFirst c.args.stage x.state) (sym c.self.view_is) c.requires.first)

pub unlist_changed-requires-clause-live : goal.unlist_changed-requires-clause-live
unlist_changed-requires-clause-live c = (subst (λ (x : IndexedState). StandsOn c.args.tree.now x) (sym c.self.view_is) c.requires.stands).live

pub unlist_changed-requires-clause-listed : goal.unlist_changed-requires-clause-listed
unlist_changed-requires-clause-listed c = (subst (λ (x : IndexedState). StandsOn c.args.tree.now x) (sym c.self.view_is) c.requires.stands).listed

pub ack-requires-clause-live : goal.ack-requires-clause-live
ack-requires-clause-live c = (subst (λ (x : IndexedState). StandsOn c.args.tree.now x) (sym c.self.view_is) c.requires.stands).live

pub ack-requires-clause-found : goal.ack-requires-clause-found
ack-requires-clause-found c = λ op h.
    let same = same-first c.self.inside.store.pending c.in-Some.op.now op (sym c.first_operation.ensures ∙ ap option_copied c.in-Some.is) h in
    c.find-found.ensures.place ∙ ap (λ (x : TextOp). place_of_operation x c.self.inside.store.acked) same

pub enlist_changed-requires-clause-live : goal.enlist_changed-requires-clause-live
enlist_changed-requires-clause-live c = c.in_ok-acked.ensures.refs.live

pub enlist_changed-requires-clause-listed : goal.enlist_changed-requires-clause-listed
enlist_changed-requires-clause-listed c =
    let s = subst (λ (x : IndexedState). StandsOn c.args.tree.now x) (sym c.self.view_is) c.requires.stands in
    let xs = text_elements c.args.tree.now in
    let o = c.in_ok-acked.acked.op in
    let same = same-first c.self.inside.store.pending c.in-Some.op.now o (sym c.first_operation.ensures ∙ ap option_copied c.in-Some.is) c.in_ok-acked.ensures.op in
    let out = subst (λ (x : TextOp). AreListed (length xs) c.args.tree.now.refs (ends_but x c.self.inside.store.acked) c.unlist_changed.new.indexes)
    same
    c.unlist_changed.ensures in
    let first = takes-first o (map_ends (slid_end xs)) c.args.tree.now.refs c.ack.new.tree.refs c.self.inside.store c.ack.new.self
    c.in_ok-acked.ensures.op c.in_ok-acked.ensures.after
    c.in_ok-acked.ensures.effect in
    out-after c.args.tree.now c.ack.new.tree c.self.inside.store c.ack.new.self o c.self.inside.indexes c.unlist_changed.new.indexes
    c.first_stage-first.ensures.names c.in_ok-acked.ensures.rest s.listed out first.places first.taken first.effect

pub enlist_changed-requires-clause-within : goal.enlist_changed-requires-clause-within
enlist_changed-requires-clause-within c =
    let s = subst (λ (x : IndexedState). StandsOn c.args.tree.now x) (sym c.self.view_is) c.requires.stands in
    let xs = text_elements c.args.tree.now in
    let o = c.in_ok-acked.acked.op in
    let same = same-first c.self.inside.store.pending c.in-Some.op.now o (sym c.first_operation.ensures ∙ ap option_copied c.in-Some.is) c.in_ok-acked.ensures.op in
    let out = subst (λ (x : TextOp). AreListed (length xs) c.args.tree.now.refs (ends_but x c.self.inside.store.acked) c.unlist_changed.new.indexes)
    same
    c.unlist_changed.ensures in
    let first = takes-first o (map_ends (slid_end xs)) c.args.tree.now.refs c.ack.new.tree.refs c.self.inside.store c.ack.new.self
    c.in_ok-acked.ensures.op c.in_ok-acked.ensures.after
    c.in_ok-acked.ensures.effect in
    within-after c.args.tree.now c.ack.new.tree c.self.inside.store c.ack.new.self o c.self.inside.indexes c.unlist_changed.new.indexes
    c.first_stage-first.ensures.names c.in_ok-acked.ensures.rest s.listed out first.places first.taken first.effect

pub enlist_changed-requires-clause-ends : goal.enlist_changed-requires-clause-ends
enlist_changed-requires-clause-ends c = c.in_ok-acked.ensures.ends

pub returns-clause-stands : goal.returns-clause-stands
returns-clause-stands c = record { live = c.in_ok-acked.ensures.refs.live; listed = c.in-Ok.ensures }

pub ack-requires-clause-first : goal.ack-requires-clause-first
ack-requires-clause-first c = subst (λ (x : IndexedState). IsFirst c.args.stage x.state) (sym c.self.view_is) c.requires.first

pub returns-clause-effect : goal.returns-clause-effect
returns-clause-effect c =
    c.in_ok-acked.ensures.effect
    ∙ ap (λ (x : IndexedState). with_first_acked (map_ends (slid_end (text_elements c.args.tree.now))) (placed c.args.tree.now.refs x.state)) c.self.view_is

pub returns-clause-refs : goal.returns-clause-refs
returns-clause-refs c =
    subst (λ (x : IndexedState). KeepsReferences x.state c.ack.new.self c.args.tree.now.refs c.ack.new.tree.refs) c.self.view_is c.in_ok-acked.ensures.refs
