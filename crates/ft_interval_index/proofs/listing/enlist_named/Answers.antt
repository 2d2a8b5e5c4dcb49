use Rattle.std.proofs.Common.{ℕ, ◌≤◌, length, arith, sym, subst}
use Rattle.ft_interval_store.specs.declared.intervals.EndPair.{EndPair}
use Rattle.ft_interval_store.specs.Ends.{AreLiveEnds}
use Rattle.ft_interval_index.specs.Indexes.{AreAttached, Enlists, ends_without, index_of, list_in}
use Rattle.ft_interval_store.specs.State.{ends_of_name, text_elements}
use Rattle.ft_interval_store.proofs.AppliedEffect.{both-ok}
use Rattle.ft_interval_index.proofs.Listed.{items-placed}
use Rattle.ft_interval_index.proofs.ListedNames.{enlisted, fresh-name, known-more, live-ends-of, live-without, starts-once-in}
use Rattle.ft_interval_index.proofs.listing.enlist_named.Goals as goal

pub enlist-requires-clause-live : goal.enlist-requires-clause-live
enlist-requires-clause-live c =
    subst (λ (e : EndPair ℕ). AreLiveEnds c.args.tree.now.refs e) (sym c.requires.ends)
    (live-ends-of c.args.tree.now.refs c.args.store.now c.requires.live (c.args.label.now, c.args.id.now))

pub enlist-requires-clause-known : goal.enlist-requires-clause-known
enlist-requires-clause-known c = λ s e a.
    let tree = c.args.tree.now in
    let label = c.args.label.now in
    let n = length (text_elements tree) in
    let few : n ≤ 9223372036854775808 = (let fits = c.made-made.ensures.fits c.requires.usable in let small = c.made-made.ensures.small c.requires.usable in omega (arith, fits, small)) in
    let here = subst (λ (p : EndPair ℕ). AreAttached tree.refs p s e) c.requires.ends a in
    known-more tree n (ends_of_name (label, c.args.id.now) c.args.store.now.acked) s e (list_in (index_of label c.args.indexes.now)).items
    c.requires.usable few
    (live-ends-of tree.refs c.args.store.now c.requires.live (label, c.args.id.now)) here (c.requires.within s e here)
    (items-placed tree n (λ id. ends_without (label, c.args.id.now) c.args.store.now.acked (label, id)) (index_of label c.args.indexes.now)
    c.requires.usable
    (λ id. live-without tree.refs c.args.store.now c.requires.live (label, c.args.id.now) (label, id)) (c.requires.listed label) few)

pub enlist-requires-clause-order : goal.enlist-requires-clause-order
enlist-requires-clause-order c = (c.requires.listed c.args.label.now).order

pub enlist-requires-clause-fresh : goal.enlist-requires-clause-fresh
enlist-requires-clause-fresh c = λ s e a.
    let tree = c.args.tree.now in
    let label = c.args.label.now in
    fresh-name label c.args.id.now c.args.store.now.acked (length (text_elements tree)) tree.refs (index_of label c.args.indexes.now)
    (starts-once-in c.args.store.now c.first_stage-first.ensures.order label) (c.requires.listed label) s e
    (subst (λ (p : EndPair ℕ). AreAttached tree.refs p s e) c.requires.ends a)

pub returns : goal.returns
returns c =
    let tree = c.args.tree.now in
    let label = c.args.label.now in
    let is = c.args.store.now.acked in
    both-ok c.enlist.result _ _ _ (λ h o. enlisted label c.args.id.now is (length (text_elements tree)) tree.refs c.args.indexes.now
    c.enlist.new.indexes
    (starts-once-in c.args.store.now c.first_stage-first.ensures.order) o c.requires.listed
    (subst (λ (e : EndPair ℕ). Enlists tree.refs c.args.id.now e (index_of label c.args.indexes.now)
    (index_of label c.enlist.new.indexes)) c.requires.ends h) c.requires.within)
    c.enlist.ensures.label c.enlist.ensures.others
