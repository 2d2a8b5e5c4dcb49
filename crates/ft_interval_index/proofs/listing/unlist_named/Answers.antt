use Rattle.std.proofs.Common.{ℕ, ◌≤◌, length, arith, subst}
use Rattle.ft_interval_store.specs.declared.intervals.EndPair.{EndPair}
use Rattle.ft_interval_index.specs.Indexes.{Unlists, index_of}
use Rattle.ft_interval_store.specs.State.{ends_of_name, text_elements}
use Rattle.ft_interval_index.proofs.Listed.{items-placed}
use Rattle.ft_interval_index.proofs.ListedNames.{live-ends-of, starts-once-in, unlisted}
use Rattle.ft_interval_index.proofs.listing.unlist_named.Goals as goal

pub unlist-requires-clause-known : goal.unlist-requires-clause-known
unlist-requires-clause-known c =
    let tree = c.args.tree.now in
    let label = c.args.label.now in
    let n = length (text_elements tree) in
    let few : n ≤ 9223372036854775808 = (let fits = c.made-made.ensures.fits c.requires.usable in let small = c.made-made.ensures.small c.requires.usable in omega (arith, fits, small)) in
    items-placed tree n (λ id. ends_of_name (label, id) c.args.store.now.acked) (index_of label c.args.indexes.now) c.requires.usable
    (λ id. live-ends-of tree.refs c.args.store.now c.requires.live (label, id)) (c.requires.listed label) few

pub unlist-requires-clause-order : goal.unlist-requires-clause-order
unlist-requires-clause-order c = (c.requires.listed c.args.label.now).order

pub returns : goal.returns
returns c = λ id same.
    let tree = c.args.tree.now in
    let label = c.args.label.now in
    let is = c.args.store.now.acked in
    unlisted label id is (length (text_elements tree)) tree.refs c.args.indexes.now c.unlist.new.indexes
    (starts-once-in c.args.store.now c.first_stage-first.ensures.order) c.unlist.ensures.others c.requires.listed
    (subst (λ (e : EndPair ℕ). Unlists tree.refs e (index_of label c.args.indexes.now) (index_of label c.unlist.new.indexes)) same
    c.unlist.ensures.label)
