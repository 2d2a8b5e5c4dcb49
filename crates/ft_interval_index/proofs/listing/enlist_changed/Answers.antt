use Rattle.std.proofs.Common.{length, ◌∙◌, ap, subst}
use Rattle.std.specs.Ordering.{is_eq}
use Rattle.ft_op.specs.declared.operations.TextOp.{TextOp}
use Rattle.ft_interval_index.specs.Indexes.{AreListed, ends_but}
use Rattle.ft_interval_store.specs.Intervals.{Name, is_on}
use Rattle.ft_interval_store.specs.State.{text_elements}
use Rattle.ft_interval_store.proofs.RisingLists.{name_cmp-self}
use Rattle.ft_interval_index.proofs.listing.enlist_changed.Goals as goal

pub enlist_named-requires-clause-listed : goal.enlist_named-requires-clause-listed
enlist_named-requires-clause-listed c =
    let tree = c.args.tree.now in
    subst (λ (o : TextOp). AreListed (length (text_elements tree)) tree.refs (ends_but o c.args.store.now.acked) c.args.indexes.now)
    c.in-IntervalAdd.is c.requires.listed

pub enlist_named-requires-clause-within : goal.enlist_named-requires-clause-within
enlist_named-requires-clause-within c =
    let n : Name = (c.in-IntervalAdd.label, c.in-IntervalAdd.id) in
    c.requires.within n (ap (is_on n) c.in-IntervalAdd.is ∙ ap is_eq (name_cmp-self n))

pub enlist_named-requires-clause-ends : goal.enlist_named-requires-clause-ends
enlist_named-requires-clause-ends c =
    let n : Name = (c.in-IntervalAdd.label, c.in-IntervalAdd.id) in
    c.requires.ends n (ap (is_on n) c.in-IntervalAdd.is ∙ ap is_eq (name_cmp-self n))

pub enlist_named-requires-in-IntervalChange-clause-listed : goal.enlist_named-requires-in-IntervalChange-clause-listed
enlist_named-requires-in-IntervalChange-clause-listed c =
    let tree = c.args.tree.now in
    subst (λ (o : TextOp). AreListed (length (text_elements tree)) tree.refs (ends_but o c.args.store.now.acked) c.args.indexes.now)
    c.in-IntervalChange.is c.requires.listed

pub enlist_named-requires-in-IntervalChange-clause-within : goal.enlist_named-requires-in-IntervalChange-clause-within
enlist_named-requires-in-IntervalChange-clause-within c =
    let n : Name = (c.in-IntervalChange.label, c.in-IntervalChange.id) in
    c.requires.within n (ap (is_on n) c.in-IntervalChange.is ∙ ap is_eq (name_cmp-self n))

pub enlist_named-requires-in-IntervalChange-clause-ends : goal.enlist_named-requires-in-IntervalChange-clause-ends
enlist_named-requires-in-IntervalChange-clause-ends c =
    let n : Name = (c.in-IntervalChange.label, c.in-IntervalChange.id) in
    c.requires.ends n (ap (is_on n) c.in-IntervalChange.is ∙ ap is_eq (name_cmp-self n))

pub enlist_named-requires-in-IntervalDelete-clause-listed : goal.enlist_named-requires-in-IntervalDelete-clause-listed
enlist_named-requires-in-IntervalDelete-clause-listed c =
    let tree = c.args.tree.now in
    subst (λ (o : TextOp). AreListed (length (text_elements tree)) tree.refs (ends_but o c.args.store.now.acked) c.args.indexes.now)
    c.in-IntervalDelete.is c.requires.listed

pub enlist_named-requires-in-IntervalDelete-clause-within : goal.enlist_named-requires-in-IntervalDelete-clause-within
enlist_named-requires-in-IntervalDelete-clause-within c =
    let n : Name = (c.in-IntervalDelete.label, c.in-IntervalDelete.id) in
    c.requires.within n (ap (is_on n) c.in-IntervalDelete.is ∙ ap is_eq (name_cmp-self n))

pub enlist_named-requires-in-IntervalDelete-clause-ends : goal.enlist_named-requires-in-IntervalDelete-clause-ends
enlist_named-requires-in-IntervalDelete-clause-ends c =
    let n : Name = (c.in-IntervalDelete.label, c.in-IntervalDelete.id) in
    c.requires.ends n (ap (is_on n) c.in-IntervalDelete.is ∙ ap is_eq (name_cmp-self n))

pub returns-in-One : goal.returns-in-One
returns-in-One c =
    let tree = c.args.tree.now in
    subst (λ (o : TextOp). AreListed (length (text_elements tree)) tree.refs (ends_but o c.args.store.now.acked) c.args.indexes.now) c.in-One.is
    c.requires.listed

pub returns-in-Group : goal.returns-in-Group
returns-in-Group c =
    let tree = c.args.tree.now in
    subst (λ (o : TextOp). AreListed (length (text_elements tree)) tree.refs (ends_but o c.args.store.now.acked) c.args.indexes.now) c.in-Group.is
    c.requires.listed
