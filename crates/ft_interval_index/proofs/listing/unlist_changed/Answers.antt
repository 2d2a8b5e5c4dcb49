use Rattle.std.proofs.Common.{length, sym, ◌∙◌, ap, subst}
use Rattle.std.specs.Ordering.{is_eq}
use Rattle.ft_op.specs.declared.operations.TextOp.{TextOp}
use Rattle.ft_interval_index.specs.Indexes.{AreListed, ends_but}
use Rattle.ft_interval_store.specs.Intervals.{Name, is_on}
use Rattle.ft_interval_store.specs.State.{text_elements}
use Rattle.ft_interval_store.proofs.RisingLists.{name_cmp-self}
use Rattle.ft_interval_index.proofs.listing.unlist_changed.Goals as goal

pub returns-in-IntervalAdd : goal.returns-in-IntervalAdd
returns-in-IntervalAdd c =
    let tree = c.args.tree.now in
    let own : Name = (c.in-IntervalAdd.label, c.in-IntervalAdd.id) in
    let d = c.unlist_named in
    let ends = c.requires.ends own (ap (is_on own) c.in-IntervalAdd.is ∙ ap is_eq (name_cmp-self own)) in
    subst (λ (o : TextOp). AreListed (length (text_elements tree)) tree.refs (ends_but o c.args.store.now.acked) d.new.indexes) (sym
    c.in-IntervalAdd.is)
    (d.ensures c.in-IntervalAdd.id ends)

pub returns-in-IntervalChange : goal.returns-in-IntervalChange
returns-in-IntervalChange c =
    let tree = c.args.tree.now in
    let own : Name = (c.in-IntervalChange.label, c.in-IntervalChange.id) in
    let d = c.unlist_named-in-IntervalChange in
    let ends = c.requires.ends own (ap (is_on own) c.in-IntervalChange.is ∙ ap is_eq (name_cmp-self own)) in
    subst (λ (o : TextOp). AreListed (length (text_elements tree)) tree.refs (ends_but o c.args.store.now.acked) d.new.indexes) (sym
    c.in-IntervalChange.is)
    (d.ensures c.in-IntervalChange.id ends)

pub returns-in-IntervalDelete : goal.returns-in-IntervalDelete
returns-in-IntervalDelete c =
    let tree = c.args.tree.now in
    let own : Name = (c.in-IntervalDelete.label, c.in-IntervalDelete.id) in
    let d = c.unlist_named-in-IntervalDelete in
    let ends = c.requires.ends own (ap (is_on own) c.in-IntervalDelete.is ∙ ap is_eq (name_cmp-self own)) in
    subst (λ (o : TextOp). AreListed (length (text_elements tree)) tree.refs (ends_but o c.args.store.now.acked) d.new.indexes) (sym
    c.in-IntervalDelete.is)
    (d.ensures c.in-IntervalDelete.id ends)

pub returns-in-One : goal.returns-in-One
returns-in-One c =
    let tree = c.args.tree.now in
    subst (λ (o : TextOp). AreListed (length (text_elements tree)) tree.refs (ends_but o c.args.store.now.acked) c.args.indexes.now) (sym
    c.in-One.is) c.requires.listed

pub returns-in-Group : goal.returns-in-Group
returns-in-Group c =
    let tree = c.args.tree.now in
    subst (λ (o : TextOp). AreListed (length (text_elements tree)) tree.refs (ends_but o c.args.store.now.acked) c.args.indexes.now) (sym
    c.in-Group.is) c.requires.listed
