use Rattle.std.proofs.Common.{All, sym, subst}
use Rattle.std.specs.List.{AllZip}
use Rattle.ft_interval_store.specs.Standing.{HasPlaces, IsCarriedInterval}
use Rattle.ft_interval_store.proofs.ShownAll.{rise-carried}
use Rattle.ft_interval_store.proofs.all.carry_each.Goals as goal

pub carry_pages-requires-clause-on_leaf : goal.carry_pages-requires-clause-on_leaf
carry_pages-requires-clause-on_leaf c = subst (λ is. All (HasPlaces c.args.tree.now) is) (sym c.all.view_is) c.requires.on_leaf

pub invariant_of-all : goal.invariant_of-all
invariant_of-all c =
    rise-carried c.args.tree.now c.args.from c.args.to c.all.inside.items c.carry_pages.new.items c.carry_pages.ensures c.all.invariant

pub returns : goal.returns
returns c =
    subst (λ is. AllZip (IsCarriedInterval c.args.tree.now c.args.from c.args.to) is c.carry_pages.new.items) c.all.view_is c.carry_pages.ensures
