use Rattle.std.proofs.Common.{ℕ, Option, IsSomeAnd, subst, sym}
use Rattle.ft_base.specs.declared.elements.Element.{Element}
use Rattle.ft_block.specs.Tree.{MakesExchange}
use Rattle.std.proofs.lemmas.Result.{IfOk-from_err}
use Rattle.ft_block.proofs.shrink.detach.Goals as goal

pub leaf_at-leaf-requires : goal.leaf_at-leaf-requires
leaf_at-leaf-requires g c = c.requires.live

pub set_apart-requires-clause-tree : goal.set_apart-requires-clause-tree
set_apart-requires-clause-tree g c = c.requires.tree

pub set_apart-requires-clause-sums : goal.set_apart-requires-clause-sums
set_apart-requires-clause-sums g c = c.requires.sums

pub set_apart-requires-clause-floors : goal.set_apart-requires-clause-floors
set_apart-requires-clause-floors g c = c.requires.floors

pub set_apart-requires-clause-live : goal.set_apart-requires-clause-live
set_apart-requires-clause-live g c = c.requires.live

pub set_apart-requires-clause-makes : goal.set_apart-requires-clause-makes
set_apart-requires-clause-makes g c =
    let v = c.leaf_at-leaf.result.now in
    let x = c.in_ok-exchange.exchange in
    subst (λ (o : Option g.row.L.Denot). IsSomeAnd o (λ v. MakesExchange c.args.floor x (g.L.Leaf.element v) (g.L.Leaf.size v) (g.L.Leaf.element v)
    0))
    (sym c.leaf_at-leaf.ensures.value)
    (subst (λ (n : ℕ). MakesExchange c.args.floor x (g.L.Leaf.element v) n (g.L.Leaf.element v) 0) c.len-len.ensures.value
    (subst (λ (d : Element). MakesExchange c.args.floor x d c.len-len.result d 0) c.element-e.ensures c.in_ok-exchange.ensures))

pub set_apart-requires-clause-more : goal.set_apart-requires-clause-more
set_apart-requires-clause-more g c = c.requires.more

pub set_apart-requires-clause-fits : goal.set_apart-requires-clause-fits
set_apart-requires-clause-fits g c = c.requires.fits

pub returns-clause-apart : goal.returns-clause-apart
returns-clause-apart g c = c.set_apart.ensures.apart

pub returns-clause-low : goal.returns-clause-low
returns-clause-low g c = c.set_apart.ensures.low

pub returns-clause-sums : goal.returns-clause-sums
returns-clause-sums g c = c.set_apart.ensures.sums

pub returns-clause-floors : goal.returns-clause-floors
returns-clause-floors g c = c.set_apart.ensures.floors

pub returns-clause-leaves : goal.returns-clause-leaves
returns-clause-leaves g c = c.set_apart.ensures.leaves

pub returns-clause-leaf_values : goal.returns-clause-leaf_values
returns-clause-leaf_values g c = c.set_apart.ensures.leaf_values

pub returns-in_err-exchange : goal.returns-in_err-exchange
returns-in_err-exchange g c =
    let r = c.from_residual in
    record {
      apart = IfOk-from_err r.result _ r.ensures.0;
      low = IfOk-from_err r.result _ r.ensures.0;
      sums = IfOk-from_err r.result _ r.ensures.0;
      floors = IfOk-from_err r.result _ r.ensures.0;
      leaves = IfOk-from_err r.result _ r.ensures.0;
      leaf_values = IfOk-from_err r.result _ r.ensures.0;
    }
