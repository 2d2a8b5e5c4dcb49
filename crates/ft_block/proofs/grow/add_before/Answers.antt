use Rattle.std.proofs.Common.{◌∙◌, arith}
use Rattle.ft_partial.specs.Entries.{amount}
use Rattle.ft_block.specs.Tree.{shows, by_size}
use Rattle.ft_shape.proofs.FitLemmas.{leaf_total}
use Rattle.ft_shape.proofs.RefreshLemmas.{SameShape-tree}
use Rattle.ft_block.proofs.ExchangeLemmas.{tree_part}
use Rattle.std.proofs.lemmas.Result.{IfOk-from_err}
use Rattle.ft_block.proofs.grow.add_before.Goals as goal

pub grow_front-requires-clause-growing : goal.grow_front-requires-clause-growing
grow_front-requires-clause-growing g c = c.requires.growing

pub grow_front-requires-clause-sums : goal.grow_front-requires-clause-sums
grow_front-requires-clause-sums g c = c.requires.sums

pub grow_front-requires-clause-floors : goal.grow_front-requires-clause-floors
grow_front-requires-clause-floors g c = c.requires.floors

pub grow_front-requires-clause-spare : goal.grow_front-requires-clause-spare
grow_front-requires-clause-spare g c = c.requires.spare

pub grow_front-requires-clause-fits : goal.grow_front-requires-clause-fits
grow_front-requires-clause-fits g c = c.requires.fits

pub grow_front-requires-clause-tall : goal.grow_front-requires-clause-tall
grow_front-requires-clause-tall g c = c.requires.tall

pub grow_front-requires-clause-apart : goal.grow_front-requires-clause-apart
grow_front-requires-clause-apart g c = c.requires.apart

pub exchange_up-requires-clause-tree : goal.exchange_up-requires-clause-tree
exchange_up-requires-clause-tree g c = tree_part c.grow_front.new.arena c.in_ok-top.top c.in_ok-top.ensures.tree

pub exchange_up-requires-clause-fits : goal.exchange_up-requires-clause-fits
exchange_up-requires-clause-fits g c = omega (
  arith,
  leaf_total (by_size g.L.Leaf.size) c.args.arena.now c.grow_front.new.arena c.requires.growing.shape.forest c.in_ok-top.ensures.leaves
      c.in_ok-top.ensures.leaf_values,
  c.requires.fits,
)

pub exchange_up-requires-clause-block : goal.exchange_up-requires-clause-block
exchange_up-requires-clause-block g c = c.in_ok-top.ensures.stale

pub exchange_up-requires-clause-floors : goal.exchange_up-requires-clause-floors
exchange_up-requires-clause-floors g c = c.in_ok-top.ensures.floors

pub exchange_up-requires-clause-sums : goal.exchange_up-requires-clause-sums
exchange_up-requires-clause-sums g c = c.in_ok-top.ensures.sums

pub exchange_up-requires-clause-owes : goal.exchange_up-requires-clause-owes
exchange_up-requires-clause-owes g c = record {
  gone = c.requires.come;
  less = 0;
  come = c.requires.come;
  more = c.requires.more;
  makes = c.requires.makes;
  owes = λ view k. c.in_ok-top.ensures.owes view (amount (shows view c.requires.come) c.requires.more) (amount (shows view c.requires.come) 0) k
      (c.requires.owes view k);
}

pub returns-clause-tree : goal.returns-clause-tree
returns-clause-tree g c = SameShape-tree c.grow_front.new.arena c.exchange_up.new.arena c.in_ok-top.top c.in_ok-top.ensures.tree
    c.in_ok-exchange_up.ensures.shape

pub returns-clause-sums : goal.returns-clause-sums
returns-clause-sums g c = c.in_ok-exchange_up.ensures.sums

pub returns-clause-floors : goal.returns-clause-floors
returns-clause-floors g c = c.in_ok-exchange_up.ensures.floors

pub returns-clause-leaves : goal.returns-clause-leaves
returns-clause-leaves g c = c.in_ok-exchange_up.ensures.shape.leaves ∙ c.in_ok-top.ensures.leaves

pub returns-clause-leaf_values : goal.returns-clause-leaf_values
returns-clause-leaf_values g c = λ x. c.in_ok-exchange_up.ensures.shape.leaf_values x ∙ c.in_ok-top.ensures.leaf_values x

pub returns-in_err-top : goal.returns-in_err-top
returns-in_err-top g c =
    let r = c.from_residual in
    record {
      tree = IfOk-from_err r.result _ r.ensures.0;
      sums = IfOk-from_err r.result _ r.ensures.0;
      floors = IfOk-from_err r.result _ r.ensures.0;
      leaves = IfOk-from_err r.result _ r.ensures.0;
      leaf_values = IfOk-from_err r.result _ r.ensures.0;
    }

pub returns-in_err-exchange_up : goal.returns-in_err-exchange_up
returns-in_err-exchange_up g c =
    let r = c.from_residual-in_err-exchange_up in
    record {
      tree = IfOk-from_err r.result _ r.ensures.0;
      sums = IfOk-from_err r.result _ r.ensures.0;
      floors = IfOk-from_err r.result _ r.ensures.0;
      leaves = IfOk-from_err r.result _ r.ensures.0;
      leaf_values = IfOk-from_err r.result _ r.ensures.0;
    }
