use Rattle.std.proofs.Common.{refl, sym, ◌∙◌, ap}
use Rattle.std.proofs.lemmas.List.{drop_all}
use Rattle.ft_block.specs.Leaves.{ids}
use Rattle.ft_tree_leaves.specs.Edits.{is_touched_by}
use Rattle.ft_tree_blocks.proofs.WalkEdits.{ids-change}
use Rattle.ft_rebase.specs.Normalised.{carried_leaf}
use Rattle.ft_rebase.proofs.CarriedStages.{change_each, each-filtered, each_next, live_same}
use Rattle.ft_rebase.proofs.ListedLeaves.{listed_at}
use Rattle.ft_rebase.proofs.MovedSpots.{rest_more, rest_same}
use Rattle.ft_rebase.proofs.normalisation.carry_stage.Goals as goal

pub loop-leaf-init : goal.loop-leaf-init
loop-leaf-init g c =
    let xs = c.args.tree.now.leaves in
    record {
      leaves =
          ap (λ ns. change_each carried_leaf ns xs) (c.deref-leaf-items.ensures.value ∙ c.in_ok-touched.ensures)
          ∙ each-filtered carried_leaf (λ x. is_touched_by c.args.stage x.1) xs c.first_leaf-first.ensures.once;
      nodes = refl;
      refs = λ r. refl;
      rest = rest_same c.args.tree.now;
      made = refl;
      usable = c.requires;
    }

pub carry_leaf-requires : goal.carry_leaf-requires
carry_leaf-requires g c =
    let xs = c.args.tree.now.leaves in
    let s = listed_at (λ x. is_touched_by c.args.stage x.1) xs c.deref-leaf-items.result.now c.loop-leaf.leaf-index c.leaf-item.result
    c.first_leaf-first.ensures.once (c.deref-leaf-items.ensures.value ∙ c.in_ok-touched.ensures) c.loop-leaf-test.true c.leaf-item.is in
    record {
      usable = c.loop-leaf.invariant.usable;
      live = live_same c.loop-leaf.tree.leaves xs c.leaf-item.result c.loop-leaf.invariant.nodes s.live;
    }

pub loop-leaf-preserved : goal.loop-leaf-preserved
loop-leaf-preserved g c =
    let was = c.loop-leaf.tree.leaves in
    let made = c.in_ok-carry_leaf.ensures.leaves in
    record {
      leaves =
          each_next carried_leaf c.deref-leaf-items.result.now c.loop-leaf.leaf-index c.leaf-item.result was c.carry_leaf.new.tree.leaves _
          c.loop-leaf-test.true c.leaf-item.is made c.loop-leaf.invariant.leaves;
      nodes = ap ids made ∙ ids-change carried_leaf was c.leaf-item.result ∙ c.loop-leaf.invariant.nodes;
      refs = λ r. c.in_ok-carry_leaf.ensures.refs r ∙ c.loop-leaf.invariant.refs r;
      rest = rest_more c.loop-leaf.invariant.rest c.in_ok-carry_leaf.ensures.stays.rest;
      made = c.in_ok-carry_leaf.ensures.stays.made ∙ c.loop-leaf.invariant.made;
      usable = c.in_ok-carry_leaf.ensures.stays.usable;
    }

pub returns : goal.returns
returns g c = record {
  leaves =
      sym (ap (λ ns. change_each carried_leaf ns c.loop-leaf.tree.leaves)
      (drop_all c.loop-leaf.leaf-index c.deref-leaf-items.result.now c.loop-leaf-test.false))
      ∙ c.loop-leaf.invariant.leaves;
  refs = c.loop-leaf.invariant.refs;
  stays = record {
    rest = c.loop-leaf.invariant.rest;
    made = c.loop-leaf.invariant.made;
    usable = c.loop-leaf.invariant.usable;
  };
}
