use Rattle.std.proofs.Common.{◌≡◌, map, refl, subst, sym, ◌∙◌, ap, arith}
use Rattle.ft_tree_leaves.specs.References.{reference_at}
use Rattle.ft_rebase.specs.Normalised.{carried_pair}
use Rattle.ft_rebase.proofs.CarriedStages.{all_carried, carries_stage, fewer_stages, list-carried}
use Rattle.ft_rebase.proofs.MovedSpots.{rest_more, rest_same}
use Rattle.ft_rebase.proofs.NextStages.{IsBelow}
use Rattle.ft_rebase.specs.Spots.{StaysInUse}
use Rattle.ft_tree.specs.State.{TreeState}
use Rattle.ft_rebase.proofs.normalisation.carry_leaves.Goals as goal

pub loop-next-init : goal.loop-next-init
loop-next-init g c = record {
  leaves = refl;
  done = λ j h. absurd (omega (arith, h));
  refs = λ r. refl;
  rest = rest_same c.args.tree.now;
  made = refl;
  usable = c.requires;
}

pub loop-next-smaller : goal.loop-next-smaller
loop-next-smaller g c =
    fewer_stages c.in-Some.stage c.carry_stage.new.tree.leaves c.loop-next.next c.next_pending-next.result (omega arith) c.in-Some.is
    c.next_pending-next.ensures

pub loop-next-preserved : goal.loop-next-preserved
loop-next-preserved g c =
    let xs = c.loop-next.tree.leaves in
    let now = c.carry_stage.new.tree.leaves in
    let k = c.in-Some.stage in
    record {
      leaves = ap (map carried_pair) c.in_ok-carry_stage.ensures.leaves ∙ list-carried k xs ∙ c.loop-next.invariant.leaves;
      done = carries_stage k xs now c.next_pending-next.result c.in_ok-carry_stage.ensures.leaves c.next_pending-next.ensures
          (λ j h. c.loop-next.invariant.done j (subst (IsBelow j) (sym c.in-Some.is) h));
      refs = λ r. c.in_ok-carry_stage.ensures.refs r ∙ c.loop-next.invariant.refs r;
      rest = rest_more c.loop-next.invariant.rest c.in_ok-carry_stage.ensures.stays.rest;
      made = c.in_ok-carry_stage.ensures.stays.made ∙ c.loop-next.invariant.made;
      usable = c.in_ok-carry_stage.ensures.stays.usable;
    }

pub returns : goal.returns
returns g c =
    let same : c.prune.new.self ≡ c.loop-next.tree = c.in_ok-prune.ensures.ok in
    record {
      leaves = ap (λ (s : TreeState g.row.C.Denot). s.leaves) same
          ∙ sym (all_carried c.loop-next.tree.leaves (λ j. c.loop-next.invariant.done j (subst (IsBelow j) (sym c.in_default.is) tt)))
          ∙ c.loop-next.invariant.leaves;
      refs = λ r. ap (λ (s : TreeState g.row.C.Denot). reference_at s.refs r) same ∙ c.loop-next.invariant.refs r;
      stays = subst (StaysInUse c.args.tree.now) (sym same) (record {
        rest = c.loop-next.invariant.rest;
        made = c.loop-next.invariant.made;
        usable = c.loop-next.invariant.usable;
      });
    }
