-- One client more, and those of all at the end.
use Rattle.std.proofs.Common.{◌∙◌, ap, subst, sym}
use Rattle.indexmap.specs.IndexMap.{values}
use Rattle.ft_msg.specs.Answers.{numbers_of}
use Rattle.ft_session.specs.Steps.{further_numbers}
use Rattle.ft_session.specs.Worlds.{MemberState}
use Rattle.ft_session.proofs.Counting.{StillCounts, counts-first, counts-last, counts-next}
use Rattle.ft_session.proofs.world.furthest_counts.Goals as goal

pub loop-member-init : goal.loop-member-init
loop-member-init g c = (
  (tt, tt),
  subst (λ ms. StillCounts (values c.args.members.now) ms _) (sym (c.into_iter-member-iterator.ensures.into_iter_gives ∙ c.values-member-items.ensures.rest))
      (counts-first (values c.args.members.now)),
)

pub loop-member-preserved : goal.loop-member-preserved
loop-member-preserved g c =
    let all = values c.args.members.now in
    let left = c.next.new.self in (
      (tt, tt),
      subst (StillCounts all left)
          (sym (c.furthest_of-furthest.ensures ∙ ap (further_numbers c.loop-member.furthest) (c.numbers.ensures.numbers ∙ ap (λ (m : MemberState). numbers_of m.replica) c.member.view_is)))
          (counts-next all c.in-Some.member.now left c.loop-member.furthest (subst (λ ms. StillCounts all ms c.loop-member.furthest) c.in-Some.ensures.steps c.loop-member.invariant.1)),
    )

pub returns : goal.returns
returns g c w s = counts-last (values c.args.members.now) c.loop-member.furthest
    (subst (λ ms. StillCounts (values c.args.members.now) ms c.loop-member.furthest) c.in-None.ensures.steps.0 c.loop-member.invariant.1) w s
