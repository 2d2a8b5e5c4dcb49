use Rattle.std.proofs.Common.{◌<◌, length, sym, subst}
use Rattle.ft_shared_map.specs.Maps.{MapState}
use Rattle.ft_shared_map.proofs.MapLaws.{rising-put}
use Rattle.ft_shared_map.proofs.MarkLaws.{fewer-popped, marks-popped}
use Rattle.ft_shared_map.specs.Marks.{AreMarksOf}
use Rattle.ft_props.specs.Keys.{KeysRise}
use Rattle.ft_shared_map.proofs.shared.SharedMap.ack.Goals as goal

pub invariant_of-self-2 : goal.invariant_of-self-2
invariant_of-self-2 c =
    let s = c.self.inside in
    let op = c.in-Some.oldest.now in
    let some : 0 < length s.pending.items = subst (λ (x : MapState). 0 < length x.pending) (sym c.self.view_is) c.requires in (
      subst (AreMarksOf _ _) (sym c.forget.ensures) (marks-popped s.first s.pending.items _ op s.marks some c.in-Some.ensures.lookup c.pop_front.ensures.rest c.self.invariant.0),
      fewer-popped s.first _ s.pending.items _ some c.pop_front.ensures.rest c.self.invariant.1,
      subst KeysRise (sym c.in_ok-put.ensures.ok) (rising-put s.acked op c.self.invariant.2),
    )
