use Rattle.ft_refs.proofs.ListLemmas.{seen_sound, lists_after_room, holds_after_room}
use Rattle.ft_refs.proofs.refs.Refs.hold.Goals as goal

pub returns-clause-sound : goal.returns-clause-sound
returns-clause-sound c = seen_sound _ _ (lists_after_room c.self.inside.slots c.self.inside.ends.items _ c.args.owner c.make_room.result c.make_room.ensures.room c.make_room.ensures.refused c.self.invariant)

pub returns-clause-held : goal.returns-clause-held
returns-clause-held c = rw (← c.self.view_is) (holds_after_room c.self.inside.slots c.self.inside.ends.items _ c.args.owner c.make_room.result c.make_room.ensures.room)
