-- The unsent messages of a replica.
use Rattle.std.proofs.Common.{refl, sym, subst}
use Rattle.ft_session.specs.Worlds.{MeetsSome, MemberState}
use Rattle.ft_session.proofs.Asking.{queue-formed, queue-told, reading-texts, reading-view}
use Rattle.ft_session.proofs.asked.queue.Goals as goal

pub queue_texts-requires : goal.queue_texts-requires
queue_texts-requires g c = queue-formed _ c.args.service.now (subst (λ (m : MemberState). MeetsSome m c.args.service.now) (sym c.member.view_is) c.requires)

pub returns : goal.returns
returns g c = reading-view c.member.view_is
    (reading-texts _ c.queue_texts.result c.of_texts.result c.queue_texts.ensures c.of_texts.ensures (queue-told _ c.args.service.now _ refl))
