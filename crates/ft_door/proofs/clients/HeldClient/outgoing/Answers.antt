use Rattle.std.proofs.Common.{subst, sym, ◌∙◌}
use Rattle.ft_door.specs.Clients.{ClientGoesOn}
use Rattle.ft_door.proofs.clients.HeldClient.outgoing.Goals as goal

pub returns-in-Some : goal.returns-in-Some
returns-in-Some g c = c.send.ensures (λ x h. c.draft-line.ensures x (subst (λ client. ClientGoesOn client x) c.in-Some.is h))

pub send-requires : goal.send-requires
send-requires g c = λ none. let e = sym c.in-Some.is ∙ none in cc
