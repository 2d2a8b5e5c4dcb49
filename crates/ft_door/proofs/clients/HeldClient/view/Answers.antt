use Rattle.std.proofs.Common.{subst, sym, ◌∙◌}
use Rattle.ft_door.specs.Clients.{ClientGoesOn}
use Rattle.ft_door.proofs.clients.HeldClient.view.Goals as goal

pub returns-in-Some : goal.returns-in-Some
returns-in-Some g c = c.show.ensures (λ x h. c.view_text-lines.ensures x (subst (λ client. ClientGoesOn client x) c.in-Some.is h))

pub show-requires : goal.show-requires
show-requires g c = λ none. let e = sym c.in-Some.is ∙ none in cc
