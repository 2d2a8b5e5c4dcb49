-- A guest enters, by the next connection.
use Rattle.std.proofs.Common.{◌+◌, ◌-◌, ◌<◌, ◌^◌, ◌∙◌, ap, length, subst}
use Rattle.ft_session.specs.Worlds.{SessionState}
use Rattle.ft_session.proofs.session.Session.enter.Goals as goal

pub enter_as-requires-clause-stands : goal.enter_as-requires-clause-stands
enter_as-requires-clause-stands g c = c.requires

pub enter_as-requires-clause-free : goal.enter_as-requires-clause-free
enter_as-requires-clause-free g c = c.in_ok-free_name.ensures.fault

pub enter_as-requires-clause-few : goal.enter_as-requires-clause-few
enter_as-requires-clause-few g c = subst (λ (s : SessionState). length s.service.names < 2 ^ 32 - 1) c.self.view_is c.in_ok-conn.ensures.few

pub returns : goal.returns
returns g c = c.enter_as.ensures

pub enter_as-requires-clause-next : goal.enter_as-requires-clause-next
enter_as-requires-clause-next g c = c.in_ok-conn.ensures.next ∙ ap (λ (s : SessionState). length s.service.names + 1) c.self.view_is
