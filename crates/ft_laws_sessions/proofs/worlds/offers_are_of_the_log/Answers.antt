use Rattle.ft_laws_sessions.proofs.OfferLaws.{offers-are-of_the_log}
use Rattle.ft_laws_sessions.proofs.worlds.offers_are_of_the_log.Goals as goal

pub returns : goal.returns
returns c = offers-are-of_the_log
