use Rattle.std.proofs.Common.{[], ◌∷◌, ap}
use Rattle.ft_client.proofs.own.acks.ack_one.Goals as goal

pub returns-clause-acked : goal.returns-clause-acked
returns-clause-acked c = λ last doc t rest e named counted h. c.ack.ensures.acked last doc (t ∷ []) rest named h (ap (λ n. n ∷ []) e) counted
