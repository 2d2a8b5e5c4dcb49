-- A client comes in.
use Rattle.ft_map.proofs.Turns.{start-taken}
use Rattle.ft_map.proofs.world.Session.start.Goals as goal

pub returns : goal.returns
returns c =
    start-taken c.args.self.now c.args.name.now c.args.from.now c.in_ok-free_name.ensures.fault c.in_ok-client.client _ c.in_ok-client.ensures c.in_ok-admit.ensures
