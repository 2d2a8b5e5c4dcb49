-- The empty session stands for the empty world.
use Rattle.ft_seqr.specs.World.{new_world}
use Rattle.ft_session.proofs.Stepping.{new-stands}
use Rattle.ft_session.proofs.world.World.new.Goals as goal

pub invariant_of-result : goal.invariant_of-result
invariant_of-result g c h = (new_world, new-stands c.new.result c.new.ensures)

pub returns : goal.returns
returns g c = new-stands c.new.result c.new.ensures
