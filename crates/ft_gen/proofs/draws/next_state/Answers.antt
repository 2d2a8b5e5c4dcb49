use Rattle.std.proofs.Common.{◌*◌, ◌^◌}
use Rattle.ft_gen.specs.Draws.{next_state}
use Rattle.ft_gen.proofs.Drawing.{mod-add}
use Rattle.ft_gen.proofs.draws.next_state.Goals as goal

pub returns : goal.returns
unfolding next_state
returns c = mod-add (c.args.state * 6364136223846793005) 1442695040888963407 (2 ^ 64)
