use Rattle.std.proofs.Common.{◌/◌, ◌%◌, ◌^◌, ap}
use Rattle.ft_gen.specs.Draws.{draw}
use Rattle.ft_gen.proofs.draws.draw.Goals as goal

pub returns-clause-value : goal.returns-clause-value
unfolding draw
returns-clause-value c = ap (λ x. x / 2 ^ 33 % c.args.m) c.next_state.ensures
