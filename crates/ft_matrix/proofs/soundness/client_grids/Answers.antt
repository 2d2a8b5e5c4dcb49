use Rattle.ft_matrix.proofs.ClientGrids.{client-grid}
use Rattle.ft_matrix.proofs.soundness.client_grids.Goals as goal

pub returns : goal.returns
returns c = client-grid
