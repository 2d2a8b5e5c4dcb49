use Rattle.ft_json.proofs.KeyOrder.{slice_cmp-encodes}
use Rattle.ft_json.proofs.laws.keys_have_one_order.Goals as goal

pub returns : goal.returns
returns c = slice_cmp-encodes
