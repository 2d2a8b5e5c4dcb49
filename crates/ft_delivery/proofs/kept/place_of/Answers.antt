-- The place of the key is that of the name.
use Rattle.std.proofs.Common.{◌∙◌}
use Rattle.ft_delivery.proofs.KeptValues.{place-under}
use Rattle.ft_delivery.proofs.kept.place_of.Goals as goal

pub returns : goal.returns
returns g c = λ name_of under. c.get_index_of.ensures.index
    ∙ place-under name_of c.as_str-name.result.now c.args.name.now c.as_str-name.utf8 c.as_str-name.ensures.characters c.args.kept.now.entries under

pub returns-then-len-le-FEW : goal.returns-then-len-le-FEW
returns-then-len-le-FEW g c = λ name_of under. c.place_among.ensures
    ∙ place-under name_of c.as_str-name.result.now c.args.name.now c.as_str-name.utf8 c.as_str-name.ensures.characters c.args.kept.now.entries under
