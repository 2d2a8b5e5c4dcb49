use Rattle.std.proofs.Common.{[], ap, sym, ◌∙◌}
use Rattle.ft_shared_map.specs.Maps.{key_cmp, put, remove_rising}
use Rattle.ft_shared_map.proofs.ops.put.Goals as goal

pub returns-in-Delete-clause-ok : goal.returns-in-Delete-clause-ok
returns-in-Delete-clause-ok c =
    c.remove.ensures [] ∙ ap (λ key. remove_rising key_cmp (key, []) c.args.map.now) c.as_str.ensures.characters ∙ sym (ap (put c.args.map.now) c.in-Delete.is)
