use Rattle.std.proofs.Common.{[], ◌∙◌, ap}
use Rattle.ft_props.specs.Keys.{key_cmp, remove_rising}
use Rattle.ft_props.proofs.changed.set_key.Goals as goal

-- a key is taken away whatever value it has
pub returns-in-None : goal.returns-in-None
returns-in-None c =
    rw c.in-None.is (c.remove.ensures [] ∙ ap (λ k. remove_rising key_cmp (k, []) c.args.props.now) c.as_str.ensures.characters)
