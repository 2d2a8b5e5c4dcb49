use Rattle.std.proofs.Common.{◌≡◌, drop}
use Rattle.ft_props.specs.Properties.{apply}
use Rattle.ft_props.proofs.changed.apply_all.Given as goal

-- what is left to apply makes of the properties what the whole set made of them
abbrev pub invariant-loop-key : goal.invariant-loop-key
invariant-loop-key l = apply l.props (drop l.key-index l.key-items) ≡ apply l.fn.props l.key-items
