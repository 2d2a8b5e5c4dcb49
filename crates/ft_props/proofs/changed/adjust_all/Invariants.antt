use Rattle.std.proofs.Common.{◌≡◌, drop}
use Rattle.ft_props.specs.Properties.{adjust}
use Rattle.ft_props.proofs.changed.adjust_all.Given as goal

-- what is left to adjust makes of the properties what all adjustments made of them
abbrev pub invariant-loop-key : goal.invariant-loop-key
invariant-loop-key l = adjust l.props (drop l.key-index l.key-items) ≡ adjust l.fn.props l.key-items
