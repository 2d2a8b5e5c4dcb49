use Rattle.std.proofs.Common.{◌≡◌, drop}
use Rattle.ft_props.specs.Steps.{acked_props}
use Rattle.ft_plain_lists.proofs.elements.PlainElement.acked_props.Given as goal

-- what is left makes of the properties what all changes made of them
abbrev pub invariant-loop-own : goal.invariant-loop-own
invariant-loop-own l = acked_props l.stage l.props (drop l.own-index l.self.pending) ≡ acked_props l.stage l.self.props l.self.pending
