use Rattle.std.proofs.Common.{◌≡◌, drop}
use Rattle.ft_props.specs.Properties.{shown_props}
use Rattle.ft_plain_lists.proofs.elements.PlainElement.shown_props.Given as goal

-- what is left makes of the properties what all changes made of them
abbrev pub invariant-loop-changes : goal.invariant-loop-changes
invariant-loop-changes l = shown_props l.props (drop l.changes-index l.self.pending) ≡ shown_props l.self.props l.self.pending
