use Rattle.std.proofs.Common.{◌≡◌, ◌++◌, drop, map, take}
use Rattle.ft_changes.specs.Shown.{restyled}
use Rattle.ft_shown.proofs.elements.restyle_all.Given as goal

-- the elements so far have them; the rest is as it was, and completes the whole once it has them
abbrev pub invariant-loop-element : goal.invariant-loop-element
invariant-loop-element l = record {
  rest : drop l.element-index l.elements ≡ drop l.element-index l.initial.elements;
  changed : take l.element-index l.elements ++ map (restyled l.props) (drop l.element-index l.elements) ≡ map (restyled l.props) l.initial.elements;
}
