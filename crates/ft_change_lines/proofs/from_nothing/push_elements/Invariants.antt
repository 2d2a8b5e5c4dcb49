use Rattle.std.proofs.Common.{◌≡◌, ◌++◌, chars, drop}
use denote.Shadow.{shadow}
use denote.Text.{Utf8}
use Rattle.ft_change_lines.specs.FromNothing.{put_elements}
use Rattle.ft_change_lines.proofs.from_nothing.push_elements.Given as goal

-- the changes so far, and those of the rest, are all
abbrev pub invariant-loop-marker : goal.invariant-loop-marker
invariant-loop-marker l =
    shadow (Utf8 l.rest)
    × (l.changes ++ put_elements l.place (chars l.rest) (drop l.marker-index l.markers) ≡ l.initial.changes ++ put_elements 0 (chars l.text) l.markers)
