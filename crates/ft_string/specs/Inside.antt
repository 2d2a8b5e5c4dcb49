-- What a shared text keeps. No public clause cites this module.
use Rattle.std.specs.Prelude.{◌++◌, ◌≤◌, ◌<◌, IsTrue, All}
use Rattle.ft_interval.specs.State.{StandsOn}
use Rattle.ft_string.specs.Parts.{AreSound, state_of}
use Rattle.ft_string.specs.State.{TextState}
use Rattle.ft_string.specs.declared.strings.SharedString.TheInside.{Inside}

abbrev pub view_of : Inside → TextState
view_of a = state_of a.tree a.intervals.state (a.again.items ++ a.ops.items) a.given a.usable

-- its parts are sound, its indexes stand on the tree, and the stages that were given are those of the operations that go on
pub record IsSound (a : Inside) : Type 0 where
  pub parts : AreSound a.tree a.intervals.state
  pub stands : StandsOn a.tree a.intervals
  pub again : All (λ t. t.stage ≤ a.given) a.again.items
  pub ahead : All (λ t. a.given < t.stage) a.ops.items

-- the same where the text may still be used
abbrev pub IsSoundIfUsable : Inside → Type 0
IsSoundIfUsable a = IsTrue a.usable → IsSound a
