-- Names of elements as a plain replica keeps them: a number, and the stage of a pending element.
use Rattle.std.specs.Prelude.{ℕ, Option, Some, None}
use Rattle.ft_props.specs.Element.{ElementId, PendingId, SequencedId}

-- the name of the n-th element that was ever sequenced, or of the n-th of a pending stage
abbrev pub name_of : Option ℕ → ℕ → ElementId
name_of None n = SequencedId n
name_of (Some k) n = PendingId k n

-- the stage of a name, if it is one of a pending element
abbrev pub stage_of_name : ElementId → Option ℕ
stage_of_name (SequencedId n) = None
stage_of_name (PendingId k n) = Some k

-- the number of a name
abbrev pub number_of_name : ElementId → ℕ
number_of_name (SequencedId n) = n
number_of_name (PendingId k n) = n

-- the number of a name, if it is one of a sequenced element
abbrev pub sequenced_number : ElementId → Option ℕ
sequenced_number (SequencedId n) = Some n
sequenced_number (PendingId k n) = None
