-- What is asked of an event before it may be written or taken, and what the types of the code promise of each.
use Rattle.std.specs.Prelude.{IsTrue, Option, Some, None, ⊤}
use Rattle.ft_op.specs.Representable.{IsRepresentable, IsText}
use Rattle.ft_op.specs.WellFormed.{IsWellFormed, is_count, is_range}
use Rattle.ft_props.specs.Properties.{Characters}
use Rattle.ft_seqr.specs.declared.events.HowMany.{HowMany}
use Rattle.ft_seqr.specs.declared.events.HowMany.TheVariants.{Num, All}
use Rattle.ft_seqr.specs.declared.events.Event.{Event}
use Rattle.ft_seqr.specs.declared.events.Event.TheVariants.{Start, Connect, Drop, Edit, Ticket, Deliver, Noop, Show, Queue, Compact, Summary, Offer, History, Guest, Submit, Part, Overlap, Blame, Authors}

-- how many is all, or a count
abbrev pub IsWellFormedCount : HowMany → Type 0
IsWellFormedCount (Num n) = IsTrue (is_count n)
IsWellFormedCount All = ⊤

-- an operation is well formed, numbers are counts, and a range isn't reversed
abbrev pub IsWellFormedEvent : Event → Type 0
IsWellFormedEvent (Edit client op) = IsWellFormed op
IsWellFormedEvent (Ticket client n) = IsWellFormedCount n
IsWellFormedEvent (Deliver client n) = IsWellFormedCount n
IsWellFormedEvent (Overlap client label a b) = IsTrue (is_range a b)
IsWellFormedEvent (Blame client a b) = IsTrue (is_range a b)
IsWellFormedEvent _ = ⊤

-- the characters of a text that is given are Unicode scalar values
abbrev pub IsGivenText : Option Characters → Type 0
IsGivenText None = ⊤
IsGivenText (Some text) = IsText text

-- the characters of each text are Unicode scalar values
abbrev pub IsRepresentableEvent : Event → Type 0
IsRepresentableEvent (Start client from) = IsText client × IsGivenText from
IsRepresentableEvent (Connect client) = IsText client
IsRepresentableEvent (Drop client) = IsText client
IsRepresentableEvent (Edit client op) = IsText client × IsRepresentable op
IsRepresentableEvent (Ticket client n) = IsText client
IsRepresentableEvent (Deliver client n) = IsText client
IsRepresentableEvent (Noop client) = IsText client
IsRepresentableEvent (Show client) = IsText client
IsRepresentableEvent (Queue client) = IsText client
IsRepresentableEvent (Compact client) = IsText client
IsRepresentableEvent (Summary client) = IsText client
IsRepresentableEvent (Offer client text) = IsText client × IsText text
IsRepresentableEvent History = ⊤
IsRepresentableEvent (Guest guest) = IsText guest
IsRepresentableEvent (Submit guest text) = IsText guest × IsText text
IsRepresentableEvent (Part guest) = IsText guest
IsRepresentableEvent (Overlap client label a b) = IsText client × IsText label
IsRepresentableEvent (Blame client a b) = IsText client
IsRepresentableEvent (Authors client) = IsText client
