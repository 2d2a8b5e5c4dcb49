-- The JSON value that an event is written as: just the fields of its form, with the keys of the object in rising order.
use Rattle.std.specs.Prelude.{suc, zero, Option, Some, None, option_map, codes}
use Rattle.serde_json.specs.Data.{Data, string, object, Members, no_members, member}
use Rattle.ft_props.specs.Properties.{Characters}
use Rattle.ft_op.specs.Written.{with_given, written, written_count, written_text}
use Rattle.ft_msg.specs.Written.{written_address}
use Rattle.ft_seqr.specs.declared.events.HowMany.{HowMany}
use Rattle.ft_seqr.specs.declared.events.HowMany.TheVariants.{Num, All}
use Rattle.ft_seqr.specs.declared.events.Event.{Event}
use Rattle.ft_seqr.specs.declared.events.Event.TheVariants.{Start, Connect, Drop, Edit, Ticket, Deliver, Noop, Show, Queue, Compact, Summary, Offer, History, Guest, Submit, Part, Overlap, Blame, Authors}

-- how many; 1 is left out
abbrev pub written_how_many : HowMany → Option Data
written_how_many All = Some (string (codes "all"))
written_how_many (Num (suc zero)) = None
written_how_many (Num n) = Some (written_count n)

-- the member that has the event's word, before these
abbrev pub with_word : Characters → Members → Members
with_word word rest = member (codes "do") (string word) rest

-- an event of this word that has a client, and these members behind the word
abbrev pub written_of_client : Characters → Characters → Members → Data
written_of_client word client rest = object (member (codes "client") (written_text client) (with_word word rest))

-- an event of this word that has a client and a count
abbrev pub of_count : Characters → Characters → HowMany → Data
of_count word client n = object (member (codes "client") (written_text client) (with_given (codes "count") (written_how_many n) (with_word word no_members)))

-- an event of this word that has a guest, and these members behind it
abbrev pub written_of_guest : Characters → Characters → Members → Data
written_of_guest word guest rest = object (with_word word (member (codes "guest") (written_text guest) rest))

-- the JSON value of an event
abbrev pub written_event : Event → Data
written_event (Start client from) = written_of_client (codes "start") client (with_given (codes "from") (option_map written_text from) no_members)
written_event (Connect client) = written_of_client (codes "connect") client no_members
written_event (Drop client) = written_of_client (codes "drop") client no_members
written_event (Edit client op) =
    object
    (member (codes "address") (written_address op)
    (member (codes "client") (written_text client)
    (with_word (codes "edit")
    (member (codes "op") (written op) no_members))))
written_event (Ticket client n) = of_count (codes "ticket") client n
written_event (Deliver client n) = of_count (codes "deliver") client n
written_event (Noop client) = written_of_client (codes "noop") client no_members
written_event (Show client) = written_of_client (codes "show") client no_members
written_event (Queue client) = written_of_client (codes "queue") client no_members
written_event (Compact client) = written_of_client (codes "compact") client no_members
written_event (Summary client) = written_of_client (codes "summary") client no_members
written_event (Offer client text) = written_of_client (codes "offer") client (member (codes "message") (written_text text) no_members)
written_event History = object (with_word (codes "history") no_members)
written_event (Guest guest) = written_of_guest (codes "guest") guest no_members
written_event (Submit guest text) = written_of_guest (codes "submit") guest (member (codes "message") (written_text text) no_members)
written_event (Part guest) = written_of_guest (codes "part") guest no_members
written_event (Overlap client label a b) =
    written_of_client (codes "overlap") client
    (member (codes "end") (written_count b)
    (member (codes "label") (written_text label)
    (member (codes "start") (written_count a) no_members)))
written_event (Blame client a b) =
    written_of_client (codes "blame") client
    (member (codes "end") (written_count b)
    (member (codes "start") (written_count a) no_members))
written_event (Authors client) = written_of_client (codes "authors") client no_members
