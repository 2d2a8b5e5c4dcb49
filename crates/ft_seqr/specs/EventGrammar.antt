-- Which event a line is, or its first fault in the order in which its fields are tested.
use Rattle.std.specs.Prelude.{ℕ, pos, nat_lt, List, Option, Some, None, Result, Ok, Err, chars, codes, bytes_eq, if◌then◌else◌}
use Rattle.serde_json.specs.Data.{Data}
use Rattle.serde_json.specs.Find.{as_str}
use Rattle.ft_json.specs.declared.fields.Field.TheVariants.{Address, Client, Count, Do, End, From, Guest, Label, Line, Message as MessageText, Op, Start as StartPlace}
use Rattle.ft_json.specs.Reading.{count, count_field, field, read_line, str_field, text_field}
use Rattle.ft_props.specs.Properties.{Characters}
use Rattle.ft_op.specs.declared.operations.ChannelOp.{ChannelOp}
use Rattle.ft_op.specs.declared.operations.ChannelOp.TheVariants.{Text, Grid}
use Rattle.ft_op.specs.Reading.{◌>>=◌, is_object, with_fault}
use Rattle.ft_op.specs.TextGrammar.{text_op}
use Rattle.ft_op.specs.GridGrammar.{grid_op}
use Rattle.ft_msg.specs.declared.faults.Cause.{Cause}
use Rattle.ft_msg.specs.declared.faults.Cause.TheVariants as cause
use Rattle.ft_msg.specs.Causes.{cause_of_field, cause_of_json, cause_of_op}
use Rattle.ft_seqr.specs.declared.events.HowMany.{HowMany}
use Rattle.ft_seqr.specs.declared.events.HowMany.TheVariants.{Num, All}
use Rattle.ft_seqr.specs.declared.events.Event.{Event}
use Rattle.ft_seqr.specs.declared.events.Event.TheVariants.{Start, Connect, Drop, Edit, Ticket, Deliver, Noop, Show, Queue, Compact, Summary, Offer, History, Guest as Enter, Submit, Part, Overlap, Blame, Authors}

-- ---- fields

-- the string that a value is, by its characters
abbrev pub string_or_fault : Cause → Option (List ℕ) → Result Characters Cause
string_or_fault fault None = Err fault
string_or_fault fault (Some text) = Ok (chars text)

-- the client whose summary a new client starts from, if one is named
abbrev pub given_from : Option Data → Result (Option Characters) Cause
given_from None = Ok None
given_from (Some d) = do
  name ← string_or_fault (cause.WrongKind From) (as_str d)
  Ok (Some name)

-- how many a word says
abbrev pub count_word : Option (List ℕ) → Result HowMany Cause
count_word None = Err (cause.WrongKind Count)
count_word (Some word) = if bytes_eq word (codes "all") then Ok All else Err (cause.WrongKind Count)

-- how many a value says: a count, or the string "all"
abbrev pub count_or_all : Option ℕ → Data → Result HowMany Cause
count_or_all (Some n) d = Ok (Num n)
count_or_all None d = count_word (as_str d)

-- how many; 1 without the field
abbrev pub given_count : Option Data → Result HowMany Cause
given_count None = Ok (Num 1)
given_count (Some d) = count_or_all (count d) d

-- the operation for the address of these characters
abbrev pub op_for : Characters → Data → Result ChannelOp Cause
op_for address d =
    if bytes_eq address (codes "text") then (do
      op ← with_fault cause_of_op (text_op d)
      Ok (Text op))
    else (do
      op ← with_fault cause_of_op (grid_op d)
      Ok (Grid op))

-- the operation of an edit: its field `op` has to be there, and an object
abbrev pub edit_op : Characters → Option Data → Result ChannelOp Cause
edit_op address None = Err (cause.Missing Op)
edit_op address (Some d) = if is_object d then op_for address d else Err (cause.WrongKind Op)

-- an address is that of the text or of the grid
abbrev pub is_known_address : Characters → Result Characters Cause
is_known_address address =
    if bytes_eq address (codes "text") then Ok address
    else (if bytes_eq address (codes "grid") then Ok address else Err (cause.WrongKind Address))

-- the operation of an edit, for the address that the edit gives
unfoldable pub addressed_op : Data → Result ChannelOp Cause
addressed_op d = do
  word ← with_fault cause_of_field (text_field d Address)
  address ← is_known_address word
  edit_op address (field d Op)

-- a range whose end isn't before its start
abbrev pub checked_range : ℕ → ℕ → Result (ℕ × ℕ) Cause
checked_range a b = if nat_lt b a then Err (cause.Reversed (pos a) (pos b)) else Ok (a, b)

-- the range from `start` to `end`
unfoldable pub places : Data → Result (ℕ × ℕ) Cause
places d = do
  a ← with_fault cause_of_field (count_field d StartPlace)
  b ← with_fault cause_of_field (count_field d End)
  checked_range a b

-- the client of an event
unfoldable pub client_name_field : Data → Result Characters Cause
client_name_field d = with_fault cause_of_field (text_field d Client)

-- ---- events

-- an event that has a client alone
unfoldable pub event_of_client : (Characters → Event) → Data → Result Event Cause
event_of_client made d = do
  client ← client_name_field d
  Ok (made client)

-- an event that has a client and a count
unfoldable pub counted_event : (Characters → HowMany → Event) → Data → Result Event Cause
counted_event made d = do
  client ← client_name_field d
  n ← given_count (field d Count)
  Ok (made client n)

-- an event that has a guest alone
unfoldable pub guest_event : (Characters → Event) → Data → Result Event Cause
guest_event made d = do
  guest ← with_fault cause_of_field (text_field d Guest)
  Ok (made guest)

unfoldable pub start_event : Data → Result Event Cause
start_event d = do
  client ← client_name_field d
  from ← given_from (field d From)
  Ok (Start client from)

unfoldable pub edit_event : Data → Result Event Cause
edit_event d = do
  client ← client_name_field d
  word ← with_fault cause_of_field (text_field d Address)
  address ← is_known_address word
  op ← edit_op address (field d Op)
  Ok (Edit client op)

unfoldable pub offer_event : Data → Result Event Cause
offer_event d = do
  client ← client_name_field d
  text ← with_fault cause_of_field (text_field d MessageText)
  Ok (Offer client text)

unfoldable pub submit_event : Data → Result Event Cause
submit_event d = do
  guest ← with_fault cause_of_field (text_field d Guest)
  text ← with_fault cause_of_field (text_field d MessageText)
  Ok (Submit guest text)

unfoldable pub overlap_event : Data → Result Event Cause
overlap_event d = do
  client ← client_name_field d
  label ← with_fault cause_of_field (text_field d Label)
  range ← places d
  Ok (Overlap client label range.0 range.1)

unfoldable pub blame_event : Data → Result Event Cause
blame_event d = do
  client ← client_name_field d
  range ← places d
  Ok (Blame client range.0 range.1)

-- the event of this word, of those that have guests, or ask who inserted what and which intervals meet a range
abbrev pub later_event : List ℕ → Data → Result Event Cause
later_event word d =
    if bytes_eq word (codes "offer") then offer_event d
    else (if bytes_eq word (codes "history") then Ok History
    else (if bytes_eq word (codes "guest") then guest_event Enter d
    else (if bytes_eq word (codes "submit") then submit_event d
    else (if bytes_eq word (codes "part") then guest_event Part d
    else (if bytes_eq word (codes "overlap") then overlap_event d
    else (if bytes_eq word (codes "blame") then blame_event d
    else (if bytes_eq word (codes "authors") then event_of_client Authors d else Err cause.UnknownWord)))))))

-- the event of this word
abbrev pub event_for : List ℕ → Data → Result Event Cause
event_for word d =
    if bytes_eq word (codes "start") then start_event d
    else (if bytes_eq word (codes "connect") then event_of_client Connect d
    else (if bytes_eq word (codes "drop") then event_of_client Drop d
    else (if bytes_eq word (codes "edit") then edit_event d
    else (if bytes_eq word (codes "ticket") then counted_event Ticket d
    else (if bytes_eq word (codes "deliver") then counted_event Deliver d
    else (if bytes_eq word (codes "noop") then event_of_client Noop d
    else (if bytes_eq word (codes "show") then event_of_client Show d
    else (if bytes_eq word (codes "queue") then event_of_client Queue d
    else (if bytes_eq word (codes "compact") then event_of_client Compact d
    else (if bytes_eq word (codes "summary") then event_of_client Summary d else later_event word d))))))))))

-- the event that a value is
unfoldable pub event_of : Data → Result Event Cause
event_of d =
    if is_object d then
    (do
      word ← with_fault cause_of_field (str_field d Do)
      event_for (chars word) d)
    else Err (cause.WrongKind Line)

-- the event that a line is
unfoldable pub event : List ℕ → Result Event Cause
event bytes = do
  d ← with_fault cause_of_json (read_line bytes)
  event_of d
