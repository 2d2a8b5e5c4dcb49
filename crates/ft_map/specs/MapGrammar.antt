-- Which event of a map session a line is, or its first fault in the order in which its fields are tested.
use Rattle.std.specs.Prelude.{ℕ, List, Option, Some, None, Result, Ok, Err, codes, bytes_eq, if◌then◌else◌}
use Rattle.serde_json.specs.Data.{Data}
use Rattle.ft_json.specs.declared.fields.Field.TheVariants.{Count, Do, From, Key, Kind, Line, Op, Value}
use Rattle.ft_json.specs.Canonical.{canonical}
use Rattle.ft_json.specs.Reading.{field, read_line, str_field, text_field}
use Rattle.ft_op.specs.Reading.{◌>>=◌, is_object, with_fault}
use Rattle.ft_msg.specs.declared.faults.Cause.{Cause}
use Rattle.ft_msg.specs.declared.faults.Cause.TheVariants as cause
use Rattle.ft_msg.specs.Causes.{cause_of_field, cause_of_json}
use Rattle.ft_seqr.specs.declared.events.HowMany.{HowMany}
use Rattle.ft_seqr.specs.EventGrammar.{client_name_field, given_count, given_from}
use Rattle.ft_map.specs.declared.events.MapEvent.{MapEvent}
use Rattle.ft_map.specs.declared.events.MapEvent.TheVariants.{Start, Connect, Drop, Edit, Ticket, Deliver, Show, Summary}
use Rattle.ft_shared_map.specs.declared.ops.MapOp.{MapOp}
use Rattle.ft_shared_map.specs.declared.ops.MapOp.TheVariants.{Set, Delete, Clear}
use Rattle.ft_shared_map.specs.Maps.{Characters, ValueBytes}

-- ---- operations

-- the text of the value that a key gets, which has to be there
abbrev pub set_value : Option Data → Result ValueBytes Cause
set_value None = Err (cause.Missing Value)
set_value (Some d) = with_fault cause_of_json (canonical d)

-- a key that gets a value
unfoldable pub set_op : Data → Result MapOp Cause
set_op d = do
  key ← with_fault cause_of_field (text_field d Key)
  value ← set_value (field d Value)
  Ok (Set key value)

-- a key that is taken away
unfoldable pub delete_op : Data → Result MapOp Cause
delete_op d = do
  key ← with_fault cause_of_field (text_field d Key)
  Ok (Delete key)

-- the operation of the type that these bytes spell
abbrev pub typed_op : List ℕ → Data → Result MapOp Cause
typed_op word d =
    if bytes_eq word (codes "set") then set_op d
    else (if bytes_eq word (codes "delete") then delete_op d else (if bytes_eq word (codes "clear") then Ok Clear else Err (cause.WrongKind Kind)))

-- the operation that an object is
unfoldable pub map_op : Data → Result MapOp Cause
map_op d = do
  word ← with_fault cause_of_field (str_field d Kind)
  typed_op word d

-- the operation of an edit, which has to be there, and an object
abbrev pub edit_op : Option Data → Result MapOp Cause
edit_op None = Err (cause.Missing Op)
edit_op (Some d) = if is_object d then map_op d else Err (cause.WrongKind Op)

-- ---- events

-- an event that has a client alone
unfoldable pub event_of_client : (Characters → MapEvent) → Data → Result MapEvent Cause
event_of_client made d = do
  client ← client_name_field d
  Ok (made client)

-- an event that has a client and a count
unfoldable pub counted_event : (Characters → HowMany → MapEvent) → Data → Result MapEvent Cause
counted_event made d = do
  client ← client_name_field d
  n ← given_count (field d Count)
  Ok (made client n)

unfoldable pub start_event : Data → Result MapEvent Cause
start_event d = do
  client ← client_name_field d
  from ← given_from (field d From)
  Ok (Start client from)

unfoldable pub edit_event : Data → Result MapEvent Cause
edit_event d = do
  client ← client_name_field d
  op ← edit_op (field d Op)
  Ok (Edit client op)

-- the event of the word that these bytes spell
abbrev pub event_for : List ℕ → Data → Result MapEvent Cause
event_for word d =
    if bytes_eq word (codes "start") then start_event d
    else (if bytes_eq word (codes "connect") then event_of_client Connect d
    else (if bytes_eq word (codes "drop") then event_of_client Drop d
    else (if bytes_eq word (codes "edit") then edit_event d
    else (if bytes_eq word (codes "ticket") then counted_event Ticket d
    else (if bytes_eq word (codes "deliver") then counted_event Deliver d
    else (if bytes_eq word (codes "show") then event_of_client Show d
    else (if bytes_eq word (codes "summary") then event_of_client Summary d else Err cause.UnknownWord)))))))

-- the event that a value is
unfoldable pub event_of : Data → Result MapEvent Cause
event_of d =
    if is_object d then
    (do
      word ← with_fault cause_of_field (str_field d Do)
      event_for word d)
    else Err (cause.WrongKind Line)

-- the event that a line is
unfoldable pub map_event : List ℕ → Result MapEvent Cause
map_event bytes = do
  d ← with_fault cause_of_json (read_line bytes)
  event_of d
