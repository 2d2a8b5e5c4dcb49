-- A written event is read back.
use Rattle.std.proofs.Common.{◌≡◌, ◌≤◌, ◌^◌, ℕ, zero, suc, true, List, [], ◌∷◌, Option, Some, None, Ok, codes, nat_le, refl, sym, ap, subst, arith, leb-true, ltb-true, lt-ltb, le-ltb, option_map}
use Rattle.std.specs.Prelude.{IsTrue}
use Rattle.std.specs.List.{AllByRecursion}
use Rattle.std.specs.Str.{chars}
use Rattle.std.proofs.lemmas.Str.{chars-encodes}
use Rattle.ft_base.proofs.Booleans.{both}
use Rattle.serde_json.specs.Data.{Data, string, object, depth}
use Rattle.serde_json.specs.Written.{compact_text}
use Rattle.ft_json.specs.declared.fields.Field.TheVariants.{Address, Client, Count, Do, End, From, Guest as GuestField, Label, Message as MessageText, Op, Start as StartPlace}
use Rattle.ft_json.specs.Canonical.{IsCanonical}
use Rattle.ft_json.specs.Fields.{field_name}
use Rattle.ft_json.specs.Reading.{count, text_field}
use Rattle.ft_json.proofs.Back.{read_line-compact_text}
use Rattle.ft_props.specs.Properties.{Characters}
use Rattle.ft_op.specs.declared.operations.GridOp.{GridOp}
use Rattle.ft_op.specs.declared.operations.TextOp.{TextOp}
use Rattle.ft_op.specs.declared.operations.ChannelOp.{ChannelOp}
use Rattle.ft_op.specs.declared.operations.ChannelOp.TheVariants.{Text, Grid}
use Rattle.ft_op.specs.GridGrammar.{grid_op}
use Rattle.ft_op.specs.Reading.{is_object}
use Rattle.ft_op.specs.Representable.{IsRepresentable, IsText}
use Rattle.ft_op.specs.TextGrammar.{text_op}
use Rattle.ft_op.specs.WellFormed.{IsWellFormed, is_count, is_range}
use Rattle.ft_op.specs.Written.{written, written_count, written_text}
use Rattle.ft_op.proofs.CanonicalOperations.{canonical_count, canonical_op, canonical_text, canonical_word}
use Rattle.ft_op.proofs.LevelsOfOperations.{op_levels}
use Rattle.ft_op.proofs.ReadFields.{count_is, field_is, found, str_is, text_is}
use Rattle.ft_op.proofs.ReadOperations.{op_back}
use Rattle.ft_op.proofs.ReadSteps.{test_held}
use Rattle.ft_op.proofs.WrittenFields.{IsCanonicalIfGiven, HasAtMost, canonical_fields, fields, fields_within, keys_rise}
use Rattle.json.proofs.Printed.Utf8.{are_ascii}
use Rattle.ft_msg.specs.Written.{written_address}
use Rattle.ft_seqr.specs.declared.events.HowMany.{HowMany}
use Rattle.ft_seqr.specs.declared.events.HowMany.TheVariants.{Num, All}
use Rattle.ft_seqr.specs.declared.events.Event.{Event}
use Rattle.ft_seqr.specs.declared.events.Event.TheVariants.{Start, Connect, Drop, Edit, Ticket, Deliver, Noop, Show, Queue, Compact, Summary, Offer, History, Guest, Submit, Part, Overlap, Blame, Authors}
use Rattle.ft_seqr.specs.EventGrammar.{blame_event, event_of_client, client_name_field, counted_event, edit_event, edit_op, event, event_for, event_of, given_count, given_from, guest_event, is_known_address, offer_event, overlap_event, places, start_event, submit_event}
use Rattle.ft_seqr.specs.WellFormedEvent.{IsGivenText, IsRepresentableEvent, IsWellFormedCount, IsWellFormedEvent}
use Rattle.ft_seqr.specs.WrittenEvent.{written_event, written_how_many}

-- ---- the fields of each event

abbrev Given : Type 0
Given = List (List ℕ × Option Data)

abbrev word_field : List ℕ → List ℕ × Option Data
word_field word = (codes "do", Some (string word))

abbrev client_field : Characters → List ℕ × Option Data
client_field client = (codes "client", Some (written_text client))

abbrev client_fields : List ℕ → Characters → Given
client_fields word client = client_field client ∷ word_field word ∷ []

abbrev start_fields : Characters → Option Characters → Given
start_fields client from = client_field client ∷ word_field (codes "start") ∷ (codes "from", option_map written_text from) ∷ []

abbrev edit_fields : Characters → ChannelOp → Given
edit_fields client op = (codes "address", Some (written_address op)) ∷ client_field client ∷ word_field (codes "edit") ∷ (codes "op", Some (written op)) ∷ []

abbrev counted_fields : List ℕ → Characters → HowMany → Given
counted_fields word client n = client_field client ∷ (codes "count", written_how_many n) ∷ word_field word ∷ []

abbrev offer_fields : Characters → Characters → Given
offer_fields client text = client_field client ∷ word_field (codes "offer") ∷ (codes "message", Some (written_text text)) ∷ []

abbrev guest_fields : List ℕ → Characters → Given
guest_fields word guest = word_field word ∷ (codes "guest", Some (written_text guest)) ∷ []

abbrev submit_fields : Characters → Characters → Given
submit_fields guest text = word_field (codes "submit") ∷ (codes "guest", Some (written_text guest)) ∷ (codes "message", Some (written_text text)) ∷ []

abbrev overlap_fields : Characters → Characters → ℕ → ℕ → Given
overlap_fields client label a b =
    client_field client ∷ word_field (codes "overlap") ∷ (codes "end", Some (written_count b)) ∷ (codes "label", Some (written_text label)) ∷ (codes "start", Some (written_count a)) ∷ []

abbrev blame_fields : Characters → ℕ → ℕ → Given
blame_fields client a b = client_field client ∷ word_field (codes "blame") ∷ (codes "end", Some (written_count b)) ∷ (codes "start", Some (written_count a)) ∷ []

-- the word of an address
abbrev address_word : ChannelOp → List ℕ
address_word (Text op) = codes "text"
address_word (Grid op) = codes "grid"

-- ---- parts

-- the word stands behind a count that may be left out
counted_word : (word : List ℕ) (client : Characters) (n : HowMany) → found (field_name Do) (counted_fields word client n) ≡ Some (string word)
unfolding field_name
counted_word word client n = refl

client_is : (fs : Given) (client : Characters) → found (field_name Client) fs ≡ Some (written_text client) → IsText client → client_name_field (object (fields fs)) ≡ Ok client
unfolding client_name_field
client_is fs client h r = rw (text_is fs Client client h r)

from_back : (from : Option Characters) → IsGivenText from → given_from (option_map written_text from) ≡ Ok from
from_back None r = refl
from_back (Some name) r = ap (λ n. Ok (Some n)) (chars-encodes name r)

num_back : (n : ℕ) → IsTrue (is_count n) → given_count (Some (written_count n)) ≡ Ok (Num n)
unfolding count
num_back n h = rw h

count_back : (n : HowMany) → IsWellFormedCount n → given_count (written_how_many n) ≡ Ok n
unfolding count
count_back All h = refl
count_back (Num zero) h = num_back 0 h
count_back (Num (suc zero)) h = refl
count_back (Num (suc (suc n))) h = num_back (suc (suc n)) h

places_back : (fs : Given) (a b : ℕ) → found (field_name StartPlace) fs ≡ Some (written_count a) → found (field_name End) fs ≡ Some (written_count b) → IsTrue (is_range a b) → places (object (fields fs)) ≡ Ok (a, b)
unfolding places
places_back fs a b h g e =
    let parts = both (nat_le a b) (is_count b) e in
    let order = leb-true a b parts.0 in
    let last = ltb-true b (2 ^ 53) parts.1 in
    let small = lt-ltb a (2 ^ 53) (omega arith) in
    rw (count_is fs StartPlace a h small, count_is fs End b g parts.1, le-ltb b a order)

-- ---- each form

client_event_back : (made : Characters → Event) (fs : Given) (client : Characters) → found (field_name Client) fs ≡ Some (written_text client) → IsText client → event_of_client made (object (fields fs)) ≡ Ok (made client)
unfolding event_of_client
client_event_back made fs client h r = rw (client_is fs client h r)

counted_back : (made : Characters → HowMany → Event) (word : List ℕ) (client : Characters) (n : HowMany) → IsText client → IsWellFormedCount n → counted_event made (object (fields (counted_fields word client n))) ≡ Ok (made client n)
unfolding counted_event field_name
counted_back made word client n r h =
    let fs = counted_fields word client n in
    rw (client_is fs client refl r, field_is fs Count (written_how_many n) refl, count_back n h)

guest_event_back : (made : Characters → Event) (fs : Given) (guest : Characters) → found (field_name GuestField) fs ≡ Some (written_text guest) → IsText guest → guest_event made (object (fields fs)) ≡ Ok (made guest)
unfolding guest_event
guest_event_back made fs guest h r = rw (text_is fs GuestField guest h r)

start_back : (client : Characters) (from : Option Characters) → IsText client → IsGivenText from → start_event (object (fields (start_fields client from))) ≡ Ok (Start client from)
unfolding start_event field_name
start_back client from r g =
    let fs = start_fields client from in
    rw (client_is fs client refl r, field_is fs From (option_map written_text from) refl, from_back from g)

offer_back : (client text : Characters) → IsText client → IsText text → offer_event (object (fields (offer_fields client text))) ≡ Ok (Offer client text)
unfolding offer_event field_name
offer_back client text r g = let fs = offer_fields client text in rw (client_is fs client refl r, text_is fs MessageText text refl g)

submit_back : (guest text : Characters) → IsText guest → IsText text → submit_event (object (fields (submit_fields guest text))) ≡ Ok (Submit guest text)
unfolding submit_event field_name
submit_back guest text r g = let fs = submit_fields guest text in rw (text_is fs GuestField guest refl r, text_is fs MessageText text refl g)

overlap_back : (client label : Characters) (a b : ℕ) → IsText client → IsText label → IsTrue (is_range a b) → overlap_event (object (fields (overlap_fields client label a b))) ≡ Ok (Overlap client label a b)
unfolding overlap_event field_name
overlap_back client label a b r g h =
    let fs = overlap_fields client label a b in
    rw (client_is fs client refl r, text_is fs Label label refl g, places_back fs a b refl refl h)

blame_back : (client : Characters) (a b : ℕ) → IsText client → IsTrue (is_range a b) → blame_event (object (fields (blame_fields client a b))) ≡ Ok (Blame client a b)
unfolding blame_event field_name
blame_back client a b r h = let fs = blame_fields client a b in rw (client_is fs client refl r, places_back fs a b refl refl h)

-- what is read as an operation is an object
text_object : (op : TextOp) (d : Data) → text_op d ≡ Ok op → is_object d ≡ true
unfolding text_op
text_object op d h = (test_held (is_object d) _ _ op h).0

grid_object : (op : GridOp) (d : Data) → grid_op d ≡ Ok op → is_object d ≡ true
unfolding grid_op
grid_object op d h = (test_held (is_object d) _ _ op h).0

edit_op_back : (op : ChannelOp) → IsRepresentable op → IsWellFormed op → edit_op (address_word op) (Some (written op)) ≡ Ok op
edit_op_back (Text op) r h =
    let reads : text_op (written (Text op)) ≡ Ok op = op_back (Text op) r h in
    rw (text_object op (written (Text op)) reads, reads)
edit_op_back (Grid op) r h =
    let reads : grid_op (written (Grid op)) ≡ Ok op = op_back (Grid op) r h in
    rw (grid_object op (written (Grid op)) reads, reads)

-- an address is its word
address_string : (op : ChannelOp) → written_address op ≡ string (address_word op)
address_string (Text op) = refl
address_string (Grid op) = refl

address_chars : (op : ChannelOp) → chars (address_word op) ≡ address_word op
unfolding chars
address_chars (Text op) = refl
address_chars (Grid op) = refl

address_known : (op : ChannelOp) → is_known_address (address_word op) ≡ Ok (address_word op)
address_known (Text op) = refl
address_known (Grid op) = refl

address_is : (fs : Given) (word : List ℕ) → found (field_name Address) fs ≡ Some (string word) → chars word ≡ word → text_field (object (fields fs)) Address ≡ Ok word
unfolding text_field
address_is fs word h e = rw (field_is fs Address (Some (string word)) h, e)

edit_back : (client : Characters) (op : ChannelOp) → IsText client → IsRepresentable op → IsWellFormed op → edit_event (object (fields (edit_fields client op))) ≡ Ok (Edit client op)
unfolding edit_event field_name
edit_back client op r g h =
    let fs = edit_fields client op in
    rw (
      client_is fs client refl r,
      address_is fs (address_word op) (ap Some (address_string op)) (address_chars op),
      address_known op,
      field_is fs Op (Some (written op)) refl,
      edit_op_back op g h,
    )

-- ---- events

-- an event is that of its word
word_is : (fs : Given) (word : List ℕ) (e : Event) → found (field_name Do) fs ≡ Some (string word) → chars word ≡ word → event_for word (object (fields fs)) ≡ Ok e → event_of (object (fields fs)) ≡ Ok e
unfolding event_of
word_is fs word e h same reads = rw (str_is fs Do word h, same, reads)

event_of_back : (e : Event) → IsRepresentableEvent e → IsWellFormedEvent e → event_of (written_event e) ≡ Ok e
unfolding chars field_name
event_of_back (Start client from) r h = word_is (start_fields client from) (codes "start") _ refl refl (start_back client from r.0 r.1)
event_of_back (Connect client) r h = word_is (client_fields (codes "connect") client) (codes "connect") _ refl refl (client_event_back Connect (client_fields (codes "connect") client) client refl r)
event_of_back (Drop client) r h = word_is (client_fields (codes "drop") client) (codes "drop") _ refl refl (client_event_back Drop (client_fields (codes "drop") client) client refl r)
event_of_back (Edit client op) r h = word_is (edit_fields client op) (codes "edit") _ refl refl (edit_back client op r.0 r.1 h)
event_of_back (Ticket client n) r h = word_is (counted_fields (codes "ticket") client n) (codes "ticket") _ (counted_word (codes "ticket") client n) refl (counted_back Ticket (codes "ticket") client n r h)
event_of_back (Deliver client n) r h = word_is (counted_fields (codes "deliver") client n) (codes "deliver") _ (counted_word (codes "deliver") client n) refl (counted_back Deliver (codes "deliver") client n r h)
event_of_back (Noop client) r h = word_is (client_fields (codes "noop") client) (codes "noop") _ refl refl (client_event_back Noop (client_fields (codes "noop") client) client refl r)
event_of_back (Show client) r h = word_is (client_fields (codes "show") client) (codes "show") _ refl refl (client_event_back Show (client_fields (codes "show") client) client refl r)
event_of_back (Queue client) r h = word_is (client_fields (codes "queue") client) (codes "queue") _ refl refl (client_event_back Queue (client_fields (codes "queue") client) client refl r)
event_of_back (Compact client) r h = word_is (client_fields (codes "compact") client) (codes "compact") _ refl refl (client_event_back Compact (client_fields (codes "compact") client) client refl r)
event_of_back (Summary client) r h = word_is (client_fields (codes "summary") client) (codes "summary") _ refl refl (client_event_back Summary (client_fields (codes "summary") client) client refl r)
event_of_back (Offer client text) r h = word_is (offer_fields client text) (codes "offer") _ refl refl (offer_back client text r.0 r.1)
event_of_back History r h = word_is (word_field (codes "history") ∷ []) (codes "history") _ refl refl refl
event_of_back (Guest guest) r h = word_is (guest_fields (codes "guest") guest) (codes "guest") _ refl refl (guest_event_back Guest (guest_fields (codes "guest") guest) guest refl r)
event_of_back (Submit guest text) r h = word_is (submit_fields guest text) (codes "submit") _ refl refl (submit_back guest text r.0 r.1)
event_of_back (Part guest) r h = word_is (guest_fields (codes "part") guest) (codes "part") _ refl refl (guest_event_back Part (guest_fields (codes "part") guest) guest refl r)
event_of_back (Overlap client label a b) r h = word_is (overlap_fields client label a b) (codes "overlap") _ refl refl (overlap_back client label a b r.0 r.1 h)
event_of_back (Blame client a b) r h = word_is (blame_fields client a b) (codes "blame") _ refl refl (blame_back client a b r h)
event_of_back (Authors client) r h = word_is (client_fields (codes "authors") client) (codes "authors") _ refl refl (client_event_back Authors (client_fields (codes "authors") client) client refl r)

-- ---- canonical, and of few levels

-- the fields of an event are canonical values of few levels
record AreGiven (e : Event) : Type 0 where
  fs : Given
  same : written_event e ≡ object (fields fs)
  rise : keys_rise fs ≡ true
  canonical : AllByRecursion (λ f. IsCanonicalIfGiven f.1) fs
  within : AllByRecursion (λ f. HasAtMost 126 f.1) fs

client_given : (e : Event) (word : List ℕ) (client : Characters) → written_event e ≡ object (fields (client_fields word client)) → are_ascii word ≡ true → IsText client → AreGiven e
client_given e word client same ascii r =
    record { fs = client_fields word client; same = same; rise = refl; canonical = (canonical_text client r, (canonical_word word ascii, tt)); within = (omega arith, (omega arith, tt)) }

guest_given : (e : Event) (word : List ℕ) (guest : Characters) → written_event e ≡ object (fields (guest_fields word guest)) → are_ascii word ≡ true → IsText guest → AreGiven e
guest_given e word guest same ascii r =
    record { fs = guest_fields word guest; same = same; rise = refl; canonical = (canonical_word word ascii, (canonical_text guest r, tt)); within = (omega arith, (omega arith, tt)) }

count_given : (n : HowMany) → IsWellFormedCount n → IsCanonicalIfGiven (written_how_many n)
count_given All h = canonical_word (codes "all") refl
count_given (Num zero) h = canonical_count 0 h
count_given (Num (suc zero)) h = tt
count_given (Num (suc (suc n))) h = canonical_count (suc (suc n)) h

count_within : (n : HowMany) → HasAtMost 126 (written_how_many n)
count_within All = omega arith
count_within (Num zero) = omega arith
count_within (Num (suc zero)) = tt
count_within (Num (suc (suc n))) = omega arith

counted_given : (e : Event) (word : List ℕ) (client : Characters) (n : HowMany) → written_event e ≡ object (fields (counted_fields word client n)) → are_ascii word ≡ true → IsText client → IsWellFormedCount n → AreGiven e
counted_given e word client n same ascii r h = record {
  fs = counted_fields word client n;
  same = same;
  rise = refl;
  canonical = (canonical_text client r, (count_given n h, (canonical_word word ascii, tt)));
  within = (omega arith, (count_within n, (omega arith, tt)));
}

from_given : (from : Option Characters) → IsGivenText from → IsCanonicalIfGiven (option_map written_text from)
from_given None r = tt
from_given (Some name) r = canonical_text name r

from_within : (from : Option Characters) → HasAtMost 126 (option_map written_text from)
from_within None = tt
from_within (Some name) = omega arith

address_given : (op : ChannelOp) → IsCanonical (written_address op)
address_given (Text op) = canonical_word (codes "text") refl
address_given (Grid op) = canonical_word (codes "grid") refl

address_within : (op : ChannelOp) → depth (written_address op) ≤ 126
address_within (Text op) = omega arith
address_within (Grid op) = omega arith

small_start : (a b : ℕ) → IsTrue (is_range a b) → IsTrue (is_count a)
small_start a b e =
    let parts = both (nat_le a b) (is_count b) e in
    let order = leb-true a b parts.0 in
    let last = ltb-true b (2 ^ 53) parts.1 in
    lt-ltb a (2 ^ 53) (omega arith)

given : (e : Event) → IsRepresentableEvent e → IsWellFormedEvent e → AreGiven e
given (Start client from) r h = record {
  fs = start_fields client from;
  same = refl;
  rise = refl;
  canonical = (canonical_text client r.0, (canonical_word (codes "start") refl, (from_given from r.1, tt)));
  within = (omega arith, (omega arith, (from_within from, tt)));
}
given (Connect client) r h = client_given _ (codes "connect") client refl refl r
given (Drop client) r h = client_given _ (codes "drop") client refl refl r
given (Edit client op) r h = record {
  fs = edit_fields client op;
  same = refl;
  rise = refl;
  canonical = (address_given op, (canonical_text client r.0, (canonical_word (codes "edit") refl, (canonical_op op r.1 h, tt))));
  within = (address_within op, (omega arith, (omega arith, (omega (arith, op_levels op h), tt))));
}
given (Ticket client n) r h = counted_given _ (codes "ticket") client n refl refl r h
given (Deliver client n) r h = counted_given _ (codes "deliver") client n refl refl r h
given (Noop client) r h = client_given _ (codes "noop") client refl refl r
given (Show client) r h = client_given _ (codes "show") client refl refl r
given (Queue client) r h = client_given _ (codes "queue") client refl refl r
given (Compact client) r h = client_given _ (codes "compact") client refl refl r
given (Summary client) r h = client_given _ (codes "summary") client refl refl r
given (Offer client text) r h = record {
  fs = offer_fields client text;
  same = refl;
  rise = refl;
  canonical = (canonical_text client r.0, (canonical_word (codes "offer") refl, (canonical_text text r.1, tt)));
  within = (omega arith, (omega arith, (omega arith, tt)));
}
given History r h = record { fs = word_field (codes "history") ∷ []; same = refl; rise = refl; canonical = (canonical_word (codes "history") refl, tt); within = (omega arith, tt) }
given (Guest guest) r h = guest_given _ (codes "guest") guest refl refl r
given (Submit guest text) r h = record {
  fs = submit_fields guest text;
  same = refl;
  rise = refl;
  canonical = (canonical_word (codes "submit") refl, (canonical_text guest r.0, (canonical_text text r.1, tt)));
  within = (omega arith, (omega arith, (omega arith, tt)));
}
given (Part guest) r h = guest_given _ (codes "part") guest refl refl r
given (Overlap client label a b) r h = record {
  fs = overlap_fields client label a b;
  same = refl;
  rise = refl;
  canonical = (canonical_text client r.0, (canonical_word (codes "overlap") refl, (canonical_count b (both (nat_le a b) (is_count b) h).1, (canonical_text label r.1, (canonical_count a (small_start a b h), tt)))));
  within = (omega arith, (omega arith, (omega arith, (omega arith, (omega arith, tt)))));
}
given (Blame client a b) r h = record {
  fs = blame_fields client a b;
  same = refl;
  rise = refl;
  canonical = (canonical_text client r, (canonical_word (codes "blame") refl, (canonical_count b (both (nat_le a b) (is_count b) h).1, (canonical_count a (small_start a b h), tt))));
  within = (omega arith, (omega arith, (omega arith, (omega arith, tt))));
}
given (Authors client) r h = client_given _ (codes "authors") client refl refl r

event_canonical : (e : Event) → AreGiven e → IsCanonical (written_event e)
event_canonical e g = subst IsCanonical (sym g.same) (canonical_fields g.fs g.rise g.canonical)

pub canonical_event : (e : Event) → IsRepresentableEvent e → IsWellFormedEvent e → IsCanonical (written_event e)
canonical_event e r h = event_canonical e (given e r h)

event_levels : (e : Event) → AreGiven e → depth (written_event e) ≤ 127
event_levels e g = subst (λ d. depth d ≤ 127) (sym g.same) (let within = fields_within 126 g.fs g.within in omega (arith, within))

pub event_back : (e : Event) → IsRepresentableEvent e → IsWellFormedEvent e → event (compact_text (written_event e)) ≡ Ok e
unfolding event
event_back e r h =
    let g = given e r h in
    rw (read_line-compact_text (written_event e) (event_canonical e g) (event_levels e g), event_of_back e r h)
