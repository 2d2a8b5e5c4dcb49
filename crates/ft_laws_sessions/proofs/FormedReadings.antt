-- A message, a draft and an event that are read of a regular value are well formed.
use Rattle.std.proofs.Common.{◌≡◌, ℕ, Bool, true, false, List, Option, Some, None, Result, Ok, cond, refl, subst, arith, lt-ltb, chars, codes, bytes_eq, nat_le, nat_lt}
use Rattle.std.specs.Prelude.{◌^◌, ◌&&◌, IsTrue}
use Rattle.std.proofs.lemmas.Bool.Decides.{nat_tests}
use Rattle.serde_json.specs.Data.{Data}
use Rattle.serde_json.specs.Find.{as_str}
use Rattle.ft_json.specs.declared.fields.Field.TheVariants.{Address, ClientSequenceNumber, Contents, Count, Do, End, From, Guest, Kind, Label, Message as MessageText, Op as OpField, ReferenceSequenceNumber, Start as StartPlace}
use Rattle.ft_json.specs.Reading.{count, count_field, field, str_field, text_field}
use Rattle.ft_json.proofs.Counts.{count-below}
use Rattle.ft_props.specs.Properties.{Characters}
use Rattle.ft_op.specs.declared.operations.ChannelOp.{ChannelOp}
use Rattle.ft_op.specs.declared.operations.ChannelOp.TheVariants.{Text, Grid}
use Rattle.ft_op.specs.Reading.{is_object}
use Rattle.ft_op.specs.TextGrammar.{text_op}
use Rattle.ft_op.specs.GridGrammar.{grid_op}
use Rattle.ft_op.specs.WellFormed.{IsWellFormed, is_range}
use Rattle.ft_op.proofs.ReadNumbers.{count_field-is_count, either_way}
use Rattle.ft_op.proofs.ReadSteps.{fault_step, read_step, same_value, test_failed, test_held}
use Rattle.ft_msg.specs.declared.faults.Cause.{Cause}
use Rattle.ft_msg.specs.declared.messages.Body.{Body}
use Rattle.ft_msg.specs.declared.messages.Body.TheVariants.{Nothing, Op, Elsewhere}
use Rattle.ft_msg.specs.declared.messages.Draft.{Draft}
use Rattle.ft_msg.specs.declared.messages.Message.{Message}
use Rattle.ft_msg.specs.declared.messages.MsgKind.{MsgKind}
use Rattle.ft_msg.specs.declared.messages.MsgKind.TheVariants as kinds
use Rattle.ft_msg.specs.Causes.{cause_of_field, cause_of_op}
use Rattle.ft_msg.specs.MessageGrammar.{addressed, body_of, contents_body, contents_with, draft_body, draft_of, grid_body, message_of, needed_body, op_body, text_body}
use Rattle.ft_msg.specs.WellFormed.{IsWellFormedBody, IsWellFormedDraft, IsWellFormedMessage}
use Rattle.ft_msg.proofs.ReadMessages.{draft_of-formed, message_of-fields, message_of-formed}
use Rattle.ft_seqr.specs.declared.events.HowMany.{HowMany}
use Rattle.ft_seqr.specs.declared.events.HowMany.TheVariants.{Num, All}
use Rattle.ft_seqr.specs.declared.events.Event.{Event}
use Rattle.ft_seqr.specs.declared.events.Event.TheVariants as events
use Rattle.ft_seqr.specs.EventGrammar.{blame_event, event_of_client, client_name_field, count_word, counted_event, edit_event, edit_op, event_for, event_of, given_count, given_from, guest_event, count_or_all, is_known_address, later_event, offer_event, op_for, overlap_event, places, start_event, submit_event}
use Rattle.ft_seqr.specs.WellFormedEvent.{IsWellFormedCount, IsWellFormedEvent}
use Rattle.ft_laws_sessions.proofs.FormedOperations.{grid_op-formed, text_op-formed}
use Rattle.ft_laws_sessions.proofs.RegularValues.{IsRegular, IsRegularIfGiven, field-regular}

-- ---- bodies

text_body-formed : (d : Data) (body : Body) → IsRegular d → text_body d ≡ Ok body → IsWellFormedBody body
unfolding text_body
text_body-formed d body r e =
    let op = fault_step cause_of_op (text_op d) _ body e in
    subst IsWellFormedBody (same_value (Op (Text op.0)) body _ refl op.2) (text_op-formed d op.0 r op.1)

grid_body-formed : (d : Data) (body : Body) → IsRegular d → grid_body d ≡ Ok body → IsWellFormedBody body
unfolding grid_body
grid_body-formed d body r e =
    let op = fault_step cause_of_op (grid_op d) _ body e in
    subst IsWellFormedBody (same_value (Op (Grid op.0)) body _ refl op.2) (grid_op-formed d op.0 r op.1)

needed-formed : (reads : Data → Result Body Cause) → ((d : Data) (body : Body) → IsRegular d → reads d ≡ Ok body → IsWellFormedBody body)
    → (o : Option Data) (body : Body) → IsRegularIfGiven o → needed_body reads o ≡ Ok body → IsWellFormedBody body
needed-formed reads f None body r e = (cc)
needed-formed reads f (Some d) body r e = f d body r e

elsewhere-formed : (b : Bool) (d : Data) (address : Characters) (body : Body) → bytes_eq address (codes "text") ≡ false → bytes_eq address (codes "grid") ≡ b → IsRegular d
    → cond b (needed_body grid_body (field d Contents)) (Ok (Elsewhere address)) ≡ Ok body → IsWellFormedBody body
elsewhere-formed true d address body h k r e = needed-formed grid_body grid_body-formed (field d Contents) body (field-regular d Contents r) e
elsewhere-formed false d address body h k r e = subst IsWellFormedBody (same_value (Elsewhere address) body _ refl e) (h, k)

for-formed : (b : Bool) (d : Data) (address : Characters) (body : Body) → bytes_eq address (codes "text") ≡ b → IsRegular d
    → cond b (needed_body text_body (field d Contents)) (cond (bytes_eq address (codes "grid")) (needed_body grid_body (field d Contents)) (Ok (Elsewhere address))) ≡ Ok body
    → IsWellFormedBody body
for-formed true d address body h r e = needed-formed text_body text_body-formed (field d Contents) body (field-regular d Contents r) e
for-formed false d address body h r e = elsewhere-formed (bytes_eq address (codes "grid")) d address body h refl r e

addressed-formed : (d : Data) (o : Option (List ℕ)) (body : Body) → IsRegular d → addressed d o ≡ Ok body → IsWellFormedBody body
addressed-formed d None body r e = (cc)
addressed-formed d (Some text) body r e = for-formed (bytes_eq (chars text) (codes "text")) d (chars text) body refl r e

contents_with-formed : (d : Data) (o : Option Data) (body : Body) → IsRegular d → contents_with d o ≡ Ok body → IsWellFormedBody body
contents_with-formed d None body r e = text_body-formed d body r e
contents_with-formed d (Some address) body r e = addressed-formed d (as_str address) body r e

contents-formed : (d : Data) (body : Body) → IsRegular d → contents_body d ≡ Ok body → IsWellFormedBody body
unfolding contents_body
contents-formed d body r e = contents_with-formed d (field d Address) body r (test_held (is_object d) _ _ body e).1

op_body-formed : (d : Data) (body : Body) → IsRegular d → op_body d ≡ Ok body → IsWellFormedBody body
unfolding op_body
op_body-formed d body r e = needed-formed contents_body contents-formed (field d Contents) body (field-regular d Contents r) e

-- ---- messages and drafts

nothing-formed : (body : Body) (r : Result Body Cause) → r ≡ Ok Nothing → r ≡ Ok body → IsWellFormedBody body
nothing-formed body r e f = subst IsWellFormedBody (same_value Nothing body r e f) tt

body_of-formed : (kind : MsgKind) (d : Data) (body : Body) → IsRegular d → body_of kind d ≡ Ok body → IsWellFormedBody body
body_of-formed kinds.Op d body r e = op_body-formed d body r e
body_of-formed kinds.Join d body r e = nothing-formed body _ refl e
body_of-formed kinds.Leave d body r e = nothing-formed body _ refl e
body_of-formed kinds.Noop d body r e = nothing-formed body _ refl e
body_of-formed (kinds.Other word) d body r e = nothing-formed body _ refl e

pub message-formed : (d : Data) (m : Message) → IsRegular d → message_of d ≡ Ok m → IsWellFormedMessage m
message-formed d m r e = let fields = message_of-fields d m e in message_of-formed d m e (body_of-formed m.kind d m.body r fields.body)

draft_body-formed : (d : Data) (word : List ℕ) (body : Body) → IsRegular d → draft_body d word ≡ Ok body → IsWellFormedBody body
draft_body-formed d word body r e =
    either_way IsWellFormedBody (bytes_eq word (codes "op")) _ _ body (op_body-formed d body r)
    (λ h. nothing-formed body _ refl (test_held (bytes_eq word (codes "noop")) (Ok Nothing) _ body h).1) e

abbrev HasWellFormedBody : Draft → Type 0
HasWellFormedBody r = IsWellFormedBody r.body

body_of_draft-formed : (d : Data) (draft : Draft) → IsRegular d → draft_of d ≡ Ok draft → HasWellFormedBody draft
unfolding draft_of
body_of_draft-formed d draft r e =
    let client_seq = fault_step cause_of_field (count_field d ClientSequenceNumber) _ draft (test_held (is_object d) _ _ draft e).1 in
    let ref_seq = fault_step cause_of_field (count_field d ReferenceSequenceNumber) _ draft client_seq.2 in
    let word = fault_step cause_of_field (str_field d Kind) _ draft ref_seq.2 in
    let body = read_step (draft_body d word.0) _ draft word.2 in
    subst HasWellFormedBody (same_value (record { client_seq = client_seq.0; ref_seq = ref_seq.0; body = body.0 }) draft _ refl body.2) (draft_body-formed d word.0 body.0 r body.1)

pub draft-formed : (d : Data) (draft : Draft) → IsRegular d → draft_of d ≡ Ok draft → IsWellFormedDraft draft
draft-formed d draft r e = draft_of-formed d draft e (body_of_draft-formed d draft r e)

-- ---- the parts of events

word-formed : (o : Option (List ℕ)) (n : HowMany) → count_word o ≡ Ok n → IsWellFormedCount n
word-formed None n e = (cc)
word-formed (Some word) n e = subst IsWellFormedCount (same_value All n _ refl (test_held (bytes_eq word (codes "all")) _ _ n e).1) tt

how_many-formed : (o : Option ℕ) (d : Data) (n : HowMany) → count d ≡ o → count_or_all o d ≡ Ok n → IsWellFormedCount n
how_many-formed (Some k) d n h e = subst IsWellFormedCount (same_value (Num k) n _ refl e) (lt-ltb k (2 ^ 53) (count-below d k h))
how_many-formed None d n h e = word-formed (as_str d) n e

given_count-formed : (o : Option Data) (n : HowMany) → given_count o ≡ Ok n → IsWellFormedCount n
given_count-formed None n e = subst IsWellFormedCount (same_value (Num 1) n _ refl e) refl
given_count-formed (Some d) n e = how_many-formed (count d) d n refl e

in_order : (a b : ℕ) → nat_lt b a ≡ false → nat_lt b (2 ^ 53) ≡ true → (nat_le a b && nat_lt b (2 ^ 53)) ≡ true
in_order a b h k = grind (arith, nat_tests)

abbrev IsRange : ℕ × ℕ → Type 0
IsRange range = IsTrue (is_range range.0 range.1)

places-formed : (d : Data) (range : ℕ × ℕ) → places d ≡ Ok range → IsRange range
unfolding places
places-formed d range e =
    let a = fault_step cause_of_field (count_field d StartPlace) _ range e in
    let b = fault_step cause_of_field (count_field d End) _ range a.2 in
    let tested = test_failed (nat_lt b.0 a.0) _ _ range b.2 in
    subst IsRange (same_value (a.0, b.0) range _ refl tested.1) (in_order a.0 b.0 tested.0 (count_field-is_count d End b.0 b.1))

op_for-formed : (address : Characters) (d : Data) (op : ChannelOp) → IsRegular d → op_for address d ≡ Ok op → IsWellFormed op
op_for-formed address d op r e =
    either_way IsWellFormed (bytes_eq address (codes "text")) _ _ op
    (λ h. let text = fault_step cause_of_op (text_op d) _ op h in subst IsWellFormed (same_value (Text text.0) op _ refl text.2) (text_op-formed d text.0 r text.1))
    (λ h. let cells = fault_step cause_of_op (grid_op d) _ op h in subst IsWellFormed (same_value (Grid cells.0) op _ refl cells.2) (grid_op-formed d cells.0 r cells.1)) e

edit_op-formed : (address : Characters) (o : Option Data) (op : ChannelOp) → IsRegularIfGiven o → edit_op address o ≡ Ok op → IsWellFormed op
edit_op-formed address None op r e = (cc)
edit_op-formed address (Some d) op r e = op_for-formed address d op r (test_held (is_object d) _ _ op e).1

-- ---- events

-- an event that is made of a name alone is well formed if each is
client_event-formed : (made : Characters → Event) → ((client : Characters) → IsWellFormedEvent (made client)) → (d : Data) (ev : Event) → event_of_client made d ≡ Ok ev
    → IsWellFormedEvent ev
unfolding event_of_client
client_event-formed made f d ev e =
    let client = read_step (client_name_field d) _ ev e in
    subst IsWellFormedEvent (same_value (made client.0) ev _ refl client.2) (f client.0)

guest_event-formed : (made : Characters → Event) → ((guest : Characters) → IsWellFormedEvent (made guest)) → (d : Data) (ev : Event) → guest_event made d ≡ Ok ev
    → IsWellFormedEvent ev
unfolding guest_event
guest_event-formed made f d ev e =
    let guest = fault_step cause_of_field (text_field d Guest) _ ev e in
    subst IsWellFormedEvent (same_value (made guest.0) ev _ refl guest.2) (f guest.0)

counted_event-formed : (made : Characters → HowMany → Event) → ((client : Characters) (n : HowMany) → IsWellFormedCount n → IsWellFormedEvent (made client n))
    → (d : Data) (ev : Event) → counted_event made d ≡ Ok ev → IsWellFormedEvent ev
unfolding counted_event
counted_event-formed made f d ev e =
    let client = read_step (client_name_field d) _ ev e in
    let n = read_step (given_count (field d Count)) _ ev client.2 in
    subst IsWellFormedEvent (same_value (made client.0 n.0) ev _ refl n.2) (f client.0 n.0 (given_count-formed (field d Count) n.0 n.1))

start-formed : (d : Data) (ev : Event) → start_event d ≡ Ok ev → IsWellFormedEvent ev
unfolding start_event
start-formed d ev e =
    let client = read_step (client_name_field d) _ ev e in
    let from = read_step (given_from (field d From)) _ ev client.2 in
    subst IsWellFormedEvent (same_value (events.Start client.0 from.0) ev _ refl from.2) tt

edit-formed : (d : Data) (ev : Event) → IsRegular d → edit_event d ≡ Ok ev → IsWellFormedEvent ev
unfolding edit_event
edit-formed d ev r e =
    let client = read_step (client_name_field d) _ ev e in
    let word = fault_step cause_of_field (text_field d Address) _ ev client.2 in
    let address = read_step (is_known_address word.0) _ ev word.2 in
    let op = read_step (edit_op address.0 (field d OpField)) _ ev address.2 in
    subst IsWellFormedEvent (same_value (events.Edit client.0 op.0) ev _ refl op.2) (edit_op-formed address.0 (field d OpField) op.0 (field-regular d OpField r) op.1)

offer-formed : (d : Data) (ev : Event) → offer_event d ≡ Ok ev → IsWellFormedEvent ev
unfolding offer_event
offer-formed d ev e =
    let client = read_step (client_name_field d) _ ev e in
    let text = fault_step cause_of_field (text_field d MessageText) _ ev client.2 in
    subst IsWellFormedEvent (same_value (events.Offer client.0 text.0) ev _ refl text.2) tt

submit-formed : (d : Data) (ev : Event) → submit_event d ≡ Ok ev → IsWellFormedEvent ev
unfolding submit_event
submit-formed d ev e =
    let guest = fault_step cause_of_field (text_field d Guest) _ ev e in
    let text = fault_step cause_of_field (text_field d MessageText) _ ev guest.2 in
    subst IsWellFormedEvent (same_value (events.Submit guest.0 text.0) ev _ refl text.2) tt

overlap-formed : (d : Data) (ev : Event) → overlap_event d ≡ Ok ev → IsWellFormedEvent ev
unfolding overlap_event
overlap-formed d ev e =
    let client = read_step (client_name_field d) _ ev e in
    let label = fault_step cause_of_field (text_field d Label) _ ev client.2 in
    let range = read_step (places d) _ ev label.2 in
    subst IsWellFormedEvent (same_value (events.Overlap client.0 label.0 range.0.0 range.0.1) ev _ refl range.2) (places-formed d range.0 range.1)

blame-formed : (d : Data) (ev : Event) → blame_event d ≡ Ok ev → IsWellFormedEvent ev
unfolding blame_event
blame-formed d ev e =
    let client = read_step (client_name_field d) _ ev e in
    let range = read_step (places d) _ ev client.2 in
    subst IsWellFormedEvent (same_value (events.Blame client.0 range.0.0 range.0.1) ev _ refl range.2) (places-formed d range.0 range.1)

abbrev IsSoIf : Result Event Cause → Type 0
IsSoIf r = (ev : Event) → r ≡ Ok ev → IsWellFormedEvent ev

either : (b : Bool) (x y : Result Event Cause) → IsSoIf x → IsSoIf y → IsSoIf (cond b x y)
either b x y f g ev e = either_way IsWellFormedEvent b x y ev (f ev) (g ev) e

later-formed : (word : List ℕ) (d : Data) → IsSoIf (later_event word d)
later-formed word d =
    either (bytes_eq word (codes "offer")) _ _ (offer-formed d)
    (either (bytes_eq word (codes "history")) _ _ (λ ev e. subst IsWellFormedEvent (same_value events.History ev _ refl e) tt)
    (either (bytes_eq word (codes "guest")) _ _ (guest_event-formed events.Guest (λ guest. tt) d)
    (either (bytes_eq word (codes "submit")) _ _ (submit-formed d)
    (either (bytes_eq word (codes "part")) _ _ (guest_event-formed events.Part (λ guest. tt) d)
    (either (bytes_eq word (codes "overlap")) _ _ (overlap-formed d)
    (either (bytes_eq word (codes "blame")) _ _ (blame-formed d)
    (λ ev e. client_event-formed events.Authors (λ client. tt) d ev (test_held (bytes_eq word (codes "authors")) _ _ ev e).1)))))))

event_for-formed : (word : List ℕ) (d : Data) → IsRegular d → IsSoIf (event_for word d)
event_for-formed word d r =
    either (bytes_eq word (codes "start")) _ _ (start-formed d)
    (either (bytes_eq word (codes "connect")) _ _ (client_event-formed events.Connect (λ client. tt) d)
    (either (bytes_eq word (codes "drop")) _ _ (client_event-formed events.Drop (λ client. tt) d)
    (either (bytes_eq word (codes "edit")) _ _ (λ ev. edit-formed d ev r)
    (either (bytes_eq word (codes "ticket")) _ _ (counted_event-formed events.Ticket (λ client n h. h) d)
    (either (bytes_eq word (codes "deliver")) _ _ (counted_event-formed events.Deliver (λ client n h. h) d)
    (either (bytes_eq word (codes "noop")) _ _ (client_event-formed events.Noop (λ client. tt) d)
    (either (bytes_eq word (codes "show")) _ _ (client_event-formed events.Show (λ client. tt) d)
    (either (bytes_eq word (codes "queue")) _ _ (client_event-formed events.Queue (λ client. tt) d)
    (either (bytes_eq word (codes "compact")) _ _ (client_event-formed events.Compact (λ client. tt) d)
    (either (bytes_eq word (codes "summary")) _ _ (client_event-formed events.Summary (λ client. tt) d) (later-formed word d)))))))))))

pub event-formed : (d : Data) (ev : Event) → IsRegular d → event_of d ≡ Ok ev → IsWellFormedEvent ev
unfolding event_of
event-formed d ev r e =
    let word = fault_step cause_of_field (str_field d Do) _ ev (test_held (is_object d) _ _ ev e).1 in
    event_for-formed (chars word.0) d r ev word.2
