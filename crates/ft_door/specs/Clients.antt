-- What is said of a client that is held between calls, and of what of the bytes that it wrote was read.
use Rattle.std.specs.Prelude.{◌≡◌, ℕ, ◌<◌, ◌≤◌, ◌||◌, Bool, IsTrue, nat_eq, List, [], ◌∷◌, ◌++◌, codes, decimal, drop, take, length, Option, Some, None}
use Rattle.ft_msg.specs.declared.messages.Draft.{Draft}
use Rattle.ft_seqr.specs.declared.refusals.Refusal.{Refusal}
use Rattle.ft_seqr.specs.Refusals.{refusal_number, refusal_text}
use Rattle.ft_seqr.specs.Walk.{Step}
use Rattle.ft_replay.specs.LineForm.{bytes_of}
use Rattle.ft_door.specs.declared.clients.HeldClient.{HeldClient}
use Rattle.ft_changes.specs.declared.changes.ViewChange.{ViewChange}
use Rattle.ft_changes.specs.Shown.{ShownContent, after_changes, shown_content}
use Rattle.ft_change_lines.specs.ChangeTexts.{changes_text}
use Rattle.ft_door.specs.Editors.{EditorState, IsEditor, IsTold, NaiveEditor, draft_bytes, informed, listening, new_editor, shown_lines, with_listener, with_queue}

-- what wasn't read yet of what was written
abbrev pub unread_by : {R : Type 0} → HeldClient R → List ℕ
unread_by run = drop run.waiting.taken run.waiting.bytes.items

-- what is written of a refusal: its number and its text
abbrev pub refusal_bytes : Refusal → List ℕ
refusal_bytes why = bytes_of ((codes "refused " ++ (decimal (refusal_number why) ++ (codes " " ++ refusal_text why))) ∷ [])

-- a client that goes on stands for this editor
abbrev pub ClientGoesOn : Option EditorState → NaiveEditor → Type 0
ClientGoesOn None x = ⊥
ClientGoesOn (Some s) x = IsEditor s x

-- a new one, of which there is nothing to read
pub record IsNew {R : Type 0} (run : HeldClient R) : Type 0 where
  pub client : ClientGoesOn run.client new_editor
  pub unread : unread_by run ≡ []

-- what a call writes that is refused so, if it is
abbrev pub call_bytes : Option Refusal → List ℕ
call_bytes None = []
call_bytes (Some why) = refusal_bytes why

-- the number by which C is told of a call that is refused so, if it is
abbrev pub call_number : Option Refusal → ℕ
call_number None = 0
call_number (Some why) = 1

-- what a number tells of a call that is this step: it was taken, or refused, and then why is written; it was refused, and there was no memory to
-- write why; there was no memory for the call, and the client is at its end; the call was too much, or the client was at its end before, and
-- nothing changed. One that was is told so at each call
pub record CallsClient {R : Type 0} (step : NaiveEditor → Step NaiveEditor) (exceeds : NaiveEditor → Bool) (old new : HeldClient R) (status : ℕ) : Type 0 where
  pub client : (x : NaiveEditor) → status ≤ 1 → ClientGoesOn old.client x → ClientGoesOn new.client (step x).made
  pub told : (x : NaiveEditor) → status ≤ 1 → ClientGoesOn old.client x → status ≡ call_number (step x).refusal
  pub written : (x : NaiveEditor) → status ≤ 1 → ClientGoesOn old.client x → unread_by new ≡ unread_by old ++ call_bytes (step x).refusal
  pub ended : status ≡ 5 → new.client ≡ None
  pub kept : status ≡ 5 → unread_by new ≡ unread_by old
  pub full : (x : NaiveEditor) → status ≡ 6 → ClientGoesOn old.client x → IsTrue (exceeds x)
  pub same : 6 ≤ status → new ≡ old
  pub closed : status ≡ 7 → old.client ≡ None
  pub known : IsTrue (nat_eq status 0 || (nat_eq status 1 || (nat_eq status 2 || (nat_eq status 5 || (nat_eq status 6 || nat_eq status 7)))))
  pub untold : (x : NaiveEditor) → status ≡ 2 → ClientGoesOn old.client x → (why : Refusal) × ((step x).refusal ≡ Some why) × ClientGoesOn new.client (step x).made
  pub silent : status ≡ 2 → unread_by new ≡ unread_by old
  pub after_end : old.client ≡ None → (status ≡ 7) × (new ≡ old)

-- what a number tells of a call for a draft: the oldest one that wasn't sent is written, and counts as sent; there was no memory, or the client is at
-- its end, or there is none, and nothing changed
pub record SendsDraft {R : Type 0} (old new : HeldClient R) (status : ℕ) : Type 0 where
  pub sent : (x : NaiveEditor) → status ≡ 0 → ClientGoesOn old.client x → (d : Draft) × (ds : List Draft) × (x.client.queue ≡ d ∷ ds)
      × ClientGoesOn new.client (with_queue ds x) × (unread_by new ≡ unread_by old ++ draft_bytes d)
  pub none : (x : NaiveEditor) → status ≡ 8 → ClientGoesOn old.client x → x.client.queue ≡ []
  pub client : 5 ≤ status → new.client ≡ old.client
  pub unread : 5 ≤ status → unread_by new ≡ unread_by old
  pub closed : status ≡ 7 → old.client ≡ None
  pub known : IsTrue (nat_eq status 0 || (nat_eq status 5 || (nat_eq status 7 || nat_eq status 8)))
  pub after_end : old.client ≡ None → (status ≡ 7) × (new ≡ old)

-- what a number tells of a call for a view: its lines are written; there was no memory, or the client is at its end
pub record ShowsClient {R : Type 0} (old new : HeldClient R) (status : ℕ) : Type 0 where
  pub shown : (x : NaiveEditor) → status ≡ 0 → ClientGoesOn old.client x → unread_by new ≡ unread_by old ++ bytes_of (shown_lines x)
  pub client : new.client ≡ old.client
  pub unread : 5 ≤ status → unread_by new ≡ unread_by old
  pub closed : status ≡ 7 → old.client ≡ None
  pub known : IsTrue (nat_eq status 0 || (nat_eq status 5 || nat_eq status 7))
  pub after_end : old.client ≡ None → (status ≡ 7) × (new ≡ old)

-- the changes that a client's listener wasn't told yet, if it has one
abbrev pub changes_of : Option EditorState → Option (List ViewChange)
changes_of None = None
changes_of (Some s) = s.told

-- what a number tells of a call by which a listener begins, or there is none any more: what is told leads from nothing then; there was no
-- memory, or the client is at its end, and nothing changed
pub record ListensToClient {R : Type 0} (listens : Bool) (old new : HeldClient R) (status : ℕ) : Type 0 where
  pub client : (x : NaiveEditor) → status ≡ 0 → ClientGoesOn old.client x → ClientGoesOn new.client (with_listener (listening listens) x)
  pub unread : unread_by new ≡ unread_by old
  pub same : 5 ≤ status → new.client ≡ old.client
  pub closed : status ≡ 7 → old.client ≡ None
  pub known : IsTrue (nat_eq status 0 || (nat_eq status 5 || nat_eq status 7))
  pub after_end : old.client ≡ None → (status ≡ 7) × (new ≡ old)

-- the changes of a client, whose texts were written, are all that its listener wasn't told, and just those that are told of its steps; and they
-- lead from what that listener shows to what the client shows
pub record AreTold {R : Type 0} (old new : HeldClient R) (x : NaiveEditor) (shown : ShownContent) (changes : List ViewChange) : Type 0 where
  pub listener : x.listener ≡ Some shown
  pub all : changes_of old.client ≡ Some changes
  pub written : unread_by new ≡ unread_by old ++ changes_text changes
  pub told : IsTold shown changes x.client
  pub lead : after_changes shown changes ≡ shown_content x.client
  pub client : ClientGoesOn new.client (informed x)
  pub none_left : changes_of new.client ≡ Some []

-- what a number tells of a call for changes: their texts are written, in order; there was no memory, or the client is at its end, or nobody
-- listens, and nothing changed
pub record TellsClient {R : Type 0} (old new : HeldClient R) (status : ℕ) : Type 0 where
  pub told : (x : NaiveEditor) → status ≡ 0 → ClientGoesOn old.client x → (shown : ShownContent) × (changes : List ViewChange) × AreTold old new x shown changes
  pub none : (x : NaiveEditor) → status ≡ 8 → ClientGoesOn old.client x → x.listener ≡ None
  pub client : 5 ≤ status → new.client ≡ old.client
  pub unread : 5 ≤ status → unread_by new ≡ unread_by old
  pub closed : status ≡ 7 → old.client ≡ None
  pub known : IsTrue (nat_eq status 0 || (nat_eq status 5 || (nat_eq status 7 || nat_eq status 8)))
  pub after_end : old.client ≡ None → (status ≡ 7) × (new ≡ old)

-- the next bytes were read into the first of the room
pub record ReadsClient {R : Type 0} (old new : HeldClient R) (room : List ℕ) (count : ℕ) : Type 0 where
  pub within : count ≤ length room
  pub whole : count < length room → unread_by new ≡ []
  pub bytes : take count room ++ unread_by new ≡ unread_by old
  pub client : new.client ≡ old.client
