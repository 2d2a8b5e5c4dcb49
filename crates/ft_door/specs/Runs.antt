-- What is said of a session that is held between calls, and of what of its report was read.
use Rattle.std.specs.Prelude.{◌≡◌, ℕ, ◌+◌, ◌<◌, ◌≤◌, ◌||◌, IsTrue, nat_eq, List, [], ◌∷◌, ◌++◌, length, take, drop, Option, Some, None}
use Rattle.ft_io.specs.Reader.{input_limit}
use Rattle.ft_msg.specs.declared.replica.Replica.{Ghosts}
use Rattle.ft_replay.specs.declared.session_replay.SessionReplay.{SessionReplay}
use Rattle.ft_replay.specs.SessionReplays.{HasHeard, end_bytes, heard_ending, heard_refused, line_bytes, lines_bytes, report_bytes}
use Rattle.ft_replay.specs.Writing.{Begins}
use Rattle.ft_door.specs.declared.sessions.HeldSession.{HeldSession}
use Rattle.ft_report.specs.Reports.{ending_number}

-- what of the report wasn't read yet
abbrev pub unread_of : {R : Type 0} {g : Ghosts R} → HeldSession R g → List ℕ
unread_of run = drop run.waiting.taken run.waiting.bytes.items

-- a session that goes on has heard these lines
abbrev pub SessionGoesOn : {R : Type 0} {g : Ghosts R} → Option (SessionReplay R g) → List (List ℕ) → Type 0
SessionGoesOn None heard = ⊥
SessionGoesOn (Some s) heard = HasHeard s.run.world s.lines s.refused heard

-- it has heard these lines, and of what they write this was read: the rest is still to be read
pub record Stands {R : Type 0} {g : Ghosts R} (run : HeldSession R g) (heard : List (List ℕ)) (read : List ℕ) : Type 0 where
  pub session : SessionGoesOn run.session heard
  pub report : read ++ unread_of run ≡ lines_bytes heard

-- the session is closed, and of the report of these lines this was read
pub record IsClosed {R : Type 0} {g : Ghosts R} (run : HeldSession R g) (heard : List (List ℕ)) (read : List ℕ) : Type 0 where
  pub session : run.session ≡ None
  pub report : read ++ unread_of run ≡ report_bytes heard

-- the session is at its end, and behind these bytes, of which this was read, only the first of more were written
pub record Breaks {R : Type 0} {g : Ghosts R} (run : HeldSession R g) (bytes more read : List ℕ) : Type 0 where
  pub session : run.session ≡ None
  pub written : List ℕ
  pub begins : Begins written more
  pub report : read ++ unread_of run ≡ bytes ++ written

-- what a number tells of a line that was given to a session: it was heard, and refused just where the number is 1; there was no memory, and it
-- writes only its first bytes; the session has as many lines as it may have, or it is at its end, and nothing changed. One that is at its end
-- is told so at each line
pub record HearsLine {R : Type 0} {g : Ghosts R} (old new : HeldSession R g) (line : List ℕ) (status : ℕ) : Type 0 where
  pub heard : (heard : List (List ℕ)) → (read : List ℕ) → status ≤ 1 → Stands old heard read → Stands new (heard ++ line ∷ []) read
  pub refused : (heard : List (List ℕ)) → (read : List ℕ) → status ≤ 1 → Stands old heard read → heard_refused (heard ++ line ∷ []) ≡ heard_refused heard + status
  pub broken : (heard : List (List ℕ)) → (read : List ℕ) → status ≡ 5 → Stands old heard read → Breaks new (lines_bytes heard) (line_bytes heard line) read
  pub full : (heard : List (List ℕ)) → (read : List ℕ) → status ≡ 6 → Stands old heard read → input_limit < length heard
  pub same : 6 ≤ status → new ≡ old
  pub closed : status ≡ 7 → old.session ≡ None
  pub known : IsTrue (nat_eq status 0 || (nat_eq status 1 || (nat_eq status 5 || (nat_eq status 6 || nat_eq status 7))))
  pub after_end : old.session ≡ None → (status ≡ 7) × (new ≡ old)

-- what a number tells of a session that was closed: how the report of its lines ends; or there was no memory, and only the
-- first bytes of what ends it are there; or it was at its end before, and nothing changed. One that was is told so
pub record ClosesSession {R : Type 0} {g : Ghosts R} (old new : HeldSession R g) (status : ℕ) : Type 0 where
  pub closed : (heard : List (List ℕ)) → (read : List ℕ) → status ≤ 1 → Stands old heard read → IsClosed new heard read
  pub ends : (heard : List (List ℕ)) → (read : List ℕ) → status ≤ 1 → Stands old heard read → status ≡ ending_number (heard_ending heard)
  pub broken : (heard : List (List ℕ)) → (read : List ℕ) → status ≡ 5 → Stands old heard read → Breaks new (lines_bytes heard) (end_bytes heard) read
  pub same : status ≡ 7 → new ≡ old
  pub none : status ≡ 7 → old.session ≡ None
  pub known : IsTrue (nat_eq status 0 || (nat_eq status 1 || (nat_eq status 5 || nat_eq status 7)))
  pub after_end : old.session ≡ None → (status ≡ 7) × (new ≡ old)

-- the next bytes of the report were read into the first of the room
pub record ReadsReport {R : Type 0} {g : Ghosts R} (old new : HeldSession R g) (room : List ℕ) (count : ℕ) : Type 0 where
  pub within : count ≤ length room
  pub whole : count < length room → unread_of new ≡ []
  pub report : take count room ++ unread_of new ≡ unread_of old
  pub session : new.session ≡ old.session
