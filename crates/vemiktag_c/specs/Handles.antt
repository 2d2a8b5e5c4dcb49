-- What a call by C does to the session or the client that it holds.
use Rattle.std.specs.Prelude.{◌≡◌, ℕ, ◌≤◌, ◌||◌, IsTrue, nat_eq, List, [], length, Option, Some, None}
use Rattle.ft_door.specs.Clients.{IsNew, ReadsClient, unread_by}
use Rattle.ft_door.specs.Runs.{ClosesSession, HearsLine, ReadsReport, Stands, unread_of}
use Rattle.vemiktag_c.specs.declared.runs.ClientRun.{ClientRun}
use Rattle.vemiktag_c.specs.declared.handles.Handle.{Handle}
use Rattle.vemiktag_c.specs.declared.asks.Role.{Role}
use Rattle.vemiktag_c.specs.Asks.{IsNewAs}
use Rattle.vemiktag_c.specs.Opening.{open_run}

-- the run that a handle holds, where it is open
abbrev pub held_run : Handle → Option ClientRun
held_run s = open_run s.is_open s.held.run

-- a call of an open handle does this to its run; one of a closed handle answers 7, and the handle stays closed
abbrev pub Calls : (ClientRun → ClientRun → ℕ → Type 0) → Option ClientRun → Option ClientRun → ℕ → Type 0
Calls Does None None status = status ≡ 7
Calls Does (Some old) (Some new) status = Does old new status
Calls Does _ _ status = ⊥

-- how many bytes of its report wait to be read
abbrev pub waiting : Option ClientRun → ℕ
waiting None = 0
waiting (Some r) = length (unread_of r.session)

-- a new session has heard nothing; without memory there is none
pub record Opens (new : Handle) (status : ℕ) : Type 0 where
  pub opened : status ≡ 0 → (r : ClientRun) × (held_run new ≡ Some r) × Stands r.session [] []
  pub none : status ≡ 5 → held_run new ≡ None
  pub known : IsTrue (nat_eq status 0 || nat_eq status 5)

-- a line was given to the session, and so many bytes wait to be read
pub record Hears (old new : Handle) (line : List ℕ) (count status : ℕ) : Type 0 where
  pub run : Calls (λ a b s. HearsLine a.session b.session line s × (b.client ≡ a.client)) (held_run old) (held_run new) status
  pub waits : count ≡ waiting (held_run new)

-- the session was closed, and so many bytes wait to be read
pub record Closes (old new : Handle) (count status : ℕ) : Type 0 where
  pub run : Calls (λ a b s. ClosesSession a.session b.session s × (b.client ≡ a.client)) (held_run old) (held_run new) status
  pub waits : count ≡ waiting (held_run new)

-- so many bytes more were read into the room, in which these bytes were before; none of a closed one
pub record ReadsOn (old new : Handle) (before room : List ℕ) (count status : ℕ) : Type 0 where
  pub run : Calls (λ a b s. (s ≡ 0) × ReadsReport a.session b.session room count × (b.client ≡ a.client)) (held_run old) (held_run new) status
  pub within : count ≤ length room
  pub none : held_run old ≡ None → (count ≡ 0) × (room ≡ before)

-- a new client; without memory there is none
pub record OpensClient (new : Handle) (status : ℕ) : Type 0 where
  pub opened : status ≡ 0 → (r : ClientRun) × (held_run new ≡ Some r) × IsNew r.client
  pub none : status ≡ 5 → held_run new ≡ None
  pub known : IsTrue (nat_eq status 0 || nat_eq status 5)

-- how many bytes of the client wait to be read
abbrev pub client_waiting : Option ClientRun → ℕ
client_waiting None = 0
client_waiting (Some r) = length (unread_by r.client)

-- so many do
pub record WaitsOn (old new : Handle) (count status : ℕ) : Type 0 where
  pub run : Calls (λ a b s. (s ≡ 0) × (b ≡ a)) (held_run old) (held_run new) status
  pub waits : count ≡ client_waiting (held_run new)

-- the same of a client
pub record ReadsOnClient (old new : Handle) (before room : List ℕ) (count status : ℕ) : Type 0 where
  pub run : Calls (λ a b s. (s ≡ 0) × ReadsClient a.client b.client room count × (b.session ≡ a.session)) (held_run old) (held_run new) status
  pub within : count ≤ length room
  pub none : held_run old ≡ None → (count ≡ 0) × (room ≡ before)

-- what a handle answers that frees its run, if it has one
abbrev pub freed_status : Option ClientRun → ℕ
freed_status None = 7
freed_status (Some run) = 0

-- the session or the client was freed, if it was open, and is closed
pub record Frees (old new : Handle) (status : ℕ) : Type 0 where
  pub closed : held_run new ≡ None
  pub told : status ≡ freed_status (held_run old)

-- a run was opened as this; without memory there is none
pub record OpensAs (role : Role) (new : Handle) (status : ℕ) : Type 0 where
  pub opened : status ≡ 0 → (r : ClientRun) × (held_run new ≡ Some r) × IsNewAs role r.session r.client
  pub none : status ≡ 5 → held_run new ≡ None
  pub known : IsTrue (nat_eq status 0 || nat_eq status 5)
