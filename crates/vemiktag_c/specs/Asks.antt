-- What a run is opened as, and what its session and its client become that are asked something.
use Rattle.std.specs.Prelude.{◌≡◌, ℕ, ◌≤◌, List, [], length, ⊤}
use Rattle.ft_msg.specs.declared.replica.Replica.{Ghosts}
use Rattle.ft_door.specs.declared.clients.HeldClient.{HeldClient}
use Rattle.ft_door.specs.declared.sessions.HeldSession.{HeldSession}
use Rattle.ft_door.specs.Clients.{CallsClient, IsNew, ListensToClient, ReadsClient, SendsDraft, ShowsClient, TellsClient}
use Rattle.ft_door.specs.Editors.{call_exceeds, call_step}
use Rattle.ft_door.specs.Runs.{ClosesSession, HearsLine, ReadsReport, Stands}
use Rattle.vemiktag_c.specs.declared.asks.Ask.{Ask}
use Rattle.vemiktag_c.specs.declared.asks.Ask.TheVariants as ask
use Rattle.vemiktag_c.specs.declared.asks.Role.{Role}
use Rattle.vemiktag_c.specs.declared.asks.Role.TheVariants as role

-- what the session `s` and the client `c` become that are asked this, with these bytes, and what is told of it; the one that isn't asked stays
abbrev pub Answers : {R : Type 0} {g : Ghosts R} → Ask → List ℕ → HeldSession R g → HeldClient R → HeldSession R g → HeldClient R
    → List ℕ → ℕ → ℕ → Type 0
Answers ask.Line bytes s c s' c' room count status = HearsLine s s' bytes status × (c' ≡ c)
Answers ask.Close bytes s c s' c' room count status = ClosesSession s s' status × (c' ≡ c)
Answers ask.ReadReport bytes s c s' c' room count status = (status ≡ 0) × ReadsReport s s' room count × (c' ≡ c)
Answers (ask.Call call) bytes s c s' c' room count status = CallsClient (call_step call bytes) (call_exceeds call bytes) c c' status × (s' ≡ s)
Answers ask.Outgoing bytes s c s' c' room count status = SendsDraft c c' status × (s' ≡ s)
Answers ask.View bytes s c s' c' room count status = ShowsClient c c' status × (s' ≡ s)
Answers (ask.Tell listens) bytes s c s' c' room count status = ListensToClient listens c c' status × (s' ≡ s)
Answers ask.Changes bytes s c s' c' room count status = TellsClient c c' status × (s' ≡ s)
Answers ask.Waiting bytes s c s' c' room count status = (status ≡ 0) × (s' ≡ s) × (c' ≡ c)
Answers ask.ReadTold bytes s c s' c' room count status = (status ≡ 0) × ReadsClient c c' room count × (s' ≡ s)

-- what the count is where that is asked, if so many bytes of the session wait then, and so many of the client
abbrev pub Counts : Ask → ℕ → ℕ → List ℕ → ℕ → Type 0
Counts ask.Line reported told room count = count ≡ reported
Counts ask.Close reported told room count = count ≡ reported
Counts ask.ReadReport reported told room count = count ≤ length room
Counts (ask.Call call) reported told room count = ⊤
Counts ask.Outgoing reported told room count = ⊤
Counts ask.View reported told room count = ⊤
Counts (ask.Tell listens) reported told room count = ⊤
Counts ask.Changes reported told room count = ⊤
Counts ask.Waiting reported told room count = count ≡ told
Counts ask.ReadTold reported told room count = count ≤ length room

-- the parts of a run that is opened as this
abbrev pub IsNewAs : {R : Type 0} {g : Ghosts R} → Role → HeldSession R g → HeldClient R → Type 0
IsNewAs role.Session s c = Stands s [] []
IsNewAs role.Client s c = IsNew c
