-- The rounds of a generated session. In each the clients edit, one after another, and then all get to know all.
use Rattle.std.specs.Prelude.{ℕ, zero, suc, ◌+◌, ◌-◌, ◌%◌, Bool, true, false, nat_eq, if◌then◌else◌, min, List, [], ◌∷◌, ◌++◌, Option, Some, None, codes, decimal}
use Rattle.ft_props.specs.Properties.{Characters}
use Rattle.ft_seqr.specs.declared.events.Event.{Event}
use Rattle.ft_seqr.specs.declared.events.Event.TheVariants.{Connect, Drop, Edit, Ticket, Deliver, Noop, Compact}
use Rattle.ft_seqr.specs.declared.events.HowMany.TheVariants.{All}
use Rattle.ft_gen.specs.declared.progress.Progress.{Progress}
use Rattle.ft_gen.specs.declared.progress.Roles.{Roles}
use Rattle.ft_gen.specs.Draws.{draw, state_after}
use Rattle.ft_gen.specs.Edits.{drawn, drawn_edit}

-- ---- clients, each by its number from 1 on

-- the name of a client
abbrev pub client_name : ℕ → Characters
client_name i = codes "c" ++ decimal i

-- n numbers from i on
abbrev pub numbers : ℕ → ℕ → List ℕ
numbers zero i = []
numbers (suc n) i = i ∷ numbers n (i + 1)

-- the numbers of the clients from i on, of so many
abbrev pub from : ℕ → ℕ → List ℕ
from count i = numbers (count + 1 - i) i

-- the numbers of so many clients
abbrev pub clients : ℕ → List ℕ
clients count = from count 1

-- an event of each client
abbrev pub each : (ℕ → Event) → List ℕ → List Event
each does [] = []
each does (i ∷ numbers) = does i ∷ each does numbers

-- two events of each client
abbrev pub each_both : (ℕ → Event) → (ℕ → Event) → List ℕ → List Event
each_both does then_does [] = []
each_both does then_does (i ∷ numbers) = does i ∷ (then_does i ∷ each_both does then_does numbers)

abbrev pub connects : ℕ → Event
connects i = Connect (client_name i)

abbrev pub tickets : ℕ → Event
tickets i = Ticket (client_name i) All

abbrev pub is_told : ℕ → Event
is_told i = Deliver (client_name i) All

abbrev pub says_nothing : ℕ → Event
says_nothing i = Noop (client_name i)

abbrev pub compacts : ℕ → Event
compacts i = Compact (client_name i)

-- ---- who does what in a round

-- whether a client is dropped in this round
abbrev pub drops : ℕ → Bool
drops round = nat_eq (round % 8) 7

-- which client is dropped, if one is, and which one may remove
abbrev pub roles : Bool → ℕ → ℕ → Roles
roles true count x = record { dropped = Some (draw count x + 1); remover = draw count (state_after 1 x) + 1 }
roles false count x = record { dropped = None; remover = draw count x + 1 }

-- how many draws these take
abbrev pub role_draws : Bool → ℕ
role_draws true = 2
role_draws false = 1

-- the dropped client, if there is one, loses its connection
abbrev pub loss : Option ℕ → List Event
loss None = []
loss (Some i) = Drop (client_name i) ∷ []

-- ---- edits

-- the next edits of a client that may remove or not
abbrev pub edits : ℕ → ℕ → Bool → Progress → List Event
edits zero i removes p = []
edits (suc n) i removes p = Edit (client_name i) (drawn_edit removes p).op ∷ edits n i removes (drawn_edit removes p).after

abbrev pub after_edits : ℕ → Bool → Progress → Progress
after_edits zero removes p = p
after_edits (suc n) removes p = after_edits n removes (drawn_edit removes p).after

-- how many edits a client makes: one to three, and not more than are left
abbrev pub share : Progress → ℕ
share p = min p.left (draw 3 p.state + 1)

-- with these edits no more left
abbrev pub with_share : Progress → Progress
with_share p = record p { state = state_after 1 p.state; left = p.left - share p }

-- with a text of this length
abbrev pub with_length : ℕ → Progress → Progress
with_length n p = record p { length = n }

-- the edits of a client
abbrev pub turn : Roles → ℕ → ℕ → Progress → List Event
turn r agreed i p = edits (share p) i (nat_eq i r.remover) (with_length agreed (with_share p))

-- the length becomes that of the text with the edits of all clients so far: the remover alone makes it less, so that no number
-- here falls below 0
abbrev pub with_growth : ℕ → ℕ → Progress → Progress
with_growth before agreed p = with_length (before + p.length - agreed) p

abbrev pub after_turn : Roles → ℕ → ℕ → Progress → Progress
after_turn r agreed i p = with_growth p.length agreed (after_edits (share p) (nat_eq i r.remover) (with_length agreed (with_share p)))

-- the edits of these clients
abbrev pub turns : Roles → ℕ → List ℕ → Progress → List Event
turns r agreed [] p = []
turns r agreed (i ∷ numbers) p = turn r agreed i p ++ turns r agreed numbers (after_turn r agreed i p)

abbrev pub after_turns : Roles → ℕ → List ℕ → Progress → Progress
after_turns r agreed [] p = p
after_turns r agreed (i ∷ numbers) p = after_turns r agreed numbers (after_turn r agreed i p)

-- ---- all get to know all

-- the clients but the dropped one
abbrev pub others : Option ℕ → List ℕ → List ℕ
others None numbers = numbers
others (Some d) [] = []
others (Some d) (i ∷ numbers) = if nat_eq i d then others (Some d) numbers else i ∷ others (Some d) numbers

-- the dropped client, if there is one, comes back
abbrev pub return : Option ℕ → List Event
return None = []
return (Some i) = connects i ∷ (is_told i ∷ (tickets i ∷ []))

-- in every sixteenth round the clients let go of what no message can refer to
abbrev pub compaction : ℕ → ℕ → List Event
compaction count round =
    if nat_eq (round % 16) 15 then
    each_both says_nothing tickets (clients count) ++ (each is_told (clients count) ++ each compacts (clients count))
    else []

abbrev pub exchange : ℕ → ℕ → Option ℕ → List Event
exchange count round dropped =
    each tickets (others dropped (clients count)) ++ (return dropped ++ (each is_told (clients count) ++ compaction count round))

-- ---- rounds

-- the roles of a round, and how far the session is once they are drawn
abbrev pub round_roles : ℕ → ℕ → Progress → Roles
round_roles count round p = roles (drops round) count p.state

abbrev pub with_roles : ℕ → Progress → Progress
with_roles round p = drawn (role_draws (drops round)) p

-- a round of so many clients
abbrev pub round_events : ℕ → ℕ → Progress → List Event
round_events count round p =
    let r = round_roles count round p in
    loss r.dropped ++ (turns r p.length (clients count) (with_roles round p) ++ exchange count round r.dropped)

abbrev pub after_round : ℕ → ℕ → Progress → Progress
after_round count round p = after_turns (round_roles count round p) p.length (clients count) (with_roles round p)

-- the rounds until no edits are left, at most so many
abbrev pub rounds : ℕ → ℕ → ℕ → Progress → List Event
rounds zero count round p = []
rounds (suc most) count round p = elim (nat_eq p.left 0) [
  | true ↦ []
  | false ↦ round_events count round p ++ rounds most count (round + 1) (after_round count round p)
]
