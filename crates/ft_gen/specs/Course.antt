-- What is still to come of a session, and what holds of its numbers.
use Rattle.std.specs.Prelude.{◌≡◌, ℕ, ◌+◌, ◌-◌, ◌*◌, ◌≤◌, ◌<◌, nat_eq, List, [], ◌∷◌, ◌++◌, Some, ⊤}
use Rattle.ft_seqr.specs.declared.events.Event.{Event}
use Rattle.ft_seqr.specs.WellFormedEvent.{IsWellFormedEvent}
use Rattle.ft_gen.specs.declared.acts.Act.{Act}
use Rattle.ft_gen.specs.declared.course.Course.{Course}
use Rattle.ft_gen.specs.declared.course.Place.{Place}
use Rattle.ft_gen.specs.declared.course.Place.TheVariants.{Opening, Loss, Editing, Exchange, Showing, Over}
use Rattle.ft_gen.specs.declared.course.Turn.{Turn}
use Rattle.ft_gen.specs.declared.progress.Progress.{Progress}
use Rattle.ft_gen.specs.declared.progress.Roles.{Roles}
use Rattle.ft_gen.specs.Rounds.{after_edits, after_turns, clients, each, edits, exchange, from, loss, rounds, turns, with_growth}
use Rattle.ft_gen.specs.Generated.{shows}
use Rattle.ft_gen.specs.Acts.{act_event}
use Rattle.ft_gen.specs.Opening.{IsOpening, opening_to_come}
use Rattle.ft_gen.specs.Exchange.{IsExchange, exchange_to_come}

-- ---- what is still to come

-- from the beginning of a round on
abbrev pub rounds_on : ℕ → ℕ → Progress → List Event
rounds_on count round p = rounds p.left count round p ++ each shows (clients count)

-- from the turns of these clients on
abbrev pub turns_on : ℕ → ℕ → Roles → ℕ → List ℕ → Progress → List Event
turns_on count round r agreed numbers p =
    turns r agreed numbers p ++ (exchange count round r.dropped ++ rounds_on count (round + 1) (after_turns r agreed numbers p))

-- the turn behind an edit
abbrev pub with_one_less : Turn → Turn
with_one_less t = record t { edits = t.edits - 1 }

-- from the next of n edits of a client on
abbrev pub some_edits_on : ℕ → ℕ → Turn → ℕ → Progress → List Event
some_edits_on count round t n p =
    let removes = nat_eq t.client t.roles.remover in
    edits n t.client removes p ++
    turns_on count round t.roles t.agreed (from count (t.client + 1)) (with_growth t.before t.agreed (after_edits n removes p))

abbrev pub edits_on : ℕ → ℕ → Turn → Progress → List Event
edits_on count round t p = some_edits_on count round t t.edits p

abbrev pub place_to_come : ℕ → ℕ → Progress → Place → List Event
place_to_come count round p (Opening opening) = opening_to_come count opening ++ rounds_on count round p
place_to_come count round p (Loss dropped remover) =
    loss (Some dropped) ++ turns_on count round (record { dropped = Some dropped; remover = remover }) p.length (clients count) p
place_to_come count round p (Editing t) = edits_on count round t p
place_to_come count round p (Exchange exchange) = exchange_to_come count round exchange ++ rounds_on count (round + 1) p
place_to_come count round p (Showing i) = each shows (from count i)
place_to_come count round p Over = []

abbrev pub to_come : Course → List Event
to_come c = place_to_come c.clients c.round c.progress c.place

-- ---- numbers

-- at the beginning of a round: no number passes what the edits made so far can have made
pub record IsAtRound (round : ℕ) (p : Progress) : Type 0 where
  pub rounds : round + p.left ≤ 1000000
  pub intervals : p.intervals + p.left ≤ 1000000
  pub length : p.length + 3 * p.left ≤ 3000000

-- before the turn of client i in a round that has edits: the clients before i, but the remover, only made the text longer
pub record IsBeforeTurn (round : ℕ) (r : Roles) (agreed : ℕ) (i : ℕ) (p : Progress) : Type 0 where
  pub begun : round + 1 ≤ 1000000
  pub rounds : round + p.left ≤ 1000000
  pub later : 1 < i → round + 1 + p.left ≤ 1000000
  pub intervals : p.intervals + p.left ≤ 1000000
  pub length : p.length + 3 * p.left ≤ 3000000
  pub within : agreed ≤ 3000000
  pub grown : i ≤ r.remover → agreed ≤ p.length

-- before the next edit of a client
pub record IsEditing (count : ℕ) (round : ℕ) (t : Turn) (p : Progress) : Type 0 where
  pub client : t.client ≤ count
  pub rounds : round + 1 + p.left ≤ 1000000
  pub intervals : p.intervals + t.edits + p.left ≤ 1000000
  pub length : t.before + p.length + 3 * (t.edits + p.left) ≤ 3000000 + t.agreed
  pub agreed : t.agreed ≤ 3000000
  pub before : t.client ≤ t.roles.remover → t.agreed ≤ t.before
  pub below : t.client < t.roles.remover → t.agreed ≤ p.length
  pub above : t.roles.remover < t.client → t.agreed ≤ p.length

abbrev pub IsPlace : ℕ → ℕ → Progress → Place → Type 0
IsPlace count round p (Opening opening) = IsOpening count opening × IsAtRound round p
IsPlace count round p (Loss dropped remover) = IsAtRound round p × (1 ≤ p.left)
IsPlace count round p (Editing t) = IsEditing count round t p × (1 ≤ t.edits)
IsPlace count round p (Exchange exchange) = IsExchange count exchange × IsAtRound (round + 1) p
IsPlace count round p (Showing i) = i ≤ count
IsPlace count round p Over = ⊤

pub record IsCourse (c : Course) : Type 0 where
  pub first : 1 ≤ c.clients
  pub few : c.clients ≤ 16
  pub place : IsPlace c.clients c.round c.progress c.place

-- these events are still to come
pub record HasToCome (events : List Event) (c : Course) : Type 0 where
  pub told : events ≡ to_come c
  pub sound : IsCourse c

-- the event of this act is the first of these, and the others are still to come
pub record IsNextAct (events : List Event) (act : Act) (c : Course) : Type 0 where
  pub told : events ≡ act_event act ∷ to_come c
  pub well_formed : IsWellFormedEvent (act_event act)
  pub sound : IsCourse c
