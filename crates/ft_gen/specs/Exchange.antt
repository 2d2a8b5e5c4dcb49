-- What is still to come in a round once all clients have made their edits.
use Rattle.std.specs.Prelude.{ℕ, ◌+◌, ◌≤◌, List, [], ◌∷◌, ◌++◌, Option, Some, None, ⊤}
use Rattle.ft_seqr.specs.declared.events.Event.{Event}
use Rattle.ft_gen.specs.declared.exchange.Exchange.{Exchange}
use Rattle.ft_gen.specs.declared.exchange.Exchange.TheVariants.{Submit, Return, CatchUp, Resubmit, Learn, Noop, SubmitNoop, LearnNoops, Compact}
use Rattle.ft_gen.specs.Rounds.{compaction, compacts, each, each_both, from, is_told, others, return, says_nothing, tickets}

-- of each part the clients from i on, with all other parts behind it

abbrev pub compacts_from : ℕ → ℕ → List Event
compacts_from count i = each compacts (from count i)

abbrev pub noop_lessons_from : ℕ → ℕ → List Event
noop_lessons_from count i = each is_told (from count i) ++ compacts_from count 1

abbrev pub noops_from : ℕ → ℕ → List Event
noops_from count i = each_both says_nothing tickets (from count i) ++ noop_lessons_from count 1

abbrev pub lessons_from : ℕ → ℕ → ℕ → List Event
lessons_from count round i = each is_told (from count i) ++ compaction count round

abbrev pub submissions_from : ℕ → ℕ → ℕ → Option ℕ → List Event
submissions_from count round i dropped = each tickets (others dropped (from count i)) ++ (return dropped ++ lessons_from count round 1)

-- what is still to come
abbrev pub exchange_to_come : ℕ → ℕ → Exchange → List Event
exchange_to_come count round (Submit i dropped) = tickets i ∷ submissions_from count round (i + 1) dropped
exchange_to_come count round (Return i) = return (Some i) ++ lessons_from count round 1
exchange_to_come count round (CatchUp i) = is_told i ∷ (tickets i ∷ lessons_from count round 1)
exchange_to_come count round (Resubmit i) = tickets i ∷ lessons_from count round 1
exchange_to_come count round (Learn i) = lessons_from count round i
exchange_to_come count round (Noop i) = noops_from count i
exchange_to_come count round (SubmitNoop i) = tickets i ∷ noops_from count (i + 1)
exchange_to_come count round (LearnNoops i) = noop_lessons_from count i
exchange_to_come count round (Compact i) = compacts_from count i

-- the same, if anything is left
abbrev pub exchange_left : ℕ → ℕ → Option Exchange → List Event
exchange_left count round None = []
exchange_left count round (Some exchange) = exchange_to_come count round exchange

-- the client that is named is there
abbrev pub IsExchange : ℕ → Exchange → Type 0
IsExchange count (Submit i dropped) = i ≤ count
IsExchange count (Return i) = ⊤
IsExchange count (CatchUp i) = ⊤
IsExchange count (Resubmit i) = ⊤
IsExchange count (Learn i) = i ≤ count
IsExchange count (Noop i) = i ≤ count
IsExchange count (SubmitNoop i) = i ≤ count
IsExchange count (LearnNoops i) = i ≤ count
IsExchange count (Compact i) = i ≤ count
