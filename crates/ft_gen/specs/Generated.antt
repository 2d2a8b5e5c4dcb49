-- The generated session: which events so many clients make, with so many edits, drawn from a seed.
use Rattle.std.specs.Prelude.{◌≡◌, ℕ, List, [], ◌∷◌, ◌++◌, Option, Some, None}
use Rattle.ft_op.specs.declared.operations.CellOp.TheVariants.{SpliceIn}
use Rattle.ft_op.specs.declared.operations.ChannelOp.TheVariants.{Grid}
use Rattle.ft_op.specs.declared.operations.GridOp.TheVariants.{One}
use Rattle.ft_op.specs.declared.operations.Target.{Target}
use Rattle.ft_op.specs.declared.operations.Target.TheVariants.{Rows, Cols}
use Rattle.ft_seqr.specs.declared.events.Event.{Event}
use Rattle.ft_seqr.specs.declared.events.Event.TheVariants.{Start, Edit, Show}
use Rattle.ft_seqr.specs.WellFormedEvent.{IsWellFormedEvent}
use Rattle.ft_gen.specs.declared.progress.Progress.{Progress}
use Rattle.ft_gen.specs.Rounds.{client_name, clients, connects, each, each_both, is_told, rounds, tickets}

abbrev pub starts : ℕ → Event
starts i = Start (client_name i) None

abbrev pub shows : ℕ → Event
shows i = Show (client_name i)

-- the first client adds four rows or columns
abbrev pub adds_four : Target → Event
adds_four target = Edit (client_name 1) (Grid (One (SpliceIn target 0 4)))

-- the clients come, and the first one makes a grid
abbrev pub opening : ℕ → List Event
opening count =
    each_both starts connects (clients count) ++
    (each is_told (clients count) ++ (adds_four Rows ∷ (adds_four Cols ∷ (tickets 1 ∷ each is_told (clients count)))))

-- before the first round
abbrev pub at_first_round : ℕ → ℕ → Progress
at_first_round edits seed = record { state = seed; length = 0; intervals = 0; left = edits }

-- the events of so many clients with so many edits from this seed; each round makes an edit
abbrev pub generated : ℕ → ℕ → ℕ → List Event
generated count edits seed =
    opening count ++ (rounds edits count 0 (at_first_round edits seed) ++ each shows (clients count))

-- the answer is the first of the events before, and the others are left, or it is none, and there were none
abbrev pub IsNext : List Event → Option Event → List Event → Type 0
IsNext before (Some event) after = (before ≡ event ∷ after) × IsWellFormedEvent event
IsNext before None after = (before ≡ []) × (after ≡ before)
