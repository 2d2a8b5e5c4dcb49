-- The units of a vector as the runs of a summary. No public clause cites this module.
use Rattle.std.specs.Prelude.{◌≡◌, ◌≤◌, ℕ, Bool, true, false, cond, List, [], ◌∷◌, ◌++◌, length, map}
use Rattle.ft_base.specs.declared.elements.Element.{Element as ElementStamps}
use Rattle.ft_tree_leaves.specs.declared.leaves.TreeLeaf.{TreeLeaf}
use Rattle.ft_tree_leaves.specs.Elements.{TreeElement}
use Rattle.ft_msg.specs.JoinedRuns.{with_run}
use Rattle.ft_marks.specs.Marks.{insertion_mark, mark_of}
use Rattle.ft_perm.specs.Handles.{HandleRun, handles_of}
use Rattle.ft_props.specs.Compaction.{has_collectable_removal}
use Rattle.ft_sumdoc.specs.declared.summary.RunRec.{RunRec}

-- a run of so many units with these stamps
abbrev pub unit_run : ℕ → ElementStamps → ℕ → RunRec
unit_run min stamps count = record { count = count; ins = insertion_mark min stamps.ins; dels = map mark_of stamps.dels }

-- runs with others behind them, of which the last one may be joined to the first of these
abbrev pub continued : List RunRec → List RunRec → List RunRec
continued [] rest = rest
continued (r ∷ []) rest = with_run r rest
continued (r ∷ s ∷ runs) rest = r ∷ continued (s ∷ runs) rest

-- a run is counted with the last one of others, or it belongs behind them
abbrev pub Joins : RunRec → List RunRec → List RunRec → Bool → Type 0
Joins run old new true = (rest : List RunRec) → continued new rest ≡ continued old (with_run run rest)
Joins run old new false = (new ≡ old) × ((rest : List RunRec) → continued (old ++ run ∷ []) rest ≡ continued old (with_run run rest))

-- the runs of units, without those that were removed at or below the minimum
abbrev pub saved_runs : ℕ → List (TreeElement ℕ) → List RunRec
saved_runs min [] = []
saved_runs min (e ∷ es) = cond (has_collectable_removal min e.stamps.dels) (saved_runs min es) (with_run (unit_run min e.stamps 1) (saved_runs min es))

-- the units of a leaf before runs
abbrev pub leaf_runs : ℕ → TreeLeaf HandleRun → List RunRec → List RunRec
leaf_runs min x rest = cond (has_collectable_removal min x.stamps.dels) rest (with_run (unit_run min x.stamps (length (handles_of x.content))) rest)

-- a leaf has units, and they come behind the runs so far
pub record AddsLeaf (min : ℕ) (x : TreeLeaf HandleRun) (old new : List RunRec) : Type 0 where
  pub some : 1 ≤ length (handles_of x.content)
  pub adds : (rest : List RunRec) → continued new rest ≡ continued old (leaf_runs min x rest)
