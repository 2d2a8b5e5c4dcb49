use Rattle.std.proofs.Common.{◌≡◌, ◌++◌, ℕ, List, drop, length, map, take, true}
use Rattle.ft_op.specs.Document.{Document}
use Rattle.ft_op.specs.Stages.{Stage}
use Rattle.ft_client.specs.Parts.{are_of_one_edit, own_stage}
use Rattle.ft_client.specs.Rejoins.{GivesEdit, GivesTree}
use Rattle.ft_client.proofs.own.TreeOwn.give_edit.Given as goal

-- so many were given
abbrev pub invariant-loop-i : goal.invariant-loop-i
invariant-loop-i l = (low last : ℕ) (doc : Document) (front mine rest : List Stage) → length mine ≡ l.count → are_of_one_edit (map own_stage mine) ≡ true
    → GivesTree l.initial.self low last doc front (mine ++ rest) → GivesEdit l.self low last doc front (take l._i mine) (drop l._i mine ++ rest) l.again
