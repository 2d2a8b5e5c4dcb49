use Rattle.std.proofs.Common.{◌≡◌, ℕ, List, [], drop, length, map, take, true}
use Rattle.std.specs.List.{flat_map, list_all}
use Rattle.ft_op.specs.Document.{Document}
use Rattle.ft_op.specs.Stages.{Stage}
use Rattle.ft_replica.specs.Own.{resent}
use Rattle.ft_client.specs.Parts.{are_of_one_edit, own_stage}
use Rattle.ft_client.specs.Rejoins.{GivesTree}
use Rattle.ft_client.proofs.own.TreeOwn.give_edits.Given as goal

-- so many were given
abbrev pub invariant-loop-count : goal.invariant-loop-count
invariant-loop-count l = (low last : ℕ) (doc : Document) (edits : List (List Stage)) → map (λ stages. length stages) edits ≡ l.counts
    → list_all (λ stages. are_of_one_edit (map own_stage stages)) edits ≡ true → GivesTree l.initial.self low last doc [] (flat_map (λ stages. stages) edits)
    → (l.again.items ≡ map (resent doc) (take l.count-index edits))
    × GivesTree l.self low last doc (flat_map (λ stages. stages) (take l.count-index edits)) (flat_map (λ stages. stages) (drop l.count-index edits))
