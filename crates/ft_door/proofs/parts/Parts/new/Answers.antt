use Rattle.std.proofs.Common.{◌≡◌, List, ℕ}
use Rattle.std.proofs.lemmas.Result.{IfOk-at_ok}
use Rattle.ft_op.specs.Document.{empty}
use Rattle.ft_msg.specs.Answers.{StartsOver}
use Rattle.ft_door.specs.Editors.{no_name}
use Rattle.ft_door.proofs.Editing.{new-stands}
use Rattle.ft_door.proofs.parts.Parts.new.Goals as goal

pub returns : goal.returns
returns g c =
    let state = g.R.Replica.state in
    new-stands (state c.in_ok-name.replica) c.new.result c.in_ok-name.name c.new.ensures (IfOk-at_ok (λ (name : List ℕ). name ≡ no_name) c.in_ok-name.ensures.first c.new-name.ensures)
    (IfOk-at_ok (λ r. StartsOver (state r) empty 0) c.in_ok-name.ensures.second c.start.ensures)
