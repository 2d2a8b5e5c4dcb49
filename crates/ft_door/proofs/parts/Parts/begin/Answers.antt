use Rattle.std.proofs.Common.{◌≡◌, ◌∙◌, List, ℕ, ap, false, is_some, refl}
use Rattle.std.proofs.lemmas.Result.{IfOk-at_ok}
use Rattle.ft_door.specs.Editors.{editor_of, no_name}
use Rattle.ft_door.proofs.Editing.{editor-as, state_of}
use Rattle.ft_door.proofs.parts.Parts.begin.Goals as goal

pub returns : goal.returns
returns g c = λ h.
    let r = g.R.Replica.state c.args.replica in
    let sum = c.args.sum.now in
    let made = c.in_ok-names in
    let is = ap (λ names. state_of r c.args.changes names made.name false c.args.load) (IfOk-at_ok (λ (names : List (List ℕ)). names ≡ sum.conns) made.ensures.first c.table_of-table.ensures)
    ∙ ap (λ name. state_of r c.args.changes sum.conns name false c.args.load) (IfOk-at_ok (λ (name : List ℕ). name ≡ no_name) made.ensures.second c.new.ensures) in
    λ x k. (
      refl,
      editor-as c.replace.new.dest (state_of r c.args.changes sum.conns no_name false c.args.load) (editor_of (is_some x.listener) sum) (c.replace.ensures.after ∙ is) (h x k),
    )
