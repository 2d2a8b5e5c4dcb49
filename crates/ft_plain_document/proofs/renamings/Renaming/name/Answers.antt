use Rattle.std.proofs.Common.{ℕ, ◌≤◌, List, length, ap, subst, sym, ◌∙◌}
use Rattle.std.proofs.lemmas.List.{drop_all}
use Rattle.ft_plain_document.proofs.RenamedNames.{renamed_through, through-after}
use Rattle.ft_plain_document.proofs.renamings.Renaming.name.Goals as goal

pub returns : goal.returns
returns c =
    let acked = c.args.self.now in
    let i = c.loop-stage.stage-index in
    let all = subst (λ (ps : List (ℕ × ℕ)). length ps ≤ i) (c.deref-stage-items.ensures.value ∙ c.self.view_is) c.loop-stage-test.false in
    ap (λ ps. renamed_through ps c.loop-stage.new) (sym (drop_all i acked all)) ∙ c.loop-stage.invariant ∙ through-after (λ x. x) acked c.args.name
