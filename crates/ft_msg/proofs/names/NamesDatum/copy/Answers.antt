use Rattle.std.proofs.Common.{◌≡◌, [], ◌∷◌, ◌++◌, sym, ap, ◌∙◌, subst, append_assoc}
use Rattle.ft_msg.specs.NameTable.{AreDistinct}
use Rattle.ft_msg.proofs.NameLemmas.{names_after-next}
use Rattle.ft_msg.proofs.names.NamesDatum.copy.Goals as goal

pub loop-name-preserved : goal.loop-name-preserved
loop-name-preserved c =
    let done = c.loop-name.copy in
    let name = c.in-Some.name.now in
    let left = c.next.new.self in
    let step : c.loop-name.name-iterator ≡ name ∷ left = c.in-Some.ensures.steps in
    let all : c.args.self.now ≡ done ++ name ∷ left = c.loop-name.invariant.1 ∙ ap (λ names. done ++ names) step in
    let distinct : AreDistinct (done ++ name ∷ left) = subst AreDistinct (c.self.view_is ∙ all) c.self.invariant.2 in
    ((tt, tt), all ∙ sym (append_assoc done (name ∷ []) left) ∙ ap (λ names. names ++ left) (sym (c.in_ok-number.ensures.names ∙ names_after-next done name left distinct)))
