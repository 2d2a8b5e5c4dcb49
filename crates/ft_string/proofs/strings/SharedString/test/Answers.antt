use Rattle.std.proofs.Common.{ap, ◌∙◌, subst, sym, ◌≡◌, ◌++◌, true, is_ok}
use Rattle.std.proofs.lemmas.Result.{err_from_is_err_and}
use Rattle.ft_text.specs.Lengths.{count_after_all}
use Rattle.ft_string.specs.Edits.{seen_count}
use Rattle.ft_string.specs.State.{TextState}
use Rattle.ft_string.proofs.Edited.{count-is}
use Rattle.ft_string.proofs.strings.SharedString.test.Goals as goal

pub returns-in_err-test_all-clause-refused : goal.returns-in_err-test_all-clause-refused
returns-in_err-test_all-clause-refused c =
    let p = err_from_is_err_and c.from_residual.result c.from_residual.ensures.1 in
    let count = c.length.ensures
    ∙ sym (count-is c.self.inside.tree c.self.inside.intervals.state (c.self.inside.again.items ++ c.self.inside.ops.items) c.self.inside.given c.self.inside.usable)
    ∙ ap (λ (s : TextState). seen_count s) c.self.view_is in
    rw (p.1, p.2) (λ some. ap (λ n. count_after_all n c.args.ops.now) (sym count) ∙ c.in_err-test_all.ensures.refused some)

pub returns-clause-fits : goal.returns-clause-fits
returns-clause-fits c =
    subst (λ n. is_ok (count_after_all n c.args.ops.now) ≡ true)
    (c.length.ensures ∙ sym (count-is c.self.inside.tree c.self.inside.intervals.state (c.self.inside.again.items ++ c.self.inside.ops.items) c.self.inside.given c.self.inside.usable)
    ∙ ap (λ (s : TextState). seen_count s) c.self.view_is) c.in_ok-test_all.ensures.fits
