use Rattle.std.proofs.Common.{◌++◌, [], ap, subst, sym, ◌∙◌}
use Rattle.std.proofs.lemmas.List.{flat_map_more}
use Rattle.ft_interval_store.specs.Pages.{ArePages, from_pages}
use Rattle.ft_interval_store.proofs.PageLists.{on-any}
use Rattle.ft_interval_store.proofs.pages.Pages.push_page.Goals as goal

pub invariant_of-self : goal.invariant_of-self
invariant_of-self g c = subst (λ ps. ArePages ps c.self.inside.len) (sym c.in_err-push.ensures.err) c.self.invariant

pub returns-in_err-push-clause-err : goal.returns-in_err-push-clause-err
returns-in_err-push-clause-err g c = on-any c.from_residual.result (ap from_pages c.in_err-push.ensures.err ∙ c.self.view_is)

pub returns-clause-ok : goal.returns-clause-ok
returns-clause-ok g c =
    ap from_pages c.in_ok-push.ensures.items ∙ sym (flat_map_more (λ p. p.items) [] c.self.inside.pages.items c.args.page)
    ∙ ap (λ xs. xs ++ c.args.page.items) c.self.view_is
