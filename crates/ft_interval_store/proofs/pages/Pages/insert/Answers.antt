use Rattle.std.proofs.Common.{ap, length, sym, ◌∙◌}
use Rattle.std.specs.List.{insert}
use Rattle.ft_interval_store.proofs.PageLists.{on-any}
use Rattle.ft_interval_store.proofs.pages.Pages.insert.Goals as goal

pub put_in-requires-clause-filled : goal.put_in-requires-clause-filled
put_in-requires-clause-filled g c = c.self.invariant.filled

pub invariant_of-self : goal.invariant_of-self
invariant_of-self g c = record {
  filled = c.put_in.ensures.filled;
  count = c.self.invariant.count ∙ sym (ap length c.in_err-put_in.ensures.err);
}

pub returns-in_err-put_in-clause-err : goal.returns-in_err-put_in-clause-err
returns-in_err-put_in-clause-err g c = on-any c.from_residual.result (c.in_err-put_in.ensures.err ∙ c.self.view_is)

pub returns-clause-ok : goal.returns-clause-ok
returns-clause-ok g c = c.in_ok-put_in.ensures.ok ∙ ap (λ xs. insert xs c.args.place c.args.element) c.self.view_is
