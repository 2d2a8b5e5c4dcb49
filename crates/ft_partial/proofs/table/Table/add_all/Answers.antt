use Rattle.std.proofs.Common.{ap, ◌∙◌}
use Rattle.std.proofs.lemmas.Result.{on_ok_weaker}
use Rattle.ft_partial.proofs.TableLemmas.{adds_all, stands-all}
use Rattle.ft_partial.proofs.table.Table.add_all.Goals as goal

pub returns-clause-adds : goal.returns-clause-adds
returns-clause-adds c =
    on_ok_weaker c.put_in.result
    (adds_all c.args.self.now c.args.other.now c.put_in.new.self c.as_slice.result.now c.other.inside.last (c.as_slice.ensures ∙ ap (λ t. t.entries) c.other.view_is)
    (ap (λ t. t.last) c.other.view_is)) c.put_in.ensures.lengths

pub returns-clause-ok : goal.returns-clause-ok
returns-clause-ok c =
    on_ok_weaker c.put_in.result (λ adds xs ys from. stands-all c.args.self.now c.args.other.now c.put_in.new.self adds from c.put_in.ensures.floor xs ys) (returns-clause-adds c)
