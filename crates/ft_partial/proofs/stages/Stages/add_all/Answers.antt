use Rattle.std.proofs.Common.{[], ap, sym, ◌∙◌}
use Rattle.ft_partial.specs.declared.stages.Recent.{Recent}
use Rattle.ft_partial.specs.EntryLists.{entries_of}
use Rattle.ft_partial.specs.Stages.{recent_entries}
use Rattle.std.proofs.lemmas.Result.{on_ok_weaker}
use Rattle.ft_partial.proofs.TableLemmas.{adds_all, stands-all}
use Rattle.ft_partial.proofs.stages.Stages.add_all.Goals as goal

pub returns-in-Some-clause-adds : goal.returns-in-Some-clause-adds
returns-in-Some-clause-adds c =
    on_ok_weaker c.put_in.result
    (adds_all c.args.self.now c.args.other.now c.put_in.new.self c.as_slice.result.now c.other.inside.last
    (c.as_slice.ensures ∙ ap (λ (z : Recent). entries_of z.entries) c.deref.ensures ∙ ap recent_entries (sym c.in-Some.is) ∙ ap (λ t. t.entries) c.other.view_is)
    (ap (λ t. t.last) c.other.view_is)) c.put_in.ensures.lengths

pub returns-in-Some-clause-ok : goal.returns-in-Some-clause-ok
returns-in-Some-clause-ok c =
    on_ok_weaker c.put_in.result (λ adds xs ys from. stands-all c.args.self.now c.args.other.now c.put_in.new.self adds from c.put_in.ensures.floor xs ys)
    (returns-in-Some-clause-adds c)

pub returns-in-None-clause-adds : goal.returns-in-None-clause-adds
returns-in-None-clause-adds c =
    on_ok_weaker c.put_in-in-None.result
    (adds_all c.args.self.now c.args.other.now c.put_in-in-None.new.self [] c.other.inside.last
    (ap recent_entries (sym c.in-None.is) ∙ ap (λ t. t.entries) c.other.view_is) (ap (λ t. t.last) c.other.view_is)) c.put_in-in-None.ensures.lengths

pub returns-in-None-clause-ok : goal.returns-in-None-clause-ok
returns-in-None-clause-ok c =
    on_ok_weaker c.put_in-in-None.result (λ adds xs ys from. stands-all c.args.self.now c.args.other.now c.put_in-in-None.new.self adds from c.put_in-in-None.ensures.floor xs ys)
    (returns-in-None-clause-adds c)
