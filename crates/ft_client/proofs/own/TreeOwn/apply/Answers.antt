use Rattle.std.proofs.Common.{◌≡◌, refl, subst, sym}
use Rattle.ft_op.specs.Document.{effects}
use Rattle.ft_op.specs.Operation.{sub_operations}
use Rattle.ft_changes.specs.Listeners.{heard}
use Rattle.ft_changes.specs.Told.{told_sub_operations}
use Rattle.ft_client.specs.Holds.{HoldsTree}
use Rattle.ft_client.proofs.Answered.{on-ok, then-ok}
use Rattle.ft_client.proofs.ForeignSteps.{text-applied}
use Rattle.ft_client.proofs.Known.{held-sound}
use Rattle.ft_client.proofs.own.TreeOwn.apply.Goals as goal

pub returns-in_ok-skipped-in-Text-clause-applied : goal.returns-in_ok-skipped-in-Text-clause-applied
returns-in_ok-skipped-in-Text-clause-applied g c = λ held named h.
    let k = c.requires.known in
    let old = c.args.self.now in
    let new = record c.args.self.now { text = c.apply_telling.new.self; numbers = c.skip.new.self } in
    let e = c.in_ok-skipped-in-Text.ensures in
    then-ok c.skip.result c.skip.ensures
    (λ numbers. subst (λ op. HoldsTree new (record held { doc = effects held.doc c.args.seq c.args.at.c c.args.at.r (sub_operations op) })) (sym c.in-Text.is)
    (text-applied old new held h c.args.seq c.args.at.c c.args.at.r c.in-Text.op c.in_ok-skipped-in-Text.skipped
    (e.applied held.last held.doc held.stages (held-sound k.start k.client k.made old k.low k.document held named h) h.text) e.rest refl numbers))

pub returns-in_ok-skipped-in-Text-clause-told : goal.returns-in_ok-skipped-in-Text-clause-told
returns-in_ok-skipped-in-Text-clause-told g c = λ held named h.
    let k = c.requires.known in
    on-ok c.skip.result
    (subst (λ op. c.apply_telling.new.listener ≡ heard c.args.listener.now
    (told_sub_operations held.last held.doc c.args.seq c.args.at.c c.args.at.r (sub_operations op)))
    (sym c.in-Text.is)
    (c.in_ok-skipped-in-Text.ensures.told held.last held.doc held.stages
    (held-sound k.start k.client k.made c.args.self.now k.low k.document held named h) h.text))
