use Rattle.std.proofs.Common.{ℕ, ◌++◌, ◌∷◌, [], map, refl, sym, ◌∙◌, ap, subst, append-nil, append_assoc, take}
use Rattle.std.proofs.lemmas.List.{take_all}
use Rattle.std.proofs.lemmas.List.Elements.{All-get_or}
use Rattle.ft_interval_store.specs.declared.intervals.Interval.{Interval}
use Rattle.ft_interval_store.specs.Ends.{AreLiveEnds}
use Rattle.ft_interval_store.specs.Standing.{acked_record}
use Rattle.ft_interval_store.proofs.AckedRecords.{next-acked}
use Rattle.ft_interval_store.proofs.all.add_acked_records.Goals as goal

pub loop-i-init : goal.loop-i-init
loop-i-init c = sym (append-nil c.args.records.now.items)

pub acked_record-requires-clause-live : goal.acked_record-requires-clause-live
acked_record-requires-clause-live c =
    let refs = c.args.tree.now.refs in
    subst (λ (i : Interval ℕ). AreLiveEnds refs i.ends) (sym (c.get.ensures ∙ c.i-item.is))
    (All-get_or (λ (i : Interval ℕ). AreLiveEnds refs i.ends) c.args.page.now c.loop-i.i-index c.i-item.result c.loop-i-test.true c.requires.live)

pub loop-i-preserved : goal.loop-i-preserved
loop-i-preserved c =
    let tree = c.args.tree.now in
    let was = c.args.records.now.items in
    let done = map (acked_record tree) (take c.loop-i.i-index c.args.page.now) in
    let one = c.in_ok-acked_record.ensures ∙ ap (acked_record tree) c.get.ensures in
    c.in_ok-push.ensures.items ∙ ap (λ r. c.loop-i.records.items ++ r ∷ []) one ∙ ap (λ rs. rs ++ acked_record tree c.i-item.result ∷ []) c.loop-i.invariant
    ∙ append_assoc was done (acked_record tree c.i-item.result ∷ [])
    ∙ ap (λ rs. was ++ rs) (next-acked tree c.args.page.now c.loop-i.i-index c.i-item.result done c.loop-i-test.true c.i-item.is refl)

pub returns : goal.returns
returns c =
    let tree = c.args.tree.now in
    c.loop-i.invariant ∙ ap (λ is. c.args.records.now.items ++ map (acked_record tree) is) (take_all c.loop-i.i-index c.args.page.now c.loop-i-test.false)
