use Rattle.std.proofs.Common.{◌≡◌, ap, ◌∙◌, subst, sym, chars}
use Rattle.serde_json.specs.View.{view}
use Rattle.serde_json.proofs.Views.{Entry}
use Rattle.std.specs.Prelude.{IsFalse, is_some}
use Rattle.ft_props.specs.declared.properties.Adjust.{Adjust}
use Rattle.ft_props.specs.Properties.{Characters, PropertySet, value_of}
use Rattle.ft_props.specs.Keys.{key_cmp, put_rising}
use Rattle.ft_op.specs.TextGrammar.{adjustment_beside}
use Rattle.ft_op.specs.WellFormed.{IsAdjustment}
use Rattle.ft_op.proofs.ReadEntries.{IsReadSoFar, entry_read, nothing_read}
use Rattle.ft_op.proofs.adjustments.read_adjustments.Goals as goal

abbrev IsBeside : PropertySet → Characters × Adjust → Type 0
IsBeside set p = IsFalse (is_some (value_of p.0 set)) × IsAdjustment p.1

pub loop-key-init : goal.loop-key-init
loop-key-init c =
    let all = c.args.entries.now.entries in
    let start : c.into_iter-key-iterator.result ≡ all = c.into_iter-key-iterator.ensures.into_iter_gives ∙ c.iter-key-items.ensures.rest in
    ((tt, tt), rw (start, c.new-adjustments.ensures) (nothing_read (adjustment_beside c.args.set.now) _ _ all c.iter-key-items.ensures.ordered))

pub loop-key-preserved : goal.loop-key-preserved
loop-key-preserved c =
    let all = c.args.entries.now.entries in
    let l = c.loop-key in
    let set = c.args.set.now in
    let e : Entry = (c.in-Some.key.now, c.in-Some.value.now) in
    let made = c.in_ok-adjustment.adjustment in
    let so_far = subst (λ es. IsReadSoFar (adjustment_beside set) (IsBeside set) _ l.adjustments es all) c.in-Some.ensures.steps l.invariant.1 in
    let read = ap (λ k. adjustment_beside set k (view e.1)) (sym (ap chars c.as_str.ensures.value)) ∙ sym c.in_ok-adjustment.ensures.value in
    let so = subst (λ k. IsBeside set (k, made)) (ap chars c.as_str.ensures.value) c.in_ok-adjustment.ensures.formed in
    let put = c.in_ok-put.ensures.ok ∙ ap (λ k. put_rising key_cmp (k, made) l.adjustments) (c.in_ok-new.ensures ∙ ap chars c.as_str-in-loop-key.ensures.value) in
    ((tt, tt), entry_read (adjustment_beside set) (IsBeside set) _ made l.adjustments c.put.new.self e c.next.new.self all so_far read so put)
