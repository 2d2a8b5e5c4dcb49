use Rattle.std.proofs.Common.{◌≡◌, None, ap, ◌∙◌, subst, chars}
use Rattle.serde_json.proofs.Views.{Entry}
use Rattle.ft_props.specs.Keys.{key_cmp, put_rising}
use Rattle.ft_op.specs.Reading.{set_value}
use Rattle.ft_op.specs.WellFormed.{IsSetValue}
use Rattle.ft_op.proofs.ReadEntries.{IsReadSoFar, entry_read, nothing_read}
use Rattle.ft_op.proofs.reading.read_property_set.Goals as goal

pub loop-key-init : goal.loop-key-init
loop-key-init c =
    let all = c.args.entries.now.entries in
    let start : c.into_iter-key-iterator.result ≡ all = c.into_iter-key-iterator.ensures.into_iter_gives ∙ c.iter-key-items.ensures.rest in
    ((tt, tt), rw (start, c.new-set.ensures) (nothing_read (λ _ d. set_value d) (λ p. IsSetValue p.1) None all c.iter-key-items.ensures.ordered))

pub loop-key-preserved : goal.loop-key-preserved
loop-key-preserved c =
    let all = c.args.entries.now.entries in
    let l = c.loop-key in
    let e : Entry = (c.in-Some.key.now, c.in-Some.value.now) in
    let value = c.in_ok-value.value in
    let so_far = subst (λ es. IsReadSoFar (λ _ d. set_value d) (λ p. IsSetValue p.1) None l.set es all) c.in-Some.ensures.steps l.invariant.1 in
    let put = c.in_ok-put.ensures.ok ∙ ap (λ k. put_rising key_cmp (k, value) l.set) (c.in_ok-new.ensures ∙ ap chars c.as_str.ensures.value) in
    ((tt, tt), entry_read (λ _ d. set_value d) (λ p. IsSetValue p.1) None value l.set c.put.new.self e c.next.new.self all so_far c.in_ok-value.ensures.ok c.in_ok-value.ensures.formed put)
