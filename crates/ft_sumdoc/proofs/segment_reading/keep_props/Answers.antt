use Rattle.std.proofs.Common.{◌≡◌, [], Bool, true, false, not, ap, sym, refl, ◌∙◌, subst, chars}
use Rattle.std.specs.Prelude.{is_some}
use Rattle.serde_json.proofs.Views.{Entry}
use Rattle.serde_json.specs.Find.{as_null}
use Rattle.serde_json.specs.View.{view}
use Rattle.ft_base.proofs.Booleans.{both}
use Rattle.ft_json.specs.Canonical.{canonical}
use Rattle.ft_json.specs.Objects.{entry_pairs}
use Rattle.ft_props.specs.Keys.{key_cmp, put_rising}
use Rattle.ft_op.proofs.ReadEntries.{IsReadSoFar, entry_read, nothing_read}
use Rattle.ft_op.proofs.ReadValues.{not_null}
use Rattle.ft_sumdoc.specs.Forms.{has_no_null}
use Rattle.ft_sumdoc.specs.Valid.{IsValue}
use Rattle.ft_sumdoc.proofs.segment_reading.keep_props.Goals as goal

untrue : (b : Bool) → not b ≡ true → b ≡ false
untrue true h = (cc)
untrue false h = refl

pub loop-key-init : goal.loop-key-init
loop-key-init c =
    let all = c.args.entries.now.entries in
    let start : c.into_iter-key-iterator.result ≡ all = c.into_iter-key-iterator.ensures.into_iter_gives ∙ c.iter-key-items.ensures.rest in (
      (tt, tt),
      rw (start, c.new-props.ensures) (nothing_read (λ _ d. canonical d) (λ p. IsValue p.1) [] all c.iter-key-items.ensures.ordered),
      ap (λ es. has_no_null (entry_pairs es)) start ∙ c.requires,
    )

pub loop-key-preserved : goal.loop-key-preserved
loop-key-preserved c =
    let all = c.args.entries.now.entries in
    let l = c.loop-key in
    let e : Entry = (c.in-Some.key.now, c.in-Some.value.now) in
    let left = c.next.new.self in
    let value = c.in_ok-value.value in
    let steps = c.in-Some.ensures.steps in
    let so_far = subst (λ es. IsReadSoFar (λ _ d. canonical d) (λ p. IsValue p.1) [] l.props es all) steps l.invariant.1 in
    let no_null = both (not (is_some (as_null (view e.1)))) (has_no_null (entry_pairs left)) (sym (ap (λ es. has_no_null (entry_pairs es)) steps) ∙ l.invariant.2) in
    let given = c.in_ok-value.ensures in
    let is_value : IsValue value = (given.kept, not_null (view e.1) value given.reads_back (untrue (is_some (as_null (view e.1))) no_null.0)) in
    let put = c.in_ok-put.ensures.ok ∙ ap (λ k. put_rising key_cmp (k, value) l.props) (c.in_ok-new.ensures ∙ ap chars c.as_str.ensures.value) in (
      (tt, tt),
      entry_read (λ _ d. canonical d) (λ p. IsValue p.1) [] value l.props c.put.new.self e left all so_far given.reads.ok is_value put,
      no_null.1,
    )
