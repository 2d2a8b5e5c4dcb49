-- What is told of intervals is told of those alone whose names pass a test, where the others are as before.
use Rattle.std.proofs.Common.{◌≡◌, Bool, not, ◌||◌, List, [], ◌∷◌, ◌+◌, refl, ◌∙◌, ap, arith, filter, length}
use Rattle.std.specs.Ordering.{ordering_then}
use Rattle.std.specs.declared.cmp.Ordering.{Ordering}
use Rattle.std.specs.declared.cmp.Ordering.TheVariants.{Less, Equal, Greater}
use Rattle.ft_props.specs.Keys.{text_cmp}
use Rattle.ft_op.specs.declared.operations.TextOp.{TextOp}
use Rattle.ft_op.specs.declared.operations.TextOp.TheVariants.{Group, IntervalAdd, IntervalChange, IntervalDelete, One}
use Rattle.ft_op.specs.Operation.{OnGrid, OnIntervals, OnText, SubOperation}
use Rattle.ft_sumdoc.specs.declared.summary.IntervalRec.{IntervalRec}
use Rattle.ft_changes.specs.declared.changes.ViewChange.TheVariants.{DropInterval, SetInterval}
use Rattle.ft_changes.specs.Beside.{changes_interval, is_changed_by, is_operation_on}
use Rattle.ft_changes.specs.Shown.{interval_order}
use Rattle.ft_changes.specs.Told.{same_interval, told_intervals}
use Rattle.ft_changes.proofs.FilteredItems.{told-filtered}
use Rattle.ft_changes.proofs.NothingTold.{own-interval}
use Rattle.ft_changes.proofs.Orders.{interval_order-is, same-interval_keys}
use Rattle.ft_changes.proofs.ToldItems.{Rise}

-- ---- the order of intervals from both sides

forth : (a b : IntervalRec) → interval_order b a ≡ Greater → interval_order a b ≡ Less
forth a b h = by (interval_order a b) refl
  where
    by : (o : Ordering) → interval_order a b ≡ o → o ≡ Less
    by Less e = refl
    by Equal e =
        let k = same-interval_keys a b e in
        let equal : interval_order b a ≡ Equal =
        ap (λ l. ordering_then (text_cmp b.label l) (text_cmp b.id a.id)) k.0 ∙ ap (λ m. ordering_then (text_cmp b.label b.label) (text_cmp b.id m)) k.1
        ∙ interval_order-is.same b in
        absurd (cc)
    by Greater e = let g = interval_order-is.trans a b a e h in let s = interval_order-is.same a in absurd (cc)

-- ---- of which intervals operations are goes by their names

named-alike : (op : TextOp) (a b : IntervalRec) → a.label ≡ b.label → a.id ≡ b.id → is_operation_on op a ≡ is_operation_on op b
named-alike (One op) a b l m = refl
named-alike (Group ops) a b l m = refl
named-alike (IntervalAdd label id ends props) a b l m = rw (l, m) refl
named-alike (IntervalChange label id ends props) a b l m = rw (l, m) refl
named-alike (IntervalDelete label id) a b l m = rw (l, m) refl

changed-alike : (o : SubOperation) (a b : IntervalRec) → a.label ≡ b.label → a.id ≡ b.id → changes_interval a o ≡ changes_interval b o
changed-alike (OnText op) a b l m = refl
changed-alike (OnIntervals op) a b l m = named-alike op a b l m
changed-alike (OnGrid op) a b l m = refl

pub same-named : (ops : List SubOperation) (a b : IntervalRec) → a.label ≡ b.label → a.id ≡ b.id → is_changed_by ops a ≡ is_changed_by ops b
same-named [] a b l m = refl
same-named (o ∷ ops) a b l m =
    ap (λ c. c || is_changed_by ops a) (changed-alike o a b l m) ∙ ap (λ c. changes_interval b o || c) (same-named ops a b l m)

pub same-place : (ops : List SubOperation) (a b : IntervalRec) → interval_order a b ≡ Equal → is_changed_by ops a ≡ is_changed_by ops b
same-place ops a b e = let k = same-interval_keys a b e in same-named ops a b k.0 k.1

-- ---- what is told

pub intervals-filtered : (test : IntervalRec → Bool) → ((a b : IntervalRec) → interval_order a b ≡ Equal → test a ≡ test b)
    → (before after : List IntervalRec) → Rise interval_order before → Rise interval_order after
    → filter (λ i. not (test i)) before ≡ filter (λ i. not (test i)) after
    → told_intervals before after ≡ told_intervals (filter test before) (filter test after)
intervals-filtered test keys before after rise_before rise_after others =
    told-filtered interval_order same_interval SetInterval (λ i. DropInterval i.label i.id) interval_order-is forth own-interval test keys
    (length before + length after) before after (omega arith) rise_before rise_after others
