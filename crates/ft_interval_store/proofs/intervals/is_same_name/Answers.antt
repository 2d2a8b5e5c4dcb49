use Rattle.std.proofs.Common.{◌≡◌, true≢false, sym, ◌∙◌, ap}
use Rattle.std.specs.Bool.{Decides}
use Rattle.std.specs.Ordering.{is_eq}
use Rattle.std.proofs.lemmas.Bool.Decides.{same_from_decides}
use Rattle.ft_interval_store.specs.Intervals.{Name, name_cmp}
use Rattle.ft_interval_store.proofs.OneInterval.{same_name}
use Rattle.ft_interval_store.proofs.RisingLists.{name_cmp-self}
use Rattle.ft_interval_store.proofs.intervals.is_same_name.Goals as goal

same_name-Decides : (a b : Name) → Decides (is_eq (name_cmp a b)) (a ≡ b)
same_name-Decides a b = (λ e. same_name a b e, λ same. ap is_eq (sym (ap (λ n. name_cmp a n) same) ∙ name_cmp-self a))

pub returns-then-same : goal.returns-then-same
returns-then-same c =
    let a : Name = (c.args.label.now, c.args.id.now) in
    let b : Name = (c.args.other_label.now, c.args.other_id.now) in
    let ids = c.same.ensures.0 c.if-same.true in
    let labels = c.same-then-same.ensures in
    same_from_decides c.same-then-same.result (is_eq (name_cmp a b))
    (λ e. (let same = labels.0 e in λ i. (same i, ids i)), λ same. labels.1 (ap (λ (n : Name). n.0) same)) (same_name-Decides a b)

pub returns-else-same : goal.returns-else-same
returns-else-same c =
    let a : Name = (c.args.label.now, c.args.id.now) in
    let b : Name = (c.args.other_label.now, c.args.other_id.now) in
    same_from_decides c.same.result (is_eq (name_cmp a b))
    (λ e. absurd (true≢false (sym e ∙ c.if-same.false)), λ same. c.same.ensures.1 (ap (λ (n : Name). n.1) same)) (same_name-Decides a b)
