use Rattle.std.proofs.Common.{◌≡◌, false, true, not, ap, sym, ◌∙◌, arith}
use Rattle.std.proofs.lemmas.Bool.{eqb-true}
use Rattle.std.proofs.lemmas.List.{nil_from_length}
use Rattle.ft_interval_store.proofs.AckedRecords.{none-there}
use Rattle.ft_interval_store.proofs.all.is_at_rest.Goals as goal

pub returns-then-is_empty : goal.returns-then-is_empty
returns-then-is_empty c = λ h.
    let pending = c.args.pending.now.items in (
      nil_from_length pending (omega (arith, c.args.pending.now.ok.0, eqb-true c.args.pending.now.len 0 (sym c.if-is_empty.ensures))),
      sym c.removal_until.ensures ∙ none-there c.removal_until.result (c.is_none.ensures ∙ ap not h),
    )

pub returns-else-is_empty : goal.returns-else-is_empty
returns-else-is_empty c = λ h. (let both : false ≡ true = sym c.if-is_empty.false ∙ h in absurd cc)
