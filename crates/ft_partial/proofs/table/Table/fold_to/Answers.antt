use Rattle.std.proofs.Common.{ℕ, ap, refl, sym, subst, ◌∙◌}
use Rattle.ft_partial.specs.EntryLists.{entries_of}
use Rattle.ft_partial.specs.Items.{folded_items}
use Rattle.ft_partial.specs.Tables.{CountsItems}
use Rattle.ft_partial.proofs.TableLemmas.{same_from, same_kept, same_cleared, stands-higher, stands-folded}
use Rattle.ft_partial.proofs.table.Table.fold_to.Goals as goal

pub invariant_of-self-then-is_half_old : goal.invariant_of-self-then-is_half_old
invariant_of-self-then-is_half_old c = record {
  rising = c.drop_old.ensures.rising;
  up_to = c.drop_old.ensures.up_to c.self.inside.latest c.self.invariant.up_to;
}

pub returns-then-self-floor-clause-lengths : goal.returns-then-self-floor-clause-lengths
returns-then-self-floor-clause-lengths c = λ r c from low few. refl

pub returns-then-self-floor-clause-same : goal.returns-then-self-floor-clause-same
returns-then-self-floor-clause-same c = λ xs stands. stands

pub returns-then-self-floor-clause-items : goal.returns-then-self-floor-clause-items
returns-then-self-floor-clause-items c = λ xs stands.
    subst (λ (floor : ℕ). CountsItems c.args.self.now (folded_items floor xs)) (ap (λ t. t.floor) (sym c.self.view_is) ∙ c.if-self-floor.true)
    (stands-folded c.args.self.now xs stands)

pub returns-then-self-floor-2-clause-lengths : goal.returns-then-self-floor-2-clause-lengths
returns-then-self-floor-2-clause-lengths c =
    same_cleared c.args.self.now _ c.args.floor c.self.inside.latest (entries_of c.self.inside.entries) (ap (λ t. t.entries) c.self.view_is) (ap (λ t. t.last) c.self.view_is) c.clear.ensures
    c.self.invariant.up_to c.if-self-floor-2.true

pub returns-then-self-floor-2-clause-same : goal.returns-then-self-floor-2-clause-same
returns-then-self-floor-2-clause-same c = stands-higher c.args.self.now _ (returns-then-self-floor-2-clause-lengths c) c.requires

pub returns-then-self-floor-2-clause-items : goal.returns-then-self-floor-2-clause-items
returns-then-self-floor-2-clause-items c = λ xs stands. stands-folded _ xs (returns-then-self-floor-2-clause-same c xs stands)

pub returns-then-is_half_old-clause-lengths : goal.returns-then-is_half_old-clause-lengths
returns-then-is_half_old-clause-lengths c =
    same_from c.args.self.now _ c.args.floor (entries_of c.self.inside.entries) (ap (λ t. t.entries) c.self.view_is) (ap (λ t. t.last) c.self.view_is) c.drop_old.ensures

pub returns-then-is_half_old-clause-same : goal.returns-then-is_half_old-clause-same
returns-then-is_half_old-clause-same c = stands-higher c.args.self.now _ (returns-then-is_half_old-clause-lengths c) c.requires

pub returns-then-is_half_old-clause-items : goal.returns-then-is_half_old-clause-items
returns-then-is_half_old-clause-items c = λ xs stands. stands-folded _ xs (returns-then-is_half_old-clause-same c xs stands)

pub returns-else-is_half_old-clause-lengths : goal.returns-else-is_half_old-clause-lengths
returns-else-is_half_old-clause-lengths c = same_kept c.args.self.now _ c.args.floor (ap (λ t. t.last) c.self.view_is) (ap (λ t. t.entries) c.self.view_is)

pub returns-else-is_half_old-clause-same : goal.returns-else-is_half_old-clause-same
returns-else-is_half_old-clause-same c = stands-higher c.args.self.now _ (returns-else-is_half_old-clause-lengths c) c.requires

pub returns-else-is_half_old-clause-items : goal.returns-else-is_half_old-clause-items
returns-else-is_half_old-clause-items c = λ xs stands. stands-folded _ xs (returns-else-is_half_old-clause-same c xs stands)
