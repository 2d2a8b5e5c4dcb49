use Rattle.std.proofs.Common.{◌≡◌, ℕ, List, Option, Some, None, IsSomeAnd, IsTrue, ap, sym, subst, ◌∙◌, arith}
use Rattle.ft_arena.specs.Ids.{after}
use Rattle.ft_block.specs.Leaves.{ids, value_at, value_after, change_leaf, length_by}
use Rattle.ft_block.specs.Tree.{by_size}
use Rattle.ft_block.proofs.InsideLemmas.{in_sound, in_value_and, in_length, in_change}
use Rattle.ft_block.proofs.LeafListLemmas.{value_at_in, after_is_in, after_other, value_after_is, value_after_none, value_without, length_without, nothing_of, join_from}
use Rattle.ft_block.proofs.blocks.Blocks.join_next.Goals as goal

pub next-requires-clause-live : goal.next-requires-clause-live
next-requires-clause-live g c = value_at_in c.args.self.now.leaves c.args.id _ c.requires.can

pub unreachable-requires : goal.unreachable-requires
unreachable-requires g c =
    let none : value_after c.args.self.now.leaves c.args.id ≡ None = value_after_none c.args.self.now.leaves c.args.id (sym c.next.ensures ∙ c.in_default.is) in
    nothing_of (value_at c.args.self.now.leaves c.args.id)
    (subst (λ (o : Option g.row.L.Denot). IsSomeAnd (value_at c.args.self.now.leaves c.args.id)
    (λ v. IsSomeAnd o (λ w. IsTrue (g.L.Leaf.joins v w) × (g.L.Leaf.element v ≡ g.L.Leaf.element w)))) none c.requires.can)

pub take-requires-clause-live : goal.take-requires-clause-live
take-requires-clause-live g c =
    let next : after (ids c.args.self.now.leaves) c.args.id ≡ Some c.in-Some.next = sym c.next.ensures ∙ c.in-Some.is in
    after_is_in c.args.self.now.leaves c.args.id c.in-Some.next next

pub join_in-requires-clause-sound : goal.join_in-requires-clause-sound
join_in-requires-clause-sound g c = in_sound g.L.Leaf.size g.L.Leaf.element c.self.inside c.take.new.self c.self.view_is c.self.invariant c.in_ok-value.ensures.usable

pub join_in-requires-clause-can : goal.join_in-requires-clause-can
join_in-requires-clause-can g c =
    let next : after (ids c.args.self.now.leaves) c.args.id ≡ Some c.in-Some.next = sym c.next.ensures ∙ c.in-Some.is in
    let there : value_after c.args.self.now.leaves c.args.id ≡ Some c.in_ok-value.value =
    sym (value_after_is c.args.self.now.leaves c.args.id c.in-Some.next c.first-first.ensures.once next) ∙ c.in_ok-value.ensures.value in
    let can : IsSomeAnd (value_at c.args.self.now.leaves c.args.id)
    (λ v. IsTrue (g.L.Leaf.joins v c.in_ok-value.value) × (g.L.Leaf.element v ≡ g.L.Leaf.element c.in_ok-value.value)) =
    subst (λ (o : Option g.row.L.Denot). IsSomeAnd (value_at c.args.self.now.leaves c.args.id)
    (λ v. IsSomeAnd o (λ w. IsTrue (g.L.Leaf.joins v w) × (g.L.Leaf.element v ≡ g.L.Leaf.element w)))) there c.requires.can in
    let same_value : value_at c.args.self.now.leaves c.args.id ≡ value_at c.take.new.self.leaves c.args.id =
    sym (value_without c.args.self.now.leaves c.args.id c.in-Some.next
    (after_other c.args.self.now.leaves c.args.id c.in-Some.next c.first-first.ensures.once next))
    ∙ ap (λ (zs : List (ℕ × g.row.L.Denot)). value_at zs c.args.id) (sym c.in_ok-value.ensures.ok) in
    in_value_and g.L.Leaf.size g.L.Leaf.element c.self.inside c.take.new.self c.self.view_is c.self.invariant c.in_ok-value.ensures.usable c.args.id
    (λ v. IsTrue (g.L.Leaf.joins v c.in_ok-value.value) × (g.L.Leaf.element v ≡ g.L.Leaf.element c.in_ok-value.value))
    (subst (λ (o : Option g.row.L.Denot). IsSomeAnd o
    (λ v. IsTrue (g.L.Leaf.joins v c.in_ok-value.value) × (g.L.Leaf.element v ≡ g.L.Leaf.element c.in_ok-value.value))) same_value can)

pub join_in-requires-clause-fits : goal.join_in-requires-clause-fits
join_in-requires-clause-fits g c =
    omega (
      arith,
      in_length g.L.Leaf.size g.L.Leaf.element c.self.inside c.take.new.self c.self.view_is c.self.invariant c.in_ok-value.ensures.usable
          (by_size g.L.Leaf.size),
      ap (length_by g.L.Leaf.size) c.in_ok-value.ensures.ok,
      length_without g.L.Leaf.size c.args.self.now.leaves c.in-Some.next
          c.in_ok-value.value c.first-first.ensures.once c.in_ok-value.ensures.value,
      c.first-first.ensures.few,
    )

pub returns-in-Ok-clause-ok : goal.returns-in-Ok-clause-ok
returns-in-Ok-clause-ok g c =
    let next : after (ids c.args.self.now.leaves) c.args.id ≡ Some c.in-Some.next = sym c.next.ensures ∙ c.in-Some.is in
    let there : value_after c.args.self.now.leaves c.args.id ≡ Some c.in_ok-value.value =
    sym (value_after_is c.args.self.now.leaves c.args.id c.in-Some.next c.first-first.ensures.once next) ∙ c.in_ok-value.ensures.value in
    in_change g.L.Leaf.size g.L.Leaf.element c.self.inside c.take.new.self c.self.view_is c.self.invariant c.in_ok-value.ensures.usable
    (λ v. g.L.Leaf.joined v c.in_ok-value.value) c.join_in.new.arena c.args.id c.in-Ok.ensures.changes
    ∙ ap (λ (zs : List (ℕ × g.row.L.Denot)). change_leaf (λ v. g.L.Leaf.joined v c.in_ok-value.value) zs c.args.id) c.in_ok-value.ensures.ok
    ∙ join_from (λ v w. g.L.Leaf.joined v w) c.args.self.now.leaves c.args.id c.in-Some.next c.in_ok-value.value c.first-first.ensures.once next there
