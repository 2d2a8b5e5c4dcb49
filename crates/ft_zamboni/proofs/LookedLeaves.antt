-- What a sweep makes of one leaf, from what the calls of a tree say.
use Rattle.std.proofs.Common.{◌≡◌, ℕ, Bool, true, false, IsTrue, ◌↔◌, if◌then◌else◌, List, [], ◌∷◌, ◌++◌, Option, Some, None, subst, refl, sym, ◌∙◌, ap}
use Rattle.std.specs.Prelude.{option_map}
use Rattle.ft_base.specs.declared.stamps.Stamp.{Stamp}
use Rattle.ft_base.specs.declared.elements.Element.{Element as ElementStamps}
use Rattle.ft_block.specs.Leaves.{join_leaf, value_at, without_leaf}
use Rattle.ft_tree_leaves.specs.declared.leaves.TreeLeaf.{TreeLeaf}
use Rattle.ft_tree_leaves.specs.Edits.{MayJoinNext, closed_by, joined_leaf, sweep_joined, sweep_without, with_place}
use Rattle.ft_tree_leaves.specs.References.{ChangesReferences, KeepsReferences}
use Rattle.ft_tree.specs.State.{TreeState}
use Rattle.ft_zamboni.specs.Scours.{is_collectable}
use Rattle.ft_zamboni.specs.Sweeps.{Looks}
use Rattle.ft_zamboni.specs.Sweeps.Looks.{took, merged, stayed}

module _ {C U : Type 0} (units : C → List U) (by : C → Option Stamp) (joins : C → C → Bool) (joined : C → C → C) (old new : TreeState C)
    (id : ℕ)
    (e : ElementStamps) (answer : Bool) (stamps_is : option_map (λ x. x.stamps) (value_at old.leaves id) ≡ Some e)
    (answer_is : answer ≡ is_collectable old.floor e) where
  value : (o : Option (TreeLeaf C)) → option_map (λ x. x.stamps) o ≡ Some e
      → (x : TreeLeaf C) × ((o ≡ Some x) × (answer ≡ is_collectable old.floor x.stamps))
  value None h = (cc)
  value (Some x) h = let same : x.stamps ≡ e = (cc) in (x, (refl, answer_is ∙ ap (is_collectable old.floor) (sym same)))

  here : (x : TreeLeaf C) × ((value_at old.leaves id ≡ Some x) × (answer ≡ is_collectable old.floor x.stamps))
  here = value (value_at old.leaves id) stamps_is

  pub look-took : (last : Option ℕ) (given taken : List C) (content : C) → answer ≡ true
      → option_map (λ x. x.content) (value_at old.leaves id) ≡ Some content
      → new.leaves ≡ without_leaf old.leaves id
      → ChangesReferences (with_place (closed_by units by old.leaves id)) old.refs new.refs
      → new.sweep ≡ sweep_without old.leaves id old.sweep
      → taken ≡ given ++ content ∷ []
      → Looks units by joins joined old new id last last given taken
  look-took last given taken content told content_is leaves_is refs_is sweep_is taken_is =
      let x = here.0 in
      let both : Some x.content ≡ Some content = ap (option_map (λ (y : TreeLeaf C). y.content)) (sym here.1.0) ∙ content_is in
      let same : content ≡ x.content = (cc) in
      subst (Looks units by joins joined old new id last last given) (sym (taken_is ∙ ap (λ y. given ++ y ∷ []) same))
      (took here.1.0 (sym here.1.1 ∙ told) leaves_is refs_is sweep_is)

  pub look-merged : (l : ℕ) (last : Option ℕ) (given : List C) (joins_now : Bool) → answer ≡ false → last ≡ Some l → joins_now ≡ true
      → (IsTrue joins_now ↔ MayJoinNext joins old.floor old.leaves l)
      → new.leaves ≡ (if joins_now then join_leaf (joined_leaf joined) old.leaves l else old.leaves)
      → new.sweep ≡ (if joins_now then sweep_joined old.leaves l old.sweep else old.sweep)
      → KeepsReferences old.refs new.refs
      → Looks units by joins joined old new id last last given given
  look-merged l last given joins_now told_not last_is told may leaves_is sweep_is keeps =
      subst (λ o. Looks units by joins joined old new id o o given given) (sym last_is)
      (merged here.1.0 (sym here.1.1 ∙ told_not) (may.0 told)
      (leaves_is ∙ ap (λ b. if b then join_leaf (joined_leaf joined) old.leaves l else old.leaves) told) keeps
      (sweep_is ∙ ap (λ b. if b then sweep_joined old.leaves l old.sweep else old.sweep) told))

  pub look-stayed : (last : Option ℕ) (given : List C) → answer ≡ false → new.leaves ≡ old.leaves → new.sweep ≡ old.sweep
      → KeepsReferences old.refs new.refs
      → Looks units by joins joined old new id last (Some id) given given
  look-stayed last given told_not leaves_is sweep_is keeps = stayed here.1.0 (sym here.1.1 ∙ told_not) leaves_is keeps sweep_is
