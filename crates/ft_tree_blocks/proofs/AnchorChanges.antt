-- References on leaves of which one changes, and whether a leaf has any.
use Rattle.std.proofs.Common.{◌≡◌, ◌≢◌, ℕ, ◌≤◌, Bool, true, false, cond, nat_eq, List, [], ◌∷◌, not, Option, Some, None, is_some, option_map, subst, refl, sym, ◌∙◌, ap, inl, inr, arith}
use Rattle.std.specs.Option.{option_map_or}
use Rattle.std.proofs.lemmas.Bool.{cases_eq, cond-true, cond-false, eq-eqb, ne_eqb}
use Rattle.ft_arena.specs.Ids.{first, points, times}
use Rattle.ft_arena.proofs.IdLemmas.{same_other, same_refl}
use Rattle.ft_base.specs.declared.stamps.Stamp.{Stamp}
use Rattle.ft_block.specs.Leaves.{IsLeafIn}
use Rattle.ft_block.proofs.PositionLemmas.{first_in}
use Rattle.ft_tree_leaves.specs.declared.leaves.TreeLeaf.{TreeLeaf}
use Rattle.ft_tree_leaves.specs.declared.references.Reference.{Reference}
use Rattle.ft_tree_leaves.specs.References.{reference_at}
use Rattle.ft_refs.specs.declared.numbers.Place.{Place}
use Rattle.ft_refs.specs.RefLists.{IsRefs, RefLists, entry, ids_of, owner_of_place, place_of_reference}
use Rattle.ft_tree_blocks.specs.Anchors.{AnchorLists, AreAnchored, ChangesAnchor, is_acked_at, reference_on, references_on}
use Rattle.ft_tree_blocks.specs.Slides.{AreSettledBut, is_on}
use Rattle.ft_tree_blocks.proofs.AnchoredLeaves.{on_leaf, owner_live, reference_at-on}

none_first : (xs : List ℕ) → first xs ≡ None → xs ≡ []
none_first [] e = refl
none_first (x ∷ xs) e = (cc)

placed : (o : Option Place) (id : ℕ) → 1 ≤ points (owner_of_place o) id → (p : Place) × (o ≡ Some p) × (p.owner ≡ id)
placed None id h = absurd (omega arith)
placed (Some p) id h = elim (cases_eq p.owner id) [
  | inl e ↦ (p, refl, e)
  | inr d ↦ absurd (omega (arith, same_other p.owner id d))
]

-- a leaf that has no first reference has none
pub none_on : (s : RefLists) (id : ℕ) → IsRefs s → first (ids_of s id) ≡ None → (r : ℕ) (p : Place) → place_of_reference s r ≡ Some p → p.owner ≢ id
none_on s id sound e r p f q =
    omega (
      arith,
      ap (λ xs. times xs r) (none_first (ids_of s id) e),
      sound.once id r,
      ap (λ (o : Option Place). points (owner_of_place o) id) f,
      ap (λ (z : ℕ). points (Some z) id) q,
      same_refl id,
    )

module _ {C U : Type 0} (units : C → List U) (by : C → Option Stamp) (xs : List (ℕ × TreeLeaf C)) (a : AnchorLists) (anchored : AreAnchored units xs a) where
  -- and one that has one stands there
  pub live_on : (id r : ℕ) → IsRefs a.refs → first (ids_of a.refs id) ≡ Some r → IsLeafIn xs id
  live_on id r sound e =
      let p = placed (place_of_reference a.refs r) id (omega (arith, first_in (ids_of a.refs id) r e, sound.once id r)) in
      subst (IsLeafIn xs) p.2 (owner_live units by xs p.0 (on_leaf units by xs p.0 (anchored.on r p.0 p.1)))

  module _ (r : ℕ) (q : Option (Option Place)) (flag : Bool) (b : AnchorLists) (changes : ChangesAnchor r q flag a b) where
    -- what a tree shows then
    pub changed_references : (x : ℕ) → reference_at (references_on units by xs b) x
        ≡ cond (nat_eq x r) (option_map (reference_on units by xs flag) q) (reference_at (references_on units by xs a) x)
    changed_references x = elim (cases_eq x r) [
      | inl e ↦
          ap (λ (z : ℕ). reference_at (references_on units by xs b) z) e ∙ reference_at-on units by xs b r
          ∙ ap (λ (f : Bool). option_map (reference_on units by xs f) (entry b.refs r)) changes.flag
          ∙ ap (option_map (reference_on units by xs flag)) changes.places.changed
          ∙ sym (cond-true (nat_eq x r) _ _ (eq-eqb x r e))
      | inr d ↦
          reference_at-on units by xs b x
          ∙ ap (λ (f : Bool). option_map (reference_on units by xs f) (entry b.refs x)) (changes.flags x d)
          ∙ ap (option_map (reference_on units by xs (is_acked_at a x))) (changes.places.others x d)
          ∙ sym (reference_at-on units by xs a x)
          ∙ sym (cond-false (nat_eq x r) _ _ (ne_eqb x r d))
    ]

  none_by : (id r : ℕ) (o : Option Place) → ((p : Place) → o ≡ Some p → p.owner ≢ id)
      → option_map_or (λ owner. nat_eq owner id) (owner_of_place o) false ≡ false
  none_by id r None h = refl
  none_by id r (Some p) h = ne_eqb p.owner id (h p refl)

  -- a leaf without references has none that could slide
  pub none_references : (id : ℕ) (f : Reference → Reference) → ((r : ℕ) (p : Place) → place_of_reference a.refs r ≡ Some p → p.owner ≢ id) → (r : ℕ)
      → reference_at (references_on units by xs a) r
      ≡ cond (is_on a id r) (option_map f (reference_at (references_on units by xs a) r)) (reference_at (references_on units by xs a) r)
  none_references id f h r =
      let o = reference_at (references_on units by xs a) r in
      ap (λ (c : Bool). cond c (option_map f o) o) (sym (none_by id r (place_of_reference a.refs r) (h r)))

  pub none_settled : (id : ℕ) (nodes : List ℕ) → ((r : ℕ) (p : Place) → place_of_reference a.refs r ≡ Some p → p.owner ≢ id) → AreSettledBut xs (id ∷ nodes) a
      → AreSettledBut xs nodes a
  none_settled id nodes h settled r p e f gone = omega (arith, settled r p e f gone, same_other id p.owner (λ q. h r p e (sym q)))

pub none_is : (o : Option ℕ) (b : Bool) → is_some o ≡ not b → b ≡ true → o ≡ None
none_is None b e f = refl
none_is (Some n) b e f = let no_value : true ≡ false = e ∙ ap not f in (cc)

pub some_is : (o : Option ℕ) (b : Bool) → is_some o ≡ not b → b ≡ false → (r : ℕ) × (o ≡ Some r)
some_is None b e f = let no_value : false ≡ true = e ∙ ap not f in (cc)
some_is (Some n) b e f = (n, refl)
