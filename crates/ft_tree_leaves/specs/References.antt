-- References, each under its number, and where each change of the elements takes them.
use Rattle.std.specs.Prelude.{◌≡◌, ℕ, cond, nat_eq, List, [], ◌∷◌, Option, Some, None, IsSome, option_map, option_and_then}
use Rattle.ft_tree_leaves.specs.declared.references.Reference.{Reference}
use Rattle.ft_tree_leaves.specs.Elements.{TreeElement, is_unremoved}
use Rattle.ft_tree_leaves.specs.Places.{settled_place}

-- the reference of this number, if it is live
abbrev pub reference_at : List (ℕ × Reference) → ℕ → Option Reference
reference_at [] r = None
reference_at (x ∷ xs) r = cond (nat_eq x.0 r) (Some x.1) (reference_at xs r)

-- the reference of this number is live
abbrev pub IsReferenceIn : List (ℕ × Reference) → ℕ → Type 0
IsReferenceIn refs r = IsSome (reference_at refs r)

-- the place of a reference of this number, none where it is detached
abbrev pub reference_place : List (ℕ × Reference) → ℕ → Option ℕ
reference_place refs r = option_and_then (λ x. x.place) (reference_at refs r)

-- an acknowledged reference after sequenced removals: it slides; a pending one stays
abbrev pub slid_reference : {U : Type 0} → List (TreeElement U) → Reference → Reference
slid_reference xs x = cond x.acked (record x { place = option_and_then (settled_place is_unremoved xs) x.place }) x

-- each live reference goes on by this change, and no other is live
abbrev pub ChangesReferences : (Reference → Reference) → List (ℕ × Reference) → List (ℕ × Reference) → Type 0
ChangesReferences f old new = (r : ℕ) → reference_at new r ≡ option_map f (reference_at old r)

-- the references stay as they are
abbrev pub KeepsReferences : List (ℕ × Reference) → List (ℕ × Reference) → Type 0
KeepsReferences old new = (r : ℕ) → reference_at new r ≡ reference_at old r
