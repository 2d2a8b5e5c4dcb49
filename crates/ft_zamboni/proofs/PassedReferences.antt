-- References that go on by one change after another.
use Rattle.std.proofs.Common.{◌≡◌, ℕ, List, Option, Some, None, refl, sym, ◌∙◌, ap}
use Rattle.std.specs.Prelude.{option_map, option_and_then}
use Rattle.ft_tree_leaves.specs.declared.references.Reference.{Reference}
use Rattle.ft_tree_leaves.specs.Edits.{with_place}
use Rattle.ft_tree_leaves.specs.References.{ChangesReferences, KeepsReferences, reference_place, reference_at}

module _ (f g h : ℕ → ℕ) where
  twice : (o : Option Reference) → ((i : ℕ) → option_and_then (λ x. x.place) o ≡ Some i → g (f i) ≡ h i)
      → option_map (with_place g) (option_map (with_place f) o) ≡ option_map (with_place h) o
  twice None e = refl
  twice (Some x) e = ap (λ p. let y : Reference = record { place = p; acked = x.acked } in Some y) (placed x.place e)
    where
      placed : (p : Option ℕ) → ((i : ℕ) → p ≡ Some i → g (f i) ≡ h i) → option_map g (option_map f p) ≡ option_map h p
      placed None e = refl
      placed (Some i) e = ap Some (e i refl)

  -- one after the other
  pub changes-twice : (old mid new : List (ℕ × Reference)) → ChangesReferences (with_place f) old mid
      → ChangesReferences (with_place g) mid new
      → ((r i : ℕ) → reference_place old r ≡ Some i → g (f i) ≡ h i) → ChangesReferences (with_place h) old new
  changes-twice old mid new first second e = λ r. second r ∙ ap (option_map (with_place g)) (first r) ∙ twice (reference_at old r) (e r)

module _ (f : ℕ → ℕ) where
  -- as they were once more
  pub changes-kept : (old mid new : List (ℕ × Reference)) → ChangesReferences (with_place f) old mid → KeepsReferences mid new
      → ChangesReferences (with_place f) old new
  changes-kept old mid new first keep = λ r. keep r ∙ first r

  unchanged : (o : Option Reference) → ((i : ℕ) → f i ≡ i) → o ≡ option_map (with_place f) o
  unchanged None e = refl
  unchanged (Some x) e = ap (λ p. let y : Reference = record { place = p; acked = x.acked } in Some y) (placed x.place)
    where
      placed : (p : Option ℕ) → p ≡ option_map f p
      placed None = refl
      placed (Some i) = ap Some (sym (e i))

  -- where no place changes
  pub changes-none : (refs : List (ℕ × Reference)) → ((i : ℕ) → f i ≡ i) → ChangesReferences (with_place f) refs refs
  changes-none refs e = λ r. unchanged (reference_at refs r) e

  -- a reference now was at a place that goes here
  was_at : (o : Option Reference) (j : ℕ) → option_and_then (λ x. x.place) (option_map (with_place f) o) ≡ Some j
      → (i : ℕ) × ((option_and_then (λ x. x.place) o ≡ Some i) × (j ≡ f i))
  was_at None j e = (cc)
  was_at (Some x) j e = placed x.place e
    where
      placed : (p : Option ℕ) → option_map f p ≡ Some j → (i : ℕ) × ((p ≡ Some i) × (j ≡ f i))
      placed None e = (cc)
      placed (Some i) e = (i, (refl, (cc)))

  pub place-was : (old new : List (ℕ × Reference)) → ChangesReferences (with_place f) old new → (r j : ℕ) → reference_place new r ≡ Some j
      → (i : ℕ) × ((reference_place old r ≡ Some i) × (j ≡ f i))
  place-was old new change r j e = was_at (reference_at old r) j (ap (option_and_then (λ x. x.place)) (sym (change r)) ∙ e)

module _ (f g : ℕ → ℕ) where
  alike : ((i : ℕ) → f i ≡ g i) → (o : Option Reference) → option_map (with_place f) o ≡ option_map (with_place g) o
  alike e None = refl
  alike e (Some x) = ap (λ p. let y : Reference = record { place = p; acked = x.acked } in Some y) (placed x.place)
    where
      placed : (p : Option ℕ) → option_map f p ≡ option_map g p
      placed None = refl
      placed (Some i) = ap Some (e i)

  -- by an equal change
  pub changes-same : (old new : List (ℕ × Reference)) → ((i : ℕ) → f i ≡ g i) → ChangesReferences (with_place f) old new
      → ChangesReferences (with_place g) old new
  changes-same old new e change = λ r. change r ∙ alike e (reference_at old r)
