-- Where a new reference may stand, and references before a leaf that comes behind all.
use Rattle.std.proofs.Common.{◌≡◌, ℕ, zero, suc, ◌+◌, ◌<◌, ◌≤◌, Bool, List, [], ◌∷◌, Option, Some, None, option_and_then, option_map, nat_le, refl, sym, ◌∙◌, ap, inl, inr, arith}
use Rattle.std.proofs.lemmas.Bool.{cases_lt, cond-false, lt-leb}
use Rattle.ft_base.specs.Scan.{len}
use Rattle.ft_tree_leaves.specs.declared.references.Reference.{Reference}
use Rattle.ft_tree_leaves.specs.Edits.{with_place}
use Rattle.ft_tree_leaves.specs.Places.{shifted_place}
use Rattle.ft_tree_leaves.specs.References.{KeepsReferences, ChangesReferences, reference_place, reference_at}
use Rattle.ft_tree_leaves.proofs.Numbered.{place_from}
use Rattle.ft_tree_steps.proofs.FoundOffsets.{at-none}

module _ {A : Type 0} (seen : A → Bool) where
  -- where there is no place, no more are seen
  pub none_seen : (n p : ℕ) (xs : List A) → place_from seen n p xs ≡ None → len seen xs ≤ p
  none_seen n p [] e = omega arith
  none_seen n zero (x ∷ xs) e = grind (arith, none_seen (n + 1) zero xs)
  none_seen n (suc p) (x ∷ xs) e = grind (arith, none_seen (n + 1) p xs, none_seen (n + 1) (suc p) xs)

  -- where there is one, more are
  pub some_seen : (p k : ℕ) (xs : List A) → place_from seen 0 p xs ≡ Some k → p < len seen xs
  some_seen p k xs e = elim (cases_lt p (len seen xs)) [
    | inl less ↦ less
    | inr le ↦ let no : None ≡ Some k = sym (at-none seen 0 p xs le) ∙ e in let never : ⊥ = (cc) in absurd never
  ]

unshifted : (i n : ℕ) (o : Option Reference) → ((j : ℕ) → option_and_then (λ (x : Reference). x.place) o ≡ Some j → j < i)
    → option_map (with_place (shifted_place i n)) o ≡ o
unshifted i n None h = refl
unshifted i n (Some x) h = ap Some (same_place x.place x.acked h)
  where
    same_place : (p : Option ℕ) (acked : Bool) → ((j : ℕ) → p ≡ Some j → j < i)
        → with_place (shifted_place i n) (record { place = p; acked = acked }) ≡ record { place = p; acked = acked }
    same_place None acked h = refl
    same_place (Some j) acked h =
        ap (λ (k : ℕ). record { place = Some k; acked = acked }) (cond-false (nat_le i j) (j + n) j (lt-leb i j (h j refl)))

-- references before place i stay where elements are put in there
pub kept_before : (i n : ℕ) (old new : List (ℕ × Reference)) → ((r j : ℕ) → reference_place old r ≡ Some j → j < i)
    → ChangesReferences (with_place (shifted_place i n)) old new → KeepsReferences old new
kept_before i n old new before changes = λ r. changes r ∙ unshifted i n (reference_at old r) (before r)
