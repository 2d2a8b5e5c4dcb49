-- The test whether acknowledged references may stand on a leaf, as the view of stage 0 where nothing is pending of that stage.
use Rattle.std.proofs.Common.{◌≡◌, ℕ, ◌+◌, ◌≤◌, Bool, true, false, cond, ◌&&◌, nat_eq, List, [], ◌∷◌, ◌++◌, map, Option, Some, None, IsSomeAnd, slice_get, subst, refl, sym, ◌∙◌, ap, inl, inr, arith}
use Rattle.std.specs.List.{AllByRecursion, list_any}
use Rattle.std.specs.Option.{option_map_or, option_or}
use Rattle.std.proofs.lemmas.Bool.{and_parts, cases_eq, cond-false, cond-true, eq-eqb, false_from_ne_true, ne_eqb, or_cases, or_parts}
use Rattle.std.proofs.lemmas.Bool.Decides.{nat_tests}
use Rattle.ft_arena.proofs.IdLemmas.{same_refl}
use Rattle.ft_base.specs.declared.stamps.Stamp.{Stamp}
use Rattle.ft_base.specs.declared.stamps.Stamp.TheVariants.{Acked, Local}
use Rattle.ft_base.specs.Visibility.{has_occurred_at_stage, is_acked, is_of_stage}
use Rattle.ft_block.specs.declared.leaves.LenView.TheVariants.{Stage}
use Rattle.ft_block.specs.Leaves.{times_leaf, value_at}
use Rattle.ft_block.proofs.LeafListLemmas.{value_at_in}
use Rattle.ft_tree_leaves.specs.declared.leaves.Standing.{Standing}
use Rattle.ft_tree_leaves.specs.declared.leaves.Standing.TheVariants.{SeenIn, Unremoved}
use Rattle.ft_tree_leaves.specs.declared.leaves.TreeLeaf.{TreeLeaf}
use Rattle.ft_tree_leaves.specs.Edits.{is_marked_by, is_touched_by}
use Rattle.ft_tree_leaves.specs.Elements.{TreeElement, element_with}
use Rattle.ft_tree_leaves.specs.LeafLists.{elements, leaf_elements}
use Rattle.ft_tree_leaves.specs.Places.{settled_place}
use Rattle.ft_tree_leaves.specs.Settling.{allows, first_from, settled_from, stands}
use Rattle.ft_tree_leaves.proofs.Settling.{settled_place-from}
use Rattle.ft_tree_blocks.specs.LeafPlaces.{stands_at}
use Rattle.ft_tree_blocks.specs.Slides.{TellsUnremoved}
use Rattle.ft_tree_blocks.specs.Touched.{AreRising, NodesOfStage, Tracks, holds, is_list_of, is_listed}
use Rattle.ft_tree_blocks.proofs.StageSearch.{listed_above}

-- ---- stamps of other stages

sequenced : (s : Stamp) → is_of_stage 0 s ≡ false → has_occurred_at_stage 0 s ≡ is_acked s
sequenced (Acked seq conn) h = refl
sequenced (Local stage) h = grind (arith, nat_tests)

all_sequenced : (ss : List Stamp) → list_any (is_of_stage 0) ss ≡ false → list_any (has_occurred_at_stage 0) ss ≡ list_any is_acked ss
all_sequenced [] h = refl
all_sequenced (s ∷ ss) h =
    let parts = or_parts (is_of_stage 0 s) (list_any (is_of_stage 0) ss) h in
    rw (sequenced s parts.0, all_sequenced ss parts.1) refl

allows_alike : {C : Type 0} (v : TreeLeaf C) → is_touched_by 0 v ≡ false → allows (SeenIn (Stage 0)) v.stamps ≡ allows Unremoved v.stamps
allows_alike v h =
    let ins = or_parts (is_of_stage 0 v.stamps.ins) (is_marked_by 0 v) h in
    let dels = or_parts (list_any (is_of_stage 0) v.stamps.dels) (list_any (λ c. nat_eq c.0 0) v.overlay.pending) ins.1 in
    rw (sequenced v.stamps.ins ins.0, all_sequenced v.stamps.dels dels.0) refl

-- ---- no list is of stage 0

none_listed : (ss : List NodesOfStage) (id : ℕ) → AreRising ss → is_list_of 0 (slice_get ss 0) ≡ false → is_listed ss 0 id ≡ false
none_listed [] id up h = refl
none_listed (s ∷ ss) id up h = false_from_ne_true (is_listed (s ∷ ss) 0 id) (λ l. elim (or_cases (nat_eq s.stage 0 && holds s.nodes id) (is_listed
    ss 0 id) l) [
      | inl here ↦ let both = and_parts (nat_eq s.stage 0) (holds s.nodes id) here in let no : ⊥ = (cc) in no
      | inr rest ↦ omega (arith, listed_above s.stage ss 0 id up.0 rest)
    ])

module _ {C : Type 0} (leaves : List (ℕ × TreeLeaf C)) (ss : List NodesOfStage) where
  pub stage_zero : Tracks leaves ss → is_list_of 0 (slice_get ss 0) ≡ false → TellsUnremoved leaves (SeenIn (Stage 0))
  stage_zero tracks h id = step (value_at leaves id) refl
    where
      touched : (v : TreeLeaf C) → value_at leaves id ≡ Some v → is_touched_by 0 v ≡ false
      touched v e = false_from_ne_true (is_touched_by 0 v) (λ t.
          let listed : is_listed ss 0 id ≡ true = tracks.covers 0 id v e t in
          let none : is_listed ss 0 id ≡ false = none_listed ss id tracks.rising h in
          (cc))

      step : (o : Option (TreeLeaf C)) → value_at leaves id ≡ o
          → option_map_or (λ v. allows (SeenIn (Stage 0)) v.stamps) o false ≡ option_map_or (λ v. allows Unremoved v.stamps) o false
      step None e = refl
      step (Some v) e = allows_alike v (touched v e)

-- ---- two tests that tell the same

module _ {A : Type 0} (p q : A → Bool) where
  abbrev AreAlike : List A → Type 0
  AreAlike xs = AllByRecursion (λ x. p x ≡ q x) xs

  alike_append : (xs ys : List A) → AreAlike xs → AreAlike ys → AreAlike (xs ++ ys)
  alike_append [] ys h k = k
  alike_append (x ∷ xs) ys h k = (h.0, alike_append xs ys h.1 k)

  first_alike : (n : ℕ) (xs : List A) → AreAlike xs → first_from p n xs ≡ first_from q n xs
  first_alike n [] h = refl
  first_alike n (x ∷ xs) h = rw (h.0, first_alike (n + 1) xs h.1) refl

  settled_alike : (i : ℕ) (last : Option ℕ) (n : ℕ) (xs : List A) → AreAlike xs → settled_from p i last n xs ≡ settled_from q i last n xs
  settled_alike i last n [] h = refl
  settled_alike i last n (x ∷ xs) h =
      ap (λ o. cond (nat_eq n i) (option_or o last) (settled_from p i (cond (p x) (Some n) last) (n + 1) xs)) (first_alike n (x ∷ xs) h)
      ∙ ap (λ b. cond (nat_eq n i) (option_or (first_from q n (x ∷ xs)) last) (settled_from p i (cond b (Some n) last) (n + 1) xs)) h.0
      ∙ ap (cond (nat_eq n i) (option_or (first_from q n (x ∷ xs)) last)) (settled_alike i (cond (q x) (Some n) last) (n + 1) xs h.1)

module _ {C U : Type 0} (units : C → List U) (by : C → Option Stamp) (a b : Standing) where
  run_alike : (f : U → TreeElement U) → ((u : U) → stands a (f u) ≡ stands b (f u)) → (us : List U)
      → AreAlike (stands {U = U} a) (stands b) (map f us)
  run_alike f h [] = tt
  run_alike f h (u ∷ us) = (h u, run_alike f h us)

  pub elements_alike : (xs : List (ℕ × TreeLeaf C)) → ((i : ℕ) → times_leaf xs i ≤ 1) → ((id : ℕ) → stands_at a xs id ≡ stands_at b xs id)
      → AreAlike (stands {U = U} a) (stands b) (elements units by xs)
  elements_alike [] once same = tt
  elements_alike (x ∷ xs) once same =
      alike_append (stands a) (stands b) (leaf_elements units by x.1) (elements units by xs)
      (run_alike (λ u. element_with x.1.stamps (by x.1.content) x.1.overlay u) (λ u. here) (units x.1.content))
      (elements_alike xs (λ i. omega (arith, once i)) (λ id. rest id))
    where
      at : Standing → Option (TreeLeaf C) → Bool
      at test o = option_map_or (λ (v : TreeLeaf C). allows test v.stamps) o false

      first : value_at (x ∷ xs) x.0 ≡ Some x.1
      first = cond-true (nat_eq x.0 x.0) (Some x.1) (value_at xs x.0) (eq-eqb x.0 x.0 refl)

      here : allows a x.1.stamps ≡ allows b x.1.stamps
      here = sym (ap (at a) first) ∙ same x.0 ∙ ap (at b) first

      gone : (id : ℕ) (o : Option (TreeLeaf C)) → value_at xs id ≡ o → x.0 ≡ id → at a o ≡ at b o
      gone id None e d = refl
      gone id (Some v) e d =
          let live : 1 ≤ times_leaf xs id = value_at_in xs id (λ w. ℕ) (subst (λ (p : Option (TreeLeaf C)). IsSomeAnd p (λ w. ℕ)) (sym e) 0) in
          absurd (omega (arith, live, once x.0, same_refl x.0, ap (times_leaf xs) d))

      rest : (id : ℕ) → stands_at a xs id ≡ stands_at b xs id
      rest id = elim (cases_eq x.0 id) [
        | inl d ↦ gone id (value_at xs id) refl d
        | inr d ↦
            let later : value_at (x ∷ xs) id ≡ value_at xs id = cond-false (nat_eq x.0 id) (Some x.1) (value_at xs id) (ne_eqb x.0 id d) in
            sym (ap (at a) later) ∙ same id ∙ ap (at b) later
      ]

  pub settled_place-alike : (xs : List (ℕ × TreeLeaf C)) (i : ℕ) → ((j : ℕ) → times_leaf xs j ≤ 1) → ((id : ℕ)
      → stands_at a xs id ≡ stands_at b xs id)
      → settled_place (stands a) (elements units by xs) i ≡ settled_place (stands b) (elements units by xs) i
  settled_place-alike xs i once same =
      settled_place-from (stands a) i (elements units by xs)
      ∙ settled_alike (stands a) (stands b) i None 0 (elements units by xs) (elements_alike xs once same)
      ∙ sym (settled_place-from (stands b) i (elements units by xs))
