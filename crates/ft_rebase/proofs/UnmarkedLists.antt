-- The pending marks of removed elements taken off before the stages are moved: the views stay, and moving gives the rebuilt list.
use Rattle.std.proofs.Common.{◌≡◌, ℕ, zero, suc, Bool, true, false, cond, not, ◌&&◌, ◌||◌, List, [], ◌∷◌, Option, Some, None, map, filter, option_map, refl, sym, ◌∙◌, ap, arith}
use Rattle.std.specs.List.{list_any}
use Rattle.ft_base.specs.declared.stamps.Stamp.{Stamp}
use Rattle.ft_base.specs.declared.stamps.Stamp.TheVariants.{Acked, Local}
use Rattle.ft_base.specs.declared.elements.Element.{Element as ElementStamps}
use Rattle.ft_base.specs.Scan.{no_run, put, rank, retain_map}
use Rattle.ft_base.specs.Visibility.{has_occurred_at_stage, is_acked, is_of_stage}
use Rattle.ft_tree_leaves.specs.declared.references.Reference.{Reference}
use Rattle.ft_tree_leaves.specs.Edits.{with_place}
use Rattle.ft_tree_leaves.specs.Elements.{TreeElement}
use Rattle.ft_rebase.specs.Normalised.{carried_element, rebuilt_list, unmarked_element, without_pending}
use Rattle.ft_rebase.specs.RebuiltPlaces.{rebuilt_place}
use Rattle.ft_rebase.specs.StageLists.{StagesUpTo, StandSideBySide, inserted_by, is_one_run, is_run_at_front, next_position, seen_by, seen_or_next, sequenced, with_stages}
use Rattle.ft_rebase.proofs.KeptPlaces.{rebuilt_place-image}

-- ---- lists in which each element is changed, and passes each test as before

module _ {A : Type 0} (g : A → A) where
  pub filter-map : (t : A → Bool) → ((x : A) → t (g x) ≡ t x) → (xs : List A) → filter t (map g xs) ≡ map g (filter t xs)
  filter-map t h [] = refl
  filter-map t h (x ∷ xs) = grind (arith, filter-map t h xs, h x)

  filter-fixed : (t : A → Bool) → ((x : A) → t (g x) ≡ t x) → ((x : A) → t x ≡ true → g x ≡ x) → (xs : List A) → filter t (map g xs)
      ≡ filter t xs
  filter-fixed t h f [] = refl
  filter-fixed t h f (x ∷ xs) = grind (arith, filter-fixed t h f xs, h x, f x)

  filter-retain : (t : A → Bool) (c : A → A) → ((x : A) → t (g x) ≡ t x) → ((x : A) → t x ≡ true → g x ≡ c x) → (xs : List A)
      → filter t (map g xs) ≡ retain_map t c xs
  filter-retain t c h f [] = refl
  filter-retain t c h f (x ∷ xs) = grind (arith, filter-retain t c h f xs, h x, f x)

  rank-map : (is see : A → Bool) → ((x : A) → is (g x) ≡ is x) → ((x : A) → see (g x) ≡ see x) → (xs : List A) → rank is see (map g xs)
      ≡ rank is see xs
  rank-map is see h f [] = refl
  rank-map is see h f (x ∷ xs) = grind (arith, rank-map is see h f xs, h x, f x)

  any-map : (is : A → Bool) → ((x : A) → is (g x) ≡ is x) → (xs : List A) → list_any is (map g xs) ≡ list_any is xs
  any-map is h [] = refl
  any-map is h (x ∷ xs) = grind (arith, any-map is h xs, h x)

  front-map : (is : A → Bool) → ((x : A) → is (g x) ≡ is x) → (xs : List A) → is_run_at_front is (map g xs) ≡ is_run_at_front is xs
  front-map is h [] = refl
  front-map is h (x ∷ xs) = grind (arith, front-map is h xs, any-map is h xs, h x)

  one_run-map : (is : A → Bool) → ((x : A) → is (g x) ≡ is x) → (xs : List A) → is_one_run is (map g xs) ≡ is_one_run is xs
  one_run-map is h [] = refl
  one_run-map is h (x ∷ xs) = grind (arith, one_run-map is h xs, front-map is h xs, h x)

-- ---- elements of a tree

any-kept : (k : ℕ) (ts : List Stamp) → list_any is_acked ts ≡ true → list_any (has_occurred_at_stage k) (filter is_acked ts) ≡ true
any-kept k [] h = cc
any-kept k (Acked s c ∷ ts) h = refl
any-kept k (Local j ∷ ts) h = any-kept k ts h

any-acked : (k : ℕ) (ts : List Stamp) → list_any is_acked ts ≡ true → list_any (has_occurred_at_stage k) ts ≡ true
any-acked k [] h = cc
any-acked k (Acked s c ∷ ts) h = refl
any-acked k (Local j ∷ ts) h = ap (λ b. has_occurred_at_stage k (Local j) || b) (any-acked k ts h)
    ∙ either (has_occurred_at_stage k (Local j))
  where
    either : (b : Bool) → (b || true) ≡ true
    either true = refl
    either false = refl

module _ {U : Type 0} where
  abbrev st : TreeElement U → ElementStamps
  st e = e.stamps

  same-insertion : (e : TreeElement U) → (unmarked_element e).stamps.ins ≡ e.stamps.ins
  same-insertion e = step (is_acked e.stamps.ins) (list_any is_acked e.stamps.dels)
    where
      step : (a b : Bool) → (cond a (cond b (without_pending e) e) e).stamps.ins ≡ e.stamps.ins
      step true true = refl
      step true false = refl
      step false b = refl

  same-inserted : (k : ℕ) (e : TreeElement U) → inserted_by st k (unmarked_element e) ≡ inserted_by st k e
  same-inserted k e = ap (is_of_stage k) (same-insertion e)

  same-sequenced : (e : TreeElement U) → sequenced st (unmarked_element e) ≡ sequenced st e
  same-sequenced e = ap is_acked (same-insertion e)

  -- an element with a sequenced removal is seen at no stage, with its marks and without
  same-seen : (k : ℕ) (e : TreeElement U) → seen_by st k (unmarked_element e) ≡ seen_by st k e
  same-seen k e = step (is_acked e.stamps.ins) (list_any is_acked e.stamps.dels) refl
    where
      step : (a b : Bool) → list_any is_acked e.stamps.dels ≡ b → seen_by st k (cond a (cond b (without_pending e) e) e) ≡ seen_by st k e
      step true true h =
          ap (λ b. has_occurred_at_stage k e.stamps.ins && not b) (any-kept k e.stamps.dels h ∙ sym (any-acked k e.stamps.dels h))
      step true false h = refl
      step false b h = refl

  pending-fixed : (k : ℕ) (e : TreeElement U) → inserted_by st k e ≡ true → unmarked_element e ≡ e
  pending-fixed k e h = ap (λ b. cond b (carried_element e) e) (pending e.stamps.ins h)
    where
      pending : (t : Stamp) → is_of_stage k t ≡ true → is_acked t ≡ false
      pending (Acked s c) h = cc
      pending (Local j) h = refl

  sequenced-carried : (e : TreeElement U) → sequenced st e ≡ true → unmarked_element e ≡ carried_element e
  sequenced-carried e h = ap (λ b. cond b (carried_element e) e) h

  -- the stages moved in the unmarked list
  pub unmarked-rebuilt : (xs : List (TreeElement U)) (last : ℕ)
      → with_stages st (map unmarked_element xs) (filter (sequenced st) (map unmarked_element xs)) last ≡ rebuilt_list last xs
  unmarked-rebuilt xs zero = filter-retain unmarked_element (sequenced st) carried_element same-sequenced sequenced-carried xs
  unmarked-rebuilt xs (suc k) =
      ap (λ p. put (seen_by st k) no_run p (filter (inserted_by st (suc k)) (map unmarked_element xs))
      (with_stages st (map unmarked_element xs) (filter (sequenced st) (map unmarked_element xs)) k))
      (rank-map unmarked_element (inserted_by st (suc k)) (seen_by st k) (same-inserted (suc k)) (same-seen k) xs)
      ∙ ap (λ us. put (seen_by st k) no_run (next_position st k xs) us
      (with_stages st (map unmarked_element xs) (filter (sequenced st) (map unmarked_element xs)) k))
      (filter-fixed unmarked_element (inserted_by st (suc k)) (same-inserted (suc k)) (pending-fixed (suc k)) xs)
      ∙ ap (put (seen_by st k) no_run (next_position st k xs) (filter (inserted_by st (suc k)) xs)) (unmarked-rebuilt xs k)

  -- elements that stand side by side do so without these marks
  pub unmarked-side : (xs : List (TreeElement U)) → StandSideBySide st xs → StandSideBySide st (map unmarked_element xs)
  unmarked-side xs side k =
      ap (is_one_run (inserted_by st (suc k))) (filter-map unmarked_element (seen_or_next st k) same-wide xs)
      ∙ one_run-map unmarked_element (inserted_by st (suc k)) (same-inserted (suc k)) (filter (seen_or_next st k) xs)
      ∙ side k
    where
      same-wide : (e : TreeElement U) → seen_or_next st k (unmarked_element e) ≡ seen_or_next st k e
      same-wide e = ap (λ b. b || inserted_by st (suc k) (unmarked_element e)) (same-seen k e)
          ∙ ap (λ b. seen_by st k e || b) (same-inserted (suc k) e)

  -- and are of the same stages
  pub unmarked-up_to : (xs : List (TreeElement U)) (last : ℕ) → StagesUpTo st last xs → StagesUpTo st last (map unmarked_element xs)
  unmarked-up_to xs last h = record {
    first = any-map unmarked_element (inserted_by st 0) (same-inserted 0) xs ∙ h.first;
    above = λ k a. any-map unmarked_element (inserted_by st k) (same-inserted k) xs ∙ h.above k a;
  }

  -- places don't depend on these marks
  pub unmarked-place : (xs : List (TreeElement U)) (last j : ℕ) → rebuilt_place st last (map unmarked_element xs) j ≡ rebuilt_place st last xs j
  unmarked-place xs last j = rebuilt_place-image st st unmarked_element same-inserted same-seen same-sequenced last xs j

-- references that go to the same places
pub same-places : (f g : ℕ → ℕ) → ((j : ℕ) → f j ≡ g j) → (o : Option Reference) → option_map (with_place f) o ≡ option_map (with_place g) o
same-places f g same None = refl
same-places f g same (Some x) = placed x.place
  where
    placed : (p : Option ℕ) → Some (with_place f (record x { place = p })) ≡ Some (with_place g (record x { place = p }))
    placed None = refl
    placed (Some j) = ap (λ i. Some (record x { place = Some i })) (same j)
