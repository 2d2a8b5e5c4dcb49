-- The leaves after what is pending was taken off those whose insertion and a removal of it are sequenced.
use Rattle.std.proofs.Common.{◌≡◌, ℕ, ◌-◌, ◌≤◌, Bool, true, false, cond, not, ◌&&◌, nat_lt, List, [], ◌∷◌, ◌++◌, Option, Some, None, map, filter, length, refl, sym, ◌∙◌, ap, arith}
use Rattle.std.proofs.lemmas.List.{map-append}
use Rattle.std.specs.List.{list_any}
use Rattle.std.specs.Option.{option_and_then, option_map}
use Rattle.ft_base.specs.declared.stamps.Stamp.{Stamp}
use Rattle.ft_base.specs.declared.stamps.Stamp.TheVariants.{Acked, Local}
use Rattle.ft_base.specs.Visibility.{is_acked}
use Rattle.ft_props.specs.declared.properties.Changes.{Changes}
use Rattle.ft_tree_leaves.specs.declared.leaves.TreeLeaf.{TreeLeaf}
use Rattle.ft_tree_leaves.specs.Edits.{sequenced_leaf}
use Rattle.ft_tree_leaves.specs.Elements.{TreeElement, element_with}
use Rattle.ft_tree_leaves.specs.LeafLists.{elements, leaf_elements}
use Rattle.ft_tree_leaves.specs.References.{KeepsReferences, reference_place}
use Rattle.ft_tree.specs.State.{TreeState}
use Rattle.ft_rebase.specs.Moves.{leaf_stamps}
use Rattle.ft_rebase.specs.Normalised.{carried_element, carried_leaf, carried_pair, is_gone, unmarked_element, without_pending}
use Rattle.ft_rebase.specs.Spots.{KeepsSpots, spot_at}
use Rattle.ft_rebase.specs.StageLists.{sequenced}
use Rattle.ft_rebase.proofs.UnmarkedLists.{filter-map}

all-sequenced : (ts : List Stamp) → list_any (λ t. not (is_acked t)) ts ≡ false → filter is_acked ts ≡ ts
all-sequenced [] h = refl
all-sequenced (Acked s c ∷ ts) h = ap (λ us. Acked s c ∷ us) (all-sequenced ts h)
all-sequenced (Local k ∷ ts) h = cc

-- and the other way round
fewer_sequenced : (ts : List Stamp) → length (filter is_acked ts) ≤ length ts
fewer_sequenced [] = omega arith
fewer_sequenced (Acked s c ∷ ts) = omega (arith, fewer_sequenced ts)
fewer_sequenced (Local k ∷ ts) = omega (arith, fewer_sequenced ts)

abbrev stamps_behind : List Stamp → List Stamp
stamps_behind [] = []
stamps_behind (t ∷ ts) = ts

only-sequenced : (ts : List Stamp) → filter is_acked ts ≡ ts → list_any (λ t. not (is_acked t)) ts ≡ false
only-sequenced [] h = refl
only-sequenced (Acked s c ∷ ts) h = only-sequenced ts (ap stamps_behind h)
only-sequenced (Local k ∷ ts) h = absurd (omega (arith, fewer_sequenced ts, ap length h))

module _ {C : Type 0} where
  -- a leaf that is gone, and one that isn't
  pub carried-gone : (x : TreeLeaf C) → is_gone x.stamps ≡ true → carried_leaf x ≡ sequenced_leaf x
  carried-gone x h = ap (λ b. cond b (sequenced_leaf x) x) h

  pub carried-kept : (x : TreeLeaf C) → is_gone x.stamps ≡ false → carried_leaf x ≡ x
  carried-kept x h = ap (λ b. cond b (sequenced_leaf x) x) h

  -- a leaf on which nothing is pending is as it was
  pub bare-same : (x : TreeLeaf C) → list_any (λ t. not (is_acked t)) x.stamps.dels ≡ false → x.overlay.pending ≡ [] → sequenced_leaf x ≡ x
  bare-same x h g =
      let leaf : List Stamp → List (ℕ × Changes) → TreeLeaf C =
      λ dels pending. record {
        content = x.content;
        stamps = record { ins = x.stamps.ins; dels = dels };
        overlay = record { acked = x.overlay.acked; pending = pending };
      } in
      ap (λ ds. leaf ds []) (all-sequenced x.stamps.dels h) ∙ ap (leaf x.stamps.dels) (sym g)

  pub bare-only : (x : TreeLeaf C) → sequenced_leaf x ≡ x → (list_any (λ t. not (is_acked t)) x.stamps.dels ≡ false) × (x.overlay.pending ≡ [])
  bare-only x h = (only-sequenced x.stamps.dels (ap (λ (y : TreeLeaf C). y.stamps.dels) h), sym (ap (λ (y : TreeLeaf C). y.overlay.pending) h))

  same-content : (x : TreeLeaf C) → (carried_leaf x).content ≡ x.content
  same-content x = step (is_gone x.stamps)
    where
      step : (b : Bool) → (cond b (sequenced_leaf x) x).content ≡ x.content
      step true = refl
      step false = refl

  same-insertion : (x : ℕ × TreeLeaf C) → sequenced leaf_stamps (carried_pair x) ≡ sequenced leaf_stamps x
  same-insertion x = step (is_gone x.1.stamps)
    where
      step : (b : Bool) → is_acked (cond b (sequenced_leaf x.1) x.1).stamps.ins ≡ is_acked x.1.stamps.ins
      step true = refl
      step false = refl

  -- the sequenced leaves among them
  pub sequenced-carried : (xs : List (ℕ × TreeLeaf C)) → filter (sequenced leaf_stamps) (map carried_pair xs)
      ≡ map carried_pair (filter (sequenced leaf_stamps) xs)
  sequenced-carried xs = filter-map carried_pair (sequenced leaf_stamps) same-insertion xs

module _ {C U : Type 0} (units : C → List U) where
  spot-carried : (xs : List (ℕ × TreeLeaf C)) (j : ℕ) → spot_at units (map carried_pair xs) j ≡ spot_at units xs j
  spot-carried [] j = refl
  spot-carried (x ∷ xs) j =
      ap (λ c. cond (nat_lt j (length (units c))) (Some (x.0, j)) (spot_at units (map carried_pair xs) (j - length (units c)))) (same-content x.1)
      ∙ ap (λ o. cond (nat_lt j (length (units x.1.content))) (Some (x.0, j)) o) (spot-carried xs (j - length (units x.1.content)))

  -- each reference keeps its element
  pub spots_carried : (old new : TreeState C) → new.leaves ≡ map carried_pair old.leaves → KeepsReferences old.refs new.refs
      → KeepsSpots units old new
  spots_carried old new leaves refs = record {
    spots = λ r.
        ap (λ x. option_and_then (spot_at units new.leaves) (option_and_then (λ y. y.place) x)) (refs r)
        ∙ ap (λ ys. option_and_then (spot_at units ys) (reference_place old.refs r)) leaves
        ∙ same (reference_place old.refs r);
    acked = λ r. ap (option_map (λ x. x.acked)) (refs r);
  }
    where
      same : (p : Option ℕ) → option_and_then (spot_at units (map carried_pair old.leaves)) p ≡ option_and_then (spot_at units old.leaves) p
      same None = refl
      same (Some j) = spot-carried old.leaves j

module _ {C U : Type 0} (units : C → List U) (by : C → Option Stamp) where
  one : (e : TreeElement U) (a b : Bool) → is_acked e.stamps.ins ≡ a → list_any is_acked e.stamps.dels ≡ b
      → unmarked_element e ≡ cond a (cond b (without_pending e) e) e
  one e a b h g =
      ap (λ c. cond c (carried_element e) e) h
      ∙ ap (λ c. cond a (cond c (without_pending e) e) e) g

  run-carried : (a b : Bool) (x : TreeLeaf C) → is_acked x.stamps.ins ≡ a → list_any is_acked x.stamps.dels ≡ b → (us : List U)
      → map (element_with (cond (a && b) (sequenced_leaf x) x).stamps (by x.content) (cond (a && b) (sequenced_leaf x) x).overlay) us
      ≡ map unmarked_element (map (element_with x.stamps (by x.content) x.overlay) us)
  run-carried a b x h g [] = refl
  run-carried true true x h g (u ∷ us) =
      ap (λ es. without_pending (element_with x.stamps (by x.content) x.overlay u) ∷ es) (run-carried true true x h g us)
      ∙ ap (λ e. e ∷ map unmarked_element (map (element_with x.stamps (by x.content) x.overlay) us))
      (sym (one (element_with x.stamps (by x.content) x.overlay u) true true h g))
  run-carried true false x h g (u ∷ us) =
      ap (λ es. element_with x.stamps (by x.content) x.overlay u ∷ es) (run-carried true false x h g us)
      ∙ ap (λ e. e ∷ map unmarked_element (map (element_with x.stamps (by x.content) x.overlay) us))
      (sym (one (element_with x.stamps (by x.content) x.overlay u) true false h g))
  run-carried false b x h g (u ∷ us) =
      ap (λ es. element_with x.stamps (by x.content) x.overlay u ∷ es) (run-carried false b x h g us)
      ∙ ap (λ e. e ∷ map unmarked_element (map (element_with x.stamps (by x.content) x.overlay) us))
      (sym (one (element_with x.stamps (by x.content) x.overlay u) false b h g))

  leaf-carried : (x : TreeLeaf C) → leaf_elements units by (carried_leaf x) ≡ map unmarked_element (leaf_elements units by x)
  leaf-carried x =
      ap (λ c. map (element_with (carried_leaf x).stamps (by c) (carried_leaf x).overlay) (units c)) (same-content x)
      ∙ run-carried (is_acked x.stamps.ins) (list_any is_acked x.stamps.dels) x refl refl (units x.content)

  -- their elements
  pub elements-carried : (xs : List (ℕ × TreeLeaf C)) → elements units by (map carried_pair xs) ≡ map unmarked_element (elements units by xs)
  elements-carried [] = refl
  elements-carried (x ∷ xs) =
      ap (λ es. es ++ elements units by (map carried_pair xs)) (leaf-carried x.1)
      ∙ ap (λ es. map unmarked_element (leaf_elements units by x.1) ++ es) (elements-carried xs)
      ∙ sym (map-append unmarked_element (leaf_elements units by x.1) (elements units by xs))
