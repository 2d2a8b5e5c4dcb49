-- Lists of leaves that are cut at a place and get a leaf there.
use Rattle.std.proofs.Common.{◌≡◌, ℕ, zero, suc, ◌+◌, ◌≤◌, Bool, true, false, cond, List, [], ◌∷◌, ◌++◌, map, length, take, drop, Option, subst, refl, sym, ◌∙◌, ap, arith, append-nil}
use Rattle.std.specs.List.{prefix_len}
use Rattle.std.proofs.lemmas.List.{take-append-drop, take-map}
use Rattle.ft_base.specs.declared.stamps.Stamp.{Stamp}
use Rattle.ft_base.specs.Scan.{no_run, place, put, put_past}
use Rattle.ft_block.specs.Leaves.{ids, times_leaf}
use Rattle.ft_tree_leaves.specs.declared.leaves.TreeLeaf.{TreeLeaf}
use Rattle.ft_tree_leaves.specs.Elements.{TreeElement, element_with}
use Rattle.ft_tree_leaves.specs.LeafLists.{Extends, elements, leaf_elements}
use Rattle.ft_tree_leaves.specs.LeafLists.Extends.{none, kept, added}
use Rattle.ft_tree_leaves.proofs.LeafRuns.{elements-append}

-- an insertion as one at its place
pub put-split : {A : Type 0} (seen past : A → Bool) (p : ℕ) (new xs : List A)
    → put seen past p new xs ≡ take (place seen p xs) xs ++ put_past past new (drop (place seen p xs) xs)
put-split seen past zero new xs = refl
put-split seen past (suc p) new [] = refl
put-split seen past (suc p) new (x ∷ xs) = ap (λ ys. x ∷ ys) (put-split seen past (cond (seen x) p (suc p)) new xs)

split_past : {A : Type 0} (b : Bool) (n : ℕ) (x : A) (new ys xs : List A) → ys ≡ take n xs ++ (new ++ drop n xs)
    → cond b (x ∷ ys) (new ++ (x ∷ xs)) ≡ take (cond b (1 + n) 0) (x ∷ xs) ++ (new ++ drop (cond b (1 + n) 0) (x ∷ xs))
split_past true n x new ys xs h = let next : 1 + n ≡ suc n = omega arith in rw next (ap (λ zs. x ∷ zs) h)
split_past false n x new ys xs h = refl

pub taken : {A : Type 0} (n : ℕ) (xs : List A) → n ≤ length xs → length (take n xs) ≡ n
taken zero xs h = refl
taken (suc n) [] h = absurd (omega arith)
taken (suc n) (x ∷ xs) h = ap (λ k. suc k) (taken n xs (omega arith))

pub put_past-split : {A : Type 0} (past : A → Bool) (new xs : List A)
    → put_past past new xs ≡ take (prefix_len past xs) xs ++ (new ++ drop (prefix_len past xs) xs)
put_past-split past new [] = sym (append-nil new)
put_past-split past new (x ∷ xs) = split_past (past x) (prefix_len past xs) x new (put_past past new xs) xs (put_past-split past new xs)

pub prefix_len-no_run : {A : Type 0} (xs : List A) → prefix_len no_run xs ≡ 0
prefix_len-no_run [] = refl
prefix_len-no_run (x ∷ xs) = refl

pub extends_same : (xs : List ℕ) → Extends xs xs
extends_same [] = none
extends_same (x ∷ xs) = kept (extends_same xs)

pub extends_behind : (xs ys zs : List ℕ) → Extends ys zs → Extends (xs ++ ys) (xs ++ zs)
extends_behind [] ys zs h = h
extends_behind (x ∷ xs) ys zs h = kept (extends_behind xs ys zs h)

pub extends_more : (xs ys zs : List ℕ) (n : ℕ) → Extends xs (ys ++ zs) → Extends xs (ys ++ (n ∷ zs))
extends_more xs [] zs n h = added h
extends_more (x ∷ xs) (y ∷ ys) zs n (kept h) = kept (extends_more xs ys zs n h)
extends_more xs (y ∷ ys) zs n (added h) = added (extends_more xs ys zs n h)

module _ {L : Type 0} where
  pub ids-append : (xs ys : List (ℕ × L)) → ids (xs ++ ys) ≡ ids xs ++ ids ys
  ids-append [] ys = refl
  ids-append (x ∷ xs) ys = ap (λ zs. x.0 ∷ zs) (ids-append xs ys)

  pub times-append : (xs ys : List (ℕ × L)) (id : ℕ) → times_leaf (xs ++ ys) id ≡ times_leaf xs id + times_leaf ys id
  times-append [] ys id = omega arith
  times-append (x ∷ xs) ys id = omega (arith, times-append xs ys id)

module _ {C U : Type 0} (units : C → List U) (by : C → Option Stamp) where
  -- a leaf with another content
  abbrev pub with_content : TreeLeaf C → C → TreeLeaf C
  with_content x k = record x { content = k }

  leaf_part : (x : TreeLeaf C) (k : C) (us : List U) → units k ≡ us → by k ≡ by x.content
      → leaf_elements units by (with_content x k) ≡ map (element_with x.stamps (by x.content) x.overlay) us
  leaf_part x k us e b = ap (λ a. map (element_with x.stamps a x.overlay) (units k)) b ∙ ap (map (element_with x.stamps (by x.content) x.overlay)) e

  drop_map : {A B : Type 0} (f : A → B) (n : ℕ) (xs : List A) → drop n (map f xs) ≡ map f (drop n xs)
  drop_map f zero xs = refl
  drop_map f (suc n) [] = refl
  drop_map f (suc n) (x ∷ xs) = drop_map f n xs

  pub leaf_front : (x : TreeLeaf C) (k : C) (at : ℕ) → units k ≡ take at (units x.content) → by k ≡ by x.content
      → leaf_elements units by (with_content x k) ≡ take at (leaf_elements units by x)
  leaf_front x k at e b = leaf_part x k (take at (units x.content)) e b ∙ sym (take-map (element_with x.stamps (by x.content) x.overlay) at (units x.content))

  pub leaf_rear : (x : TreeLeaf C) (k : C) (at : ℕ) → units k ≡ drop at (units x.content) → by k ≡ by x.content
      → leaf_elements units by (with_content x k) ≡ drop at (leaf_elements units by x)
  leaf_rear x k at e b = leaf_part x k (drop at (units x.content)) e b ∙ sym (drop_map (element_with x.stamps (by x.content) x.overlay) at (units x.content))

  whole : (xs : List (ℕ × TreeLeaf C)) (i : ℕ) → elements units by xs ≡ elements units by (take i xs) ++ elements units by (drop i xs)
  whole xs i = ap (elements units by) (sym (take-append-drop i xs)) ∙ elements-append units by (take i xs) (drop i xs)

  found : (seen : TreeElement U → Bool) (p i at : ℕ) (old xs : List (ℕ × TreeLeaf C)) → xs ≡ old
      → length (elements units by (take i xs)) + at ≡ place seen p (elements units by xs)
      → length (elements units by (take i old)) + at ≡ place seen p (elements units by old)
  found seen p i at old xs is_old e = subst (λ (ys : List (ℕ × TreeLeaf C)). length (elements units by (take i ys)) + at ≡ place seen p (elements units by ys)) is_old e
