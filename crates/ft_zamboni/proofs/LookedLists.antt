-- Lists of leaves as a sweep goes along them.
use Rattle.std.proofs.Common.{◌≡◌, ℕ, zero, suc, ◌≤◌, Bool, true, false, cond, nat_eq, List, [], ◌∷◌, ◌++◌, length, take, drop, Option, Some, None, refl, ◌∙◌, ap, inl, inr, arith}
use Rattle.std.proofs.lemmas.Bool.{cases_eq, cond-false, cond-true, eq-eqb, ne_eqb}
use Rattle.ft_arena.specs.Ids.{after, first}
use Rattle.ft_arena.proofs.IdLemmas.{same_other, same_refl}
use Rattle.ft_block.specs.Leaves.{IsPlaceIn, ids, left_of, times_leaf, without_leaf}
use Rattle.ft_tree_blocks.specs.Walks.{before_place, from_leaf, from_place}
use Rattle.ft_tree_leaves.proofs.CutLeaves.{times-append}
use Rattle.ft_tree_leaves.proofs.Standing.{after-split, skip, without-apart}
use Rattle.ft_tree_leaves.specs.Edits.{sweep_without}
use Rattle.ft_tree_blocks.proofs.Walks.{itself}
use Rattle.ft_zamboni.specs.Sweeps.{last_node, short_of}

short-self : (end : Option ℕ) → short_of end end ≡ None
short-self None = refl
short-self (Some e) = cond-true (nat_eq e e) None (Some e) (itself e)

short-other : (x : ℕ) (end : Option ℕ) → (Some x ≡ end → ⊥) → short_of (Some x) end ≡ Some x
short-other x None d = refl
short-other x (Some e) d = cond-false (nat_eq x e) None (Some x) (ne_eqb x e (λ q. d (ap Some q)))

module _ {L : Type 0} where
  -- a leaf between others that stands once
  pub apart : (l r : List (ℕ × L)) (id : ℕ) (v : L) → ((z : ℕ) → times_leaf (l ++ (id, v) ∷ r) z ≤ 1)
      → (times_leaf l id ≡ 0) × (times_leaf r id ≡ 0)
  apart l r id v once =
      let sum = times-append l ((id, v) ∷ r) id in
      (omega (arith, sum, same_refl id, once id), omega (arith, sum, same_refl id, once id))

  pub without-split : (id : ℕ) (v : L) (r l : List (ℕ × L)) → times_leaf l id ≡ 0 → times_leaf r id ≡ 0
      → without_leaf (l ++ (id, v) ∷ r) id ≡ l ++ r
  without-split id v r [] h g = ap (λ b. cond b (without_leaf r id) ((id, v) ∷ without_leaf r id)) (itself id) ∙ without-apart id r g
  without-split id v r (x ∷ l) h g =
      let s = skip id x l h in
      ap (λ b. cond b (without_leaf (l ++ (id, v) ∷ r) id) (x ∷ without_leaf (l ++ (id, v) ∷ r) id)) s.0
      ∙ ap (λ ys. x ∷ ys) (without-split id v r l s.1 g)

  pub from-split : (id : ℕ) (v : L) (r l : List (ℕ × L)) → times_leaf l id ≡ 0 → from_leaf (l ++ (id, v) ∷ r) id ≡ (id, v) ∷ r
  from-split id v r [] h = ap (λ b. cond b ((id, v) ∷ r) (from_leaf r id)) (itself id)
  from-split id v r (x ∷ l) h =
      let s = skip id x l h in
      ap (λ b. cond b (x ∷ (l ++ (id, v) ∷ r)) (from_leaf (l ++ (id, v) ∷ r) id)) s.0 ∙ from-split id v r l s.1

  -- where a sweep began at leaves that it keeps, it begins there also once a leaf behind them is gone
  pub sweep-kept : (xs ks zs : List (ℕ × L)) (k : ℕ × L) (id : ℕ) → times_leaf (k ∷ ks) id ≡ 0
      → sweep_without xs id (first (ids ((k ∷ ks) ++ zs))) ≡ Some k.0
  sweep-kept xs ks zs k id none = cond-false (nat_eq k.0 id) (after (ids xs) id) (Some k.0) (skip id k ks none).0

  -- and else at the one behind it
  pub sweep-took : (l kept r : List (ℕ × L)) (id : ℕ) (v : L) → times_leaf (l ++ kept) id ≡ 0
      → sweep_without ((l ++ kept) ++ (id, v) ∷ r) id (first (ids (kept ++ (id, v) ∷ r))) ≡ first (ids (kept ++ r))
  sweep-took l [] r id v none =
      cond-true (nat_eq id id) (after (ids ((l ++ []) ++ (id, v) ∷ r)) id) (Some id) (itself id) ∙ after-split id v r (l ++ []) none
  sweep-took l (k ∷ ks) r id v none =
      sweep-kept ((l ++ k ∷ ks) ++ (id, v) ∷ r) ks ((id, v) ∷ r) k id (omega (arith, times-append l (k ∷ ks) id, none))

  -- nor where one of them took it in
  pub sweep-merged : (xs p zs zs' : List (ℕ × L)) (l id : ℕ) (u j : L) → times_leaf (p ++ (l, u) ∷ []) id ≡ 0
      → sweep_without xs id (first (ids ((p ++ (l, u) ∷ []) ++ zs))) ≡ first (ids ((p ++ (l, j) ∷ []) ++ zs'))
  sweep-merged xs [] zs zs' l id u j none = sweep-kept xs [] zs (l, u) id none
  sweep-merged xs (k ∷ ks) zs zs' l id u j none = sweep-kept xs (ks ++ (l, u) ∷ []) zs k id none

  -- the last leaf
  pub last-put : (xs : List (ℕ × L)) (x : ℕ × L) → last_node (xs ++ x ∷ []) ≡ Some x.0
  last-put [] x = refl
  last-put (y ∷ []) x = refl
  last-put (y ∷ z ∷ xs) x = last-put (z ∷ xs) x

  pub last-split : (xs : List (ℕ × L)) (id : ℕ) → last_node xs ≡ Some id → (ys : List (ℕ × L)) × ((v : L) × (xs ≡ ys ++ (id, v) ∷ []))
  last-split [] id e = (cc)
  last-split (x ∷ []) id e = let same : x.0 ≡ id = (cc) in ([], (x.1, ap (λ k. (k, x.1) ∷ []) same))
  last-split (x ∷ y ∷ xs) id e = let s = last-split (y ∷ xs) id e in (x ∷ s.0, (s.1.0, ap (λ ys. x ∷ ys) s.1.1))

  -- the first of a list by its node
  pub first-split : (xs : List (ℕ × L)) (id : ℕ) → first (ids xs) ≡ Some id → (v : L) × ((ys : List (ℕ × L)) × (xs ≡ (id, v) ∷ ys))
  first-split [] id e = (cc)
  first-split (x ∷ xs) id e = let same : x.0 ≡ id = (cc) in (x.1, (xs, ap (λ k. (k, x.1) ∷ xs) same))

  pub first-none : (xs : List (ℕ × L)) → first (ids xs) ≡ None → xs ≡ []
  first-none [] e = refl
  first-none (x ∷ xs) e = (cc)

  first-from_leaf : (xs : List (ℕ × L)) (id : ℕ) → 1 ≤ times_leaf xs id → first (ids (from_leaf xs id)) ≡ Some id
  first-from_leaf [] id h = absurd (omega arith)
  first-from_leaf (x ∷ xs) id h = elim (cases_eq x.0 id) [
    | inl e ↦ ap (λ (ys : List (ℕ × L)). first (ids ys)) (cond-true (nat_eq x.0 id) (x ∷ xs) (from_leaf xs id) (eq-eqb x.0 id e))
        ∙ ap Some e
    | inr d ↦
        ap (λ (ys : List (ℕ × L)). first (ids ys)) (cond-false (nat_eq x.0 id) (x ∷ xs) (from_leaf xs id) (ne_eqb x.0 id d))
        ∙ first-from_leaf xs id (omega (arith, same_other x.0 id d))
  ]

  -- the leaves from a node on begin with it
  pub first-from : (xs : List (ℕ × L)) (at : Option ℕ) → IsPlaceIn xs at → first (ids (from_place xs at)) ≡ at
  first-from xs None h = refl
  first-from xs (Some id) h = first-from_leaf xs id h

  short_by : (b : Bool) (x : ℕ × L) (ls : List (ℕ × L)) → cond b None (Some x.0) ≡ first (ids (cond b [] (x ∷ ls)))
  short_by true x ls = refl
  short_by false x ls = refl

  -- the first of the leaves before the end
  pub short-before : (xs : List (ℕ × L)) (end : Option ℕ) → short_of (first (ids xs)) end ≡ first (ids (before_place xs end))
  short-before [] None = refl
  short-before [] (Some e) = refl
  short-before (x ∷ xs) None = refl
  short-before (x ∷ xs) (Some e) = short_by (nat_eq x.0 e) x (left_of xs e)

  not_first : (x : ℕ × L) (xs rest : List (ℕ × L)) → ((z : ℕ) → times_leaf ((x ∷ xs) ++ rest) z ≤ 1) → Some x.0 ≡ first (ids rest) → ⊥
  not_first x xs [] once e = (cc)
  not_first x xs (y ∷ rest) once e =
      let same : y.0 ≡ x.0 = (cc) in
      omega (arith, once x.0, times-append (x ∷ xs) (y ∷ rest) x.0, same_refl x.0, ap (λ k. times_leaf ((k, y.1) ∷ rest) x.0) same)

  -- the next leaf to look at
  pub short-next : (ahead rest : List (ℕ × L)) → ((z : ℕ) → times_leaf (ahead ++ rest) z ≤ 1)
      → short_of (first (ids (ahead ++ rest))) (first (ids rest)) ≡ first (ids ahead)
  short-next [] rest once = short-self (first (ids rest))
  short-next (x ∷ ahead) rest once = short-other x.0 (first (ids rest)) (not_first x ahead rest once)

-- one more of a list
pub take-next : {A : Type 0} (xs : List A) (i : ℕ) (x : A) (ys : List A) → drop i xs ≡ x ∷ ys
    → (take (suc i) xs ≡ take i xs ++ x ∷ []) × (drop (suc i) xs ≡ ys)
take-next [] zero x ys e = (cc)
take-next [] (suc i) x ys e = (cc)
take-next (y ∷ xs) zero x ys e = let head : y ≡ x = (cc) in let rest : xs ≡ ys = (cc) in (ap (λ z. z ∷ []) head, rest)
take-next (y ∷ xs) (suc i) x ys e = let s = take-next xs i x ys e in (ap (λ zs. y ∷ zs) s.0, s.1)

pub drop-none : {A : Type 0} (xs : List A) (i : ℕ) → drop i xs ≡ [] → length xs ≤ i
drop-none [] i e = omega arith
drop-none (x ∷ xs) zero e = (cc)
drop-none (x ∷ xs) (suc i) e = omega (arith, drop-none xs i e)

pub drop-some : {A : Type 0} (xs : List A) (i : ℕ) (x : A) (ys : List A) → drop i xs ≡ x ∷ ys → suc i ≤ length xs
drop-some [] zero x ys e = (cc)
drop-some [] (suc i) x ys e = (cc)
drop-some (y ∷ xs) zero x ys e = omega arith
drop-some (y ∷ xs) (suc i) x ys e = omega (arith, drop-some xs i x ys e)

pub take-all : {A : Type 0} (xs : List A) (i : ℕ) → length xs ≤ i → (take i xs ≡ xs) × (drop i xs ≡ [])
take-all [] zero h = (refl, refl)
take-all [] (suc i) h = (refl, refl)
take-all (x ∷ xs) zero h = absurd (omega arith)
take-all (x ∷ xs) (suc i) h = let s = take-all xs i (omega arith) in (ap (λ ys. x ∷ ys) s.0, s.1)
