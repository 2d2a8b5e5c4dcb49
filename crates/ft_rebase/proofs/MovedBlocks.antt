-- Leaves that are taken out one after another, from the last to the first, and put in behind the same leaf.
use Rattle.std.proofs.Common.{◌≡◌, ◌≢◌, ℕ, zero, suc, ◌+◌, ◌<◌, ◌≤◌, Bool, true, false, cond, not, nat_eq, List, [], ◌∷◌, ◌++◌, Option, Some, None, filter, refl, sym, ◌∙◌, ap, arith}
use Rattle.std.proofs.lemmas.Bool.{ne_eqb}
use Rattle.std.proofs.lemmas.Bool.Decides.{nat_tests}
use Rattle.ft_base.proofs.ScanLaws.{put_past-no_run}
use Rattle.ft_base.specs.Scan.{len, no_run, one_more_if, put}
use Rattle.ft_block.specs.Leaves.{ids, move_leaf, put_leaf, put_leaf_after, times_leaf, without_leaf}
use Rattle.ft_rebase.specs.Moves.{seen_node}

equals : (m n : ℕ) → nat_eq m n ≡ true → m ≡ n
equals m n h = grind (arith, nat_tests)

module _ {L : Type 0} where
  -- leaves put in directly after that of a node, or first where no node is given
  abbrev pub put_block_after : List (ℕ × L) → ℕ → List (ℕ × L) → List (ℕ × L)
  put_block_after [] at new = []
  put_block_after (x ∷ xs) at new = cond (nat_eq x.0 at) (x ∷ (new ++ put_block_after xs at new)) (x ∷ put_block_after xs at new)

  abbrev pub put_block : List (ℕ × L) → Option ℕ → List (ℕ × L) → List (ℕ × L)
  put_block xs None new = new ++ xs
  put_block xs (Some at) new = put_block_after xs at new

  -- the leaves without those of these nodes
  abbrev pub without_all : List ℕ → List (ℕ × L) → List (ℕ × L)
  without_all [] xs = xs
  without_all (b ∷ bs) xs = without_leaf (without_all bs xs) b

  -- the node is among none of the leaves
  apart_head : (x : ℕ × L) (xs : List (ℕ × L)) (id : ℕ) → times_leaf (x ∷ xs) id ≡ 0 → (nat_eq x.0 id ≡ false) × (times_leaf xs id ≡ 0)
  apart_head x xs id h = step (nat_eq x.0 id) h
    where
      step : (b : Bool) → cond b 1 0 + times_leaf xs id ≡ 0 → (b ≡ false) × (times_leaf xs id ≡ 0)
      step true h = absurd (omega arith)
      step false h = (refl, omega arith)

  put_after-append : (new : ℕ × L) (at : ℕ) (ms xs : List (ℕ × L)) → times_leaf ms at ≡ 0 → put_leaf_after (ms ++ xs) at new
      ≡ ms ++ put_leaf_after xs at new
  put_after-append new at [] xs h = refl
  put_after-append new at (m ∷ ms) xs h =
      let a = apart_head m ms at h in
      ap (λ b. cond b (m ∷ new ∷ put_leaf_after (ms ++ xs) at new) (m ∷ put_leaf_after (ms ++ xs) at new)) a.0
      ∙ ap (λ ys. m ∷ ys) (put_after-append new at ms xs a.1)

  -- one more leaf in front of the block
  put_block-more_after : (x : ℕ × L) (at : ℕ) (ms xs : List (ℕ × L)) → times_leaf ms at ≡ 0
      → put_leaf_after (put_block_after xs at ms) at x ≡ put_block_after xs at (x ∷ ms)
  put_block-more_after x at ms [] h = refl
  put_block-more_after x at ms (y ∷ ys) h = step (nat_eq y.0 at) refl (put_block-more_after x at ms ys h)
    where
      step : (b : Bool) → nat_eq y.0 at ≡ b → put_leaf_after (put_block_after ys at ms) at x ≡ put_block_after ys at (x ∷ ms)
          → put_leaf_after (cond b (y ∷ (ms ++ put_block_after ys at ms)) (y ∷ put_block_after ys at ms)) at x
          ≡ cond b (y ∷ ((x ∷ ms) ++ put_block_after ys at (x ∷ ms))) (y ∷ put_block_after ys at (x ∷ ms))
      step true e ih =
          ap (λ b. cond b (y ∷ x ∷ put_leaf_after (ms ++ put_block_after ys at ms) at x)
          (y ∷ put_leaf_after (ms ++ put_block_after ys at ms) at x)) e
          ∙ ap (λ zs. y ∷ x ∷ zs) (put_after-append x at ms (put_block_after ys at ms) h ∙ ap (λ zs. ms ++ zs) ih)
      step false e ih =
          ap (λ b. cond b (y ∷ x ∷ put_leaf_after (put_block_after ys at ms) at x) (y ∷ put_leaf_after (put_block_after ys at ms) at x)) e
          ∙ ap (λ zs. y ∷ zs) ih

  -- the block is apart from the leaf that it stands behind
  abbrev pub IsApart : List (ℕ × L) → Option ℕ → Type 0
  IsApart ms None = Unit {0}
  IsApart ms (Some at) = times_leaf ms at ≡ 0

  pub put_block-more : (x : ℕ × L) (at : Option ℕ) (ms xs : List (ℕ × L)) → IsApart ms at → put_leaf (put_block xs at ms) at x
      ≡ put_block xs at (x ∷ ms)
  put_block-more x None ms xs h = refl
  put_block-more x (Some at) ms xs h = put_block-more_after x at ms xs h

  pub without-append : (id : ℕ) (ms xs : List (ℕ × L)) → times_leaf ms id ≡ 0 → without_leaf (ms ++ xs) id ≡ ms ++ without_leaf xs id
  without-append id [] xs h = refl
  without-append id (m ∷ ms) xs h =
      let a = apart_head m ms id h in
      ap (λ b. cond b (without_leaf (ms ++ xs) id) (m ∷ without_leaf (ms ++ xs) id)) a.0 ∙ ap (λ ys. m ∷ ys) (without-append id ms xs a.1)

  without-put_after : (id at : ℕ) (ms xs : List (ℕ × L)) → times_leaf ms id ≡ 0 → at ≢ id → without_leaf (put_block_after xs at ms) id
      ≡ put_block_after (without_leaf xs id) at ms
  without-put_after id at ms [] h d = refl
  without-put_after id at ms (y ∷ ys) h d = step (nat_eq y.0 at) (nat_eq y.0 id) refl refl (without-put_after id at ms ys h d)
    where
      step : (a b : Bool) → nat_eq y.0 at ≡ a → nat_eq y.0 id ≡ b → without_leaf (put_block_after ys at ms) id
          ≡ put_block_after (without_leaf ys id) at ms
          → without_leaf (cond a (y ∷ (ms ++ put_block_after ys at ms)) (y ∷ put_block_after ys at ms)) id
          ≡ put_block_after (cond b (without_leaf ys id) (y ∷ without_leaf ys id)) at ms
      step true true e g ih = absurd (d (sym (equals y.0 at e) ∙ equals y.0 id g))
      step true false e g ih =
          ap (λ c. cond c (without_leaf (ms ++ put_block_after ys at ms) id) (y ∷ without_leaf (ms ++ put_block_after ys at ms) id)) g
          ∙ ap (λ zs. y ∷ zs) (without-append id ms (put_block_after ys at ms) h ∙ ap (λ zs. ms ++ zs) ih)
          ∙ sym (ap (λ c. cond c (y ∷ (ms ++ put_block_after (without_leaf ys id) at ms))
          (y ∷ put_block_after (without_leaf ys id) at ms)) e)
      step false true e g ih = ap (λ c. cond c (without_leaf (put_block_after ys at ms) id)
          (y ∷ without_leaf (put_block_after ys at ms) id)) g ∙ ih
      step false false e g ih =
          ap (λ c. cond c (without_leaf (put_block_after ys at ms) id) (y ∷ without_leaf (put_block_after ys at ms) id)) g
          ∙ ap (λ zs. y ∷ zs) ih
          ∙ sym (ap (λ c. cond c (y ∷ (ms ++ put_block_after (without_leaf ys id) at ms))
          (y ∷ put_block_after (without_leaf ys id) at ms)) e)

  -- a leaf is taken out beside the block
  pub without-put_block : (id : ℕ) (at : Option ℕ) (ms xs : List (ℕ × L)) → times_leaf ms id ≡ 0 → at ≢ Some id
      → without_leaf (put_block xs at ms) id ≡ put_block (without_leaf xs id) at ms
  without-put_block id None ms xs h d = without-append id ms xs h
  without-put_block id (Some at) ms xs h d = without-put_after id at ms xs h (λ e. d (ap Some e))

  put_block_after-none : (at : ℕ) (xs : List (ℕ × L)) → put_block_after xs at [] ≡ xs
  put_block_after-none at [] = refl
  put_block_after-none at (y ∷ ys) = step (nat_eq y.0 at) (put_block_after-none at ys)
    where
      step : (b : Bool) → put_block_after ys at [] ≡ ys → cond b (y ∷ put_block_after ys at []) (y ∷ put_block_after ys at []) ≡ y ∷ ys
      step true h = ap (λ zs. y ∷ zs) h
      step false h = ap (λ zs. y ∷ zs) h

  pub put_block-none : (at : Option ℕ) (xs : List (ℕ × L)) → put_block xs at [] ≡ xs
  put_block-none None xs = refl
  put_block-none (Some at) xs = put_block_after-none at xs

  -- one step: the leaf b moves to the front of the block
  pub moves_block : (xs now : List (ℕ × L)) (bs : List ℕ) (at : Option ℕ) (ms : List (ℕ × L)) (b : ℕ) (v : L) → now
      ≡ put_block (without_all bs xs) at ms
      → times_leaf ms b ≡ 0 → at ≢ Some b → IsApart ms at → move_leaf now b at (Some v)
      ≡ put_block (without_all (b ∷ bs) xs) at ((b, v) ∷ ms)
  moves_block xs now bs at ms b v e h d a =
      ap (λ ls. put_leaf (without_leaf ls b) at (b, v)) e
      ∙ ap (λ ls. put_leaf ls at (b, v)) (without-put_block b at ms (without_all bs xs) h d)
      ∙ put_block-more (b, v) at ms (without_leaf (without_all bs xs) b) a

  -- ---- behind the q-th seen leaf

  apart-after : (at : ℕ) (new xs : List (ℕ × L)) → times_leaf xs at ≡ 0 → put_block_after xs at new ≡ xs
  apart-after at new [] h = refl
  apart-after at new (x ∷ xs) h =
      let a = apart_head x xs at h in
      ap (λ b. cond b (x ∷ (new ++ put_block_after xs at new)) (x ∷ put_block_after xs at new)) a.0
      ∙ ap (λ ys. x ∷ ys) (apart-after at new xs a.1)

  pub node-in : (see : ℕ × L → Bool) (q : ℕ) (last : Option ℕ) (xs : List (ℕ × L)) (id : ℕ) → seen_node see (suc q) last xs ≡ Some id
      → 1 ≤ times_leaf xs id
  node-in see q last [] id h = absurd cc
  node-in see zero last (x ∷ xs) id h = step (see x) h (node-in see zero last xs id)
    where
      step : (b : Bool) → cond b (Some x.0) (seen_node see 1 last xs) ≡ Some id
          → (seen_node see 1 last xs ≡ Some id → 1 ≤ times_leaf xs id) → 1 ≤ cond (nat_eq x.0 id) 1 0 + times_leaf xs id
      step true e ih = let same : x.0 ≡ id = cc in let here : nat_eq x.0 id ≡ true = grind (arith, nat_tests) in rw here (omega arith)
      step false e ih = omega (arith, ih e)
  node-in see (suc q) last (x ∷ xs) id h = step (see x) h (node-in see q (Some x.0) xs id) (node-in see (suc q) last xs id)
    where
      step : (b : Bool) → cond b (seen_node see (suc q) (Some x.0) xs) (seen_node see (suc (suc q)) last xs) ≡ Some id
          → (seen_node see (suc q) (Some x.0) xs ≡ Some id → 1 ≤ times_leaf xs id)
          → (seen_node see (suc (suc q)) last xs ≡ Some id → 1 ≤ times_leaf xs id)
          → 1 ≤ cond (nat_eq x.0 id) 1 0 + times_leaf xs id
      step true e f g = omega (arith, f e)
      step false e f g = omega (arith, g e)

  pub fewer : (t : ℕ × L → Bool) (xs : List (ℕ × L)) (id : ℕ) → times_leaf (filter t xs) id ≤ times_leaf xs id
  fewer t [] id = omega arith
  fewer t (x ∷ xs) id = step (t x) (fewer t xs id)
    where
      step : (b : Bool) → times_leaf (filter t xs) id ≤ times_leaf xs id
          → times_leaf (cond b (x ∷ filter t xs) (filter t xs)) id ≤ cond (nat_eq x.0 id) 1 0 + times_leaf xs id
      step true h = omega arith
      step false h = omega arith

  pub own-node : (x : ℕ × L) → nat_eq x.0 x.0 ≡ true
  own-node x = grind (arith, nat_tests)

  gone-behind : (x : ℕ × L) (xs : List (ℕ × L)) → ((i : ℕ) → times_leaf (x ∷ xs) i ≤ 1) → times_leaf xs x.0 ≡ 0
  gone-behind x xs once = let e : cond (nat_eq x.0 x.0) 1 0 ≡ 1 = ap {B = ℕ} (λ b. cond b 1 0) (own-node x) in omega (arith, once x.0, e)

  once-behind : (x : ℕ × L) (xs : List (ℕ × L)) → ((i : ℕ) → times_leaf (x ∷ xs) i ≤ 1) → (i : ℕ) → times_leaf xs i ≤ 1
  once-behind x xs once i = omega (arith, once i)

  -- that node has no leaf that passes a test which seen ones don't
  pub node-apart : (see t : ℕ × L → Bool) → ((x : ℕ × L) → t x ≡ true → see x ≡ false)
      → (q : ℕ) (last : Option ℕ) (xs : List (ℕ × L)) (id : ℕ)
      → ((i : ℕ) → times_leaf xs i ≤ 1) → seen_node see (suc q) last xs ≡ Some id → times_leaf (filter t xs) id ≡ 0
  node-apart see t h q last [] id once e = refl
  node-apart see t h zero last (x ∷ xs) id once e =
      step (see x) (t x) refl refl e (node-apart see t h zero last xs id (once-behind x xs once)) (λ g. node-in see zero last xs id g)
    where
      none : times_leaf xs x.0 ≡ 0
      none = gone-behind x xs once

      step : (a b : Bool) → see x ≡ a → t x ≡ b → cond a (Some x.0) (seen_node see 1 last xs) ≡ Some id
          → (seen_node see 1 last xs ≡ Some id → times_leaf (filter t xs) id ≡ 0)
          → (seen_node see 1 last xs ≡ Some id → 1 ≤ times_leaf xs id)
          → times_leaf (cond b (x ∷ filter t xs) (filter t xs)) id ≡ 0
      step true true s g e ih inside = absurd (let no : see x ≡ false = h x g in cc)
      step true false s g e ih inside = let same : x.0 ≡ id = cc in omega (arith, none, fewer t xs id, ap (times_leaf xs) same)
      step false true s g e ih inside =
          let other : nat_eq x.0 id ≡ false = ne_eqb x.0 id (λ w. (let n = ap (times_leaf xs) w in omega (arith, none, n, inside e))) in
          omega (arith, ih e, ap {B = ℕ} (λ b. cond b 1 0) other)
      step false false s g e ih inside = ih e
  node-apart see t h (suc q) last (x ∷ xs) id once e =
      step (see x) (t x) refl refl e (node-apart see t h q (Some x.0) xs id (once-behind x xs once))
      (node-apart see t h (suc q) last xs id (once-behind x xs once))
      (node-in see q (Some x.0) xs id) (node-in see (suc q) last xs id)
    where
      none : times_leaf xs x.0 ≡ 0
      none = gone-behind x xs once

      other : 1 ≤ times_leaf xs id → nat_eq x.0 id ≡ false
      other inside = ne_eqb x.0 id (λ w. (let n = ap (times_leaf xs) w in omega (arith, none, n, inside)))

      both : (b : Bool) → 1 ≤ times_leaf xs id → times_leaf (filter t xs) id ≡ 0 → times_leaf (cond b (x ∷ filter t xs) (filter t xs)) id
          ≡ 0
      both true inside ih = omega (arith, ih, ap {B = ℕ} (λ b. cond b 1 0) (other inside))
      both false inside ih = ih

      step : (a b : Bool) → see x ≡ a → t x ≡ b → cond a (seen_node see (suc q) (Some x.0) xs) (seen_node see (suc (suc q)) last xs)
          ≡ Some id
          → (seen_node see (suc q) (Some x.0) xs ≡ Some id → times_leaf (filter t xs) id ≡ 0)
          → (seen_node see (suc (suc q)) last xs ≡ Some id → times_leaf (filter t xs) id ≡ 0)
          → (seen_node see (suc q) (Some x.0) xs ≡ Some id → 1 ≤ times_leaf xs id)
          → (seen_node see (suc (suc q)) last xs ≡ Some id → 1 ≤ times_leaf xs id)
          → times_leaf (cond b (x ∷ filter t xs) (filter t xs)) id ≡ 0
      step true b s g e f1 f2 i1 i2 = both b (i1 e) (f1 e)
      step false b s g e f1 f2 i1 i2 = both b (i2 e) (f2 e)

  -- the q-th seen leaf is the same where unseen ones are left out
  pub node-filter : (see t : ℕ × L → Bool) → ((x : ℕ × L) → t x ≡ false → see x ≡ false) → (q : ℕ) (last : Option ℕ) (xs : List (ℕ × L))
      → seen_node see q last (filter t xs) ≡ seen_node see q last xs
  node-filter see t h zero last xs = refl
  node-filter see t h (suc q) last [] = refl
  node-filter see t h (suc q) last (x ∷ xs) = step (t x) refl (node-filter see t h q (Some x.0) xs) (node-filter see t h (suc q) last xs)
    where
      step : (b : Bool) → t x ≡ b → seen_node see q (Some x.0) (filter t xs) ≡ seen_node see q (Some x.0) xs
          → seen_node see (suc q) last (filter t xs) ≡ seen_node see (suc q) last xs
          → seen_node see (suc q) last (cond b (x ∷ filter t xs) (filter t xs))
          ≡ cond (see x) (seen_node see q (Some x.0) xs) (seen_node see (suc q) last xs)
      step true e f g = ap (λ o. cond (see x) o (seen_node see (suc q) last (filter t xs))) f
          ∙ ap (λ o. cond (see x) (seen_node see q (Some x.0) xs) o) g
      step false e f g = g ∙ sym (ap (λ b. cond b (seen_node see q (Some x.0) xs) (seen_node see (suc q) last xs)) (h x e))

  -- to put leaves in behind the q-th seen one is to put them in behind its node
  block-there : (see : ℕ × L → Bool) (new : List (ℕ × L)) (q : ℕ) (last : Option ℕ) (xs : List (ℕ × L)) (id : ℕ)
      → ((i : ℕ) → times_leaf xs i ≤ 1)
      → seen_node see (suc q) last xs ≡ Some id → put see no_run (suc q) new xs ≡ put_block_after xs id new
  block-there see new q last [] id once e = absurd cc
  block-there see new zero last (x ∷ xs) id once e = step (see x) e (block-there see new zero last xs id (once-behind x xs once))
      (node-in see zero last xs id)
    where
      none : times_leaf xs x.0 ≡ 0
      none = gone-behind x xs once

      step : (a : Bool) → cond a (Some x.0) (seen_node see 1 last xs) ≡ Some id
          → (seen_node see 1 last xs ≡ Some id → put see no_run 1 new xs ≡ put_block_after xs id new)
          → (seen_node see 1 last xs ≡ Some id → 1 ≤ times_leaf xs id)
          → x ∷ put see no_run (cond a 0 1) new xs ≡ cond (nat_eq x.0 id) (x ∷ (new ++ put_block_after xs id new))
          (x ∷ put_block_after xs id new)
      step true e ih inside =
          let same : x.0 ≡ id = cc in
          let here : nat_eq x.0 id ≡ true = grind (arith, nat_tests) in
          ap (λ ys. x ∷ ys) (put_past-no_run new xs)
          ∙ ap (λ ys. x ∷ (new ++ ys)) (sym (apart-after id new xs (omega (arith, none, ap (times_leaf xs) same))))
          ∙ sym (ap (λ b. cond b (x ∷ (new ++ put_block_after xs id new)) (x ∷ put_block_after xs id new)) here)
      step false e ih inside =
          let other : nat_eq x.0 id ≡ false = ne_eqb x.0 id (λ w. (let n = ap (times_leaf xs) w in omega (arith, none, n, inside e))) in
          ap (λ ys. x ∷ ys) (ih e) ∙ sym (ap (λ b. cond b (x ∷ (new ++ put_block_after xs id new)) (x ∷ put_block_after xs id new)) other)
  block-there see new (suc q) last (x ∷ xs) id once e =
      step (see x) e (block-there see new q (Some x.0) xs id (once-behind x xs once))
      (block-there see new (suc q) last xs id (once-behind x xs once))
      (node-in see q (Some x.0) xs id) (node-in see (suc q) last xs id)
    where
      none : times_leaf xs x.0 ≡ 0
      none = gone-behind x xs once

      other : 1 ≤ times_leaf xs id → nat_eq x.0 id ≡ false
      other inside = ne_eqb x.0 id (λ w. (let n = ap (times_leaf xs) w in omega (arith, none, n, inside)))

      both : (ys : List (ℕ × L)) → 1 ≤ times_leaf xs id → ys ≡ put_block_after xs id new
          → x ∷ ys ≡ cond (nat_eq x.0 id) (x ∷ (new ++ put_block_after xs id new)) (x ∷ put_block_after xs id new)
      both ys inside ih = ap (λ zs. x ∷ zs) ih ∙ sym (ap (λ b. cond b (x ∷ (new ++ put_block_after xs id new))
          (x ∷ put_block_after xs id new)) (other inside))

      step : (a : Bool) → cond a (seen_node see (suc q) (Some x.0) xs) (seen_node see (suc (suc q)) last xs) ≡ Some id
          → (seen_node see (suc q) (Some x.0) xs ≡ Some id → put see no_run (suc q) new xs ≡ put_block_after xs id new)
          → (seen_node see (suc (suc q)) last xs ≡ Some id → put see no_run (suc (suc q)) new xs ≡ put_block_after xs id new)
          → (seen_node see (suc q) (Some x.0) xs ≡ Some id → 1 ≤ times_leaf xs id)
          → (seen_node see (suc (suc q)) last xs ≡ Some id → 1 ≤ times_leaf xs id)
          → x ∷ put see no_run (cond a (suc q) (suc (suc q))) new xs ≡ cond (nat_eq x.0 id) (x ∷ (new ++ put_block_after xs id new))
          (x ∷ put_block_after xs id new)
      step true e f1 f2 i1 i2 = both (put see no_run (suc q) new xs) (i1 e) (f1 e)
      step false e f1 f2 i1 i2 = both (put see no_run (suc (suc q)) new xs) (i2 e) (f2 e)

  node-some : (see : ℕ × L → Bool) (q : ℕ) (last : Option ℕ) (xs : List (ℕ × L)) → q < len see xs → seen_node see (suc q) last xs ≡ None → ⊥
  node-some see q last [] h e = absurd (omega arith)
  node-some see zero last (x ∷ xs) h e = step (see x) h e (node-some see zero last xs)
    where
      step : (a : Bool) → 0 < one_more_if a (len see xs) → cond a (Some x.0) (seen_node see 1 last xs) ≡ None
          → (0 < len see xs → seen_node see 1 last xs ≡ None → ⊥) → ⊥
      step true h e ih = absurd cc
      step false h e ih = ih h e
  node-some see (suc q) last (x ∷ xs) h e = step (see x) h e (node-some see q (Some x.0) xs) (node-some see (suc q) last xs)
    where
      step : (a : Bool) → suc q < one_more_if a (len see xs) → cond a (seen_node see (suc q) (Some x.0) xs)
          (seen_node see (suc (suc q)) last xs) ≡ None
          → (q < len see xs → seen_node see (suc q) (Some x.0) xs ≡ None → ⊥)
          → (suc q < len see xs → seen_node see (suc (suc q)) last xs ≡ None → ⊥) → ⊥
      step true h e f g = f (omega arith) e
      step false h e f g = g h e

  pub put-block : (see : ℕ × L → Bool) (new : List (ℕ × L)) (q : ℕ) (xs : List (ℕ × L)) → ((i : ℕ) → times_leaf xs i ≤ 1) → q ≤ len see xs
      → put see no_run q new xs ≡ put_block xs (seen_node see q None xs) new
  put-block see new zero xs once h = put_past-no_run new xs
  put-block see new (suc q) xs once h = by_node (seen_node see (suc q) None xs) refl
    where
      by_node : (o : Option ℕ) → seen_node see (suc q) None xs ≡ o → put see no_run (suc q) new xs ≡ put_block xs o new
      by_node None e = absurd (node-some see q None xs h e)
      by_node (Some id) e = block-there see new q None xs id once e

  -- ---- all leaves that pass a test taken out

  without_all-cons : (ms : List (ℕ × L)) (x : ℕ × L) (xs : List (ℕ × L)) → times_leaf ms x.0 ≡ 0 → without_all (ids ms) (x ∷ xs)
      ≡ x ∷ without_all (ids ms) xs
  without_all-cons [] x xs h = refl
  without_all-cons (m ∷ ms) x xs h =
      let a = apart_head m ms x.0 h in
      let other : nat_eq x.0 m.0 ≡ false = ne_eqb x.0 m.0 (λ e. (let here : nat_eq m.0 x.0 ≡ true = grind (arith, nat_tests) in cc)) in
      ap (λ ys. without_leaf ys m.0) (without_all-cons ms x xs a.1)
      ∙ ap (λ b. cond b (without_leaf (without_all (ids ms) xs) m.0) (x ∷ without_leaf (without_all (ids ms) xs) m.0)) other

  pub without-gone : (xs : List (ℕ × L)) (id : ℕ) → times_leaf xs id ≡ 0 → without_leaf xs id ≡ xs
  without-gone [] id h = refl
  without-gone (x ∷ xs) id h =
      let a = apart_head x xs id h in
      ap (λ b. cond b (without_leaf xs id) (x ∷ without_leaf xs id)) a.0 ∙ ap (λ ys. x ∷ ys) (without-gone xs id a.1)

  pub without-filter : (t : ℕ × L → Bool) (xs : List (ℕ × L)) → ((i : ℕ) → times_leaf xs i ≤ 1) → without_all (ids (filter t xs)) xs
      ≡ filter (λ x. not (t x)) xs
  without-filter t [] once = refl
  without-filter t (x ∷ xs) once = step (t x) (without-filter t xs (once-behind x xs once))
    where
      none : times_leaf xs x.0 ≡ 0
      none = gone-behind x xs once

      rest : without_all (ids (filter t xs)) (x ∷ xs) ≡ x ∷ without_all (ids (filter t xs)) xs
      rest = without_all-cons (filter t xs) x xs (omega (arith, none, fewer t xs x.0))

      step : (b : Bool) → without_all (ids (filter t xs)) xs ≡ filter (λ x. not (t x)) xs
          → without_all (ids (cond b (x ∷ filter t xs) (filter t xs))) (x ∷ xs)
          ≡ cond (not b) (x ∷ filter (λ x. not (t x)) xs) (filter (λ x. not (t x)) xs)
      step true ih =
          ap (λ ys. without_leaf ys x.0) rest
          ∙ ap (λ b. cond b (without_leaf (without_all (ids (filter t xs)) xs) x.0)
          (x ∷ without_leaf (without_all (ids (filter t xs)) xs) x.0)) (own-node x)
          ∙ ap (λ ys. without_leaf ys x.0) ih
          ∙ without-gone (filter (λ x. not (t x)) xs) x.0 (omega (arith, none, fewer (λ x. not (t x)) xs x.0))
      step false ih = rest ∙ ap (λ ys. x ∷ ys) ih
