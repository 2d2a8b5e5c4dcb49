-- Finite maps: the value of a key after an operation, and that keys rise.
use Rattle.std.proofs.Common.{◌≡◌, ℕ, List, [], ◌∷◌, ◌++◌, Some, None, refl, sym, ◌∙◌, ap, subst, arith}
use Rattle.std.specs.Prelude.{Result, Ok, Err, OnOk, OnErr}
use Rattle.std.specs.declared.cmp.Ordering.{Ordering}
use Rattle.std.specs.declared.cmp.Ordering.TheVariants.{Less, Equal, Greater}
use Rattle.ft_props.specs.Keys.{Characters, IsBeforeKeys, KeysRise, key_cmp, put_rising, remove_rising, text_cmp, value_of}
use Rattle.ft_props.proofs.RisingKeys.{IsBeforeKeys-trans, KeysRise-put, KeysRise-remove, same_from_text_cmp, text_cmp-back, text_cmp-same, text_cmp-turned}
use Rattle.ft_shared_map.specs.declared.ops.MapOp.{MapOp}
use Rattle.ft_shared_map.specs.declared.ops.MapOp.TheVariants.{Set, Delete, Clear}
use Rattle.ft_shared_map.specs.declared.ops.MapPair.{MapPair}
use Rattle.ft_shared_map.specs.Maps.{FiniteMap, map_of, pairs_of, put}
use Rattle.ft_shared_map.specs.Marks.{at_key}

pub by_order : {G : Type 0} (o : Ordering) → (o ≡ Less → G) → (o ≡ Equal → G) → (o ≡ Greater → G) → G
by_order Less f g h = f refl
by_order Equal f g h = g refl
by_order Greater f g h = h refl

-- the first at the same key
pub at_key-same : {A : Type 0} (key : Characters) (here other : A) → at_key key key here other ≡ here
at_key-same key here other = grind (arith, text_cmp-same key)

put-less : {A : Type 0} (cmp : A → A → Ordering) (x y : A) (ys : List A) → cmp x y ≡ Less → put_rising cmp x (y ∷ ys) ≡ x ∷ y ∷ ys
put-less cmp x y ys h = grind arith

put-same : {A : Type 0} (cmp : A → A → Ordering) (x y : A) (ys : List A) → cmp x y ≡ Equal → put_rising cmp x (y ∷ ys) ≡ x ∷ ys
put-same cmp x y ys h = grind arith

put-greater : {A : Type 0} (cmp : A → A → Ordering) (x y : A) (ys : List A) → cmp x y ≡ Greater → put_rising cmp x (y ∷ ys) ≡ y ∷ put_rising cmp x ys
put-greater cmp x y ys h = grind arith

module _ {V : Type 0} where
  value_of-before : (key : Characters) (xs : List (Characters × V)) → IsBeforeKeys key xs → value_of key xs ≡ None
  value_of-before key [] b = refl
  value_of-before key (x ∷ xs) b = grind (arith, b.0, value_of-before key xs b.1)

  value_of-first : (q key : Characters) (v : V) (xs : List (Characters × V)) → value_of q ((key, v) ∷ xs) ≡ at_key q key (Some v) (value_of q xs)
  value_of-first q key v xs = by_order (text_cmp q key) (λ e. grind arith) (λ e. grind arith) (λ e. grind arith)

  -- the value of a key where one is put
  pub value_of-put : (q key : Characters) (v : V) (xs : List (Characters × V)) → value_of q (put_rising key_cmp (key, v) xs) ≡ at_key q key (Some v) (value_of q xs)
  value_of-put q key v [] = value_of-first q key v []
  value_of-put q key v (x ∷ xs) =
      by_order (text_cmp key x.0)
      (λ e. ap (value_of q) (put-less key_cmp (key, v) x xs e) ∙ value_of-first q key v (x ∷ xs))
      (λ e. ap (value_of q) (put-same key_cmp (key, v) x xs e) ∙ subst (λ k. value_of q ((key, v) ∷ xs) ≡ at_key q key (Some v) (value_of q ((k, x.1) ∷ xs))) (same_from_text_cmp key x.0 e) (replaced (text_cmp q key) refl))
      (λ e. ap (value_of q) (put-greater key_cmp (key, v) x xs e) ∙ later (value_of-put q key v xs) (text_cmp-turned key x.0 e) (text_cmp q x.0) refl)
    where
      replaced : (o : Ordering) → text_cmp q key ≡ o → value_of q ((key, v) ∷ xs) ≡ at_key q key (Some v) (value_of q ((key, x.1) ∷ xs))
      replaced Less h = grind arith
      replaced Equal h = grind arith
      replaced Greater h = grind arith

      later : value_of q (put_rising key_cmp (key, v) xs) ≡ at_key q key (Some v) (value_of q xs) → text_cmp x.0 key ≡ Less → (o : Ordering) → text_cmp q x.0 ≡ o
          → value_of q (x ∷ put_rising key_cmp (key, v) xs) ≡ at_key q key (Some v) (value_of q (x ∷ xs))
      later ih l Less h = grind (arith, ih)
      later ih l Equal h = (let here = subst (λ k. text_cmp k key ≡ Less) (sym (same_from_text_cmp q x.0 h)) l in grind (arith, here))
      later ih l Greater h = grind (arith, ih)

  -- the value of a key where one is taken away
  pub value_of-remove : (q key : Characters) (v : V) (xs : List (Characters × V)) → KeysRise xs → value_of q (remove_rising key_cmp (key, v) xs) ≡ at_key q key None (value_of q xs)
  value_of-remove q key v [] r = (by_order (text_cmp q key) (λ e. grind arith) (λ e. grind arith) (λ e. grind arith))
  value_of-remove q key v (x ∷ xs) r =
      by_order (text_cmp key x.0)
      (λ e. before e (text_cmp q key) refl)
      (λ e. here e (text_cmp q key) refl)
      (λ e. later (value_of-remove q key v xs r.1) e (text_cmp-turned key x.0 e) (text_cmp q x.0) refl)
    where
      none_at : text_cmp key x.0 ≡ Less → value_of key xs ≡ None
      none_at e = value_of-before key xs (IsBeforeKeys-trans key x.0 xs e r.0)

      before : text_cmp key x.0 ≡ Less → (o : Ordering) → text_cmp q key ≡ o → value_of q (remove_rising key_cmp (key, v) (x ∷ xs)) ≡ at_key q key None (value_of q (x ∷ xs))
      before e Less h = grind arith
      before e Equal h = subst (λ k. value_of k (remove_rising key_cmp (key, v) (x ∷ xs)) ≡ at_key k key None (value_of k (x ∷ xs))) (sym (same_from_text_cmp q key h)) (grind (arith, text_cmp-same key, none_at e))
      before e Greater h = grind arith

      here : text_cmp key x.0 ≡ Equal → (o : Ordering) → text_cmp q key ≡ o → value_of q (remove_rising key_cmp (key, v) (x ∷ xs)) ≡ at_key q key None (value_of q (x ∷ xs))
      here e Less h = (let there = subst (λ k. text_cmp q k ≡ Less) (same_from_text_cmp key x.0 e) h in grind (arith, there))
      here e Equal h =
          let none : value_of q xs ≡ None = subst (λ k. value_of k xs ≡ None) (sym (same_from_text_cmp q key h ∙ same_from_text_cmp key x.0 e)) (value_of-before x.0 xs r.0) in
          grind (arith, none)
      here e Greater h = (let there = subst (λ k. text_cmp q k ≡ Greater) (same_from_text_cmp key x.0 e) h in grind (arith, there))

      later : value_of q (remove_rising key_cmp (key, v) xs) ≡ at_key q key None (value_of q xs) → text_cmp key x.0 ≡ Greater → text_cmp x.0 key ≡ Less → (o : Ordering) → text_cmp q x.0 ≡ o → value_of q (remove_rising key_cmp (key, v) (x ∷ xs)) ≡ at_key q key None (value_of q (x ∷ xs))
      later ih e l Less h = grind (arith, ih)
      later ih e l Equal h = (let there = subst (λ k. text_cmp k key ≡ Less) (sym (same_from_text_cmp q x.0 h)) l in grind (arith, there))
      later ih e l Greater h = grind (arith, ih)

-- keys still rise after an operation
pub rising-put : (m : FiniteMap) (op : MapOp) → KeysRise m → KeysRise (put m op)
rising-put m (Set key value) r = KeysRise-put key value m r
rising-put m (Delete key) r = KeysRise-remove key [] m r
rising-put m Clear r = tt

-- ---- rising keys put one behind another

before-middle : (a key : Characters) (v : List ℕ) (xs ys : FiniteMap) → IsBeforeKeys a (xs ++ (key, v) ∷ ys) → text_cmp a key ≡ Less
before-middle a key v [] ys b = b.0
before-middle a key v (x ∷ xs) ys b = before-middle a key v xs ys b.1

-- what stands behind all of them is put at the end
pub put-last : (key : Characters) (v : List ℕ) (xs ys : FiniteMap) → KeysRise (xs ++ (key, v) ∷ ys) → put_rising key_cmp (key, v) xs ≡ xs ++ (key, v) ∷ []
put-last key v [] ys r = refl
put-last key v (x ∷ xs) ys r = put-greater key_cmp (key, v) x xs (text_cmp-back x.0 key (before-middle x.0 key v xs ys r.0)) ∙ ap (λ zs. x ∷ zs) (put-last key v xs ys r.1)

-- keys still rise where an operation was put, or there was no room for it
pub rising-written : {A E : Type 0} (m new : FiniteMap) (op : MapOp) (result : Result A E) → OnOk result (new ≡ put m op) → OnErr result (new ≡ m) → KeysRise m → KeysRise new
rising-written m new op (Ok x) ok err r = subst KeysRise (sym ok) (rising-put m op r)
rising-written m new op (Err e) ok err r = subst KeysRise (sym err) r

append-one : {A : Type 0} (xs ys : List A) (x : A) → (xs ++ x ∷ []) ++ ys ≡ xs ++ x ∷ ys
append-one [] ys x = refl
append-one (z ∷ xs) ys x = ap (λ zs. z ∷ zs) (append-one xs ys x)

-- one pair more of those that rise
pub loaded-on : (m new : FiniteMap) (pairs left rest : List MapPair) (pair : MapPair) (key value : List ℕ) → KeysRise (map_of pairs) → m ++ map_of left ≡ map_of pairs → left ≡ pair ∷ rest
    → key ≡ pair.key → value ≡ pair.value → new ≡ put_rising key_cmp (key, value) m → new ++ map_of rest ≡ map_of pairs
loaded-on m new pairs left rest pair key value r h first same_key same_value put =
    let whole : m ++ (pair.key, pair.value) ∷ map_of rest ≡ map_of pairs = ap (λ ps. m ++ map_of ps) (sym first) ∙ h in
    let last = put-last pair.key pair.value m (map_of rest) (subst (λ (xs : FiniteMap). KeysRise xs) (sym whole) r) in
    ap (λ (xs : FiniteMap). xs ++ map_of rest) (put ∙ ap (λ k. put_rising key_cmp (k, value) m) same_key ∙ ap (λ v. put_rising key_cmp (pair.key, v) m) same_value ∙ last)
    ∙ append-one m (map_of rest) (pair.key, pair.value) ∙ whole

-- the map of the pairs of a map
pub map_of-pairs_of : (m : FiniteMap) → map_of (pairs_of m) ≡ m
map_of-pairs_of [] = refl
map_of-pairs_of (x ∷ m) = ap (λ (xs : FiniteMap). x ∷ xs) (map_of-pairs_of m)

pub rising-pairs : (m : FiniteMap) (pairs : List MapPair) → pairs ≡ pairs_of m → KeysRise m → KeysRise (map_of pairs)
rising-pairs m pairs h r = subst (λ (xs : FiniteMap). KeysRise xs) (sym (ap map_of h ∙ map_of-pairs_of m)) r
