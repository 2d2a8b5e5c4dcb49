-- Lists of pairs by rising keys: the order of texts, where a key stands, and what is put there.
use Rattle.std.proofs.Common.{◌≡◌, ℕ, zero, suc, ◌<◌, ◌≤◌, List, [], ◌∷◌, Some, None, Result, Ok, Err, refl, sym, ◌∙◌, ap, subst, arith, length, get_or, set}
use Rattle.std.specs.Ordering.{ordering_reverse, ordering_index}
use Rattle.std.specs.declared.cmp.Ordering.{Ordering}
use Rattle.std.specs.declared.cmp.Ordering.TheVariants.{Less, Equal, Greater}
use Rattle.std.specs.List.{insert, remove}
use Rattle.std.specs.List.Sorted.{IsSearchInRange, IsBinarySearchResult, IsNonDecreasingBy}
use Rattle.std.proofs.lemmas.Cmp.{nat_list_cmp_total, tied_itself, tied_back}
use Rattle.std.proofs.lemmas.Map.Lookups.{exact_bytes}
use Rattle.ft_props.specs.Keys.{Characters, IsBeforeKeys, KeysRise, key_cmp, key_place, put_rising, remove_rising, text_cmp, value_of}

-- the laws of the order of texts
pub text_cmp-same : (a : Characters) → text_cmp a a ≡ Equal
text_cmp-same a = tied_itself nat_list_cmp_total a

pub same_from_text_cmp : (a b : Characters) → text_cmp a b ≡ Equal → a ≡ b
same_from_text_cmp a b h = exact_bytes a b h

pub text_cmp-back : (a b : Characters) → text_cmp a b ≡ Less → text_cmp b a ≡ Greater
text_cmp-back a b h = nat_list_cmp_total.antisymm b a ∙ ap ordering_reverse h

pub text_cmp-turned : (a b : Characters) → text_cmp a b ≡ Greater → text_cmp b a ≡ Less
text_cmp-turned a b h = nat_list_cmp_total.antisymm b a ∙ ap ordering_reverse h

pub text_cmp-trans : (a b c : Characters) → text_cmp a b ≡ Less → text_cmp b c ≡ Less → text_cmp a c ≡ Less
text_cmp-trans = nat_list_cmp_total.trans

by_order : {G : Type 0} (o : Ordering) → (o ≡ Less → G) → (o ≡ Equal → G) → (o ≡ Greater → G) → G
by_order Less f g h = f refl
by_order Equal f g h = g refl
by_order Greater f g h = h refl

-- a list with x put, by the order of x and the first
put-less : {A : Type 0} (cmp : A → A → Ordering) (x y : A) (ys : List A) → cmp x y ≡ Less → put_rising cmp x (y ∷ ys) ≡ x ∷ y ∷ ys
put-less cmp x y ys h = grind arith

put-same : {A : Type 0} (cmp : A → A → Ordering) (x y : A) (ys : List A) → cmp x y ≡ Equal → put_rising cmp x (y ∷ ys) ≡ x ∷ ys
put-same cmp x y ys h = grind arith

put-greater : {A : Type 0} (cmp : A → A → Ordering) (x y : A) (ys : List A) → cmp x y ≡ Greater → put_rising cmp x (y ∷ ys) ≡ y ∷ put_rising cmp x ys
put-greater cmp x y ys h = grind arith

index-le : (o : Ordering) → ordering_index o ≤ 2
index-le Less = omega arith
index-le Equal = omega arith
index-le Greater = omega arith

-- what is less than another compares with a third as the other does, or as less
index-rises : (a b key : Characters) → text_cmp a b ≡ Less → ordering_index (text_cmp a key) ≤ ordering_index (text_cmp b key)
index-rises a b key h =
    by_order (text_cmp b key)
    (λ e. grind (arith, text_cmp-trans a b key h e))
    (λ e. (let here = subst (λ k. text_cmp a k ≡ Less) (same_from_text_cmp b key e) h in grind (arith, here)))
    (λ e. grind (arith, index-le (text_cmp a key)))

remove-less : {A : Type 0} (cmp : A → A → Ordering) (x y : A) (ys : List A) → cmp x y ≡ Less → remove_rising cmp x (y ∷ ys) ≡ y ∷ ys
remove-less cmp x y ys h = grind arith

remove-same : {A : Type 0} (cmp : A → A → Ordering) (x y : A) (ys : List A) → cmp x y ≡ Equal → remove_rising cmp x (y ∷ ys) ≡ ys
remove-same cmp x y ys h = grind arith

remove-greater : {A : Type 0} (cmp : A → A → Ordering) (x y : A) (ys : List A) → cmp x y ≡ Greater → remove_rising cmp x (y ∷ ys) ≡ y ∷ remove_rising cmp x ys
remove-greater cmp x y ys h = grind arith

module _ {V : Type 0} where
  -- a key before another is before all behind that
  pub IsBeforeKeys-trans : (a b : Characters) (xs : List (Characters × V)) → text_cmp a b ≡ Less → IsBeforeKeys b xs → IsBeforeKeys a xs
  IsBeforeKeys-trans a b [] h r = tt
  IsBeforeKeys-trans a b (x ∷ xs) h r = (text_cmp-trans a b x.0 h r.0, IsBeforeKeys-trans a b xs h r.1)

  -- the place of a key is in the list, and one where it would stand is so or is its end
  pub found-in_range : (key : Characters) (i : ℕ) (xs : List (Characters × V)) → key_place key xs ≡ Ok i → i < length xs
  found-in_range key i [] h = absurd cc
  found-in_range key zero (x ∷ xs) h = omega arith
  found-in_range key (suc i) (x ∷ xs) h = grind (arith, found-in_range key i xs)

  pub missing-in_range : (key : Characters) (i : ℕ) (xs : List (Characters × V)) → key_place key xs ≡ Err i → i ≤ length xs
  missing-in_range key zero xs h = omega arith
  missing-in_range key (suc i) [] h = absurd cc
  missing-in_range key (suc i) (x ∷ xs) h = grind (arith, missing-in_range key i xs)

  -- the value of a key is that at its place
  pub value_of-found : (key : Characters) (i : ℕ) (d : Characters × V) (xs : List (Characters × V)) → key_place key xs ≡ Ok i
      → value_of key xs ≡ Some (get_or xs i d).1
  value_of-found key i d [] h = cc
  value_of-found key zero d (x ∷ xs) h = grind (arith, value_of-found key zero d xs)
  value_of-found key (suc i) d (x ∷ xs) h = grind (arith, value_of-found key i d xs)

  value_of-before : (key : Characters) (xs : List (Characters × V)) → IsBeforeKeys key xs → value_of key xs ≡ None
  value_of-before key [] b = refl
  value_of-before key (x ∷ xs) b = grind (arith, b.0, value_of-before key xs b.1)

  -- a key that has no place has no value
  pub value_of-missing : (key : Characters) (i : ℕ) (xs : List (Characters × V)) → KeysRise xs → key_place key xs ≡ Err i → value_of key xs ≡ None
  value_of-missing key i [] r h = refl
  value_of-missing key zero (x ∷ xs) r h =
      by_order (text_cmp key x.0) (λ e. grind (arith, value_of-before key xs (IsBeforeKeys-trans key x.0 xs e r.0))) (λ e. grind arith) (λ e. grind arith)
  value_of-missing key (suc i) (x ∷ xs) r h = grind (arith, value_of-missing key i xs r.1)

  -- what is put stands at its key's place, or where the key would stand
  pub put_rising-found : (key : Characters) (v : V) (i : ℕ) (xs : List (Characters × V)) → key_place key xs ≡ Ok i
      → put_rising key_cmp (key, v) xs ≡ set xs i (key, v)
  put_rising-found key v i [] h = cc
  put_rising-found key v zero (x ∷ xs) h = grind (arith, put_rising-found key v zero xs)
  put_rising-found key v (suc i) (x ∷ xs) h = grind (arith, put_rising-found key v i xs)

  pub put_rising-missing : (key : Characters) (v : V) (i : ℕ) (xs : List (Characters × V)) → key_place key xs ≡ Err i
      → put_rising key_cmp (key, v) xs ≡ insert xs i (key, v)
  put_rising-missing key v zero [] h = refl
  put_rising-missing key v (suc i) [] h = absurd cc
  put_rising-missing key v zero (x ∷ xs) h = grind arith
  put_rising-missing key v (suc i) (x ∷ xs) h = grind (arith, put_rising-missing key v i xs)

  -- a key that rises above another is still above it where a third is put that is too
  IsBeforeKeys-put : (a key : Characters) (v : V) (xs : List (Characters × V)) → text_cmp a key ≡ Less → IsBeforeKeys a xs
      → IsBeforeKeys a (put_rising key_cmp (key, v) xs)
  IsBeforeKeys-put a key v [] h b = (h, tt)
  IsBeforeKeys-put a key v (x ∷ xs) h b =
      let P : List (Characters × V) → Type 0 = λ ys. IsBeforeKeys a ys in
      by_order (text_cmp key x.0)
      (λ e. subst P (sym (put-less key_cmp (key, v) x xs e)) (h, b))
      (λ e. subst P (sym (put-same key_cmp (key, v) x xs e)) (h, b.1))
      (λ e. subst P (sym (put-greater key_cmp (key, v) x xs e)) (b.0, IsBeforeKeys-put a key v xs h b.1))

  -- the keys still rise
  pub KeysRise-put : (key : Characters) (v : V) (xs : List (Characters × V)) → KeysRise xs → KeysRise (put_rising key_cmp (key, v) xs)
  KeysRise-put key v [] r = (tt, tt)
  KeysRise-put key v (x ∷ xs) r =
      let P : List (Characters × V) → Type 0 = λ ys. KeysRise ys in
      by_order (text_cmp key x.0)
      (λ e. subst P (sym (put-less key_cmp (key, v) x xs e)) ((e, IsBeforeKeys-trans key x.0 xs e r.0), r))
      (λ e. subst P (sym (put-same key_cmp (key, v) x xs e)) (subst (λ k. IsBeforeKeys k xs) (sym (same_from_text_cmp key x.0 e)) r.0, r.1))
      (λ e. subst P (sym (put-greater key_cmp (key, v) x xs e)) (IsBeforeKeys-put x.0 key v xs (text_cmp-turned key x.0 e) r.0, KeysRise-put key v xs r.1))

  -- what is removed stood at its key's place
  pub remove_rising-found : (key : Characters) (v : V) (i : ℕ) (xs : List (Characters × V)) → key_place key xs ≡ Ok i
      → remove_rising key_cmp (key, v) xs ≡ remove xs i
  remove_rising-found key v i [] h = absurd cc
  remove_rising-found key v zero (x ∷ xs) h = grind (arith, remove_rising-found key v zero xs)
  remove_rising-found key v (suc i) (x ∷ xs) h = grind (arith, remove_rising-found key v i xs)

  pub remove_rising-missing : (key : Characters) (v : V) (i : ℕ) (xs : List (Characters × V)) → key_place key xs ≡ Err i
      → remove_rising key_cmp (key, v) xs ≡ xs
  remove_rising-missing key v i [] h = refl
  remove_rising-missing key v zero (x ∷ xs) h = grind arith
  remove_rising-missing key v (suc i) (x ∷ xs) h = grind (arith, remove_rising-missing key v i xs)

  IsBeforeKeys-remove : (a key : Characters) (v : V) (xs : List (Characters × V)) → IsBeforeKeys a xs → IsBeforeKeys a (remove_rising key_cmp (key, v) xs)
  IsBeforeKeys-remove a key v [] b = tt
  IsBeforeKeys-remove a key v (x ∷ xs) b =
      let P : List (Characters × V) → Type 0 = λ ys. IsBeforeKeys a ys in
      by_order (text_cmp key x.0)
      (λ e. subst P (sym (remove-less key_cmp (key, v) x xs e)) b)
      (λ e. subst P (sym (remove-same key_cmp (key, v) x xs e)) b.1)
      (λ e. subst P (sym (remove-greater key_cmp (key, v) x xs e)) (b.0, IsBeforeKeys-remove a key v xs b.1))

  pub KeysRise-remove : (key : Characters) (v : V) (xs : List (Characters × V)) → KeysRise xs → KeysRise (remove_rising key_cmp (key, v) xs)
  KeysRise-remove key v [] r = tt
  KeysRise-remove key v (x ∷ xs) r =
      let P : List (Characters × V) → Type 0 = λ ys. KeysRise ys in
      by_order (text_cmp key x.0)
      (λ e. subst P (sym (remove-less key_cmp (key, v) x xs e)) r)
      (λ e. subst P (sym (remove-same key_cmp (key, v) x xs e)) r.1)
      (λ e. subst P (sym (remove-greater key_cmp (key, v) x xs e)) (IsBeforeKeys-remove x.0 key v xs r.0, KeysRise-remove key v xs r.1))

  -- the order of a key in place i and another one
  abbrev order_at : Characters → List (Characters × V) → ℕ → (Characters × V) → Ordering
  order_at key xs i d = text_cmp (get_or xs i d).0 key

  at-before : (key : Characters) (xs : List (Characters × V)) (i : ℕ) (d : Characters × V) → IsBeforeKeys key xs → i < length xs
      → text_cmp key (get_or xs i d).0 ≡ Less
  at-before key [] i d b l = absurd (omega arith)
  at-before key (x ∷ xs) zero d b l = b.0
  at-before key (x ∷ xs) (suc i) d b l = at-before key xs i d b.1 (omega arith)

  -- a key that is found by comparing stands at its place
  pub key_place-equal : (key : Characters) (xs : List (Characters × V)) (i : ℕ) (d : Characters × V) → KeysRise xs → i < length xs
      → order_at key xs i d ≡ Equal → key_place key xs ≡ Ok i
  key_place-equal key [] i d r l h = absurd (omega arith)
  key_place-equal key (x ∷ xs) zero d r l h = grind (arith, tied_back nat_list_cmp_total x.0 key h)
  key_place-equal key (x ∷ xs) (suc i) d r l h =
      let here = subst (λ k. text_cmp x.0 k ≡ Less) (same_from_text_cmp _ key h) (at-before x.0 xs i d r.0 (omega arith)) in
      grind (arith, text_cmp-back x.0 key here, key_place-equal key xs i d r.1 (omega arith) h)

  -- a key that stands at no place would stand behind the lesser ones
  pub key_place-between : (key : Characters) (xs : List (Characters × V)) (i : ℕ) (d : Characters × V) → i ≤ length xs
      → ((j : ℕ) → j < i → order_at key xs j d ≡ Less) → ((j : ℕ) → i ≤ j → j < length xs → order_at key xs j d ≡ Greater) → key_place key xs ≡ Err i
  key_place-between key [] zero d l before after = refl
  key_place-between key [] (suc i) d l before after = absurd (omega arith)
  key_place-between key (x ∷ xs) zero d l before after = grind (arith, text_cmp-turned x.0 key (after 0 (omega arith) (omega arith)))
  key_place-between key (x ∷ xs) (suc i) d l before after =
      grind (
        arith,
        text_cmp-back x.0 key (before 0 (omega arith)),
        key_place-between key xs i d (omega arith) (λ j h. before (suc j) (omega arith)) (λ j h k. after (suc j) (omega arith) (omega arith)),
      )

  -- the comparisons with a key rise along the list, as a binary search asks
  comparisons_rise : (key : Characters) (xs : List (Characters × V)) → KeysRise xs → IsNonDecreasingBy (λ x. ordering_index (text_cmp x.0 key)) xs
  comparisons_rise key [] r i j d l m = absurd (omega arith)
  comparisons_rise key (x ∷ xs) r zero zero d l m = omega arith
  comparisons_rise key (x ∷ xs) r zero (suc j) d l m = index-rises x.0 (get_or xs j d).0 key (at-before x.0 xs j d r.0 (omega arith))
  comparisons_rise key (x ∷ xs) r (suc i) zero d l m = absurd (omega arith)
  comparisons_rise key (x ∷ xs) r (suc i) (suc j) d l m = comparisons_rise key xs r.1 i j d (omega arith) (omega arith)

  -- what a binary search answers
  pub searched : (key : Characters) (xs : List (Characters × V)) (r : Result ℕ ℕ) → KeysRise xs → IsSearchInRange r (length xs)
      → IsBinarySearchResult (λ x. text_cmp x.0 key) xs r → r ≡ key_place key xs
  searched key [] (Ok i) rise l h = absurd (omega arith)
  searched key (x ∷ xs) (Ok i) rise l h = sym (key_place-equal key (x ∷ xs) i x rise l (h x))
  searched key [] (Err i) rise l h = ap Err (omega arith)
  searched key (x ∷ xs) (Err i) rise l h =
      let parts = h (comparisons_rise key (x ∷ xs) rise) in
      sym (key_place-between key (x ∷ xs) i x l (λ j k. parts.0 j x (omega arith) k) (λ j k m. parts.1 j x k m))
