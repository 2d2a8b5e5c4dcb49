-- How the scans go on where some elements are left out.
use Rattle.std.proofs.Common.{◌≡◌, ℕ, zero, suc, Bool, true, false, cond, List, [], ◌∷◌, ◌++◌, Option, Some, None, refl, sym, arith, append-nil, find}
use Rattle.std.specs.Option.{option_or, option_map}
use Rattle.ft_base.specs.Scan.{retain_map, len, at, no_run, put_past, put, change_range_from, settled_after}

-- an insertion that goes past no run stands at the front
pub put_past-no_run : {A : Type 0} (new xs : List A) → put_past no_run new xs ≡ new ++ xs
put_past-no_run new [] = sym (append-nil new)
put_past-no_run new (x ∷ xs) = refl

-- each seen element is kept, and seen as before
pub record Keeping {A B : Type 0} (keep seen : A → Bool) (f : A → B) (seen' : B → Bool) : Type 0 where
  pub kept : (x : A) → keep x ≡ false → seen x ≡ false
  pub same : (x : A) → keep x ≡ true → seen' (f x) ≡ seen x

pub retain_map-append : {A B : Type 0} (keep : A → Bool) (f : A → B) (xs ys : List A) → retain_map keep f (xs ++ ys) ≡ retain_map keep f xs ++ retain_map keep f ys
retain_map-append keep f [] ys = refl
retain_map-append keep f (x ∷ xs) ys = grind (arith, retain_map-append keep f xs ys)

module _ {A B : Type 0} (keep seen : A → Bool) (f : A → B) (seen' : B → Bool) (h : Keeping keep seen f seen') where
  pub len-retain_map : (xs : List A) → len seen' (retain_map keep f xs) ≡ len seen xs
  len-retain_map [] = refl
  len-retain_map (x ∷ xs) = grind (arith, len-retain_map xs, h.kept x, h.same x)

  module _ (past : A → Bool) (past' : B → Bool) (p : (x : A) → keep x ≡ false → past x ≡ true) (q : (x : A) → keep x ≡ true → past' (f x) ≡ past x) where
    -- those that are left out are gone past
    pub put_past-retain_map : (new xs : List A) → retain_map keep f (put_past past new xs) ≡ put_past past' (retain_map keep f new) (retain_map keep f xs)
    put_past-retain_map new [] = refl
    put_past-retain_map new (x ∷ xs) = grind (arith, put_past-retain_map new xs, retain_map-append keep f new (x ∷ xs), p x, q x)

    pub put-retain_map : (n : ℕ) (new xs : List A) → retain_map keep f (put seen past n new xs) ≡ put seen' past' n (retain_map keep f new) (retain_map keep f xs)
    put-retain_map zero new xs = put_past-retain_map new xs
    put-retain_map (suc n) new [] = refl
    put-retain_map (suc n) new (x ∷ xs) = grind (arith, put-retain_map n new xs, put-retain_map (suc n) new xs, h.kept x, h.same x)

  pub range-retain_map : (g : A → A) (g' : B → B) → ((x : A) → keep (g x) ≡ keep x) → ((x : A) → f (g x) ≡ g' (f x)) → (i p q : ℕ) (xs : List A)
      → retain_map keep f (change_range_from i seen p q g xs) ≡ change_range_from i seen' p q g' (retain_map keep f xs)
  range-retain_map g g' k e i p q [] = refl
  range-retain_map g g' k e i p q (x ∷ xs) =
      grind (arith, range-retain_map g g' k e i p q xs, range-retain_map g g' k e (suc i) p q xs, h.kept x, h.same x, k x, e x)

  pub at-retain_map : (i : ℕ) (xs : List A) → at seen' i (retain_map keep f xs) ≡ option_map f (at seen i xs)
  at-retain_map i [] = refl
  at-retain_map zero (x ∷ xs) = grind (arith, at-retain_map zero xs, h.kept x, h.same x)
  at-retain_map (suc i) (x ∷ xs) = grind (arith, at-retain_map i xs, at-retain_map (suc i) xs, h.kept x, h.same x)

  pub find-retain_map : (xs : List A) → find seen' (retain_map keep f xs) ≡ option_map f (find seen xs)
  find-retain_map [] = refl
  find-retain_map (x ∷ xs) = grind (arith, find-retain_map xs, h.kept x, h.same x)

map-option_or : {A B : Type 0} (f : A → B) (a b : Option A) → option_map f (option_or a b) ≡ option_or (option_map f a) (option_map f b)
map-option_or f None b = refl
map-option_or f (Some x) b = refl

map-last : {A B : Type 0} (f : A → B) (b : Bool) (x : A) (last : Option A) → option_map f (cond b (Some x) last) ≡ cond b (Some (f x)) (option_map f last)
map-last f true x last = refl
map-last f false x last = refl

module _ {A B : Type 0} (keep is ok : A → Bool) (f : A → B) (is' ok' : B → Bool) (h : Keeping keep is f is') (g : Keeping keep ok f ok') where
  found-retain_map : (last : Option A) (xs : List A) → option_or (find ok' (retain_map keep f xs)) (option_map f last) ≡ option_map f (option_or (find ok xs) last)
  found-retain_map last xs = rw (find-retain_map keep ok f ok' g xs, map-option_or f (find ok xs) last)

  pub settled-retain_map : (last : Option A) (xs : List A) → settled_after is' ok' (option_map f last) (retain_map keep f xs) ≡ option_map f (settled_after is ok last xs)
  settled-retain_map last [] = refl
  settled-retain_map last (x ∷ xs) =
      grind (arith, settled-retain_map last xs, settled-retain_map (Some x) xs, found-retain_map last xs, found-retain_map last (x ∷ xs), h.kept x, h.same x, g.kept x, g.same x)
