-- What is told of rising items is told of those alone that a test passes, where the others are as before.
use Rattle.std.proofs.Common.{◌≡◌, ℕ, zero, suc, ◌+◌, ◌≤◌, Bool, true, false, cond, not, List, [], ◌∷◌, ◌++◌, refl, sym, ◌∙◌, ap, arith, filter, length}
use Rattle.std.specs.declared.cmp.Ordering.{Ordering}
use Rattle.std.specs.declared.cmp.Ordering.TheVariants.{Less, Equal, Greater}
use Rattle.ft_changes.specs.declared.changes.ViewChange.{ViewChange}
use Rattle.ft_changes.specs.Told.{behind_set, dropped_before, not_before, set_unless_same, told_items}
use Rattle.ft_changes.proofs.ToldItems.{AreBehind, IsKeyOrder, Rise, behind-further}

-- the facts of an order that are needed: as those of a key order, and what is before another one is so from both sides
module _ {A : Type 0} (order : A → A → Ordering) (same : A → A → Bool) (set drop : A → ViewChange) (is : IsKeyOrder order)
    (forth : (a b : A) → order b a ≡ Greater → order a b ≡ Less) (own : (x : A) → same x x ≡ true) (test : A → Bool)
    (keys : (a b : A) → order a b ≡ Equal → test a ≡ test b) where
  abbrev told : List A → List A → List ViewChange
  told ys xs = told_items order same set drop ys xs

  abbrev passing : List A → List A
  passing xs = filter test xs

  abbrev others : List A → List A
  others xs = filter (λ x. not (test x)) xs

  -- ---- the first of both

  drop-first : (x y : A) (ys xs : List A) → order x y ≡ Greater → told (y ∷ ys) (x ∷ xs) ≡ drop y ∷ told ys (x ∷ xs)
  drop-first x y ys xs e =
      ap (λ (o : Ordering). elim o as (λ _. List ViewChange) [ Greater ↦ drop y ∷ dropped_before order drop x ys | _ ↦ [] ]
      ++ set_unless_same order same set x (elim o as (λ _. List A) [ Greater ↦ not_before order x ys | _ ↦ y ∷ ys ])
      ++ told (behind_set order x (elim o as (λ _. List A) [ Greater ↦ not_before order x ys | _ ↦ y ∷ ys ])) xs) e

  both-first : (x y : A) (ys xs : List A) → order x y ≡ Equal → told (y ∷ ys) (x ∷ xs) ≡ cond (same x y) [] (set x ∷ []) ++ told ys xs
  both-first x y ys xs e =
      ap (λ (o : Ordering). elim o as (λ _. List ViewChange) [ Greater ↦ drop y ∷ dropped_before order drop x ys | _ ↦ [] ]
      ++ set_unless_same order same set x (elim o as (λ _. List A) [ Greater ↦ not_before order x ys | _ ↦ y ∷ ys ])
      ++ told (behind_set order x (elim o as (λ _. List A) [ Greater ↦ not_before order x ys | _ ↦ y ∷ ys ])) xs) e
      ∙ ap (λ (o : Ordering). elim o as (λ _. List ViewChange) [ Equal ↦ cond (same x y) [] (set x ∷ []) | _ ↦ set x ∷ [] ]
      ++ told (elim o as (λ _. List A) [ Equal ↦ ys | _ ↦ y ∷ ys ]) xs) e

  set-first : (x y : A) (ys xs : List A) → order x y ≡ Less → told (y ∷ ys) (x ∷ xs) ≡ set x ∷ told (y ∷ ys) xs
  set-first x y ys xs e =
      ap (λ (o : Ordering). elim o as (λ _. List ViewChange) [ Greater ↦ drop y ∷ dropped_before order drop x ys | _ ↦ [] ]
      ++ set_unless_same order same set x (elim o as (λ _. List A) [ Greater ↦ not_before order x ys | _ ↦ y ∷ ys ])
      ++ told (behind_set order x (elim o as (λ _. List A) [ Greater ↦ not_before order x ys | _ ↦ y ∷ ys ])) xs) e
      ∙ ap (λ (o : Ordering). elim o as (λ _. List ViewChange) [ Equal ↦ cond (same x y) [] (set x ∷ []) | _ ↦ set x ∷ [] ]
      ++ told (elim o as (λ _. List A) [ Equal ↦ ys | _ ↦ y ∷ ys ]) xs) e

  drop-behind : (y : A) (ys xs : List A) → AreBehind order y xs → told (y ∷ ys) xs ≡ drop y ∷ told ys xs
  drop-behind y ys [] b = refl
  drop-behind y ys (x ∷ xs) b = drop-first x y ys xs b.0

  set-behind : (x : A) (ys xs : List A) → AreBehind order x ys → told ys (x ∷ xs) ≡ set x ∷ told ys xs
  set-behind x [] xs b = refl
  set-behind x (y ∷ ys) xs b = set-first x y ys xs (forth x y b.0)

  -- ---- filters

  filter-behind : (keep : A → Bool) (y : A) (xs : List A) → AreBehind order y xs → AreBehind order y (filter keep xs)
  filter-behind keep y [] b = tt
  filter-behind keep y (x ∷ xs) b = by (keep x) (filter-behind keep y xs b.1)
    where
      by : (o : Bool) → AreBehind order y (filter keep xs) → AreBehind order y (cond o (x ∷ filter keep xs) (filter keep xs))
      by true rest = (b.0, rest)
      by false rest = rest

  -- one that is behind itself isn't
  not-behind : (y : A) (zs rest : List A) → AreBehind order y zs → y ∷ rest ≡ zs → ⊥
  not-behind y [] rest b e = absurd (cc)
  not-behind y (z ∷ zs) rest b e =
      let first : y ≡ z = (cc) in
      let own_place : order y y ≡ Greater = ap (λ a. order a y) first ∙ b.0 in
      let equal = is.same y in
      absurd (cc)

  pub told-filtered : (m : ℕ) (ys xs : List A) → length ys + length xs ≤ m → Rise order ys → Rise order xs → others ys ≡ others xs
      → told ys xs ≡ told (passing ys) (passing xs)
  told-filtered m [] [] l ry rx e = refl
  told-filtered zero [] (x ∷ xs) l ry rx e = absurd (omega arith)
  told-filtered (suc m) [] (x ∷ xs) l ry rx e = by (test x) e (λ d. told-filtered m [] xs (omega arith) ry rx.1 d)
    where
      by : (b : Bool) → [] ≡ cond (not b) (x ∷ others xs) (others xs) → ([] ≡ others xs → told [] xs ≡ told [] (passing xs))
          → told [] (x ∷ xs) ≡ told [] (cond b (x ∷ passing xs) (passing xs))
      by true d ih = ap (λ cs. set x ∷ cs) (ih d)
      by false d ih = absurd (cc)
  told-filtered zero (y ∷ ys) xs l ry rx e = absurd (omega arith)
  told-filtered (suc m) (y ∷ ys) [] l ry rx e = by (test y) e (λ d. told-filtered m ys [] (omega arith) ry.1 rx d)
    where
      by : (b : Bool) → cond (not b) (y ∷ others ys) (others ys) ≡ [] → (others ys ≡ [] → told ys [] ≡ told (passing ys) [])
          → told (y ∷ ys) [] ≡ told (cond b (y ∷ passing ys) (passing ys)) []
      by true d ih = ap (λ cs. drop y ∷ cs) (ih d)
      by false d ih = absurd (cc)
  told-filtered (suc m) (y ∷ ys) (x ∷ xs) l ry rx e =
      by (order x y) refl (test y) refl (test x) refl e (λ d. told-filtered m ys (x ∷ xs) (omega arith) ry.1 rx d)
      (λ d. told-filtered m ys xs (omega arith) ry.1 rx.1 d) (λ d. told-filtered m (y ∷ ys) xs (omega arith) ry rx.1 d)
    where
      Result : Bool → Bool → Type 0
      Result b d = told (y ∷ ys) (x ∷ xs) ≡ told (cond b (y ∷ passing ys) (passing ys)) (cond d (x ∷ passing xs) (passing xs))

      by : (o : Ordering) → order x y ≡ o → (b : Bool) → test y ≡ b → (d : Bool) → test x ≡ d
          → cond (not b) (y ∷ others ys) (others ys) ≡ cond (not d) (x ∷ others xs) (others xs)
          → (others ys ≡ others (x ∷ xs) → told ys (x ∷ xs) ≡ told (passing ys) (passing (x ∷ xs)))
          → (others ys ≡ others xs → told ys xs ≡ told (passing ys) (passing xs))
          → (others (y ∷ ys) ≡ others xs → told (y ∷ ys) xs ≡ told (passing (y ∷ ys)) (passing xs))
          → Result b d
      by Greater p true f d g h drops both sets =
          let later = behind-further order is y x xs p rx.0 in
          let rest : cond (not (test x)) (x ∷ others xs) (others xs) ≡ cond (not d) (x ∷ others xs) (others xs) =
          ap (λ b. cond (not b) (x ∷ others xs) (others xs)) g in
          drop-first x y ys xs p ∙ ap (λ cs. drop y ∷ cs) (drops (h ∙ sym rest))
          ∙ sym (drop-behind y (passing ys) (passing (x ∷ xs)) (filter-behind test y (x ∷ xs) (p, later)))
          ∙ ap (λ b. told (y ∷ passing ys) (cond b (x ∷ passing xs) (passing xs))) g
      by Greater p false f d g h drops both sets =
          let later = behind-further order is y x xs p rx.0 in
          let rest : cond (not (test x)) (x ∷ others xs) (others xs) ≡ cond (not d) (x ∷ others xs) (others xs) =
          ap (λ b. cond (not b) (x ∷ others xs) (others xs)) g in
          absurd (not-behind y (others (x ∷ xs)) (others ys) (filter-behind (λ z. not (test z)) y (x ∷ xs) (p, later)) (h ∙ sym rest))
      by Equal p true f true g h drops both sets =
          both-first x y ys xs p ∙ ap (λ cs. cond (same x y) [] (set x ∷ []) ++ cs) (both h) ∙ sym (both-first x y (passing ys) (passing xs) p)
      by Equal p false f false g h drops both sets =
          let one : y ≡ x = (cc) in
          let rest : others ys ≡ others xs = (cc) in
          let still : same x y ≡ true = ap (same x) one ∙ own x in
          both-first x y ys xs p ∙ ap (λ b. cond b [] (set x ∷ []) ++ told ys xs) still ∙ both rest
      by Equal p true f false g h drops both sets = let k = keys x y p in absurd (cc)
      by Equal p false f true g h drops both sets = let k = keys x y p in absurd (cc)
      by Less p b f true g h drops both sets =
          let back = is.back x y p in
          let later = behind-further order is x y ys back ry.0 in
          let rest : cond (not (test y)) (y ∷ others ys) (others ys) ≡ cond (not b) (y ∷ others ys) (others ys) =
          ap (λ b. cond (not b) (y ∷ others ys) (others ys)) f in
          set-first x y ys xs p ∙ ap (λ cs. set x ∷ cs) (sets (rest ∙ h))
          ∙ sym (set-behind x (passing (y ∷ ys)) (passing xs) (filter-behind test x (y ∷ ys) (back, later)))
          ∙ ap (λ b. told (cond b (y ∷ passing ys) (passing ys)) (x ∷ passing xs)) f
      by Less p b f false g h drops both sets =
          let back = is.back x y p in
          let later = behind-further order is x y ys back ry.0 in
          let rest : cond (not (test y)) (y ∷ others ys) (others ys) ≡ cond (not b) (y ∷ others ys) (others ys) =
          ap (λ b. cond (not b) (y ∷ others ys) (others ys)) f in
          absurd (not-behind x (others (y ∷ ys)) (others xs) (filter-behind (λ z. not (test z)) x (y ∷ ys) (back, later)) (sym (rest ∙ h)))
