-- Two lists side by side, and the scans of both: where the tests agree on each pair, so do the scans.
use Rattle.std.proofs.Common.{◌≡◌, ℕ, zero, suc, Bool, true, false, cond, ◌&&◌, List, [], ◌∷◌, ◌++◌, Option, Some, None, refl, ◌∙◌, ap, subst, filter, find, map, length}
use Rattle.std.specs.List.{list_any, flat_map}
use Rattle.std.specs.Option.{option_or}
use Rattle.ft_laws_agreement.specs.Sequencing.{Each}
use Rattle.ft_base.specs.Scan.{at, change_range_from, len, one_more_if, put, put_past, rank, settled_after, within}

-- the relation holds of the first elements of both lists, of the second ones, and so on
pub data Beside (A B : Type 0) (Q : A → B → Type 0) : List A → List B → Type 0 where
  ends : Beside A B Q [] []
  next : {x : A} {y : B} {xs : List A} {ys : List B} → Q x y → Beside A B Q xs ys → Beside A B Q (x ∷ xs) (y ∷ ys)

-- neither is there, or both are, and the relation holds
pub data Both (A B : Type 0) (Q : A → B → Type 0) : Option A → Option B → Type 0 where
  neither : Both A B Q None None
  each : {x : A} {y : B} → Q x y → Both A B Q (Some x) (Some y)

module _ {A B : Type 0} where
  element-choice : (Q : A → B → Type 0) (b c : Bool) → b ≡ c → {x u : A} {y v : B} → Q x y → Q u v → Q (cond b x u) (cond c y v)
  element-choice Q true true e p q = p
  element-choice Q false false e p q = q
  element-choice Q true false e p q = (cc)
  element-choice Q false true e p q = (cc)

module _ {A B : Type 0} {Q : A → B → Type 0} where
  pub beside-more : {R : A → B → Type 0} → ((x : A) (y : B) → Q x y → R x y) → {xs : List A} {ys : List B} → Beside A B Q xs ys → Beside A B R xs ys
  beside-more f ends = ends
  beside-more f (next {x = x} {y = y} q qs) = next (f x y q) (beside-more f qs)

  pub beside-both : {R : A → B → Type 0} {xs : List A} {ys : List B} → Beside A B Q xs ys → Beside A B R xs ys → Beside A B (λ x y. Q x y × R x y) xs ys
  beside-both ends ends = ends
  beside-both (next q qs) (next r rs) = next (q, r) (beside-both qs rs)

  -- with a fact of each element of the first list
  pub beside-each : (P : A → Type 0) {xs : List A} {ys : List B} → Beside A B Q xs ys → Each P xs → Beside A B (λ x y. Q x y × P x) xs ys
  beside-each P ends h = ends
  beside-each P (next q qs) h = next (q, h.0) (beside-each P qs h.1)

  pub beside-append : {xs us : List A} {ys vs : List B} → Beside A B Q xs ys → Beside A B Q us vs → Beside A B Q (xs ++ us) (ys ++ vs)
  beside-append ends r = r
  beside-append (next q qs) r = next q (beside-append qs r)

  pub beside-choice : (b c : Bool) → b ≡ c → {xs us : List A} {ys vs : List B} → Beside A B Q xs ys → Beside A B Q us vs → Beside A B Q (cond b xs us) (cond c ys vs)
  beside-choice true true e p q = p
  beside-choice false false e p q = q
  beside-choice true false e p q = (cc)
  beside-choice false true e p q = (cc)

  pub both-choice : (b c : Bool) → b ≡ c → {x u : Option A} {y v : Option B} → Both A B Q x y → Both A B Q u v → Both A B Q (cond b x u) (cond c y v)
  both-choice true true e p q = p
  both-choice false false e p q = q
  both-choice true false e p q = (cc)
  both-choice false true e p q = (cc)

  pub both-or : {x u : Option A} {y v : Option B} → Both A B Q x y → Both A B Q u v → Both A B Q (option_or x u) (option_or y v)
  both-or neither q = q
  both-or (each p) q = each p

module _ {A B : Type 0} {Q : A → B → Type 0} where
  pub beside-length : {xs : List A} {ys : List B} → Beside A B Q xs ys → length xs ≡ length ys
  beside-length ends = refl
  beside-length (next q qs) = ap suc (beside-length qs)

  -- changed by f and by g
  pub beside-map : {C D : Type 0} {R : C → D → Type 0} (f : A → C) (g : B → D) → ((x : A) (y : B) → Q x y → R (f x) (g y)) → {xs : List A} {ys : List B}
      → Beside A B Q xs ys → Beside C D R (map f xs) (map g ys)
  beside-map f g h ends = ends
  beside-map f g h (next {x = x} {y = y} q qs) = next (h x y q) (beside-map f g h qs)

  pub beside-flat : {C D : Type 0} {R : C → D → Type 0} (f : A → List C) (g : B → List D) → ((x : A) (y : B) → Q x y → Beside C D R (f x) (g y))
      → {xs : List A} {ys : List B} → Beside A B Q xs ys → Beside C D R (flat_map f xs) (flat_map g ys)
  beside-flat f g h ends = ends
  beside-flat {R = R} f g h (next {x = x} {y = y} q qs) = flat-append (h x y q) (beside-flat f g h qs)
    where
      flat-append : {C D : Type 0} {R : C → D → Type 0} {xs us : List C} {ys vs : List D} → Beside C D R xs ys → Beside C D R us vs → Beside C D R (xs ++ us) (ys ++ vs)
      flat-append ends r = r
      flat-append (next p ps) r = next p (flat-append ps r)

  -- mapped to equal values
  pub same-map : {C : Type 0} (f : A → C) (g : B → C) → ((x : A) (y : B) → Q x y → f x ≡ g y) → {xs : List A} {ys : List B} → Beside A B Q xs ys → map f xs ≡ map g ys
  same-map f g h ends = refl
  same-map f g h (next {x = x} {y = y} {xs = xs} q qs) = ap (λ c. c ∷ map f xs) (h x y q) ∙ ap (λ cs. g y ∷ cs) (same-map f g h qs)

  pub same-flat : {C : Type 0} (f : A → List C) (g : B → List C) → ((x : A) (y : B) → Q x y → f x ≡ g y) → {xs : List A} {ys : List B} → Beside A B Q xs ys
      → flat_map f xs ≡ flat_map g ys
  same-flat f g h ends = refl
  same-flat f g h (next {x = x} {y = y} {xs = xs} q qs) = ap (λ c. c ++ flat_map f xs) (h x y q) ∙ ap (λ cs. g y ++ cs) (same-flat f g h qs)

  module _ (seen : A → Bool) (seen' : B → Bool) (agree : (x : A) (y : B) → Q x y → seen x ≡ seen' y) where
    pub beside-len : {xs : List A} {ys : List B} → Beside A B Q xs ys → len seen xs ≡ len seen' ys
    beside-len ends = refl
    beside-len (next {x = x} {y = y} {xs = xs} q qs) = ap (λ b. one_more_if b (len seen xs)) (agree x y q) ∙ ap (one_more_if (seen' y)) (beside-len qs)

    pub beside-any : {xs : List A} {ys : List B} → Beside A B Q xs ys → list_any seen xs ≡ list_any seen' ys
    beside-any ends = refl
    beside-any (next {x = x} {y = y} q qs) = rw (agree x y q, beside-any qs) refl

    pub beside-filter : {xs : List A} {ys : List B} → Beside A B Q xs ys → Beside A B Q (filter seen xs) (filter seen' ys)
    beside-filter ends = ends
    beside-filter (next {x = x} {y = y} q qs) = beside-choice (seen x) (seen' y) (agree x y q) (next q (beside-filter qs)) (beside-filter qs)

    pub both-find : {xs : List A} {ys : List B} → Beside A B Q xs ys → Both A B (λ x y. Q x y × (seen x ≡ true)) (find seen xs) (find seen' ys)
    both-find ends = neither
    both-find (next {x = x} {y = y} {xs = xs} {ys = ys} q qs) = step (seen x) (seen' y) refl (agree x y q) (both-find qs)
      where
        step : (b c : Bool) → seen x ≡ b → b ≡ c → Both A B (λ x y. Q x y × (seen x ≡ true)) (find seen xs) (find seen' ys)
            → Both A B (λ x y. Q x y × (seen x ≡ true)) (cond b (Some x) (find seen xs)) (cond c (Some y) (find seen' ys))
        step true true e f h = each (q, e)
        step false false e f h = h
        step true false e f h = (cc)
        step false true e f h = (cc)

    pub both-at : (i : ℕ) {xs : List A} {ys : List B} → Beside A B Q xs ys → Both A B (λ x y. Q x y × (seen x ≡ true)) (at seen i xs) (at seen' i ys)
    both-at i ends = neither
    both-at zero (next {x = x} {y = y} {xs = xs} {ys = ys} q qs) = step (seen x) (seen' y) refl (agree x y q) (both-at zero qs)
      where
        step : (b c : Bool) → seen x ≡ b → b ≡ c → Both A B (λ x y. Q x y × (seen x ≡ true)) (at seen zero xs) (at seen' zero ys)
            → Both A B (λ x y. Q x y × (seen x ≡ true)) (cond b (Some x) (at seen zero xs)) (cond c (Some y) (at seen' zero ys))
        step true true e f h = each (q, e)
        step false false e f h = h
        step true false e f h = (cc)
        step false true e f h = (cc)
    both-at (suc i) (next {x = x} {y = y} {xs = xs} {ys = ys} q qs) =
        subst (λ b. Both A B (λ x y. Q x y × (seen x ≡ true)) (at seen (cond (seen x) i (suc i)) xs) (at seen' (cond b i (suc i)) ys)) (agree x y q)
        (both-at (cond (seen x) i (suc i)) qs)

    pub beside-range : (f : A → A) (g : B → B) → ((x : A) (y : B) → Q x y → Q (f x) (g y)) → (i p q : ℕ) {xs : List A} {ys : List B} → Beside A B Q xs ys
        → Beside A B Q (change_range_from i seen p q f xs) (change_range_from i seen' p q g ys)
    beside-range f g h i p q ends = ends
    beside-range f g h i p q (next {x = x} {y = y} {xs = xs} {ys = ys} r rs) =
        next (element-choice Q (seen x && within p q i) (seen' y && within p q i) (ap (λ b. b && within p q i) (agree x y r)) (h x y r) r)
        (subst (λ b. Beside A B Q (change_range_from (one_more_if (seen x) i) seen p q f xs) (change_range_from (one_more_if b i) seen' p q g ys))
        (agree x y r) (beside-range f g h (one_more_if (seen x) i) p q rs))

    module _ (past : A → Bool) (past' : B → Bool) (goes : (x : A) (y : B) → Q x y → past x ≡ past' y) {new : List A} {new' : List B} (news : Beside A B Q new new') where
      pub beside-past : {xs : List A} {ys : List B} → Beside A B Q xs ys → Beside A B Q (put_past past new xs) (put_past past' new' ys)
      beside-past ends = news
      beside-past (next {x = x} {y = y} q qs) = beside-choice (past x) (past' y) (goes x y q) (next q (beside-past qs)) (beside-append news (next q qs))

      pub beside-put : (p : ℕ) {xs : List A} {ys : List B} → Beside A B Q xs ys → Beside A B Q (put seen past p new xs) (put seen' past' p new' ys)
      beside-put zero qs = beside-past qs
      beside-put (suc p) ends = news
      beside-put (suc p) (next {x = x} {y = y} {xs = xs} {ys = ys} q qs) =
          next q (subst (λ b. Beside A B Q (put seen past (cond (seen x) p (suc p)) new xs) (put seen' past' (cond b p (suc p)) new' ys)) (agree x y q)
          (beside-put (cond (seen x) p (suc p)) qs))

  module _ (is : A → Bool) (is' : B → Bool) (same : (x : A) (y : B) → Q x y → is x ≡ is' y) (ok : A → Bool) (ok' : B → Bool) (agree : (x : A) (y : B) → Q x y → ok x ≡ ok' y) where
    pub beside-rank : {xs : List A} {ys : List B} → Beside A B Q xs ys → rank is ok xs ≡ rank is' ok' ys
    beside-rank ends = refl
    beside-rank (next {x = x} {y = y} {xs = xs} q qs) =
        ap (λ b. cond b 0 (one_more_if (ok x) (rank is ok xs))) (same x y q) ∙ ap (λ b. cond (is' y) 0 (one_more_if b (rank is ok xs))) (agree x y q)
        ∙ ap (λ n. cond (is' y) 0 (one_more_if (ok' y) n)) (beside-rank qs)

    pub both-settled : {xs : List A} {ys : List B} → Beside A B Q xs ys → {last : Option A} {last' : Option B} → Both A B (λ x y. Q x y × (ok x ≡ true)) last last'
        → Both A B (λ x y. Q x y × (ok x ≡ true)) (settled_after is ok last xs) (settled_after is' ok' last' ys)
    both-settled ends l = neither
    both-settled (next {x = x} {y = y} q qs) {last} {last'} l =
        both-choice (is x) (is' y) (same x y q) (both-or (both-find ok ok' agree (next q qs)) l) (both-settled qs (here (ok x) (ok' y) refl (agree x y q)))
      where
        here : (b c : Bool) → ok x ≡ b → b ≡ c → Both A B (λ x y. Q x y × (ok x ≡ true)) (cond b (Some x) last) (cond c (Some y) last')
        here true true e f = each (q, e)
        here false false e f = l
        here true false e f = (cc)
        here false true e f = (cc)
