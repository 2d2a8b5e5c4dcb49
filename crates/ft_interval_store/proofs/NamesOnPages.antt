-- Where a name stands among rising names that stand on pages.
use Rattle.std.proofs.Common.{◌≡◌, ℕ, zero, suc, ◌+◌, ◌-◌, ◌<◌, ◌≤◌, true, false, List, [], ◌∷◌, ◌++◌, get_or, length, Result, Ok, Err, refl, sym, ◌∙◌, ap, subst, arith}
use Rattle.std.specs.Prelude.{⊤}
use Rattle.std.specs.Global.{Vec}
use Rattle.std.specs.Ordering.{is_le}
use Rattle.std.specs.declared.cmp.Ordering.{Ordering}
use Rattle.std.specs.declared.cmp.Ordering.TheVariants.{Less, Equal, Greater}
use Rattle.std.specs.List.Sorted.{IsPartitionedBy}
use Rattle.std.proofs.lemmas.List.Elements.{All-head, All-tail}
use Rattle.ft_props.specs.Keys.{next_place}
use Rattle.ft_interval_store.specs.declared.intervals.Interval.{Interval}
use Rattle.ft_interval_store.specs.Pages.{AreFilled, count_before, from_pages}
use Rattle.ft_interval_store.specs.Intervals.{IsBeforeNames, IsCutBy, Name, NamesRise, begins_by, name_cmp, name_of, place_of_name}
use Rattle.ft_interval_store.proofs.RisingNames.{by_order, name_cmp-back, name_cmp-trans, name_cmp-turned, same_from_name_cmp}

-- the place, so many further on
abbrev pub shifted : ℕ → Result ℕ ℕ → Result ℕ ℕ
shifted m (Ok i) = Ok (m + i)
shifted m (Err i) = Err (m + i)

shifted-zero : (r : Result ℕ ℕ) → r ≡ shifted 0 r
shifted-zero (Ok i) = ap Ok (omega arith)
shifted-zero (Err i) = ap Err (omega arith)

shifted-next : (m : ℕ) (r : Result ℕ ℕ) → next_place (shifted m r) ≡ shifted (suc m) r
shifted-next m (Ok i) = ap Ok (omega arith)
shifted-next m (Err i) = ap Err (omega arith)

shifted-shifted : (m k : ℕ) (r : Result ℕ ℕ) → shifted m (shifted k r) ≡ shifted (m + k) r
shifted-shifted m k (Ok i) = ap Ok (omega arith)
shifted-shifted m k (Err i) = ap Err (omega arith)

-- a name before another one that isn't behind n
le-before : (a b n : Name) → name_cmp a b ≡ Less → is_le (name_cmp b n) ≡ true → name_cmp a n ≡ Less
le-before a b n h le =
    by_order (name_cmp b n)
    (λ e. name_cmp-trans a b n h e)
    (λ e. subst (λ m. name_cmp a m ≡ Less) (same_from_name_cmp b n e) h)
    (λ e. (let never : is_le Greater ≡ true = sym (ap is_le e) ∙ le in absurd cc))

not-le : (o : Ordering) → is_le o ≡ false → o ≡ Greater
not-le Less h = absurd cc
not-le Equal h = absurd cc
not-le Greater h = refl

pub last-within : (k m : ℕ) → (k ≡ 0 → ⊥) → k ≤ m → k - 1 < m
last-within zero m some l = absurd (some refl)
last-within (suc k) m some l = omega arith

module _ {T : Type 0} where
  -- the list is empty, or begins behind the name
  abbrev IsBehind : Name → List (Interval T) → Type 0
  IsBehind n [] = ⊤
  IsBehind n (i ∷ is) = name_cmp n (name_of i) ≡ Less

  -- the name comes behind each of the list
  abbrev AreBefore : Name → List (Interval T) → Type 0
  AreBefore n [] = ⊤
  AreBefore n (i ∷ is) = (name_cmp n (name_of i) ≡ Greater) × AreBefore n is

  place-less : (n : Name) (y : Interval T) (ys : List (Interval T)) → name_cmp n (name_of y) ≡ Less → place_of_name n (y ∷ ys) ≡ Err 0
  place-less n y ys h = grind arith

  place-greater : (n : Name) (y : Interval T) (ys : List (Interval T)) → name_cmp n (name_of y) ≡ Greater
      → place_of_name n (y ∷ ys) ≡ next_place (place_of_name n ys)
  place-greater n y ys h = grind arith

  place-left : (n : Name) (xs ys : List (Interval T)) → IsBehind n ys → place_of_name n (xs ++ ys) ≡ place_of_name n xs
  place-left n [] [] b = refl
  place-left n [] (y ∷ ys) b = place-less n y ys b
  place-left n (x ∷ xs) ys b =
      ap (λ r. elim (name_cmp n (name_of x)) as (λ _. Result ℕ ℕ) [ Less ↦ Err 0 | Equal ↦ Ok 0 | Greater ↦ next_place r ]) (place-left n xs ys b)

  place-right : (n : Name) (xs ys : List (Interval T)) → AreBefore n xs → place_of_name n (xs ++ ys) ≡ shifted (length xs) (place_of_name n ys)
  place-right n [] ys b = shifted-zero (place_of_name n ys)
  place-right n (x ∷ xs) ys b =
      place-greater n x (xs ++ ys) b.0 ∙ ap next_place (place-right n xs ys b.1) ∙ shifted-next (length xs) (place_of_name n ys)

  -- ---- parts of rising names

  before-left : (a : Name) (xs ys : List (Interval T)) → IsBeforeNames a (xs ++ ys) → IsBeforeNames a xs
  before-left a [] ys h = tt
  before-left a (x ∷ xs) ys h = (h.0, before-left a xs ys h.1)

  before-right : (a : Name) (xs ys : List (Interval T)) → IsBeforeNames a (xs ++ ys) → IsBeforeNames a ys
  before-right a [] ys h = h
  before-right a (x ∷ xs) ys h = before-right a xs ys h.1

  rise-left : (xs ys : List (Interval T)) → NamesRise (xs ++ ys) → NamesRise xs
  rise-left [] ys r = tt
  rise-left (x ∷ xs) ys r = (before-left (name_of x) xs ys r.0, rise-left xs ys r.1)

  rise-right : (xs ys : List (Interval T)) → NamesRise (xs ++ ys) → NamesRise ys
  rise-right [] ys r = r
  rise-right (x ∷ xs) ys r = rise-right xs ys r.1

  -- the names of a page rise
  pub page-rises : (ps : List (Vec (Interval T))) (j : ℕ) (d : Vec (Interval T)) → j < length ps → NamesRise (from_pages ps) → NamesRise (get_or ps j d).items
  page-rises [] j d l r = absurd (omega arith)
  page-rises (c ∷ ps) zero d l r = rise-left c.items (from_pages ps) r
  page-rises (c ∷ ps) (suc j) d l r = page-rises ps j d (omega arith) (rise-right c.items (from_pages ps) r)

  page-names : (a : Name) (ps : List (Vec (Interval T))) (j : ℕ) (d : Vec (Interval T)) → j < length ps → IsBeforeNames a (from_pages ps)
      → IsBeforeNames a (get_or ps j d).items
  page-names a [] j d l b = absurd (omega arith)
  page-names a (c ∷ ps) zero d l b = before-left a c.items (from_pages ps) b
  page-names a (c ∷ ps) (suc j) d l b = page-names a ps j d (omega arith) (before-right a c.items (from_pages ps) b)

  -- ---- which pages begin behind the name

  by-first : (n a : Name) (ys : List (Interval T)) → IsBeforeNames a ys → begins_by n ys ≡ true → is_le (name_cmp a n) ≡ true
  by-first n a [] b h = absurd cc
  by-first n a (y ∷ ys) b h = ap is_le (le-before a (name_of y) n b.0 h)

  first-by : (n : Name) (xs : List (Interval T)) (ps : List (Vec (Interval T))) (j : ℕ) (d : Vec (Interval T)) → 0 < length xs
      → NamesRise (xs ++ from_pages ps) → j < length ps
      → begins_by n (get_or ps j d).items ≡ true → begins_by n xs ≡ true
  first-by n [] ps j d f r l h = absurd (omega arith)
  first-by n (x ∷ xs) ps j d f r l h =
      by-first n (name_of x) (get_or ps j d).items (page-names (name_of x) ps j d l (before-right (name_of x) xs (from_pages ps) r.0)) h

  abbrev IsFilled : Vec (Interval T) → Type 0
  IsFilled c = 0 < length c.items

  pub partitioned : (n : Name) (ps : List (Vec (Interval T))) → AreFilled ps → NamesRise (from_pages ps)
      → IsPartitionedBy (λ (c : Vec (Interval T)). begins_by n c.items) ps
  partitioned n [] f r i j d le l h = absurd (omega arith)
  partitioned n (c ∷ ps) f r zero zero d le l h = h
  partitioned n (c ∷ ps) f r zero (suc j) d le l h = first-by n c.items ps j d (All-head IsFilled c ps f) r (omega arith) h
  partitioned n (c ∷ ps) f r (suc i) zero d le l h = absurd (omega arith)
  partitioned n (c ∷ ps) f r (suc i) (suc j) d le l h =
      partitioned n ps (All-tail IsFilled c ps f) (rise-right c.items (from_pages ps) r) i j d (omega arith) (omega arith) h

  -- ---- where the name stands

  head-behind : (n : Name) (xs ys : List (Interval T)) → 0 < length xs → begins_by n xs ≡ false → IsBehind n (xs ++ ys)
  head-behind n [] ys f h = absurd (omega arith)
  head-behind n (x ∷ xs) ys f h = name_cmp-turned (name_of x) n (not-le (name_cmp (name_of x) n) h)

  all-behind : (n : Name) (ps : List (Vec (Interval T))) → AreFilled ps
      → ((c : Vec (Interval T)) → 0 < length ps → begins_by n (get_or ps zero c).items ≡ false)
      → IsBehind n (from_pages ps)
  all-behind n [] f h = tt
  all-behind n (c ∷ ps) f h = head-behind n c.items (from_pages ps) (All-head IsFilled c ps f) (h c (omega arith))

  all-before : (n : Name) (xs : List (Interval T)) (y : Interval T) (ys : List (Interval T)) → NamesRise (xs ++ y ∷ ys)
      → is_le (name_cmp (name_of y) n) ≡ true → AreBefore n xs
  all-before n [] y ys r le = tt
  all-before n (x ∷ xs) y ys r le =
      (name_cmp-back (name_of x) n (le-before (name_of x) (name_of y) n (before-right (name_of x) xs (y ∷ ys) r.0).0 le), all-before n xs y ys r.1 le)

  page-before : (n : Name) (xs ys zs : List (Interval T)) → NamesRise (xs ++ (ys ++ zs)) → begins_by n ys ≡ true → AreBefore n xs
  page-before n xs [] zs r h = absurd cc
  page-before n xs (y ∷ ys) zs r h = all-before n xs y (ys ++ zs) r h

  -- where no page begins by the name, it stands in front of all
  pub none-by : (n : Name) (ps : List (Vec (Interval T))) → AreFilled ps → IsCutBy n ps zero → place_of_name n (from_pages ps) ≡ Err 0
  none-by n ps f cut = place-left n [] (from_pages ps) (all-behind n ps f (λ c l. cut.behind zero c (omega arith) l))

  -- else it stands in the last page that does
  pub place-by : (n : Name) (ps : List (Vec (Interval T))) (j : ℕ) (d : Vec (Interval T)) → AreFilled ps → NamesRise (from_pages ps) → IsCutBy n ps (suc j)
      → place_of_name n (from_pages ps) ≡ shifted (count_before j ps) (place_of_name n (get_or ps j d).items)
  place-by n [] j d f r cut = absurd (omega (arith, cut.within))
  place-by n (c ∷ ps) zero d f r cut =
      place-left n c.items (from_pages ps) (all-behind n ps (All-tail IsFilled c ps f)
      (λ e l. cut.behind (suc zero) e (omega arith) (omega (arith, l)))) ∙ shifted-zero (place_of_name n c.items)
  place-by n (c ∷ []) (suc j) d f r cut = absurd (omega (arith, cut.within))
  place-by n (c ∷ e ∷ es) (suc j) d f r cut =
      let rest : List (Vec (Interval T)) = e ∷ es in
      let below : IsCutBy n rest (suc j) =
      record {
        within = omega (arith, cut.within);
        by = λ i x l. cut.by (suc i) x (omega (arith, l));
        behind = λ i x l m. cut.behind (suc i) x (omega (arith, l)) (omega (arith, m));
      } in
      place-right n c.items (from_pages rest) (page-before n c.items e.items (from_pages es) r (cut.by (suc zero) e (omega arith)))
      ∙ ap (λ p. shifted (length c.items) p) (place-by n rest j d (All-tail IsFilled c rest f) (rise-right c.items (from_pages rest) r) below)
      ∙ shifted-shifted (length c.items) (count_before j rest) (place_of_name n (get_or rest j d).items)

  -- what is found in that page stands so much further on in the list
  pub found-by : (n : Name) (ps : List (Vec (Interval T))) (k : ℕ) (d : Vec (Interval T)) (r : Result ℕ ℕ) → (k ≡ 0 → ⊥) → AreFilled ps
      → NamesRise (from_pages ps) → IsCutBy n ps k
      → r ≡ place_of_name n (get_or ps (k - 1) d).items → shifted (count_before (k - 1) ps) r ≡ place_of_name n (from_pages ps)
  found-by n ps zero d r some f rise cut e = absurd (some refl)
  found-by n ps (suc j) d r some f rise cut e =
      let last : j ≡ suc j - 1 = omega arith in
      subst (λ m. r ≡ place_of_name n (get_or ps m d).items → shifted (count_before m ps) r ≡ place_of_name n (from_pages ps)) last
      (λ h. ap (λ p. shifted (count_before j ps) p) h ∙ sym (place-by n ps j d f rise cut)) e
