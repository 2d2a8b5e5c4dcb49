-- Changes of ranges, insertions and maps of a list, in either order.
use Rattle.std.proofs.Common.{◌≡◌, ℕ, zero, suc, Bool, true, false, ◌&&◌, nat_le, List, [], ◌∷◌, ◌++◌, map, refl, sym, ◌∙◌, ap, arith, append-nil}
use Rattle.std.specs.List.{list_all, list_any}
use Rattle.std.proofs.lemmas.List.{map-append}
use Rattle.ft_base.specs.Scan.{len, no_run, put_past, put, retain_map, change_range_from, change_range}
use Rattle.ft_base.proofs.ScanLaws.{put_past-no_run}
use Rattle.ft_laws_agreement.proofs.StageEdits.{change_ranges, ranges_fit}
use Rattle.ft_props.proofs.PlacedInsertion.{len-put}
use Rattle.ft_base.proofs.Booleans.{both}

module _ {A : Type 0} where
  -- a change of a range leaves alone elements that its test doesn't see
  unseen-range : (seen : A → Bool) (i p q : ℕ) (g : A → A) (new xs : List A) → list_any seen new ≡ false
      → change_range_from i seen p q g (new ++ xs) ≡ new ++ change_range_from i seen p q g xs
  unseen-range seen i p q g [] xs h = refl
  unseen-range seen i p q g (y ∷ ys) xs h = grind (arith, unseen-range seen i p q g ys xs)

  module _ (seen past : A → Bool) (p q : ℕ) (g : A → A) (new : List A) (unseen : list_any seen new ≡ false) (same_run : (x : A) → past (g x) ≡ past x) where
    past-range : (i : ℕ) (xs : List A) → put_past past new (change_range_from i seen p q g xs) ≡ change_range_from i seen p q g (put_past past new xs)
    past-range i [] = sym (rw append-nil at (unseen-range seen i p q g new [] unseen))
    past-range i (x ∷ xs) = grind (arith, past-range i xs, past-range (suc i) xs, unseen-range seen i p q g new (x ∷ xs) unseen, same_run x)

    -- an insertion, and a change of a range that doesn't see the new elements
    pub put-range : (place : A → Bool) → ((x : A) → place (g x) ≡ place x) → (n i : ℕ) (xs : List A)
        → put place past n new (change_range_from i seen p q g xs) ≡ change_range_from i seen p q g (put place past n new xs)
    put-range place same zero i xs = past-range i xs
    put-range place same (suc n) i [] = sym (rw append-nil at (unseen-range seen i p q g new [] unseen))
    put-range place same (suc n) i (x ∷ xs) =
        grind (arith, put-range place same n i xs, put-range place same n (suc i) xs, put-range place same (suc n) i xs, put-range place same (suc n) (suc i) xs, same x)

  -- changes of two ranges
  pub range-range : (seen other : A → Bool) (g h : A → A) → ((x : A) → seen (h x) ≡ seen x) → ((x : A) → other (g x) ≡ other x) → ((x : A) → g (h x) ≡ h (g x))
      → (p q i m n j : ℕ) (xs : List A) → change_range_from i seen p q g (change_range_from j other m n h xs) ≡ change_range_from j other m n h (change_range_from i seen p q g xs)
  range-range seen other g h same same' both_ways p q i m n j [] = refl
  range-range seen other g h same same' both_ways p q i m n j (x ∷ xs) =
      grind (
        arith,
        range-range seen other g h same same' both_ways p q i m n j xs,
        range-range seen other g h same same' both_ways p q (suc i) m n j xs,
        range-range seen other g h same same' both_ways p q i m n (suc j) xs,
        range-range seen other g h same same' both_ways p q (suc i) m n (suc j) xs,
        same x,
        same' x,
        both_ways x,
      )

  -- a change that a test doesn't see leaves its length
  pub len-range : (test seen : A → Bool) (g : A → A) → ((x : A) → test (g x) ≡ test x) → (p q i : ℕ) (xs : List A) → len test (change_range_from i seen p q g xs) ≡ len test xs
  len-range test seen g same p q i [] = refl
  len-range test seen g same p q i (x ∷ xs) = grind (arith, len-range test seen g same p q i xs, len-range test seen g same p q (suc i) xs, same x)

  pub all-range : (is seen : A → Bool) (g : A → A) → ((x : A) → is x ≡ true → is (g x) ≡ true) → (p q i : ℕ) (xs : List A) → list_all is xs ≡ true
      → list_all is (change_range_from i seen p q g xs) ≡ true
  all-range is seen g keep p q i [] h = refl
  all-range is seen g keep p q i (x ∷ xs) h = grind (arith, all-range is seen g keep p q i xs, all-range is seen g keep p q (suc i) xs, keep x)

  pub all-retain_map : (keep : A → Bool) (f : A → A) (is : A → Bool) → ((x : A) → keep x ≡ true → is (f x) ≡ true) → (xs : List A) → list_all is (retain_map keep f xs) ≡ true
  all-retain_map keep f is h [] = refl
  all-retain_map keep f is h (x ∷ xs) = grind (arith, all-retain_map keep f is h xs, h x)

  -- a map under which a test sees the same, and a change of a range by it
  module _ (is seen seen' : A → Bool) (f : A → A) (same : (x : A) → is x ≡ true → seen' (f x) ≡ seen x) where
    pub len-map : (xs : List A) → list_all is xs ≡ true → len seen' (map f xs) ≡ len seen xs
    len-map [] h = refl
    len-map (x ∷ xs) h = grind (arith, len-map xs, same x)

    pub range-map : (g g' : A → A) → ((x : A) → is x ≡ true → seen x ≡ true → f (g x) ≡ g' (f x))
        → (p q i : ℕ) (xs : List A) → list_all is xs ≡ true → map f (change_range_from i seen p q g xs) ≡ change_range_from i seen' p q g' (map f xs)
    range-map g g' meet p q i [] h = refl
    range-map g g' meet p q i (x ∷ xs) h = grind (arith, range-map g g' meet p q i xs, range-map g g' meet p q (suc i) xs, same x, meet x)

    past-map : (past : A → Bool) → ((x : A) → is x ≡ true → past (f x) ≡ false) → (new xs : List A) → list_all is xs ≡ true
        → map f (new ++ xs) ≡ put_past past (map f new) (map f xs)
    past-map past none new [] h = ap (map f) (append-nil new)
    past-map past none new (x ∷ xs) h =
        let here : past (f x) ≡ false = none x (both (is x) (list_all is xs) h).0 in
        rw here (map-append f new (x ∷ xs))

    pub put-map : (past : A → Bool) → ((x : A) → is x ≡ true → past (f x) ≡ false) → (n : ℕ) (new xs : List A) → list_all is xs ≡ true
        → map f (put seen no_run n new xs) ≡ put seen' past n (map f new) (map f xs)
    put-map past none zero new xs h = ap (map f) (put_past-no_run new xs) ∙ past-map past none new xs h
    put-map past none (suc n) new [] h = refl
    put-map past none (suc n) new (x ∷ xs) h = grind (arith, put-map past none n new xs, put-map past none (suc n) new xs, same x)

  pub put-ranges : (place seen past : A → Bool) (g : A → A) (new : List A) → list_any seen new ≡ false → ((x : A) → past (g x) ≡ past x) → ((x : A) → place (g x) ≡ place x)
      → (n : ℕ) (ranges : List (ℕ × ℕ)) (xs : List A) → put place past n new (change_ranges seen g ranges xs) ≡ change_ranges seen g ranges (put place past n new xs)
  put-ranges place seen past g new unseen same same' n [] xs = refl
  put-ranges place seen past g new unseen same same' n ((p, q) ∷ ranges) xs =
      put-ranges place seen past g new unseen same same' n ranges (change_range seen p q g xs)
      ∙ ap (change_ranges seen g ranges) (put-range seen past p q g new unseen same place same' n 0 xs)

  pub ranges-range : (seen other : A → Bool) (g h : A → A) → ((x : A) → seen (h x) ≡ seen x) → ((x : A) → other (g x) ≡ other x) → ((x : A) → g (h x) ≡ h (g x))
      → (m n : ℕ) (ranges : List (ℕ × ℕ)) (xs : List A) → change_ranges seen g ranges (change_range other m n h xs) ≡ change_range other m n h (change_ranges seen g ranges xs)
  ranges-range seen other g h same same' both_ways m n [] xs = refl
  ranges-range seen other g h same same' both_ways m n ((p, q) ∷ ranges) xs =
      ap (change_ranges seen g ranges) (range-range seen other g h same same' both_ways p q 0 m n 0 xs)
      ∙ ranges-range seen other g h same same' both_ways m n ranges (change_range seen p q g xs)

  pub ranges-ranges : (seen other : A → Bool) (g h : A → A) → ((x : A) → seen (h x) ≡ seen x) → ((x : A) → other (g x) ≡ other x) → ((x : A) → g (h x) ≡ h (g x))
      → (ranges others : List (ℕ × ℕ)) (xs : List A) → change_ranges seen g ranges (change_ranges other h others xs) ≡ change_ranges other h others (change_ranges seen g ranges xs)
  ranges-ranges seen other g h same same' both_ways ranges [] xs = refl
  ranges-ranges seen other g h same same' both_ways ranges ((m, n) ∷ others) xs =
      ranges-ranges seen other g h same same' both_ways ranges others (change_range other m n h xs)
      ∙ ap (change_ranges other h others) (ranges-range seen other g h same same' both_ways m n ranges xs)

  -- ranges fit as before in another list of the same length, after whose changes the lists are so again
  pub len-ranges : (test seen : A → Bool) (g : A → A) → ((x : A) → test (g x) ≡ test x) → (ranges : List (ℕ × ℕ)) (xs : List A)
      → len test (change_ranges seen g ranges xs) ≡ len test xs
  len-ranges test seen g same [] xs = refl
  len-ranges test seen g same ((p, q) ∷ ranges) xs = len-ranges test seen g same ranges (change_range seen p q g xs) ∙ len-range test seen g same p q 0 xs

  pub fit-range : (seen other : A → Bool) (g h : A → A) → ((x : A) → seen (h x) ≡ seen x) → ((x : A) → other (g x) ≡ other x) → ((x : A) → g (h x) ≡ h (g x))
      → (m n : ℕ) (ranges : List (ℕ × ℕ)) (xs : List A) → ranges_fit seen g ranges (change_range other m n h xs) ≡ ranges_fit seen g ranges xs
  fit-range seen other g h same same' both_ways m n [] xs = refl
  fit-range seen other g h same same' both_ways m n ((p, q) ∷ ranges) xs =
      let here : len seen (change_range other m n h xs) ≡ len seen xs = len-range seen other h same m n 0 xs in
      let later : change_range seen p q g (change_range other m n h xs) ≡ change_range other m n h (change_range seen p q g xs) = range-range seen other g h
      same same' both_ways p q 0 m n 0 xs in
      ap (λ b. nat_le q b && ranges_fit seen g ranges (change_range seen p q g (change_range other m n h xs))) here
      ∙ ap (λ ys. nat_le q (len seen xs) && ranges_fit seen g ranges ys) later
      ∙ ap (λ b. nat_le q (len seen xs) && b) (fit-range seen other g h same same' both_ways m n ranges (change_range seen p q g xs))

  pub fit-ranges : (seen other : A → Bool) (g h : A → A) → ((x : A) → seen (h x) ≡ seen x) → ((x : A) → other (g x) ≡ other x) → ((x : A) → g (h x) ≡ h (g x))
      → (ranges others : List (ℕ × ℕ)) (xs : List A) → ranges_fit seen g ranges (change_ranges other h others xs) ≡ ranges_fit seen g ranges xs
  fit-ranges seen other g h same same' both_ways ranges [] xs = refl
  fit-ranges seen other g h same same' both_ways ranges ((m, n) ∷ others) xs =
      fit-ranges seen other g h same same' both_ways ranges others (change_range other m n h xs) ∙ fit-range seen other g h same same' both_ways m n ranges xs

  pub fit-put : (place seen past : A → Bool) (g : A → A) (new : List A) → list_any seen new ≡ false → ((x : A) → past (g x) ≡ past x) → ((x : A) → place (g x) ≡ place x)
      → (n : ℕ) (ranges : List (ℕ × ℕ)) (xs : List A) → ranges_fit seen g ranges (put place past n new xs) ≡ ranges_fit seen g ranges xs
  fit-put place seen past g new unseen same same' n [] xs = refl
  fit-put place seen past g new unseen same same' n ((p, q) ∷ ranges) xs =
      ap (λ b. nat_le q b && ranges_fit seen g ranges (change_range seen p q g (put place past n new xs))) (len-put seen place past n new xs unseen)
      ∙ ap (λ ys. nat_le q (len seen xs) && ranges_fit seen g ranges ys) (sym (put-range seen past p q g new unseen same place same' n 0 xs))
      ∙ ap (λ b. nat_le q (len seen xs) && b) (fit-put place seen past g new unseen same same' n ranges (change_range seen p q g xs))

  -- a map under which a test sees the same, and changes of ranges
  module _ (is seen seen' : A → Bool) (f g g' : A → A) (same : (x : A) → is x ≡ true → seen' (f x) ≡ seen x)
      (meet : (x : A) → is x ≡ true → seen x ≡ true → f (g x) ≡ g' (f x)) (keep : (x : A) → is x ≡ true → is (g x) ≡ true) where
    pub ranges-map : (ranges : List (ℕ × ℕ)) (xs : List A) → list_all is xs ≡ true → map f (change_ranges seen g ranges xs) ≡ change_ranges seen' g' ranges (map f xs)
    ranges-map [] xs h = refl
    ranges-map ((p, q) ∷ ranges) xs h =
        ranges-map ranges (change_range seen p q g xs) (all-range is seen g keep p q 0 xs h)
        ∙ ap (change_ranges seen' g' ranges) (range-map is seen seen' f same g g' meet p q 0 xs h)

    pub fit-map : (ranges : List (ℕ × ℕ)) (xs : List A) → list_all is xs ≡ true → ranges_fit seen' g' ranges (map f xs) ≡ ranges_fit seen g ranges xs
    fit-map [] xs h = refl
    fit-map ((p, q) ∷ ranges) xs h =
        ap (λ b. nat_le q b && ranges_fit seen' g' ranges (change_range seen' p q g' (map f xs))) (len-map is seen seen' f same xs h)
        ∙ ap (λ ys. nat_le q (len seen xs) && ranges_fit seen' g' ranges ys) (sym (range-map is seen seen' f same g g' meet p q 0 xs h))
        ∙ ap (λ b. nat_le q (len seen xs) && b) (fit-map ranges (change_range seen p q g xs) (all-range is seen g keep p q 0 xs h))
