-- What a stage sees stays seen up to the next stage that removes elements, and so do ends that stand there.
use Rattle.std.proofs.Common.{◌≡◌, ℕ, zero, suc, ◌+◌, ◌-◌, ◌<◌, ◌≤◌, Bool, true, false, cond, not, ◌&&◌, ◌||◌, nat_le, nat_lt, List, [], ◌∷◌, ◌++◌, flat_map, Option, Some, None, option_map, refl, sym, ◌∙◌, ap, subst, arith}
use Rattle.std.specs.Prelude.{⊤}
use Rattle.std.specs.List.{enumerate_from, filter_map, list_any}
use Rattle.std.proofs.lemmas.Bool.Decides.{nat_tests}
use Rattle.ft_base.specs.declared.stamps.Stamp.{Stamp}
use Rattle.ft_base.specs.declared.stamps.Stamp.TheVariants.{Acked, Local}
use Rattle.ft_base.specs.Scan.{at, len, one_more_if}
use Rattle.ft_base.specs.Visibility.{has_occurred_at_stage}
use Rattle.ft_block.specs.declared.leaves.LenView.TheVariants.{Stage}
use Rattle.ft_tree_leaves.specs.Edits.{least_above, lesser, next_removal_above, stage_of}
use Rattle.ft_tree_leaves.specs.Elements.{TreeElement, seen_in}
use Rattle.ft_tree_leaves.specs.declared.text.TextContent.{TextContent}
use Rattle.ft_tree_leaves.specs.Places.{place_at, seen_before}
use Rattle.ft_props.specs.Element.{ElementContent}
use Rattle.ft_refs.specs.declared.numbers.Place.{Place}
use Rattle.ft_tree.specs.State.{TreeState}
use Rattle.ft_interval_store.specs.Numbers.{IsNumber, number_of, until}
use Rattle.ft_interval_store.specs.Shown.{carried_end, settled_end}
use Rattle.ft_interval_store.specs.Standing.{StandsAt, end_place}
use Rattle.ft_interval_store.specs.State.{text_elements}
use Rattle.ft_interval_store.proofs.SettledEnds.{is_ok_at, settled-ok, settled-stays}

-- ---- the least number above another one

-- a number is above m, if there is one
abbrev pub IsBeyond : ℕ → Option ℕ → Type 0
IsBeyond m None = ⊤
IsBeyond m (Some k) = m < k

-- none of the numbers is above a and up to m
abbrev pub AreFree : ℕ → ℕ → List ℕ → Type 0
AreFree a m [] = ⊤
AreFree a m (n ∷ ns) = (a < n → m < n) × AreFree a m ns

pub beyond-lesser : (m n : ℕ) (o : Option ℕ) → m < n → IsBeyond m o → m < lesser n o
beyond-lesser m n None l b = l
beyond-lesser m n (Some q) l b = by (nat_le n q)
  where
    by : (t : Bool) → m < cond t n q
    by true = l
    by false = b

lesser-beyond : (m n : ℕ) (o : Option ℕ) → m < lesser n o → (m < n) × IsBeyond m o
lesser-beyond m n None l = (l, tt)
lesser-beyond m n (Some q) l = by (nat_le n q) refl l
  where
    by : (t : Bool) → nat_le n q ≡ t → m < cond t n q → (m < n) × (m < q)
    by true e l = (l, (let le : n ≤ q = grind (arith, nat_tests, e) in omega (arith, le, l)))
    by false e l = ((let le : q < n = grind (arith, nat_tests, e) in omega (arith, le, l)), l)

pub least-beyond : (a : ℕ) (ns : List ℕ) → IsBeyond a (least_above a ns)
least-beyond a [] = tt
least-beyond a (n ∷ ns) = by (nat_lt a n) refl (least-beyond a ns)
  where
    by : (t : Bool) → nat_lt a n ≡ t → IsBeyond a (least_above a ns) → IsBeyond a (cond t (Some (lesser n (least_above a ns))) (least_above a ns))
    by true e b = (let l : a < n = grind (arith, nat_tests, e) in beyond-lesser a n (least_above a ns) l b)
    by false e b = b

pub free-upto : (a m : ℕ) (ns : List ℕ) → IsBeyond m (least_above a ns) → AreFree a m ns
free-upto a m [] b = tt
free-upto a m (n ∷ ns) b = by (nat_lt a n) refl b (free-upto a m ns)
  where
    by : (t : Bool) → nat_lt a n ≡ t → IsBeyond m (cond t (Some (lesser n (least_above a ns))) (least_above a ns))
        → (IsBeyond m (least_above a ns) → AreFree a m ns) → (a < n → m < n) × AreFree a m ns
    by true e b f = (let both = lesser-beyond m n (least_above a ns) b in ((λ l. both.0), f both.1))
    by false e b f = ((λ l. (let le : n ≤ a = grind (arith, nat_tests, e) in absurd (omega (arith, le, l)))), f b)

free-within : (a m b k : ℕ) (ns : List ℕ) → a ≤ b → k ≤ m → AreFree a m ns → AreFree b k ns
free-within a m b k [] l h f = tt
free-within a m b k (n ∷ ns) l h f =
    ((λ g. (let above : a < n = omega (arith, l, g) in omega (arith, h, f.0 above))), free-within a m b k ns l h f.1)

pub free-append : (a m : ℕ) (xs ys : List ℕ) → AreFree a m (xs ++ ys) → AreFree a m xs × AreFree a m ys
free-append a m [] ys f = (tt, f)
free-append a m (x ∷ xs) ys f = (let rest = free-append a m xs ys f.1 in ((f.0, rest.0), rest.1))

-- ---- what is seen

module _ (a m : ℕ) (rises : a ≤ m) where
  insertion-stays : (t : Stamp) → has_occurred_at_stage a t ≡ true → has_occurred_at_stage m t ≡ true
  insertion-stays (Acked s c) h = refl
  insertion-stays (Local s) h = grind (arith, nat_tests, rises, h)

  unremoved-stays : (ts : List Stamp) → AreFree a m (filter_map stage_of ts) → list_any (has_occurred_at_stage a) ts ≡ false
      → list_any (has_occurred_at_stage m) ts ≡ false
  unremoved-stays [] f h = refl
  unremoved-stays (Acked s c ∷ ts) f h = absurd cc
  unremoved-stays (Local s ∷ ts) f h = by (nat_le s a) refl h (unremoved-stays ts f.1)
    where
      by : (b : Bool) → nat_le s a ≡ b → (b || list_any (has_occurred_at_stage a) ts) ≡ false
          → (list_any (has_occurred_at_stage a) ts ≡ false → list_any (has_occurred_at_stage m) ts ≡ false)
          → (nat_le s m || list_any (has_occurred_at_stage m) ts) ≡ false
      by true e k g = absurd cc
      by false e k g =
          let above : a < s = grind (arith, nat_tests, e) in
          let beyond : m < s = f.0 above in
          let later : nat_le s m ≡ false = grind (arith, nat_tests, beyond) in
          ap (λ b. b || list_any (has_occurred_at_stage m) ts) later ∙ g k

  parts : (x y : Bool) → (x && not y) ≡ true → (x ≡ true) × (y ≡ false)
  parts true true h = absurd cc
  parts true false h = (refl, refl)
  parts false y h = absurd cc

  whole : (x y : Bool) → x ≡ true → y ≡ false → (x && not y) ≡ true
  whole true true h k = absurd cc
  whole true false h k = refl
  whole false y h k = absurd cc

  module _ {U : Type 0} where
    -- the stages of removals
    abbrev removals : List (TreeElement U) → List ℕ
    removals xs = flat_map (λ (e : TreeElement U). filter_map stage_of e.stamps.dels) xs

    element-stays : (e : TreeElement U) → AreFree a m (filter_map stage_of e.stamps.dels) → seen_in (Stage a) e ≡ true → seen_in (Stage m) e ≡ true
    element-stays e f h =
        let both = parts (has_occurred_at_stage a e.stamps.ins) (list_any (has_occurred_at_stage a) e.stamps.dels) h in
        whole (has_occurred_at_stage m e.stamps.ins) (list_any (has_occurred_at_stage m) e.stamps.dels)
        (insertion-stays e.stamps.ins both.0) (unremoved-stays e.stamps.dels f both.1)

    place-stays : (i : ℕ) (xs : List (TreeElement U)) → AreFree a m (removals xs) → is_ok_at (seen_in (Stage a)) i xs ≡ true
        → is_ok_at (seen_in (Stage m)) i xs ≡ true
    place-stays i [] f h = absurd cc
    place-stays zero (x ∷ xs) f h = element-stays x (free-append a m (filter_map stage_of x.stamps.dels) (removals xs) f).0 h
    place-stays (suc i) (x ∷ xs) f h = place-stays i xs (free-append a m (filter_map stage_of x.stamps.dels) (removals xs) f).1 h

    end-stays : (xs : List (TreeElement U)) (end : Option ℕ) → AreFree a m (removals xs) → settled_end xs a end ≡ end → settled_end xs m end ≡ end
    end-stays xs None f h = refl
    end-stays xs (Some i) f h = settled-stays (seen_in (Stage m)) i xs (place-stays i xs f (settled-ok (seen_in (Stage a)) i i xs h))

-- ---- ends that are carried

module _ {U : Type 0} (xs : List (TreeElement U)) where
  abbrev stages : List ℕ
  stages = flat_map (λ (e : TreeElement U). filter_map stage_of e.stamps.dels) xs

  pub carried-none : (k n : ℕ) → carried_end xs k n None ≡ None
  carried-none k zero = refl
  carried-none k (suc n) = carried-none (suc k) n

  carried-free : (n a : ℕ) (end : Option ℕ) → AreFree a (a + n) stages → settled_end xs a end ≡ end → carried_end xs a n end ≡ end
  carried-free zero a end f h = refl
  carried-free (suc n) a end f h =
      let next = end-stays a (suc a) (omega arith) xs end (free-within a (a + suc n) a (suc a) stages (omega arith) (omega arith) f) h in
      ap (λ e. carried_end xs (suc a) n e) next
      ∙ carried-free n (suc a) end (free-within a (a + suc n) (suc a) (suc a + n) stages (omega arith) (omega arith) f) next

  carried-one : (n a : ℕ) (end : Option ℕ) → AreFree a (a + n) stages → settled_end xs a end ≡ end
      → carried_end xs a (suc n) end ≡ settled_end xs (a + suc n) end
  carried-one zero a end f h = (let at : suc a ≡ a + 1 = omega arith in ap (λ k. settled_end xs k end) at)
  carried-one (suc n) a end f h =
      let next = end-stays a (suc a) (omega arith) xs end (free-within a (a + suc n) a (suc a) stages (omega arith) (omega arith) f) h in
      let at : suc a + suc n ≡ a + suc (suc n) = omega arith in
      ap (λ e. carried_end xs (suc a) (suc n) e) next
      ∙ carried-one n (suc a) end (free-within a (a + suc n) (suc a) (suc a + n) stages (omega arith) (omega arith) f) next
      ∙ ap (λ k. settled_end xs k end) at

  pub carried-sum : (n m a : ℕ) (end : Option ℕ) → carried_end xs a (n + m) end ≡ carried_end xs (a + n) m (carried_end xs a n end)
  carried-sum zero m a end =
      let sum : 0 + m ≡ m = omega arith in
      let at : a ≡ a + 0 = omega arith in
      ap (λ k. carried_end xs a k end) sum ∙ ap (λ k. carried_end xs k m end) at
  carried-sum (suc n) m a end =
      let sum : suc n + m ≡ suc (n + m) = omega arith in
      let at : suc a + n ≡ a + suc n = omega arith in
      ap (λ k. carried_end xs a k end) sum ∙ carried-sum n m (suc a) (settled_end xs (suc a) end)
      ∙ ap (λ k. carried_end xs k m (carried_end xs a (suc n) end)) at

  carried-by : (a d k m : ℕ) (end : Option ℕ) → a + suc d ≡ k → k ≤ m → next_removal_above a xs ≡ Some k → settled_end xs a end ≡ end
      → carried_end xs k (m - k) (settled_end xs k end) ≡ carried_end xs a (m - a) end
  carried-by a d k m end at le is h =
      let upto : a + d < k = omega (arith, at) in
      let sum : suc d + (m - k) ≡ m - a = omega (arith, at, le) in
      let free = free-upto a (a + d) stages (subst (λ o. IsBeyond (a + d) o) (sym is) upto) in
      sym (ap (λ j. carried_end xs j (m - k) (settled_end xs j end)) at)
      ∙ sym (ap (λ e. carried_end xs (a + suc d) (m - k) e) (carried-one d a end free h))
      ∙ sym (carried-sum (suc d) (m - k) a end) ∙ ap (λ n. carried_end xs a n end) sum

  -- up to the next stage that removes elements, and on from there
  pub carried-next : (a k m : ℕ) (end : Option ℕ) → k ≤ m → next_removal_above a xs ≡ Some k → settled_end xs a end ≡ end
      → carried_end xs k (m - k) (settled_end xs k end) ≡ carried_end xs a (m - a) end
  carried-next a k m end le is h =
      let above : a < k = subst (λ o. IsBeyond a o) is (least-beyond a stages) in
      carried-by a (k - (a + 1)) k m end (omega (arith, above)) le is h

  -- where no further stage removes elements
  pub carried-last : (a m : ℕ) (end : Option ℕ) → a ≤ m → IsBeyond m (next_removal_above a xs) → settled_end xs a end ≡ end
      → (carried_end xs a (m - a) end ≡ end) × (settled_end xs m end ≡ end)
  carried-last a m end le b h =
      let all : AreFree a m stages = free-upto a m stages b in
      (carried-free (m - a) a end (free-within a m a (a + (m - a)) stages (omega arith) (omega (arith, le)) all) h, end-stays a m le xs end all h)

-- ---- numbers

module _ {A : Type 0} where
  at-past : (seen : A → Bool) (x : A) (xs : List A) (b : Bool) → seen x ≡ b → (q : ℕ) → at seen (one_more_if b q) (x ∷ xs) ≡ at seen q xs
  at-past seen x xs true e q = ap (λ c. at seen (cond c q (suc q)) xs) e
  at-past seen x xs false e zero = ap (λ c. cond c (Some x) (at seen zero xs)) e
  at-past seen x xs false e (suc q) = ap (λ c. at seen (cond c q (suc q)) xs) e

module _ {A : Type 0} where
  number-from : (ok : A → Bool) (i n : ℕ) (xs : List A) → is_ok_at ok i xs ≡ true
      → option_map (λ (x : ℕ × A). x.0) (at (λ (x : ℕ × A). ok x.1) (seen_before ok xs i) (enumerate_from n xs)) ≡ Some (n + i)
  number-from ok i n [] h = absurd cc
  number-from ok zero n (x ∷ xs) h =
      let here : n ≡ n + 0 = omega arith in
      ap (λ b. option_map (λ (y : ℕ × A). y.0) (cond b (Some (n, x)) (at (λ (y : ℕ × A). ok y.1) zero (enumerate_from (n + 1) xs)))) h ∙ ap (λ k. Some k) here
  number-from ok (suc i) n (x ∷ xs) h =
      let next : (n + 1) + i ≡ n + suc i = omega arith in
      ap (option_map (λ (y : ℕ × A). y.0)) (at-past (λ (y : ℕ × A). ok y.1) (n, x) (enumerate_from (n + 1) xs) (ok x) refl (seen_before ok xs i))
      ∙ number-from ok i (n + 1) xs h ∙ ap (λ k. Some k) next

  place-number : (ok : A → Bool) (i : ℕ) (xs : List A) → is_ok_at ok i xs ≡ true → place_at ok (seen_before ok xs i) xs ≡ Some i
  place-number ok i xs h = (let at : 0 + i ≡ i = omega arith in number-from ok i 0 xs h ∙ ap (λ k. Some k) at)

  -- an element that passes has fewer such elements before it than there are
  pub place-below : (ok : A → Bool) (i : ℕ) (xs : List A) → is_ok_at ok i xs ≡ true → seen_before ok xs i < len ok xs
  place-below ok i [] h = absurd cc
  place-below ok zero (x ∷ xs) h = first (ok x) h (len ok xs)
    where
      first : (b : Bool) → b ≡ true → (n : ℕ) → 0 < one_more_if b n
      first true e n = omega arith
      first false e n = absurd cc
  place-below ok (suc i) (x ∷ xs) h = next (ok x) (place-below ok i xs h)
    where
      next : (b : Bool) {m n : ℕ} → m < n → one_more_if b m < one_more_if b n
      next true l = omega (arith, l)
      next false l = l

pub same-number : (p q : ℕ) → Some p ≡ Some q → p ≡ q
same-number p q h = cc

pub some-none : (p : ℕ) (o : Option ℕ) → Some p ≡ o → o ≡ None → ⊥
some-none p o h e = (let no : Some p ≡ None = h ∙ e in absurd cc)

none-some : (p : ℕ) (o : Option ℕ) → None ≡ o → o ≡ Some p → ⊥
none-some p o h e = (let no : None ≡ Some p = h ∙ e in absurd cc)

-- an end that a stage sees, by its number
pub place-end : {U : Type 0} (xs : List (TreeElement U)) (k p : ℕ) (end : Option ℕ) → IsNumber xs k end (Some p) → place_at (seen_in (Stage k)) p xs ≡ end
place-end xs k p None n = absurd (some-none p (number_of xs k None) n.is refl)
place-end xs k p (Some i) n =
    ap (λ q. place_at (seen_in (Stage k)) q xs) (same-number p (seen_before (seen_in (Stage k)) xs i) n.is)
    ∙ place-number (seen_in (Stage k)) i xs (settled-ok (seen_in (Stage k)) i i xs n.seen)

pub number-none : {U : Type 0} (xs : List (TreeElement U)) (k : ℕ) (end : Option ℕ) → IsNumber xs k end None → end ≡ None
number-none xs k None n = refl
number-none xs k (Some i) n = absurd (none-some (seen_before (seen_in (Stage k)) xs i) (number_of xs k (Some i)) n.is refl)

-- ---- the number, if it isn't above m

pub until-some : (m k : ℕ) (o : Option ℕ) → until m o ≡ Some k → (o ≡ Some k) × (k ≤ m)
until-some m k None h = absurd cc
until-some m k (Some j) h = by (nat_le j m) refl h
  where
    by : (t : Bool) → nat_le j m ≡ t → cond t (Some j) None ≡ Some k → (Some j ≡ Some k) × (k ≤ m)
    by true e h = (h, (let same : j ≡ k = same-number j k h in let le : j ≤ m = grind (arith, nat_tests, e) in omega (arith, same, le)))
    by false e h = absurd (none-some k (Some k) h refl)

pub until-none : (m : ℕ) (o : Option ℕ) → until m o ≡ None → IsBeyond m o
until-none m None h = tt
until-none m (Some j) h = by (nat_le j m) refl h
  where
    by : (t : Bool) → nat_le j m ≡ t → cond t (Some j) None ≡ None → m < j
    by true e h = absurd (some-none j None h refl)
    by false e h = grind (arith, nat_tests, e)

-- ---- the steps of the loop

module _ (tree : TreeState TextContent) where
  abbrev all : List (TreeElement ElementContent)
  all = text_elements tree

  -- one stage that removes elements
  pub step-stands : (a k m : ℕ) (end : Option ℕ) (at now : Option Place) → until m (next_removal_above a all) ≡ Some k → StandsAt tree a end at
      → StandsAt tree k (settled_end all k (end_place tree at)) now
      → StandsAt tree k (settled_end all k end) now × (carried_end all k (m - k) (settled_end all k end) ≡ carried_end all a (m - a) end)
  step-stands a k m end at now u s h =
      let both = until-some m k (next_removal_above a all) u in
      (subst (λ e. StandsAt tree k (settled_end all k e) now) s.is h, carried-next all a k m end both.1 both.0 s.seen)

  -- where no further stage does
  pub last-stands : (a m : ℕ) (end : Option ℕ) (at : Option Place) → a ≤ m → until m (next_removal_above a all) ≡ None → StandsAt tree a end at
      → StandsAt tree m (carried_end all a (m - a) end) at
  last-stands a m end at le u s =
      let both = carried-last all a m end le (until-none m (next_removal_above a all) u) s.seen in
      subst (λ e. StandsAt tree m e at) (sym both.0) (record { on_leaf = s.on_leaf; is = s.is; seen = both.1 })

  -- the next stage is above
  pub removal-above : (a k m : ℕ) → until m (next_removal_above a all) ≡ Some k → (a < k) × (k ≤ m)
  removal-above a k m u =
      let both = until-some m k (next_removal_above a all) u in
      (subst (λ o. IsBeyond a o) both.0 (least-beyond a (stages all)), both.1)
