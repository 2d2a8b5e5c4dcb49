-- Lists in which no two elements have one name: what is known of an element by its name, and that each step keeps it.
use Rattle.std.proofs.Common.{◌≡◌, ℕ, zero, suc, ◌+◌, ◌≤◌, ◌<◌, Bool, true, false, cond, not, ◌&&◌, ◌||◌, List, [], ◌∷◌, ◌++◌, Option, None, refl, sym, ◌∙◌, ap, subst, arith, length, nat_le, nat_lt, nat_eq}
use Rattle.std.specs.List.{list_all, list_any}
use Rattle.std.proofs.lemmas.Bool.Decides.{nat_tests}
use Rattle.ft_base.specs.declared.stamps.Stamp.{Stamp}
use Rattle.ft_base.specs.declared.stamps.Stamp.TheVariants.{Acked, Local}
use Rattle.ft_base.specs.Scan.{one_more_if, within, put, put_past, change_range_from, retain_map}
use Rattle.ft_base.specs.Visibility.{is_acked}
use Rattle.ft_base.proofs.Booleans.{both}
use Rattle.ft_props.specs.Properties.{PropertyList}
use Rattle.ft_props.specs.Element.{ListElement, ElementId, ElementContent, SequencedId, same_id, id, id_of_stamp, has_id, is_sequenced, is_pending, seen_by, new_elements}
use Rattle.ft_props.specs.Steps.{Sequence, after_insertion}
use Rattle.ft_laws_agreement.specs.Trimming.{IsNumbered, are_distinct_elements, is_numbered_below}
use Rattle.ft_laws_agreement.proofs.HeldNames.{all-put, all-range}
use Rattle.ft_laws_agreement.proofs.SlidEnds.{same_id-refl, same_id-eq}
use Rattle.ft_props.proofs.RebuiltList.{or_right, any-both}
use Rattle.ft_laws_agreement.proofs.NumberTests.{from_self}

-- two names are apart either way round
pub same_id-apart : (x y : ElementId) → same_id x y ≡ false → same_id y x ≡ false
same_id-apart x y h = step (same_id y x) refl
  where
    step : (b : Bool) → same_id y x ≡ b → b ≡ false
    step true e =
        let p : y ≡ x = same_id-eq y x e in
        cc (ap (same_id x) p, same_id-refl x)
    step false e = refl

module _ {A : Type 0} where
  pub all-weaker : (P Q : A → Bool) → ((x : A) → P x ≡ true → Q x ≡ true) → (xs : List A) → list_all P xs ≡ true → list_all Q xs ≡ true
  all-weaker P Q f [] h = refl
  all-weaker P Q f (x ∷ xs) h = let p = both (P x) (list_all P xs) h in rw (f x p.0, all-weaker P Q f xs p.1) refl

  pub all-but : (P N Q : A → Bool) → ((x : A) → P x ≡ true → N x ≡ false → Q x ≡ true) → (xs : List A) → list_all P xs ≡ true → list_any N xs ≡ false → list_all Q xs ≡ true
  all-but P N Q f [] h k = refl
  all-but P N Q f (x ∷ xs) h k =
      let p = both (P x) (list_all P xs) h in
      rw (f x p.0 (first (N x) (list_any N xs) k), all-but P N Q f xs p.1 (second (N x) (list_any N xs) k)) refl
    where
      first : (a b : Bool) → a || b ≡ false → a ≡ false
      first true b h = (cc)
      first false b h = refl

      second : (a b : Bool) → a || b ≡ false → b ≡ false
      second true b h = (cc)
      second false b h = h

  -- none passes a test that excludes what all pass
  pub none-passes : (P N : A → Bool) → ((x : A) → P x ≡ true → N x ≡ false) → (xs : List A) → list_all P xs ≡ true → list_any N xs ≡ false
  none-passes P N f [] h = refl
  none-passes P N f (x ∷ xs) h = let p = both (P x) (list_all P xs) h in rw (f x p.0) (none-passes P N f xs p.1)

  pub any-less : (P N : A → Bool) → ((x : A) → N x ≡ false → P x ≡ false) → (xs : List A) → list_any N xs ≡ false → list_any P xs ≡ false
  any-less P N f [] h = refl
  any-less P N f (x ∷ xs) h = step (N x) refl h (any-less P N f xs)
    where
      step : (b : Bool) → N x ≡ b → b || list_any N xs ≡ false → (list_any N xs ≡ false → list_any P xs ≡ false) → list_any P (x ∷ xs) ≡ false
      step true e k g = (cc)
      step false e k g = rw (f x e) (g k)

-- whether an element of that name passes the test
abbrev pub has_named : (ListElement → Bool) → List ListElement → ElementId → Bool
has_named test xs x = list_any (λ e. has_id x e && test e) xs

-- an element that passes has a name of one that does
pub own-named : (test : ListElement → Bool) (xs : List ListElement) → list_all (λ e. not (test e) || has_named test xs (id e)) xs ≡ true
own-named test [] = refl
own-named test (y ∷ xs) =
    rw (
      here (test y) (list_any (λ e. has_id (id y) e && test e) xs),
      all-weaker (λ e. not (test e) || has_named test xs (id e)) (λ e. not (test e) || has_named test (y ∷ xs) (id e))
          (λ e h. later (not (test e)) (has_id (id e) y && test y) (has_named test xs (id e)) h) xs (own-named test xs),
    ) refl
  where
    here : (b c : Bool) → not b || ((same_id (id y) (id y) && b) || c) ≡ true
    here true c = rw (same_id-refl (id y)) refl
    here false c = refl

    later : (a b c : Bool) → a || c ≡ true → a || (b || c) ≡ true
    later true b c h = refl
    later false b c h = or_right b c h

-- where names are distinct, one that doesn't pass has no name of one that does
pub other-named : (test : ListElement → Bool) (xs : List ListElement) → are_distinct_elements xs ≡ true → list_all (λ e. test e || not (has_named test xs (id e))) xs ≡ true
other-named test [] h = refl
other-named test (y ∷ xs) h =
    let p = both (not (list_any (has_id (id y)) xs)) (are_distinct_elements xs) h in
    let q : list_any (has_id (id y)) xs ≡ false = negated (list_any (has_id (id y)) xs) p.0 in
    rw (
      here (test y) (has_named test xs (id y)) (any-less (λ e. has_id (id y) e && test e) (has_id (id y)) (λ e k. ap (λ b. b && test e) k) xs q),
      all-but (λ e. test e || not (has_named test xs (id e))) (has_id (id y)) (λ e. test e || not (has_named test (y ∷ xs) (id e)))
          (λ e k n. rw (same_id-apart (id y) (id e) n) k) xs (other-named test xs p.1) q,
    ) refl
  where
    negated : (b : Bool) → not b ≡ true → b ≡ false
    negated true h = (cc)
    negated false h = refl

    here : (b c : Bool) → c ≡ false → b || not ((same_id (id y) (id y) && b) || c) ≡ true
    here true c e = refl
    here false c e = rw (e, both-ways (same_id (id y) (id y))) refl
      where
        both-ways : (d : Bool) → d && false ≡ false
        both-ways true = refl
        both-ways false = refl

-- a test of names that all who pass another have
pub named-passes : (test held : ListElement → Bool) (has : ElementId → Bool) → ((e : ListElement) → held e ≡ true → test e ≡ true → has (id e) ≡ true)
    → (x : ElementId) (xs : List ListElement)
    → list_all held xs ≡ true → has_named test xs x ≡ true → has x ≡ true
named-passes test held has f x [] h k = (cc)
named-passes test held has f x (y ∷ xs) h k =
    let p = both (held y) (list_all held xs) h in
    step (same_id x (id y)) (test y) refl refl k p.0 (named-passes test held has f x xs p.1)
  where
    step : (a b : Bool) → same_id x (id y) ≡ a → test y ≡ b → (a && b) || has_named test xs x ≡ true → held y ≡ true → (has_named test xs x ≡ true → has x ≡ true) → has x ≡ true
    step true true e t k g r = let q : x ≡ id y = same_id-eq x (id y) e in subst (λ i. has i ≡ true) (sym q) (f y g t)
    step true false e t k g r = r k
    step false b e t k g r = r k

-- ---- numbers

-- whether the element is sequenced, with a number from n on
abbrev is_numbered_from : ℕ → ListElement → Bool
is_numbered_from n e = is_sequenced e && nat_le n e.nth

numbers-apart : (n i j : ℕ) → nat_lt i n ≡ true → nat_le n j ≡ true → nat_eq i j ≡ false
numbers-apart n i j h k = grind (arith, nat_tests)

sequenced-id : (e : ListElement) → is_sequenced e ≡ true → id e ≡ SequencedId e.nth
sequenced-id e h = named e.ins h
  where
    named : (t : Stamp) → is_acked t ≡ true → id_of_stamp t e.nth ≡ SequencedId e.nth
    named (Acked s c) h = refl
    named (Local k) h = (cc)

-- an old element and a new one have two names
names-apart : (n : ℕ) (e d : ListElement) → is_numbered_below n e ≡ true → is_numbered_from n d ≡ true → same_id (id e) (id d) ≡ false
names-apart n e d h k =
    let p = both (is_sequenced e) (nat_lt e.nth n) h in
    let q = both (is_sequenced d) (nat_le n d.nth) k in
    rw (sequenced-id e p.0, sequenced-id d q.0) (numbers-apart n e.nth d.nth p.1 q.1)

pub new-named : (n m : ℕ) (xs : List ListElement) → list_all (is_numbered_below n) xs ≡ true → n ≤ m → list_any (has_id (SequencedId m)) xs ≡ false
new-named n m xs h l =
    none-passes (is_numbered_below n) (has_id (SequencedId m)) (λ e k. let p = both (is_sequenced e) (nat_lt e.nth n) k in rw (sequenced-id e p.0) (apart e.nth p.1)) xs h
  where
    apart : (i : ℕ) → nat_lt i n ≡ true → nat_eq m i ≡ false
    apart i k = grind (arith, nat_tests)

more_below : (n m : ℕ) (e : ListElement) → n ≤ m → is_numbered_below n e ≡ true → is_numbered_below m e ≡ true
more_below n m e l h = let p = both (is_sequenced e) (nat_lt e.nth n) h in rw (p.0, more e.nth p.1) refl
  where
    more : (i : ℕ) → nat_lt i n ≡ true → nat_lt i m ≡ true
    more i k = grind (arith, nat_tests)

below_next : (n m : ℕ) → n < m → nat_lt n m ≡ true
below_next n m l = grind (arith, nat_tests)

new-below : (n m s c : ℕ) (by : Option Stamp) (props : PropertyList) (bs : List ElementContent) → n + length bs ≤ m
    → list_all (is_numbered_below m) (new_elements n (Acked s c) [] by props bs) ≡ true
new-below n m s c by props [] l = refl
new-below n m s c by props (b ∷ bs) l = rw (below_next n m (omega arith), new-below (n + 1) m s c by props bs (omega arith)) refl

new-from : (k n s c : ℕ) (by : Option Stamp) (props : PropertyList) (bs : List ElementContent) → k ≤ n
    → list_all (is_numbered_from k) (new_elements n (Acked s c) [] by props bs) ≡ true
new-from k n s c by props [] l = refl
new-from k n s c by props (b ∷ bs) l = rw (from_self k n l, new-from k (n + 1) s c by props bs (omega arith)) refl

-- an old name is none of the new ones
old-apart : (n : ℕ) (e : ListElement) (new : List ListElement) → is_numbered_below n e ≡ true → list_all (is_numbered_from n) new ≡ true → list_any (has_id (id e)) new ≡ false
old-apart n e new h k = none-passes (is_numbered_from n) (has_id (id e)) (λ d l. names-apart n e d h l) new k

new-apart : (n : ℕ) (d : ListElement) (xs : List ListElement) → is_numbered_from n d ≡ true → list_all (is_numbered_below n) xs ≡ true → list_any (has_id (id d)) xs ≡ false
new-apart n d xs h k = none-passes (is_numbered_below n) (has_id (id d)) (λ e l. same_id-apart (id e) (id d) (names-apart n e d l h)) xs k

new-distinct : (n s c : ℕ) (by : Option Stamp) (props : PropertyList) (bs : List ElementContent) → are_distinct_elements (new_elements n (Acked s c) [] by props bs) ≡ true
new-distinct n s c by props [] = refl
new-distinct n s c by props (b ∷ bs) =
    let e : ListElement = record { nth = n; content = b; ins = Acked s c; dels = []; removal_stage = None; by = by; props = props; pending = [] } in
    let apart : list_any (has_id (id e)) (new_elements (n + 1) (Acked s c) [] by props bs) ≡ false =
    old-apart (n + 1) e (new_elements (n + 1) (Acked s c) [] by props bs) (rw (below_next n (n + 1) (omega arith)) refl) (new-from (n + 1) (n + 1) s c by props bs (omega arith)) in
    rw (apart, new-distinct (n + 1) s c by props bs) refl

any-put_past : {A : Type 0} (is past : A → Bool) (new xs : List A) → list_any is new ≡ false → list_any is xs ≡ false → list_any is (put_past past new xs) ≡ false
any-put_past is past new [] g h = g
any-put_past is past new (x ∷ xs) g h = grind (arith, any-put_past is past new xs, any-both is new (x ∷ xs))

-- what passes neither in the new elements nor in the list passes nowhere after the insertion
pub any-put : {A : Type 0} (is seen past : A → Bool) (p : ℕ) (new xs : List A) → list_any is new ≡ false → list_any is xs ≡ false → list_any is (put seen past p new xs) ≡ false
any-put is seen past zero new xs g h = any-put_past is past new xs g h
any-put is seen past (suc p) new [] g h = g
any-put is seen past (suc p) new (x ∷ xs) g h = grind (arith, any-put is seen past p new xs, any-put is seen past (suc p) new xs)

module _ (n : ℕ) where
  distinct-append : (new xs : List ListElement) → are_distinct_elements new ≡ true → list_all (is_numbered_from n) new ≡ true → are_distinct_elements xs ≡ true
      → list_all (is_numbered_below n) xs ≡ true → are_distinct_elements (new ++ xs) ≡ true
  distinct-append [] xs d f e b = e
  distinct-append (y ∷ new) xs d f e b =
      let p = both (not (list_any (has_id (id y)) new)) (are_distinct_elements new) d in
      let q = both (is_numbered_from n y) (list_all (is_numbered_from n) new) f in
      rw (any-both (has_id (id y)) new xs (negated (list_any (has_id (id y)) new) p.0) (new-apart n y xs q.0 b), distinct-append new xs p.1 q.1 e b) refl
    where
      negated : (b : Bool) → not b ≡ true → b ≡ false
      negated true h = (cc)
      negated false h = refl

  module _ (past : ListElement → Bool) (new : List ListElement) (d : are_distinct_elements new ≡ true) (f : list_all (is_numbered_from n) new ≡ true) where
    negated : (b : Bool) → not b ≡ true → b ≡ false
    negated true h = (cc)
    negated false h = refl

    distinct-put_past : (xs : List ListElement) → are_distinct_elements xs ≡ true → list_all (is_numbered_below n) xs ≡ true → are_distinct_elements (put_past past new xs) ≡ true
    distinct-put_past [] e b = d
    distinct-put_past (x ∷ xs) e b =
        let p = both (not (list_any (has_id (id x)) xs)) (are_distinct_elements xs) e in
        let q = both (is_numbered_below n x) (list_all (is_numbered_below n) xs) b in
        chosen (past x)
        (rw (any-put_past (has_id (id x)) past new xs (old-apart n x new q.0 f) (negated (list_any (has_id (id x)) xs) p.0), distinct-put_past xs p.1 q.1) refl)
        (distinct-append new (x ∷ xs) d f e b)
      where
        chosen : (c : Bool) → are_distinct_elements (x ∷ put_past past new xs) ≡ true → are_distinct_elements (new ++ (x ∷ xs)) ≡ true
            → are_distinct_elements (cond c (x ∷ put_past past new xs) (new ++ (x ∷ xs))) ≡ true
        chosen true g h = g
        chosen false g h = h

    distinct-put : (seen : ListElement → Bool) (p : ℕ) (xs : List ListElement) → are_distinct_elements xs ≡ true → list_all (is_numbered_below n) xs ≡ true
        → are_distinct_elements (put seen past p new xs) ≡ true
    distinct-put seen zero xs e b = distinct-put_past xs e b
    distinct-put seen (suc p) [] e b = d
    distinct-put seen (suc p) (x ∷ xs) e b =
        let r = both (not (list_any (has_id (id x)) xs)) (are_distinct_elements xs) e in
        let q = both (is_numbered_below n x) (list_all (is_numbered_below n) xs) b in
        rw (
          any-put (has_id (id x)) seen past (cond (seen x) p (suc p)) new xs (old-apart n x new q.0 f) (negated (list_any (has_id (id x)) xs) r.0),
          distinct-put seen (cond (seen x) p (suc p)) xs r.1 q.1,
        ) refl

-- a sequenced insertion keeps names apart
pub insertion-numbered : (s c r p : ℕ) (by : Option Stamp) (props : PropertyList) (bs : List ElementContent) (list : Sequence) → IsNumbered list
    → IsNumbered (after_insertion s c r p by props bs list)
insertion-numbered s c r p by props bs list h =
    let new = new_elements list.made (Acked s c) [] by props bs in
    let m = list.made + length bs in
    record {
      below = all-put (is_numbered_below m) (seen_by r c) is_pending p new list.items (new-below list.made m s c by props bs (omega arith))
          (all-weaker (is_numbered_below list.made) (is_numbered_below m) (λ e k. more_below list.made m e (omega arith) k) list.items h.below);
      distinct = distinct-put list.made is_pending new (new-distinct list.made s c by props bs) (new-from list.made list.made s c by props bs (omega arith))
          (seen_by r c) p list.items h.distinct h.below;
    }

module _ (test : ListElement → Bool) (f : ListElement → ListElement) (name : (e : ListElement) → id (f e) ≡ id e) (nth : (e : ListElement) → (f e).nth ≡ e.nth)
    (ins : (e : ListElement) → (f e).ins ≡ e.ins) where
  changed-id : (b : Bool) (e : ListElement) → id (cond b (f e) e) ≡ id e
  changed-id true e = name e
  changed-id false e = refl

  -- marks keep names
  pub range-named : (x : ElementId) (i p q : ℕ) (xs : List ListElement) → list_any (has_id x) (change_range_from i test p q f xs) ≡ list_any (has_id x) xs
  range-named x i p q [] = refl
  range-named x i p q (e ∷ xs) = rw (changed-id (test e && within p q i) e, range-named x (one_more_if (test e) i) p q xs) refl

  range-distinct : (i p q : ℕ) (xs : List ListElement) → are_distinct_elements (change_range_from i test p q f xs) ≡ are_distinct_elements xs
  range-distinct i p q [] = refl
  range-distinct i p q (e ∷ xs) = rw (
    changed-id (test e && within p q i) e,
    range-named (id e) (one_more_if (test e) i) p q xs,
    range-distinct
        (one_more_if (test e) i) p q xs,
  ) refl

  pub range-numbered : (p q : ℕ) (list : Sequence) → IsNumbered list → IsNumbered (record list { items = change_range_from 0 test p q f list.items })
  range-numbered p q list h = record {
    below = all-range (is_numbered_below list.made) test f (λ e k. rw (ins e, nth e) k) 0 p q list.items h.below;
    distinct = range-distinct 0 p q list.items ∙ h.distinct;
  }

-- and so does leaving elements out
pub retain_map-numbered : (keep : ListElement → Bool) (f : ListElement → ListElement) → ((e : ListElement) → id (f e) ≡ id e) → (n : ℕ)
    → ((e : ListElement) → is_numbered_below n e ≡ true → is_numbered_below n (f e) ≡ true) → (list : Sequence) → n ≡ list.made → IsNumbered list
    → IsNumbered (record list { items = retain_map keep f list.items })
retain_map-numbered keep f name n kept list e h = record {
  below = subst (λ m. list_all (is_numbered_below m) (retain_map keep f list.items) ≡ true) e
      (below list.items (subst (λ m. list_all (is_numbered_below m) list.items ≡ true) (sym e) h.below));
  distinct = distinct list.items h.distinct;
}
  where
    negated : (b : Bool) → not b ≡ true → b ≡ false
    negated true h = (cc)
    negated false h = refl

    below : (xs : List ListElement) → list_all (is_numbered_below n) xs ≡ true → list_all (is_numbered_below n) (retain_map keep f xs) ≡ true
    below [] h = refl
    below (x ∷ xs) h = let p = both (is_numbered_below n x) (list_all (is_numbered_below n) xs) h in step (keep x) (kept x p.0) (below xs p.1)
      where
        step : (b : Bool) → is_numbered_below n (f x) ≡ true → list_all (is_numbered_below n) (retain_map keep f xs) ≡ true
            → list_all (is_numbered_below n) (cond b (f x ∷ retain_map keep f xs) (retain_map keep f xs)) ≡ true
        step true g k = rw (g, k) refl
        step false g k = k

    absent : (x : ElementId) (xs : List ListElement) → list_any (has_id x) xs ≡ false → list_any (has_id x) (retain_map keep f xs) ≡ false
    absent x [] h = refl
    absent x (y ∷ xs) h = step (keep y) (same_id x (id y)) refl h (absent x xs)
      where
        step : (b c : Bool) → same_id x (id y) ≡ c → c || list_any (has_id x) xs ≡ false
            → (list_any (has_id x) xs ≡ false → list_any (has_id x) (retain_map keep f xs) ≡ false)
            → list_any (has_id x) (cond b (f y ∷ retain_map keep f xs) (retain_map keep f xs)) ≡ false
        step b true e h g = (cc)
        step true false e h g = rw (name y, e) (g h)
        step false false e h g = g h

    distinct : (xs : List ListElement) → are_distinct_elements xs ≡ true → are_distinct_elements (retain_map keep f xs) ≡ true
    distinct [] h = refl
    distinct (y ∷ xs) h =
        let p = both (not (list_any (has_id (id y)) xs)) (are_distinct_elements xs) h in
        step (keep y) (absent (id y) xs (negated (list_any (has_id (id y)) xs) p.0)) (distinct xs p.1)
      where
        step : (b : Bool) → list_any (has_id (id y)) (retain_map keep f xs) ≡ false → are_distinct_elements (retain_map keep f xs) ≡ true
            → are_distinct_elements (cond b (f y ∷ retain_map keep f xs) (retain_map keep f xs)) ≡ true
        step true g k = rw (name y, g, k) refl
        step false g k = k
