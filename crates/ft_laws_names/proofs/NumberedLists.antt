-- Each step keeps the names of a list well numbered.
use Rattle.std.proofs.Common.{◌≡◌, ℕ, suc, ◌+◌, ◌≤◌, ◌<◌, Bool, true, false, ◌&&◌, nat_eq, nat_lt, List, [], ◌∷◌, Option, None, refl, sym, ◌∙◌, ap, subst, length, arith}
use Rattle.std.proofs.lemmas.Bool.Decides.{nat_tests}
use Rattle.ft_base.specs.declared.stamps.Stamp.{Stamp}
use Rattle.ft_base.specs.declared.stamps.Stamp.TheVariants.{Acked, Local}
use Rattle.ft_base.specs.Scan.{change_range_from, len, one_more_if, put}
use Rattle.ft_base.specs.Visibility.{is_of_stage}
use Rattle.ft_props.specs.Properties.{PropertyList}
use Rattle.ft_props.specs.Element.{ElementContent, ElementId, ListElement, PendingId, SequencedId, has_id, id, id_of_stamp, new_elements, same_id}
use Rattle.ft_props.specs.Steps.{Sequence, is_inserted_by}
use Rattle.ft_laws_agreement.proofs.AgreedStage.{len-put-add}
use Rattle.ft_laws_agreement.proofs.RangesOfLists.{len-range}
use Rattle.ft_laws_names.specs.WellNamed.{IsWellNumbered, has_odd_removal}

-- ---- new elements

module _ (by : Option Stamp) (props : PropertyList) where
  -- a name that none of them has
  pub none-new : (t : Stamp) (a : ElementId) (n : ℕ) → ((m : ℕ) → n ≤ m → same_id a (id_of_stamp t m) ≡ false) → (bs : List ElementContent)
      → len (has_id a) (new_elements n t [] by props bs) ≡ 0
  none-new t a n h [] = refl
  none-new t a n h (b ∷ bs) = rw (h n (omega arith)) (none-new t a (n + 1) (λ m l. h m (omega arith)) bs)

  -- each has its own
  pub once-new : (t : Stamp) (a : ElementId) → ((i j : ℕ) → same_id a (id_of_stamp t i) ≡ true → suc i ≤ j → same_id a (id_of_stamp t j) ≡ false)
      → (n : ℕ) (bs : List ElementContent) → len (has_id a) (new_elements n t [] by props bs) ≤ 1
  once-new t a apart n [] = omega arith
  once-new t a apart n (b ∷ bs) = step (same_id a (id_of_stamp t n)) refl (once-new t a apart (n + 1) bs)
    where
      step : (b : Bool) → same_id a (id_of_stamp t n) ≡ b → len (has_id a) (new_elements (n + 1) t [] by props bs) ≤ 1
          → one_more_if b (len (has_id a) (new_elements (n + 1) t [] by props bs)) ≤ 1
      step true e ih = subst (λ i. suc i ≤ 1) (sym (none-new t a (n + 1) (λ m l. apart n m e (omega arith)) bs)) (omega arith)
      step false e ih = ih

  pub new-stage : (t : Stamp) (k : ℕ) → is_of_stage k t ≡ false → (n : ℕ) (bs : List ElementContent) → len (is_inserted_by k) (new_elements n t [] by props bs) ≡ 0
  new-stage t k h n [] = refl
  new-stage t k h n (b ∷ bs) = rw h (new-stage t k h (n + 1) bs)

  pub new-count : (t : Stamp) (k : ℕ) → is_of_stage k t ≡ true → (n : ℕ) (bs : List ElementContent) → len (is_inserted_by k) (new_elements n t [] by props bs) ≡ length bs
  new-count t k h n [] = refl
  new-count t k h n (b ∷ bs) = rw h (ap suc (new-count t k h (n + 1) bs))

  -- numbers from n up to before n and their count
  pub none-behind : (t : Stamp) (a : ElementId) (m : ℕ) → ((i : ℕ) → suc i ≤ m → same_id a (id_of_stamp t i) ≡ false) → (n : ℕ) (bs : List ElementContent)
      → n + length bs ≤ m → len (has_id a) (new_elements n t [] by props bs) ≡ 0
  none-behind t a m h n [] l = refl
  none-behind t a m h n (b ∷ bs) l = rw (h n (omega arith)) (none-behind t a m h (n + 1) bs (omega arith))

  pub new-removals : (t : Stamp) (n : ℕ) (bs : List ElementContent) → len has_odd_removal (new_elements n t [] by props bs) ≡ 0
  new-removals t n [] = refl
  new-removals t n (b ∷ bs) = new-removals t (n + 1) bs

apart-numbers : (i j n : ℕ) → nat_eq n i ≡ true → suc i ≤ j → nat_eq n j ≡ false
apart-numbers i j n h l = grind (arith, nat_tests)

other-number : (i n : ℕ) → suc i ≤ n → nat_eq n i ≡ false
other-number i n l = grind (arith, nat_tests)

number-other : (i n : ℕ) → suc i ≤ n → nat_eq i n ≡ false
number-other i n l = grind (arith, nat_tests)

apart-acked : (s c : ℕ) (a : ElementId) (i j : ℕ) → same_id a (id_of_stamp (Acked s c) i) ≡ true → suc i ≤ j → same_id a (id_of_stamp (Acked s c) j) ≡ false
apart-acked s c (SequencedId n) i j h l = apart-numbers i j n h l
apart-acked s c (PendingId k n) i j h l = refl

and-parts : (a b : Bool) → a && b ≡ true → (a ≡ true) × (b ≡ true)
and-parts true b h = (refl, h)
and-parts false b h = (cc)

never : (b : Bool) → b && false ≡ false
never true = refl
never false = refl

apart-pending : (k : ℕ) (a : ElementId) (i j : ℕ) → same_id a (id_of_stamp (Local k) i) ≡ true → suc i ≤ j → same_id a (id_of_stamp (Local k) j) ≡ false
apart-pending k (SequencedId n) i j h l = refl
apart-pending k (PendingId m n) i j h l = ap (λ b. nat_eq m k && b) (apart-numbers i j n (and-parts (nat_eq m k) (nat_eq n i) h).1 l) ∙ never (nat_eq m k)

-- ---- steps

none-both : (m n : ℕ) → m ≡ 0 → n ≡ 0 → m + n ≡ 0
none-both m n p q = omega arith

-- an insertion
abbrev put_in : (ListElement → Bool) → (ListElement → Bool) → ℕ → List ListElement → List ListElement → List ListElement
put_in test past p new xs = put test past p new xs

pub inserted-numbered : (last s c p : ℕ) (test past : ListElement → Bool) (by : Option Stamp) (props : PropertyList) (bs : List ElementContent)
    (list : Sequence) → IsWellNumbered last list
    → IsWellNumbered last (record { items = put test past p (new_elements list.made (Acked s c) [] by props bs) list.items; made = list.made + length bs })
inserted-numbered last s c p test past by props bs list h = record {
  once = λ a. once a;
  below = λ n l. len-put-add (has_id (SequencedId n)) test past p new list.items
      ∙ none-both _ _ (none-behind by props (Acked s c) (SequencedId n) n (λ i g. other-number i n g) list.made bs l) (h.below n (omega arith));
  counted = λ k n l. (let e = len-put-add (is_inserted_by k) test past p new list.items in len-put-add (has_id (PendingId k n)) test past p new list.items
      ∙ none-both _ _ (none-new by props (Acked s c) (PendingId k n) list.made (λ m g. refl) bs) (h.counted k n (omega arith)));
  stages = λ k l. len-put-add (is_inserted_by k) test past p new list.items ∙ none-both _ _ (new-stage by props (Acked s c) k refl list.made bs) (h.stages k l);
  removals = len-put-add has_odd_removal test past p new list.items ∙ none-both _ _ (new-removals by props (Acked s c) list.made bs) h.removals;
}
  where
    new : List ListElement
    new = new_elements list.made (Acked s c) [] by props bs

    sum : (m n : ℕ) → m ≤ 1 → n ≡ 0 → m + n ≤ 1
    sum m n l e = omega arith

    sum-other : (m n : ℕ) → m ≡ 0 → n ≤ 1 → m + n ≤ 1
    sum-other m n e l = omega arith

    name : (a : ElementId) → len (has_id a) new + len (has_id a) list.items ≤ 1
    name (PendingId k n) = sum-other _ _ (none-new by props (Acked s c) (PendingId k n) list.made (λ m g. refl) bs) (h.once (PendingId k n))
    name (SequencedId n) = number (nat_lt n list.made) refl
      where
        number : (b : Bool) → nat_lt n list.made ≡ b → len (has_id (SequencedId n)) new + len (has_id (SequencedId n)) list.items ≤ 1
        number true e = sum-other _ _ (none-new by props (Acked s c) (SequencedId n) list.made (λ m g. lower m e g) bs) (h.once (SequencedId n))
          where
            lower : (m : ℕ) → nat_lt n list.made ≡ true → list.made ≤ m → nat_eq n m ≡ false
            lower m e g = grind (arith, nat_tests)
        number false e = sum _ _ (once-new by props (Acked s c) (SequencedId n) (λ i j g l. apart-acked s c (SequencedId n) i j g l) list.made bs) (h.below n higher)
          where
            higher : list.made ≤ n
            higher = grind (arith, nat_tests)

    once : (a : ElementId) → len (has_id a) (put test past p new list.items) ≤ 1
    once a = subst (λ n. n ≤ 1) (sym (len-put-add (has_id a) test past p new list.items)) (name a)

-- a change of elements that keeps their names and sequenced removals
pub record KeepsNames (f : ListElement → ListElement) : Type 0 where
  pub ins : (e : ListElement) → (f e).ins ≡ e.ins
  pub nth : (e : ListElement) → (f e).nth ≡ e.nth
  pub removals : (e : ListElement) → has_odd_removal (f e) ≡ has_odd_removal e

pub kept-id : (f : ListElement → ListElement) → KeepsNames f → (e : ListElement) → id (f e) ≡ id e
kept-id f k e = ap (λ t. id_of_stamp t (f e).nth) (k.ins e) ∙ ap (id_of_stamp e.ins) (k.nth e)

pub ranged-numbered : (last i p q made : ℕ) (test : ListElement → Bool) (f : ListElement → ListElement) → KeepsNames f → (xs : List ListElement)
    → IsWellNumbered last (record { items = xs; made = made })
    → IsWellNumbered last (record { items = change_range_from i test p q f xs; made = made })
ranged-numbered last i p q made test f k xs h = record {
  once = λ a. subst (λ n. n ≤ 1) (sym (names a)) (h.once a);
  below = λ n l. names (SequencedId n) ∙ h.below n l;
  counted = λ j n l. names (PendingId j n) ∙ h.counted j n (subst (λ m. m ≤ n) (count j) l);
  stages = λ j l. count j ∙ h.stages j l;
  removals = len-range has_odd_removal test f (λ e. k.removals e) p q i xs ∙ h.removals;
}
  where
    names : (a : ElementId) → len (has_id a) (change_range_from i test p q f xs) ≡ len (has_id a) xs
    names a = len-range (has_id a) test f (λ e. ap (same_id a) (kept-id f k e)) p q i xs

    count : (j : ℕ) → len (is_inserted_by j) (change_range_from i test p q f xs) ≡ len (is_inserted_by j) xs
    count j = len-range (is_inserted_by j) test f (λ e. ap (is_of_stage j) (k.ins e)) p q i xs

-- a higher last stage
pub later-numbered : (last more : ℕ) (list : Sequence) → last ≤ more → IsWellNumbered last list → IsWellNumbered more list
later-numbered last more list l h = record { once = h.once; below = h.below; counted = h.counted; stages = λ k g. h.stages k (omega arith); removals = h.removals }

-- a local insertion at the next stage
pub local-numbered : (last p : ℕ) (test past : ListElement → Bool) (props : PropertyList) (bs : List ElementContent) (list : Sequence) → IsWellNumbered last list
    → IsWellNumbered (last + 1) (record { items = put test past p (new_elements 0 (Local (last + 1)) [] None props bs) list.items; made = list.made })
local-numbered last p test past props bs list h = record {
  once = λ a. subst (λ n. n ≤ 1) (sym (len-put-add (has_id a) test past p new list.items)) (name a);
  below = λ n l. len-put-add (has_id (SequencedId n)) test past p new list.items
      ∙ none-both _ _ (none-new None props (Local (last + 1)) (SequencedId n) 0 (λ m g. refl) bs) (h.below n l);
  counted = λ k n l. len-put-add (has_id (PendingId k n)) test past p new list.items
      ∙ counted k n (subst (λ m. m ≤ n) (len-put-add (is_inserted_by k) test past p new list.items) l);
  stages = λ k l. len-put-add (is_inserted_by k) test past p new list.items ∙ none-both _ _ (new-stage None props (Local (last + 1)) k (above k l) 0 bs) (h.stages k (omega arith));
  removals = len-put-add has_odd_removal test past p new list.items ∙ none-both _ _ (new-removals None props (Local (last + 1)) 0 bs) h.removals;
}
  where
    new : List ListElement
    new = new_elements 0 (Local (last + 1)) [] None props bs

    above : (k : ℕ) → last + 1 < k → nat_eq (last + 1) k ≡ false
    above k l = grind (arith, nat_tests)

    sum : (m n : ℕ) → m ≤ 1 → n ≡ 0 → m + n ≤ 1
    sum m n l e = omega arith

    sum-other : (m n : ℕ) → m ≡ 0 → n ≤ 1 → m + n ≤ 1
    sum-other m n e l = omega arith

    other : (k n m : ℕ) → nat_eq k (last + 1) ≡ false → same_id (PendingId k n) (PendingId (last + 1) m) ≡ false
    other k n m e = rw e refl

    symmetric : (k : ℕ) → nat_eq k (last + 1) ≡ false → nat_eq (last + 1) k ≡ false
    symmetric k e = grind (arith, nat_tests)

    mine : (k : ℕ) → nat_eq k (last + 1) ≡ true → nat_eq (last + 1) k ≡ true
    mine k e = grind (arith, nat_tests)

    absent : (k n : ℕ) → nat_eq k (last + 1) ≡ true → len (has_id (PendingId k n)) list.items ≡ 0
    absent k n e =
        let later : last < k = grind (arith, nat_tests) in
        let none = h.stages k later in
        h.counted k n (omega arith)

    name : (a : ElementId) → len (has_id a) new + len (has_id a) list.items ≤ 1
    name (SequencedId n) = sum-other _ _ (none-new None props (Local (last + 1)) (SequencedId n) 0 (λ m g. refl) bs) (h.once (SequencedId n))
    name (PendingId k n) = stage (nat_eq k (last + 1)) refl
      where
        stage : (b : Bool) → nat_eq k (last + 1) ≡ b → len (has_id (PendingId k n)) new + len (has_id (PendingId k n)) list.items ≤ 1
        stage true e = sum _ _ (once-new None props (Local (last + 1)) (PendingId k n) (λ i j g l. apart-pending (last + 1) (PendingId k n) i j g l) 0 bs) (absent k n e)
        stage false e = sum-other _ _ (none-new None props (Local (last + 1)) (PendingId k n) 0 (λ m g. other k n m e) bs) (h.once (PendingId k n))

    counted : (k n : ℕ) → len (is_inserted_by k) new + len (is_inserted_by k) list.items ≤ n → len (has_id (PendingId k n)) new + len (has_id (PendingId k n)) list.items ≡ 0
    counted k n l = stage (nat_eq k (last + 1)) refl
      where
        stage : (b : Bool) → nat_eq k (last + 1) ≡ b → len (has_id (PendingId k n)) new + len (has_id (PendingId k n)) list.items ≡ 0
        stage true e =
            let all : len (is_inserted_by k) new ≡ length bs = new-count None props (Local (last + 1)) k (mine k e) 0 bs in
            none-both _ _ (none-behind None props (Local (last + 1)) (PendingId k n) n
            (λ i g. ap (λ b. nat_eq k (last + 1) && b) (other-number i n g) ∙ never (nat_eq k (last + 1))) 0 bs (omega arith)) (absent k n e)
        stage false e = none-both _ _ (none-new None props (Local (last + 1)) (PendingId k n) 0 (λ m g. other k n m e) bs) (h.counted k n (omega arith))
