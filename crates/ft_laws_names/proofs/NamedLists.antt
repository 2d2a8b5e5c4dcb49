-- Elements that are named by their places have names of their own.
use Rattle.std.proofs.Common.{◌≡◌, ℕ, suc, ◌+◌, ◌≤◌, ◌<◌, Bool, true, false, not, ◌&&◌, nat_eq, List, [], ◌∷◌, ◌++◌, Option, Some, None, refl, sym, ◌∙◌, ap, subst, length, map, filter, arith}
use Rattle.std.specs.List.{list_all}
use Rattle.std.proofs.lemmas.Bool.Decides.{nat_tests}
use Rattle.ft_base.specs.declared.stamps.Stamp.{Stamp}
use Rattle.ft_base.specs.declared.stamps.Stamp.TheVariants.{Acked, Local}
use Rattle.ft_base.specs.Scan.{len, one_more_if}
use Rattle.ft_base.specs.Visibility.{is_acked, is_of_stage}
use Rattle.ft_base.proofs.Booleans.{both}
use Rattle.ft_props.specs.Element.{ElementId, ListElement, NamelessElement, PendingId, SequencedId, has_id, id_of_stamp, nameless, removal_stamp, same_id}
use Rattle.ft_props.specs.Steps.{Sequence, is_inserted_by}
use Rattle.ft_props.proofs.AcknowledgedInsertion.{same_nat}
use Rattle.ft_laws_names.specs.Naming.{named_element, named_elements, named_list, number_behind, pending_removal}
use Rattle.ft_laws_names.specs.WellNamed.{IsWellNumbered, has_odd_removal}
use Rattle.ft_laws_names.proofs.Beside.{ends, next}
use Rattle.ft_laws_names.proofs.ListSteps.{ListsAlike}
use Rattle.ft_laws_names.proofs.Twins.{BesideList, IsTwin, len-alike, same-of, twin-inserted}

-- ---- the same elements

acked-part : (ds : List Stamp) (o : Option ℕ) → list_all is_acked ds ≡ true → filter is_acked (ds ++ removal_stamp o) ≡ ds
acked-part [] None h = refl
acked-part [] (Some k) h = refl
acked-part (Acked s c ∷ ds) o h = ap (λ es. Acked s c ∷ es) (acked-part ds o h)
acked-part (Local k ∷ ds) o h = (cc)

pending-part : (ds : List Stamp) (o : Option ℕ) → list_all is_acked ds ≡ true → pending_removal (ds ++ removal_stamp o) ≡ o
pending-part [] None h = refl
pending-part [] (Some k) h = refl
pending-part (Acked s c ∷ ds) o h = pending-part ds o h
pending-part (Local k ∷ ds) o h = (cc)

none-odd : (b : Bool) (n : ℕ) → one_more_if (not b) n ≡ 0 → (b ≡ true) × (n ≡ 0)
none-odd true n h = (refl, h)
none-odd false n h = absurd (omega arith)

named-twin : (before : List NamelessElement) (x : ListElement) → list_all is_acked x.dels ≡ true → IsTwin x (named_element before (nameless x))
named-twin before x h = rw (acked-part x.dels x.removal_stage h, pending-part x.dels x.removal_stage h) refl

pub named-twins : (before : List NamelessElement) (xs : List ListElement) → len has_odd_removal xs ≡ 0 → BesideList IsTwin xs (named_elements before (map nameless xs))
named-twins before [] h = ends
named-twins before (x ∷ xs) h = let p = none-odd (list_all is_acked x.dels) (len has_odd_removal xs) h in next (named-twin before x p.0) (named-twins (nameless x ∷ before) xs p.1)

-- ---- their names

abbrev count_in : ℕ → List NamelessElement → ℕ
count_in k es = len (λ (d : NamelessElement). is_of_stage k d.stamps.ins) es

apart-low : (n m : ℕ) → n < m → nat_eq n m ≡ false
apart-low n m l = grind (arith, nat_tests)

never : (b : Bool) → b && false ≡ false
never true = refl
never false = refl

unless : (b : Bool) (n : ℕ) → b ≡ false → n ≡ 0 → one_more_if b n ≡ 0
unless false n e h = h
unless true n e h = (cc)

low-number : (n : ℕ) (before es : List NamelessElement) → n < length before → len (has_id (SequencedId n)) (named_elements before es) ≡ 0
low-number n before [] l = refl
low-number n before (e ∷ es) l = unless _ _ (head e.stamps.ins) (low-number n (e ∷ before) es (omega arith))
  where
    head : (t : Stamp) → same_id (SequencedId n) (id_of_stamp t (number_behind before t)) ≡ false
    head (Acked s c) = apart-low n (length before) l
    head (Local k) = refl

high-number : (n : ℕ) (before es : List NamelessElement) → length before + length es ≤ n → len (has_id (SequencedId n)) (named_elements before es) ≡ 0
high-number n before [] l = refl
high-number n before (e ∷ es) l = unless _ _ (head e.stamps.ins) (high-number n (e ∷ before) es (omega arith))
  where
    other : (m i : ℕ) → m < i → nat_eq i m ≡ false
    other m i g = grind (arith, nat_tests)

    head : (t : Stamp) → same_id (SequencedId n) (id_of_stamp t (number_behind before t)) ≡ false
    head (Acked s c) = other (length before) n (omega arith)
    head (Local k) = refl

one : (b : Bool) (n : ℕ) → (b ≡ true → n ≡ 0) → n ≤ 1 → one_more_if b n ≤ 1
one true n h l = (let z = h refl in omega arith)
one false n h l = l

once-number : (n : ℕ) (before es : List NamelessElement) → len (has_id (SequencedId n)) (named_elements before es) ≤ 1
once-number n before [] = omega arith
once-number n before (e ∷ es) = one _ _ (λ g. low-number n (e ∷ before) es (head e.stamps.ins g)) (once-number n (e ∷ before) es)
  where
    head : (t : Stamp) → same_id (SequencedId n) (id_of_stamp t (number_behind before t)) ≡ true → n < suc (length before)
    head (Acked s c) g = grind (arith, nat_tests)
    head (Local k) g = (cc)

more-of : (b : Bool) (n m : ℕ) → n < m → n < one_more_if b m
more-of true n m l = omega arith
more-of false n m l = l

low-pending : (k n : ℕ) (before es : List NamelessElement) → n < count_in k before → len (has_id (PendingId k n)) (named_elements before es) ≡ 0
low-pending k n before [] l = refl
low-pending k n before (e ∷ es) l = unless _ _ (head e.stamps.ins) (low-pending k n (e ∷ before) es (more-of (is_of_stage k e.stamps.ins) n (count_in k before) l))
  where
    head : (t : Stamp) → same_id (PendingId k n) (id_of_stamp t (number_behind before t)) ≡ false
    head (Acked s c) = refl
    head (Local j) = step (nat_eq k j) refl
      where
        step : (b : Bool) → nat_eq k j ≡ b → b && nat_eq n (count_in j before) ≡ false
        step false f = refl
        step true f =
            let same : k ≡ j = grind (arith, nat_tests) in
            apart-low n (count_in j before) (subst (λ i. n < count_in i before) same l)

once-pending : (k n : ℕ) (before es : List NamelessElement) → len (has_id (PendingId k n)) (named_elements before es) ≤ 1
once-pending k n before [] = omega arith
once-pending k n before (e ∷ es) = one _ _ (λ g. low-pending k n (e ∷ before) es (head e.stamps.ins g)) (once-pending k n (e ∷ before) es)
  where
    head : (t : Stamp) → same_id (PendingId k n) (id_of_stamp t (number_behind before t)) ≡ true → n < one_more_if (is_of_stage k t) (count_in k before)
    head (Acked s c) g = (cc)
    head (Local j) g =
        let p = both (nat_eq k j) (nat_eq n (count_in j before)) g in
        let same : k ≡ j = grind (arith, nat_tests) in
        let number : n ≡ count_in j before = grind (arith, nat_tests) in
        subst (λ i. n < one_more_if (is_of_stage i (Local j)) (count_in i before)) (sym same) (subst (λ b. n < one_more_if b (count_in j before)) (sym (same_nat j)) (omega arith))

sums : (b : Bool) (m l n : ℕ) → m + one_more_if b l ≤ n → one_more_if b m + l ≤ n
sums true m l n h = omega arith
sums false m l n h = h

high-pending : (k n : ℕ) (before es : List NamelessElement) → count_in k before + count_in k es ≤ n → len (has_id (PendingId k n)) (named_elements before es) ≡ 0
high-pending k n before [] l = refl
high-pending k n before (e ∷ es) l = unless _ _ (head e.stamps.ins l) (high-pending k n (e ∷ before) es (sums (is_of_stage k e.stamps.ins) (count_in k before) (count_in k es) n l))
  where
    other : (m i : ℕ) → m < i → nat_eq i m ≡ false
    other m i g = grind (arith, nat_tests)

    head : (t : Stamp) → count_in k before + one_more_if (is_of_stage k t) (count_in k es) ≤ n → same_id (PendingId k n) (id_of_stamp t (number_behind before t)) ≡ false
    head (Acked s c) g = refl
    head (Local j) g = step (nat_eq k j) refl
      where
        step : (b : Bool) → nat_eq k j ≡ b → b && nat_eq n (count_in j before) ≡ false
        step false f = refl
        step true f =
            let same : k ≡ j = grind (arith, nat_tests) in
            let here : nat_eq j k ≡ true = grind (arith, nat_tests) in
            let bound : count_in k before + suc (count_in k es) ≤ n = subst (λ b. count_in k before + one_more_if b (count_in k es) ≤ n) here g in
            other (count_in j before) n (subst (λ i. count_in i before < n) same (omega arith))

count-nameless : (k : ℕ) (xs : List ListElement) → count_in k (map nameless xs) ≡ len (is_inserted_by k) xs
count-nameless k [] = refl
count-nameless k (x ∷ xs) = ap (one_more_if (is_of_stage k x.ins)) (count-nameless k xs)

-- the list with names of its own
pub named-alike : (last : ℕ) (list : Sequence) → IsWellNumbered last list → ListsAlike last list (named_list (map nameless list.items))
named-alike last list h = record { left = h; right = numbered; twins = twins }
  where
    twins : BesideList IsTwin list.items (named_elements [] (map nameless list.items))
    twins = named-twins [] list.items h.removals

    count : (k : ℕ) → len (is_inserted_by k) list.items ≡ len (is_inserted_by k) (named_elements [] (map nameless list.items))
    count k = len-alike (is_inserted_by k) (λ x y t. twin-inserted k x y t) twins

    once : (a : ElementId) → len (has_id a) (named_elements [] (map nameless list.items)) ≤ 1
    once (SequencedId n) = once-number n [] (map nameless list.items)
    once (PendingId k n) = once-pending k n [] (map nameless list.items)

    numbered : IsWellNumbered last (named_list (map nameless list.items))
    numbered = record {
      once = λ a. once a;
      below = λ n l. high-number n [] (map nameless list.items) (omega arith);
      counted = λ k n l. high-pending k n [] (map nameless list.items) (subst (λ i. 0 + i ≤ n) (sym (count-nameless k list.items))
          (subst (λ i. 0 + i ≤ n) (sym (count k)) (omega arith)));
      stages = λ k l. sym (count k) ∙ h.stages k l;
      removals = sym (len-alike has_odd_removal (λ x y t. same-of has_odd_removal (λ e n. refl) x y t) twins) ∙ h.removals;
    }
