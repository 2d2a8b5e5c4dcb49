-- The sums of lengths for all stamps fix those of every test.
--     length_of e items      the lengths of the items whose stamps are e
use Rattle.std.proofs.Common.{◌≡◌, ℕ, zero, suc, ◌+◌, ◌≤◌, Bool, true, false, cond, ◌&&◌, List, [], ◌∷◌, length, refl, sym, ◌∙◌, ap, arith}
use Rattle.std.proofs.lemmas.Bool.Decides.{nat_tests}
use Rattle.ft_base.specs.declared.stamps.Stamp.{Stamp}
use Rattle.ft_base.specs.declared.stamps.Stamp.TheVariants.{Acked, Local}
use Rattle.ft_base.specs.declared.elements.Element.{Element}
use Rattle.ft_partial.specs.Items.{Item, length_where}
use Rattle.ft_partial.specs.SameStamps.{same_stamp, have_same_stamps, same_element, length_of, SameByStamps}

-- whatever test is made of stamps, the items that pass it have the same sum of lengths
abbrev pub SameSums : List Item → List Item → Type 0
SameSums xs ys = (p : Element → Bool) → length_where p xs ≡ length_where p ys

stamp-refl : (s : Stamp) → same_stamp s s ≡ true
stamp-refl (Acked s c) = grind (arith, nat_tests)
stamp-refl (Local k) = grind (arith, nat_tests)

stamps-refl : (xs : List Stamp) → have_same_stamps xs xs ≡ true
stamps-refl [] = refl
stamps-refl (x ∷ xs) = grind (arith, stamp-refl x, stamps-refl xs)

element-refl : (e : Element) → same_element e e ≡ true
element-refl e = grind (arith, stamp-refl e.ins, stamps-refl e.dels)

stamp-is : (s t : Stamp) → same_stamp s t ≡ true → s ≡ t
stamp-is (Acked s c) (Acked t d) h =
    let a : s ≡ t = grind (arith, nat_tests) in
    let b : c ≡ d = grind (arith, nat_tests) in
    ap (λ x. Acked x c) a ∙ ap (λ y. Acked t y) b
stamp-is (Acked s c) (Local k) h = cc
stamp-is (Local k) (Acked s c) h = cc
stamp-is (Local j) (Local k) h = let a : j ≡ k = grind (arith, nat_tests) in ap Local a

and_left : (a b : Bool) → (a && b) ≡ true → a ≡ true
and_left true b h = refl
and_left false b h = h

and_right : (a b : Bool) → (a && b) ≡ true → b ≡ true
and_right true b h = h
and_right false b h = cc

stamps-is : (xs ys : List Stamp) → have_same_stamps xs ys ≡ true → xs ≡ ys
stamps-is [] [] h = refl
stamps-is [] (y ∷ ys) h = cc
stamps-is (x ∷ xs) [] h = cc
stamps-is (x ∷ xs) (y ∷ ys) h =
    ap (λ z. z ∷ xs) (stamp-is x y (and_left (same_stamp x y) (have_same_stamps xs ys) h))
    ∙ ap (λ zs. y ∷ zs) (stamps-is xs ys (and_right (same_stamp x y) (have_same_stamps xs ys) h))

element-is : (e f : Element) → same_element e f ≡ true → e ≡ f
element-is e f h =
    let a : e.ins ≡ f.ins = stamp-is e.ins f.ins (and_left (same_stamp e.ins f.ins) (have_same_stamps e.dels f.dels) h) in
    let b : e.dels ≡ f.dels = stamps-is e.dels f.dels (and_right (same_stamp e.ins f.ins) (have_same_stamps e.dels f.dels) h) in
    let P : Stamp → List Stamp → Element = λ x y. record { ins = x; dels = y } in
    ap (λ x. P x e.dels) a ∙ ap (λ y. P f.ins y) b

-- the items whose stamps are others
abbrev without : Element → List Item → List Item
without e [] = []
without e (x ∷ xs) = cond (same_element e x.element) (without e xs) (x ∷ without e xs)

without-le : (e : Element) (xs : List Item) → length (without e xs) ≤ length xs
without-le e [] = omega arith
without-le e (x ∷ xs) = go (same_element e x.element) (without-le e xs)
  where
    go : (b : Bool) → length (without e xs) ≤ length xs → length (cond b (without e xs) (x ∷ without e xs)) ≤ suc (length xs)
    go true h = omega arith
    go false h = omega arith

-- a test's sum is that of one item's stamps and that of the others
apart-case : (p : Element → Bool) (e : Element) (x : Item) (xs : List Item) (b : Bool) → same_element e x.element ≡ b
    → length_where p xs ≡ cond (p e) (length_of e xs) 0 + length_where p (without e xs)
    → cond (p x.element) x.len 0 + length_where p xs ≡ cond (p e) (cond b x.len 0 + length_of e xs) 0 + length_where p (cond b (without e xs) (x ∷ without e xs))
apart-case p e x xs true h k =
    let same : p e ≡ p x.element = ap p (element-is e x.element h) in
    go (p e) (p x.element) same k
  where
    go : (u v : Bool) → u ≡ v → length_where p xs ≡ cond u (length_of e xs) 0 + length_where p (without e xs)
        → cond v x.len 0 + length_where p xs ≡ cond u (x.len + length_of e xs) 0 + length_where p (without e xs)
    go true true h k = omega arith
    go false false h k = omega arith
    go true false h k = cc
    go false true h k = cc
apart-case p e x xs false h k = go (p e) k
  where
    go : (u : Bool) → length_where p xs ≡ cond u (length_of e xs) 0 + length_where p (without e xs)
        → cond (p x.element) x.len 0 + length_where p xs ≡ cond u (0 + length_of e xs) 0 + (cond (p x.element) x.len 0 + length_where p (without e xs))
    go true k = omega arith
    go false k = omega arith

apart : (p : Element → Bool) (e : Element) (xs : List Item) → length_where p xs ≡ cond (p e) (length_of e xs) 0 + length_where p (without e xs)
apart p e [] = go (p e)
  where
    go : (u : Bool) → 0 ≡ cond u 0 0 + 0
    go true = omega arith
    go false = omega arith
apart p e (x ∷ xs) = apart-case p e x xs (same_element e x.element) refl (apart p e xs)

none_there : (e : Element) (xs : List Item) → length_of e (without e xs) ≡ 0
none_there e [] = refl
none_there e (x ∷ xs) = go (same_element e x.element) refl (none_there e xs)
  where
    go : (b : Bool) → same_element e x.element ≡ b → length_of e (without e xs) ≡ 0 → length_of e (cond b (without e xs) (x ∷ without e xs)) ≡ 0
    go true h k = k
    go false h k = ap (λ b. cond b x.len 0 + length_of e (without e xs)) h ∙ (omega arith)

-- the sums of the others agree
others : (e : Element) (xs ys : List Item) → SameByStamps xs ys → SameByStamps (without e xs) (without e ys)
others e xs ys same f =
    go (same_element f e) refl
  where
    go : (b : Bool) → same_element f e ≡ b → length_of f (without e xs) ≡ length_of f (without e ys)
    go true h =
        let is : f ≡ e = element-is f e h in
        let L : (List Item) → ℕ = λ zs. length_of f (without e zs) in
        ap (λ z. length_of z (without e xs)) is ∙ none_there e xs ∙ sym (ap (λ z. length_of z (without e ys)) is ∙ none_there e ys)
    go false h =
        let a : length_of f xs ≡ length_of f (without e xs) = apart (same_element f) e xs ∙ ap (λ b. cond b (length_of e xs) 0 + length_of f (without e xs)) h ∙ omega arith in
        let b : length_of f ys ≡ length_of f (without e ys) = apart (same_element f) e ys ∙ ap (λ b. cond b (length_of e ys) 0 + length_of f (without e ys)) h ∙ omega arith in
        sym a ∙ same f ∙ b

head_gone : (x : Item) (xs : List Item) → length (without x.element (x ∷ xs)) ≤ length xs
head_gone x xs =
    let e : length (without x.element (x ∷ xs)) ≡ length (without x.element xs) =
    ap (λ b. length (cond b (without x.element xs) (x ∷ without x.element xs))) (element-refl x.element) in
    omega (arith, without-le x.element xs)

by_size : (n : ℕ) (p : Element → Bool) (xs ys : List Item) → length xs + length ys ≤ n → SameByStamps xs ys → length_where p xs ≡ length_where p ys
by_size n p [] [] h same = refl
by_size zero p [] (y ∷ ys) h same = absurd (omega arith)
by_size zero p (x ∷ xs) ys h same = absurd (omega arith)
by_size (suc n) p [] (y ∷ ys) h same =
    let e = y.element in
    let rest = by_size n p [] (without e (y ∷ ys)) (omega (arith, head_gone y ys)) (others e [] (y ∷ ys) same) in
    apart p e [] ∙ ap (λ m. cond (p e) m 0 + 0) (same e) ∙ ap (λ m. cond (p e) (length_of e (y ∷ ys)) 0 + m) rest ∙ sym (apart p e (y ∷ ys))
by_size (suc n) p (x ∷ xs) ys h same =
    let e = x.element in
    let rest = by_size n p (without e (x ∷ xs)) (without e ys) (omega (arith, head_gone x xs, without-le e ys)) (others e (x ∷ xs) ys same) in
    apart p e (x ∷ xs) ∙ ap (λ m. cond (p e) m 0 + length_where p (without e (x ∷ xs))) (same e) ∙ ap (λ m. cond (p e) (length_of e ys) 0 + m) rest ∙ sym (apart p e ys)

pub same_sums : (xs ys : List Item) → SameByStamps xs ys → SameSums xs ys
same_sums xs ys same p = by_size (length xs + length ys) p xs ys (omega arith) same
