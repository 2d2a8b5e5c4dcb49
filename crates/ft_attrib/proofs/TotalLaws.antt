-- Totals of lists that begin with one origin several times, and where a connection's total stands.
use Rattle.std.proofs.Common.{◌≡◌, ◌≢◌, ◌∙◌, ℕ, zero, suc, ◌+◌, ◌-◌, ◌<◌, ◌≤◌, List, [], ◌∷◌, ◌++◌, length, get_or, set, replicate, refl, ap, sym, arith}
use Rattle.std.specs.Prelude.{insert}
use Rattle.std.proofs.lemmas.Bool.Decides.{nat_tests}
use Rattle.std.proofs.lemmas.List.{get_or_default}
use Rattle.ft_attrib.specs.declared.attribution.Origin.{Origin}
use Rattle.ft_attrib.specs.declared.attribution.Origin.TheVariants.{Known, Unknown, Pending}
use Rattle.ft_attrib.specs.declared.attribution.Total.{Total}
use Rattle.ft_attrib.specs.declared.pieces.OriginPiece.{OriginPiece}
use Rattle.ft_attrib.specs.Pieces.{spread}
use Rattle.ft_attrib.specs.Totals.{with_count, counted_all, with_origin, place_of_total, summed}

-- the connection's total is there, and is raised
counted-set : (c n : ℕ) (ts : List Total) (d t : Total) → place_of_total c ts < length ts → (get_or ts (place_of_total c ts) d).conn ≡ c
    → t ≡ record { conn = c; count = (get_or ts (place_of_total c ts) d).count + n } → set ts (place_of_total c ts) t ≡ with_count c n ts
counted-set c n [] d t l e h = absurd (omega arith)
counted-set c n (x ∷ xs) d t l e h = grind (arith, nat_tests, counted-set c n xs d t)

-- it isn't there, and is put in
counted-insert : (c n : ℕ) (ts : List Total) (d : Total) → (place_of_total c ts < length ts → (get_or ts (place_of_total c ts) d).conn ≢ c)
    → insert ts (place_of_total c ts) (record { conn = c; count = n }) ≡ with_count c n ts
counted-insert c n [] d h = refl
counted-insert c n (x ∷ xs) d h = grind (arith, nat_tests, counted-insert c n xs d)

pub count-below : (ts : List Total) (i : ℕ) (d : Total) → i < length ts → (get_or ts i d).count ≤ summed ts
count-below [] i d h = absurd (omega arith)
count-below (t ∷ ts) zero d h = omega arith
count-below (t ∷ ts) (suc i) d h = omega (arith, count-below ts i d (omega arith))

summed-counted : (c n : ℕ) (ts : List Total) → summed (with_count c n ts) ≡ summed ts + n
summed-counted c n [] = omega arith
summed-counted c n (t ∷ ts) = grind (arith, nat_tests, summed-counted c n ts)

counted-twice : (c n m : ℕ) (ts : List Total) → with_count c m (with_count c n ts) ≡ with_count c (n + m) ts
counted-twice c n m [] = grind (arith, nat_tests)
counted-twice c n m (t ∷ ts) = grind (arith, nat_tests, counted-twice c n m ts)

counted_origin-twice : (o : Origin) (n m : ℕ) (ts : List Total) → with_origin o m (with_origin o n ts) ≡ with_origin o (n + m) ts
counted_origin-twice (Known s c) n m ts = counted-twice c n m ts
counted_origin-twice Unknown n m ts = refl
counted_origin-twice Pending n m ts = refl

pub summed-counted_origin : (o : Origin) (n : ℕ) (ts : List Total) → summed (with_origin o n ts) ≤ summed ts + n
summed-counted_origin (Known s c) n ts = omega (arith, summed-counted c n ts)
summed-counted_origin Unknown n ts = omega arith
summed-counted_origin Pending n ts = omega arith

-- equal origins are counted at once
counted-replicate : (n : ℕ) (o : Origin) (ts : List Total) (zs : List Origin) → counted_all ts (replicate (suc n) o ++ zs) ≡ counted_all (with_origin o (suc n) ts) zs
counted-replicate zero o ts zs = refl
counted-replicate (suc n) o ts zs =
    counted-replicate n o (with_origin o 1 ts) zs
    ∙ ap (λ us. counted_all us zs) (counted_origin-twice o 1 (suc n) ts)
    ∙ ap (λ k. counted_all (with_origin o k ts) zs) (omega arith)

abbrev total_of : ℕ → ℕ → Total
total_of c n = record { conn = c; count = n }

-- what stands at the place is the connection's total
pub counted-raised : (c n i : ℕ) (ts : List Total) (x y : Total) → i ≡ place_of_total c ts → i < length ts → x ≡ get_or ts i x → x.conn ≡ c → y ≡ get_or ts i y
    → set ts i (record { conn = c; count = y.count + n }) ≡ with_count c n ts
counted-raised c n i ts x y p l hx e hy =
    let same : get_or ts (place_of_total c ts) x ≡ x = ap (λ k. get_or ts k x) (sym p) ∙ sym hx in
    let one : x ≡ y = hx ∙ get_or_default ts i x y l ∙ sym hy in
    let inside : place_of_total c ts < length ts = omega arith in
    let count : y.count ≡ (get_or ts (place_of_total c ts) x).count = ap (λ (t : Total). t.count) (sym one ∙ sym same) in
    ap (λ k. set ts k (total_of c (y.count + n))) p
    ∙ counted-set c n ts x (total_of c (y.count + n)) inside (ap (λ (t : Total). t.conn) same ∙ e) (ap (λ k. total_of c (k + n)) count)

-- what stands there is another one's
pub counted-other : (c n i : ℕ) (ts : List Total) (x : Total) → i ≡ place_of_total c ts → x ≡ get_or ts i x → x.conn ≢ c
    → insert ts i (record { conn = c; count = n }) ≡ with_count c n ts
counted-other c n i ts x p hx e =
    let same : get_or ts (place_of_total c ts) x ≡ x = ap (λ k. get_or ts k x) (sym p) ∙ sym hx in
    ap (λ k. insert ts k (total_of c n)) p ∙ counted-insert c n ts x (λ _ k. e (ap (λ (t : Total). t.conn) (sym same) ∙ k))

-- nothing stands there
pub counted-past : (c n i : ℕ) (ts : List Total) → i ≡ place_of_total c ts → length ts ≤ i → insert ts i (record { conn = c; count = n }) ≡ with_count c n ts
counted-past c n i ts p l = ap (λ k. insert ts k (total_of c n)) p ∙ counted-insert c n ts (total_of 0 0) (λ h _. absurd (omega (arith, p, l, h)))

-- the origins of a first piece are counted at once
pub counted-piece : (from : ℕ) (x : OriginPiece) (xs : List OriginPiece) (ts : List Total) → from < x.end
    → counted_all ts (spread from (x ∷ xs)) ≡ counted_all (with_origin x.who (x.end - from) ts) (spread x.end xs)
counted-piece from x xs ts h =
    let n : x.end - from ≡ suc (x.end - from - 1) = omega arith in
    ap (λ k. counted_all ts (replicate k x.who ++ spread x.end xs)) n
    ∙ counted-replicate (x.end - from - 1) x.who ts (spread x.end xs)
    ∙ ap (λ k. counted_all (with_origin x.who k ts) (spread x.end xs)) (sym n)
