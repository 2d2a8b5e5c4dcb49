-- What of maximal pieces lies within a range are its maximal runs.
use Rattle.std.proofs.Common.{
  ◌≡◌,
  ◌≢◌,
  ◌∙◌,
  ℕ,
  zero,
  suc,
  ◌+◌,
  ◌-◌,
  ◌<◌,
  ◌≤◌,
  Bool,
  true,
  false,
  cond,
  List,
  [],
  ◌∷◌,
  ◌++◌,
  length,
  get_or,
  take,
  drop,
  replicate,
  refl,
  ap,
  sym,
  arith,
}
use Rattle.std.specs.Prelude.{min}
use Rattle.std.proofs.lemmas.Bool.Decides.{nat_tests}
use Rattle.std.proofs.lemmas.List.{take_all}
use Rattle.std.specs.Prelude.{nat_lt}
use Rattle.ft_attrib.specs.declared.attribution.Origin.{Origin}
use Rattle.ft_attrib.specs.declared.pieces.OriginPiece.{OriginPiece}
use Rattle.ft_attrib.specs.Runs.{origin_runs}
use Rattle.ft_attrib.specs.Pieces.{IsCut, IsOther, IsRestFrom, clipped, spread}
use Rattle.ft_attrib.proofs.RunLaws.{begins, run_of, runs-replicate, same_origin-other}

take-replicate : (n m : ℕ) (w : Origin) (zs : List Origin) → take m (replicate n w ++ zs) ≡ replicate (min n m) w ++ take (m - n) zs
take-replicate zero m w zs =
    let e : 0 ≡ min 0 m = omega arith in
    let d : m ≡ m - 0 = omega arith in
    ap (λ k. take k zs) d ∙ ap (λ k. replicate k w ++ take (m - 0) zs) e
take-replicate (suc n) zero w zs =
    let e : 0 ≡ min (suc n) 0 = omega arith in
    let d : 0 ≡ 0 - suc n = omega arith in
    ap (λ k. take k zs) d ∙ ap (λ k. replicate k w ++ take (0 - suc n) zs) e
take-replicate (suc n) (suc m) w zs =
    let e : suc (min n m) ≡ min (suc n) (suc m) = omega arith in
    let d : m - n ≡ suc m - suc n = omega arith in
    ap (λ os. w ∷ os) (take-replicate n m w zs) ∙ ap (λ k. replicate (suc (min n m)) w ++ take k zs) d ∙ ap (λ k. replicate k w ++ take (suc m - suc n) zs) e

drop-replicate : (n m : ℕ) (w : Origin) (zs : List Origin) → m ≤ n → drop m (replicate n w ++ zs) ≡ replicate (n - m) w ++ zs
drop-replicate n zero w zs h = let e : n ≡ n - 0 = omega arith in ap (λ k. replicate k w ++ zs) e
drop-replicate zero (suc m) w zs h = absurd (omega arith)
drop-replicate (suc n) (suc m) w zs h =
    let d : n - m ≡ suc n - suc m = omega arith in
    drop-replicate n m w zs (omega arith) ∙ ap (λ k. replicate k w ++ zs) d

drop-behind : (n k : ℕ) (w : Origin) (zs : List Origin) → drop (n + k) (replicate n w ++ zs) ≡ drop k zs
drop-behind zero k w zs = let e : 0 + k ≡ k = omega arith in ap (λ j. drop j zs) e
drop-behind (suc n) k w zs =
    let e : suc n + k ≡ suc (n + k) = omega arith in
    ap (λ j. drop j (replicate (suc n) w ++ zs)) e ∙ drop-behind n k w zs

-- the next piece begins with another origin
begins-positive : (n k : ℕ) (w o : Origin) (zs : List Origin) → 0 < n → w ≢ o → begins w (take k (replicate n o ++ zs)) ≡ false
begins-positive zero k w o zs h d = absurd (omega arith)
begins-positive (suc n) zero w o zs h d = refl
begins-positive (suc n) (suc k) w o zs h d = same_origin-other w o d

begins-spread : (from k : ℕ) (w : Origin) (xs : List OriginPiece) → IsCut from xs → IsOther w xs → begins w (take k (spread from xs)) ≡ false
begins-spread from zero w [] c o = refl
begins-spread from (suc k) w [] c o = refl
begins-spread from k w (x ∷ xs) c o = begins-positive (x.end - from) k w x.who (spread x.end xs) (omega (arith, c.0)) o

begins-whole : (from : ℕ) (w : Origin) (xs : List OriginPiece) → IsCut from xs → IsOther w xs → begins w (spread from xs) ≡ false
begins-whole from w xs c o = ap (begins w) (sym (take_all (length (spread from xs)) (spread from xs) (omega arith))) ∙ begins-spread from (length (spread from xs)) w xs c o

runs-behind : (k i j : ℕ) (zs : List Origin) → (0 < k → i ≡ j) → origin_runs i (take k zs) ≡ origin_runs j (take k zs)
runs-behind zero i j zs e = refl
runs-behind (suc k) i j zs e = ap (λ n. origin_runs n (take (suc k) zs)) (e (omega arith))

-- the runs of the front of a piece and of what lies behind it
runs-piece : (from q end : ℕ) (w : Origin) (zs : List Origin) → from < end → from < q → begins w (take (q - end) zs) ≡ false
    → origin_runs from (take (q - from) (replicate (end - from) w ++ zs)) ≡ run_of from (min end q) w ∷ origin_runs end (take (q - end) zs)
runs-piece from q end w zs h k b =
    let n : min (end - from) (q - from) ≡ suc (min end q - from - 1) = omega arith in
    let e : from + suc (min end q - from - 1) ≡ min end q = omega arith in
    let d : q - from - (end - from) ≡ q - end = omega arith in
    ap (origin_runs from) (take-replicate (end - from) (q - from) w zs)
    ∙ ap (λ j. origin_runs from (replicate (min (end - from) (q - from)) w ++ take j zs)) d
    ∙ ap (λ j. origin_runs from (replicate j w ++ take (q - end) zs)) n
    ∙ runs-replicate from (min end q - from - 1) w (take (q - end) zs) b
    ∙ ap (λ j. run_of from j w ∷ origin_runs j (take (q - end) zs)) e
    ∙ ap (λ os. run_of from (min end q) w ∷ os) (runs-behind (q - end) (min end q) end zs (λ more. omega arith))

-- the same, where what is clipped of the pieces behind the first one is known
front : (q from : ℕ) (x : OriginPiece) (xs : List OriginPiece) (b : Bool) → nat_lt from q ≡ b → IsCut from (x ∷ xs)
    → clipped q x.end xs ≡ origin_runs x.end (take (q - x.end) (spread x.end xs))
    → cond b (run_of from (min x.end q) x.who ∷ clipped q x.end xs) [] ≡ origin_runs from (take (q - from) (spread from (x ∷ xs)))
front q from x xs true e c rest =
    let first : from < x.end = c.0 in
    ap (λ rs. run_of from (min x.end q) x.who ∷ rs) rest
    ∙ sym (runs-piece from q x.end x.who (spread x.end xs) first (grind (arith, nat_tests)) (begins-spread x.end (q - x.end) x.who xs c.2 c.1))
front q from x xs false e c rest =
    let past : q ≤ from = grind (arith, nat_tests) in
    let nothing : 0 ≡ q - from = omega arith in
    ap (λ n. origin_runs from (take n (spread from (x ∷ xs)))) nothing

no_origins : (k : ℕ) → [] ≡ drop {A = Origin} k []
no_origins zero = refl
no_origins (suc k) = refl

no_runs : (k i : ℕ) → [] ≡ origin_runs i (take k [])
no_runs zero i = refl
no_runs (suc k) i = refl

pub clipped-none : (q from : ℕ) (xs : List OriginPiece) → q ≤ from → clipped q from xs ≡ []
clipped-none q from [] h = refl
clipped-none q from (x ∷ xs) h = grind (arith, nat_tests)

-- the maximal runs up to before q
pub clipped-runs : (q from : ℕ) (xs : List OriginPiece) → IsCut from xs → clipped q from xs ≡ origin_runs from (take (q - from) (spread from xs))
clipped-runs q from [] c = no_runs (q - from) from
clipped-runs q from (x ∷ xs) c = front q from x xs (nat_lt from q) refl c (clipped-runs q x.end xs c.2)

-- the pieces from place p on: those that don't end up to it
cut-past : (from p : ℕ) (xs : List OriginPiece) (i : ℕ) → IsCut from xs → i ≤ length xs → ((d : OriginPiece) → i < length xs → p < (get_or xs i d).end) → IsCut p (drop i xs)
cut-past from p [] zero c l above = tt
cut-past from p [] (suc i) c l above = tt
cut-past from p (x ∷ xs) zero c l above = (above x (omega arith), c.1, c.2)
cut-past from p (x ∷ xs) (suc i) c l above = cut-past x.end p xs i c.2 (omega arith) (λ d h. above d (omega arith))

spread-past : (from p : ℕ) (xs : List OriginPiece) (i : ℕ) → from ≤ p → IsCut from xs → i ≤ length xs
    → ((d : OriginPiece) (j : ℕ) → j < i → (get_or xs j d).end ≤ p) → ((d : OriginPiece) → i < length xs → p < (get_or xs i d).end)
    → spread p (drop i xs) ≡ drop (p - from) (spread from xs)
spread-past from p [] zero h c l below above = no_origins (p - from)
spread-past from p [] (suc i) h c l below above = absurd (omega arith)
spread-past from p (x ∷ xs) zero h c l below above =
    let here : p < x.end = above x (omega arith) in
    let left : x.end - p ≡ x.end - from - (p - from) = omega arith in
    ap (λ n. replicate n x.who ++ spread x.end xs) left
    ∙ sym (drop-replicate (x.end - from) (p - from) x.who (spread x.end xs) (omega arith))
spread-past from p (x ∷ xs) (suc i) h c l below above =
    let first : from < x.end = c.0 in
    let past : x.end ≤ p = below x 0 (omega arith) in
    let far : x.end - from + (p - x.end) ≡ p - from = omega arith in
    spread-past x.end p xs i past c.2 (omega arith) (λ d j k. below d (suc j) (omega arith)) (λ d k. above d (omega arith))
    ∙ sym (drop-behind (x.end - from) (p - x.end) x.who (spread x.end xs))
    ∙ ap (λ n. drop n (spread from (x ∷ xs))) far

pub goes_on : (p : ℕ) (xs : List OriginPiece) (i : ℕ) → IsCut 0 xs → i ≤ length xs
    → ((d : OriginPiece) (j : ℕ) → j < i → (get_or xs j d).end ≤ p) → ((d : OriginPiece) → i < length xs → p < (get_or xs i d).end) → IsRestFrom p (drop i xs) xs
goes_on p xs i c l below above =
    let all : p - 0 ≡ p = omega arith in
    record {
      cut = cut-past 0 p xs i c l above;
      origins = spread-past 0 p xs i (omega arith) c l below above ∙ ap (λ n. drop n (spread 0 xs)) all;
    }

-- there are as many pieces as maximal runs
pub pieces-length : (from : ℕ) (xs : List OriginPiece) → IsCut from xs → length (origin_runs from (spread from xs)) ≡ length xs
pieces-length from [] c = refl
pieces-length from (x ∷ xs) c =
    let first : from < x.end = c.0 in
    let n : x.end - from ≡ suc (x.end - from - 1) = omega arith in
    let e : from + suc (x.end - from - 1) ≡ x.end = omega arith in
    ap (λ k. length (origin_runs from (replicate k x.who ++ spread x.end xs))) n
    ∙ ap length (runs-replicate from (x.end - from - 1) x.who (spread x.end xs) (begins-whole x.end x.who xs c.2 c.1))
    ∙ ap (λ k. suc (length (origin_runs k (spread x.end xs)))) e
    ∙ ap suc (pieces-length x.end xs c.2)
