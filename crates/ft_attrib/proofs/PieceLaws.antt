-- What lists of pieces stand for: one piece more, a longer last piece, and the piece of a place.
use Rattle.std.proofs.Common.{
  ◌≡◌,
  ◌≢◌,
  ◌∙◌,
  ℕ,
  zero,
  suc,
  ◌+◌,
  ◌-◌,
  ◌<◌,
  ◌≤◌,
  Bool,
  true,
  false,
  cond,
  List,
  [],
  ◌∷◌,
  ◌++◌,
  Option,
  Some,
  length,
  get_or,
  set,
  drop,
  replicate,
  refl,
  ap,
  subst,
  sym,
  arith,
  length-append,
  append-nil,
  append_assoc,
}
use Rattle.std.specs.Prelude.{⊤, slice_get, nat_lt}
use Rattle.std.proofs.lemmas.List.{drop_more, get_or_default, length-replicate, replicate-append-replicate}
use Rattle.std.proofs.lemmas.Bool.Decides.{nat_tests}
use Rattle.ft_attrib.specs.declared.attribution.Origin.{Origin}
use Rattle.ft_attrib.specs.declared.pieces.OriginPiece.{OriginPiece}
use Rattle.ft_attrib.specs.Pieces.{AddsCharacters, IsCut, IsPieceAt, origin_in, spread}

-- the place where the last piece ends
pub length-spread : (from : ℕ) (x : OriginPiece) (xs : List OriginPiece) → from < x.end → from + length (spread from (x ∷ xs)) ≡ x.end + length (spread x.end xs)
length-spread from x xs h =
    omega (arith, length-append (replicate (x.end - from) x.who) (spread x.end xs), length-replicate (x.end - from) x.who)

-- what is added behind a first piece
behind : (from end : ℕ) (x : OriginPiece) (o : Origin) (xs ys : List OriginPiece) → from < x.end
    → spread x.end ys ≡ spread x.end xs ++ replicate (end - (x.end + length (spread x.end xs))) o
    → spread from (x ∷ ys) ≡ spread from (x ∷ xs) ++ replicate (end - (from + length (spread from (x ∷ xs)))) o
behind from end x o xs ys h e =
    ap (λ zs. replicate (x.end - from) x.who ++ zs) e
    ∙ sym (append_assoc (replicate (x.end - from) x.who) (spread x.end xs) (replicate (end - (x.end + length (spread x.end xs))) o))
    ∙ ap (λ n. spread from (x ∷ xs) ++ replicate (end - n) o) (sym (length-spread from x xs h))

-- the origin isn't that of the last piece
abbrev pub IsOtherLast : List OriginPiece → Origin → Type 0
IsOtherLast [] o = ⊤
IsOtherLast (x ∷ []) o = x.who ≢ o
IsOtherLast (x ∷ y ∷ ys) o = IsOtherLast (y ∷ ys) o

pub other-last : (xs : List OriginPiece) (i : ℕ) (d : OriginPiece) (o : Origin) → suc i ≡ length xs → (get_or xs i d).who ≢ o → IsOtherLast xs o
other-last [] i d o l n = tt
other-last (x ∷ []) zero d o l n = n
other-last (x ∷ []) (suc i) d o l n = (cc)
other-last (x ∷ y ∷ ys) zero d o l n = (cc)
other-last (x ∷ y ∷ ys) (suc i) d o l n = other-last (y ∷ ys) i d o (omega arith) n

spread-push : (from : ℕ) (xs : List OriginPiece) (y : OriginPiece) → IsCut from xs
    → spread from (xs ++ y ∷ []) ≡ spread from xs ++ replicate (y.end - (from + length (spread from xs))) y.who
spread-push from [] y c = append-nil (replicate (y.end - from) y.who) ∙ ap (λ n. replicate (y.end - n) y.who) (omega arith)
spread-push from (x ∷ xs) y c = behind from y.end x y.who xs (xs ++ y ∷ []) c.0 (spread-push x.end xs y c.2)

cut-push : (from : ℕ) (xs : List OriginPiece) (y : OriginPiece) → IsCut from xs → IsOtherLast xs y.who → from + length (spread from xs) < y.end → IsCut from (xs ++ y ∷ [])
cut-push from [] y c o h = (omega arith, tt, tt)
cut-push from (x ∷ []) y c o h = (c.0, o, cut-push x.end [] y tt tt (omega (arith, length-spread from x [] c.0)))
cut-push from (x ∷ z ∷ zs) y c o h = (c.0, c.1, cut-push x.end (z ∷ zs) y c.2 o (omega (arith, length-spread from x (z ∷ zs) c.0)))

-- a last piece that is longer
last_longer : (from : ℕ) (x y : OriginPiece) → from < x.end → x.end < y.end → x.who ≡ y.who
    → replicate (y.end - from) y.who ++ [] ≡ (replicate (x.end - from) x.who ++ []) ++ replicate (y.end - x.end) y.who
last_longer from x y h k e =
    append-nil (replicate (y.end - from) y.who)
    ∙ ap (λ n. replicate n y.who) (omega arith)
    ∙ sym (replicate-append-replicate (x.end - from) (y.end - x.end) y.who)
    ∙ ap (λ o. replicate (x.end - from) o ++ replicate (y.end - x.end) y.who) (sym e)
    ∙ ap (λ zs. zs ++ replicate (y.end - x.end) y.who) (sym (append-nil (replicate (x.end - from) x.who)))

spread-last : (from : ℕ) (xs : List OriginPiece) (i : ℕ) (y d : OriginPiece) → IsCut from xs → suc i ≡ length xs → (get_or xs i d).who ≡ y.who
    → from + length (spread from xs) < y.end
    → spread from (set xs i y) ≡ spread from xs ++ replicate (y.end - (from + length (spread from xs))) y.who
spread-last from [] i y d c l e h = (cc)
spread-last from (x ∷ []) zero y d c l e h =
    let n : from + length (spread from (x ∷ [])) ≡ x.end = omega (arith, length-spread from x [] c.0) in
    last_longer from x y c.0 (omega arith) e ∙ ap (λ k. (replicate (x.end - from) x.who ++ []) ++ replicate (y.end - k) y.who) (sym n)
spread-last from (x ∷ []) (suc i) y d c l e h = (cc)
spread-last from (x ∷ z ∷ zs) zero y d c l e h = (cc)
spread-last from (x ∷ z ∷ zs) (suc i) y d c l e h =
    behind from y.end x y.who (z ∷ zs) (set (z ∷ zs) i y) c.0
    (spread-last x.end (z ∷ zs) i y d c.2 (omega arith) e (omega (arith, length-spread from x (z ∷ zs) c.0)))

cut-last : (from : ℕ) (xs : List OriginPiece) (i : ℕ) (y d : OriginPiece) → IsCut from xs → suc i ≡ length xs → (get_or xs i d).who ≡ y.who
    → from + length (spread from xs) < y.end → IsCut from (set xs i y)
cut-last from [] i y d c l e h = (cc)
cut-last from (x ∷ []) zero y d c l e h = (omega (arith, length-spread from x [] c.0), tt, tt)
cut-last from (x ∷ []) (suc i) y d c l e h = (cc)
cut-last from (x ∷ z ∷ zs) zero y d c l e h = (cc)
cut-last from (x ∷ z ∷ zs) (suc zero) y d c l e h =
    (c.0, λ same. c.1 (same ∙ sym e), cut-last x.end (z ∷ zs) zero y d c.2 (omega arith) e (omega (arith, length-spread from x (z ∷ zs) c.0)))
cut-last from (x ∷ z ∷ zs) (suc (suc i)) y d c l e h =
    (c.0, c.1, cut-last x.end (z ∷ zs) (suc i) y d c.2 (omega arith) e (omega (arith, length-spread from x (z ∷ zs) c.0)))

-- a place among equal origins, or behind them
inside-replicate : (n k : ℕ) (w : Origin) (zs : List Origin) → k < n → slice_get (replicate n w ++ zs) k ≡ Some w
inside-replicate zero k w zs h = absurd (omega arith)
inside-replicate (suc n) zero w zs h = refl
inside-replicate (suc n) (suc k) w zs h = inside-replicate n k w zs (omega arith)

behind-replicate : (n k : ℕ) (w : Origin) (zs : List Origin) → slice_get (replicate n w ++ zs) (n + k) ≡ slice_get zs k
behind-replicate zero k w zs = ap (slice_get zs) (omega arith)
behind-replicate (suc n) k w zs =
    let e : suc n + k ≡ suc (n + k) = omega arith in
    ap (slice_get (replicate (suc n) w ++ zs)) e ∙ behind-replicate n k w zs

at_piece : (from p : ℕ) (x : OriginPiece) (zs : List Origin) (b : Bool) (rest : Option Origin) → nat_lt p x.end ≡ b → from < x.end → from ≤ p
    → (x.end ≤ p → slice_get zs (p - x.end) ≡ rest)
    → slice_get (replicate (x.end - from) x.who ++ zs) (p - from) ≡ cond b (Some x.who) rest
at_piece from p x zs true rest e h k f = inside-replicate (x.end - from) (p - from) x.who zs (grind (arith, nat_tests))
at_piece from p x zs false rest e h k f =
    let past : x.end ≤ p = grind (arith, nat_tests) in
    ap (slice_get (replicate (x.end - from) x.who ++ zs)) (omega arith)
    ∙ behind-replicate (x.end - from) (p - x.end) x.who zs
    ∙ f past

-- the origin at a place is that of its piece
pub spread-at : (from p : ℕ) (xs : List OriginPiece) → IsCut from xs → from ≤ p → slice_get (spread from xs) (p - from) ≡ origin_in p xs
spread-at from p [] c h = refl
spread-at from p (x ∷ xs) c h = at_piece from p x (spread x.end xs) (nat_lt p x.end) (origin_in p xs) refl c.0 h (λ k. spread-at x.end p xs c.2 k)

rising : (from : ℕ) (xs : List OriginPiece) (i : ℕ) (d : OriginPiece) → IsCut from xs → i < length xs → from < (get_or xs i d).end
rising from [] i d c l = absurd (omega arith)
rising from (x ∷ xs) zero d c l = c.0
rising from (x ∷ xs) (suc i) d c l = omega (arith, rising x.end xs i d c.2 (omega arith), c.0)

-- pieces that end up to p don't have it
pub origin_of-drop : (from p : ℕ) (xs : List OriginPiece) (i : ℕ) (d : OriginPiece) → IsCut from xs → i < length xs → (get_or xs i d).end ≤ p
    → origin_in p (drop (suc i) xs) ≡ origin_in p xs
origin_of-drop from p [] i d c l h = absurd (omega arith)
origin_of-drop from p (x ∷ xs) zero d c l h = grind (arith, nat_tests)
origin_of-drop from p (x ∷ xs) (suc i) d c l h =
    let first : x.end < (get_or xs i d).end = rising x.end xs i d c.2 (omega arith) in
    grind (arith, nat_tests, origin_of-drop x.end p xs i d c.2 (omega arith) h)

-- the piece at place i has p, if it goes past p and no piece before it does
pub found-here : (p i : ℕ) (x : OriginPiece) (xs : List OriginPiece) → IsPieceAt xs i x → i < length xs → p < x.end → Some x.who ≡ origin_in p (drop i xs)
found-here p i x xs at l h =
    let split : drop i xs ≡ x ∷ drop (i + 1) xs = drop_more xs i x l ∙ ap (λ y. y ∷ drop (i + 1) xs) (sym (at x)) in
    first x (drop (i + 1) xs) h ∙ ap (origin_in p) (sym split)
  where
    first : (y : OriginPiece) (ys : List OriginPiece) → p < y.end → Some y.who ≡ origin_in p (y ∷ ys)
    first y ys g = grind (arith, nat_tests)

-- it is behind the piece at place i, if that doesn't go past p
pub found-behind : (p i : ℕ) (x : OriginPiece) (xs : List OriginPiece) → IsCut 0 xs → IsPieceAt xs i x → i < length xs → x.end ≤ p
    → origin_in p (drop (i + 1) xs) ≡ origin_in p xs
found-behind p i x xs c at l h =
    let next : i + 1 ≡ suc i = omega arith in
    let past : (get_or xs i x).end ≤ p = subst (λ (y : OriginPiece). y.end ≤ p) (at x) h in
    ap (λ j. origin_in p (drop j xs)) next ∙ origin_of-drop 0 p xs i x c l past

-- a last piece that is longer, or one piece more
pub appended-last : (xs : List OriginPiece) (i : ℕ) (y d : OriginPiece) → IsCut 0 xs → suc i ≡ length xs → (get_or xs i d).who ≡ y.who → length (spread 0 xs) < y.end
    → AddsCharacters xs (set xs i y) y.end y.who
appended-last xs i y d c l e h =
    let none : 0 + length (spread 0 xs) ≡ length (spread 0 xs) = omega arith in
    record {
      cut = cut-last 0 xs i y d c l e (omega arith);
      origins = spread-last 0 xs i y d c l e (omega arith) ∙ ap (λ n. spread 0 xs ++ replicate (y.end - n) y.who) none;
    }

pub appended-push : (xs : List OriginPiece) (y : OriginPiece) → IsCut 0 xs → IsOtherLast xs y.who → length (spread 0 xs) < y.end → AddsCharacters xs (xs ++ y ∷ []) y.end y.who
appended-push xs y c o h =
    let none : 0 + length (spread 0 xs) ≡ length (spread 0 xs) = omega arith in
    record {
      cut = cut-push 0 xs y c o (omega arith);
      origins = spread-push 0 xs y c ∙ ap (λ n. spread 0 xs ++ replicate (y.end - n) y.who) none;
    }

pub no-last : (xs : List OriginPiece) (o : Origin) → length xs ≤ 0 → IsOtherLast xs o
no-last [] o h = tt
no-last (x ∷ xs) o h = absurd (omega arith)

rising_between : (from : ℕ) (xs : List OriginPiece) (i j : ℕ) (d : OriginPiece) → IsCut from xs → i ≤ j → j < length xs → (get_or xs i d).end ≤ (get_or xs j d).end
rising_between from [] i j d c h l = absurd (omega arith)
rising_between from (x ∷ xs) zero zero d c h l = omega arith
rising_between from (x ∷ xs) zero (suc j) d c h l = omega (arith, rising x.end xs j d c.2 (omega arith))
rising_between from (x ∷ xs) (suc i) zero d c h l = absurd (omega arith)
rising_between from (x ∷ xs) (suc i) (suc j) d c h l = rising_between x.end xs i j d c.2 (omega arith) (omega arith)

-- where a piece ends up to p, so do those before it
pub ends_before : (from p : ℕ) (xs : List OriginPiece) (m : ℕ) (e : OriginPiece) → IsCut from xs → m < length xs → (get_or xs m e).end ≤ p
    → (d : OriginPiece) (j : ℕ) → j < m + 1 → (get_or xs j d).end ≤ p
ends_before from p xs m e c l h d j k =
    let same : (get_or xs m d).end ≡ (get_or xs m e).end = ap (λ (x : OriginPiece). x.end) (get_or_default xs m d e l) in
    omega (arith, rising_between from xs j m d c (omega arith) l, same)
