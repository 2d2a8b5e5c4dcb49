-- Where the first LF of some bytes stands, as a search tells it.
use Rattle.std.proofs.Common.{◌≡◌, ℕ, zero, suc, ◌+◌, ◌<◌, true, List, [], ◌∷◌, ◌++◌, Some, None, length, take, drop, get_or, refl, sym, ◌∙◌, ap, arith}
use Rattle.std.proofs.lemmas.Bool.{eqb-true}
use Rattle.std.proofs.lemmas.List.{take-append-drop, drop_more, get_or-take, length-take}
use Rattle.memchr.specs.Find.{IsFirstByte, is_byte}
use Rattle.ft_io.specs.Lines.{lf, is_lf, IsUnbroken}

-- no byte ends a line, where none does by index
pub unbroken_by_index : (bytes : List ℕ) → ((k : ℕ) → k < length bytes → is_lf (get_or bytes k 0) ≡ true → ⊥) → IsUnbroken bytes
unbroken_by_index [] none = refl
unbroken_by_index (byte ∷ bytes) none =
    let later = unbroken_by_index bytes (λ k below. none (suc k) (omega arith)) in
    let first : is_lf byte ≡ true → ⊥ = none zero (omega arith) in
    grind (arith, later, first)

-- a search that found none
pub unbroken_none : (bytes : List ℕ) → IsFirstByte (is_byte lf) bytes None → IsUnbroken bytes
unbroken_none bytes none = unbroken_by_index bytes (λ k below. none k (omega arith) below)

-- the place that a search found
pub record FirstLf (bytes : List ℕ) (at : ℕ) : Type 0 where
  pub place : bytes ≡ take at bytes ++ lf ∷ drop (at + 1) bytes
  pub unbroken : IsUnbroken (take at bytes)
  pub within : at < length bytes

pub first_lf : (bytes : List ℕ) (at : ℕ) → IsFirstByte (is_byte lf) bytes (Some at) → FirstLf bytes at
first_lf bytes at found =
    let within : at < length bytes = found.0.high in
    let is : get_or bytes at 0 ≡ lf = eqb-true _ _ found.1 in
    let rest : drop at bytes ≡ lf ∷ drop (at + 1) bytes = drop_more bytes at 0 within ∙ ap (λ byte. byte ∷ drop (at + 1) bytes) is in
    record {
      place = sym (take-append-drop at bytes) ∙ ap (λ r. take at bytes ++ r) rest;
      unbroken = unbroken_by_index (take at bytes) (λ k below.
          let low : k < at = omega (arith, below, length-take at bytes) in
          let same = get_or-take at bytes k 0 low in
          λ ends. found.0.before k (omega arith) low (ap is_lf (sym same) ∙ ends));
      within = within;
    }
