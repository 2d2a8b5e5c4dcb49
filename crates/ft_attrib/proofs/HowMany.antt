-- How many origins of a list that is put together pass a test.
use Rattle.std.proofs.Common.{◌≡◌, ◌≢◌, ◌∙◌, ℕ, zero, suc, ◌+◌, ◌≤◌, Bool, true, false, cond, List, [], ◌∷◌, ◌++◌, length, replicate, refl, ap, arith}
use Rattle.ft_attrib.specs.declared.attribution.Origin.{Origin}
use Rattle.std.proofs.lemmas.List.{length-replicate}
use Rattle.ft_attrib.specs.Runs.{how_many, same_origin}
use Rattle.ft_attrib.proofs.RunLaws.{same_origin-other, same_origin-self}

pub how_many-append : (test : Origin → Bool) (xs ys : List Origin) → how_many test (xs ++ ys) ≡ how_many test xs + how_many test ys
how_many-append test [] ys = omega arith
how_many-append test (x ∷ xs) ys = grind (arith, how_many-append test xs ys)

how_many-length : (test : Origin → Bool) (xs : List Origin) → how_many test xs ≤ length xs
how_many-length test [] = omega arith
how_many-length test (x ∷ xs) = grind (arith, how_many-length test xs)

one_more : (test : Origin → Bool) (o : Origin) (xs : List Origin) (b : Bool) → test o ≡ b → how_many test (o ∷ xs) ≡ cond b (suc (how_many test xs)) (how_many test xs)
one_more test o xs b h = grind (arith, h)

pub how_many-same : (n : ℕ) (o : Origin) → how_many (same_origin o) (replicate n o) ≡ n
how_many-same zero o = refl
how_many-same (suc n) o = one_more (same_origin o) o (replicate n o) true (same_origin-self o) ∙ ap suc (how_many-same n o)

pub how_many-other : (n : ℕ) (o w : Origin) → o ≢ w → how_many (same_origin o) (replicate n w) ≡ 0
how_many-other zero o w h = refl
how_many-other (suc n) o w h = one_more (same_origin o) w (replicate n w) false (same_origin-other o w h) ∙ how_many-other n o w h

-- those of a list and of n equal origins more are at most all of them
pub counts-fit : (test : Origin → Bool) (xs : List Origin) (n : ℕ) (o : Origin) → how_many test xs + how_many test (replicate n o) ≤ length xs + n
counts-fit test xs n o = omega (arith, how_many-length test xs, how_many-length test (replicate n o), length-replicate n o)
