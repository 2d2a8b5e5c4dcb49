use Rattle.std.proofs.Common.{◌≡◌, ℕ, zero, suc, ◌∷◌, map, replicate, refl, ◌∙◌, ap}
use Rattle.ft_plain_lists.specs.declared.elements.Content.TheVariants.{Unit as UnitOf}
use Rattle.ft_plain_lists.specs.Contents.{content_of}
use Rattle.ft_plain_lists.proofs.scans.units.Goals as goal

-- so many equal values, each changed alike
map-replicate : {A B : Type 0} (f : A → B) (x : A) (n : ℕ) → map f (replicate n x) ≡ replicate n (f x)
map-replicate f x zero = refl
map-replicate f x (suc n) = ap (λ xs. f x ∷ xs) (map-replicate f x n)

pub returns : goal.returns
returns c =
    let same = c.in_ok-vec.ensures.items_if_clones_equal (λ y h. h) in
    ap (map content_of) same ∙ map-replicate content_of UnitOf c.args.count
