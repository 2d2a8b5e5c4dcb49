-- Characters as contents are those of the definitions.
use Rattle.std.proofs.Common.{◌≡◌, ℕ, List, [], ◌∷◌, map, refl, ap}
use Rattle.ft_props.specs.Element.{Character as CharacterOf}
use Rattle.ft_plain_lists.specs.declared.elements.Content.TheVariants.{Character}
use Rattle.ft_plain_lists.specs.Contents.{content_of}

pub map-characters : (text : List ℕ) → map content_of (map (λ c. Character c) text) ≡ map (λ c. CharacterOf c) text
map-characters [] = refl
map-characters (c ∷ cs) = ap (λ xs. CharacterOf c ∷ xs) (map-characters cs)
