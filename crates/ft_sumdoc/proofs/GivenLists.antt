-- What is left out of an object where it is empty.
use Rattle.std.proofs.Common.{◌≡◌, List, [], ◌∷◌, Some, refl}
use Rattle.std.specs.List.{AllByRecursion}
use Rattle.std.specs.Prelude.{⊤}
use Rattle.serde_json.specs.Data.{array}
use Rattle.ft_op.specs.Written.{written_items}
use Rattle.ft_props.specs.Properties.{PropertyList}
use Rattle.ft_sumdoc.specs.declared.summary.Mark.{Mark}
use Rattle.ft_sumdoc.specs.Written.{given_marks, given_props, written_mark, written_props}

-- removals that there are
pub some_marks : (ms : List Mark) → (ms ≡ [] → ⊥) → given_marks ms ≡ Some (array (written_items written_mark ms))
some_marks [] h = absurd (h refl)
some_marks (m ∷ ms) h = refl

-- properties that there are
pub some_props : (ps : PropertyList) → (ps ≡ [] → ⊥) → given_props ps ≡ Some (written_props ps)
some_props [] h = absurd (h refl)
some_props (p ∷ ps) h = refl

-- nothing is asked of any item
pub nothing_asked : {A : Type 0} (xs : List A) → AllByRecursion (λ _. ⊤) xs
nothing_asked [] = tt
nothing_asked (x ∷ xs) = (tt, nothing_asked xs)
