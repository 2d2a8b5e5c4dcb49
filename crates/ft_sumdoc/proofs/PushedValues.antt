-- Values that are pushed one after another.
use Rattle.std.proofs.Common.{◌≡◌, ◌∙◌, List, [], ◌∷◌, ◌++◌, map, ap, ap₂}
use Rattle.std.proofs.lemmas.List.{map-append}
use Rattle.serde_json.specs.Data.{Data}
use Rattle.serde_json.specs.View.{view}
use Rattle.serde_json.specs.declared.value.Value.{Value}

-- one more value is pushed
pub pushed : (old new : List Value) (v : Value) (ds : List Data) (d : Data) → new ≡ old ++ v ∷ [] → map view old ≡ ds → view v ≡ d
    → map view new ≡ ds ++ d ∷ []
pushed old new v ds d e so_far is = ap (map view) e ∙ map-append view old (v ∷ []) ∙ ap₂ (λ (xs : List Data) x. xs ++ x ∷ []) so_far is
