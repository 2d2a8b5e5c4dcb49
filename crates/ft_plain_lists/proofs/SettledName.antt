-- Where an end goes, as a loop over a list finds it, which keeps names and not elements.
use Rattle.std.proofs.Common.{◌≡◌, Bool, true, false, cond, List, [], ◌∷◌, Option, Some, None, refl, arith, find, option_map}
use Rattle.std.specs.Option.{option_or}
use Rattle.ft_base.specs.Scan.{settled, settled_after}
use Rattle.ft_props.specs.Element.{ElementId, ListElement, id}

-- where an end goes, where `last` is the last element before the list that is ok
abbrev pub settled_name_after : (ListElement → Bool) → (ListElement → Bool) → Option ElementId → List ListElement → Option ElementId
settled_name_after is ok last [] = None
settled_name_after is ok last (e ∷ xs) =
    cond (is e) (option_or (option_map id (find ok (e ∷ xs))) last) (settled_name_after is ok (cond (ok e) (Some (id e)) last) xs)

map-or : (a b : Option ListElement) → option_map id (option_or a b) ≡ option_or (option_map id a) (option_map id b)
map-or None b = refl
map-or (Some x) b = refl

map-last : (b : Bool) (e : ListElement) (last : Option ListElement) → option_map id (cond b (Some e) last) ≡ cond b (Some (id e)) (option_map id last)
map-last true e last = refl
map-last false e last = refl

module _ (is ok : ListElement → Bool) where
  named-after : (last : Option ListElement) (xs : List ListElement)
      → option_map id (settled_after is ok last xs) ≡ settled_name_after is ok (option_map id last) xs
  named-after last [] = refl
  named-after last (e ∷ xs) =
      grind (arith, map-or (find ok (e ∷ xs)) last, map-last (ok e) e last, named-after (cond (ok e) (Some e) last) xs)

  pub settled_by_name : (xs : List ListElement) → option_map id (settled is ok xs) ≡ settled_name_after is ok None xs
  settled_by_name xs = named-after None xs

  -- at the element that is meant the end goes to the first one from there on that is ok, else to the last one before
  pub settled-found : (last : Option ElementId) (e : ListElement) (xs ys : List ListElement) → ys ≡ e ∷ xs → true ≡ is e
      → settled_name_after is ok last ys ≡ option_or (option_map id (find ok ys)) last
  settled-found last e xs ys at_front meant = grind arith
