-- Values that are kept under their names: where a name stands, and how one comes in or changes.
use Rattle.std.proofs.Common.{◌≡◌, ℕ, zero, suc, ◌+◌, false, cond, List, [], ◌∷◌, ◌++◌, Some, String, Global, string_bytes, position, chars, bytes_eq, slice_get, refl, sym, ap, ◌∙◌}
use Rattle.std.proofs.Math.ListN.{set}
use Rattle.std.proofs.lemmas.Bool.{or_parts}
use Rattle.std.proofs.lemmas.Iterator.Adapters.{position_from-zero}
use Rattle.std.proofs.lemmas.Str.{IsUtf8-string_bytes}
use Rattle.std.specs.Cmp.Lexicographic.{nat_list_eq_equiv}
use Rattle.std.specs.List.{list_any, position_from}
use Rattle.std.specs.Map.{keys_of, values_of}
use Rattle.std.specs.Str.{IsUtf8}
use Rattle.std.specs.String.{string_eq}
use Rattle.indexmap.specs.IndexMap.{insert_entry, set_value_at}
use Rattle.ft_msg.proofs.NameLemmas.{has_bytes, has_bytes-name}
use Rattle.ft_delivery.specs.Kept.{AreUnderNames, is_named}

-- a change of a value in its place
pub values-set : {X : Type 0} (i : ℕ) (w : X) (es : List (String Global × X)) → values_of (set_value_at es i w) ≡ set (values_of es) i w
values-set i w [] = refl
values-set zero w (e ∷ es) = refl
values-set (suc i) w (e ∷ es) = ap (λ xs. e.1 ∷ xs) (values-set i w es)

module _ {X : Type 0} (name_of : X → List ℕ) where
  same-name : (bs name : List ℕ) (e : String Global × X) → IsUtf8 bs → chars bs ≡ name → chars (string_bytes e.0) ≡ name_of e.1
      → has_bytes bs e.0 ≡ bytes_eq name (name_of e.1)
  same-name bs name e utf8 is spelled =
      has_bytes-name bs (e.0, name_of e.1) utf8 spelled ∙ ap (bytes_eq (name_of e.1)) is ∙ nat_list_eq_equiv.symm (name_of e.1) name

  place-from : (bs name : List ℕ) → IsUtf8 bs → chars bs ≡ name → (k : ℕ) (es : List (String Global × X)) → AreUnderNames name_of es
      → position_from (has_bytes bs) k (keys_of es) ≡ position_from (is_named name_of name) k (values_of es)
  place-from bs name utf8 is k [] h = refl
  place-from bs name utf8 is k (e ∷ es) h = λ j. cond (same-name bs name e utf8 is h.0 j) (Some k) (place-from bs name utf8 is (k + 1) es h.1 j)

  -- the place of a name
  pub place-under : (bs name : List ℕ) → IsUtf8 bs → chars bs ≡ name → (es : List (String Global × X)) → AreUnderNames name_of es
      → position (has_bytes bs) (keys_of es) ≡ position (is_named name_of name) (values_of es)
  place-under bs name utf8 is es h =
      position_from-zero (has_bytes bs) (keys_of es)
      ∙ place-from bs name utf8 is 0 es h
      ∙ sym (position_from-zero (is_named name_of name) (values_of es))

  -- one goes last whose name no other has
  pub entries-more : (k : String Global) (name : List ℕ) → chars (string_bytes k) ≡ name → (v : X) (es : List (String Global × X)) → AreUnderNames name_of es
      → list_any (is_named name_of name) (values_of es) ≡ false → insert_entry string_eq es k v ≡ es ++ (k, v) ∷ []
  entries-more k name is v [] h free = refl
  entries-more k name is v (e ∷ es) h free =
      let (first, rest) = or_parts (bytes_eq name (name_of e.1)) (list_any (is_named name_of name) (values_of es)) free in
      let other : has_bytes (string_bytes k) e.0 ≡ false = same-name (string_bytes k) name e (IsUtf8-string_bytes k) is h.0 ∙ first in
      λ j. cond (other j) ((e.0, v) ∷ es) (e ∷ entries-more k name is v es h.1 rest j)

  -- and is kept under its name then
  pub under-more : (k : String Global) (v : X) → chars (string_bytes k) ≡ name_of v → (es : List (String Global × X)) → AreUnderNames name_of es → AreUnderNames name_of (es ++ (k, v) ∷ [])
  under-more k v is [] h = (is, tt)
  under-more k v is (e ∷ es) h = (h.0, under-more k v is es h.1)

  -- one that changes in its place keeps its name
  pub under-set : (i : ℕ) (v w : X) (es : List (String Global × X)) → slice_get (values_of es) i ≡ Some v → name_of w ≡ name_of v → AreUnderNames name_of es
      → AreUnderNames name_of (set_value_at es i w)
  under-set i v w [] at same h = h
  under-set zero v w (e ∷ es) at same h = let is : e.1 ≡ v = (cc) in (h.0 ∙ ap name_of is ∙ sym same, h.1)
  under-set (suc i) v w (e ∷ es) at same h = (h.0, under-set i v w es at same h.1)
