-- The items and the members of a `Value`, as lists.
use Rattle.std.proofs.Common.{◌≡◌, ◌⊎◌, inl, inr, Bool, List, [], ◌∷◌, ◌++◌, map, String, Global, string_bytes, nat_cmp, refl, sym, ap, ap₂, ◌∙◌, subst, rules}
use Rattle.std.proofs.lemmas.Str.{IsUtf8-string_bytes, encodes-chars}
use Rattle.std.specs.Cmp.Lexicographic.{slice_cmp}
use Rattle.std.specs.List.Sorted.{IsStrictlySortedBy}
use Rattle.std.specs.Map.{keys_of}
use Rattle.std.specs.Prelude.{chars}
use Rattle.std.specs.String.{string_cmp}
use Rattle.serde_json.proofs.Views.{Entry}
use Rattle.serde_json.specs.View.{view, items_view, members_view}
use Rattle.serde_json.specs.declared.value.Value.{Value, Null, the_lemmas}
use Rattle.serde_json.specs.Data.{null, boolean, string}
use Rattle.ft_json.specs.Reading.{listed, paired}
use Rattle.ft_json.specs.Objects.{entry_pairs, NamesRise}
use Rattle.ft_json.proofs.KeyOrder.{slice_cmp-encodes}
use Rattle.ft_json.specs.Canonical.{IsBefore, IsCanonical}

pub listed_items_view : (vs : List Value) → listed (items_view vs) ≡ map view vs
listed_items_view [] = refl
listed_items_view (v ∷ vs) = ap (λ ds. view v ∷ ds) (listed_items_view vs)

pub paired_members_view : (es : List (String Global × Value)) → paired (members_view es) ≡ entry_pairs es
paired_members_view [] = refl
paired_members_view (e ∷ es) = ap (λ ps. (chars (string_bytes e.0), view e.1) ∷ ps) (paired_members_view es)

-- in rising entries each key comes before the next
pub before_next : (done : List Entry) (e : Entry) (left : List Entry) → IsStrictlySortedBy string_cmp (keys_of (done ++ e ∷ left)) → IsBefore (string_bytes e.0) (members_view left)
unfolding IsStrictlySortedBy
before_next [] e [] h = tt
before_next [] e (next ∷ left) h = h.0.0
before_next (first ∷ done) e left h = before_next done e left h.1

view-Null : view Null ≡ null
view-Null = search (rules, the_lemmas)

view-Bool : (b : Bool) → view (Value.Bool b) ≡ boolean b
view-Bool b = search (rules, the_lemmas)

view-String : (s : String Global) → view (Value.String s) ≡ string (string_bytes s)
view-String s = search (rules, the_lemmas)

-- null, a truth value and a text are canonical
pub scalar_is_canonical : (v : Value) → (v ≡ Null) ⊎ (((b : Bool) × (v ≡ Value.Bool b)) ⊎ ((s : String Global) × (v ≡ Value.String s))) → IsCanonical (view v)
scalar_is_canonical v (inl e) = subst IsCanonical (sym (ap view e ∙ view-Null)) tt
scalar_is_canonical v (inr (inl (b, e))) = subst IsCanonical (sym (ap view e ∙ view-Bool b)) tt
scalar_is_canonical v (inr (inr (s, e))) = subst IsCanonical (sym (ap view e ∙ view-String s)) (IsUtf8-string_bytes s)

-- the entries of a map rise by the characters of their keys too
same_order : (k l : String Global) → slice_cmp nat_cmp (chars (string_bytes k)) (chars (string_bytes l)) ≡ string_cmp k l
same_order k l =
    sym (slice_cmp-encodes (chars (string_bytes k)) (chars (string_bytes l)))
    ∙ ap₂ (slice_cmp nat_cmp) (encodes-chars (string_bytes k) (IsUtf8-string_bytes k)) (encodes-chars (string_bytes l) (IsUtf8-string_bytes l))

pub NamesRise-entry_pairs : (es : List Entry) → IsStrictlySortedBy string_cmp (keys_of es) → NamesRise (entry_pairs es)
unfolding IsStrictlySortedBy
NamesRise-entry_pairs [] h = tt
NamesRise-entry_pairs (e ∷ []) h = (tt, tt)
NamesRise-entry_pairs (e ∷ next ∷ es) h = (same_order e.0 next.0 ∙ h.0.0, NamesRise-entry_pairs (next ∷ es) h.1)
