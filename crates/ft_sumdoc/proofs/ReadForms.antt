-- What lists, values and properties that are written are read as.
use Rattle.std.proofs.Common.{◌≡◌, true, false, List, [], ◌∷◌, map, Option, Some, Result, Ok, Err, refl, arith}
use Rattle.std.specs.Prelude.{is_some}
use Rattle.std.specs.List.{AllByRecursion}
use Rattle.serde_json.specs.Find.{as_null}
use Rattle.ft_json.specs.Canonical.{canonical, IsTextWithin, value_of}
use Rattle.ft_json.proofs.Back.{StandsFor-IsTextWithin}
use Rattle.ft_props.specs.Properties.{Characters, PropertyList, ValueBytes}
use Rattle.ft_op.specs.Faults.{value_fault}
use Rattle.ft_op.specs.Reading.{kept_value, read_each, read_named, with_fault}
use Rattle.ft_op.specs.Representable.{KeysAreTexts}
use Rattle.ft_op.proofs.ReadProperties.{kept_again, named, not_null, pairs_written}
use Rattle.ft_sumdoc.specs.Forms.{each_of, has_no_null, props_form}
use Rattle.ft_sumdoc.specs.Valid.{HasValues, IsValue}
use Rattle.ft_sumdoc.specs.Values.{kept_props}
use Rattle.ft_sumdoc.specs.Written.{written_props}

-- ---- lists

pub each_of_back : {A B C : Type 0} (form : B → Option C) (written : A → B) (given : A → C) (P : A → Type 0) → ((x : A) → P x → form (written x) ≡ Some (given x)) → (xs : List A) → AllByRecursion P xs
    → each_of form (map written xs) ≡ Some (map given xs)
each_of_back form written given P f [] h = refl
each_of_back form written given P f (x ∷ xs) h = rw (f x h.0, each_of_back form written given P f xs h.1)

pub read_each_back : {A B F : Type 0} (reads : B → Result A F) (given : A → B) (P : A → Type 0) → ((x : A) → P x → reads (given x) ≡ Ok x) → (xs : List A) → AllByRecursion P xs
    → read_each reads (map given xs) ≡ Ok xs
read_each_back reads given P f [] h = refl
read_each_back reads given P f (x ∷ xs) h = rw (f x h.0, read_each_back reads given P f xs h.1)

-- ---- values

pub ok_before : {A F G : Type 0} (fault_of : F → G) (r : Result A F) (x : A) → with_fault fault_of r ≡ Ok x → r ≡ Ok x
ok_before fault_of (Ok y) x h = cc
ok_before fault_of (Err fault) x h = (cc)

-- the value of a kept text is kept as that text
pub canonical_again : (v : ValueBytes) → IsTextWithin 100 v → canonical (value_of v) ≡ Ok v
unfolding kept_value
canonical_again v h = ok_before value_fault (canonical (value_of v)) v (kept_again v h)

pub value_not_null : (v : ValueBytes) → IsValue v → is_some (as_null (value_of v)) ≡ false
value_not_null v h = not_null (value_of v) v (StandsFor-IsTextWithin 100 v (omega arith) h.0).spells h.1

-- ---- properties

named_back : (p : Characters × ValueBytes) → IsValue p.1 → read_named (λ _ d. canonical d) (named value_of p) ≡ Ok p
named_back p h = rw (canonical_again p.1 h.0)

pub kept_props_back : (props : PropertyList) → HasValues props → kept_props (map (named value_of) props) ≡ Ok props
kept_props_back props h = read_each_back (read_named (λ _ d. canonical d)) (named value_of) (λ p. IsValue p.1) named_back props h

no_nulls : (props : PropertyList) → HasValues props → has_no_null (map (named value_of) props) ≡ true
no_nulls [] h = refl
no_nulls (p ∷ props) h = rw (value_not_null p.1 h.0, no_nulls props h.1)

pub props_form_back : (props : PropertyList) → KeysAreTexts props → HasValues props → props_form (written_props props) ≡ Some (map (named value_of) props)
props_form_back props texts h = rw (pairs_written value_of props texts, no_nulls props h)
