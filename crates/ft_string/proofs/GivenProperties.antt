-- Properties, each set one after another, make the list of them.
use Rattle.std.proofs.Common.{◌≡◌, ℕ, ◌+◌, ◌<◌, [], ◌∷◌, ◌++◌, sym, ◌∙◌, ap, subst, append_assoc, append-nil, length, get_or, map, drop, take}
use Rattle.std.proofs.lemmas.List.{map-append, take-append-drop, take_more}
use Rattle.std.specs.declared.cmp.Ordering.TheVariants.{Less, Greater}
use Rattle.ft_laws_agreement.specs.Sequencing.{Each}
use Rattle.ft_props.specs.Keys.{Characters, IsBeforeKeys, KeysRise, key_cmp, put_rising, text_cmp}
use Rattle.ft_props.specs.Properties.{PropertyList, PropertySet, ValueBytes, apply}
use Rattle.ft_props.proofs.RisingKeys.{text_cmp-back}
use Rattle.ft_string.specs.Loads.{given_property}
use Rattle.ft_string.proofs.PutLast.{each-map, put-last}

before-later : (k : Characters) (front : PropertyList) (p : Characters × ValueBytes) (rest : PropertyList)
    → IsBeforeKeys k (front ++ p ∷ rest) → text_cmp k p.0 ≡ Less
before-later k [] p rest h = h.0
before-later k (d ∷ front) p rest h = before-later k front p rest h.1

all-before : (front : PropertyList) (p : Characters × ValueBytes) (rest : PropertyList) → KeysRise (front ++ p ∷ rest)
    → Each (λ d. text_cmp p.0 d.0 ≡ Greater) front
all-before [] p rest h = tt
all-before (d ∷ front) p rest h = (text_cmp-back d.0 p.0 (before-later d.0 front p rest h.0), all-before front p rest h.1)

-- one more as a set has them
put-given : (front : PropertyList) (p : Characters × ValueBytes) (rest : PropertyList) → KeysRise (front ++ p ∷ rest)
    → put_rising key_cmp (given_property p) (map given_property front) ≡ map given_property (front ++ p ∷ [])
put-given front p rest h =
    put-last key_cmp (given_property p) (map given_property front)
    (each-map given_property (λ d. key_cmp (given_property p) d ≡ Greater) front (all-before front p rest h))
    ∙ sym (map-append given_property front (p ∷ []))

-- what a set makes
applied : (front rest : PropertyList) → KeysRise (front ++ rest) → apply front (map given_property rest) ≡ front ++ rest
applied front [] h = sym (append-nil front)
applied front (p ∷ rest) h =
    ap (λ ps. apply ps (map given_property rest)) (put-last key_cmp p front (all-before front p rest h))
    ∙ applied (front ++ p ∷ []) rest (subst (λ ps. KeysRise ps) (sym (append_assoc front (p ∷ []) rest)) h)
    ∙ append_assoc front (p ∷ []) rest

pub set-makes : (props : PropertyList) → KeysRise props → apply [] (map given_property props) ≡ props
set-makes props h = applied [] props h

-- the set so far, as a loop makes it
pub set-next : (props : PropertyList) (i : ℕ) (p : Characters × ValueBytes) (old new : PropertySet) → KeysRise props → i < length props → p ≡ get_or props i p
    → old ≡ map given_property (take i props) → new ≡ put_rising key_cmp (given_property p) old → new ≡ map given_property (take (i + 1) props)
set-next props i p old new rise l e so_far step =
    let next : take (i + 1) props ≡ take i props ++ p ∷ [] = take_more props i p l ∙ ap (λ q. take i props ++ q ∷ []) (sym e) in
    let whole : (take i props ++ p ∷ []) ++ drop (i + 1) props ≡ props = ap (λ ps. ps ++ drop (i + 1) props) (sym next) ∙ take-append-drop (i + 1) props in
    step ∙ ap (put_rising key_cmp (given_property p)) so_far
    ∙ put-given (take i props) p (drop (i + 1) props) (subst (λ ps. KeysRise ps) (sym whole ∙ append_assoc (take i props) (p ∷ []) (drop (i + 1) props)) rise)
    ∙ ap (map given_property) (sym next)
