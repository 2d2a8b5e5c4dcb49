-- The texts of authors, name by name.
use Rattle.std.proofs.Common.{◌≡◌, ℕ, zero, suc, ◌+◌, ◌-◌, ◌<◌, ◌≤◌, List, [], ◌∷◌, ◌++◌, Option, Some, None, Ok, drop, length, map, slice_get, refl, sym, ap, ◌∙◌, arith, append_assoc, append-nil, drop-cons}
use Rattle.std.specs.Option.{SomeIff, ok_or}
use Rattle.std.proofs.lemmas.List.{map-append}
use Rattle.std.proofs.lemmas.Option.{get_or_from_slice_get, slice_get_within}
use Rattle.serde_json.specs.Written.{compact_text}
use Rattle.ft_attrib.specs.declared.attribution.Origin.{Origin}
use Rattle.ft_attrib.specs.Runs.{how_many}
use Rattle.ft_attrib.specs.Totals.{is_by}
use Rattle.ft_props.specs.Properties.{Characters}
use Rattle.ft_msg.specs.NameTable.{name_at}
use Rattle.ft_seqr.specs.AnswerTexts.{counted_author, known_authors}

-- the texts of the authors from this connection on, that of the first of these names
abbrev pub texts_from : ℕ → List Characters → List Origin → List (List ℕ)
texts_from conn names os = map compact_text (known_authors conn names os)

names_from : (names : List Characters) (k : ℕ) (name : Characters) → slice_get names k ≡ Some name → drop k names ≡ name ∷ drop (suc k) names
names_from names k name e =
    let inside : k < length names = slice_get_within names k name e in
    drop-cons names k [] inside ∙ ap (λ x. x ∷ drop (suc k) names) (get_or_from_slice_get names k name [] e)

no_names_from : (names : List Characters) (k : ℕ) → slice_get names k ≡ None → drop k names ≡ []
no_names_from [] zero e = refl
no_names_from [] (suc k) e = refl
no_names_from (name ∷ names) zero e = (cc)
no_names_from (name ∷ names) (suc k) e = no_names_from names k e

one_more : (xs ys zs us : List (List ℕ)) → us ≡ xs ++ ys → us ++ zs ≡ xs ++ (ys ++ zs)
one_more xs ys zs us e = ap (λ l. l ++ zs) e ∙ append_assoc xs ys zs

-- the sum that was given where it fits
pub added : {F : Type 0} (o : Option ℕ) (n m : ℕ) (P : Type 0) (fault : F) → SomeIff o P n → Ok m ≡ ok_or o fault → m ≡ n
added None n m P fault h e = (cc)
added (Some x) n m P fault h e = let same : m ≡ x = cc in same ∙ h.1

-- the text of one more author
pub one_author : (names : List Characters) (os : List Origin) (conn after count : ℕ) (name : Characters) (done pushed all : List (List ℕ))
    → 1 ≤ conn → name_at names conn ≡ Some name → after ≡ conn + 1 → count ≡ how_many (is_by conn) os
    → pushed ≡ done ++ map compact_text (counted_author name count)
    → done ++ texts_from conn (drop (conn - 1) names) os ≡ all → pushed ++ texts_from after (drop (after - 1) names) os ≡ all
one_author names os zero after count name done pushed all some found next counted push before = absurd (omega arith)
one_author names os (suc k) after count name done pushed all some found next counted push before =
    let rest : drop (suc k - 1) names ≡ name ∷ drop (suc k) names = ap (λ n. drop n names) (predecessor k) ∙ names_from names k name found in
    let place : after - 1 ≡ suc k = omega arith in
    one_more done (map compact_text (counted_author name count)) (texts_from after (drop (after - 1) names) os) pushed push
    ∙ ap (λ n. done ++ (map compact_text (counted_author name count) ++ texts_from after (drop n names) os)) place
    ∙ ap (λ n. done ++ (map compact_text (counted_author name count) ++ texts_from n (drop (suc k) names) os)) next
    ∙ ap (λ n. done ++ (map compact_text (counted_author name n) ++ texts_from (suc k + 1) (drop (suc k) names) os)) counted
    ∙ ap (λ l. done ++ l) (sym (map-append compact_text (counted_author name (how_many (is_by (suc k)) os)) (known_authors (suc k + 1) (drop (suc k) names) os)))
    ∙ ap (λ ns. done ++ texts_from (suc k) ns os) (sym rest)
    ∙ before
  where
    predecessor : (n : ℕ) → suc n - 1 ≡ n
    predecessor n = omega arith

-- there are no more authors
pub last_author : (names : List Characters) (os : List Origin) (conn : ℕ) (done all : List (List ℕ))
    → 1 ≤ conn → name_at names conn ≡ None → done ++ texts_from conn (drop (conn - 1) names) os ≡ all → done ≡ all
last_author names os zero done all some found before = absurd (omega arith)
last_author names os (suc k) done all some found before =
    let rest : drop (suc k - 1) names ≡ [] = ap (λ n. drop n names) (predecessor k) ∙ no_names_from names k found in
    sym (append-nil done) ∙ ap (λ ns. done ++ texts_from (suc k) ns os) (sym rest) ∙ before
  where
    predecessor : (n : ℕ) → suc n - 1 ≡ n
    predecessor n = omega arith
