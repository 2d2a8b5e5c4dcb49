-- The whole number that the compact text of a value writes, by parsing it.
use Rattle.std.proofs.Common.{◌≡◌, ℕ, ◌^◌, ◌<◌, ◌≤◌, pos, negsuc, List, [], ◌∷◌, ◌++◌, Bool, true, false, Option, Some, None, option_and_then, option_map, unwrap_or, Result, Ok, Err, IsErr, ℤ, decimal, refl, sym, ap, ◌∙◌, arith, subst, inl, inr, ltb-true, lt-ltb, le-ltb, w64}
use Rattle.std.proofs.lemmas.Bool.{false≢true, cases_lt}
use Rattle.std.proofs.lemmas.Fmt.{parse-signed_decimal, decimal_is_IsNumeral, decimal_nonempty}
use Rattle.std.proofs.lemmas.Result.{Ok-from_Ok_iff, IsErr-from_ok_iff}
use Rattle.std.proofs.lemmas.Str.Parse.{parse_signed_digits, numerals_by_value, tells_digits}
use Rattle.std.specs.Char.{digit_value}
use Rattle.std.specs.Result.{result_ok}
use Rattle.std.specs.Str.Parse.{AllDigits, IsNumeral, ParsesSigned, without_leading_sign}
use Rattle.json.specs.Json as json
use Rattle.json.specs.Lex.{tokens}
use Rattle.json.specs.Print.{escape}
use Rattle.json.specs.Token.{Token}
use Rattle.json.specs.Tree as tree
use Rattle.json.proofs.Grammar.{value-begin_array, value-begin_object}
use Rattle.serde_json.specs.Data.{Num, unsigned, negative, float, Data, null, boolean, number, string, array, object, Items, Members, no_members, depth}
use Rattle.serde_json.specs.Find.{as_i64, as_number}
use Rattle.serde_json.specs.Read.{of_json, of_items, of_members, max_depth}
use Rattle.serde_json.specs.Written.{compact_text, items_text, members_text, items_outline, members_outline}
use Rattle.ft_json.specs.Canonical.{is_whole, IsCanonical, IsCanonicalText, value_of}
use Rattle.ft_json.proofs.Back.{read-compact_text, tokens-compact_text}

-- what is read of a text as a number of 64 bits
abbrev pub integer : Data → Option ℤ
integer d = option_and_then as_i64 (as_number d)

none_from_err : {E : Type 0} (r : Result ℤ E) → IsErr r → result_ok r ≡ None
none_from_err (Ok z) e = absurd (false≢true e)
none_from_err (Err x) e = refl

unsigned_text : {E : Type 0} (n : ℕ) (r : Result ℤ E) → n < 2 ^ 64 → ParsesSigned w64 10 (decimal n) r → result_ok r ≡ as_i64 (unsigned n)
unsigned_text n r small parses =
    let numeral = decimal_is_IsNumeral n small in
    let told = parse_signed_digits (numerals_by_value (AllDigits 10) tells_digits) w64 (decimal n) r parses numeral.0.1 in
    elim (cases_lt n (2 ^ 63)) [
      | inl less ↦
          let parsed = Ok-from_Ok_iff r _ _ told (decimal_nonempty n small, omega (arith, numeral.1)) in
          ap result_ok parsed ∙ ap (λ x. Some (pos x)) numeral.1 ∙ sym (rw (lt-ltb n (2 ^ 63) less) refl)
      | inr more ↦ none_from_err r (IsErr-from_ok_iff r _ _ told (λ p. omega (arith, numeral.1, p.1))) ∙ sym (rw (le-ltb n (2 ^ 63) more) refl)
    ]

negative_text : {E : Type 0} (n : ℕ) (r : Result ℤ E) → n < 2 ^ 63 → ParsesSigned w64 10 (compact_text (number (negative (negsuc n)))) r → result_ok r ≡ Some (negsuc n)
negative_text n r small parses = ap result_ok (parse-signed_decimal w64 (negsuc n) _ r (record { sfits = small }) small refl parses)

number_text : {E : Type 0} (n : Num) (r : Result ℤ E) → is_whole n ≡ true → ParsesSigned w64 10 (compact_text (number n)) r → result_ok r ≡ as_i64 n
number_text (unsigned n) r h parses = unsigned_text n r (ltb-true _ _ h) parses
number_text (negative (pos n)) r h parses = absurd (false≢true h)
number_text (negative (negsuc n)) r h parses = negative_text n r (ltb-true _ _ h) parses
number_text (float x) r h parses = absurd (false≢true h)

-- a text that begins with neither a sign nor a digit
other_text : {E : Type 0} (x : ℕ) (xs : List ℕ) (r : Result ℤ E) → without_leading_sign (x ∷ xs) ≡ x ∷ xs → 10 ≤ digit_value x → ParsesSigned w64 10 (x ∷ xs) r → result_ok r ≡ None
other_text x xs r no_sign no_digit parses =
    none_from_err r (IsErr-from_ok_iff r _ _ parses (λ p. let digits = subst (IsNumeral 10) no_sign p.0 in omega (arith, digits.1.0)))

boolean_text : {E : Type 0} (b : Bool) (r : Result ℤ E) → ParsesSigned w64 10 (compact_text (boolean b)) r → result_ok r ≡ None
boolean_text true r parses = other_text 116 (114 ∷ 117 ∷ 101 ∷ []) r refl (omega arith) parses
boolean_text false r parses = other_text 102 (97 ∷ 108 ∷ 115 ∷ 101 ∷ []) r refl (omega arith) parses

integer_text : {E : Type 0} (d : Data) (r : Result ℤ E) → IsCanonical d → ParsesSigned w64 10 (compact_text d) r → result_ok r ≡ integer d
integer_text null r h parses = other_text 110 (117 ∷ 108 ∷ 108 ∷ []) r refl (omega arith) parses
integer_text (boolean b) r h parses = boolean_text b r parses
integer_text (number n) r h parses = number_text n r h parses
integer_text (string s) r h parses = other_text 34 (escape s ++ 34 ∷ []) r refl (omega arith) parses
integer_text (array ds) r h parses = other_text 91 (items_text false ds) r refl (omega arith) parses
integer_text (object ms) r h parses = other_text 123 (members_text false ms) r refl (omega arith) parses

-- ---- however deep the value is, an array or an object reads as no number

no_items_number : (o : Option Items) → integer (unwrap_or (option_map array o) null) ≡ None
no_items_number None = refl
no_items_number (Some ds) = refl

no_members_number : (o : Option Members) → integer (unwrap_or (option_map object o) null) ≡ None
no_members_number None = refl
no_members_number (Some ms) = refl

abbrev of_parsed : Option (json.Json × List Token) → Data
of_parsed o = unwrap_or (option_and_then of_json (option_and_then (λ p. json.if_last p.0 p.1) o)) null

array_is_no_number : (o : Option (json.Items × List Token)) → integer (of_parsed (json.parse_map json.array o)) ≡ None
array_is_no_number None = refl
array_is_no_number (Some (js, [])) = no_items_number (of_items js)
array_is_no_number (Some (js, t ∷ ts)) = refl

object_is_no_number : (o : Option (json.Members × List Token)) → integer (of_parsed (json.parse_map json.object o)) ≡ None
object_is_no_number None = refl
object_is_no_number (Some (ms, [])) = no_members_number (of_members ms no_members)
object_is_no_number (Some (ms, t ∷ ts)) = refl

from_array : (v : Option (json.Json × List Token)) (o : Option (json.Items × List Token)) → v ≡ json.parse_map json.array o → integer (of_parsed v) ≡ None
from_array v o e = ap (λ x. integer (of_parsed x)) e ∙ array_is_no_number o

from_object : (v : Option (json.Json × List Token)) (o : Option (json.Members × List Token)) → v ≡ json.parse_map json.object o → integer (of_parsed v) ≡ None
from_object v o e = ap (λ x. integer (of_parsed x)) e ∙ object_is_no_number o

flat_text : (d : Data) → IsCanonical d → depth d ≡ 0 → integer (value_of (compact_text d)) ≡ integer d
flat_text d h flat = ap (λ o. integer (unwrap_or o null)) (read-compact_text d h (omega arith))

integer-value_of : (d : Data) → IsCanonical d → integer (value_of (compact_text d)) ≡ integer d
integer-value_of null h = flat_text null h refl
integer-value_of (boolean b) h = flat_text (boolean b) h refl
integer-value_of (number n) h = flat_text (number n) h refl
integer-value_of (string s) h = flat_text (string s) h refl
integer-value_of (array ds) h =
    from_array (json.value max_depth (tokens (compact_text (array ds)))) (json.items (json.value 126) _ _)
    (ap (json.value max_depth) (tokens-compact_text (array ds) h) ∙ value-begin_array max_depth (tree.items_tokens (items_outline ds)) (omega arith))
integer-value_of (object ms) h =
    from_object (json.value max_depth (tokens (compact_text (object ms)))) (json.members (json.value 126) _ _)
    (ap (json.value max_depth) (tokens-compact_text (object ms) h) ∙ value-begin_object max_depth (tree.members_tokens (members_outline ms)) (omega arith))

pub parsed_text : {E : Type 0} (text : List ℕ) (r : Result ℤ E) → IsCanonicalText text → ParsesSigned w64 10 text r → result_ok r ≡ integer (value_of text)
parsed_text text r (d, h, spells) parses =
    integer_text d r h (subst (λ t. ParsesSigned w64 10 t r) spells parses) ∙ sym (integer-value_of d h) ∙ ap (λ t. integer (value_of t)) (sym spells)
