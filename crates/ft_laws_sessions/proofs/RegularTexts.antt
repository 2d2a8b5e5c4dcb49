-- The value that a UTF-8 text is has UTF-8 texts and rising keys.
use Rattle.std.proofs.Common.{◌≡◌, ◌∙◌, ℕ, zero, suc, ◌-◌, ◌<◌, nat_eq, Bool, true, false, cond, ◌&&◌, ◌==◌, List, [], ◌∷◌, ◌++◌, length, drop, take, Option, Some, None, Ok, Less, Equal, Greater, IsUtf8, refl, sym, ap, subst, arith, append_assoc, nat_cmp}
use Rattle.std.specs.Prelude.{option_and_then, option_map, ⊤}
use Rattle.std.specs.Cmp.Lexicographic.{slice_cmp}
use Rattle.std.specs.List.{AllByRecursion, starts_with}
use Rattle.std.specs.Option.{ok_or}
use Rattle.std.specs.Ordering.{match_ordering, ordering_reverse}
use Rattle.std.specs.Str.{is_utf8}
use Rattle.std.specs.declared.cmp.Ordering.{Ordering}
use Rattle.std.proofs.lemmas.Bool.{eqb-true}
use Rattle.std.proofs.lemmas.Cmp.{nat_list_cmp_total}
use Rattle.std.proofs.lemmas.Str.{IsUtf8-from_is_utf8}
use Rattle.json.specs.Ascii.{false_text, null_text, true_text}
use Rattle.json.specs.Json as json
use Rattle.json.specs.Lex.{Class, Lexeme, Mode, Place, after_comma, after_key, after_value, backslash, begins_colon, between, class, colon, comma, fresh, if_allowed, in_escape, in_string, in_word, lex, lex_byte, may_begin, may_close, operator, operator_lexeme, other, place_token, punctuate, quote, space, string_token, token, tokens}
use Rattle.json.specs.Text.{content, plain}
use Rattle.json.specs.Token.{Token}
use Rattle.json.specs.Word.{after_number, ends_word, head, is_operator, is_space, literal, number_before, word}
use Rattle.serde_json.specs.Data.{Num, Data, number, array, object, item, Members, no_members, member, put}
use Rattle.serde_json.specs.Read.{max_depth, number_of, of_items, of_json, of_members, read}
use Rattle.ft_json.specs.declared.faults.JsonFault.TheVariants.{NotJson}
use Rattle.ft_json.specs.Canonical.{IsBefore}
use Rattle.ft_json.specs.Reading.{read_line}
use Rattle.ft_op.proofs.ReadSteps.{test_held}
use Rattle.ft_laws_sessions.proofs.QuotedTexts.{after-ascii, string-utf8}
use Rattle.ft_laws_sessions.proofs.RegularValues.{IsRegular, ItemsAreRegular, MembersAreRegular}

-- ---- lexemes

-- the bytes of a key and of a string are UTF-8
abbrev HasText : Token → Type 0
HasText (Token.key s) = IsUtf8 s
HasText (Token.string s) = IsUtf8 s
HasText _ = ⊤

abbrev LexemeHasText : Lexeme → Type 0
LexemeHasText (token t) = HasText t
LexemeHasText _ = ⊤

-- the list is the rest of a UTF-8 text
abbrev IsRest : List ℕ → Type 0
IsRest xs = (p : List ℕ) × IsUtf8 (p ++ xs)

rest-of : (x : ℕ) (xs : List ℕ) → IsRest (x ∷ xs) → IsRest xs
rest-of x xs r = (r.0 ++ x ∷ [], subst IsUtf8 (sym (append_assoc r.0 (x ∷ []) xs)) r.1)

string-has : (o : Option (List ℕ)) → ((s : List ℕ) → o ≡ Some s → IsUtf8 s) → HasText (string_token o)
string-has None f = tt
string-has (Some s) f = f s refl

token-either : (b : Bool) (t u : Token) → HasText t → HasText u → HasText (cond b t u)
token-either true t u h k = h
token-either false t u h k = k

number-has : (xs : List ℕ) (o : Option (List ℕ)) → HasText (number_before xs o)
number-has xs None = tt
number-has xs (Some rest) = token-either (ends_word rest) (Token.number (take (length xs - length rest) xs)) Token.bad tt tt

literal-has : (name xs : List ℕ) (t : Token) → HasText t → HasText (literal name t xs)
literal-has name xs t h = token-either (starts_with nat_eq xs name && ends_word (drop (length name) xs)) t Token.bad h tt

one-has : (a b c : Bool) (t u v w : Token) → HasText t → HasText u → HasText v → HasText w → HasText (cond a t (cond b u (cond c v w)))
one-has true b c t u v w g h i j = g
one-has false true c t u v w g h i j = h
one-has false false true t u v w g h i j = i
one-has false false false t u v w g h i j = j

word-has : (xs : List ℕ) → HasText (word xs)
unfolding word
word-has xs =
    let yes = literal true_text (Token.boolean true) xs in
    let no_word = literal false_text (Token.boolean false) xs in
    let nothing = literal null_text Token.null xs in
    one-has (head xs == 116) (head xs == 102) (head xs == 110) yes no_word nothing (number_before xs (after_number xs))
    (literal-has true_text xs (Token.boolean true) tt) (literal-has false_text xs (Token.boolean false) tt)
    (literal-has null_text xs Token.null tt) (number-has xs (after_number xs))

operator-cases : (a b c d e : Bool) → LexemeHasText (cond a (token Token.begin_object)
    (cond b (token Token.end_object) (cond c (token Token.begin_array) (cond d (token Token.end_array) (cond e comma colon)))))
operator-cases true b c d e = tt
operator-cases false true c d e = tt
operator-cases false false true d e = tt
operator-cases false false false true e = tt
operator-cases false false false false true = tt
operator-cases false false false false false = tt

operator-has : (x : ℕ) → LexemeHasText (operator_lexeme x)
operator-has x = operator-cases (x == 123) (x == 125) (x == 91) (x == 93) (x == 44)

class-quote : (a b c d : Bool) → cond a quote (cond b backslash (cond c operator (cond d space other))) ≡ quote → a ≡ true
class-quote true b c d e = refl
class-quote false true c d e = (cc)
class-quote false false true d e = (cc)
class-quote false false false true e = (cc)
class-quote false false false false e = (cc)

quote-is : (x : ℕ) → class x ≡ quote → x ≡ 34
quote-is x e = eqb-true x 34 (class-quote (x == 34) (x == 92) (is_operator x) (is_space x) e)

abbrev HaveText : List Lexeme → Type 0
HaveText ls = AllByRecursion LexemeHasText ls

opened-has : (x : ℕ) (xs : List ℕ) → class x ≡ quote → IsRest (x ∷ xs) → HasText (string_token (content plain xs))
opened-has x xs e r =
    let same = quote-is x e in
    let small : x < 128 = omega (arith, same) in
    string-has (content plain xs) (λ s. string-utf8 xs s (after-ascii r.0 x xs small r.1))

byte-has : (m : Mode) (c : Class) (x : ℕ) (xs : List ℕ) (k : Mode → List Lexeme) → class x ≡ c → IsRest (x ∷ xs) → ((n : Mode) → HaveText (k n)) → HaveText (lex_byte m c x xs k)
byte-has between quote x xs k e r h = (opened-has x xs e r, h in_string)
byte-has between backslash x xs k e r h = (tt, h in_word)
byte-has between operator x xs k e r h = (operator-has x, h between)
byte-has between space x xs k e r h = h between
byte-has between other x xs k e r h = (word-has (x ∷ xs), h in_word)
byte-has in_word quote x xs k e r h = h in_word
byte-has in_word backslash x xs k e r h = h in_word
byte-has in_word operator x xs k e r h = (operator-has x, h between)
byte-has in_word space x xs k e r h = h between
byte-has in_word other x xs k e r h = h in_word
byte-has in_string quote x xs k e r h = h between
byte-has in_string backslash x xs k e r h = h in_escape
byte-has in_string operator x xs k e r h = h in_string
byte-has in_string space x xs k e r h = h in_string
byte-has in_string other x xs k e r h = h in_string
byte-has in_escape c x xs k e r h = h in_string

lexemes-have : (m : Mode) (xs : List ℕ) → IsRest xs → HaveText (lex m xs)
unfolding lex
lexemes-have m [] r = tt
lexemes-have m (x ∷ xs) r = byte-has m (class x) x xs (λ n. lex n xs) refl r (λ n. lexemes-have n xs (rest-of x xs r))

-- ---- tokens

abbrev AllHaveText : List Token → Type 0
AllHaveText ts = AllByRecursion HasText ts

allowed-has : (b : Bool) (t : Token) (k : Place → List Token) (p : Place) → HasText t → ((q : Place) → AllHaveText (k q)) → AllHaveText (if_allowed b t k p)
allowed-has true t k p h f = (h, f p)
allowed-has false t k p h f = (tt, tt)

placed-has : (p : Place) (t : Token) (b : Bool) (k : Place → List Token) → HasText t → ((q : Place) → AllHaveText (k q)) → AllHaveText (place_token p t b k)
placed-has p Token.begin_object b k h f = allowed-has (may_begin p) Token.begin_object k fresh tt f
placed-has p Token.end_object b k h f = allowed-has (may_close p) Token.end_object k after_value tt f
placed-has p Token.begin_array b k h f = allowed-has (may_begin p) Token.begin_array k fresh tt f
placed-has p Token.end_array b k h f = allowed-has (may_close p) Token.end_array k after_value tt f
placed-has p (Token.key s) b k h f = (tt, tt)
placed-has p (Token.string s) true k h f = allowed-has (may_begin p) (Token.key s) k after_key h f
placed-has p (Token.string s) false k h f = allowed-has (may_begin p) (Token.string s) k after_value h f
placed-has p (Token.number s) b k h f = allowed-has (may_begin p) (Token.number s) k after_value tt f
placed-has p (Token.boolean c) b k h f = allowed-has (may_begin p) (Token.boolean c) k after_value tt f
placed-has p Token.null b k h f = allowed-has (may_begin p) Token.null k after_value tt f
placed-has p Token.bad b k h f = (tt, tt)

punctuated-has : (p : Place) (ls : List Lexeme) → HaveText ls → AllHaveText (punctuate p ls)
unfolding punctuate
punctuated-has fresh [] h = tt
punctuated-has after_value [] h = tt
punctuated-has after_comma [] h = (tt, tt)
punctuated-has after_key [] h = (tt, tt)
punctuated-has fresh (token t ∷ ls) h = placed-has fresh t (begins_colon ls) (λ q. punctuate q ls) h.0 (λ q. punctuated-has q ls h.1)
punctuated-has after_value (token t ∷ ls) h = placed-has after_value t (begins_colon ls) (λ q. punctuate q ls) h.0 (λ q. punctuated-has q ls h.1)
punctuated-has after_comma (token t ∷ ls) h = placed-has after_comma t (begins_colon ls) (λ q. punctuate q ls) h.0 (λ q. punctuated-has q ls h.1)
punctuated-has after_key (token t ∷ ls) h = placed-has after_key t (begins_colon ls) (λ q. punctuate q ls) h.0 (λ q. punctuated-has q ls h.1)
punctuated-has fresh (comma ∷ ls) h = (tt, tt)
punctuated-has after_value (comma ∷ ls) h = punctuated-has after_comma ls h.1
punctuated-has after_comma (comma ∷ ls) h = (tt, tt)
punctuated-has after_key (comma ∷ ls) h = (tt, tt)
punctuated-has fresh (colon ∷ ls) h = (tt, tt)
punctuated-has after_value (colon ∷ ls) h = (tt, tt)
punctuated-has after_comma (colon ∷ ls) h = (tt, tt)
punctuated-has after_key (colon ∷ ls) h = punctuated-has fresh ls h.1

tokens-have : (text : List ℕ) → IsUtf8 text → AllHaveText (tokens text)
tokens-have text u = punctuated-has fresh (lex between text) (lexemes-have between text ([], u))

-- ---- JSON values

-- each string and each key inside is UTF-8
abbrev mutual
  HasTexts : json.Json → Type 0
  HasTexts json.null = ⊤
  HasTexts (json.boolean b) = ⊤
  HasTexts (json.number s) = ⊤
  HasTexts (json.string s) = IsUtf8 s
  HasTexts (json.array js) = ItemsHaveTexts js
  HasTexts (json.object ms) = MembersHaveTexts ms

  ItemsHaveTexts : json.Items → Type 0
  ItemsHaveTexts json.no_items = ⊤
  ItemsHaveTexts (json.item j js) = HasTexts j × ItemsHaveTexts js

  MembersHaveTexts : json.Members → Type 0
  MembersHaveTexts json.no_members = ⊤
  MembersHaveTexts (json.member k j ms) = IsUtf8 k × HasTexts j × MembersHaveTexts ms

-- what was read is so, and what follows has texts
abbrev IsParsed : {A : Type 0} → (A → Type 0) → Option (A × List Token) → Type 0
IsParsed P None = ⊤
IsParsed P (Some r) = P r.0 × AllHaveText r.1

abbrev Parses : {A : Type 0} → (A → Type 0) → json.Parse A → Type 0
Parses P parse = (ts : List Token) → AllHaveText ts → IsParsed P (parse ts)

mapped : {A B : Type 0} (P : A → Type 0) (Q : B → Type 0) (f : A → B) (o : Option (A × List Token)) → ((x : A) → P x → Q (f x)) → IsParsed P o → IsParsed Q (json.parse_map f o)
mapped P Q f None g h = tt
mapped P Q f (Some r) g h = (g r.0 h.0, h.1)

then-parsed : {A B : Type 0} (P : A → Type 0) (Q : B → Type 0) (o : Option (A × List Token)) (f : A × List Token → Option (B × List Token))
    → IsParsed P o → ((r : A × List Token) → P r.0 → AllHaveText r.1 → IsParsed Q (f r)) → IsParsed Q (option_and_then f o)
then-parsed P Q None f h g = tt
then-parsed P Q (Some r) f h g = g r h.0 h.1

abbrev MayHaveText : Option (List Token) → Type 0
MayHaveText None = ⊤
MayHaveText (Some ts) = AllHaveText ts

closed-has : (ts : List Token) → AllHaveText ts → MayHaveText (json.after_end_array ts)
closed-has [] h = tt
closed-has (Token.begin_object ∷ ts) h = tt
closed-has (Token.end_object ∷ ts) h = tt
closed-has (Token.begin_array ∷ ts) h = tt
closed-has (Token.end_array ∷ ts) h = h.1
closed-has (Token.key s ∷ ts) h = tt
closed-has (Token.string s ∷ ts) h = tt
closed-has (Token.number s ∷ ts) h = tt
closed-has (Token.boolean b ∷ ts) h = tt
closed-has (Token.null ∷ ts) h = tt
closed-has (Token.bad ∷ ts) h = tt

abbrev IsUtf8IfGiven : Option (List ℕ) → Type 0
IsUtf8IfGiven None = ⊤
IsUtf8IfGiven (Some s) = IsUtf8 s

key-parsed : Parses IsUtf8IfGiven json.read_key
key-parsed [] h = tt
key-parsed (Token.begin_object ∷ ts) h = tt
key-parsed (Token.end_object ∷ ts) h = (tt, h.1)
key-parsed (Token.begin_array ∷ ts) h = tt
key-parsed (Token.end_array ∷ ts) h = tt
key-parsed (Token.key s ∷ ts) h = (h.0, h.1)
key-parsed (Token.string s ∷ ts) h = tt
key-parsed (Token.number s ∷ ts) h = tt
key-parsed (Token.boolean b ∷ ts) h = tt
key-parsed (Token.null ∷ ts) h = tt
key-parsed (Token.bad ∷ ts) h = tt

items_step-parsed : (value : json.Parse json.Json) (more : json.Parse json.Items) (ts : List Token) (o : Option (List Token)) → Parses HasTexts value → Parses ItemsHaveTexts more
    → AllHaveText ts → MayHaveText o → IsParsed ItemsHaveTexts (json.items_step value more ts o)
items_step-parsed value more ts (Some rest) v m h k = (tt, k)
items_step-parsed value more ts None v m h k =
    then-parsed HasTexts ItemsHaveTexts (value ts) _ (v ts h) (λ r j rest. mapped ItemsHaveTexts ItemsHaveTexts (json.item r.0) (more r.1) (λ js all. (j, all)) (m r.1 rest))

members_step-parsed : (value : json.Parse json.Json) (more : json.Parse json.Members) (o : Option (List ℕ)) (ts : List Token) → Parses HasTexts value → Parses MembersHaveTexts more
    → IsUtf8IfGiven o → AllHaveText ts → IsParsed MembersHaveTexts (json.members_step value more o ts)
members_step-parsed value more None ts v m k h = (tt, h)
members_step-parsed value more (Some key) ts v m k h =
    then-parsed HasTexts MembersHaveTexts (value ts) _ (v ts h) (λ r j rest.
    mapped MembersHaveTexts MembersHaveTexts (json.member key r.0) (more r.1) (λ ms all. (k, j, all)) (m r.1 rest))

items-parsed : (value : json.Parse json.Json) (n : ℕ) → Parses HasTexts value → Parses ItemsHaveTexts (json.items value n)
unfolding json.items
items-parsed value zero v ts h = tt
items-parsed value (suc n) v ts h = items_step-parsed value (json.items value n) ts (json.after_end_array ts) v (items-parsed value n v) h (closed-has ts h)

members-parsed : (value : json.Parse json.Json) (n : ℕ) → Parses HasTexts value → Parses MembersHaveTexts (json.members value n)
unfolding json.members
members-parsed value zero v ts h = tt
members-parsed value (suc n) v ts h =
    then-parsed IsUtf8IfGiven MembersHaveTexts (json.read_key ts) _ (key-parsed ts h)
    (λ r k rest. members_step-parsed value (json.members value n) r.0 r.1 v (members-parsed value n v) k rest)

value_with-parsed : (a : json.Parse json.Items) (o : json.Parse json.Members) → Parses ItemsHaveTexts a → Parses MembersHaveTexts o → Parses HasTexts (json.value_with a o)
value_with-parsed a o p q [] h = tt
value_with-parsed a o p q (Token.begin_object ∷ ts) h = mapped MembersHaveTexts HasTexts json.object (o ts) (λ ms all. all) (q ts h.1)
value_with-parsed a o p q (Token.end_object ∷ ts) h = tt
value_with-parsed a o p q (Token.begin_array ∷ ts) h = mapped ItemsHaveTexts HasTexts json.array (a ts) (λ js all. all) (p ts h.1)
value_with-parsed a o p q (Token.end_array ∷ ts) h = tt
value_with-parsed a o p q (Token.key s ∷ ts) h = tt
value_with-parsed a o p q (Token.string s ∷ ts) h = (h.0, h.1)
value_with-parsed a o p q (Token.number s ∷ ts) h = (tt, h.1)
value_with-parsed a o p q (Token.boolean b ∷ ts) h = (tt, h.1)
value_with-parsed a o p q (Token.null ∷ ts) h = (tt, h.1)
value_with-parsed a o p q (Token.bad ∷ ts) h = tt

value-parsed : (levels : ℕ) → Parses HasTexts (json.value levels)
unfolding json.value
value-parsed zero = value_with-parsed (λ ts. None) (λ ts. None) (λ ts h. tt) (λ ts h. tt)
value-parsed (suc levels) =
    value_with-parsed _ _ (λ ts. items-parsed (json.value levels) (length ts) (value-parsed levels) ts)
    (λ ts. members-parsed (json.value levels) (length ts) (value-parsed levels) ts)

-- ---- data

put-before : (l k : List ℕ) (d : Data) (ms : Members) → slice_cmp nat_cmp l k ≡ Less → IsBefore l ms → IsBefore l (put k d ms)
put-before l k d no_members less h = less
put-before l k d (member j e ms) less h = by (slice_cmp nat_cmp k j)
  where
    by : (o : Ordering) → IsBefore l (match_ordering o (member k d (member j e ms)) (member j d ms) (member j e (put k d ms)))
    by Less = less
    by Equal = h
    by Greater = h

put-in_order : (o : Ordering) (k l : List ℕ) (d e : Data) (ms : Members) → slice_cmp nat_cmp k l ≡ o → IsUtf8 k → IsRegular d → MembersAreRegular (member l e ms)
    → MembersAreRegular (put k d ms)
    → MembersAreRegular (match_ordering o (member k d (member l e ms)) (member l d ms) (member l e (put k d ms)))
put-in_order Less k l d e ms is u r h more = (u, is, r, h)
put-in_order Equal k l d e ms is u r h more = (h.0, h.1, r, h.3)
put-in_order Greater k l d e ms is u r h more =
    let less : slice_cmp nat_cmp l k ≡ Less = nat_list_cmp_total.antisymm l k ∙ ap ordering_reverse is in
    (h.0, put-before l k d ms less h.1, h.2, more)

put-regular : (k : List ℕ) (d : Data) (ms : Members) → IsUtf8 k → IsRegular d → MembersAreRegular ms → MembersAreRegular (put k d ms)
put-regular k d no_members u r h = (u, tt, r, tt)
put-regular k d (member l e ms) u r h = put-in_order (slice_cmp nat_cmp k l) k l d e ms refl u r h (put-regular k d ms u r h.3)

abbrev HoldsIfGiven : {A : Type 0} → (A → Type 0) → Option A → Type 0
HoldsIfGiven P None = ⊤
HoldsIfGiven P (Some x) = P x

given-then : {A B : Type 0} (P : A → Type 0) (Q : B → Type 0) (o : Option A) (f : A → Option B) → HoldsIfGiven P o → ((x : A) → P x → HoldsIfGiven Q (f x))
    → HoldsIfGiven Q (option_and_then f o)
given-then P Q None f h g = tt
given-then P Q (Some x) f h g = g x h

given-mapped : {A B : Type 0} (P : A → Type 0) (Q : B → Type 0) (o : Option A) (f : A → B) → HoldsIfGiven P o → ((x : A) → P x → Q (f x)) → HoldsIfGiven Q (option_map f o)
given-mapped P Q None f h g = tt
given-mapped P Q (Some x) f h g = g x h

number-regular : (o : Option Num) → HoldsIfGiven IsRegular (option_map number o)
number-regular None = tt
number-regular (Some n) = tt

mutual
  data-regular : (j : json.Json) → HasTexts j → HoldsIfGiven IsRegular (of_json j)
  data-regular json.null h = tt
  data-regular (json.boolean b) h = tt
  data-regular (json.number s) h = number-regular (number_of s)
  data-regular (json.string s) h = h
  data-regular (json.array js) h = given-mapped ItemsAreRegular IsRegular (of_items js) array (data_items-regular js h) (λ ds r. r)
  data-regular (json.object ms) h = given-mapped MembersAreRegular IsRegular (of_members ms no_members) object (data_members-regular ms no_members h tt) (λ ns r. r)

  data_items-regular : (js : json.Items) → ItemsHaveTexts js → HoldsIfGiven ItemsAreRegular (of_items js)
  data_items-regular json.no_items h = tt
  data_items-regular (json.item j js) h =
      given-then IsRegular ItemsAreRegular (of_json j) _ (data-regular j h.0)
      (λ d r. given-mapped ItemsAreRegular ItemsAreRegular (of_items js) (item d) (data_items-regular js h.1) (λ ds s. (r, s)))

  data_members-regular : (ms : json.Members) (found : Members) → MembersHaveTexts ms → MembersAreRegular found → HoldsIfGiven MembersAreRegular (of_members ms found)
  data_members-regular json.no_members found h r = r
  data_members-regular (json.member k j ms) found h r =
      given-then IsRegular MembersAreRegular (of_json j) _ (data-regular j h.1) (λ d s. data_members-regular ms (put k d found) h.2 (put-regular k d found h.0 s r))

-- ---- texts

last-has : (j : json.Json) (ts : List Token) → HasTexts j → HoldsIfGiven HasTexts (json.if_last j ts)
last-has j [] h = h
last-has j (t ∷ ts) h = tt

whole-has : (o : Option (json.Json × List Token)) → IsParsed HasTexts o → HoldsIfGiven HasTexts (option_and_then (λ p. json.if_last p.0 p.1) o)
whole-has None h = tt
whole-has (Some r) h = last-has r.0 r.1 h.0

read-regular : (text : List ℕ) → IsUtf8 text → HoldsIfGiven IsRegular (read text)
read-regular text u =
    given-then HasTexts IsRegular _ of_json (whole-has (json.value max_depth (tokens text)) (value-parsed max_depth (tokens text) (tokens-have text u))) data-regular

given-regular : (o : Option Data) (d : Data) → HoldsIfGiven IsRegular o → ok_or o NotJson ≡ Ok d → IsRegular d
given-regular None d h e = (cc)
given-regular (Some x) d h e = let same : x ≡ d = cc in subst IsRegular same h

-- the value that a line is has UTF-8 texts and rising keys
pub line-regular : (bytes : List ℕ) (d : Data) → read_line bytes ≡ Ok d → IsRegular d
unfolding read_line
line-regular bytes d e =
    let held = test_held (is_utf8 bytes) (ok_or (read bytes) NotJson) _ d e in
    given-regular (read bytes) d (read-regular bytes (IsUtf8-from_is_utf8 bytes held.0)) held.1
