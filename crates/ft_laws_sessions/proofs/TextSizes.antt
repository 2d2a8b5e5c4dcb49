-- The value that a text is has at most as many parts as the text has bytes: each array, item and member costs one.
use Rattle.std.proofs.Common.{◌≡◌, ℕ, zero, suc, ◌+◌, ◌≤◌, Bool, true, false, List, [], ◌∷◌, length, Option, Some, None, Ok, ap, subst, arith}
use Rattle.std.specs.Prelude.{option_and_then, option_map, ⊤}
use Rattle.std.specs.Option.{ok_or}
use Rattle.std.specs.Cmp.Lexicographic.{slice_cmp}
use Rattle.std.specs.Ordering.{match_ordering, nat_cmp}
use Rattle.std.specs.Str.{is_utf8}
use Rattle.std.specs.declared.cmp.Ordering.{Ordering}
use Rattle.std.specs.declared.cmp.Ordering.TheVariants.{Less, Equal, Greater}
use Rattle.json.specs.Json as json
use Rattle.json.specs.Lex.{Class, Lexeme, Mode, Place, after_comma, after_key, after_value, backslash, begins_colon, between, class, colon, comma, fresh, if_allowed, in_escape, in_string, in_word, lex, lex_byte, may_begin, may_close, operator, other, place_token, punctuate, quote, space, token, tokens}
use Rattle.json.specs.Token.{Token}
use Rattle.serde_json.specs.Data.{Num, Data, null, boolean, number, string, array, object, Items, no_items, item, Members, no_members, member, put}
use Rattle.serde_json.specs.Find.{as_array, get, get_member}
use Rattle.serde_json.specs.Read.{max_depth, number_of, of_items, of_json, of_members, read}
use Rattle.ft_json.specs.declared.faults.JsonFault.TheVariants.{NotJson}
use Rattle.ft_json.specs.declared.fields.Field.{Field}
use Rattle.ft_json.specs.Fields.{field_name}
use Rattle.ft_json.specs.Reading.{field, items, listed, read_line}
use Rattle.ft_op.proofs.ReadSteps.{test_held}

-- ---- lexemes and tokens

byte-adds : (m : Mode) (c : Class) (x : ℕ) (xs : List ℕ) (k : Mode → List Lexeme) (n : ℕ) → ((next : Mode) → length (k next) ≤ n) → length (lex_byte m c x xs k) ≤ n + 1
byte-adds between quote x xs k n h = let a = h in_string in omega arith
byte-adds between backslash x xs k n h = let a = h in_word in omega arith
byte-adds between operator x xs k n h = let a = h between in omega arith
byte-adds between space x xs k n h = let a = h between in omega arith
byte-adds between other x xs k n h = let a = h in_word in omega arith
byte-adds in_word quote x xs k n h = let a = h in_word in omega arith
byte-adds in_word backslash x xs k n h = let a = h in_word in omega arith
byte-adds in_word operator x xs k n h = let a = h between in omega arith
byte-adds in_word space x xs k n h = let a = h between in omega arith
byte-adds in_word other x xs k n h = let a = h in_word in omega arith
byte-adds in_string quote x xs k n h = let a = h between in omega arith
byte-adds in_string backslash x xs k n h = let a = h in_escape in omega arith
byte-adds in_string operator x xs k n h = let a = h in_string in omega arith
byte-adds in_string space x xs k n h = let a = h in_string in omega arith
byte-adds in_string other x xs k n h = let a = h in_string in omega arith
byte-adds in_escape c x xs k n h = let a = h in_string in omega arith

lexemes-few : (m : Mode) (xs : List ℕ) → length (lex m xs) ≤ length xs
unfolding lex
lexemes-few m [] = omega arith
lexemes-few m (x ∷ xs) = let a = byte-adds m (class x) x xs (λ n. lex n xs) (length xs) (λ n. lexemes-few n xs) in omega (arith, a)

allowed-adds : (b : Bool) (t : Token) (k : Place → List Token) (p : Place) (n : ℕ) → length (k p) ≤ n + 1 → length (if_allowed b t k p) ≤ n + 2
allowed-adds true t k p n h = omega arith
allowed-adds false t k p n h = omega arith

placed-adds : (p : Place) (t : Token) (b : Bool) (k : Place → List Token) (n : ℕ) → ((q : Place) → length (k q) ≤ n + 1) → length (place_token p t b k) ≤ n + 2
placed-adds p Token.begin_object b k n h = allowed-adds (may_begin p) Token.begin_object k fresh n (h fresh)
placed-adds p Token.end_object b k n h = allowed-adds (may_close p) Token.end_object k after_value n (h after_value)
placed-adds p Token.begin_array b k n h = allowed-adds (may_begin p) Token.begin_array k fresh n (h fresh)
placed-adds p Token.end_array b k n h = allowed-adds (may_close p) Token.end_array k after_value n (h after_value)
placed-adds p (Token.key s) b k n h = omega arith
placed-adds p (Token.string s) true k n h = allowed-adds (may_begin p) (Token.key s) k after_key n (h after_key)
placed-adds p (Token.string s) false k n h = allowed-adds (may_begin p) (Token.string s) k after_value n (h after_value)
placed-adds p (Token.number s) b k n h = allowed-adds (may_begin p) (Token.number s) k after_value n (h after_value)
placed-adds p (Token.boolean c) b k n h = allowed-adds (may_begin p) (Token.boolean c) k after_value n (h after_value)
placed-adds p Token.null b k n h = allowed-adds (may_begin p) Token.null k after_value n (h after_value)
placed-adds p Token.bad b k n h = omega arith

-- each lexeme gives at most one token, and a fault at the end one more
punctuated-few : (p : Place) (ls : List Lexeme) → length (punctuate p ls) ≤ length ls + 1
unfolding punctuate
punctuated-few fresh [] = omega arith
punctuated-few after_value [] = omega arith
punctuated-few after_comma [] = omega arith
punctuated-few after_key [] = omega arith
punctuated-few fresh (token t ∷ ls) = let a = placed-adds fresh t (begins_colon ls) (λ q. punctuate q ls) (length ls) (λ q. punctuated-few q ls) in omega (arith, a)
punctuated-few after_value (token t ∷ ls) = let a = placed-adds after_value t (begins_colon ls) (λ q. punctuate q ls) (length ls) (λ q. punctuated-few q ls) in omega (arith, a)
punctuated-few after_comma (token t ∷ ls) = let a = placed-adds after_comma t (begins_colon ls) (λ q. punctuate q ls) (length ls) (λ q. punctuated-few q ls) in omega (arith, a)
punctuated-few after_key (token t ∷ ls) = let a = placed-adds after_key t (begins_colon ls) (λ q. punctuate q ls) (length ls) (λ q. punctuated-few q ls) in omega (arith, a)
punctuated-few fresh (comma ∷ ls) = omega arith
punctuated-few after_value (comma ∷ ls) = let a = punctuated-few after_comma ls in omega arith
punctuated-few after_comma (comma ∷ ls) = omega arith
punctuated-few after_key (comma ∷ ls) = omega arith
punctuated-few fresh (colon ∷ ls) = omega arith
punctuated-few after_value (colon ∷ ls) = omega arith
punctuated-few after_comma (colon ∷ ls) = omega arith
punctuated-few after_key (colon ∷ ls) = let a = punctuated-few fresh ls in omega arith

tokens-few : (text : List ℕ) → length (tokens text) ≤ length text + 1
tokens-few text = let a = punctuated-few fresh (lex between text) in let b = lexemes-few between text in omega (arith, a, b)

-- ---- JSON values

-- how many parts a value has: itself, and those of its items and members
abbrev mutual
  parts : json.Json → ℕ
  parts json.null = 1
  parts (json.boolean b) = 1
  parts (json.number s) = 1
  parts (json.string s) = 1
  parts (json.array js) = 1 + items_parts js
  parts (json.object ms) = 1 + members_parts ms

  items_parts : json.Items → ℕ
  items_parts json.no_items = 0
  items_parts (json.item j js) = parts j + items_parts js

  members_parts : json.Members → ℕ
  members_parts json.no_members = 0
  members_parts (json.member k j ms) = parts j + members_parts ms

-- what was read has at most so many parts as tokens were taken of these
abbrev IsTaken : {A : Type 0} → (A → ℕ) → ℕ → Option (A × List Token) → Type 0
IsTaken count n None = ⊤
IsTaken count n (Some r) = count r.0 + length r.1 ≤ n

abbrev Takes : {A : Type 0} → (A → ℕ) → json.Parse A → Type 0
Takes count parse = (ts : List Token) → IsTaken count (length ts) (parse ts)

mapped : {A B : Type 0} (f : A → B) (count : A → ℕ) (result : B → ℕ) (m n k : ℕ) (o : Option (A × List Token)) → ((x : A) → result (f x) ≤ count x + k) → m + k ≤ n
    → IsTaken count m o → IsTaken result n (json.parse_map f o)
mapped f count result m n k None h e t = tt
mapped f count result m n k (Some r) h e t = let a = h r.0 in omega (arith, a, t, e)

then-taken : {A B : Type 0} (count : A → ℕ) (result : B → ℕ) (m n : ℕ) (o : Option (A × List Token)) (f : A × List Token → Option (B × List Token)) → IsTaken count m o
    → ((r : A × List Token) → count r.0 + length r.1 ≤ m → IsTaken result n (f r)) → IsTaken result n (option_and_then f o)
then-taken count result m n None f h g = tt
then-taken count result m n (Some r) f h g = g r h

-- what follows a bracket or a key
abbrev IsShorter : ℕ → Option (List Token) → Type 0
IsShorter n None = ⊤
IsShorter n (Some ts) = length ts ≤ n

closed-shorter : (ts : List Token) → IsShorter (length ts) (json.after_end_array ts)
closed-shorter [] = tt
closed-shorter (Token.begin_object ∷ ts) = tt
closed-shorter (Token.end_object ∷ ts) = tt
closed-shorter (Token.begin_array ∷ ts) = tt
closed-shorter (Token.end_array ∷ ts) = omega arith
closed-shorter (Token.key s ∷ ts) = tt
closed-shorter (Token.string s ∷ ts) = tt
closed-shorter (Token.number s ∷ ts) = tt
closed-shorter (Token.boolean b ∷ ts) = tt
closed-shorter (Token.null ∷ ts) = tt
closed-shorter (Token.bad ∷ ts) = tt

abbrev no_parts : Option (List ℕ) → ℕ
no_parts o = 0

key-taken : Takes no_parts json.read_key
key-taken [] = tt
key-taken (Token.begin_object ∷ ts) = tt
key-taken (Token.end_object ∷ ts) = omega arith
key-taken (Token.begin_array ∷ ts) = tt
key-taken (Token.end_array ∷ ts) = tt
key-taken (Token.key s ∷ ts) = omega arith
key-taken (Token.string s ∷ ts) = tt
key-taken (Token.number s ∷ ts) = tt
key-taken (Token.boolean b ∷ ts) = tt
key-taken (Token.null ∷ ts) = tt
key-taken (Token.bad ∷ ts) = tt

items_step-taken : (value : json.Parse json.Json) (more : json.Parse json.Items) (ts : List Token) (o : Option (List Token)) → Takes parts value → Takes items_parts more
    → IsShorter (length ts) o → IsTaken items_parts (length ts) (json.items_step value more ts o)
items_step-taken value more ts (Some rest) v m h = omega (arith, h)
items_step-taken value more ts None v m h =
    then-taken parts items_parts (length ts) (length ts) (value ts) _ (v ts)
    (λ r less. mapped (json.item r.0) items_parts items_parts (length r.1) (length ts) (parts r.0) (more r.1) (λ js. omega arith) (omega (arith, less)) (m r.1))

members_step-taken : (value : json.Parse json.Json) (more : json.Parse json.Members) (n : ℕ) (o : Option (List ℕ)) (ts : List Token) → Takes parts value → Takes members_parts more
    → length ts ≤ n → IsTaken members_parts n (json.members_step value more o ts)
members_step-taken value more n None ts v m h = omega (arith, h)
members_step-taken value more n (Some key) ts v m h =
    then-taken parts members_parts (length ts) n (value ts) _ (v ts)
    (λ r less. mapped (json.member key r.0) members_parts members_parts (length r.1) n (parts r.0) (more r.1) (λ ms. omega arith) (omega (arith, less, h)) (m r.1))

items-taken : (value : json.Parse json.Json) (n : ℕ) → Takes parts value → Takes items_parts (json.items value n)
unfolding json.items
items-taken value zero v ts = tt
items-taken value (suc n) v ts = items_step-taken value (json.items value n) ts (json.after_end_array ts) v (items-taken value n v) (closed-shorter ts)

members-taken : (value : json.Parse json.Json) (n : ℕ) → Takes parts value → Takes members_parts (json.members value n)
unfolding json.members
members-taken value zero v ts = tt
members-taken value (suc n) v ts =
    then-taken no_parts members_parts (length ts) (length ts) (json.read_key ts) _ (key-taken ts)
    (λ r less. members_step-taken value (json.members value n) (length ts) r.0 r.1 v (members-taken value n v) (omega (arith, less)))

value_with-taken : (a : json.Parse json.Items) (o : json.Parse json.Members) → Takes items_parts a → Takes members_parts o → Takes parts (json.value_with a o)
value_with-taken a o p q [] = tt
value_with-taken a o p q (Token.begin_object ∷ ts) = mapped json.object members_parts parts (length ts) (suc (length ts)) 1 (o ts) (λ ms. omega arith) (omega arith) (q ts)
value_with-taken a o p q (Token.end_object ∷ ts) = tt
value_with-taken a o p q (Token.begin_array ∷ ts) = mapped json.array items_parts parts (length ts) (suc (length ts)) 1 (a ts) (λ js. omega arith) (omega arith) (p ts)
value_with-taken a o p q (Token.end_array ∷ ts) = tt
value_with-taken a o p q (Token.key s ∷ ts) = tt
value_with-taken a o p q (Token.string s ∷ ts) = omega arith
value_with-taken a o p q (Token.number s ∷ ts) = omega arith
value_with-taken a o p q (Token.boolean b ∷ ts) = omega arith
value_with-taken a o p q (Token.null ∷ ts) = omega arith
value_with-taken a o p q (Token.bad ∷ ts) = tt

value-taken : (levels : ℕ) → Takes parts (json.value levels)
unfolding json.value
value-taken zero = value_with-taken (λ ts. None) (λ ts. None) (λ ts. tt) (λ ts. tt)
value-taken (suc levels) =
    value_with-taken _ _ (λ ts. items-taken (json.value levels) (length ts) (value-taken levels) ts)
    (λ ts. members-taken (json.value levels) (length ts) (value-taken levels) ts)

-- ---- data

abbrev mutual
  data_parts : Data → ℕ
  data_parts null = 1
  data_parts (boolean b) = 1
  data_parts (number n) = 1
  data_parts (string s) = 1
  data_parts (array ds) = 1 + data_items_parts ds
  data_parts (object ms) = 1 + data_members_parts ms

  data_items_parts : Items → ℕ
  data_items_parts no_items = 0
  data_items_parts (item d ds) = data_parts d + data_items_parts ds

  data_members_parts : Members → ℕ
  data_members_parts no_members = 0
  data_members_parts (member k d ms) = data_parts d + data_members_parts ms

put-adds : (k : List ℕ) (d : Data) (ms : Members) → data_members_parts (put k d ms) ≤ data_parts d + data_members_parts ms
put-adds k d no_members = omega arith
put-adds k d (member l e ms) = by (slice_cmp nat_cmp k l) (put-adds k d ms)
  where
    by : (o : Ordering) → data_members_parts (put k d ms) ≤ data_parts d + data_members_parts ms
        → data_members_parts (match_ordering o (member k d (member l e ms)) (member l d ms) (member l e (put k d ms))) ≤ data_parts d + data_members_parts (member l e ms)
    by Less h = omega arith
    by Equal h = omega arith
    by Greater h = omega (arith, h)

abbrev IsWithin : {A : Type 0} → (A → ℕ) → ℕ → Option A → Type 0
IsWithin count n None = ⊤
IsWithin count n (Some x) = count x ≤ n

then-within : {A B : Type 0} (count : A → ℕ) (result : B → ℕ) (m n : ℕ) (o : Option A) (f : A → Option B) → IsWithin count m o → ((x : A) → count x ≤ m → IsWithin result n (f x))
    → IsWithin result n (option_and_then f o)
then-within count result m n None f h g = tt
then-within count result m n (Some x) f h g = g x h

mapped-within : {A B : Type 0} (count : A → ℕ) (result : B → ℕ) (m n : ℕ) (o : Option A) (f : A → B) → IsWithin count m o → ((x : A) → count x ≤ m → result (f x) ≤ n)
    → IsWithin result n (option_map f o)
mapped-within count result m n None f h g = tt
mapped-within count result m n (Some x) f h g = g x h

number-within : (o : Option Num) → IsWithin data_parts 1 (option_map number o)
number-within None = tt
number-within (Some n) = omega arith

mutual
  data-within : (j : json.Json) → IsWithin data_parts (parts j) (of_json j)
  data-within json.null = omega arith
  data-within (json.boolean b) = omega arith
  data-within (json.number s) = number-within (number_of s)
  data-within (json.string s) = omega arith
  data-within (json.array js) =
      mapped-within data_items_parts data_parts (items_parts js) (parts (json.array js)) (of_items js) array (data_items-within js) (λ ds less. omega (arith, less))
  data-within (json.object ms) =
      mapped-within data_members_parts data_parts (members_parts ms) (parts (json.object ms)) (of_members ms no_members) object (data_members-within ms no_members (members_parts ms) (omega arith))
      (λ ns less. omega (arith, less))

  data_items-within : (js : json.Items) → IsWithin data_items_parts (items_parts js) (of_items js)
  data_items-within json.no_items = omega arith
  data_items-within (json.item j js) =
      then-within data_parts data_items_parts (parts j) (items_parts (json.item j js)) (of_json j) _ (data-within j)
      (λ d less. mapped-within data_items_parts data_items_parts (items_parts js) (items_parts (json.item j js)) (of_items js) (item d) (data_items-within js) (λ ds some. omega (arith, less, some)))

  data_members-within : (ms : json.Members) (found : Members) (n : ℕ) → members_parts ms + data_members_parts found ≤ n → IsWithin data_members_parts n (of_members ms found)
  data_members-within json.no_members found n h = omega (arith, h)
  data_members-within (json.member k j ms) found n h =
      then-within data_parts data_members_parts (parts j) n (of_json j) _ (data-within j)
      (λ d less. data_members-within ms (put k d found) n (omega (arith, less, h, put-adds k d found)))

-- ---- texts

last-within : (n : ℕ) (j : json.Json) (ts : List Token) → parts j + length ts ≤ n → IsWithin parts n (json.if_last j ts)
last-within n j [] h = omega (arith, h)
last-within n j (t ∷ ts) h = tt

whole-within : (n : ℕ) (o : Option (json.Json × List Token)) → IsTaken parts n o → IsWithin parts n (option_and_then (λ p. json.if_last p.0 p.1) o)
whole-within n None h = tt
whole-within n (Some r) h = last-within n r.0 r.1 h

within-more : (m n : ℕ) (o : Option Data) → m ≤ n → IsWithin data_parts m o → IsWithin data_parts n o
within-more m n None h k = tt
within-more m n (Some d) h k = omega (arith, h, k)

read-within : (text : List ℕ) → IsWithin data_parts (length text + 1) (read text)
read-within text =
    then-within parts data_parts (length (tokens text)) (length text + 1) _ of_json (whole-within (length (tokens text)) (json.value max_depth (tokens text)) (value-taken max_depth (tokens text)))
    (λ j less. within-more (parts j) (length text + 1) (of_json j) (omega (arith, less, tokens-few text)) (data-within j))

given-within : (n : ℕ) (o : Option Data) (d : Data) → IsWithin data_parts n o → ok_or o NotJson ≡ Ok d → data_parts d ≤ n
given-within n None d h e = (cc)
given-within n (Some x) d h e = let same : x ≡ d = cc in subst (λ y. data_parts y ≤ n) same h

-- the value that a line is has at most as many parts as the line has bytes, and one more
pub line-within : (bytes : List ℕ) (d : Data) → read_line bytes ≡ Ok d → data_parts d ≤ length bytes + 1
unfolding read_line
line-within bytes d e =
    let held = test_held (is_utf8 bytes) (ok_or (read bytes) NotJson) _ d e in
    given-within (length bytes + 1) (read bytes) d (read-within bytes) held.1

-- ---- arrays in fields

member-within : (k : List ℕ) (ms : Members) → IsWithin data_parts (data_members_parts ms) (get_member k ms)
member-within k no_members = tt
member-within k (member l e ms) =
    by (slice_cmp nat_cmp k l) (within-more (data_members_parts ms) (data_members_parts (member l e ms)) (get_member k ms) (omega arith) (member-within k ms))
  where
    by : (o : Ordering) → IsWithin data_parts (data_members_parts (member l e ms)) (get_member k ms)
        → IsWithin data_parts (data_members_parts (member l e ms)) (match_ordering o (get_member k ms) (Some e) (get_member k ms))
    by Less h = h
    by Equal h = omega arith
    by Greater h = h

-- a value in an object is one part less
got-within : (k : List ℕ) (d e : Data) → get k d ≡ Some e → data_parts e + 1 ≤ data_parts d
got-within k null e is = (cc)
got-within k (boolean b) e is = (cc)
got-within k (number n) e is = (cc)
got-within k (string s) e is = (cc)
got-within k (array ds) e is = (cc)
got-within k (object ms) e is = let h = subst (IsWithin data_parts (data_members_parts ms)) is (member-within k ms) in omega (arith, h)

some-part : (d : Data) → 1 ≤ data_parts d
some-part null = omega arith
some-part (boolean b) = omega arith
some-part (number n) = omega arith
some-part (string s) = omega arith
some-part (array ds) = omega arith
some-part (object ms) = omega arith

listed-within : (ds : Items) → length (listed ds) ≤ data_items_parts ds
listed-within no_items = omega arith
listed-within (item d ds) = omega (arith, some-part d, listed-within ds)

array-few : (d : Data) (ds : List Data) → option_map listed (as_array d) ≡ Some ds → length ds + 1 ≤ data_parts d
array-few null ds is = (cc)
array-few (boolean b) ds is = (cc)
array-few (number n) ds is = (cc)
array-few (string s) ds is = (cc)
array-few (array items) ds is = let same : listed items ≡ ds = (cc) in let few = listed-within items in omega (arith, few, ap length same)
array-few (object ms) ds is = (cc)

-- an array in a field has fewer items than the line has bytes
pub array-within : (bytes : List ℕ) (d e : Data) (f : Field) (ds : List Data) → read_line bytes ≡ Ok d → field d f ≡ Some e → items e ≡ Some ds → length ds + 1 ≤ length bytes
unfolding field items
array-within bytes d e f ds line has is =
    omega (arith, line-within bytes d line, got-within (field_name f) d e has, array-few e ds is)
