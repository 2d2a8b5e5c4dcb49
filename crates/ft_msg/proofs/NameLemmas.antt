-- What a table of names, each under its own characters, says of the numbers of names.
use Rattle.std.proofs.Common.{◌≡◌, ℕ, zero, suc, ◌+◌, ◌-◌, ◌≤◌, ◌<◌, Bool, true, false, not, cond, List, [], ◌∷◌, ◌++◌, ◌||◌, length, get_or, Option, Some, None, Result, Ok, Err, OnOk, OnErr, ◌⊎◌, inl, inr, String, Global, string_bytes, position, slice_get, chars, bytes_eq, nat_lt, Contains, refl, sym, ap, ◌∙◌, arith, ltb-true}
use Rattle.std.proofs.lemmas.Bool.{ltb-false}
use Rattle.std.proofs.lemmas.Option.{slice_get-map}
use Rattle.std.proofs.lemmas.Slice.Eq.{bytes_eq-Decides}
use Rattle.std.proofs.lemmas.Str.{IsUtf8-string_bytes, encodes-chars}
use Rattle.std.proofs.Math.Utf8.{encodes}
use Rattle.std.specs.List.{list_any, position_or_len}
use Rattle.std.specs.Map.{keys_of, values_of}
use Rattle.std.specs.Option.{option_map}
use Rattle.std.specs.Str.{IsUtf8}
use Rattle.std.specs.String.{string_eq}
use Rattle.indexmap.specs.IndexMap.{insert_entry}
use Rattle.ft_msg.specs.NameTable.{number_of, names_after, name_at, AreDistinct, KeysSpellNames}

abbrev pub Named : Type 0
Named = String Global × List ℕ

-- whether the key has these bytes
abbrev pub has_bytes : List ℕ → String Global → Bool
has_bytes bs k = bytes_eq bs (string_bytes k)

same_test : (a b : Bool) → (a ≡ true → b ≡ true) → (b ≡ true → a ≡ true) → a ≡ b
same_test true true f g = refl
same_test true false f g = sym (f refl)
same_test false true f g = g refl
same_test false false f g = refl

-- bytes are a key's exactly where their characters are the name's
pub has_bytes-name : (bs : List ℕ) (e : Named) → IsUtf8 bs → chars (string_bytes e.0) ≡ e.1 → has_bytes bs e.0 ≡ bytes_eq e.1 (chars bs)
has_bytes-name bs e utf8 spelled =
    let keyed = bytes_eq-Decides bs (string_bytes e.0) in
    let named = bytes_eq-Decides e.1 (chars bs) in
    same_test (has_bytes bs e.0) (bytes_eq e.1 (chars bs))
    (λ h. named.1 (sym spelled ∙ ap chars (sym (keyed.0 h))))
    (λ h. keyed.1 (sym (encodes-chars bs utf8) ∙ ap encodes (sym (named.0 h) ∙ sym spelled) ∙ encodes-chars (string_bytes e.0) (IsUtf8-string_bytes e.0)))

number_step : (a b : Bool) (m n : ℕ) → a ≡ b → m ≡ suc n → cond b 1 (suc m) ≡ suc (cond (not a) (1 + n) 0)
number_step true true m n h e = refl
number_step true false m n h e = (cc)
number_step false true m n h e = (cc)
number_step false false m n h e = omega arith

-- the number of a name is one more than the place of its key, or than the count
pub number_of-place : (bs : List ℕ) (es : List Named) → IsUtf8 bs → KeysSpellNames es → number_of (values_of es) (chars bs) ≡ suc (position_or_len (has_bytes bs) (keys_of es))
number_of-place bs [] utf8 h = refl
number_of-place bs (e ∷ es) utf8 h =
    number_step (has_bytes bs e.0) (bytes_eq e.1 (chars bs)) (number_of (values_of es) (chars bs)) (position_or_len (has_bytes bs) (keys_of es))
    (has_bytes-name bs e utf8 h.0) (number_of-place bs es utf8 h.1)

within_step : (a : Bool) (n l : ℕ) → a ≡ false → cond (not a) (1 + n) 0 < suc l → n < l
within_step true n l h e = (cc)
within_step false n l h e = omega arith

kept : (a b : Bool) (xs ys : List (List ℕ)) (x : List ℕ) → a ≡ b → (a ≡ false → ys ≡ xs) → cond b (x ∷ xs) (x ∷ ys) ≡ x ∷ xs
kept true true xs ys x h e = refl
kept true false xs ys x h e = (cc)
kept false true xs ys x h e = refl
kept false false xs ys x h e = ap (λ zs. x ∷ zs) (e refl)

-- a name that is there changes nothing
pub names_after-known : (bs : List ℕ) (es : List Named) → IsUtf8 bs → KeysSpellNames es → position_or_len (has_bytes bs) (keys_of es) < length (keys_of es) → names_after (values_of es) (chars bs) ≡ values_of es
names_after-known bs [] utf8 h within = absurd (omega arith)
names_after-known bs (e ∷ es) utf8 h within =
    kept (has_bytes bs e.0) (bytes_eq e.1 (chars bs)) (values_of es) (names_after (values_of es) (chars bs)) e.1 (has_bytes-name bs e utf8 h.0)
    (λ new. names_after-known bs es utf8 h.1 (within_step (has_bytes bs e.0) _ _ new within))

placed : {X : Type 0} (p : X → Bool) (xs : List X) (b : Bool) (i : ℕ) → nat_lt (position_or_len p xs) (length xs) ≡ b → Some i ≡ cond b (Some (position_or_len p xs)) None → (i ≡ position_or_len p xs) × (position_or_len p xs < length xs)
placed p xs true i h e = ((cc), ltb-true _ _ h)
placed p xs false i h e = (cc)

-- the place that was found
pub place-Some : {X : Type 0} (p : X → Bool) (xs : List X) (i : ℕ) → Some i ≡ position p xs → (i ≡ position_or_len p xs) × (position_or_len p xs < length xs)
place-Some p xs i e = placed p xs (nat_lt (position_or_len p xs) (length xs)) i refl e

or_len : {X : Type 0} (p : X → Bool) (xs : List X) → position_or_len p xs ≤ length xs
or_len p [] = omega arith
or_len p (x ∷ xs) = step (p x) _ _ (or_len p xs)
  where
    step : (b : Bool) (m n : ℕ) → m ≤ n → cond (not b) (1 + m) 0 ≤ suc n
    step true m n h = omega arith
    step false m n h = omega arith

unplaced : {X : Type 0} (p : X → Bool) (xs : List X) (b : Bool) → nat_lt (position_or_len p xs) (length xs) ≡ b → None ≡ cond b (Some (position_or_len p xs)) None → position_or_len p xs ≡ length xs
unplaced p xs true h e = (cc)
unplaced p xs false h e = let above = ltb-false (position_or_len p xs) (length xs) h in let below = or_len p xs in omega arith

-- no place was found
pub place-None : {X : Type 0} (p : X → Bool) (xs : List X) → None ≡ position p xs → position_or_len p xs ≡ length xs
place-None p xs e = unplaced p xs (nat_lt (position_or_len p xs) (length xs)) refl e

pub length-keys : (es : List Named) → length (keys_of es) ≡ length es
length-keys [] = refl
length-keys (e ∷ es) = ap suc (length-keys es)

pub length-values : (es : List Named) → length (values_of es) ≡ length es
length-values [] = refl
length-values (e ∷ es) = ap suc (length-values es)

-- a name that is there has no number above the count
number_of-at : (names : List (List ℕ)) (i : ℕ) (name : List ℕ) → i < length names → get_or names i name ≡ name → number_of names name ≤ suc i
number_of-at [] i name within e = absurd (omega arith)
number_of-at (first ∷ names) zero name within e = step (bytes_eq first name) ((bytes_eq-Decides first name).1 e)
  where
    step : (b : Bool) → b ≡ true → cond b 1 (suc (number_of names name)) ≤ 1
    step true h = omega arith
    step false h = (cc)
number_of-at (first ∷ names) (suc i) name within e = step (bytes_eq first name) (number_of-at names i name (omega arith) e)
  where
    step : (b : Bool) → number_of names name ≤ suc i → cond b 1 (suc (number_of names name)) ≤ suc (suc i)
    step true h = omega arith
    step false h = omega arith

pub number_of-Contains : (names : List (List ℕ)) (name : List ℕ) → Contains names name → number_of names name ≤ length names
number_of-Contains names name h = let at = number_of-at names h.0 name h.1 h.2 in let within = h.1 in omega arith

added : (a b : Bool) (x v : List ℕ) (xs ys zs : List (List ℕ)) → a ≡ b → (b ≡ true → x ≡ v) → ys ≡ zs → cond a (v ∷ xs) (x ∷ ys) ≡ cond b (x ∷ xs) (x ∷ zs)
added true true x v xs ys zs h same rest = ap (λ y. y ∷ xs) (sym (same refl))
added true false x v xs ys zs h same rest = (cc)
added false true x v xs ys zs h same rest = (cc)
added false false x v xs ys zs h same rest = ap (λ ws. x ∷ ws) rest

values-cond : (b : Bool) (es fs : List Named) → values_of (cond b es fs) ≡ cond b (values_of es) (values_of fs)
values-cond true es fs = refl
values-cond false es fs = refl

-- the names after one is inserted under its own characters
pub values-insert_entry : (es : List Named) (k : String Global) → KeysSpellNames es → values_of (insert_entry string_eq es k (chars (string_bytes k))) ≡ names_after (values_of es) (chars (string_bytes k))
values-insert_entry [] k h = refl
values-insert_entry (e ∷ es) k h =
    let name = chars (string_bytes k) in
    let same = has_bytes-name (string_bytes k) e (IsUtf8-string_bytes k) h.0 in
    values-cond (string_eq k e.0) ((e.0, name) ∷ es) (e ∷ insert_entry string_eq es k name)
    ∙ added (string_eq k e.0) (bytes_eq e.1 name) e.1 name (values_of es) (values_of (insert_entry string_eq es k name)) (names_after (values_of es) name)
    same (λ yes. (bytes_eq-Decides e.1 name).0 yes) (values-insert_entry es k h.1)

spelled-cond : (b : Bool) (es fs : List Named) → (b ≡ true → KeysSpellNames es) → KeysSpellNames fs → KeysSpellNames (cond b es fs)
spelled-cond true es fs f g = f refl
spelled-cond false es fs f g = g

-- and each is still under its own characters
pub KeysSpellNames-insert_entry : (es : List Named) (k : String Global) → KeysSpellNames es → KeysSpellNames (insert_entry string_eq es k (chars (string_bytes k)))
KeysSpellNames-insert_entry [] k h = (refl, tt)
KeysSpellNames-insert_entry (e ∷ es) k h =
    let name = chars (string_bytes k) in
    let same = has_bytes-name (string_bytes k) e (IsUtf8-string_bytes k) h.0 in
    spelled-cond (string_eq k e.0) ((e.0, name) ∷ es) (e ∷ insert_entry string_eq es k name)
    (λ yes. (h.0 ∙ (bytes_eq-Decides e.1 name).0 (sym same ∙ yes), h.1))
    (h.0, KeysSpellNames-insert_entry es k h.1)

-- what a call left that changed the entries or failed
pub left_by : {T E X : Type 0} (r : Result T E) {x y z : X} → OnOk r (z ≡ x) → OnErr r (z ≡ y) → (z ≡ x) ⊎ (z ≡ y)
left_by (Ok t) f g = inl f
left_by (Err e) f g = inr g

-- ---- what the calls of a table need

-- the number of a name whose key was found
pub number-found : (es : List Named) (bs name : List ℕ) (i : ℕ) → IsUtf8 bs → chars bs ≡ name → KeysSpellNames es → Some i ≡ position (has_bytes bs) (keys_of es) → i + 1 ≡ number_of (values_of es) name
number-found es bs name i utf8 same h e =
    let at = number_of-place bs es utf8 h in
    let place = (place-Some (has_bytes bs) (keys_of es) i e).0 in
    let n : i + 1 ≡ suc (position_or_len (has_bytes bs) (keys_of es)) = omega arith in
    n ∙ sym at ∙ ap (number_of (values_of es)) same

-- its names stay
pub names-found : (es : List Named) (bs name : List ℕ) (i : ℕ) → IsUtf8 bs → chars bs ≡ name → KeysSpellNames es → Some i ≡ position (has_bytes bs) (keys_of es) → values_of es ≡ names_after (values_of es) name
names-found es bs name i utf8 same h e =
    sym (names_after-known bs es utf8 h (place-Some (has_bytes bs) (keys_of es) i e).1) ∙ ap (names_after (values_of es)) same

-- the number of a name whose key was not found
pub number-new : (es : List Named) (bs name : List ℕ) → IsUtf8 bs → chars bs ≡ name → KeysSpellNames es → None ≡ position (has_bytes bs) (keys_of es) → length es + 1 ≡ number_of (values_of es) name
number-new es bs name utf8 same h e =
    let at = number_of-place bs es utf8 h in
    let place = place-None (has_bytes bs) (keys_of es) e in
    let count = length-keys es in
    let n : length es + 1 ≡ suc (position_or_len (has_bytes bs) (keys_of es)) = omega arith in
    n ∙ sym at ∙ ap (number_of (values_of es)) same

-- and the name is not among the names
pub absent-new : (es : List Named) (bs name : List ℕ) → IsUtf8 bs → chars bs ≡ name → KeysSpellNames es → None ≡ position (has_bytes bs) (keys_of es) → Contains (values_of es) name → ⊥
absent-new es bs name utf8 same h e there =
    let at = number-new es bs name utf8 same h e in
    let most = number_of-Contains (values_of es) name there in
    let count = length-values es in
    omega arith

-- the entries after an insertion under a name's own characters
pub entries-inserted : (es : List Named) (k : String Global) (bs name value : List ℕ) → string_bytes k ≡ bs → chars bs ≡ name → value ≡ name → insert_entry string_eq es k value ≡ insert_entry string_eq es k (chars (string_bytes k))
entries-inserted es k bs name value key same copied = ap (insert_entry string_eq es k) (copied ∙ sym same ∙ ap chars (sym key))

-- the name of a number above 0
pub name_at-entry : (es : List Named) (n : ℕ) (o : Option Named) → (n ≡ 0 → ⊥) → o ≡ slice_get es (n - 1) → option_map (λ e. e.1) o ≡ name_at (values_of es) n
name_at-entry es zero o above e = absurd (above refl)
name_at-entry es (suc n) o above e =
    let before : suc n - 1 ≡ n = omega arith in
    ap (option_map (λ (x : Named). x.1)) (e ∙ ap (slice_get es) before) ∙ sym (slice_get-map (λ (x : Named). x.1) es n)

-- an insertion adds at most one entry
pub length-insert_entry : (es : List Named) (k : String Global) (name : List ℕ) → length (insert_entry string_eq es k name) ≤ length es + 1
length-insert_entry [] k name = omega arith
length-insert_entry (e ∷ es) k name = step (string_eq k e.0) (length-insert_entry es k name)
  where
    step : (b : Bool) → length (insert_entry string_eq es k name) ≤ length es + 1 → length (cond b ((e.0, name) ∷ es) (e ∷ insert_entry string_eq es k name)) ≤ suc (length es) + 1
    step true h = omega arith
    step false h = omega arith

or_left : (a b : Bool) → (a || b) ≡ false → a ≡ false
or_left true b e = (cc)
or_left false b e = refl

or_right : (a b : Bool) → (a || b) ≡ false → b ≡ false
or_right true b e = (cc)
or_right false b e = e

other-names_after : (first name : List ℕ) (names : List (List ℕ)) → list_any (bytes_eq first) names ≡ false → bytes_eq first name ≡ false → list_any (bytes_eq first) (names_after names name) ≡ false
other-names_after first name [] h new = ap (λ b. b || false) new
other-names_after first name (x ∷ xs) h new = step (bytes_eq x name) (bytes_eq first x) refl h (λ k. other-names_after first name xs k new)
  where
    step : (b c : Bool) → bytes_eq first x ≡ c → (c || list_any (bytes_eq first) xs) ≡ false → (list_any (bytes_eq first) xs ≡ false → list_any (bytes_eq first) (names_after xs name) ≡ false)
        → list_any (bytes_eq first) (cond b (x ∷ xs) (x ∷ names_after xs name)) ≡ false
    step b true e k rest = (cc)
    step true false e k rest = ap (λ c. c || list_any (bytes_eq first) xs) e ∙ k
    step false false e k rest = ap (λ c. c || list_any (bytes_eq first) (names_after xs name)) e ∙ rest k

-- a name that appears leaves the names distinct
pub AreDistinct-names_after : (names : List (List ℕ)) (name : List ℕ) → AreDistinct names → AreDistinct (names_after names name)
AreDistinct-names_after [] name h = (refl, tt)
AreDistinct-names_after (first ∷ names) name h = step (bytes_eq first name) refl (AreDistinct-names_after names name h.1)
  where
    step : (b : Bool) → bytes_eq first name ≡ b → AreDistinct (names_after names name) → AreDistinct (cond b (first ∷ names) (first ∷ names_after names name))
    step true e rest = h
    step false e rest = (other-names_after first name names h.0 e, rest)

other-later : (first name : List ℕ) (done left : List (List ℕ)) → list_any (bytes_eq first) (done ++ name ∷ left) ≡ false → bytes_eq first name ≡ false
other-later first name [] left k = or_left (bytes_eq first name) (list_any (bytes_eq first) left) k
other-later first name (x ∷ xs) left k = other-later first name xs left (or_right (bytes_eq first x) (list_any (bytes_eq first) (xs ++ name ∷ left)) k)

-- of distinct names the next one goes last
pub names_after-next : (done : List (List ℕ)) (name : List ℕ) (left : List (List ℕ)) → AreDistinct (done ++ name ∷ left) → names_after done name ≡ done ++ name ∷ []
names_after-next [] name left h = refl
names_after-next (first ∷ done) name left h = step (bytes_eq first name) (other-later first name done left h.0) (names_after-next done name left h.1)
  where
    step : (b : Bool) → b ≡ false → names_after done name ≡ done ++ name ∷ [] → cond b (first ∷ done) (first ∷ names_after done name) ≡ first ∷ (done ++ name ∷ [])
    step true e rest = (cc)
    step false e rest = ap (λ xs. first ∷ xs) rest
