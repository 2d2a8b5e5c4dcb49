-- Names that stand once, found from the last on.
use Rattle.std.proofs.Common.{◌≡◌, ◌∙◌, ℕ, Bool, true, false, not, ◌&&◌, ◌||◌, cond, List, [], ◌∷◌, ◌++◌, Option, Some, bytes_eq, encode_utf8_all, refl, sym, ap}
use Rattle.std.specs.Prelude.{is_some}
use Rattle.std.specs.List.{list_any}
use Rattle.std.specs.Ordering.{is_eq}
use Rattle.std.proofs.lemmas.Bool.Decides.{same_from_decides}
use Rattle.std.proofs.lemmas.Slice.Eq.{bytes_eq-Decides}
use Rattle.ft_json.proofs.KeyOrder.{slice_cmp-encodes}
use Rattle.ft_props.specs.Properties.{Characters}
use Rattle.ft_sumdoc.specs.Counts.{are_distinct_names}
use Rattle.ft_sumdoc.proofs.ReadOptions.{equal_texts}

none_of : (b : Bool) → (b && false) ≡ false
none_of true = refl
none_of false = refl

twice_behind : (xs ys : List Characters) → are_distinct_names ys ≡ false → are_distinct_names (xs ++ ys) ≡ false
twice_behind [] ys h = h
twice_behind (x ∷ xs) ys h = ap (λ b. not (list_any (bytes_eq x) (xs ++ ys)) && b) (twice_behind xs ys h) ∙ none_of (not (list_any (bytes_eq x) (xs ++ ys)))

-- one that stands again behind it
pub stands_twice : (before : List Characters) (name : Characters) (later : List Characters) → list_any (bytes_eq name) later ≡ true → are_distinct_names (before ++ name ∷ later) ≡ false
stands_twice before name later h = twice_behind before (name ∷ later) (ap (λ b. not b && are_distinct_names later) h)

-- one that doesn't
pub stands_once : (name : Characters) (later : List Characters) → list_any (bytes_eq name) later ≡ false → are_distinct_names later ≡ true → are_distinct_names (name ∷ later) ≡ true
stands_once name later h k = ap (λ b. not b && are_distinct_names later) h ∙ k

same_bytes : (a b : Characters) → bytes_eq (encode_utf8_all a) (encode_utf8_all b) ≡ bytes_eq a b
same_bytes a b = equal_texts (encode_utf8_all a) (encode_utf8_all b) ∙ ap is_eq (slice_cmp-encodes a b) ∙ sym (equal_texts a b)

either_way : (a b : Characters) → bytes_eq a b ≡ bytes_eq b a
either_way a b =
    let ab = bytes_eq-Decides a b in
    let ba = bytes_eq-Decides b a in
    same_from_decides (bytes_eq a b) (bytes_eq b a) ab (λ h. sym (ba.0 h), λ e. ba.1 (sym e))

known_if : {A : Type 0} (b : Bool) (v : A) (o : Option A) → is_some (cond b (Some v) o) ≡ (b || is_some o)
known_if true v o = refl
known_if false v o = refl

-- a name more is known
pub one_more_known : {A : Type 0} (name q : Characters) (bs : List ℕ) (v : A) (o : Option A) (later : List Characters) → bs ≡ encode_utf8_all name → is_some o ≡ list_any (bytes_eq q) later
    → is_some (cond (bytes_eq bs (encode_utf8_all q)) (Some v) o) ≡ list_any (bytes_eq q) (name ∷ later)
one_more_known name q bs v o later e h =
    known_if (bytes_eq bs (encode_utf8_all q)) v o
    ∙ ap (λ b. b || is_some o) (ap (λ x. bytes_eq x (encode_utf8_all q)) e ∙ same_bytes name q ∙ either_way name q)
    ∙ ap (λ b. bytes_eq q name || b) h
