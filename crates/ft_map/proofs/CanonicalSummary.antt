-- The text of a summary is the compact text of a canonical value.
use Rattle.std.proofs.Common.{◌≡◌, ◌<◌, ◌^◌, ℕ, true, false, List, [], ◌∷◌, ◌++◌, codes, decimal, encode_utf8_all, refl, sym, ◌∙◌, ap, arith, append_assoc}
use Rattle.std.specs.Prelude.{nat_lt}
use Rattle.std.proofs.lemmas.Bool.Decides.{nat_tests}
use Rattle.std.specs.Fmt.{digits}
use Rattle.std.specs.List.{AllByRecursion}
use Rattle.std.specs.Str.{IsUtf8}
use Rattle.json.specs.Print.{escape_byte, quoted}
use Rattle.serde_json.specs.Data.{Data, array, number, object, string, unsigned, Items, no_items, item, no_members, member}
use Rattle.serde_json.specs.Written.{compact_text, items_text}
use Rattle.ft_json.specs.Canonical.{IsCanonical, IsCanonicalText, ItemsAreCanonical}
use Rattle.ft_json.proofs.Quoted.{encodes-quoted}
use Rattle.ft_seqr.specs.ViewLines.{json_string}
use Rattle.ft_shared_map.specs.Maps.{Characters, FiniteMap, ValueBytes}
use Rattle.ft_map.specs.MapClient.{MapClient}
use Rattle.ft_map.specs.MapReport.{later_pairs, pair_text, pairs_text, summary_text}
use Rattle.ft_map.specs.MapWorlds.{IsWritable}

-- an entry as a value
pair-value : (e : Characters × ValueBytes) → IsWritable e → (d : Data) × IsCanonical d × (compact_text d ≡ pair_text e)
pair-value (key, value) (utf8, (v, canonical, spells)) = (
  array (item (string (encode_utf8_all key)) (item v no_items)),
  (utf8, (canonical, tt)),
  ap (λ t. 91 ∷ (t ++ (44 ∷ (compact_text v ++ (93 ∷ []))))) (sym (encodes-quoted key)) ∙ ap (λ t. 91 ∷ (json_string key ++ (44 ∷ (t ++ (93 ∷ []))))) (sym spells),
)

-- the entries behind the first one, and what closes them
later-items : (m : FiniteMap) → AllByRecursion IsWritable m → (ds : Items) × ItemsAreCanonical ds × (items_text true ds ≡ later_pairs m ++ (93 ∷ []))
later-items [] w = (no_items, tt, refl)
later-items (e ∷ m) (here, behind) =
    let (d, c, t) = pair-value e here in
    let (ds, cs, ts) = later-items m behind in (
      item d ds,
      (c, cs),
      ap (λ x. 44 ∷ (x ++ items_text true ds)) t ∙ ap (λ x. 44 ∷ (pair_text e ++ x)) ts ∙ sym (append_assoc (44 ∷ pair_text e) (later_pairs m) (93 ∷ [])),
    )

all-items : (m : FiniteMap) → AllByRecursion IsWritable m → (ds : Items) × ItemsAreCanonical ds × (items_text false ds ≡ pairs_text m ++ (93 ∷ []))
all-items [] w = (no_items, tt, refl)
all-items (e ∷ m) (here, behind) =
    let (d, c, t) = pair-value e here in
    let (ds, cs, ts) = later-items m behind in (
      item d ds,
      (c, cs),
      ap (λ x. x ++ items_text true ds) t ∙ ap (λ x. pair_text e ++ x) ts ∙ sym (append_assoc (pair_text e) (later_pairs m) (93 ∷ [])),
    )

-- the four fields round the entries
abbrev summary-value : ℕ → ℕ → Items → Data
summary-value min seq ds =
    object (member (codes "min") (number (unsigned min)) (member (codes "pairs") (array ds) (member (codes "seq") (number (unsigned seq)) (member (codes "version") (number (unsigned 1)) no_members))))

whole : (n : ℕ) → n < 2 ^ 64 → nat_lt n (2 ^ 64) ≡ true
whole n l = grind (arith, nat_tests)

min_utf8 : IsUtf8 (codes "min")
unfolding lib.Utf8.encode
min_utf8 = (codes "min", (refl, refl))

pairs_utf8 : IsUtf8 (codes "pairs")
unfolding lib.Utf8.encode
pairs_utf8 = (codes "pairs", (refl, refl))

seq_utf8 : IsUtf8 (codes "seq")
unfolding lib.Utf8.encode
seq_utf8 = (codes "seq", (refl, refl))

version_utf8 : IsUtf8 (codes "version")
unfolding lib.Utf8.encode
version_utf8 = (codes "version", (refl, refl))

value-canonical : (min seq : ℕ) (ds : Items) → min < 2 ^ 64 → seq < 2 ^ 64 → ItemsAreCanonical ds → IsCanonical (summary-value min seq ds)
value-canonical min seq ds low few cs =
    (min_utf8, refl, whole min low, (pairs_utf8, refl, cs, (seq_utf8, refl, whole seq few, (version_utf8, tt, refl, tt))))

-- what stands behind the entries
abbrev tail_text : ℕ → List ℕ
tail_text seq = codes ",\"seq\":" ++ (decimal seq ++ codes ",\"version\":1}")

-- no character of these is escaped
min_text : quoted (codes "min") ≡ codes "\"min\""
unfolding escape_byte
min_text = refl

pairs_spelled : quoted (codes "pairs") ≡ codes "\"pairs\""
unfolding escape_byte
pairs_spelled = refl

seq_text : quoted (codes "seq") ≡ codes "\"seq\""
unfolding escape_byte
seq_text = refl

version_text : quoted (codes "version") ≡ codes "\"version\""
unfolding escape_byte
version_text = refl

-- the fields by their names as they are spelled
abbrev spelled_fields : List ℕ → List ℕ → List ℕ → List ℕ → ℕ → ℕ → Items → List ℕ
spelled_fields a b c d min seq ds =
    123 ∷ (a ++ 58 ∷ (decimal min ++ (44 ∷ (b ++ 58 ∷ (91 ∷ (items_text false ds ++ (44 ∷ (c ++ 58 ∷ (decimal seq ++ (44 ∷ (d ++ 58 ∷ (decimal 1 ++ (125 ∷ [])))))))))))))

by_fields : (min seq : ℕ) (ds : Items) → compact_text (summary-value min seq ds) ≡ spelled_fields (quoted (codes "min")) (quoted (codes "pairs")) (quoted (codes "seq")) (quoted (codes "version")) min seq ds
by_fields min seq ds = refl

as_spelled : (min seq : ℕ) (ds : Items) → spelled_fields (codes "\"min\"") (codes "\"pairs\"") (codes "\"seq\"") (codes "\"version\"") min seq ds
    ≡ codes "{\"min\":" ++ (decimal min ++ (codes ",\"pairs\":[" ++ (items_text false ds ++ tail_text seq)))
unfolding digits
as_spelled min seq ds = refl

value-text : (min seq : ℕ) (ds : Items) → compact_text (summary-value min seq ds) ≡ codes "{\"min\":" ++ (decimal min ++ (codes ",\"pairs\":[" ++ (items_text false ds ++ tail_text seq)))
value-text min seq ds =
    by_fields min seq ds
    ∙ ap (λ a. spelled_fields a (quoted (codes "pairs")) (quoted (codes "seq")) (quoted (codes "version")) min seq ds) min_text
    ∙ ap (λ b. spelled_fields (codes "\"min\"") b (quoted (codes "seq")) (quoted (codes "version")) min seq ds) pairs_spelled
    ∙ ap (λ c. spelled_fields (codes "\"min\"") (codes "\"pairs\"") c (quoted (codes "version")) min seq ds) seq_text
    ∙ ap (λ d. spelled_fields (codes "\"min\"") (codes "\"pairs\"") (codes "\"seq\"") d min seq ds) version_text
    ∙ as_spelled min seq ds

pub summary-canonical : (x : MapClient) → x.minimum < 2 ^ 64 → x.number < 2 ^ 64 → AllByRecursion IsWritable x.state.acked → IsCanonicalText (summary_text x)
unfolding summary_text
summary-canonical x low few w =
    let (ds, cs, ts) = all-items x.state.acked w in
    let m = x.state.acked in
    let whole_text = λ (t : List ℕ). codes "{\"min\":" ++ (decimal x.minimum ++ (codes ",\"pairs\":[" ++ t)) in (
      summary-value x.minimum x.number ds,
      value-canonical x.minimum x.number ds low few cs,
      ap whole_text (sym (ap (λ t. t ++ tail_text x.number) ts ∙ append_assoc (pairs_text m) (93 ∷ []) (tail_text x.number))) ∙ sym (value-text x.minimum x.number ds),
    )

-- the text by its three pieces
pub spelled : (x : MapClient) (min seq : ℕ) (start after end new : List ℕ) → min ≡ x.minimum → seq ≡ x.number
    → start ≡ codes "{\"min\":" ++ (decimal min ++ codes ",\"pairs\":[") → after ≡ start ++ pairs_text x.state.acked → end ≡ codes "],\"seq\":" ++ (decimal seq ++ codes ",\"version\":1}")
    → new ≡ after ++ end → new ≡ summary_text x
unfolding summary_text
spelled x min seq start after end new low few is_start is_after is_end is_new =
    let rest = pairs_text x.state.acked ++ (codes "],\"seq\":" ++ (decimal x.number ++ codes ",\"version\":1}")) in
    is_new ∙ ap (λ t. t ++ end) is_after ∙ append_assoc start (pairs_text x.state.acked) end
    ∙ ap (λ t. start ++ (pairs_text x.state.acked ++ t)) (is_end ∙ ap (λ n. codes "],\"seq\":" ++ (decimal n ++ codes ",\"version\":1}")) few)
    ∙ ap (λ t. t ++ rest) (is_start ∙ ap (λ n. codes "{\"min\":" ++ (decimal n ++ codes ",\"pairs\":[")) low)
    ∙ ap (λ t. codes "{\"min\":" ++ t) (append_assoc (decimal x.minimum) (codes ",\"pairs\":[") rest)

-- one entry more of those behind the first one
pub later-added : (rest later : FiniteMap) (e : Characters × ValueBytes) (before comma after all : List ℕ)
    → rest ≡ e ∷ later → before ++ later_pairs rest ≡ all → comma ≡ before ++ codes "," → after ≡ comma ++ pair_text e → after ++ later_pairs later ≡ all
later-added rest later e before comma after all is so_far is_comma is_after =
    ap (λ t. t ++ later_pairs later) (is_after ∙ ap (λ t. t ++ pair_text e) is_comma ∙ append_assoc before (codes ",") (pair_text e))
    ∙ append_assoc before (codes "," ++ pair_text e) (later_pairs later)
    ∙ ap (λ (m : FiniteMap). before ++ later_pairs m) (sym is) ∙ so_far
