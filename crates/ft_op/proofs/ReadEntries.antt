-- Reading the entries of an object into a list by rising keys: since their keys rise, each is put at the end.
use Rattle.std.proofs.Common.{◌≡◌, List, [], ◌∷◌, ◌++◌, Result, Ok, map, chars, string_bytes, refl, sym, ap, ◌∙◌, subst, append_assoc, Less, Greater}
use Rattle.std.specs.List.{AllByRecursion}
use Rattle.std.specs.List.Sorted.{IsStrictlySortedBy}
use Rattle.std.specs.Map.{keys_of}
use Rattle.std.specs.String.{string_cmp}
use Rattle.serde_json.proofs.Views.{Entry}
use Rattle.serde_json.specs.Data.{Data}
use Rattle.serde_json.specs.View.{view}
use Rattle.ft_json.specs.Objects.{entry_pairs, NamesRise}
use Rattle.ft_json.proofs.Lists.{NamesRise-entry_pairs}
use Rattle.ft_props.specs.Keys.{Characters, IsBeforeKeys, KeysRise, key_cmp, put_rising, text_cmp}
use Rattle.ft_props.proofs.RisingKeys.{text_cmp-back, IsBeforeKeys-trans}
use Rattle.ft_op.specs.Reading.{read_each, read_named}
use Rattle.ft_op.proofs.ReadLists.{all_and_last, joined, nothing_joined, next_read}

-- the key of an entry, and those of entries
abbrev pub key_of : Entry → Characters
key_of e = chars (string_bytes e.0)

abbrev pub keys_with : {V : Type 0} → V → List Entry → List (Characters × V)
keys_with v es = map (λ e. (key_of e, v)) es

before-keys_with : {V : Type 0} (v : V) (e : Entry) (es : List Entry) → NamesRise (entry_pairs (e ∷ es)) → IsBeforeKeys (key_of e) (keys_with v es)
before-keys_with v e [] h = tt
before-keys_with v e (next ∷ es) h = (h.0, IsBeforeKeys-trans (key_of e) (key_of next) (keys_with v es) h.0 (before-keys_with v next es h.1))

rising_names : {V : Type 0} (v : V) (es : List Entry) → NamesRise (entry_pairs es) → KeysRise (keys_with v es)
rising_names v [] h = tt
rising_names v (e ∷ es) h = (before-keys_with v e es h, rising_names v es h.1)

before-other_value : {V : Type 0} (a key : Characters) (v w : V) (xs ys : List (Characters × V)) → IsBeforeKeys a (xs ++ (key, v) ∷ ys) → IsBeforeKeys a (xs ++ (key, w) ∷ ys)
before-other_value a key v w [] ys h = h
before-other_value a key v w (x ∷ xs) ys h = (h.0, before-other_value a key v w xs ys h.1)

-- keys rise whatever a value is
rising-other_value : {V : Type 0} (key : Characters) (v w : V) (xs ys : List (Characters × V)) → KeysRise (xs ++ (key, v) ∷ ys) → KeysRise (xs ++ (key, w) ∷ ys)
rising-other_value key v w [] ys h = h
rising-other_value key v w (x ∷ xs) ys h = (before-other_value x.0 key v w xs ys h.0, rising-other_value key v w xs ys h.1)

before-in_middle : {V : Type 0} (a key : Characters) (v : V) (xs ys : List (Characters × V)) → IsBeforeKeys a (xs ++ (key, v) ∷ ys) → text_cmp a key ≡ Less
before-in_middle a key v [] ys h = h.0
before-in_middle a key v (x ∷ xs) ys h = before-in_middle a key v xs ys h.1

put_rising-behind : {V : Type 0} (key : Characters) (w : V) (x : Characters × V) (xs : List (Characters × V)) → text_cmp key x.0 ≡ Greater → put_rising key_cmp (key, w) (x ∷ xs) ≡ x ∷ put_rising key_cmp (key, w) xs
put_rising-behind key w x xs h = rw (h, put_rising) refl

-- a key behind all others is put at the end
put_rising-at_end : {V : Type 0} (key : Characters) (v w : V) (xs ys : List (Characters × V)) → KeysRise (xs ++ (key, v) ∷ ys) → put_rising key_cmp (key, w) xs ≡ xs ++ (key, w) ∷ []
put_rising-at_end key v w [] ys h = refl
put_rising-at_end key v w (x ∷ xs) ys h =
    put_rising-behind key w x xs (text_cmp-back x.0 key (before-in_middle x.0 key v xs ys h.0))
    ∙ ap (λ zs. x ∷ zs) (put_rising-at_end key v w xs ys h.1)

-- what was put of the entries, then what is read of those that are left, is what is read of all; the keys that are left come
-- behind those that were put; and what was put is so. The value v is any.
pub record IsReadSoFar {V F : Type 0} (reads : Characters → Data → Result V F) (IsSo : Characters × V → Type 0) (v : V) (put : List (Characters × V)) (left all : List Entry) : Type 0 where
  pub told : joined put (read_each (read_named reads) (entry_pairs left)) ≡ read_each (read_named reads) (entry_pairs all)
  pub rising : KeysRise (put ++ keys_with v left)
  pub so : AllByRecursion IsSo put

pub nothing_read : {V F : Type 0} (reads : Characters → Data → Result V F) (IsSo : Characters × V → Type 0) (v : V) (all : List Entry) → IsStrictlySortedBy string_cmp (keys_of all)
    → IsReadSoFar reads IsSo v [] all all
nothing_read reads IsSo v all h =
    record { told = nothing_joined (read_each (read_named reads) (entry_pairs all)); rising = rising_names v all (NamesRise-entry_pairs all h); so = tt }

named : {V F : Type 0} (reads : Characters → Data → Result V F) (e : Entry) (w : V) → reads (key_of e) (view e.1) ≡ Ok w → read_named reads (key_of e, view e.1) ≡ Ok (key_of e, w)
named reads e w h = rw h refl

pub entry_read : {V F : Type 0} (reads : Characters → Data → Result V F) (IsSo : Characters × V → Type 0) (v w : V) (put new : List (Characters × V)) (e : Entry) (left all : List Entry)
    → IsReadSoFar reads IsSo v put (e ∷ left) all → reads (key_of e) (view e.1) ≡ Ok w → IsSo (key_of e, w) → new ≡ put_rising key_cmp (key_of e, w) put → IsReadSoFar reads IsSo v new left all
entry_read reads IsSo v w put new e left all h got so is =
    let at_end : new ≡ put ++ (key_of e, w) ∷ [] = is ∙ put_rising-at_end (key_of e) v w put (keys_with v left) h.rising in
    record {
      told =
          ap (λ front. joined front (read_each (read_named reads) (entry_pairs left))) at_end
          ∙ sym (next_read (read_named reads) put (key_of e, view e.1) (key_of e, w) (entry_pairs left) (named reads e w got)) ∙ h.told;
      rising =
          subst KeysRise (sym (ap (λ front. front ++ keys_with v left) at_end ∙ append_assoc put ((key_of e, w) ∷ []) (keys_with v left)))
          (rising-other_value (key_of e) v w put (keys_with v left) h.rising);
      so = subst (AllByRecursion IsSo) (sym at_end) (all_and_last IsSo put (key_of e, w) h.so so);
    }
