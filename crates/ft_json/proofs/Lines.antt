-- What `read_line` answers, by whether the bytes are UTF-8 and have a reading.
use Rattle.std.proofs.Common.{◌≡◌, ℕ, List, Bool, true, false, cond, Some, None, Result, Ok, Err, refl, ap, ◌∙◌}
use Rattle.std.proofs.lemmas.Str.{IsUtf8-from_is_utf8, is_utf8-from_IsUtf8}
use Rattle.std.specs.Option.{ok_or}
use Rattle.std.specs.Str.{IsUtf8, is_utf8}
use Rattle.serde_json.specs.Data.{Data}
use Rattle.serde_json.specs.Read.{read}
use Rattle.ft_json.specs.declared.faults.JsonFault.{JsonFault}
use Rattle.ft_json.specs.declared.faults.JsonFault.TheVariants.{NotUtf8, NotJson}
use Rattle.ft_json.specs.Reading.{read_line}

refused : (b : Bool) (r : Result Data JsonFault) → (b ≡ true → ⊥) → cond b r (Err NotUtf8) ≡ Err NotUtf8
refused true r h = absurd (h refl)
refused false r h = refl

pub read_line-not_utf8 : (bytes : List ℕ) → (IsUtf8 bytes → ⊥) → read_line bytes ≡ Err NotUtf8
unfolding read_line
read_line-not_utf8 bytes h = refused (is_utf8 bytes) _ (λ e. h (IsUtf8-from_is_utf8 bytes e))

pub read_line-utf8 : (bytes : List ℕ) → IsUtf8 bytes → read_line bytes ≡ ok_or (read bytes) NotJson
unfolding read_line
read_line-utf8 bytes h = ap (λ b. cond b (ok_or (read bytes) NotJson) (Err NotUtf8)) (is_utf8-from_IsUtf8 bytes h)

pub read_line-value : (bytes : List ℕ) (d : Data) → IsUtf8 bytes → read bytes ≡ Some d → read_line bytes ≡ Ok d
read_line-value bytes d h e = read_line-utf8 bytes h ∙ ap (λ o. ok_or o NotJson) e

pub read_line-not_json : (bytes : List ℕ) → IsUtf8 bytes → read bytes ≡ None → read_line bytes ≡ Err NotJson
read_line-not_json bytes h e = read_line-utf8 bytes h ∙ ap (λ o. ok_or o NotJson) e
