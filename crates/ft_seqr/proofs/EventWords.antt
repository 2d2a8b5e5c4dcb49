-- The words of events are characters; the code compares their bytes, which is the same.
use Rattle.std.proofs.Common.{◌≡◌, List, ℕ, Bool, true, false, Err, codes, bytes_eq, refl, sym, ap, ◌∙◌}
use Rattle.std.proofs.lemmas.Bool.Decides.{same_from_decides}
use Rattle.std.proofs.lemmas.Slice.Eq.{bytes_eq-Decides}
use Rattle.std.proofs.lemmas.Str.{encodes-chars}
use Rattle.std.proofs.Math.Utf8.{encodes}
use Rattle.std.specs.Str.{IsUtf8, chars}
use lib.Utf8.{encode}
use Rattle.serde_json.specs.Data.{Data}
use Rattle.ft_json.specs.declared.fields.Field.TheVariants.{Address}
use Rattle.ft_msg.specs.declared.faults.Cause.TheVariants as cause
use Rattle.ft_seqr.specs.EventGrammar.{event_for, is_known_address}

-- a text is the word by its characters where it is by its bytes
pub same_word : (bs word : List ℕ) → IsUtf8 bs → encodes word ≡ word → chars word ≡ word → bytes_eq (chars bs) word ≡ bytes_eq bs word
same_word bs word utf8 spelled same =
    same_from_decides (bytes_eq (chars bs) word) (bytes_eq bs word) (
      λ h. sym (encodes-chars bs utf8) ∙ ap encodes ((bytes_eq-Decides (chars bs) word).0 h) ∙ spelled,
      λ e. (bytes_eq-Decides (chars bs) word).1 (ap chars e ∙ same),
    ) (bytes_eq-Decides bs word)

pub event_for-bytes : (bs : List ℕ) (d : Data) → IsUtf8 bs → event_for (chars bs) d ≡ event_for bs d
unfolding chars encode
event_for-bytes bs d utf8 =
    rw (
      same_word bs (codes "start") utf8 refl refl,
      same_word bs (codes "connect") utf8 refl refl,
      same_word bs (codes "drop") utf8 refl refl,
      same_word bs (codes "edit") utf8 refl refl,
      same_word bs (codes "ticket") utf8 refl refl,
      same_word bs (codes "deliver") utf8 refl refl,
      same_word bs (codes "noop") utf8 refl refl,
      same_word bs (codes "show") utf8 refl refl,
      same_word bs (codes "queue") utf8 refl refl,
      same_word bs (codes "compact") utf8 refl refl,
      same_word bs (codes "summary") utf8 refl refl,
      same_word bs (codes "offer") utf8 refl refl,
      same_word bs (codes "history") utf8 refl refl,
      same_word bs (codes "guest") utf8 refl refl,
      same_word bs (codes "submit") utf8 refl refl,
      same_word bs (codes "part") utf8 refl refl,
      same_word bs (codes "overlap") utf8 refl refl,
      same_word bs (codes "blame") utf8 refl refl,
      same_word bs (codes "authors") utf8 refl refl,
    )

-- a word that is neither of these two is no address
pub unknown_address : (bs : List ℕ) → IsUtf8 bs → (bs ≡ codes "text" → ⊥) → (bs ≡ codes "grid" → ⊥) → is_known_address (chars bs) ≡ Err (cause.WrongKind Address)
unfolding chars encode
unknown_address bs utf8 not_text not_grid =
    rw (same_word bs (codes "text") utf8 refl refl, other bs (codes "text") not_text, same_word bs (codes "grid") utf8 refl refl, other bs (codes "grid") not_grid)
  where
    other : (xs ys : List ℕ) → (xs ≡ ys → ⊥) → bytes_eq xs ys ≡ false
    other xs ys h = by (bytes_eq xs ys) refl
      where
        by : (b : Bool) → bytes_eq xs ys ≡ b → b ≡ false
        by true e = absurd (h ((bytes_eq-Decides xs ys).0 e))
        by false e = refl
