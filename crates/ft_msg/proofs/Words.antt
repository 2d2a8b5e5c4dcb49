-- The words of messages are characters; the code compares their bytes, which is the same.
use Rattle.std.proofs.Common.{◌≡◌, false, List, ℕ, Ok, codes, bytes_eq, refl, sym, ap, ◌∙◌}
use Rattle.std.proofs.lemmas.Bool.{false≢true}
use Rattle.std.proofs.lemmas.Slice.Eq.{bytes_eq-Decides}
use Rattle.std.proofs.lemmas.Str.{encodes-chars}
use Rattle.std.proofs.Math.Utf8.{encodes}
use Rattle.std.specs.Str.{IsUtf8, chars}
use lib.Utf8.{encode}
use Rattle.serde_json.specs.Data.{Data}
use Rattle.ft_json.specs.declared.fields.Field.TheVariants.{Contents}
use Rattle.ft_json.specs.Reading.{field}
use Rattle.ft_op.proofs.ReadValues.{refuted}
use Rattle.ft_msg.specs.declared.messages.MsgKind.TheVariants.{Op, Join, Leave, Noop, Other}
use Rattle.ft_msg.specs.declared.messages.Body.TheVariants.{Elsewhere}
use Rattle.ft_msg.specs.MessageGrammar.{body_for, grid_body, kind_of, needed_body, text_body}

-- a text with other bytes than the word has other characters
pub other_word : (bs word : List ℕ) → IsUtf8 bs → encodes word ≡ word → (bs ≡ word → ⊥) → bytes_eq (chars bs) word ≡ false
other_word bs word utf8 spelled other =
    refuted (bytes_eq (chars bs) word) (λ h. other (sym (encodes-chars bs utf8) ∙ ap encodes ((bytes_eq-Decides (chars bs) word).0 h) ∙ spelled))

-- and one with its bytes hasn't
pub the_word : (bs word : List ℕ) → chars word ≡ word → bs ≡ word → bytes_eq (chars bs) word ≡ false → ⊥
the_word bs word spelled is other = false≢true (sym other ∙ (bytes_eq-Decides (chars bs) word).1 (ap chars is ∙ spelled))

-- ---- kinds

pub kind_of-op : (bs : List ℕ) → bs ≡ codes "op" → Op ≡ kind_of (chars bs)
unfolding chars
kind_of-op bs e = rw e refl

pub kind_of-join : (bs : List ℕ) → bs ≡ codes "join" → Join ≡ kind_of (chars bs)
unfolding chars
kind_of-join bs e = rw e refl

pub kind_of-leave : (bs : List ℕ) → bs ≡ codes "leave" → Leave ≡ kind_of (chars bs)
unfolding chars
kind_of-leave bs e = rw e refl

pub kind_of-noop : (bs : List ℕ) → bs ≡ codes "noop" → Noop ≡ kind_of (chars bs)
unfolding chars
kind_of-noop bs e = rw e refl

pub kind_of-other : (bs : List ℕ) → IsUtf8 bs → (bs ≡ codes "op" → ⊥) → (bs ≡ codes "join" → ⊥) → (bs ≡ codes "leave" → ⊥) → (bs ≡ codes "noop" → ⊥) → Other (chars bs) ≡ kind_of (chars bs)
unfolding encode
kind_of-other bs utf8 op join leave noop =
    rw (other_word bs (codes "op") utf8 refl op, other_word bs (codes "join") utf8 refl join, other_word bs (codes "leave") utf8 refl leave, other_word bs (codes "noop") utf8 refl noop) refl

-- ---- addresses

pub body_for-text : (d : Data) (bs : List ℕ) → bs ≡ codes "text" → body_for d (chars bs) ≡ needed_body text_body (field d Contents)
unfolding chars
body_for-text d bs e = rw e refl

pub body_for-grid : (d : Data) (bs : List ℕ) → bs ≡ codes "grid" → body_for d (chars bs) ≡ needed_body grid_body (field d Contents)
unfolding chars
body_for-grid d bs e = rw e refl

pub body_for-other : (d : Data) (bs : List ℕ) → IsUtf8 bs → (bs ≡ codes "text" → ⊥) → (bs ≡ codes "grid" → ⊥) → body_for d (chars bs) ≡ Ok (Elsewhere (chars bs))
unfolding encode
body_for-other d bs utf8 text grid = rw (other_word bs (codes "text") utf8 refl text, other_word bs (codes "grid") utf8 refl grid) refl
