use Rattle.std.proofs.Common.{◌≡◌, ◌∙◌, List, ℕ, suc, [], ◌∷◌, Bool, not, ◌==◌, length, sym, ap, chars, encode_utf8_all, arith}
use Rattle.std.proofs.lemmas.Bool.{ne_eqb}
use Rattle.std.proofs.lemmas.Str.{chars-nil}
use Rattle.ft_props.specs.Properties.{Characters}
use Rattle.ft_sumdoc.specs.declared.summary.Seg.TheVariants.{Chars}
use Rattle.ft_sumdoc.specs.Valid.{is_segment_body}
use Rattle.ft_sumdoc.proofs.valid.is_segment_body.Goals as goal

some_characters : (text : Characters) (bytes : List ℕ) → bytes ≡ encode_utf8_all text → chars bytes ≡ text → (b : Bool) → b ≡ (length bytes == 0)
    → not b ≡ is_segment_body (Chars text)
some_characters [] bytes written read b h = ap not (h ∙ ap (λ (bs : List ℕ). length bs == 0) written)
some_characters (c ∷ cs) [] written read b h = let none : [] ≡ c ∷ cs = sym chars-nil ∙ read in (cc)
some_characters (c ∷ cs) (x ∷ bytes) written read b h = ap not (h ∙ ne_eqb (suc (length bytes)) 0 (λ e. omega arith))

pub returns-in-Chars : goal.returns-in-Chars
returns-in-Chars c =
    some_characters c.in-Chars.text c.as_str.result.now c.as_str.ensures.bytes c.as_str.ensures.characters c.is_empty.result c.is_empty.ensures
    ∙ ap is_segment_body (sym c.in-Chars.is)
