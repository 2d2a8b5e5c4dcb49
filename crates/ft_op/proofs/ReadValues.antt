-- The text of a value that isn't null isn't that of null.
use Rattle.std.proofs.Common.{◌≡◌, List, ℕ, Bool, true, false, Ok, codes, refl, sym, ap, ◌∙◌, arith}
use Rattle.std.specs.Prelude.{is_some}
use Rattle.std.proofs.lemmas.Bool.{false≢true}
use Rattle.std.proofs.lemmas.Slice.Eq.{bytes_eq-Decides}
use Rattle.serde_json.specs.Data.{Data, null}
use Rattle.serde_json.specs.Find.{as_null}
use Rattle.ft_json.specs.Reading.{read_line}
use Rattle.ft_json.proofs.Back.{read_line-compact_text}
use Rattle.ft_op.specs.Cells.{is_null}
use Rattle.ft_op.proofs.ReadSteps.{same_value}

pub refuted : (b : Bool) → (b ≡ true → ⊥) → b ≡ false
refuted true f = absurd (f refl)
refuted false f = refl

pub not_null : (d : Data) (text : List ℕ) → read_line text ≡ Ok d → is_some (as_null d) ≡ false → is_null text ≡ false
not_null d text e h =
    refuted (is_null text) (λ same.
    let nothing : read_line text ≡ Ok null = ap read_line ((bytes_eq-Decides text (codes "null")).0 same) ∙ read_line-compact_text null tt (omega arith) in
    false≢true (sym h ∙ ap (λ x. is_some (as_null x)) (same_value d null (read_line text) e nothing)))
