use Rattle.std.proofs.Common.{◌∷◌, ◌++◌, take, sym, ◌∙◌, ap, subst}
use Rattle.ft_io.specs.Lines.{lf, IsUnbroken}
use Rattle.ft_io.specs.Reader.{handed_out}
use Rattle.ft_io.proofs.FirstLf.{FirstLf, unbroken_none, first_lf}
use Rattle.ft_io.proofs.intake.cut.Goals as goal

pub returns-in_ok-whole-in-Some : goal.returns-in_ok-whole-in-Some
returns-in_ok-whole-in-Some c = λ so_far is.
    let at = c.in-Some.at in
    let piece = c.args.piece.now in
    let found = subst (λ bytes. FirstLf bytes at) c.bytes-bytes.ensures (first_lf c.bytes-bytes.result.now at c.in-Some.ensures) in
    let whole = c.in_ok-whole-in-Some.ensures so_far is in (
      take at piece,
      found.place ∙ ap (λ rest. take at piece ++ lf ∷ rest) (sym c.advance.ensures),
      found.unbroken,
      whole ∙ ap (λ bytes. handed_out c.args.limit (so_far ++ take at bytes)) c.bytes-bytes.ensures,
    )

pub returns-in_ok-extended-in-None : goal.returns-in_ok-extended-in-None
returns-in_ok-extended-in-None c = λ so_far is. (
  subst IsUnbroken c.bytes-bytes.ensures (unbroken_none c.bytes-bytes.result.now c.in-None.ensures),
  c.in_ok-extended-in-None.ensures so_far is ∙ ap (λ bytes. handed_out c.args.limit (so_far ++ bytes)) c.bytes-bytes.ensures,
)
