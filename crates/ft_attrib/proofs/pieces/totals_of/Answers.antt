use Rattle.std.proofs.Common.{◌≡◌, ◌∙◌, ◌+◌, ◌-◌, List, ◌∷◌, length, drop, ap, sym, arith}
use Rattle.std.specs.Prelude.{slice_index_or}
use Rattle.std.proofs.lemmas.List.{drop_more}
use Rattle.ft_attrib.specs.declared.attribution.Origin.TheVariants.{Known}
use Rattle.ft_attrib.specs.declared.pieces.OriginPiece.{OriginPiece}
use Rattle.ft_attrib.specs.Totals.{counted_all, summed}
use Rattle.ft_attrib.specs.Pieces.{IsCut, spread}
use Rattle.ft_attrib.proofs.PieceLaws.{length-spread}
use Rattle.ft_attrib.proofs.TotalLaws.{counted-piece, summed-counted_origin}
use Rattle.ft_attrib.proofs.pieces.totals_of.Goals as goal

pub loop-piece-preserved : goal.loop-piece-preserved
loop-piece-preserved c =
    let i = c.loop-piece.piece-index in
    let start = c.loop-piece.start in
    let none : OriginPiece = record { end = 0; who = Known 0 0 } in
    let x : OriginPiece = slice_index_or c.args.pieces.now i none in
    let later : List OriginPiece = drop (i + 1) c.args.pieces.now in
    let split : drop i c.args.pieces.now ≡ x ∷ later = drop_more c.args.pieces.now i none (omega arith) in
    let cut : IsCut start (x ∷ later) = rw split at c.loop-piece.invariant.cut in
    let whole : start + length (spread start (x ∷ later)) ≡ length (spread 0 c.args.pieces.now) =
    ap (λ xs. start + length (spread start xs)) (sym split) ∙ c.loop-piece.invariant.rest in
    record {
      cut = cut.2;
      rest = sym (length-spread start x later cut.0) ∙ whole;
      sum = omega (arith, ap summed c.in_ok-add_origin.ensures, summed-counted_origin x.who (x.end - start) c.loop-piece.totals.items, cut.0, c.loop-piece.invariant.sum);
      counted =
          ap (λ ts. counted_all ts (spread x.end later)) c.in_ok-add_origin.ensures
          ∙ sym (counted-piece start x later c.loop-piece.totals.items cut.0)
          ∙ ap (λ xs. counted_all c.loop-piece.totals.items (spread start xs)) (sym split)
          ∙ c.loop-piece.invariant.counted;
    }
