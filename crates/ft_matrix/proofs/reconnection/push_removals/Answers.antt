use Rattle.std.proofs.Common.{◌++◌, ◌∙◌, ap, append-nil, arith, get_or, sym, take}
use Rattle.std.proofs.lemmas.List.{take_all, take_more}
use Rattle.ft_rebase.specs.declared.pieces.Piece.TheVariants.{Insert}
use Rattle.ft_perm.specs.Vectors.{VectorState}
use Rattle.ft_perm.specs.contracts.vectors.Vector.{the_view}
use Rattle.ft_matrix.specs.Resubmitted.{removal_ops, removals_of}
use Rattle.ft_matrix.specs.Units.{units_of}
use Rattle.ft_matrix.proofs.UnitPieces.{removals-all, removals-more}
use Rattle.ft_matrix.proofs.reconnection.push_removals.Goals as goal

pub loop-part-init : goal.loop-part-init
loop-part-init c = sym (append-nil c.args.pieces.now.items)

pub loop-part-preserved : goal.loop-part-preserved
loop-part-preserved c =
    let xs = c.deref-part-items.result.now in
    let i = c.loop-part.part-index in
    c.in_ok-push_removal.ensures
    ∙ removals-more c.args.target c.args.pieces.now.items c.loop-part.pieces.items (take i xs) (get_or xs i (Insert 0)) c.loop-part.invariant
    ∙ ap (λ ps. c.args.pieces.now.items ++ removal_ops c.args.target ps) (sym (take_more xs i (Insert 0) c.loop-part-test.true))

pub returns : goal.returns
returns c =
    let xs = c.deref-part-items.result.now in
    c.loop-part.invariant
    ∙ ap (λ ps. c.args.pieces.now.items ++ removal_ops c.args.target ps)
    (take_all c.loop-part.part-index xs (omega arith) ∙ c.deref-part-items.ensures.value ∙ c.in_ok-parts.ensures)
    ∙ ap (λ ops. c.args.pieces.now.items ++ ops) (removals-all c.args.target c.args.stage (units_of (the_view c.units.inside))
    ∙ ap (λ (v : VectorState). removals_of c.args.stage c.args.target (units_of v)) c.units.view_is)
