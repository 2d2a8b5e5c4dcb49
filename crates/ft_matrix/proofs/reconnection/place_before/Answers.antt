use Rattle.std.proofs.Common.{◌∙◌, ap, nat_eq, position, sym}
use Rattle.ft_block.specs.declared.leaves.LenView.TheVariants.{Stage}
use Rattle.ft_perm.specs.Vectors.{seen_handles}
use Rattle.ft_matrix.specs.Resubmitted.{place_before}
use Rattle.ft_matrix.specs.Units.{units_of}
use Rattle.ft_matrix.proofs.UnitPieces.{seen-before, unseen-before}
use Rattle.ft_matrix.proofs.reconnection.place_before.Goals as goal

pub returns-in_err-handle : goal.returns-in_err-handle
returns-in_err-handle c = c.from_residual.ensures ∙ ap (λ o. place_before c.args.stage o (units_of c.args.units.now)) (sym c.in_err-handle.was)

pub returns-in_err-place_of : goal.returns-in_err-place_of
returns-in_err-place_of c =
    c.from_residual-in_err-place_of.ensures
    ∙ sym (unseen-before c.args.units.now c.requires.proper.once c.args.stage c.in_ok-handle.handle (sym c.place_of.ensures ∙ c.in_err-place_of.was))
    ∙ ap (λ o. place_before c.args.stage o (units_of c.args.units.now)) (sym c.in_ok-handle.was)

pub returns : goal.returns
returns c =
    c.place_of-2.ensures
    ∙ ap (λ j. position (λ g. nat_eq g c.in_ok-handle.handle) (seen_handles (Stage j) c.args.units.now.tree)) c.saturating_sub.ensures
    ∙ seen-before c.args.units.now c.requires.proper.once c.args.stage c.in_ok-handle.handle c.in_ok-place_of.field-0 (sym c.place_of.ensures ∙ c.in_ok-place_of.was)
    ∙ ap (λ o. place_before c.args.stage o (units_of c.args.units.now)) (sym c.in_ok-handle.was)
