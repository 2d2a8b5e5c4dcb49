use Rattle.std.proofs.Common.{◌∙◌, ap, sym}
use Rattle.ft_base.specs.Scan.{len}
use Rattle.ft_block.specs.declared.leaves.LenView.TheVariants.{Stage}
use Rattle.ft_tree_leaves.specs.Elements.{seen_in}
use Rattle.ft_matrix.specs.Units.{units_of}
use Rattle.ft_matrix.proofs.UnitPieces.{first-is, none-position, some-position}
use Rattle.ft_matrix.proofs.reconnection.put_position.Goals as goal

pub returns-in-Some : goal.returns-in-Some
returns-in-Some c = some-position c.args.stage (units_of c.args.units.now) c.in-Some.pos
    (sym (first-is c.args.stage (units_of c.args.units.now) c.args.parts.now c.requires.parts) ∙ sym c.first_insertion.ensures ∙ c.in-Some.is)

pub returns-in-None : goal.returns-in-None
returns-in-None c = c.seen_count.ensures ∙ ap (λ j. len (seen_in (Stage j)) (units_of c.args.units.now)) c.saturating_sub.ensures
    ∙ none-position c.args.stage (units_of c.args.units.now)
    (sym (first-is c.args.stage (units_of c.args.units.now) c.args.parts.now c.requires.parts) ∙ sym c.first_insertion.ensures ∙ c.in-None.is)
