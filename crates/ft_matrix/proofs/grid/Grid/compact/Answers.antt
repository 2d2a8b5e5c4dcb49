use Rattle.std.proofs.Common.{ap, refl, subst, sym}
use Rattle.ft_matrix.specs.declared.grid.Grid.{Grid}
use Rattle.ft_matrix.specs.Compacted.{AreGone}
use Rattle.ft_matrix.proofs.CompactedGrids.{compacted-none, compacts-grid}
use Rattle.ft_matrix.proofs.ScouredUnits.{are-gone}
use Rattle.ft_matrix.proofs.SoundVectors.{ok-with, on-ok}
use Rattle.ft_matrix.proofs.grid.Grid.compact.Goals as goal

pub free-requires : goal.free-requires
free-requires c = record {
  gone = are-gone c.args.floor c.in_ok-rows.rows.items c.args.self.now.rows c.scour_units.new.units c.in_ok-rows.ensures.scours c.requires.sound.rows.proper;
}

pub free-requires-2 : goal.free-requires-2
free-requires-2 c = record {
  gone = subst (AreGone c.in_ok-cols.cols.items) (sym (ap (λ (x : Grid). x.cols) c.in_ok-free.ensures.rest))
      (are-gone c.args.floor c.in_ok-cols.cols.items c.args.self.now.cols c.scour_units-2.new.units c.in_ok-cols.ensures.scours c.requires.sound.cols.proper);
}

pub returns-clause-compacts : goal.returns-clause-compacts
returns-clause-compacts c = ok-with _ c.free-2.result c.free-2.ensures
    (λ f. on-ok c.free-2.result (compacts-grid c.args.floor c.in_ok-rows.rows.items c.in_ok-cols.cols.items c.args.self.now
    (record c.args.self.now { rows = c.scour_units.new.units; cols = c.scour_units-2.new.units }) c.free.new.self c.free-2.new.self
    c.requires.sound c.requires.free refl c.in_ok-rows.ensures.scours c.in_ok-cols.ensures.scours c.in_ok-rows.ensures.sound c.in_ok-cols.ensures.sound c.in_ok-free.ensures f))

pub returns-clause-none : goal.returns-clause-none
returns-clause-none c = ok-with _ c.free-2.result c.free-2.ensures
    (λ f. on-ok c.free-2.result (compacted-none c.args.floor c.in_ok-rows.rows.items c.in_ok-cols.cols.items c.args.self.now
    (record c.args.self.now { rows = c.scour_units.new.units; cols = c.scour_units-2.new.units }) c.free.new.self c.free-2.new.self
    c.requires.sound c.requires.free refl c.in_ok-rows.ensures.scours c.in_ok-cols.ensures.scours c.in_ok-rows.ensures.sound c.in_ok-cols.ensures.sound c.in_ok-free.ensures f
    c.in_ok-rows.ensures.none c.in_ok-cols.ensures.none))
