use Rattle.std.proofs.Common.{List, true, [], ap, subst, sym, ◌∙◌, nat_le}
use Rattle.std.specs.List.{list_all}
use Rattle.std.proofs.lemmas.Result.{on_ok_weaker}
use Rattle.ft_msg.specs.Summary.{doc_of}
use Rattle.ft_sumdoc.specs.declared.summary.RunRec.{RunRec}
use Rattle.ft_sumdoc.specs.declared.summary.CellRec.{CellRec}
use Rattle.ft_sumdoc.specs.Valid.{bounds}
use Rattle.ft_matrix.specs.declared.grid.Grid.{Grid}
use Rattle.ft_matrix.specs.GridStates.{grid_state}
use Rattle.ft_matrix.specs.HoldsGrid.{HoldsGrid}
use Rattle.ft_matrix.specs.Loaded.{LoadsCells, LoadsUnits}
use Rattle.ft_matrix.specs.Sound.{IsSound}
use Rattle.ft_matrix.proofs.LoadedGrids.{loaded-holds, loaded-sound, some-runs}
use Rattle.ft_matrix.proofs.grid.Grid.load.Goals as goal

pub load_units-requires-clause-some : goal.load_units-requires-clause-some
load_units-requires-clause-some c =
    ap (list_all (λ (run : RunRec). nat_le 1 run.count)) c.as_slice.ensures ∙ some-runs (bounds c.args.doc.now) c.args.doc.now.rows
    c.requires.valid.rows.each

pub load_units-requires-clause-empty : goal.load_units-requires-clause-empty
load_units-requires-clause-empty c = c.requires.empty.units.0

pub load_units-requires-2-clause-some : goal.load_units-requires-2-clause-some
load_units-requires-2-clause-some c =
    ap (list_all (λ (run : RunRec). nat_le 1 run.count)) c.as_slice-2.ensures ∙ some-runs (bounds c.args.doc.now) c.args.doc.now.cols
    c.requires.valid.cols.each

pub load_units-requires-2-clause-empty : goal.load_units-requires-2-clause-empty
load_units-requires-2-clause-empty c = c.requires.empty.units.1

pub returns : goal.returns
returns c =
    let sum = c.args.doc.now in
    let old = c.args.self.now in
    let empty = c.requires.empty in
    let between : Grid = record old {
      rows = c.load_units.new.units;
      cols = c.load_units-2.new.units;
      rows_made = c.in_ok-self.field-0;
      cols_made = c.in_ok-self-2.field-0;
    } in
    let rows = subst (λ rs. LoadsUnits rs c.in_ok-self.field-0 old.rows c.load_units.new.units) c.as_slice.ensures c.in_ok-self.ensures.loads in
    let cols = subst (λ cs. LoadsUnits cs c.in_ok-self-2.field-0 old.cols c.load_units-2.new.units) c.as_slice-2.ensures
    c.in_ok-self-2.ensures.loads in
    on_ok_weaker c.load_cells.result (λ l.
    let loads = subst (λ (cells : List CellRec). LoadsCells cells between c.load_cells.new.self) c.as_slice-3.ensures l in
    record {
      sound = subst IsSound (sym loads.rest)
          (loaded-sound sum c.requires.valid old.rows old.cols between c.load_cells.new.self.cells c.in_ok-self.ensures.sound
          c.in_ok-self-2.ensures.sound rows cols empty.sound.floors
          empty.cells empty.stages loads.table);
      holds = subst (λ (g : Grid). HoldsGrid (grid_state g 0 true) (doc_of sum) []) (sym loads.rest)
          (loaded-holds sum c.requires.valid old.rows old.cols between c.load_cells.new.self.cells c.in_ok-self.ensures.sound
          c.in_ok-self-2.ensures.sound rows cols empty.sound.floors
          empty.cells empty.stages loads.table);
      floor = ap (λ (g : Grid). g.rows.tree.floor) loads.rest ∙ rows.floor ∙ empty.floor;
    }) c.load_cells.ensures
