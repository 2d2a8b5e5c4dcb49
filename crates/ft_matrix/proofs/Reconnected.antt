-- What a reconnection makes of a grid that holds the part of a document: what is sent of an edit, and the stages that go on.
use Rattle.std.proofs.Common.{◌≡◌, ℕ, true, List, [], ◌∷◌, ◌++◌, Option, option_map, refl, sym, ◌∙◌, ap, subst, map, flat_map}
use Rattle.std.specs.List.{list_all}
use Rattle.ft_op.specs.declared.operations.CellOp.{CellOp}
use Rattle.ft_op.specs.declared.operations.ChannelOp.TheVariants.{Grid as OfGrid}
use Rattle.ft_op.specs.declared.operations.GridOp.{GridOp}
use Rattle.ft_op.specs.Document.{Document}
use Rattle.ft_op.specs.Intervals.{NamedElements}
use Rattle.ft_op.specs.Operation.{OnGrid}
use Rattle.ft_op.specs.Pieces.{grid_pieces, op_of, pieces}
use Rattle.ft_op.specs.Stages.{Stage}
use Rattle.ft_msg.specs.Indexed.{IndexedStage, indexed_stage}
use Rattle.ft_msg.specs.Reconnection.{carried_stage}
use Rattle.ft_perm.specs.Handles.{numbers_from}
use Rattle.ft_laws_agreement.specs.Sequencing.{is_grid_stage}
use Rattle.ft_laws_names.specs.WellNamed.{AreNamedBefore, AreThere}
use Rattle.ft_named.proofs.Bares.{from-bare}
use Rattle.ft_named.proofs.ListSteps.{even-removals}
use Rattle.ft_named.proofs.PieceSteps.{removal-runs}
use Rattle.ft_matrix.specs.declared.grid.Grid.{Grid}
use Rattle.ft_matrix.specs.declared.stages.GridStage.{GridStage}
use Rattle.ft_matrix.specs.Applied.{Holds}
use Rattle.ft_matrix.specs.GridStates.{grid_state, shown_stage}
use Rattle.ft_matrix.specs.HoldsGrid.{HoldsGrid}
use Rattle.ft_matrix.specs.Resubmitted.{AreDue, Resubmits, SendsAgain, stage_pieces}
use Rattle.ft_matrix.specs.Sound.{IsSound}
use Rattle.ft_matrix.specs.Units.{units_of}
use Rattle.ft_matrix.proofs.CompactedGrids.{grid_content}
use Rattle.ft_matrix.proofs.ResubmittedGrids.{edit-after, edit-sent, resubmitted-held, resubmitted-sound, stages-sent}
use Rattle.ft_matrix.proofs.SentPieces.{sent-pieces}
use Rattle.ft_matrix.proofs.UnitLists.{units-beside}

module _ (last : ℕ) (old : Grid) (sound : IsSound old) (doc : Document) (stages : List Stage) (h : Holds last old doc stages) where
  -- a stage and its item are sent alike
  pub same-sent : (k : ℕ) (op : CellOp) (n : NamedElements) (u : GridStage) → AreThere doc (OnGrid op) n → AreNamedBefore k (OnGrid op) n
      → indexed_stage doc (record { stage = k; sub_operation = OnGrid op; names = n }) ≡ shown_stage old.rows old.cols u
      → map (λ p. OnGrid p) (stage_pieces (units_of old.rows) (units_of old.cols) u) ≡ grid_pieces k doc n op
  same-sent k op n u there before e =
      let number : u.stage ≡ k = sym (ap (λ (s : IndexedStage). s.stage) e) in
      sent-pieces doc old.rows old.cols sound.rows.proper sound.cols.proper h.named.rows.once h.named.cols.once
      (units-beside doc.rows.items (units_of old.rows) h.named.rows.removals h.holds.rows) (units-beside doc.cols.items (units_of old.cols) h.named.cols.removals h.holds.cols) u n
      (ap (λ (s : IndexedStage). s.places.first) e) (ap (λ (s : IndexedStage). s.places.second) e)
      (removal-runs grid_content u.stage (from-bare grid_content (units_of old.rows) doc.rows.items (sym h.holds.rows)) (even-removals doc.rows.items h.named.rows.removals))
      (removal-runs grid_content u.stage (from-bare grid_content (units_of old.cols) doc.cols.items (sym h.holds.cols)) (even-removals doc.cols.items h.named.cols.removals))
      (subst (λ j. AreNamedBefore j (OnGrid op) n) (sym number) before)
      ∙ ap (λ j. grid_pieces j doc n u.op) number ∙ ap (grid_pieces k doc n) (sym (same-operation (ap (λ (s : IndexedStage). s.sub_operation) e)))
    where
      same-operation : {o p : CellOp} → OnGrid o ≡ OnGrid p → o ≡ p
      same-operation f = cc f

module _ (first count last : ℕ) (old new : Grid) (ops : List CellOp) (sound : IsSound old) (r : Resubmits first count old new ops) (doc : Document)
    (before mine rest : List Stage) (h : Holds last old doc (before ++ (mine ++ rest))) (due : AreDue first count before mine rest) where
  pub reconnected-held : HoldsGrid (grid_state new 0 true) doc (before ++ (flat_map (carried_stage doc) mine ++ rest))
  reconnected-held = subst (HoldsGrid (grid_state new 0 true) doc) (edit-after first count doc before mine rest due)
      (resubmitted-held first count old new ops sound r last doc (before ++ (mine ++ rest)) h (same-sent last old sound doc (before ++ (mine ++ rest)) h))

  pub reconnected-sent : list_all is_grid_stage mine ≡ true → map (λ p. OnGrid p) ops ≡ flat_map (pieces doc) mine
  reconnected-sent all =
      ap (map (λ p. OnGrid p)) r.sent
      ∙ stages-sent first count doc old.rows old.cols (same-sent last old sound doc (before ++ (mine ++ rest)) h)
      (before ++ (mine ++ rest)) old.stages.items h.named.stages h.holds.stages
      ∙ edit-sent first count doc before mine rest due all

pub sends-again : (first count : ℕ) (old new : Grid) (ops : List CellOp) (op : Option GridOp) → IsSound old → Resubmits first count old new ops
    → option_map OfGrid op ≡ op_of (map (λ p. OnGrid p) ops) → SendsAgain first count old new op
sends-again first count old new ops op sound r e = record {
  sound = resubmitted-sound first count old new ops sound r;
  floor = ap (λ (x : Grid). x.rows.tree.floor) r.rest;
  answer = λ last doc before mine rest h due all. e ∙ ap op_of (reconnected-sent first count last old new ops sound r doc before mine rest h due all);
  holds = λ last doc before mine rest h due. reconnected-held first count last old new ops sound r doc before mine rest h due;
}

-- an edit of no stages changes nothing
pub none-given : (doc : Document) (before mine rest : List Stage) → mine ≡ [] → before ++ (mine ++ rest) ≡ before ++ (flat_map (carried_stage doc) mine ++ rest)
none-given doc before mine rest e = ap (λ ts. before ++ (ts ++ rest)) e ∙ sym (ap (λ ts. before ++ (flat_map (carried_stage doc) ts ++ rest)) e)

pub none-numbered : (first : ℕ) (mine : List Stage) → map (λ (t : Stage). t.stage) mine ≡ numbers_from first 0 → mine ≡ []
none-numbered first [] e = refl
none-numbered first (t ∷ mine) e = cc e
