-- What is known of the table of each client.
use Rattle.std.proofs.Common.{◌≡◌, ℕ, ◌<◌, All, true, subst, map}
use Rattle.ft_op.specs.Document.{Document}
use Rattle.ft_msg.specs.Client.{NaiveClient, floor, stages_of}
use Rattle.ft_msg.specs.Indexed.{IndexedStage}
use Rattle.ft_laws_compaction.specs.Keeping.{IsMadeOrKept}
use Rattle.ft_laws_names.specs.GridFacts.{AreFreeFrom, grid_stages, is_unit_below}
use Rattle.ft_laws_names.proofs.KeptGrids.{kept-below, kept-counted, kept-free}
use Rattle.ft_laws_names.proofs.KeptNames.{made-or-kept-named}
use Rattle.ft_matrix.specs.ClientGrids.{ClientGridsMeetConditions}
use Rattle.ft_matrix.specs.Conditions.{IsAboveAll}
use Rattle.ft_matrix.specs.GridStates.{GridState}
use Rattle.ft_matrix.specs.HoldsGrid.{HoldsGrid}

module _ (start : Document) (p : NaiveClient) (s : GridState) (made : IsMadeOrKept start p) (h : HoldsGrid s p.doc (stages_of p)) where
  above-all : (k : ℕ) → p.last_stage < k → IsAboveAll k s
  above-all k l =
      let b = kept-below start p k made l in
      record {
        rows = subst (λ es. All (λ e. is_unit_below k e ≡ true) es) h.rows b.rows;
        cols = subst (λ es. All (λ e. is_unit_below k e ≡ true) es) h.cols b.cols;
        stages = subst (λ ts. All (λ t. t.stage < k) ts) h.stages b.stages;
      }

pub client-grid : ClientGridsMeetConditions
client-grid start p s made h =
    let f = kept-free start p made in
    record {
      named = made-or-kept-named start p made;
      counted = kept-counted start p made;
      above = above-all start p s made h;
      free = record {
        rows = subst (λ ts. AreFreeFrom (floor p) (map (λ (t : IndexedStage). t.places.first) ts) 0 s.rows) h.stages
            (subst (λ es. AreFreeFrom (floor p) (map (λ (t : IndexedStage). t.places.first) (grid_stages p.doc (stages_of p))) 0 es) h.rows f.rows);
        cols = subst (λ ts. AreFreeFrom (floor p) (map (λ (t : IndexedStage). t.places.second) ts) 0 s.cols) h.stages
            (subst (λ es. AreFreeFrom (floor p) (map (λ (t : IndexedStage). t.places.second) (grid_stages p.doc (stages_of p))) 0 es) h.cols f.cols);
      };
    }
