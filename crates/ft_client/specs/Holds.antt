-- A document of trees: what contracts see of it, what it shows, and for which documents of the definitions it stands.
use Rattle.std.specs.Prelude.{◌≡◌, ◌≤◌, ℕ, true, List, [], ◌∷◌, map}
use Rattle.std.proofs.Common.{ap, refl, sym}
use Rattle.ft_props.specs.Element.{NamelessElement}
use Rattle.ft_op.specs.declared.operations.Target.{Target}
use Rattle.ft_op.specs.declared.operations.Target.TheVariants.{Rows, Cols}
use Rattle.ft_op.specs.Document.{Document}
use Rattle.ft_op.specs.Intervals.{NamedElements}
use Rattle.ft_op.specs.Operation.{OnGrid, OnIntervals, OnText, SubOperation}
use Rattle.ft_op.specs.Stages.{Stage}
use Rattle.ft_msg.specs.declared.messages.Entry.{Entry}
use Rattle.ft_msg.specs.Agreed.{body_effect, reference_number}
use Rattle.ft_msg.specs.Indexed.{IndexedDocument, indexed_stage}
use Rattle.ft_laws_names.specs.GridFacts.{grid_stages}
use Rattle.ft_replica.specs.Own.{HeldDocument, ShownDocument, Shows}
use Rattle.ft_string.specs.Holds.{HoldsText, element_stages, interval_stages}
use Rattle.ft_matrix.specs.GridStates.{GridState}
use Rattle.ft_matrix.specs.HoldsGrid.{HoldsGrid}
use Rattle.ft_client.specs.declared.stages.OwnStage.{OwnStage}
use Rattle.ft_client.specs.declared.own.TreeOwn.{TreeOwn}
use Rattle.ft_client.specs.Numbers.{HasNumbers}
use Rattle.ft_client.specs.Parts.{merged, own_stage}

-- with places for names
abbrev pub tree_content : TreeOwn → IndexedDocument
tree_content s = record {
  text = s.text.elements;
  rows = s.table.rows;
  cols = s.table.cols;
  intervals = s.text.intervals;
  cells = s.table.cells;
  skipped = s.numbers.skipped;
  other = s.numbers.other;
  number = s.numbers.number;
  minimum = s.numbers.minimum;
}

abbrev pub tree_shown : TreeOwn → ShownDocument
tree_shown s = record {
  content = tree_content s;
  pending = merged (map (λ t. t.part) s.stages.items) s.text.ops s.text.interval_ops s.table.stages;
  counts = record { text = s.text.made; rows = s.numbers.rows; cols = s.numbers.cols };
}

-- the rows or the columns of a table
abbrev pub units_in : Target → GridState → List NamelessElement
units_in Rows s = s.rows
units_in Cols s = s.cols

-- text and table may be used, nothing of them was given for a reconnection, and their floors are no higher than `low`
pub record IsSettled (low : ℕ) (s : TreeOwn) : Type 0 where
  pub text : s.text.usable ≡ true
  pub table : s.table.usable ≡ true
  pub text_given : s.text.given ≡ 0
  pub table_given : s.table.given ≡ 0
  pub text_floor : s.text.floor ≤ low
  pub table_floor : s.table.floor ≤ low

-- the text holds the text's part and the table the grid's part, and it has the numbers of all stages
pub record HoldsTree (s : TreeOwn) (held : HeldDocument) : Type 0 where
  pub text : HoldsText s.text held.doc held.stages
  pub table : HoldsGrid s.table held.doc held.stages
  pub stages : s.stages.items ≡ map own_stage held.stages
  pub numbers : HasNumbers s.numbers held.doc held.last
  pub settled : IsSettled held.low s

-- after a message of another client, but for its numbers
abbrev pub with_body : Entry → HeldDocument → HeldDocument
with_body entry held = record held { doc = body_effect held.doc entry.msg.seq entry.origin (reference_number entry.msg.ref_seq) entry.msg.body }

-- ---- what it shows is what it holds

merged-kept : (doc : Document) (ts : List Stage)
    → merged (map (λ (t : OwnStage). t.part) (map own_stage ts)) (map (indexed_stage doc) (element_stages ts))
    (map (indexed_stage doc) (interval_stages ts)) (grid_stages doc ts)
    ≡ map (indexed_stage doc) ts
merged-kept doc [] = refl
merged-kept doc (t ∷ ts) = step t.stage t.sub_operation t.names (merged-kept doc ts)
  where
    step : (k : ℕ) (o : SubOperation) (names : NamedElements)
        → merged (map (λ (t : OwnStage). t.part) (map own_stage ts)) (map (indexed_stage doc) (element_stages ts))
        (map (indexed_stage doc) (interval_stages ts)) (grid_stages doc ts)
        ≡ map (indexed_stage doc) ts
        → (let u : Stage = record { stage = k; sub_operation = o; names = names } in
        merged (map (λ (t : OwnStage). t.part) (map own_stage (u ∷ ts))) (map (indexed_stage doc) (element_stages (u ∷ ts))) (map (indexed_stage doc) (interval_stages (u ∷ ts)))
        (grid_stages doc (u ∷ ts)) ≡ map (indexed_stage doc) (u ∷ ts))
    step k (OnText op) names ih = ap (λ us. indexed_stage doc (record { stage = k; sub_operation = OnText op; names = names }) ∷ us) ih
    step k (OnIntervals op) names ih = ap (λ us. indexed_stage doc (record { stage = k; sub_operation = OnIntervals op; names = names }) ∷ us) ih
    step k (OnGrid op) names ih = ap (λ us. indexed_stage doc (record { stage = k; sub_operation = OnGrid op; names = names }) ∷ us) ih

pub tree-shows : (s : TreeOwn) (held : HeldDocument) → HoldsTree s held → Shows (tree_shown s) held
tree-shows s held h = record {
  content = rw (
    h.text.elements,
    h.text.intervals,
    sym h.table.rows,
    sym h.table.cols,
    sym h.table.cells,
    h.numbers.skipped,
    h.numbers.other,
    h.numbers.number,
    h.numbers.minimum,
  ) refl;
  pending = rw (h.stages, h.text.ops, h.text.interval_ops, sym h.table.stages) (merged-kept held.doc held.stages);
  counts = rw (h.text.made, h.numbers.rows, h.numbers.cols) refl;
}
