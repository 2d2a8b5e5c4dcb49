-- What is asked of the names in a client, so that its steps don't depend on them.
use Rattle.std.specs.Prelude.{◌≡◌, ◌≤◌, ◌<◌, ℕ, Bool, false, not, ◌&&◌, nat_eq, List, [], ◌∷◌, Option, Some, None, length}
use Rattle.std.specs.List.{list_all, list_any}
use Rattle.ft_base.specs.Scan.{len}
use Rattle.ft_base.specs.Visibility.{is_acked}
use Rattle.ft_props.specs.Element.{ElementId, ListElement, PendingId, SequencedId, has_id}
use Rattle.ft_props.specs.Steps.{Sequence, is_inserted_by}
use Rattle.ft_op.specs.declared.operations.BaseOp.TheVariants.{Insert}
use Rattle.ft_op.specs.declared.operations.CellOp.TheVariants.{SpliceIn, SpliceOut, Set}
use Rattle.ft_op.specs.declared.operations.Target.TheVariants.{Rows, Cols}
use Rattle.ft_op.specs.Operation.{OnGrid, OnIntervals, OnText, SubOperation, segment_contents}
use Rattle.ft_op.specs.Intervals.{Interval, NamedElements, no_elements}
use Rattle.ft_op.specs.Cells.{cell_value}
use Rattle.ft_op.specs.Stages.{Stage}
use Rattle.ft_msg.specs.Client.{NaiveClient, stages_of}
use Rattle.ft_op.specs.Document.{Document}

-- whether a removal that counts as sequenced is pending
abbrev pub has_odd_removal : ListElement → Bool
has_odd_removal e = not (list_all is_acked e.dels)

-- a name that new elements may get
abbrev pub IsUnused : ℕ → ℕ → ElementId → Type 0
IsUnused made last (SequencedId n) = made ≤ n
IsUnused made last (PendingId k n) = last < k

-- the names of a list's elements: each stands once; sequenced ones have numbers below that of the next one; those of a pending
-- stage have numbers below their count; no stage is higher than the last one
pub record IsWellNumbered (last : ℕ) (list : Sequence) : Type 0 where
  pub once : (a : ElementId) → len (has_id a) list.items ≤ 1
  pub below : (n : ℕ) → list.made ≤ n → len (has_id (SequencedId n)) list.items ≡ 0
  pub counted : (k n : ℕ) → len (is_inserted_by k) list.items ≤ n → len (has_id (PendingId k n)) list.items ≡ 0
  pub stages : (k : ℕ) → last < k → len (is_inserted_by k) list.items ≡ 0
  pub removals : len has_odd_removal list.items ≡ 0

-- a name that no sequenced element has yet
abbrev pub IsAhead : ℕ → ElementId → Type 0
IsAhead made (SequencedId n) = made ≤ n
IsAhead made (PendingId k n) = Unit {0}

-- no cell has a name that comes later, or a pending one
pub record HasNoCellsAhead (doc : Document) : Type 0 where
  pub rows : (row col : ElementId) → IsAhead doc.rows.made row → cell_value row col doc.cells ≡ None
  pub cols : (row col : ElementId) → IsAhead doc.cols.made col → cell_value row col doc.cells ≡ None

-- a name of a sequenced element
abbrev pub IsSequencedName : ElementId → Type 0
IsSequencedName (SequencedId n) = Unit {0}
IsSequencedName (PendingId k n) = ⊥

-- ---- pending stages

-- whether a sub-operation puts elements into the text
abbrev pub puts_text_in : SubOperation → Bool
puts_text_in (OnText (Insert p seg props)) = not (nat_eq (length (segment_contents seg)) 0)
puts_text_in _ = false

-- whether it puts rows in
abbrev pub inserts_rows : SubOperation → Bool
inserts_rows (OnGrid (SpliceIn Rows p count)) = not (nat_eq count 0)
inserts_rows _ = false

-- whether it puts columns in
abbrev pub inserts_cols : SubOperation → Bool
inserts_cols (OnGrid (SpliceIn Cols p count)) = not (nat_eq count 0)
inserts_cols _ = false

-- the list has elements of a pending stage only where this is one of the stages and puts elements into the list
abbrev pub ArePutIn : (SubOperation → Bool) → List Stage → List ListElement → Type 0
ArePutIn inserts stages xs = (k : ℕ) → list_any (λ t. nat_eq k t.stage && inserts t.sub_operation) stages ≡ false → len (is_inserted_by k) xs ≡ 0

-- so have all three lists
pub record HasItsStages (stages : List Stage) (doc : Document) : Type 0 where
  pub text : ArePutIn puts_text_in stages doc.text.items
  pub rows : ArePutIn inserts_rows stages doc.rows.items
  pub cols : ArePutIn inserts_cols stages doc.cols.items

-- the numbers of the stages rise, all above low and up to last
abbrev pub RiseTo : ℕ → ℕ → List Stage → Type 0
RiseTo low last [] = low ≤ last
RiseTo low last (t ∷ stages) = (low < t.stage) × RiseTo t.stage last stages

-- the named element is sequenced, or of a stage before k
abbrev pub IsNamedBefore : ℕ → Option ElementId → Type 0
IsNamedBefore k None = Unit {0}
IsNamedBefore k (Some (SequencedId n)) = Unit {0}
IsNamedBefore k (Some (PendingId j n)) = j < k

-- so are both ends that an interval operation of stage k names, and both units of a cell write of that stage
abbrev pub AreNamedBefore : ℕ → SubOperation → NamedElements → Type 0
AreNamedBefore k (OnText op) names = Unit {0}
AreNamedBefore k (OnIntervals op) names = IsNamedBefore k names.first × IsNamedBefore k names.second
AreNamedBefore k (OnGrid op) names = IsNamedBefore k names.first × IsNamedBefore k names.second

-- ---- clients

-- the name stands in the list, if one is given
abbrev pub StandsIn : List ListElement → Option ElementId → Type 0
StandsIn xs None = Unit {0}
StandsIn xs (Some a) = 1 ≤ len (has_id a) xs

-- it is one of a sequenced element there
abbrev pub IsSettledIn : List ListElement → Option ElementId → Type 0
IsSettledIn xs None = Unit {0}
IsSettledIn xs (Some (SequencedId n)) = 1 ≤ len (has_id (SequencedId n)) xs
IsSettledIn xs (Some (PendingId k n)) = ⊥

-- the ends of all intervals are
abbrev pub AreSettledIn : List ListElement → List Interval → Type 0
AreSettledIn xs [] = Unit {0}
AreSettledIn xs (i ∷ is) = (IsSettledIn xs i.start × IsSettledIn xs i.end) × AreSettledIn xs is

-- what a sub-operation names stands in its list; only an interval operation and a cell write name elements
abbrev pub AreThere : Document → SubOperation → NamedElements → Type 0
AreThere doc (OnText op) names = names ≡ no_elements
AreThere doc (OnIntervals op) names = StandsIn doc.text.items names.first × StandsIn doc.text.items names.second
AreThere doc (OnGrid (SpliceIn target i count)) names = names ≡ no_elements
AreThere doc (OnGrid (SpliceOut target i j)) names = names ≡ no_elements
AreThere doc (OnGrid (Set i j value)) names = StandsIn doc.rows.items names.first × StandsIn doc.cols.items names.second

-- so does what all stages name, from before the stage that names it
abbrev pub AreStagesNamed : Document → List Stage → Type 0
AreStagesNamed doc [] = Unit {0}
AreStagesNamed doc (t ∷ stages) = (AreThere doc t.sub_operation t.names × AreNamedBefore t.stage t.sub_operation t.names) × AreStagesNamed doc stages

-- the names in a document with pending stages up to `last` fit: its lists are well numbered; its intervals end on sequenced
-- elements; no cell has a name that comes later; the stages name elements that are there, and have the pending elements
pub record AreWellNamed (last : ℕ) (doc : Document) (pending : List Stage) : Type 0 where
  pub text : IsWellNumbered last doc.text
  pub rows : IsWellNumbered last doc.rows
  pub cols : IsWellNumbered last doc.cols
  pub intervals : AreSettledIn doc.text.items doc.intervals
  pub cells : HasNoCellsAhead doc
  pub stages : AreStagesNamed doc pending
  pub own : HasItsStages pending doc
  pub rise : RiseTo 0 last pending

-- so do those in a client
abbrev pub IsWellNamed : NaiveClient → Type 0
IsWellNamed x = AreWellNamed x.last_stage x.doc (stages_of x)
