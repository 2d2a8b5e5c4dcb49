-- What each call of a shared text makes of the documents that it holds.
use Rattle.std.specs.Prelude.{◌≡◌, ◌≤◌, ◌<◌, ℕ, ◌+◌, Bool, true, false, not, ◌||◌, ◌&&◌, nat_eq, List, [], ◌∷◌, ◌++◌, Result, Ok, Err, ⊤, All, flat_map, length, map}
use Rattle.std.specs.List.{list_all, list_any}
use Rattle.ft_msg.specs.declared.faults.EditFault.{EditFault}
use Rattle.ft_msg.specs.declared.faults.EditFault.TheVariants.{OutOfMemory, Stopped}
use Rattle.ft_msg.specs.declared.views.View.{View}
use Rattle.ft_props.specs.Compaction.{KeepsList, has_collectable_removal, trim_list}
use Rattle.ft_props.specs.Element.{ElementId}
use Rattle.ft_props.specs.Steps.{Sequence}
use Rattle.ft_op.specs.Document.{Document}
use Rattle.ft_op.specs.Stages.{Stage, shown_intervals}
use Rattle.ft_msg.specs.Acknowledgement.{ack_stages, renamed_stage}
use Rattle.ft_msg.specs.Compacted.{interval_holds, stage_holds_text}
use Rattle.ft_msg.specs.Content.{interval_record, markers_from, property_runs_from, shown, stage_view, text_characters}
use Rattle.ft_msg.specs.Reconnection.{carried_stage, rebuilt_document}
use Rattle.ft_msg.specs.SummaryOf.{segments_from}
use Rattle.ft_sumdoc.specs.declared.summary.SumDoc.{SumDoc}
use Rattle.ft_sumdoc.specs.Segments.{text_length}
use Rattle.ft_laws_compaction.specs.Free.{AreFree}
use Rattle.ft_msg.specs.Overlap.{is_on_intervals}
use Rattle.ft_string.specs.Holds.{HoldsText, IsTextSound, is_on_elements, is_on_text}
use Rattle.ft_string.specs.State.{TextState}

-- ---- edits

-- an edit that makes so many stages is taken: the model takes it too, and what it makes is held
pub record TakesEdit (new : TextState) (stages : List Stage) (step : Result (Document × List Stage) EditFault) (count : ℕ) : Type 0 where
  pub after : Document
  pub more : List Stage
  pub is : step ≡ Ok (after, more)
  pub holds : HoldsText new after (stages ++ more)
  pub counted : length more ≡ count

-- what the answer to an edit means for a document that was held: it takes the edit, or refuses it so; of OutOfMemory nothing
-- is said
abbrev pub AnswersEdit : TextState → List Stage → Result (Document × List Stage) EditFault → Result ℕ EditFault → Type 0
AnswersEdit new stages step (Ok n) = TakesEdit new stages step n
AnswersEdit new stages step (Err OutOfMemory) = ⊤
AnswersEdit new stages step (Err fault) = step ≡ Err fault

-- what a refusal leaves: all as it was; after OutOfMemory the text may be used no more; a text never stops
abbrev pub Leaves : TextState → TextState → EditFault → Type 0
Leaves old new OutOfMemory = new.usable ≡ false
Leaves old new (Stopped seq) = ⊥
Leaves old new _ = new ≡ old

-- ---- sequenced operations

-- the document after an operation is held, which skipped so many sub-operations more
pub record IsApplied (new : TextState) (doc after : Document) (stages : List Stage) (skipped : ℕ) : Type 0 where
  pub holds : HoldsText new after stages
  pub skips : after.skipped ≡ doc.skipped + skipped

-- ---- stages of an edit

-- the stages are on the text, from `first` up to before `end`
abbrev pub AreWithin : ℕ → ℕ → List Stage → Type 0
AreWithin first end ts = All (λ t. (first ≤ t.stage) × (t.stage < end) × (is_on_text t.sub_operation ≡ true)) ts

-- each stage is below k
abbrev pub AreBelow : ℕ → List Stage → Type 0
AreBelow k ts = All (λ t. t.stage < k) ts

-- each stage is at k or above it
abbrev pub AreFrom : ℕ → List Stage → Type 0
AreFrom k ts = All (λ t. k ≤ t.stage) ts

-- stages of the oldest edit, `mine`, and those behind them
pub record AreOldest (first end : ℕ) (mine rest : List Stage) : Type 0 where
  pub within : AreWithin first end mine
  pub behind : AreFrom end rest

-- some document is held with such stages
pub record HoldsOldest (last first end : ℕ) (s : TextState) : Type 0 where
  pub doc : Document
  pub mine : List Stage
  pub rest : List Stage
  pub oldest : AreOldest first end mine rest
  pub sound : IsTextSound last doc (mine ++ rest)
  pub holds : HoldsText s doc (mine ++ rest)

-- the document is held after its oldest stages were acknowledged, with the others
abbrev pub HoldsAcked : TextState → ℕ → ℕ → List Stage → List Stage → Document → Type 0
HoldsAcked new s c mine rest doc =
    let acked = ack_stages s c (λ i. i) mine doc in
    HoldsText new acked.0 (map (renamed_stage acked.1) rest)

-- ---- reconnection

-- whether there is one stage, `first`, on intervals
abbrev pub is_interval_at : ℕ → List Stage → Bool
is_interval_at first (t ∷ []) = nat_eq t.stage first && is_on_intervals t.sub_operation
is_interval_at first _ = false

-- whether the stages are those of one edit of the text that began with stage `first`
abbrev pub is_one_edit : ℕ → List Stage → Bool
is_one_edit first ts = list_all (λ t. is_on_elements t.sub_operation) ts || is_interval_at first ts

-- the stages of an edit, `mine`, those in front of them, which were given, and those behind
pub record AreNext (given first end : ℕ) (front mine rest : List Stage) : Type 0 where
  pub before : AreBelow (given + 1) front
  pub within : AreWithin first end mine
  pub one : is_one_edit first mine ≡ true
  pub behind : AreFrom end rest

-- the document is held in the middle of a reconnection: the stages in front were given
abbrev pub HoldsGiven : TextState → Document → List Stage → List Stage → Type 0
HoldsGiven s doc front behind = HoldsText s doc (flat_map (carried_stage doc) front ++ behind)

-- the document is held after a reconnection: put in afresh, with the stages as they go on
abbrev pub HoldsRejoined : TextState → Document → List Stage → Type 0
HoldsRejoined s doc stages = HoldsText s (rebuilt_document (map (λ t. t.stage) stages) doc) (flat_map (carried_stage doc) stages)

-- some document is held so
pub record HoldsSomeGiven (last first end : ℕ) (s : TextState) : Type 0 where
  pub doc : Document
  pub front : List Stage
  pub mine : List Stage
  pub rest : List Stage
  pub next : AreNext s.given first end front mine rest
  pub sound : IsTextSound last doc (front ++ (mine ++ rest))
  pub holds : HoldsGiven s doc front (mine ++ rest)

-- some document is held whose stages were all given
pub record HoldsAllGiven (last : ℕ) (s : TextState) : Type 0 where
  pub doc : Document
  pub stages : List Stage
  pub sound : IsTextSound last doc stages
  pub holds : HoldsGiven s doc stages []

-- ---- what is shown

-- the view has what is shown of the text
pub record ShowsText (last : ℕ) (doc : Document) (stages : List Stage) (new : View) : Type 0 where
  pub text : new.text ≡ text_characters (stage_view last doc.text.items)
  pub markers : new.markers ≡ markers_from 0 (stage_view last doc.text.items)
  pub runs : new.runs ≡ property_runs_from 0 (stage_view last doc.text.items)
  pub intervals : new.intervals ≡ map (interval_record last doc.text.items) (shown_intervals doc.text.items doc.intervals stages)

-- ---- compaction

-- whether an interval or a pending stage names the element
abbrev pub is_held : Document → List Stage → ElementId → Bool
is_held doc stages i = list_any (interval_holds i) doc.intervals || list_any (stage_holds_text i) stages

-- some document is held of which each element that was removed at or below the floor is free
pub record HoldsFree (last floor : ℕ) (s : TextState) : Type 0 where
  pub doc : Document
  pub stages : List Stage
  pub sound : IsTextSound last doc stages
  pub free : AreFree floor (is_held doc stages) doc.text.items
  pub holds : HoldsText s doc stages

-- a document is held that keeps this one but for what compaction takes away
pub record CompactsText (floor : ℕ) (new : TextState) (doc : Document) (stages : List Stage) : Type 0 where
  pub kept : Sequence
  pub keeps : KeepsList floor (is_held doc stages) kept doc.text
  pub holds : HoldsText new (record doc { text = kept }) stages

-- ---- summaries

-- the lists of the text in a summary are empty
abbrev pub HasNoText : SumDoc → Type 0
HasNoText sum = (sum.text ≡ []) × (sum.intervals ≡ [])

-- the summary has the text's part of that of the document, at its own minimum, with as many elements as the document keeps there
pub record SavesText (doc : Document) (old new : SumDoc) : Type 0 where
  pub text : new.text ≡ segments_from 0 (trim_list old.min doc.text).items
  pub intervals : new.intervals ≡ (shown (record doc { text = trim_list old.min doc.text })).intervals
  pub count : text_length new.text ≡ length (trim_list old.min doc.text).items

-- what else a summary has stays
abbrev pub KeepsSummary : SumDoc → SumDoc → Type 0
KeepsSummary old new = new ≡ record old { text = new.text; intervals = new.intervals }

-- ---- compaction

-- no element is kept that was removed at or below the floor
abbrev pub HasNoneBelow : ℕ → TextState → Type 0
HasNoneBelow floor s = list_all (λ e. not (has_collectable_removal floor e.stamps.dels)) s.elements ≡ true
