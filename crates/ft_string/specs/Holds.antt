-- Which documents with pending stages a shared text holds the text's part of, and what is known of that part.
use Rattle.std.specs.Prelude.{◌≡◌, ℕ, ◌+◌, ◌<◌, ◌^◌, Bool, true, false, List, map, filter}
use Rattle.std.specs.List.{list_all}
use Rattle.ft_base.specs.Scan.{len}
use Rattle.ft_op.specs.Document.{Document}
use Rattle.ft_op.specs.Operation.{OnGrid, OnText, SubOperation}
use Rattle.ft_op.specs.Stages.{Stage}
use Rattle.ft_props.specs.Element.{is_pending, nameless}
use Rattle.ft_msg.specs.Indexed.{indexed_interval, indexed_stage}
use Rattle.ft_msg.specs.Overlap.{is_on_intervals}
use Rattle.ft_laws_agreement.specs.Reconnecting.{IsInPlace, inserts_text, is_stage_of, removes_text}
use Rattle.ft_laws_agreement.specs.Sequencing.{Each, IsTyped, annotates_text, is_marked_later}
use Rattle.ft_laws_agreement.specs.Trimming.{has_ends_on}
use Rattle.ft_laws_names.specs.WellNamed.{ArePutIn, AreSettledIn, AreStagesNamed, IsWellNumbered, RiseTo, puts_text_in}
use Rattle.ft_string.specs.State.{TextState}

-- whether a sub-operation is on the elements of the text, or on them or its intervals
abbrev pub is_on_elements : SubOperation → Bool
is_on_elements (OnText op) = true
is_on_elements _ = false

abbrev pub is_on_text : SubOperation → Bool
is_on_text (OnGrid op) = false
is_on_text _ = true

-- the stages on elements, and those on intervals
abbrev pub element_stages : List Stage → List Stage
element_stages stages = filter (λ t. is_on_elements t.sub_operation) stages

abbrev pub interval_stages : List Stage → List Stage
interval_stages stages = filter (λ t. is_on_intervals t.sub_operation) stages

-- the shared text is that of the document with these pending stages, of which it has those on the text
pub record HoldsText (s : TextState) (doc : Document) (stages : List Stage) : Type 0 where
  pub elements : s.elements ≡ map nameless doc.text.items
  pub made : s.made ≡ doc.text.made + len is_pending doc.text.items
  pub intervals : s.intervals ≡ map (indexed_interval doc.text.items) doc.intervals
  pub ops : s.ops ≡ map (indexed_stage doc) (element_stages stages)
  pub interval_ops : s.interval_ops ≡ map (indexed_stage doc) (interval_stages stages)

-- what is known of the text's part of a client's document with its pending stages up to `last`: its names fit, what is pending
-- on its elements is of these stages and stands as they put it, its intervals end on unremoved elements, and no removal of a
-- pending element is sequenced
pub record IsTextSound (last : ℕ) (doc : Document) (stages : List Stage) : Type 0 where
  pub list : IsWellNumbered last doc.text
  pub intervals : AreSettledIn doc.text.items doc.intervals
  pub names : AreStagesNamed doc stages
  pub own : ArePutIn puts_text_in stages doc.text.items
  pub rise : RiseTo 0 last stages
  pub fits : last < 2 ^ 64
  pub place : IsInPlace inserts_text removes_text stages doc.text
  pub changes : list_all (λ e. list_all (λ q. is_stage_of annotates_text stages q.0) e.pending) doc.text.items ≡ true
  pub typed : Each (λ t. IsTyped t.stage doc t.names t.sub_operation) stages
  pub ends : list_all (has_ends_on doc.text.items) doc.intervals ≡ true
  pub later : list_all is_marked_later doc.text.items ≡ true

-- some document is held with its pending stages up to `last`
pub record HoldsSome (last : ℕ) (s : TextState) : Type 0 where
  pub doc : Document
  pub stages : List Stage
  pub sound : IsTextSound last doc stages
  pub holds : HoldsText s doc stages
