-- What a client shows before and after its own join, and what it sends again.
use Rattle.std.specs.Prelude.{◌≡◌, ℕ, suc, ◌+◌, ◌<◌, ◌≤◌, Bool, true, false, cond, not, ◌&&◌, ◌||◌, nat_eq, List, [], ◌∷◌, Option, Some, None, filter}
use Rattle.std.specs.List.{list_all, list_any}
use Rattle.ft_base.specs.declared.stamps.Stamp.{Stamp}
use Rattle.ft_base.specs.declared.stamps.Stamp.TheVariants.{Acked, Local}
use Rattle.ft_op.specs.declared.operations.BaseOp.TheVariants.{Insert, Remove}
use Rattle.ft_op.specs.declared.operations.CellOp.TheVariants.{Set}
use Rattle.ft_op.specs.declared.operations.ChannelOp.{ChannelOp}
use Rattle.ft_msg.specs.declared.messages.Body.TheVariants.{Op}
use Rattle.ft_msg.specs.declared.messages.Draft.{Draft}
use Rattle.ft_msg.specs.declared.messages.Entry.{Entry}
use Rattle.ft_base.specs.Scan.{no_run, put}
use Rattle.ft_base.specs.Visibility.{has_occurred_at_stage, is_acked}
use Rattle.ft_props.specs.Element.{ListElement, ElementId, has_id, seen}
use Rattle.ft_props.specs.Steps.{Sequence, is_inserted_by, stage_position}
use Rattle.ft_op.specs.Operation.{OnGrid, OnText, SubOperation, segment_contents}
use Rattle.ft_op.specs.Stages.{Stage}
use Rattle.ft_msg.specs.Client.{NaiveClient, stages_of}
use Rattle.ft_msg.specs.Content.{content}
use Rattle.ft_msg.specs.Process.{come_online}
use Rattle.ft_msg.specs.Reconnection.{regenerated}
use Rattle.ft_laws_agreement.specs.Trimming.{are_distinct_elements, has_ends_on}

-- whether the list has an element
abbrev pub has_some : {A : Type 0} → List A → Bool
has_some [] = false
has_some (x ∷ xs) = true

-- whether the sub-operation puts elements into the text
abbrev pub inserts_text : SubOperation → Bool
inserts_text (OnText (Insert p seg props)) = has_some (segment_contents seg)
inserts_text _ = false

-- whether it removes elements of the text
abbrev pub removes_text : SubOperation → Bool
removes_text (OnText (Remove p q)) = true
removes_text _ = false

-- each sub-operation
abbrev pub any_kind : SubOperation → Bool
any_kind o = true

-- whether k is the number of a stage of that kind
abbrev pub is_stage_of : (SubOperation → Bool) → List Stage → ℕ → Bool
is_stage_of kind stages k = list_any (λ t. nat_eq t.stage k && kind t.sub_operation) stages

-- whether an insertion is sequenced, or of one of these stages that inserts
abbrev pub has_insertion_of : (SubOperation → Bool) → List Stage → Stamp → Bool
has_insertion_of inserts stages (Acked s c) = true
has_insertion_of inserts stages (Local k) = is_stage_of inserts stages k

-- whether a pending removal, if there is one, is of one of these stages that removes
abbrev pub has_removal_of : (SubOperation → Bool) → List Stage → Option ℕ → Bool
has_removal_of removes stages None = true
has_removal_of removes stages (Some k) = is_stage_of removes stages k

-- whether what is pending on the element is of these stages
abbrev pub has_marks_of : (SubOperation → Bool) → (SubOperation → Bool) → List Stage → ListElement → Bool
has_marks_of inserts removes stages e = has_insertion_of inserts stages e.ins && has_removal_of removes stages e.removal_stage && list_all is_acked e.dels

-- whether the element is seen at stage k or inserted by the next one
abbrev pub is_seen_or_next : ℕ → ListElement → Bool
is_seen_or_next k e = seen k e || is_inserted_by (suc k) e

-- elements that pass at the front, and none behind them
abbrev pub runs_on : {A : Type 0} → (A → Bool) → List A → Bool
runs_on is [] = true
runs_on is (x ∷ xs) = cond (is x) (runs_on is xs) (not (list_any is xs))

-- the elements that pass stand side by side
abbrev pub is_one_run : {A : Type 0} → (A → Bool) → List A → Bool
is_one_run is [] = true
is_one_run is (x ∷ xs) = cond (is x) (runs_on is xs) (is_one_run is xs)

-- in the view of stage k the elements of the next one stand side by side
abbrev pub StandSideBySide : ℕ → List ListElement → Type 0
StandSideBySide k xs =
    filter (is_seen_or_next k) xs ≡ put (seen k) no_run (stage_position (suc k) xs) (filter (is_inserted_by (suc k)) xs) (filter (seen k) xs)

-- a list with pending elements in place: what is pending on it is of these stages, the elements of each pending
-- insertion stand side by side in its view, and no two elements have one name
pub record IsInPlace (inserts removes : SubOperation → Bool) (stages : List Stage) (list : Sequence) : Type 0 where
  pub marks : list_all (has_marks_of inserts removes stages) list.items ≡ true
  pub side_by_side : (k : ℕ) → is_stage_of inserts stages (suc k) ≡ true → StandSideBySide k list.items
  pub distinct : are_distinct_elements list.items ≡ true

-- the stages rise from above j to at most k
abbrev pub StagesRiseTo : ℕ → List Stage → ℕ → Type 0
StagesRiseTo j [] k = j ≤ k
StagesRiseTo j (t ∷ stages) k = (j < t.stage) × StagesRiseTo t.stage stages k

-- whether the named element, if one is named, was inserted at or before stage k
abbrev pub is_inserted_before : ℕ → List ListElement → Option ElementId → Bool
is_inserted_before k xs None = true
is_inserted_before k xs (Some x) = list_all (λ e. not (has_id x e) || has_occurred_at_stage k e.ins) xs

-- whether a cell write names units that were there before it
abbrev pub writes_known_units : List ListElement → List ListElement → Stage → Bool
writes_known_units rows cols t = elim t.sub_operation [
  | OnGrid op ↦ elim op [ Set i j value ↦ is_inserted_before t.stage rows t.names.first && is_inserted_before t.stage cols t.names.second | _ ↦ true ]
  | _ ↦ true
]

-- a client whose pending elements are in place: its stages rise from 1, each end of an acknowledged interval is detached
-- or on an unremoved element, and each pending cell write names units that were there before it
pub record IsOrderly (x : NaiveClient) : Type 0 where
  pub stages : StagesRiseTo 0 (stages_of x) x.last_stage
  pub text : IsInPlace inserts_text removes_text (stages_of x) x.doc.text
  pub rows : IsInPlace any_kind any_kind (stages_of x) x.doc.rows
  pub cols : IsInPlace any_kind any_kind (stages_of x) x.doc.cols
  pub ends : list_all (has_ends_on x.doc.text.items) x.doc.intervals ≡ true
  pub writes : list_all (writes_known_units x.doc.rows.items x.doc.cols.items) (stages_of x) ≡ true

-- operations as drafts with this reference number, with client sequence numbers from n on
abbrev pub drafts_from : ℕ → ℕ → List ChannelOp → List Draft
drafts_from n ref_seq [] = []
drafts_from n ref_seq (op ∷ ops) = record { client_seq = n; ref_seq = ref_seq; body = Op op } ∷ drafts_from (n + 1) ref_seq ops

-- a client shows the same after its own join
abbrev pub JoinChangesNothing : Type 0
JoinChangesNothing = (x : NaiveClient) (entry : Entry) → IsOrderly x → content (come_online x entry) ≡ content x

-- and it sends its regenerated operations
abbrev pub JoinSendsAgain : Type 0
JoinSendsAgain = (x : NaiveClient) (entry : Entry) → (come_online x entry).queue ≡ drafts_from 1 entry.msg.seq (regenerated x)
