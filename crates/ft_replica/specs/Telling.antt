-- What a client over its own document tells of a step.
use Rattle.std.specs.Prelude.{◌≡◌, ℕ, false, ◌&&◌, ◌++◌, List, None, Result, Ok, Err}
use Rattle.ft_op.specs.declared.operations.ChannelOp.{ChannelOp}
use Rattle.ft_op.specs.Document.{Document}
use Rattle.ft_msg.specs.declared.faults.EditFault.{EditFault}
use Rattle.ft_msg.specs.declared.messages.Entry.{Entry}
use Rattle.ft_msg.specs.Client.{NaiveClient, stages_of}
use Rattle.ft_msg.specs.Compacted.{IsCompacted}
use Rattle.ft_changes.specs.Laws.{after_lists}
use Rattle.ft_changes.specs.Shown.{shown_content}
use Rattle.ft_changes.specs.Told.{told_rest}
use Rattle.ft_msg.specs.Process.{after_entry, is_op, is_own, is_own_join, process_fault}
use Rattle.ft_changes.specs.declared.changes.ViewChange.{ViewChange}
use Rattle.ft_laws_compaction.specs.Keeping.{IsMadeOrKept}
use Rattle.ft_replica.specs.declared.telling.ToldEdit.{ToldEdit}
use Rattle.ft_replica.specs.Comparing.{compared_part}
use Rattle.ft_replica.specs.declared.comparing.Compared.{Compared}
use Rattle.ft_replica.specs.Linked.{IsLinkedAs, LinkedState}
use Rattle.ft_replica.specs.Own.{HeldDocument}

-- how many stages an edit has, if it is taken
abbrev pub counted : Result ToldEdit EditFault → Result ℕ EditFault
counted (Ok edit) = Ok edit.stages
counted (Err fault) = Err fault

-- a client with that last stage takes the entry, which is neither its own join nor its own message
pub record TakesOther (entry : Entry) (last : ℕ) (p : NaiveClient) : Type 0 where
  pub last_is : p.last_stage ≡ last
  pub taken : process_fault p entry ≡ None
  pub join : is_own_join p.link entry.msg.kind entry.origin ≡ false
  pub own : is_op entry.msg.body && is_own p entry ≡ false

-- it is enough to compare so much to tell what such an entry with this operation changes: of the rest the changes of the lists lead
-- there
abbrev pub IsEnough : Compared → ChannelOp → Entry → NaiveClient → Type 0
IsEnough compared op entry p =
    let lists = after_lists p entry in
    let after = shown_content (after_entry p entry) in
    told_rest (compared_part compared op (stages_of p) lists) (compared_part compared op (stages_of p) after) ≡ told_rest lists after

-- the changes added are those that are told of each client for which it stands that steps made, or that keeps one which they made
abbrev pub AddsTold : {D : Type 0} → (D → HeldDocument → Type 0) → (NaiveClient → List ViewChange) → LinkedState D → List ViewChange → List ViewChange → Type 0
AddsTold holds told old before after =
    (start : Document) (low : ℕ) (p : NaiveClient) → IsMadeOrKept start p → IsLinkedAs holds low old p → after ≡ before ++ told p

-- they are those that are told of it when it is compacted
abbrev pub AddsToldFewer : {D : Type 0} → (D → HeldDocument → Type 0) → (NaiveClient → List ViewChange) → LinkedState D → List ViewChange → List ViewChange → Type 0
AddsToldFewer holds told old before after =
    (start : Document) (low : ℕ) (p : NaiveClient) → IsMadeOrKept start p → IsLinkedAs holds low old p
    → (fewer : NaiveClient) × IsCompacted fewer p × (after ≡ before ++ told fewer)
