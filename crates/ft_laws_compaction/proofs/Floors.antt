-- The floor never falls.
use Rattle.std.proofs.Common.{ℕ, ◌≤◌, List, [], ◌∷◌, ◌++◌, Option, Some, None, map, min, arith, ◌+◌}
use Rattle.std.proofs.Math.Nat.{le-min, min-le_left, min-le_right}
use Rattle.ft_op.specs.declared.operations.ChannelOp.{ChannelOp}
use Rattle.ft_props.specs.Element.{ElementId}
use Rattle.ft_op.specs.Document.{Document}
use Rattle.ft_msg.specs.Acknowledgement.{renamed_edit}
use Rattle.ft_msg.specs.Client.{PendingEdit}
use Rattle.ft_msg.specs.Reconnection.{regenerated_edit, resubmitted_edit, resubmitted_edits}
use Rattle.ft_laws_compaction.proofs.FreeTombstones.{least_ref}

pub min-more : (m n a : ℕ) → m ≤ n → min m a ≤ min n a
min-more m n a l =
    let p = min-le_left m a in
    let q = min-le_right m a in
    le-min {k = min m a} {a = n} {b = a} (omega arith) q

-- a higher number first, and edits that are renamed
pub least-renamed : (f : ElementId → ElementId) (edits : List PendingEdit) (m n : ℕ) → m ≤ n → least_ref m edits ≤ least_ref n (map (renamed_edit f) edits)
least-renamed f [] m n l = l
least-renamed f (e ∷ edits) m n l = least-renamed f edits (min m e.ref_seq) (min n e.ref_seq) (min-more m n e.ref_seq l)

pub least-more : (edits : List PendingEdit) (m n : ℕ) → m ≤ n → least_ref m edits ≤ least_ref n edits
least-more [] m n l = l
least-more (e ∷ edits) m n l = least-more edits (min m e.ref_seq) (min n e.ref_seq) (min-more m n e.ref_seq l)

-- one more edit at the end
pub least-append : (low : ℕ) (edits : List PendingEdit) (edit : PendingEdit) (n : ℕ) → low ≤ least_ref n edits → low ≤ edit.ref_seq → low ≤ least_ref n (edits ++ (edit ∷ []))
least-append low [] edit n l r = le-min {k = low} {a = n} {b = edit.ref_seq} l r
least-append low (e ∷ edits) edit n l r = least-append low edits edit (min n e.ref_seq) l r

-- edits that are sent again
pub least-resubmitted : (low : ℕ) (doc : Document) (conn i : ℕ) (edits : List PendingEdit) (n : ℕ) → low ≤ n → low ≤ doc.number
    → low ≤ least_ref n (resubmitted_edits doc conn i edits)
least-resubmitted low doc conn i [] n l r = l
least-resubmitted low doc conn i (edit ∷ edits) n l r =
    step (regenerated_edit doc edit) (least-resubmitted low doc conn i edits n l r)
    (least-resubmitted low doc conn (i + 1) edits (min n doc.number) (le-min {k = low} {a = n} {b = doc.number} l r) r)
  where
    step : (o : Option ChannelOp) → low ≤ least_ref n (resubmitted_edits doc conn i edits) → low ≤ least_ref (min n doc.number) (resubmitted_edits doc conn (i + 1) edits)
        → low ≤ least_ref n (elim o [ None ↦ resubmitted_edits doc conn i edits | Some op ↦ resubmitted_edit doc conn i edit op ∷ resubmitted_edits doc conn (i + 1) edits ])
    step None now more = now
    step (Some op) now more = more
