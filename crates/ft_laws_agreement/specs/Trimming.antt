-- What later messages show of a document and of its trimmed form.
use Rattle.std.specs.Prelude.{◌≡◌, ℕ, ◌≤◌, Bool, true, not, ◌&&◌, nat_lt, List, [], ◌∷◌, Option, Some, None, ⊤}
use Rattle.std.specs.List.{list_all, list_any}
use Rattle.ft_msg.specs.declared.messages.Entry.{Entry}
use Rattle.ft_props.specs.Element.{ListElement, ElementId, id, has_id, is_sequenced, is_unremoved}
use Rattle.ft_props.specs.Steps.{Sequence}
use Rattle.ft_op.specs.Intervals.{Interval}
use Rattle.ft_op.specs.Cells.{Cell, is_null}
use Rattle.ft_op.specs.Document.{Document}
use Rattle.ft_msg.specs.Agreed.{agreed, reference_number, take_entries, take_entry}
use Rattle.ft_msg.specs.Content.{shown}
use Rattle.ft_msg.specs.Process.{is_op}
use Rattle.ft_msg.specs.Summary.{trim}

-- whether no two elements have one name
abbrev pub are_distinct_elements : List ListElement → Bool
are_distinct_elements [] = true
are_distinct_elements (e ∷ xs) = not (list_any (has_id (id e)) xs) && are_distinct_elements xs

-- whether the element is sequenced, with a number below n
abbrev pub is_numbered_below : ℕ → ListElement → Bool
is_numbered_below n e = is_sequenced e && nat_lt e.nth n

-- each element is sequenced and has a number of its own, below that of the next one
pub record IsNumbered (list : Sequence) : Type 0 where
  pub below : list_all (is_numbered_below list.made) list.items ≡ true
  pub distinct : are_distinct_elements list.items ≡ true

-- whether the end is detached or on an unremoved element
abbrev pub is_end_on : List ListElement → Option ElementId → Bool
is_end_on xs None = true
is_end_on xs (Some x) = list_any (λ e. has_id x e && is_unremoved e) xs

-- whether both ends of the interval are
abbrev pub has_ends_on : List ListElement → Interval → Bool
has_ends_on xs i = is_end_on xs i.start && is_end_on xs i.end

-- whether the cell has a value
abbrev pub has_value : Cell → Bool
has_value c = not (is_null c.value)

-- a document as messages make it: nothing in it is pending, its elements have names of their own, each end of an
-- interval is detached or on an unremoved element, and no cell holds null
pub record IsConsistent (doc : Document) : Type 0 where
  pub text : IsNumbered doc.text
  pub rows : IsNumbered doc.rows
  pub cols : IsNumbered doc.cols
  pub ends : list_all (has_ends_on doc.text.items) doc.intervals ≡ true
  pub cells : list_all has_value doc.cells ≡ true

-- from the minimum on, minimums never fall, and each operation has a reference number at or above the minimum before it
abbrev pub AreFrom : ℕ → List Entry → Type 0
AreFrom min [] = ⊤
AreFrom min (entry ∷ entries) =
    (min ≤ entry.msg.min) × (is_op entry.msg.body ≡ true → min ≤ reference_number entry.msg.ref_seq) × AreFrom entry.msg.min entries

-- the document of messages alone is consistent
abbrev pub AgreedIsConsistent : Type 0
AgreedIsConsistent = (entries : List Entry) → IsConsistent (agreed entries)

-- a consistent document stays consistent under each further message
abbrev pub StaysConsistent : Type 0
StaysConsistent = (doc : Document) (entry : Entry) → IsConsistent doc → IsConsistent (take_entry doc entry)

-- the trimmed form of a consistent document is consistent
abbrev pub TrimmedIsConsistent : Type 0
TrimmedIsConsistent = (doc : Document) → IsConsistent doc → IsConsistent (trim doc)

-- a consistent document and its trimmed form show the same after further messages
abbrev pub TrimmedShowsTheSame : Type 0
TrimmedShowsTheSame =
    (doc : Document) (entries : List Entry) → IsConsistent doc → AreFrom doc.minimum entries → shown (take_entries (trim doc) entries) ≡ shown (take_entries doc entries)
