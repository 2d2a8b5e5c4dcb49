-- The elements of the text, the rows and the columns. A list keeps each element that ever was in it: one that was removed
-- stays as a tombstone. An element is named by its number in the order of sequencing, so that all clients name it alike.
use Rattle.std.specs.Prelude.{ℕ, ◌+◌, Bool, false, not, ◌&&◌, nat_eq, List, [], ◌∷◌, ◌++◌, Option, Some, None}
use Rattle.std.specs.List.{list_any}
use Rattle.ft_base.specs.declared.stamps.Stamp.{Stamp}
use Rattle.ft_base.specs.declared.stamps.Stamp.TheVariants.{Acked, Local}
use Rattle.ft_base.specs.declared.elements.Element.{Element as ElementStamps}
use Rattle.ft_props.specs.declared.properties.Changes.{Changes}
use Rattle.ft_base.specs.Scan.{retain_map}
use Rattle.ft_base.specs.Visibility.{is_acked, is_present, seen_at, sees}
use Rattle.ft_props.specs.Properties.{PropertyList, change}

-- an element's name in its list: the n-th that was ever sequenced there, or the n-th of a pending stage, counted from 0
pub data ElementId : Type 0 where
  SequencedId : ℕ → ElementId
  PendingId : ℕ → ℕ → ElementId

-- whether two names are equal
abbrev pub same_id : ElementId → ElementId → Bool
same_id (SequencedId m) (SequencedId n) = nat_eq m n
same_id (PendingId j m) (PendingId k n) = nat_eq j k && nat_eq m n
same_id _ _ = false

-- what an element is: a character by its number, a marker by its reference type, or a unit of the rows or columns
pub data ElementContent : Type 0 where
  Character : ℕ → ElementContent
  MarkerOf : ℕ → ElementContent
  GridUnit : ElementContent

-- an element: its number in its list or its stage; its content; its insertion; its sequenced removals by rising number; the
-- stage of its pending removal, if it has one; the stamp of its insertion's message (`by`), where it is of the text and not
-- pending, (0, 0) where that isn't known; its acknowledged properties; and its pending changes by rising stage
pub record ListElement : Type 0 where
  pub nth : ℕ
  pub content : ElementContent
  pub ins : Stamp
  pub dels : List Stamp
  pub removal_stage : Option ℕ
  pub by : Option Stamp
  pub props : PropertyList
  pub pending : List (ℕ × Changes)

-- the name of the n-th element with this insertion
abbrev pub id_of_stamp : Stamp → ℕ → ElementId
id_of_stamp (Acked s c) n = SequencedId n
id_of_stamp (Local k) n = PendingId k n

-- the name of an element
abbrev pub id : ListElement → ElementId
id e = id_of_stamp e.ins e.nth

-- the stamp of a pending removal, if there is one
abbrev pub removal_stamp : Option ℕ → List Stamp
removal_stamp None = []
removal_stamp (Some k) = Local k ∷ []

-- its stamps, the pending removal behind the sequenced ones
abbrev pub stamps_of : ListElement → ElementStamps
stamps_of e = record { ins = e.ins; dels = e.dels ++ removal_stamp e.removal_stage }

-- whether the perspective (r, c) sees the element
abbrev pub seen_by : ℕ → ℕ → ListElement → Bool
seen_by r c e = sees (stamps_of e) r c

-- whether the client sees the element at its pending stage k
abbrev pub seen : ℕ → ListElement → Bool
seen k e = seen_at (stamps_of e) k

-- whether the element has this name
abbrev pub has_id : ElementId → ListElement → Bool
has_id x e = same_id x (id e)

-- whether this element is the one that is named, if one is
abbrev pub is_named_by : ElementId → Option ElementId → Bool
is_named_by x None = false
is_named_by x (Some y) = same_id x y

-- whether its insertion is sequenced and no removal of it is
abbrev pub is_unremoved : ListElement → Bool
is_unremoved e = is_present is_acked (stamps_of e)

-- whether its insertion is sequenced
abbrev pub is_sequenced : ListElement → Bool
is_sequenced e = is_acked e.ins

-- whether its insertion is pending
abbrev pub is_pending : ListElement → Bool
is_pending e = not (is_acked e.ins)

-- new elements with the same stamps, author and properties, numbered in order from n on
abbrev pub new_elements : ℕ → Stamp → List Stamp → Option Stamp → PropertyList → List ElementContent → List ListElement
new_elements n ins dels by props [] = []
new_elements n ins dels by props (b ∷ bs) =
    record { nth = n; content = b; ins = ins; dels = dels; removal_stage = None; by = by; props = props; pending = [] } ∷ new_elements (n + 1) ins dels by props bs

-- the element with a removal under number s by connection c
abbrev pub with_removal : ℕ → ℕ → ListElement → ListElement
with_removal s c e = record e { dels = e.dels ++ (Acked s c ∷ []) }

-- the element with its acknowledged properties changed
abbrev pub with_annotation : Changes → ListElement → ListElement
with_annotation c e = record e { props = change e.props c }

-- the element marked as removed by pending stage k
abbrev pub with_pending_removal : ℕ → ListElement → ListElement
with_pending_removal k e = record e { removal_stage = Some k }

-- the element with changes of pending stage k
abbrev pub with_pending_annotation : ℕ → Changes → ListElement → ListElement
with_pending_annotation k c e = record e { pending = e.pending ++ ((k, c) ∷ []) }

-- the element without its pending removal and pending changes
abbrev pub without_pending : ListElement → ListElement
without_pending e = record e { removal_stage = None; pending = [] }

-- the elements whose insertion is sequenced, without what is pending on them
abbrev pub sequenced_elements : List ListElement → List ListElement
sequenced_elements xs = retain_map is_sequenced without_pending xs

-- whether a removal of the element of that name is sequenced
abbrev pub has_sequenced_removal : List ListElement → ElementId → Bool
has_sequenced_removal xs x = list_any (λ e. has_id x e && list_any is_acked e.dels) xs

-- an element without its name, as a replica that numbers otherwise shows it
pub record NamelessElement : Type 0 where
  pub content : ElementContent
  pub stamps : ElementStamps
  pub by : Option Stamp
  pub props : PropertyList
  pub pending : List (ℕ × Changes)

-- the element without its name
abbrev pub nameless : ListElement → NamelessElement
nameless e = record { content = e.content; stamps = stamps_of e; by = e.by; props = e.props; pending = e.pending }
