-- What each kind of step makes of one list of elements: a sequenced insertion or removal, a local one, an
-- acknowledgement, and the putting in afresh of pending elements at a reconnection. Documents have three such lists.
use Rattle.std.specs.Prelude.{ℕ, ◌+◌, ◌-◌, Bool, cond, not, ◌&&◌, nat_eq, List, [], ◌∷◌, ◌++◌, Option, Some, None, map, filter, length}
use Rattle.std.specs.List.{list_any}
use Rattle.ft_base.specs.declared.stamps.Stamp.{Stamp}
use Rattle.ft_base.specs.declared.stamps.Stamp.TheVariants.{Acked, Local}
use Rattle.ft_props.specs.declared.properties.Changes.{Changes}
use Rattle.ft_base.specs.Scan.{change_range, one_more_if, len, no_run, put, rank, retain_map}
use Rattle.ft_base.specs.Visibility.{is_acked, is_of_stage}
use Rattle.ft_props.specs.Properties.{PropertyList, change}
use Rattle.ft_props.specs.Element.{GridUnit, ListElement, ElementId, ElementContent, SequencedId, PendingId, is_pending, is_sequenced, new_elements, removal_stamp, with_removal, seen, seen_by, sequenced_elements, without_pending}

-- a list of elements, and how many were ever sequenced in it, which is the number of the next one
pub record Sequence : Type 0 where
  pub items : List ListElement
  pub made : ℕ

-- the list before the first element
abbrev pub empty_list : Sequence
empty_list = record { items = []; made = 0 }

-- the list with new elements under number s of connection c, side by side directly after the p-th element that the
-- perspective (r, c) sees, but past the run of pending elements there
abbrev pub after_insertion : ℕ → ℕ → ℕ → ℕ → Option Stamp → PropertyList → List ElementContent → Sequence → Sequence
after_insertion s c r p by props new list =
    record { items = put (seen_by r c) is_pending p (new_elements list.made (Acked s c) [] by props new) list.items; made = list.made + length new }

-- the list where the elements that (r, c) sees from the p-th up to before the q-th have a removal under number s by c
abbrev pub after_removal : ℕ → ℕ → ℕ → ℕ → ℕ → Sequence → Sequence
after_removal s c r p q list = record list { items = change_range (seen_by r c) p q (with_removal s c) list.items }

-- the list without pending elements, removals and changes
abbrev pub sequenced_list : Sequence → Sequence
sequenced_list list = record list { items = sequenced_elements list.items }

-- the list with new elements of pending stage k, directly after the p-th element that is seen at the stage before
abbrev pub after_local_insertion : ℕ → ℕ → PropertyList → List ElementContent → Sequence → Sequence
after_local_insertion k p props new list =
    record list { items = put (seen (k - 1)) no_run p (new_elements 0 (Local k) [] None props new) list.items }

-- the list with f of the elements from the p-th up to before the q-th that are seen at the stage before k
abbrev pub after_local_mark : ℕ → ℕ → ℕ → (ListElement → ListElement) → Sequence → Sequence
after_local_mark k p q f list = record list { items = change_range (seen (k - 1)) p q f list.items }

-- a stamp after stage k was acknowledged under number s of connection c
abbrev pub acked_stamp : ℕ → ℕ → ℕ → Stamp → Stamp
acked_stamp k s c t = cond (is_of_stage k t) (Acked s c) t

-- a name after stage k was acknowledged in a list in which n elements were sequenced before
abbrev pub acked_id : ℕ → ℕ → ElementId → ElementId
acked_id k n (SequencedId i) = SequencedId i
acked_id k n (PendingId j i) = cond (nat_eq j k) (SequencedId (n + i)) (PendingId j i)

-- the acknowledged properties after the pending changes of stage k
abbrev pub acked_props : ℕ → PropertyList → List (ℕ × Changes) → PropertyList
acked_props k props [] = props
acked_props k props ((j, c) ∷ pending) = acked_props k (cond (nat_eq j k) (change props c) props) pending

-- the removal stamp that the acknowledgement of stage k gives to an element with this pending removal
abbrev pub acked_removal : ℕ → ℕ → ℕ → Option ℕ → List Stamp
acked_removal k s c None = []
acked_removal k s c (Some j) = cond (nat_eq j k) (Acked s c ∷ []) []

-- the pending removal that is left after the acknowledgement of stage k
abbrev pub remaining_removal : ℕ → Option ℕ → Option ℕ
remaining_removal k None = None
remaining_removal k (Some j) = cond (nat_eq j k) None (Some j)

-- whose message made an element: known for the text, not kept for rows and columns
abbrev pub author : ℕ → ℕ → ElementContent → Option Stamp
author s c GridUnit = None
author s c _ = Some (Acked s c)

-- an element after stage k was acknowledged under number s of connection c, where n were sequenced before
abbrev pub acked_element : ℕ → ℕ → ℕ → ℕ → ListElement → ListElement
acked_element k n s c e = record {
  nth = cond (is_of_stage k e.ins) (n + e.nth) e.nth;
  content = e.content;
  ins = acked_stamp k s c e.ins;
  dels = e.dels ++ acked_removal k s c e.removal_stage;
  removal_stage = remaining_removal k e.removal_stage;
  by = cond (is_of_stage k e.ins) (author s c e.content) e.by;
  props = acked_props k e.props e.pending;
  pending = filter (λ p. not (nat_eq p.0 k)) e.pending;
}

-- the list after stage k was acknowledged under number s of connection c
abbrev pub acked_list : ℕ → ℕ → ℕ → Sequence → Sequence
acked_list k s c list = record {
  items = map (acked_element k list.made s c) list.items;
  made = list.made + len (λ e. is_of_stage k e.ins) list.items;
}

-- whether stage k inserted the element
abbrev pub is_inserted_by : ℕ → ListElement → Bool
is_inserted_by k e = is_of_stage k e.ins

-- whether stage k marks the element as removed
abbrev pub is_removed_by : ℕ → ListElement → Bool
is_removed_by k e = list_any (is_of_stage k) (removal_stamp e.removal_stage)

-- whether stage k has changes of the element
abbrev pub is_annotated_by : ℕ → ListElement → Bool
is_annotated_by k e = list_any (λ p. nat_eq p.0 k) e.pending

-- how many elements seen at the stage before stand left of the first one of stage k
abbrev pub stage_position : ℕ → List ListElement → ℕ
stage_position k xs = rank (is_inserted_by k) (seen (k - 1)) xs

-- runs with the place i before them: joined to the first run where that begins next to it
abbrev pub extended_runs : ℕ → List (ℕ × ℕ) → List (ℕ × ℕ)
extended_runs i [] = (i, i + 1) ∷ []
extended_runs i ((a, b) ∷ runs) = cond (nat_eq a (i + 1)) ((i, b) ∷ runs) ((i, i + 1) ∷ (a, b) ∷ runs)

-- the maximal runs of marked elements among the seen ones, as places from up to before, where i are seen before the
-- list
abbrev pub marked_runs_from : ℕ → (ListElement → Bool) → (ListElement → Bool) → List ListElement → List (ℕ × ℕ)
marked_runs_from i seen is_marked [] = []
marked_runs_from i seen is_marked (e ∷ xs) =
    let runs = marked_runs_from (one_more_if (seen e) i) seen is_marked xs in
    cond (seen e && is_marked e) (extended_runs i runs) runs

-- the maximal runs of marked elements in the view of the stage before k
abbrev pub marked_runs : ℕ → (ListElement → Bool) → List ListElement → List (ℕ × ℕ)
marked_runs k is_marked xs = marked_runs_from 0 (seen (k - 1)) is_marked xs

-- the runs, each lowered by the lengths of those before it, as after their removal
abbrev pub lowered_runs : ℕ → List (ℕ × ℕ) → List (ℕ × ℕ)
lowered_runs d [] = []
lowered_runs d ((a, b) ∷ runs) = (a - d, b - d) ∷ lowered_runs (d + (b - a)) runs

-- an element as it goes through a reconnection: what is pending on it goes where a removal of it is sequenced
abbrev pub carried_element : ListElement → ListElement
carried_element e = cond (list_any is_acked e.dels) (without_pending e) e

-- the list ys with the elements that stage k has in xs, after as many elements of the stage before as stood left of
-- them in xs
abbrev pub put_stage : List ListElement → List ListElement → ℕ → List ListElement
put_stage xs ys k = put (seen (k - 1)) no_run (stage_position k xs) (filter (is_inserted_by k) xs) ys

-- the same for each stage in order
abbrev pub put_stages : List ListElement → List ListElement → List ℕ → List ListElement
put_stages xs ys [] = ys
put_stages xs ys (k ∷ stages) = put_stages xs (put_stage xs ys k) stages

-- the sequenced elements in their order, with the elements of each pending stage put in afresh
abbrev pub rebuilt_list : List ℕ → Sequence → Sequence
rebuilt_list stages list = record list { items = put_stages list.items (retain_map is_sequenced carried_element list.items) stages }
