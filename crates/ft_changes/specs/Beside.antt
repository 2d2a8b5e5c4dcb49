-- Where no interval ends elsewhere than the changes of the lists lead: an end that stands on an element stays on it, or goes where they
-- lead, if what stands beside the change is seen at each stage; and of which intervals an operation is.
use Rattle.std.specs.Prelude.{ℕ, Bool, true, false, cond, not, ◌&&◌, ◌||◌, List, [], ◌∷◌, filter, drop, map, reverse, take}
use Rattle.std.specs.List.{list_any}
use Rattle.std.specs.Ordering.{is_eq}
use Rattle.ft_base.specs.Scan.{one_more_if, within}
use Rattle.ft_base.specs.Visibility.{is_acked}
use Rattle.ft_props.specs.Properties.{Characters, text_cmp}
use Rattle.ft_props.specs.Element.{ListElement, is_pending, is_unremoved, removal_stamp, seen_by}
use Rattle.ft_op.specs.declared.operations.BaseOp.TheVariants.{Insert, Remove, Annotate}
use Rattle.ft_op.specs.declared.operations.TextOp.{TextOp}
use Rattle.ft_op.specs.declared.operations.TextOp.TheVariants.{IntervalAdd, IntervalChange, IntervalDelete}
use Rattle.ft_op.specs.Document.{Document}
use Rattle.ft_op.specs.Operation.{OnGrid, OnIntervals, OnText, SubOperation, sub_operations}
use Rattle.ft_sumdoc.specs.declared.summary.IntervalRec.{IntervalRec}
use Rattle.ft_msg.specs.declared.messages.Body.{Body}
use Rattle.ft_msg.specs.declared.messages.Body.TheVariants.{Nothing, Op, Elsewhere}
use Rattle.ft_msg.specs.declared.messages.Entry.{Entry}
use Rattle.ft_msg.specs.Agreed.{reference_number}
use Rattle.ft_msg.specs.Client.{NaiveClient, stages_of}
use Rattle.ft_changes.specs.ShownRuns.{place_of_insertion}

-- ---- what stands beside a change of a list

-- whether the first that stands passes the test, if one stands
abbrev pub first_passes : {A : Type 0} → (A → Bool) → (A → Bool) → List A → Bool
first_passes stands test [] = true
first_passes stands test (x ∷ xs) = cond (stands x) (test x) (first_passes stands test xs)

-- whether those that stand on both sides of what goes in after the p-th seen one, and past the run there, pass the test
abbrev pub passes_beside_place : {A : Type 0} → (A → Bool) → (A → Bool) → (A → Bool) → (A → Bool) → ℕ → List A → Bool
passes_beside_place seen past stands test p xs =
    let n = place_of_insertion seen past (λ _. true) p xs in
    first_passes stands test (reverse (take n xs)) && first_passes stands test (drop n xs)

-- each with whether it is one of the seen ones from the p-th up to before the q-th, where n are seen before the list
abbrev pub marked_range : {A : Type 0} → ℕ → (A → Bool) → ℕ → ℕ → List A → List (Bool × A)
marked_range n seen p q [] = []
marked_range n seen p q (x ∷ xs) = (seen x && within p q n, x) ∷ marked_range (one_more_if (seen x) n) seen p q xs

-- of two neighbours, where one alone is marked, whether the other one passes the test
abbrev pub passes_beside_marked : {A : Type 0} → (A → Bool) → Bool × A → Bool × A → Bool
passes_beside_marked test a b = cond a.0 (b.0 || test b.1) (not b.0 || test a.1)

-- so of each two that stand side by side
abbrev pub pass_beside_marked : {A : Type 0} → (A → Bool) → List (Bool × A) → Bool
pass_beside_marked test [] = true
pass_beside_marked test (a ∷ xs) = elim xs [ [] ↦ true | b ∷ ys ↦ passes_beside_marked test a b ] && pass_beside_marked test xs

-- whether those that stand beside the runs of the range pass the test
abbrev pub passes_beside_range : {A : Type 0} → (A → Bool) → (A → Bool) → (A → Bool) → ℕ → ℕ → List A → Bool
passes_beside_range seen stands test p q xs = pass_beside_marked test (filter (λ m. stands m.1) (marked_range 0 seen p q xs))

-- ---- elements of the text

-- whether no sequenced removal took it
abbrev pub is_standing : ListElement → Bool
is_standing e = not (list_any is_acked e.dels)

-- whether each stage sees it, and the agreed document too
abbrev pub is_always_seen : ListElement → Bool
is_always_seen e = is_unremoved e && not (list_any (λ _. true) (removal_stamp e.removal_stage))

-- whether a sub-operation of the client c, which saw messages up to r, moves no end elsewhere than it moves the lists
abbrev pub moves_ends_alike : Document → ℕ → ℕ → SubOperation → Bool
moves_ends_alike doc c r (OnText op) = elim op [
  | Insert p seg props ↦ passes_beside_place (seen_by r c) is_pending is_standing is_always_seen p doc.text.items
  | Remove p q ↦ passes_beside_range (seen_by r c) is_standing is_always_seen p q doc.text.items
  | Annotate p q changes ↦ true
]
moves_ends_alike doc c r (OnIntervals op) = true
moves_ends_alike doc c r (OnGrid op) = true

-- the same of a message with one sub-operation at most; of one with more it isn't told
abbrev pub body_moves_ends_alike : Document → ℕ → ℕ → Body → Bool
body_moves_ends_alike doc c r (Op op) = elim (sub_operations op) [ [] ↦ true | o ∷ os ↦ elim os [ [] ↦ moves_ends_alike doc c r o | _ ↦ false ] ]
body_moves_ends_alike doc c r Nothing = true
body_moves_ends_alike doc c r (Elsewhere address) = true

-- whether an entry moves no shown end elsewhere than it moves the lists: so it is where nothing is pending, too
abbrev pub entry_moves_ends_alike : NaiveClient → Entry → Bool
entry_moves_ends_alike x entry =
    not (list_any (λ _. true) (stages_of x)) || body_moves_ends_alike x.doc entry.origin (reference_number entry.msg.ref_seq) entry.msg.body

-- ---- of which intervals an operation is

abbrev pub is_named : Characters → Characters → IntervalRec → Bool
is_named label id i = is_eq (text_cmp label i.label) && is_eq (text_cmp id i.id)

-- whether the operation adds, changes or deletes this one
abbrev pub is_operation_on : TextOp → IntervalRec → Bool
is_operation_on (IntervalAdd label id ends props) i = is_named label id i
is_operation_on (IntervalChange label id ends props) i = is_named label id i
is_operation_on (IntervalDelete label id) i = is_named label id i
is_operation_on _ i = false

abbrev pub changes_interval : IntervalRec → SubOperation → Bool
changes_interval i (OnIntervals op) = is_operation_on op i
changes_interval i _ = false

-- whether one of them does
abbrev pub is_changed_by : List SubOperation → IntervalRec → Bool
is_changed_by ops i = list_any (changes_interval i) ops

-- the sub-operations of a message
abbrev pub body_sub_operations : Body → List SubOperation
body_sub_operations (Op op) = sub_operations op
body_sub_operations _ = []

-- whether the entry or a pending stage adds, changes or deletes it
abbrev pub is_changed_around : NaiveClient → Entry → IntervalRec → Bool
is_changed_around x entry i = is_changed_by (body_sub_operations entry.msg.body) i || is_changed_by (map (λ t. t.sub_operation) (stages_of x)) i
