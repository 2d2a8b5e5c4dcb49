-- What the changes of the lists make of what is shown beside the elements.
use Rattle.std.proofs.Common.{◌≡◌, ◌<◌, ℕ, zero, suc, ◌+◌, ◌-◌, ◌&&◌, Bool, true, false, cond, List, [], ◌∷◌, ◌++◌, Ok, Err, drop, get_or, length, map, min, refl, sym, ◌∙◌, ap, arith}
use Rattle.std.specs.Prelude.{nat_eq, nat_le, not}
use Rattle.std.proofs.lemmas.List.{drop_more, length-append}
use Rattle.std.proofs.lemmas.List.Folds.{list_all-append}
use Rattle.ft_op.specs.declared.operations.BaseOp.{BaseOp}
use Rattle.ft_op.specs.declared.operations.BaseOp.TheVariants.{Insert, Remove, Annotate}
use Rattle.ft_op.specs.declared.operations.CellOp.{CellOp}
use Rattle.ft_op.specs.declared.operations.CellOp.TheVariants.{SpliceIn, SpliceOut, Set}
use Rattle.ft_op.specs.declared.operations.Seg.{Seg}
use Rattle.ft_op.specs.declared.operations.Target.{Target}
use Rattle.ft_op.specs.declared.operations.Target.TheVariants.{Rows, Cols}
use Rattle.ft_op.specs.Document.{Document, effect, rows_or_cols}
use Rattle.ft_op.specs.Operation.{OnGrid, OnIntervals, OnText, SubOperation, segment_contents, sub_operations}
use Rattle.ft_op.specs.Stages.{Stage}
use Rattle.ft_base.specs.Scan.{len}
use Rattle.ft_props.specs.Element.{ElementContent, is_pending, seen, seen_by, with_annotation, with_pending_annotation}
use Rattle.ft_props.specs.Properties.{PropertyList, apply}
use Rattle.ft_sumdoc.specs.WellFormed.{same_props}
use Rattle.ft_msg.specs.declared.messages.Body.{Body}
use Rattle.ft_msg.specs.declared.messages.Body.TheVariants.{Nothing, Op, Elsewhere}
use Rattle.ft_msg.specs.Client.{EditResult, local_sub_operation}
use Rattle.ft_changes.specs.declared.changes.ViewChange.{ViewChange}
use Rattle.ft_changes.specs.declared.changes.ViewChange.TheVariants.{Put, Take, Style, PutUnits, TakeUnits}
use Rattle.ft_changes.specs.declared.rest.Shift.{Shift}
use Rattle.ft_changes.specs.declared.rest.Shift.TheVariants.{In, Out}
use Rattle.ft_changes.specs.declared.rest.ShownRest.{ShownRest}
use Rattle.ft_changes.specs.Rest.{are_of_lists, is_of_list, moved_count, moved_ends, moved_number, rest_of}
use Rattle.ft_changes.specs.Shown.{ShownContent, after_change, after_changes, moved_cells, shown_properties, styled_elements}
use Rattle.ft_changes.specs.ShownRuns.{change_at, change_first, changed_runs, gone_runs, place_of_insertion, put_in, take_out, without_first}
use Rattle.ft_changes.specs.Told.{styled_run, taken_run, taken_units, told_body, told_local, told_local_grid, told_local_text, told_locals, told_of_grid, told_of_text, told_sub_operation, told_sub_operations, unless_no_elements}

-- ---- how many elements there are

put-length : {A : Type 0} (p : ℕ) (new xs : List A) → length (put_in p new xs) ≡ length xs + length new
put-length zero new xs = let long = length-append new xs in omega (arith, long)
put-length (suc p) new [] = omega arith
put-length (suc p) new (x ∷ xs) = let long = put-length p new xs in omega (arith, long)

first-length : {A : Type 0} (n : ℕ) (xs : List A) → length (without_first n xs) ≡ length xs - n
first-length zero xs = omega arith
first-length (suc n) [] = omega arith
first-length (suc n) (x ∷ xs) = let long = first-length n xs in omega (arith, long)

take-length : {A : Type 0} (p n : ℕ) (xs : List A) → length (take_out p n xs) ≡ length xs - min n (length xs - p)
take-length zero n xs = let long = first-length n xs in omega (arith, long)
take-length (suc p) n [] = omega arith
take-length (suc p) n (x ∷ xs) = let long = take-length p n xs in omega (arith, long)

changed-length : {A : Type 0} (n : ℕ) (f : A → A) (xs : List A) → length (change_first n f xs) ≡ length xs
changed-length zero f xs = refl
changed-length (suc n) f [] = refl
changed-length (suc n) f (x ∷ xs) = ap suc (changed-length n f xs)

change-length : {A : Type 0} (p n : ℕ) (f : A → A) (xs : List A) → length (change_at p n f xs) ≡ length xs
change-length zero n f xs = changed-length n f xs
change-length (suc p) n f [] = refl
change-length (suc p) n f (x ∷ xs) = ap suc (change-length p n f xs)

styled-length : (props : PropertyList) (bs : List ElementContent) → length (styled_elements props bs) ≡ length bs
styled-length props [] = refl
styled-length props (b ∷ bs) = ap suc (styled-length props bs)

-- ---- one change

-- with so many elements, where their intervals moved
abbrev with_count : Shift → ℕ → ShownRest → ShownRest
with_count shift n r = record r { elements = n; intervals = map (moved_ends shift n) r.intervals }

abbrev pub shifted : Shift → ShownRest → ShownRest
shifted shift r = with_count shift (moved_count shift r.elements) r

abbrev pub with_units : Target → Shift → ShownRest → ShownRest
with_units target shift r = record r { cells = moved_cells target (moved_number shift) r.cells }

pub put-rest : (s : ShownContent) (p : ℕ) (seg : Seg) (props : PropertyList) → shifted (In p (length (segment_contents seg))) (rest_of s) ≡ rest_of (after_change s (Put p seg props))
put-rest s p seg props =
    let new = styled_elements props (segment_contents seg) in
    let long = put-length p new s.elements in
    let n : length s.elements + length (segment_contents seg) ≡ length (put_in p new s.elements) = ap (λ n. length s.elements + n) (sym (styled-length props (segment_contents seg))) ∙ sym long in
    ap (λ n. record { elements = n; intervals = map (moved_ends (In p (length (segment_contents seg))) n) s.intervals; cells = s.cells }) n

pub take-rest : (s : ShownContent) (p n : ℕ) → shifted (Out p n) (rest_of s) ≡ rest_of (after_change s (Take p n))
take-rest s p n = ap (λ k. with_count (Out p n) k (rest_of s)) (sym (take-length p n s.elements))

pub style-rest : (s : ShownContent) (p n : ℕ) (props : PropertyList) → rest_of s ≡ rest_of (after_change s (Style p n props))
style-rest s p n props = ap (λ k. record (rest_of s) { elements = k }) (sym (change-length p n _ s.elements))

pub put-units-rest : (s : ShownContent) (target : Target) (p n : ℕ) → with_units target (In p n) (rest_of s) ≡ rest_of (after_change s (PutUnits target p n))
put-units-rest s Rows p n = refl
put-units-rest s Cols p n = refl

pub take-units-rest : (s : ShownContent) (target : Target) (p n : ℕ) → with_units target (Out p n) (rest_of s) ≡ rest_of (after_change s (TakeUnits target p n))
take-units-rest s Rows p n = refl
take-units-rest s Cols p n = refl

-- ---- what is told of the lists are changes of lists

both-hold : (a b : Bool) → a ≡ true → b ≡ true → a && b ≡ true
both-hold true b h k = k
both-hold false b h k = absurd (cc)

pub both-parts : (a b : Bool) → a && b ≡ true → (a ≡ true) × (b ≡ true)
both-parts true b h = (refl, h)
both-parts false b h = absurd (cc)

append-of-lists : (cs ds : List ViewChange) → are_of_lists cs ≡ true → are_of_lists ds ≡ true → are_of_lists (cs ++ ds) ≡ true
append-of-lists cs ds h k = list_all-append is_of_list cs ds ∙ both-hold (are_of_lists cs) (are_of_lists ds) h k

mapped-of-lists : {A : Type 0} (f : A → ViewChange) (xs : List A) → ((x : A) → is_of_list (f x) ≡ true) → are_of_lists (map f xs) ≡ true
mapped-of-lists f [] h = refl
mapped-of-lists f (x ∷ xs) h = both-hold (is_of_list (f x)) (are_of_lists (map f xs)) (h x) (mapped-of-lists f xs h)

chosen-of-lists : (b : Bool) (cs : List ViewChange) → are_of_lists cs ≡ true → are_of_lists (cond b cs []) ≡ true
chosen-of-lists true cs h = h
chosen-of-lists false cs h = refl

unless-of-lists : {A : Type 0} (xs : List A) (c : ViewChange) → is_of_list c ≡ true → are_of_lists (unless_no_elements xs c) ≡ true
unless-of-lists [] c h = refl
unless-of-lists (x ∷ xs) c h = both-hold (is_of_list c) true h refl

text-of-lists : (k : ℕ) (doc : Document) (c r : ℕ) (op : BaseOp) → are_of_lists (told_of_text k doc c r op) ≡ true
text-of-lists k doc c r (Insert p seg props) =
    let xs = doc.text.items in
    let change = Put (place_of_insertion (seen_by r c) is_pending (seen k) p xs) seg (apply [] props) in
    chosen-of-lists (nat_le p (len (seen_by r c) xs)) (unless_no_elements (segment_contents seg) change) (unless-of-lists (segment_contents seg) change refl)
text-of-lists k doc c r (Remove p q) =
    let xs = doc.text.items in
    let runs = gone_runs (seen_by r c) (seen k) p q xs in
    chosen-of-lists (nat_le q (len (seen_by r c) xs)) (map taken_run runs) (mapped-of-lists taken_run runs (λ run. refl))
text-of-lists k doc c r (Annotate p q changes) =
    let xs = doc.text.items in
    let runs = changed_runs same_props shown_properties (with_annotation changes) (seen_by r c) (seen k) p q xs in
    chosen-of-lists (nat_le q (len (seen_by r c) xs)) (map styled_run runs) (mapped-of-lists styled_run runs (λ run. refl))

grid-of-lists : (k : ℕ) (doc : Document) (c r : ℕ) (op : CellOp) → are_of_lists (told_of_grid k doc c r op) ≡ true
grid-of-lists k doc c r (SpliceIn target p n) =
    let xs = (rows_or_cols target doc).items in
    let change = PutUnits target (place_of_insertion (seen_by r c) is_pending (seen k) p xs) n in
    chosen-of-lists (nat_le p (len (seen_by r c) xs) && not (nat_eq n 0)) (change ∷ []) refl
grid-of-lists k doc c r (SpliceOut target p q) =
    let xs = (rows_or_cols target doc).items in
    let runs = gone_runs (seen_by r c) (seen k) p q xs in
    chosen-of-lists (nat_le q (len (seen_by r c) xs)) (map (taken_units target) runs) (mapped-of-lists (taken_units target) runs (λ run. refl))
grid-of-lists k doc c r (Set i j value) = refl

one-of-lists : (k : ℕ) (doc : Document) (c r : ℕ) (o : SubOperation) → are_of_lists (told_sub_operation k doc c r o) ≡ true
one-of-lists k doc c r (OnText op) = text-of-lists k doc c r op
one-of-lists k doc c r (OnIntervals op) = refl
one-of-lists k doc c r (OnGrid op) = grid-of-lists k doc c r op

all-of-lists : (k : ℕ) (doc : Document) (s c r : ℕ) (os : List SubOperation) → are_of_lists (told_sub_operations k doc s c r os) ≡ true
all-of-lists k doc s c r [] = refl
all-of-lists k doc s c r (o ∷ os) =
    append-of-lists (told_sub_operation k doc c r o) (told_sub_operations k (effect doc s c r o) s c r os) (one-of-lists k doc c r o) (all-of-lists k (effect doc s c r o) s c r os)

pub body-of-lists : (k : ℕ) (doc : Document) (s c r : ℕ) (body : Body) → are_of_lists (told_body k doc s c r body) ≡ true
body-of-lists k doc s c r (Op op) = all-of-lists k doc s c r (sub_operations op)
body-of-lists k doc s c r Nothing = refl
body-of-lists k doc s c r (Elsewhere address) = refl

local-text-of-lists : (k : ℕ) (doc : Document) (op : BaseOp) → are_of_lists (told_local_text k doc op) ≡ true
local-text-of-lists k doc (Insert p seg props) = unless-of-lists (segment_contents seg) (Put p seg (apply [] props)) refl
local-text-of-lists k doc (Remove p q) = mapped-of-lists taken_run (gone_runs (seen (k - 1)) (seen k) p q doc.text.items) (λ run. refl)
local-text-of-lists k doc (Annotate p q changes) =
    let runs = changed_runs same_props shown_properties (with_pending_annotation k changes) (seen (k - 1)) (seen k) p q doc.text.items in
    mapped-of-lists styled_run runs (λ run. refl)

unless-none : (b : Bool) (cs : List ViewChange) → are_of_lists cs ≡ true → are_of_lists (cond b [] cs) ≡ true
unless-none true cs h = refl
unless-none false cs h = h

local-grid-of-lists : (k : ℕ) (doc : Document) (op : CellOp) → are_of_lists (told_local_grid k doc op) ≡ true
local-grid-of-lists k doc (SpliceIn target p n) = unless-none (nat_eq n 0) (PutUnits target p n ∷ []) refl
local-grid-of-lists k doc (SpliceOut target p q) =
    mapped-of-lists (taken_units target) (gone_runs (seen (k - 1)) (seen k) p q (rows_or_cols target doc).items) (λ run. refl)
local-grid-of-lists k doc (Set i j value) = refl

local-of-lists : (k : ℕ) (doc : Document) (o : SubOperation) → are_of_lists (told_local k doc o) ≡ true
local-of-lists k doc (OnText op) = local-text-of-lists k doc op
local-of-lists k doc (OnIntervals op) = refl
local-of-lists k doc (OnGrid op) = local-grid-of-lists k doc op

pub locals-of-lists : (doc : Document) (stages : List Stage) (k : ℕ) (os : List SubOperation) → are_of_lists (told_locals doc stages k os) ≡ true
locals-of-lists doc stages k [] = refl
locals-of-lists doc stages k (o ∷ os) = by (local_sub_operation doc stages k o) (λ next more. locals-of-lists next more (k + 1) os)
  where
    by : (r : EditResult) → ((next : Document) (more : List Stage) → are_of_lists (told_locals next more (k + 1) os) ≡ true)
        → are_of_lists (elim r as (λ _. List ViewChange) [
          | Err fault ↦ []
          | Ok taken ↦
              let here : Stage = record { stage = k; sub_operation = o; names = taken.1 } in
              told_local k doc o ++ told_locals taken.0 (stages ++ (here ∷ [])) (k + 1) os
        ])
        ≡ true
    by (Err fault) more = refl
    by (Ok taken) more =
        let here : Stage = record { stage = k; sub_operation = o; names = taken.1 } in
        append-of-lists (told_local k doc o) (told_locals taken.0 (stages ++ (here ∷ [])) (k + 1) os) (local-of-lists k doc o) (more taken.0 (stages ++ (here ∷ [])))

-- ---- several changes

-- what is done, and what is still to do, lead to what all do
pub record GoesOn (rest : ShownRest) (left : List ViewChange) (to : ShownContent) : Type 0 where
  pub now : ShownContent
  pub is : rest_of now ≡ rest
  pub of_lists : are_of_lists left ≡ true
  pub leads : after_changes now left ≡ to

-- the next one is done
pub goes-further : (rest next : ShownRest) (all : List ViewChange) (i : ℕ) (c : ViewChange) (to : ShownContent) → i < length all → c ≡ get_or all i c
    → ((s : ShownContent) → rest_of s ≡ rest → is_of_list c ≡ true → next ≡ rest_of (after_change s c)) → GoesOn rest (drop i all) to → GoesOn next (drop (i + 1) all) to
goes-further rest next all i c to within is step g =
    let left = drop (i + 1) all in
    let here : drop i all ≡ c ∷ left = drop_more all i c within ∙ ap (λ d. d ∷ left) (sym is) in
    let both = both-parts (is_of_list c) (are_of_lists left) (sym (ap are_of_lists here) ∙ g.of_lists) in
    record { now = after_change g.now c; is = sym (step g.now g.is both.0); of_lists = both.1; leads = sym (ap (after_changes g.now) here) ∙ g.leads }

-- and all are
pub all-done : (rest : ShownRest) (left : List ViewChange) (to : ShownContent) → left ≡ [] → GoesOn rest left to → rest ≡ rest_of to
all-done rest left to none g = sym g.is ∙ ap rest_of (sym (ap (after_changes g.now) none) ∙ g.leads)
