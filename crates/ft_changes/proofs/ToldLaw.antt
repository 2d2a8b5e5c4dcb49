-- What is told of an entry leads from what was shown to what is shown.
use Rattle.std.proofs.Common.{◌≡◌, ℕ, Bool, true, false, cond, ◌&&◌, List, [], ◌∷◌, ◌++◌, Option, Some, None, Result, Ok, Err, refl, sym, ◌∙◌, ap, subst, ℤ}
use Rattle.std.proofs.lemmas.Bool.Decides.{Decides-int_eq}
use Rattle.std.proofs.lemmas.Slice.Eq.{bytes_eq-Decides}
use Rattle.std.specs.Ordering.{int_eq}
use Rattle.std.specs.declared.cmp.Ordering.{Ordering}
use Rattle.std.specs.declared.cmp.Ordering.TheVariants.{Less, Equal, Greater}
use Rattle.ft_props.specs.Keys.{Characters, remove_rising}
use Rattle.ft_props.specs.Properties.{PropertyList}
use Rattle.ft_sumdoc.specs.declared.summary.CellRec.{CellRec}
use Rattle.ft_sumdoc.specs.declared.summary.IntervalRec.{IntervalRec}
use Rattle.ft_sumdoc.specs.WellFormed.{same_props}
use Rattle.ft_marks.proofs.SameStamps.{same_props-Decides}
use Rattle.ft_msg.specs.declared.faults.ProcessFault.{ProcessFault}
use Rattle.ft_msg.specs.declared.messages.Entry.{Entry}
use Rattle.ft_msg.specs.Client.{NaiveClient}
use Rattle.ft_msg.specs.Acknowledgement.{after_own_message}
use Rattle.ft_msg.specs.Process.{after_entry, after_foreign_message, come_online, is_op, is_own, is_own_join, process, process_fault}
use Rattle.ft_msg.specs.Reached.{IsReached}
use Rattle.ft_changes.specs.declared.changes.ViewChange.TheVariants.{SetCell, ClearCell, SetInterval, DropInterval}
use Rattle.ft_base.specs.Scan.{len}
use Rattle.ft_props.specs.Element.{seen}
use Rattle.ft_changes.specs.Laws.{ListsLead}
use Rattle.ft_changes.specs.Shown.{ShownContent, ShownElement, after_changes, cell_at_place, cell_order, interval_of_name, interval_order, shown_content, shown_elements}
use Rattle.ft_changes.specs.Told.{same_cell_value, same_interval, told_cells, told_intervals, told_lists, told_of_entry}
use Rattle.ft_changes.proofs.ForeignSteps.{after-append}
use Rattle.ft_changes.proofs.ListsLead.{after-lists}
use Rattle.ft_changes.proofs.OrderedIntervals.{content-rises, entry-rise, reached-rise}
use Rattle.ft_changes.proofs.Orders.{cell_order-is, interval_order-is, same-cell_keys, same-interval_keys}
use Rattle.ft_changes.proofs.Rising.{Rises, changes-rise}
use Rattle.ft_changes.proofs.ToldItems.{told-items-lead}

both : (a b : Bool) → a && b ≡ true → (a ≡ true) × (b ≡ true)
both true b h = (refl, h)
both false b h = absurd (cc)

same-cell-is : (a b : CellRec) → cell_order a b ≡ Equal → same_cell_value a b ≡ true → a ≡ b
same-cell-is a b e s =
    let keys = same-cell_keys a b e in
    let value = (bytes_eq-Decides a.value b.value).0 s in
    let made : ℕ → ℕ → List ℕ → CellRec = λ i j v. record { row = i; col = j; value = v } in
    ap (λ i. made i a.col a.value) keys.0 ∙ ap (λ j. made b.row j a.value) keys.1 ∙ ap (λ v. made b.row b.col v) value

same-interval-is : (a b : IntervalRec) → interval_order a b ≡ Equal → same_interval a b ≡ true → a ≡ b
same-interval-is a b e s =
    let keys = same-interval_keys a b e in
    let p = both (int_eq a.ends.start b.ends.start && int_eq a.ends.end b.ends.end) (same_props a.props b.props) s in
    let ends = both (int_eq a.ends.start b.ends.start) (int_eq a.ends.end b.ends.end) p.0 in
    let start = (Decides-int_eq a.ends.start b.ends.start).0 ends.0 in
    let end = (Decides-int_eq a.ends.end b.ends.end).0 ends.1 in
    let props = (same_props-Decides a.props b.props).0 p.1 in
    let made : Characters → Characters → ℤ → ℤ → PropertyList → IntervalRec =
    λ l n i j ps. record { label = l; id = n; ends = record { start = i; end = j }; props = ps } in
    ap (λ l. made l a.id a.ends.start a.ends.end a.props) keys.0
    ∙ ap (λ n. made b.label n a.ends.start a.ends.end a.props) keys.1
    ∙ ap (λ i. made b.label b.id i a.ends.end a.props) start
    ∙ ap (λ j. made b.label b.id b.ends.start j a.props) end
    ∙ ap (λ ps. made b.label b.id b.ends.start b.ends.end ps) props

remove-named : (i : IntervalRec) (ys : List IntervalRec) → remove_rising interval_order (interval_of_name i.label i.id) ys ≡ remove_rising interval_order i ys
remove-named i [] = refl
remove-named i (y ∷ ys) = by (interval_order i y) (remove-named i ys)
  where
    by : (o : Ordering) → remove_rising interval_order (interval_of_name i.label i.id) ys ≡ remove_rising interval_order i ys
        → elim o as (λ _. List IntervalRec) [ Less ↦ y ∷ ys | Equal ↦ ys | Greater ↦ y ∷ remove_rising interval_order (interval_of_name i.label i.id) ys ]
        ≡ elim o as (λ _. List IntervalRec) [ Less ↦ y ∷ ys | Equal ↦ ys | Greater ↦ y ∷ remove_rising interval_order i ys ]
    by Less rest = refl
    by Equal rest = refl
    by Greater rest = ap (λ zs. y ∷ zs) rest

remove-placed : (c : CellRec) (ys : List CellRec) → remove_rising cell_order (cell_at_place c.row c.col) ys ≡ remove_rising cell_order c ys
remove-placed c [] = refl
remove-placed c (y ∷ ys) = by (cell_order c y) (remove-placed c ys)
  where
    by : (o : Ordering) → remove_rising cell_order (cell_at_place c.row c.col) ys ≡ remove_rising cell_order c ys
        → elim o as (λ _. List CellRec) [ Less ↦ y ∷ ys | Equal ↦ ys | Greater ↦ y ∷ remove_rising cell_order (cell_at_place c.row c.col) ys ]
        ≡ elim o as (λ _. List CellRec) [ Less ↦ y ∷ ys | Equal ↦ ys | Greater ↦ y ∷ remove_rising cell_order c ys ]
    by Less rest = refl
    by Equal rest = refl
    by Greater rest = ap (λ zs. y ∷ zs) rest

pub cells-lead : (m : ShownContent) (after : List CellRec) → Rises m → (Rises (record m { cells = after })) → after_changes m (told_cells m.cells after) ≡ record m { cells = after }
cells-lead m after r s =
    told-items-lead cell_order cell_order-is same_cell_value same-cell-is (λ c. SetCell c.row c.col c.value) (λ c. ClearCell c.row c.col) (λ ys. record m { cells = ys })
    (λ c ys. refl) (λ c ys. ap (λ zs. record m { cells = zs }) (remove-placed c ys)) m.cells after r.cells s.cells

pub intervals-lead : (m : ShownContent) (after : List IntervalRec) → Rises m → (Rises (record m { intervals = after })) → after_changes m (told_intervals m.intervals after) ≡ record m { intervals = after }
intervals-lead m after r s =
    told-items-lead interval_order interval_order-is same_interval same-interval-is SetInterval (λ i. DropInterval i.label i.id) (λ ys. record m { intervals = ys })
    (λ i ys. refl) (λ i ys. ap (λ zs. record m { intervals = zs }) (remove-named i ys)) m.intervals after r.intervals s.intervals

-- an entry takes no stage
pub same-stage : (x : NaiveClient) (entry : Entry) → (after_entry x entry).last_stage ≡ x.last_stage
same-stage x entry = by (is_own_join x.link entry.msg.kind entry.origin) (is_op entry.msg.body && is_own x entry)
  where
    own : (edits : List _) → (after_own_message (record x { pending = edits }) entry).last_stage ≡ x.last_stage
    own [] = refl
    own (edit ∷ edits) = refl

    by : (join mine : Bool) → (cond join (come_online x entry) (cond mine (after_own_message x entry) (after_foreign_message x entry))).last_stage ≡ x.last_stage
    by true mine = refl
    by false true = own x.pending
    by false false = refl

pub told-leads : (x : NaiveClient) (entry : Entry) → IsReached x → after_changes (shown_content x) (told_of_entry x entry) ≡ shown_content (after_entry x entry)
told-leads x entry reached =
    let y = after_entry x entry in
    let s = shown_content x in
    let z = shown_content y in
    let lists = told_lists x entry in
    let m = after_changes s lists in
    let kept = reached-rise x reached in
    let before : Rises m = changes-rise s lists (content-rises x kept) in
    let after : Rises z = content-rises y (entry-rise x entry kept) in
    let a = after-lists x entry reached in
    let cells = told_cells m.cells z.cells in
    let intervals = told_intervals m.intervals z.intervals in
    let n : ShownContent = record m { cells = z.cells } in
    let k = same-stage x entry in
    let made : List ShownElement → ℕ → ℕ → ShownContent = λ es i j. record { elements = es; intervals = z.intervals; rows = i; cols = j; cells = z.cells } in
    after-append s lists (cells ++ intervals)
    ∙ after-append m cells intervals
    ∙ ap (λ t. after_changes t intervals) (cells-lead m z.cells before (record { intervals = before.intervals; cells = after.cells }))
    ∙ intervals-lead n z.intervals (record { intervals = before.intervals; cells = after.cells }) (record { intervals = after.intervals; cells = after.cells })
    ∙ ap (λ es. made es m.rows m.cols) (a.elements ∙ ap (λ i. shown_elements i y.doc.text.items) (sym k))
    ∙ ap (λ i. made z.elements i m.cols) (a.rows ∙ ap (λ i. len (seen i) y.doc.rows.items) (sym k))
    ∙ ap (λ i. made z.elements z.rows i) (a.cols ∙ ap (λ i. len (seen i) y.doc.cols.items) (sym k))

-- what is taken isn't refused
pub passed : (x y : NaiveClient) (entry : Entry) → process x entry ≡ Ok y → process_fault x entry ≡ None
passed x y entry e = by (process_fault x entry) e
  where
    by : (o : Option ProcessFault) → elim o as (λ _. Result NaiveClient ProcessFault) [ Some fault ↦ Err fault | None ↦ Ok (after_entry x entry) ] ≡ Ok y → o ≡ None
    by None d = refl
    by (Some fault) d = absurd (cc)

-- what process answers is the client after the entry
pub processed : (x y : NaiveClient) (entry : Entry) → process x entry ≡ Ok y → after_entry x entry ≡ y
processed x y entry e = by (process_fault x entry) e
  where
    by : (o : Option ProcessFault) → elim o as (λ _. Result NaiveClient ProcessFault) [ Some fault ↦ Err fault | None ↦ Ok (after_entry x entry) ] ≡ Ok y → after_entry x entry ≡ y
    by None d = cc
    by (Some fault) d = absurd cc

pub told-leads-on : (x y : NaiveClient) (entry : Entry) → IsReached x → process x entry ≡ Ok y → after_changes (shown_content x) (told_of_entry x entry) ≡ shown_content y
told-leads-on x y entry reached e = told-leads x entry reached ∙ ap shown_content (processed x y entry e)

pub lists-lead : (x y : NaiveClient) (entry : Entry) → IsReached x → process x entry ≡ Ok y → ListsLead x y entry
lists-lead x y entry reached e =
    let a = after-lists x entry reached in
    let z = after_entry x entry in
    let k = same-stage x entry in
    subst (λ w. ListsLead x w entry) (processed x y entry e) (record {
      elements = a.elements ∙ ap (λ i. shown_elements i z.doc.text.items) (sym k);
      rows = a.rows ∙ ap (λ i. len (seen i) z.doc.rows.items) (sym k);
      cols = a.cols ∙ ap (λ i. len (seen i) z.doc.cols.items) (sym k);
    })
