-- What is told from nothing leads to what a client shows.
use Rattle.std.proofs.Common.{◌≡◌, ℕ, ◌+◌, Bool, true, false, cond, nat_eq, List, [], ◌∷◌, ◌++◌, map, refl, sym, ◌∙◌, ap, arith}
use Rattle.std.proofs.lemmas.Bool.Decides.{nat_tests}
use Rattle.ft_op.specs.declared.operations.Target.TheVariants.{Rows, Cols}
use Rattle.ft_sumdoc.specs.declared.summary.CellRec.{CellRec}
use Rattle.ft_sumdoc.specs.declared.summary.IntervalRec.{IntervalRec}
use Rattle.ft_msg.specs.Client.{NaiveClient}
use Rattle.ft_msg.specs.Content.{ViewContent, content}
use Rattle.ft_msg.specs.Reached.{IsReached}
use Rattle.ft_changes.specs.declared.changes.ViewChange.TheVariants.{PutUnits, SetInterval}
use Rattle.ft_changes.specs.Shown.{ShownContent, ShownElement, after_changes, as_view, shown_characters, shown_content, shown_markers, shown_runs}
use Rattle.ft_changes.specs.Told.{told_cells, told_intervals}
use Rattle.ft_changes.proofs.ForeignSteps.{after-append}
use Rattle.ft_changes.proofs.OrderedIntervals.{content-rises, reached-rise}
use Rattle.ft_changes.proofs.Rising.{Rises}
use Rattle.ft_changes.proofs.ShownViews.{shown-is-content}
use Rattle.ft_changes.proofs.ToldLaw.{cells-lead, intervals-lead}
use Rattle.ft_change_lines.specs.FromNothing.{nothing_shown, put_elements, put_units, set_of, style_of, told_from_nothing}
use Rattle.ft_change_lines.proofs.PutElements.{are_text_elements, bare, elements-lead, shows}
use Rattle.ft_change_lines.proofs.StyledRuns.{runs-lead}
use Rattle.ft_change_lines.proofs.TextElements.{shows-text}

rows-lead : (es : List ShownElement) (n : ℕ) → after_changes (shows es) (put_units Rows n) ≡ record (shows es) { rows = n }
rows-lead es n = by (nat_eq n 0) refl
  where
    by : (b : Bool) → nat_eq n 0 ≡ b → after_changes (shows es) (cond b [] (PutUnits Rows 0 n ∷ [])) ≡ record (shows es) { rows = n }
    by true e = let none : 0 ≡ n = grind (arith, nat_tests, e) in ap (λ k. record (shows es) { rows = k }) none
    by false e = let same : 0 + n ≡ n = omega arith in ap (λ k. record (shows es) { rows = k }) same

cols-lead : (s : ShownContent) (n : ℕ) → s.cols ≡ 0 → s.cells ≡ [] → after_changes s (put_units Cols n) ≡ record s { cols = n }
cols-lead s n none empty = by s.cols s.cells none empty (nat_eq n 0) refl
  where
    by : (k : ℕ) (cells : List CellRec) → k ≡ 0 → cells ≡ [] → (b : Bool) → nat_eq n 0 ≡ b
        → after_changes (record s { cols = k; cells = cells }) (cond b [] (PutUnits Cols 0 n ∷ [])) ≡ record s { cols = n; cells = cells }
    by k [] k0 c0 true e = let same : k ≡ n = grind (arith, nat_tests, e, k0) in ap (λ j. record s { cols = j; cells = [] }) same
    by k [] k0 c0 false e = let same : k + n ≡ n = omega (arith, k0) in ap (λ j. record s { cols = j; cells = [] }) same
    by k (c ∷ cells) k0 c0 b e = absurd (cc)

cells-told : (cells : List CellRec) → told_cells [] cells ≡ map set_of cells
cells-told [] = refl
cells-told (c ∷ cells) = ap (λ cs. set_of c ∷ cs) (cells-told cells)

intervals-told : (is : List IntervalRec) → told_intervals [] is ≡ map SetInterval is
intervals-told [] = refl
intervals-told (i ∷ is) = ap (λ cs. SetInterval i ∷ cs) (intervals-told is)

-- whatever is shown, if its elements are those of a text, and its intervals and cells stand in order
shown-lead : (s : ShownContent) → are_text_elements s.elements ≡ true → Rises s → after_changes nothing_shown (told_from_nothing (as_view s)) ≡ s
shown-lead s text rise =
    let es = s.elements in
    let puts = put_elements 0 (shown_characters es) (shown_markers 0 es) in
    let styles = map style_of (shown_runs 0 es) in
    let rows = put_units Rows s.rows in
    let cols = put_units Cols s.cols in
    let cells = map set_of s.cells in
    let intervals = map SetInterval s.intervals in
    let a : ShownContent = record (shows es) { rows = s.rows } in
    let b : ShownContent = record a { cols = s.cols } in
    let c : ShownContent = record b { cells = s.cells } in
    after-append nothing_shown puts (styles ++ (rows ++ (cols ++ (cells ++ intervals))))
    ∙ ap (λ t. after_changes t (styles ++ (rows ++ (cols ++ (cells ++ intervals))))) (elements-lead es text)
    ∙ after-append (shows (bare es)) styles (rows ++ (cols ++ (cells ++ intervals)))
    ∙ ap (λ t. after_changes t (rows ++ (cols ++ (cells ++ intervals)))) (runs-lead es)
    ∙ after-append (shows es) rows (cols ++ (cells ++ intervals))
    ∙ ap (λ t. after_changes t (cols ++ (cells ++ intervals))) (rows-lead es s.rows)
    ∙ after-append a cols (cells ++ intervals)
    ∙ ap (λ t. after_changes t (cells ++ intervals)) (cols-lead a s.cols refl refl)
    ∙ after-append b cells intervals
    ∙ ap (λ t. after_changes t intervals) (ap (after_changes b) (sym (cells-told s.cells))
    ∙ cells-lead b s.cells (record { intervals = tt; cells = tt }) (record { intervals = tt; cells = rise.cells }))
    ∙ ap (after_changes c) (sym (intervals-told s.intervals))
    ∙ intervals-lead c s.intervals (record { intervals = tt; cells = rise.cells }) (record { intervals = rise.intervals; cells = rise.cells })

pub from-nothing-leads : (x : NaiveClient) → IsReached x → after_changes nothing_shown (told_from_nothing (content x)) ≡ shown_content x
from-nothing-leads x r =
    ap (λ (v : ViewContent). after_changes nothing_shown (told_from_nothing v)) (sym (shown-is-content x))
    ∙ shown-lead (shown_content x) (shows-text x r) (content-rises x (reached-rise x r))
