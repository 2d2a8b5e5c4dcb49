-- What an editor keeps is what a view has.
use Rattle.std.proofs.Common.{◌≡◌, ℕ, ◌+◌, Bool, true, false, cond, List, [], ◌∷◌, ◌++◌, refl, ◌∙◌, ap}
use Rattle.ft_base.specs.Scan.{len}
use Rattle.ft_props.specs.Element.{ListElement, seen}
use Rattle.ft_laws_agreement.proofs.ListSteps.{len-view}
use Rattle.ft_msg.specs.Client.{NaiveClient}
use Rattle.ft_msg.specs.Content.{ViewContent, content, content_characters, content_markers, extended_property_runs, markers_from, property_runs_from, stage_view, text_characters}
use Rattle.ft_changes.specs.Shown.{as_view, shown_characters, shown_content, shown_element, shown_elements, shown_markers, shown_properties, shown_runs}

characters-same : (k : ℕ) (xs : List ListElement) → shown_characters (shown_elements k xs) ≡ text_characters (stage_view k xs)
characters-same k [] = refl
characters-same k (e ∷ xs) = by (seen k e) (characters-same k xs)
  where
    by : (b : Bool) → shown_characters (shown_elements k xs) ≡ text_characters (stage_view k xs)
        → shown_characters (cond b (shown_element e ∷ shown_elements k xs) (shown_elements k xs)) ≡ text_characters (cond b (e ∷ stage_view k xs) (stage_view k xs))
    by true rest = ap (λ cs. content_characters e.content ++ cs) rest
    by false rest = rest

markers-same : (k i : ℕ) (xs : List ListElement) → shown_markers i (shown_elements k xs) ≡ markers_from i (stage_view k xs)
markers-same k i [] = refl
markers-same k i (e ∷ xs) = by (seen k e) (λ j. markers-same k j xs)
  where
    by : (b : Bool) → ((j : ℕ) → shown_markers j (shown_elements k xs) ≡ markers_from j (stage_view k xs))
        → shown_markers i (cond b (shown_element e ∷ shown_elements k xs) (shown_elements k xs)) ≡ markers_from i (cond b (e ∷ stage_view k xs) (stage_view k xs))
    by true rest = ap (λ ms. content_markers i e.content ++ ms) (rest (i + 1))
    by false rest = rest i

runs-same : (k i : ℕ) (xs : List ListElement) → shown_runs i (shown_elements k xs) ≡ property_runs_from i (stage_view k xs)
runs-same k i [] = refl
runs-same k i (e ∷ xs) = by (seen k e) (λ j. runs-same k j xs)
  where
    by : (b : Bool) → ((j : ℕ) → shown_runs j (shown_elements k xs) ≡ property_runs_from j (stage_view k xs))
        → shown_runs i (cond b (shown_element e ∷ shown_elements k xs) (shown_elements k xs)) ≡ property_runs_from i (cond b (e ∷ stage_view k xs) (stage_view k xs))
    by true rest = ap (λ rs. extended_property_runs i (shown_properties e) rs) (rest (i + 1))
    by false rest = rest i

pub shown-is-content : (x : NaiveClient) → as_view (shown_content x) ≡ content x
shown-is-content x =
    let k = x.last_stage in
    let xs = x.doc.text.items in
    let rows = x.doc.rows.items in
    let cols = x.doc.cols.items in
    let c = content x in
    let made : List ℕ → List _ → List _ → ℕ → ℕ → ViewContent =
    λ text markers runs i j. record { text = text; markers = markers; runs = runs; intervals = c.intervals; rows = i; cols = j; cells = c.cells } in
    ap (λ a. made a (shown_markers 0 (shown_elements k xs)) (shown_runs 0 (shown_elements k xs)) (len (seen k) rows) (len (seen k) cols)) (characters-same k xs)
    ∙ ap (λ a. made c.text a (shown_runs 0 (shown_elements k xs)) (len (seen k) rows) (len (seen k) cols)) (markers-same k 0 xs)
    ∙ ap (λ a. made c.text c.markers a (len (seen k) rows) (len (seen k) cols)) (runs-same k 0 xs)
    ∙ ap (λ a. made c.text c.markers c.runs a (len (seen k) cols)) (len-view (seen k) rows)
    ∙ ap (λ a. made c.text c.markers c.runs c.rows a) (len-view (seen k) cols)
