-- What is shown doesn't depend on the names of elements.
use Rattle.std.proofs.Common.{◌≡◌, ℕ, cond, List, [], ◌∷◌, refl, sym, ◌∙◌, ap, map}
use Rattle.ft_base.specs.Scan.{len, one_more_if}
use Rattle.ft_base.specs.Visibility.{seen_at}
use Rattle.ft_props.specs.Element.{ListElement, NamelessElement, nameless, seen}
use Rattle.ft_props.specs.Properties.{shown_props}
use Rattle.ft_sumdoc.specs.declared.summary.CellRec.{CellRec}
use Rattle.ft_sumdoc.specs.declared.summary.IntervalRec.{IntervalRec}
use Rattle.ft_msg.specs.Client.{NaiveClient}
use Rattle.ft_msg.specs.Content.{ViewContent, content}
use Rattle.ft_msg.specs.Indexed.{IndexedClient, indexed_client}
use Rattle.ft_changes.specs.Shown.{ShownContent, ShownElement, shown_content, shown_elements}

-- what is shown of elements without names
abbrev nameless_elements : ℕ → List NamelessElement → List ShownElement
nameless_elements k [] = []
nameless_elements k (e ∷ xs) = cond (seen_at e.stamps k) (record { content = e.content; props = shown_props e.props e.pending } ∷ nameless_elements k xs) (nameless_elements k xs)

abbrev nameless_count : ℕ → List NamelessElement → ℕ
nameless_count k [] = 0
nameless_count k (e ∷ xs) = one_more_if (seen_at e.stamps k) (nameless_count k xs)

elements-nameless : (k : ℕ) (xs : List ListElement) → shown_elements k xs ≡ nameless_elements k (map nameless xs)
elements-nameless k [] = refl
elements-nameless k (e ∷ xs) =
    ap (λ es. cond (seen k e) (record { content = e.content; props = shown_props e.props e.pending } ∷ es) es) (elements-nameless k xs)

count-nameless : (k : ℕ) (xs : List ListElement) → len (seen k) xs ≡ nameless_count k (map nameless xs)
count-nameless k [] = refl
count-nameless k (e ∷ xs) = ap (one_more_if (seen k e)) (count-nameless k xs)

pub nameless-is-shown : (p q : NaiveClient) → indexed_client p ≡ indexed_client q → content p ≡ content q → shown_content p ≡ shown_content q
nameless-is-shown p q i e =
    let last : p.last_stage ≡ q.last_stage = ap (λ (c : IndexedClient). c.last_stage) i in
    let text : map nameless p.doc.text.items ≡ map nameless q.doc.text.items = ap (λ (c : IndexedClient). c.doc.text) i in
    let rows : map nameless p.doc.rows.items ≡ map nameless q.doc.rows.items = ap (λ (c : IndexedClient). c.doc.rows) i in
    let cols : map nameless p.doc.cols.items ≡ map nameless q.doc.cols.items = ap (λ (c : IndexedClient). c.doc.cols) i in
    let made : List ShownElement → List IntervalRec → ℕ → ℕ → List CellRec → ShownContent =
    λ es i a b c. record { elements = es; intervals = i; rows = a; cols = b; cells = c } in
    let k = q.last_stage in
    let v = content p in
    let elements : shown_elements k p.doc.text.items ≡ shown_elements k q.doc.text.items =
    elements-nameless k p.doc.text.items ∙ ap (nameless_elements k) text ∙ sym (elements-nameless k q.doc.text.items) in
    let row_count : len (seen k) p.doc.rows.items ≡ len (seen k) q.doc.rows.items =
    count-nameless k p.doc.rows.items ∙ ap (nameless_count k) rows ∙ sym (count-nameless k q.doc.rows.items) in
    let col_count : len (seen k) p.doc.cols.items ≡ len (seen k) q.doc.cols.items =
    count-nameless k p.doc.cols.items ∙ ap (nameless_count k) cols ∙ sym (count-nameless k q.doc.cols.items) in
    ap (λ j. made (shown_elements j p.doc.text.items) v.intervals (len (seen j) p.doc.rows.items) (len (seen j) p.doc.cols.items) v.cells) last
    ∙ ap (λ es. made es v.intervals (len (seen k) p.doc.rows.items) (len (seen k) p.doc.cols.items) v.cells) elements
    ∙ ap (λ a. made (shown_elements k q.doc.text.items) v.intervals a (len (seen k) p.doc.cols.items) v.cells) row_count
    ∙ ap (λ b. made (shown_elements k q.doc.text.items) v.intervals (len (seen k) q.doc.rows.items) b v.cells) col_count
    ∙ ap (λ (u : ViewContent). made (shown_elements k q.doc.text.items) u.intervals (len (seen k) q.doc.rows.items) (len (seen k) q.doc.cols.items) u.cells) e
