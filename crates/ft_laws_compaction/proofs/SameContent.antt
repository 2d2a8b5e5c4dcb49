-- A compacted client shows what the whole one shows.
use Rattle.std.proofs.Common.{◌≡◌, ℕ, true, List, [], ◌∷◌, refl, ◌∙◌, ap, filter, map, length}
use Rattle.std.specs.List.{list_all}
use Rattle.ft_props.specs.Element.{ListElement, seen}
use Rattle.ft_props.specs.Compaction.{trim_element}
use Rattle.ft_op.specs.Document.{Document}
use Rattle.ft_op.specs.Stages.{shown_intervals}
use Rattle.ft_msg.specs.Blame.{blame, origin_of}
use Rattle.ft_msg.specs.Client.{NaiveClient, floor, stages_of}
use Rattle.ft_msg.specs.Compacted.{IsCompacted}
use Rattle.ft_sumdoc.specs.Meeting.{meets}
use Rattle.ft_laws_compaction.specs.Keeping.{ShowAlike}
use Rattle.ft_msg.specs.Content.{ViewContent, all_cells, content, interval_record, markers_from, property_runs_from, shown_cell_value, text_characters}
use Rattle.ft_laws_agreement.proofs.HeldNames.{filter-held}
use Rattle.ft_laws_agreement.proofs.TrimmedContent.{agreed-rows, on_trimmed, on_view, records-kept, removed-unseen, trimmed-characters, trimmed-cols, trimmed-length, trimmed-markers, trimmed-rows, trimmed-runs}
use Rattle.ft_laws_agreement.proofs.TrimmedDocument.{HeldNames, Trimmed, is_removed, same-intervals}
use Rattle.ft_laws_compaction.proofs.ClientFacts.{ClientFacts, kept-beside, staying}
use Rattle.ft_laws_compaction.proofs.FreeTombstones.{has_held_text}
use Rattle.ft_laws_compaction.proofs.ShownIntervals.{shown-held, shown-kept}

pub content-beside : (low : ℕ) (held : HeldNames) (x : NaiveClient) (kept : Document) → Trimmed low held kept x.doc
    → list_all (has_held_text held.text) (stages_of x) ≡ true → content (record x { doc = kept }) ≡ content x
content-beside low held x kept t names =
    let k = x.last_stage in
    let doc = x.doc in
    let stages = stages_of x in
    let cells : all_cells kept.cells (stages_of x) (filter (seen x.last_stage) kept.cols.items) 0 (filter (seen x.last_stage) kept.rows.items)
    ≡ all_cells x.doc.cells (stages_of x) (filter (seen x.last_stage) x.doc.cols.items) 0 (filter (seen x.last_stage) x.doc.rows.items) =
    on_view low held.cols (λ cols. all_cells kept.cells stages cols 0 (filter (seen k) kept.rows.items))
    (λ cols. trimmed-cols low kept.cells stages cols 0 (filter (seen k) kept.rows.items)) k kept.cols.items doc.cols.items t.cols.items
    ∙ on_view low held.rows (all_cells kept.cells stages (filter (seen k) doc.cols.items) 0)
    (trimmed-rows low kept.cells stages (filter (seen k) doc.cols.items) 0) k kept.rows.items doc.rows.items t.rows.items
    ∙ agreed-rows kept.cells doc.cells stages stages held.cols held.rows (λ row col a b. ap (λ v. shown_cell_value row col v stages) (t.cells row col a b))
    (filter (seen k) doc.cols.items) (filter-held is_removed held.cols (seen k) (removed-unseen k) doc.cols.items t.col_names.all)
    0 (filter (seen k) doc.rows.items) (filter-held is_removed held.rows (seen k) (removed-unseen k) doc.rows.items t.row_names.all) in
    let intervals : map (interval_record x.last_stage kept.text.items) (shown_intervals kept.text.items kept.intervals (stages_of x))
    ≡ map (interval_record x.last_stage x.doc.text.items) (shown_intervals x.doc.text.items x.doc.intervals (stages_of x)) =
    ap (λ is. map (interval_record k kept.text.items) (shown_intervals kept.text.items is stages)) (same-intervals t)
    ∙ ap (map (interval_record k kept.text.items)) (shown-kept t.text.items t.text_names.all stages doc.intervals t.ends names)
    ∙ records-kept t.text.items k (shown_intervals doc.text.items doc.intervals stages) (shown-held t.text.items t.text_names.all stages doc.intervals t.ends) in
    rw (
      on_view low held.text text_characters (trimmed-characters low) k kept.text.items doc.text.items t.text.items,
      on_view low held.text (markers_from 0) (trimmed-markers low 0) k kept.text.items doc.text.items t.text.items,
      on_view low held.text (property_runs_from 0) (trimmed-runs low 0) k kept.text.items doc.text.items t.text.items,
      intervals,
      cells,
      on_view low held.rows length (trimmed-length low) k kept.rows.items doc.rows.items t.rows.items,
      on_view low held.cols length (trimmed-length low) k kept.cols.items doc.cols.items t.cols.items,
    ) refl

pub content-kept : (kept x : NaiveClient) → ClientFacts x → IsCompacted kept x → content kept ≡ content x
content-kept kept x f k = ap content k.rest ∙ content-beside (floor x) (staying x) x kept.doc (kept-beside x kept.doc f k.doc) f.names.text

trimmed-origins : (low : ℕ) (xs : List ListElement) → map (λ e. origin_of e.by) (map (trim_element low) xs) ≡ map (λ e. origin_of e.by) xs
trimmed-origins low [] = refl
trimmed-origins low (e ∷ xs) =
    ap (λ o. origin_of o ∷ map (λ d. origin_of d.by) (map (trim_element low) xs)) (on_trimmed low (λ d. d.by) e (λ h. refl))
    ∙ ap (λ os. origin_of e.by ∷ os) (trimmed-origins low xs)

pub blame-kept : (kept x : NaiveClient) → IsCompacted kept x → blame kept ≡ blame x
blame-kept kept x k =
    ap blame k.rest ∙ on_view (floor x) _ (map (λ e. origin_of e.by)) (trimmed-origins (floor x)) x.last_stage kept.doc.text.items x.doc.text.items k.doc.text.items

pub show-alike : (kept x : NaiveClient) → ClientFacts x → IsCompacted kept x → ShowAlike kept x
show-alike kept x f k =
    let same = content-kept kept x f k in
    record {
      content = same;
      overlap = λ label a b. ap (λ (v : ViewContent). filter (meets label a b) v.intervals) same;
      blame = blame-kept kept x k;
      link = ap (λ (y : NaiveClient). y.link) k.rest;
      queue = ap (λ (y : NaiveClient). y.queue) k.rest;
      pending = ap (λ (y : NaiveClient). y.pending) k.rest;
      last_stage = ap (λ (y : NaiveClient). y.last_stage) k.rest;
      next_client_seq = ap (λ (y : NaiveClient). y.next_client_seq) k.rest;
      conns = ap (λ (y : NaiveClient). y.conns) k.rest;
      number = ap (λ (d : Document). d.number) k.doc.rest;
      minimum = ap (λ (d : Document). d.minimum) k.doc.rest;
      skipped = ap (λ (d : Document). d.skipped) k.doc.rest;
      other = ap (λ (d : Document). d.other) k.doc.rest;
    }
