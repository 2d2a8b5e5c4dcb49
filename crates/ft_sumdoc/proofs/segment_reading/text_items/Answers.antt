use Rattle.std.proofs.Common.{◌+◌, ◌++◌, drop, map, option_map, ap, sym, ◌∙◌}
use Rattle.serde_json.specs.View.{view}
use Rattle.ft_sumdoc.specs.Summary.{given_length}
use Rattle.ft_sumdoc.specs.Items.{segment_of}
use Rattle.ft_sumdoc.specs.Narrow.{chunk_array, narrow_chunks}
use Rattle.ft_sumdoc.proofs.ReadOptions.{parts_behind, at_item, chunk_kept, chunk_refused, chunks_read}
use Rattle.ft_sumdoc.proofs.segment_reading.text_items.Goals as goal

pub loop-value-preserved : goal.loop-value-preserved
loop-value-preserved c =
    let values = c.args.values.now in
    let i = c.loop-value.value-index in
    let rest = narrow_chunks c.args.version (map view (drop (i + 1) values)) in
    let here = at_item values i c.value-item.result c.loop-value-test.true c.value-item.is in
    ap (λ xs. parts_behind (map segment_of xs) c.push.new.self.items rest) c.in_ok-append.ensures.items
    ∙ ap (λ ls. parts_behind (map segment_of (c.loop-value.segs.items ++ c.in-Some.chunk.items)) ls rest) c.in_ok-push.ensures.items
    ∙ chunk_kept c.args.version segment_of view c.loop-value.segs.items c.loop-value.lengths.items c.value-item.result (drop
    (i + 1) values) c.in-Some.chunk.items
    c.in_ok-items_len.field-0
    (ap (option_map (λ found. map segment_of found.items)) (sym c.in-Some.is) ∙ c.in_ok-chunk.ensures ∙ sym (chunk_array c.args.version
    (view c.value-item.result)))
    (c.in_ok-items_len.ensures ∙ ap (λ xs. given_length (map segment_of xs)) c.deref.ensures.value)
    ∙ ap (λ xs. parts_behind (map segment_of c.loop-value.segs.items) c.loop-value.lengths.items (narrow_chunks c.args.version
    (map view xs))) (sym here)
    ∙ c.loop-value.invariant

pub returns-in_default : goal.returns-in_default
returns-in_default c =
    let values = c.args.values.now in
    let i = c.loop-value.value-index in
    let here = at_item values i c.value-item.result c.loop-value-test.true c.value-item.is in
    sym (chunk_refused c.args.version segment_of view (map segment_of c.loop-value.segs.items) c.loop-value.lengths.items
    c.value-item.result (drop (i + 1) values)
    (chunk_array c.args.version (view c.value-item.result) ∙ sym c.in_ok-chunk.ensures ∙ ap (option_map
    (λ found. map segment_of found.items)) c.in_default.is))
    ∙ ap (λ xs. parts_behind (map segment_of c.loop-value.segs.items) c.loop-value.lengths.items (narrow_chunks c.args.version
    (map view xs))) (sym here)
    ∙ c.loop-value.invariant

pub returns : goal.returns
returns c =
    sym (chunks_read c.args.version segment_of view (map segment_of c.loop-value.segs.items) c.loop-value.lengths.items c.args.values.now
    c.loop-value.value-index
    c.loop-value-test.false) ∙ c.loop-value.invariant
