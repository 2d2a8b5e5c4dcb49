-- The segments of a text have as many elements as its document, as a summary keeps it.
use Rattle.std.proofs.Common.{◌≡◌, ℕ, ◌+◌, ◌%◌, ◌==◌, Bool, true, false, cond, not, ◌&&◌, List, [], ◌∷◌, refl, ◌∙◌, ap, arith, filter, length, map}
use Rattle.std.specs.List.{list_all}
use Rattle.std.proofs.lemmas.List.{length-append, length-map}
use Rattle.ft_base.proofs.Booleans.{all_four}
use Rattle.ft_props.specs.Compaction.{has_collectable_removal}
use Rattle.ft_props.specs.Element.{Character, ElementContent, GridUnit, ListElement, MarkerOf}
use Rattle.ft_sumdoc.specs.declared.summary.Seg.{Seg}
use Rattle.ft_sumdoc.specs.declared.summary.Seg.TheVariants.{Chars, Marker}
use Rattle.ft_sumdoc.specs.declared.summary.SegRec.{SegRec}
use Rattle.ft_sumdoc.specs.Chunks.{chunk_length}
use Rattle.ft_sumdoc.specs.Segments.{body_length, text_length}
use Rattle.ft_sumdoc.specs.Stamps.{same_mark}
use Rattle.ft_sumdoc.specs.WellFormed.{are_alike, are_characters, same_props, same_stamps}
use Rattle.ft_msg.specs.SummaryOf.{element_body, extended_segments, joined_bodies, segment_of}
use Rattle.ft_laws_agreement.specs.Sequencing.{Each}
use Rattle.ft_tree_leaves.specs.Elements.{TreeElement}
use Rattle.ft_tree_leaves.specs.LeafLists.{elements}
use Rattle.ft_tree_leaves.specs.TextLeaves.{text_units}
use Rattle.ft_tree_leaves.specs.declared.text.TextContent.{TextContent}
use Rattle.ft_named.proofs.Bares.{AreElements}
use Rattle.ft_text.specs.Texts.{TextElements, TextLeaves}
use Rattle.ft_text.specs.Saved.{element_segment, joined_from, kept_segments, segments_in}
use Rattle.ft_string.specs.Bare.{text_content}
use Rattle.ft_string.proofs.AckedStage.{IsOfText, IsTextUnit, units-of}
use Rattle.ft_string.proofs.SavedTexts.{is_settled, segments-alike, trimmed_items}

-- ---- joined segments

alike-length : (s next : SegRec) → are_alike s next ≡ true → body_length (joined_bodies s.body next.body) ≡ body_length s.body + body_length next.body
alike-length s next h =
    by s.body next.body
    (all_four (are_characters s.body next.body) (same_props s.props next.props) (same_mark s.by next.by) (same_stamps s.ins s.dels next.ins next.dels) h).0
  where
    by : (a b : Seg) → are_characters a b ≡ true → body_length (joined_bodies a b) ≡ body_length a + body_length b
    by (Chars front) (Chars text) g = length-append front text
    by (Chars front) (Marker r) g = (cc)
    by (Marker r) b g = (cc)

extended-length : (ends : Bool) (s : SegRec) (segs : List SegRec) → text_length (extended_segments ends s segs) ≡ body_length s.body + text_length segs
extended-length ends s [] = refl
extended-length ends s (next ∷ segs) = by (not ends) (are_alike s next) refl
  where
    by : (t a : Bool) → are_alike s next ≡ a
        → text_length (cond (t && a) (record next { body = joined_bodies s.body next.body } ∷ segs) (s ∷ next ∷ segs)) ≡ body_length s.body
        + text_length (next ∷ segs)
    by true true e =
        let joined = alike-length s next e in
        omega (arith, joined)
    by true false e = refl
    by false a e = refl

joined-length : (i : ℕ) (segs : List SegRec) → text_length (joined_from i segs) ≡ text_length segs
joined-length i [] = refl
joined-length i (seg ∷ segs) =
    extended-length ((i + 1) % chunk_length == 0) seg (joined_from (i + 1) segs) ∙ ap (λ n. body_length seg.body + n) (joined-length (i + 1) segs)

-- ---- segments of one element

one-unit : (u : ElementContent) → IsTextUnit u → body_length (element_body u) ≡ 1
one-unit (Character c) h = refl
one-unit (MarkerOf r) h = refl
one-unit GridUnit h = absurd h

module _ (min : ℕ) where
  kept-length : (xs : TextElements) → Each IsOfText xs → text_length (kept_segments min xs) ≡ length (kept_segments min xs)
  kept-length [] h = refl
  kept-length (x ∷ xs) h =
      step (not (has_collectable_removal min x.stamps.dels)) (filter (λ (e : TreeElement ElementContent). not (has_collectable_removal min e.stamps.dels)) xs)
      (one-unit x.unit h.0) (kept-length xs h.1)
    where
      step : (b : Bool) (behind : TextElements) → body_length (element_body x.unit) ≡ 1
          → text_length (map (element_segment min) behind) ≡ length (map (element_segment min) behind)
          → text_length (map (element_segment min) (cond b (x ∷ behind) behind)) ≡ length (map (element_segment min) (cond b (x ∷ behind) behind))
      step true behind one ih = omega (arith, one, ih)
      step false behind one ih = ih

  -- ---- the whole

  pub segments-length : (xs : TextLeaves) (es : List ListElement) → AreElements text_content (elements text_units (λ (x : TextContent). x.by) xs) es → list_all is_settled es ≡ true
      → text_length (joined_from 0 (segments_in min xs)) ≡ length (trimmed_items min es)
  segments-length xs es b h =
      joined-length 0 (segments_in min xs)
      ∙ kept-length (elements text_units (λ (x : TextContent). x.by) xs) (units-of xs)
      ∙ ap length (segments-alike min b h)
      ∙ length-map (trimmed_items min es) segment_of
