-- The segments of a text without pending stages are those of the document that it holds.
use Rattle.std.proofs.Common.{◌≡◌, ℕ, ◌+◌, ◌%◌, ◌==◌, Bool, true, false, cond, not, ◌&&◌, ◌||◌, List, [], ◌∷◌, ◌++◌, Option, Some, None, refl, sym, ◌∙◌, ap, map, filter, append-nil}
use Rattle.std.specs.List.{list_all, list_any}
use Rattle.std.proofs.Math.Path.{ap₂}
use Rattle.ft_base.specs.declared.stamps.Stamp.{Stamp}
use Rattle.ft_base.specs.declared.stamps.Stamp.TheVariants.{Acked, Local}
use Rattle.ft_base.specs.Scan.{retain_map}
use Rattle.ft_base.specs.Visibility.{has_occurred_at_stage, is_acked}
use Rattle.ft_base.proofs.Booleans.{both}
use Rattle.ft_tree_leaves.specs.Elements.{TreeElement}
use Rattle.ft_props.specs.Compaction.{has_collectable_removal, is_collectable, is_insertion_at_or_below, trim_element, with_universal_insertion}
use Rattle.ft_props.specs.Element.{ElementContent, ListElement, NamelessElement, is_sequenced, removal_stamp, seen}
use Rattle.ft_sumdoc.specs.declared.summary.SegRec.{SegRec}
use Rattle.ft_sumdoc.specs.Chunks.{chunk_length}
use Rattle.ft_sumdoc.specs.Stamps.{universal}
use Rattle.ft_laws_agreement.specs.Reconnecting.{has_insertion_of, has_marks_of, has_removal_of, inserts_text, removes_text}
use Rattle.ft_marks.specs.Marks.{author_mark, insertion_mark, mark_of}
use Rattle.ft_msg.specs.SummaryOf.{element_body, extended_segments, segment_of, segments_from}
use Rattle.ft_laws_names.proofs.Beside.{ends, next}
use Rattle.ft_named.proofs.Bares.{AreElements, IsElement}
use Rattle.ft_text.specs.Texts.{TextElements}
use Rattle.ft_text.specs.Saved.{element_segment, joined_from, kept_segments}
use Rattle.ft_string.specs.Bare.{text_content}

-- whether nothing is pending on the element
abbrev pub is_settled : ListElement → Bool
is_settled e = has_marks_of inserts_text removes_text [] e

pub record IsSettled (e : ListElement) : Type 0 where
  pub sequenced : is_sequenced e ≡ true
  pub unmarked : e.removal_stage ≡ None

settled-insertion : (t : Stamp) → has_insertion_of inserts_text [] t ≡ true → is_acked t ≡ true
settled-insertion (Acked s c) h = refl
settled-insertion (Local k) h = (cc)

settled-removal : (o : Option ℕ) → has_removal_of removes_text [] o ≡ true → o ≡ None
settled-removal None h = refl
settled-removal (Some k) h = (cc)

pub settled : (e : ListElement) → is_settled e ≡ true → IsSettled e
settled e h =
    let p = both (has_insertion_of inserts_text [] e.ins && has_removal_of removes_text [] e.removal_stage) (list_all is_acked e.dels) h in
    let q = both (has_insertion_of inserts_text [] e.ins) (has_removal_of removes_text [] e.removal_stage) p.0 in
    record { sequenced = settled-insertion e.ins q.0; unmarked = settled-removal e.removal_stage q.1 }

module _ (min : ℕ) where
  -- the segment of an element without its name
  abbrev nameless_segment : NamelessElement → SegRec
  nameless_segment n =
      record { body = element_body n.content; props = n.props; by = author_mark n.by; ins = insertion_mark min n.stamps.ins; dels = map mark_of n.stamps.dels }

  trimmed-segment : (e : ListElement) (b : Bool) → segment_of (cond b (with_universal_insertion e) e)
      ≡ record { body = element_body e.content; props = e.props; by = author_mark e.by; ins = cond b universal (mark_of e.ins); dels = map mark_of e.dels }
  trimmed-segment e true = refl
  trimmed-segment e false = refl

  no-removal : (e : ListElement) → IsSettled e → e.dels ++ removal_stamp e.removal_stage ≡ e.dels
  no-removal e s = ap (λ o. e.dels ++ removal_stamp o) s.unmarked ∙ append-nil e.dels

  segment-alike : (x : TreeElement ElementContent) (e : ListElement) → IsElement text_content x e → IsSettled e
      → element_segment min x ≡ segment_of (trim_element min e)
  segment-alike x e q s =
      ap nameless_segment q
      ∙ ap (λ dels. record { body = element_body e.content; props = e.props; by = author_mark e.by; ins = insertion_mark min e.ins; dels = map mark_of dels }) (no-removal e s)
      ∙ sym (trimmed-segment e (is_insertion_at_or_below min e.ins))

  stays-alike : (x : TreeElement ElementContent) (e : ListElement) → IsElement text_content x e → IsSettled e
      → not (has_collectable_removal min x.stamps.dels) ≡ not (is_collectable min e)
  stays-alike x e q s =
      ap (λ (n : NamelessElement). not (has_collectable_removal min n.stamps.dels)) q
      ∙ ap (λ dels. not (has_collectable_removal min dels)) (no-removal e s)
      ∙ ap (λ b. not (b && has_collectable_removal min e.dels)) (sym s.sequenced)

  abbrev pub trimmed_items : List ListElement → List ListElement
  trimmed_items es = retain_map (λ e. not (is_collectable min e)) (trim_element min) es

  pub segments-alike : {xs : TextElements} {es : List ListElement} → AreElements text_content xs es → list_all is_settled es ≡ true
      → kept_segments min xs ≡ map segment_of (trimmed_items es)
  segments-alike ends h = refl
  segments-alike (next {x = x} {y = e} {xs = xs} {ys = es} q qs) h =
      let p = both (is_settled e) (list_all is_settled es) h in
      let s = settled e p.0 in
      step (not (has_collectable_removal min x.stamps.dels)) (not (is_collectable min e)) (stays-alike x e q s) (segment-alike x e q s) (segments-alike qs p.1)
    where
      step : (a b : Bool) → a ≡ b → element_segment min x ≡ segment_of (trim_element min e)
          → kept_segments min xs ≡ map segment_of (trimmed_items es)
          → map (element_segment min) (cond a (x ∷ filter (λ y. not (has_collectable_removal min y.stamps.dels)) xs) (filter (λ y. not (has_collectable_removal min y.stamps.dels)) xs))
          ≡ map segment_of (cond b (trim_element min e ∷ trimmed_items es) (trimmed_items es))
      step true true f g r = ap₂ (λ seg segs. seg ∷ segs) g r
      step false false f g r = r
      step true false f g r = (cc)
      step false true f g r = (cc)

pub joined-segments : (i : ℕ) (es : List ListElement) → joined_from i (map segment_of es) ≡ segments_from i es
joined-segments i [] = refl
joined-segments i (e ∷ es) = ap (extended_segments ((i + 1) % chunk_length == 0) (segment_of e)) (joined-segments (i + 1) es)

pub text-saved : (min : ℕ) (xs : TextElements) (es : List ListElement) → AreElements text_content xs es → list_all is_settled es ≡ true
    → joined_from 0 (kept_segments min xs) ≡ segments_from 0 (retain_map (λ e. not (is_collectable min e)) (trim_element min) es)
text-saved min xs es b h =
    ap (joined_from 0) (segments-alike min b h) ∙ joined-segments 0 (retain_map (λ e. not (is_collectable min e)) (trim_element min) es)

-- ---- views

occurred-same : (k : ℕ) (t : Stamp) → is_acked t ≡ true → has_occurred_at_stage k t ≡ has_occurred_at_stage 0 t
occurred-same k (Acked s c) h = refl
occurred-same k (Local j) h = (cc)

none-same : (k : ℕ) (ts : List Stamp) → list_all is_acked ts ≡ true → list_any (has_occurred_at_stage k) ts ≡ list_any (has_occurred_at_stage 0) ts
none-same k [] h = refl
none-same k (t ∷ ts) h =
    let p = both (is_acked t) (list_all is_acked ts) h in ap₂ (λ b c. b || c) (occurred-same k t p.0) (none-same k ts p.1)

-- where nothing is pending on an element all stages see the same of it
pub seen-same : (k : ℕ) (e : ListElement) → is_settled e ≡ true → seen k e ≡ seen 0 e
seen-same k e h =
    let s = settled e h in
    let dels = (both (has_insertion_of inserts_text [] e.ins && has_removal_of removes_text [] e.removal_stage) (list_all is_acked e.dels) h).1 in
    ap₂ (λ b c. b && not c) (occurred-same k e.ins s.sequenced)
    (ap (list_any (has_occurred_at_stage k)) (no-removal 0 e s) ∙ none-same k e.dels dels ∙ sym (ap (list_any (has_occurred_at_stage 0)) (no-removal 0 e s)))
