-- A tree with the elements and the intervals of a valid summary holds the text's part of its document.
use Rattle.std.proofs.Common.{◌≡◌, IsTrue, ℕ, zero, suc, ◌+◌, ◌≤◌, Bool, true, false, cond, not, ◌&&◌, nat_le, nat_lt, ℤ, pos, negsuc, List, [], ◌∷◌, ◌++◌, Option, Some, None, refl, sym, ◌∙◌, ap, subst, arith, append-nil, length, map, option_map}
use Rattle.std.specs.List.{AllByRecursion, list_all, list_any}
use Rattle.std.proofs.lemmas.Bool.Decides.{nat_tests}
use Rattle.std.proofs.lemmas.List.{length-map}
use Rattle.ft_base.proofs.Booleans.{all_four, both}
use Rattle.ft_base.specs.declared.elements.Perspective.{Perspective}
use Rattle.ft_base.specs.declared.stamps.Stamp.{Stamp}
use Rattle.ft_base.specs.declared.stamps.Stamp.TheVariants.{Acked, Local}
use Rattle.ft_base.specs.Scan.{at, len, one_more_if}
use Rattle.ft_base.specs.Visibility.{has_occurred, is_acked}
use Rattle.ft_block.specs.declared.leaves.LenView.TheVariants.{At}
use Rattle.ft_interval_store.specs.State.{CollectionsState, text_elements}
use Rattle.ft_laws_agreement.specs.Sequencing.{Each}
use Rattle.ft_laws_agreement.specs.Starts.{has_no_items, is_nothing, is_sequenced_up_to, is_settled}
use Rattle.ft_laws_agreement.proofs.SummaryStarts.{ends-on, summary-sound}
use Rattle.ft_laws_agreement.proofs.SlidEnds.{Once}
use Rattle.ft_tree_leaves.specs.declared.text.TextContent.{TextContent}
use Rattle.ft_tree_leaves.specs.Elements.{elements_with, seen_in}
use Rattle.ft_tree_leaves.specs.Elements.{is_unremoved as tree_unremoved}
use Rattle.ft_tree_leaves.specs.References.{reference_at}
use Rattle.ft_tree_leaves.proofs.Runs.{len-append}
use Rattle.ft_msg.specs.Indexed.{indexed_interval, place_in_list}
use Rattle.ft_marks.specs.Marks.{stamp_of}
use Rattle.ft_msg.specs.Summary.{doc_of, interval_of, segment_bodies, segment_items}
use Rattle.ft_laws_names.proofs.Beside.{beside-len}
use Rattle.ft_laws_names.proofs.NamedStarts.{start-named}
use Rattle.ft_named.specs.Bare.{bare}
use Rattle.ft_named.proofs.Bares.{AreElements, from-bare, seen-alike, unremoved-alike}
use Rattle.ft_named.proofs.Lists.{map-append}
use Rattle.ft_op.specs.Document.{given_ends_fit}
use Rattle.ft_op.specs.Intervals.{element_at_end, slide_ends}
use Rattle.ft_op.specs.WellFormed.{is_count}
use Rattle.ft_props.specs.Element.{ElementContent, ListElement, NamelessElement, id, is_pending, is_unremoved, nameless, new_elements, removal_stamp, seen_by}
use Rattle.ft_props.specs.Properties.{PropertyList}
use Rattle.ft_props.specs.Slide.{slide}
use Rattle.ft_sumdoc.specs.declared.summary.IntervalRec.{IntervalRec}
use Rattle.ft_sumdoc.specs.declared.summary.Mark.{Mark}
use Rattle.ft_sumdoc.specs.declared.summary.Seg.{Seg}
use Rattle.ft_sumdoc.specs.declared.summary.Seg.TheVariants.{Chars, Marker}
use Rattle.ft_sumdoc.specs.declared.summary.SegRec.{SegRec}
use Rattle.ft_sumdoc.specs.declared.summary.SumDoc.{SumDoc}
use Rattle.ft_sumdoc.specs.Intervals.{are_shown_ends}
use Rattle.ft_sumdoc.specs.Segments.{body_length, unless_removed, unremoved_text}
use Rattle.ft_sumdoc.specs.Valid.{IsInterval, IsValidSummary}
use Rattle.ft_tree.specs.State.{TreeState}
use Rattle.ft_text.specs.Texts.{TextElements}
use Rattle.ft_string.specs.Bare.{text_content}
use Rattle.ft_string.specs.Holds.{HoldsText}
use Rattle.ft_string.specs.Loads.{AllFitOn, Appends, HasIntervals, everybody, given_ends, interval_on, segment_elements, summary_elements}
use Rattle.ft_string.specs.Parts.{state_of}
use Rattle.ft_string.specs.State.{interval_stage, interval_with_places}
use Rattle.ft_string.proofs.Intervals.{ends-on-stay, finish-alike, start-alike}

-- ---- elements

-- an element without a name
abbrev bare_with : Stamp → List Stamp → Option Stamp → PropertyList → ElementContent → NamelessElement
bare_with ins dels by props u = record { content = u; stamps = record { ins = ins; dels = dels }; by = by; props = props; pending = [] }

new-alike : (n : ℕ) (ins : Stamp) (dels : List Stamp) (by : Option Stamp) (props : PropertyList) (us : List ElementContent)
    → map (bare text_content) (elements_with (record { ins = ins; dels = dels }) by (record { acked = props; pending = [] }) us) ≡ map nameless (new_elements n ins dels by props us)
new-alike n ins dels by props [] = refl
new-alike n ins dels by props (u ∷ us) =
    ap (λ (ds : List Stamp). bare_with ins ds by props u ∷ map (bare text_content) (elements_with (record { ins = ins; dels = dels }) by (record { acked = props; pending = [] }) us))
    (sym (append-nil dels))
    ∙ ap (λ (es : List NamelessElement). bare_with ins (dels ++ []) by props u ∷ es) (new-alike (n + 1) ins dels by props us)

pub elements-alike : (n : ℕ) (segs : List SegRec) → map (bare text_content) (summary_elements segs) ≡ map nameless (segment_items n segs)
elements-alike n [] = refl
elements-alike n (s ∷ segs) =
    let us = segment_bodies s.body in
    let new = new_elements n (stamp_of s.ins) (map stamp_of s.dels) (Some (stamp_of s.by)) s.props us in
    map-append (bare text_content) (segment_elements s us) (summary_elements segs)
    ∙ ap (λ (es : List NamelessElement). es ++ map (bare text_content) (summary_elements segs)) (new-alike n (stamp_of s.ins) (map stamp_of s.dels) (Some (stamp_of s.by)) s.props us)
    ∙ ap (λ (es : List NamelessElement). map nameless new ++ es) (elements-alike (n + length us) segs)
    ∙ sym (map-append nameless new (segment_items (n + length us) segs))

same-count : (segs : List SegRec) → length (summary_elements segs) ≡ length (segment_items 0 segs)
same-count segs =
    sym (length-map (summary_elements segs) (bare text_content)) ∙ ap (λ (es : List NamelessElement). length es) (elements-alike 0 segs)
    ∙ length-map (segment_items 0 segs) nameless

-- ---- who sees them

module _ (at' : Perspective) (n : ℕ) (known : n ≤ at'.r) where
  occurred-acked : (t : Stamp) → is_sequenced_up_to n t ≡ true → has_occurred at'.r at'.c t ≡ is_acked t
  occurred-acked (Acked s c) h = rw (low s h) refl
    where
      low : (i : ℕ) → nat_le i n ≡ true → nat_le i at'.r ≡ true
      low i g = let k = known in grind (arith, nat_tests, g, k)
  occurred-acked (Local k) h = (cc)

  any-acked : (ts : List Stamp) → list_all (is_sequenced_up_to n) ts ≡ true → list_any (has_occurred at'.r at'.c) ts ≡ list_any is_acked ts
  any-acked [] h = refl
  any-acked (t ∷ ts) h =
      let p = both (is_sequenced_up_to n t) (list_all (is_sequenced_up_to n) ts) h in rw (occurred-acked t p.0, any-acked ts p.1) refl

  any-removal : (ts : List Stamp) (o : Option ℕ) → list_all (is_sequenced_up_to n) ts ≡ true → is_nothing o ≡ true
      → list_any (has_occurred at'.r at'.c) (ts ++ removal_stamp o) ≡ list_any is_acked (ts ++ removal_stamp o)
  any-removal ts None h g = rw (append-nil ts) (any-acked ts h)
  any-removal ts (Some k) h g = (cc)

  seen-unremoved : (e : ListElement) → is_settled n e ≡ true → seen_by at'.r at'.c e ≡ is_unremoved e
  seen-unremoved e h =
      let q = all_four (is_sequenced_up_to n e.ins) (list_all (is_sequenced_up_to n) e.dels) (is_nothing e.removal_stage) (has_no_items e.pending) h in
      ap (λ b. b && not (list_any (has_occurred at'.r at'.c) (e.dels ++ removal_stamp e.removal_stage))) (occurred-acked e.ins q.0)
      ∙ ap (λ b. is_acked e.ins && not b) (any-removal e.dels e.removal_stage q.1 q.2)

  all-seen : (es : List ListElement) → list_all (is_settled n) es ≡ true → Each (λ e. seen_by at'.r at'.c e ≡ is_unremoved e) es
  all-seen [] h = tt
  all-seen (e ∷ es) h = let p = both (is_settled n e) (list_all (is_settled n) es) h in (seen-unremoved e p.0, all-seen es p.1)

-- scans with tests that agree on each element
len-same : (f g : ListElement → Bool) (es : List ListElement) → Each (λ e. f e ≡ g e) es → len f es ≡ len g es
len-same f g [] h = refl
len-same f g (e ∷ es) h = ap (λ b. one_more_if b (len f es)) h.0 ∙ ap (one_more_if (g e)) (len-same f g es h.1)

at-same : (f g : ListElement → Bool) (es : List ListElement) → Each (λ e. f e ≡ g e) es → (p : ℕ) → at f p es ≡ at g p es
at-same f g [] h p = refl
at-same f g (e ∷ es) h zero = ap (λ b. cond b (Some e) (at f 0 es)) h.0 ∙ ap (λ (o : Option ListElement). cond (g e) (Some e) o) (at-same f g es h.1 0)
at-same f g (e ∷ es) h (suc p) = ap (λ b. at f (cond b p (suc p)) es) h.0 ∙ at-same f g es h.1 (cond (g e) p (suc p))

end-same : (f g : ListElement → Bool) (es : List ListElement) → Each (λ e. f e ≡ g e) es → (z : ℤ) → element_at_end f es z ≡ element_at_end g es z
end-same f g es h (pos p) = ap (option_map id) (at-same f g es h p)
end-same f g es h (negsuc p) = refl

none-pending : (n : ℕ) (es : List ListElement) → list_all (is_settled n) es ≡ true → len is_pending es ≡ 0
none-pending n [] h = refl
none-pending n (e ∷ es) h =
    let p = both (is_settled n e) (list_all (is_settled n) es) h in
    let q = all_four (is_sequenced_up_to n e.ins) (list_all (is_sequenced_up_to n) e.dels) (is_nothing e.removal_stage) (has_no_items e.pending) p.0 in
    ap (λ b. one_more_if b (len is_pending es)) (acked e.ins q.0) ∙ none-pending n es p.1
  where
    acked : (t : Stamp) → is_sequenced_up_to n t ≡ true → not (is_acked t) ≡ false
    acked (Acked s c) g = refl
    acked (Local k) g = (cc)

-- ---- how many are unremoved

module _ (ins : Mark) (by : Option Stamp) (props : PropertyList) where
  abbrev of_units : List Mark → List ElementContent → TextElements
  of_units dels us = elements_with (record { ins = stamp_of ins; dels = map stamp_of dels }) by (record { acked = props; pending = [] }) us

  units-unremoved : (dels : List Mark) (us : List ElementContent) → len tree_unremoved (of_units dels us) ≡ unless_removed dels (length us)
  units-unremoved [] [] = refl
  units-unremoved (m ∷ ms) [] = refl
  units-unremoved [] (u ∷ us) = ap suc (units-unremoved [] us)
  units-unremoved (m ∷ ms) (u ∷ us) = units-unremoved (m ∷ ms) us

bodies-long : (body : Seg) → length (segment_bodies body) ≡ body_length body
bodies-long (Chars text) = length-map text _
bodies-long (Marker r) = refl

text-unremoved : (segs : List SegRec) → len tree_unremoved (summary_elements segs) ≡ unremoved_text segs
text-unremoved [] = refl
text-unremoved (s ∷ segs) =
    len-append tree_unremoved (segment_elements s (segment_bodies s.body)) (summary_elements segs)
    ∙ ap (λ i. i + len tree_unremoved (summary_elements segs))
    (units-unremoved s.ins (Some (stamp_of s.by)) s.props s.dels (segment_bodies s.body) ∙ ap (unless_removed s.dels) (bodies-long s.body))
    ∙ ap (λ i. unless_removed s.dels (body_length s.body) + i) (text-unremoved segs)

-- ---- ends

shown-fit : (n : ℕ) (a b : ℤ) → are_shown_ends n (record { start = a; end = b }) ≡ true → given_ends_fit n (Some (record { start = a; end = b })) ≡ true
shown-fit n (pos p) (pos q) h = rw (first p q h, second p q h) refl
  where
    first : (i j : ℕ) → are_shown_ends n (record { start = pos i; end = pos j }) ≡ true → nat_lt i n ≡ true
    first i j g = grind (arith, nat_tests, g)

    second : (i j : ℕ) → are_shown_ends n (record { start = pos i; end = pos j }) ≡ true → nat_lt j n ≡ true
    second i j g = grind (arith, nat_tests, g)
shown-fit n (pos p) (negsuc q) h = absurd (none p q h)
  where
    none : (i j : ℕ) → are_shown_ends n (record { start = pos i; end = negsuc j }) ≡ true → ⊥
    none i j g = grind (arith, nat_tests, g)
shown-fit n (negsuc p) (pos q) h = absurd (none p q h)
  where
    none : (i j : ℕ) → are_shown_ends n (record { start = negsuc i; end = pos j }) ≡ true → ⊥
    none i j g = grind (arith, nat_tests, g)
shown-fit n (negsuc p) (negsuc q) h = refl

-- ---- the whole text

module _ (sum : SumDoc) (valid : IsValidSummary sum) where
  abbrev es : List ListElement
  es = segment_items 0 sum.text

  abbrev xs : TextElements
  xs = summary_elements sum.text

  alike : AreElements text_content xs es
  alike = from-bare text_content xs es (elements-alike 0 sum.text)

  settled : list_all (is_settled sum.seq) es ≡ true
  settled = (summary-sound sum valid).text

  once : Once es
  once = (start-named (doc_of sum) (summary-sound sum valid)).text.once

  low : sum.seq ≤ 18446744073709551615
  low = count sum.seq valid.seq
    where
      count : (i : ℕ) → is_count i ≡ true → i ≤ 18446744073709551615
      count i g = grind (arith, nat_tests, g)

  same-seen : Each (λ e. seen_by everybody.r everybody.c e ≡ is_unremoved e) es
  same-seen = all-seen everybody sum.seq low es settled

  seen-count : len (seen_in (At everybody)) xs ≡ unremoved_text sum.text
  seen-count =
      beside-len (seen_in (At everybody)) (seen_by everybody.r everybody.c) (λ x e q. seen-alike text_content (At everybody) x e q) alike
      ∙ len-same (seen_by everybody.r everybody.c) is_unremoved es same-seen
      ∙ sym (beside-len tree_unremoved is_unremoved (λ x e q. unremoved-alike text_content x e q) alike) ∙ text-unremoved sum.text

  all-fit : (is : List IntervalRec) → AllByRecursion (IsInterval (unremoved_text sum.text)) is → AllFitOn xs is
  all-fit [] h = tt
  all-fit (i ∷ is) h = (
    ap (λ k. given_ends_fit k (Some (given_ends i.ends))) seen-count ∙ shown-fit (unremoved_text sum.text) i.ends.start i.ends.end h.0.0,
    all-fit is h.1,
  )

  -- each interval fits
  pub summary-fits : AllFitOn xs sum.intervals
  summary-fits = all-fit sum.intervals valid.intervals

  place-alike : (z : ℤ) → place_in_list es (slide es (element_at_end (seen_by everybody.r everybody.c) es z))
      ≡ place_in_list es (slide es (element_at_end is_unremoved es z))
  place-alike z = ap (λ o. place_in_list es (slide es o)) (end-same (seen_by everybody.r everybody.c) is_unremoved es same-seen z)

  intervals-alike : (is : List IntervalRec)
      → map interval_with_places (map (interval_on xs) is) ≡ map (indexed_interval es) (slide_ends es (map (interval_of es) is))
  intervals-alike [] = refl
  intervals-alike (i ∷ is) =
      let given = Some (given_ends i.ends) in
      let start = start-alike everybody xs es once alike given ∙ place-alike i.ends.start in
      let end = finish-alike everybody xs es once alike given ∙ place-alike i.ends.end in
      rw (start, end, intervals-alike is) refl

  -- it is held
  pub summary-held : (old new : TreeState TextContent) (c : CollectionsState) → text_elements old ≡ xs → old.made ≡ length xs
      → HasIntervals sum.intervals old new c
      → HoldsText (state_of new c [] 0 true) (doc_of sum) []
  summary-held old new c elements made h =
      let same : text_elements new ≡ xs = ap text_elements h.leaves ∙ elements in
      record {
        elements = ap (map (bare text_content)) same ∙ elements-alike 0 sum.text;
        made = let number = ap (λ (t : TreeState TextContent). t.made) h.leaves ∙ made ∙ same-count sum.text in let none = none-pending sum.seq es settled in omega arith;
        intervals = ap (λ (x : CollectionsState). map interval_with_places x.acked) h.placed_are
            ∙ ap (λ (ys : TextElements). map interval_with_places (map (interval_on ys) sum.intervals)) elements
            ∙ intervals-alike sum.intervals ∙ ap (map (indexed_interval es)) (ends-on-stay es (map (interval_of es) sum.intervals) once (ends-on es sum.intervals));
        ops = refl;
        interval_ops = ap (λ (x : CollectionsState). map interval_stage x.pending) h.placed_are;
      }

-- ---- the tree that the segments make

-- elements that were put into an empty tree
pub record IsFilled (xs : TextElements) (tree : TreeState TextContent) : Type 0 where
  pub elements : text_elements tree ≡ xs
  pub made : tree.made ≡ length xs
  pub bare : (r : ℕ) → reference_at tree.refs r ≡ None
  pub floor : tree.floor ≡ 0
  pub usable : IsTrue tree.usable

pub filled : (xs : TextElements) (old new : TreeState TextContent)
    → old ≡ record { leaves = []; refs = []; floor = 0; sweep = None; made = 0; depth = 0; usable = true }
    → Appends xs old new → IsFilled xs new
filled xs old new empty a = record {
  elements = a.elements ∙ ap (λ (t : TreeState TextContent). text_elements t ++ xs) empty;
  made = let number = a.made in let none = ap (λ (t : TreeState TextContent). t.made) empty in omega arith;
  bare = λ r. a.refs r ∙ ap (λ (t : TreeState TextContent). reference_at t.refs r) empty;
  floor = a.rest.floor ∙ ap (λ (t : TreeState TextContent). t.floor) empty;
  usable = subst (λ b. IsTrue b) (sym (a.rest.usable ∙ ap (λ (t : TreeState TextContent). t.usable) empty)) refl;
}
