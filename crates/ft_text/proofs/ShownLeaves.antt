-- What was shown of the leaves behind, and then what is shown of those ahead, is what is shown of all.
use Rattle.std.proofs.Common.{◌≡◌, ℕ, ◌+◌, ◌≤◌, Bool, true, false, cond, List, [], ◌∷◌, ◌++◌, Option, Some, None, refl, sym, ◌∙◌, ap, subst, arith, chars, string_bytes, length, map, append_assoc, append-nil}
use Rattle.std.proofs.lemmas.Grind.{flat_map-append}
use Rattle.ft_arena.specs.Ids.{after, first}
use Rattle.ft_base.specs.declared.elements.Element.{Element as ElementStamps}
use Rattle.ft_base.specs.declared.stamps.Stamp.{Stamp}
use Rattle.ft_block.specs.Leaves.{IsLeafIn, IsPlaceIn, ids, times_leaf, value_at}
use Rattle.ft_tree_blocks.specs.Walks.{from_place}
use Rattle.ft_tree_blocks.proofs.Walks.{after_in_place, first_in_place, from_first}
use Rattle.ft_tree_leaves.specs.declared.leaves.TreeLeaf.{TreeLeaf}
use Rattle.ft_tree_leaves.specs.declared.text.TextContent.{TextContent}
use Rattle.ft_tree_leaves.specs.Elements.{elements_with}
use Rattle.ft_tree_leaves.specs.LeafLists.{leaf_elements}
use Rattle.ft_tree_leaves.specs.TextLeaves.{text_units}
use Rattle.ft_msg.specs.Content.{content_characters, content_markers}
use Rattle.ft_props.specs.Element.{ElementContent}
use Rattle.ft_props.specs.Overlay.{OverlayState, shown_of}
use Rattle.ft_text.specs.Texts.{TextElements, TextLeaves}
use Rattle.ft_text.specs.Shows.{AddsLeaf, AddsShown, ShowsLeaves, characters_of, continued, is_shown_leaf, markers_of, runs_of, shown_elements, with_properties}
use Rattle.ft_text.specs.declared.shown.Shown.{Shown}
use Rattle.ft_named.proofs.LeafWalks.{stands-next}
use Rattle.ft_text.proofs.ShownElements.{shown-step}
use Rattle.ft_text.proofs.ShownRuns.{continued-end, leaf-run}

-- what elements are
abbrev units_of : TextElements → List ElementContent
units_of es = map (λ e. e.unit) es

units-with : (stamps : ElementStamps) (by : Option Stamp) (overlay : OverlayState) (us : List ElementContent) (rest : TextElements)
    → units_of (elements_with stamps by overlay us ++ rest) ≡ us ++ units_of rest
units-with stamps by overlay [] rest = refl
units-with stamps by overlay (u ∷ us) rest = ap (λ vs. u ∷ vs) (units-with stamps by overlay us rest)

markers-append : (i : ℕ) (us vs : List ElementContent) → markers_of i (us ++ vs) ≡ markers_of i us ++ markers_of (i + length us) vs
markers-append i [] vs = ap (λ n. markers_of n vs) (omega arith)
markers-append i (u ∷ us) vs =
    let n : i + 1 + length us ≡ i + length (u ∷ us) = omega arith in
    ap (λ ms. content_markers i u ++ ms) (markers-append (i + 1) us vs ∙ ap (λ m. markers_of (i + 1) us ++ markers_of m vs) n)
    ∙ sym (append_assoc (content_markers i u) (markers_of (i + 1) us) (markers_of (i + length (u ∷ us)) vs))

-- what was shown so far, and then what is shown of these elements, is what is shown of all
pub record ShowsAhead (all ahead : TextElements) (shown : Shown) : Type 0 where
  pub text : chars (string_bytes shown.text) ++ characters_of (units_of ahead) ≡ characters_of (units_of all)
  pub markers : shown.markers ++ markers_of shown.count (units_of ahead) ≡ markers_of 0 (units_of all)
  pub runs : continued shown.runs.items (runs_of shown.count ahead) ≡ runs_of 0 all

-- elements of one leaf are shown
leaf-shown : (stamps : ElementStamps) (by : Option Stamp) (overlay : OverlayState) (all rest : TextElements) (old new : Shown) (us : List ElementContent)
    → AddsShown us (shown_of overlay) old new → ShowsAhead all (elements_with stamps by overlay us ++ rest) old → ShowsAhead all rest new
leaf-shown stamps by overlay all rest old new [] a h = (let some = a.some in absurd (omega arith))
leaf-shown stamps by overlay all rest old new (u ∷ us) a h =
    let units = units-with stamps by overlay (u ∷ us) rest in
    record {
      text = ap (λ cs. cs ++ characters_of (units_of rest)) a.text
          ∙ append_assoc (chars (string_bytes old.text)) (characters_of (u ∷ us)) (characters_of (units_of rest))
          ∙ ap (λ cs. chars (string_bytes old.text) ++ cs) (sym (ap characters_of units ∙ flat_map-append content_characters (u ∷ us) (units_of rest))) ∙ h.text;
      markers = ap (λ ms. ms ++ markers_of new.count (units_of rest)) a.markers
          ∙ append_assoc old.markers (markers_of old.count (u ∷ us)) (markers_of new.count (units_of rest))
          ∙ ap (λ n. old.markers ++ (markers_of old.count (u ∷ us) ++ markers_of n (units_of rest))) a.count
          ∙ ap (λ ms. old.markers ++ ms) (sym (ap (markers_of old.count) units ∙ markers-append old.count (u ∷ us) (units_of rest))) ∙ h.markers;
      runs = a.runs (runs_of new.count rest)
          ∙ ap (λ n. continued old.runs.items (with_properties old.count n (shown_of overlay) (runs_of n rest))) a.count
          ∙ ap (continued old.runs.items) (sym (leaf-run stamps by overlay rest old.count u us)) ∙ h.runs;
    }

-- a walk has come to the leaf of a place
pub record ShowsSoFar (all : TextLeaves) (next : Option ℕ) (shown : Shown) : Type 0 where
  pub place : IsPlaceIn all next
  pub ahead : ShowsAhead (shown_elements all) (shown_elements (from_place all next)) shown

pub shows-begin : (all : TextLeaves) (next : Option ℕ) (shown : Shown) → next ≡ first (ids all) → chars (string_bytes shown.text) ≡ [] → shown.markers ≡ []
    → shown.runs.items ≡ [] → shown.count ≡ 0 → ShowsSoFar all next shown
shows-begin all next shown e text markers runs count =
    subst (λ n. ShowsSoFar all n shown) (sym e) (record {
      place = first_in_place all;
      ahead = subst (λ xs. ShowsAhead (shown_elements all) (shown_elements xs) shown) (sym (from_first all)) (record {
        text = ap (λ cs. cs ++ characters_of (units_of (shown_elements all))) text;
        markers = ap (λ ms. ms ++ markers_of shown.count (units_of (shown_elements all))) markers ∙ ap (λ n. markers_of n (units_of (shown_elements all))) count;
        runs = ap (λ rs. continued rs (runs_of shown.count (shown_elements all))) runs ∙ ap (λ n. runs_of n (shown_elements all)) count;
      });
    })

-- one leaf, which the client sees or not
leaf-taken : (all xs : TextLeaves) (id : ℕ) (x : TreeLeaf TextContent) (old new : Shown) → AddsLeaf x old new
    → ShowsAhead (shown_elements all) (shown_elements ((id, x) ∷ xs)) old → ShowsAhead (shown_elements all) (shown_elements xs) new
leaf-taken all xs id x old new adds h =
    let ahead = subst (λ es. ShowsAhead (shown_elements all) es old) (shown-step id x xs) h in step (is_shown_leaf x) refl ahead
  where
    step : (b : Bool) → is_shown_leaf x ≡ b
        → ShowsAhead (shown_elements all) (cond b (leaf_elements text_units (λ (y : TextContent). y.by) x) [] ++ shown_elements xs) old
        → ShowsAhead (shown_elements all) (shown_elements xs) new
    step true e ahead = leaf-shown x.stamps x.content.by x.overlay (shown_elements all) (shown_elements xs) old new (text_units x.content) (adds.shown e) ahead
    step false e ahead = subst (λ s. ShowsAhead (shown_elements all) (shown_elements xs) s) (sym (adds.hidden e)) ahead

pub shows-next : (all : TextLeaves) → ((i : ℕ) → times_leaf all i ≤ 1)
    → (next behind : Option ℕ) (id : ℕ) (old new : Shown) → ShowsSoFar all next old → next ≡ Some id
    → ((x : TreeLeaf TextContent) → value_at all id ≡ Some x → AddsLeaf x old new) → behind ≡ after (ids all) id → ShowsSoFar all behind new
shows-next all once next behind id old new w e adds g =
    let live : IsLeafIn all id = subst (λ n. IsPlaceIn all n) e w.place in
    let s = stands-next all once id live in
    let here : ShowsAhead (shown_elements all) (shown_elements (from_place all (Some id))) old =
    subst (λ n. ShowsAhead (shown_elements all) (shown_elements (from_place all n)) old) e w.ahead in
    subst (λ n. ShowsSoFar all n new) (sym g) (record {
      place = after_in_place all id;
      ahead = leaf-taken all (from_place all (after (ids all) id)) id s.leaf old new (adds s.leaf s.value)
          (subst (λ xs. ShowsAhead (shown_elements all) (shown_elements xs) old) s.ahead here);
    })

pub shows-all : (all : TextLeaves) (next : Option ℕ) (shown : Shown) → ShowsSoFar all next shown → next ≡ None → ShowsLeaves all shown
shows-all all next shown w e =
    let done : ShowsAhead (shown_elements all) [] shown = subst (λ n. ShowsAhead (shown_elements all) (shown_elements (from_place all n)) shown) e w.ahead in
    record {
      text = sym (append-nil (chars (string_bytes shown.text))) ∙ done.text;
      markers = sym (append-nil shown.markers) ∙ done.markers;
      runs = sym (continued-end shown.runs.items) ∙ done.runs;
    }
