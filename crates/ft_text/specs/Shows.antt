-- What is shown of the leaves of a text.
use Rattle.std.specs.Prelude.{◌≡◌, ℕ, ◌+◌, ◌≤◌, Bool, true, false, cond, ◌&&◌, nat_eq, List, [], ◌∷◌, ◌++◌, chars, filter, flat_map, length, map, replicate, string_bytes}
use Rattle.ft_attrib.specs.declared.attribution.Origin.{Origin}
use Rattle.ft_base.specs.Visibility.{seen_at}
use Rattle.ft_tree_leaves.specs.declared.leaves.TreeLeaf.{TreeLeaf}
use Rattle.ft_tree_leaves.specs.declared.text.TextContent.{TextContent}
use Rattle.ft_tree_leaves.specs.LeafLists.{elements}
use Rattle.ft_tree_leaves.specs.TextLeaves.{text_units}
use Rattle.ft_msg.specs.declared.views.Run.{Run}
use Rattle.ft_msg.specs.declared.views.Spot.{Spot}
use Rattle.ft_msg.specs.declared.views.View.{View}
use Rattle.ft_msg.specs.Blame.{origin_of}
use Rattle.ft_msg.specs.Content.{content_characters, content_markers, extended_property_runs}
use Rattle.ft_props.specs.Element.{ElementContent}
use Rattle.ft_props.specs.Overlay.{shown_of}
use Rattle.ft_props.specs.Properties.{PropertyList}
use Rattle.ft_sumdoc.specs.WellFormed.{same_props}
use Rattle.ft_text.specs.declared.shown.Shown.{Shown}
use Rattle.ft_text.specs.Texts.{TextElements, TextLeaves}

-- whether the client sees the elements of a leaf
abbrev pub is_shown_leaf : TreeLeaf TextContent → Bool
is_shown_leaf x = seen_at x.stamps 18446744073709551615

-- the elements that the client sees
abbrev pub shown_elements : TextLeaves → TextElements
shown_elements xs = filter (λ e. seen_at e.stamps 18446744073709551615) (elements text_units (λ (x : TextContent). x.by) xs)

-- the origins of these
abbrev pub origins_in : TextLeaves → List Origin
origins_in xs = map (λ e. origin_of e.by) (shown_elements xs)

-- and those of one leaf
abbrev pub leaf_origins : TreeLeaf TextContent → List Origin
leaf_origins x = cond (is_shown_leaf x) (replicate (length (text_units x.content)) (origin_of x.content.by)) []

-- ---- characters, markers and runs

-- the characters of contents, without the markers
abbrev pub characters_of : List ElementContent → List ℕ
characters_of us = flat_map content_characters us

-- the markers among contents with their places, from place i on
abbrev pub markers_of : ℕ → List ElementContent → List Spot
markers_of i [] = []
markers_of i (u ∷ us) = content_markers i u ++ markers_of (i + 1) us

-- the maximal runs of elements with equal properties that aren't empty, from place i on
abbrev pub runs_of : ℕ → TextElements → List Run
runs_of i [] = []
runs_of i (e ∷ xs) = extended_property_runs i (shown_of e.overlay) (runs_of (i + 1) xs)

-- all of these of the elements that the client sees
abbrev pub characters_in : TextLeaves → List ℕ
characters_in xs = characters_of (map (λ e. e.unit) (shown_elements xs))

abbrev pub markers_in : ℕ → TextLeaves → List Spot
markers_in i xs = markers_of i (map (λ e. e.unit) (shown_elements xs))

abbrev pub runs_in : ℕ → TextLeaves → List Run
runs_in i xs = runs_of i (shown_elements xs)

-- the run with those behind it: joined to the first of them where that begins at its end with equal properties
abbrev pub with_run : Run → List Run → List Run
with_run r [] = r ∷ []
with_run r (s ∷ runs) = cond (nat_eq s.start r.end && same_props s.props r.props) (record s { start = r.start } ∷ runs) (r ∷ s ∷ runs)

-- the same of a run with these properties, which is none where they are empty
abbrev pub with_properties : ℕ → ℕ → PropertyList → List Run → List Run
with_properties start end [] more = more
with_properties start end (p ∷ ps) more = with_run (record { start = start; end = end; props = p ∷ ps }) more

-- the same of runs, of which the last one may be joined
abbrev pub continued : List Run → List Run → List Run
continued [] more = more
continued (r ∷ []) more = with_run r more
continued (r ∷ s ∷ runs) more = r ∷ continued (s ∷ runs) more

-- elements of these contents with these properties are shown behind what was shown before
pub record AddsShown (us : List ElementContent) (props : PropertyList) (old new : Shown) : Type 0 where
  pub text : chars (string_bytes new.text) ≡ chars (string_bytes old.text) ++ characters_of us
  pub markers : new.markers ≡ old.markers ++ markers_of old.count us
  pub runs : (more : List Run) → continued new.runs.items more ≡ continued old.runs.items (with_properties old.count new.count props more)
  pub count : new.count ≡ old.count + length us
  pub some : 1 ≤ length us

-- a leaf is shown behind what was shown before, if the client sees its elements
pub record AddsLeaf (x : TreeLeaf TextContent) (old new : Shown) : Type 0 where
  pub shown : is_shown_leaf x ≡ true → AddsShown (text_units x.content) (shown_of x.overlay) old new
  pub hidden : is_shown_leaf x ≡ false → new ≡ old

-- what is shown is that of all these leaves
pub record ShowsLeaves (xs : TextLeaves) (shown : Shown) : Type 0 where
  pub text : chars (string_bytes shown.text) ≡ characters_in xs
  pub markers : shown.markers ≡ markers_in 0 xs
  pub runs : shown.runs.items ≡ runs_in 0 xs

-- what else a view has stays
pub record KeepsOthers (old new : View) : Type 0 where
  pub numbers : new.numbers ≡ old.numbers
  pub rows : new.rows ≡ old.rows
  pub cols : new.cols ≡ old.cols
  pub cells : new.cells ≡ old.cells
