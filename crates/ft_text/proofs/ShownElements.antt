-- What the client sees of a leaf: all of its elements, or none.
use Rattle.std.proofs.Common.{◌≡◌, ℕ, suc, ◌+◌, ◌≤◌, ◌<◌, Bool, true, false, cond, List, [], ◌∷◌, ◌++◌, Option, Some, None, refl, sym, ◌∙◌, ap, subst, arith, length, map, filter, replicate, option_map}
use Rattle.std.proofs.lemmas.List.{length-append, length-map, length-replicate}
use Rattle.ft_arena.specs.Ids.{after}
use Rattle.ft_attrib.specs.declared.attribution.Origin.{Origin}
use Rattle.ft_base.specs.Visibility.{seen_at}
use Rattle.ft_block.specs.Leaves.{IsPlaceIn, ids, times_leaf, value_at}
use Rattle.ft_tree_blocks.specs.Walks.{from_place}
use Rattle.ft_tree_leaves.specs.declared.leaves.TreeLeaf.{TreeLeaf}
use Rattle.ft_tree_leaves.specs.declared.text.TextContent.{TextContent}
use Rattle.ft_tree_leaves.specs.Elements.{TreeElement, element_with, elements_with}
use Rattle.ft_tree_leaves.specs.LeafLists.{elements, leaf_elements}
use Rattle.ft_tree_leaves.specs.TextLeaves.{text_units}
use Rattle.ft_msg.specs.Blame.{origin_of}
use Rattle.ft_props.specs.Element.{ElementContent}
use Rattle.ft_named.proofs.LeafWalks.{Walks, stands-next}
use Rattle.ft_named.proofs.Lists.{filter-append, map-append}
use Rattle.ft_text.specs.Texts.{TextElements, TextLeaves}
use Rattle.ft_text.specs.Shows.{is_shown_leaf, leaf_origins, origins_in, shown_elements}

shown-one : (x : TreeLeaf TextContent) → filter (λ (e : TreeElement ElementContent). seen_at e.stamps 18446744073709551615) (leaf_elements text_units (λ (y : TextContent). y.by) x)
    ≡ cond (is_shown_leaf x) (leaf_elements text_units (λ (y : TextContent). y.by) x) []
shown-one x = all (text_units x.content)
  where
    all : (us : List ElementContent) → filter (λ (e : TreeElement ElementContent). seen_at e.stamps 18446744073709551615) (elements_with x.stamps x.content.by x.overlay us)
        ≡ cond (is_shown_leaf x) (elements_with x.stamps x.content.by x.overlay us) []
    all [] = empty (is_shown_leaf x)
      where
        empty : (b : Bool) → let none : TextElements = [] in none ≡ cond b none none
        empty true = refl
        empty false = refl
    all (u ∷ us) = step (is_shown_leaf x) (all us)
      where
        step : (b : Bool) → filter (λ (e : TreeElement ElementContent). seen_at e.stamps 18446744073709551615) (elements_with x.stamps x.content.by x.overlay us)
            ≡ cond b (elements_with x.stamps x.content.by x.overlay us) []
            → cond b (element_with x.stamps x.content.by x.overlay u ∷ filter (λ (e : TreeElement ElementContent). seen_at e.stamps 18446744073709551615) (elements_with x.stamps x.content.by x.overlay us))
            (filter (λ (e : TreeElement ElementContent). seen_at e.stamps 18446744073709551615) (elements_with x.stamps x.content.by x.overlay us))
            ≡ cond b (elements_with x.stamps x.content.by x.overlay (u ∷ us)) []
        step true h = ap (λ es. element_with x.stamps x.content.by x.overlay u ∷ es) h
        step false h = h

pub shown-step : (id : ℕ) (x : TreeLeaf TextContent) (xs : TextLeaves)
    → shown_elements ((id, x) ∷ xs) ≡ cond (is_shown_leaf x) (leaf_elements text_units (λ (y : TextContent). y.by) x) [] ++ shown_elements xs
shown-step id x xs =
    filter-append (λ (e : TreeElement ElementContent). seen_at e.stamps 18446744073709551615) (leaf_elements text_units (λ (y : TextContent). y.by) x)
    (elements text_units (λ (y : TextContent). y.by) xs)
    ∙ ap (λ es. es ++ shown_elements xs) (shown-one x)

pub origins-step : (id : ℕ) (x : TreeLeaf TextContent) (xs : TextLeaves) → origins_in ((id, x) ∷ xs) ≡ leaf_origins x ++ origins_in xs
origins-step id x xs =
    ap (map (λ (e : TreeElement ElementContent). origin_of e.by)) (shown-step id x xs)
    ∙ map-append (λ (e : TreeElement ElementContent). origin_of e.by) (cond (is_shown_leaf x) (leaf_elements text_units (λ (y : TextContent). y.by) x) []) (shown_elements xs)
    ∙ ap (λ os. os ++ origins_in xs) (step (is_shown_leaf x))
  where
    same : (us : List ElementContent) → map (λ (e : TreeElement ElementContent). origin_of e.by) (elements_with x.stamps x.content.by x.overlay us)
        ≡ replicate (length us) (origin_of x.content.by)
    same [] = refl
    same (u ∷ us) = ap (λ os. origin_of x.content.by ∷ os) (same us)

    step : (b : Bool) → map (λ (e : TreeElement ElementContent). origin_of e.by) (cond b (leaf_elements text_units (λ (y : TextContent). y.by) x) [])
        ≡ cond b (replicate (length (text_units x.content)) (origin_of x.content.by)) []
    step true = same (text_units x.content)
    step false = refl

-- ---- how many origins there are

-- those of a leaf that the client sees are as many as its elements
pub origins-fit : (o : Option (TreeLeaf TextContent)) (n m : ℕ) → option_map is_shown_leaf o ≡ Some true
    → option_map (λ (x : TreeLeaf TextContent). length (text_units x.content)) o ≡ Some n
    → ((x : TreeLeaf TextContent) → o ≡ Some x → m + length (leaf_origins x) ≤ 9007199254740991) → m + n < 9007199254740992
origins-fit None n m e f h = (cc)
origins-fit (Some x) n m e f h =
    let seen : is_shown_leaf x ≡ true = (cc) in
    let size : length (text_units x.content) ≡ n = (cc) in
    let few = h x refl in
    let all = ap (λ b. length (cond b (replicate (length (text_units x.content)) (origin_of x.content.by)) [])) seen
    ∙ length-replicate (length (text_units x.content)) (origin_of x.content.by) in
    omega (arith, few, all, size)

filter-most : {A : Type 0} (test : A → Bool) (xs : List A) → length (filter test xs) ≤ length xs
filter-most test [] = omega arith
filter-most test (x ∷ xs) = step (test x) (filter-most test xs)
  where
    step : (b : Bool) → length (filter test xs) ≤ length xs → length (cond b (x ∷ filter test xs) (filter test xs)) ≤ suc (length xs)
    step true l = omega arith
    step false l = omega arith

-- those of the next leaf go beside those of the leaves behind
pub origins-room : (all : TextLeaves) → ((i : ℕ) → times_leaf all i ≤ 1) → (next : Option ℕ) (id made : ℕ) (done : List Origin)
    → Walks origins_in leaf_origins refl origins-step all next done → next ≡ Some id → length (elements text_units (λ (y : TextContent). y.by) all) ≤ made → made ≤ 9007199254740991
    → (x : TreeLeaf TextContent) → value_at all id ≡ Some x → length done + length (leaf_origins x) ≤ 9007199254740991
origins-room all once next id made done w e fits small x v =
    let s = stands-next all once id (subst (λ n. IsPlaceIn all n) e w.place) in
    let rest = from_place all (after (ids all) id) in
    let same : s.leaf ≡ x = some-same (sym s.value ∙ v) in
    let here : origins_in (from_place all next) ≡ leaf_origins x ++ origins_in rest =
    ap (λ n. origins_in (from_place all n)) e ∙ ap origins_in s.ahead ∙ origins-step id s.leaf rest ∙ ap (λ y. leaf_origins y ++ origins_in rest) same in
    let whole : length (origins_in all) ≡ length done + (length (leaf_origins x) + length (origins_in rest)) =
    sym (ap length w.whole) ∙ length-append done (origins_in (from_place all next))
    ∙ ap (λ os. length done + length os) here ∙ ap (λ n. length done + n) (length-append (leaf_origins x) (origins_in rest)) in
    let mapped = length-map (shown_elements all) (λ (y : TreeElement ElementContent). origin_of y.by) in
    let most = filter-most (λ (y : TreeElement ElementContent). seen_at y.stamps 18446744073709551615) (elements text_units (λ (y : TextContent). y.by) all) in
    omega (arith, whole, mapped, most, fits, small)
  where
    some-same : {y z : TreeLeaf TextContent} → Some y ≡ Some z → y ≡ z
    some-same g = (cc)
