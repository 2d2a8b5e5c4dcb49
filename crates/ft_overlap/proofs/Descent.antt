-- Down from the root to the place of a new item.
use Rattle.std.proofs.Common.{◌≡◌, ℕ, zero, suc, ℤ, ◌+◌, ◌-◌, ◌≤◌, ◌≤ℤ◌, ◌<ℤ◌, List, [], ◌∷◌, ◌++◌, length, take, drop, slice_get, Option, Some, None, IsSome, All, refl, sym, ap, subst, ◌∙◌, arith, append_assoc}
use Rattle.std.proofs.lemmas.Int.{ints}
use Rattle.std.proofs.lemmas.List.{append-nil, drop_all, take-append-drop}
use Rattle.std.proofs.lemmas.List.Elements.{All-nil, All-cons, All-head, All-append, All-weaker}
use Rattle.ft_arena.specs.Ids.{times}
use Rattle.ft_arena.specs.Forest.{Entry, entry, kids_of, block_value, block_of_entry, block_of_node, leaf_value, leaf_of_entry, leaf_of_node}
use Rattle.ft_arena.specs.declared.nodes.Node.{Node}
use Rattle.ft_arena.specs.declared.nodes.Node.TheVariants.{Leaf, Block}
use Rattle.ft_shape.specs.declared.headed.Headed.{Headed}
use Rattle.ft_shape.specs.Tree.{IsTree, height_of, below}
use Rattle.ft_shape.specs.Told.{sum_of, told, KeepsBut}
use Rattle.ft_shape.proofs.EditLemmas.{some_of}
use Rattle.ft_shape.proofs.PairLemmas.{block_no_leaf}
use Rattle.ft_shape.proofs.Lists.{times_at, drop_at}
use Rattle.ft_shape.proofs.Levels.{below-append, block_from_height, steps_down, kid_parent, live_from_parent}
use Rattle.ft_overlap.specs.declared.items.Item.{Item}
use Rattle.ft_overlap.specs.declared.items.Span.{Span}
use Rattle.ft_overlap.specs.Items.{IsRising}
use Rattle.ft_overlap.specs.Inside.{Nodes, item_of, items_of, items_under, items_below, either_start, span_start, start_by, IsSpan, IsBehind, IsPlaceFor}
use Rattle.ft_overlap.specs.Search.{IsFirstBelow, StartsBelow, IsStartedBy, IsChildBy, IsReached}
use Rattle.ft_overlap.proofs.Keys.{all_rest}
use Rattle.ft_overlap.proofs.Last.{first_told}
use Rattle.ft_overlap.proofs.Under.{items-append, under_kids, first_kid}
use Rattle.ft_overlap.proofs.Leaves.{last-push}
use Rattle.ft_overlap.proofs.Inserted.{tree_filled}

-- a leaf is the first item below it
pub leaf_first : (s : Nodes) (x : ℕ) (v : Item) → leaf_value s x ≡ Some v → height_of s x ≡ 0 → IsFirstBelow s x v
leaf_first s x v l q =
    record { leaf = x; there = l; rest = []; items = ap (λ (h : ℕ). items_under s h x) q ∙ ap (λ o. item_of o []) l }

child_there : (xs ys : List ℕ) (k : ℕ) → slice_get (xs ++ k ∷ ys) (length xs) ≡ Some k
child_there [] ys k = refl
child_there (x ∷ xs) ys k = child_there xs ys k

module _ (s : Nodes) (root n : ℕ) (t : IsTree s root) (block : IsSome (block_value s n)) (kids : List ℕ) (is_kids : kids_of s n ≡ kids) where
  abbrev pub down : ℕ
  down = height_of s n - 1

  pub d_high : height_of s n ≡ suc down
  d_high = omega (arith, t.shape.high n block)

  pub d_all : items_below s n ≡ items_of s (below s down kids)
  d_all = under_kids s down n kids d_high is_kids

  pub d_filled : 1 ≤ length kids
  d_filled = omega (arith, tree_filled s root t n block, ap length is_kids)

  module _ (i kid : ℕ) (there : slice_get kids i ≡ Some kid) where
    d_member : 1 ≤ times (kids_of s n) kid
    d_member = subst (λ (ks : List ℕ). 1 ≤ times ks kid) (sym is_kids) (times_at kids i kid there)

    pub d_kid_high : height_of s kid ≡ down
    d_kid_high = omega (arith, steps_down s root None t.shape n kid d_member, d_high)

    pub d_kid_live : IsSome (entry s kid)
    d_kid_live = live_from_parent (entry s kid) n (kid_parent s root None t.shape n kid d_member)

    d_rest : items_of s (below s down (drop i kids)) ≡ items_below s kid ++ items_of s (below s down (drop (i + 1) kids))
    d_rest = first_kid s down i kid kids d_kid_high there

  module _ (front : List ℕ) (kid : ℕ) (back : List ℕ) (cut : kids ≡ front ++ kid ∷ back) where
    cut_there : slice_get kids (length front) ≡ Some kid
    cut_there = ap (λ (ks : List ℕ). slice_get ks (length front)) cut ∙ child_there front back kid

    pub d_cut_high : height_of s kid ≡ down
    d_cut_high = d_kid_high (length front) kid cut_there

    pub d_cut_live : IsSome (entry s kid)
    d_cut_live = d_kid_live (length front) kid cut_there

  -- the first item of the first child is that of the block
  pub up_first : (kid : ℕ) (x : Item) → slice_get kids 0 ≡ Some kid → IsFirstBelow s kid x → IsFirstBelow s n x
  up_first kid x there f =
      record {
        leaf = f.leaf;
        there = f.there;
        rest = f.rest ++ items_of s (below s down (drop 1 kids));
        items = d_all ∙ d_rest 0 kid there ∙ ap (λ (zs : List Item). zs ++ items_of s (below s down (drop 1 kids))) f.items;
      }

  module _ (place : ℕ → ℤ) (b : ℤ) where
    -- where the block's first item starts by b, so does that of the first child
    pub down_first : (kid : ℕ) (x : Item) → slice_get kids 0 ≡ Some kid → IsFirstBelow s kid x → IsStartedBy place b s n → IsStartedBy place b s kid
    down_first kid x there f o =
        let e : o.item ∷ o.rest ≡ x ∷ (up_first kid x there f).rest = sym o.items ∙ (up_first kid x there f).items in
        let q : o.item ≡ x = cc e in
        record { item = x; rest = f.rest; items = f.items; by = subst (λ (z : Item). place z.start ≤ℤ b) q o.by }

    -- the children up to i start by b, and those from i on don't: the one before i is the last that does
    pub child_at_end : (i kid : ℕ) → slice_get kids i ≡ Some kid → IsStartedBy place b s kid → IsBehind place b (items_of s (below s down (drop (i + 1) kids)))
        → IsChildBy place b s n kids kid
    child_at_end i kid there first behind =
        record {
          front = take i kids;
          back = drop (i + 1) kids;
          cut = sym (take-append-drop i kids) ∙ ap (λ (zs : List ℕ). take i kids ++ zs) (drop_at kids i kid there);
          behind = behind;
          first = first;
        }

    behind_first : (x : Item) (xs ys : List Item) → ys ≡ x ∷ xs → b <ℤ place x.start → IsBehind place b ys
    behind_first x xs ys e l = subst (IsBehind place b) (sym e) l

    -- where the first item of the child at i is behind, what the children from there on have is
    pub child_behind : (i kid : ℕ) (x : Item) → slice_get kids i ≡ Some kid → IsFirstBelow s kid x → b <ℤ place x.start
        → IsBehind place b (items_of s (below s down (drop i kids)))
    child_behind i kid x there f l =
        behind_first x (f.rest ++ items_of s (below s down (drop (i + 1) kids))) (items_of s (below s down (drop i kids)))
        (d_rest i kid there ∙ ap (λ (zs : List Item). zs ++ items_of s (below s down (drop (i + 1) kids))) f.items) l

    none_below : (h : ℕ) → below s h [] ≡ []
    none_below zero = refl
    none_below (suc h) = none_below h

    -- there is no child behind the last
    pub none_behind : IsBehind place b (items_of s (below s down (drop (length kids) kids)))
    none_behind =
        subst (λ (zs : List Item). IsBehind place b zs) (sym (ap (λ ks. items_of s (below s down ks)) (drop_all (length kids) kids (omega arith))
        ∙ ap (items_of s) (none_below down))) tt

    behind-append : (xs ys : List Item) → IsBehind place b xs → IsBehind place b ys → IsBehind place b (xs ++ ys)
    behind-append [] ys h k = k
    behind-append (x ∷ xs) ys h k = h

    -- a step down
    pub reach_child : (kid : ℕ) → IsReached place b s n → IsChildBy place b s n kids kid → height_of s kid ≡ down → IsReached place b s kid
    reach_child kid r c high =
        let one : below s (height_of s n) (n ∷ []) ≡ below s down kids = ap (λ (h : ℕ). below s h (n ∷ [])) d_high ∙ ap (below s down) (append-nil (kids_of s n) ∙ is_kids) in
        let cut : below s down kids ≡ below s down c.front ++ (below s down (kid ∷ []) ++ below s down c.back) =
        ap (below s down) c.cut ∙ below-append s down c.front (kid ∷ c.back) ∙ ap (λ zs. below s down c.front ++ zs) (below-append s down (kid ∷ []) c.back) in
        let whole : below s (height_of s n) (n ∷ []) ++ r.right ≡ below s down c.front ++ (below s down (kid ∷ []) ++ (below s down c.back ++ r.right)) =
        ap (λ (zs : List ℕ). zs ++ r.right) (one ∙ cut) ∙ append_assoc (below s down c.front) (below s down (kid ∷ []) ++ below s down c.back) r.right
        ∙ ap (λ zs. below s down c.front ++ zs) (append_assoc (below s down (kid ∷ [])) (below s down c.back) r.right) in
        record {
          left = r.left ++ below s down c.front;
          right = below s down c.back ++ r.right;
          cut = r.cut ∙ ap (λ zs. r.left ++ zs) whole
              ∙ sym (append_assoc r.left (below s down c.front) (below s down (kid ∷ []) ++ (below s down c.back ++ r.right)))
              ∙ ap (λ (h : ℕ). (r.left ++ below s down c.front) ++ (below s h (kid ∷ []) ++ (below s down c.back ++ r.right))) (sym high);
          behind = subst (λ (zs : List Item). IsBehind place b zs) (sym (items-append s (below s down c.back) r.right))
              (behind-append (items_of s (below s down c.back)) (items_of s r.right) c.behind r.behind);
          first = c.first;
        }

-- a node that is no block is a leaf
leaf_else : (o : Option (Entry Item (Headed Span))) → IsSome o → (IsSome (block_of_entry o) → ⊥) → (v : Item) × (leaf_of_entry o ≡ Some v)
leaf_else None live n = cc
leaf_else (Some e) live n = of_node e.node n
  where
    of_node : (n : Node Item (Headed Span)) → (IsSome (block_of_node n) → ⊥) → (v : Item) × (leaf_of_node n ≡ Some v)
    of_node (Leaf v) h = (v, refl)
    of_node (Block ks v) h = absurd (h refl)

first_there : (xs : List ℕ) → 1 ≤ length xs → (x : ℕ) × (slice_get xs 0 ≡ Some x)
first_there [] h = absurd (omega arith)
first_there (x ∷ xs) h = (x, refl)

-- where the first item below a node starts, as the node tells it
module _ (s : Nodes) (root : ℕ) (t : IsTree s root) (spans : KeepsBut IsSpan s None) where
  starts_by_height : (h x : ℕ) → height_of s x ≡ h → IsSome (entry s x) → (b : ℕ) → start_by (told s x) ≡ Some b → StartsBelow s x b
  starts_by_height zero x q live b e =
      let none : IsSome (block_value s x) → ⊥ = (λ c. absurd (omega (arith, q, t.shape.high x c))) in
      let leaf : (v : Item) × (leaf_value s x ≡ Some v) = leaf_else (entry s x) live none in
      let is : Some leaf.0.start ≡ Some b = sym (ap (λ o. either_start o (span_start (sum_of (block_value s x)))) leaf.1) ∙ e in
      record { item = leaf.0; first = leaf_first s x leaf.0 leaf.1 q; is = cc is }
  starts_by_height (suc h) x q live b e =
      let block : IsSome (block_value s x) = block_from_height (entry s x) (omega (arith, q)) in
      let w = some_of (block_value s x) block in
      let is : Some w.0.sum.start ≡ Some b =
      sym (ap (λ o. either_start o (span_start (sum_of (block_value s x)))) (block_no_leaf s x block) ∙ ap (λ o. span_start (sum_of o)) w.1) ∙ e in
      let first = first_there (kids_of s x) (d_filled s root x t block (kids_of s x) refl) in
      let high : height_of s first.0 ≡ h = omega (arith, q, d_kid_high s root x t block (kids_of s x) refl 0 first.0 first.1) in
      let kid = starts_by_height h first.0 high (d_kid_live s root x t block (kids_of s x) refl 0 first.0 first.1) w.0.sum.start
      (sym (first_told s (kids_of s x) first.0 first.1) ∙ (spans x w.0 w.1 (λ d. cc)).start) in
      record { item = kid.item; first = up_first s root x t block (kids_of s x) refl first.0 kid.item first.1 kid.first; is = kid.is ∙ cc is }

  pub starts_below : (x : ℕ) → IsSome (entry s x) → (b : ℕ) → start_by (told s x) ≡ Some b → StartsBelow s x b
  starts_below x = starts_by_height (height_of s x) x refl

module _ (s : Nodes) (root : ℕ) (t : IsTree s root) where
  -- a node that is there has a first item below it
  pub first_below_node : (h x : ℕ) → height_of s x ≡ h → IsSome (entry s x) → (v : Item) × IsFirstBelow s x v
  first_below_node zero x q live =
      let none : IsSome (block_value s x) → ⊥ = (λ b. absurd (omega (arith, q, t.shape.high x b))) in
      let leaf : (v : Item) × (leaf_value s x ≡ Some v) = leaf_else (entry s x) live none in
      (leaf.0, leaf_first s x leaf.0 leaf.1 q)
  first_below_node (suc h) x q live =
      let block : IsSome (block_value s x) = block_from_height (entry s x) (omega (arith, q)) in
      let first = first_there (kids_of s x) (d_filled s root x t block (kids_of s x) refl) in
      let high : height_of s first.0 ≡ h = omega (arith, q, d_kid_high s root x t block (kids_of s x) refl 0 first.0 first.1) in
      let below = first_below_node h first.0 high (d_kid_live s root x t block (kids_of s x) refl 0 first.0 first.1) in
      (below.0, up_first s root x t block (kids_of s x) refl first.0 below.0 first.1 below.1)

-- what stands before an item of a rising list starts by it
before_item : (place : ℕ → ℤ) (xs : List Item) (y : Item) (ys : List Item) → IsRising place (xs ++ y ∷ ys) → All (λ x. place x.start ≤ℤ place y.start) xs
before_item place [] y ys h = All-nil (λ x. place x.start ≤ℤ place y.start)
before_item place (x ∷ xs) y ys h =
    All-cons (λ z. place z.start ≤ℤ place y.start) x xs
    (All-head (λ z. place x.start ≤ℤ place z.start) y ys (all_rest (λ z. place x.start ≤ℤ place z.start) xs (y ∷ ys) h.0)) (before_item place xs y ys h.1)

module _ (place : ℕ → ℤ) (b : ℤ) (s : Nodes) where
  -- the leaf that the way down ends at
  pub reached_place : (n : ℕ) (v : Item) → IsReached place b s n → leaf_value s n ≡ Some v → height_of s n ≡ 0 → IsRising place (items_of s s.leaves)
      → IsPlaceFor place b s (Some n)
  reached_place n v r leaf high rising =
      let cut : s.leaves ≡ r.left ++ (n ∷ r.right) = r.cut ∙ ap (λ (h : ℕ). r.left ++ (below s h (n ∷ []) ++ r.right)) high in
      let all : items_of s s.leaves ≡ items_of s r.left ++ v ∷ items_of s r.right =
      ap (items_of s) cut ∙ items-append s r.left (n ∷ r.right) ∙ ap (λ o. items_of s r.left ++ item_of o (items_of s r.right)) leaf in
      let e : r.first.item ∷ r.first.rest ≡ v ∷ (leaf_first s n v leaf high).rest = sym r.first.items ∙ (leaf_first s n v leaf high).items in
      let q : r.first.item ≡ v = cc e in
      let by : place v.start ≤ℤ b = subst (λ (z : Item). place z.start ≤ℤ b) q r.first.by in
      record {
        left = r.left ++ n ∷ [];
        right = r.right;
        cut = cut ∙ sym (append_assoc r.left (n ∷ []) r.right);
        last = sym (last-push r.left n);
        before = subst (All (λ x. place x.start ≤ℤ b)) (sym (items-append s r.left (n ∷ []) ∙ ap (λ o. items_of s r.left ++ item_of o []) leaf))
            (All-append (λ x. place x.start ≤ℤ b) (items_of s r.left) (v ∷ [])
            (All-weaker (λ x. place x.start ≤ℤ place v.start) (λ x. place x.start ≤ℤ b) (λ x h. omega (arith, ints, h, by)) (items_of s r.left)
            (before_item place (items_of s r.left) v (items_of s r.right) (subst (IsRising place) all rising)))
            (All-cons (λ x. place x.start ≤ℤ b) v [] by (All-nil (λ x. place x.start ≤ℤ b))));
        behind = r.behind;
      }

  module _ (root : ℕ) (t : IsTree s root) (x : Item) (f : IsFirstBelow s root x) where
    -- even the first item of all starts behind
    pub no_place : b <ℤ place x.start → IsPlaceFor place b s None
    no_place l =
        record {
          left = [];
          right = s.leaves;
          cut = refl;
          last = refl;
          before = All-nil (λ y. place y.start ≤ℤ b);
          behind = subst (λ (zs : List Item). IsBehind place b zs) (sym (ap (items_of s) t.leaves ∙ f.items)) l;
        }

    -- or the way down begins at the root
    pub root_reached : place x.start ≤ℤ b → IsReached place b s root
    root_reached l =
        record {
          left = [];
          right = [];
          cut = t.leaves ∙ sym (append-nil (below s (height_of s root) (root ∷ [])));
          behind = tt;
          first = record { item = x; rest = f.rest; items = f.items; by = l };
        }
