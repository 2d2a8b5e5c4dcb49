-- What writing a block's kept length leaves.
use Rattle.std.proofs.Common.{◌≡◌, ◌≢◌, ℕ, zero, suc, ◌<◌, ◌≤◌, List, [], ◌∷◌, length, Option, Some, None, IsSome, refl, sym, ap, subst, ◌∙◌, inl, inr, arith}
use Rattle.std.proofs.lemmas.Bool.{cases_eq, cases_lt}
use Rattle.std.specs.List.{flat_map}
use Rattle.ft_arena.specs.declared.nodes.Node.{Node}
use Rattle.ft_arena.specs.declared.nodes.Node.TheVariants.{Leaf, Block}
use Rattle.ft_arena.specs.Ids.{times}
use Rattle.ft_arena.specs.Forest.{Forest, Entry, IsForest, entry, kids_of, parent_of, block_value, leaf_of_entry, block_of_entry, kids_of_entry, kids_of_node}
use Rattle.ft_arena.specs.Forest.{block_of_node, leaf_of_node, parent_of_entry}
use Rattle.ft_shape.specs.declared.headed.Headed.{Headed}
use Rattle.ft_shape.specs.Tree.{total, height_of, OwesAt, Measure, length_of, length_of_entry, below, kind_of_entry, kind_of_node, IsShape, SumsBut, IsTree}
use Rattle.ft_shape.specs.Tree.{IsPartTree}
use Rattle.ft_shape.specs.Steps.{SameShape, Resums}
use Rattle.std.proofs.lemmas.List.{get_or_past, get_or-set_same, get_or-set_other}
use Rattle.ft_arena.specs.Forest.{Changes, with_block, with_block_entry, count_some}
use Rattle.ft_arena.proofs.ArenaLemmas.{IsForest-other}
use Rattle.ft_arena.proofs.KidLemmas.{kept}
use Rattle.ft_shape.proofs.EditLemmas.{total_same, total_change, points_same, flat_map_same}
use Rattle.ft_shape.proofs.KindLemmas.{kind_height, kind_live, kind_block}
use Rattle.ft_shape.proofs.Levels.{points_some, points_at}

module _ {L S : Type 0} where
  by_node_leaf : (n : Node L (Headed S)) (v w : (Headed S)) → block_of_node n ≡ Some v → leaf_of_node (Block (kids_of_node n) w) ≡ leaf_of_node n
  by_node_leaf (Leaf x) v w e = cc
  by_node_leaf (Block ks x) v w e = refl

  by_node_kind : (n : Node L (Headed S)) (v w : (Headed S)) → w.height ≡ v.height → block_of_node n ≡ Some v
      → kind_of_node {L = L} (Block (kids_of_node n) w) ≡ kind_of_node n
  by_node_kind (Leaf x) v w h e = cc
  by_node_kind (Block ks x) v w h e = let q : x ≡ v = cc in ap Some (h ∙ ap (λ z. z.height) (sym q))

  written_leaf : (o : Option (Entry L (Headed S))) (v w : (Headed S)) → block_of_entry o ≡ Some v → leaf_of_entry (with_block_entry o w) ≡ leaf_of_entry o
  written_leaf None v w e = refl
  written_leaf (Some x) v w e = by_node_leaf x.node v w e

  written_kids : (o : Option (Entry L (Headed S))) (w : (Headed S)) → kids_of_entry (with_block_entry o w) ≡ kids_of_entry o
  written_kids None w = refl
  written_kids (Some x) w = refl

  written_parent : (o : Option (Entry L (Headed S))) (w : (Headed S)) → parent_of_entry (with_block_entry o w) ≡ parent_of_entry o
  written_parent None w = refl
  written_parent (Some x) w = refl

  written_kind : (o : Option (Entry L (Headed S))) (v w : (Headed S)) → w.height ≡ v.height → block_of_entry o ≡ Some v
      → kind_of_entry (with_block_entry o w) ≡ kind_of_entry o
  written_kind None v w h e = refl
  written_kind (Some x) v w h e = ap Some (by_node_kind x.node v w h e)

  written_length : (measure : Measure L S) (o : Option (Entry L (Headed S))) (v w : (Headed S)) → block_of_entry o ≡ Some v
      → length_of_entry measure (with_block_entry o w) ≡ measure.block w
  written_length measure None v w e = cc
  written_length measure (Some x) v w e = refl

  -- who has a child is a block
  pub block_from_kid : (s : Forest L (Headed S)) (b x : ℕ) → 1 ≤ times (kids_of s b) x → IsSome (block_value s b)
  block_from_kid s b x m = of_entry (entry s b) m
    where
      of_node : (n : Node L (Headed S)) → 1 ≤ times (kids_of_node n) x → IsSome (block_of_node n)
      of_node (Leaf v) m = absurd (omega arith)
      of_node (Block ks v) m = refl

      of_entry : (o : Option (Entry L (Headed S))) → 1 ≤ times (kids_of_entry o) x → IsSome (block_of_entry o)
      of_entry None m = absurd (omega arith)
      of_entry (Some e) m = of_node e.node m

  block_within : (s : Forest L (Headed S)) (b : ℕ) (v : (Headed S)) → block_value s b ≡ Some v → b < length s.nodes
  block_within s b v e = elim (cases_lt b (length s.nodes)) [
    | inl l ↦ l
    | inr g ↦ absurd (let q : block_of_entry (entry s b) ≡ None = ap block_of_entry (get_or_past s.nodes b None g) in cc (q, e))
  ]

  pub written_changes : (s : Forest L (Headed S)) (b : ℕ) (v w : (Headed S)) → block_value s b ≡ Some v
      → Changes s (with_block s b w) b (with_block_entry (entry s b) w)
  written_changes s b v w e =
      record {
        changed = get_or-set_same s.nodes b (with_block_entry (entry s b) w) None (block_within s b v e);
        others = λ x d. get_or-set_other s.nodes b x (with_block_entry (entry s b) w) None d;
      }

  -- a block of the same height keeps everything but its value
  pub refreshed_shape : (s : Forest L (Headed S)) (b : ℕ) (v w : (Headed S)) → block_value s b ≡ Some v → w.height ≡ v.height → IsForest s
      → SameShape s (with_block s b w)
  refreshed_shape s b v w e h f =
      let new : Forest L (Headed S) = with_block s b w in
      let c : Changes s new b (with_block_entry (entry s b) w) = written_changes s b v w e in
      let leaves = kept leaf_of_entry s new b (with_block_entry (entry s b) w) c (written_leaf (entry s b) v w e) in
      let kids = kept kids_of_entry s new b (with_block_entry (entry s b) w) c (written_kids (entry s b) w) in
      let parents = kept parent_of_entry s new b (with_block_entry (entry s b) w) c (written_parent (entry s b) w) in
      record {
        leaves = refl;
        forest = IsForest-other s new (λ x. f.leaf_once x ∙ sym (ap count_some (leaves x))) kids parents f;
        spare = refl;
        leaf_values = leaves;
        kinds = kept kind_of_entry s new b (with_block_entry (entry s b) w) c (written_kind (entry s b) v w h e);
        kids = kids;
      }

  -- its length is that of its children, where the new value is measured so
  pub refreshed_sums : (measure : Measure L S) (s : Forest L (Headed S)) (b : ℕ) (v w : (Headed S)) → block_value s b ≡ Some v → times (kids_of s b) b ≡ 0
      → measure.block w ≡ total (length_of measure s) (kids_of s b) → Resums measure s (with_block s b w) b
  refreshed_sums measure s b v w e apart total_is =
      let new : Forest L (Headed S) = with_block s b w in
      let c : Changes s new b (with_block_entry (entry s b) w) = written_changes s b v w e in
      let kids = kept kids_of_entry s new b (with_block_entry (entry s b) w) c (written_kids (entry s b) w) in
      let others : (x : ℕ) → x ≢ b → length_of measure new x ≡ length_of measure s x = λ x d. ap (length_of_entry measure) (c.others x d) in
      record {
        others = others;
        sum = ap (length_of_entry measure) c.changed ∙ written_length measure (entry s b) v w e ∙ total_is
            ∙ sym (total_same (length_of measure s) (length_of measure new) (kids_of s b) (λ x m. others x (λ q. omega (arith, apart, ap (times (kids_of s b)) q))))
            ∙ ap (total (length_of measure new)) (sym (kids b));
      }

-- the shape stays, and so do the leaves by levels
pub SameShape-shape : {L S : Type 0} (s s' : Forest L (Headed S)) (root : ℕ) (extra short : Option ℕ) → IsShape s root extra short
    → SameShape s s' → IsShape s' root extra short
SameShape-shape s s' root extra short g r =
    let h : (x : ℕ) → height_of s' x ≡ height_of s x = λ x. kind_height (entry s x) (entry s' x) (r.kinds x) in
    let live : (x : ℕ) → IsSome (entry s' x) → IsSome (entry s x) = λ x. kind_live (entry s' x) (entry s x) (sym (r.kinds x)) in
    let block : (x : ℕ) → IsSome (block_value s' x) → IsSome (block_value s x) = λ x. kind_block (entry s' x) (entry s x) (sym (r.kinds x)) in
    let parents : (x : ℕ) → parent_of s' x ≡ parent_of s x =
    λ x. points_same (parent_of s' x) (parent_of s x) (λ k. sym (r.forest.child_once k x) ∙ ap (λ ks. times ks x) (r.kids k) ∙ g.forest.child_once k x) in
    record {
      forest = r.forest;
      root_is_block = kind_block (entry s root) (entry s' root) (r.kinds root) g.root_is_block;
      root_is_top = parents root ∙ g.root_is_top;
      one_top = λ x l d e. subst (λ (o : Option ℕ). IsSome o) (sym (parents x)) (g.one_top x (live x l) d e);
      low = λ x l. omega (arith, h x, h root, g.low x (live x l));
      heights = λ x k e. omega (arith, h x, h k, g.heights x k (sym (parents x) ∙ e));
      high = λ k l. omega (arith, h k, g.high k (block k l));
      half_full = λ k l d n. omega (arith, ap length (r.kids k), g.half_full k (block k l) d n);
      root_filled = omega (arith, ap length (r.kids root), g.root_filled);
    }

pub SameShape-below : {L S : Type 0} (s s' : Forest L (Headed S)) (n : ℕ) (xs : List ℕ) → SameShape s s' → below s' n xs ≡ below s n xs
SameShape-below s s' zero xs r = refl
SameShape-below s s' (suc n) xs r = ap (below s' n) (flat_map_same (kids_of s) (kids_of s') xs (λ x m. r.kids x)) ∙ SameShape-below s s' n (flat_map (kids_of s) xs) r

pub SameShape-parents : {L S : Type 0} (s s' : Forest L (Headed S)) → IsForest s → SameShape s s' → (x : ℕ) → parent_of s' x ≡ parent_of s x
SameShape-parents s s' f r x = points_same (parent_of s' x) (parent_of s x) (λ k. sym (r.forest.child_once k x) ∙ ap (λ ks. times ks x) (r.kids k) ∙ f.child_once k x)

-- once a block is right, only the block above it may have a wrong sum
pub SameShape-sums : {L S : Type 0} (measure : Measure L S) (s s' : Forest L (Headed S)) (b : ℕ) → SameShape s s' → Resums measure s s' b
    → SumsBut measure s (Some b)
    → SumsBut measure s' (parent_of s' b)
SameShape-sums measure s s' b r u sums k h stale = elim (cases_eq k b) [
  | inl e ↦ subst (λ (z : ℕ). length_of measure s' z ≡ total (length_of measure s') (kids_of s' z)) (sym e) u.sum
  | inr n ↦
      let inside : (x : ℕ) → 1 ≤ times (kids_of s' k) x → x ≢ b =
      λ x m e. stale (ap (parent_of s') (sym e) ∙ points_some (parent_of s' x) k (omega (arith, r.forest.child_once k x))) in
      u.others k n ∙ sums k (kind_block (entry s' k) (entry s k) (sym (r.kinds k)) h) (λ e. n (cc)) ∙ ap (total (length_of measure s)) (sym (r.kids k))
      ∙ sym (total_same (length_of measure s) (length_of measure s') (kids_of s' k) (λ x m. u.others x (inside x m)))
]

-- and that one owes as much
pub SameShape-owes : {L S : Type 0} (measure : Measure L S) (s s' : Forest L (Headed S)) (b more less : ℕ) → SameShape s s'
    → Resums measure s s' b → SumsBut measure s (Some b)
    → times (kids_of s b) b ≡ 0 → OwesAt measure s (Some b) more less → OwesAt measure s' (parent_of s' b) more less
SameShape-owes measure s s' b more less r u sums apart owes p up =
    let one : times (kids_of s' p) b ≡ 1 = r.forest.child_once p b ∙ points_at (parent_of s' b) p up in
    let apart_p : p ≢ b = (λ e. omega (arith, one, ap (λ z. times (kids_of s' z) b) e, ap (λ ks. times ks b) (r.kids b), apart)) in
    let c = total_change (length_of measure s) (length_of measure s') (kids_of s' p) b one (λ x m d. u.others x d) in
    let block : IsSome (block_value s p) = kind_block (entry s' p) (entry s p) (sym (r.kinds p)) (block_from_kid s' p b (omega (arith, one))) in
    omega (
      arith,
      u.others p apart_p,
      sums p block (λ e. apart_p (cc)),
      ap (total (length_of measure s)) (r.kids p),
      c,
      owes b refl,
      u.sum,
      total_same
          (length_of measure s) (length_of measure s') (kids_of s' b)
          (λ x m. u.others x (λ e. omega (arith, m, ap (times (kids_of s' b)) e, ap (λ ks. times ks b) (r.kids b), apart))),
      ap (total (length_of measure s)) (r.kids b),
    )

-- a tree stays a tree
pub SameShape-tree : {L S : Type 0} (s s' : Forest L (Headed S)) (root : ℕ) → IsTree s root → SameShape s s' → IsTree s' root
SameShape-tree s s' root t r =
    record {
      shape = SameShape-shape s s' root None None t.shape r;
      leaves = r.leaves ∙ t.leaves ∙ sym (SameShape-below s s' (height_of s root) (root ∷ []) r)
          ∙ ap (λ (n : ℕ). below s' n (root ∷ [])) (sym (kind_height (entry s root) (entry s' root) (r.kinds root)));
    }

-- so does a tree of some of the leaves
pub SameShape-part : {L S : Type 0} (s s' : Forest L (Headed S)) (root : ℕ) (extra short : Option ℕ) → IsPartTree s root extra short
    → SameShape s s' → IsPartTree s' root extra short
SameShape-part s s' root extra short t r =
    let h : (x : ℕ) → height_of s' x ≡ height_of s x = λ x. kind_height (entry s x) (entry s' x) (r.kinds x) in
    let e : below s' (height_of s' root) (root ∷ []) ≡ below s (height_of s root) (root ∷ []) =
    ap (λ (n : ℕ). below s' n (root ∷ [])) (h root) ∙ SameShape-below s s' (height_of s root) (root ∷ []) r in
    record {
      shape = SameShape-shape s s' root extra short t.shape r;
      low = λ x q. h x ∙ t.low x q;
      part = λ f. omega (arith, ap (total f) e, t.part f, ap (total f) r.leaves);
    }

pub SameShape-refl : {L S : Type 0} (s : Forest L (Headed S)) → IsForest s → SameShape s s
SameShape-refl s f = record { leaves = refl; forest = f; spare = refl; leaf_values = λ x. refl; kinds = λ x. refl; kids = λ x. refl }

pub SameShape-then : {L S : Type 0} (s t u : Forest L (Headed S)) → SameShape s t → SameShape t u → SameShape s u
SameShape-then s t u a b =
    record {
      leaves = b.leaves ∙ a.leaves;
      forest = b.forest;
      spare = b.spare ∙ a.spare;
      leaf_values = λ x. b.leaf_values x ∙ a.leaf_values x;
      kinds = λ x. b.kinds x ∙ a.kinds x;
      kids = λ x. b.kids x ∙ a.kids x;
    }
