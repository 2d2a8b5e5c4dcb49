-- How what blocks keep is exchanged on the way up.
use Rattle.std.proofs.Common.{◌≡◌, ℕ, ◌+◌, ◌-◌, ◌^◌, ◌<◌, ◌≤◌, ◌%◌, List, Bool, true, false, Option, Some, None, IsSome, refl, sym, ap, subst, ◌∙◌, inl, inr, arith}
use Rattle.ft_base.specs.declared.elements.Element.{Element}
use Rattle.ft_arena.specs.Ids.{times, points}
use Rattle.ft_arena.specs.Forest.{Forest, Entry, entry, kids_of, leaf_value, parent_of, block_value, block_of_entry, block_of_node, with_block, with_leaf}
use Rattle.ft_arena.specs.declared.nodes.Node.{Node}
use Rattle.ft_arena.specs.declared.nodes.Node.TheVariants.{Leaf, Block}
use Rattle.ft_arena.proofs.IdLemmas.{same_other}
use Rattle.std.proofs.lemmas.Bool.{cases_eq}
use Rattle.ft_partial.specs.Entries.{amount}
use Rattle.ft_shape.specs.declared.headed.Headed.{Headed}
use Rattle.ft_block.specs.declared.summaries.Summary.{Summary}
use Rattle.ft_block.specs.declared.leaves.View.{View}
use Rattle.ft_block.specs.Tree.{shows, shown_length}
use Rattle.ft_shape.specs.Tree.{total, Measure, length_of, length_of_entry, length_of_node, height_of, IsShape, IsTree}
use Rattle.ft_block.specs.Tree.{by_view, by_size, kept_length, HasRange}
use Rattle.ft_shape.specs.Tree.{IsPartTree, SumsBut, OwesAt, OwesAbove}
use Rattle.ft_shape.specs.Steps.{SameShape, Resums}
use Rattle.ft_shape.proofs.Levels.{block_from_height}
use Rattle.ft_shape.proofs.EditLemmas.{is_some_from}
use Rattle.ft_shape.proofs.FitLemmas.{kids_fit}
use Rattle.ft_shape.proofs.InsertLemmas.{changed_value, leaf_live}
use Rattle.ft_block.proofs.ViewLemmas.{all_fit}
use Rattle.ft_block.proofs.KeptLemmas.{kept_low, settled}
use Rattle.ft_shape.proofs.RefreshLemmas.{refreshed_shape, refreshed_sums, SameShape-shape, SameShape-sums, SameShape-owes}
use Rattle.ft_shape.proofs.KindLemmas.{kind_height, block_live}

-- how many blocks are still to be reached
pub levels_left : {L : Type 0} → Forest L (Headed Summary) → ℕ → Option ℕ → ℕ
levels_left s root None = 0
levels_left s root (Some b) = (height_of s root + 1) - height_of s b

levels_some : {L : Type 0} (s : Forest L (Headed Summary)) (root b : ℕ) → levels_left s root (Some b) ≡ (height_of s root + 1) - height_of s b
unfolding levels_left
levels_some s root b = refl

module _ {L : Type 0} where
  pub block_length : (measure : Measure L Summary) (o : Option (Entry L (Headed Summary))) (v : Headed Summary) → block_of_entry o ≡ Some v
      → length_of_entry measure o ≡ measure.block v
  block_length measure None v e = cc
  block_length measure (Some x) v e = of_node x.node e
    where
      of_node : (n : Node L (Headed Summary)) → block_of_node n ≡ Some v → length_of_node measure n ≡ measure.block v
      of_node (Leaf w) e = cc
      of_node (Block ks w) e = let q : w ≡ v = cc in ap measure.block q

  -- a whole tree is a tree of some of the leaves
  pub tree_part : (s : Forest L (Headed Summary)) (root : ℕ) → IsTree s root → IsPartTree s root None None
  tree_part s root t = record { shape = t.shape; low = λ id e. cc e; part = λ f. omega (arith, ap (total f) t.leaves) }

  -- no block is a child of its own
  pub no_own_child : (s : Forest L (Headed Summary)) (root : ℕ) (extra short : Option ℕ) → IsShape s root extra short → (b : ℕ) → times (kids_of s b) b ≡ 0
  no_own_child s root extra short t b = t.forest.child_once b b ∙ none (parent_of s b) refl
    where
      none : (o : Option ℕ) → parent_of s b ≡ o → points o b ≡ 0
      none None e = refl
      none (Some p) e = elim (cases_eq p b) [
        | inl c ↦ absurd (omega (arith, t.heights b p e, ap (height_of s) c))
        | inr d ↦ same_other p b d
      ]

module _ {L : Type 0} (size : L → ℕ) (element : L → Element) (floor : ℕ) (s : Forest L (Headed Summary)) (root : ℕ) (extra short : Option ℕ) (t : IsPartTree s root extra short)
    (fits : total (length_of (by_size size) s) s.leaves < 2 ^ 64) (b : ℕ) (v w : Headed Summary) (found : block_value s b ≡ Some v) (height : w.height ≡ v.height) where
  ex_block : IsSome (block_value s b)
  ex_block = is_some_from (block_value s b) v found

  pub ex_shape : SameShape s (with_block s b w)
  ex_shape = refreshed_shape s b v w found height t.shape.forest

  module _ (view : View) (sums : SumsBut (by_view size element view) s (Some b)) where
    ex_fits : total (length_of (by_view size element view) s) (kids_of s b) < 2 ^ 64
    ex_fits =
        let high = t.shape.high b ex_block in
        omega (
          arith,
          kids_fit (by_view size element view) s root extra t.shape b ex_block (λ y l e. omega (arith, high, l, t.low y e))
              (λ k q l. sums k q (λ e. let c : b ≡ k = cc e in omega (arith, l, ap (height_of s) c))),
          t.part (length_of (by_view size element view) s),
          all_fit size
              element view s t.shape.forest,
          fits,
        )

    module _ (more less : ℕ) (low : HasRange w.sum) (ex : (kept_length view w.sum + less) % 2 ^ 64 ≡ (kept_length view v.sum + more) % 2 ^ 64)
        (owes : OwesAt (by_view size element view) s (Some b) more less) where
      pub ex_resums : Resums (by_view size element view) s (with_block s b w) b
      ex_resums =
          let was : length_of (by_view size element view) s b ≡ kept_length view v.sum = block_length (by_view size element view) (entry s b) v found in
          refreshed_sums (by_view size element view) s b v w found (no_own_child s root extra short t.shape b)
          (settled (kept_length view w.sum) (kept_length view v.sum) more less (total (length_of (by_view size element view) s) (kids_of s b)) ex
          (ap (λ (x : ℕ). x + more) (sym was) ∙ owes b refl) (kept_low w.sum low view) ex_fits)

      pub ex_sums : SumsBut (by_view size element view) (with_block s b w) (parent_of (with_block s b w) b)
      ex_sums = SameShape-sums (by_view size element view) s (with_block s b w) b ex_shape ex_resums sums

      pub ex_owes : OwesAt (by_view size element view) (with_block s b w) (parent_of (with_block s b w) b) more less
      ex_owes = SameShape-owes (by_view size element view) s (with_block s b w) b more less ex_shape ex_resums sums (no_own_child s root extra short t.shape b) owes

-- the next block up is a block, and fewer are left
module _ {L : Type 0} (s : Forest L (Headed Summary)) (root : ℕ) (extra short : Option ℕ) (t : IsPartTree s root extra short) (b : ℕ) (v w : Headed Summary)
    (found : block_value s b ≡ Some v) (height : w.height ≡ v.height) where
  nx_shape : SameShape s (with_block s b w)
  nx_shape = refreshed_shape s b v w found height t.shape.forest

  nx_high : (x : ℕ) → height_of (with_block s b w) x ≡ height_of s x
  nx_high x = kind_height (entry s x) (entry (with_block s b w) x) (nx_shape.kinds x)

  nx_tree : IsShape (with_block s b w) root extra short
  nx_tree = SameShape-shape s (with_block s b w) root extra short t.shape nx_shape

  pub ex_next : (next : Option ℕ) → next ≡ parent_of (with_block s b w) b → (p : ℕ) → next ≡ Some p → IsSome (block_value (with_block s b w) p)
  ex_next next is p e = block_from_height (entry (with_block s b w) p) (omega (arith, nx_tree.heights b p (sym is ∙ e)))

  nx_left : (next : Option ℕ) → next ≡ parent_of (with_block s b w) b → levels_left (with_block s b w) root next ≤ height_of s root - height_of s b
  unfolding levels_left
  nx_left None e = omega arith
  nx_left (Some p) e = omega (arith, nx_high root, nx_high b, nx_tree.heights b p (sym e))

  pub ex_smaller : (at next : Option ℕ) → at ≡ Some b → next ≡ parent_of (with_block s b w) b → levels_left (with_block s b w) root next < levels_left s root at
  ex_smaller at next is up =
      let here : levels_left s root at ≡ (height_of s root + 1) - height_of s b = ap (levels_left s root) is ∙ levels_some s root b in
      let low : height_of s b ≤ height_of s root = t.shape.low b (block_live (entry s b) (is_some_from (block_value s b) v found)) in
      omega (arith, here, low, nx_left next up)

-- what comes and goes where a leaf comes, as the exchange says it
pub none_gone : (b : Bool) → amount b 0 ≡ 0
none_gone true = refl
none_gone false = refl

amount_sum : (b : Bool) (n m : ℕ) → amount b (n + m) ≡ amount b n + amount b m
amount_sum true n m = refl
amount_sum false n m = refl

module _ {L : Type 0} (size : L → ℕ) (element : L → Element) (view : View) where
  pub leaf_amount : (leaf : L) (e : Element) (n : ℕ) → e ≡ element leaf → n ≡ size leaf → amount (shows view e) n ≡ shown_length size element view leaf
  leaf_amount leaf e n is many = ap (λ z. amount (shows view z) n) is ∙ ap (λ (k : ℕ). amount (shows view (element leaf)) k) many

  -- a leaf is put in where there was none
  pub comes : (s : Forest L (Headed Summary)) (at : ℕ) (ed : List ℕ → List ℕ) (leaf : L) (e : Element) (n : ℕ) → e ≡ element leaf → n ≡ size leaf
      → OwesAbove (by_view size element view) s at ed (0 + shown_length size element view leaf) 0
      → OwesAbove (by_view size element view) s at ed (amount (shows view e) n) (amount (shows view e) 0)
  comes s at ed leaf e n is many owes =
      let a : 0 + shown_length size element view leaf ≡ amount (shows view e) n = omega (arith, leaf_amount leaf e n is many) in
      let b : 0 ≡ amount (shows view e) 0 = sym (none_gone (shows view e)) in
      subst (λ (k : ℕ). OwesAbove (by_view size element view) s at ed (amount (shows view e) n) k) b (subst (λ (k : ℕ). OwesAbove (by_view size element view) s at ed k 0) a owes)

  -- a leaf is taken out
  pub goes : (s : Forest L (Headed Summary)) (stale : Option ℕ) (leaf : L) (e : Element) (n : ℕ) → e ≡ element leaf → n ≡ size leaf
      → OwesAt (by_view size element view) s stale 0 (shown_length size element view leaf)
      → OwesAt (by_view size element view) s stale (amount (shows view e) 0) (amount (shows view e) n)
  goes s stale leaf e n is many owes =
      subst (λ (k : ℕ). OwesAt (by_view size element view) s stale (amount (shows view e) 0) k) (sym (leaf_amount leaf e n is many))
      (subst (λ (k : ℕ). OwesAt (by_view size element view) s stale k (shown_length size element view leaf)) (sym (none_gone (shows view e))) owes)

  -- a leaf changes
  pub turns : (s : Forest L (Headed Summary)) (stale : Option ℕ) (v w : L) (e f : Element) (n m : ℕ) → e ≡ element v → n ≡ size v → f ≡ element w → m ≡ size w
      → OwesAt (by_view size element view) s stale (shown_length size element view w) (shown_length size element view v)
      → OwesAt (by_view size element view) s stale (amount (shows view f) m) (amount (shows view e) n)
  turns s stale v w e f n m ev nv fw mw owes =
      subst (λ (k : ℕ). OwesAt (by_view size element view) s stale (amount (shows view f) m) k) (sym (leaf_amount v e n ev nv))
      (subst (λ (k : ℕ). OwesAt (by_view size element view) s stale k (shown_length size element view v)) (sym (leaf_amount w f m fw mw)) owes)

  -- a leaf has m elements more
  pub grows : (s : Forest L (Headed Summary)) (stale : Option ℕ) (v w : L) (e : Element) (m : ℕ) → e ≡ element v → element w ≡ element v → size w ≡ size v + m
      → OwesAt (by_view size element view) s stale (shown_length size element view w) (shown_length size element view v)
      → OwesAt (by_view size element view) s stale (amount (shows view e) m) (amount (shows view e) 0)
  grows s stale v w e m ev wv more owes b q =
      omega (
        arith,
        owes b q,
        leaf_amount v e (size v) ev refl,
        leaf_amount w e (size v + m) (ev ∙ sym wv) (sym more),
        amount_sum (shows view e) (size v) m,
        none_gone (shows view e),
      )

-- who is a parent in a tree is a block
pub parent_block : {L : Type 0} (s : Forest L (Headed Summary)) (root : ℕ) → IsTree s root → (at b : ℕ) → parent_of s at ≡ Some b → IsSome (block_value s b)
parent_block s root t at b up = block_from_height (entry s b) (omega (arith, t.shape.heights at b up))

-- a leaf with another value is still there
pub changed_live : {L : Type 0} (s : Forest L (Headed Summary)) (root at : ℕ) (v w : L) → IsTree s root → leaf_value s at ≡ Some v → IsSome (entry
    (with_leaf s at w) at)
changed_live s root at v w t found =
    leaf_live (entry (with_leaf s at w) at) (is_some_from (leaf_value (with_leaf s at w) at) w (changed_value s root at v w t found))
