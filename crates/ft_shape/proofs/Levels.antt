-- Lemmas on the levels of a tree.
use Rattle.std.proofs.Common.{◌≡◌, ◌≢◌, ℕ, zero, suc, ◌+◌, ◌-◌, ◌*◌, ◌^◌, ◌<◌, ◌≤◌, List, [], ◌∷◌, ◌++◌, length, Option, Some, None, IsSome, refl, sym, ap, subst, ◌∙◌}
use Rattle.std.proofs.Common.{inl, inr, arith}
use Rattle.std.proofs.lemmas.Bool.{cases_eq, cases_lt}
use Rattle.std.proofs.lemmas.List.{length-append, append-nil}
use Rattle.std.proofs.lemmas.Grind.{pow_more}
use Rattle.std.proofs.Math.Nat.{mul-le-mul_left}
use Rattle.std.proofs.lemmas.List.Concat.{flat_map-append}
use Rattle.std.proofs.lemmas.Option.{some_pair_parts}
use Rattle.std.specs.List.{flat_map}
use Rattle.ft_arena.specs.declared.nodes.Node.{Node}
use Rattle.ft_arena.specs.declared.nodes.Node.TheVariants.{Leaf, Block}
use Rattle.ft_arena.specs.Ids.{times, points}
use Rattle.ft_arena.specs.Forest.{Forest, Entry, entry, kids_of, parent_of, block_value, block_of_entry, block_of_node, parent_of_entry}
use Rattle.ft_arena.proofs.IdLemmas.{same_refl, same_other, times-append}
use Rattle.ft_shape.specs.declared.headed.Headed.{Headed}
use Rattle.ft_shape.specs.Tree.{total, seek, height_of, height_of_entry, height_of_node, Measure, length_of, below, IsShape, IsTree, SumsBut}
use Rattle.ft_shape.proofs.Lists.{total-append, seek_found, seek_here, seek_later, seek-append_left, seek-append_right}

pub points_some : (o : Option ℕ) (b : ℕ) → 1 ≤ points o b → o ≡ Some b
points_some None b h = absurd (omega arith)
points_some (Some x) b h = elim (cases_eq x b) [ inl e ↦ ap Some e | inr d ↦ absurd (omega (arith, same_other x b d)) ]

pub points_at : (o : Option ℕ) (b : ℕ) → o ≡ Some b → points o b ≡ 1
points_at o b e = ap (λ q. points q b) e ∙ same_refl b

-- a member of the joined lists is a member of one of them
pub flat_map_member : (f : ℕ → List ℕ) (xs : List ℕ) (k : ℕ) → 1 ≤ times (flat_map f xs) k → (x : ℕ) × (1 ≤ times xs x) × (1 ≤ times (f x) k)
flat_map_member f [] k h = absurd (omega arith)
flat_map_member f (y ∷ ys) k h = elim (cases_lt 0 (times (f y) k)) [
  | inl l ↦ (y, omega (arith, same_refl y), omega arith)
  | inr g ↦ let r = flat_map_member f ys k (omega (arith, times-append (f y) (flat_map f ys) k)) in (r.0, omega (arith, r.1), r.2)
]

four_pos : (j : ℕ) → 1 ≤ 4 ^ j
four_pos zero = omega arith
four_pos (suc j) =
    let n : j + 1 ≡ suc j = omega arith in
    subst (λ (m : ℕ). 1 ≤ 4 ^ m) n (omega (arith, pow_more 4 j, four_pos j))

twice_less : (n : ℕ) → 2 * n < 4 ^ n
twice_less zero = omega arith
twice_less (suc n) =
    let e : n + 1 ≡ suc n = omega arith in
    subst (λ (m : ℕ). 2 * m < 4 ^ m) e (omega (arith, pow_more 4 n, twice_less n))

le_chain : (w x y z : ℕ) → 4 * x ≤ y → w * y ≤ z → (w * 4) * x ≤ z
le_chain w x y z a b = omega (arith, mul-le-mul_left w a)

module _ {L S : Type 0} where
  pub block_from_height : (o : Option (Entry L (Headed S))) → 1 ≤ height_of_entry o → IsSome (block_of_entry o)
  block_from_height None h = absurd (omega arith)
  block_from_height (Some e) h = of_node e.node h
    where
      of_node : (n : Node L (Headed S)) → 1 ≤ height_of_node n → IsSome (block_of_node n)
      of_node (Leaf v) h = absurd (omega arith)
      of_node (Block ks v) h = refl

  pub live_from_parent : (o : Option (Entry L (Headed S))) (b : ℕ) → parent_of_entry o ≡ Some b → IsSome o
  live_from_parent None b h = cc
  live_from_parent (Some e) b h = refl

  pub below-append : (s : Forest L (Headed S)) (j : ℕ) (xs ys : List ℕ) → below s j (xs ++ ys) ≡ below s j xs ++ below s j ys
  below-append s zero xs ys = refl
  below-append s (suc j) xs ys = ap (below s j) (flat_map-append (kids_of s) xs ys) ∙ below-append s j (flat_map (kids_of s) xs) (flat_map (kids_of s) ys)

  -- each of these heads so many levels
  abbrev pub AllHigh : Forest L (Headed S) → ℕ → List ℕ → Type 0
  AllHigh s j xs = (x : ℕ) → 1 ≤ times xs x → height_of s x ≡ j

module _ {L S : Type 0} (s : Forest L (Headed S)) (root : ℕ) where
  root_only : (x : ℕ) → 1 ≤ times (root ∷ []) x → height_of s x ≡ height_of s root
  root_only x m = elim (cases_eq root x) [ inl e ↦ ap (height_of s) (sym e) | inr d ↦ absurd (omega (arith, same_other root x d)) ]

  -- the root alone is a level
  pub root_high : AllHigh s (height_of s root) (root ∷ [])
  root_high x m = root_only x m

module _ {L S : Type 0} (s : Forest L (Headed S)) (root : ℕ) (extra : Option ℕ) {short : Option ℕ} (t : IsShape s root extra short) where
  pub kid_parent : (b k : ℕ) → 1 ≤ times (kids_of s b) k → parent_of s k ≡ Some b
  kid_parent b k h = points_some (parent_of s k) b (omega (arith, t.forest.child_once b k))

  -- a child is one level below its block
  pub steps_down : (b k : ℕ) → 1 ≤ times (kids_of s b) k → height_of s b ≡ height_of s k + 1
  steps_down b k h = t.heights k b (kid_parent b k h)

  pub kids_high : (j : ℕ) (xs : List ℕ) → AllHigh s (suc j) xs → AllHigh s j (flat_map (kids_of s) xs)
  kids_high j xs h k m =
      let r = flat_map_member (kids_of s) xs k m in
      omega (arith, h r.0 r.1, steps_down r.0 k r.2)

  pub block_from_high : (j x : ℕ) → height_of s x ≡ suc j → IsSome (block_value s x)
  block_from_high j x h = block_from_height (entry s x) (omega (arith, h))

-- the blocks of at most this height are as long as their children together
abbrev pub SumsUpTo : {L S : Type 0} → Measure L S → Forest L (Headed S) → ℕ → Type 0
SumsUpTo measure s j = (b : ℕ) → IsSome (block_value s b) → height_of s b ≤ j → length_of measure s b ≡ total (length_of measure s) (kids_of s b)

module _ {L S : Type 0} (measure : Measure L S) (s : Forest L (Headed S)) (root : ℕ) (extra : Option ℕ) {short : Option ℕ}
    (t : IsShape s root extra short) where
  pub total_kids_up_to : (j : ℕ) (xs : List ℕ) → SumsUpTo measure s (suc j) → AllHigh s (suc j) xs
      → total (length_of measure s) (flat_map (kids_of s) xs) ≡ total (length_of measure s) xs
  total_kids_up_to j [] sums h = refl
  total_kids_up_to j (x ∷ xs) sums h =
      let hx : height_of s x ≡ suc j = h x (omega (arith, same_refl x)) in
      omega (
        arith,
        total-append (length_of measure s) (kids_of s x) (flat_map (kids_of s) xs),
        sums x (block_from_high s root extra t j x hx) (omega (arith, hx)),
        total_kids_up_to j xs sums (λ y m. h y (omega arith)),
      )

  -- the kept lengths of a level are those of its leaves together
  pub total_below_up_to : (j : ℕ) (xs : List ℕ) → SumsUpTo measure s j → AllHigh s j xs
      → total (length_of measure s) (below s j xs) ≡ total (length_of measure s) xs
  total_below_up_to zero xs sums h = refl
  total_below_up_to (suc j) xs sums h =
      total_below_up_to j (flat_map (kids_of s) xs) (λ b i l. sums b i (omega arith)) (kids_high s root extra t j xs h) ∙ total_kids_up_to j xs sums h

-- the child lies one level further down, and the place lies in its stretch
pub record IsDescent {L S : Type 0} (measure : Measure L S) (s : Forest L (Headed S)) (at child rest further : ℕ) : Type 0 where
  pub high : height_of s at ≡ height_of s child + 1
  pub low : 1 ≤ further
  pub within : further ≤ length_of measure s child
  pub same : seek (length_of measure s) (below s (height_of s at) (at ∷ [])) rest
      ≡ seek (length_of measure s) (below s (height_of s child) (child ∷ [])) further

module _ {L S : Type 0} (measure : Measure L S) (s : Forest L (Headed S)) (root : ℕ) (t : IsTree s root) (sums : SumsBut measure s None) where
  all_sums : (b : ℕ) → IsSome (block_value s b) → length_of measure s b ≡ total (length_of measure s) (kids_of s b)
  all_sums b h = sums b h (λ e. cc)

  pub total-below : (j : ℕ) (xs : List ℕ) → AllHigh s j xs → total (length_of measure s) (below s j xs) ≡ total (length_of measure s) xs
  total-below j xs h = total_below_up_to measure s root None t.shape j xs (λ b i _. all_sums b i) h

  -- what lies in the stretch of one node of a level lies among the leaves below it
  pub seek-below : (j : ℕ) (xs : List ℕ) (p x q : ℕ) → AllHigh s j xs → 1 ≤ p → seek (length_of measure s) xs p ≡ Some (x, q)
      → seek (length_of measure s) (below s j xs) p ≡ seek (length_of measure s) (below s j (x ∷ [])) q
  seek-below j [] p x q h l e = cc
  seek-below j (y ∷ ys) p x q h l e =
      let f : ℕ → ℕ = length_of measure s in
      let apart : below s j (y ∷ ys) ≡ below s j (y ∷ []) ++ below s j ys = below-append s j (y ∷ []) ys in
      let one : AllHigh s j (y ∷ []) = λ z m. h z (omega arith) in
      let sum : total f (below s j (y ∷ [])) ≡ f y + 0 = total-below j (y ∷ []) one in
      elim (cases_lt (f y) p) [
        | inl g ↦
            let r : seek f (below s j ys) (p - f y) ≡ seek f (below s j (x ∷ [])) q =
            seek-below j ys (p - f y) x q (λ z m. h z (omega arith)) (omega arith) (sym (seek_later f y ys p g) ∙ e) in
            let m : p - total f (below s j (y ∷ [])) ≡ p - f y = omega (arith, sum) in
            ap (λ (zs : List ℕ). seek f zs p) apart ∙ seek-append_right f (below s j (y ∷ [])) (below s j ys) p (omega (arith, sum)) ∙ ap (seek f (below s j ys)) m ∙ r
        | inr g ↦
            let parts = some_pair_parts y x p q (sym (seek_here f y ys p g) ∙ e) in
            ap (λ (zs : List ℕ). seek f zs p) apart ∙ seek-append_left f (below s j (y ∷ [])) (below s j ys) p l (omega (arith, sum))
            ∙ ap (λ (z : ℕ). seek f (below s j (z ∷ [])) p) parts.0 ∙ ap (seek f (below s j (x ∷ []))) parts.1
      ]

  pub descends : (at child rest further : ℕ) → 1 ≤ rest → seek (length_of measure s) (kids_of s at) rest ≡ Some (child, further)
      → IsDescent measure s at child rest further
  descends at child rest further l found =
      let f : ℕ → ℕ = length_of measure s in
      let m = seek_found f (kids_of s at) rest child further l found in
      let high : height_of s at ≡ height_of s child + 1 = steps_down s root None t.shape at child m.member in
      let e : height_of s at ≡ suc (height_of s child) = omega (arith, high) in
      let kids : kids_of s at ++ [] ≡ kids_of s at = append-nil (kids_of s at) in
      let all : AllHigh s (height_of s child) (kids_of s at ++ []) =
      λ k i. omega (arith, high, steps_down s root None t.shape at k (subst (λ (zs : List ℕ). 1 ≤ times zs k) kids i)) in
      record {
        high = high;
        low = m.low;
        within = m.within;
        same = ap (λ (h : ℕ). seek f (below s h (at ∷ [])) rest) e
            ∙ seek-below (height_of s child) (kids_of s at ++ []) rest child further all l (ap (λ (zs : List ℕ). seek f zs rest) kids ∙ found);
      }

  -- all leaves together are as long as the root says
  pub total_leaves : total (length_of measure s) s.leaves ≡ length_of measure s root
  total_leaves = ap (total (length_of measure s)) t.leaves ∙ total-below (height_of s root) (root ∷ []) (root_high s root) ∙ omega arith

module _ {L S : Type 0} (s : Forest L (Headed S)) (root : ℕ) (t : IsTree s root) where
  -- a level of blocks, none of them the root, has at least four times as many children
  kids_many : (j : ℕ) (xs : List ℕ) → AllHigh s (suc j) xs → ((x : ℕ) → 1 ≤ times xs x → x ≢ root) → 4 * length xs ≤ length (flat_map (kids_of s) xs)
  kids_many j [] h n = omega arith
  kids_many j (x ∷ xs) h n =
      let m : 1 ≤ times (x ∷ xs) x = omega (arith, same_refl x) in
      omega (
        arith,
        length-append (kids_of s x) (flat_map (kids_of s) xs),
        t.shape.half_full x (block_from_high s root None t.shape j x (h x m)) (n x m) (λ e. cc),
        kids_many j xs (λ y i. h y (omega arith)) (λ y i. n y (omega arith)),
      )

  not_root : (xs : List ℕ) (k : ℕ) → 1 ≤ times (flat_map (kids_of s) xs) k → k ≢ root
  not_root xs k m e =
      let r = flat_map_member (kids_of s) xs k m in
      let p : parent_of s k ≡ Some r.0 = kid_parent s root None t.shape r.0 k r.2 in
      let q : parent_of s k ≡ None = ap (parent_of s) e ∙ t.shape.root_is_top in
      cc (p, q)

  below_many : (j : ℕ) (xs : List ℕ) → AllHigh s j xs → ((x : ℕ) → 1 ≤ times xs x → x ≢ root) → 4 ^ j * length xs ≤ length (below s j xs)
  below_many zero xs h n = omega arith
  below_many (suc j) xs h n =
      let a : 4 * length xs ≤ length (flat_map (kids_of s) xs) = kids_many j xs h n in
      let b = below_many j (flat_map (kids_of s) xs) (kids_high s root None t.shape j xs h) (not_root xs) in
      let n : j + 1 ≡ suc j = omega arith in
      subst (λ (m : ℕ). 4 ^ m * length xs ≤ length (below s (suc j) xs)) n
      (subst (λ (w : ℕ). w * length xs ≤ length (below s (suc j) xs)) (sym (pow_more 4 j))
      (le_chain (4 ^ j) (length xs) (length (flat_map (kids_of s) xs)) (length (below s (suc j) xs)) a b))

  -- a tree with d levels of blocks below its root has at least 4 ^ d leaves, or one less
  pub depth_bound : 4 ^ (height_of s root - 1) ≤ length s.leaves + 1
  depth_bound = by_height (height_of s root) refl
    where
      by_height : (h : ℕ) → height_of s root ≡ h → 4 ^ (h - 1) ≤ length s.leaves + 1
      by_height zero e = omega arith
      by_height (suc zero) e = omega arith
      by_height (suc (suc j)) e =
          let all : AllHigh s (suc (suc j)) (root ∷ []) = λ x m. root_high s root x m ∙ e in
          let high : AllHigh s (suc j) (flat_map (kids_of s) (root ∷ [])) = kids_high s root None t.shape (suc j) (root ∷ []) all in
          let many = below_many (suc j) (flat_map (kids_of s) (root ∷ [])) high (not_root (root ∷ [])) in
          let some : 1 ≤ length (flat_map (kids_of s) (root ∷ [])) = omega (arith, length-append (kids_of s root) [], t.shape.root_filled) in
          let there : s.leaves ≡ below s (suc j) (flat_map (kids_of s) (root ∷ [])) = t.leaves ∙ ap (λ h. below s h (root ∷ [])) e in
          let count : 4 ^ suc j * 1 ≤ 4 ^ suc j * length (flat_map (kids_of s) (root ∷ [])) = mul-le-mul_left (4 ^ suc j) some in
          let n : suc (suc j) - 1 ≡ suc j = omega arith in
          subst (λ (m : ℕ). 4 ^ m ≤ length s.leaves + 1) (sym n) (omega (arith, count, many, ap length there))

  -- a tree has a leaf
  pub some_leaf : 1 ≤ length s.leaves
  some_leaf = by_height (height_of s root) refl
    where
      by_height : (h : ℕ) → height_of s root ≡ h → 1 ≤ length s.leaves
      by_height zero e = absurd (omega (arith, e, t.shape.high root t.shape.root_is_block))
      by_height (suc j) e =
          let all : AllHigh s (suc j) (root ∷ []) = λ x m. root_high s root x m ∙ e in
          let high : AllHigh s j (flat_map (kids_of s) (root ∷ [])) = kids_high s root None t.shape j (root ∷ []) all in
          let many = below_many j (flat_map (kids_of s) (root ∷ [])) high (not_root (root ∷ [])) in
          let some : 1 ≤ length (flat_map (kids_of s) (root ∷ [])) = omega (arith, length-append (kids_of s root) [], t.shape.root_filled) in
          let there : s.leaves ≡ below s j (flat_map (kids_of s) (root ∷ [])) = t.leaves ∙ ap (λ h. below s h (root ∷ [])) e in
          let count : 4 ^ j * 1 ≤ 4 ^ j * length (flat_map (kids_of s) (root ∷ [])) = mul-le-mul_left (4 ^ j) some in
          let one : 1 ≤ 4 ^ j = four_pos j in
          omega (arith, count, many, one, ap length there)

  -- a tree over fewer than 2 ^ 64 leaves is far lower than that
  pub height_fits : length s.leaves < 2 ^ 64 → height_of s root + 2 < 2 ^ 64
  height_fits few = omega (arith, depth_bound, twice_less (height_of s root - 1), few)
