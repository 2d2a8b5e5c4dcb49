-- A tree from which a leaf is taken, which stays in the list: its block may have too few children then.
use Rattle.std.proofs.Common.{◌≡◌, ◌≢◌, ℕ, zero, suc, ◌+◌, ◌≤◌, List, [], ◌∷◌, length, slice_get, Option, Some, None, IsSome, refl, sym, ap, subst, ◌∙◌, inl, inr, arith}
use Rattle.std.proofs.Common.{append-nil}
use Rattle.std.proofs.lemmas.Bool.{cases_eq}
use Rattle.std.proofs.lemmas.List.Edits.{length-remove}
use Rattle.std.proofs.lemmas.Option.{slice_get_within}
use Rattle.std.specs.List.{flat_map}
use Rattle.ft_arena.specs.Ids.{times, points, without}
use Rattle.ft_arena.specs.Forest.{Forest, IsForest, TakesChild, entry, kids_of, parent_of, block_value, leaf_value}
use Rattle.ft_arena.proofs.IdLemmas.{same_other}
use Rattle.ft_arena.proofs.RingLemmas.{without_later}
use Rattle.ft_shape.specs.declared.headed.Headed.{Headed}
use Rattle.ft_shape.specs.Tree.{total, height_of, kind_of, Measure, length_of, below, IsTree, IsPartTree, IsApart, SumsBut, OwesAt}
use Rattle.ft_shape.specs.Steps.{SameShape}
use Rattle.ft_shape.proofs.Levels.{points_at, block_from_height}
use Rattle.ft_shape.proofs.EditLemmas.{flat_map_same, total_same, some_of}
use Rattle.ft_shape.proofs.KindLemmas.{kind_height, kind_live, kind_block, kind_from_values, length_from_values}
use Rattle.ft_shape.proofs.FitLemmas.{leaf_length}
use Rattle.ft_shape.proofs.InsertLemmas.{leaf_height, leaf_live, leaf_kids}
use Rattle.ft_shape.proofs.RefreshLemmas.{SameShape-shape, SameShape-below, SameShape-parents}
use Rattle.ft_shape.proofs.WithoutLemmas.{without_apart, without-flat_map, flat_map-without, total-without, total-without_le, remove_is_without}

-- a tree of all leaves but one is a tree of some leaves
pub apart_part : {L S : Type 0} (s : Forest L (Headed S)) (root id : ℕ) (short : Option ℕ) → IsApart s root id short → IsPartTree s root (Some id) short
apart_part s root id short a =
    record {
      shape = a.shape;
      low = λ x e. let q : id ≡ x = cc e in ap (height_of s) (sym q) ∙ leaf_height (entry s id) a.live;
      part = λ f. omega (arith, ap (total f) a.leaves, total-without_le f s.leaves id);
    }

-- it stays one where leaves, children and heights stay
pub SameShape-apart : {L S : Type 0} (s s' : Forest L (Headed S)) (root id : ℕ) (short : Option ℕ) → IsApart s root id short
    → SameShape s s' → IsApart s' root id short
SameShape-apart {L} s s' root id short a r =
    let h : height_of s' root ≡ height_of s root = kind_height (entry s root) (entry s' root) (r.kinds root) in
    let shape = SameShape-shape s s' root (Some id) short a.shape r in
    record {
      shape = shape;
      live = subst (λ (o : Option L). IsSome o) (sym (r.leaf_values id)) a.live;
      top = SameShape-parents s s' a.shape.forest r id ∙ a.top;
      leaves = ap (λ zs. without zs id) r.leaves ∙ a.leaves ∙ sym (SameShape-below s s' (height_of s root) (root ∷ []) r) ∙ ap (λ (n : ℕ). below s' n (root ∷ [])) (sym h);
      filled = λ b e. omega (arith, a.filled b e, ap length (r.kids b));
    }

-- the child taken out at a leaf's place is the leaf
pub took_id : {L S : Type 0} (s0 s1 : Forest L (Headed S)) (p place id k : ℕ) → slice_get (kids_of s0 p) place ≡ Some id
    → slice_get (kids_of s0 p) place ≡ Some k
    → TakesChild s0 s1 p place k → TakesChild s0 s1 p place id
took_id s0 s1 p place id k e h t =
    let q : Some k ≡ Some id = sym h ∙ e in
    let is : k ≡ id = cc q in
    subst (λ (z : ℕ). TakesChild s0 s1 p place z) is t

-- a leaf of a tree has a parent, which is a block
module _ {L S : Type 0} (s : Forest L (Headed S)) (root id : ℕ) where
  pub has_parent : IsTree s root → IsSome (leaf_value s id) → parent_of s id ≡ None → ⊥
  has_parent t live none =
      let d : id ≢ root = (λ e. omega (arith, t.shape.high root t.shape.root_is_block, ap (height_of s) e, leaf_height (entry s id) live)) in
      let b = some_of (parent_of s id) (t.shape.one_top id (leaf_live (entry s id) live) d (λ e. cc e)) in
      cc (b.1, none)

  module _ (p : ℕ) (t : IsTree s root) (up : parent_of s id ≡ Some p) where
    pub tk_up_block : IsSome (block_value s p)
    tk_up_block = block_from_height (entry s p) (omega (arith, t.shape.heights id p up))

    pub tk_child : 1 ≤ times (kids_of s p) id
    tk_child = omega (arith, t.shape.forest.child_once p id, points_at (parent_of s id) p up)

module _ {L S : Type 0} (s0 s1 : Forest L (Headed S)) (root id p place : ℕ) (t : IsTree s0 root) (live : IsSome (leaf_value s0 id)) (up : parent_of s0 id ≡ Some p)
    (l : s1.leaves ≡ s0.leaves) (forest : IsForest s1) (found : slice_get (kids_of s0 p) place ≡ Some id) (r : TakesChild s0 s1 p place id) (many : 2 ≤ length s0.leaves)
  where
    tk_kinds : (x : ℕ) → kind_of s1 x ≡ kind_of s0 x
    tk_kinds x = kind_from_values (entry s0 x) (entry s1 x) (r.leaf_values x) (r.block_values x)

    pub tk_high : (x : ℕ) → height_of s1 x ≡ height_of s0 x
    tk_high x = kind_height (entry s0 x) (entry s1 x) (tk_kinds x)

    tk_was_live : (x : ℕ) → IsSome (entry s1 x) → IsSome (entry s0 x)
    tk_was_live x h = kind_live (entry s1 x) (entry s0 x) (sym (tk_kinds x)) h

    tk_was_block : (x : ℕ) → IsSome (block_value s1 x) → IsSome (block_value s0 x)
    tk_was_block x h = kind_block (entry s1 x) (entry s0 x) (sym (tk_kinds x)) h

    tk_id_low : height_of s0 id ≡ 0
    tk_id_low = leaf_height (entry s0 id) live

    tk_p_high : height_of s0 p ≡ 1
    tk_p_high = omega (arith, t.shape.heights id p up, tk_id_low)

    pub tk_p_block : IsSome (block_value s1 p)
    tk_p_block = kind_block (entry s0 p) (entry s1 p) (tk_kinds p) (block_from_height (entry s0 p) (omega (arith, tk_p_high)))

    tk_once : times (kids_of s0 p) id ≡ 1
    tk_once = t.shape.forest.child_once p id ∙ points_at (parent_of s0 id) p up

    tk_kids : (x : ℕ) → kids_of s1 x ≡ without (kids_of s0 x) id
    tk_kids x = elim (cases_eq x p) [
      | inl e ↦ subst (λ (z : ℕ). kids_of s1 z ≡ without (kids_of s0 z) id) (sym e) (r.kids ∙ remove_is_without (kids_of s0 p) place id found tk_once)
      | inr d ↦ r.other_kids x d ∙ sym (without_apart (kids_of s0 x) id (t.shape.forest.child_once x id ∙ ap (λ o. points o x) up ∙ same_other p x (λ e. d (sym e))))
    ]

    tk_id_kids : kids_of s1 id ≡ []
    tk_id_kids =
        let v = some_of (leaf_value s0 id) live in
        leaf_kids (entry s1 id) v.0 (r.leaf_values id ∙ v.1)

    tk_below : (n : ℕ) (xs : List ℕ) → below s1 n (without xs id) ≡ without (below s0 n xs) id
    tk_below zero xs = refl
    tk_below (suc n) xs =
        ap (below s1 n) (flat_map-without (kids_of s1) xs id tk_id_kids ∙ flat_map_same (λ y. without (kids_of s0 y) id) (kids_of s1) xs (λ x m. tk_kids x)
        ∙ sym (without-flat_map (kids_of s0) xs id)) ∙ tk_below n (flat_map (kids_of s0) xs)

    tk_root_apart : root ≢ id
    tk_root_apart = λ e. omega (arith, t.shape.high root t.shape.root_is_block, ap (height_of s0) e, tk_id_low)

    tk_less : length (kids_of s1 p) + 1 ≡ length (kids_of s0 p)
    tk_less = omega (arith, ap length r.kids, length-remove (kids_of s0 p) place (slice_get_within (kids_of s0 p) place id found))

    -- a root above leaves alone has them all
    tk_all : root ≡ p → length (kids_of s0 p) ≡ length s0.leaves
    tk_all e =
        let one : height_of s0 root ≡ suc zero = omega (arith, ap (height_of s0) e, tk_p_high) in
        omega (arith, ap length (t.leaves ∙ ap (λ (n : ℕ). below s0 n (root ∷ [])) one ∙ append-nil (kids_of s0 root)), ap (λ z. length (kids_of s0 z)) e)

    pub taken_apart : IsApart s1 root id (Some p)
    taken_apart =
        record {
          shape = record {
            forest = forest;
            root_is_block = kind_block (entry s0 root) (entry s1 root) (tk_kinds root) t.shape.root_is_block;
            root_is_top = r.other_parents root tk_root_apart ∙ t.shape.root_is_top;
            one_top = λ x lx d n. subst (λ (o : Option ℕ). IsSome o) (sym (r.other_parents x (λ e. n (ap Some (sym e))))) (t.shape.one_top x (tk_was_live x lx) d (λ e. cc));
            low = λ x lx. omega (arith, tk_high x, tk_high root, t.shape.low x (tk_was_live x lx));
            heights = λ x b e. elim (cases_eq x id) [
              | inl q ↦ absurd (let n : parent_of s1 x ≡ None = ap (parent_of s1) q ∙ r.parent in cc (n, e))
              | inr d ↦ omega (arith, tk_high x, tk_high b, t.shape.heights x b (sym (r.other_parents x d) ∙ e))
            ];
            high = λ b h. omega (arith, tk_high b, t.shape.high b (tk_was_block b h));
            half_full = λ b h d n. omega (arith, ap length (r.other_kids b (λ e. n (ap Some (sym e)))), t.shape.half_full b (tk_was_block b h) d (λ e. cc));
            root_filled = elim (cases_eq root p) [
              | inl e ↦ omega (arith, ap (λ z. length (kids_of s1 z)) e, tk_less, tk_all e, many)
              | inr d ↦ omega (arith, ap length (r.other_kids root d), t.shape.root_filled)
            ];
          };
          live = subst (λ (o : Option L). IsSome o) (sym (r.leaf_values id)) live;
          top = r.parent;
          leaves = ap (λ zs. without zs id) (l ∙ t.leaves) ∙ sym (tk_below (height_of s0 root) (root ∷ []))
              ∙ ap (below s1 (height_of s0 root)) (without_later root [] id tk_root_apart) ∙ ap (λ (n : ℕ). below s1 n (root ∷ [])) (sym (tk_high root));
          filled = λ b e.
              let q : p ≡ b = cc e in
              subst (λ (z : ℕ). 1 ≤ length (kids_of s1 z)) q (elim (cases_eq root p) [
                | inl c ↦ omega (arith, tk_less, tk_all c, many)
                | inr d ↦ omega (arith, tk_less, t.shape.half_full p (tk_was_block p tk_p_block) (λ c. d (sym c)) (λ c. cc))
              ]);
        }

    module _ (measure : Measure L S) (sums : SumsBut measure s0 None) where
      tk_length : (x : ℕ) → length_of measure s1 x ≡ length_of measure s0 x
      tk_length x = length_from_values measure (entry s0 x) (entry s1 x) (r.leaf_values x) (r.block_values x)

      tk_total : (xs : List ℕ) → total (length_of measure s1) xs ≡ total (length_of measure s0) xs
      tk_total xs = total_same (length_of measure s0) (length_of measure s1) xs (λ x m. tk_length x)

      pub taken_sums : SumsBut measure s1 (Some p)
      taken_sums b h stale =
          let d : b ≢ p = (λ e. stale (ap Some (sym e))) in
          tk_length b ∙ sums b (tk_was_block b h) (λ e. cc) ∙ sym (tk_total (kids_of s0 b)) ∙ ap (total (length_of measure s1)) (sym (r.other_kids b d))

      -- its block has the leaf too much
      pub taken_owes : (v : L) → leaf_value s0 id ≡ Some v → OwesAt measure s1 (Some p) 0 (measure.leaf v)
      taken_owes v is b e =
          let q : p ≡ b = cc e in
          subst (λ (z : ℕ). length_of measure s1 z + 0 ≡ total (length_of measure s1) (kids_of s1 z) + measure.leaf v) q
          (omega (
            arith,
            tk_length p,
            sums p (tk_was_block p tk_p_block) (λ c. cc),
            ap (total (length_of measure s1)) (tk_kids p),
            tk_total (without (kids_of s0 p) id),
            total-without (length_of measure s0) (kids_of s0 p) id tk_once,
            leaf_length measure (entry s0 id) v is,
          ))
