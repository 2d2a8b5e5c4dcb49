-- What is left where the leaf that was taken from a tree leaves the list too, or the only leaf leaves with the root.
use Rattle.std.proofs.Common.{◌≡◌, ◌≢◌, ℕ, zero, suc, ◌-◌, ◌^◌, ◌≤◌, List, [], ◌∷◌, length, remove, slice_get, Option, Some, None, IsSome, refl, sym, ap, subst, ◌∙◌, inl}
use Rattle.std.proofs.Common.{inr, arith, append-nil, eqb}
use Rattle.std.proofs.lemmas.Bool.{cases_eq, cases_lt, cond-true, cond-false, eq-eqb, ne_eqb}
use Rattle.std.proofs.Math.Nat.{pow-le-pow_right}
use Rattle.std.specs.List.{flat_map}
use Rattle.ft_arena.specs.Ids.{times, without, after}
use Rattle.ft_arena.specs.Forest.{Forest, Entry, IsForest, Changes, TakesChild, entry, kids_of, parent_of, block_value, leaf_value, leaf_of_entry, block_of_entry}
use Rattle.ft_arena.specs.Forest.{kids_of_entry, parent_of_entry}
use Rattle.ft_arena.proofs.IdLemmas.{same_refl, same_other}
use Rattle.ft_arena.proofs.KidLemmas.{kept}
use Rattle.ft_arena.proofs.RingLemmas.{without_here}
use Rattle.ft_shape.specs.declared.headed.Headed.{Headed}
use Rattle.ft_shape.specs.Tree.{total, height_of, height_of_entry, kind_of_entry, Measure, length_of, length_of_entry, below, IsTree, IsBare, IsApart, SumsBut}
use Rattle.ft_shape.specs.Steps.{TakesLeaf}
use Rattle.ft_shape.proofs.Levels.{points_at, points_some, block_from_height, depth_bound}
use Rattle.ft_shape.proofs.EditLemmas.{flat_map_same, total_same, some_of, none_by, is_some_from}
use Rattle.ft_shape.proofs.KindLemmas.{block_live, kind_from_values}
use Rattle.ft_shape.proofs.InsertLemmas.{leaf_height, leaf_kids, leaf_block}
use Rattle.ft_shape.proofs.FitLemmas.{leaves_live}
use Rattle.ft_shape.proofs.PairLemmas.{block_no_leaf}

-- a list in which something stands after or before another
pub more_after : (xs : List ℕ) (x y : ℕ) → after xs x ≡ Some y → 2 ≤ length xs
more_after [] x y e = cc
more_after (z ∷ []) x y e = elim (cases_eq z x) [
  | inl q ↦ let a : after (z ∷ []) x ≡ None = cond-true (eqb z x) _ _ (eq-eqb z x q) in cc (a, e)
  | inr d ↦ let a : after (z ∷ []) x ≡ None = cond-false (eqb z x) _ _ (ne_eqb z x d) in cc (a, e)
]
more_after (z ∷ w ∷ zs) x y e = omega arith

dead_kind : {L S : Type 0} (o : Option (Entry L (Headed S))) → kind_of_entry o ≡ None → o ≡ None
dead_kind None e = refl
dead_kind (Some x) e = cc

module _ {L S : Type 0} (s0 : Forest L (Headed S)) (root id : ℕ) (t : IsTree s0 root) (only : s0.leaves ≡ id ∷ []) where
  ls_live : IsSome (leaf_value s0 id)
  ls_live = leaves_live s0 t.shape.forest id (omega (arith, ap (λ zs. times zs id) only, same_refl id))

  ls_high : height_of s0 root ≡ 1
  ls_high =
      let b = depth_bound s0 root t in
      let one = t.shape.high root t.shape.root_is_block in
      elim (cases_lt (height_of s0 root - 1) 1) [
        | inl l ↦ omega (arith, l, one)
        | inr h ↦ let more : 4 ^ 1 ≤ 4 ^ (height_of s0 root - 1) = pow-le-pow_right (omega arith) h in absurd (omega (arith, b, more, ap length only))
      ]

  pub ls_kids : kids_of s0 root ≡ id ∷ []
  ls_kids =
      let e : height_of s0 root ≡ suc zero = omega (arith, ls_high) in
      sym (append-nil (kids_of s0 root)) ∙ ap (λ (n : ℕ). below s0 n (root ∷ [])) (sym e) ∙ sym t.leaves ∙ only

  pub ls_differ : root ≢ id
  ls_differ = λ e. omega (arith, ls_high, ap (height_of s0) e, leaf_height (entry s0 id) ls_live)

  ls_dead : (x : ℕ) → x ≢ root → x ≢ id → entry s0 x ≡ None
  ls_dead x d n = none_by (entry s0 x) (λ v e.
      let b = some_of (parent_of s0 x) (t.shape.one_top x (is_some_from (entry s0 x) v e) d (λ q. cc q)) in
      let bh = t.shape.heights x b.0 b.1 in
      let bl = block_live (entry s0 b.0) (block_from_height (entry s0 b.0) (omega (arith, bh))) in
      elim (cases_eq b.0 root) [
        | inl q ↦ omega (
          arith,
          t.shape.forest.child_once root x,
          points_at (parent_of s0 x) root (b.1 ∙ ap Some q),
          ap (λ ks. times ks x) ls_kids,
          same_other id x
              (λ c. n (sym c)),
        )
        | inr k ↦
            let c = some_of (parent_of s0 b.0) (t.shape.one_top b.0 bl k (λ q. cc q)) in
            let ch = t.shape.heights b.0 c.0 c.1 in
            omega (arith, ch, bh, ls_high, t.shape.low c.0 (block_live (entry s0 c.0) (block_from_height (entry s0 c.0) (omega (arith, ch)))))
      ])

  module _ (s1 : Forest L (Headed S)) (k : ℕ) (r0 : TakesChild s0 s1 root 0 k) where
    pub ls_empty0 : kids_of s1 root ≡ []
    ls_empty0 = r0.kids ∙ ap (λ ks. remove ks 0) ls_kids

    pub ls_block0 : IsSome (block_value s1 root)
    ls_block0 = subst (λ (o : Option (Headed S)). IsSome o) (sym (r0.block_values root)) t.shape.root_is_block

    pub ls_leaf0 : (s2 : Forest L (Headed S)) → Changes s1 s2 root None → IsSome (leaf_value s2 id)
    ls_leaf0 s2 c2 = subst (λ (o : Option L). IsSome o) (sym (ap leaf_of_entry (c2.others id (λ e. ls_differ (sym e))) ∙ r0.leaf_values id)) ls_live

    module _ (found : slice_get (kids_of s0 root) 0 ≡ Some k) where
      ls_is0 : k ≡ id
      ls_is0 = let q : Some k ≡ Some id = sym found ∙ ap (λ ks. slice_get ks 0) ls_kids in cc q

      pub ls_top0 : parent_of s1 root ≡ None
      ls_top0 = r0.other_parents root (λ e. ls_differ (e ∙ ls_is0)) ∙ t.shape.root_is_top

      pub ls_alone0 : (s2 : Forest L (Headed S)) → Changes s1 s2 root None → parent_of s2 id ≡ None
      ls_alone0 s2 c2 = ap parent_of_entry (c2.others id (λ e. ls_differ (sym e))) ∙ ap (parent_of s1) (sym ls_is0) ∙ r0.parent

  module _ (s1 s2 s3 : Forest L (Headed S)) (k : ℕ) (value : L) (found : slice_get (kids_of s0 root) 0 ≡ Some k) (l1 : s1.leaves ≡ s0.leaves)
      (r0 : TakesChild s0 s1 root 0 k) (l2 : s2.leaves ≡ s1.leaves) where
    module _ (c2 : Changes s1 s2 root None) where
      module _ (f3 : IsForest s3) (is : leaf_value s2 id ≡ Some value) (l3 : s3.leaves ≡ without s2.leaves id) (c3 : Changes s2 s3 id None) where
        pub last_bare : IsBare s3
        last_bare =
            record {
              forest = f3;
              leaves = l3 ∙ ap (λ zs. without zs id) (l2 ∙ l1 ∙ only) ∙ without_here [] id;
              nodes = λ x. elim (cases_eq x id) [
                | inl e ↦ ap (entry s3) e ∙ c3.changed
                | inr d ↦ c3.others x d ∙ elim (cases_eq x root) [
                  | inl e ↦ ap (entry s2) e ∙ c2.changed
                  | inr n ↦ c2.others x n ∙ dead_kind (entry s1 x) (kind_from_values (entry s0 x) (entry s1 x) (r0.leaf_values x) (r0.block_values x)
                      ∙ ap kind_of_entry (ls_dead x n d))
                ]
              ];
            }

        pub last_takes : TakesLeaf s0 s3 id value
        last_takes =
            record {
              leaves = l3 ∙ ap (λ zs. without zs id) (l2 ∙ l1);
              was = sym (r0.leaf_values id) ∙ sym (ap leaf_of_entry (c2.others id (λ e. ls_differ (sym e)))) ∙ is;
              gone = ap leaf_of_entry c3.changed;
              others = λ x d. ap leaf_of_entry (last_bare.nodes x) ∙ sym (elim (cases_eq x root) [
                | inl e ↦ ap (leaf_value s0) e ∙ block_no_leaf s0 root t.shape.root_is_block
                | inr n ↦ ap leaf_of_entry (ls_dead x n d)
              ]);
            }

-- the leaf that was taken leaves the list
module _ {L S : Type 0} (s s' : Forest L (Headed S)) (root id : ℕ) (value : L) (a : IsApart s root id None) (forest : IsForest s') (is : leaf_value s id ≡ Some value)
    (l : s'.leaves ≡ without s.leaves id) (c : Changes s s' id None) where
  un_kids : (x : ℕ) → kids_of s' x ≡ kids_of s x
  un_kids = kept kids_of_entry s s' id None c (sym (leaf_kids (entry s id) value is))

  un_parents : (x : ℕ) → parent_of s' x ≡ parent_of s x
  un_parents = kept parent_of_entry s s' id None c (sym a.top)

  un_high : (x : ℕ) → height_of s' x ≡ height_of s x
  un_high = kept height_of_entry s s' id None c (sym (leaf_height (entry s id) a.live))

  pub un_blocks : (x : ℕ) → block_value s' x ≡ block_value s x
  un_blocks = kept block_of_entry s s' id None c (sym (leaf_block (entry s id) value is))

  un_alive : (x : ℕ) → IsSome (entry s' x) → x ≢ id
  un_alive x h e = let z : IsSome (entry s' id) = subst (λ (y : ℕ). IsSome (entry s' y)) e h in cc (z, c.changed)

  un_was : (x : ℕ) → IsSome (entry s' x) → IsSome (entry s x)
  un_was x h = subst (λ (o : Option (Entry L (Headed S))). IsSome o) (c.others x (un_alive x h)) h

  un_block : (x : ℕ) → IsSome (block_value s' x) → IsSome (block_value s x)
  un_block x h = subst (λ (o : Option (Headed S)). IsSome o) (un_blocks x) h

  un_below : (n : ℕ) (xs : List ℕ) → below s' n xs ≡ below s n xs
  un_below zero xs = refl
  un_below (suc n) xs = ap (below s' n) (flat_map_same (kids_of s) (kids_of s') xs (λ x m. un_kids x)) ∙ un_below n (flat_map (kids_of s) xs)

  pub unlinked_tree : IsTree s' root
  unlinked_tree =
      record {
        shape = record {
          forest = forest;
          root_is_block = subst (λ (o : Option (Headed S)). IsSome o) (sym (un_blocks root)) a.shape.root_is_block;
          root_is_top = un_parents root ∙ a.shape.root_is_top;
          one_top = λ x h d _. subst (λ (o : Option ℕ). IsSome o) (sym (un_parents x)) (a.shape.one_top x (un_was x h) d (λ e. un_alive x h (sym (cc e))));
          low = λ x h. omega (arith, un_high x, un_high root, a.shape.low x (un_was x h));
          heights = λ x b e. omega (arith, un_high x, un_high b, a.shape.heights x b (sym (un_parents x) ∙ e));
          high = λ b h. omega (arith, un_high b, a.shape.high b (un_block b h));
          half_full = λ b h d n. omega (arith, ap length (un_kids b), a.shape.half_full b (un_block b h) d n);
          root_filled = omega (arith, ap length (un_kids root), a.shape.root_filled);
        };
        leaves = l ∙ a.leaves ∙ sym (un_below (height_of s root) (root ∷ [])) ∙ ap (λ (n : ℕ). below s' n (root ∷ [])) (sym (un_high root));
      }

  pub unlinked_sums : (measure : Measure L S) → SumsBut measure s None → SumsBut measure s' None
  unlinked_sums measure sums b h _ =
      let same_length : (x : ℕ) → x ≢ id → length_of measure s' x ≡ length_of measure s x = λ x d. ap (length_of_entry measure) (c.others x d) in
      let inside : (x : ℕ) → 1 ≤ times (kids_of s b) x → x ≢ id =
      λ x m e. cc (ap (parent_of s) e, a.top, points_some (parent_of s x) b (omega (arith, m, a.shape.forest.child_once b x))) in
      same_length b (un_alive b (block_live (entry s' b) h)) ∙ sums b (un_block b h) (λ e. cc)
      ∙ sym (total_same (length_of measure s) (length_of measure s') (kids_of s b) (λ x m. same_length x (inside x m)))
      ∙ ap (total (length_of measure s')) (sym (un_kids b))

  pub unlinked_takes : (s0 : Forest L (Headed S)) → s.leaves ≡ s0.leaves → ((x : ℕ) → leaf_value s x ≡ leaf_value s0 x) → TakesLeaf s0 s' id value
  unlinked_takes s0 ls vs =
      record {
        leaves = l ∙ ap (λ zs. without zs id) ls;
        was = sym (vs id) ∙ is;
        gone = ap leaf_of_entry c.changed;
        others = λ x d. ap leaf_of_entry (c.others x d) ∙ vs x;
      }

-- no block has a wrong sum where there is none
pub bare_sums : {L S : Type 0} (measure : Measure L S) (s : Forest L (Headed S)) → IsBare s → SumsBut measure s None
bare_sums measure s b x h _ = let live = block_live (entry s x) h in cc (live, b.nodes x)
