-- Which blocks still keep what is right for their children, once a node was put, a block split, a new root made or a block made right.
use Rattle.std.proofs.Common.{◌≡◌, ◌≢◌, ◌⊎◌, ℕ, ◌+◌, ◌≤◌, List, [], ◌∷◌, map, insert, Option, Some, None, IsSome, refl, sym, ap, subst, ◌∙◌, inl, inr, arith}
use Rattle.std.proofs.lemmas.Bool.{cases_eq}
use Rattle.ft_arena.specs.Ids.{times, points}
use Rattle.ft_arena.specs.Forest.{Forest, Entry, IsForest, entry, kids_of, parent_of, block_value, leaf_value, leaf_of_entry, block_of_entry, with_block, with_block_entry, parent_of_entry, kids_of_entry, Changes, TakesChild}
use Rattle.ft_arena.specs.declared.nodes.Node.TheVariants.{Leaf}
use Rattle.ft_shape.proofs.RefreshLemmas.{written_changes}
use Rattle.ft_arena.proofs.IdLemmas.{same_refl}
use Rattle.ft_shape.specs.declared.headed.Headed.{Headed}
use Rattle.ft_shape.specs.Steps.{SameShape, PutsAt, SplitsAt, RootsOver, IsPair, Shares, Regroups}
use Rattle.ft_shape.specs.Tree.{IsBare}
use Rattle.ft_shape.specs.Told.{sum_of, told, KeepsBut, KeepsButBoth, Retells, RetellsBoth}
use Rattle.ft_shape.proofs.Levels.{points_some}

sum_some : {S : Type 0} (o : Option (Headed S)) (z : S) → Some z ≡ sum_of o → (w : Headed S) × (o ≡ Some w) × (w.sum ≡ z)
sum_some None z e = cc
sum_some (Some w) z e = (w, refl, cc)

module _ {L S : Type 0} (s s' : Forest L (Headed S)) where
  -- a node that tells what a block did was a block that kept the same
  told_block : (b : ℕ) (v : Headed S) → block_value s' b ≡ Some v → told s' b ≡ told s b → (w : Headed S) × (block_value s b ≡ Some w) × (w.sum ≡ v.sum)
  told_block b v e t = sum_some (block_value s b) v.sum (ap sum_of (sym e) ∙ ap (λ (z : Option L × Option S). z.1) t)

  pub told_from_values : (x : ℕ) → leaf_value s' x ≡ leaf_value s x → block_value s' x ≡ block_value s x → told s' x ≡ told s x
  told_from_values x l b = ap (λ (z : Option L). (z, sum_of (block_value s' x))) l ∙ ap (λ (z : Option (Headed S)). (leaf_value s x, sum_of z)) b

  -- a node that didn't change tells what it told
  pub told_changed : (id : ℕ) (z : Option (Entry L (Headed S))) → Changes s s' id z → (x : ℕ) → x ≢ id → told s' x ≡ told s x
  told_changed id z c x d = ap (λ (o : Option (Entry L (Headed S))). (leaf_of_entry o, sum_of (block_of_entry o))) (c.others x d)

  pub told_same : (xs : List ℕ) → ((x : ℕ) → 1 ≤ times xs x → told s' x ≡ told s x) → map (told s') xs ≡ map (told s) xs
  told_same [] h = refl
  told_same (x ∷ xs) h =
      ap (λ t. t ∷ map (told s') xs) (h x (omega (arith, same_refl x))) ∙ ap (λ ts. told s x ∷ ts) (told_same xs (λ y m. h y (omega arith)))

module _ {L S : Type 0} (R : S → List (Option L × Option S) → Type 0) (s s' : Forest L (Headed S)) where
  -- a block that tells what it told, of children that do, keeps what is right
  keeps_on : (b : ℕ) (v : Headed S) → block_value s' b ≡ Some v → told s' b ≡ told s b → kids_of s' b ≡ kids_of s b
      → ((x : ℕ) → 1 ≤ times (kids_of s b) x → told s' x ≡ told s x)
      → ((w : Headed S) → block_value s b ≡ Some w → R w.sum (map (told s) (kids_of s b))) → R v.sum (map (told s') (kids_of s' b))
  keeps_on b v e t k same was =
      let w = told_block s s' b v e t in
      subst (λ (z : S). R z (map (told s') (kids_of s' b))) w.2
      (subst (λ (ts : List (Option L × Option S)). R w.0.sum ts) (sym (ap (map (told s')) k ∙ told_same s s' (kids_of s b) same)) (was w.0 w.1))

  -- where a node was put, only the block that has it now may keep what is wrong
  pub put_keeps : (p place new : ℕ) → PutsAt s s' p place new → KeepsBut R s (Some p) → KeepsBut R s' (Some p)
  put_keeps p place new r keeps b v e stale =
      let n : b ≢ p = (λ q. stale (ap Some (sym q))) in
      keeps_on b v e (told_from_values s s' b (r.leaf_values b) (r.block_values b)) (r.other_kids b n)
      (λ x m. told_from_values s s' x (r.leaf_values x) (r.block_values x)) (λ w q. keeps b w q stale)

  -- where a block was split, only the block above it
  pub split_keeps : (p place new q : ℕ) → SplitsAt s s' p place new q → RetellsBoth R s s' p q → parent_of s' q ≡ None
      → KeepsBut R s (Some p) → KeepsBut R s' (parent_of s' p)
  split_keeps p place new q r u alone keeps b v e stale = elim (cases_eq b p) [
    | inl c ↦ subst (λ (z : ℕ). R v.sum (map (told s') (kids_of s' z))) (sym c) (u.front_right v (ap (block_value s') (sym c) ∙ e))
    | inr n ↦ elim (cases_eq b q) [
      | inl c ↦ subst (λ (z : ℕ). R v.sum (map (told s') (kids_of s' z))) (sym c) (u.rear_right v (ap (block_value s') (sym c) ∙ e))
      | inr k ↦
          let kids : kids_of s' b ≡ kids_of s b = r.other_kids b n k in
          let parent : (x : ℕ) → 1 ≤ times (kids_of s b) x → parent_of s' x ≡ Some b =
          λ x m. points_some (parent_of s' x) b (omega (arith, r.forest.child_once b x, ap (λ ks. times ks x) kids)) in
          keeps_on b v e (u.others b n k) kids
          (λ x m. u.others x (λ c. stale (ap (parent_of s') (sym c) ∙ parent x m)) (λ c. cc (ap (parent_of s') (sym c) ∙ parent x m, alone)))
          (λ w c. keeps b w c (λ d. n (cc d)))
    ]
  ]

  -- where a new root was made, none
  pub root_keeps : (root new t : ℕ) → RootsOver s s' root new t → Retells R s s' t → parent_of s' t ≡ None → KeepsBut R s None → KeepsBut R s' None
  root_keeps root new t r u alone keeps b v e stale = elim (cases_eq b t) [
    | inl c ↦ subst (λ (z : ℕ). R v.sum (map (told s') (kids_of s' z))) (sym c) (u.right v (ap (block_value s') (sym c) ∙ e))
    | inr n ↦
        let kids : kids_of s' b ≡ kids_of s b = r.other_kids b n in
        let parent : (x : ℕ) → 1 ≤ times (kids_of s b) x → parent_of s' x ≡ Some b =
        λ x m. points_some (parent_of s' x) b (omega (arith, r.forest.child_once b x, ap (λ ks. times ks x) kids)) in
        keeps_on b v e (u.others b n) kids (λ x m. u.others x (λ c. cc (ap (parent_of s') (sym c) ∙ parent x m, alone))) (λ w c. keeps b w c (λ d. cc))
  ]

  -- where a block was made right, only the block above it
  pub up_keeps : (b : ℕ) → SameShape s s' → Retells R s s' b → KeepsBut R s (Some b) → KeepsBut R s' (parent_of s' b)
  up_keeps b r u keeps k v e stale = elim (cases_eq k b) [
    | inl c ↦ subst (λ (z : ℕ). R v.sum (map (told s') (kids_of s' z))) (sym c) (u.right v (ap (block_value s') (sym c) ∙ e))
    | inr n ↦
        let parent : (x : ℕ) → 1 ≤ times (kids_of s k) x → parent_of s' x ≡ Some k =
        λ x m. points_some (parent_of s' x) k (omega (arith, r.forest.child_once k x, ap (λ ks. times ks x) (r.kids k))) in
        keeps_on k v e (u.others k n) (r.kids k) (λ x m. u.others x (λ c. stale (ap (parent_of s') (sym c) ∙ parent x m))) (λ w c. keeps k w c (λ d. n (cc d)))
  ]

module _ {L S : Type 0} (R : S → List (Option L × Option S) → Type 0) (s : Forest L (Headed S)) (b : ℕ) (v w : Headed S) (is : block_value s b ≡ Some v) where
  written_value : (o : Option (Entry L (Headed S))) → block_of_entry o ≡ Some v → block_of_entry (with_block_entry o w) ≡ Some w
  written_value None h = cc
  written_value (Some x) h = refl

  -- the block keeps what was written
  pub written_block : block_value (with_block s b w) b ≡ Some w
  written_block = ap block_of_entry (written_changes s b v w is).changed ∙ written_value (entry s b) is

  pub written_others : (x : ℕ) → x ≢ b → told (with_block s b w) x ≡ told s x
  written_others x d = ap (λ (o : Option (Entry L (Headed S))). (leaf_of_entry o, sum_of (block_of_entry o))) ((written_changes s b v w is).others x d)

  -- and where that is right for its children, the block is right
  pub written_tells : times (kids_of s b) b ≡ 0 → kids_of (with_block s b w) b ≡ kids_of s b → R w.sum (map (told s) (kids_of s b))
      → Retells R s (with_block s b w) b
  written_tells apart kids right =
      record {
        others = written_others;
        right = λ u e.
            let q : w ≡ u = cc (sym written_block ∙ e) in
            subst (λ (z : Headed S). R z.sum (map (told (with_block s b w)) (kids_of (with_block s b w) b))) q
            (subst (λ (ts : List (Option L × Option S)). R w.sum ts) (sym (ap (map (told (with_block s b w))) kids
            ∙ told_same s (with_block s b w) (kids_of s b) (λ x m. written_others x (λ c. omega (arith, m, apart, ap (times (kids_of s b)) c))))) right);
      }

-- where a block was split and its two halves were made right, both are
module _ {L S : Type 0} (R : S → List (Option L × Option S) → Type 0) (s s3 s4 s5 : Forest L (Headed S)) (block rear : ℕ) (u4 : Retells R s3 s4 block) (r5 : SameShape s4 s5)
    (u5 : Retells R s4 s5 rear) (differ : block ≢ rear) (apart : times (kids_of s4 block) rear ≡ 0) (kept : (x : ℕ) → x ≢ rear → told s3 x ≡ told s x) where
  pub both_tell : RetellsBoth R s s5 block rear
  both_tell =
      record {
        others = λ x d n. u5.others x n ∙ u4.others x d ∙ kept x n;
        front_right = λ v e. keeps_on R s4 s5 block v e (u5.others block differ) (r5.kids block)
            (λ x m. u5.others x (λ c. omega (arith, m, apart, ap (times (kids_of s4 block)) c))) u4.right;
        rear_right = u5.right;
      }

-- a leaf that is linked, but in no block yet, leaves right what is
pub linked_keeps : {L S : Type 0} (R : S → List (Option L × Option S) → Type 0) (s s' : Forest L (Headed S)) (id : ℕ) (leaf : L)
    → IsForest s → entry s id ≡ None
    → Changes s s' id (Some record { node = Leaf leaf; parent = None }) → KeepsBut R s None → (stale : Option ℕ) → KeepsBut R s' stale
linked_keeps {L} {S} R s s' id leaf forest fresh c keeps stale b v e apart =
    let far : b ≢ id = (λ q. let n : None ≡ Some v = sym (ap block_of_entry c.changed) ∙ sym (ap (block_value s') q) ∙ e in cc n) in
    let same : (x : ℕ) → x ≢ id → told s' x ≡ told s x = λ x d. ap (λ (o : Option (Entry L (Headed S))). (leaf_of_entry o, sum_of (block_of_entry o))) (c.others x d) in
    let none : times (kids_of s b) id ≡ 0 = forest.child_once b id ∙ ap (λ (o : Option (Entry L (Headed S))). points (parent_of_entry o) b) fresh in
    keeps_on R s s' b v e (same b far) (ap kids_of_entry (c.others b far)) (λ x m. same x (λ q. omega (arith, m, none, ap (times (kids_of s b)) q))) (λ w q. keeps b w q (λ d. cc))

module _ {L S : Type 0} (R : S → List (Option L × Option S) → Type 0) (s s' : Forest L (Headed S)) where
  -- where two neighbours share their children anew and both were made right, only the block above them
  pub pair_keeps : (up front rear : ℕ) → IsForest s → IsPair s up front rear → Shares s s' up front rear → RetellsBoth R s s' front rear
      → KeepsButBoth R s front rear
      → KeepsBut R s' (Some up)
  pair_keeps up front rear forest pair r u keeps b v e stale = elim (cases_eq b front) [
    | inl c ↦ subst (λ (z : ℕ). R v.sum (map (told s') (kids_of s' z))) (sym c) (u.front_right v (ap (block_value s') (sym c) ∙ e))
    | inr n ↦ elim (cases_eq b rear) [
      | inl c ↦ subst (λ (z : ℕ). R v.sum (map (told s') (kids_of s' z))) (sym c) (u.rear_right v (ap (block_value s') (sym c) ∙ e))
      | inr k ↦
          let far : b ≢ up = (λ q. stale (ap Some (sym q))) in
          let parent : (x : ℕ) → 1 ≤ times (kids_of s b) x → parent_of s x ≡ Some b =
          λ x m. points_some (parent_of s x) b (omega (arith, m, forest.child_once b x)) in
          keeps_on R s s' b v e (u.others b n k) (r.other_kids b far n k)
          (λ x m. u.others x
          (λ c. let q : b ≡ up = cc (sym (parent x m) ∙ ap (parent_of s) c ∙ pair.front_up) in far q)
          (λ c. let q : b ≡ up = cc (sym (parent x m) ∙ ap (parent_of s) c ∙ pair.rear_up) in far q))
          (λ w c. keeps b w c n k)
    ]
  ]

  -- where one block has other children, only that one
  pub kids_keep : (p : ℕ) → ((x : ℕ) → leaf_value s' x ≡ leaf_value s x) → ((x : ℕ) → block_value s' x ≡ block_value s x)
      → ((x : ℕ) → x ≢ p → kids_of s' x ≡ kids_of s x) → KeepsBut R s None → KeepsBut R s' (Some p)
  kids_keep p l bs k keeps b v e stale =
      let n : b ≢ p = (λ q. stale (ap Some (sym q))) in
      keeps_on R s s' b v e (told_from_values s s' b (l b) (bs b)) (k b n) (λ x m. told_from_values s s' x (l x) (bs x)) (λ w q. keeps b w q (λ d. cc))

  -- where a node is gone that is no child, only those that were wrong before
  pub gone_keeps : (id : ℕ) (but : Option ℕ) → IsForest s' → entry s' id ≡ None → ((x : ℕ) → x ≢ id → told s' x ≡ told s x)
      → ((x : ℕ) → x ≢ id → kids_of s' x ≡ kids_of s x) → KeepsBut R s but → KeepsBut R s' but
  gone_keeps id but forest gone same kids keeps b v e stale =
      let far : b ≢ id = (λ q. let n : None ≡ Some v = sym (ap block_of_entry gone) ∙ sym (ap (block_value s') q) ∙ e in cc n) in
      let none : times (kids_of s' b) id ≡ 0 = forest.child_once b id ∙ ap (λ (o : Option (Entry L (Headed S))). points (parent_of_entry o) b) gone in
      keeps_on R s s' b v e (same b far) (kids b far)
      (λ x m. same x (λ q. omega (arith, m, none, ap (λ ks. times ks id) (kids b far), ap (times (kids_of s b)) q))) (λ w q. keeps b w q stale)

  -- a leaf that leaves the list, and is in no block, leaves right what is
  pub unlinked_keeps : (id : ℕ) → IsForest s' → Changes s s' id None → KeepsBut R s None → KeepsBut R s' None
  unlinked_keeps id forest c = gone_keeps id None forest c.changed (told_changed s s' id None c) (λ x d. ap kids_of_entry (c.others x d))

-- where a block is one of two, all but these two are all but it
pub but_both : {L S : Type 0} (R : S → List (Option L × Option S) → Type 0) (s : Forest L (Headed S)) (block front rear : ℕ) → (block ≡ front) ⊎ (block ≡ rear)
    → KeepsBut R s (Some block) → KeepsButBoth R s front rear
but_both R s block front rear which keeps b v e n k =
    keeps b v e (λ q. let c : block ≡ b = cc q in elim which [ inl a ↦ n (sym c ∙ a) | inr a ↦ k (sym c ∙ a) ])

-- where two neighbours were joined, each node but the one that is gone tells what it told
pub joined_told : {L S : Type 0} (s : Forest L (Headed S)) (up front rear : ℕ) (s1 s2 s3 : Forest L (Headed S)) (want at : ℕ) → Regroups s s1 front rear want
    → TakesChild s1 s2 up at rear → Changes s2 s3 rear None → (x : ℕ) → x ≢ rear → told s3 x ≡ told s x
joined_told s up front rear s1 s2 s3 want at r t c x d =
    told_changed s2 s3 rear None c x d ∙ told_from_values s1 s2 x (t.leaf_values x) (t.block_values x) ∙ told_from_values s s1 x (r.leaf_values x) (r.block_values x)

-- where one of two blocks is gone and the other was made right, both are
module _ {L S : Type 0} (R : S → List (Option L × Option S) → Type 0) (s s3 s4 : Forest L (Headed S)) (front rear : ℕ) (u4 : Retells R s3 s4 front) (differ : front ≢ rear)
    (gone : entry s3 rear ≡ None) (kept : (x : ℕ) → x ≢ rear → told s3 x ≡ told s x) where
  pub one_tells : RetellsBoth R s s4 front rear
  one_tells =
      record {
        others = λ x d n. u4.others x d ∙ kept x n;
        front_right = u4.right;
        rear_right = λ v e.
            let t : told s4 rear ≡ told s3 rear = u4.others rear (λ q. differ (sym q)) in
            let n : None ≡ Some v.sum = sym (ap (λ (o : Option (Entry L (Headed S))). sum_of (block_of_entry o)) gone)
            ∙ sym (ap (λ (z : Option L × Option S). z.1) t) ∙ ap sum_of e in
            absurd (cc n);
      }

-- where there is no block, none is wrong
pub bare_keeps : {L S : Type 0} (R : S → List (Option L × Option S) → Type 0) (s : Forest L (Headed S)) → IsBare s → (but : Option ℕ) → KeepsBut R s but
bare_keeps R s bare but b v e stale = absurd (let n : None ≡ Some v = sym (ap block_of_entry (bare.nodes b)) ∙ e in cc n)

-- room that was made for nodes leaves right what is
pub room_keeps : {L S : Type 0} (R : S → List (Option L × Option S) → Type 0) (s0 s1 : Forest L (Headed S))
    → s1 ≡ record s0 { spare = s1.spare } → KeepsBut R s0 None
    → KeepsBut R s1 None
room_keeps {L} {S} R s0 s1 room keeps = subst (λ (z : Forest L (Headed S)). KeepsBut R z None) (sym room) (λ b v e stale. keeps b v e stale)
