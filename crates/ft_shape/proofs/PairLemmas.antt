-- What two neighbours leave that share their children, or of which one is joined to the other.
use Rattle.std.proofs.Common.{◌≡◌, ◌≢◌, ℕ, zero, suc, ◌+◌, ◌≤◌, List, [], ◌∷◌, ◌++◌, length, insert, remove, slice_get, Option, Some, None, IsSome, refl, sym, ap, subst}
use Rattle.std.proofs.Common.{◌∙◌, inl, inr, arith, append-nil, append_assoc}
use Rattle.std.proofs.lemmas.Bool.{cases_eq}
use Rattle.std.proofs.lemmas.List.{length-append}
use Rattle.std.specs.List.{flat_map}
use Rattle.std.proofs.Common.{Result, Ok, Err, OnOk}
use Rattle.ft_arena.specs.Ids.{times, points, without}
use Rattle.ft_arena.specs.Forest.{Forest, Entry, IsForest, Changes, TakesChild, entry, kids_of, parent_of, block_value, leaf_value, kids_of_entry, leaf_of_entry}
use Rattle.ft_arena.specs.Forest.{block_of_entry, leaf_of_node, block_of_node}
use Rattle.ft_arena.specs.declared.nodes.Node.{Node}
use Rattle.ft_arena.specs.declared.nodes.Node.TheVariants.{Leaf, Block}
use Rattle.ft_arena.proofs.IdLemmas.{same_other, times-append, times-without_same, times-without_other}
use Rattle.ft_shape.specs.declared.headed.Headed.{Headed}
use Rattle.ft_shape.specs.Tree.{total, height_of, kind_of, kind_of_entry, Measure, length_of, length_of_entry, SumsBut}
use Rattle.ft_shape.specs.Steps.{SameShape, Resums, Regroups, Shares, IsPair, ResumsPair}
use Rattle.std.proofs.lemmas.List.Edits.{insert_end}
use Rattle.ft_shape.proofs.Lists.{total-append, times_at}
use Rattle.ft_shape.proofs.Levels.{points_at, points_some, live_from_parent}
use Rattle.ft_shape.proofs.EditLemmas.{total_same, total_change, after_is_edit, flat_map-insert_after}
use Rattle.ft_shape.proofs.KindLemmas.{kind_live, kind_from_values, length_from_values}
use Rattle.ft_shape.proofs.WithoutLemmas.{shared, remove_is_without, times-without_le}

-- two facts on what a call left give a third
pub on_ok_both : {T E : Type 0} {P Q R : Type 0} (r : Result T E) → (P → Q → R) → OnOk r P → OnOk r Q → OnOk r R
on_ok_both (Ok x) f p q = f p q
on_ok_both (Err e) f p q = tt

filled_by : (xs : List ℕ) (x : ℕ) → times xs x ≡ 1 → 1 ≤ length xs
filled_by [] x h = absurd (omega arith)
filled_by (y ∷ ys) x h = omega arith

pub block_no_leaf : {L S : Type 0} (s : Forest L (Headed S)) (x : ℕ) → IsSome (block_value s x) → leaf_value s x ≡ None
block_no_leaf {L} {S} s x h = of_entry (entry s x) h
  where
    of_node : (n : Node L (Headed S)) → IsSome (block_of_node n) → leaf_of_node n ≡ None
    of_node (Leaf v) h = cc
    of_node (Block ks v) h = refl

    of_entry : (o : Option (Entry L (Headed S))) → IsSome (block_of_entry o) → leaf_of_entry o ≡ None
    of_entry None h = refl
    of_entry (Some e) h = of_node e.node h

no_kids : (xs : List ℕ) → length xs ≡ 0 → xs ≡ []
no_kids [] h = refl
no_kids (x ∷ xs) h = absurd (omega arith)

module _ {L S : Type 0} (s : Forest L (Headed S)) (up front rear : ℕ) (forest : IsForest s) (P : IsPair s up front rear) where
  pub pr_up_front : up ≢ front
  pr_up_front = λ e. omega (arith, P.heights front up P.front_up, ap (height_of s) e)

  pub pr_up_rear : up ≢ rear
  pr_up_rear = λ e. omega (arith, P.heights rear up P.rear_up, ap (height_of s) e)

  pub pr_front_once : times (kids_of s up) front ≡ 1
  pr_front_once = forest.child_once up front ∙ points_at (parent_of s front) up P.front_up

  pub pr_rear_once : times (kids_of s up) rear ≡ 1
  pr_rear_once = forest.child_once up rear ∙ points_at (parent_of s rear) up P.rear_up

  -- neither is a child of either
  pr_no_child : (b x : ℕ) → parent_of s x ≡ Some up → b ≢ up → times (kids_of s b) x ≡ 0
  pr_no_child b x e d = forest.child_once b x ∙ ap (λ o. points o b) e ∙ same_other up b (λ q. d (sym q))

  pub pr_front_front : times (kids_of s front) front ≡ 0
  pr_front_front = pr_no_child front front P.front_up (λ e. pr_up_front (sym e))

  pub pr_front_rear : times (kids_of s front) rear ≡ 0
  pr_front_rear = pr_no_child front rear P.rear_up (λ e. pr_up_front (sym e))

  pub pr_rear_front : times (kids_of s rear) front ≡ 0
  pr_rear_front = pr_no_child rear front P.front_up (λ e. pr_up_rear (sym e))

  pub pr_rear_rear : times (kids_of s rear) rear ≡ 0
  pr_rear_rear = pr_no_child rear rear P.rear_up (λ e. pr_up_rear (sym e))

  pr_rest_front : times (without (kids_of s up) rear) front ≡ 1
  pr_rest_front = times-without_other (kids_of s up) rear front P.differ ∙ pr_front_once

  -- a child of the block that is left without the rear one
  pr_rest : (x : ℕ) → 1 ≤ times (without (kids_of s up) rear) x → x ≢ rear
  pr_rest x m e = omega (arith, m, ap (times (without (kids_of s up) rear)) e, times-without_same (kids_of s up) rear)

  -- the lengths of the two and of the others
  module _ (measure : Measure L S) (s' : Forest L (Headed S)) (sums : SumsBut measure s None) (others : (x : ℕ) → IsSome (entry s x) → x ≢ front → x ≢ rear
      → length_of measure s' x ≡ length_of measure s x) where
    pr_live : (b x : ℕ) → 1 ≤ times (kids_of s b) x → IsSome (entry s x)
    pr_live b x m = live_from_parent (entry s x) b (points_some (parent_of s x) b (omega (arith, m, forest.child_once b x)))

    -- the children of both are as long as before
    pr_both : total (length_of measure s') (kids_of s front ++ kids_of s rear) ≡ length_of measure s front + length_of measure s rear
    pr_both =
        let f = total_same (length_of measure s) (length_of measure s') (kids_of s front)
        (λ x m. others x (pr_live front x m) (λ e. omega (arith, m, ap (times (kids_of s front)) e, pr_front_front))
        (λ e. omega (arith, m, ap (times (kids_of s front)) e, pr_front_rear))) in
        let r = total_same (length_of measure s) (length_of measure s') (kids_of s rear)
        (λ x m. others x (pr_live rear x m) (λ e. omega (arith, m, ap (times (kids_of s rear)) e, pr_rear_front))
        (λ e. omega (arith, m, ap (times (kids_of s rear)) e, pr_rear_rear))) in
        omega (arith, total-append (length_of measure s') (kids_of s front) (kids_of s rear), f, r, sums front P.front_block (λ e. cc), sums rear P.rear_block (λ e. cc))

    -- those left of the block's children, in which the front one has a new length
    pr_left : total (length_of measure s') (without (kids_of s up) rear) + length_of measure s front
        ≡ total (length_of measure s) (without (kids_of s up) rear) +
        length_of measure s' front
    pr_left = total_change (length_of measure s) (length_of measure s') (without (kids_of s up) rear) front pr_rest_front
        (λ x m d. others x (pr_live up x (omega (arith, m, times-without_le (kids_of s up) rear x))) d (pr_rest x m))

    pr_whole : (f : ℕ → ℕ) → total f (kids_of s up) ≡ total f (without (kids_of s up) rear) + f rear
    pr_whole f = ap (total f) (sym P.order) ∙ (after_is_edit front rear).totals f (without (kids_of s up) rear) pr_rest_front

  -- the children counted and measured once they are shared anew
  module _ (s1 : Forest L (Headed S)) (want : ℕ) (r : Regroups s s1 front rear want) where
    rg_times : (x : ℕ) → times (kids_of s1 front) x + times (kids_of s1 rear) x ≡ times (kids_of s front) x + times (kids_of s rear) x
    rg_times x = sym (times-append (kids_of s1 front) (kids_of s1 rear) x) ∙ ap (λ zs. times zs x) r.joined ∙ times-append (kids_of s front) (kids_of s rear) x

    pub rg_front_front : times (kids_of s1 front) front ≡ 0
    rg_front_front = omega (arith, rg_times front, pr_front_front, pr_rear_front)

    pub rg_rear_rear : times (kids_of s1 rear) rear ≡ 0
    rg_rear_rear = omega (arith, rg_times rear, pr_front_rear, pr_rear_rear)

    pub rg_rear_front : times (kids_of s1 rear) front ≡ 0
    rg_rear_front = omega (arith, rg_times front, pr_front_front, pr_rear_front)

    pub rg_front_rear : times (kids_of s1 front) rear ≡ 0
    rg_front_rear = omega (arith, rg_times rear, pr_front_rear, pr_rear_rear)

    pub rg_rear_many : want + 1 ≤ length (kids_of s front) + length (kids_of s rear) → 1 ≤ length (kids_of s1 rear)
    rg_rear_many h = omega (
      arith,
      ap length r.joined,
      length-append (kids_of s1 front) (kids_of s1 rear),
      length-append (kids_of s front) (kids_of s rear),
      r.count,
      h,
    )

    pub rg_up : kids_of s1 up ≡ kids_of s up
    rg_up = r.other_kids up pr_up_front pr_up_rear

    -- the child that is taken out at the rear one's place is the rear one
    pub mg_takes : (place : ℕ) → slice_get (kids_of s up) (place + 1) ≡ Some rear → (s2 : Forest L (Headed S)) (k : ℕ)
        → slice_get (kids_of s1 up) (place + 1) ≡ Some k
        → TakesChild s1 s2 up (place + 1) k → TakesChild s1 s2 up (place + 1) rear
    mg_takes place e s2 k h t =
        let q : Some k ≡ Some rear = sym h ∙ ap (λ ks. slice_get ks (place + 1)) rg_up ∙ e in
        let is : k ≡ rear = cc q in
        subst (λ (z : ℕ). TakesChild s1 s2 up (place + 1) z) is t

    pub rg_block : (x : ℕ) → IsSome (block_value s x) → IsSome (block_value s1 x)
    rg_block x h = subst (λ (o : Option (Headed S)). IsSome o) (sym (r.block_values x)) h

    pub mg_drop_block : (s2 : Forest L (Headed S)) (place : ℕ) → TakesChild s1 s2 up (place + 1) rear → IsSome (block_value s2 rear)
    mg_drop_block s2 place t = subst (λ (o : Option (Headed S)). IsSome o) (sym (t.block_values rear ∙ r.block_values rear)) P.rear_block

    pub mg_drop_empty : (s2 : Forest L (Headed S)) (place : ℕ) → TakesChild s1 s2 up (place + 1) rear
        → want ≡ length (kids_of s front) + length (kids_of s rear)
        → kids_of s2 rear ≡ []
    mg_drop_empty s2 place t all =
        t.other_kids rear (λ e. pr_up_rear (sym e))
        ∙ no_kids (kids_of s1 rear) (omega (
          arith,
          ap length r.joined,
          length-append (kids_of s1 front) (kids_of s1 rear),
          length-append (kids_of s front)
              (kids_of s rear),
          r.count,
          all,
        ))

    module _ (measure : Measure L S) (sums : SumsBut measure s None) where
      rg_length : (x : ℕ) → length_of measure s1 x ≡ length_of measure s x
      rg_length x = length_from_values measure (entry s x) (entry s1 x) (r.leaf_values x) (r.block_values x)

      pub rg_total : total (length_of measure s1) (kids_of s1 front) + total (length_of measure s1) (kids_of s1 rear)
          ≡ length_of measure s front + length_of measure s rear
      rg_total = omega (
        arith,
        total-append (length_of measure s1) (kids_of s1 front) (kids_of s1 rear),
        ap (total (length_of measure s1)) r.joined,
        pr_both measure s1
            sums (λ x _ _ _. rg_length x),
      )

      -- also once the front one is made again
      pub rg_rear_total : (s2 : Forest L (Headed S)) → SameShape s1 s2 → Resums measure s1 s2 front
          → total (length_of measure s2) (kids_of s2 rear) ≡ total (length_of measure s1) (kids_of s1 rear)
      rg_rear_total s2 q u = ap (total (length_of measure s2)) (q.kids rear)
          ∙ total_same (length_of measure s1) (length_of measure s2) (kids_of s1 rear)
          (λ x m. u.others x (λ e. omega (arith, m, ap (times (kids_of s1 rear)) e, rg_rear_front)))

  -- the children shared anew
  module _ (s1 s2 s3 : Forest L (Headed S)) (want : ℕ) (r : Regroups s s1 front rear want) (q1 : SameShape s1 s2) (q2 : SameShape s2 s3) where
    bl_kids : (x : ℕ) → kids_of s3 x ≡ kids_of s1 x
    bl_kids x = q2.kids x ∙ q1.kids x

    bl_kinds : (x : ℕ) → kind_of s3 x ≡ kind_of s x
    bl_kinds x = q2.kinds x ∙ q1.kinds x ∙ kind_from_values (entry s x) (entry s1 x) (r.leaf_values x) (r.block_values x)

    bl_joined : kids_of s3 front ++ kids_of s3 rear ≡ kids_of s front ++ kids_of s rear
    bl_joined = ap (λ zs. zs ++ kids_of s3 rear) (bl_kids front) ∙ ap (λ zs. kids_of s1 front ++ zs) (bl_kids rear) ∙ r.joined

    bl_up : kids_of s3 up ≡ kids_of s up
    bl_up = bl_kids up ∙ r.other_kids up pr_up_front pr_up_rear

    bl_levels : flat_map (kids_of s3) (kids_of s3 up) ≡ flat_map (kids_of s) (kids_of s up)
    bl_levels =
        ap (flat_map (kids_of s3)) (bl_up ∙ sym P.order) ∙ shared (kids_of s) (kids_of s3) (without (kids_of s up) rear) front rear bl_joined (λ x m d. bl_kids x
        ∙ r.other_kids x d (pr_rest x m)) ∙ ap (flat_map (kids_of s)) P.order

    pub balanced_up : kids_of s3 up ≡ kids_of s up
    balanced_up = bl_up

    pub balanced : 4 ≤ want → want + 4 ≤ length (kids_of s front) + length (kids_of s rear) → Shares s s3 up front rear
    balanced low high =
        record {
          leaves = q2.leaves ∙ q1.leaves ∙ r.leaves;
          forest = q2.forest;
          leaf_values = λ x. q2.leaf_values x ∙ q1.leaf_values x ∙ r.leaf_values x;
          kinds = λ x _. bl_kinds x;
          live = λ x _ h. kind_live (entry s x) (entry s3 x) (bl_kinds x) h;
          joined = bl_joined;
          other_kids = λ x _ f g. bl_kids x ∙ r.other_kids x f g;
          up_kids = λ x _. ap (λ ks. times ks x) bl_up;
          up_levels = bl_levels;
          up_filled = omega (arith, ap length bl_up, filled_by (kids_of s up) front pr_front_once);
          front_many = omega (arith, ap length (bl_kids front), r.count, low);
          rear_many = λ _. omega (
            arith,
            ap length (bl_kids front),
            ap length bl_joined,
            length-append (kids_of s3 front) (kids_of s3 rear),
            length-append
                (kids_of s front) (kids_of s rear),
            r.count,
            high,
          );
        }

    module _ (measure : Measure L S) (sums : SumsBut measure s None) (u1 : Resums measure s1 s2 front) (u2 : Resums measure s2 s3 rear) where
      bl_others : (x : ℕ) → x ≢ front → x ≢ rear → length_of measure s3 x ≡ length_of measure s x
      bl_others x f g = u2.others x g ∙ u1.others x f ∙ length_from_values measure (entry s x) (entry s1 x) (r.leaf_values x) (r.block_values x)

      bl_none : (x : ℕ) → times (kids_of s front) x ≡ 0 → times (kids_of s rear) x ≡ 0 → times (kids_of s1 front) x ≡ 0
      bl_none x a b = omega (arith, ap (λ zs. times zs x) r.joined, times-append (kids_of s1 front) (kids_of s1 rear) x, times-append (kids_of s front) (kids_of s rear) x, a, b)

      bl_front_sum : length_of measure s3 front ≡ total (length_of measure s3) (kids_of s3 front)
      bl_front_sum =
          u2.others front P.differ ∙ u1.sum ∙ sym (total_same (length_of measure s2) (length_of measure s3) (kids_of s2 front)
          (λ x m. u2.others x (λ e. omega (
            arith,
            m,
            ap (times (kids_of s2 front)) e,
            ap (λ ks. times ks rear) (q1.kids front),
            bl_none rear pr_front_rear
                pr_rear_rear,
          )))) ∙ ap (total (length_of measure s3)) (sym (q2.kids front))

      pub balanced_sums : ResumsPair measure s s3 up front rear
      balanced_sums =
          let o : (x : ℕ) → IsSome (entry s x) → x ≢ front → x ≢ rear → length_of measure s3 x ≡ length_of measure s x = λ x _ f g. bl_others x f g in
          record {
            others = λ x _ f g. bl_others x f g;
            front_sum = bl_front_sum;
            rear_sum = λ _. u2.sum;
            up_sum = omega (
              arith,
              ap (total (length_of measure s3)) bl_up,
              pr_whole measure s3 sums o (length_of measure s3),
              pr_whole measure s3 sums o
                  (length_of measure s),
              pr_left measure s3 sums o,
              pr_both measure s3 sums o,
              bl_front_sum,
              u2.sum,
              total-append (length_of measure s3) (kids_of s3 front)
                  (kids_of s3 rear),
              ap (total (length_of measure s3)) bl_joined,
            );
          }

  -- the rear one joined to the front one, and gone
  module _ (s1 s2 s3 s4 : Forest L (Headed S)) (want place : ℕ) (place_is : slice_get (kids_of s up) (place + 1) ≡ Some rear)
      (all : want ≡ length (kids_of s front) + length (kids_of s rear)) (r : Regroups s s1 front rear want) (l2 : s2.leaves ≡ s1.leaves)
      (t : TakesChild s1 s2 up (place + 1) rear) (l3 : s3.leaves ≡ s2.leaves) (c : Changes s2 s3 rear None) (q : SameShape s3 s4) where
    mg_values_leaf : (x : ℕ) → leaf_value s2 x ≡ leaf_value s x
    mg_values_leaf x = t.leaf_values x ∙ r.leaf_values x

    mg_values_block : (x : ℕ) → block_value s2 x ≡ block_value s x
    mg_values_block x = t.block_values x ∙ r.block_values x

    mg_rear_kids1 : kids_of s1 rear ≡ []
    mg_rear_kids1 = no_kids (kids_of s1 rear)
        (omega (arith, ap length r.joined, length-append (kids_of s1 front) (kids_of s1 rear), length-append (kids_of s front) (kids_of s rear), r.count, all))

    mg_rear_dead : entry s3 rear ≡ None
    mg_rear_dead = c.changed

    mg_dead : (x : ℕ) → IsSome (entry s4 x) → x ≢ rear
    mg_dead x h e =
        let h3 : IsSome (entry s3 x) = kind_live (entry s4 x) (entry s3 x) (sym (q.kinds x)) h in
        let z : IsSome (entry s3 rear) = subst (λ (y : ℕ). IsSome (entry s3 y)) e h3 in
        cc (z, mg_rear_dead)

    mg_kinds : (x : ℕ) → x ≢ rear → kind_of s4 x ≡ kind_of s x
    mg_kinds x d = q.kinds x ∙ ap kind_of_entry (c.others x d) ∙ kind_from_values (entry s x) (entry s2 x) (mg_values_leaf x) (mg_values_block x)

    mg_front : kids_of s4 front ≡ kids_of s front ++ kids_of s rear
    mg_front =
        q.kids front ∙ ap kids_of_entry (c.others front P.differ) ∙ t.other_kids front (λ e. pr_up_front (sym e)) ∙ sym (append-nil (kids_of s1 front))
        ∙ ap (λ zs. kids_of s1 front ++ zs) (sym mg_rear_kids1) ∙ r.joined

    mg_rear : kids_of s4 rear ≡ []
    mg_rear = q.kids rear ∙ ap kids_of_entry mg_rear_dead

    mg_other : (x : ℕ) → x ≢ up → x ≢ front → x ≢ rear → kids_of s4 x ≡ kids_of s x
    mg_other x u f g = q.kids x ∙ ap kids_of_entry (c.others x g) ∙ t.other_kids x u ∙ r.other_kids x f g

    mg_up : kids_of s4 up ≡ without (kids_of s up) rear
    mg_up = q.kids up ∙ ap kids_of_entry (c.others up pr_up_rear) ∙ t.kids ∙ ap (λ ks. remove ks (place + 1)) (r.other_kids up pr_up_front pr_up_rear)
        ∙ remove_is_without (kids_of s up) (place + 1) rear place_is pr_rear_once

    pub merged : 4 ≤ want → Shares s s4 up front rear
    merged low =
        record {
          leaves = q.leaves ∙ l3 ∙ l2 ∙ r.leaves;
          forest = q.forest;
          leaf_values = λ x. q.leaf_values x ∙ mg_leaf3 x ∙ mg_values_leaf x;
          kinds = λ x h. mg_kinds x (mg_dead x h);
          live = λ x d h. kind_live (entry s x) (entry s4 x) (mg_kinds x d) h;
          joined = ap (λ zs. kids_of s4 front ++ zs) mg_rear ∙ append-nil (kids_of s4 front) ∙ mg_front;
          other_kids = mg_other;
          up_kids = λ x h. ap (λ ks. times ks x) mg_up ∙ times-without_other (kids_of s up) rear x (mg_dead x h);
          up_levels = ap (flat_map (kids_of s4)) mg_up
              ∙ sym (flat_map-insert_after (kids_of s) (kids_of s4) (without (kids_of s up) rear) front rear mg_front
              (λ x m d. mg_other x (mg_not_up x m) d (pr_rest x m))) ∙ ap (flat_map (kids_of s)) P.order;
          up_filled = omega (arith, ap length mg_up, filled_by (without (kids_of s up) rear) front pr_rest_front);
          front_many = omega (arith, ap length mg_front, length-append (kids_of s front) (kids_of s rear), all, low);
          rear_many = λ h. absurd (mg_dead rear h refl);
        }
      where
        mg_leaf3 : (x : ℕ) → leaf_value s3 x ≡ leaf_value s2 x
        mg_leaf3 x = elim (cases_eq x rear) [
          | inl e ↦ ap (leaf_value s3) e ∙ ap leaf_of_entry mg_rear_dead
              ∙ sym (block_no_leaf s2 rear (subst (λ (o : Option (Headed S)). IsSome o) (sym (mg_values_block rear)) P.rear_block)) ∙ ap (leaf_value s2) (sym e)
          | inr d ↦ ap leaf_of_entry (c.others x d)
        ]

        mg_not_up : (x : ℕ) → 1 ≤ times (without (kids_of s up) rear) x → x ≢ up
        mg_not_up x m e =
            let px : parent_of s x ≡ Some up = points_some (parent_of s x) up (omega (arith, m, times-without_le (kids_of s up) rear x, forest.child_once up x)) in
            omega (arith, P.heights x up px, ap (height_of s) e)

    module _ (measure : Measure L S) (sums : SumsBut measure s None) (u : Resums measure s3 s4 front) where
      mg_others : (x : ℕ) → x ≢ front → x ≢ rear → length_of measure s4 x ≡ length_of measure s x
      mg_others x f g = u.others x f ∙ ap (length_of_entry measure) (c.others x g) ∙ length_from_values measure (entry s x) (entry s2 x) (mg_values_leaf x) (mg_values_block x)

      pub merged_sums : ResumsPair measure s s4 up front rear
      merged_sums =
          let o : (x : ℕ) → IsSome (entry s x) → x ≢ front → x ≢ rear → length_of measure s4 x ≡ length_of measure s x = λ x _ f g. mg_others x f g in
          record {
            others = λ x _ f g. mg_others x f g;
            front_sum = u.sum;
            rear_sum = λ h. absurd (mg_dead rear h refl);
            up_sum = omega (
              arith,
              ap (total (length_of measure s4)) mg_up,
              pr_whole measure s4 sums o (length_of measure s),
              pr_left measure s4 sums o,
              pr_both measure
                  s4 sums o,
              u.sum,
              ap (total (length_of measure s4)) mg_front,
            );
          }

-- before the front one is made again
module _ {L S : Type 0} (s : Forest L (Headed S)) (up front rear : ℕ) (forest : IsForest s) (P : IsPair s up front rear) (s1 s2 s3 : Forest L (Headed S)) (want place : ℕ)
    (all : want ≡ length (kids_of s front) + length (kids_of s rear)) (r : Regroups s s1 front rear want) (t : TakesChild s1 s2 up (place + 1) rear)
    (c : Changes s2 s3 rear None) where
  pub md_block : IsSome (block_value s3 front)
  md_block = subst (λ (o : Option (Headed S)). IsSome o) (sym (ap block_of_entry (c.others front P.differ) ∙ t.block_values front ∙ r.block_values front)) P.front_block

  md_front : kids_of s3 front ≡ kids_of s1 front
  md_front = ap kids_of_entry (c.others front P.differ) ∙ t.other_kids front (λ e. pr_up_front s up front rear forest P (sym e))

  pub md_many : length (kids_of s3 front) ≡ want
  md_many = ap length md_front ∙ r.count

  pub md_apart : times (kids_of s3 front) front ≡ 0
  md_apart = ap (λ ks. times ks front) md_front ∙ rg_front_front s up front rear forest P s1 want r

  pub md_total : (measure : Measure L S) → SumsBut measure s None
      → total (length_of measure s3) (kids_of s3 front) ≤ length_of measure s front + length_of measure s rear
  md_total measure sums =
      let same_length : (x : ℕ) → x ≢ rear → length_of measure s3 x ≡ length_of measure s1 x =
      λ x d. ap (length_of_entry measure) (c.others x d) ∙ length_from_values measure (entry s1 x) (entry s2 x) (t.leaf_values x) (t.block_values x) in
      omega (
        arith,
        ap (total (length_of measure s3)) md_front,
        total_same (length_of measure s1) (length_of measure s3) (kids_of s1 front)
            (λ x m. same_length x (λ e. omega (arith, m, ap (times (kids_of s1 front)) e, rg_front_rear s up front rear forest P s1 want r))),
        rg_total s up front rear
            forest P s1 want r measure sums,
      )

-- one child moves from the head of the rear one to the end of the front one, or back
head_of : (ys : List ℕ) (k : ℕ) → slice_get ys 0 ≡ Some k → ys ≡ k ∷ remove ys 0
head_of [] k e = cc
head_of (y ∷ ys) k e = let q : y ≡ k = cc e in ap (λ z. z ∷ ys) q

pub head_moved : (xs ys : List ℕ) (n k : ℕ) → n ≡ length xs → slice_get ys 0 ≡ Some k → insert xs n k ++ remove ys 0 ≡ xs ++ ys
head_moved xs ys n k e h = ap (λ (m : ℕ). insert xs m k ++ remove ys 0) e ∙ ap (λ zs. zs ++ remove ys 0) (insert_end xs k) ∙ append_assoc xs (k ∷ []) (remove ys 0)
    ∙ ap (λ zs. xs ++ zs) (sym (head_of ys k h))

pub last_moved : (xs ys : List ℕ) (i k : ℕ) → i + 1 ≡ length xs → slice_get xs i ≡ Some k → remove xs i ++ (k ∷ ys) ≡ xs ++ ys
last_moved [] ys i k e h = cc
last_moved (x ∷ []) ys zero k e h = let q : x ≡ k = cc h in ap (λ z. z ∷ ys) (sym q)
last_moved (x ∷ y ∷ xs) ys zero k e h = absurd (omega (arith, e))
last_moved (x ∷ xs) ys (suc i) k e h = ap (λ zs. x ∷ zs) (last_moved xs ys i k (omega (arith, e)) h)

-- a child that is taken out is live, and is another than who is no child
pub taken_live : {L S : Type 0} (s s1 : Forest L (Headed S)) (b place k : ℕ) → IsForest s → slice_get (kids_of s b) place ≡ Some k
    → TakesChild s s1 b place k → IsSome (entry s1 k)
taken_live s s1 b place k f h t =
    let m = times_at (kids_of s b) place k h in
    let up : parent_of s k ≡ Some b = points_some (parent_of s k) b (omega (arith, m, f.child_once b k)) in
    kind_live (entry s k) (entry s1 k) (kind_from_values (entry s k) (entry s1 k) (t.leaf_values k) (t.block_values k)) (live_from_parent (entry s k) b up)
