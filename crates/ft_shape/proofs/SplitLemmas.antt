-- What a split of a full block leaves.
use Rattle.std.proofs.Common.{◌≡◌, ◌≢◌, ℕ, zero, suc, ◌+◌, ◌-◌, ◌^◌, ◌<◌, ◌≤◌, List, [], ◌∷◌, ◌++◌, length, insert, slice_get, Option, Some, None, IsSome, sym, ap, ◌∙◌, arith}
use Rattle.ft_arena.specs.declared.nodes.Node.TheVariants.{Block}
use Rattle.ft_arena.specs.Ids.{times, points}
use Rattle.ft_arena.specs.Forest.{Forest, Entry, IsForest, entry, kids_of, block_value, leaf_value, leaf_of_entry, block_of_entry, kids_of_entry, parent_of_entry}
use Rattle.ft_arena.proofs.IdLemmas.{same_other, times-append}
use Rattle.ft_shape.specs.declared.headed.Headed.{Headed}
use Rattle.ft_shape.specs.Tree.{total, Measure, length_of, length_of_entry, kind_of, kind_of_entry}
use Rattle.ft_shape.specs.Steps.{SameShape, Resums, ResumsBoth, SplitsAt}
use Rattle.std.proofs.Common.{get_or, take, drop, remove}
use Rattle.std.proofs.lemmas.Option.{get_or_from_slice_get}
use Rattle.std.proofs.lemmas.List.{take-append-drop, length-take-le, length-drop, drop-drop, take_more, get_or-drop}
use Rattle.std.proofs.lemmas.List.Edits.{insert-append_left, insert-append_right, remove-append_right, insert_end, length-insert}
use Rattle.ft_arena.specs.Forest.{Changes, PutsChild}
use Rattle.ft_arena.proofs.IdLemmas.{times-insert}
use Rattle.ft_arena.proofs.KidLemmas.{kept}
use Rattle.ft_shape.specs.Steps.{Halves, PutsInHalf}
use Rattle.ft_shape.proofs.Lists.{total-append}
use Rattle.ft_shape.proofs.EditLemmas.{total_same, dead_apart}
use Rattle.ft_shape.proofs.KindLemmas.{kind_live, block_live, kind_from_values, length_from_values}

slice_get_after : (xs ys : List ℕ) (n : ℕ) → length xs ≡ n → slice_get (xs ++ ys) n ≡ slice_get ys 0
slice_get_after [] ys n e = ap (slice_get ys) (sym e)
slice_get_after (x ∷ xs) ys zero e = absurd (omega arith)
slice_get_after (x ∷ xs) ys (suc n) e = slice_get_after xs ys n (omega arith)

module _ (K : List ℕ) (k c : ℕ) (full : length K ≡ 8) (few : k < 4) (found : slice_get (take 4 K ++ drop (4 + k) K) 4 ≡ Some c) where
  front4 : length (take 4 K) ≡ 4
  front4 = length-take-le 4 K (omega arith)

  found_at : slice_get (drop (4 + k) K) 0 ≡ Some c
  found_at = sym (slice_get_after (take 4 K) (drop (4 + k) K) 4 front4) ∙ found

  pub half_front : remove (take 4 K ++ drop (4 + k) K) 4 ≡ take 4 K ++ drop (4 + (k + 1)) K
  half_front =
      let e : (4 + k) + 1 ≡ 4 + (k + 1) = omega arith in
      remove-append_right (take 4 K) (drop (4 + k) K) 4 4 front4 (omega arith) ∙ ap (λ zs. take 4 K ++ zs) (drop-drop 1 (4 + k) K ∙ ap (λ (n : ℕ). drop n K) e)

  pub half_back : insert (take k (drop 4 K)) k c ≡ take (k + 1) (drop 4 K)
  half_back =
      let len : length (drop 4 K) ≡ 4 = omega (arith, length-drop 4 K) in
      let same_len : length (take k (drop 4 K)) ≡ k = length-take-le k (drop 4 K) (omega arith) in
      let z : (4 + k) + 0 ≡ 4 + k = omega arith in
      let at : get_or (drop 4 K) k c ≡ c = get_or-drop 4 K k c ∙ ap (λ (n : ℕ). get_or K n c) (sym z) ∙ sym (get_or-drop (4 + k) K 0 c)
      ∙ get_or_from_slice_get (drop (4 + k) K) 0 c c found_at in
      ap (λ (n : ℕ). insert (take k (drop 4 K)) n c) (sym same_len) ∙ insert_end (take k (drop 4 K)) c ∙ ap (λ (y : ℕ). take k (drop 4 K) ++ y ∷ []) (sym at)
      ∙ sym (take_more (drop 4 K) k c (omega arith))

module _ {L S : Type 0} where
  -- a node with the same values is still live
  pub live_from_values : (o u : Option (Entry L (Headed S))) → leaf_of_entry u ≡ leaf_of_entry o → block_of_entry u ≡ block_of_entry o → IsSome o → IsSome u
  live_from_values o u l b h = kind_live o u (kind_from_values o u l b) h

  pub PutsInHalf-left : (old new : Forest L (Headed S)) (block rear place id : ℕ) → new.leaves ≡ old.leaves → new.spare ≡ old.spare
      → PutsChild old new block place id
      → IsForest new → length (kids_of old block) ≡ 4 → length (kids_of old rear) ≡ 4 → block ≢ rear → place ≤ 4 → PutsInHalf old new block rear place id
  PutsInHalf-left old new block rear place id l sp p f front back apart low =
      let kr = p.other_kids rear (λ e. apart (sym e)) in
      record {
        leaves = l;
        forest = f;
        spare = sp;
        leaf_values = p.leaf_values;
        block_values = p.block_values;
        joined = ap (λ zs. zs ++ kids_of new rear) p.kids ∙ ap (λ zs. insert (kids_of old block) place id ++ zs) kr
            ∙ sym (insert-append_left (kids_of old block) (kids_of old rear) place id (omega arith));
        front_many = omega (arith, ap length p.kids, length-insert (kids_of old block) place id (omega arith));
        rear_many = omega (arith, ap length kr);
        other_kids = λ x d _. p.other_kids x d;
      }

  pub PutsInHalf-right : (old new : Forest L (Headed S)) (block rear place id : ℕ) → new.leaves ≡ old.leaves → new.spare ≡ old.spare
      → PutsChild old new rear (place - 4) id
      → IsForest new → length (kids_of old block) ≡ 4 → length (kids_of old rear) ≡ 4 → block ≢ rear → 4 < place → place ≤ 8
      → PutsInHalf old new block rear place id
  PutsInHalf-right old new block rear place id l sp p f front back apart low high =
      let kb = p.other_kids block apart in
      record {
        leaves = l;
        forest = f;
        spare = sp;
        leaf_values = p.leaf_values;
        block_values = p.block_values;
        joined = ap (λ zs. zs ++ kids_of new rear) kb ∙ ap (λ zs. kids_of old block ++ zs) p.kids
            ∙ sym (insert-append_right (kids_of old block) (kids_of old rear) 4 place id front (omega arith));
        front_many = omega (arith, ap length kb);
        rear_many = omega (arith, ap length p.kids, length-insert (kids_of old rear) (place - 4) id (omega arith));
        other_kids = λ x _ d. p.other_kids x d;
      }

module _ {L S : Type 0} (measure : Measure L S) (a0 a1 a2 a3 : Forest L (Headed S)) (block place id rear height : ℕ) (z : (Headed S)) (is_high : z.height ≡ height)
    (forest : IsForest a0) (is_block : IsSome (block_value a0 block)) (full : length (kids_of a0 block) ≡ 8) (id_live : IsSome (entry a0 id))
    (apart : times (kids_of a0 block) block ≡ 0) (differ : id ≢ block) (fits : total (length_of measure a0) (insert (kids_of a0 block) place id) < 2 ^ 64)
    (fresh : entry a0 rear ≡ None) (leaves1 : a1.leaves ≡ a0.leaves) (spare1 : a0.spare ≡ a1.spare + 1)
    (c1 : Changes a0 a1 rear (Some record { node = Block [] z; parent = None })) (r2 : Halves a1 a2 block rear) (r3 : PutsInHalf a2 a3 block rear place id) where
  block_not_rear : block ≢ rear
  block_not_rear = dead_apart (entry a0) block rear (block_live (entry a0 block) is_block) fresh

  id_not_rear : id ≢ rear
  id_not_rear = dead_apart (entry a0) id rear id_live fresh

  kids1 : kids_of a1 block ≡ kids_of a0 block
  kids1 = ap kids_of_entry (c1.others block block_not_rear)

  joined : kids_of a3 block ++ kids_of a3 rear ≡ insert (kids_of a0 block) place id
  joined =
      r3.joined ∙ ap (λ zs. insert (zs ++ kids_of a2 rear) place id) (r2.front ∙ ap (take 4) kids1)
      ∙ ap (λ zs. insert (take 4 (kids_of a0 block) ++ zs) place id) (r2.back ∙ ap (drop 4) kids1)
      ∙ ap (λ zs. insert zs place id) (take-append-drop 4 (kids_of a0 block))

  -- who is no child of the block and not the new one is a child of neither
  gone : (x : ℕ) → times (kids_of a0 block) x ≡ 0 → id ≢ x → times (kids_of a3 block) x + times (kids_of a3 rear) x ≡ 0
  gone x none d = sym (times-append (kids_of a3 block) (kids_of a3 rear) x) ∙ ap (λ zs. times zs x) joined ∙ times-insert (kids_of a0 block) place id x
      ∙ omega (arith, none, same_other id x d)

  rear_no_child : times (kids_of a0 block) rear ≡ 0
  rear_no_child = forest.child_once block rear ∙ ap (λ o. points (parent_of_entry o) block) fresh

  pub split_apart_front : times (kids_of a3 block) block ≡ 0
  split_apart_front = omega (arith, gone block apart differ)

  block_not_in_rear : times (kids_of a3 rear) block ≡ 0
  block_not_in_rear = omega (arith, gone block apart differ)

  pub split_apart_rear : times (kids_of a3 rear) rear ≡ 0
  split_apart_rear = omega (arith, gone rear rear_no_child id_not_rear)

  pub rear_not_in_front : times (kids_of a3 block) rear ≡ 0
  rear_not_in_front = omega (arith, gone rear rear_no_child id_not_rear)

  leaf1 : (x : ℕ) → leaf_value a1 x ≡ leaf_value a0 x
  leaf1 = kept leaf_of_entry a0 a1 rear _ c1 (sym (ap leaf_of_entry fresh))

  length3 : (x : ℕ) → x ≢ rear → length_of measure a3 x ≡ length_of measure a0 x
  length3 x d = length_from_values measure (entry a2 x) (entry a3 x) (r3.leaf_values x) (r3.block_values x)
      ∙ length_from_values measure (entry a1 x) (entry a2 x) (r2.leaf_values x) (r2.block_values x) ∙ ap (length_of_entry measure) (c1.others x d)

  kind3 : (x : ℕ) → kind_of a3 x ≡ kind_of a1 x
  kind3 x = kind_from_values (entry a2 x) (entry a3 x) (r3.leaf_values x) (r3.block_values x) ∙ kind_from_values (entry a1 x) (entry a2 x) (r2.leaf_values x) (r2.block_values x)

  both_total : total (length_of measure a3) (kids_of a3 block) + total (length_of measure a3) (kids_of a3 rear) < 2 ^ 64
  both_total =
      let m : (x : ℕ) → 1 ≤ times (insert (kids_of a0 block) place id) x → length_of measure a3 x ≡ length_of measure a0 x =
      λ x i. length3 x (λ e. omega (
        arith,
        i,
        ap (λ z. times (insert (kids_of a0 block) place id) z) e,
        times-insert (kids_of a0 block) place id rear,
        same_other
            id rear id_not_rear,
        rear_no_child,
      )) in
      omega (
        arith,
        total-append (length_of measure a3) (kids_of a3 block) (kids_of a3 rear),
        ap (total (length_of measure a3)) joined,
        total_same (length_of measure a0)
            (length_of measure a3) (insert (kids_of a0 block) place id) m,
        fits,
      )

  pub split_fits_front : total (length_of measure a3) (kids_of a3 block) < 2 ^ 64
  split_fits_front = omega (arith, both_total)

  module _ (a4 : Forest L (Headed S)) (r4 : SameShape a3 a4) (u4 : Resums measure a3 a4 block) where
    pub split_apart_rear4 : times (kids_of a4 rear) rear ≡ 0
    split_apart_rear4 = ap (λ zs. times zs rear) (r4.kids rear) ∙ split_apart_rear

    pub split_fits_rear : total (length_of measure a4) (kids_of a4 rear) < 2 ^ 64
    split_fits_rear = omega (
      arith,
      both_total,
      ap (total (length_of measure a4)) (r4.kids rear),
      total_same (length_of measure a3) (length_of measure a4)
          (kids_of a3 rear) (λ x m. u4.others x (λ e. omega (arith, m, ap (times (kids_of a3 rear)) e, block_not_in_rear))),
    )

    module _ (a5 : Forest L (Headed S)) (r5 : SameShape a4 a5) (u5 : Resums measure a4 a5 rear) (height_is : kind_of a0 block ≡ Some (Some height)) where
      kids5 : (x : ℕ) → kids_of a5 x ≡ kids_of a3 x
      kids5 x = r5.kids x ∙ r4.kids x

      pub split_done : SplitsAt a0 a5 block place id rear
      split_done =
          record {
            leaves = r5.leaves ∙ r4.leaves ∙ r3.leaves ∙ r2.leaves ∙ leaves1;
            forest = r5.forest;
            spare = omega (arith, spare1, r2.spare, r3.spare, r4.spare, r5.spare);
            leaf_values = λ x. r5.leaf_values x ∙ r4.leaf_values x ∙ r3.leaf_values x ∙ r2.leaf_values x ∙ leaf1 x;
            fresh = fresh;
            kind = r5.kinds rear ∙ r4.kinds rear ∙ kind3 rear ∙ ap kind_of_entry c1.changed ∙ ap (λ (h : ℕ). Some (Some h)) is_high ∙ sym height_is;
            kinds = λ x d. r5.kinds x ∙ r4.kinds x ∙ kind3 x ∙ ap kind_of_entry (c1.others x d);
            kids = ap (λ zs. zs ++ kids_of a5 rear) (kids5 block) ∙ ap (λ zs. kids_of a3 block ++ zs) (kids5 rear) ∙ joined;
            front_many = omega (arith, ap length (kids5 block), r3.front_many);
            rear_many = omega (arith, ap length (kids5 rear), r3.rear_many);
            other_kids = λ x d n. kids5 x ∙ r3.other_kids x d n ∙ r2.other_kids x d n ∙ ap kids_of_entry (c1.others x n);
          }

      pub split_resums : ResumsBoth measure a0 a5 block rear
      split_resums =
          record {
            others = λ x d n. u5.others x n ∙ u4.others x d ∙ length3 x n;
            front_sum = u5.others block block_not_rear ∙ u4.sum
                ∙ sym (total_same (length_of measure a4) (length_of measure a5) (kids_of a4 block)
                (λ x m. u5.others x (λ e. omega (arith, m, ap (times (kids_of a4 block)) e, ap (λ zs. times zs rear) (r4.kids block), rear_not_in_front))))
                ∙ ap (total (length_of measure a5)) (sym (r5.kids block));
            rear_sum = u5.sum;
          }
