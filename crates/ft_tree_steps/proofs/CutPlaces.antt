-- What a cut at a place and a new leaf there make of the elements.
use Rattle.std.proofs.Common.{◌≡◌, ℕ, ◌+◌, ◌≤◌, Bool, not, List, [], ◌∷◌, ◌++◌, take, drop, length, Option, Some, None, subst, refl, sym, ◌∙◌, ap, arith, append_assoc}
use Rattle.std.specs.List.{prefix_len}
use Rattle.std.proofs.lemmas.List.{take-append-drop}
use Rattle.std.proofs.Math.Seq.{drop-append-add, drop-append_seam, take-append-add, take-append_seam}
use Rattle.ft_arena.specs.Ids.{after}
use Rattle.ft_arena.proofs.IdLemmas.{same_refl}
use Rattle.ft_base.specs.declared.stamps.Stamp.{Stamp}
use Rattle.ft_base.specs.Visibility.{is_acked}
use Rattle.ft_base.specs.Scan.{place, put, put_past}
use Rattle.ft_base.proofs.PlainList.{place-le-length}
use Rattle.ft_block.specs.Leaves.{IsPlaceIn, ids, left_of, put_leaf, split_leaf, times_leaf, value_at}
use Rattle.ft_tree_leaves.specs.declared.leaves.TreeLeaf.{TreeLeaf}
use Rattle.ft_tree_leaves.specs.Edits.{up_to_leaf, up_to_place}
use Rattle.ft_tree_leaves.specs.Elements.{TreeElement}
use Rattle.ft_tree_leaves.specs.LeafLists.{Extends, elements, leaf_elements, pending_leaves}
use Rattle.ft_tree_leaves.specs.LeafLists.Extends.{kept, added}
use Rattle.ft_tree_steps.specs.LeafSteps.{CutsBehind, PutsBehind, held_place}
use Rattle.ft_tree_blocks.specs.Walks.{from_leaf, from_place, node_behind}
use Rattle.ft_tree_leaves.proofs.CutLeaves.{extends_behind, extends_more, extends_same, ids-append, leaf_front, leaf_rear, put-split, put_past-split, taken, times-append, with_content}
use Rattle.ft_tree_leaves.proofs.LeafRuns.{elements-append}
use Rattle.ft_tree_leaves.proofs.RangeLeaves.{extends_trans}
use Rattle.ft_tree_leaves.proofs.Runs.{len-append}
use Rattle.ft_tree_leaves.proofs.Standing.{after-split, left-split, up_to-split}
use Rattle.ft_tree_blocks.proofs.Walks.{Stands, before-from, stands, up_to-from, up_to-stands}
use Rattle.ft_tree_blocks.proofs.WalkEdits.{from_split, put-behind, split-split}
use Rattle.ft_tree_steps.proofs.FoundPlaces.{pending_suffix}
use Rattle.ft_tree_blocks.proofs.CountedWalks.{up_to_count}

module _ {L : Type 0} where
  -- what stands left of a new leaf
  pub left-put : (xs : List (ℕ × L)) (at : Option ℕ) (id : ℕ) (v : L) → ((i : ℕ) → times_leaf xs i ≤ 1) → IsPlaceIn xs at → times_leaf xs id ≡ 0
      → left_of (put_leaf xs at (id, v)) id ≡ up_to_place xs at
  left-put xs at id v once live fresh =
      let front = up_to_place xs at in
      let rest = from_place xs (node_behind xs at) in
      let apart : times_leaf front id ≡ 0 = omega (arith, fresh, ap (λ zs. times_leaf zs id) (up_to-from xs at once live), times-append front rest id) in
      ap (λ zs. left_of zs id) (put-behind xs at (id, v) once live) ∙ left-split id v rest front apart

module _ {C U : Type 0} (units : C → List U) (by : C → Option Stamp) where
  -- nothing is cut at the head
  pub cuts_none : (xs : List (ℕ × TreeLeaf C)) → CutsBehind units by 0 xs xs None
  cuts_none xs = record { list = refl; place = refl; nodes = extends_same (ids xs); live = tt; pending = pending_suffix units by xs (node_behind xs None) }

  pub stands_live : (xs ls rs : List (ℕ × TreeLeaf C)) (id : ℕ) (v : TreeLeaf C) → xs ≡ ls ++ (id, v) ∷ rs → 1 ≤ times_leaf xs id
  stands_live xs ls rs id v e = omega (arith, ap (λ zs. times_leaf zs id) e, times-append ls ((id, v) ∷ rs) id, same_refl id)

  -- nor where a leaf ends
  pub cuts_whole : (xs : List (ℕ × TreeLeaf C)) (id : ℕ) (v : TreeLeaf C) (n : ℕ) → ((i : ℕ) → times_leaf xs i ≤ 1) → value_at xs id ≡ Some v
      → n ≡ length (units v.content) → CutsBehind units by (held_place units by xs (Some id) n) xs xs (Some id)
  cuts_whole xs id v n once e all =
      let s = stands xs id v once e in
      record {
        list = refl;
        place = omega (arith, up_to_count units by xs (left_of xs id) id v (up_to-stands xs id v s), all);
        nodes = extends_same (ids xs);
        live = stands_live xs (left_of xs id) (from_place xs (after (ids xs) id)) id v s.whole;
        pending = pending_suffix units by xs (node_behind xs (Some id));
      }

  -- a leaf that is cut after its first n elements has the same ones then
  pub record SplitsHere (n : ℕ) (xs now : List (ℕ × TreeLeaf C)) (id new : ℕ) (front : TreeLeaf C) : Type 0 where
    pub rest : List (ℕ × TreeLeaf C)
    pub whole : now ≡ left_of xs id ++ (id, front) ∷ rest
    pub apart : times_leaf (left_of xs id) id ≡ 0
    pub list : elements units by ((id, front) ∷ rest) ≡ elements units by (from_place xs (Some id))
    pub count : length (units front.content) ≡ n
    pub nodes : Extends (ids xs) (ids now)
    pub behind : times_leaf xs new ≡ 0 → from_place now (after (ids now) id) ≡ rest
    pub pending : pending_leaves rest ≤ pending_leaves xs

  halves : (v : TreeLeaf C) (k r : C) (n : ℕ) → units k ≡ take n (units v.content) → by k ≡ by v.content → units r ≡ drop n (units v.content) → by r ≡ by v.content
      → leaf_elements units by (with_content units by v k) ++ leaf_elements units by (with_content units by v r) ≡ leaf_elements units by v
  halves v k r n uk bk ur br =
      ap (λ zs. zs ++ leaf_elements units by (with_content units by v r)) (leaf_front units by v k n uk bk)
      ∙ ap (λ zs. take n (leaf_elements units by v) ++ zs) (leaf_rear units by v r n ur br) ∙ take-append-drop n (leaf_elements units by v)

  apart_front : (xs ls rs : List (ℕ × TreeLeaf C)) (id new : ℕ) (v : TreeLeaf C) → xs ≡ ls ++ (id, v) ∷ rs → times_leaf xs new ≡ 0
      → times_leaf (ls ++ (id, v) ∷ []) new ≡ 0
  apart_front xs ls rs id new v e fresh =
      omega (
        arith,
        fresh,
        ap (λ zs. times_leaf zs new) e,
        times-append ls ((id, v) ∷ rs) new,
        times-append ls ((id, v) ∷ []) new,
      )

  apart_now : (id new : ℕ) (v w : TreeLeaf C) (ls : List (ℕ × TreeLeaf C)) → times_leaf (ls ++ (id, v) ∷ []) new ≡ 0 → times_leaf (ls ++ (id, w) ∷ []) new ≡ 0
  apart_now id new v w ls h = omega (arith, h, times-append ls ((id, v) ∷ []) new, times-append ls ((id, w) ∷ []) new)

  behind_split : (id new : ℕ) (x y : TreeLeaf C) (ls rs now : List (ℕ × TreeLeaf C)) → now ≡ ls ++ (id, x) ∷ (new, y) ∷ rs → times_leaf ls id ≡ 0
      → times_leaf (ls ++ (id, x) ∷ []) new ≡ 0 → from_place now (after (ids now) id) ≡ (new, y) ∷ rs
  behind_split id new x y ls rs now e apart fresh =
      ap (λ zs. from_place zs (after (ids zs) id)) e
      ∙ ap (from_place (ls ++ (id, x) ∷ (new, y) ∷ rs)) (after-split id x ((new, y) ∷ rs) ls apart)
      ∙ ap (λ zs. from_leaf zs new) (sym (append_assoc ls ((id, x) ∷ []) ((new, y) ∷ rs)))
      ∙ from_split new y rs (ls ++ (id, x) ∷ []) fresh

  pub splits_here : (xs now : List (ℕ × TreeLeaf C)) (id new : ℕ) (v : TreeLeaf C) (n : ℕ) (k r : C) → Stands xs id v
      → n ≤ length (units v.content) → units k ≡ take n (units v.content) → by k ≡ by v.content
      → units r ≡ drop n (units v.content) → by r ≡ by v.content
      → (f g : TreeLeaf C → TreeLeaf C) → f v ≡ with_content units by v k → g v ≡ with_content units by v r
      → now ≡ split_leaf f g xs id new → SplitsHere n xs now id new (with_content units by v k)
  splits_here xs now id new v n k r s low uk bk ur br f g e_f e_g e_now =
      let ls = left_of xs id in
      let rs = from_place xs (after (ids xs) id) in
      let x : ℕ × TreeLeaf C = (id, with_content units by v k) in
      let y : ℕ × TreeLeaf C = (new, with_content units by v r) in
      let whole : now ≡ ls ++ x ∷ y ∷ rs =
      e_now ∙ ap (λ zs. split_leaf f g zs id new) s.whole ∙ split-split f g id new v rs ls s.right s.left
      ∙ ap (λ w. ls ++ (id, w) ∷ (new, g v) ∷ rs) e_f ∙ ap (λ w. ls ++ x ∷ (new, w) ∷ rs) e_g in
      record {
        rest = y ∷ rs;
        whole = whole;
        apart = s.left;
        list =
            sym (append_assoc (leaf_elements units by x.1) (leaf_elements units by y.1) (elements units by rs))
            ∙ ap (λ zs. zs ++ elements units by rs) (halves v k r n uk bk ur br) ∙ ap (elements units by) (sym s.from);
        count = ap length uk ∙ taken n (units v.content) low;
        nodes = subst (λ zs. Extends zs (ids now)) (sym (ap ids s.whole ∙ ids-append ls ((id, v) ∷ rs)))
            (subst (Extends (ids ls ++ (id ∷ ids rs))) (sym (ap ids whole ∙ ids-append ls (x ∷ y ∷ rs)))
            (extends_behind (ids ls) (id ∷ ids rs) (id ∷ new ∷ ids rs) (kept (added (extends_same (ids rs))))));
        behind = λ fresh. behind_split id new (with_content units by v k) (with_content units by v r) ls rs now whole s.left (apart_now id new v
            (with_content units by v k) ls (apart_front xs ls rs id new v s.whole fresh));
        pending = omega (
          arith,
          ap pending_leaves s.whole,
          len-append (λ (z : ℕ × TreeLeaf C). not (is_acked z.1.stamps.ins)) ls ((id, v) ∷ rs),
        );
      }

  -- so there a leaf ends behind the first n
  pub cuts_split : (n : ℕ) (xs now : List (ℕ × TreeLeaf C)) (id new : ℕ) (front : TreeLeaf C) → times_leaf xs new ≡ 0 → SplitsHere n xs now id new front
      → CutsBehind units by (held_place units by xs (Some id) n) xs now (Some id)
  cuts_split n xs now id new front fresh s =
      record {
        list =
            ap (elements units by) s.whole ∙ elements-append units by (left_of xs id) ((id, front) ∷ s.rest)
            ∙ ap (λ zs. elements units by (left_of xs id) ++ zs) s.list
            ∙ sym (elements-append units by (left_of xs id) (from_place xs (Some id))) ∙ ap (elements units by) (before-from xs (Some id));
        place = omega (
          arith,
          up_to_count units by now (left_of xs id) id front (ap (λ zs. up_to_leaf zs id) s.whole ∙ up_to-split id front s.rest (left_of xs id) s.apart),
          s.count,
        );
        nodes = s.nodes;
        live = stands_live now (left_of xs id) s.rest id front s.whole;
        pending = omega (arith, ap pending_leaves (s.behind fresh), s.pending);
      }

  -- a new leaf behind a place
  pub puts_behind : (xs now : List (ℕ × TreeLeaf C)) (at : Option ℕ) (id n : ℕ) (leaf : TreeLeaf C) → ((i : ℕ) → times_leaf xs i ≤ 1) → IsPlaceIn xs at
      → now ≡ put_leaf xs at (id, leaf) → n ≡ length (elements units by (up_to_place xs at)) → PutsBehind units by n leaf xs now
  puts_behind xs now at id n leaf once live e count =
      let ls = up_to_place xs at in
      let rs = from_place xs (node_behind xs at) in
      let whole : ls ++ rs ≡ xs = up_to-from xs at once live in
      let flat : now ≡ ls ++ (id, leaf) ∷ rs = e ∙ put-behind xs at (id, leaf) once live in
      let all : elements units by xs ≡ elements units by ls ++ elements units by rs = ap (elements units by) (sym whole) ∙ elements-append units by ls rs in
      let head : take n (elements units by xs) ≡ elements units by ls =
      ap (λ k. take k (elements units by xs)) count ∙ ap (take (length (elements units by ls))) all ∙ take-append_seam (elements units by ls) (elements units by rs) in
      let tail : drop n (elements units by xs) ≡ elements units by rs =
      ap (λ k. drop k (elements units by xs)) count ∙ ap (drop (length (elements units by ls))) all ∙ drop-append_seam (elements units by ls) (elements units by rs) in
      record {
        list =
            ap (elements units by) flat ∙ elements-append units by ls ((id, leaf) ∷ rs)
            ∙ ap (λ zs. zs ++ (leaf_elements units by leaf ++ elements units by rs)) (sym head)
            ∙ ap (λ zs. take n (elements units by xs) ++ (leaf_elements units by leaf ++ zs)) (sym tail);
        nodes = subst (Extends (ids xs)) (sym (ap ids flat ∙ ids-append ls ((id, leaf) ∷ rs)))
            (extends_more (ids xs) (ids ls) (ids rs) id
            (subst (Extends (ids xs)) (sym (sym (ids-append ls rs) ∙ ap ids whole)) (extends_same (ids xs))));
      }

-- an insertion at its place, past a run
pub put-at : {A : Type 0} (seen past : A → Bool) (p n m : ℕ) (new xs : List A) → n ≡ place seen p xs → m ≡ n + prefix_len past (drop n xs)
    → take m xs ++ (new ++ drop m xs) ≡ put seen past p new xs
put-at seen past p n m new xs e d =
    let a = take n xs in
    let b = drop n xs in
    let k = prefix_len past b in
    let whole : a ++ b ≡ xs = take-append-drop n xs in
    let inside : n ≤ length xs = omega (arith, e, place-le-length seen p xs) in
    let count : m ≡ length a + k = omega (arith, d, taken n xs inside) in
    ap (λ i. take i xs ++ (new ++ drop i xs)) count
    ∙ ap (λ zs. take (length a + k) zs ++ (new ++ drop (length a + k) zs)) (sym whole)
    ∙ ap (λ zs. zs ++ (new ++ drop (length a + k) (a ++ b))) (take-append-add a b k)
    ∙ ap (λ zs. (a ++ take k b) ++ (new ++ zs)) (drop-append-add a b k)
    ∙ append_assoc a (take k b) (new ++ drop k b)
    ∙ ap (λ zs. a ++ zs) (sym (put_past-split past new b))
    ∙ ap (λ i. take i xs ++ put_past past new (drop i xs)) e
    ∙ sym (put-split seen past p new xs)

module _ {C U : Type 0} (units : C → List U) (by : C → Option Stamp) where
  -- what stands behind a place that was cut
  pub rest_behind : (n : ℕ) (old cut : List (ℕ × TreeLeaf C)) (at : Option ℕ) → ((i : ℕ) → times_leaf cut i ≤ 1) → CutsBehind units by n old cut at
      → elements units by (from_place cut (node_behind cut at)) ≡ drop n (elements units by old)
  rest_behind n old cut at once c =
      let front = elements units by (up_to_place cut at) in
      let rest = elements units by (from_place cut (node_behind cut at)) in
      let split : front ++ rest ≡ elements units by old =
      sym (elements-append units by (up_to_place cut at) (from_place cut (node_behind cut at))) ∙ ap (elements units by) (up_to-from cut at once c.live) ∙ c.list in
      sym (drop-append_seam front rest) ∙ ap (λ k. drop k (front ++ rest)) c.place ∙ ap (drop n) split

  -- a leaf that is put in where a place was cut, as one that is put into the list of before
  pub puts_old : (n i : ℕ) (leaf : TreeLeaf C) (old cut now : List (ℕ × TreeLeaf C)) (at : Option ℕ) → CutsBehind units by n old cut at
      → PutsBehind units by i leaf cut now → PutsBehind units by i leaf old now
  puts_old n i leaf old cut now at c puts = record {
    list = puts.list ∙ ap (λ zs. take i zs ++ (leaf_elements units by leaf ++ drop i zs)) c.list;
    nodes = extends_trans (ids old) (ids cut) (ids now) c.nodes puts.nodes;
  }

  -- and as an insertion
  pub puts_elements : (seen past : TreeElement U → Bool) (p n i : ℕ) (leaf : TreeLeaf C) (old now : List (ℕ × TreeLeaf C)) → PutsBehind units by i leaf old now
      → n ≡ place seen p (elements units by old) → i ≡ n + prefix_len past (drop n (elements units by old))
      → elements units by now ≡ put seen past p (leaf_elements units by leaf) (elements units by old)
  puts_elements seen past p n i leaf old now puts e d = puts.list ∙ put-at seen past p n i (leaf_elements units by leaf) (elements units by old) e d
