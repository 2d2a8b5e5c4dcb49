-- How the leaves of one stage are moved, from the last to the first, behind the leaf that was found for them.
use Rattle.std.proofs.Common.{◌≡◌, ◌≢◌, ℕ, zero, suc, ◌+◌, ◌-◌, ◌≤◌, Bool, true, false, cond, not, nat_eq, nat_le, All, List, [], ◌∷◌, ◌++◌, Option, Some, None, filter, length, refl, sym, ◌∙◌, ap, subst, arith, append_assoc, append-nil}
use Rattle.std.specs.Option.{option_and_then}
use Rattle.std.proofs.lemmas.Bool.{ne_eqb}
use Rattle.std.proofs.lemmas.Bool.Decides.{nat_tests}
use Rattle.std.proofs.lemmas.List.Elements.{All-head, All-tail}
use Rattle.ft_arena.specs.Ids.{same}
use Rattle.ft_base.specs.Scan.{len, no_run, one_more_if, put}
use Rattle.ft_block.specs.declared.blocks.Found.{Found}
use Rattle.ft_block.specs.Leaves.{IsLeafIn, IsPlaceIn, ids, move_leaf, place_by, place_from, times_leaf, value_at, without_leaf}
use Rattle.ft_tree_leaves.proofs.CutLeaves.{times-append}
use Rattle.ft_tree_leaves.proofs.LeafEdits.{times-moved, times-without-one}
use Rattle.ft_rebase.proofs.MovedBlocks.{IsApart, fewer, moves_block, node-apart, node-filter, node-in, put-block, put_block, put_block-none, put_block_after, without-filter, without_all}
use Rattle.ft_block.specs.declared.leaves.LenView.TheVariants.{Stage}
use Rattle.ft_tree_leaves.specs.declared.leaves.TreeLeaf.{TreeLeaf}
use Rattle.ft_tree_leaves.specs.LeafLists.{leaf_length}
use Rattle.ft_props.proofs.RebuiltList.{filter-twice}
use Rattle.ft_rebase.specs.Moves.{leaf_stamps, moved_stage, seen_node, seen_size}
use Rattle.ft_rebase.proofs.Expanded.{len-filter}
use Rattle.ft_rebase.proofs.ListedLeaves.{value-filtered, value-live}
use Rattle.ft_rebase.proofs.StageListLemmas.{unseen}
use Rattle.ft_rebase.specs.StageLists.{inserted_by, seen_by}

module _ {L : Type 0} where
  own-node : (x : ℕ × L) → nat_eq x.0 x.0 ≡ true
  own-node x = grind (arith, nat_tests)

  -- ---- values

  value-behind : (ms xs : List (ℕ × L)) (id : ℕ) → times_leaf ms id ≡ 0 → value_at (ms ++ xs) id ≡ value_at xs id
  value-behind [] xs id h = refl
  value-behind (m ∷ ms) xs id h = step (nat_eq m.0 id) h (value-behind ms xs id)
    where
      step : (b : Bool) → cond b 1 0 + times_leaf ms id ≡ 0 → (times_leaf ms id ≡ 0 → value_at (ms ++ xs) id ≡ value_at xs id)
          → cond b (Some m.1) (value_at (ms ++ xs) id) ≡ value_at xs id
      step true h ih = absurd (omega arith)
      step false h ih = ih (omega arith)

  value-block : (at : Option ℕ) (ms xs : List (ℕ × L)) (id : ℕ) → times_leaf ms id ≡ 0 → value_at (put_block xs at ms) id ≡ value_at xs id
  value-block None ms xs id h = value-behind ms xs id h
  value-block (Some at) ms [] id h = refl
  value-block (Some at) ms (x ∷ xs) id h = step (nat_eq x.0 at) (value-block (Some at) ms xs id h)
    where
      step : (b : Bool) → value_at (put_block_after xs at ms) id ≡ value_at xs id
          → value_at (cond b (x ∷ (ms ++ put_block_after xs at ms)) (x ∷ put_block_after xs at ms)) id
          ≡ cond (nat_eq x.0 id) (Some x.1) (value_at xs id)
      step true ih = ap (cond (nat_eq x.0 id) (Some x.1)) (value-behind ms (put_block_after xs at ms) id h ∙ ih)
      step false ih = ap (cond (nat_eq x.0 id) (Some x.1)) ih

  value-without : (xs : List (ℕ × L)) (b id : ℕ) → b ≢ id → value_at (without_leaf xs b) id ≡ value_at xs id
  value-without [] b id d = refl
  value-without (x ∷ xs) b id d = step (nat_eq x.0 b) refl (value-without xs b id d)
    where
      step : (c : Bool) → nat_eq x.0 b ≡ c → value_at (without_leaf xs b) id ≡ value_at xs id
          → value_at (cond c (without_leaf xs b) (x ∷ without_leaf xs b)) id ≡ cond (nat_eq x.0 id) (Some x.1) (value_at xs id)
      step true e ih =
          let same : x.0 ≡ b = grind (arith, nat_tests) in
          ih ∙ sym (ap (λ c. cond c (Some x.1) (value_at xs id)) (ne_eqb x.0 id (λ w. d (sym same ∙ w))))
      step false e ih = ap (cond (nat_eq x.0 id) (Some x.1)) ih

  value-without_all : (ms xs : List (ℕ × L)) (id : ℕ) → times_leaf ms id ≡ 0 → value_at (without_all (ids ms) xs) id ≡ value_at xs id
  value-without_all [] xs id h = refl
  value-without_all (m ∷ ms) xs id h = step (nat_eq m.0 id) refl h (value-without_all ms xs id)
    where
      step : (b : Bool) → nat_eq m.0 id ≡ b → cond b 1 0 + times_leaf ms id ≡ 0
          → (times_leaf ms id ≡ 0 → value_at (without_all (ids ms) xs) id ≡ value_at xs id)
          → value_at (without_leaf (without_all (ids ms) xs) m.0) id ≡ value_at xs id
      step true e h ih = absurd (omega arith)
      step false e h ih = value-without (without_all (ids ms) xs) m.0 id
          (λ w. (let here : nat_eq m.0 id ≡ true = grind (arith, nat_tests) in cc)) ∙ ih (omega arith)

  -- ---- the moves of one stage

  -- the leaves that pass the test were moved behind `at`, but for those of the nodes `rest`, which stand before the others
  pub record MovesBlock (t : ℕ × L → Bool) (xs : List (ℕ × L)) (at : Option ℕ) (rest : List ℕ) (now : List (ℕ × L)) : Type 0 where
    pub front : List (ℕ × L)
    pub back : List (ℕ × L)
    pub split : filter t xs ≡ front ++ back
    pub nodes : ids front ≡ rest
    pub leaves : now ≡ put_block (without_all (ids back) xs) at back
    pub times : (z : ℕ) → times_leaf now z ≡ times_leaf xs z

  -- none was moved
  pub moves_first : (t : ℕ × L → Bool) (xs : List (ℕ × L)) (at : Option ℕ) → MovesBlock t xs at (ids (filter t xs)) xs
  moves_first t xs at = record {
    front = filter t xs;
    back = [];
    split = sym (append-nil (filter t xs));
    nodes = refl;
    leaves = sym (put_block-none at xs);
    times = λ z. refl;
  }

  -- all were
  pub moves_all : (t : ℕ × L → Bool) (xs : List (ℕ × L)) (at : Option ℕ) (now : List (ℕ × L)) → ((i : ℕ) → times_leaf xs i ≤ 1)
      → MovesBlock t xs at [] now
      → now ≡ put_block (filter (λ x. not (t x)) xs) at (filter t xs)
  moves_all t xs at now once m =
      let none : m.front ≡ [] = empty m.front m.nodes in
      let all : filter t xs ≡ m.back = m.split ∙ ap (λ fs. fs ++ m.back) none in
      m.leaves ∙ ap (λ bs. put_block (without_all (ids bs) xs) at bs) (sym all)
      ∙ ap (λ ys. put_block ys at (filter t xs)) (without-filter t xs once)
    where
      empty : (fs : List (ℕ × L)) → ids fs ≡ [] → fs ≡ []
      empty [] e = refl
      empty (f ∷ fs) e = absurd cc

  ids-none : (fs : List (ℕ × L)) → ids fs ≡ [] → fs ≡ []
  ids-none [] e = refl
  ids-none (f ∷ fs) e = absurd cc

  -- the last of the leaves
  record EndsWith (fs : List (ℕ × L)) (rest : List ℕ) (b : ℕ) : Type 0 where
    pub before : List (ℕ × L)
    pub value : L
    pub is : fs ≡ before ++ (b, value) ∷ []
    pub nodes : ids before ≡ rest

  ends_with : (fs : List (ℕ × L)) (rest : List ℕ) (b : ℕ) → ids fs ≡ rest ++ b ∷ [] → EndsWith fs rest b
  ends_with [] [] b e = absurd cc
  ends_with [] (r ∷ rest) b e = absurd cc
  ends_with (f ∷ fs) [] b e =
      let none : ids fs ≡ [] = cc in
      let node : f.0 ≡ b = cc in
      record {
        before = [];
        value = f.1;
        is = ap (λ gs. f ∷ gs) (ids-none fs none) ∙ ap (λ (n : ℕ). (n, f.1) ∷ []) node;
        nodes = refl;
      }
  ends_with (f ∷ fs) (r ∷ rest) b e =
      let tail : ids fs ≡ rest ++ b ∷ [] = cc in
      let node : f.0 ≡ r = cc in
      let end = ends_with fs rest b tail in
      record {
        before = f ∷ end.before;
        value = end.value;
        is = ap (λ gs. f ∷ gs) end.is;
        nodes = ap (λ n. n ∷ ids end.before) node ∙ ap (λ ns. r ∷ ns) end.nodes;
      }

  -- one more is moved
  pub record MovesNext (t : ℕ × L → Bool) (xs : List (ℕ × L)) (at : Option ℕ) (rest : List ℕ) (b : ℕ) (now : List (ℕ × L)) : Type 0 where
    pub live : IsLeafIn now b
    pub place : IsPlaceIn (without_leaf now b) at
    pub after : MovesBlock t xs at rest (move_leaf now b at (value_at now b))

  pub moves_next : (t : ℕ × L → Bool) (xs : List (ℕ × L)) (at : Option ℕ) (rest : List ℕ) (b : ℕ) (now : List (ℕ × L))
      → ((i : ℕ) → times_leaf xs i ≤ 1)
      → IsPlaceIn xs at → IsApart (filter t xs) at → MovesBlock t xs at (rest ++ b ∷ []) now → MovesNext t xs at rest b now
  moves_next t xs at rest b now once there apart m =
      let end = ends_with m.front rest b m.nodes in
      let v = end.value in
      let split : filter t xs ≡ end.before ++ (b, v) ∷ m.back =
      m.split ∙ ap (λ fs. fs ++ m.back) end.is ∙ append_assoc end.before ((b, v) ∷ []) m.back in
      let value : value_at xs b ≡ Some v = value-filtered t xs end.before m.back b v once split in
      let own : cond (nat_eq b b) 1 0 ≡ 1 = ap {B = ℕ} (λ c. cond c 1 0) (own-node (b, v)) in
      let counts : times_leaf (filter t xs) b ≡ times_leaf end.before b + (cond (nat_eq b b) 1 0 + times_leaf m.back b) =
      ap (λ fs. times_leaf fs b) split ∙ times-append end.before ((b, v) ∷ m.back) b in
      let gone : times_leaf m.back b ≡ 0 = omega (arith, counts, own, fewer t xs b, once b) in
      let live : IsLeafIn now b = omega (arith, m.times b, value-live xs b v value) in
      let once_now : (i : ℕ) → times_leaf now i ≤ 1 = λ i. omega (arith, m.times i, once i) in
      let value_now : value_at now b ≡ Some v =
      ap (λ ls. value_at ls b) m.leaves ∙ value-block at m.back (without_all (ids m.back) xs) b gone ∙ value-without_all m.back xs b gone
      ∙ value in
      let other : at ≢ Some b = (λ e. no_place at e apart (omega (arith, counts, own))) in
      let place : IsPlaceIn (without_leaf now b) at = stays at there other live in
      record {
        live = live;
        place = place;
        after = record {
          front = end.before;
          back = (b, v) ∷ m.back;
          split = split;
          nodes = end.nodes;
          leaves = ap (move_leaf now b at) value_now ∙ moves_block xs now (ids m.back) at m.back b v m.leaves gone other
              (apart_back at apart);
          times = λ z. times-moved now b at v z once_now live value_now place ∙ m.times z;
        };
      }
    where
      no_place : (o : Option ℕ) → o ≡ Some b → IsApart (filter t xs) o → 1 ≤ times_leaf (filter t xs) b → ⊥
      no_place None e a h = absurd cc
      no_place (Some i) e a h = let same : i ≡ b = cc in let n = ap (times_leaf (filter t xs)) same in omega (arith, a, h, n)

      stays : (o : Option ℕ) → IsPlaceIn xs o → o ≢ Some b → IsLeafIn now b → IsPlaceIn (without_leaf now b) o
      stays None there d live = tt
      stays (Some i) there d live =
          let one : times_leaf now b ≡ 1 = omega (arith, live, m.times b, once b) in
          let apart : same b i ≡ 0 = ap {B = ℕ} (λ c. cond c 1 0) (ne_eqb b i (λ e. d (ap Some (sym e)))) in
          omega (arith, times-without-one now b i one, m.times i, there, apart)

      apart_back : (o : Option ℕ) → IsApart (filter t xs) o → IsApart m.back o
      apart_back None a = tt
      apart_back (Some i) a =
          let counts : times_leaf (filter t xs) i ≡ times_leaf m.front i + times_leaf m.back i = ap (λ fs. times_leaf fs i) m.split
          ∙ times-append m.front m.back i in
          omega (arith, counts, a)

-- ---- where they go

module _ {C U : Type 0} (units : C → List U) (k : ℕ) where
  abbrev see : ℕ × TreeLeaf C → Bool
  see x = seen_by leaf_stamps k x

  abbrev size : ℕ × TreeLeaf C → ℕ
  size x = length (units x.1.content)

  abbrev Filled : List (ℕ × TreeLeaf C) → Type 0
  Filled xs = All (λ x. 1 ≤ length (units x.1.content)) xs

  abbrev found_leaf : Option Found → Option ℕ
  found_leaf o = option_and_then (λ found. found.leaf) o

  some-size : (q : ℕ) (xs : List (ℕ × TreeLeaf C)) → Filled xs → suc q ≤ len see xs → 1 ≤ seen_size units k (suc q) xs
  some-size q [] some h = absurd (omega arith)
  some-size q (x ∷ xs) some h = step (see x) h (some-size q xs (All-tail (λ x. 1 ≤ length (units x.1.content)) x xs some))
    where
      first : 1 ≤ size x
      first = All-head (λ x. 1 ≤ length (units x.1.content)) x xs some

      step : (b : Bool) → suc q ≤ one_more_if b (len see xs) → (suc q ≤ len see xs → 1 ≤ seen_size units k (suc q) xs)
          → 1 ≤ cond b (size x + seen_size units k q xs) (seen_size units k (suc q) xs)
      step true h ih = omega (arith, first)
      step false h ih = ih h

  -- the leaf that a search finds for the elements of the first seen leaves is the last of these
  found_node : (q p : ℕ) (last : Option ℕ) (xs : List (ℕ × TreeLeaf C)) → Filled xs → suc q ≤ len see xs → p ≡ seen_size units k (suc q) xs
      → found_leaf (place_from (leaf_length units (Stage k)) xs p) ≡ seen_node see (suc q) last xs
  found_node q p last [] some h e = absurd (omega arith)
  found_node zero p last (x ∷ xs) some h e =
      step (see x) (nat_le p (leaf_length units (Stage k) x.1)) refl refl h e (λ r g i. found_node zero r last xs tail g i)
      (some-size zero xs tail)
    where
      tail : Filled xs
      tail = All-tail (λ x. 1 ≤ length (units x.1.content)) x xs some

      asked : Found
      asked = record { leaf = Some x.0; offset = p }

      step : (b t : Bool) → see x ≡ b → nat_le p (cond (see x) (size x) 0) ≡ t → 1 ≤ one_more_if b (len see xs) → p
          ≡ cond b (size x + 0) (seen_size units k 1 xs)
          → ((r : ℕ) → 1 ≤ len see xs → r ≡ seen_size units k 1 xs → found_leaf (place_from (leaf_length units (Stage k)) xs r)
          ≡ seen_node see 1 last xs)
          → (1 ≤ len see xs → 1 ≤ seen_size units k 1 xs)
          → found_leaf (cond t (Some asked) (place_from (leaf_length units (Stage k)) xs (p - cond (see x) (size x) 0)))
          ≡ cond b (Some x.0) (seen_node see 1 last xs)
      step true true b t h e ih many = refl
      step true false b t h e ih many =
          let whole : cond (see x) (size x) 0 ≡ size x = ap {B = ℕ} (λ c. cond c (size x) 0) b in
          absurd (let le : nat_le p (cond (see x) (size x) 0) ≡ true = grind (arith, nat_tests, whole, e) in cc)
      step false true b t h e ih many =
          let none : cond (see x) (size x) 0 ≡ 0 = ap {B = ℕ} (λ c. cond c (size x) 0) b in
          let le : p ≤ cond (see x) (size x) 0 = grind (arith, nat_tests) in
          absurd (omega (arith, le, none, e, many h))
      step false false b t h e ih many =
          let none : cond (see x) (size x) 0 ≡ 0 = ap {B = ℕ} (λ c. cond c (size x) 0) b in
          ih (p - cond (see x) (size x) 0) h (omega (arith, none, e))
  found_node (suc q) p last (x ∷ xs) some h e =
      step (see x) (nat_le p (leaf_length units (Stage k) x.1)) refl refl h e (λ r g i. found_node q r (Some x.0) xs tail g i)
      (λ r g i. found_node (suc q) r last xs tail g i)
      (some-size q xs tail) (some-size (suc q) xs tail)
    where
      tail : Filled xs
      tail = All-tail (λ x. 1 ≤ length (units x.1.content)) x xs some

      asked : Found
      asked = record { leaf = Some x.0; offset = p }

      step : (b t : Bool) → see x ≡ b → nat_le p (cond (see x) (size x) 0) ≡ t → suc (suc q) ≤ one_more_if b (len see xs)
          → p ≡ cond b (size x + seen_size units k (suc q) xs) (seen_size units k (suc (suc q)) xs)
          → ((r : ℕ) → suc q ≤ len see xs → r ≡ seen_size units k (suc q) xs → found_leaf (place_from (leaf_length units (Stage k)) xs r)
          ≡ seen_node see (suc q) (Some x.0) xs)
          → ((r : ℕ) → suc (suc q) ≤ len see xs → r ≡ seen_size units k (suc (suc q)) xs
          → found_leaf (place_from (leaf_length units (Stage k)) xs r) ≡ seen_node see (suc (suc q)) last xs)
          → (suc q ≤ len see xs → 1 ≤ seen_size units k (suc q) xs) → (suc (suc q) ≤ len see xs → 1 ≤ seen_size units k (suc (suc q)) xs)
          → found_leaf (cond t (Some asked) (place_from (leaf_length units (Stage k)) xs (p - cond (see x) (size x) 0)))
          ≡ cond b (seen_node see (suc q) (Some x.0) xs) (seen_node see (suc (suc q)) last xs)
      step true true b t h e f g m n =
          let whole : cond (see x) (size x) 0 ≡ size x = ap {B = ℕ} (λ c. cond c (size x) 0) b in
          let le : p ≤ cond (see x) (size x) 0 = grind (arith, nat_tests) in
          absurd (omega (arith, le, whole, e, m (omega arith)))
      step true false b t h e f g m n =
          let whole : cond (see x) (size x) 0 ≡ size x = ap {B = ℕ} (λ c. cond c (size x) 0) b in
          f (p - cond (see x) (size x) 0) (omega arith) (omega (arith, whole, e))
      step false true b t h e f g m n =
          let none : cond (see x) (size x) 0 ≡ 0 = ap {B = ℕ} (λ c. cond c (size x) 0) b in
          let le : p ≤ cond (see x) (size x) 0 = grind (arith, nat_tests) in
          absurd (omega (arith, le, none, e, n h))
      step false false b t h e f g m n =
          let none : cond (see x) (size x) 0 ≡ 0 = ap {B = ℕ} (λ c. cond c (size x) 0) b in
          g (p - cond (see x) (size x) 0) h (omega (arith, none, e))

  pub find_node : (q p : ℕ) (xs : List (ℕ × TreeLeaf C)) → Filled xs → q ≤ len see xs → p ≡ seen_size units k q xs
      → found_leaf (place_by (leaf_length units (Stage k)) xs p) ≡ seen_node see q None xs
  find_node zero p xs some h e =
      let head : Found = record { leaf = None; offset = 0 } in
      let none : nat_eq p 0 ≡ true = grind (arith, nat_tests) in
      ap (λ b. found_leaf (cond b (Some head) (place_from (leaf_length units (Stage k)) xs p))) none
  find_node (suc q) p xs some h e =
      let head : Found = record { leaf = None; offset = 0 } in
      let many : 1 ≤ p = omega (arith, e, some-size q xs some h) in
      let other : nat_eq p 0 ≡ false = ne_eqb p 0 (λ z. (omega (arith, z, many))) in
      ap (λ b. found_leaf (cond b (Some head) (place_from (leaf_length units (Stage k)) xs p))) other ∙ found_node q p None xs some h e

-- ---- one stage

suc-pred : (k : ℕ) → 1 ≤ k → suc (k - 1) ≡ k
suc-pred k h = omega arith

module _ {C : Type 0} (k : ℕ) (some : 1 ≤ k) (xs : List (ℕ × TreeLeaf C)) (once : (i : ℕ) → times_leaf xs i ≤ 1) where
  abbrev before : ℕ × TreeLeaf C → Bool
  before x = seen_by leaf_stamps (k - 1) x

  abbrev own : ℕ × TreeLeaf C → Bool
  own x = inserted_by leaf_stamps k x

  unseen-own : (x : ℕ × TreeLeaf C) → own x ≡ true → before x ≡ false
  unseen-own x e = unseen leaf_stamps (k - 1) x (ap (λ j. inserted_by leaf_stamps j x) (suc-pred k some) ∙ e)

  -- where the leaves of the stage go there is a leaf that is none of them, or the head
  pub stage_place : (q : ℕ) (at : Option ℕ) → at ≡ seen_node before q None xs → IsPlaceIn xs at × IsApart (filter own xs) at
  stage_place zero at e = subst (λ o. IsPlaceIn xs o × IsApart (filter own xs) o) (sym e) (tt, tt)
  stage_place (suc q) at e = subst (λ o. IsPlaceIn xs o × IsApart (filter own xs) o) (sym e)
      (by_node (seen_node before (suc q) None xs) refl)
    where
      by_node : (o : Option ℕ) → seen_node before (suc q) None xs ≡ o → IsPlaceIn xs o × IsApart (filter own xs) o
      by_node None g = (tt, tt)
      by_node (Some id) g = (node-in before q None xs id g, node-apart before own unseen-own q None xs id once g)

  -- after all of them were moved
  pub stage_moved : (q : ℕ) (at : Option ℕ) (now : List (ℕ × TreeLeaf C)) → q ≤ len before xs → at ≡ seen_node before q None xs
      → MovesBlock own xs at [] now
      → now ≡ moved_stage leaf_stamps (k - 1) q xs
  stage_moved q at now fits e m =
      let others = filter (λ x. not (own x)) xs in
      let left_out : (x : ℕ × TreeLeaf C) → not (own x) ≡ false → before x ≡ false = λ x h. unseen-own x (unnot (own x) h) in
      let same : len before others ≡ len before xs =
      sym (len-filter before others) ∙ ap length (filter-twice before (λ x. not (own x)) left_out xs) ∙ len-filter before xs in
      let once_others : (i : ℕ) → times_leaf others i ≤ 1 = λ i. omega (arith, fewer (λ x. not (own x)) xs i, once i) in
      moves_all own xs at now once m
      ∙ ap (λ o. put_block others o (filter own xs)) (e ∙ sym (node-filter before (λ x. not (own x)) left_out q None xs))
      ∙ sym (put-block before (filter own xs) q others once_others (omega (arith, fits, same)))
      ∙ ap (λ j. put before no_run q (filter (inserted_by leaf_stamps j) xs) (filter (λ x. not (inserted_by leaf_stamps j x)) xs))
      (sym (suc-pred k some))
    where
      unnot : (b : Bool) → not b ≡ false → b ≡ true
      unnot true h = refl
      unnot false h = cc
