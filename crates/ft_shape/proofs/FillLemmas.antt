-- What is left where a tree from which a leaf is taken has no block with too few children any more.
use Rattle.std.proofs.Common.{◌≡◌, ◌≢◌, ◌⊎◌, ℕ, suc, ◌+◌, ◌-◌, ◌^◌, ◌≤◌, ◌<◌, List, [], ◌∷◌, ◌++◌, length, take, drop, slice_get, Option, Some, None, IsSome, refl, sym}
use Rattle.std.proofs.Common.{ap, subst, ◌∙◌, inl, inr, arith}
use Rattle.std.proofs.lemmas.Bool.{cases_eq, cases_lt}
use Rattle.std.proofs.lemmas.List.{take-append-drop}
use Rattle.ft_arena.specs.Ids.{same, times, without}
use Rattle.ft_arena.specs.Forest.{Forest, entry, kids_of, parent_of, block_value, leaf_value}
use Rattle.ft_arena.proofs.IdLemmas.{same_refl, same_other, times-append, times-without_other}
use Rattle.ft_shape.specs.declared.headed.Headed.{Headed}
use Rattle.ft_shape.specs.Tree.{total, height_of, kind_of, Measure, length_of, below, IsApart, SumsBut}
use Rattle.ft_shape.specs.Steps.{DropsRoot, IsPair}
use Rattle.ft_shape.proofs.Lists.{times_at, drop_at}
use Rattle.ft_shape.proofs.Levels.{points_at, points_some, block_from_height, live_from_parent, steps_down, root_high}
use Rattle.ft_shape.proofs.LevelLemmas.{below_same}
use Rattle.ft_shape.proofs.EditLemmas.{some_of, is_some_from, total_same, after_is_edit}
use Rattle.ft_shape.proofs.KindLemmas.{kind_height, kind_live, kind_block, block_live, kind_from_values, length_from_values}
use Rattle.ft_shape.proofs.FitLemmas.{kids_fit}
use Rattle.ft_shape.proofs.TakenLemmas.{apart_part}
use Rattle.ft_shape.proofs.WithoutLemmas.{neighbours, total-without}
use Rattle.ft_shape.proofs.PairLemmas.{block_no_leaf}

pub leaf_no_block : {L S : Type 0} (s : Forest L (Headed S)) (x : ℕ) → IsSome (leaf_value s x) → IsSome (block_value s x) → ⊥
leaf_no_block s x h b = let v = some_of (block_value s x) b in let n = block_no_leaf s x b in cc (n, h)

two_apart : (xs : List ℕ) (i f r : ℕ) → slice_get xs i ≡ Some f → slice_get xs (i + 1) ≡ Some r → times xs f ≡ 1 → f ≢ r
two_apart xs i f r ef er h e =
    let d = drop_at xs i f ef in
    let m : times xs f ≡ times (take i xs) f + times (drop i xs) f = ap (λ zs. times zs f) (sym (take-append-drop i xs)) ∙ times-append (take i xs) (drop i xs) f in
    let d2 = drop_at xs (i + 1) r er in
    omega (arith, h, m, ap (λ zs. times zs f) d, ap (λ zs. times zs f) d2, same_refl f, ap (λ z. same z f) e)

pub rest_once : (xs : List ℕ) (f r : ℕ) → f ≢ r → times xs f ≡ 1 → times (without xs r) f ≡ 1
rest_once xs f r d h = times-without_other xs r f d ∙ h

pub one_of : (g : ℕ → ℕ) (xs : List ℕ) (x : ℕ) → times xs x ≡ 1 → g x ≤ total g xs
one_of g xs x h = omega (arith, total-without g xs x h)

module _ {L S : Type 0} (s : Forest L (Headed S)) (root id block : ℕ) (a : IsApart s root id (Some block)) where
  -- no block has too few children where that one has enough, or is the root
  pub apart_with : ((b : ℕ) → b ≡ block → b ≢ root → 4 ≤ length (kids_of s b)) → IsApart s root id None
  apart_with enough =
      record {
        shape = record {
          forest = a.shape.forest;
          root_is_block = a.shape.root_is_block;
          root_is_top = a.shape.root_is_top;
          one_top = a.shape.one_top;
          low = a.shape.low;
          heights = a.shape.heights;
          high = a.shape.high;
          half_full = λ b h d _. elim (cases_eq b block) [
            | inl e ↦ enough b e d
            | inr n ↦ a.shape.half_full b h d (λ q. n (cc q))
          ];
          root_filled = a.shape.root_filled;
        };
        live = a.live;
        top = a.top;
        leaves = a.leaves;
        filled = λ b e. cc e;
      }

  pub apart_full : 4 ≤ length (kids_of s block) → IsApart s root id None
  apart_full h = apart_with (λ b e _. omega (arith, ap (λ z. length (kids_of s z)) e, h))

  pub apart_root : IsSome (block_value s block) → parent_of s block ≡ None → IsApart s root id None
  apart_root h top =
      let live = block_live (entry s block) h in
      let apart : id ≢ block = (λ e. leaf_no_block s id a.live (subst (λ (z : ℕ). IsSome (block_value s z)) (sym e) h)) in
      let is : block ≡ root = elim (cases_eq block root) [
        | inl e ↦ e
        | inr d ↦ absurd (let b = some_of (parent_of s block) (a.shape.one_top block live d (λ e. apart (cc e))) in cc (b.1, top))
      ] in
      apart_with (λ b e d. absurd (d (e ∙ is)))

  module _ (up : ℕ) (up_is : parent_of s block ≡ Some up) where
    fl_high : height_of s up ≡ height_of s block + 1
    fl_high = a.shape.heights block up up_is

    pub fl_up_block : IsSome (block_value s up)
    fl_up_block = block_from_height (entry s up) (omega (arith, fl_high))

    pub fl_child : 1 ≤ times (kids_of s up) block
    fl_child = omega (arith, a.shape.forest.child_once up block, points_at (parent_of s block) up up_is)

    fl_not_short : Some block ≢ Some up
    fl_not_short e = let q : block ≡ up = cc e in omega (arith, fl_high, ap (height_of s) q)

    -- a block with few children that isn't the short one is the root
    pub fl_root : length (kids_of s up) ≤ 3 → up ≡ root
    fl_root few = elim (cases_eq up root) [
      | inl e ↦ e
      | inr d ↦ absurd (omega (arith, few, a.shape.half_full up fl_up_block d fl_not_short))
    ]

    -- but the root it is half full
    pub fl_up_full : up ≢ root → 4 ≤ length (kids_of s up)
    fl_up_full d = a.shape.half_full up fl_up_block d fl_not_short

    -- its one child is that block
    pub fl_only : (top : ℕ) → kids_of s up ≡ top ∷ [] → block ≡ top
    fl_only top e = elim (cases_eq top block) [
      | inl q ↦ sym q
      | inr d ↦ absurd (omega (arith, fl_child, ap (λ ks. times ks block) e, same_other top block d))
    ]

    -- the short one is one of the two
    pub fl_short : (place i front rear : ℕ) → slice_get (kids_of s up) place ≡ Some block → i ≡ place - 1 → slice_get (kids_of s up) i ≡ Some front
        → slice_get (kids_of s up) (i + 1) ≡ Some rear → (block ≡ front) ⊎ (block ≡ rear)
    fl_short place i front rear e is ef er = elim (cases_lt 0 place) [
      | inl l ↦
          let n : i + 1 ≡ place = omega (arith, is, l) in
          let q : Some block ≡ Some rear = sym e ∙ ap (slice_get (kids_of s up)) (sym n) ∙ er in
          inr (cc q)
      | inr z ↦
          let n : i ≡ place = omega (arith, is, z) in
          let q : Some block ≡ Some front = sym e ∙ ap (slice_get (kids_of s up)) (sym n) ∙ ef in
          inl (cc q)
    ]

    module _ (is_block : IsSome (block_value s block)) where
      pub fl_two : 2 ≤ height_of s up
      fl_two = omega (arith, fl_high, a.shape.high block is_block)

      -- two neighbours among its children
      module _ (i front rear : ℕ) (at_front : slice_get (kids_of s up) i ≡ Some front) (at_rear : slice_get (kids_of s up) (i + 1) ≡ Some rear) where
        pub kid_up : (j x : ℕ) → slice_get (kids_of s up) j ≡ Some x → parent_of s x ≡ Some up
        kid_up j x e = points_some (parent_of s x) up (omega (arith, times_at (kids_of s up) j x e, a.shape.forest.child_once up x))

        pub kid_once : (x : ℕ) → parent_of s x ≡ Some up → times (kids_of s up) x ≡ 1
        kid_once x e = a.shape.forest.child_once up x ∙ points_at (parent_of s x) up e

        kid_block : (x : ℕ) → parent_of s x ≡ Some up → IsSome (block_value s x)
        kid_block x e = block_from_height (entry s x) (omega (arith, a.shape.heights x up e, fl_two))

        pub fl_pair : IsPair s up front rear
        fl_pair =
            let f = kid_up i front at_front in
            let r = kid_up (i + 1) rear at_rear in
            record {
              front_up = f;
              rear_up = r;
              differ = two_apart (kids_of s up) i front rear at_front at_rear (kid_once front f);
              order = neighbours (kids_of s up) i front rear at_front at_rear (kid_once front f) (kid_once rear r);
              heights = a.shape.heights;
              front_block = kid_block front f;
              rear_block = kid_block rear r;
            }

        -- one of the two isn't short
        pub fl_many : 4 ≤ length (kids_of s front) + length (kids_of s rear)
        fl_many =
            let f = kid_up i front at_front in
            let r = kid_up (i + 1) rear at_rear in
            let not_root : (x : ℕ) → parent_of s x ≡ Some up → x ≢ root = λ x e q. cc (ap (parent_of s) q, a.shape.root_is_top, e) in
            elim (cases_eq block front) [
              | inl e ↦ omega (arith, a.shape.half_full rear (kid_block rear r) (not_root rear r) (λ q. fl_pair.differ (let z : block ≡ rear = cc q in sym e ∙ z)))
              | inr d ↦ omega (arith, a.shape.half_full front (kid_block front f) (not_root front f) (λ q. d (cc q)))
            ]

-- the root is gone, whose one child is the root now
module _ {L S : Type 0} (s s' : Forest L (Headed S)) (root id top : ℕ) (a : IsApart s root id (Some top)) (filled : 1 ≤ length (kids_of s top))
    (is_block : IsSome (block_value s top)) (r : DropsRoot s s' root top) where
  dr_top_up : parent_of s top ≡ Some root
  dr_top_up = points_some (parent_of s top) root (omega (arith, a.shape.forest.child_once root top, ap (λ ks. times ks top) r.kids, same_refl top))

  dr_high : height_of s root ≡ height_of s top + 1
  dr_high = a.shape.heights top root dr_top_up

  dr_differ : top ≢ root
  dr_differ = λ e. omega (arith, dr_high, ap (height_of s) e)

  dr_kinds : (x : ℕ) → x ≢ root → kind_of s' x ≡ kind_of s x
  dr_kinds x d = kind_from_values (entry s x) (entry s' x) (r.leaf_values x) (r.block_values x d)

  pub dr_alive : (x : ℕ) → IsSome (entry s' x) → x ≢ root
  dr_alive x h e = let z : IsSome (entry s' root) = subst (λ (y : ℕ). IsSome (entry s' y)) e h in cc (z, r.gone)

  dr_height : (x : ℕ) → x ≢ root → height_of s' x ≡ height_of s x
  dr_height x d = kind_height (entry s x) (entry s' x) (dr_kinds x d)

  dr_was_live : (x : ℕ) → IsSome (entry s' x) → IsSome (entry s x)
  dr_was_live x h = kind_live (entry s' x) (entry s x) (sym (dr_kinds x (dr_alive x h))) h

  dr_was_block : (x : ℕ) → IsSome (block_value s' x) → IsSome (block_value s x)
  dr_was_block x h = kind_block (entry s' x) (entry s x) (sym (dr_kinds x (dr_alive x (block_live (entry s' x) h)))) h

  -- no other child of the root
  dr_only : (x : ℕ) → parent_of s x ≡ Some root → x ≡ top
  dr_only x e = elim (cases_eq x top) [
    | inl q ↦ q
    | inr d ↦ absurd (omega (arith, a.shape.forest.child_once root x, points_at (parent_of s x) root e, ap (λ ks. times ks x) r.kids, same_other top x (λ q. d (sym q))))
  ]

  dr_lower : (x : ℕ) → IsSome (entry s' x) → height_of s x ≤ height_of s top
  dr_lower x h = elim (cases_eq x id) [
    | inl e ↦ omega (arith, ap (height_of s) e, (apart_part s root id (Some top) a).low id refl)
    | inr n ↦
        let b = some_of (parent_of s x) (a.shape.one_top x (dr_was_live x h) (dr_alive x h) (λ e. n (cc e))) in
        let bh = a.shape.heights x b.0 b.1 in
        omega (arith, bh, dr_high, a.shape.low b.0 (block_live (entry s b.0) (block_from_height (entry s b.0) (omega (arith, bh)))))
  ]

  dr_id_not_root : id ≢ root
  dr_id_not_root = λ e. omega (arith, (apart_part s root id (Some top) a).low id refl, ap (height_of s) e, dr_high)

  dr_id_not_top : id ≢ top
  dr_id_not_top = λ e. leaf_no_block s id a.live (subst (λ (z : ℕ). IsSome (block_value s z)) (sym e) is_block)

  pub dropped_apart : IsApart s' top id None
  dropped_apart =
      record {
        shape = record {
          forest = r.forest;
          root_is_block = kind_block (entry s top) (entry s' top) (dr_kinds top dr_differ) is_block;
          root_is_top = r.top_parent;
          one_top = λ x h d n. subst (λ (o : Option ℕ). IsSome o) (sym (r.parents x (dr_alive x h) d)) (a.shape.one_top x (dr_was_live x h) (dr_alive x h) n);
          low = λ x h. omega (arith, dr_height x (dr_alive x h), dr_height top dr_differ, dr_lower x h);
          heights = λ x b e.
              let x_not_top : x ≢ top = (λ q. cc (ap (parent_of s') q, e, r.top_parent)) in
              let x_not_root : x ≢ root = dr_alive x (live_from_parent (entry s' x) b e) in
              let old : parent_of s x ≡ Some b = sym (r.parents x x_not_root x_not_top) ∙ e in
              let b_not_root : b ≢ root = (λ q. x_not_top (dr_only x (old ∙ ap Some q))) in
              omega (arith, dr_height x x_not_root, dr_height b b_not_root, a.shape.heights x b old);
          high = λ b h. omega (arith, dr_height b (dr_alive b (block_live (entry s' b) h)), a.shape.high b (dr_was_block b h));
          half_full = λ b h d _. omega (
            arith,
            ap length (r.other_kids b (dr_alive b (block_live (entry s' b) h))),
            a.shape.half_full b (dr_was_block b h)
                (dr_alive b (block_live (entry s' b) h)) (λ e. d (sym (cc e))),
          );
          root_filled = omega (arith, ap length (r.other_kids top dr_differ), filled);
        };
        live = subst (λ (o : Option L). IsSome o) (sym (r.leaf_values id)) a.live;
        top = r.parents id dr_id_not_root dr_id_not_top ∙ a.top;
        leaves = dr_leaves;
        filled = λ b e. cc e;
      }
    where
      dr_leaves : without s'.leaves id ≡ below s' (height_of s' top) (top ∷ [])
      dr_leaves =
          let h : height_of s root ≡ suc (height_of s top) = omega (arith, dr_high) in
          let down : below s (height_of s root) (root ∷ []) ≡ below s (height_of s top) (top ∷ []) =
          ap (λ (n : ℕ). below s n (root ∷ [])) h ∙ ap (below s (height_of s top)) (ap (λ zs. zs ++ []) r.kids) in
          let same_below : below s' (height_of s top) (top ∷ []) ≡ below s (height_of s top) (top ∷ []) =
          below_same s s' (height_of s top) (height_of s top) (top ∷ []) (steps_down s root (Some id) a.shape) (root_high s top) (omega arith)
          (λ x low _. r.other_kids x (λ e. omega (arith, low, ap (height_of s) e, dr_high))) in
          ap (λ zs. without zs id) r.leaves ∙ a.leaves ∙ down ∙ sym same_below ∙ ap (λ (n : ℕ). below s' n (top ∷ [])) (sym (dr_height top dr_differ))

  pub dropped_low : height_of s' top ≤ height_of s root
  dropped_low = omega (arith, dr_height top dr_differ, dr_high)

  module _ (measure : Measure L S) where
    pub dropped_sums : SumsBut measure s None → SumsBut measure s' None
    dropped_sums sums b h _ =
        let d = dr_alive b (block_live (entry s' b) h) in
        let same_length : (x : ℕ) → x ≢ root → length_of measure s' x ≡ length_of measure s x =
        λ x n. length_from_values measure (entry s x) (entry s' x) (r.leaf_values x) (r.block_values x n) in
        let inside : (x : ℕ) → 1 ≤ times (kids_of s b) x → x ≢ root =
        λ x m e. cc (ap (parent_of s) e, a.shape.root_is_top, points_some (parent_of s x) b (omega (arith, m, a.shape.forest.child_once b x))) in
        same_length b d ∙ sums b (dr_was_block b h) (λ e. cc)
        ∙ sym (total_same (length_of measure s) (length_of measure s') (kids_of s b) (λ x m. same_length x (inside x m)))
        ∙ ap (total (length_of measure s')) (sym (r.other_kids b d))
