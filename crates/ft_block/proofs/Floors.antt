-- The floors of the tables, and the sizes of neighbours, in each step that changes the tree's shape.
use Rattle.std.proofs.Common.{◌≡◌, ℕ, ◌+◌, ◌^◌, ◌<◌, ◌≤◌, List, length, insert, slice_get, Option, Some, None, IsSome, refl, sym, ap, subst, ◌∙◌, inl, inr, arith}
use Rattle.std.proofs.lemmas.Bool.{cases_eq}
use Rattle.ft_base.specs.declared.elements.Element.{Element}
use Rattle.ft_arena.specs.declared.nodes.Node.TheVariants.{Leaf}
use Rattle.ft_arena.specs.Ids.{times, insert_after, without}
use Rattle.ft_arena.specs.Forest.{Forest, Entry, IsForest, Changes, TakesChild, entry, kids_of, parent_of, block_value, leaf_value, block_of_entry, with_block, with_leaf, with_block_entry}
use Rattle.ft_arena.proofs.KidLemmas.{kept}
use Rattle.ft_shape.specs.declared.headed.Headed.{Headed}
use Rattle.ft_shape.specs.Tree.{IsEdit, IsTree, IsApart, IsGrowing, SumsBut, length_of, total}
use Rattle.ft_shape.specs.Steps.{PutsAt, Regroups, IsPair, DropsRoot}
use Rattle.ft_shape.proofs.EditLemmas.{is_some_from, after_is_edit}
use Rattle.ft_shape.proofs.KindLemmas.{block_live}
use Rattle.ft_shape.proofs.FitLemmas.{kids_fit}
use Rattle.ft_shape.proofs.RefreshLemmas.{written_changes}
use Rattle.ft_shape.proofs.InsertLemmas.{in_blocks, ch_blocks}
use Rattle.ft_shape.proofs.UnlinkLemmas.{un_blocks}
use Rattle.ft_shape.proofs.TakenLemmas.{apart_part}
use Rattle.ft_shape.proofs.FillLemmas.{fl_pair, fl_two, fl_up_block, dr_alive, one_of, rest_once, kid_once}
use Rattle.ft_block.specs.declared.summaries.Summary.{Summary}
use Rattle.ft_block.specs.declared.leaves.View.{View}
use Rattle.ft_block.specs.Tree.{AreFromFloor, by_view, by_size}
use Rattle.ft_block.proofs.ViewLemmas.{all_fit}

-- a block is written
module _ {L : Type 0} (floor : ℕ) (s : Forest L (Headed Summary)) (b : ℕ) (v w : Headed Summary) (found : block_value s b ≡ Some v) (from : w.sum.table.floor ≡ floor)
    (all : AreFromFloor floor s) where
  pub written_floors : AreFromFloor floor (with_block s b w)
  written_floors x u e = elim (cases_eq x b) [
    | inl q ↦
        let c = written_changes s b v w found in
        let now : Some u ≡ Some w = sym e ∙ ap (block_value (with_block s b w)) q ∙ ap block_of_entry c.changed ∙ written_value (entry s b) found in
        let is : u ≡ w = cc now in
        omega (arith, ap (λ (z : Headed Summary). z.sum.table.floor) is, from)
    | inr d ↦
        let c = written_changes s b v w found in
        all x u (sym (ap block_of_entry (c.others x d)) ∙ e)
  ]
    where
      written_value : (o : Option (Entry L (Headed Summary))) → block_of_entry o ≡ Some v → block_of_entry (with_block_entry o w) ≡ Some w
      written_value None h = cc
      written_value (Some x) h = refl

-- a node is put among children
module _ {L : Type 0} (s s' : Forest L (Headed Summary)) (root at new p : ℕ) (step : ℕ) (ed : List ℕ → List ℕ) (E : IsEdit step ed at new) (g : IsGrowing s root at new ed)
    (up : parent_of s at ≡ Some p) (place : ℕ) (at_place : insert (kids_of s p) place new ≡ ed (kids_of s p)) where
  pub put_floors : PutsAt s s' p place new → (floor : ℕ) → AreFromFloor floor s → AreFromFloor floor s'
  put_floors r floor all x v e = all x v (sym (r.block_values x) ∙ e)

-- room is made
pub room_floors : {L : Type 0} (s0 s1 : Forest L (Headed Summary)) (room : s1 ≡ record s0 { spare = s1.spare }) (floor : ℕ)
    → AreFromFloor floor s0 → AreFromFloor floor s1
room_floors {L} s0 s1 room floor all = subst (λ (z : Forest L (Headed Summary)). AreFromFloor floor z) (sym room) (λ x v e. all x v e)

-- a leaf is linked
module _ {L : Type 0} (s s' : Forest L (Headed Summary)) (root at id step : ℕ) (ed : List ℕ → List ℕ) (E : IsEdit step ed at id) (leaf : L) (t : IsTree s root)
    (at_leaf : IsSome (leaf_value s at)) (fresh : entry s id ≡ None) (c : Changes s s' id (Some record { node = Leaf leaf; parent = None }))
    (leaves : s'.leaves ≡ ed s.leaves) (forest : IsForest s') where
  pub leaf_floors : (floor : ℕ) → AreFromFloor floor s → AreFromFloor floor s'
  leaf_floors floor all x v e = all x v (sym (in_blocks s s' root at id step ed E leaf t at_leaf fresh c leaves forest x) ∙ e)

-- a leaf changes
module _ {L : Type 0} (s : Forest L (Headed Summary)) (root at : ℕ) (v w : L) (t : IsTree s root) (found : leaf_value s at ≡ Some v) where
  pub changed_floors : (floor : ℕ) → AreFromFloor floor s → AreFromFloor floor (with_leaf s at w)
  changed_floors floor all x u e = all x u (sym (ch_blocks s root at v w t found x) ∙ e)

-- a leaf is cut
module _ {L : Type 0} (s s' : Forest L (Headed Summary)) (root at id : ℕ) (v w rest : L) (t : IsTree s root) (found : leaf_value s at ≡ Some v)
    (fresh : entry (with_leaf s at w) id ≡ None) (c : Changes (with_leaf s at w) s' id (Some record { node = Leaf rest; parent = None }))
    (leaves : s'.leaves ≡ insert_after s.leaves at id) (forest : IsForest s') where
  pub cut_floors : (floor : ℕ) → AreFromFloor floor s → AreFromFloor floor s'
  cut_floors floor all x u e =
      changed_floors s root at v w t found floor all x u (sym (kept block_of_entry (with_leaf s at w) s' id _ c (sym (ap block_of_entry fresh)) x) ∙ e)

-- two neighbours are joined, before the front one is made again
module _ {L : Type 0} (s : Forest L (Headed Summary)) (up front rear : ℕ) (forest : IsForest s) (P : IsPair s up front rear) (s1 s2 s3 : Forest L (Headed Summary))
    (want place : ℕ) (all : want ≡ length (kids_of s front) + length (kids_of s rear)) (r : Regroups s s1 front rear want) (t : TakesChild s1 s2 up (place + 1) rear)
    (c : Changes s2 s3 rear None) where
  pub md_floors : (floor : ℕ) → AreFromFloor floor s → AreFromFloor floor s3
  md_floors floor h x v e = elim (cases_eq x rear) [
    | inl q ↦ let n : None ≡ Some v = sym (ap block_of_entry c.changed) ∙ sym (ap (block_value s3) q) ∙ e in cc n
    | inr d ↦ h x v (sym (ap block_of_entry (c.others x d) ∙ t.block_values x ∙ r.block_values x) ∙ e)
  ]

-- a leaf is taken out of its block
module _ {L : Type 0} (s0 s1 : Forest L (Headed Summary)) (root id p place : ℕ) (t : IsTree s0 root) (live : IsSome (leaf_value s0 id)) (up : parent_of s0 id ≡ Some p)
    (l : s1.leaves ≡ s0.leaves) (forest : IsForest s1) (found : slice_get (kids_of s0 p) place ≡ Some id) (r : TakesChild s0 s1 p place id) (many : 2 ≤ length s0.leaves)
  where
    pub taken_floors : (floor : ℕ) → AreFromFloor floor s0 → AreFromFloor floor s1
    taken_floors floor all x v e = all x v (sym (r.block_values x) ∙ e)

-- a leaf leaves the list
module _ {L : Type 0} (s s' : Forest L (Headed Summary)) (root id : ℕ) (value : L) (a : IsApart s root id None) (forest : IsForest s') (is : leaf_value s id ≡ Some value)
    (l : s'.leaves ≡ without s.leaves id) (c : Changes s s' id None) where
  pub unlinked_floors : (floor : ℕ) → AreFromFloor floor s → AreFromFloor floor s'
  unlinked_floors floor all x v e = all x v (sym (un_blocks s s' root id value a forest is l c x) ∙ e)

-- the root goes
module _ {L : Type 0} (s s' : Forest L (Headed Summary)) (root id top : ℕ) (a : IsApart s root id (Some top)) (filled : 1 ≤ length (kids_of s top))
    (is_block : IsSome (block_value s top)) (r : DropsRoot s s' root top) where
  pub dropped_floors : (floor : ℕ) → AreFromFloor floor s → AreFromFloor floor s'
  dropped_floors floor all x v e =
      all x v (sym (r.block_values x (dr_alive s s' root id top a filled is_block r x (block_live (entry s' x) (is_some_from (block_value s' x) v e)))) ∙ e)

-- the lengths of two neighbours fit together
module _ {L : Type 0} (s : Forest L (Headed Summary)) (root id block : ℕ) (a : IsApart s root id (Some block)) (up : ℕ) (up_is : parent_of s block ≡ Some up)
    (is_block : IsSome (block_value s block)) (i front rear : ℕ) (at_front : slice_get (kids_of s up) i ≡ Some front) (at_rear : slice_get (kids_of s up) (i + 1) ≡ Some rear)
    (size : L → ℕ) (element : L → Element) (view : View) (sums : SumsBut (by_view size element view) s None) (fits : total (length_of (by_size size) s) s.leaves < 2 ^ 64) where
  -- the two fit, as all children of the block do
  pub fl_fits : length_of (by_view size element view) s front + length_of (by_view size element view) s rear < 2 ^ 64
  fl_fits =
      let f : ℕ → ℕ = length_of (by_view size element view) s in
      let p = apart_part s root id (Some block) a in
      let pair = fl_pair s root id block a up up_is is_block i front rear at_front at_rear in
      let once : times (without (kids_of s up) rear) front ≡ 1 =
      rest_once (kids_of s up) front rear pair.differ (kid_once s root id block a up up_is is_block i front rear at_front at_rear front pair.front_up) in
      let whole : total f (kids_of s up) ≡ total f (without (kids_of s up) rear) + f rear =
      ap (total f) (sym pair.order) ∙ (after_is_edit front rear).totals f (without (kids_of s up) rear) once in
      omega (
        arith,
        whole,
        one_of f (without (kids_of s up) rear) front once,
        kids_fit (by_view size element view) s root (Some id) a.shape up (fl_up_block s root id block a up up_is)
            (λ y l e. omega (arith, l, p.low y e, fl_two s root id block a up up_is is_block)) (λ k h l. sums k h (λ e. cc)),
        p.part f,
        all_fit size element view s a.shape.forest,
        fits,
      )
