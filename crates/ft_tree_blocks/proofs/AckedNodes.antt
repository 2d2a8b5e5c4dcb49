-- The acknowledgement of a stage node by node: what is done, and what is to be done.
use Rattle.std.proofs.Common.{◌≡◌, ◌≢◌, ℕ, zero, suc, ◌+◌, ◌<◌, ◌≤◌, All, Bool, true, false, cond, not, ◌||◌, List, [], ◌∷◌, inl, inr, map, length, IsSomeAnd, get_or, Option, Some, refl, subst, sym, ◌∙◌, ap, arith, nat_eq}
use Rattle.std.proofs.lemmas.Bool.{cases_eq, cond-false, eq-eqb, ne_eqb}
use Rattle.std.proofs.lemmas.List.Elements.{All-filter, All-head, All-tail}
use Rattle.ft_arena.proofs.IdLemmas.{same_refl}
use Rattle.ft_base.specs.declared.stamps.Stamp.{Stamp}
use Rattle.ft_base.specs.Visibility.{is_of_stage}
use Rattle.ft_block.specs.Leaves.{change_leaf, times_leaf, value_at}
use Rattle.ft_tree_leaves.specs.declared.leaves.TreeLeaf.{TreeLeaf}
use Rattle.ft_tree_leaves.specs.Edits.{is_marked_by, is_touched_by}
use Rattle.ft_tree_leaves.specs.Elements.{IsLowestChange}
use Rattle.ft_tree_leaves.specs.LeafChanges.{acked_leaf, acked_pair}
use Rattle.ft_tree_leaves.specs.LeafLists.{elements, leaf_elements}
use Rattle.ft_tree_leaves.proofs.RangeLeaves.{front_all, leaf_overlay, rear_all}
use Rattle.ft_tree_blocks.specs.Touched.{HaveAllOf, holds}
use Rattle.ft_tree_blocks.proofs.Acknowledged.{acked_stays, neither}
use Rattle.ft_tree_blocks.proofs.StepValues.{is_live, is_some, mapped, value-change}
use Rattle.ft_tree_blocks.proofs.TrackedSteps.{acked_untouched}

module _ {L : Type 0} where
  -- a leaf of the rest has the value there that it has in the whole list
  pub of_rest : (x : ℕ × L) (xs : List (ℕ × L)) (z : ℕ) (v : L) → times_leaf (x ∷ xs) x.0 ≤ 1 → value_at xs z ≡ Some v → value_at (x ∷ xs) z ≡ Some v
  of_rest x xs z v once e =
      let live = is_live xs z (is_some (value_at xs z) v e) in
      cond-false (nat_eq x.0 z) _ _ (ne_eqb x.0 z (λ same. omega (arith, once, ap (times_leaf xs) same, same_refl x.0, live))) ∙ e

  pub of_first : (x : ℕ × L) (xs : List (ℕ × L)) → value_at (x ∷ xs) x.0 ≡ Some x.1
  of_first x xs = ap (λ b. cond b (Some x.1) (value_at xs x.0)) (eq-eqb x.0 x.0 refl)

-- a list of nodes
pub holds-rest : (n z : ℕ) (ns : List ℕ) → z ≢ n → holds (n ∷ ns) z ≡ true → holds ns z ≡ true
holds-rest n z ns d h = sym (ap (λ b. b || holds ns z) (ne_eqb n z (λ e. d (sym e)))) ∙ h

or_true : (a : Bool) → (a || true) ≡ true
or_true true = refl
or_true false = refl

holds-get : (ns : List ℕ) (i d : ℕ) → i < length ns → holds ns (get_or ns i d) ≡ true
holds-get [] i d h = absurd (omega arith)
holds-get (n ∷ ns) zero d h = ap (λ b. b || holds ns n) (eq-eqb n n refl)
holds-get (n ∷ ns) (suc i) d h = ap (λ b. nat_eq n (get_or ns i d) || b) (holds-get ns i d (omega arith)) ∙ or_true (nat_eq n (get_or ns i d))

pub all-held : (P : ℕ → Type 0) (ns : List ℕ) → ((z : ℕ) → holds ns z ≡ true → P z) → All P ns
all-held P ns h = λ i d lt. h (get_or ns i d) (holds-get ns i d lt)

-- what holds of the properties of each element holds of those of each leaf
pub lowest_at : {C U : Type 0} (units : C → List U) (by : C → Option Stamp) (k : ℕ) (xs : List (ℕ × TreeLeaf C)) → All (λ x. 1 ≤ length (units x.1.content)) xs
    → All (λ e. IsLowestChange k e.overlay) (elements units by xs) → (z : ℕ) (v : TreeLeaf C) → value_at xs z ≡ Some v → IsLowestChange k v.overlay
lowest_at units by k [] some all z v e = (cc)
lowest_at {C} {U} units by k (x ∷ xs) some all z v e = elim (cases_eq x.0 z) [
  | inl same ↦
      let here : x.1 ≡ v = (let both : Some x.1 ≡ Some v = sym (ap (λ b. cond b (Some x.1) (value_at xs z)) (eq-eqb x.0 z same)) ∙ e in (cc)) in
      subst (λ (w : TreeLeaf C). IsLowestChange k w.overlay) here
      (leaf_overlay units by (IsLowestChange k) x.1 (All-head (λ (y : ℕ × TreeLeaf C). 1 ≤ length (units y.1.content)) x xs some)
      (front_all units by (λ e. IsLowestChange k e.overlay) (leaf_elements units by x.1) (elements units by xs) all))
  | inr d ↦ lowest_at units by k xs (All-tail (λ (y : ℕ × TreeLeaf C). 1 ≤ length (units y.1.content)) x xs some)
      (rear_all units by (λ e. IsLowestChange k e.overlay) (leaf_elements units by x.1) (elements units by xs) all) z v
      (sym (cond-false (nat_eq x.0 z) (Some x.1) (value_at xs z) (ne_eqb x.0 z d)) ∙ e)
]

pub value_and : {L : Type 0} (P : L → Type 0) (o : Option L) (v : L) → o ≡ Some v → P v → IsSomeAnd o P
value_and P o v e h = subst (λ p. IsSomeAnd p P) (sym e) h

module _ {C : Type 0} (stamped : C → ℕ → ℕ → C) (k s c : ℕ) where
  -- a leaf that has nothing of the stage
  pub untouched_stays : (x : TreeLeaf C) → is_touched_by k x ≡ false → acked_leaf stamped k s c x ≡ x
  untouched_stays x h = let n = neither (is_of_stage k x.stamps.ins) (is_marked_by k x) h in acked_stays stamped k s c x n.0 n.1

  -- an acknowledgement of what was acknowledged
  pub acked_twice : (x : TreeLeaf C) → acked_leaf stamped k s c (acked_leaf stamped k s c x) ≡ acked_leaf stamped k s c x
  acked_twice x = untouched_stays (acked_leaf stamped k s c x) (acked_untouched stamped k s c x)

  again_by : (b : Bool) (x : ℕ × TreeLeaf C) (ys zs : List (ℕ × TreeLeaf C)) → map (acked_pair stamped k s c) ys ≡ map (acked_pair stamped k s c) zs
      → map (acked_pair stamped k s c) (cond b ((x.0, acked_leaf stamped k s c x.1) ∷ ys) (x ∷ ys)) ≡ map (acked_pair stamped k s c) (x ∷ zs)
  again_by true x ys zs h =
      ap (λ (v : TreeLeaf C). (x.0, v) ∷ map (acked_pair stamped k s c) ys) (acked_twice x.1)
      ∙ ap (λ us. acked_pair stamped k s c x ∷ us) h
  again_by false x ys zs h = ap (λ us. acked_pair stamped k s c x ∷ us) h

  pub acked-again : (xs : List (ℕ × TreeLeaf C)) (id : ℕ)
      → map (acked_pair stamped k s c) (change_leaf (acked_leaf stamped k s c) xs id) ≡ map (acked_pair stamped k s c) xs
  acked-again [] id = refl
  acked-again (x ∷ xs) id = again_by (nat_eq x.0 id) x (change_leaf (acked_leaf stamped k s c) xs id) xs (acked-again xs id)

  pub times-acked : (xs : List (ℕ × TreeLeaf C)) (z : ℕ) → times_leaf (map (acked_pair stamped k s c) xs) z ≡ times_leaf xs z
  times-acked [] z = refl
  times-acked (x ∷ xs) z = ap (λ n. cond (nat_eq x.0 z) 1 0 + n) (times-acked xs z)

  -- lists that are the same once they are acknowledged have the same nodes
  pub same_times : (xs ys : List (ℕ × TreeLeaf C)) (z : ℕ) → map (acked_pair stamped k s c) xs ≡ map (acked_pair stamped k s c) ys
      → times_leaf xs z ≡ times_leaf ys z
  same_times xs ys z h = sym (times-acked xs z) ∙ ap (λ us. times_leaf us z) h ∙ times-acked ys z

  -- all is done where no leaf has anything of the stage
  pub all_done : (xs : List (ℕ × TreeLeaf C)) → ((i : ℕ) → times_leaf xs i ≤ 1)
      → ((z : ℕ) (v : TreeLeaf C) → value_at xs z ≡ Some v → is_touched_by k v ≡ false)
      → map (acked_pair stamped k s c) xs ≡ xs
  all_done [] once h = refl
  all_done (x ∷ xs) once h =
      ap (λ (v : TreeLeaf C). (x.0, v) ∷ map (acked_pair stamped k s c) xs) (untouched_stays x.1 (h x.0 x.1 (of_first x xs)))
      ∙ ap (λ us. x ∷ us) (all_done xs (λ i. omega (arith, once i)) (λ z v e. h z v (of_rest x xs z v (once x.0) e)))

  -- what is to be done after one more node
  pub rest_of : (xs : List (ℕ × TreeLeaf C)) (id : ℕ) (ns : List ℕ) → HaveAllOf k xs (id ∷ ns) → HaveAllOf k (change_leaf (acked_leaf stamped k s c) xs id) ns
  rest_of xs id ns have z x e t =
      let v = mapped (λ v. cond (nat_eq z id) (acked_leaf stamped k s c v) v) (value_at xs z) x (sym (value-change (acked_leaf stamped k s c) xs id z) ∙ e) in
      elim (cases_eq z id) [
        | inl same ↦
            let here : acked_leaf stamped k s c v.0 ≡ x = sym (ap (λ b. cond b (acked_leaf stamped k s c v.0) v.0) (eq-eqb z id same)) ∙ v.2 in
            let touched : is_touched_by k (acked_leaf stamped k s c v.0) ≡ true = ap (is_touched_by k) here ∙ t in
            let done = acked_untouched stamped k s c v.0 in
            (cc)
        | inr d ↦
            let here : v.0 ≡ x = sym (ap (λ b. cond b (acked_leaf stamped k s c v.0) v.0) (ne_eqb z id d)) ∙ v.2 in
            holds-rest id z ns d (have z v.0 v.1 (ap (is_touched_by k) here ∙ t))
      ]

  lowest_by : (b : Bool) (v : TreeLeaf C) → IsLowestChange k v.overlay → IsLowestChange k (cond b (acked_leaf stamped k s c v) v).overlay
  lowest_by true v h = All-filter (λ p. not (nat_eq p.0 k)) (λ p. k ≤ p.0) v.overlay.pending h
  lowest_by false v h = h

  -- no lower stage comes
  pub lowest_stays : (xs : List (ℕ × TreeLeaf C)) (id : ℕ) → ((z : ℕ) (v : TreeLeaf C) → value_at xs z ≡ Some v → IsLowestChange k v.overlay)
      → (z : ℕ) (x : TreeLeaf C) → value_at (change_leaf (acked_leaf stamped k s c) xs id) z ≡ Some x → IsLowestChange k x.overlay
  lowest_stays xs id low z x e =
      let v = mapped (λ v. cond (nat_eq z id) (acked_leaf stamped k s c v) v) (value_at xs z) x (sym (value-change (acked_leaf stamped k s c) xs id z) ∙ e) in
      subst (λ (w : TreeLeaf C). IsLowestChange k w.overlay) v.2 (lowest_by (nat_eq z id) v.0 (low z v.0 v.1))

  by_test : (b : Bool) → (b ≡ true → false ≡ true) → b ≡ false
  by_test true h = sym (h refl)
  by_test false h = refl

  -- nothing is left
  pub none_left : (xs : List (ℕ × TreeLeaf C)) → HaveAllOf k xs [] → (z : ℕ) (v : TreeLeaf C) → value_at xs z ≡ Some v → is_touched_by k v ≡ false
  none_left xs have z v e = by_test (is_touched_by k v) (λ t. have z v e t)
